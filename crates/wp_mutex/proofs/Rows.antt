-- Worked rows of the definitions, each computed.
use Rattle.std.specs.Prelude.{◌≡◌, true, false, List, [], ◌∷◌, refl}
use Rattle.wp_task.specs.declared.acts.Act.{Act}
use Rattle.wp_mutex.specs.PossiblePairs.{possible_pairs, joins}

-- an action that takes its precondition away and adds the other atom: the two are never true together
abbrev twins : List Act
twins = record { pre = 0 ∷ []; add = 1 ∷ []; del = 0 ∷ [] } ∷ record { pre = 0 ∷ []; add = 1 ∷ []; del = 0 ∷ [] } ∷ []

twins_pairs : possible_pairs twins (true ∷ false ∷ []) ≡ (true ∷ []) ∷ (false ∷ true ∷ []) ∷ []
twins_pairs = refl

-- a chain of three places: at most one of them is true
abbrev walk : List Act
walk =
    record { pre = 0 ∷ []; add = 1 ∷ []; del = 0 ∷ [] }
    ∷ record { pre = 1 ∷ []; add = 2 ∷ []; del = 1 ∷ [] }
    ∷ []

walk_pairs : possible_pairs walk (true ∷ false ∷ false ∷ []) ≡
    (true ∷ []) ∷ (false ∷ true ∷ []) ∷ (false ∷ false ∷ true ∷ []) ∷ []
walk_pairs = refl

-- a chain that keeps its first atom: 0 and 1 are true together, and 2 follows where 0 is taken
abbrev chain : List Act
chain = record { pre = 0 ∷ []; add = 1 ∷ []; del = [] } ∷ record { pre = 1 ∷ []; add = 2 ∷ []; del = 0 ∷ [] } ∷ []

chain_pairs : possible_pairs chain (true ∷ false ∷ false ∷ []) ≡
    (true ∷ []) ∷ (true ∷ true ∷ []) ∷ (false ∷ true ∷ true ∷ []) ∷ []
chain_pairs = refl

-- pairs have no order
same_pair : joins (possible_pairs chain (true ∷ false ∷ false ∷ [])) 0 1 ≡ joins (possible_pairs chain (true ∷ false ∷ false ∷ [])) 1 0
same_pair = refl

-- an action whose preconditions are never true together makes nothing possible
abbrev never : List Act
never =
    record { pre = []; add = 0 ∷ []; del = 1 ∷ [] }
    ∷ record { pre = []; add = 1 ∷ []; del = 0 ∷ [] }
    ∷ record { pre = 0 ∷ 1 ∷ []; add = 2 ∷ []; del = [] }
    ∷ []

never_pairs : possible_pairs never (false ∷ false ∷ false ∷ []) ≡
    (true ∷ []) ∷ (false ∷ true ∷ []) ∷ (false ∷ false ∷ false ∷ []) ∷ []
never_pairs = refl
