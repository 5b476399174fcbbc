-- Worked rows of the definitions, each computed.
use Rattle.std.specs.Prelude.{◌≡◌, ℕ, List, [], ◌∷◌, refl}
use Rattle.wp_task.specs.Set.{set_of}
use Rattle.wp_task.specs.Task.{PlanningTask}
use Rattle.wp_ladder.specs.Trimmed.{trimmed, without_step}

-- a chain: a gives b, b gives c and takes a away
abbrev chain : List ℕ → PlanningTask
chain goals = record {
  atoms = 3;
  init = set_of (0 ∷ []) 3;
  goals = goals;
  acts = record { pre = 0 ∷ []; add = 1 ∷ []; del = [] } ∷ record { pre = 1 ∷ []; add = 2 ∷ []; del = 0 ∷ [] } ∷ [];
}

-- a step that is there twice is needed once
chain_twice : trimmed (chain (2 ∷ [])) (0 ∷ 0 ∷ 1 ∷ []) ≡ 0 ∷ 1 ∷ []
chain_twice = refl

-- nothing falls
chain_all_needed : trimmed (chain (2 ∷ [])) (0 ∷ 1 ∷ []) ≡ 0 ∷ 1 ∷ []
chain_all_needed = refl

-- without its first step no step is left
chain_without : without_step (chain (2 ∷ [])) (0 ∷ 1 ∷ []) 0 ≡ []
chain_without = refl

-- a later step falls with the one that it rests on
chain_falls : trimmed (chain (0 ∷ [])) (0 ∷ 0 ∷ []) ≡ []
chain_falls = refl

-- without goals no step is needed
chain_no_goals : trimmed (chain []) (0 ∷ 1 ∷ []) ≡ []
chain_no_goals = refl

chain_nothing : trimmed (chain []) [] ≡ []
chain_nothing = refl

-- two ways to a door (atoms: home, street, key, door): the walk takes the key along that the door does not need
abbrev walk : PlanningTask
walk = record {
  atoms = 4;
  init = set_of (0 ∷ []) 4;
  goals = 3 ∷ [];
  acts =
      record { pre = 0 ∷ []; add = 1 ∷ []; del = [] }
      ∷ record { pre = 0 ∷ []; add = 2 ∷ []; del = [] }
      ∷ record { pre = 2 ∷ []; add = 0 ∷ []; del = [] }
      ∷ record { pre = 1 ∷ []; add = 3 ∷ []; del = 1 ∷ [] }
      ∷ [];
}

-- the second step is left out, and the third, that rests on it, falls with it
walk_falls_with : without_step walk (0 ∷ 1 ∷ 2 ∷ 3 ∷ []) 1 ≡ 0 ∷ 3 ∷ []
walk_falls_with = refl

walk_trimmed : trimmed walk (0 ∷ 1 ∷ 2 ∷ 3 ∷ []) ≡ 0 ∷ 3 ∷ []
walk_trimmed = refl

-- a lamp that burns (atoms: burns, match): to take a match, to blow the lamp out, to light it with the match
abbrev lamp : PlanningTask
lamp = record {
  atoms = 2;
  init = set_of (0 ∷ []) 2;
  goals = 0 ∷ [];
  acts =
      record { pre = []; add = 1 ∷ []; del = [] }
      ∷ record { pre = []; add = []; del = 0 ∷ [] }
      ∷ record { pre = 1 ∷ []; add = 0 ∷ []; del = [] }
      ∷ [];
}

-- one pass is not all: without the match the lamp would stay dark, so that step is kept; then the other two go
lamp_trimmed : trimmed lamp (0 ∷ 1 ∷ 2 ∷ []) ≡ 0 ∷ []
lamp_trimmed = refl

lamp_again : trimmed lamp (trimmed lamp (0 ∷ 1 ∷ 2 ∷ [])) ≡ []
lamp_again = refl
