-- Worked rows of the definitions, each computed.
use Rattle.std.specs.Prelude.{◌≡◌, ◌+◌, ◌-◌, ◌*◌, ◌==◌, ℕ, true, List, [], ◌∷◌, ◌++◌, map, if◌then◌else◌, refl}
use Rattle.std.specs.List.{flat_map, range_with_len}
use Rattle.wp_task.specs.declared.acts.Act.{Act}
use Rattle.wp_task.specs.Set.{set_of}
use Rattle.wp_task.specs.Task.{PlanningTask}
use Rattle.wp_watch.specs.declared.event.Event.{Event}
use Rattle.wp_plain.specs.declared.settings.Search.{Search}
use Rattle.wp_plain.specs.declared.settings.Search.TheVariants.{KBfws, F5}
use Rattle.wp_plain.specs.declared.settings.Settings.{Settings}
use Rattle.wp_plain.specs.declared.ending.Ending.{Ending}
use Rattle.wp_plain.specs.declared.ending.How.{How}
use Rattle.wp_plain.specs.declared.ending.How.TheVariants.{Found, Emptied, Budget, Words}
use Rattle.wp_plain.specs.Pairs.{all_tuples}
use Rattle.wp_plain.specs.Run.{run, ending_of}

abbrev with : Search → ℕ → ℕ → ℕ → Settings
with search width budget words =
    record { search = search; width = width; budget = budget; words = words; workers = 1; ahead = 0 }

abbrev usual : Search → ℕ → Settings
usual search width = with search width 1000000 134217728

-- where all tuples are counted
abbrev ending : PlanningTask → Settings → Ending
ending task settings = ending_of task settings (all_tuples task settings)

abbrev events : PlanningTask → Settings → List Event
events task settings = (run task settings (all_tuples task settings)).1.events

-- expanded, numbered, kept, pruned, repeats, pairs
abbrev ends : How → ℕ → ℕ → ℕ → ℕ → ℕ → ℕ → Ending
ends how e n k p r q =
    record { how = how; counts = record { expanded = e; numbered = n; kept = k; pruned = p; repeats = r; pairs = q } }

-- a chain: a gives b, b gives c and takes a away
abbrev chain : List ℕ → PlanningTask
chain goals = record {
  atoms = 3;
  init = set_of (0 ∷ []) 3;
  goals = goals;
  acts = record { pre = 0 ∷ []; add = 1 ∷ []; del = [] } ∷ record { pre = 1 ∷ []; add = 2 ∷ []; del = 0 ∷ [] } ∷ [];
}

chain_ends : ending (chain (2 ∷ [])) (usual KBfws 1) ≡ ends (Found (0 ∷ 1 ∷ [])) 2 3 3 0 1 3
chain_ends = refl

chain_events : events (chain (2 ∷ [])) (usual KBfws 1) ≡
    record {
      number = 0;
      w = 1;
      g = 1;
      r = 0;
      repeats = 0;
      born = record { number = 1; act = 0; w = 1; g = 1; r = 1; kept = true } ∷ [];
    }
    ∷ record {
      number = 1;
      w = 1;
      g = 1;
      r = 1;
      repeats = 1;
      born = record { number = 2; act = 1; w = 1; g = 0; r = 0; kept = true } ∷ [];
    }
    ∷ []
chain_events = refl

-- a goal that is true at the root, and no goal at all
chain_met : ending (chain (0 ∷ [])) (usual KBfws 1) ≡ ends (Found []) 0 1 1 0 0 1
chain_met = refl

chain_no_goal : ending (chain []) (usual KBfws 1) ≡ ends (Found []) 0 1 1 0 0 1
chain_no_goal = refl

-- the budget, and the limit of words: three atoms are three tuples
chain_budget : ending (chain (2 ∷ [])) (with KBfws 1 1 134217728) ≡ ends Budget 1 2 2 0 0 2
chain_budget = refl

chain_enough : ending (chain (2 ∷ [])) (with KBfws 1 2 134217728) ≡ ends (Found (0 ∷ 1 ∷ [])) 2 3 3 0 1 3
chain_enough = refl

chain_words : ending (chain (2 ∷ [])) (with KBfws 1 1000000 9) ≡ ends (Found (0 ∷ 1 ∷ [])) 2 3 3 0 1 3
chain_words = refl

chain_few_words : ending (chain (2 ∷ [])) (with KBfws 1 1000000 8) ≡ ends (Words 3) 1 2 2 0 0 2
chain_few_words = refl

chain_no_words : ending (chain (2 ∷ [])) (with KBfws 1 1000000 2) ≡ ends (Words 1) 0 1 1 0 0 1
chain_no_words = refl

-- a root without a true atom has no tuple, and is kept all the same
abbrev empty : PlanningTask
empty = record {
  atoms = 2;
  init = set_of [] 2;
  goals = 0 ∷ 1 ∷ [];
  acts = record { pre = []; add = 0 ∷ []; del = [] } ∷ record { pre = []; add = 1 ∷ []; del = [] } ∷ [];
}

empty_ends : ending empty (usual KBfws 1) ≡ ends (Found (0 ∷ 1 ∷ [])) 2 4 4 0 1 3
empty_ends = refl

-- a trap: the short way to z spends s, and the long one needs m, n and o (atoms s t z m n o)
abbrev trap : PlanningTask
trap = record {
  atoms = 6;
  init = set_of (0 ∷ []) 6;
  goals = 2 ∷ [];
  acts = record { pre = 0 ∷ []; add = 1 ∷ []; del = 0 ∷ [] }
      ∷ record { pre = 0 ∷ 1 ∷ []; add = 2 ∷ []; del = [] }
      ∷ record { pre = []; add = 3 ∷ []; del = [] }
      ∷ record { pre = []; add = 4 ∷ []; del = [] }
      ∷ record { pre = []; add = 5 ∷ []; del = [] }
      ∷ record { pre = 3 ∷ 4 ∷ 5 ∷ []; add = 2 ∷ []; del = [] }
      ∷ [];
}

trap_one : ending trap (usual KBfws 1) ≡ ends Emptied 8 20 8 12 9 2
trap_one = refl

trap_two : ending trap (usual KBfws 2) ≡ ends Emptied 14 20 14 6 30 2
trap_two = refl

trap_all : ending trap (usual F5 2) ≡ ends (Found (2 ∷ 3 ∷ 4 ∷ 5 ∷ [])) 15 17 17 0 38 3
trap_all = refl

-- the trap with its two first actions alone has no plan (atoms s t z, of which s is deleted)
abbrev short : PlanningTask
short = record {
  atoms = 3;
  init = set_of (0 ∷ []) 3;
  goals = 2 ∷ [];
  acts = record { pre = 0 ∷ []; add = 1 ∷ []; del = 0 ∷ [] } ∷ record { pre = 0 ∷ 1 ∷ []; add = 2 ∷ []; del = [] } ∷ [];
}

short_ends : ending short (usual F5 2) ≡ ends Emptied 2 2 2 0 0 2
short_ends = refl

-- two actions that do the same: the second child is a repeat
abbrev twins : PlanningTask
twins = record {
  atoms = 2;
  init = set_of (0 ∷ []) 2;
  goals = 1 ∷ [];
  acts = record { pre = 0 ∷ []; add = 1 ∷ []; del = 0 ∷ [] } ∷ record { pre = 0 ∷ []; add = 1 ∷ []; del = 0 ∷ [] } ∷ [];
}

twins_end : ending twins (usual F5 2) ≡ ends (Found (0 ∷ [])) 1 2 2 0 1 2
twins_end = refl

-- four blocks on a table, which make two towers
abbrev on : ℕ → ℕ → ℕ
on x y = 4 * x + y

abbrev on_table : ℕ → ℕ
on_table x = 16 + x

abbrev clear : ℕ → ℕ
clear x = 20 + x

abbrev hand_empty : ℕ
hand_empty = 24

abbrev holding : ℕ → ℕ
holding x = 25 + x

abbrev pick_up : ℕ → Act
pick_up x = record {
  pre = on_table x ∷ clear x ∷ hand_empty ∷ [];
  add = holding x ∷ [];
  del = on_table x ∷ clear x ∷ hand_empty ∷ [];
}

abbrev put_down : ℕ → Act
put_down x = record {
  pre = holding x ∷ [];
  add = on_table x ∷ clear x ∷ hand_empty ∷ [];
  del = holding x ∷ [];
}

abbrev stack : ℕ → ℕ → Act
stack x y = record {
  pre = clear y ∷ holding x ∷ [];
  add = on x y ∷ clear x ∷ hand_empty ∷ [];
  del = if x == y then holding x ∷ [] else clear y ∷ holding x ∷ [];
}

abbrev unstack : ℕ → ℕ → Act
unstack x y = record {
  pre = on x y ∷ clear x ∷ hand_empty ∷ [];
  add = clear y ∷ holding x ∷ [];
  del = if x == y then on x y ∷ hand_empty ∷ [] else on x y ∷ clear x ∷ hand_empty ∷ [];
}

abbrev all_four : (ℕ → Act) → List Act
all_four act = map act (range_with_len 0 4)

abbrev all_pairs : (ℕ → ℕ → Act) → List Act
all_pairs act = flat_map (λ x. all_four (act x)) (range_with_len 0 4)

abbrev blocks : PlanningTask
blocks = record {
  atoms = 29;
  init = set_of (map on_table (range_with_len 0 4) ++ map clear (range_with_len 0 4) ++ hand_empty ∷ []) 29;
  goals = on 0 1 ∷ on 2 3 ∷ [];
  acts = all_four pick_up ++ all_four put_down ++ all_pairs stack ++ all_pairs unstack;
}

-- pick up a, stack it on b, pick up c, stack it on d
blocks_end : ending blocks (usual F5 2) ≡ ends (Found (0 ∷ 9 ∷ 2 ∷ 19 ∷ [])) 4 12 12 0 3 5
blocks_end = refl

-- an action that deletes and adds an atom leaves it true
abbrev same : PlanningTask
same = record {
  atoms = 2;
  init = set_of (0 ∷ []) 2;
  goals = 0 ∷ 1 ∷ [];
  acts = record { pre = 0 ∷ []; add = 0 ∷ 1 ∷ []; del = [] } ∷ [];
}

same_ends : ending same (usual F5 2) ≡ ends (Found (0 ∷ [])) 1 2 2 0 0 2
same_ends = refl

-- levels: the cost of the goal doubles with each level, and is infinite from the sixty-first on
abbrev level : ℕ → Act
level i = record { pre = (2 * i - 2) ∷ (2 * i - 1) ∷ []; add = (2 * i) ∷ (2 * i + 1) ∷ []; del = [] }

abbrev levels : ℕ → PlanningTask
levels n = record {
  atoms = 2 * n + 2;
  init = set_of (0 ∷ 1 ∷ []) (2 * n + 2);
  goals = (2 * n) ∷ [];
  acts = map level (range_with_len 1 n);
}

levels_end : ending (levels 4) (usual F5 2) ≡ ends (Found (0 ∷ 1 ∷ 2 ∷ 3 ∷ [])) 4 5 5 0 6 5
levels_end = refl
