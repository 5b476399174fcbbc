-- The nodes of a best-first width search, after Lipovetzky and Geffner (AAAI 2017), and which of them comes first.
-- Ours: the order by (novelty, #g, number).
use Rattle.std.specs.Prelude.{◌≡◌, ◌==◌, ◌&&◌, ◌||◌, nat_lt, ℕ, Bool, true, false, List, [], ◌∷◌, ◌++◌, map, filter, fold, slice_index_or, if◌then◌else◌, Option, Some, None, MatchOption, Contains}
use Rattle.wp_task.specs.Novelty.{Generated}

-- a numbered node: what was generated, its novelty, whether it is kept, and whether it still waits for its expansion
pub record Node : Type 0 where
  pub generated : Generated
  pub w : ℕ
  pub kept : Bool
  pub waits : Bool

-- the node, once it waits no longer
abbrev pub left : Node → Node
left node = record node { waits = false }

-- how a node was reached: the actions from the root, and the states from the node back to the root
pub record Path : Type 0 where
  pub acts : List ℕ
  pub states : List (List Bool)

-- an applicable action, and the state that it leads to
pub record Successor : Type 0 where
  pub act : ℕ
  pub state : List Bool

abbrev pub no_path : Path
no_path = record { acts = []; states = [] }

abbrev pub path_at : List Path → ℕ → Path
path_at paths number = slice_index_or paths number no_path

abbrev pub extended : Path → Successor → Path
extended path x = record { acts = path.acts ++ x.act ∷ []; states = x.state ∷ path.states }

abbrev pub generated_in : List Node → List Generated
generated_in nodes = map (λ n. n.generated) nodes

-- the states of the kept nodes
abbrev pub states_kept : List Node → List (List Bool)
states_kept nodes = map (λ n. n.generated.state) (filter (λ n. n.kept) nodes)

-- whether the first node is less by (novelty, #g, number)
abbrev pub comes_before : Node → Node → Bool
comes_before x y =
    nat_lt x.w y.w || ((x.w == y.w)
    && (nat_lt x.generated.counters.0 y.generated.counters.0 || ((x.generated.counters.0 == y.generated.counters.0)
    && nat_lt x.generated.number y.generated.number)))

-- the node is one that waits, and none that waits comes before it
pub record IsFirst (nodes : List Node) (x : Node) : Type 0 where
  pub there : Contains nodes x
  pub waits : x.waits ≡ true
  pub least : (y : Node) → Contains nodes y → y.waits ≡ true → comes_before y x ≡ false

-- the same, computed: the first so far, or the next node
abbrev pub first_of_two : Option Node → Node → Option Node
first_of_two None y = if y.waits then Some y else None
first_of_two (Some x) y = if y.waits && comes_before y x then Some y else Some x

abbrev pub first_waiting : List Node → Option Node
first_waiting nodes = fold first_of_two None nodes

-- the node that is computed is a first one, and where none is computed no node waits; two first nodes have one number
pub record FirstIsLeast : Type 0 where
  pub found : (nodes : List Node) → MatchOption (first_waiting nodes) ((x : Node) → Contains nodes x → x.waits ≡ false) (IsFirst nodes)
  pub one : (nodes : List Node) (x y : Node) → IsFirst nodes x → IsFirst nodes y → x.generated.number ≡ y.generated.number
