-- A problem is read: its objects are the names of places and parcels, and its atoms have such names.
use Rattle.std.proofs.Common.{◌≡◌, ℕ, zero, suc, ◌+◌, ◌-◌, ◌≤◌, ◌<◌, true, false, List, [], ◌∷◌, ◌++◌, length, map, Some, None, refl, sym, ap, ◌∙◌, arith, append_assoc}
use Rattle.std.specs.Prelude.{codes}
use Rattle.std.specs.List.{AllByRecursion}
use Rattle.std.specs.Fmt.{digits}
use Rattle.std.proofs.lemmas.List.{append-nil}
use Rattle.wp_lex.specs.Trees.{Tree, Leaf, Branch, Trees, End, Then}
use Rattle.wp_lex.specs.Written.{Form, Listed, Forms, NoMore, Behind, form_text, tree_at, trees_at}
use Rattle.wp_syntax.specs.declared.records.Name.{Name}
use Rattle.wp_syntax.specs.declared.records.Typed.{Typed}
use Rattle.wp_syntax.specs.declared.records.AtomText.{AtomText}
use Rattle.wp_syntax.specs.declared.records.InitItem.{InitItem}
use Rattle.wp_syntax.specs.declared.items.InitFact.{InitFact}
use Rattle.wp_syntax.specs.declared.records.Problem.{Problem}
use Rattle.wp_syntax.specs.declared.problem.Entries.{Entries}
use Rattle.wp_syntax.specs.declared.typing.Role.TheVariants as roles
use Rattle.wp_syntax.specs.Reading.{Read, fine, each, ◌>>=◌, ◌>>◌}
use Rattle.wp_syntax.specs.Grammar.{name_at, goal_of as goal_read, conjuncts_of, plain_goal_of}
use Rattle.wp_syntax.specs.Items.{literal, literals_in}
use Rattle.wp_syntax.specs.Effects.{fact_of}
use Rattle.wp_syntax.specs.Typing.{typed_of, with_kinds}
use Rattle.wp_syntax.specs.Problems.{entry_of, entries_of, complete_of, problem_from, problem_of}
use Rattle.wp_gen.specs.Depot.{goal_of, start_of}
use Rattle.wp_gen.proofs.ProblemForms.{place_name, parcel_name, word, pair, each_from, put_place, put_parcel, put_roads, put_at, object_forms, init_forms, goal_forms, problem_items}

-- ---- objects
-- they are read as names of these texts
abbrev pub AreNames : Forms → List (List ℕ) → Type 0
AreNames forms texts =
    (at : ℕ) (group : List Name)
    → (names : List Name) × (typed_of roles.Names [] group (trees_at forms at) ≡ fine (with_kinds [] (group ++ names)))
    × (map (λ (name : Name). name.text) names ≡ texts)

no_names : AreNames NoMore []
no_names at group = ([], ap (λ (names : List Name). fine (with_kinds [] names)) (sym (append-nil group)), refl)

-- a name by its first letter, a word that is no keyword
one_place : (k : ℕ) (rest : Forms) (texts : List (List ℕ)) → AreNames rest texts → AreNames (put_place k rest) (place_name k ∷ texts)
one_place k rest texts are at group =
    let name = name_at (place_name k) (at + 1) in
    let read = are (at + 1 + length (place_name k)) (group ++ name ∷ []) in (
      name ∷ read.0,
      read.1 ∙ ap (λ (names : List Name). fine (with_kinds [] names)) (append_assoc group (name ∷ []) read.0),
      ap (λ (texts : List (List ℕ)). place_name k ∷ texts) read.2,
    )

one_parcel : (k : ℕ) (rest : Forms) (texts : List (List ℕ)) → AreNames rest texts → AreNames (put_parcel k rest) (parcel_name k ∷ texts)
one_parcel k rest texts are at group =
    let name = name_at (parcel_name k) (at + 1) in
    let read = are (at + 1 + length (parcel_name k)) (group ++ name ∷ []) in (
      name ∷ read.0,
      read.1 ∙ ap (λ (names : List Name). fine (with_kinds [] names)) (append_assoc group (name ∷ []) read.0),
      ap (λ (texts : List (List ℕ)). parcel_name k ∷ texts) read.2,
    )

-- the names of so many numbers from one on, in front of others
abbrev pub names_from : (ℕ → List ℕ) → ℕ → ℕ → List (List ℕ) → List (List ℕ)
names_from name i zero rest = rest
names_from name i (suc n) rest = name i ∷ names_from name (i + 1) n rest

each_name : (put : ℕ → Forms → Forms) (name : ℕ → List ℕ)
    → ((k : ℕ) (rest : Forms) (texts : List (List ℕ)) → AreNames rest texts → AreNames (put k rest) (name k ∷ texts))
    → (i n : ℕ) (rest : Forms) (texts : List (List ℕ)) → AreNames rest texts
    → AreNames (each_from put i n rest) (names_from name i n texts)
each_name put name h i zero rest texts are = are
each_name put name h i (suc n) rest texts are =
    h i (each_from put (i + 1) n rest) (names_from name (i + 1) n texts) (each_name put name h (i + 1) n rest texts are)

abbrev pub object_names : ℕ → List (List ℕ)
object_names size = names_from place_name 0 size (names_from parcel_name 0 size [])

objects_are_names : (size : ℕ) → AreNames (object_forms size) (object_names size)
objects_are_names size =
    each_name put_place place_name one_place 0 size (each_from put_parcel 0 size NoMore) (names_from parcel_name 0 size [])
    (each_name put_parcel parcel_name one_parcel 0 size NoMore [] no_names)

-- the objects of a problem, which stand at one place whatever the size
pub record HasObjects (size : ℕ) : Type 0 where
  pub names : List Name
  pub read : typed_of roles.Names [] [] (trees_at (object_forms size) 49) ≡ fine (with_kinds [] names)
  pub texts : map (λ (name : Name). name.text) names ≡ object_names size

pub objects : (size : ℕ) → HasObjects size
objects size = let read = objects_are_names size 49 [] in record { names = read.0; read = read.1; texts = read.2 }

-- ---- atoms
-- an atom of a predicate of the depot, whose terms are known
pub data IsDepotAtom (known : List ℕ → Type 0) : AtomText → Type 0 where
  truck : (i j : ℕ) (a : List ℕ) → known a → IsDepotAtom known (record { pred = name_at (codes "truck") i; args = name_at a j ∷ [] })
  road : (i j k : ℕ) (a b : List ℕ) → known a → known b
      → IsDepotAtom known (record { pred = name_at (codes "road") i; args = name_at a j ∷ name_at b k ∷ [] })
  lies : (i j k : ℕ) (a b : List ℕ) → known a → known b
      → IsDepotAtom known (record { pred = name_at (codes "at") i; args = name_at a j ∷ name_at b k ∷ [] })

abbrev pub AreItems : (List ℕ → Type 0) → List InitItem → Type 0
AreItems known items = AllByRecursion (λ (item : InitItem). IsDepotAtom known item.atom) items

abbrev AreFacts : (List ℕ → Type 0) → Forms → Type 0
AreFacts known forms =
    (at : ℕ) → (facts : List InitFact) × (each fact_of (trees_at forms at) ≡ fine facts) × AreItems known (literals_in facts)

abbrev AreGoals : (List ℕ → Type 0) → Forms → Type 0
AreGoals known forms =
    (at : ℕ) → (atoms : List AtomText) × (conjuncts_of plain_goal_of (trees_at forms at) ≡ fine atoms) × AllByRecursion (IsDepotAtom known) atoms

abbrev fact : AtomText → InitFact
fact atom = literal true atom

abbrev atom_at : List ℕ → ℕ → List ℕ → List ℕ → AtomText
atom_at pred at a b = record {
  pred = name_at pred (at + 1);
  args = name_at a (at + 1 + length pred + 1) ∷ name_at b (at + 1 + length pred + 1 + length a + 1) ∷ [];
}

one_fact : (known : List ℕ → Type 0) (form : Form) (rest : Forms) (atom : ℕ → AtomText)
    → ((at : ℕ) → fact_of (tree_at form at) ≡ fine (fact (atom at) ∷ [])) → ((at : ℕ) → IsDepotAtom known (atom at))
    → AreFacts known rest → AreFacts known (Behind 32 form rest)
one_fact known form rest atom reads is are at =
    let read = are (at + 1 + length (form_text form)) in (
      fact (atom (at + 1)) ∷ read.0,
      (λ j. reads (at + 1) j >>= λ front. read.1 j >>= λ back. fine (front ++ back)),
      (is (at + 1), read.2),
    )

one_goal : (known : List ℕ → Type 0) (form : Form) (rest : Forms) (atom : ℕ → AtomText)
    → ((at : ℕ) → goal_read (tree_at form at) ≡ fine (atom at ∷ [])) → ((at : ℕ) → IsDepotAtom known (atom at))
    → AreGoals known rest → AreGoals known (Behind 32 form rest)
one_goal known form rest atom reads is are at =
    let read = are (at + 1 + length (form_text form)) in (
      atom (at + 1) ∷ read.0,
      (λ j. reads (at + 1) j >>= λ front. read.1 j >>= λ back. fine (front ++ back)),
      (is (at + 1), read.2),
    )

each_fact : (known : List ℕ → Type 0) (put : ℕ → Forms → Forms) (bound : ℕ)
    → ((k : ℕ) (rest : Forms) → k < bound → AreFacts known rest → AreFacts known (put k rest))
    → (i n : ℕ) (rest : Forms) → i + n ≤ bound → AreFacts known rest → AreFacts known (each_from put i n rest)
each_fact known put bound h i zero rest le are = are
each_fact known put bound h i (suc n) rest le are =
    h i (each_from put (i + 1) n rest) (omega arith) (each_fact known put bound h (i + 1) n rest (omega arith) are)

each_goal : (known : List ℕ → Type 0) (put : ℕ → Forms → Forms) (bound : ℕ)
    → ((k : ℕ) (rest : Forms) → k < bound → AreGoals known rest → AreGoals known (put k rest))
    → (i n : ℕ) (rest : Forms) → i + n ≤ bound → AreGoals known rest → AreGoals known (each_from put i n rest)
each_goal known put bound h i zero rest le are = are
each_goal known put bound h i (suc n) rest le are =
    h i (each_from put (i + 1) n rest) (omega arith) (each_goal known put bound h (i + 1) n rest (omega arith) are)

-- the names of the places and the parcels below a size are known
pub record KnowsNames (known : List ℕ → Type 0) (size : ℕ) : Type 0 where
  pub places : (k : ℕ) → k < size → known (place_name k)
  pub parcels : (k : ℕ) → k < size → known (parcel_name k)

road_fact : (known : List ℕ → Type 0) (a b : ℕ) (rest : Forms) → known (place_name a) → known (place_name b) → AreFacts known rest
    → AreFacts known (Behind 32 (pair (codes "road") (place_name a) (place_name b)) rest)
road_fact known a b rest first second are =
    one_fact known (pair (codes "road") (place_name a) (place_name b)) rest (λ at. atom_at (codes "road") at (place_name a) (place_name b))
    (λ at. refl) (λ at. road _ _ _ _ _ first second) are

at_fact : (known : List ℕ → Type 0) (a b : ℕ) (rest : Forms) → known (parcel_name a) → known (place_name b) → AreFacts known rest
    → AreFacts known (Behind 32 (pair (codes "at") (parcel_name a) (place_name b)) rest)
at_fact known a b rest first second are =
    one_fact known (pair (codes "at") (parcel_name a) (place_name b)) rest (λ at. atom_at (codes "at") at (parcel_name a) (place_name b))
    (λ at. refl) (λ at. lies _ _ _ _ _ first second) are

at_goal : (known : List ℕ → Type 0) (a b : ℕ) (rest : Forms) → known (parcel_name a) → known (place_name b) → AreGoals known rest
    → AreGoals known (Behind 32 (pair (codes "at") (parcel_name a) (place_name b)) rest)
at_goal known a b rest first second are =
    one_goal known (pair (codes "at") (parcel_name a) (place_name b)) rest (λ at. atom_at (codes "at") at (parcel_name a) (place_name b))
    (λ at. refl) (λ at. lies _ _ _ _ _ first second) are

no_facts : (known : List ℕ → Type 0) → AreFacts known NoMore
no_facts known at = ([], refl, tt)

no_goals : (known : List ℕ → Type 0) → AreGoals known NoMore
no_goals known at = ([], refl, tt)

ats_facts : (known : List ℕ → Type 0) (size : ℕ) (place : ℕ → ℕ) → KnowsNames known size → ((k : ℕ) → place k < size)
    → AreFacts known (goal_forms size place)
ats_facts known size place names within =
    each_fact known (put_at place) size
    (λ k rest lt are. at_fact known k (place k) rest (names.parcels k lt) (names.places (place k) (within k)) are)
    0 size NoMore (omega arith) (no_facts known)

goals : (known : List ℕ → Type 0) (size : ℕ) (place : ℕ → ℕ) → KnowsNames known size → ((k : ℕ) → place k < size)
    → AreGoals known (goal_forms size place)
goals known size place names within =
    each_goal known (put_at place) size
    (λ k rest lt are. at_goal known k (place k) rest (names.parcels k lt) (names.places (place k) (within k)) are)
    0 size NoMore (omega arith) (no_goals known)

first_place : (known : List ℕ → Type 0) (size : ℕ) → 1 ≤ size → KnowsNames known size → known (codes "p0")
unfolding digits
first_place known size some names = names.places 0 (omega arith)

init : (known : List ℕ → Type 0) (size : ℕ) (place : ℕ → ℕ) → 1 ≤ size → KnowsNames known size → ((k : ℕ) → place k < size)
    → AreFacts known (init_forms size place)
init known size place some names within =
    one_fact known (Listed (codes "truck") (word (codes "p0") NoMore)) (each_from put_roads 0 (size - 1) (goal_forms size place))
    (λ at. record { pred = name_at (codes "truck") (at + 1); args = name_at (codes "p0") (at + 1 + 5 + 1) ∷ [] })
    (λ at. refl) (λ at. truck _ _ _ (first_place known size some names))
    (each_fact known put_roads (size - 1)
    (λ k rest lt are.
    let here = names.places k (omega arith) in
    let next = names.places (k + 1) (omega arith) in
    road_fact known k (k + 1) (Behind 32 (pair (codes "road") (place_name (k + 1)) (place_name k)) rest) here next
    (road_fact known (k + 1) k rest next here are))
    0 (size - 1) (goal_forms size place) (omega arith) (ats_facts known size place names within))

-- ---- the problem
abbrev titled : Entries
titled = record { domain = true; requirements = false; objects = None; init = None; goal = None }

entry_then : (before after : Entries) (tree : Tree) (rest : Trees) → entry_of before tree ≡ fine after
    → entries_of before (Then tree rest) ≡ entries_of after rest
entry_then before after tree rest e = ap (λ (read : Read Entries). read >>= λ new. entries_of new rest) e

-- the items behind the domain's name, at any places
entries : (a b c d e f g h : ℕ) (o i l : Trees) (objects : List Typed) (init : List InitFact) (goal : List AtomText)
    → typed_of roles.Names [] [] o ≡ fine objects → each fact_of i ≡ fine init → conjuncts_of plain_goal_of l ≡ fine goal
    → entries_of titled
    (Then (Branch a (Then (Leaf (codes ":objects") b) o))
    (Then (Branch c (Then (Leaf (codes ":init") d) i))
    (Then (Branch e (Then (Leaf (codes ":goal") f) (Then (Branch g (Then (Leaf (codes "and") h) l)) End))) End)))
    ≡ fine (record { domain = true; requirements = false; objects = Some objects; init = Some init; goal = Some goal })
entries a b c d e f g h o i l objects init goal reads_o reads_i reads_l =
    entry_then titled (record titled { objects = Some objects }) (Branch a (Then (Leaf (codes ":objects") b) o))
    (Then (Branch c (Then (Leaf (codes ":init") d) i))
    (Then (Branch e (Then (Leaf (codes ":goal") f) (Then (Branch g (Then (Leaf (codes "and") h) l)) End))) End))
    (ap (λ (read : Read (List Typed)). read >>= λ objects. fine (record titled { objects = Some objects })) reads_o)
    ∙ entry_then (record titled { objects = Some objects }) (record titled { objects = Some objects; init = Some init })
    (Branch c (Then (Leaf (codes ":init") d) i))
    (Then (Branch e (Then (Leaf (codes ":goal") f) (Then (Branch g (Then (Leaf (codes "and") h) l)) End))) End)
    (ap (λ (read : Read (List InitFact)). read >>= λ init. fine (record titled { objects = Some objects; init = Some init })) reads_i)
    ∙ entry_then (record titled { objects = Some objects; init = Some init })
    (record titled { objects = Some objects; init = Some init; goal = Some goal })
    (Branch e (Then (Leaf (codes ":goal") f) (Then (Branch g (Then (Leaf (codes "and") h) l)) End))) End
    (ap (λ (read : Read (List AtomText)). (read >>= λ goal. fine goal)
    >>= λ goal. fine (record titled { objects = Some objects; init = Some init; goal = Some goal })) reads_l)

abbrev checked : Entries → Read Entries
checked entries = complete_of 0 entries >> fine entries

abbrev with_name : Name → Entries → Read (Name × Entries)
with_name name entries = fine (name, entries)

abbrev built : Name × Entries → Read Problem
built read = fine (problem_from read.0 read.1)

abbrev problem_by : Name → Read Entries → Read Problem
problem_by name read = ((read >>= checked) >>= with_name name) >>= built

-- its objects have these names, and its atoms are the depot's
pub record IsDepotProblem (known : List ℕ → Type 0) (names : List Name) (problem : Problem) : Type 0 where
  pub objects : problem.objects ≡ with_kinds [] names
  pub init : AreItems known problem.init
  pub goal : AllByRecursion (IsDepotAtom known) problem.goal

pub problem_is_read : (known : List ℕ → Type 0) (number size : ℕ) → 1 ≤ size → KnowsNames known size
    → ((k : ℕ) → start_of number size k < size) → ((k : ℕ) → goal_of number size k < size) → (has : HasObjects size)
    → (problem : Problem)
    × (problem_of (Then (tree_at (Listed (codes "define") (problem_items number size)) 0) End) ≡ fine problem)
    × IsDepotProblem known has.names problem
problem_is_read known number size some names starts ends has =
    let o = object_forms size in
    let i = init_forms size (start_of number size) in
    let behind_objects = 40 + length (form_text (Listed (codes ":objects") o)) in
    let behind_init = behind_objects + 1 + length (form_text (Listed (codes ":init") i)) in
    let l = goal_forms size (goal_of number size) in
    let c = behind_objects + 1 in
    let e = behind_init + 1 in
    let g = e + 1 + 5 + 1 in
    let second = init known size (start_of number size) some names starts (c + 1 + 5) in
    let third = goals known size (goal_of number size) names ends (g + 1 + 3) in (
      record { name = name_at (codes "depot") 17; objects = with_kinds [] has.names; init = literals_in second.0; goal = third.0 },
      ap (problem_by (name_at (codes "depot") 17))
          (entries 40 41 c (c + 1) e (e + 1) g (g + 1) (trees_at o 49) (trees_at i (c + 1 + 5)) (trees_at l (g + 1 + 3))
          (with_kinds [] has.names) second.0 third.0 has.read second.1 third.1),
      record { objects = refl; init = second.2; goal = third.2 },
    )
