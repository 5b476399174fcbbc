-- The faults that are met in a problem stand in order.
use Rattle.std.proofs.Common.{◌≡◌, ℕ, suc, ◌*◌, ◌≤◌, ◌<◌, true, Some, List, [], ◌++◌, arith, not, append_assoc, sym, ap, subst, ◌∙◌, ⊎_elim}
use Rattle.std.proofs.lemmas.List.{append-nil}
use Rattle.std.specs.Prelude.{codes, is_some}
use Rattle.std.specs.Str.{bytes_eq}
use Rattle.wp_lex.specs.Trees.{Tree, Trees, Leaf, Branch, End, Then}
use Rattle.wp_lex.specs.Rising.{TreeRises, Rises}
use Rattle.wp_syntax.specs.declared.error.ReadKind.TheVariants.{Shape, Unsupported, Duplicate}
use Rattle.wp_syntax.specs.declared.typing.Role.TheVariants as roles
use Rattle.wp_syntax.specs.declared.problem.Entries.{Entries}
use Rattle.wp_syntax.specs.declared.word.ItemHead.TheVariants as item_heads
use Rattle.wp_syntax.specs.Heads.{item_head_of}
use Rattle.wp_syntax.specs.Reading.{Wrong, Read, fine, wrong, wrong_if, ◌>>=◌, ◌>>◌, each, first}
use Rattle.wp_syntax.specs.Grammar.{goal_of}
use Rattle.wp_syntax.specs.Effects.{fact_of}
use Rattle.wp_syntax.specs.Typing.{typed_of}
use Rattle.wp_syntax.specs.Outline.{end_of, only_name_of, title_of, flags_of}
use Rattle.wp_syntax.specs.Problems.{no_entries, domain_name_of, only_goal_of, goal_entry_of, headed_entry_of, entry_of, entries_of, problem_of}
use Rattle.wp_syntax.specs.Walk.{Ordered, IsLeast, met_of, missing_of}
use Rattle.wp_syntax.proofs.Order.{lower, both, higher, ended, perhaps, rises_le, each_walks, first_least, first_before}
use Rattle.wp_syntax.proofs.CondOrder.{goal_walks, fact_walks}
use Rattle.wp_syntax.proofs.DomainOrder.{once_walks, typed_walks, end_walks, some_name_walks, title_walks, flags_walk}

domain_name_walks : (so_far : Entries) (at : ℕ) (trees : Trees) (low high : ℕ) → at < low → Rises trees low high
    → Ordered (5 * at) (domain_name_of so_far at trees).faults (5 * high)
domain_name_walks so_far at End low high a r = (omega arith, omega arith)
domain_name_walks so_far at (Then tree rest) low high a (middle, t, r) =
    let below : low ≤ high = rises_le (Then tree rest) low high (middle, t, r) in
    once_walks so_far.domain (only_name_of at (Then tree rest)) at low high a below
    (some_name_walks at tree rest low middle high t r)

only_goal_walks : (tree : Tree) (rest : Trees) (low middle high : ℕ) → TreeRises tree low middle → Rises rest middle high
    → Ordered (5 * low) (only_goal_of tree rest).faults (5 * high)
only_goal_walks tree rest low middle high t r =
    both (5 * low) (5 * middle) (5 * high) (goal_of tree).faults ((end_of rest).faults ++ []) (goal_walks tree low middle t)
    (ended (5 * middle) (5 * high) (end_of rest).faults (end_walks rest middle high r))

goal_entry_walks : (so_far : Entries) (at : ℕ) (trees : Trees) (low high : ℕ) → at < low → Rises trees low high
    → Ordered (5 * at) (goal_entry_of so_far at trees).faults (5 * high)
goal_entry_walks so_far at End low high a r = (omega arith, omega arith)
goal_entry_walks so_far at (Then tree rest) low high a (middle, t, r) =
    let below : low ≤ high = rises_le (Then tree rest) low high (middle, t, r) in
    once_walks (is_some so_far.goal) (only_goal_of tree rest) at low high a below
    (only_goal_walks tree rest low middle high t r)

headed_entry_walks : (so_far : Entries) (at : ℕ) (head : List ℕ) (i : ℕ) (rest : Trees) (low high : ℕ) → at < i → i < low
    → Rises rest low high → Ordered (5 * at) (headed_entry_of so_far at head i rest).faults (5 * high)
headed_entry_walks so_far at head i rest low high a b r =
    let below : low ≤ high = rises_le rest low high r in
    let within : at < low = omega arith in
    elim (item_head_of head) as (λ k. let r : Read Entries = elim k [
      | item_heads.Domain ↦ domain_name_of so_far at rest
      | item_heads.Requirements ↦ wrong_if so_far.requirements Duplicate at
          >> (flags_of rest >> fine (record so_far { requirements = true }))
      | item_heads.Objects ↦ wrong_if (is_some so_far.objects) Duplicate at
          >> (typed_of roles.Names [] [] rest >>= λ objects. fine (record so_far { objects = Some objects }))
      | item_heads.Init ↦ wrong_if (is_some so_far.init) Duplicate at
          >> (each fact_of rest >>= λ init. fine (record so_far { init = Some init }))
      | item_heads.Goal ↦ goal_entry_of so_far at rest
      | item_heads.Unsupported ↦ wrong (Unsupported head) i >> fine so_far
      | item_heads.Other ↦ wrong Shape at >> fine so_far
    ] in Ordered (5 * at) r.faults (5 * high)) [
      | item_heads.Domain ↦ domain_name_walks so_far at rest low high within r
      | item_heads.Requirements ↦ once_walks so_far.requirements (flags_of rest) at low high within below
          (flags_walk rest low high r)
      | item_heads.Objects ↦ once_walks (is_some so_far.objects) (typed_of roles.Names [] [] rest) at low high within below
          (typed_walks roles.Names [] [] rest low high r)
      | item_heads.Init ↦ once_walks (is_some so_far.init) (each fact_of rest) at low high within below
          (each_walks fact_of fact_walks rest low high r)
      | item_heads.Goal ↦ goal_entry_walks so_far at rest low high within r
      | item_heads.Unsupported ↦ (omega arith, omega arith)
      | item_heads.Other ↦ (omega arith, omega arith)
    ]

entry_walks : (so_far : Entries) (tree : Tree) (low high : ℕ) → TreeRises tree low high
    → Ordered (5 * low) (entry_of so_far tree).faults (5 * high)
entry_walks so_far (Leaf text at) low high (l, h) = (omega arith, omega arith)
entry_walks so_far (Branch at End) low high (l, r) = (omega arith, omega arith)
entry_walks so_far (Branch at (Then (Branch i trees) rest)) low high (l, r) =
    let inside : suc at ≤ high = rises_le (Then (Branch i trees) rest) (suc at) high r in (omega arith, omega arith)
entry_walks so_far (Branch at (Then (Leaf head i) rest)) low high (l, (middle, (m, h), r)) =
    lower (5 * low) (5 * at) (5 * high) (headed_entry_of so_far at head i rest).faults (omega arith)
    (headed_entry_walks so_far at head i rest middle high m h r)

entries_walk : (so_far : Entries) (trees : Trees) (low high : ℕ) → Rises trees low high
    → Ordered (5 * low) (entries_of so_far trees).faults (5 * high)
entries_walk so_far End low high r = omega arith
entries_walk so_far (Then tree rest) low high (middle, t, r) =
    let new : Entries = (entry_of so_far tree).value in
    both (5 * low) (5 * middle) (5 * high) (entry_of so_far tree).faults (entries_of new rest).faults
    (entry_walks so_far tree low middle t) (entries_walk new rest middle high r)

inside_walks : (at : ℕ) (trees : Trees) (high : ℕ) → Rises trees (suc at) high
    → Ordered 0 (met_of (Then (Branch at trees) End)) (5 * high)
inside_walks at End high r = (omega arith, (omega arith, omega arith))
inside_walks at (Then (Branch i trees) rest) high r =
    let inside : suc at ≤ high = rises_le (Then (Branch i trees) rest) (suc at) high r in
    (omega arith, (omega arith, omega arith))
inside_walks at (Then (Leaf word i) End) high r =
    let inside : suc at ≤ high = rises_le (Then (Leaf word i) End) (suc at) high r in
    (omega arith, (omega arith, omega arith))
inside_walks at (Then (Leaf word i) (Then title rest)) high (middle, (l, h), (back, t, r)) =
    let named : List Wrong = (title_of (codes "problem") title).faults in
    let listed : List Wrong = (entries_of no_entries rest).faults in
    both 0 (5 * middle) (5 * high) ((wrong_if (not (bytes_eq word (codes "define"))) Shape at).faults ++ []) (named ++ listed)
    (ended 0 (5 * middle) (wrong_if (not (bytes_eq word (codes "define"))) Shape at).faults
    (perhaps (not (bytes_eq word (codes "define"))) Shape at 0 (5 * middle) (omega arith) (omega arith)))
    (both (5 * middle) (5 * back) (5 * high) named listed (title_walks (codes "problem") title middle back t)
    (entries_walk no_entries rest back high r))

pub problem_walks : (trees : Trees) (high : ℕ) → Rises trees 0 high → Ordered 0 (met_of trees) (5 * high)
problem_walks End high r = (omega arith, (omega arith, omega arith))
problem_walks (Then (Leaf text at) rest) high (middle, (l, h), r) =
    let below : middle ≤ high = rises_le rest middle high r in (omega arith, (omega arith, omega arith))
problem_walks (Then (Branch at trees) End) high (middle, (l, inside), r) =
    higher 0 (5 * middle) (5 * high) (met_of (Then (Branch at trees) End)) (omega arith) (inside_walks at trees middle inside)
problem_walks (Then (Branch at trees) (Then tree rest)) high (middle, (l, inside), r) =
    let within : suc at ≤ middle = rises_le trees (suc at) middle inside in
    let below : middle ≤ high = rises_le (Then tree rest) middle high r in (omega arith, (omega arith, omega arith))

-- what is missing comes last
pub missing_last : (trees : Trees) → (problem_of trees).faults ≡ met_of trees ++ missing_of trees
missing_last trees = simp (append_assoc, append-nil)

-- the first fault of a problem is the least of those that are met
pub met_least : (trees : Trees) (high : ℕ) (fault : Wrong) → Rises trees 0 high → first (problem_of trees).faults ≡ Some fault
    → IsLeast fault (met_of trees)
met_least trees high fault r e =
    ⊎_elim (λ (none : met_of trees ≡ []). subst (λ (faults : List Wrong). IsLeast fault faults) (sym none) tt)
    (λ (there : first (met_of trees) ≡ Some fault). first_least 0 (5 * high) fault (met_of trees) (problem_walks trees high r) there)
    (first_before (met_of trees) (missing_of trees) fault (ap first (sym (missing_last trees)) ∙ e))
