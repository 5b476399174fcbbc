-- The faults of conditions, goals, effects and facts stand in order.
use Rattle.std.proofs.Common.{ℕ, suc, ◌*◌, ◌≤◌, ◌<◌, Bool, true, false, List, [], ◌∷◌, ◌++◌, arith, not}
use Rattle.wp_lex.specs.Trees.{Tree, Trees, Leaf, Branch, End, Then}
use Rattle.wp_lex.specs.Rising.{TreeRises, Rises}
use Rattle.wp_syntax.specs.declared.error.ReadKind.TheVariants.{Shape, Unsupported}
use Rattle.wp_syntax.specs.declared.records.AtomText.{AtomText}
use Rattle.wp_syntax.specs.declared.records.Cond.{Cond}
use Rattle.wp_syntax.specs.declared.items.EffectItem.{EffectItem}
use Rattle.wp_syntax.specs.declared.items.InitFact.{InitFact}
use Rattle.wp_syntax.specs.declared.word.Head.TheVariants as heads
use Rattle.wp_syntax.specs.Word.{is_term}
use Rattle.wp_syntax.specs.Heads.{head_of}
use Rattle.wp_syntax.specs.Reading.{Wrong, Read, fine, wrong, wrong_if, ◌>>=◌, ◌>>◌, each}
use Rattle.wp_syntax.specs.Grammar.{term_of, atom_of, atom_cond_of, side_of, sides_of, equality_of, negation_of, plain_cond_of, cond_of, plain_goal_of, goal_of}
use Rattle.wp_syntax.specs.Items.{change, literal}
use Rattle.wp_syntax.specs.Effects.{no_atom, negated_of, plain_effect_of, effect_of, is_timed, stated_of, headed_fact_of, fact_of}
use Rattle.wp_syntax.specs.Walk.{key, Ordered}
use Rattle.wp_syntax.proofs.Order.{lower, both, higher, ended, perhaps, told, rises_le, tree_lt, each_walks, conjunction_walks}

-- one fault at a place
pub alone : (fault : Wrong) (low high : ℕ) → low ≤ key fault → key fault ≤ high → Ordered low (fault ∷ []) high
alone fault low high l h = (l, h)

pub term_walks : (tree : Tree) (low high : ℕ) → TreeRises tree low high → Ordered (5 * low) (term_of tree).faults (5 * high)
term_walks (Leaf text at) low high (l, h) =
    ended (5 * low) (5 * high) (wrong_if (not (is_term text)) Shape at).faults
    (perhaps (not (is_term text)) Shape at (5 * low) (5 * high) (omega arith) (omega arith))
term_walks (Branch at trees) low high (l, r) =
    let inside : suc at ≤ high = rises_le trees (suc at) high r in (omega arith, omega arith)

pub atom_walks : (pred : List ℕ) (at : ℕ) (terms : Trees) (low high : ℕ) → Rises terms low high
    → Ordered (5 * low) (atom_of pred at terms).faults (5 * high)
atom_walks pred at terms low high r =
    ended (5 * low) (5 * high) (each term_of terms).faults (each_walks term_of term_walks terms low high r)

side_walks : (text : List ℕ) (at low high : ℕ) → low ≤ at → at < high
    → Ordered (5 * low) (side_of text at).faults (5 * high)
side_walks text at low high l h =
    ended (5 * low) (5 * high) (wrong_if (not (is_term text)) Shape at).faults
    (perhaps (not (is_term text)) Shape at (5 * low) (5 * high) (omega arith) (omega arith))

sides_walks : (same : Bool) (word : List ℕ) (at : ℕ) (first second : Tree) (low middle high : ℕ) → at < low
    → TreeRises first low middle → TreeRises second middle high
    → Ordered (5 * at) (sides_of same word at first second).faults (5 * high)
sides_walks same word at (Leaf first i) (Leaf second j) low middle high a (l, h) (m, k) =
    both (5 * at) (5 * middle) (5 * high) (side_of first i).faults ((side_of second j).faults ++ [])
    (lower (5 * at) (5 * low) (5 * middle) (side_of first i).faults (omega arith) (side_walks first i low middle l h))
    (ended (5 * middle) (5 * high) (side_of second j).faults (side_walks second j middle high m k))
sides_walks same word at (Leaf first i) (Branch j trees) low middle high a (l, h) s =
    let more : middle < high = tree_lt (Branch j trees) middle high s in (omega arith, omega arith)
sides_walks same word at (Branch i trees) second low middle high a f s =
    let less : low < middle = tree_lt (Branch i trees) low middle f in
    let more : middle < high = tree_lt second middle high s in (omega arith, omega arith)

equality_walks : (same : Bool) (word : List ℕ) (at : ℕ) (trees : Trees) (low high : ℕ) → at < low → Rises trees low high
    → Ordered (5 * at) (equality_of same word at trees).faults (5 * high)
equality_walks same word at End low high a r = (omega arith, omega arith)
equality_walks same word at (Then first End) low high a (middle, f, r) =
    let less : low < middle = tree_lt first low middle f in (omega arith, omega arith)
equality_walks same word at (Then first (Then second End)) low high a (middle, f, (back, s, r)) =
    higher (5 * at) (5 * back) (5 * high) ((sides_of same word at first second).faults ++ []) (omega arith)
    (ended (5 * at) (5 * back) (sides_of same word at first second).faults
    (sides_walks same word at first second low middle back a f s))
equality_walks same word at (Then first (Then second (Then third rest))) low high a (middle, f, (back, s, r)) =
    let less : low < middle = tree_lt first low middle f in
    let more : middle < back = tree_lt second middle back s in
    let most : back ≤ high = rises_le (Then third rest) back high r in (omega arith, omega arith)

negation_walks : (word : List ℕ) (at : ℕ) (trees : Trees) (low high : ℕ) → at < low → Rises trees low high
    → Ordered (5 * at) (negation_of word at trees).faults (5 * high)
negation_walks word at End low high a r = told (Unsupported word) at End low high a r
negation_walks word at (Then (Leaf text i) rest) low high a r = told (Unsupported word) at (Then (Leaf text i) rest) low high a r
negation_walks word at (Then (Branch i End) rest) low high a r = told (Unsupported word) at (Then (Branch i End) rest) low high a r
negation_walks word at (Then (Branch i (Then (Branch j inner) terms)) rest) low high a r =
    told (Unsupported word) at (Then (Branch i (Then (Branch j inner) terms)) rest) low high a r
negation_walks word at (Then (Branch i (Then (Leaf head j) terms)) (Then tree rest)) low high a r =
    told (Unsupported word) at (Then (Branch i (Then (Leaf head j) terms)) (Then tree rest)) low high a r
negation_walks word at (Then (Branch i (Then (Leaf head j) terms)) End) low high a r =
    let (middle, (l, (m, (k, h), t)), e) = r in
    let unsupported : Ordered (5 * at) (wrong (Unsupported word) at).faults (5 * high) =
    told (Unsupported word) at (Then (Branch i (Then (Leaf head j) terms)) End) low high a r in
    let equality : Ordered (5 * at) (equality_of false head j terms).faults (5 * high) =
    lower (5 * at) (5 * j) (5 * high) (equality_of false head j terms).faults (omega arith)
    (higher (5 * j) (5 * middle) (5 * high) (equality_of false head j terms).faults (omega arith)
    (equality_walks false head j terms m middle h t)) in
    elim (head_of head) as (λ k. let r : Read (List Cond) = elim k [
      | heads.Equal ↦ equality_of false head j terms
      | _ ↦ wrong (Unsupported word) at >> fine []
    ] in Ordered (5 * at) r.faults (5 * high)) [ heads.Equal ↦ equality | _ ↦ unsupported ]

plain_cond_walks : (at : ℕ) (head : List ℕ) (i : ℕ) (rest : Trees) (low high : ℕ) → at < i → i < low → Rises rest low high
    → Ordered (5 * at) (plain_cond_of at head i rest).faults (5 * high)
plain_cond_walks at head i rest low high a b r =
    let first : 5 * at ≤ 5 * i = omega arith in
    let below : low ≤ high = rises_le rest low high r in
    let unsupported : Ordered (5 * at) (wrong (Unsupported head) i).faults (5 * high) =
    lower (5 * at) (5 * i) (5 * high) (wrong (Unsupported head) i).faults first (told (Unsupported head) i rest low high b r) in
    elim (head_of head) as (λ k. let r : Read (List Cond) = elim k [
      | heads.Not ↦ negation_of head i rest
      | heads.Equal ↦ equality_of true head i rest
      | heads.Name ↦ atom_cond_of head i rest
      | heads.Other ↦ wrong Shape at >> fine []
      | _ ↦ wrong (Unsupported head) i >> fine []
    ] in Ordered (5 * at) r.faults (5 * high)) [
      | heads.Not ↦ lower (5 * at) (5 * i) (5 * high) (negation_of head i rest).faults first
          (negation_walks head i rest low high b r)
      | heads.Equal ↦ lower (5 * at) (5 * i) (5 * high) (equality_of true head i rest).faults first
          (equality_walks true head i rest low high b r)
      | heads.Name ↦ ended (5 * at) (5 * high) (atom_of head i rest).faults
          (lower (5 * at) (5 * low) (5 * high) (atom_of head i rest).faults (omega arith) (atom_walks head i rest low high r))
      | heads.Other ↦ (omega arith, omega arith)
      | _ ↦ unsupported
    ]

pub cond_walks : (tree : Tree) (low high : ℕ) → TreeRises tree low high → Ordered (5 * low) (cond_of tree).faults (5 * high)
cond_walks tree low high r = conjunction_walks plain_cond_of plain_cond_walks tree low high r

plain_goal_walks : (at : ℕ) (head : List ℕ) (i : ℕ) (rest : Trees) (low high : ℕ) → at < i → i < low → Rises rest low high
    → Ordered (5 * at) (plain_goal_of at head i rest).faults (5 * high)
plain_goal_walks at head i rest low high a b r =
    let first : 5 * at ≤ 5 * i = omega arith in
    let below : low ≤ high = rises_le rest low high r in
    let unsupported : Ordered (5 * at) (wrong (Unsupported head) i).faults (5 * high) =
    lower (5 * at) (5 * i) (5 * high) (wrong (Unsupported head) i).faults first (told (Unsupported head) i rest low high b r) in
    elim (head_of head) as (λ k. let r : Read (List AtomText) = elim k [
      | heads.Name ↦ atom_of head i rest >>= λ atom. fine (atom ∷ [])
      | heads.Other ↦ wrong Shape at >> fine []
      | _ ↦ wrong (Unsupported head) i >> fine []
    ] in Ordered (5 * at) r.faults (5 * high)) [
      | heads.Name ↦ ended (5 * at) (5 * high) (atom_of head i rest).faults
          (lower (5 * at) (5 * low) (5 * high) (atom_of head i rest).faults (omega arith) (atom_walks head i rest low high r))
      | heads.Other ↦ (omega arith, omega arith)
      | _ ↦ unsupported
    ]

pub goal_walks : (tree : Tree) (low high : ℕ) → TreeRises tree low high → Ordered (5 * low) (goal_of tree).faults (5 * high)
goal_walks tree low high r = conjunction_walks plain_goal_of plain_goal_walks tree low high r

negated_walks : (word : List ℕ) (at : ℕ) (trees : Trees) (low high : ℕ) → at < low → Rises trees low high
    → Ordered (5 * at) (negated_of word at trees).faults (5 * high)
negated_walks word at End low high a r = told (Unsupported word) at End low high a r
negated_walks word at (Then (Leaf text i) rest) low high a r = told (Unsupported word) at (Then (Leaf text i) rest) low high a r
negated_walks word at (Then (Branch i End) rest) low high a r = told (Unsupported word) at (Then (Branch i End) rest) low high a r
negated_walks word at (Then (Branch i (Then (Branch j inner) terms)) rest) low high a r =
    told (Unsupported word) at (Then (Branch i (Then (Branch j inner) terms)) rest) low high a r
negated_walks word at (Then (Branch i (Then (Leaf head j) terms)) (Then tree rest)) low high a r =
    told (Unsupported word) at (Then (Branch i (Then (Leaf head j) terms)) (Then tree rest)) low high a r
negated_walks word at (Then (Branch i (Then (Leaf head j) terms)) End) low high a r =
    let (middle, (l, (m, (k, h), t)), e) = r in
    let unsupported : Ordered (5 * at) (wrong (Unsupported word) at).faults (5 * high) =
    told (Unsupported word) at (Then (Branch i (Then (Leaf head j) terms)) End) low high a r in
    let atom : Ordered (5 * at) (atom_of head j terms).faults (5 * high) =
    lower (5 * at) (5 * m) (5 * high) (atom_of head j terms).faults (omega arith)
    (higher (5 * m) (5 * middle) (5 * high) (atom_of head j terms).faults (omega arith)
    (atom_walks head j terms m middle t)) in
    elim (head_of head) as (λ k. let r : Read AtomText = elim k [
      | heads.Name ↦ atom_of head j terms
      | _ ↦ wrong (Unsupported word) at >> fine (no_atom word at)
    ] in Ordered (5 * at) r.faults (5 * high)) [ heads.Name ↦ atom | _ ↦ unsupported ]

plain_effect_walks : (at : ℕ) (head : List ℕ) (i : ℕ) (rest : Trees) (low high : ℕ) → at < i → i < low → Rises rest low high
    → Ordered (5 * at) (plain_effect_of at head i rest).faults (5 * high)
plain_effect_walks at head i rest low high a b r =
    let first : 5 * at ≤ 5 * i = omega arith in
    let below : low ≤ high = rises_le rest low high r in
    let unsupported : Ordered (5 * at) (wrong (Unsupported head) i).faults (5 * high) =
    lower (5 * at) (5 * i) (5 * high) (wrong (Unsupported head) i).faults first (told (Unsupported head) i rest low high b r) in
    elim (head_of head) as (λ k. let r : Read (List EffectItem) = elim k [
      | heads.Not ↦ negated_of head i rest >>= λ atom. fine (change false atom ∷ [])
      | heads.Name ↦ atom_of head i rest >>= λ atom. fine (change true atom ∷ [])
      | heads.Other ↦ wrong Shape at >> fine []
      | _ ↦ wrong (Unsupported head) i >> fine []
    ] in Ordered (5 * at) r.faults (5 * high)) [
      | heads.Not ↦ ended (5 * at) (5 * high) (negated_of head i rest).faults
          (lower (5 * at) (5 * i) (5 * high) (negated_of head i rest).faults first (negated_walks head i rest low high b r))
      | heads.Name ↦ ended (5 * at) (5 * high) (atom_of head i rest).faults
          (lower (5 * at) (5 * low) (5 * high) (atom_of head i rest).faults (omega arith) (atom_walks head i rest low high r))
      | heads.Other ↦ (omega arith, omega arith)
      | _ ↦ unsupported
    ]

pub effect_walks : (tree : Tree) (low high : ℕ) → TreeRises tree low high → Ordered (5 * low) (effect_of tree).faults (5 * high)
effect_walks tree low high r = conjunction_walks plain_effect_of plain_effect_walks tree low high r

stated_walks : (head : List ℕ) (i : ℕ) (rest : Trees) (low high : ℕ) → i < low → Rises rest low high
    → Ordered (5 * i) (stated_of head i rest).faults (5 * high)
stated_walks head i rest low high b r =
    let timed : Ordered (5 * i) (wrong (Unsupported head) i).faults (5 * high) = told (Unsupported head) i rest low high b r in
    elim (is_timed head rest) as (λ k. let r : Read InitFact = elim k [
      | true ↦ wrong (Unsupported head) i >> fine (literal true (no_atom head i))
      | false ↦ atom_of head i rest >>= λ atom. fine (literal true atom)
    ] in Ordered (5 * i) r.faults (5 * high)) [
      | true ↦ timed
      | false ↦ ended (5 * i) (5 * high) (atom_of head i rest).faults
          (lower (5 * i) (5 * low) (5 * high) (atom_of head i rest).faults (omega arith) (atom_walks head i rest low high r))
    ]

headed_fact_walks : (at : ℕ) (head : List ℕ) (i : ℕ) (rest : Trees) (low high : ℕ) → at < i → i < low → Rises rest low high
    → Ordered (5 * at) (headed_fact_of at head i rest).faults (5 * high)
headed_fact_walks at head i rest low high a b r =
    let first : 5 * at ≤ 5 * i = omega arith in
    let below : low ≤ high = rises_le rest low high r in
    let unsupported : Ordered (5 * at) (wrong (Unsupported head) i).faults (5 * high) =
    lower (5 * at) (5 * i) (5 * high) (wrong (Unsupported head) i).faults first (told (Unsupported head) i rest low high b r) in
    elim (head_of head) as (λ k. let r : Read InitFact = elim k [
      | heads.Not ↦ negated_of head i rest >>= λ atom. fine (literal false atom)
      | heads.Name ↦ stated_of head i rest
      | heads.Other ↦ wrong Shape at >> fine (literal true (no_atom head i))
      | _ ↦ wrong (Unsupported head) i >> fine (literal true (no_atom head i))
    ] in Ordered (5 * at) r.faults (5 * high)) [
      | heads.Not ↦ ended (5 * at) (5 * high) (negated_of head i rest).faults
          (lower (5 * at) (5 * i) (5 * high) (negated_of head i rest).faults first (negated_walks head i rest low high b r))
      | heads.Name ↦ lower (5 * at) (5 * i) (5 * high) (stated_of head i rest).faults first
          (stated_walks head i rest low high b r)
      | heads.Other ↦ (omega arith, omega arith)
      | _ ↦ unsupported
    ]

pub fact_walks : (tree : Tree) (low high : ℕ) → TreeRises tree low high → Ordered (5 * low) (fact_of tree).faults (5 * high)
fact_walks (Leaf text at) low high (l, h) = (omega arith, omega arith)
fact_walks (Branch at End) low high (l, r) = (omega arith, omega arith)
fact_walks (Branch at (Then (Branch i trees) rest)) low high (l, r) =
    let inside : suc at ≤ high = rises_le (Then (Branch i trees) rest) (suc at) high r in (omega arith, omega arith)
fact_walks (Branch at (Then (Leaf head i) rest)) low high (l, (middle, (m, h), r)) =
    ended (5 * low) (5 * high) (headed_fact_of at head i rest).faults
    (lower (5 * low) (5 * at) (5 * high) (headed_fact_of at head i rest).faults (omega arith)
    (headed_fact_walks at head i rest middle high m h r))
