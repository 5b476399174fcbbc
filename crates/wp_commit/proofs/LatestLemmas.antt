-- The latest birth of each pair is a birth of it, whose state is at hand; and so are the states that a child is compared with.
use Rattle.std.proofs.Common.{◌≡◌, ◌⊎◌, ◌+◌, ◌<◌, ℕ, Bool, true, false, cond, List, [], ◌∷◌, ◌++◌, length, Option, Some, None, IfSome, refl, sym, ap, ◌∙◌, subst, inl, inr, ⊎_elim, arith}
use Rattle.std.specs.List.{Contains}
use Rattle.std.proofs.lemmas.Bool.Decides.{nat_tests}
use Rattle.wp_task.specs.Task.{PlanningTask}
use Rattle.wp_task.specs.Novelty.{Generated}
use Rattle.wp_task.proofs.Members.{In, In-from_Contains, Contains-from_In, In-map, In-map_cases, In-append_left, In-append_right}
use Rattle.wp_count.specs.declared.brood.Child.{Child}
use Rattle.wp_novel.specs.declared.birth.Pair.{Pair}
use Rattle.wp_novel.specs.NoveltyTables.{NoveltyTables, counters_of, is_pair}
use Rattle.wp_nodes.specs.declared.kept.Kept.{Kept}
use Rattle.wp_plain.specs.declared.settings.Settings.{Settings}
use Rattle.wp_plain.specs.Nodes.{Node, generated_in}
use Rattle.wp_plain.specs.Run.{Moment}
use Rattle.wp_plain.specs.Explored.{numbered, all_numbered}
use Rattle.wp_plain.proofs.NumberLemmas.{number_below, one_node}
use Rattle.wp_commit.specs.declared.latest.Latest.{Latest}
use Rattle.wp_commit.specs.declared.newborn.Newborn.{Newborn}
use Rattle.wp_commit.specs.declared.searched.Searched.{Searched}
use Rattle.wp_commit.specs.Newborns.{newborns_of}
use Rattle.wp_commit.specs.Latest.{latest_of, IsOfRoot, IsBirthOf, AreBirths, HasLatestState, IsNoted, AreNoted}
use Rattle.wp_commit.specs.Entering.{IsEarlier, HasBirth}
use Rattle.wp_commit.specs.Searched.{HoldsAt}
use Rattle.wp_commit.proofs.TakeLemmas.{node_for}

-- ---- what is noted
same_counters : (p q : Pair) → is_pair p q ≡ true → counters_of p ≡ counters_of q
same_counters p q same =
    let g : p.g ≡ q.g = grind (arith, nat_tests) in
    let r : p.r ≡ q.r = grind (arith, nat_tests) in
    λ j. (g j, r j)

-- the root was noted where nothing was
pub root-noted : (root : Pair) (y : Latest) (old new : List (Pair × Latest)) → old ≡ [] → y.number ≡ 0 → y.pruned ≡ None →
    ((other : Pair) → latest_of new other ≡ cond (is_pair root other) (Some y) (latest_of old other)) → IsOfRoot root new
root-noted root y old new empty zero none after pair x found = by (is_pair root pair) refl (sym (after pair) ∙ found) where
  by : (b : Bool) → is_pair root pair ≡ b → cond b (Some y) (latest_of old pair) ≡ Some x →
      (counters_of root ≡ counters_of pair) × (x.number ≡ 0) × (x.pruned ≡ None)
  by true same here =
      let y_is : y ≡ x = cc in
      (same_counters root pair same, ap (λ (z : Latest). z.number) (sym y_is) ∙ zero, ap (λ (z : Latest). z.pruned) (sym y_is) ∙ none)
  by false same here = absurd (let no : None ≡ Some x = ap (λ l. latest_of l pair) (sym empty) ∙ here in cc)

-- so it is a birth
pub root-births : (root : Generated) (pair : Pair) (latest : List (Pair × Latest)) → root.number ≡ 0 → root.counters ≡ counters_of pair →
    IsOfRoot pair latest → AreBirths (root ∷ []) latest
root-births root pair latest zero counters of_root other x found =
    let is = of_root other x found in
    record {
      birth = root;
      there = (0, omega arith, refl);
      named = zero ∙ sym is.1;
      counters = counters ∙ is.0;
      pruned = subst (λ (o : Option (List Bool)). IfSome o (λ state. root.state ≡ state)) (sym is.2) tt;
    }

pub noted_none : (latest : List (Pair × Latest)) → AreNoted [] latest latest
noted_none latest pair y found = inl found

-- one newborn more was noted
pub noted_one : (x : Newborn) (pair : Pair) (y : Latest) (old new : List (Pair × Latest)) → IsNoted x pair y →
    ((other : Pair) → latest_of new other ≡ cond (is_pair pair other) (Some y) (latest_of old other)) → AreNoted (x ∷ []) old new
noted_one x pair y old new is after other z found = by (is_pair pair other) refl (sym (after other) ∙ found) where
  by : (b : Bool) → is_pair pair other ≡ b → cond b (Some y) (latest_of old other) ≡ Some z →
      (latest_of old other ≡ Some z) ⊎ ((n : Newborn) × Contains (x ∷ []) n × IsNoted n other z)
  by true same here =
      let z_is : y ≡ z = cc in
      inr (
        x,
        (0, omega arith, refl),
        subst (IsNoted x other) z_is (record {
          counters = is.counters ∙ same_counters pair other same;
          named = is.named;
          pruned = is.pruned;
        }),
      )
  by false same here = inl here

later_among : (x n : Newborn) (rest : List Newborn) → Contains rest n → Contains (x ∷ rest) n
later_among x n rest there = Contains-from_In n (x ∷ rest) (inr (In-from_Contains n rest there))

-- and then the others
pub noted_next : (x : Newborn) (rest : List Newborn) (old now new : List (Pair × Latest)) → AreNoted (x ∷ []) old now → AreNoted rest now new →
    AreNoted (x ∷ rest) old new
noted_next x rest old now new first others pair y found = ⊎_elim
    (λ (before : latest_of now pair ≡ Some y). ⊎_elim
    (λ (older : latest_of old pair ≡ Some y). inl older)
    (λ (one : (n : Newborn) × Contains (x ∷ []) n × IsNoted n pair y).
    inr (one.0, by one.0 (In-from_Contains one.0 (x ∷ []) one.1), one.2))
    (first pair y before))
    (λ (one : (n : Newborn) × Contains rest n × IsNoted n pair y). inr (one.0, later_among x one.0 rest one.1, one.2))
    (others pair y found) where
      by : (n : Newborn) → In n (x ∷ []) → Contains (x ∷ rest) n
      by n (inl same) = Contains-from_In n (x ∷ rest) (inl same)
      by n (inr none) = absurd none

-- ---- births
newborn-born : (width : ℕ) (all : List Generated) (n : ℕ) (cs : List Child) (x : Newborn) → In x (newborns_of width all n cs) →
    In (numbered x.number x.child) (all_numbered n cs)
newborn-born width all n [] x there = absurd there
newborn-born width all n (c ∷ cs) x (inl same) = inl (ap (λ (y : Newborn). numbered y.number y.child) same)
newborn-born width all n (c ∷ cs) x (inr later) = inr (newborn-born width all (n + 1) cs x later)

-- the latest births are births after an expansion too
pub births-noted : (width : ℕ) (all births : List Generated) (n : ℕ) (cs : List Child) (newborns : List Newborn) (old new : List (Pair × Latest)) →
    newborns ≡ newborns_of width all n cs → AreBirths births old → AreNoted newborns old new → AreBirths (births ++ all_numbered n cs) new
births-noted width all births n cs newborns old new is before noted pair y found = ⊎_elim
    (λ (older : latest_of old pair ≡ Some y).
    let b = before pair y older in
    record {
      birth = b.birth;
      there = Contains-from_In b.birth (births ++ all_numbered n cs) (In-append_left births (all_numbered n cs) b.birth (In-from_Contains b.birth births b.there));
      named = b.named;
      counters = b.counters;
      pruned = b.pruned;
    })
    (λ (one : (x : Newborn) × Contains newborns x × IsNoted x pair y).
    let x = one.0 in
    let among : In x (newborns_of width all n cs) = subst (In x) is (In-from_Contains x newborns one.1) in
    record {
      birth = numbered x.number x.child;
      there = Contains-from_In (numbered x.number x.child) (births ++ all_numbered n cs)
          (In-append_right births (all_numbered n cs) (numbered x.number x.child) (newborn-born width all n cs x among));
      named = one.2.named;
      counters = one.2.counters;
      pruned = one.2.pruned;
    })
    (noted pair y found)

-- ---- earlier births
module _ (task : PlanningTask) (settings : Settings) (s : Searched) (tables : NoveltyTables) (m : Moment) (holds : HoldsAt task settings s tables m) where
  -- a kept node is a birth
  kept-born : (k : Kept) → Contains s.nodes.kept k → HasBirth (generated_in m.nodes) s.numbered (k.mark.g, k.mark.r) k.state
  kept-born k there =
      let found = node_for task settings s tables m holds k there in
      let node = found.0 in
      let among : In node m.nodes = In-from_Contains node m.nodes found.1 in
      let below : node.generated.number < 0 + length m.nodes = number_below 0 m.nodes holds.numbers.numbers node among in
      let count : s.numbered ≡ length m.nodes = holds.counts.numbered in
      record {
        birth = node.generated;
        there = Contains-from_In node.generated (generated_in m.nodes) (In-map (λ (x : Node). x.generated) m.nodes node among);
        counters_are = ap (λ (x : Generated × ℕ). x.0.counters) (sym found.3);
        state_is = ap (λ (x : Generated × ℕ). x.0.state) (sym found.3);
        before = omega arith;
      }

  -- a birth of a number is one
  one-birth : (b : Generated) (k : Kept) → Contains (generated_in m.nodes) b → Contains s.nodes.kept k → k.number ≡ b.number → b.state ≡ k.state
  one-birth b k there kept same =
      let found = node_for task settings s tables m holds k kept in
      let from : (y : Node) × In y m.nodes × (b ≡ y.generated) =
      In-map_cases (λ (y : Node). y.generated) m.nodes b (In-from_Contains b (generated_in m.nodes) there) in
      let number : from.0.generated.number ≡ found.0.generated.number =
      ap (λ (x : Generated). x.number) (sym from.2) ∙ (sym same ∙ ap (λ (x : Generated × ℕ). x.0.number) found.3) in
      ap (λ (x : Generated). x.state) from.2
      ∙ (ap (λ (x : Node). x.generated.state) (one_node 0 m.nodes holds.numbers.numbers from.0 found.0 from.1 (In-from_Contains found.0 m.nodes found.1) number)
      ∙ ap (λ (x : Generated × ℕ). x.0.state) (sym found.3))

  latest-born : (pair : Pair) (state : List Bool) → HasLatestState s.nodes.kept s.latest.entries pair state →
      HasBirth (generated_in m.nodes) s.numbered (counters_of pair) state
  latest-born pair state (x, found, is) =
      let b : IsBirthOf (generated_in m.nodes) pair x = holds.latest pair x found in
      let from : (y : Node) × In y m.nodes × (b.birth ≡ y.generated) =
      In-map_cases (λ (y : Node). y.generated) m.nodes b.birth (In-from_Contains b.birth (generated_in m.nodes) b.there) in
      let below : from.0.generated.number < 0 + length m.nodes = number_below 0 m.nodes holds.numbers.numbers from.0 from.1 in
      let count : s.numbered ≡ length m.nodes = holds.counts.numbered in
      let number : b.birth.number ≡ from.0.generated.number = ap (λ (y : Generated). y.number) from.2 in
      record {
        birth = b.birth;
        there = b.there;
        counters_are = b.counters;
        state_is = ⊎_elim
            (λ (pruned : x.pruned ≡ Some state). subst (λ (o : Option (List Bool)). IfSome o (λ t. b.birth.state ≡ t)) pruned b.pruned)
            (λ (kept : (k : Kept) × Contains s.nodes.kept k × (k.number ≡ x.number) × (k.state ≡ state)).
            one-birth b.birth kept.0 b.there kept.1 (kept.2 ∙ sym b.named) ∙ kept.3)
            is;
        before = omega arith;
      }

  -- what a child is compared with is the state of an earlier birth of its pair
  pub earlier-born : (parent : Kept) → Contains s.nodes.kept parent → (counters : ℕ × ℕ) (state : List Bool) → IsEarlier s parent counters state →
      HasBirth (generated_in m.nodes) s.numbered counters state
  earlier-born parent there counters state = ⊎_elim
      (λ (is : (parent.state ≡ state) × ((parent.mark.g, parent.mark.r) ≡ counters)).
      subst (λ c. HasBirth (generated_in m.nodes) s.numbered c state) is.1
      (subst (HasBirth (generated_in m.nodes) s.numbered (parent.mark.g, parent.mark.r)) is.0 (kept-born parent there)))
      (λ (is : (pair : Pair) × (counters_of pair ≡ counters) × HasLatestState s.nodes.kept s.latest.entries pair state).
      subst (λ c. HasBirth (generated_in m.nodes) s.numbered c state) is.1 (latest-born is.0 state is.2))
