-- Numbered children as births: what novelty tables ask of births that are dealt, and what they tell of them.
use Rattle.std.proofs.Common.{◌≡◌, ℕ, zero, suc, ◌+◌, ◌-◌, ◌^◌, ◌<◌, ◌≤◌, Bool, true, List, [], ◌∷◌, ◌++◌, length, map, drop, get_or, Option, Some, None, IfSome, refl, sym, ap, ◌∙◌, subst, append_assoc, arith}
use Rattle.std.specs.List.{All, AllPairs, Contains}
use Rattle.std.proofs.lemmas.List.{append-nil, get_or-map, length-map, length_push, map-append}
use Rattle.std.proofs.lemmas.List.Elements.{Contains-append_left, Contains-append_right}
use Rattle.std.proofs.lemmas.Option.{IfSome_then}
use Rattle.wp_task.specs.Set.{has}
use Rattle.wp_task.specs.Novelty.{Generated, novelty_of}
use Rattle.wp_count.specs.declared.brood.Child.{Child}
use Rattle.wp_novel.specs.Births.{BirthView, is_new, nodes_of}
use Rattle.wp_tuples.specs.Placing.{Placing}
use Rattle.wp_novel.specs.MarkedTuples.{AreCounted}
use Rattle.wp_novel.specs.NoveltyTables.{NoveltyTables, open_pairs, is_open, is_among}
use Rattle.wp_novel.specs.StandsFor.{StandsFor, AreMarkedBelow, SharedTuplesAreMarked, NoTupleIsOld}
use Rattle.wp_novel.specs.Jobs.{IsReady}
use Rattle.wp_nodes.specs.declared.kept.Kept.{Kept}
use Rattle.wp_plain.specs.Explored.{numbered, all_numbered}
use Rattle.wp_commit.specs.declared.births.Rest.{Rest}
use Rattle.wp_commit.specs.declared.newborn.Newborn.{Newborn}
use Rattle.wp_commit.specs.declared.searched.Searched.{Searched}
use Rattle.wp_commit.specs.Newborns.{rest_of, child_with, newborns_of}
use Rattle.wp_commit.specs.Entering.{AreFresh, IsFresh, HasBirth, StandsForEarlier, CanBeBorn, CanBeAsked}
use Rattle.wp_commit.proofs.ConditionLemmas.{length-numbered}

birth-at : (n : ℕ) (children : List Child) (k : ℕ) (d : Generated) (e : Child) → k < length children →
    get_or (all_numbered n children) k d ≡ numbered (n + k) (get_or children k e)
birth-at n [] k d e within = absurd (omega arith)
birth-at n (c ∷ children) zero d e within = ap (λ i. numbered i c) (let same : n ≡ n + 0 = omega arith in same)
birth-at n (c ∷ children) (suc k) d e within =
    birth-at (n + 1) children k d e (omega arith)
    ∙ ap (λ i. numbered i (get_or children k e)) (let same : n + 1 + k ≡ n + suc k = omega arith in same)

-- some child, where there is one
a_child : (children : List Child) (k : ℕ) → k < length children → Child
a_child [] k within = absurd (omega arith)
a_child (c ∷ children) k within = c

-- one birth more of a list of children that is gone through
pub births-next : (first : ℕ) (done now : List BirthView) (b : BirthView) (before left : List Child) (c : Child) → now ≡ done ++ b ∷ [] → before ≡ c ∷ left →
    b.node ≡ numbered (first + length done) c →
    nodes_of now ++ all_numbered (first + length now) left ≡ nodes_of done ++ all_numbered (first + length done) before
births-next first done now b before left c pushed steps same =
    let n : ℕ = first + length done in
    let nodes : nodes_of now ≡ nodes_of done ++ b.node ∷ [] = ap nodes_of pushed ∙ map-append (λ (x : BirthView). x.node) done (b ∷ []) in
    let next : first + length now ≡ n + 1 = let longer : length now ≡ length done + 1 = ap length pushed ∙ length_push done b in omega arith in
    (λ j. nodes j ++ all_numbered (next j) left)
    ∙ (append_assoc (nodes_of done) (b.node ∷ []) (all_numbered (n + 1) left)
    ∙ ((λ j. nodes_of done ++ same j ∷ all_numbered (n + 1) left)
    ∙ ap (λ l. nodes_of done ++ all_numbered n l) (sym steps)))

-- ---- the births of some children
module _ (first : ℕ) (children : List Child) (births : List BirthView) (are : nodes_of births ≡ all_numbered first children) where
  pub count-births : length births ≡ length children
  count-births = sym (length-map births (λ (b : BirthView). b.node)) ∙ (ap length are ∙ length-numbered first children)

  -- the birth at a place is that of the child there
  birth-there : (k : ℕ) (d : BirthView) (e : Child) → k < length births → (get_or births k d).node ≡ numbered (first + k) (get_or children k e)
  birth-there k d e within =
      sym (get_or-map (λ (b : BirthView). b.node) births k d d.node within)
      ∙ (ap (λ l. get_or l k d.node) are ∙ birth-at first children k d.node e (omega (arith, count-births)))

  some_child : (k : ℕ) → k < length births → Child
  some_child k within = a_child children k (omega (arith, count-births))

  -- what holds of each child with its number holds of the births
  births_all : (Q : Generated → Type 0) → ((k : ℕ) (e : Child) → k < length children → Q (numbered (first + k) (get_or children k e))) →
      All (λ b. Q b.node) births
  births_all Q each k d within =
      subst Q (sym (birth-there k d (some_child k within) within)) (each k (some_child k within) (omega (arith, count-births)))

  pub births_later : (before : Option ℕ) → IfSome before (λ last. last < first) → IfSome before (λ last. All (λ b. last < b.node.number) births)
  births_later before later =
      IfSome_then before later (λ last below. births_all (λ x. last < x.number) (λ k e within. omega arith))

  pub births_rising : AllPairs (λ x y. x.node.number < y.node.number) births
  births_rising i j d less within =
      let second : j < length births = within in
      let early : i < length births = omega arith in
      let one : (get_or births i d).node.number ≡ first + i = ap (λ b. b.number) (birth-there i d (some_child i early) early) in
      let other : (get_or births j d).node.number ≡ first + j = ap (λ b. b.number) (birth-there j d (some_child j second) second) in
      omega arith

-- ---- fresh atoms
module _ (shared : SharedTuplesAreMarked) (none : NoTupleIsOld) (s : Searched) (parent : Kept) (t : NoveltyTables) (at : StandsForEarlier s parent t) where
  -- the tuples of a birth without a fresh atom were marked by an earlier birth of its pair, or before it
  fresh_marked : (b : BirthView) (bound : ℕ) → s.numbered ≤ bound → IsFresh s parent b → AreMarkedBelow t bound b
  fresh_marked b bound most = by b.fresh refl where
    by : (o : Option (List ℕ)) → b.fresh ≡ o → IfSome o (AreFresh s parent b.node.counters b.node.state) → AreMarkedBelow t bound b
    by None is fresh = none t b bound is
    by (Some atoms) is (state, earlier, beside) =
        let y : HasBirth at.births s.numbered b.node.counters state = at.earlier b.node.counters state earlier in
        shared t at.births y.birth b bound at.stands y.there y.counters_are
        (λ p here old. subst (λ (set : List Bool). has set p ≡ true) (sym y.state_is) (beside p here (ap (λ (f : Option (List ℕ)). is_new f p) (sym is) ∙ old)))
        (let below : y.birth.number < s.numbered = y.before in omega arith)

  module _ (children : List Child) (births : List BirthView) (are : nodes_of births ≡ all_numbered s.numbered children)
      (fresh : All (IsFresh s parent) births) (can : All (CanBeBorn t) children) where
    -- so the births can be marked
    pub births_ready : s.numbered + length children < 2 ^ 63 → All (IsReady t) births
    births_ready room k d within =
        let b = get_or births k d in
        let inside : k < length children = omega (arith, count-births s.numbered children births are) in
        let e = a_child children k inside in
        let node_is : b.node ≡ numbered (s.numbered + k) (get_or children k e) = birth-there s.numbered children births are k d e within in
        let child : CanBeBorn t (get_or children k e) = can k e inside in
        record {
          pair = ap (λ (x : Generated). is_open t x.counters) node_is ∙ child.pair;
          size = ap (λ (x : Generated). length x.state) node_is ∙ child.size;
          number = let is : b.node.number ≡ s.numbered + k = ap (λ (x : Generated). x.number) node_is in omega arith;
          counted = subst (λ (x : Generated). AreCounted t.index x.state) (sym node_is) child.counted;
          marked = fresh_marked b (2 ^ 64 - 1) (omega arith) (fresh k d within);
        }

    -- and asked for their novelties
    pub births_asked : All (CanBeAsked t) births
    births_asked k d within =
        let b = get_or births k d in
        let inside : k < length children = omega (arith, count-births s.numbered children births are) in
        let e = a_child children k inside in
        let node_is : b.node ≡ numbered (s.numbered + k) (get_or children k e) = birth-there s.numbered children births are k d e within in
        let child : CanBeBorn t (get_or children k e) = can k e inside in
        record {
          pair = ap (λ (x : Generated). is_open t x.counters) node_is ∙ child.pair;
          size = ap (λ (x : Generated). length x.state) node_is ∙ child.size;
          counted = subst (λ (x : Generated). AreCounted t.index x.state) (sym node_is) child.counted;
          marked = fresh_marked b b.node.number
              (let is : b.node.number ≡ s.numbered + k = ap (λ (x : Generated). x.number) node_is in omega arith) (fresh k d within);
        }

-- tables that stand for more births stand for those that a child is compared with too
pub still_earlier : (s : Searched) (parent : Kept) (old new : NoveltyTables) (at : StandsForEarlier s parent old) (more : List Generated) →
    StandsFor new (at.births ++ more) → StandsForEarlier s parent new
still_earlier s parent old new at more stands = record {
  births = at.births ++ more;
  stands = stands;
  earlier = λ counters state is.
      let y : HasBirth at.births s.numbered counters state = at.earlier counters state is in
      record {
        birth = y.birth;
        there = Contains-append_left at.births more y.birth y.there;
        counters_are = y.counters_are;
        state_is = y.state_is;
        before = y.before;
      };
}

-- and so it is with the children
pub still_born : (old new : NoveltyTables) (children : List Child) → open_pairs new ≡ open_pairs old → new.index ≡ old.index →
    All (CanBeBorn old) children → All (CanBeBorn new) children
still_born old new children pairs index can k d within =
    let c : CanBeBorn old (get_or children k d) = can k d within in
    let child = get_or children k d in
    record {
      pair = ap (λ (ps : List (ℕ × ℕ)). is_among ps (child.g, child.r)) pairs ∙ c.pair;
      size = c.size ∙ ap (λ (i : Placing). i.atoms) (sym index);
      counted = subst (λ (i : Placing). AreCounted i child.state) (sym index) c.counted;
    }

-- ---- newborns, one after another
-- what is left of the births and of what else their children have is that of the children from some place on, and the newborns
-- so far are those before it
pub record IsLeft (width : ℕ) (all : List Generated) (first : ℕ) (children : List Child) (done : List Newborn) (births : List BirthView) (rests : List Rest) : Type 0 where
  pub left : List Child
  pub births_are : nodes_of births ≡ all_numbered (first + length done) left
  pub rests_are : rests ≡ map rest_of left
  pub among : (b : Generated) → Contains (nodes_of births) b → Contains (all_numbered first children) b
  pub newborns : done ++ newborns_of width all (first + length done) left ≡ newborns_of width all first children

pub left-all : (width : ℕ) (all : List Generated) (first : ℕ) (children : List Child) (births : List BirthView) (rests : List Rest) →
    nodes_of births ≡ all_numbered first children → rests ≡ map rest_of children → IsLeft width all first children [] births rests
left-all width all first children births rests births_are rests_are =
    let none : first ≡ first + 0 = omega arith in
    record {
      left = children;
      births_are = births_are ∙ ap (λ n. all_numbered n children) none;
      rests_are = rests_are;
      among = λ b there. subst (λ l. Contains l b) births_are there;
      newborns = ap (λ n. newborns_of width all n children) (sym none);
    }

pub left-none : (width : ℕ) (all : List Generated) (first : ℕ) (children : List Child) (done : List Newborn) (births : List BirthView) (rests : List Rest) →
    births ≡ [] → IsLeft width all first children done births rests → done ≡ newborns_of width all first children
left-none width all first children done births rests empty at = by at.left at.births_are at.newborns where
  by : (left : List Child) → nodes_of births ≡ all_numbered (first + length done) left →
      done ++ newborns_of width all (first + length done) left ≡ newborns_of width all first children → done ≡ newborns_of width all first children
  by [] births_are newborns = sym (append-nil done) ∙ newborns
  by (c ∷ cs) births_are newborns =
      absurd (let no : 0 ≡ suc (length (all_numbered (first + length done + 1) cs)) = ap (λ l. length (nodes_of l)) (sym empty) ∙ ap length births_are in omega arith)

pub left-next : (tables : NoveltyTables) (nodes : List Generated) (first : ℕ) (children : List Child) (done now : List Newborn)
    (b : BirthView) (bs : List BirthView) (r : Rest) (rs : List Rest) (x : Newborn) → now ≡ done ++ x ∷ [] → x.number ≡ b.node.number → x.child ≡ child_with b.node r →
    ((births : List Generated) → StandsFor tables births → Contains births b.node → x.w ≡ novelty_of tables.index.width births b.node) →
    StandsFor tables (nodes ++ all_numbered first children) →
    IsLeft tables.index.width (nodes ++ all_numbered first children) first children done (b ∷ bs) (r ∷ rs) →
    IsLeft tables.index.width (nodes ++ all_numbered first children) first children now bs rs
left-next tables nodes first children done now b bs r rs x pushed number_is child_is novelty stands at =
    by at.left at.births_are at.rests_are at.newborns where
      width : ℕ
      width = tables.index.width

      all : List Generated
      all = nodes ++ all_numbered first children

      n : ℕ
      n = first + length done

      there : Contains all b.node
      there = Contains-append_right nodes (all_numbered first children) b.node (at.among b.node (0, omega arith, refl))

      next : n + 1 ≡ first + length now
      next = let longer : length now ≡ length done + 1 = ap length pushed ∙ length_push done x in omega arith

      by : (left : List Child) → nodes_of (b ∷ bs) ≡ all_numbered n left → r ∷ rs ≡ map rest_of left →
          done ++ newborns_of width all n left ≡ newborns_of width all first children → IsLeft width all first children now bs rs
      by [] births_are rests_are newborns = absurd (let no : suc (length (nodes_of bs)) ≡ 0 = ap length births_are in omega arith)
      by (c ∷ cs) births_are rests_are newborns =
          let b_is : b.node ≡ numbered n c = ap (λ l. get_or l 0 b.node) births_are in
          let r_is : r ≡ rest_of c = ap (λ l. get_or l 0 r) rests_are in
          let w_is : x.w ≡ novelty_of width all (numbered n c) =
          novelty all stands there ∙ ap (novelty_of width all) b_is in
          let c_is : x.child ≡ c = child_is ∙ (λ j. child_with (b_is j) (r_is j)) in
          let x_is : x ≡ record { number = n; w = novelty_of width all (numbered n c); child = c } =
          (λ j. let y : Newborn = record { number = (number_is ∙ ap (λ d. d.number) b_is) j; w = w_is j; child = c_is j } in y) in
          record {
            left = cs;
            births_are = ap (drop 1) births_are ∙ ap (λ k. all_numbered k cs) next;
            rests_are = ap (drop 1) rests_are;
            among = λ d later. at.among d (suc later.0, omega (arith, later.1), later.2);
            newborns = (λ j. pushed j ++ newborns_of width all (sym next j) cs)
                ∙ (append_assoc done (x ∷ []) (newborns_of width all (n + 1) cs)
                ∙ ((λ j. done ++ x_is j ∷ newborns_of width all (n + 1) cs)
                ∙ newborns));
          }
