-- Pairs that are looked at one after another: what is settled was looked at.
use Rattle.std.proofs.Common.{◌≡◌, ◌==◌, ◌⊎◌, ◌&&◌, ◌||◌, not, ℕ, ◌+◌, ◌<◌, ◌≤◌, ◌++◌, ◌∷◌, [], eqb, nat_lt, Bool, true, false, List, length, get_or, refl, sym, ap, ◌∙◌, subst, inl, inr, ⊎_elim, arith}
use Rattle.std.specs.List.{list_all, range_with_len, All, Contains}
use Rattle.std.proofs.lemmas.Bool.{cases_Bool, cases_lt, lt-ltb, ltb-true, both_ways, eqb-true, eq-eqb, and_parts, and_from, or_cases, or_left, or_right, or_from, not-true, not_from_false}
use Rattle.std.proofs.lemmas.List.{get_or_default}
use Rattle.std.proofs.lemmas.List.Elements.{All-contains}
use Rattle.std.proofs.lemmas.List.FromFn.{get_or-range_with_len, length-range_with_len}
use Rattle.wp_task.specs.declared.acts.Act.{Act}
use Rattle.wp_task.specs.Set.{has, lists}
use Rattle.wp_task.specs.Task.{act_at, needers_of}
use Rattle.wp_task.proofs.Members.{In, In-at, In-filter, Contains-from_In, list_all-at, list_all-from, list_any-at, list_any-from}
use Rattle.wp_mutex.specs.PossiblePairs.{joins, joins_all, may_apply, may_follow, possible_pairs, HasRows, HasPairsOf, ArePairsOf, IsStep, IsClosed}
use Rattle.wp_mutex.specs.WorkList.{Work, is_pair, waits, is_settled, Grows, IsWithin, IsSound, HasMade, IsSettling, concerns}
use Rattle.wp_mutex.proofs.PairLemmas.{may_apply-more, may_follow-more}
use Rattle.wp_mutex.proofs.LeastClosed.{possible_closed, least_is_possible}
use Rattle.wp_mutex.proofs.Growing.{waits-push, made_later}

-- ---- lists of numbers
pub In-from_lists : (xs : List ℕ) (q : ℕ) → lists xs q ≡ true → In q xs
In-from_lists xs q listed =
    let found : (x : ℕ) × In x xs × (eqb x q ≡ true) = list_any-at (λ x. eqb x q) xs listed in
    subst (λ (x : ℕ). In x xs) (eqb-true found.0 q found.2) found.1

pub lists-from_In : (xs : List ℕ) (q : ℕ) → In q xs → lists xs q ≡ true
lists-from_In xs q there = list_any-from (λ x. eqb x q) xs q there (eq-eqb q q refl)

-- ---- with more pairs of the atoms that are asked for
module _ (less more : ℕ → ℕ → Bool) (act : Act) where
  may_apply-on : ((p q : ℕ) → In p act.pre → In q act.pre → less p q ≡ true → more p q ≡ true) →
      may_apply less act ≡ true → may_apply more act ≡ true
  may_apply-on keeps all =
      list_all-from (joins_all more act.pre) act.pre (λ q there.
      list_all-from (λ p. more p q) act.pre (λ p with_it.
      keeps p q with_it there
      (list_all-at (λ k. less k q) act.pre (list_all-at (joins_all less act.pre) act.pre all q there) p with_it)))

  may_follow-on : (q : ℕ) → (less q q ≡ true → more q q ≡ true) → ((p : ℕ) → In p act.pre → less p q ≡ true → more p q ≡ true) →
      may_follow less act q ≡ true → may_follow more act q ≡ true
  may_follow-on q itself keeps may = ⊎_elim
      (λ (added : lists act.add q ≡ true). or_left (lists act.add q) ((more q q && joins_all more act.pre q) && not (lists act.del q)) added)
      (λ (stays : ((less q q && joins_all less act.pre q) && not (lists act.del q)) ≡ true).
      let parts = and_parts (less q q && joins_all less act.pre q) (not (lists act.del q)) stays in
      let known = and_parts (less q q) (joins_all less act.pre q) parts.0 in
      let all : joins_all more act.pre q ≡ true =
      list_all-from (λ p. more p q) act.pre (λ p there. keeps p there (list_all-at (λ k. less k q) act.pre known.1 p there)) in
      or_right (lists act.add q) ((more q q && joins_all more act.pre q) && not (lists act.del q))
      (and_from (more q q && joins_all more act.pre q) (not (lists act.del q))
      (and_from (more q q) (joins_all more act.pre q) (itself known.0) all) parts.1))
      (or_cases (lists act.add q) ((less q q && joins_all less act.pre q) && not (lists act.del q)) may)

-- ---- which actions wait for a pair
module _ (act : Act) (a b q : ℕ) where
  abbrev both : Bool
  both = lists act.pre a && lists act.pre b

  abbrev beside : Bool
  beside = ((a == q) || (b == q)) && ((lists act.pre a || lists act.pre b) || (a == b))

  concerns-both : lists act.pre a ≡ true → lists act.pre b ≡ true → concerns act a b q ≡ true
  concerns-both one other = or_left both beside (and_from (lists act.pre a) (lists act.pre b) one other)

  concerns-beside : ((a == q) || (b == q)) ≡ true → ((lists act.pre a || lists act.pre b) || (a == b)) ≡ true → concerns act a b q ≡ true
  concerns-beside one other =
      or_right both beside (and_from ((a == q) || (b == q)) ((lists act.pre a || lists act.pre b) || (a == b)) one other)

  -- the pair of two preconditions
  pub concerns-needs : (x y : ℕ) → In x act.pre → In y act.pre → is_pair x y (a, b) ≡ true → concerns act a b q ≡ true
  concerns-needs x y one other same = ⊎_elim
      (λ (straight : ((a == x) && (b == y)) ≡ true).
      let parts = and_parts (a == x) (b == y) straight in
      let left : a ≡ x = eqb-true a x parts.0 in
      let right : b ≡ y = eqb-true b y parts.1 in
      concerns-both (ap (lists act.pre) left ∙ lists-from_In act.pre x one) (ap (lists act.pre) right ∙ lists-from_In act.pre y other))
      (λ (turned : ((a == y) && (b == x)) ≡ true).
      let parts = and_parts (a == y) (b == x) turned in
      let left : a ≡ y = eqb-true a y parts.0 in
      let right : b ≡ x = eqb-true b x parts.1 in
      concerns-both (ap (lists act.pre) left ∙ lists-from_In act.pre y other) (ap (lists act.pre) right ∙ lists-from_In act.pre x one))
      (or_cases ((a == x) && (b == y)) ((a == y) && (b == x)) same)

  -- the pair of q with a precondition
  pub concerns-with : (x : ℕ) → In x act.pre → is_pair x q (a, b) ≡ true → concerns act a b q ≡ true
  concerns-with x there same = ⊎_elim
      (λ (straight : ((a == x) && (b == q)) ≡ true).
      let parts = and_parts (a == x) (b == q) straight in
      let left : a ≡ x = eqb-true a x parts.0 in
      concerns-beside (or_right (a == q) (b == q) parts.1)
      (or_left (lists act.pre a || lists act.pre b) (a == b)
      (or_left (lists act.pre a) (lists act.pre b) (ap (lists act.pre) left ∙ lists-from_In act.pre x there))))
      (λ (turned : ((a == q) && (b == x)) ≡ true).
      let parts = and_parts (a == q) (b == x) turned in
      let right : b ≡ x = eqb-true b x parts.1 in
      concerns-beside (or_left (a == q) (b == q) parts.0)
      (or_left (lists act.pre a || lists act.pre b) (a == b)
      (or_right (lists act.pre a) (lists act.pre b) (ap (lists act.pre) right ∙ lists-from_In act.pre x there))))
      (or_cases ((a == x) && (b == q)) ((a == q) && (b == x)) same)

  -- the pair of q with itself
  pub concerns-itself : is_pair q q (a, b) ≡ true → concerns act a b q ≡ true
  concerns-itself same =
      let either : ((a == q) && (b == q)) ≡ true = ⊎_elim
      (λ (one : ((a == q) && (b == q)) ≡ true). one) (λ (other : ((a == q) && (b == q)) ≡ true). other)
      (or_cases ((a == q) && (b == q)) ((a == q) && (b == q)) same) in
      let parts = and_parts (a == q) (b == q) either in
      let left : a ≡ q = eqb-true a q parts.0 in
      let right : b ≡ q = eqb-true b q parts.1 in
      concerns-beside (or_left (a == q) (b == q) parts.0)
      (or_right (lists act.pre a || lists act.pre b) (a == b) (eq-eqb a b (left ∙ sym right)))

  -- an action that waits for the pair of two atoms needs one of them
  pub concerns-cases : concerns act a b q ≡ true → (a ≡ b → ⊥) → (lists act.pre a ≡ true) ⊎ (lists act.pre b ≡ true)
  concerns-cases waits_for differ = ⊎_elim
      (λ (one : both ≡ true).
      let found : (lists act.pre a ≡ true) ⊎ (lists act.pre b ≡ true) = inl (and_parts (lists act.pre a) (lists act.pre b) one).0 in found)
      (λ (other : beside ≡ true). ⊎_elim
      (λ (needs : (lists act.pre a || lists act.pre b) ≡ true). or_cases (lists act.pre a) (lists act.pre b) needs)
      (λ (same : (a == b) ≡ true). absurd (differ (eqb-true a b same)))
      (or_cases (lists act.pre a || lists act.pre b) (a == b)
      (and_parts ((a == q) || (b == q)) ((lists act.pre a || lists act.pre b) || (a == b)) other).1))
      (or_cases both beside waits_for)

  -- unless it needs both, it waits for the pair beside one of them
  pub concerns-one : concerns act a b q ≡ true → both ≡ false → (q ≡ a) ⊎ (q ≡ b)
  concerns-one waits_for not_both = ⊎_elim
      (λ (one : both ≡ true). absurd (both_ways both not_both one))
      (λ (other : beside ≡ true). ⊎_elim
      (λ (left : (a == q) ≡ true). let found : (q ≡ a) ⊎ (q ≡ b) = inl (sym (eqb-true a q left)) in found)
      (λ (right : (b == q) ≡ true). let found : (q ≡ a) ⊎ (q ≡ b) = inr (sym (eqb-true b q right)) in found)
      (or_cases (a == q) (b == q) (and_parts ((a == q) || (b == q)) ((lists act.pre a || lists act.pre b) || (a == b)) other).0))
      (or_cases both beside waits_for)

-- the number of an action
numbered : (acts : List Act) (act : Act) → Contains acts act → (a : ℕ) × (a < length acts) × (act_at acts a ≡ act)
numbered acts act among =
    let is : act_at acts among.0 ≡ act =
    get_or_default acts among.0 (record { pre = []; add = []; del = [] }) act among.1 ∙ among.2 in
    let found : (a : ℕ) × (a < length acts) × (act_at acts a ≡ act) = (among.0, among.1, is) in found

-- ---- at the start nothing is settled
module _ (acts : List Act) (init : List Bool) (empty opened work : Work) (rows : HasRows (length init) empty.pairs)
    (none : (p q : ℕ) → joins empty.pairs p q ≡ false)
    (first : Grows empty opened) (there : HasPairsOf init opened.pairs)
    (within : IsWithin (λ x y. has init x && has init y) empty.pairs opened.pairs)
    (next : Grows opened work) (sound : IsSound acts opened.pairs work.pairs)
    (made : (a : ℕ) → a < length acts → (act_at acts a).pre ≡ [] → HasMade (act_at acts a) (λ k. true) opened.pairs work.pairs) where
  nothing_settled : (p q : ℕ) → is_settled work p q ≡ true → ⊥
  nothing_settled p q done =
      both_ways (joins empty.pairs p q) (none p q)
      (and_parts (joins empty.pairs p q) (not (waits empty.waiting p q)) (first.settled p q (next.settled p q done))).0

  no_need : (pre atoms : List ℕ) → pre ≡ atoms → list_all (joins_all (is_settled work) pre) pre ≡ true → pre ≡ []
  no_need pre [] same all = same
  no_need pre (x ∷ atoms) same all =
      let among : In x pre = subst (λ (l : List ℕ). In x l) (sym same) (inl refl) in
      absurd (nothing_settled x x (list_all-at (λ p. is_settled work p x) pre
      (list_all-at (joins_all (is_settled work) pre) pre all x among) x among))

  added_alone : (act : Act) (q : ℕ) → may_follow (is_settled work) act q ≡ true → lists act.add q ≡ true
  added_alone act q may = ⊎_elim
      (λ (added : lists act.add q ≡ true). added)
      (λ (stays : ((is_settled work q q && joins_all (is_settled work) act.pre q) && not (lists act.del q)) ≡ true).
      absurd (nothing_settled q q (and_parts (is_settled work q q) (joins_all (is_settled work) act.pre q)
      (and_parts (is_settled work q q && joins_all (is_settled work) act.pre q) (not (lists act.del q)) stays).0).0))
      (or_cases (lists act.add q) ((is_settled work q q && joins_all (is_settled work) act.pre q) && not (lists act.del q)) may)

  size : length opened.pairs ≡ length init
  size = first.size ∙ rows.count

  first_steps : IsStep acts (length init) (is_settled work) work.pairs
  first_steps act p q among low high may adds follows =
      let at = numbered acts act among in
      let bare : (act_at acts at.0).pre ≡ [] = ap (λ (x : Act). x.pre) at.2 ∙ no_need act.pre act.pre refl may in
      let free : may_apply (joins opened.pairs) (act_at acts at.0) ≡ true =
      ap (λ (l : List ℕ). list_all (joins_all (joins opened.pairs) l) l) bare in
      let left : p < length opened.pairs = omega (arith, size) in
      let right : q < length opened.pairs = omega (arith, size) in
      made at.0 at.1 bare p q left right refl free (ap (λ (x : Act). lists x.add p) at.2 ∙ adds)
      (or_left (lists (act_at acts at.0).add q)
      ((joins opened.pairs q q && joins_all (joins opened.pairs) (act_at acts at.0).pre q) && not (lists (act_at acts at.0).del q))
      (ap (λ (x : Act). lists x.add q) at.2 ∙ added_alone act q follows))

  pub starts : IsSettling acts init work
  starts =
      let closed : IsClosed acts init (possible_pairs acts init) = possible_closed acts init in
      record {
        rows = next.rows (length init) (first.rows (length init) rows);
        opening = λ p q one other. next.more p q (there p q one other);
        steps = first_steps;
        within = sound (possible_pairs acts init)
            (subst (λ (n : ℕ). IsStep acts n (joins (possible_pairs acts init)) (possible_pairs acts init)) (sym size) closed.steps)
            (within (possible_pairs acts init)
            (λ p q in_none. absurd (both_ways (joins empty.pairs p q) (none p q) in_none))
            (λ p q both. let parts = and_parts (has init p) (has init q) both in closed.opening p q parts.0 parts.1));
      }

-- ---- a pair is looked at
module _ (acts : List Act) (init : List Bool) (old mid new : Work) (a b : ℕ) (at : IsSettling acts init old)
    (same : mid.pairs ≡ old.pairs) (taken : old.waiting ≡ mid.waiting ++ (a, b) ∷ [])
    (grows : Grows mid new) (sound : IsSound acts mid.pairs new.pairs)
    (made : (k : ℕ) → k < length acts → HasMade (act_at acts k) (concerns (act_at acts k) a b) mid.pairs new.pairs) where
  settled_before : (x y : ℕ) → is_pair x y (a, b) ≡ false → is_settled new x y ≡ true → is_settled old x y ≡ true
  settled_before x y other done =
      let parts = and_parts (joins mid.pairs x y) (not (waits mid.waiting x y)) (grows.settled x y done) in
      let known : joins old.pairs x y ≡ true = ap (λ (pairs : List (List Bool)). joins pairs x y) (sym same) ∙ parts.0 in
      let idle : waits old.waiting x y ≡ false =
      ap (λ (l : List (ℕ × ℕ)). waits l x y) taken
      ∙ (waits-push mid.waiting a b x y ∙ or_from (waits mid.waiting x y) (is_pair x y (a, b)) (not-true (waits mid.waiting x y) parts.1) other) in
      and_from (joins old.pairs x y) (not (waits old.waiting x y)) known (not_from_false (waits old.waiting x y) idle)

  known_before : (x y : ℕ) → is_settled new x y ≡ true → joins mid.pairs x y ≡ true
  known_before x y done = (and_parts (joins mid.pairs x y) (not (waits mid.waiting x y)) (grows.settled x y done)).0

  -- what the pair does not concern was settled before
  unless : (act : Act) (q x y : ℕ) → concerns act a b q ≡ false → (is_pair x y (a, b) ≡ true → concerns act a b q ≡ true) →
      is_settled new x y ≡ true → is_settled old x y ≡ true
  unless act q x y not_for then_for done = ⊎_elim
      (λ (is : is_pair x y (a, b) ≡ true). absurd (both_ways (concerns act a b q) not_for (then_for is)))
      (λ (is_not : is_pair x y (a, b) ≡ false). settled_before x y is_not done)
      (cases_Bool (is_pair x y (a, b)))

  mid_size : length mid.pairs ≡ length init
  mid_size = ap length same ∙ at.rows.count

  next_steps : IsStep acts (length init) (is_settled new) new.pairs
  next_steps act p q among low high may adds follows = ⊎_elim
      (λ (for : concerns act a b q ≡ true).
      let k = numbered acts act among in
      let is : act_at acts k.0 ≡ act = k.2 in
      let left : p < length mid.pairs = omega (arith, mid_size) in
      let right : q < length mid.pairs = omega (arith, mid_size) in
      subst (λ (x : Act). HasMade x (concerns x a b) mid.pairs new.pairs) is (made k.0 k.1) p q left right for
      (may_apply-more (is_settled new) (joins mid.pairs) known_before act may) adds
      (may_follow-more (is_settled new) (joins mid.pairs) known_before act q follows))
      (λ (not_for : concerns act a b q ≡ false).
      let due : joins old.pairs p q ≡ true =
      at.steps act p q among low high
      (may_apply-on (is_settled new) (is_settled old) act
      (λ x y one other. unless act q x y not_for (concerns-needs act a b q x y one other)) may) adds
      (may_follow-on (is_settled new) (is_settled old) act q
      (unless act q q q not_for (concerns-itself act a b q))
      (λ x there. unless act q x q not_for (concerns-with act a b q x there)) follows) in
      grows.more p q (ap (λ (pairs : List (List Bool)). joins pairs p q) same ∙ due))
      (cases_Bool (concerns act a b q))

  pub looked : IsSettling acts init new
  looked = record {
    rows = grows.rows (length init) (subst (λ (pairs : List (List Bool)). HasRows (length init) pairs) (sym same) at.rows);
    opening = λ p q one other. grows.more p q (ap (λ (pairs : List (List Bool)). joins pairs p q) same ∙ at.opening p q one other);
    steps = next_steps;
    within = sound (possible_pairs acts init)
        (subst (λ (n : ℕ). IsStep acts n (joins (possible_pairs acts init)) (possible_pairs acts init)) (sym mid_size) (possible_closed acts init).steps)
        (λ p q there. at.within p q (ap (λ (pairs : List (List Bool)). joins pairs p q) (sym same) ∙ there));
  }

-- ---- at the end everything is settled
pub all_settled : (acts : List Act) (init : List Bool) (work : Work) → IsSettling acts init work → work.waiting ≡ [] →
    work.pairs ≡ possible_pairs acts init
all_settled acts init work at none =
    let settled : (x y : ℕ) → joins work.pairs x y ≡ true → is_settled work x y ≡ true =
    λ x y there. and_from (joins work.pairs x y) (not (waits work.waiting x y)) there
    (not_from_false (waits work.waiting x y) (ap (λ (l : List (ℕ × ℕ)). waits l x y) none)) in
    least_is_possible acts init work.pairs at.rows
    (record {
      opening = at.opening;
      steps = λ act p q among low high may adds follows. at.steps act p q among low high
          (may_apply-more (joins work.pairs) (is_settled work) settled act may) adds
          (may_follow-more (joins work.pairs) (is_settled work) settled act q follows);
    }) at.within

-- ---- one step of a loop
-- a listed number has a place
pub lists_place : (xs : List ℕ) (p : ℕ) → lists xs p ≡ true → (k : ℕ) × (k < length xs) × (get_or xs k 0 ≡ p)
lists_place xs p listed =
    let at : Contains xs p = Contains-from_In p xs (In-from_lists xs p listed) in
    let found : (k : ℕ) × (k < length xs) × (get_or xs k 0 ≡ p) = (at.0, at.1, get_or_default xs at.0 0 p at.1 ∙ at.2) in
    found

pub lists_at : (xs : List ℕ) (k : ℕ) → k < length xs → lists xs (get_or xs k 0) ≡ true
lists_at xs k within =
    lists-from_In xs (get_or xs k 0) (In-at (get_or xs k 0) xs k within (get_or_default xs k (get_or xs k 0) 0 within))

-- the needers of an atom are listed
pub needer_listed : (acts : List Act) (p a : ℕ) (listed : List ℕ) → listed ≡ needers_of acts p → a < length acts →
    lists (act_at acts a).pre p ≡ true → lists listed a ≡ true
needer_listed acts p a listed is within needs =
    let numbers : List ℕ = range_with_len 0 (length acts) in
    let place : get_or numbers a a ≡ a = get_or-range_with_len 0 (length acts) a a within ∙ (let e : 0 + a ≡ a = omega arith in e) in
    let inside : a < length numbers = omega (arith, length-range_with_len 0 (length acts)) in
    ap (λ (l : List ℕ). lists l a) is
    ∙ lists-from_In (needers_of acts p) a
    (In-filter (λ b. lists (act_at acts b).pre p) numbers a (In-at a numbers a inside place) needs)

pub made_next : (act : Act) (q : ℕ) (a b c : List (List Bool)) → length b ≡ length a → ArePairsOf a b → ArePairsOf b c →
    HasMade act (λ k. nat_lt k q) a b → HasMade act (λ k. k == q) b c → HasMade act (λ k. nat_lt k (q + 1)) a c
made_next act q a b c size before after made last x y low high holds may adds follows = ⊎_elim
    (λ (earlier : y < q). after x y (made x y low high (lt-ltb y q earlier) may adds follows))
    (λ (late : q ≤ y).
    let less : y < q + 1 = ltb-true y (q + 1) holds in
    let is : y ≡ q = omega arith in
    made_later act (λ k. k == q) a b c size before last x y low high (eq-eqb y q is) may adds follows)
    (cases_lt y q)

-- the pairs of the add effects with an atom that may follow are made with cause
pub fired : (acts : List Act) (a q : ℕ) (listed : List ℕ) (before after : List (List Bool)) → a < length acts → q < length before →
    listed ≡ (act_at acts a).add → All (λ p. p < length before) listed → may_apply (joins before) (act_at acts a) ≡ true →
    may_follow (joins before) (act_at acts a) q ≡ true → IsWithin (λ x y. lists listed x && (y == q)) before after →
    IsSound acts before after
fired acts a q listed before after number atom is below may follows within other closed old =
    within other old (λ x y holds.
    let parts = and_parts (lists listed x) (y == q) holds in
    let at : y ≡ q = eqb-true y q parts.1 in
    let there : get_or acts a (act_at acts a) ≡ act_at acts a =
    get_or_default acts a (act_at acts a) (record { pre = []; add = []; del = [] }) number in
    let among : Contains acts (act_at acts a) = (a, number, there) in
    let low : x < length before = All-contains (λ (p : ℕ). p < length before) listed x below (Contains-from_In x listed (In-from_lists listed x parts.0)) in
    let made : joins other x q ≡ true =
    closed (act_at acts a) x q among low atom (may_apply-more (joins before) (joins other) old (act_at acts a) may)
    (ap (λ (l : List ℕ). lists l x) (sym is) ∙ parts.0) (may_follow-more (joins before) (joins other) old (act_at acts a) q follows) in
    subst (λ (k : ℕ). joins other x k ≡ true) (sym at) made)
