-- Growths that are made for births, and homes that take them one after another.
use Rattle.std.proofs.Common.{◌≡◌, ◌⊎◌, ◌||◌, ◌&&◌, ℕ, zero, suc, ◌+◌, ◌<◌, ◌≤◌, cond, Bool, true, false, List, [], ◌∷◌, ◌++◌, length, get_or, take, Option, None, Some, refl, sym, ap, ◌∙◌, subst, inl, inr, ⊎_elim, arith, length-append}
use Rattle.std.specs.Prelude.{◌==◌, ◌-◌, ◌^◌, nat_lt, IsSome, IfNone, IfSome}
use Rattle.std.specs.List.{All, AllPairs, list_all, list_any}
use Rattle.std.proofs.lemmas.Bool.{cases_Bool, cases_lt, both_ways, false_from_ne_true, or_cases, or_parts, cond-false, and_parts, and_from, lt-ltb, ltb-true}
use Rattle.std.proofs.lemmas.List.{get_or_append_left, get_or-append-add, length_push, take_more}
use Rattle.std.proofs.lemmas.List.Elements.{All-nil, All-cons, All-head, All-tail, All-push, All-more, All-weaker}
use Rattle.std.proofs.lemmas.List.Folds.{list_any-append}
use Rattle.wp_task.specs.Set.{atoms_in}
use Rattle.wp_tuples.specs.Placing.{HasPlace, place_in, AreApart}
use Rattle.wp_tuples.specs.Ranking.{Ranking, is_ranked, is_held, ranked, unranked, Extends, HoldsAtoms}
use Rattle.wp_arrive.specs.declared.view.Arrival.{Arrival}
use Rattle.wp_arrive.specs.FirstArrival.{first}
use Rattle.wp_arrive.specs.Seen.{PassView}
use Rattle.wp_tuples.proofs.RankLemmas.{extends_itself, extends_then}
use Rattle.wp_novel.specs.Births.{BirthView, is_new}
use Rattle.wp_novel.specs.MarkedTuples.{new_atoms, old_atoms}
use Rattle.wp_novel.specs.declared.birth.Pair.{Pair}
use Rattle.wp_novel.specs.declared.grow.Growth.{Growth}
use Rattle.wp_novel.specs.NoveltyTables.{HomeView, IsFree, IsFilled, counters_of, is_same, is_pair, home_of, EachHome}
use Rattle.wp_novel.specs.Jobs.{HomesBecome, Grows, AreHeld, IsHeldIn}
use Rattle.wp_novel.specs.Dealing.{IsOfPair, AreOver, pass_or, grown_home, CanGrow, IsGrowth, has_growth, AreGrowths, Grew, AreGrown}
use Rattle.wp_novel.proofs.PairLemmas.{Homes, same_pair, same_counters, is_same_itself, is_pair_itself, pair_of_counters, some_same}
use Rattle.wp_novel.proofs.HomeLemmas.{stay, become_then}
use Rattle.wp_novel.proofs.HeldLemmas.{parted}
use Rattle.wp_novel.proofs.GrowLemmas.{still_held, free_before}

-- ---- relations
pub grows_same : (pair : Pair) (home : HomeView) → Grows pair home home
grows_same pair home = record { ranking = extends_itself home.ranking; marks = refl; parts = refl }

pub grows_then : (pair : Pair) (a b c : HomeView) → Grows pair a b → Grows pair b c → Grows pair a c
grows_then pair a b c first second = record {
  ranking = extends_then a.ranking b.ranking c.ranking first.ranking second.ranking;
  marks = second.marks ∙ first.marks;
  parts = second.parts ∙ first.parts;
}

-- ---- homes that take growths
pub record Partly (atoms : ℕ) (births : List BirthView) (old now : Homes) (left : List Growth) : Type 0 where
  pub grows : HomesBecome Grows old now
  pub filled : EachHome (λ pair home. IsFilled home.ranking.width atoms home) now
  pub each : All (IsGrowth atoms births now) left
  pub differ : AllPairs (λ g h. is_pair g.pair h.pair ≡ false) left
  pub held : All (λ b. IsHeldIn now b ⊎ (has_growth left b.node.counters ≡ true)) births

pub partly_begins : (atoms : ℕ) (births : List BirthView) (homes : Homes) (growths : List Growth) → AreOver atoms homes births →
    AreGrowths atoms births homes births growths → Partly atoms births homes homes growths
partly_begins atoms births homes growths over are = record {
  grows = stay Grows homes grows_same;
  filled = over.filled;
  each = are.each;
  differ = are.differ;
  held = are.held;
}

module _ (atoms : ℕ) (births : List BirthView) (now new : Homes) (g : Growth) (grew : Grew g now new) (is : IsGrowth atoms births now g) where
  after : HomeView
  after = grown_home is.home g.ranks g.shared

  -- what a pair has now it had before, or it is that of the growth
  abbrev Before : Pair → HomeView → Type 0
  Before pair home = ((is_pair g.pair pair ≡ true) × (home ≡ grown_home is.home g.ranks g.shared)) ⊎ ((is_pair g.pair pair ≡ false) × (home_of now pair ≡ Some home))

  before : (pair : Pair) (home : HomeView) → home_of new pair ≡ Some home → Before pair home
  before pair home e = ⊎_elim
      (λ (mine : is_pair g.pair pair ≡ true).
      let same : g.pair ≡ pair = same_pair g.pair pair mine in
      let here : home_of new g.pair ≡ Some (grown_home is.home g.ranks g.shared) = grew.here is.home is.home_is in
      inl (mine, some_same home (grown_home is.home g.ranks g.shared) (sym e ∙ (ap (home_of new) (sym same) ∙ here))))
      (λ (apart : is_pair g.pair pair ≡ false). inr (apart, sym (grew.others pair apart) ∙ e))
      (cases_Bool (is_pair g.pair pair))

  pub one_grows : HomesBecome Grows now new
  one_grows = record {
    pairs = grew.pairs;
    homes = λ pair home e. ⊎_elim
        (λ (mine : is_pair g.pair pair ≡ true).
        let same : g.pair ≡ pair = same_pair g.pair pair mine in
        let is_home : is.home ≡ home = some_same is.home home (sym is.home_is ∙ (ap (home_of now) same ∙ e)) in
        let here : home_of new pair ≡ Some (grown_home is.home g.ranks g.shared) = ap (home_of new) (sym same) ∙ grew.here is.home is.home_is in
        let can : Grows pair home (grown_home is.home g.ranks g.shared) = record {
          ranking = subst (λ (h : HomeView). Extends h.ranking (grown_home is.home g.ranks g.shared).ranking) is_home is.can.grows.ranking;
          marks = is.can.grows.marks ∙ ap (λ (h : HomeView). h.marks) is_home;
          parts = is.can.grows.parts ∙ ap (λ (h : HomeView). h.parts) is_home;
        } in
        let goal : (a : HomeView) × (home_of new pair ≡ Some a) × Grows pair home a = (grown_home is.home g.ranks g.shared, here, can) in goal)
        (λ (apart : is_pair g.pair pair ≡ false).
        let goal : (a : HomeView) × (home_of new pair ≡ Some a) × Grows pair home a = (home, grew.others pair apart ∙ e, grows_same pair home) in goal)
        (cases_Bool (is_pair g.pair pair));
  }

  pub one_filled : EachHome (λ pair home. IsFilled home.ranking.width atoms home) now → EachHome (λ pair home. IsFilled home.ranking.width atoms home) new
  one_filled filled pair home e = ⊎_elim
      (λ (mine : (is_pair g.pair pair ≡ true) × (home ≡ grown_home is.home g.ranks g.shared)).
      subst (λ (h : HomeView). IsFilled h.ranking.width atoms h) (sym mine.1)
      (subst (λ (w : ℕ). IsFilled w atoms (grown_home is.home g.ranks g.shared)) (sym is.can.grows.ranking.width) is.can.filled))
      (λ (apart : (is_pair g.pair pair ≡ false) × (home_of now pair ≡ Some home)). filled pair home apart.1)
      (before pair home e)

  pub one_other : (h : Growth) → is_pair g.pair h.pair ≡ false → IsGrowth atoms births now h → IsGrowth atoms births new h
  one_other h apart other = record { home = other.home; home_is = grew.others h.pair apart ∙ other.home_is; can = other.can }

  held_before : (b : BirthView) → IsHeldIn now b → IsHeldIn new b
  held_before b held pair home e same = ⊎_elim
      (λ (mine : (is_pair g.pair pair ≡ true) × (home ≡ grown_home is.home g.ranks g.shared)).
      let pair_is : pair ≡ g.pair = sym (same_pair g.pair pair mine.0) in
      let was : AreHeld is.home.ranking b.node.state = held g.pair is.home is.home_is (ap counters_of (sym pair_is) ∙ same) in
      subst (λ (h : HomeView). AreHeld h.ranking b.node.state) (sym mine.1)
      (still_held is.home.ranking (grown_home is.home g.ranks g.shared).ranking is.can.grows.ranking (atoms_in b.node.state) was))
      (λ (apart : (is_pair g.pair pair ≡ false) × (home_of now pair ≡ Some home)). held pair home apart.1 same)
      (before pair home e)

  held_by : (k : ℕ) (d : BirthView) → k < length births → is_same (counters_of g.pair) (get_or births k d).node.counters ≡ true → IsHeldIn new (get_or births k d)
  held_by k d within here pair home e same =
      let b : BirthView = get_or births k d in
      let counters : counters_of g.pair ≡ b.node.counters = same_counters (counters_of g.pair) b.node.counters here in
      let pair_is : g.pair ≡ pair = pair_of_counters g.pair pair (counters ∙ sym same) in
      ⊎_elim
      (λ (mine : (is_pair g.pair pair ≡ true) × (home ≡ grown_home is.home g.ranks g.shared)).
      subst (λ (h : HomeView). AreHeld h.ranking b.node.state) (sym mine.1) (is.can.holds k d within counters))
      (λ (apart : (is_pair g.pair pair ≡ false) × (home_of now pair ≡ Some home)).
      absurd (both_ways (is_pair g.pair pair) apart.0 (ap (is_pair g.pair) (sym pair_is) ∙ is_pair_itself g.pair)))
      (before pair home e)

  pub one_held : (rest : List Growth) → All (λ b. IsHeldIn now b ⊎ (has_growth (g ∷ rest) b.node.counters ≡ true)) births →
      All (λ b. IsHeldIn new b ⊎ (has_growth rest b.node.counters ≡ true)) births
  one_held rest held k d within = ⊎_elim
      (λ (was : IsHeldIn now (get_or births k d)). inl (held_before (get_or births k d) was))
      (λ (there : has_growth (g ∷ rest) (get_or births k d).node.counters ≡ true). ⊎_elim
      (λ (here : is_same (counters_of g.pair) (get_or births k d).node.counters ≡ true). inl (held_by k d within here))
      (λ (later : has_growth rest (get_or births k d).node.counters ≡ true). inr later)
      (or_cases (is_same (counters_of g.pair) (get_or births k d).node.counters) (has_growth rest (get_or births k d).node.counters) there))
      (held k d within)

pub partly_more : (atoms : ℕ) (births : List BirthView) (old now new : Homes) (g : Growth) (rest : List Growth) → Grew g now new → Partly atoms births old now (g ∷ rest) →
    Partly atoms births old new rest
partly_more atoms births old now new g rest grew part =
    let is : IsGrowth atoms births now g = All-head (IsGrowth atoms births now) g rest part.each in
    record {
      grows = become_then Grows Grows Grows old now new grows_then part.grows (one_grows atoms births now new g grew is);
      filled = one_filled atoms births now new g grew is part.filled;
      each = λ k d within. one_other atoms births now new g grew is (get_or rest k d) (part.differ 0 (suc k) d (omega arith) (omega arith)) (part.each (suc k) d (omega arith));
      differ = λ i j d less within. part.differ (suc i) (suc j) d (omega arith) (omega arith);
      held = one_held atoms births now new g grew is rest part.held;
    }

pub partly_ends : (atoms : ℕ) (births : List BirthView) (old now : Homes) → Partly atoms births old now [] → AreGrown atoms births old now
partly_ends atoms births old now part = record {
  grows = part.grows;
  filled = part.filled;
  held = All-weaker (λ (b : BirthView). IsHeldIn now b ⊎ (has_growth [] b.node.counters ≡ true)) (IsHeldIn now)
      (λ b h. ⊎_elim (λ (held : IsHeldIn now b). held) (λ (none : has_growth [] b.node.counters ≡ true). absurd (cc)) h) births part.held;
}

-- ---- growths that are made
module _ (atoms : ℕ) (births : List BirthView) (homes : Homes) (done : List BirthView) (b : BirthView) (growths : List Growth) (are : AreGrowths atoms births homes done growths) where
  pub no_growth_more : IsHeldIn homes b ⊎ (has_growth growths b.node.counters ≡ true) → AreGrowths atoms births homes (done ++ b ∷ []) growths
  no_growth_more held = record {
    each = are.each;
    differ = are.differ;
    held = All-push (λ (x : BirthView). IsHeldIn homes x ⊎ (has_growth growths x.node.counters ≡ true)) done b are.held held;
  }

  pub growth_more : (g : Growth) → IsGrowth atoms births homes g → counters_of g.pair ≡ b.node.counters → has_growth growths b.node.counters ≡ false →
      AreGrowths atoms births homes (done ++ b ∷ []) (growths ++ g ∷ [])
  growth_more g is mine none = record {
    each = All-push (IsGrowth atoms births homes) growths g are.each is;
    differ = differ;
    held = All-push Has done b
        (All-weaker (λ (x : BirthView). IsHeldIn homes x ⊎ (has_growth growths x.node.counters ≡ true)) Has
        (λ x h. ⊎_elim (λ (held : IsHeldIn homes x). inl held) (λ (there : has_growth growths x.node.counters ≡ true). inr (still x.node.counters there)) h) done are.held)
        (inr last);
  }
    where
      Has : BirthView → Type 0
      Has x = IsHeldIn homes x ⊎ (has_growth (growths ++ g ∷ []) x.node.counters ≡ true)

      more : (x : ℕ × ℕ) → has_growth (growths ++ g ∷ []) x ≡ (has_growth growths x || has_growth (g ∷ []) x)
      more x = list_any-append (λ (h : Growth). is_same (counters_of h.pair) x) growths (g ∷ [])

      still : (x : ℕ × ℕ) → has_growth growths x ≡ true → has_growth (growths ++ g ∷ []) x ≡ true
      still x h = more x ∙ ap (λ c. c || has_growth (g ∷ []) x) h

      last : has_growth (growths ++ g ∷ []) b.node.counters ≡ true
      last = more b.node.counters ∙ ((λ j. none j || (is_same (mine j) b.node.counters || false)) ∙ ap (λ c. c || false) (is_same_itself b.node.counters))

      other : (gs : List Growth) → has_growth gs b.node.counters ≡ false → (k : ℕ) (d : Growth) → k < length gs → is_pair (get_or gs k d).pair g.pair ≡ false
      other [] none k d within = absurd (omega arith)
      other (h ∷ gs) none zero d within = ap (is_same (counters_of h.pair)) mine ∙ (or_parts (is_same (counters_of h.pair) b.node.counters) (has_growth gs b.node.counters) none).0
      other (h ∷ gs) none (suc k) d within = other gs (or_parts (is_same (counters_of h.pair) b.node.counters) (has_growth gs b.node.counters) none).1 k d (omega arith)

      differ : AllPairs (λ (x y : Growth). is_pair x.pair y.pair ≡ false) (growths ++ g ∷ [])
      differ i j d less within = ⊎_elim
          (λ (both : j < length growths).
          let at_i : get_or (growths ++ g ∷ []) i d ≡ get_or growths i d = get_or_append_left growths (g ∷ []) d i (omega arith) in
          let at_j : get_or (growths ++ g ∷ []) j d ≡ get_or growths j d = get_or_append_left growths (g ∷ []) d j both in
          (λ x. is_pair (at_i x).pair (at_j x).pair) ∙ are.differ i j d less both)
          (λ (past : length growths ≤ j).
          let size : length (growths ++ g ∷ []) ≡ length growths + 1 = length_push growths g in
          let place : length growths + 0 ≡ j = omega arith in
          let at_i : get_or (growths ++ g ∷ []) i d ≡ get_or growths i d = get_or_append_left growths (g ∷ []) d i (omega arith) in
          let at_j : get_or (growths ++ g ∷ []) j d ≡ g = ap (λ k. get_or (growths ++ g ∷ []) k d) (sym place) ∙ get_or-append-add growths (g ∷ []) 0 d in
          (λ x. is_pair (at_i x).pair (at_j x).pair) ∙ other growths none i d (omega arith))
          (cases_lt j (length growths))

-- what holds where there is none, of what is not some
pub none_left : {A : Type 0} (o : Option A) (P : Type 0) → IfNone o P → ((x : A) → o ≡ Some x → ⊥) → P
none_left None P none not_some = none
none_left (Some x) P none not_some = absurd (not_some x refl)

-- the same, with the births that a loop has seen
pub growths_kept : (atoms : ℕ) (births : List BirthView) (homes : Homes) (i : ℕ) (b : BirthView) (growths : List Growth) → i < length births → b ≡ get_or births i b →
    AreGrowths atoms births homes (take i births) growths → IsHeldIn homes b ⊎ (has_growth growths b.node.counters ≡ true) → AreGrowths atoms births homes (take (i + 1) births) growths
growths_kept atoms births homes i b growths within is are held =
    subst (λ (l : List BirthView). AreGrowths atoms births homes l growths) (sym (take_more births i b within ∙ ap (λ x. take i births ++ x ∷ []) (sym is)))
    (no_growth_more atoms births homes (take i births) b growths are held)

pub growths_added : (atoms : ℕ) (births : List BirthView) (homes : Homes) (i : ℕ) (b : BirthView) (growths after : List Growth) (g : Growth) → i < length births → b ≡ get_or births i b →
    AreGrowths atoms births homes (take i births) growths → after ≡ growths ++ g ∷ [] → IsGrowth atoms births homes g → counters_of g.pair ≡ b.node.counters →
    has_growth growths b.node.counters ≡ false → AreGrowths atoms births homes (take (i + 1) births) after
growths_added atoms births homes i b growths after g within is are more growth mine none =
    subst (λ (l : List BirthView). AreGrowths atoms births homes l after) (sym (take_more births i b within ∙ ap (λ x. take i births ++ x ∷ []) (sym is)))
    (subst (AreGrowths atoms births homes (take i births ++ b ∷ [])) (sym more) (growth_more atoms births homes (take i births) b growths are g growth mine none))

pub no_growths : (atoms : ℕ) (births : List BirthView) (homes : Homes) → AreGrowths atoms births homes [] []
no_growths atoms births homes = record {
  each = All-nil (IsGrowth atoms births homes);
  differ = λ i j d less within. absurd (omega arith);
  held = All-nil (λ (b : BirthView). IsHeldIn homes b ⊎ (has_growth [] b.node.counters ≡ true));
}

-- ---- one growth
-- no tuple has a place behind all places
pub past_free : (r : Ranking) → AreApart (ranked r) → (place : ℕ) → (ranked r).len ≤ place → IsFree r place
past_free r apart place past tuple there held same = let below : place_in (ranked r) tuple < (ranked r).len = apart.below tuple there in omega arith

-- the pass that a home has after a growth
pub pass_same : (home : HomeView) (shared : Option PassView) (need : ℕ) → IfNone shared (need ≤ home.table.words) →
    IfSome shared (λ pass. (need ≤ pass.table.words) × (pass.marks ≡ home.marks) × (pass.parts ≡ 2 ^ 32)) → home.parts ≡ 2 ^ 32 →
    (need ≤ (pass_or home shared).table.words) × ((pass_or home shared).marks ≡ home.marks) × ((pass_or home shared).parts ≡ home.parts)
pass_same home None need kept more whole = (kept, refl, refl)
pass_same home (Some pass) need kept more whole = (more.0, more.1, more.2 ∙ sym whole)

pub can_grow : (atoms : ℕ) (births : List BirthView) (pair : Pair) (home : HomeView) (r : Ranking) (shared : Option PassView) → IsFilled home.ranking.width atoms home →
    home.parts ≡ 2 ^ 32 → Extends home.ranking r → length r.ranks ≡ atoms → AreApart (ranked r) → HoldsAtoms r → IfNone shared ((ranked r).len ≤ home.table.words) →
    IfSome shared (λ pass. ((ranked r).len ≤ pass.table.words) × (pass.marks ≡ home.marks) × (pass.parts ≡ 2 ^ 32)) →
    All (IsOfPair pair (λ b. AreHeld r b.node.state)) births → CanGrow atoms births pair home (grown_home home r shared)
can_grow atoms births pair home r shared filled whole extends count apart within kept more holds =
    let pass = pass_same home shared (ranked r).len kept more whole in
    record {
      grows = record { ranking = extends; marks = pass.1; parts = pass.2 };
      filled = record {
        width_is = extends.width;
        atoms_are = inr count;
        apart = apart;
        within = within;
        words = pass.0;
        unmarked = λ place free. ap (λ (l : List Arrival). first l place) pass.1 ∙ filled.unmarked place (free_before home.ranking r extends within place free);
      };
      holds = holds;
    }

-- ranks of no atoms are those that any ranks begin with
pub none_extends : (width : ℕ) (r : Ranking) → r.width ≡ width → Extends (unranked width 0) r
none_extends width r same = record {
  width = same;
  held = λ p h. absurd (both_ways (is_held (unranked width 0) p) (unheld p) h);
  same = places;
}
  where
    ltb_zero : (p : ℕ) → nat_lt p 0 ≡ false
    ltb_zero p = false_from_ne_true (nat_lt p 0) (λ h. let less : p < 0 = ltb-true p 0 h in absurd (omega arith))

    unheld : (p : ℕ) → is_held (unranked width 0) p ≡ false
    unheld p = by (width == 2) where
      by : (b : Bool) → cond b (nat_lt (2 ^ 32 - 1) 0) (nat_lt p 0) ≡ false
      by true = refl
      by false = ltb_zero p

    places : (tuple : List ℕ) → list_all (is_held (unranked width 0)) tuple ≡ true → place_in (ranked r) tuple ≡ place_in (ranked (unranked width 0)) tuple
    places [] h = refl
    places (p ∷ tuple) h = absurd (both_ways (is_held (unranked width 0) p) (unheld p) (and_parts (is_held (unranked width 0) p) (list_all (is_held (unranked width 0)) tuple) h).0)

-- ---- ranks that are given
-- at width 1 the tuples of all atoms are held
pub narrow_held : (r : Ranking) (atoms : List ℕ) → r.width ≡ 1 → All (λ p. p < length r.ranks) atoms → list_all (is_held r) atoms ≡ true
narrow_held r [] one all = refl
narrow_held r (p ∷ atoms) one all =
    let narrow : (r.width == 2) ≡ false = ap (λ w. w == 2) one in
    let here : is_held r p ≡ true = cond-false (r.width == 2) (is_ranked r p) (nat_lt p (length r.ranks)) narrow
    ∙ lt-ltb p (length r.ranks) (All-head (λ q. q < length r.ranks) p atoms all) in
    and_from (is_held r p) (list_all (is_held r) atoms) here (narrow_held r atoms one (All-tail (λ q. q < length r.ranks) p atoms all))

pub birth_ranked : (pair : Pair) (births : List BirthView) (i : ℕ) (b : BirthView) (was now : Ranking) → i < length births → b ≡ get_or births i b → Extends was now →
    All (IsOfPair pair (λ x. AreHeld was x.node.state)) (take i births) → IsOfPair pair (λ x. AreHeld now x.node.state) b → All (IsOfPair pair (λ x. AreHeld now x.node.state)) (take (i + 1) births)
birth_ranked pair births i b was now within is more held mine =
    let Now : BirthView → Type 0 = IsOfPair pair (λ x. AreHeld now x.node.state) in
    All-more Now births i b within
    (All-weaker (IsOfPair pair (λ x. AreHeld was x.node.state)) Now (λ x h same. still_held was now more (atoms_in x.node.state) (h same)) (take i births) held)
    (subst Now is mine)

-- the new and the other atoms of a state are all its atoms
pub state_held : (r : Ranking) (b : BirthView) → list_all (is_held r) (new_atoms b) ≡ true → list_all (is_held r) (old_atoms b) ≡ true → AreHeld r b.node.state
state_held r b new old = parted (is_held r) (is_new b.fresh) (atoms_in b.node.state) ∙ and_from (list_all (is_held r) (new_atoms b)) (list_all (is_held r) (old_atoms b)) new old
