-- Jobs that are dealt, worked and collected: what tables are for them, and what they are for tables.
use Rattle.std.proofs.Common.{◌≡◌, ◌==◌, ◌||◌, ◌*◌, ℕ, ◌+◌, ◌-◌, ◌^◌, ◌<◌, ◌≤◌, min, cond, Bool, true, false, List, [], ◌∷◌, ◌++◌, length, get_or, map, Option, Some, None, refl, sym, ap, ◌∙◌, subst, ⊎_elim, append-nil, arith}
use Rattle.std.specs.Prelude.{IfSome}
use Rattle.std.specs.List.{All, AllPairs, Contains, flat_map, list_all, list_any}
use Rattle.std.proofs.lemmas.Bool.{cases_Bool, cases_lt, both_ways, false_from_ne_true, and_parts, ne_eqb}
use Rattle.std.proofs.lemmas.Grind.{flat_map-append}
use Rattle.std.proofs.lemmas.List.{get_or-map, length-map}
use Rattle.std.proofs.lemmas.List.Elements.{All-nil, All-cons, All-head, All-tail, All-append, All-weaker, All-map}
use Rattle.std.proofs.lemmas.List.Folds.{flat_map-map}
use Rattle.std.proofs.lemmas.Map.Entries.{length-keys_of}
use Rattle.wp_task.specs.Novelty.{Generated}
use Rattle.wp_task.specs.Set.{has}
use Rattle.wp_tuples.specs.Placing.{Placing, HasPlace, place_in, AreApart}
use Rattle.wp_tuples.specs.Ranking.{Ranking, is_held, ranked}
use Rattle.wp_arrive.specs.Seen.{PassView}
use Rattle.wp_arrive.specs.declared.view.Arrival.{Arrival}
use Rattle.wp_arrive.specs.FirstArrival.{first}
use Rattle.wp_arrive.proofs.Firsts.{first_append}
use Rattle.wp_novel.specs.declared.birth.Pair.{Pair}
use Rattle.wp_novel.specs.declared.job.JobPass.{JobPass}
use Rattle.wp_novel.specs.declared.deal.Share.{Share}
use Rattle.wp_novel.specs.declared.grow.Growth.{Growth}
use Rattle.wp_novel.specs.Births.{BirthView, nodes_of, numbers_of}
use Rattle.wp_novel.specs.MarkedTuples.{marked_tuples}
use Rattle.wp_novel.specs.NoveltyTables.{HomeView, at_home, first_at, IsFree, IsFilled, NoveltyTables, AreFilled, IsAtHome, counters_of, is_same, is_among, IsOpen, is_pair, home_of, pairs_of, EachHome}
use Rattle.wp_novel.specs.StandsFor.{has_tuple, first_number, last_number, last_after, StandsFor, AreMarkedBelow}
use Rattle.wp_novel.specs.Marks.{marks_at, birth_marks, marks_for}
use Rattle.wp_novel.specs.Jobs.{JobView, IsReady, IsPassOf, IsJobOf, AreOut, HomesBecome, Grows, Lends, Takes, HasWords, AreHeld, IsHeldIn, ranking_at, places_at, worked_pass, worked_job, births_of, passes_of, parts_at, passed_at, has_pass, WorkIsOut}
use Rattle.wp_novel.specs.Dealing.{births_in, AreRoomy, AreGiven, AreOver, AreGrowths, AreGrown, CanLend, ArePassesFor, IsGivenOf, CanMark, CanBeMarkedIn}
use Rattle.wp_novel.proofs.PairLemmas.{Homes, same_pair, same_counters, is_pair-swapped, pair_of_counters, some_same}
use Rattle.wp_novel.proofs.HomeLemmas.{Was, was, each_after, same_pairs}
use Rattle.wp_novel.proofs.FirstLemmas.{first_number-append, first_number_is_first}
use Rattle.wp_novel.proofs.MarkLemmas.{CanCount, IsOf, IsNoEarlier, first_of_births}
use Rattle.wp_novel.proofs.MarkedTupleLemmas.{marked_have_places, marked_in_state}
use Rattle.wp_novel.proofs.HeldLemmas.{held_tuple, held_counted, held_below, first_held, first_unheld}
use Rattle.wp_novel.proofs.GrowLemmas.{held_place, grown_first, same_first, lent_filled}
use Rattle.wp_novel.proofs.PassLemmas.{parts_at-append, passed_at-append, no_parts}
use Rattle.wp_novel.proofs.JobLemmas.{births_in_share, All-left, All-right}
use Rattle.wp_novel.proofs.TableLemmas.{pairs_append, last_is_greatest, last_number-append}

-- ---- lists of births
-- what holds of all births of jobs holds of those of each
all_in_jobs : (P : BirthView → Type 0) (jobs : List JobView) → All P (births_of jobs) → All (λ j. All P j.births) jobs
all_in_jobs P [] all = All-nil (λ (j : JobView). All P j.births)
all_in_jobs P (j ∷ jobs) all = All-cons (λ (x : JobView). All P x.births) j jobs (All-left P j.births (births_of jobs) all) (all_in_jobs P jobs (All-right P j.births (births_of jobs) all))

all_of_jobs : (P : BirthView → Type 0) (jobs : List JobView) → All (λ j. All P j.births) jobs → All P (births_of jobs)
all_of_jobs P [] all = All-nil P
all_of_jobs P (j ∷ jobs) all = All-append P j.births (births_of jobs) (All-head (λ (x : JobView). All P x.births) j jobs all) (all_of_jobs P jobs (All-tail (λ (x : JobView). All P x.births) j jobs all))

pub passes_of_jobs : (P : JobPass → Type 0) (jobs : List JobView) → All (λ j. All P j.passes) jobs → All P (passes_of jobs)
passes_of_jobs P [] all = All-nil P
passes_of_jobs P (j ∷ jobs) all = All-append P j.passes (passes_of jobs) (All-head (λ (x : JobView). All P x.passes) j jobs all) (passes_of_jobs P jobs (All-tail (λ (x : JobView). All P x.passes) j jobs all))

-- numbers that rise, of births and alone
pub rising_numbers : (births : List BirthView) → AllPairs (λ x y. x.node.number < y.node.number) births → AllPairs (λ x y. x < y) (numbers_of births)
rising_numbers births rising i j d less within =
    let size : length (numbers_of births) ≡ length births = length-map births (λ (b : BirthView). b.node.number) in
    let e : BirthView = record { node = record { number = 0; counters = (0, 0); state = [] }; fresh = None } in
    let at_i : get_or (numbers_of births) i d ≡ (get_or births i e).node.number = get_or-map (λ (b : BirthView). b.node.number) births i e d (omega arith) in
    let at_j : get_or (numbers_of births) j d ≡ (get_or births j e).node.number = get_or-map (λ (b : BirthView). b.node.number) births j e d (omega arith) in
    let h : (get_or births i e).node.number < (get_or births j e).node.number = rising i j e less (omega arith) in
    omega arith

rising_nodes : (nodes : List Generated) → AllPairs (λ x y. x < y) (map (λ (x : Generated). x.number) nodes) → AllPairs (λ x y. x.number < y.number) nodes
rising_nodes nodes rising i j d less within =
    let numbers : List ℕ = map (λ (x : Generated). x.number) nodes in
    let size : length numbers ≡ length nodes = length-map nodes (λ (x : Generated). x.number) in
    let at_i : get_or numbers i 0 ≡ (get_or nodes i d).number = get_or-map (λ (x : Generated). x.number) nodes i d 0 (omega arith) in
    let at_j : get_or numbers j 0 ≡ (get_or nodes j d).number = get_or-map (λ (x : Generated). x.number) nodes j d 0 (omega arith) in
    let h : get_or numbers i 0 < get_or numbers j 0 = rising i j 0 less (omega arith) in
    omega arith

numbers_of_nodes : (births : List BirthView) → numbers_of births ≡ map (λ (x : Generated). x.number) (nodes_of births)
numbers_of_nodes [] = refl
numbers_of_nodes (b ∷ births) = ap (λ l. b.node.number ∷ l) (numbers_of_nodes births)

later_births : (births : List BirthView) (last : ℕ) → All (λ n. last < n) (numbers_of births) → All (λ b. last < b.node.number) births
later_births births last later k d within =
    let size : length (numbers_of births) ≡ length births = length-map births (λ (b : BirthView). b.node.number) in
    let at : get_or (numbers_of births) k 0 ≡ (get_or births k d).node.number = get_or-map (λ (b : BirthView). b.node.number) births k d 0 within in
    let h : last < get_or (numbers_of births) k 0 = later k 0 (omega arith) in
    omega arith

-- a number that tables have at a tuple is that of a birth that they stand for
first_is_known : (before : List Generated) (counters : ℕ × ℕ) (tuple : List ℕ) → AllPairs (λ x y. x.number < y.number) before →
    first_number before counters tuple < 2 ^ 64 - 1 → (n : ℕ) × (last_number before ≡ Some n) × (first_number before counters tuple ≤ n)
first_is_known before counters tuple rising some = ⊎_elim
    (λ (none : first_number before counters tuple ≡ 2 ^ 64 - 1). absurd (omega arith))
    (λ (found : (b : Generated) × Contains before b × (has_tuple counters tuple b ≡ true) × (b.number ≡ first_number before counters tuple)).
    let greatest = last_is_greatest before found.1.0 found.0 rising found.1.1 in
    let number : (get_or before found.1.0 found.0).number ≡ found.0.number = ap (λ (x : Generated). x.number) found.1.2 in
    let most : first_number before counters tuple ≤ greatest.0 = omega (arith, greatest.2, found.3) in
    (greatest.0, greatest.1, most))
    (first_number_is_first before counters tuple).attained

-- ---- dealt
-- no job is empty where no share is
pub jobs_some : (shares : List Share) (jobs : List JobView) → All AreRoomy shares → map (λ (j : JobView). j.births) jobs ≡ map births_in_share shares →
    All (λ j. 0 < length j.births) jobs
jobs_some shares jobs roomy same k d within =
    let some : All (λ (l : List BirthView). 0 < length l) (map births_in_share shares) =
    All-map (λ (l : List BirthView). 0 < length l) births_in_share shares (All-weaker AreRoomy (λ (s : Share). 0 < length s.births.items) (λ s h. h.0) shares roomy) in
    let each : All (λ (l : List BirthView). 0 < length l) (map (λ (j : JobView). j.births) jobs) =
    subst (λ (l : List (List BirthView)). All (λ (x : List BirthView). 0 < length x) l) (sym same) some in
    subst (λ (l : List BirthView). 0 < length l) (get_or-map (λ (j : JobView). j.births) jobs k d d.births within)
    (each k d.births (omega (arith, within, length-map jobs (λ (j : JobView). j.births))))

-- tables and the births that they can take are over the same atoms
pub all_over : (t : NoveltyTables) (births : List BirthView) → AreFilled t → All (IsReady t) births → AreOver t.index.atoms t.homes births
all_over t births filled ready = record {
  filled = λ pair home e.
      let f : IsFilled t.index.width t.index.atoms home = filled.homes pair home e in
      subst (λ (w : ℕ). IsFilled w t.index.atoms home) (sym f.width_is) f;
  sizes = All-weaker (IsReady t) (λ b. length b.node.state ≡ t.index.atoms) (λ b h. h.size) births ready;
}

-- what grew for births, by the clauses of those who made the growths and took them
pub grown_by : (atoms : ℕ) (births given : List BirthView) (homes same_homes grown : Homes) (growths : List Growth) → same_homes ≡ homes → given ≡ births → AreOver atoms homes births →
    ((n : ℕ) → AreOver n homes given → AreGrowths n given homes given growths) →
    ((n : ℕ) (bs : List BirthView) → AreOver n same_homes bs → AreGrowths n bs same_homes bs growths → AreGrown n bs same_homes grown) → AreGrown atoms births homes grown
grown_by atoms births given homes same_homes grown growths same is over made taken =
    let are : AreGrowths atoms births homes births growths = subst (λ (l : List BirthView). AreGrowths atoms l homes l growths) is (made atoms (subst (AreOver atoms homes) (sym is) over)) in
    subst (λ (h : Homes). AreGrown atoms births h grown) same
    (taken atoms births (subst (λ (h : Homes). AreOver atoms h births) (sym same) over) (subst (λ (h : Homes). AreGrowths atoms births h births growths) (sym same) are))

-- the homes can lend to all jobs
pub can_lend_all : (t : NoveltyTables) (grown : Homes) (births : List BirthView) (shares : List Share) → IsAtHome t → HomesBecome Grows t.homes grown → All (IsReady t) births →
    births_in shares ≡ births → length shares ≤ 64 → CanLend (length shares) grown (births_in shares)
can_lend_all t grown births shares at grows ready cut few = record {
  opens = subst (All (λ (b : BirthView). is_among (pairs_of grown) b.node.counters ≡ true)) (sym cut)
      (All-weaker (IsReady t) (λ (b : BirthView). is_among (pairs_of grown) b.node.counters ≡ true)
      (λ b h. ap (λ ps. is_among ps b.node.counters) (same_pairs Grows t.homes grown grows) ∙ h.pair) births ready);
  parts = λ pair home e.
      let old : Was Grows t.homes pair home = was Grows t.homes grown grows pair home e in
      let whole : old.0.parts ≡ 2 ^ 32 = at.whole pair old.0 old.1 in
      omega (arith, old.2.parts, few);
}

module _ (t : NoveltyTables) (grown homes : Homes) (births : List BirthView) (shares : List Share) (jobs : List JobView)
    (filled : AreFilled t) (at : IsAtHome t) (are_grown : AreGrown t.index.atoms births t.homes grown)
    (given : AreGiven grown homes (map births_in_share shares) jobs) (cut : births_in shares ≡ births) (ready : All (IsReady t) births) where
  abbrev pub dealt : NoveltyTables
  dealt = record t { homes = homes; out = numbers_of births }

  pub births_are : births_of jobs ≡ births
  births_are =
      sym (flat_map-map (λ (l : List BirthView). l) (λ (j : JobView). j.births) jobs)
      ∙ (ap (λ (l : List (List BirthView)). flat_map (λ (x : List BirthView). x) l) given.births
      ∙ (flat_map-map (λ (l : List BirthView). l) births_in_share shares ∙ cut))

  in_jobs : (P : BirthView → Type 0) → All P births → All (λ j. All P j.births) jobs
  in_jobs P all = all_in_jobs P jobs (subst (λ (l : List BirthView). All P l) (sym births_are) all)

  abbrev lent : Pair → HomeView → HomeView → Type 0
  lent = Lends (passes_of jobs)

  pass_is : (bs : List BirthView) (p : JobPass) → IsGivenOf grown p → IsPassOf dealt false bs p
  pass_is bs p given_of =
      let next = given.homes.homes p.pair given_of.home given_of.home_is in
      let table : p.pass.table ≡ given_of.home.table = ap (λ (h : PassView). h.table) given_of.given in
      record {
        home = next.0;
        home_is = next.1;
        table = table ∙ sym next.2.table;
        words = omega (arith, given_of.words, ap (λ i. i.words) table);
        part = ap (λ (h : PassView). h.parts) given_of.given;
        marks = ap (λ (h : PassView). h.marks) given_of.given;
      }

  open_still : (counters : ℕ × ℕ) → IsOpen t counters → IsOpen dealt counters
  open_still counters h =
      ap (λ ps. is_among ps counters) (same_pairs lent grown homes given.homes) ∙ (ap (λ ps. is_among ps counters) (same_pairs Grows t.homes grown are_grown.grows) ∙ h)

  filled_grown : EachHome (λ q home. IsFilled t.index.width t.index.atoms home) grown
  filled_grown pair home e =
      let old : Was Grows t.homes pair home = was Grows t.homes grown are_grown.grows pair home e in
      let width : home.ranking.width ≡ t.index.width = old.2.ranking.width ∙ (filled.homes pair old.0 old.1).width_is in
      subst (λ (w : ℕ). IsFilled w t.index.atoms home) width (are_grown.filled pair home e)

  -- each home was there, and its first arrivals are as before
  record WasThere (pair : Pair) (home : HomeView) : Type 0 where
    before : HomeView
    before_is : home_of t.homes pair ≡ Some before
    parts : home.parts + parts_at pair (passes_of jobs) ≡ before.parts
    firsts : (tuple : List ℕ) → HasPlace t.index tuple → first_at home tuple ≡ first_at before tuple

  was_there : (pair : Pair) (home : HomeView) → home_of homes pair ≡ Some home → WasThere pair home
  was_there pair home e =
      let between : Was lent grown pair home = was lent grown homes given.homes pair home e in
      let old : Was Grows t.homes pair between.0 = was Grows t.homes grown are_grown.grows pair between.0 between.1 in
      record {
        before = old.0;
        before_is = old.1;
        parts = between.2.parts ∙ old.2.parts;
        firsts = λ tuple place. same_first between.0 home between.2.ranking between.2.marks tuple
            ∙ grown_first pair t.index.width t.index.atoms old.0 between.0 old.2 (filled.homes pair old.0 old.1) (filled_grown pair between.0 between.1) t.index refl tuple place;
      }

  marked_still : (bound : ℕ) (b : BirthView) → AreMarkedBelow t bound b → AreMarkedBelow dealt bound b
  marked_still bound b marked pair home e same tuple place all old =
      let before : WasThere pair home = was_there pair home e in
      let low : first_at before.before tuple < bound = marked pair before.before before.before_is same tuple place all old in
      let same : first_at home tuple ≡ first_at before.before tuple = before.firsts tuple place in
      omega arith

  ready_still : (b : BirthView) → IsReady t b → IsReady dealt b
  ready_still b h = record {
    pair = open_still b.node.counters h.pair;
    size = h.size;
    number = h.number;
    counted = h.counted;
    marked = marked_still (2 ^ 64 - 1) b h.marked;
  }

  held_still : (b : BirthView) → IsHeldIn grown b → IsHeldIn homes b
  held_still b h pair home e same =
      let between : Was lent grown pair home = was lent grown homes given.homes pair home e in
      subst (λ (r : Ranking). AreHeld r b.node.state) (sym between.2.ranking) (h pair between.0 between.1 same)

  words_before : (counters : ℕ × ℕ) → HasWords homes counters → HasWords grown counters
  words_before counters words pair home same e =
      let next = given.homes.homes pair home e in
      let some : 0 < next.0.table.words = words pair next.0 same next.1 in
      omega (arith, some, ap (λ i. i.words) next.2.table)

  pub dealt_out : AreOut dealt false jobs
  dealt_out = record {
    jobs_are = λ k d within.
        let j : JobView = get_or jobs k d in
        let are : ArePassesFor grown j.births j.passes = given.passes k d within in
        record {
          worked_is = given.unworked k d within;
          passes = All-weaker (IsGivenOf grown) (IsPassOf dealt false j.births) (λ p h. pass_is j.births p h) j.passes are.given;
          covers = All-weaker (λ (b : BirthView). HasWords grown b.node.counters → has_pass j.passes b.node.counters ≡ true)
              (λ (b : BirthView). HasWords homes b.node.counters → has_pass j.passes b.node.counters ≡ true)
              (λ b h words. h (words_before b.node.counters words)) j.births are.covers;
          one = are.one;
          only = are.only;
          ready = All-weaker (IsReady t) (IsReady dealt) ready_still j.births (in_jobs (IsReady t) ready k d within);
          held = All-weaker (IsHeldIn grown) (IsHeldIn homes) held_still j.births (in_jobs (IsHeldIn grown) are_grown.held k d within);
        };
    numbers = ap numbers_of births_are;
    shared = λ pair home e.
        let before : WasThere pair home = was_there pair home e in
        before.parts ∙ at.whole pair before.before before.before_is;
  }

  pub filled_dealt : AllPairs (λ x y. x.node.number < y.node.number) births → IfSome t.last (λ last. All (λ b. last < b.node.number) births) → AreFilled dealt
  filled_dealt rising later = record {
    apart = filled.apart;
    homes = each_after lent (λ q home. IsFilled t.index.width t.index.atoms home) (λ q home. IsFilled t.index.width t.index.atoms home) grown homes given.homes
        (λ q a b lends f. lent_filled (passes_of jobs) q t.index.width t.index.atoms a b lends f) filled_grown;
    within =
        let same : length homes ≡ length t.homes = sym (length-keys_of homes) ∙ (ap (λ (ks : List Pair). length ks) (given.homes.pairs ∙ are_grown.grows.pairs) ∙ length-keys_of t.homes) in
        let product : length homes * t.index.len ≡ length t.homes * t.index.len = ap (λ n. n * t.index.len) same in
        omega (arith, filled.within);
    limited = filled.limited;
    rising = rising_numbers births rising;
    later = after t.last later;
  }
    where
      after : (o : Option ℕ) → IfSome o (λ last. All (λ b. last < b.node.number) births) → IfSome o (λ last. All (λ n. last < n) (numbers_of births))
      after None h = tt
      after (Some last) h = All-map (λ n. last < n) (λ (b : BirthView). b.node.number) births h

  pub stands_dealt : (before : List Generated) → StandsFor t before → StandsFor dealt before
  stands_dealt before stands = record {
    rising = stands.rising;
    pairs = All-weaker (λ (b : Generated). IsOpen t b.counters) (λ (b : Generated). IsOpen dealt b.counters) (λ b h. open_still b.counters h) before stands.pairs;
    last = stands.last;
    firsts = λ pair home e tuple h.
        let old : WasThere pair home = was_there pair home e in
        old.firsts tuple h ∙ stands.firsts pair old.before old.before_is tuple h;
  }

-- ---- worked
has_pass-worked : (homes : Homes) (births : List BirthView) (passes : List JobPass) (counters : ℕ × ℕ) →
    has_pass (map (worked_pass homes births) passes) counters ≡ has_pass passes counters
has_pass-worked homes births [] counters = refl
has_pass-worked homes births (p ∷ passes) counters = ap (λ b. is_same (counters_of p.pair) counters || b) (has_pass-worked homes births passes counters)

parts_at-worked : (homes : Homes) (births : List BirthView) (pair : Pair) (passes : List JobPass) →
    parts_at pair (map (worked_pass homes births) passes) ≡ parts_at pair passes
parts_at-worked homes births pair [] = refl
parts_at-worked homes births pair (p ∷ passes) = ap (λ n. cond (is_pair pair p.pair) (p.pass.parts + n) n) (parts_at-worked homes births pair passes)

pub births_of-worked : (homes : Homes) (jobs : List JobView) → births_of (map (worked_job homes) jobs) ≡ births_of jobs
births_of-worked homes jobs = flat_map-map (λ (j : JobView). j.births) (worked_job homes) jobs

parts_of-worked : (homes : Homes) (pair : Pair) (jobs : List JobView) → parts_at pair (passes_of (map (worked_job homes) jobs)) ≡ parts_at pair (passes_of jobs)
parts_of-worked homes pair [] = refl
parts_of-worked homes pair (j ∷ jobs) =
    parts_at-append pair (map (worked_pass homes j.births) j.passes) (passes_of (map (worked_job homes) jobs))
    ∙ ((λ i. parts_at-worked homes j.births pair j.passes i + parts_of-worked homes pair jobs i)
    ∙ sym (parts_at-append pair j.passes (passes_of jobs)))

worked_is : (t : NoveltyTables) (j : JobView) → IsJobOf t false j → IsJobOf t true (worked_job t.homes j)
worked_is t j is = record {
  worked_is = refl;
  passes = All-map (IsPassOf t true j.births) (worked_pass t.homes j.births) j.passes
      (All-weaker (IsPassOf t false j.births) (λ (p : JobPass). IsPassOf t true j.births (worked_pass t.homes j.births p)) one j.passes is.passes);
  covers = All-weaker (λ (b : BirthView). HasWords t.homes b.node.counters → has_pass j.passes b.node.counters ≡ true)
      (λ (b : BirthView). HasWords t.homes b.node.counters → has_pass (map (worked_pass t.homes j.births) j.passes) b.node.counters ≡ true)
      (λ b h words. has_pass-worked t.homes j.births j.passes b.node.counters ∙ h words) j.births is.covers;
  one = λ pair. let h : parts_at pair j.passes ≤ 1 = is.one pair in omega (arith, parts_at-worked t.homes j.births pair j.passes);
  only = All-map (λ (p : JobPass). list_any (λ b. is_same b.node.counters (counters_of p.pair)) j.births ≡ true) (worked_pass t.homes j.births) j.passes is.only;
  ready = is.ready;
  held = is.held;
}
  where
    one : (p : JobPass) → IsPassOf t false j.births p → IsPassOf t true j.births (worked_pass t.homes j.births p)
    one p h = record {
      home = h.home;
      home_is = h.home_is;
      table = h.table;
      words = h.words;
      part = h.part;
      marks = ap (λ (l : List Arrival). l ++ marks_for (places_at t.homes p.pair) (counters_of p.pair) j.births) h.marks
          ∙ ap (λ (o : Option HomeView). marks_for (ranked (ranking_at o)) (counters_of p.pair) j.births) h.home_is;
    }

pub work_is_out : WorkIsOut
work_is_out t jobs out = record {
  jobs_are = All-map (IsJobOf t true) (worked_job t.homes) jobs
      (All-weaker (IsJobOf t false) (λ (j : JobView). IsJobOf t true (worked_job t.homes j)) (λ j h. worked_is t j h) jobs out.jobs_are);
  numbers = ap numbers_of (births_of-worked t.homes jobs) ∙ out.numbers;
  shared = λ pair home e. ap (λ n. home.parts + n) (parts_of-worked t.homes pair jobs) ∙ out.shared pair home e;
}

-- what is asked to work a job
pub can_mark_job : (t : NoveltyTables) (j : JobView) → IsJobOf t false j → All (CanMark t.homes) j.passes
can_mark_job t j is = All-weaker (IsPassOf t false j.births) (CanMark t.homes)
    (λ p h. record { home = h.home; home_is = h.home_is; table = h.table; words = h.words; part = omega (arith, h.part) }) j.passes is.passes

pub can_be_marked : (t : NoveltyTables) (j : JobView) → AreFilled t → IsJobOf t false j → All (CanBeMarkedIn t.homes) j.births
can_be_marked t j filled is k d within pair home e same =
    let b : BirthView = get_or j.births k d in
    let r : IsReady t b = is.ready k d within in
    let held : AreHeld home.ranking b.node.state = is.held k d within pair home e same in
    record {
      tuples = marked_have_places (ranked home.ranking) b (held_below home.ranking b.node.state (filled.homes pair home e).within held) (held_counted home.ranking b.node.state held);
      number = r.number;
    }

-- ---- collected
-- what is out of tables can be given back
pub can_collect : (t : NoveltyTables) (jobs : List JobView) → AreOut t true jobs → All (CanMark t.homes) (passes_of jobs)
can_collect t jobs out = passes_of_jobs (CanMark t.homes) jobs
    (All-weaker (IsJobOf t true) (λ (j : JobView). All (CanMark t.homes) j.passes)
    (λ j h. All-weaker (IsPassOf t true j.births) (CanMark t.homes) one j.passes h.passes) jobs out.jobs_are)
  where
    one : {births : List BirthView} (p : JobPass) → IsPassOf t true births p → CanMark t.homes p
    one p h = record { home = h.home; home_is = h.home_is; table = h.table; words = h.words; part = omega (arith, h.part) }

none_passed : (t : NoveltyTables) (births : List BirthView) (pair : Pair) (passes : List JobPass) → All (IsPassOf t true births) passes → parts_at pair passes ≡ 0 → passed_at pair passes ≡ []
none_passed t births pair [] are none = refl
none_passed t births pair (p ∷ passes) are none = by (is_pair pair p.pair) none (none_passed t births pair passes (All-tail (IsPassOf t true births) p passes are)) where
  part : p.pass.parts ≡ 1
  part = (All-head (IsPassOf t true births) p passes are).part

  by : (b : Bool) → cond b (p.pass.parts + parts_at pair passes) (parts_at pair passes) ≡ 0 → (parts_at pair passes ≡ 0 → passed_at pair passes ≡ []) →
      cond b (p.pass.marks ++ passed_at pair passes) (passed_at pair passes) ≡ []
  by true zero rest = absurd (omega (arith, part, zero))
  by false zero rest = rest zero

-- a pair with a pass has one, with the marks of the births
one_passed : (t : NoveltyTables) (births : List BirthView) (pair : Pair) (home : HomeView) → home_of t.homes pair ≡ Some home → (passes : List JobPass) →
    All (IsPassOf t true births) passes → parts_at pair passes ≤ 1 → has_pass passes (counters_of pair) ≡ true →
    passed_at pair passes ≡ marks_for (ranked home.ranking) (counters_of pair) births
one_passed t births pair home found [] are one there = absurd (cc)
one_passed t births pair home found (p ∷ passes) are one there =
    by (is_pair pair p.pair) refl one (one_passed t births pair home found passes (All-tail (IsPassOf t true births) p passes are)) where
      is : IsPassOf t true births p
      is = All-head (IsPassOf t true births) p passes are

      by : (b : Bool) → is_pair pair p.pair ≡ b → cond b (p.pass.parts + parts_at pair passes) (parts_at pair passes) ≤ 1 →
          (parts_at pair passes ≤ 1 → has_pass passes (counters_of pair) ≡ true → passed_at pair passes ≡ marks_for (ranked home.ranking) (counters_of pair) births) →
          cond b (p.pass.marks ++ passed_at pair passes) (passed_at pair passes) ≡ marks_for (ranked home.ranking) (counters_of pair) births
      by true here few rest =
          let none : parts_at pair passes ≡ 0 = omega (arith, is.part, few) in
          let same : pair ≡ p.pair = same_pair pair p.pair here in
          let home_is : is.home ≡ home = some_same is.home home (sym is.home_is ∙ (ap (home_of t.homes) (sym same) ∙ found)) in
          ap (λ (l : List Arrival). p.pass.marks ++ l) (none_passed t births pair passes (All-tail (IsPassOf t true births) p passes are) none)
          ∙ (append-nil p.pass.marks ∙ (is.marks ∙ (λ j. marks_for (ranked (home_is j).ranking) (counters_of (sym same j)) births)))
      by false here few rest = rest few (sym (ap (λ b. b || has_pass passes (counters_of pair)) (is_pair-swapped p.pair pair ∙ here)) ∙ there)

none_marked : (places : Placing) (counters : ℕ × ℕ) (births : List BirthView) → All (λ b. birth_marks places counters b ≡ []) births → marks_for places counters births ≡ []
none_marked places counters [] none = refl
none_marked places counters (b ∷ births) none =
    ap (λ (l : List Arrival). l ++ marks_for places counters births) (All-head (λ (x : BirthView). birth_marks places counters x ≡ []) b births none)
    ∙ none_marked places counters births (All-tail (λ (x : BirthView). birth_marks places counters x ≡ []) b births none)

-- where there are no places no tuple has one
no_tuples : (places : Placing) → AreApart places → places.len ≤ 0 → (tuples : List (List ℕ)) → All (HasPlace places) tuples → tuples ≡ []
no_tuples places apart none [] have = refl
no_tuples places apart none (u ∷ tuples) have =
    let below : place_in places u < places.len = apart.below u (All-head (HasPlace places) u tuples have) in absurd (omega arith)

module _ (t : NoveltyTables) (filled : AreFilled t) (pair : Pair) (home : HomeView) (found : home_of t.homes pair ≡ Some home) where
  abbrev at_ranks : Placing
  at_ranks = ranked home.ranking

  abbrev full : IsFilled t.index.width t.index.atoms home
  full = filled.homes pair home found

  -- the tuples of a birth of the pair have places
  tuples_of_birth : (b : BirthView) → IsHeldIn t.homes b → is_same b.node.counters (counters_of pair) ≡ true → All (HasPlace at_ranks) (marked_tuples at_ranks.width b)
  tuples_of_birth b held same =
      let mine : AreHeld home.ranking b.node.state = held pair home found (sym (same_counters b.node.counters (counters_of pair) same)) in
      marked_have_places at_ranks b (held_below home.ranking b.node.state full.within mine) (held_counted home.ranking b.node.state mine)

  no_words_marked : (j : JobView) → IsJobOf t true j → has_pass j.passes (counters_of pair) ≡ false → All (λ b. birth_marks at_ranks (counters_of pair) b ≡ []) j.births
  no_words_marked j is none k d within =
      let b : BirthView = get_or j.births k d in
      ⊎_elim
      (λ (same : is_same b.node.counters (counters_of pair) ≡ true).
      let counters : b.node.counters ≡ counters_of pair = same_counters b.node.counters (counters_of pair) same in
      ⊎_elim
      (λ (some : 0 < home.table.words).
      let words : HasWords t.homes b.node.counters = λ q other at e.
      let is_pair : q ≡ pair = pair_of_counters q pair (at ∙ counters) in
      let is_home : home ≡ other = some_same home other (sym found ∙ (ap (home_of t.homes) (sym is_pair) ∙ e)) in
      subst (λ (h : HomeView). 0 < h.table.words) is_home some in
      absurd (both_ways (has_pass j.passes (counters_of pair)) none (ap (has_pass j.passes) (sym counters) ∙ is.covers k d within words)))
      (λ (no : home.table.words ≤ 0).
      ap (λ s. cond s (marks_at at_ranks b.node.number (marked_tuples at_ranks.width b)) []) same
      ∙ ap (marks_at at_ranks b.node.number)
      (no_tuples at_ranks full.apart (omega (arith, full.words)) (marked_tuples at_ranks.width b) (tuples_of_birth b (is.held k d within) same)))
      (cases_lt 0 home.table.words))
      (λ (other : is_same b.node.counters (counters_of pair) ≡ false).
      ap (λ s. cond s (marks_at at_ranks b.node.number (marked_tuples at_ranks.width b)) []) other)
      (cases_Bool (is_same b.node.counters (counters_of pair)))

  job_passed : (j : JobView) → IsJobOf t true j → passed_at pair j.passes ≡ marks_for at_ranks (counters_of pair) j.births
  job_passed j is = ⊎_elim
      (λ (there : has_pass j.passes (counters_of pair) ≡ true). one_passed t j.births pair home found j.passes is.passes (is.one pair) there)
      (λ (none : has_pass j.passes (counters_of pair) ≡ false).
      none_passed t j.births pair j.passes is.passes (no_parts pair j.passes none)
      ∙ sym (none_marked at_ranks (counters_of pair) j.births (no_words_marked j is none)))
      (cases_Bool (has_pass j.passes (counters_of pair)))

  passed_is : (jobs : List JobView) → All (IsJobOf t true) jobs → passed_at pair (passes_of jobs) ≡ marks_for at_ranks (counters_of pair) (births_of jobs)
  passed_is [] are = refl
  passed_is (j ∷ jobs) are =
      passed_at-append pair j.passes (passes_of jobs)
      ∙ ((λ i. job_passed j (All-head (IsJobOf t true) j jobs are) i ++ passed_is jobs (All-tail (IsJobOf t true) j jobs are) i)
      ∙ sym (flat_map-append (birth_marks at_ranks (counters_of pair)) j.births (births_of jobs)))

  -- births are marked at tuples that are held alone
  free_tuples : (place : ℕ) → IsFree home.ranking place → (b : BirthView) → AreHeld home.ranking b.node.state → (tuples : List (List ℕ)) →
      All (HasPlace at_ranks) tuples → All (λ u. list_all (has b.node.state) u ≡ true) tuples → first (marks_at at_ranks b.node.number tuples) place ≡ 2 ^ 64 - 1
  free_tuples place free b mine [] have all = refl
  free_tuples place free b mine (u ∷ tuples) have all =
      let here : list_all (is_held home.ranking) u ≡ true = held_tuple home.ranking b.node.state mine u (All-head (λ v. list_all (has b.node.state) v ≡ true) u tuples all) in
      let apart : (place_in at_ranks u == place) ≡ false = ne_eqb (place_in at_ranks u) place (free u (All-head (HasPlace at_ranks) u tuples have) here) in
      let rest : first (marks_at at_ranks b.node.number tuples) place ≡ 2 ^ 64 - 1 =
      free_tuples place free b mine tuples (All-tail (HasPlace at_ranks) u tuples have) (All-tail (λ v. list_all (has b.node.state) v ≡ true) u tuples all) in
      ap (λ c. cond c (min b.node.number (first (marks_at at_ranks b.node.number tuples) place)) (first (marks_at at_ranks b.node.number tuples) place)) apart ∙ rest

  free_birth : (place : ℕ) → IsFree home.ranking place → (b : BirthView) → IsHeldIn t.homes b → first (birth_marks at_ranks (counters_of pair) b) place ≡ 2 ^ 64 - 1
  free_birth place free b held = ⊎_elim
      (λ (same : is_same b.node.counters (counters_of pair) ≡ true).
      let mine : AreHeld home.ranking b.node.state = held pair home found (sym (same_counters b.node.counters (counters_of pair) same)) in
      ap (λ s. first (cond s (marks_at at_ranks b.node.number (marked_tuples at_ranks.width b)) []) place) same
      ∙ free_tuples place free b mine (marked_tuples at_ranks.width b) (tuples_of_birth b held same)
      (marked_in_state at_ranks b (held_below home.ranking b.node.state full.within mine) (held_counted home.ranking b.node.state mine)))
      (λ (other : is_same b.node.counters (counters_of pair) ≡ false).
      ap (λ s. first (cond s (marks_at at_ranks b.node.number (marked_tuples at_ranks.width b)) []) place) other)
      (cases_Bool (is_same b.node.counters (counters_of pair)))

  free_births : (place : ℕ) → IsFree home.ranking place → (births : List BirthView) → All (IsHeldIn t.homes) births → first (marks_for at_ranks (counters_of pair) births) place ≡ 2 ^ 64 - 1
  free_births place free [] held = refl
  free_births place free (b ∷ births) held =
      let here : first (birth_marks at_ranks (counters_of pair) b) place ≡ 2 ^ 64 - 1 = free_birth place free b (All-head (IsHeldIn t.homes) b births held) in
      let rest : first (marks_for at_ranks (counters_of pair) births) place ≡ 2 ^ 64 - 1 = free_births place free births (All-tail (IsHeldIn t.homes) b births held) in
      omega (arith, first_append (birth_marks at_ranks (counters_of pair) b) (marks_for at_ranks (counters_of pair) births) place)

  -- no birth has a tuple that is not held
  none_has : (tuple : List ℕ) → list_all (is_held home.ranking) tuple ≡ false → (births : List BirthView) → All (IsHeldIn t.homes) births →
      first_number (nodes_of births) (counters_of pair) tuple ≡ 2 ^ 64 - 1
  none_has tuple none [] held = refl
  none_has tuple none (b ∷ births) held =
      let other : has_tuple (counters_of pair) tuple b.node ≡ false = false_from_ne_true (has_tuple (counters_of pair) tuple b.node) (λ has_it.
      let parts = and_parts (is_same b.node.counters (counters_of pair)) (list_all (has b.node.state) tuple) has_it in
      let mine : AreHeld home.ranking b.node.state = All-head (IsHeldIn t.homes) b births held pair home found (sym (same_counters b.node.counters (counters_of pair) parts.0)) in
      both_ways (list_all (is_held home.ranking) tuple) none (held_tuple home.ranking b.node.state mine tuple parts.1)) in
      ap (λ c. cond c (min b.node.number (first_number (nodes_of births) (counters_of pair) tuple)) (first_number (nodes_of births) (counters_of pair) tuple)) other
      ∙ none_has tuple none births (All-tail (IsHeldIn t.homes) b births held)

module _ (t : NoveltyTables) (homes : Homes) (jobs : List JobView) (filled : AreFilled t) (out : AreOut t true jobs) (become : HomesBecome (Takes (passes_of jobs)) t.homes homes) where
  abbrev pub collected : NoveltyTables
  collected = record t { homes = homes; last = last_after (nodes_of (births_of jobs)) t.last; out = [] }

  all_held : All (IsHeldIn t.homes) (births_of jobs)
  all_held = all_of_jobs (IsHeldIn t.homes) jobs (All-weaker (IsJobOf t true) (λ (j : JobView). All (IsHeldIn t.homes) j.births) (λ j h. h.held) jobs out.jobs_are)

  pub home_collected : IsAtHome collected
  home_collected = record {
    none_out = refl;
    whole = λ pair home e.
        let before : Was (Takes (passes_of jobs)) t.homes pair home = was (Takes (passes_of jobs)) t.homes homes become pair home e in
        ap (λ (h : HomeView). h.parts) before.2 ∙ out.shared pair before.0 before.1;
  }

  pub filled_collected : AreFilled collected
  filled_collected = record {
    apart = filled.apart;
    homes = λ q after e.
        let before : Was (Takes (passes_of jobs)) t.homes q after = was (Takes (passes_of jobs)) t.homes homes become q after e in
        subst (IsFilled t.index.width t.index.atoms) (sym before.2) (taken q before.0 before.1);
    within =
        let same : length homes ≡ length t.homes = sym (length-keys_of homes) ∙ (ap (λ (ks : List Pair). length ks) become.pairs ∙ length-keys_of t.homes) in
        let product : length homes * t.index.len ≡ length t.homes * t.index.len = ap (λ n. n * t.index.len) same in
        omega (arith, filled.within);
    limited = filled.limited;
    rising = λ i j d less within. absurd (omega (arith, within));
    later = none_later (last_after (nodes_of (births_of jobs)) t.last);
  }
    where
      taken : (pair : Pair) (home : HomeView) → home_of t.homes pair ≡ Some home →
          IsFilled t.index.width t.index.atoms (at_home home.ranking home.table (home.marks ++ passed_at pair (passes_of jobs)) (home.parts + parts_at pair (passes_of jobs)))
      taken pair home found =
          let f : IsFilled t.index.width t.index.atoms home = filled.homes pair home found in
          record {
            width_is = f.width_is;
            atoms_are = f.atoms_are;
            apart = f.apart;
            within = f.within;
            words = f.words;
            unmarked = λ place free.
                let passed : first (passed_at pair (passes_of jobs)) place ≡ 2 ^ 64 - 1 =
                ap (λ (l : List Arrival). first l place) (passed_is t filled pair home found jobs out.jobs_are) ∙ free_births t filled pair home found place free (births_of jobs) all_held in
                let before : first home.marks place ≡ 2 ^ 64 - 1 = f.unmarked place free in
                omega (arith, first_append home.marks (passed_at pair (passes_of jobs)) place);
          }

      none_later : (o : Option ℕ) → IfSome o (λ last. All (λ n. last < n) [])
      none_later None = tt
      none_later (Some last) = All-nil (λ n. last < n)

  abbrev births : List BirthView
  births = births_of jobs

  rising : AllPairs (λ x y. x.number < y.number) (nodes_of births)
  rising = rising_nodes (nodes_of births)
      (subst (λ (l : List ℕ). AllPairs (λ x y. x < y) l) (sym out.numbers ∙ numbers_of_nodes births) filled.rising)

  later : (o : Option ℕ) → t.last ≡ o → IfSome o (λ last. All (λ b. last < b.node.number) births)
  later None is = tt
  later (Some last) is =
      let h : IfSome (Some last) (λ last. All (λ n. last < n) t.out) = subst (λ (o : Option ℕ). IfSome o (λ last. All (λ n. last < n) t.out)) is filled.later in
      later_births births last (subst (λ (l : List ℕ). All (λ n. last < n) l) (sym out.numbers) h)

  ready : All (IsReady t) births
  ready = all_of_jobs (IsReady t) jobs (All-weaker (IsJobOf t true) (λ (j : JobView). All (IsReady t) j.births) (λ j h. h.ready) jobs out.jobs_are)

  open_after : (counters : ℕ × ℕ) → IsOpen t counters → IsOpen collected counters
  open_after counters h = ap (λ ps. is_among ps counters) (same_pairs (Takes (passes_of jobs)) t.homes homes become) ∙ h

  can : (pair : Pair) (home : HomeView) (found : home_of t.homes pair ≡ Some home) →
      All (IsOf (ranked home.ranking) (filled.homes pair home found).apart (counters_of pair) (CanCount (ranked home.ranking) (filled.homes pair home found).apart)) births
  can pair home found k d within same =
      let f : IsFilled t.index.width t.index.atoms home = filled.homes pair home found in
      let b : BirthView = get_or births k d in
      let held : AreHeld home.ranking b.node.state = all_held k d within pair home found (sym (same_counters b.node.counters (counters_of pair) same)) in
      let less : b.node.number < 2 ^ 63 = (ready k d within).number in
      record {
        size = held_below home.ranking b.node.state f.within held;
        counted = held_counted home.ranking b.node.state held;
        low = omega arith;
      }

  -- where a birth has a tuple without a new atom, a birth before it had the tuple
  no_earlier : (before : List Generated) → StandsFor t before → (pair : Pair) (home : HomeView) (found : home_of t.homes pair ≡ Some home) → (tuple : List ℕ) → HasPlace t.index tuple →
      All (IsNoEarlier (ranked home.ranking) (filled.homes pair home found).apart (counters_of pair) tuple (first_at home tuple)) births
  no_earlier before stands pair home found tuple place k d within same all old =
      let b : BirthView = get_or births k d in
      let is : IsReady t b = ready k d within in
      let marked : first_at home tuple < 2 ^ 64 - 1 = is.marked pair home found (sym (same_counters b.node.counters (counters_of pair) same)) tuple place all old in
      let word : first_at home tuple ≡ first_number before (counters_of pair) tuple = stands.firsts pair home found tuple place in
      let known = first_is_known before (counters_of pair) tuple stands.rising (omega arith) in
      let after : IfSome (Some known.0) (λ last. All (λ b. last < b.node.number) births) = later (Some known.0) (stands.last ∙ known.1) in
      let less : known.0 < b.node.number = after k d within in
      omega (arith, known.2)

  -- the first arrival at a tuple is that of the marks before and of the births
  first_taken : (before : List Generated) → StandsFor t before → (pair : Pair) (home : HomeView) → home_of t.homes pair ≡ Some home → (tuple : List ℕ) → HasPlace t.index tuple →
      first_at (at_home home.ranking home.table (home.marks ++ passed_at pair (passes_of jobs)) (home.parts + parts_at pair (passes_of jobs))) tuple
      ≡ min (first_at home tuple) (first_number (nodes_of births) (counters_of pair) tuple)
  first_taken before stands pair home found tuple place =
      let f : IsFilled t.index.width t.index.atoms home = filled.homes pair home found in
      let taken : HomeView = at_home home.ranking home.table (home.marks ++ passed_at pair (passes_of jobs)) (home.parts + parts_at pair (passes_of jobs)) in
      let at : ℕ = place_in (ranked home.ranking) tuple in
      ⊎_elim
      (λ (held : list_all (is_held home.ranking) tuple ≡ true).
      let now : first_at home tuple ≡ first home.marks at = first_held home tuple held in
      let passed : first (passed_at pair (passes_of jobs)) at ≡ first (marks_for (ranked home.ranking) (counters_of pair) births) at =
      ap (λ (l : List Arrival). first l at) (passed_is t filled pair home found jobs out.jobs_are) in
      let new : min (first_at home tuple) (first (marks_for (ranked home.ranking) (counters_of pair) births) at) ≡ min (first_at home tuple) (first_number (nodes_of births) (counters_of pair) tuple) =
      first_of_births (ranked home.ranking) f.apart births (counters_of pair) tuple (first_at home tuple) (held_place home.ranking t.index f.within (sym f.width_is) tuple place held)
      (can pair home found) (no_earlier before stands pair home found tuple place) in
      first_held taken tuple held
      ∙ (first_append home.marks (passed_at pair (passes_of jobs)) at
      ∙ ((λ j. min (sym now j) (passed j)) ∙ new)))
      (λ (none : list_all (is_held home.ranking) tuple ≡ false).
      let was : first_at home tuple ≡ 2 ^ 64 - 1 = first_unheld home tuple none in
      let no_birth : first_number (nodes_of births) (counters_of pair) tuple ≡ 2 ^ 64 - 1 = none_has t filled pair home found tuple none births all_held in
      first_unheld taken tuple none ∙ (let least : 2 ^ 64 - 1 ≡ min (first_at home tuple) (first_number (nodes_of births) (counters_of pair) tuple) = omega arith in least))
      (cases_Bool (list_all (is_held home.ranking) tuple))

  pub stands_collected : (before : List Generated) → StandsFor t before → StandsFor collected (before ++ nodes_of births)
  stands_collected before stands = record {
    rising = pairs_append before (nodes_of births) stands.rising rising (λ i j d less inside.
        let greatest = last_is_greatest before i d stands.rising less in
        let low : IfSome (Some greatest.0) (λ last. All (λ b. last < b.node.number) births) = later (Some greatest.0) (stands.last ∙ greatest.1) in
        let h : greatest.0 < (get_or (nodes_of births) j d).number = All-map (λ (x : Generated). greatest.0 < x.number) (λ (b : BirthView). b.node) births low j d inside in
        omega (arith, greatest.2));
    pairs = All-append (λ (b : Generated). IsOpen collected b.counters) before (nodes_of births)
        (All-weaker (λ (b : Generated). IsOpen t b.counters) (λ (b : Generated). IsOpen collected b.counters) (λ b h. open_after b.counters h) before stands.pairs)
        (All-map (λ (b : Generated). IsOpen collected b.counters) (λ (b : BirthView). b.node) births
        (All-weaker (IsReady t) (λ (b : BirthView). IsOpen collected b.node.counters) (λ b h. open_after b.node.counters h.pair) births ready));
    last = ap (last_after (nodes_of births)) stands.last ∙ sym (last_number-append before (nodes_of births));
    firsts = λ pair home e tuple place.
        let old : Was (Takes (passes_of jobs)) t.homes pair home = was (Takes (passes_of jobs)) t.homes homes become pair home e in
        let word : first_at old.0 tuple ≡ first_number before (counters_of pair) tuple = stands.firsts pair old.0 old.1 tuple place in
        ap (λ (x : HomeView). first_at x tuple) old.2
        ∙ (first_taken before stands pair old.0 old.1 tuple place
        ∙ (ap (λ n. min n (first_number (nodes_of births) (counters_of pair) tuple)) word ∙ sym (first_number-append before (nodes_of births) (counters_of pair) tuple)));
  }
