-- Homes whose ranks grow: all first arrivals stay.
use Rattle.std.proofs.Common.{◌≡◌, ◌≢◌, ◌&&◌, ℕ, ◌+◌, ◌-◌, ◌^◌, ◌<◌, ◌≤◌, cond, Bool, true, false, List, [], ◌∷◌, length, refl, sym, ap, ◌∙◌, subst, inl, inr, ⊎_elim, arith}
use Rattle.std.specs.List.{list_all}
use Rattle.std.proofs.lemmas.Bool.{cases_Bool, both_ways, and_parts, and_from}
use Rattle.wp_tuples.specs.Placing.{Placing, HasPlace, place_in, AreApart}
use Rattle.wp_tuples.specs.Ranking.{Ranking, is_held, ranked, unranked, Extends, HoldsAtoms}
use Rattle.wp_arrive.specs.declared.view.Arrival.{Arrival}
use Rattle.wp_arrive.specs.FirstArrival.{first}
use Rattle.wp_novel.specs.declared.birth.Pair.{Pair}
use Rattle.wp_novel.specs.declared.job.JobPass.{JobPass}
use Rattle.wp_novel.specs.NoveltyTables.{HomeView, at_home, bare, first_at, IsFree, IsFilled}
use Rattle.wp_novel.specs.Jobs.{Grows, Lends}
use Rattle.wp_novel.proofs.HeldLemmas.{first_held, first_unheld}

-- a tuple that is held has a place by the ranks
pub held_place : (r : Ranking) (places : Placing) → HoldsAtoms r → places.width ≡ r.width → (tuple : List ℕ) → HasPlace places tuple → list_all (is_held r) tuple ≡ true → HasPlace (ranked r) tuple
held_place r places within width [] place held = absurd place
held_place r places within width (p ∷ []) place held = within p (and_parts (is_held r p) true held).0
held_place r places within width (p ∷ q ∷ []) place held =
    let one = and_parts (is_held r p) (list_all (is_held r) (q ∷ [])) held in
    let other : is_held r q ≡ true = (and_parts (is_held r q) true one.1).0 in
    let two : r.width ≡ 2 = sym width ∙ place.0 in
    (two, (place.1.0, within q other, and_from (is_held r p) (is_held r q) one.0 other))
held_place r places within width (p ∷ q ∷ x ∷ rest) place held = absurd place

-- what is held stays so
pub still_held : (old new : Ranking) → Extends old new → (tuple : List ℕ) → list_all (is_held old) tuple ≡ true → list_all (is_held new) tuple ≡ true
still_held old new more [] held = refl
still_held old new more (p ∷ tuple) held =
    let parts = and_parts (is_held old p) (list_all (is_held old) tuple) held in
    and_from (is_held new p) (list_all (is_held new) tuple) (more.held p parts.0) (still_held old new more tuple parts.1)

-- a tuple that is held now and was not has a place that no tuple had
pub newly_free : (old new : Ranking) → Extends old new → AreApart (ranked new) → HoldsAtoms new → (tuple : List ℕ) → HasPlace (ranked new) tuple →
    list_all (is_held old) tuple ≡ false → IsFree old (place_in (ranked new) tuple)
newly_free old new more apart within tuple place none other there held same =
    let now : list_all (is_held new) other ≡ true = still_held old new more other held in
    let has : HasPlace (ranked new) other = held_place new (ranked old) within (sym more.width) other there now in
    let is : other ≡ tuple = apart.apart other tuple has place (more.same other held ∙ same) in
    both_ways (list_all (is_held old) tuple) none (ap (list_all (is_held old)) (sym is) ∙ held)

-- and what was free stays so, but for these
pub free_before : (old new : Ranking) → Extends old new → HoldsAtoms new → (place : ℕ) → IsFree new place → IsFree old place
free_before old new more within place free other there held same =
    let now : list_all (is_held new) other ≡ true = still_held old new more other held in
    let has : HasPlace (ranked new) other = held_place new (ranked old) within (sym more.width) other there now in
    free other has now (more.same other held ∙ same)

pub grown_first : (pair : Pair) (width atoms : ℕ) (a b : HomeView) → Grows pair a b → IsFilled width atoms a → IsFilled width atoms b → (places : Placing) → places.width ≡ width →
    (tuple : List ℕ) → HasPlace places tuple → first_at b tuple ≡ first_at a tuple
grown_first pair width atoms a b grows was now places same tuple place = ⊎_elim
    (λ (held : list_all (is_held a.ranking) tuple ≡ true).
    first_held b tuple (still_held a.ranking b.ranking grows.ranking tuple held)
    ∙ ((λ j. first (grows.marks j) (grows.ranking.same tuple held j)) ∙ sym (first_held a tuple held)))
    (λ (none : list_all (is_held a.ranking) tuple ≡ false). ⊎_elim
    (λ (held : list_all (is_held b.ranking) tuple ≡ true).
    let has : HasPlace (ranked b.ranking) tuple = held_place b.ranking places now.within (same ∙ sym now.width_is) tuple place held in
    first_held b tuple held
    ∙ (ap (λ (l : List Arrival). first l (place_in (ranked b.ranking) tuple)) grows.marks
    ∙ (was.unmarked (place_in (ranked b.ranking) tuple) (newly_free a.ranking b.ranking grows.ranking now.apart now.within tuple has none)
    ∙ sym (first_unheld a tuple none))))
    (λ (nor : list_all (is_held b.ranking) tuple ≡ false). first_unheld b tuple nor ∙ sym (first_unheld a tuple none))
    (cases_Bool (list_all (is_held b.ranking) tuple)))
    (cases_Bool (list_all (is_held a.ranking) tuple))

pub grows_itself : (pair : Pair) (home : HomeView) → ((r : Ranking) → Extends r r) → Grows pair home home
grows_itself pair home itself = record { ranking = itself home.ranking; marks = refl; parts = refl }

-- ---- what is lent
pub same_first : (a b : HomeView) → b.ranking ≡ a.ranking → b.marks ≡ a.marks → (tuple : List ℕ) → first_at b tuple ≡ first_at a tuple
same_first a b ranking marks tuple = λ j. cond (list_all (is_held (ranking j)) tuple) (first (marks j) (place_in (ranked (ranking j)) tuple)) (2 ^ 64 - 1)

pub lent_filled : (passes : List JobPass) (pair : Pair) (width atoms : ℕ) (a b : HomeView) → Lends passes pair a b → IsFilled width atoms a → IsFilled width atoms b
lent_filled passes pair width atoms a b lends f =
    let with_parts : IsFilled width atoms (at_home a.ranking a.table a.marks b.parts) =
    record { width_is = f.width_is; atoms_are = f.atoms_are; apart = f.apart; within = f.within; words = f.words; unmarked = f.unmarked } in
    let same : at_home a.ranking a.table a.marks b.parts ≡ b = λ j. at_home (sym lends.ranking j) (sym lends.table j) (sym lends.marks j) b.parts in
    subst (IsFilled width atoms) same with_parts

-- ---- a pair that is opened
pub bare_filled : (width atoms : ℕ) → AreApart (ranked (unranked width 0)) → HoldsAtoms (unranked width 0) → IsFilled width atoms (bare (unranked width 0))
bare_filled width atoms apart within = record {
  width_is = refl;
  atoms_are = inl refl;
  apart = apart;
  within = within;
  words = omega arith;
  unmarked = λ place free. refl;
}

pub unmarked_first : (home : HomeView) (tuple : List ℕ) → home.marks ≡ [] → first_at home tuple ≡ 2 ^ 64 - 1
unmarked_first home tuple none = ⊎_elim
    (λ (held : list_all (is_held home.ranking) tuple ≡ true).
    first_held home tuple held ∙ ap (λ (l : List Arrival). first l (place_in (ranked home.ranking) tuple)) none)
    (λ (nor : list_all (is_held home.ranking) tuple ≡ false). first_unheld home tuple nor)
    (cases_Bool (list_all (is_held home.ranking) tuple))
