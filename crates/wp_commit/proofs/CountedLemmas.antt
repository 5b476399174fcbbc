-- Where an index counts every two atoms of a reachable state, the tuples that have a place in it are counted as the bounds of a search ask.
use Rattle.std.proofs.Common.{◌≡◌, ◌<◌, ◌≤◌, ℕ, Bool, true, false, List, [], ◌∷◌, filter, refl, sym, ◌∙◌, subst, arith}
use Rattle.std.specs.List.{All, Contains}
use Rattle.std.proofs.lemmas.List.Elements.{All-head, All-tail}
use Rattle.wp_task.specs.Set.{IsIn}
use Rattle.wp_task.specs.Task.{PlanningTask, IsReachable}
use Rattle.wp_task.specs.Novelty.{tuples_in}
use Rattle.wp_task.proofs.Members.{In, In-from_Contains, Contains-from_In, In-filter, In-filter_cases}
use Rattle.wp_tuples.specs.TuplePlaces.{Indexed}
use Rattle.wp_tuples.specs.Placing.{Placing, HasPlace, place_in, AreApart, all_placed, TuplesHavePlaces}
use Rattle.wp_plain.specs.declared.settings.Settings.{Settings}
use Rattle.wp_plain.specs.Ranges.{AreInRange}
use Rattle.wp_plain.specs.Laws as laws
use Rattle.wp_commit.specs.Searched.{IsIndexFor}

-- whether the index counts the tuple
abbrev is_counted : Placing → List ℕ → Bool
is_counted index [] = false
is_counted index (p ∷ []) = true
is_counted index (p ∷ q ∷ []) = index.counted p q
is_counted index (p ∷ q ∷ r ∷ rest) = false

module _ (task : PlanningTask) (settings : Settings) (index : Placing) (range : AreInRange settings) (for_task : IsIndexFor task settings index)
    (apart : AreApart index) (law : TuplesHavePlaces) where
  abbrev every : Indexed
  every = record { atoms = task.atoms; width = settings.width }

  abbrev pub counted_tuples : List (List ℕ)
  counted_tuples = filter (is_counted index) (tuples_in settings.width task.atoms)

  -- a tuple of the task that is counted has a place
  has_place : (tuple : List ℕ) → HasPlace (all_placed every) tuple → is_counted index tuple ≡ true → HasPlace index tuple
  has_place [] there counts = there
  has_place (p ∷ []) there counts =
      let atoms : index.atoms ≡ task.atoms = for_task.atoms in
      let below : p < task.atoms = there in
      let found : p < index.atoms = omega arith in found
  has_place (p ∷ q ∷ []) there counts =
      let atoms : index.atoms ≡ task.atoms = for_task.atoms in
      let below : q < task.atoms = there.1.1 in
      let within : q < index.atoms = omega arith in
      (for_task.width ∙ there.0, (there.1.0, within, counts))
  has_place (p ∷ q ∷ r ∷ rest) there counts = absurd there

  -- and a tuple that is true at a reachable state is counted
  is_counted-true : (state : List Bool) → IsReachable task state → (tuple : List ℕ) → HasPlace (all_placed every) tuple → All (IsIn state) tuple →
      is_counted index tuple ≡ true
  is_counted-true state reachable [] there holds = absurd there
  is_counted-true state reachable (p ∷ []) there holds = refl
  is_counted-true state reachable (p ∷ q ∷ []) there holds =
      for_task.counted state reachable (for_task.width ∙ there.0) p q there.1.0 (All-head (IsIn state) p (q ∷ []) holds)
      (All-head (IsIn state) q [] (All-tail (IsIn state) p (q ∷ []) holds))
  is_counted-true state reachable (p ∷ q ∷ r ∷ rest) there holds = absurd there

  placed_here : (tuple : List ℕ) → Contains counted_tuples tuple → HasPlace index tuple
  placed_here tuple there =
      let found = In-filter_cases (is_counted index) (tuples_in settings.width task.atoms) tuple (In-from_Contains tuple counted_tuples there) in
      has_place tuple ((law every tuple range.width.0 range.width.1).0 (Contains-from_In tuple (tuples_in settings.width task.atoms) found.0)) found.1

  pub counted_here : laws.AreCounted task settings.width index.len counted_tuples (place_in index)
  counted_here = record {
    all = λ state tuple reachable there holds.
        Contains-from_In tuple counted_tuples (In-filter (is_counted index) (tuples_in settings.width task.atoms) tuple
        (In-from_Contains tuple (tuples_in settings.width task.atoms) there)
        (is_counted-true state reachable tuple ((law every tuple range.width.0 range.width.1).0 there) holds));
    below = λ tuple there. apart.below tuple (placed_here tuple there);
    apart = λ x y here there same. apart.apart x y (placed_here x here) (placed_here y there) same;
  }
