-- Tuples that are held in a home: what its ranks say of them is what the index says.
use Rattle.std.proofs.Common.{◌≡◌, ◌⊎◌, ◌&&◌, ◌||◌, ℕ, ◌+◌, ◌-◌, ◌^◌, ◌<◌, ◌≤◌, cond, not, Bool, true, false, List, [], ◌∷◌, length, refl, sym, ap, ◌∙◌, inl, inr, ⊎_elim, arith}
use Rattle.std.specs.List.{All, list_all, list_any}
use Rattle.std.specs.Prelude.{filter}
use Rattle.std.proofs.lemmas.Bool.{cases_Bool, cond-true, cond-false, and_parts, and_from, and_cases}
use Rattle.std.proofs.lemmas.List.Elements.{All-nil, All-cons}
use Rattle.wp_task.specs.Set.{has, atoms_in}
use Rattle.wp_task.proofs.Members.{In}
use Rattle.wp_tuples.specs.Placing.{Placing, HasPlace, place_in}
use Rattle.wp_tuples.specs.Ranking.{Ranking, is_held, ranked, HoldsAtoms}
use Rattle.wp_arrive.specs.FirstArrival.{first}
use Rattle.wp_arrive.proofs.Firsts.{first_le}
use Rattle.wp_novel.specs.Births.{BirthView}
use Rattle.wp_novel.specs.MarkedTuples.{new_atoms, old_atoms, AreCounted}
use Rattle.wp_novel.specs.NoveltyTables.{HomeView, first_at}
use Rattle.wp_novel.specs.Marks.{IsLeastSize}
use Rattle.wp_novel.specs.Jobs.{AreHeld}
use Rattle.wp_novel.specs.Dealing.{IsEarlierAtOld}
use Rattle.wp_novel.proofs.AtomLemmas.{in_atoms, has_atoms, has_below}
use Rattle.wp_novel.proofs.MarkedTupleLemmas.{AreBelow, and_true, of_new, of_old}
use Rattle.wp_novel.proofs.SizeLemmas.{firsts_in, IsEarlier}

-- ---- lists
all_in : (f : ℕ → Bool) (xs : List ℕ) (x : ℕ) → list_all f xs ≡ true → In x xs → f x ≡ true
all_in f [] x all among = absurd among
all_in f (y ∷ xs) x all among =
    let parts = and_parts (f y) (list_all f xs) all in
    ⊎_elim (λ (here : x ≡ y). ap f here ∙ parts.0) (λ (later : In x xs). all_in f xs x parts.1 later) among

not_all : (f : ℕ → Bool) (xs : List ℕ) → list_all f xs ≡ false → (x : ℕ) × In x xs × (f x ≡ false)
not_all f [] none = absurd (cc)
not_all f (y ∷ xs) none =
    let Goal : Type 0 = (x : ℕ) × In x (y ∷ xs) × (f x ≡ false) in
    ⊎_elim
    (λ (here : f y ≡ false). let found : Goal = (y, inl refl, here) in found)
    (λ (later : list_all f xs ≡ false). let rest = not_all f xs later in let found : Goal = (rest.0, inr rest.1, rest.2) in found)
    (and_cases (f y) (list_all f xs) none)

-- what holds of a list holds of its two parts
pub parted : (f g : ℕ → Bool) (xs : List ℕ) → list_all f xs ≡ (list_all f (filter g xs) && list_all f (filter (λ x. not (g x)) xs))
parted f g [] = refl
parted f g (x ∷ xs) = by (g x) (parted f g xs) where
  swap : (a b c : Bool) → (a && (b && c)) ≡ (b && (a && c))
  swap true b c = refl
  swap false true c = refl
  swap false false c = refl

  assoc : (a b c : Bool) → (a && (b && c)) ≡ ((a && b) && c)
  assoc true b c = refl
  assoc false b c = refl

  by : (b : Bool) → list_all f xs ≡ (list_all f (filter g xs) && list_all f (filter (λ y. not (g y)) xs)) →
      (f x && list_all f xs) ≡ (list_all f (cond b (x ∷ filter g xs) (filter g xs)) && list_all f (cond (not b) (x ∷ filter (λ y. not (g y)) xs) (filter (λ y. not (g y)) xs)))
  by true rest = ap (λ l. f x && l) rest ∙ assoc (f x) (list_all f (filter g xs)) (list_all f (filter (λ y. not (g y)) xs))
  by false rest = ap (λ l. f x && l) rest ∙ swap (f x) (list_all f (filter g xs)) (list_all f (filter (λ y. not (g y)) xs))

each_of : (P : ℕ → Type 0) (xs : List ℕ) → ((x : ℕ) → In x xs → P x) → All P xs
each_of P [] each = All-nil P
each_of P (x ∷ xs) each = All-cons P x xs (each x (inl refl)) (each_of P xs (λ y later. each y (inr later)))

-- the atoms of a birth are below the size of its state
pub new_within : (b : BirthView) (n : ℕ) → length b.node.state ≡ n → All (λ p. p < n) (new_atoms b)
new_within b n size = each_of (λ p. p < n) (new_atoms b) (λ p h. let less : p < length b.node.state = has_below b.node.state p (of_new b p h).0 in omega arith)

pub old_within : (b : BirthView) (n : ℕ) → length b.node.state ≡ n → All (λ p. p < n) (old_atoms b)
old_within b n size = each_of (λ p. p < n) (old_atoms b) (λ p h. let less : p < length b.node.state = has_below b.node.state p (of_old b p h).0 in omega arith)

-- ---- what is held of a state
pub held_atom : (r : Ranking) (state : List Bool) → AreHeld r state → (p : ℕ) → has state p ≡ true → is_held r p ≡ true
held_atom r state held p there = all_in (is_held r) (atoms_in state) p held (in_atoms state p there)

pub held_tuple : (r : Ranking) (state : List Bool) → AreHeld r state → (tuple : List ℕ) → list_all (has state) tuple ≡ true → list_all (is_held r) tuple ≡ true
held_tuple r state held [] all = refl
held_tuple r state held (p ∷ tuple) all =
    let parts = and_parts (has state p) (list_all (has state) tuple) all in
    and_from (is_held r p) (list_all (is_held r) tuple) (held_atom r state held p parts.0) (held_tuple r state held tuple parts.1)

pub held_counted : (r : Ranking) (state : List Bool) → AreHeld r state → AreCounted (ranked r) state
held_counted r state held two p q less one other =
    and_from (is_held r p) (is_held r q) (held_atom r state held p one) (held_atom r state held q other)

pub held_below : (r : Ranking) (state : List Bool) → HoldsAtoms r → AreHeld r state → AreBelow (ranked r) state
held_below r state within held p there = within p (held_atom r state held p there)

-- ---- first arrivals
pub first_held : (home : HomeView) (tuple : List ℕ) → list_all (is_held home.ranking) tuple ≡ true → first_at home tuple ≡ first home.marks (place_in (ranked home.ranking) tuple)
first_held home tuple h = cond-true (list_all (is_held home.ranking) tuple) (first home.marks (place_in (ranked home.ranking) tuple)) (2 ^ 64 - 1) h

pub first_unheld : (home : HomeView) (tuple : List ℕ) → list_all (is_held home.ranking) tuple ≡ false → first_at home tuple ≡ 2 ^ 64 - 1
first_unheld home tuple h = cond-false (list_all (is_held home.ranking) tuple) (first home.marks (place_in (ranked home.ranking) tuple)) (2 ^ 64 - 1) h

-- ---- tuples of a state by the ranks and by the index
module _ (index : Placing) (r : Ranking) (state : List Bool) (width : index.width ≡ r.width) (size : length state ≡ index.atoms) (counted : AreCounted index state) where
  pub to_index : (tuple : List ℕ) → HasPlace (ranked r) tuple → list_all (has state) tuple ≡ true → HasPlace index tuple
  to_index [] h all = absurd h
  to_index (p ∷ []) h all =
      let there : has state p ≡ true = sym (and_true (has state p)) ∙ all in
      let less : p < length state = has_below state p there in let goal : p < index.atoms = omega arith in goal
  to_index (p ∷ q ∷ []) h all =
      let one = and_parts (has state p) (list_all (has state) (q ∷ [])) all in
      let other : has state q ≡ true = sym (and_true (has state q)) ∙ one.1 in
      let less : q < length state = has_below state q other in
      let two : index.width ≡ 2 = width ∙ h.0 in
      let within : q < index.atoms = omega arith in
      (two, (h.1.0, within, counted two p q h.1.0 one.0 other))
  to_index (p ∷ q ∷ x ∷ rest) h all = absurd h

  pub to_ranked : HoldsAtoms r → AreHeld r state → (tuple : List ℕ) → HasPlace index tuple → list_all (has state) tuple ≡ true → HasPlace (ranked r) tuple
  to_ranked within held [] h all = absurd h
  to_ranked within held (p ∷ []) h all = held_below r state within held p (sym (and_true (has state p)) ∙ all)
  to_ranked within held (p ∷ q ∷ []) h all =
      let one = and_parts (has state p) (list_all (has state) (q ∷ [])) all in
      let other : has state q ≡ true = sym (and_true (has state q)) ∙ one.1 in
      let two : r.width ≡ 2 = sym width ∙ h.0 in
      (two, (h.1.0, held_below r state within held q other, held_counted r state held two p q h.1.0 one.0 other))
  to_ranked within held (p ∷ q ∷ x ∷ rest) h all = absurd h

-- ---- the least size
module _ (index : Placing) (home : HomeView) (b : BirthView) (width : index.width ≡ home.ranking.width) (size : length b.node.state ≡ index.atoms) (counted : AreCounted index b.node.state) where
  abbrev r : Ranking
  r = home.ranking

  abbrev state : List Bool
  state = b.node.state

  abbrev IsAttained : (List ℕ → ℕ) → Placing → ℕ → Type 0
  IsAttained firsts places w = (tuple : List ℕ) × HasPlace places tuple × (list_all (has state) tuple ≡ true) × (length tuple ≡ w) × (b.node.number ≤ firsts tuple)

  module _ (within : HoldsAtoms r) (held : AreHeld r state) where
    at_places : (tuple : List ℕ) → list_all (has state) tuple ≡ true → first_at home tuple ≡ firsts_in (ranked r) home.marks tuple
    at_places tuple all = first_held home tuple (held_tuple r state held tuple all)

    pub earlier_ranked : IsEarlierAtOld index home b → IsEarlier (ranked r) home.marks b
    earlier_ranked earlier tuple place all old =
        let low : first_at home tuple < b.node.number = earlier tuple (to_index index r state width size counted tuple place all) all old in
        let same : first_at home tuple ≡ firsts_in (ranked r) home.marks tuple = at_places tuple all in omega arith

    pub size_held : (w : ℕ) → IsLeastSize (ranked r) (firsts_in (ranked r) home.marks) state b.node.number w → IsLeastSize index (first_at home) state b.node.number w
    size_held w least = record {
      range = (least.range.0, omega (arith, least.range.1, width));
      least = λ tuple place all short.
          let low : firsts_in (ranked r) home.marks tuple < b.node.number = least.least tuple (to_ranked index r state width size counted within held tuple place all) all short in
          let same : first_at home tuple ≡ firsts_in (ranked r) home.marks tuple = at_places tuple all in omega arith;
      attained = ⊎_elim
          (λ (last : w ≡ r.width + 1). let e : w ≡ index.width + 1 = omega (arith, width) in inl e)
          (λ (some : IsAttained (firsts_in (ranked r) home.marks) (ranked r) w).
          let same : first_at home some.0 ≡ firsts_in (ranked r) home.marks some.0 = at_places some.0 some.2 in
          let late : b.node.number ≤ first_at home some.0 = omega (arith, some.4) in
          let found : IsAttained (first_at home) index w = (some.0, to_index index r state width size counted some.0 some.1 some.2, some.2, some.3, late) in inr found)
          least.attained;
    }

  -- an atom whose tuples are not held never came true
  pub size_unheld : list_all (is_held r) (atoms_in state) ≡ false → 1 ≤ index.width → b.node.number < 2 ^ 64 → IsLeastSize index (first_at home) state b.node.number 1
  size_unheld none wide word =
      let some = not_all (is_held r) (atoms_in state) none in
      let p : ℕ = some.0 in
      let there : has state p ≡ true = has_atoms state p some.1 in
      let less : p < length state = has_below state p there in
      let place : p < index.atoms = omega arith in
      let first : first_at home (p ∷ []) ≡ 2 ^ 64 - 1 = first_unheld home (p ∷ []) (ap (λ x. x && true) some.2) in
      let late : b.node.number ≤ first_at home (p ∷ []) = omega arith in
      let found : IsAttained (first_at home) index 1 = (p ∷ [], place, and_true (has state p) ∙ there, refl, late) in
      record {
        range = (omega arith, omega arith);
        least = small;
        attained = inr found;
      }
    where
      small : (tuple : List ℕ) → HasPlace index tuple → list_all (has state) tuple ≡ true → length tuple < 1 → first_at home tuple < b.node.number
      small [] place all short = absurd place
      small (p ∷ tuple) place all short = absurd (omega arith)
