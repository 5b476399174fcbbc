-- Tests of the items of a list, and what is in a list that grows.
use Rattle.std.proofs.Common.{sym, ◌⊎◌, ◌==◌, ◌<◌, ℕ, Option, Some, None, subst, inl, inr, length, length-append, arith, fold, ◌≡◌, cond, ◌&&◌, ◌||◌, not, Bool, true, false, List, [], ◌∷◌, ◌++◌, map, refl, ap, ◌∙◌}
use Rattle.std.specs.List.{filter, list_all, list_any}
use Rattle.std.proofs.lemmas.List.Folds.{list_any-append}
use Rattle.std.specs.Option.{option_to_list}
use Rattle.std.proofs.lemmas.Bool.{and_from, and_parts, eq-eqb, eqb-true}
use Rattle.std.proofs.lemmas.List.{get_or_append_left}
use Rattle.std.proofs.Math.Seq.{get_or-append_seam}
use Rattle.wp_task.specs.Novelty.{Generated}
use Rattle.wp_task.proofs.Members.{In, In-map, In-append_left, In-append_right, list_any-at, list_any-from}
use Rattle.wp_count.specs.declared.brood.Child.{Child}
use Rattle.wp_count.specs.Laws.{track_after}
use Rattle.wp_plain.specs.Pairs.{has_pair, with_pair, pairs_in}
use Rattle.wp_plain.specs.Explored.{track_at, track_number}
use Rattle.wp_plain.specs.Nodes.{Node, states_kept}

pub list_any-map : {X Y : Type 0} (p : Y → Bool) (f : X → Y) (xs : List X) → list_any p (map f xs) ≡ list_any (λ x. p (f x)) xs
list_any-map p f [] = refl
list_any-map p f (x ∷ xs) = ap (λ b. p (f x) || b) (list_any-map p f xs)

-- a test of what is kept
pub list_any-kept : {X Y : Type 0} (p : Y → Bool) (f : X → Y) (k : X → Bool) (xs : List X) →
    list_any p (map f (filter k xs)) ≡ list_any (λ x. k x && p (f x)) xs
list_any-kept p f k [] = refl
list_any-kept {X = X} {Y = Y} p f k (x ∷ xs) = by (k x) (list_any-kept p f k xs) where
  by : (b : Bool) → list_any p (map f (filter k xs)) ≡ list_any (λ y. k y && p (f y)) xs →
      list_any p (map f (cond b (x ∷ filter k xs) (filter k xs))) ≡ ((b && p (f x)) || list_any (λ y. k y && p (f y)) xs)
  by true rest = ap (λ b. p (f x) || b) rest
  by false rest = rest

pub not-or : (c d : Bool) → (not c && not d) ≡ not (c || d)
not-or true d = refl
not-or false d = refl

-- no kept item passes, or some kept item does
pub list_all-not : {X : Type 0} (a e : X → Bool) (xs : List X) → list_all (λ x. not (a x)) (filter e xs) ≡ not (list_any (λ x. e x && a x) xs)
list_all-not a e [] = refl
list_all-not {X = X} a e (x ∷ xs) = by (e x) (list_all-not a e xs) where
  by : (b : Bool) → list_all (λ y. not (a y)) (filter e xs) ≡ not (list_any (λ y. e y && a y) xs) →
      list_all (λ y. not (a y)) (cond b (x ∷ filter e xs) (filter e xs)) ≡ not ((b && a x) || list_any (λ y. e y && a y) xs)
  by true rest = ap (λ b. not (a x) && b) rest ∙ not-or (a x) (list_any (λ y. e y && a y) xs)
  by false rest = rest

-- a test of the states that were seen: of kept nodes and of children
pub list_any-seen : (p : List Bool → Bool) (nodes : List Node) (children : List Child) →
    list_any p (states_kept nodes ++ map (λ c. c.state) children) ≡ (list_any (λ n. n.kept && p n.generated.state) nodes || list_any (λ c. p c.state) children)
list_any-seen p nodes children =
    list_any-append p (states_kept nodes) (map (λ c. c.state) children)
    ∙ (λ j. list_any-kept p (λ n. n.generated.state) (λ n. n.kept) nodes j || list_any-map p (λ c. c.state) children j)

-- ---- pairs of counters, each once
there-from_has_pair : (pairs : List (ℕ × ℕ)) (p : ℕ × ℕ) → has_pair pairs p ≡ true → In p pairs
there-from_has_pair pairs p is =
    let found : (q : ℕ × ℕ) × In q pairs × (((q.0 == p.0) && (q.1 == p.1)) ≡ true) =
    list_any-at (λ (q : ℕ × ℕ). (q.0 == p.0) && (q.1 == p.1)) pairs is in
    let parts = and_parts (found.0.0 == p.0) (found.0.1 == p.1) found.2 in
    let same : found.0 ≡ p = λ j. (eqb-true found.0.0 p.0 parts.0 j, eqb-true found.0.1 p.1 parts.1 j) in
    subst (λ q. In q pairs) same found.1

pub has_pair-from_there : (pairs : List (ℕ × ℕ)) (p : ℕ × ℕ) → In p pairs → has_pair pairs p ≡ true
has_pair-from_there pairs p there =
    list_any-from (λ (q : ℕ × ℕ). (q.0 == p.0) && (q.1 == p.1)) pairs p there
    (and_from (p.0 == p.0) (p.1 == p.1) (eq-eqb p.0 p.0 refl) (eq-eqb p.1 p.1 refl))

fold-has : (seen xs : List (ℕ × ℕ)) (p : ℕ × ℕ) → In p seen ⊎ In p xs → In p (fold with_pair seen xs)
fold-has seen [] p (inl old) = old
fold-has seen [] p (inr none) = absurd none
fold-has seen (x ∷ xs) p there = by (has_pair seen x) refl there (λ more. fold-has more xs p) where
  by : (b : Bool) → has_pair seen x ≡ b → In p seen ⊎ In p (x ∷ xs) →
      ((more : List (ℕ × ℕ)) → In p more ⊎ In p xs → In p (fold with_pair more xs)) →
      In p (fold with_pair (cond b seen (seen ++ x ∷ [])) xs)
  by true is (inl old) rest = rest seen (inl old)
  by true is (inr (inl same)) rest = rest seen (inl (subst (λ q. In q seen) (sym same) (there-from_has_pair seen x is)))
  by true is (inr (inr later)) rest = rest seen (inr later)
  by false is (inl old) rest = rest (seen ++ x ∷ []) (inl (In-append_left seen (x ∷ []) p old))
  by false is (inr (inl same)) rest = rest (seen ++ x ∷ []) (inl (In-append_right seen (x ∷ []) p (inl same)))
  by false is (inr (inr later)) rest = rest (seen ++ x ∷ []) (inr later)

pub pairs_have : (xs : List Generated) (x : Generated) → In x xs → In x.counters (pairs_in xs)
pairs_have xs x there = fold-has [] (map (λ y. y.counters) xs) x.counters (inr (In-map (λ y. y.counters) xs x there))

-- ---- tracks, with a new one or none
pub track_at-more : (tracks more : List (List ℕ)) (k : ℕ) → k < length tracks → track_at (tracks ++ more) k ≡ track_at tracks k
track_at-more tracks more k within = get_or_append_left tracks more [] k within

pub track-kept : (tracks : List (List ℕ)) (track : ℕ) (t : List ℕ) (fresh : Option (List ℕ)) → track < length tracks → track_at tracks track ≡ t →
    (track_number (length tracks) track fresh < length (tracks ++ option_to_list fresh))
    × (track_at (tracks ++ option_to_list fresh) (track_number (length tracks) track fresh) ≡ track_after t fresh)
track-kept tracks track t None within is =
    (omega (arith, length-append tracks []), track_at-more tracks [] track within ∙ is)
track-kept tracks track t (Some fresh) within is =
    (omega (arith, length-append tracks (fresh ∷ [])), get_or-append_seam tracks fresh [] [])
