-- Lists without repeats: the items whose state is none of the seen ones and none of an earlier item.
use Rattle.std.proofs.Common.{◌≡◌, ◌⊎◌, ◌≤◌, Bool, true, false, cond, List, [], ◌∷◌, ◌++◌, length, map, refl, sym, ap, ◌∙◌, subst, inl, inr, arith, append_assoc}
use Rattle.std.specs.Bool.{beq}
use Rattle.std.specs.Cmp.{booleans_Decides}
use Rattle.std.specs.Cmp.Lexicographic.{pointwise}
use Rattle.std.specs.List.{All, list_any}
use Rattle.std.proofs.lemmas.Bool.{both_ways, false_from_ne_true}
use Rattle.std.proofs.lemmas.List.{append-nil, map_push}
use Rattle.std.proofs.lemmas.List.Elements.{All-head, All-tail, All-cons}
use Rattle.std.proofs.lemmas.Slice.Eq.{slice_eq-Decides}
use Rattle.wp_task.proofs.Members.{In, In-from_Contains, Contains-from_In, In-map, In-append_left, In-append_right, In-append_cases, list_any-at, list_any-from}
use Rattle.wp_plain.specs.Expansion.{unseen, LeavesOutRepeats, RepeatsAreLeftOut}
use Rattle.wp_plain.proofs.Pigeons.{AreApart, apart_pairs}

-- ---- seen states
same_state : (s t : List Bool) → pointwise beq s t ≡ true → s ≡ t
same_state s t = (slice_eq-Decides booleans_Decides s t (pointwise beq s t) refl).0

pub seen_there : (seen : List (List Bool)) (s : List Bool) → list_any (pointwise beq s) seen ≡ true → In s seen
seen_there seen s some =
    let found : (t : List Bool) × In t seen × (pointwise beq s t ≡ true) = list_any-at (pointwise beq s) seen some in
    subst (λ t. In t seen) (sym (same_state s found.0 found.2)) found.1

pub seen_from_there : (seen : List (List Bool)) (s : List Bool) → In s seen → list_any (pointwise beq s) seen ≡ true
seen_from_there seen s there =
    list_any-from (pointwise beq s) seen s there ((slice_eq-Decides booleans_Decides s s (pointwise beq s s) refl).1 refl)

-- ---- what is unseen
module _ {X : Type 0} (state : X → List Bool) where
  pub unseen-few : (seen : List (List Bool)) (xs : List X) → length (unseen state seen xs) ≤ length xs
  unseen-few seen [] = omega arith
  unseen-few seen (x ∷ xs) = by (list_any (pointwise beq (state x)) seen) (unseen-few seen xs) (unseen-few (seen ++ state x ∷ []) xs) where
    by : (b : Bool) → length (unseen state seen xs) ≤ length xs → length (unseen state (seen ++ state x ∷ []) xs) ≤ length xs →
        length (elim b as (λ _. List X) [
          | true ↦ unseen state seen xs
          | false ↦ x ∷ unseen state (seen ++ state x ∷ []) xs
        ]) ≤ length (x ∷ xs)
    by true there new = omega arith
    by false there new = omega arith

  pub unseen-all : (P : X → Type 0) (seen : List (List Bool)) (xs : List X) → All P xs → All P (unseen state seen xs)
  unseen-all P seen [] all = all
  unseen-all P seen (x ∷ xs) all =
      by (list_any (pointwise beq (state x)) seen) (unseen-all P seen xs (All-tail P x xs all)) (unseen-all P (seen ++ state x ∷ []) xs (All-tail P x xs all)) where
        by : (b : Bool) → All P (unseen state seen xs) → All P (unseen state (seen ++ state x ∷ []) xs) →
            All P (elim b as (λ _. List X) [
              | true ↦ unseen state seen xs
              | false ↦ x ∷ unseen state (seen ++ state x ∷ []) xs
            ])
        by true there new = there
        by false there new = All-cons P x (unseen state (seen ++ state x ∷ []) xs) (All-head P x xs all) new

-- what is unseen, one item on
pub unseen-next : {X : Type 0} (state : X → List Bool) (kept : List (List Bool)) (fresh now : List X) (x : X) (xs : List X) →
    now ≡ cond (list_any (pointwise beq (state x)) (kept ++ map state fresh)) fresh (fresh ++ x ∷ []) →
    now ++ unseen state (kept ++ map state now) xs ≡ fresh ++ unseen state (kept ++ map state fresh) (x ∷ xs)
unseen-next {X = X} state kept fresh now x xs is =
    by (list_any (pointwise beq (state x)) (kept ++ map state fresh)) is where
      by : (b : Bool) → now ≡ cond b fresh (fresh ++ x ∷ []) →
          now ++ unseen state (kept ++ map state now) xs ≡
          fresh ++ elim b as (λ _. List X) [
            | true ↦ unseen state (kept ++ map state fresh) xs
            | false ↦ x ∷ unseen state ((kept ++ map state fresh) ++ state x ∷ []) xs
          ]
      by true same = ap (λ l. l ++ unseen state (kept ++ map state l) xs) same
      by false more =
          ap (λ l. l ++ unseen state (kept ++ map state l) xs) more
          ∙ (append_assoc fresh (x ∷ []) (unseen state (kept ++ map state (fresh ++ x ∷ [])) xs)
          ∙ ap (λ seen. fresh ++ x ∷ unseen state seen xs)
          (ap (λ l. kept ++ l) (map_push state fresh x) ∙ sym (append_assoc kept (map state fresh) (state x ∷ []))))

module _ {X : Type 0} (state : X → List Bool) where
  pub unseen-sub : (seen : List (List Bool)) (xs : List X) (x : X) → In x (unseen state seen xs) → In x xs
  unseen-sub seen [] x there = absurd there
  unseen-sub seen (y ∷ xs) x there = by (list_any (pointwise beq (state y)) seen) there (unseen-sub seen xs x) (unseen-sub (seen ++ state y ∷ []) xs x) where
    by : (b : Bool) → In x (elim b as (λ _. List X) [ true ↦ unseen state seen xs | false ↦ y ∷ unseen state (seen ++ state y ∷ []) xs ]) →
        (In x (unseen state seen xs) → In x xs) → (In x (unseen state (seen ++ state y ∷ []) xs) → In x xs) → In x (y ∷ xs)
    by true there old new = inr (old there)
    by false (inl same) old new = inl same
    by false (inr later) old new = inr (new later)

  -- each state is that of a seen one or of an unseen one
  pub unseen_covers : (seen : List (List Bool)) (xs : List X) (x : X) → In x xs → In (state x) seen ⊎ In (state x) (map state (unseen state seen xs))
  unseen_covers seen [] x there = absurd there
  unseen_covers seen (y ∷ xs) x there =
      by (list_any (pointwise beq (state y)) seen) refl there (unseen_covers seen xs x) (unseen_covers (seen ++ state y ∷ []) xs x) where
        behind : In (state x) (seen ++ state y ∷ []) ⊎ In (state x) (map state (unseen state (seen ++ state y ∷ []) xs)) →
            In (state x) seen ⊎ In (state x) (state y ∷ map state (unseen state (seen ++ state y ∷ []) xs))
        behind (inr later) = inr (inr later)
        behind (inl before) = at (In-append_cases seen (state y ∷ []) (state x) before) where
          at : In (state x) seen ⊎ In (state x) (state y ∷ []) →
              In (state x) seen ⊎ In (state x) (state y ∷ map state (unseen state (seen ++ state y ∷ []) xs))
          at (inl old) = inl old
          at (inr (inl same)) = inr (inl same)
          at (inr (inr none)) = absurd none

        by : (b : Bool) → list_any (pointwise beq (state y)) seen ≡ b → In x (y ∷ xs) →
            (In x xs → In (state x) seen ⊎ In (state x) (map state (unseen state seen xs))) →
            (In x xs → In (state x) (seen ++ state y ∷ []) ⊎ In (state x) (map state (unseen state (seen ++ state y ∷ []) xs))) →
            In (state x) seen ⊎ In (state x) (map state (elim b as (λ _. List X) [ true ↦ unseen state seen xs | false ↦ y ∷ unseen state (seen ++ state y ∷ []) xs ]))
        by true is (inl same) old new = inl (subst (λ s. In s seen) (ap state (sym same)) (seen_there seen (state y) is))
        by true is (inr later) old new = old later
        by false is (inl same) old new = inr (inl (ap state same))
        by false is (inr later) old new = behind (new later)

module _ {X : Type 0} (state : X → List Bool) where
  -- the states of what is unseen differ from those that were seen, and from each other
  pub unseen-new : (seen : List (List Bool)) (xs : List X) (s : List Bool) → In s (map state (unseen state seen xs)) → In s seen → ⊥
  unseen-new seen [] s there old = absurd there
  unseen-new seen (x ∷ xs) s there old =
      by (list_any (pointwise beq (state x)) seen) refl there (unseen-new seen xs s) (unseen-new (seen ++ state x ∷ []) xs s) where
        by : (b : Bool) → list_any (pointwise beq (state x)) seen ≡ b →
            In s (map state (elim b as (λ _. List X) [ true ↦ unseen state seen xs | false ↦ x ∷ unseen state (seen ++ state x ∷ []) xs ])) →
            (In s (map state (unseen state seen xs)) → In s seen → ⊥) →
            (In s (map state (unseen state (seen ++ state x ∷ []) xs)) → In s (seen ++ state x ∷ []) → ⊥) → ⊥
        by true is among rest later = rest among old
        by false is (inl same) rest later =
            both_ways (list_any (pointwise beq (state x)) seen) is (seen_from_there seen (state x) (subst (λ t. In t seen) same old))
        by false is (inr among) rest later = later among (In-append_left seen (state x ∷ []) s old)

  pub unseen-apart : (seen : List (List Bool)) (xs : List X) → AreApart (map state (unseen state seen xs))
  unseen-apart seen [] = tt
  unseen-apart seen (x ∷ xs) =
      by (list_any (pointwise beq (state x)) seen) (unseen-apart seen xs) (unseen-apart (seen ++ state x ∷ []) xs) where
        by : (b : Bool) → AreApart (map state (unseen state seen xs)) → AreApart (map state (unseen state (seen ++ state x ∷ []) xs)) →
            AreApart (map state (elim b as (λ _. List X) [ true ↦ unseen state seen xs | false ↦ x ∷ unseen state (seen ++ state x ∷ []) xs ]))
        by true rest later = rest
        by false rest later =
            (λ there. unseen-new (seen ++ state x ∷ []) xs (state x) there (In-append_right seen (state x ∷ []) (state x) (inl refl)), later)

-- ---- repeats are left out
module _ {X : Type 0} (state : X → List Bool) where
  -- a state that was seen already changes nothing of what was seen
  fewer : (seen states : List (List Bool)) (s t : List Bool) → list_any (pointwise beq s) seen ≡ true → In t (seen ++ s ∷ states) → In t (seen ++ states)
  fewer seen states s t old there = by (In-append_cases seen (s ∷ states) t there) where
    by : In t seen ⊎ In t (s ∷ states) → In t (seen ++ states)
    by (inl before) = In-append_left seen states t before
    by (inr (inl same)) = In-append_left seen states t (subst (λ u. In u seen) (sym same) (seen_there seen s old))
    by (inr (inr later)) = In-append_right seen states t later

  more : (seen states : List (List Bool)) (s t : List Bool) → In t (seen ++ states) → In t (seen ++ s ∷ states)
  more seen states s t there = by (In-append_cases seen states t there) where
    by : In t seen ⊎ In t states → In t (seen ++ s ∷ states)
    by (inl before) = In-append_left seen (s ∷ states) t before
    by (inr later) = In-append_right seen (s ∷ states) t (inr later)

  repeat : (seen : List (List Bool)) (earlier : List X) (x : X) → In (state x) (seen ++ map state earlier) →
      unseen state seen (earlier ++ x ∷ []) ≡ unseen state seen earlier
  repeat seen [] x there =
      ap (λ b. elim b as (λ _. List X) [ true ↦ [] | false ↦ x ∷ [] ])
      (seen_from_there seen (state x) (subst (λ l. In (state x) l) (append-nil seen) there))
  repeat seen (y ∷ earlier) x there =
      by (list_any (pointwise beq (state y)) seen) refl (repeat seen earlier x) (repeat (seen ++ state y ∷ []) earlier x) where
        by : (b : Bool) → list_any (pointwise beq (state y)) seen ≡ b →
            (In (state x) (seen ++ map state earlier) → unseen state seen (earlier ++ x ∷ []) ≡ unseen state seen earlier) →
            (In (state x) ((seen ++ state y ∷ []) ++ map state earlier) →
            unseen state (seen ++ state y ∷ []) (earlier ++ x ∷ []) ≡ unseen state (seen ++ state y ∷ []) earlier) →
            elim b as (λ _. List X) [ true ↦ unseen state seen (earlier ++ x ∷ []) | false ↦ y ∷ unseen state (seen ++ state y ∷ []) (earlier ++ x ∷ []) ]
            ≡ elim b as (λ _. List X) [ true ↦ unseen state seen earlier | false ↦ y ∷ unseen state (seen ++ state y ∷ []) earlier ]
        by true old rest later = rest (fewer seen (map state earlier) (state y) (state x) old there)
        by false new rest later = ap (λ l. y ∷ l) (later (subst (λ l. In (state x) l) (sym (append_assoc seen (state y ∷ []) (map state earlier))) there))

  other : (seen : List (List Bool)) (earlier : List X) (x : X) → (In (state x) (seen ++ map state earlier) → ⊥) →
      unseen state seen (earlier ++ x ∷ []) ≡ unseen state seen earlier ++ x ∷ []
  other seen [] x none =
      ap (λ b. elim b as (λ _. List X) [ true ↦ [] | false ↦ x ∷ [] ])
      (false_from_ne_true (list_any (pointwise beq (state x)) seen)
      (λ (old : list_any (pointwise beq (state x)) seen ≡ true).
      none (In-append_left seen [] (state x) (seen_there seen (state x) old))))
  other seen (y ∷ earlier) x none =
      by (list_any (pointwise beq (state y)) seen) (other seen earlier x) (other (seen ++ state y ∷ []) earlier x) where
        by : (b : Bool) →
            ((In (state x) (seen ++ map state earlier) → ⊥) → unseen state seen (earlier ++ x ∷ []) ≡ unseen state seen earlier ++ x ∷ []) →
            ((In (state x) ((seen ++ state y ∷ []) ++ map state earlier) → ⊥) →
            unseen state (seen ++ state y ∷ []) (earlier ++ x ∷ []) ≡ unseen state (seen ++ state y ∷ []) earlier ++ x ∷ []) →
            elim b as (λ _. List X) [ true ↦ unseen state seen (earlier ++ x ∷ []) | false ↦ y ∷ unseen state (seen ++ state y ∷ []) (earlier ++ x ∷ []) ]
            ≡ elim b as (λ _. List X) [ true ↦ unseen state seen earlier | false ↦ y ∷ unseen state (seen ++ state y ∷ []) earlier ] ++ x ∷ []
        by true rest later = rest (λ there. none (more seen (map state earlier) (state y) (state x) there))
        by false rest later =
            ap (λ l. y ∷ l) (later (λ there. none (subst (λ l. In (state x) l) (append_assoc seen (state y ∷ []) (map state earlier)) there)))

  leaves_out : (seen : List (List Bool)) → LeavesOutRepeats state seen
  leaves_out seen = record {
    repeat = λ earlier x there. repeat seen earlier x (In-from_Contains (state x) (seen ++ map state earlier) there);
    other = λ earlier x none. other seen earlier x (λ there. none (Contains-from_In (state x) (seen ++ map state earlier) there));
    new = λ xs x there old.
        unseen-new state seen xs (state x) (In-map state (unseen state seen xs) x (In-from_Contains x (unseen state seen xs) there))
        (In-from_Contains (state x) seen old);
    apart = λ xs. apart_pairs (map state (unseen state seen xs)) (unseen-apart state seen xs);
  }

pub repeats_are_left_out : RepeatsAreLeftOut
repeats_are_left_out seen = (leaves_out (λ x. x.state) seen, leaves_out (λ c. c.state) seen)
