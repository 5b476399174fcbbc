-- Pairs of counters that are not open yet, and what becomes of them as they are opened.
use Rattle.std.proofs.Common.{◌≡◌, ◌&&◌, ◌||◌, ◌==◌, ℕ, Bool, true, false, cond, List, [], ◌∷◌, ◌++◌, map, refl, sym, ap, ◌∙◌, subst, append_assoc}
use Rattle.std.specs.Cmp.{nat_eq_equiv}
use Rattle.std.specs.List.{list_any}
use Rattle.std.proofs.lemmas.List.{append-nil, map_push}
use Rattle.std.proofs.lemmas.List.Folds.{list_any-append}
use Rattle.indexmap.specs.IndexSet.{insert_key}
use Rattle.wp_novel.specs.declared.birth.Pair.{Pair}
use Rattle.wp_novel.specs.NoveltyTables.{counters_of, is_pair}
use Rattle.wp_plain.specs.Pairs.{has_pair, with_pair}
use Rattle.wp_commit.specs.Newborns.{AreUnopened}

-- ---- pairs that are there
has_pair-counters : (pairs : List Pair) (p : Pair) → has_pair (map counters_of pairs) (counters_of p) ≡ list_any (is_pair p) pairs
has_pair-counters [] p = refl
has_pair-counters (k ∷ pairs) p = λ j. (nat_eq_equiv.symm k.g p.g j && nat_eq_equiv.symm k.r p.r j) || has_pair-counters pairs p j

has_pair-append : (opened xs : List (ℕ × ℕ)) (x : ℕ × ℕ) → has_pair (opened ++ xs) x ≡ (has_pair opened x || has_pair xs x)
has_pair-append opened xs x = list_any-append (λ (y : ℕ × ℕ). (y.0 == x.0) && (y.1 == x.1)) opened xs

-- an open pair is among the pairs already
pub with_pair-open : (opened : List (ℕ × ℕ)) (pairs : List Pair) (p : Pair) → has_pair opened (counters_of p) ≡ true →
    opened ++ map counters_of pairs ≡ with_pair (opened ++ map counters_of pairs) (counters_of p)
with_pair-open opened pairs p there =
    let all = opened ++ map counters_of pairs in
    sym (ap (λ (b : Bool). cond b all (all ++ counters_of p ∷ []))
    (has_pair-append opened (map counters_of pairs) (counters_of p) ∙ ap (λ (b : Bool). b || has_pair (map counters_of pairs) (counters_of p)) there))

-- one more is neither open nor among those before it
unopened_push : (opened xs : List (ℕ × ℕ)) (x : ℕ × ℕ) → AreUnopened opened xs → has_pair (opened ++ xs) x ≡ false → AreUnopened opened (xs ++ x ∷ [])
unopened_push opened [] x were none = (ap (λ l. has_pair l x) (sym (append-nil opened)) ∙ none, tt)
unopened_push opened (y ∷ xs) x were none =
    (were.0, unopened_push (opened ++ y ∷ []) xs x were.1 (ap (λ l. has_pair l x) (append_assoc opened (y ∷ []) xs) ∙ none))

-- another one is inserted
module _ (opened : List (ℕ × ℕ)) (pairs : List Pair) (p : Pair) (closed : has_pair opened (counters_of p) ≡ false) where
  among : has_pair (opened ++ map counters_of pairs) (counters_of p) ≡ list_any (is_pair p) pairs
  among =
      has_pair-append opened (map counters_of pairs) (counters_of p)
      ∙ (ap (λ (b : Bool). b || has_pair (map counters_of pairs) (counters_of p)) closed ∙ has_pair-counters pairs p)

  pub with_pair-inserted : opened ++ map counters_of (insert_key is_pair pairs p) ≡ with_pair (opened ++ map counters_of pairs) (counters_of p)
  with_pair-inserted =
      let all = opened ++ map counters_of pairs in
      by (list_any (is_pair p) pairs) ∙ sym (ap (λ (b : Bool). cond b all (all ++ counters_of p ∷ [])) among)
    where
      by : (b : Bool) → opened ++ map counters_of (cond b pairs (pairs ++ p ∷ []))
          ≡ cond b (opened ++ map counters_of pairs) ((opened ++ map counters_of pairs) ++ counters_of p ∷ [])
      by true = refl
      by false = ap (λ l. opened ++ l) (map_push counters_of pairs p) ∙ sym (append_assoc opened (map counters_of pairs) (counters_of p ∷ []))

  pub unopened_inserted : AreUnopened opened (map counters_of pairs) → AreUnopened opened (map counters_of (insert_key is_pair pairs p))
  unopened_inserted were = by (list_any (is_pair p) pairs) among
    where
      by : (b : Bool) → has_pair (opened ++ map counters_of pairs) (counters_of p) ≡ b → AreUnopened opened (map counters_of (cond b pairs (pairs ++ p ∷ [])))
      by true is = were
      by false is = subst (AreUnopened opened) (sym (map_push counters_of pairs p)) (unopened_push opened (map counters_of pairs) (counters_of p) were is)
