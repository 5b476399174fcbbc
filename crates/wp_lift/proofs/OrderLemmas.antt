-- Types that are listed one after another, with a flag for each.
use Rattle.std.proofs.Common.{◌≡◌, ◌≢◌, ℕ, zero, suc, ◌<◌, ⊎_elim, Bool, true, false, List, [], ◌∷◌, ◌++◌, length, get_or, slice_set, refl, sym, ◌∙◌, subst, arith, get_or-set_other}
use Rattle.std.specs.List.{Contains}
use Rattle.std.proofs.lemmas.Bool.{cases_eq}
use Rattle.std.proofs.lemmas.List.Elements.{Contains-append_left, Contains-append_right, Contains-append_cases}
use Rattle.std.proofs.Math.ListN.{length-set}
use Rattle.wp_lift.specs.Typing.{is_flagged}
use Rattle.wp_lift.specs.Rows.{IsListing, IsOrder}

-- one type more
only_one : (a b k : ℕ) → k < length (a ∷ []) → get_or (a ∷ []) k b ≡ b → b ≡ a
only_one a b zero h e = sym e
only_one a b (suc k) h e = absurd (omega arith)

pub listing-more : (order : List ℕ) (listed : List Bool) (a : ℕ) → IsListing order listed → a < length listed
    → IsListing (order ++ a ∷ []) (slice_set listed a true)
listing-more order listed a listing h =
    let len : length (slice_set listed a true) ≡ length listed = length-set listed a true in record {
      below = λ b found. subst (λ n. b < n) (sym len) (⊎_elim
          (listing.below b)
          (λ (last : Contains (a ∷ []) b). subst (λ k. k < length listed) (sym (only_one a b last.0 last.1 last.2)) h)
          (Contains-append_cases order (a ∷ []) b found));
      known = λ b flagged. ⊎_elim
          (λ (same : b ≡ a). subst (λ k. Contains (order ++ a ∷ []) k) (sym same)
          (Contains-append_right order (a ∷ []) a (0, (let lt : 0 < length (a ∷ []) = omega arith in lt), refl)))
          (λ (other : b ≢ a). Contains-append_left order (a ∷ []) b
          (listing.known b (sym (get_or-set_other listed a b true false other) ∙ flagged)))
          (cases_eq b a);
    }

-- all are listed, where each is flagged
pub listing-order : (count : ℕ) (order : List ℕ) (listed : List Bool) → IsListing order listed → count ≡ length listed
    → ((a : ℕ) → a < count → is_flagged listed a ≡ true) → IsOrder count order
listing-order count order listed listing same flagged = record {
  below = λ a found. subst (λ n. a < n) (sym same) (listing.below a found);
  each = λ a h. listing.known a (flagged a h);
}
