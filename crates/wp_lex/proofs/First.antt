-- The fault from a place on is the first one there.
use Rattle.std.proofs.Common.{◌≡◌, ℕ, zero, suc, ◌+◌, ◌<◌, List, Option, None, Some, length, refl, sym, ap, subst, ◌∙◌, inl, inr, arith, zero-add, below_more}
use Rattle.std.specs.Prelude.{MatchOption}
use Rattle.wp_lex.specs.declared.error.LexError.{LexError}
use Rattle.wp_lex.specs.declared.place.Source.{Source}
use Rattle.wp_lex.specs.Places.{place_at}
use Rattle.wp_lex.specs.Faults.{fault_at, fault_at_end, fault_from, NoneBefore, IsFirstFault, HasNoFault}
use Rattle.wp_lex.proofs.Steps.{fault_behind, fault_from-behind, fault_from-more, fault_from-here}

at_end : (source : Source) (text : List ℕ) (behind : Option LexError) → fault_behind source text ≡ behind
    → NoneBefore source text (length text) → MatchOption behind (HasNoFault source text) (IsFirstFault source text)
at_end source text None e none = (none, e)
at_end source text (Some error) e none = inr (none, e)

here_or_later : (source : Source) (text : List ℕ) (i : ℕ) (found here : Option LexError) → i < length text
    → NoneBefore source text i → fault_from source text i ≡ found → fault_at source text i ≡ here
    → (NoneBefore source text (i + 1) → fault_from source text (i + 1) ≡ found
    → MatchOption found (HasNoFault source text) (IsFirstFault source text))
    → MatchOption found (HasNoFault source text) (IsFirstFault source text)
here_or_later source text i found None h none e is later =
    later (below_more (λ k. fault_at source text k ≡ None) i none is) (sym (fault_from-more source text i h is) ∙ e)
here_or_later source text i found (Some error) h none e is later =
    let P : Option LexError → Type 0 = λ f. MatchOption f (HasNoFault source text) (IsFirstFault source text) in
    subst P (sym (fault_from-here source text i error h is) ∙ e) (inl (i, h, is, none))

first_from : (n : ℕ) (source : Source) (text : List ℕ) (i : ℕ) (found : Option LexError) → length text ≡ i + n
    → NoneBefore source text i → fault_from source text i ≡ found
    → MatchOption found (HasNoFault source text) (IsFirstFault source text)
first_from zero source text i found e none is =
    let whole : i ≡ length text = omega arith in
    at_end source text found
    (sym (ap (λ k. fault_at_end source (place_at text k)) whole) ∙ fault_from-behind source text i (place_at text i) whole refl ∙ is)
    (let P : ℕ → Type 0 = NoneBefore source text in subst P whole none)
first_from (suc n) source text i found e none is =
    let inside : i < length text = omega arith in
    let after : length text ≡ (i + 1) + n = omega arith in
    here_or_later source text i found (fault_at source text i) inside none is refl (first_from n source text (i + 1) found after)

pub faults_are_first : (source : Source) (text : List ℕ)
    → MatchOption (fault_from source text 0) (HasNoFault source text) (IsFirstFault source text)
faults_are_first source text =
    first_from (length text) source text 0 (fault_from source text 0) (sym (zero-add (length text))) (λ k h. absurd (omega arith)) refl
