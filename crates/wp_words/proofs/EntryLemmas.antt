-- What `clap` answers, and the entries of the words.
use Rattle.std.proofs.Common.{◌≡◌, ◌≢◌, ◌∙◌, ℕ, inl, inr, List, [], ◌∷◌, length, Option, Some, None, IfSome, IfNone, option_map, if◌then◌else◌, true, refl, sym, ap, Bor}
use Rattle.std.proofs.Math.Dec.{eqb-suc-zero}
use Rattle.std.proofs.lemmas.Bool.{and_parts}
use Rattle.clap.specs.Faults.{fault_of, is_free_app, is_simple_and_free}
use Rattle.clap.specs.Kinds.{HasKind, IsAmong, Kinds}
use Rattle.clap.specs.Simple.{App, built, is_simple, matches_of}
use Rattle.clap.specs.Values.{kind_of}
use Rattle.clap.specs.Walk.{Row, is_empty}
use Rattle.clap.specs.declared.error.Error.{Error}
use Rattle.clap.specs.declared.error.kind.ErrorKind.{ErrorKind}
use Rattle.clap.specs.declared.error.kind.ErrorKind.TheVariants.{OutOfMemory}
use Rattle.wp_words.specs.CommandLines.{entries_of}

-- a command that is simple and free is simple
is_simple-free : (app : App) → is_simple_and_free app ≡ true → is_simple app ≡ true
is_simple-free app both = (and_parts (is_simple app) (is_free_app (built app)) both).0

-- words without a fault have their matches as entries
pub entries_of-taken : {X : Type 0} (app : App) (words : List (List ℕ)) (entries : List Row) → is_simple_and_free app ≡ true
    → (is_simple_and_free app ≡ true → fault_of app words ≡ []) → (is_simple app ≡ true → (entries ≡ matches_of app words) × X)
    → entries_of app words ≡ Some entries
unfolding entries_of
entries_of-taken app words entries simple none are =
    ap (λ (kinds : Kinds). if is_empty kinds then Some (matches_of app words) else None) (none simple)
    ∙ ap Some (sym (are (is_simple-free app simple)).0)

none_of : (kind : ErrorKind) (kinds : Kinds) (entries : List Row) → IsAmong kind kinds → (if is_empty kinds then Some entries else None) ≡ None
none_of kind [] entries among = absurd among
none_of kind (first ∷ others) entries among = rw (eqb-suc-zero (length others)) refl

-- words with a fault have none
pub entries_of-refused : (app : App) (words : List (List ℕ)) (error : Error) → is_simple_and_free app ≡ true
    → (is_simple_and_free app ≡ true → HasKind (fault_of app words) error) → kind_of error ≢ OutOfMemory → entries_of app words ≡ None
unfolding entries_of
entries_of-refused app words error simple has other = elim (has simple) [
  | inl memory ↦ absurd (other memory)
  | inr among ↦ none_of (kind_of error) (fault_of app words) (matches_of app words) among
]

-- a text that is there, and one that is not
pub is_given : (value : Option (Bor (List ℕ))) (text : Option (List ℕ)) → option_map (λ v. v.now) value ≡ text → IfSome value (λ v. text ≡ Some v.now)
is_given None text is = tt
is_given (Some v) text is = sym is

pub is_missing : (value : Option (Bor (List ℕ))) (text : Option (List ℕ)) → option_map (λ v. v.now) value ≡ text → IfNone value (text ≡ None)
is_missing None text is = sym is
is_missing (Some v) text is = tt
