-- What a reading fails with.
use Rattle.std.proofs.Common.{List, [], ◌++◌, Some, refl}
use Rattle.wp_syntax.specs.declared.error.ReadError.{ReadError}
use Rattle.wp_syntax.specs.declared.error.ReadError.TheVariants as read_errors
use Rattle.wp_syntax.specs.declared.error.Part.{Part}
use Rattle.wp_syntax.specs.Reading.{Wrong, told_by, Fails, error_of, IsRefusal}
use Rattle.wp_syntax.proofs.FaultLemmas.{tells_append}

pub fails_append : (e : ReadError) (xs ys : List Wrong) → Fails e xs → Fails e (xs ++ ys)
fails_append e xs ys h = tells_append (told_by e) xs ys h

-- it is the first fault, told of the part
pub refusal_of : (part : Part) (e : ReadError) (xs : List Wrong) → Fails e xs → IsRefusal part (xs ++ []) (error_of part e)
refusal_of part read_errors.Memory xs h = tt
refusal_of part (read_errors.Bad fault) xs h = (fault, tells_append (Some fault) xs [] h, refl)
