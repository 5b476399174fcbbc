-- The lines of the answers on a certificate: what an audit says, and why a text is none. Want of memory is no fault of a text,
-- and nothing is said of it.
use Rattle.std.specs.Prelude.{ℕ, List, [], ◌++◌, length, codes, decimal, slice_index_or}
use Rattle.wp_cert.specs.declared.answer.Audit.{Audit}
use Rattle.wp_cert.specs.declared.answer.Audit.TheVariants.{Yes, Foreign, NoStart, Goal, Open}
use Rattle.wp_cert.specs.declared.errors.CertError.{CertError}
use Rattle.wp_cert.specs.declared.errors.CertError.TheVariants.{Line, Memory}
use Rattle.wp_cert.specs.Format.{line}

abbrev pub name_at : List (List ℕ) → ℕ → List ℕ
name_at names a = slice_index_or names a []

-- an action of a state, by its name
abbrev pub open_text : List (List ℕ) → ℕ → ℕ → List ℕ
open_text names k a = codes "; not closed: state " ++ decimal k ++ codes " act " ++ name_at names a

unfoldable pub audit_line : List (List ℕ) → ℕ → Audit → List ℕ
audit_line names count Yes = line (codes "; closed states " ++ decimal count)
audit_line names count (Foreign k) = line (codes "; foreign atom in state " ++ decimal k)
audit_line names count NoStart = line (codes "; no start")
audit_line names count (Goal k) = line (codes "; goal in state " ++ decimal k)
audit_line names count (Open k a) = line (open_text names k a)

abbrev pub audit_text : List (List ℕ) → List (List ℕ) → Audit → List ℕ
audit_text names cert audit = audit_line names (length cert) audit

unfoldable pub cert_error_text : CertError → List ℕ
cert_error_text (Line number) = line (codes "; refused: certificate: line " ++ decimal number)
cert_error_text Memory = []
