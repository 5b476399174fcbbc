-- The line of a text that is refused: its part, then its first fault with its place. A fault is in the bytes, in the lists or in
-- the names of the text. Want of memory is no fault, and nothing is said of it.
use Rattle.std.specs.Prelude.{ℕ, List, [], ◌++◌, codes, decimal}
use Rattle.wp_lex.specs.declared.error.LexError.{LexError}
use Rattle.wp_lex.specs.declared.error.LexError.TheVariants as lexical
use Rattle.wp_syntax.specs.declared.error.Part.{Part}
use Rattle.wp_syntax.specs.declared.error.Part.TheVariants.{Plan}
use Rattle.wp_syntax.specs.declared.error.PddlKind.{PddlKind}
use Rattle.wp_syntax.specs.declared.error.PddlKind.TheVariants.{Shape, Unsupported, Reserved, Duplicate, UnknownType, UnknownPredicate, UnknownObject, UnknownVariable, Arity, TooMany}
use Rattle.wp_syntax.specs.declared.error.PddlError.{PddlError}
use Rattle.wp_syntax.specs.declared.error.PddlError.TheVariants as errors
use Rattle.wp_check.specs.declared.step.PlanError.{PlanError}
use Rattle.wp_check.specs.declared.step.PlanError.TheVariants as plans
use Rattle.wp_check.specs.PlanText.{line}
use Rattle.wp_report.specs.Inputs.{part_text}

unfoldable pub lexical_text : LexError → List ℕ
lexical_text (lexical.BadByte at) = codes "bad byte at " ++ decimal at
lexical_text (lexical.Unopened at) = codes "unopened at " ++ decimal at
lexical_text lexical.Unclosed = codes "unclosed"
lexical_text (lexical.Trailing at) = codes "trailing at " ++ decimal at
lexical_text (lexical.TooDeep at) = codes "too deep at " ++ decimal at
lexical_text lexical.Empty = codes "empty"
lexical_text lexical.Memory = []

unfoldable pub kind_text : PddlKind → List ℕ
kind_text Shape = codes "shape"
kind_text (Unsupported word) = codes "unsupported " ++ word
kind_text Reserved = codes "reserved"
kind_text Duplicate = codes "duplicate"
kind_text UnknownType = codes "unknown type"
kind_text UnknownPredicate = codes "unknown predicate"
kind_text UnknownObject = codes "unknown object"
kind_text UnknownVariable = codes "unknown variable"
kind_text Arity = codes "arity"
kind_text (TooMany limit) = codes "too many"

-- the limit that was passed, of a kind that has one
unfoldable pub limit_text : PddlKind → List ℕ
limit_text (TooMany limit) = codes " limit " ++ decimal limit
limit_text kind = []

unfoldable pub fault_text : PddlKind → ℕ → List ℕ
fault_text kind at = kind_text kind ++ codes " at " ++ decimal at ++ limit_text kind

unfoldable pub refusal_text : Part → List ℕ → List ℕ
refusal_text part fault = line (codes "; refused: " ++ part_text part ++ codes ": " ++ fault)

-- the line of a fault in the bytes
abbrev pub lex_text : Part → LexError → List ℕ
lex_text part error = refusal_text part (lexical_text error)

-- of a fault in the lists or in the names of a domain or a problem
abbrev pub pddl_text : PddlError → List ℕ
pddl_text errors.Memory = []
pddl_text (errors.Bad part kind at) = refusal_text part (fault_text kind at)

-- of a plan file
abbrev pub plan_error_text : PlanError → List ℕ
plan_error_text (plans.Lex fault) = lex_text Plan fault
plan_error_text (plans.Shape at) = refusal_text Plan (fault_text Shape at)
plan_error_text plans.Memory = []
