-- The predicates of a domain.
--
--   ( NAME typed-vars )*
--
-- Each is declared once, by no word of the language, and there are no more than 4,096.
use Rattle.std.specs.Prelude.{ℕ, Bool, true, false, List, [], ◌∷◌, ◌++◌, nat_le, length}
use Rattle.wp_lex.specs.Trees.{Tree, Trees, Leaf, Branch, End, Then}
use Rattle.wp_syntax.specs.declared.error.ReadKind.TheVariants.{Shape, Reserved, Duplicate, TooMany}
use Rattle.wp_syntax.specs.declared.records.PredText.{PredText}
use Rattle.wp_syntax.specs.declared.typing.Role.TheVariants as roles
use Rattle.wp_syntax.specs.Word.{is_name, is_reserved}
use Rattle.wp_syntax.specs.Reading.{Read, fine, wrong, wrong_if, ◌>>=◌, ◌>>◌}
use Rattle.wp_syntax.specs.Grammar.{name_at}
use Rattle.wp_syntax.specs.Named.{has_named, most_declared}
use Rattle.wp_syntax.specs.Typing.{typed_of}

abbrev pub is_declared : List ℕ → List PredText → Bool
is_declared text preds = has_named (λ (pred : PredText). pred.name) text preds

-- a name that may be declared after those before it
abbrev pub declared_of : List PredText → List ℕ → ℕ → Read (Unit {0})
declared_of before text at =
    wrong_if (is_reserved text) Reserved at
    >> (wrong_if (is_declared text before) Duplicate at
    >> wrong_if (nat_le most_declared (length before)) (TooMany most_declared) at)

abbrev pub declaration_of : List PredText → List ℕ → ℕ → Trees → Read PredText
declaration_of before text at rest =
    declared_of before text at
    >> (typed_of roles.Predicate [] [] rest >>= λ params. fine (record { name = name_at text at; params = params }))

abbrev pub pred_of : List PredText → Tree → Read (List PredText)
pred_of before (Leaf text at) = wrong Shape at >> fine []
pred_of before (Branch at End) = wrong Shape at >> fine []
pred_of before (Branch at (Then (Branch i trees) rest)) = wrong Shape at >> fine []
pred_of before (Branch at (Then (Leaf text i) rest)) = elim (is_name text) [
  | true ↦ declaration_of before text i rest >>= λ pred. fine (pred ∷ [])
  | false ↦ wrong Shape at >> fine []
]

-- the predicates so far and those that follow
abbrev pub preds_of : List PredText → Trees → Read (List PredText)
preds_of before End = fine before
preds_of before (Then tree rest) = pred_of before tree >>= λ new. preds_of (before ++ new) rest
