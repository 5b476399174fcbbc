-- The text of a small plan, its words and its comments.
use Rattle.std.proofs.Common.{◌≡◌, true, false, List, [], ◌∷◌, ◌++◌, Ok, refl, arith}
use Rattle.std.specs.Prelude.{codes}
use Rattle.wp_lex.specs.Words.{IsWord}
use Rattle.wp_check.specs.declared.step.Step.{Step}
use Rattle.wp_check.specs.PlanFile.{plan_of}
use Rattle.wp_check.specs.PlanText.{steps_text, is_comment}

abbrev two_steps : List Step
two_steps = record { name = codes "s1"; args = [] } ∷ record { name = codes "go"; args = codes "t-1" ∷ codes "a" ∷ [] } ∷ []

their_text : steps_text two_steps ≡ codes "(s1)" ++ 10 ∷ codes "(go t-1 a)" ++ 10 ∷ []
their_text = refl

they_are_read : plan_of (codes "(s1)" ++ 10 ∷ codes "(go t-1 a)" ++ 10 ∷ codes "; found (not) 2" ++ 10 ∷ []) ≡ Ok two_steps
unfolding plan_of
they_are_read = refl

a_word : IsWord (codes "t-1")
a_word = record { some = omega arith; letters = refl }

a_comment : is_comment (codes "; found steps 2") ≡ true
a_comment = refl

two_lines_are_no_comment : is_comment (codes "; a" ++ 10 ∷ codes "(b)") ≡ false
two_lines_are_no_comment = refl
