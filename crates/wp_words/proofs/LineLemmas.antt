-- The commands are such that the definitions of `clap` are exact for them.
use Rattle.std.proofs.Common.{◌≡◌, ◌∙◌, true, refl, ap}
use Rattle.clap.specs.Faults.{is_simple_and_free}
use Rattle.clap.specs.Simple.{App}
use Rattle.wp_words.specs.CommandLines.{audit_line, check_line, gen_line, ground_line, plan_line}

pub plan_line-simple : (app : App) → app ≡ plan_line → is_simple_and_free app ≡ true
unfolding plan_line
plan_line-simple app is = ap is_simple_and_free is ∙ refl

pub check_line-simple : (app : App) → app ≡ check_line → is_simple_and_free app ≡ true
unfolding check_line
check_line-simple app is = ap is_simple_and_free is ∙ refl

pub ground_line-simple : (app : App) → app ≡ ground_line → is_simple_and_free app ≡ true
unfolding ground_line
ground_line-simple app is = ap is_simple_and_free is ∙ refl

pub gen_line-simple : (app : App) → app ≡ gen_line → is_simple_and_free app ≡ true
unfolding gen_line
gen_line-simple app is = ap is_simple_and_free is ∙ refl

pub audit_line-simple : (app : App) → app ≡ audit_line → is_simple_and_free app ≡ true
unfolding audit_line
audit_line-simple app is = ap is_simple_and_free is ∙ refl
