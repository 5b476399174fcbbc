use Rattle.std.proofs.Common.{ℕ, sym, subst}
use Rattle.wp_report.specs.Endings.{IsPlanBelow}
use Rattle.wp_report.proofs.endings.ending_text.Goals as goal

pub put_steps-requires : goal.put_steps-requires
put_steps-requires c = subst (λ (count : ℕ). IsPlanBelow count c.args.ending.now.how) (sym c.requires.named.acts) c.requires.plan
