use Rattle.wp_report.proofs.CauseLemmas.{schema_there}
use Rattle.wp_report.proofs.verdicts.put_cond.Goals as goal

pub schema_at-requires : goal.schema_at-requires
schema_at-requires c = schema_there c.args.lifted.now c.args.schema c.args.place c.requires
