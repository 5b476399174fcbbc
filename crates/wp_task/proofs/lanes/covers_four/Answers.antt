use Rattle.std.proofs.Common.{◌∙◌}
use Rattle.wp_task.proofs.MissingLemmas.{four_covered}
use Rattle.wp_task.proofs.lanes.covers_four.Goals as goal

pub returns : goal.returns
returns c = c.equal_four.ensures ∙ four_covered c.args.words c.args.wanted c.fits-words.0 c.fits-wanted.0
