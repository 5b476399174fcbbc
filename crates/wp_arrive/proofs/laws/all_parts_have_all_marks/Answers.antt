use Rattle.std.proofs.Common.{◌∙◌, sym}
use Rattle.wp_arrive.proofs.Firsts.{all_marks}
use Rattle.wp_arrive.proofs.laws.all_parts_have_all_marks.Goals as goal

pub returns : goal.returns
returns c = λ count s keeps seat v at all. all_marks s.views seat v at keeps.idle (keeps.parts ∙ sym all)
