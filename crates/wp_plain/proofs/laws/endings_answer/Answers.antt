use Rattle.wp_plain.proofs.AnswerLemmas.{endings_answer, endings_of_all_answer}
use Rattle.wp_plain.proofs.laws.endings_answer.Goals as goal

pub returns : goal.returns
returns c = record { counted = endings_answer; all = endings_of_all_answer }
