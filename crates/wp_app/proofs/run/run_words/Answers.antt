use Rattle.wp_app.proofs.HeadlineLemmas.{headlined, unread}
use Rattle.wp_app.proofs.run.run_words.Goals as goal

-- src/run.rt:52:1
pub returns-in-Ok-put_all-clause-headline : goal.returns-in-Ok-put_all-clause-headline
returns-in-Ok-put_all-clause-headline g c =
    headlined _ _ c.in-Ok.reply c.in-Ok.ensures.is (rw c.as_slice.ensures at c.in-Ok-put_all.ensures.ok)

pub returns-in-Ok-put_all-clause-read_fault : goal.returns-in-Ok-put_all-clause-read_fault
returns-in-Ok-put_all-clause-read_fault g c =
    unread _ _ c.in-Ok.reply c.in-Ok.ensures.is (rw c.as_slice.ensures at c.in-Ok-put_all.ensures.ok)
