use Rattle.wp_app.proofs.ReplyLemmas.{replied_value, replied_end, replied_unread}
use Rattle.wp_app.proofs.run.command_reply.Goals as goal

pub returns-in-Ok-clause-is : goal.returns-in-Ok-clause-is
returns-in-Ok-clause-is g c list after =
    replied_value _ _ _ _ c.in-Ok.reply c.in-Ok.ensures.defined (c.in-Ok.ensures.follows list after)

pub returns-in-Err-Ends-clause-is : goal.returns-in-Err-Ends-clause-is
returns-in-Err-Ends-clause-is g c list after =
    replied_end _ _ _ _ c.in-Err-Ends.reply _ c.in-Err-Ends.field-0-is (c.in-Err-Ends.ensures.follows list after)

pub returns-in_ok-read_fault_text-in-Err-ReadFault-clause-is :
    goal.returns-in_ok-read_fault_text-in-Err-ReadFault-clause-is
returns-in_ok-read_fault_text-in-Err-ReadFault-clause-is g c list after =
    replied_unread _ _ _ _ _ _ _ c.in-Err-ReadFault.field-0-is c.in_ok-read_fault_text-in-Err-ReadFault.ensures
    (c.in-Err-ReadFault.ensures.follows list after) c.in-Err-ReadFault.ensures.unread
