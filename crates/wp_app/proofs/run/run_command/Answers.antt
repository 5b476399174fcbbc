use Rattle.wp_app.proofs.ReplyLemmas.{follows_request}
use Rattle.wp_app.proofs.StepLemmas.{meets_follows}
use Rattle.wp_app.proofs.run.run_command.Goals as goal

pub returns-in-Check-clause-follows : goal.returns-in-Check-clause-follows
returns-in-Check-clause-follows g c list after = follows_request list _ _ c.in-Check.is c.check.ensures.follows

pub returns-in-Ground-clause-follows : goal.returns-in-Ground-clause-follows
returns-in-Ground-clause-follows g c list after = follows_request list _ _ c.in-Ground.is c.ground_files.ensures.follows

pub returns-in-Plan-clause-follows : goal.returns-in-Plan-clause-follows
returns-in-Plan-clause-follows g c list after = follows_request list _ _ c.in-Plan.is (c.plan_files.ensures.follows list after)

pub returns-in-Gen-clause-follows : goal.returns-in-Gen-clause-follows
returns-in-Gen-clause-follows g c list after = follows_request list _ _ c.in-Gen.is (meets_follows (c.generated.ensures.meets list after))

pub returns-in-Audit-clause-follows : goal.returns-in-Audit-clause-follows
returns-in-Audit-clause-follows g c list after = follows_request list _ _ c.in-Audit.is c.audit_files.ensures.follows
