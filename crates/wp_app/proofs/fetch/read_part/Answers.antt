use Rattle.std.proofs.Common.{◌∙◌}
use Rattle.wp_app.proofs.FetchLemmas.{follows_unread}
use Rattle.wp_app.proofs.fetch.read_part.Goals as goal

pub returns-in-Err-Failed-clause-follows : goal.returns-in-Err-Failed-clause-follows
returns-in-Err-Failed-clause-follows g c =
    follows_unread _ _ _ _ _ _ _ _ (c.in-Ok.ensures.cases.0 ∙ c.as_slice.ensures) c.in-Err-Failed.field-0-is c.in-Err-Failed.ensures.err
