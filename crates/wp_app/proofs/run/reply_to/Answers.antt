use Rattle.std.proofs.Common.{◌≡◌, ◌∙◌, [], ap, map, Err}
use Rattle.std.specs.Prelude.{string_bytes}
use Rattle.wp_words.specs.declared.error.WordsError.{WordsError}
use Rattle.wp_app.specs.Requests.{Asked}
use Rattle.wp_app.proofs.ReplyLemmas.{all_kept, kept_told, replied_by, usage_reply}
use Rattle.wp_app.proofs.run.reply_to.Goals as goal

pub new-requires : goal.new-requires
new-requires g c =
    let told = λ (b : _). (goal.Watch-dyn g (b.vtable, b.value)).told b.value in
    all_kept (λ b. told b ≡ []) _ _ _ c.in_ok-kept-in-Ok.ensures c.requires

pub returns-in-Ok-clause-is : goal.returns-in-Ok-clause-is
returns-in-Ok-clause-is g c =
    let kind = λ (b : _). (goal.Watch-dyn g (b.vtable, b.value)).kind b.value in
    let until = λ (b : _). (goal.Watch-dyn g (b.vtable, b.value)).until b.value in
    let asked : Asked = record { words = map string_bytes c.args.words.now; watchers = map (λ b. (kind b, until b)) c.args.watchers.items } in
    replied_by asked c.in-Ok.command (g.S.Shelf.contents c.args.shelf.now) (g.S.Shelf.faults c.args.shelf.now) (g.S.Shelf.faults c.command_reply.new.shelf) _ _ c.command_reply.result
    c.in-Ok.ensures.ok (kept_told kind until c.in-Ok.command c.in_ok-kept-in-Ok.kept.items c.args.watchers.items c.in_ok-kept-in-Ok.ensures)
    c.in_ok-watchers-in-Ok.ensures c.command_reply.ensures.is

pub returns-in-Err-Usage-clause-is : goal.returns-in-Err-Usage-clause-is
returns-in-Err-Usage-clause-is g c =
    usage_reply _ _ _ _ _ c.in_ok-usage_text-in-Err-Usage.ensures
    (c.command.ensures.usage (c.in-Err-Usage.is ∙ ap (λ (e : WordsError). Err e) c.in-Err-Usage.field-0-is))
