-- The headline of a reply that was taken whole.
use Rattle.std.proofs.Common.{◌≡◌, ◌∙◌, ap, sym, true, List, ℕ, refl, inl, inr}
use Rattle.std.specs.Prelude.{Option}
use Rattle.wp_edge.specs.Put.{appended}
use Rattle.wp_app.specs.declared.reply.Reply.{Reply}
use Rattle.wp_app.specs.declared.reply.Status.TheVariants as statuses
use Rattle.wp_app.specs.Requests.{Asked}
use Rattle.wp_app.specs.Statuses.{is_defined}
use Rattle.wp_app.specs.Headline.{Headline, IsReply, Outside, ReadFaulted}

-- what is written is the answer, since a file that was not read needs a count that rose
pub headlined : (asked : Asked) (outside : Outside) (reply : Reply)
    → IsReply asked outside.contents outside.shelf_before outside.shelf_now reply → outside.held_now ≡ appended outside.held reply.text
    → Headline asked outside reply.status
headlined asked outside reply (inl due) taken files old told holds fine sound =
    inl (reply, due.1 files told, refl, taken ∙ ap (λ (h : Option (List ℕ)). appended h reply.text) holds)
headlined asked outside reply (inr unread) taken files old told holds fine sound =
    absurd (fine unread.2.fault)

-- a reply that a file was not read is no answer
pub unread : (asked : Asked) (outside : Outside) (reply : Reply)
    → IsReply asked outside.contents outside.shelf_before outside.shelf_now reply → outside.held_now ≡ appended outside.held reply.text
    → reply.status ≡ statuses.ReadFault → ReadFaulted asked outside
unread asked outside reply (inl due) taken is = let no : is_defined statuses.ReadFault ≡ true = ap is_defined (sym is) ∙ due.0 in cc
unread asked outside reply (inr missed) taken is = record {
  part = missed.0;
  unread = missed.2;
  taken = taken ∙ ap (λ (one : Reply). appended outside.held one.text) missed.1;
}
