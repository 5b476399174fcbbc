use Rattle.std.proofs.Common.{◌≡◌, ◌∙◌, subst, sym, ap}
use Rattle.wp_plain.specs.declared.ending.How.{How}
use Rattle.wp_plain.specs.Places.{places_in}
use Rattle.wp_plain.specs.Run.{Moment, opening}
use Rattle.wp_plain.specs.Steps.{end_of}
use Rattle.wp_plain.proofs.AnswerLemmas.{ending_is, told_is}
use Rattle.wp_plain.proofs.RunLemmas.{is_taken}
use Rattle.wp_plain.proofs.SmallLemmas.{bounded-opening}
use Rattle.wp_plain.proofs.best_first.search_from.Goals as goal

pub counts-requires : goal.counts-requires
counts-requires g c =
    let asked = c.args.run.now in
    let end = c.in_ok-how.ensures (opening asked.task asked.settings) c.requires.opens (bounded-opening asked.task asked.settings) in
    (c.take_steps.new.lent, asked, end.0, end.1, end.2)

pub returns : goal.returns
returns g c =
    let places = λ (w : _).
    places_in (λ (z : _). (goal.Watch-dyn g z).kind z.1) (λ (z : _). (goal.Watch-dyn g z).until z.1) (λ (z : _). (goal.Watch-dyn g z).told z.1) w in
    let asked = c.args.run.now in
    let how = c.in_ok-how.how in
    let end = c.in_ok-how.ensures (opening asked.task asked.settings) c.requires.opens (bounded-opening asked.task asked.settings) in
    let ran : end_of asked ≡ (how, end.0) = (is_taken asked.task asked.settings asked.tuples).begins c.requires.few ∙ end.3 in
    record {
      ending = ending_is asked.task asked.settings asked.tuples how c.counts.result end.0 ran (c.counts.ensures c.take_steps.new.lent asked end.0 end.1);
      holds = subst (λ (x : How × Moment). g.S.BestFirst.holds c.take_steps.new.search c.take_steps.new.lent asked x.1) (sym ran) end.1;
      events = λ list untold. told_is asked.task asked.settings asked.tuples how end.0 list (places c.take_steps.new.watchers) ran (end.4 list untold);
    }
