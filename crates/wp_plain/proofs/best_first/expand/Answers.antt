use Rattle.std.proofs.Common.{◌≡◌, ℕ, ◌<◌, Bool, false, length, map, sym, ap, ◌∙◌}
use Rattle.wp_plain.specs.declared.settings.Settings.{Settings}
use Rattle.wp_plain.specs.Places.{places_in}
use Rattle.wp_plain.specs.Nodes.{Node}
use Rattle.wp_plain.specs.Pairs.{pairs_in, exceeds}
use Rattle.wp_plain.specs.Run.{Moment, all_at}
use Rattle.wp_plain.specs.Numbers.{next_of}
use Rattle.wp_plain.specs.Steps.{Asked, IsBounded, IsSpare, CanExpand, event_for}
use Rattle.wp_plain.proofs.RunLemmas.{is_taken}
use Rattle.wp_plain.proofs.SmallLemmas.{can-expand}
use Rattle.wp_plain.proofs.ToldLemmas.{can-be-told, can-tell-some, told-one}
use Rattle.wp_plain.proofs.best_first.expand.Goals as goal

pub admit-requires-clause-can : goal.admit-requires-clause-can
admit-requires-clause-can g c =
    let asked = c.args.run.now in
    let any = c.requires.taken in
    let x = c.in_ok-pairs.ensures any.0 any.1 any.2.0 in (
      any.0,
      any.1,
      x.0,
      can-expand asked any.0 any.1 c.settings-settings.ensures.fits any.2.1 any.3 c.settings-settings.result.now.words c.in_ok-pairs.pairs c.tuples.result c.exceeds.result
          (ap (λ (s : Settings). s.words) c.settings-settings.ensures.value) x.1 c.tuples.ensures c.exceeds.ensures c.if-exceeds.false,
    )

pub tell-requires : goal.tell-requires
tell-requires g c =
    let places = λ (w : _).
    places_in (λ (z : _). (goal.Watch-dyn g z).kind z.1) (λ (z : _). (goal.Watch-dyn g z).until z.1) (λ (z : _). (goal.Watch-dyn g z).told z.1) w in
    let asked = c.args.run.now in
    let any = c.requires.taken in
    let x = c.in_ok-pairs.ensures any.0 any.1 any.2.0 in
    let can = can-expand asked any.0 any.1 c.settings-settings.ensures.fits any.2.1 any.3 c.settings-settings.result.now.words c.in_ok-pairs.pairs c.tuples.result c.exceeds.result
    (ap (λ (s : Settings). s.words) c.settings-settings.ensures.value) x.1 c.tuples.ensures c.exceeds.ensures c.if-exceeds.false in
    can-tell-some (event_for asked any.0 any.1) (places c.args.watchers.now) (c.is_watched-wanted.result ≡ false) c.in_ok-event.event
    (c.in_ok-event.ensures any.0 any.1 x.0 can).1
    (can-be-told c.places_follow.ensures.can asked any.0 any.1 (places c.args.watchers.now) c.settings-settings.ensures.range.budget.1 can.later any.4)

pub returns : goal.returns
returns g c m node at bounded =
    let places = λ (w : _).
    places_in (λ (z : _). (goal.Watch-dyn g z).kind z.1) (λ (z : _). (goal.Watch-dyn g z).until z.1) (λ (z : _). (goal.Watch-dyn g z).told z.1) w in
    let asked = c.args.run.now in
    let x = c.in_ok-pairs.ensures m node at.0 in
    let can = can-expand asked m node c.settings-settings.ensures.fits at.1 bounded c.settings-settings.result.now.words c.in_ok-pairs.pairs c.tuples.result c.exceeds.result
    (ap (λ (s : Settings). s.words) c.settings-settings.ensures.value) x.1 c.tuples.ensures c.exceeds.ensures c.if-exceeds.false in
    let after = c.in_ok-event.ensures m node x.0 can in (
      next_of asked.task asked.settings m node,
      after.0,
      can.later,
      (is_taken asked.task asked.settings asked.tuples).few m node can.few,
      told-one c.places_follow.ensures.more m.events (event_for asked m node) (places c.args.watchers.now) (places c.tell.new.watchers)
          c.is_watched-wanted.result c.in_ok-event.event c.is_watched-wanted.ensures after.1 c.in_ok-tell.ensures,
    )
