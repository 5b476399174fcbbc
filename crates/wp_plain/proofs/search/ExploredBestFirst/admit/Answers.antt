use Rattle.std.proofs.Common.{◌≡◌, ◌+◌, ◌∙◌, Option, false, MatchOption, length, sym, ap, subst, arith, rules}
use Rattle.std.proofs.lemmas.Result.{IfOk-weaker}
use Rattle.wp_watch.specs.declared.event.Event.{Event}
use Rattle.wp_plain.specs.Nodes.{Node}
use Rattle.wp_plain.specs.Run.{Moment}
use Rattle.wp_plain.specs.Numbers.{next_of}
use Rattle.wp_plain.specs.Steps.{CanExpand, IsEventFor}
use Rattle.wp_plain.specs.Explored.{lists_of, event_at, expanded_at, StandsFor, IsEvaluatedAt}
use Rattle.wp_plain.proofs.EventLemmas.{nodes-expanded, ways-expanded}
use Rattle.wp_plain.proofs.ExpandLemmas.{repeats-fit, event-evaluated, stands-after}
use Rattle.wp_plain.proofs.search.ExploredBestFirst.admit.Goals as goal

pub number_children-requires-clause-repeats : goal.number_children-requires-clause-repeats
number_children-requires-clause-repeats c =
    let can = c.requires.can in
    omega (arith, repeats-fit c.args.run.now c.args.self.now can.0 can.1 c.args.number c.args.expansion can.2 can.3.later c.settings.ensures.range.budget.1)

pub told_at-requires-clause-place : goal.told_at-requires-clause-place
told_at-requires-clause-place c =
    let e = c.args.self.now in
    let lists = c.in_ok-number_children.ensures.lists in
    omega (arith, c.requires.can.2.taken.within, ap (λ l. length l.nodes) lists, nodes-expanded c.settings.result.now c.args.number (lists_of e) c.args.expansion.fresh.items)

pub told_at-requires-clause-ways : goal.told_at-requires-clause-ways
told_at-requires-clause-ways c =
    let e = c.args.self.now in
    let lists = c.in_ok-number_children.ensures.lists in
    let settings = c.settings.result.now in
    let fresh = c.args.expansion.fresh.items in
    ap (λ l. length l.ways) lists
    ∙ (ways-expanded settings c.args.number (lists_of e) fresh
    ∙ (ap (λ n. n + length fresh) c.requires.can.2.taken.stands.reached.way_each
    ∙ sym (ap (λ l. length l.nodes) lists ∙ nodes-expanded settings c.args.number (lists_of e) fresh)))

pub returns : goal.returns
returns c =
    let asked = c.args.run.now in
    let e = c.args.self.now in
    let x = c.args.expansion in
    let number = c.args.number in
    let later = c.number_children.new.explored in
    let lists : lists_of later ≡ expanded_at asked.settings number (lists_of e) x.fresh.items =
    c.in_ok-number_children.ensures.lists ∙ ap (λ settings. expanded_at settings number (lists_of e) x.fresh.items) c.settings.ensures.value in
    let first : c.len-first.result ≡ length e.nodes.items = search rules in
    IfOk-weaker c.told_at.result
    (λ (told : Option Event). MatchOption told (c.args.wanted ≡ false) (λ event. event ≡ event_at (lists_of later) number x.repeats c.len-first.result))
    (λ (told : Option Event). (m : Moment) (node : Node) → IsEvaluatedAt asked.task e m node number x → CanExpand asked m node →
    StandsFor asked.task later (next_of asked.task asked.settings m node) × IsEventFor asked m node c.args.wanted told)
    (λ told is m node got can. (
      stands-after asked e m node number x got later (record {
        lists = lists;
        pairs = ap (λ v. v.items) c.in_ok-number_children.ensures.pairs;
        expanded = c.in_ok-number_children.ensures.expanded;
        repeats = c.in_ok-number_children.ensures.repeats;
      }),
      subst (λ (y : Event). MatchOption told (c.args.wanted ≡ false) (λ event. event ≡ y))
          ((λ j. event_at (lists j) number x.repeats (first j)) ∙ sym (event-evaluated asked e m node number x got)) is,
    ))
    c.told_at.ensures
