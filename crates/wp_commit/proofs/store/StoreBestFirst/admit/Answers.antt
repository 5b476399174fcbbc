use Rattle.std.proofs.Common.{◌≡◌, ◌+◌, ◌-◌, ◌≤◌, ◌++◌, false, MatchOption, is_some, length, sym, ap, ◌∙◌, subst, arith, rules}
use Rattle.wp_tuples.specs.Placing.{Placing}
use Rattle.wp_nodes.specs.declared.kept.Kept.{Kept}
use Rattle.wp_watch.specs.declared.event.Event.{Event}
use Rattle.wp_plain.specs.declared.settings.Settings.{Settings}
use Rattle.wp_plain.specs.Nodes.{generated_in}
use Rattle.wp_plain.specs.Pairs.{exceeds}
use Rattle.wp_plain.specs.Explored.{all_numbered}
use Rattle.wp_plain.specs.Numbers.{next_of}
use Rattle.wp_plain.specs.Steps.{Asked, CanExpand, event_for}
use Rattle.wp_ahead.specs.Laws.{GoesOn}
use Rattle.wp_commit.specs.Newborns.{event_as, IsCommitted}
use Rattle.wp_commit.specs.Expansions.{brood_of}
use Rattle.wp_commit.specs.Searched.{StandsAt}
use Rattle.wp_commit.specs.Lending.{HasEntered}
use Rattle.wp_commit.proofs.ExpansionLemmas.{event-for, fits, goes, in_hand, laws_of, kept-few, needed-few, needed-length, newborns-fit, some_same}
use Rattle.wp_commit.proofs.LendingLemmas.{ok_of, pairs-count-later}
use Rattle.wp_commit.proofs.NewbornLemmas.{length-newborns, nodes-go-on}
use Rattle.wp_commit.proofs.store.StoreBestFirst.admit.Goals as goal

pub overflow_add-pairs : goal.overflow_add-pairs
overflow_add-pairs g c =
    let a = c.args.self.now.run in
    let s = c.args.self.now.searched in
    let tables = g.T.Shown.shown c.args.lent.now in
    let number = c.args.number in
    let x = c.args.expansion in
    let any = c.requires.can in
    let e = any.2.2 in
    let ev = in_hand a.task s tables number x (laws_of c.counters_are_carried.ensures.children c.children_are_numbered.ensures c.nodes_are_numbered.ensures) e in
    let can = subst (λ (b : Asked). CanExpand b any.0 any.1) (sym any.2.0.same) any.3 in
    let budget : a.settings.budget ≤ 100000000 = omega (arith, c.requires.range.budget.1, ap (λ (b : Asked). b.settings.budget) any.2.0.same) in
    let repeats_is : x.repeats ≡ length (brood_of a.task s.nodes e.children.node) - length x.children.items = omega (arith, e.children.repeats_are) in
    let few = needed-few a.task a.settings s tables number e.children.node (brood_of a.task s.nodes e.children.node) x.children.items x.pairs.items ev any.0 any.1 any.2.1 in
    let small = fits a.task a.settings s tables number e.children.node (brood_of a.task s.nodes e.children.node) x.children.items x.pairs.items ev any.0 any.1 any.2.1 can.later budget x.repeats repeats_is in
    let counted : c.len.result ≡ length x.pairs.items = search rules in
    omega (arith, few, small.0, any.2.0.pairs_are)

pub enter-requires : goal.enter-requires
enter-requires g c =
    let a = c.args.self.now.run in
    let s = c.args.self.now.searched in
    let tables = g.T.Shown.shown c.args.lent.now in
    let number = c.args.number in
    let x = c.args.expansion in
    let any = c.requires.can in
    let e = any.2.2 in
    let ev = in_hand a.task s tables number x (laws_of c.counters_are_carried.ensures.children c.children_are_numbered.ensures c.nodes_are_numbered.ensures) e in
    let can = subst (λ (b : Asked). CanExpand b any.0 any.1) (sym any.2.0.same) any.3 in
    let budget : a.settings.budget ≤ 100000000 = omega (arith, c.requires.range.budget.1, ap (λ (b : Asked). b.settings.budget) any.2.0.same) in
    let repeats_is : x.repeats ≡ length (brood_of a.task s.nodes e.children.node) - length x.children.items = omega (arith, e.children.repeats_are) in
    let needed = needed-length a.task a.settings s tables number e.children.node (brood_of a.task s.nodes e.children.node) x.children.items x.pairs.items ev any.0 any.1 any.2.1 in
    any.2.0.works.enter_takes _ _ _ _ _ _ (record {
      taken = (any.0, any.1, any.2.1);
      evaluated = e;
      numbers = (fits a.task a.settings s tables number e.children.node (brood_of a.task s.nodes e.children.node) x.children.items x.pairs.items ev any.0 any.1 any.2.1 can.later budget x.repeats repeats_is).0;
      few = (λ j. exceeds a.settings.words (needed j) (sym any.2.0.all j)) ∙ can.few;
      fit = any.2.0.fit;
    })

pub keep_expansion-requires : goal.keep_expansion-requires
keep_expansion-requires g c =
    let a = c.args.self.now.run in
    let s = c.args.self.now.searched in
    let tables = g.T.Shown.shown c.args.lent.now in
    let number = c.args.number in
    let x = c.args.expansion in
    let any = c.requires.can in
    let e = any.2.2 in
    let ev = in_hand a.task s tables number x (laws_of c.counters_are_carried.ensures.children c.children_are_numbered.ensures c.nodes_are_numbered.ensures) e in
    let can = subst (λ (b : Asked). CanExpand b any.0 any.1) (sym any.2.0.same) any.3 in
    let budget : a.settings.budget ≤ 100000000 = omega (arith, c.requires.range.budget.1, ap (λ (b : Asked). b.settings.budget) any.2.0.same) in
    let repeats_is : x.repeats ≡ length (brood_of a.task s.nodes e.children.node) - length x.children.items = omega (arith, e.children.repeats_are) in
    let small = fits a.task a.settings s tables number e.children.node (brood_of a.task s.nodes e.children.node) x.children.items x.pairs.items ev any.0 any.1 any.2.1 can.later budget x.repeats repeats_is in
    let numbered = c.in_ok-numbered.numbered in
    let got = ok_of (HasEntered a s tables number x (g.T.Shown.shown c.enter.new.arg4) c.enter.new.arg5) c.enter.result
    (c.in_ok-numbered.numbered, c.in_ok-numbered.aheads) c.in_ok-numbered.was (any.2.0.works.enter_gives _ _ _ _ _ _ _ _ _ c.enter.ensures) in
    let entered = got.entered any.0 any.1 any.2.1 in
    let count : length numbered.newborns.items ≡ length x.children.items =
    ap length entered.newborns ∙ length-newborns a.settings.width (generated_in any.0.nodes ++ all_numbered (length any.0.nodes) x.children.items) (length any.0.nodes) x.children.items in
    let holds = any.2.1.holds in
    record {
      new = newborns-fit a.task a.settings s tables number e.children.node (brood_of a.task s.nodes e.children.node) x.children.items x.pairs.items ev any.0 any.1 any.2.1 numbered.newborns.items entered.newborns;
      is_kept = ap is_some e.children.found;
      tracked = c.node_at-node.ensures.track;
      few = omega (arith, kept-few s.nodes.kept any.0.nodes holds.nodes.nodes_are, holds.counts.kept, holds.counts.numbered);
      few_numbers = omega (arith, small.0, count);
      few_expansions = small.1;
      few_repeats = omega (arith, small.2, entered.repeats);
    }

pub keep-requires : goal.keep-requires
keep-requires g c =
    let a = c.args.self.now.run in
    let s = c.args.self.now.searched in
    let tables = g.T.Shown.shown c.args.lent.now in
    let number = c.args.number in
    let x = c.args.expansion in
    let any = c.requires.can in
    let got = ok_of (HasEntered a s tables number x (g.T.Shown.shown c.enter.new.arg4) c.enter.new.arg5) c.enter.result
    (c.in_ok-numbered.numbered, c.in_ok-numbered.aheads) c.in_ok-numbered.was (any.2.0.works.enter_gives _ _ _ _ _ _ _ _ _ c.enter.ensures) in
    got.aheads.worked

pub returns : goal.returns
returns g c m node at can =
    let asked = c.args.run.now in
    let a = c.args.self.now.run in
    let s = c.args.self.now.searched in
    let tables = g.T.Shown.shown c.args.lent.now in
    let number = c.args.number in
    let x = c.args.expansion in
    let e = at.2 in
    let ev = in_hand a.task s tables number x (laws_of c.counters_are_carried.ensures.children c.children_are_numbered.ensures c.nodes_are_numbered.ensures) e in
    let numbered = c.in_ok-numbered.numbered in
    let got = ok_of (HasEntered a s tables number x (g.T.Shown.shown c.enter.new.arg4) c.enter.new.arg5) c.enter.result
    (c.in_ok-numbered.numbered, c.in_ok-numbered.aheads) c.in_ok-numbered.was (at.0.works.enter_gives _ _ _ _ _ _ _ _ _ c.enter.ensures) in
    let entered = got.entered m node at.1 in
    let repeats_is : numbered.repeats ≡ length (brood_of a.task s.nodes e.children.node) - length x.children.items = omega (arith, e.children.repeats_are, entered.repeats) in
    let k = c.node_at-node.result.now in
    let same : k ≡ e.children.node = some_same k e.children.node _ c.node_at-node.ensures.node e.children.found in
    let later = c.keep_expansion.new.searched in
    let counted : c.len.result ≡ length x.pairs.items = search rules in
    let settings_are : c.settings.result.now ≡ a.settings = c.settings.ensures.value ∙ ap (λ (b : Asked). b.settings) (sym at.0.same) in
    let committed = subst (λ (t : Settings). IsCommitted t number e.children.node.mark.track numbered.newborns.items numbered.repeats s later) settings_are
    (subst (λ (n : Kept). IsCommitted c.settings.result.now number n.mark.track numbered.newborns.items numbered.repeats s later) same c.in_ok-keep_expansion.ensures) in
    let on : GoesOn s.nodes later.nodes =
    subst (GoesOn s.nodes) (sym committed.nodes) (nodes-go-on a.settings number e.children.node.mark.track s.nodes numbered.newborns.items) in
    let fit = c.broods_go_on_fitting.ensures a.task s.nodes later.nodes c.keep.new.self e.children.linked on
    (c.in_ok-keep.ensures.fits a.task s.nodes got.fit got.aheads.fit) in
    let event : event_as a.settings k numbered.repeats numbered.newborns.items ≡ event_for asked m node =
    ap (λ (n : Kept). event_as a.settings n numbered.repeats numbered.newborns.items) same
    ∙ (event-for a.task a.settings s tables number e.children.node (brood_of a.task s.nodes e.children.node) x.children.items x.pairs.items ev m node at.1
    numbered.newborns.items numbered.repeats entered.newborns repeats_is
    ∙ ap (λ (b : Asked). event_for b m node) at.0.same) in (
      (
        record {
          same = at.0.same;
          all = at.0.all ∙ ap (λ (i : Placing). i.len) (sym entered.index);
          pairs_are = (λ j. at.0.pairs_are j + counted j) ∙ sym (pairs-count-later tables x.pairs.items _ entered.pairs);
          works = at.0.works;
          fit = fit;
        },
        subst (λ (b : Asked). StandsAt a.task a.settings later (g.T.Shown.shown c.enter.new.arg4) (next_of b.task b.settings m node)) at.0.same
            (goes a.task a.settings s tables number e.children.node (brood_of a.task s.nodes e.children.node) x.children.items x.pairs.items ev m node at.1
            (g.T.Shown.shown c.enter.new.arg4) numbered.newborns.items numbered.repeats later entered.newborns repeats_is committed
            entered.births entered.pairs entered.home entered.index entered.limit),
      ),
      subst (λ (y : Event). MatchOption c.in_ok-told.told (c.args.wanted ≡ false) (λ z. z ≡ y)) event c.in_ok-told.ensures,
    )
