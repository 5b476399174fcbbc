use Rattle.std.proofs.Common.{◌≡◌, ◌-◌, length, map, sym, ap, ◌∙◌, subst, arith, rules}
use Rattle.std.specs.List.{All, fold}
use Rattle.wp_count.specs.Laws.{IsEvaluated}
use Rattle.wp_plain.specs.Nodes.{path_at, states_kept}
use Rattle.wp_plain.specs.Pairs.{with_pair}
use Rattle.wp_plain.specs.Expansion.{unseen}
use Rattle.wp_plain.specs.Explored.{child_pair, brood_at, lists_of, track_at, way_at, IsEvaluatedAt}
use Rattle.wp_plain.proofs.UnseenLemmas.{unseen-all, unseen-few}
use Rattle.wp_plain.proofs.ExpandLemmas.{children-evaluated, pairs-evaluated}
use Rattle.wp_plain.proofs.search.ExploredBestFirst.evaluate.Goals as goal

pub overflow_sub-repeats : goal.overflow_sub-repeats
overflow_sub-repeats c =
    let brood = c.in_ok-brood.brood.items in
    let fresh = c.in_ok-fresh.fresh.items in
    let all : c.len-count.result ≡ length brood = search rules in
    let rest : c.len.result ≡ length fresh = search rules in
    omega (arith, ap length c.in_ok-fresh.ensures, unseen-few (λ x. x.state) (states_kept c.deref.result.now) brood)

pub returns : goal.returns
returns c m node taken =
    let asked = c.args.run.now in
    let e = c.args.self.now in
    let fresh = c.in_ok-fresh.fresh in
    let pairs = c.in_ok-pairs.pairs in
    let brood_is : c.in_ok-brood.brood.items ≡ brood_at asked.task (lists_of e) c.args.number =
    c.in_ok-brood.ensures.value ∙ ap (λ t. brood_at t (lists_of e) c.args.number) c.task.ensures in
    let fresh_is : fresh.items ≡ unseen (λ x. x.state) (states_kept e.nodes.items) (brood_at asked.task (lists_of e) c.args.number) =
    c.in_ok-fresh.ensures ∙ (λ j. unseen (λ x. x.state) (states_kept (c.deref.ensures.value j)) (brood_is j)) in
    let all : c.len-count.result ≡ length c.in_ok-brood.brood.items = search rules in
    let rest : c.len.result ≡ length fresh.items = search rules in
    let counted : c.len-2.result ≡ length pairs.items = search rules in
    let evaluates = All (IsEvaluated asked.task (path_at m.paths c.args.number).states (track_at e.tracks.items (way_at e.ways.items c.args.number).mark.track)) in
    let got : IsEvaluatedAt asked.task e m node c.args.number (record { fresh = fresh; repeats = c.len-count.result - c.len.result; pairs = pairs }) = record {
      taken = taken;
      fresh = fresh_is;
      repeats = λ j. (all ∙ ap length brood_is) j - rest j;
      pairs = c.in_ok-pairs.ensures ∙ (λ j. fold with_pair (c.deref-2.ensures.value j) (map child_pair (c.deref-3.ensures.value j)));
      evaluated = subst evaluates (sym fresh_is)
          (unseen-all (λ x. x.state) (IsEvaluated asked.task (path_at m.paths c.args.number).states (track_at e.tracks.items (way_at e.ways.items c.args.number).mark.track))
          (states_kept e.nodes.items) (brood_at asked.task (lists_of e) c.args.number)
          (children-evaluated asked.task e m node c.args.number c.counters_are_carried.ensures.children taken));
    } in
    (got, counted ∙ sym (ap length (pairs-evaluated asked e m node c.args.number _ got)))
