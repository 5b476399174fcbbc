use Rattle.std.proofs.Common.{◌≡◌, ◌+◌, ◌≤◌, ℕ, length, sym, ap, ◌∙◌, subst, arith, rules}
use Rattle.std.specs.Global.{Vec}
use Rattle.std.specs.Prelude.{List}
use Rattle.wp_count.specs.declared.brood.Child.{Child}
use Rattle.wp_novel.specs.declared.birth.Pair.{Pair}
use Rattle.wp_plain.specs.Pairs.{pairs_in}
use Rattle.wp_plain.specs.Run.{all_at}
use Rattle.wp_plain.specs.Steps.{Asked}
use Rattle.wp_commit.specs.declared.evaluation.Expansion.{Expansion}
use Rattle.wp_commit.specs.Expansions.{brood_of, ArePairsToOpen, IsExpansionOf}
use Rattle.wp_commit.specs.Searched.{IsTakenAt}
use Rattle.wp_commit.proofs.ExpansionLemmas.{in_hand, laws_of, needed-few, needed-length}
use Rattle.wp_commit.proofs.LendingLemmas.{ok_of, run_of}
use Rattle.wp_commit.proofs.store.StoreBestFirst.evaluate.Goals as goal

pub children_at-requires-clause-taken : goal.children_at-requires-clause-taken
children_at-requires-clause-taken g c =
    let any = c.requires.taken in (c.args.self.now.run.settings, g.T.Shown.shown c.args.lent.now, (any.0, any.1, any.2.1))

pub children_at-requires-clause-fit : goal.children_at-requires-clause-fit
children_at-requires-clause-fit g c = c.requires.taken.2.0.fit

pub find-requires : goal.find-requires
find-requires g c = c.requires.taken.2.0.works.find_takes _ _

pub overflow_add-needed : goal.overflow_add-needed
overflow_add-needed g c =
    let a = c.args.self.now.run in
    let s = c.args.self.now.searched in
    let tables = g.T.Shown.shown c.args.lent.now in
    let number = c.args.number in
    let any = c.requires.taken in
    let run = any.2.0.same in
    let children = c.in_ok-children.children in
    let pairs = c.in_ok-pairs.pairs in
    let x : Expansion = record { children = children; repeats = c.in_ok-children.repeats; pairs = pairs } in
    let e : IsExpansionOf a.task s tables number x = record {
      children = c.in_ok-children.ensures.children;
      pairs = subst (λ (l : List Child). ArePairsToOpen tables l pairs.items) c.deref.ensures.value
          (ok_of (λ (p : Vec Pair). ArePairsToOpen tables c.deref.result.now p.items) c.find.result pairs c.in_ok-pairs.was (any.2.0.works.find_gives _ _ _ c.find.ensures));
    } in
    let small : length (brood_of a.task s.nodes e.children.node) ≤ 1048576 = omega (arith, e.children.few, c.requires.fits.few_acts, ap (λ (b : Asked). length b.task.acts) run) in
    let few = needed-few a.task a.settings s tables number e.children.node (brood_of a.task s.nodes e.children.node) children.items pairs.items
    (in_hand a.task s tables number x (laws_of c.counters_are_carried.ensures.children c.children_are_numbered.ensures c.nodes_are_numbered.ensures) e) any.0 any.1 any.2.1 in
    let counted : c.len.result ≡ length pairs.items = search rules in
    omega (arith, few, any.2.1.holds.counts.numbered, any.3.nodes, any.3.few, c.requires.range.budget.1, any.2.0.pairs_are, small, e.children.repeats_are)

pub returns : goal.returns
returns g c m node taken =
    let asked = c.args._run.now in
    let a = c.args.self.now.run in
    let s = c.args.self.now.searched in
    let tables = g.T.Shown.shown c.args.lent.now in
    let number = c.args.number in
    let children = c.in_ok-children.children in
    let pairs = c.in_ok-pairs.pairs in
    let x : Expansion = record { children = children; repeats = c.in_ok-children.repeats; pairs = pairs } in
    let e : IsExpansionOf a.task s tables number x = record {
      children = c.in_ok-children.ensures.children;
      pairs = subst (λ (l : List Child). ArePairsToOpen tables l pairs.items) c.deref.ensures.value
          (ok_of (λ (p : Vec Pair). ArePairsToOpen tables c.deref.result.now p.items) c.find.result pairs c.in_ok-pairs.was (taken.0.works.find_gives _ _ _ c.find.ensures));
    } in
    let counted : c.len.result ≡ length pairs.items = search rules in (
      (
        run_of _ a _ asked _ _ s.nodes c.args.self.now.broods _ (sym c.in_ok-children.ensures.same) c.in_ok-children.ensures.fit taken.0,
        subst (λ (b : Asked). IsTakenAt b.task b.settings s tables m node number) (sym c.in_ok-children.ensures.same) taken.1,
        subst (λ (b : Asked). IsExpansionOf b.task s tables number x) (sym c.in_ok-children.ensures.same) e,
      ),
      (λ j. taken.0.pairs_are j + counted j)
          ∙ (needed-length a.task a.settings s tables number e.children.node (brood_of a.task s.nodes e.children.node) children.items pairs.items
          (in_hand a.task s tables number x (laws_of c.counters_are_carried.ensures.children c.children_are_numbered.ensures c.nodes_are_numbered.ensures) e) m node taken.1
          ∙ ap (λ (b : Asked). length (pairs_in (all_at b.task m node))) taken.0.same),
    )
