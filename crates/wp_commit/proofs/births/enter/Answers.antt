use Rattle.std.proofs.Common.{◌++◌, refl, sym, ap, ◌∙◌, subst}
use Rattle.wp_tuples.specs.Placing.{Placing}
use Rattle.wp_novel.specs.NoveltyTables.{placed}
use Rattle.wp_novel.specs.StandsFor.{StandsFor}
use Rattle.wp_nodes.specs.declared.kept.Kept.{Kept}
use Rattle.wp_plain.specs.Nodes.{generated_in}
use Rattle.wp_plain.specs.Explored.{all_numbered}
use Rattle.wp_commit.specs.Entering.{StandsForEarlier}
use Rattle.wp_commit.specs.Expansions.{brood_of}
use Rattle.wp_commit.proofs.ExpansionLemmas.{can-born, in_hand, laws_of, last-before, newborns-here, some_same, stands-earlier}
use Rattle.wp_commit.proofs.TakeLemmas.{marked-nodes, waiting-kept}
use Rattle.wp_commit.proofs.births.enter.Goals as goal

pub open_all-requires-clause-home : goal.open_all-requires-clause-home
open_all-requires-clause-home g c κs bounds = c.requires.taken.2.holds.words.home

pub number_all-requires-clause-ready : goal.number_all-requires-clause-ready
number_all-requires-clause-ready g c κs bounds =
    let a = c.args.run.now in
    let s = c.args.searched.now in
    let tables = placed g.P.Places.places c.args.tables.now in
    let x = c.args.expansion in
    let e = c.requires.evaluated.children in
    let taken = c.requires.taken in
    can-born a.task a.settings s tables c.args.number e.node (brood_of a.task s.nodes e.node) x.children.items x.pairs.items
    (in_hand a.task s tables c.args.number x (laws_of c.counters_are_carried.ensures.children c.children_are_numbered.ensures c.nodes_are_numbered.ensures) c.requires.evaluated) taken.0 taken.1 taken.2
    (placed g.P.Places.places c.open_all.new.tables) c.in_ok-open_all.ensures.pairs c.in_ok-open_all.ensures.index

pub number_all-requires-clause-later : goal.number_all-requires-clause-later
number_all-requires-clause-later g c κs bounds =
    let a = c.args.run.now in
    let s = c.args.searched.now in
    let tables = placed g.P.Places.places c.args.tables.now in
    let x = c.args.expansion in
    let e = c.requires.evaluated.children in
    let taken = c.requires.taken in
    last-before a.task a.settings s tables c.args.number e.node (brood_of a.task s.nodes e.node) x.children.items x.pairs.items
    (in_hand a.task s tables c.args.number x (laws_of c.counters_are_carried.ensures.children c.children_are_numbered.ensures c.nodes_are_numbered.ensures) c.requires.evaluated) taken.0 taken.1 taken.2
    c.open_all.new.tables.last c.in_ok-open_all.ensures.last

pub number_all-requires-clause-earlier : goal.number_all-requires-clause-earlier
number_all-requires-clause-earlier g c κs bounds =
    let a = c.args.run.now in
    let s = c.args.searched.now in
    let tables = placed g.P.Places.places c.args.tables.now in
    let opened = placed g.P.Places.places c.open_all.new.tables in
    let x = c.args.expansion in
    let e = c.requires.evaluated.children in
    let taken = c.requires.taken in
    subst (λ (k : Kept). StandsForEarlier s k opened) (sym (some_same c.node_at-parent.result.now e.node _ c.node_at-parent.ensures.node e.found))
    (stands-earlier a.task a.settings s tables c.args.number e.node (brood_of a.task s.nodes e.node) x.children.items x.pairs.items
    (in_hand a.task s tables c.args.number x (laws_of c.counters_are_carried.ensures.children c.children_are_numbered.ensures c.nodes_are_numbered.ensures) c.requires.evaluated) taken.0 taken.1 taken.2
    opened (c.in_ok-open_all.ensures.stands (generated_in taken.0.nodes) taken.2.holds.words.births))

pub number_all-requires-clause-waiting : goal.number_all-requires-clause-waiting
number_all-requires-clause-waiting g c κs bounds =
    let a = c.args.run.now in
    let s = c.args.searched.now in
    let taken = c.requires.taken in
    waiting-kept a.task a.settings s (placed g.P.Places.places c.args.tables.now) taken.0 taken.2.holds taken.1 taken.2.waiting

pub number_all-requires-clause-marked : goal.number_all-requires-clause-marked
number_all-requires-clause-marked g c κs bounds =
    marked-nodes c.args.run.now.task c.args.searched.now.nodes c.requires.taken.0 c.requires.taken.2.holds.nodes

pub returns : goal.returns
returns g c = record {
  entered = λ m node at.
      let a = c.args.run.now in
      let s = c.args.searched.now in
      let tables = placed g.P.Places.places c.args.tables.now in
      let x = c.args.expansion in
      let e = c.requires.evaluated.children in
      let births = c.in_ok-open_all.ensures.stands (generated_in m.nodes) at.holds.words.births in
      let width = ap (λ (i : Placing). i.width) c.in_ok-open_all.ensures.index ∙ at.holds.words.index.width in
      record {
        newborns = newborns-here a.task a.settings s tables c.args.number e.node (brood_of a.task s.nodes e.node) x.children.items x.pairs.items
            (in_hand a.task s tables c.args.number x (laws_of c.counters_are_carried.ensures.children c.children_are_numbered.ensures c.nodes_are_numbered.ensures) c.requires.evaluated) m node at
            (placed g.P.Places.places c.open_all.new.tables).index.width c.in_ok-newborns.newborns.items width (c.in_ok-newborns.ensures.newborns (generated_in m.nodes) births);
        repeats = refl;
        births = subst (λ i. StandsFor (placed g.P.Places.places c.number_all.new.tables) (generated_in m.nodes ++ all_numbered i x.children.items)) at.holds.counts.numbered
            (c.in_ok-newborns.ensures.stands (generated_in m.nodes) births);
        pairs = c.in_ok-newborns.ensures.pairs ∙ c.in_ok-open_all.ensures.pairs;
        home = c.in_ok-newborns.ensures.home;
        index = c.in_ok-newborns.ensures.index ∙ c.in_ok-open_all.ensures.index;
        limit = c.in_ok-newborns.ensures.limit ∙ c.in_ok-open_all.ensures.limit;
      };
  aheads = c.in_ok-newborns.ensures.aheads;
  fit = c.in_ok-newborns.ensures.fit;
}
