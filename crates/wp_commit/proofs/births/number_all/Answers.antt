use Rattle.std.proofs.Common.{length, sym, ap, ◌∙◌, subst}
use Rattle.std.specs.List.{All}
use Rattle.std.proofs.lemmas.List.{length-map}
use Rattle.wp_novel.specs.Births.{nodes_of}
use Rattle.wp_novel.specs.NoveltyTables.{placed}
use Rattle.wp_commit.specs.Newborns.{rest_of}
use Rattle.wp_commit.specs.Entering.{CanBeAsked}
use Rattle.wp_commit.proofs.BirthLemmas.{count-births, births_ready, births_asked, births_later, births_rising, still_born, still_earlier}
use Rattle.wp_commit.proofs.MarkingLemmas.{are-made}
use Rattle.wp_commit.proofs.births.number_all.Goals as goal

pub mark_all-requires-clause-ready : goal.mark_all-requires-clause-ready
mark_all-requires-clause-ready g c κs bounds =
    births_ready c.shared_tuples_are_marked.ensures c.no_tuple_is_old.ensures c.args.searched.now c.args.parent.now (placed g.P.Places.places c.args.tables.now)
    c.requires.earlier c.args.children.items c.in_ok-births.births c.in_ok-births.ensures.births c.in_ok-births.ensures.fresh c.requires.ready c.requires.numbers

pub mark_all-requires-clause-later : goal.mark_all-requires-clause-later
mark_all-requires-clause-later g c κs bounds =
    births_later c.args.searched.now.numbered c.args.children.items c.in_ok-births.births c.in_ok-births.ensures.births c.args.tables.now.last c.requires.later

pub mark_all-requires-clause-rising : goal.mark_all-requires-clause-rising
mark_all-requires-clause-rising g c κs bounds =
    births_rising c.args.searched.now.numbered c.args.children.items c.in_ok-births.births c.in_ok-births.ensures.births

pub newborns_of-requires-clause-parts : goal.newborns_of-requires-clause-parts
newborns_of-requires-clause-parts g c κs bounds =
    let children = c.args.children.items in
    let into = c.into_vec.ensures ∙ c.in_ok-births-2.ensures.births in
    ap length c.in_ok-births.ensures.rests
    ∙ (length-map children rest_of
    ∙ sym (ap length into ∙ count-births c.args.searched.now.numbered children c.in_ok-births.births c.in_ok-births.ensures.births))

pub newborns_of-requires-clause-asked : goal.newborns_of-requires-clause-asked
newborns_of-requires-clause-asked g c κs bounds =
    let old = placed g.P.Places.places c.args.tables.now in
    let new = placed g.P.Places.places c.mark_all.new.tables in
    let s = c.args.searched.now in
    let parent = c.args.parent.now in
    let children = c.args.children.items in
    let births = c.in_ok-births.births in
    let earlier = c.requires.earlier in
    let into = c.into_vec.ensures ∙ c.in_ok-births-2.ensures.births in
    subst (All (CanBeAsked new)) (sym into)
    (births_asked c.shared_tuples_are_marked.ensures c.no_tuple_is_old.ensures s parent new
    (still_earlier s parent old new earlier (nodes_of births) (c.in_ok-births-2.ensures.stands earlier.births earlier.stands))
    children births c.in_ok-births.ensures.births c.in_ok-births.ensures.fresh
    (still_born old new children c.in_ok-births-2.ensures.pairs c.in_ok-births-2.ensures.index c.requires.ready))

pub mark_all-requires-clause-aheads : goal.mark_all-requires-clause-aheads
mark_all-requires-clause-aheads g c κs bounds =
    c.jobs_can_be_worked.ensures c.args.run.now.task c.args.searched.now.nodes c.in_ok-aheads.aheads c.requires.marked c.in_ok-aheads.ensures.jobs

pub returns-clause-aheads : goal.returns-clause-aheads
returns-clause-aheads g c =
    are-made c.worked_jobs_fit.ensures c.args.run.now.task c.args.searched.now.nodes c.in_ok-aheads.aheads c.in_ok-births-2.aheads
    c.in_ok-aheads.ensures.jobs c.in_ok-births-2.ensures.aheads

pub returns-clause-fit : goal.returns-clause-fit
returns-clause-fit g c = c.in_ok-aheads.ensures.fits c.args.run.now.task c.args.searched.now.nodes c.requires.fit
