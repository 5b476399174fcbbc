use Rattle.std.proofs.Common.{Bool, List, ◌≡◌, ◌++◌, ◌∷◌, [], refl, sym, ap, ◌∙◌, subst}
use Rattle.wp_task.specs.Task.{PlanningTask, IsReachable}
use Rattle.wp_task.specs.Novelty.{Generated, novelty_of}
use Rattle.wp_count.specs.Laws.{IsMarked}
use Rattle.wp_novel.specs.Births.{BirthView}
use Rattle.wp_novel.specs.MarkedTuples.{AreCounted}
use Rattle.wp_novel.specs.NoveltyTables.{placed}
use Rattle.wp_novel.specs.StandsFor.{StandsFor}
use Rattle.wp_queue.specs.OpenList.{waiting, IsWith}
use Rattle.wp_nodes.specs.KeptNodes.{Keeping}
use Rattle.wp_plain.specs.Steps.{Asked}
use Rattle.wp_commit.specs.declared.searched.Searched.{Searched}
use Rattle.wp_commit.specs.Searched.{IsIndexFor}
use Rattle.wp_commit.proofs.RootLemmas.{root_birth, root_kept, opening-stands}
use Rattle.wp_commit.proofs.root.opening.Goals as goal

pub mark_root-requires-clause-counted : goal.mark_root-requires-clause-counted
mark_root-requires-clause-counted g c κs bounds =
    let task = c.args.run.now.task in
    let asked : c.run.inside.task.now ≡ task = ap (λ (a : Asked). a.task) c.run.view_is in
    let state_is : c.in_ok-root.root.node.state ≡ task.init =
    ap (λ (b : BirthView). b.node.state) c.in_ok-root.ensures
    ∙ (c.in_ok-copy.ensures ∙ (ap (λ parts. parts.0) c.in_ok-state.ensures.value ∙ ap (λ (t : PlanningTask). t.init) asked)) in
    let reachable : IsReachable task task.init = record { actions = []; leads = refl } in
    subst (λ (s : List Bool). AreCounted (g.P.Places.places c.args.tables.now.index) s) (sym state_is) (c.requires.index.counted task.init reachable)

pub returns-clause-stands : goal.returns-clause-stands
returns-clause-stands g c =
    let task = c.args.run.now.task in
    let settings = c.args.run.now.settings in
    let asked : c.run.inside.task.now ≡ task = ap (λ (a : Asked). a.task) c.run.view_is in
    let tables = placed g.P.Places.places c.mark_root.new.tables in
    let state = c.in_ok-state.state in
    let mark = c.in_ok-state.mark in
    let track = c.in_ok-state.track in
    let w = c.in_ok-w.w in
    let root = c.in_ok-root.root in
    let root_is : root.node ≡ root_birth state mark =
    ap (λ (b : BirthView). b.node) c.in_ok-root.ensures
    ∙ (λ j. let b : Generated = record { number = 0; counters = (mark.g, mark.r); state = c.in_ok-copy.ensures j } in b) in
    let width = c.requires.index.width in
    let tracked : c.add_track.new.self ≡ record { kept = []; tracks = track ∷ [] } =
    c.in_ok-add_track.ensures.added ∙ ap (λ (n : Keeping). record n { tracks = n.tracks ++ track ∷ [] }) c.new-nodes.ensures in
    let s : Searched = record { nodes = c.add.new.self; queue = c.put.new.self; latest = c.in_ok-latest.latest; numbered = 1; kept = 1; expanded = 0; repeats = 0 } in
    opening-stands task settings c.counters_are_carried.ensures.counters tables c.add.new.self c.put.new.self state mark track w s (record {
      searched = record { nodes_are = refl; queue_is = refl; numbered = refl; kept = refl; expanded = refl; repeats = refl };
      latest = c.in_ok-latest.ensures;
      state_is = ap (λ parts. parts.0) c.in_ok-state.ensures.value ∙ ap (λ (t : PlanningTask). t.init) asked;
      track_is = ap (λ parts. parts.1.track) c.in_ok-state.ensures.value;
      marked = subst (λ (t : PlanningTask). IsMarked t state [] mark track) asked c.in_ok-state.ensures.marked;
      w_is = c.in_ok-w.ensures.novelty ∙ (λ j. novelty_of (width j) (root_is j ∷ []) (root_is j));
      index = subst (IsIndexFor task settings) (sym c.in_ok-w.ensures.index) c.requires.index;
      limit = c.in_ok-w.ensures.limit ∙ c.requires.limit;
      births = subst (λ b. StandsFor tables (b ∷ [])) root_is c.in_ok-w.ensures.stands;
      pairs = c.in_ok-w.ensures.pairs ∙ ap (λ (b : Generated). b.counters ∷ []) root_is;
      home = c.in_ok-w.ensures.home;
      nodes_are = c.in_ok-add.ensures.added ∙ ap (λ (n : Keeping). record n { kept = n.kept ++ root_kept state mark w ∷ [] }) tracked;
      queued = subst (λ waiting_before. IsWith waiting_before (waiting w mark.g 0) c.put.new.self) c.new-queue.ensures c.in_ok-put.ensures.put;
    })
