use Rattle.std.proofs.Common.{◌≡◌, true, sym, ap, ◌∙◌, take, get_or}
use Rattle.std.specs.List.{list_all}
use Rattle.std.proofs.lemmas.Bool.{and_from}
use Rattle.std.proofs.lemmas.List.Folds.{list_all_more}
use Rattle.wp_tuples.specs.Ranking.{is_held}
use Rattle.wp_tuples.proofs.RankLemmas.{extends_then}
use Rattle.wp_novel.proofs.GrowLemmas.{still_held}
use Rattle.wp_novel.proofs.GrowthLemmas.{narrow_held}
use Rattle.wp_novel.proofs.grow.rank_atoms.Goals as goal

pub returns-then-width-eq1-clause-held : goal.returns-then-width-eq1-clause-held
returns-then-width-eq1-clause-held c = narrow_held c.args.ranks.now c.args.atoms.now (sym c.width.ensures.value ∙ c.if-width-eq1.true) c.requires

pub loop-p-preserved : goal.loop-p-preserved
loop-p-preserved c =
    let was = c.loop-p.ranks in
    let now = c.give.new.self in
    let more = c.give.ensures.extends in
    record {
      width = more.width ∙ c.loop-p.invariant.width;
      extends = extends_then c.args.ranks.now was now c.loop-p.invariant.extends more;
      count = c.give.ensures.atoms ∙ c.loop-p.invariant.count;
      held = list_all_more (is_held now) c.args.atoms.now c.loop-p.p-index 0 c.loop-p-test.true
          ∙ and_from (list_all (is_held now) (take c.loop-p.p-index c.args.atoms.now)) (is_held now (get_or c.args.atoms.now c.loop-p.p-index 0))
          (still_held was now more (take c.loop-p.p-index c.args.atoms.now) c.loop-p.invariant.held) c.give.ensures.given;
    }
