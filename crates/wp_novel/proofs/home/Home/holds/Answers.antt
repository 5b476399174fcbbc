use Rattle.std.proofs.Common.{◌≡◌, ◌&&◌, List, ℕ, true, sym, ap, ◌∙◌}
use Rattle.std.specs.List.{list_all}
use Rattle.wp_task.specs.Set.{atoms_in}
use Rattle.wp_tuples.specs.Ranking.{is_held}
use Rattle.wp_novel.specs.Births.{is_new}
use Rattle.wp_novel.specs.MarkedTuples.{new_atoms, old_atoms}
use Rattle.wp_novel.specs.NoveltyTables.{HomeView}
use Rattle.wp_novel.proofs.HeldLemmas.{parted}
use Rattle.wp_novel.proofs.home.Home.holds.Goals as goal

pub returns-then-all_held : goal.returns-then-all_held
returns-then-all_held c =
    let b = c.args.birth.now in
    let r = c.self.inside.ranks in
    let new : list_all (is_held r) (new_atoms b) ≡ true = ap (λ (l : List ℕ). list_all (is_held r) l) (sym c.new_atoms.ensures) ∙ (sym c.all_held.ensures ∙ c.if-all_held.true) in
    c.all_held-then-all_held.ensures ∙ (ap (λ (l : List ℕ). list_all (is_held r) l) c.old_atoms.ensures
    ∙ (ap (λ a. a && list_all (is_held r) (old_atoms b)) (sym new)
    ∙ (sym (parted (is_held r) (is_new b.fresh) (atoms_in b.node.state)) ∙ ap (λ (h : HomeView). list_all (is_held h.ranking) (atoms_in b.node.state)) c.self.view_is)))

pub returns-else-all_held : goal.returns-else-all_held
returns-else-all_held c =
    let b = c.args.birth.now in
    let r = c.self.inside.ranks in
    let new : list_all (is_held r) (new_atoms b) ≡ c.all_held.result = ap (λ (l : List ℕ). list_all (is_held r) l) (sym c.new_atoms.ensures) ∙ sym c.all_held.ensures in
    c.if-all_held.false
    ∙ (ap (λ a. a && list_all (is_held r) (old_atoms b)) (sym (new ∙ c.if-all_held.false))
    ∙ (sym (parted (is_held r) (is_new b.fresh) (atoms_in b.node.state)) ∙ ap (λ (h : HomeView). list_all (is_held h.ranking) (atoms_in b.node.state)) c.self.view_is))
