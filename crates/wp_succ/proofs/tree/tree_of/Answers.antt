use Rattle.std.proofs.Common.{List, ℕ, sym, subst}
use Rattle.std.specs.List.{All}
use Rattle.wp_task.specs.Task.{IsAct}
use Rattle.wp_succ.specs.declared.tree.Tree.TheInside.{Inside}
use Rattle.wp_succ.specs.Tree.{AreApplicable, reached_in}
use Rattle.wp_succ.proofs.NeedLemmas.{needs_by_action-is}
use Rattle.wp_succ.proofs.tree.tree_of.Goals as goal

pub invariant_of-result : goal.invariant_of-result
invariant_of-result c =
    let acts = c.args.task.now.acts in
    let fit : All (IsAct c.atoms-atoms.result) acts = subst (λ (n : ℕ). All (IsAct n) acts) (sym c.atoms-atoms.ensures.value) c.atoms-atoms.ensures.fits.act_atoms in
    let tree : Inside = record { nodes = c.args.nodes; always = c.args.always; atoms = c.atoms-atoms.result; count = c.act_count-count.result } in
    let is = needs_by_action-is tree acts c.act_count-count.ensures.value fit c.requires.whole in
    record {
      linked = c.requires.linked;
      whole = λ s. subst (λ (needs : List (List ℕ)). AreApplicable needs s (reached_in s tree)) (sym is) (c.requires.whole s);
    }

pub returns : goal.returns
returns c =
    let acts = c.args.task.now.acts in
    let fit : All (IsAct c.atoms-atoms.result) acts = subst (λ (n : ℕ). All (IsAct n) acts) (sym c.atoms-atoms.ensures.value) c.atoms-atoms.ensures.fits.act_atoms in
    let tree : Inside = record { nodes = c.args.nodes; always = c.args.always; atoms = c.atoms-atoms.result; count = c.act_count-count.result } in
    needs_by_action-is tree acts c.act_count-count.ensures.value fit c.requires.whole
