use Rattle.std.proofs.Common.{◌≡◌, ◌∙◌, ◌<◌, ◌≤◌, ◌+◌, ◌++◌, ◌∷◌, [], ℕ, List, length, ap, sym, subst, arith}
use Rattle.wp_cert.proofs.LineLemmas.{AreBelow, below_push}
use Rattle.wp_cert.proofs.ClosingLemmas.{atom_filtered, gap_filtered, inside_has}
use Rattle.wp_cert.proofs.closing.atoms_of.Goals as goal

pub loop-p-preserved : goal.loop-p-preserved
loop-p-preserved c =
    let p = c.in-Some.p in
    let next = c.in-Some.ensures.found in
    let inside : p < length c.args.state.now = inside_has c.args.state.now p next.in_set in
    record {
      so_far =
          c.in_ok-push.ensures.items
          ∙ ap (λ (l : List ℕ). l ++ p ∷ []) c.loop-p.invariant.so_far
          ∙ sym (atom_filtered c.args.state.now c.loop-p.from p next.late next.in_set next.none_before);
      below = subst (AreBelow (p + 1)) (sym c.in_ok-push.ensures.items)
          (below_push c.loop-p.from p c.loop-p.atoms.items c.loop-p.invariant.below next.late (omega (arith, inside, c.requires)));
      inside = omega (arith, inside);
    }

pub returns-clause-value : goal.returns-clause-value
returns-clause-value c =
    c.of_vec.ensures
    ∙ c.loop-p.invariant.so_far
    ∙ sym (gap_filtered c.args.state.now c.loop-p.from (length c.args.state.now) c.loop-p.invariant.inside
    (λ q late before. c.in_default.ensures.none q late))
