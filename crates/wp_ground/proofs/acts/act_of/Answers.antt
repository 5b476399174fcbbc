use Rattle.std.proofs.Common.{◌∙◌, true, false, not, List, ℕ, filter, ap, sym, subst}
use Rattle.std.specs.List.Sorted.{IsStrictlyIncreasing}
use Rattle.wp_lift.specs.declared.schemas.Schema.{Schema}
use Rattle.wp_lift.specs.declared.schemas.SlotCond.{SlotCond}
use Rattle.wp_lift.specs.Worlds.{among}
use Rattle.wp_task.specs.Set.{lists}
use Rattle.wp_ground.specs.Sweeps.{with_schema}
use Rattle.wp_ground.specs.Acts.{changed_atoms}
use Rattle.wp_ground.specs.Tasks.{needs_in, numbers_of}
use Rattle.wp_ground.proofs.ActLemmas.{act-is, changed-are, numbers-fit}
use Rattle.wp_ground.proofs.acts.act_of.Goals as goal

pub without-requires-clause-numbers : goal.without-requires-clause-numbers
without-requires-clause-numbers c =
    subst IsStrictlyIncreasing (sym (c.as_slice-3.ensures.value ∙ c.in_ok-put_changes-2.ensures))
    (numbers-fit c.args.atoms.now (among (changed_atoms false c.args.args.now c.as_slice-effects.result.now))).rising

pub without-requires-clause-others : goal.without-requires-clause-others
without-requires-clause-others c =
    subst IsStrictlyIncreasing (sym (c.as_slice-4.ensures ∙ c.in_ok-add.ensures ∙ c.as_slice-2.ensures.value ∙ c.in_ok-put_changes.ensures))
    (numbers-fit c.args.atoms.now (among (changed_atoms true c.args.args.now c.as_slice-effects.result.now))).rising

pub returns : goal.returns
returns c =
    let lifted = c.args.lifted.now in
    let atoms = c.args.atoms.now in
    let step = with_schema c.args.schema c.args.args.now in
    let conds = c.as_slice-conds.ensures ∙ ap (λ (schema : Schema). schema.conds) c.schema_at.ensures in
    let effects = c.as_slice-effects.ensures ∙ ap (λ (schema : Schema). schema.effects) c.schema_at-2.ensures in
    let pre = c.in_ok-pre.ensures ∙ c.as_slice.ensures.value ∙ c.in_ok-put_needs.ensures
    ∙ ap (λ (conds : List SlotCond). numbers_of atoms (among (needs_in c.args.args.now conds))) conds in
    let add = c.in_ok-add.ensures ∙ c.as_slice-2.ensures.value ∙ c.in_ok-put_changes.ensures
    ∙ ap (λ changed. numbers_of atoms (among changed))
    (changed-are lifted step true c.args.args.now c.as_slice-effects.result.now (λ i. c.args.args.now) effects) in
    let deleted = c.in_ok-put_changes-2.ensures
    ∙ ap (λ changed. numbers_of atoms (among changed))
    (changed-are lifted step false c.args.args.now c.as_slice-effects.result.now (λ i. c.args.args.now) effects) in
    let del = c.in_ok-del.ensures ∙ (λ i. filter (λ (p : ℕ). not (lists (c.as_slice-4.ensures i) p)) (c.as_slice-3.ensures.value i)) in
    act-is lifted atoms step c.in_ok-pre.pre c.in_ok-add.add c.put_changes-2.new.scratch.numbers.items c.in_ok-del.del pre add deleted del
