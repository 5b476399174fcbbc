use Rattle.std.proofs.Common.{◌≡◌, ◌++◌, ◌+◌, ◌<◌, ◌≤◌, ℕ, true, false, length, take, drop, get_or, sym, ap, ◌∙◌, subst, arith}
use Rattle.std.proofs.lemmas.List.{get_or_read}
use Rattle.wp_task.specs.Task.{act_at, result_of, is_plan}
use Rattle.wp_task.proofs.PlanLemmas.{length-result_of}
use Rattle.wp_ladder.specs.Trimmed.{applying, reaches, trimmed, IsSubsequence}
use Rattle.wp_ladder.proofs.TrimLemmas.{numbers, later_is, later_numbers, shorter_than, halfway_shorter, halfway_kept, halfway_end, plans_are_trimmed}
use Rattle.wp_ladder.proofs.elimination.trim.Goals as goal

pub reaches_goals-requires-clause-numbers : goal.reaches_goals-requires-clause-numbers
reaches_goals-requires-clause-numbers c =
    let within : c.loop-place.place < length c.loop-place.steps.items = omega (arith, c.loop-place.steps.ok.0) in
    later_numbers c.args.task.now c.args.plan.now c.loop-place.steps.items c.loop-place.place c.loop-place.before
    c.loop-place.invariant.half within c.deref.result.now c.deref.ensures.value

pub loop-place-smaller-in-Continue-branch-6 : goal.loop-place-smaller-in-Continue-branch-6
loop-place-smaller-in-Continue-branch-6 c =
    let task = c.args.task.now in
    let steps = c.loop-place.steps.items in
    let place = c.loop-place.place in
    let before = c.loop-place.before in
    let half = c.loop-place.invariant.half in
    let within : place < length steps = omega (arith, c.loop-place.steps.ok.0) in
    let later = later_is task c.args.plan.now steps place before half within c.deref.result.now c.deref.ensures.value in
    let shorter : c.extend_from_slice.new.self.items ≡ take place steps ++ applying task.acts before (drop (place + 1) steps) =
    c.in_ok-extend_from_slice.ensures.items
    ∙ (λ j. c.truncate.ensures.items j ++ (c.as_slice-then-met.ensures.value ∙ (c.in_ok-met.ensures.taken ∙ ap (applying task.acts before) later)) j) in
    omega (arith, ap length shorter, shorter_than task c.args.plan.now steps place before half within)

pub loop-place-preserved-in-Continue-branch-6 : goal.loop-place-preserved-in-Continue-branch-6
loop-place-preserved-in-Continue-branch-6 c =
    let task = c.args.task.now in
    let steps = c.loop-place.steps.items in
    let place = c.loop-place.place in
    let before = c.loop-place.before in
    let half = c.loop-place.invariant.half in
    let within : place < length steps = omega (arith, c.loop-place.steps.ok.0) in
    let later = later_is task c.args.plan.now steps place before half within c.deref.result.now c.deref.ensures.value in
    let shorter : c.extend_from_slice.new.self.items ≡ take place steps ++ applying task.acts before (drop (place + 1) steps) =
    c.in_ok-extend_from_slice.ensures.items
    ∙ (λ j. c.truncate.ensures.items j ++ (c.as_slice-then-met.ensures.value ∙ (c.in_ok-met.ensures.taken ∙ ap (applying task.acts before) later)) j) in
    let met : reaches task before (drop (place + 1) steps) ≡ true =
    ap (reaches task before) (sym later)
    ∙ (sym c.in_ok-met.ensures.met ∙ c.if-met.true) in
    record {
      size = c.loop-place.invariant.size;
      room = c.in_ok-met.ensures.room;
      half = halfway_shorter task c.args.plan.now steps place before half within c.extend_from_slice.new.self.items shorter met;
    }

pub advance-requires-clause-number : goal.advance-requires-clause-number
advance-requires-clause-number c =
    let task = c.args.task.now in
    let steps = c.loop-place.steps.items in
    let place = c.loop-place.place in
    let within : place < length steps = omega (arith, c.loop-place.steps.ok.0) in
    let read : c.index.result.now ≡ get_or steps place 0 = get_or_read steps place c.index.result.now within c.index.ensures 0 in
    subst (λ a. a < length task.acts) (sym read)
    (numbers task c.args.plan.now steps place c.loop-place.before c.loop-place.invariant.half within place 0 within)

pub loop-place-preserved : goal.loop-place-preserved
loop-place-preserved c =
    let task = c.args.task.now in
    let steps = c.loop-place.steps.items in
    let place = c.loop-place.place in
    let before = c.loop-place.before in
    let half = c.loop-place.invariant.half in
    let within : place < length steps = omega (arith, c.loop-place.steps.ok.0) in
    let later = later_is task c.args.plan.now steps place before half within c.deref.result.now c.deref.ensures.value in
    let read : c.index.result.now ≡ get_or steps place 0 = get_or_read steps place c.index.result.now within c.index.ensures 0 in
    let next : c.advance.new.s ≡ result_of (act_at task.acts (get_or steps place 0)) before =
    c.advance.ensures ∙ ap (λ (a : ℕ). result_of (act_at task.acts a) before) read in
    let unmet : reaches task before (drop (place + 1) steps) ≡ false =
    ap (reaches task before) (sym later)
    ∙ (sym c.in_ok-met.ensures.met ∙ c.if-met.false) in
    record {
      size = ap length next ∙ (length-result_of (act_at task.acts (get_or steps place 0)) before ∙ c.loop-place.invariant.size);
      room = c.in_ok-met.ensures.room;
      half = halfway_kept task c.args.plan.now steps place before half within c.advance.new.s next unmet;
    }

pub returns-clause-value : goal.returns-clause-value
returns-clause-value c =
    let past : length c.loop-place.steps.items ≤ c.loop-place.place = omega (arith, c.loop-place.steps.ok.0) in
    c.of_vec.ensures
    ∙ halfway_end c.args.task.now c.args.plan.now c.loop-place.steps.items c.loop-place.place c.loop-place.before c.loop-place.invariant.half past

pub returns-clause-plan : goal.returns-clause-plan
returns-clause-plan c = ap (is_plan c.args.task.now) c.of_vec.ensures ∙ c.loop-place.invariant.half.valid

pub returns-clause-steps : goal.returns-clause-steps
returns-clause-steps c =
    let past : length c.loop-place.steps.items ≤ c.loop-place.place = omega (arith, c.loop-place.steps.ok.0) in
    let value : c.of_vec.result ≡ trimmed c.args.task.now c.args.plan.now =
    c.of_vec.ensures
    ∙ halfway_end c.args.task.now c.args.plan.now c.loop-place.steps.items c.loop-place.place c.loop-place.before c.loop-place.invariant.half past in
    subst (λ l. IsSubsequence l c.args.plan.now) (sym value) (plans_are_trimmed c.args.task.now c.args.plan.now c.requires).steps
