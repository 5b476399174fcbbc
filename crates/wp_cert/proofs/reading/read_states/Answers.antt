use Rattle.std.proofs.Common.{sym, subst, ap, ◌∙◌, ◌+◌, ◌-◌, length, arith}
use Rattle.wp_cert.specs.Format.{pieces, states_from, with_states, added_by, Gives}
use Rattle.wp_cert.proofs.LineLemmas.{some_piece, states_none, line_taken, lines_over, refused_line, taken_line}
use Rattle.wp_cert.proofs.reading.read_states.Goals as goal

pub returns-then-not-branch : goal.returns-then-not-branch
returns-then-not-branch c =
    let left = c.args.count - length c.loop-split.states.items in
    let line = c.in-Some.split.line.now in
    let none = refused_line (added_by left line) c.in_ok-add_state.field-0 c.loop-split.states.items c.add_state.new.states.items
    c.in_ok-add_state.ensures.form c.if-not-branch.true in
    sym c.loop-split.invariant.so_far
    ∙ ap (λ ps. with_states c.loop-split.states.items (states_from c.loop-split.number left ps)) c.in-Some.ensures.line
    ∙ ap (with_states c.loop-split.states.items)
    (states_none c.loop-split.number line (pieces 10 c.in-Some.split.behind.now) (some_piece 10 c.in-Some.split.behind.now) left none)

pub loop-split-preserved : goal.loop-split-preserved
loop-split-preserved c =
    let left = c.args.count - length c.loop-split.states.items in
    let line = c.in-Some.split.line.now in
    let taken = taken_line (added_by left line) c.in_ok-add_state.field-0 c.loop-split.states.items c.add_state.new.states.items
    c.in_ok-add_state.ensures.form c.if-not-branch.false in
    record {
      so_far =
          line_taken c.loop-split.number c.args.count c.loop-split.states.items c.add_state.new.states.items taken.0 line c.in-Some.split.behind.now
          taken.2 c.in_ok-add_state.ensures.few taken.1
          ∙ ap (λ ps. with_states c.loop-split.states.items (states_from c.loop-split.number left ps)) (sym c.in-Some.ensures.line)
          ∙ c.loop-split.invariant.so_far;
      few = c.in_ok-add_state.ensures.few;
      fits = c.in_ok-add_state.ensures.fits;
      numbers = omega (arith, c.in-Some.ensures.shorter, c.loop-split.invariant.numbers);
    }

pub returns : goal.returns
returns c =
    let left = c.args.count - length c.loop-split.states.items in
    subst (Gives c.finish.result)
    (lines_over c.loop-split.number left c.loop-split.states.items c.loop-split.rest.now
    ∙ ap (λ ps. with_states c.loop-split.states.items (states_from c.loop-split.number left ps)) (sym c.in_default.ensures.last)
    ∙ c.loop-split.invariant.so_far)
    c.finish.ensures
