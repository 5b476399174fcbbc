use Rattle.std.proofs.Common.{◌≡◌, ◌∙◌, ℕ, Bool, List, fold, get_or, map, ap, sym}
use Rattle.std.proofs.lemmas.List.{take_all}
use Rattle.wp_task.specs.Task.{act_at, result_of}
use Rattle.wp_cert.specs.Closing.{with_state}
use Rattle.wp_cert.proofs.ClosingLemmas.{results_more}
use Rattle.wp_cert.proofs.closing.put_results.Goals as goal

pub loop-a-preserved : goal.loop-a-preserved
loop-a-preserved c =
    let acts = c.args.task.now.acts in
    let s = c.args.state.now in
    let a = get_or c.args.acts.now c.loop-a.a-index 0 in
    c.in_ok-put_state.ensures
    ∙ ap (with_state c.loop-a.found.keys) c.in_ok-next.ensures
    ∙ ap (λ (ks : List (List Bool)). with_state ks (result_of (act_at acts a) s)) c.loop-a.invariant
    ∙ sym (results_more acts s c.args.found.now.keys c.args.acts.now c.loop-a.a-index c.loop-a-test.true)

pub returns : goal.returns
returns c =
    c.loop-a.invariant
    ∙ ap (λ (l : List ℕ). fold with_state c.args.found.now.keys (map (λ (a : ℕ). result_of (act_at c.args.task.now.acts a) c.args.state.now) l))
    (take_all c.loop-a.a-index c.args.acts.now c.loop-a-test.false)
