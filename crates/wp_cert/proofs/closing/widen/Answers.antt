use Rattle.std.proofs.Common.{◌≡◌, ◌∙◌, ℕ, Bool, List, fold, length, map, ap, sym, subst}
use Rattle.std.specs.List.{All}
use Rattle.wp_task.specs.Task.{act_at, result_of}
use Rattle.wp_cert.specs.Closing.{with_state, results_of, widened}
use Rattle.wp_cert.proofs.ClosingLemmas.{widened_sized}
use Rattle.wp_cert.proofs.closing.widen.Goals as goal

pub returns-clause-value : goal.returns-clause-value
returns-clause-value c =
    let acts = c.args.task.now.acts in
    let old = c.args.found.now.keys in
    c.in_ok-put_results.ensures
    ∙ ap (λ (l : List ℕ). fold with_state old (map (λ (a : ℕ). result_of (act_at acts a) c.in_ok-state.state) l))
    (c.as_slice.ensures ∙ c.in_ok-acts.ensures.value)
    ∙ ap (λ (s : List Bool). fold with_state old (results_of acts s)) c.in_ok-state.ensures.value

pub returns-clause-sizes : goal.returns-clause-sizes
returns-clause-sizes c =
    let acts = c.args.task.now.acts in
    let old = c.args.found.now.keys in
    subst (All (λ (s : List Bool). length s ≡ c.args.task.now.atoms))
    (sym (c.in_ok-put_results.ensures
    ∙ ap (λ (l : List ℕ). fold with_state old (map (λ (a : ℕ). result_of (act_at acts a) c.in_ok-state.state) l))
    (c.as_slice.ensures ∙ c.in_ok-acts.ensures.value)
    ∙ ap (λ (s : List Bool). fold with_state old (results_of acts s)) c.in_ok-state.ensures.value))
    (widened_sized c.args.task.now.atoms acts old c.args.place c.requires.place c.requires.sizes)
