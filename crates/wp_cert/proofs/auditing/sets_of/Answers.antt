use Rattle.std.proofs.Common.{◌≡◌, ◌∷◌, ◌++◌, [], ◌∙◌, Bool, List, ap, sym, get_or, take}
use Rattle.std.proofs.lemmas.List.{take_all}
use Rattle.wp_task.specs.Set.{set_of}
use Rattle.wp_cert.specs.Audits.{is_among, states_of}
use Rattle.wp_cert.proofs.FoundLemmas.{among_more, states_more}
use Rattle.wp_cert.proofs.auditing.sets_of.Goals as goal

pub loop-number-preserved : goal.loop-number-preserved
loop-number-preserved c = λ s.
    let n = c.args.task.now.atoms in
    let states = c.args.states.now in
    let i = c.loop-number.number in
    let front = states_of n (take i states) in
    among_more c.loop-number.found.keys c.insert.new.self.keys front c.in_ok-state.state
    (λ (t : List Bool). c.in_ok-insert.ensures.updates.0 t) c.loop-number.invariant s
    ∙ ap (λ (x : List Bool). is_among (front ++ x ∷ []) s) c.in_ok-state.ensures.value
    ∙ ap (λ (l : List (List Bool)). is_among l s) (sym (states_more n states i c.loop-number-test.true))

pub returns : goal.returns
returns c = λ i s.
    (c.loop-number.invariant s
    ∙ ap (λ l. is_among (states_of c.args.task.now.atoms l) s) (take_all c.loop-number.number c.args.states.now c.loop-number-test.false)) i
