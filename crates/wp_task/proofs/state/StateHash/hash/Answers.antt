use Rattle.std.proofs.Common.{◌≡◌, ◌^◌, ◌<◌, ℕ, get_or, ap, ◌∙◌, rules}
use Rattle.wp_task.specs.Packing.{words_of}
use Rattle.wp_task.proofs.WordLemmas.{words_of-flags_in}
use Rattle.wp_task.proofs.state.StateHash.hash.Goals as goal

pub returns : goal.returns
returns g c =
    let words = c.self.inside.words.items in
    let fit : (i : ℕ) → get_or words i 0 < 2 ^ 64 = λ i. search rules in
    let packed : c.as_slice-words.result.now ≡ words_of c.args.self.now =
    c.as_slice-words.ensures.value ∙ (words_of-flags_in words c.self.inside.size c.self.invariant fit ∙ ap words_of c.self.view_is) in
    rw packed at c.hash.ensures
