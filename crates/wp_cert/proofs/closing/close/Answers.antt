use Rattle.std.proofs.Common.{◌≡◌, ◌<◌, ◌≤◌, ◌+◌, ◌-◌, ◌∷◌, ◌∙◌, [], ℕ, Bool, List, Some, length, ap, sym, subst, arith}
use Rattle.std.specs.List.{All}
use Rattle.std.proofs.lemmas.List.Elements.{All-cons}
use Rattle.wp_cert.specs.Closing.{closing, listed}
use Rattle.wp_cert.proofs.ClosingLemmas.{next_left, done_left, many_left}
use Rattle.wp_cert.proofs.closing.close.Goals as goal

pub loop-alloc-init : goal.loop-alloc-init
loop-alloc-init c =
    let task = c.args.task.now in
    record {
      so_far =
          ap (λ (ks : List (List Bool)). closing task.acts c.args.limit (c.args.limit + 2 - 0) 0 ks) c.in_ok-found.ensures.keys
          ∙ ap (λ (n : ℕ). closing task.acts c.args.limit n 0 (task.init ∷ [])) (let e : c.args.limit + 2 - 0 ≡ c.args.limit + 2 = omega arith in e);
      few = omega arith;
      sized = subst (All (λ (s : List Bool). length s ≡ task.atoms)) (sym c.in_ok-found.ensures.keys)
          (All-cons (λ (s : List Bool). length s ≡ task.atoms) task.init [] c.in_ok-found.ensures.size (λ k d within. absurd (omega arith)));
    }

pub loop-alloc-preserved : goal.loop-alloc-preserved
loop-alloc-preserved c =
    let task = c.args.task.now in
    let keys = c.loop-alloc.found.keys in
    let small : length keys ≤ c.args.limit = omega arith in
    let within : c.loop-alloc.place < length keys = omega arith in
    record {
      so_far =
          ap (λ (ks : List (List Bool)). closing task.acts c.args.limit (c.args.limit + 2 - (c.loop-alloc.place + 1)) (c.loop-alloc.place + 1) ks)
          c.in_ok-widen.ensures.value
          ∙ sym (next_left task.acts c.args.limit c.loop-alloc.place keys c.loop-alloc.invariant.few small within)
          ∙ c.loop-alloc.invariant.so_far;
      few = omega (arith, small, within);
      sized = c.in_ok-widen.ensures.sizes;
    }

pub returns-then-place-len : goal.returns-then-place-len
returns-then-place-len c =
    let keys = c.loop-alloc.found.keys in
    let small : length keys ≤ c.args.limit = omega arith in
    let past : length keys ≤ c.loop-alloc.place = omega arith in
    ap listed (sym c.loop-alloc.invariant.so_far
    ∙ done_left c.args.task.now.acts c.args.limit c.loop-alloc.place keys c.loop-alloc.invariant.few small past)
    ∙ ap Some (sym c.in_ok-cert.ensures)

pub returns : goal.returns
returns c =
    let keys = c.loop-alloc.found.keys in
    let many : c.args.limit < length keys = omega arith in
    ap listed (sym c.loop-alloc.invariant.so_far
    ∙ many_left c.args.task.now.acts c.args.limit c.loop-alloc.place keys c.loop-alloc.invariant.few many)
