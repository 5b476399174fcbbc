use Rattle.std.proofs.Common.{◌≡◌, ◌||◌, ◌+◌, ◌∷◌, [], Bool, drop, get_or, sym, ap, ◌∙◌, arith}
use Rattle.std.specs.List.{list_any}
use Rattle.std.proofs.lemmas.List.{drop_more, take_rest}
use Rattle.wp_task.specs.Novelty.{is_new, sets_of}
use Rattle.wp_plain.specs.Nodes.{generated_in}
use Rattle.wp_plain.proofs.TupleLemmas.{list_any-twos}
use Rattle.wp_plain.proofs.novelty.has_new_pair.Goals as goal

pub returns-then-has_new_pair_with : goal.returns-then-has_new_pair_with
returns-then-has_new_pair_with c =
    let t = is_new (generated_in c.args.nodes.now) c.args.x.now in
    let atoms = c.args.atoms.now in
    let i = c.loop-place.place in
    let rest = list_any t (sets_of 2 (drop (i + 1) atoms)) in
    let with_p : c.has_new_pair_with.result ≡ list_any (λ q. t (get_or atoms i 0 ∷ q ∷ [])) (drop (i + 1) atoms) =
    c.has_new_pair_with.ensures ∙ ap (λ xs. list_any (λ q. t (get_or atoms i 0 ∷ q ∷ [])) xs) (take_rest atoms (i + 1)) in
    ap (λ (b : Bool). b || rest) (sym c.if-has_new_pair_with.true ∙ with_p)
    ∙ (sym (ap (λ xs. list_any t (sets_of 2 xs)) (drop_more atoms i 0 (omega arith)) ∙ list_any-twos t (get_or atoms i 0) (drop (i + 1) atoms))
    ∙ c.loop-place.invariant)

pub loop-place-preserved : goal.loop-place-preserved
loop-place-preserved c =
    let t = is_new (generated_in c.args.nodes.now) c.args.x.now in
    let atoms = c.args.atoms.now in
    let i = c.loop-place.place in
    let rest = list_any t (sets_of 2 (drop (i + 1) atoms)) in
    let with_p : c.has_new_pair_with.result ≡ list_any (λ q. t (get_or atoms i 0 ∷ q ∷ [])) (drop (i + 1) atoms) =
    c.has_new_pair_with.ensures ∙ ap (λ xs. list_any (λ q. t (get_or atoms i 0 ∷ q ∷ [])) xs) (take_rest atoms (i + 1)) in
    ap (λ (b : Bool). b || rest) (sym c.if-has_new_pair_with.false ∙ with_p)
    ∙ (sym (ap (λ xs. list_any t (sets_of 2 xs)) (drop_more atoms i 0 (omega arith)) ∙ list_any-twos t (get_or atoms i 0) (drop (i + 1) atoms))
    ∙ c.loop-place.invariant)
