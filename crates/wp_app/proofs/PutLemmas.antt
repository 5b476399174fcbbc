-- Putting a text piece by piece.
use Rattle.std.proofs.Common.{◌≡◌, ℕ, ◌+◌, ◌-◌, ◌≤◌, List, ◌++◌, length, take, drop, ap, sym, ◌∙◌, refl, Some, None, arith, length-drop}
use Rattle.std.specs.Prelude.{Option}
use Rattle.std.proofs.Math.Seq.{take-add}
use Rattle.std.proofs.lemmas.List.{take_rest, append_assoc}
use Rattle.wp_edge.specs.Put.{appended, IsTaken}
use Rattle.wp_app.specs.Puts.{HasPut}

appended-appended : (held : Option (List ℕ)) (a b : List ℕ) → appended (appended held a) b ≡ appended held (a ++ b)
appended-appended None a b = refl
appended-appended (Some old) a b = ap {B = Option (List ℕ)} Some (append_assoc old a b)

-- one more piece of the rest was taken
pub put_more : (held mid now : Option (List ℕ)) (text : List ℕ) (done count before between after : ℕ) → HasPut held mid text done before between → IsTaken mid now (take (length text - done) (drop done text)) count → between ≤ after → HasPut held now text (done + count) before after
put_more held mid now text done count before between after put taken later =
    let rest = take_rest text done in
    let within : count ≤ length (drop done text) = rw (sym rest) taken.within in
    let mids = put.taken in
    let news : now ≡ appended mid (take count (drop done text)) = rw (sym rest) taken.held in
    let short = put.within in
    let fell = put.later in
    record {
      within = omega (arith, length-drop done text);
      taken = news ∙ ap (λ m. appended m (take count (drop done text))) mids
          ∙ appended-appended held (take done text) (take count (drop done text))
          ∙ ap (appended held) (sym (take-add done count text));
      later = omega arith;
    }
