use Rattle.std.proofs.Common.{◌≡◌, ◌<◌, ◌++◌, List, ℕ, Option, length, map, unwrap_or, sym, ◌∙◌, ap, subst}
use Rattle.std.specs.Prelude.{OnOk}
use Rattle.wp_lift.specs.Names.{object_named}
use Rattle.wp_lift.specs.Problem.{Instance, schema_at}
use Rattle.wp_check.specs.Verdicts.{instance_of}
use Rattle.wp_report.specs.Verdicts.{cond_at, literal_text}
use Rattle.wp_report.proofs.verdicts.put_condition.Goals as goal

pub put_cond-requires : goal.put_cond-requires
put_cond-requires c =
    let schema = c.unwrap_or-schema.ensures ∙ ap (λ (found : Option ℕ). unwrap_or found 0) c.schema_of.ensures.value in
    subst (λ (s : ℕ). c.args.place < length (schema_at c.args.lifted.now s).conds) (sym schema) c.requires

pub returns : goal.returns
returns c =
    let schema = c.unwrap_or-schema.ensures ∙ ap (λ (found : Option ℕ). unwrap_or found 0) c.schema_of.ensures.value in
    let args = c.as_slice-2.ensures.value ∙ (c.in_ok-args.ensures ∙ ap (map (λ (word : List ℕ). unwrap_or (object_named c.args.lifted.now word) 0)) c.as_slice.ensures) in
    let same : (let one : Instance = record { schema = c.unwrap_or-schema.result; args = c.as_slice-2.result.now } in one) ≡ instance_of c.args.lifted.now c.args.step.now =
    λ i. record { schema = schema i; args = args i } in
    subst (λ (one : Instance).
    OnOk c.put_cond.result (c.put_cond.new.out.items ≡ c.args.out.now.items ++ literal_text c.args.lifted.now one.args (cond_at c.args.lifted.now one c.args.place)))
    same c.put_cond.ensures
