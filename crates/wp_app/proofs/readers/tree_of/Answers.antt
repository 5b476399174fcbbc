use Rattle.std.proofs.Common.{rules, ◌≢◌, List, ℕ, sym, ◌∙◌, ap, subst}
use Rattle.wp_lex.specs.declared.error.LexError.TheVariants as lexical
use Rattle.wp_lex.specs.Faults.{Explains, fault_of}
use Rattle.wp_lex.specs.Items.{items_of}
use Rattle.wp_app.specs.Output.{items_step}
use Rattle.wp_app.proofs.ReadLemmas.{meets_items, meets_refused, refused_items}
use Rattle.wp_app.proofs.readers.tree_of.Goals as goal

pub returns-in-Ok : goal.returns-in-Ok
unfolding items_step
returns-in-Ok c = meets_items c.args.part _ _ c.in-Ok.tree (ap fault_of (sym c.as_slice.ensures) ∙ c.in-Ok.ensures.0) (c.in-Ok.ensures.1 ∙ ap items_of c.as_slice.ensures)

pub returns-in_ok-lex_text-in-Err : goal.returns-in_ok-lex_text-in-Err
unfolding items_step
returns-in_ok-lex_text-in-Err c =
    let fault : c.in-Err.error ≢ lexical.Memory = search rules in
    let explained = subst (λ (text : List ℕ). Explains c.in-Err.error (fault_of text)) c.as_slice.ensures c.in-Err.ensures in
    meets_refused _ _ _ _ (refused_items c.args.part c.in-Err.error _ _ explained fault) c.in_ok-lex_text-in-Err.ensures c.refuse.ensures
