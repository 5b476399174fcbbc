use Rattle.std.proofs.Common.{[], ◌∷◌, ◌++◌, ◌∙◌, ap}
use Rattle.std.proofs.lemmas.List.{append_assoc}
use Rattle.wp_report.specs.Endings.{found_text, counts_text}
use Rattle.wp_report.proofs.endings.put_found.Goals as goal

pub returns : goal.returns
unfolding found_text
returns c =
    c.in_ok-push-2.ensures.items
    ∙ ap (λ out. out ++ 10 ∷ [])
    (c.in_ok-put_counts.ensures
    ∙ ap (λ out. out ++ counts_text c.args.counts.now)
    (c.in_ok-push.ensures.items ∙ ap (λ out. out ++ 32 ∷ []) c.in_ok-put_counted.ensures))
    ∙ simp append_assoc
