use Rattle.std.proofs.Common.{[], ◌∷◌, ◌++◌, ◌-◌, ◌∙◌, ap, ℕ}
use Rattle.std.proofs.lemmas.List.{append_assoc}
use Rattle.wp_gen.specs.Depot.{at_text, each_below, init_line, roads_text, start_of}
use Rattle.wp_gen.proofs.depot.put_lines.Goals as goal

pub returns-clause-init : goal.returns-clause-init
unfolding init_line
returns-clause-init c =
    c.in_ok-extend_from_slice-3.ensures.items
    ∙ ap (λ out. out ++ 41 ∷ 10 ∷ [])
    (c.in_ok-put_drawn.ensures.starts
    ∙ ap (λ out. out ++ each_below (λ (parcel : ℕ). at_text parcel (start_of c.args.number c.args.size parcel)) c.args.size)
    (c.in_ok-put_all_roads.ensures ∙ ap (λ out. out ++ each_below roads_text (c.args.size - 1)) c.in_ok-extend_from_slice.ensures.items))
    ∙ simp append_assoc
