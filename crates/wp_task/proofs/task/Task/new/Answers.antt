use Rattle.std.proofs.Common.{List, ℕ, map, refl, sym, ap, ◌∙◌, subst}
use Rattle.std.specs.List.{All, range_with_len}
use Rattle.std.proofs.lemmas.List.Elements.{All-map}
use Rattle.wp_task.specs.declared.acts.Act.{Act}
use Rattle.wp_task.specs.Set.{AreAtoms}
use Rattle.wp_task.specs.Flat.{places_of}
use Rattle.wp_task.proofs.TaskLemmas.{few_needs, places-part}
use Rattle.wp_task.proofs.task.Task.new.Goals as goal

pub need_counts-requires : goal.need_counts-requires
need_counts-requires c = few_needs c.args.atoms c.args.acts c.requires.few_atoms c.requires.act_atoms

pub places_by_number-requires-clause-fits : goal.places_by_number-requires-clause-fits
places_by_number-requires-clause-fits c =
    subst (All (AreAtoms c.args.atoms)) (sym c.in_ok-add.ensures)
    (All-map (AreAtoms c.args.atoms) (λ (act : Act). act.add) c.args.acts (λ k d within. (c.requires.act_atoms k d within).adds))

pub places_by_number-requires-2-clause-fits : goal.places_by_number-requires-2-clause-fits
places_by_number-requires-2-clause-fits c =
    subst (All (AreAtoms c.args.atoms)) (sym c.in_ok-pre.ensures)
    (All-map (AreAtoms c.args.atoms) (λ (act : Act). act.pre) c.args.acts (λ k d within. (c.requires.act_atoms k d within).needs))

pub invariant_of-result : goal.invariant_of-result
invariant_of-result c =
    let places = λ (lists : List (List ℕ)). map (places_of lists) (range_with_len 0 c.args.atoms) in
    record {
      fits = c.requires;
      lists =
          c.in_ok-adders.ensures
          ∙ (ap places c.in_ok-add.ensures ∙ places-part (λ act. act.add) c.args.acts c.args.atoms refl);
      needers =
          c.in_ok-needers.ensures
          ∙ (c.deref.ensures.value
          ∙ (c.in_ok-places_by_number.ensures
          ∙ (ap places c.in_ok-pre.ensures ∙ places-part (λ act. act.pre) c.args.acts c.args.atoms refl)));
      pre = c.in_ok-pre.ensures;
      add = c.in_ok-add.ensures;
      counts = c.in_ok-need_counts.ensures;
      need_sets = c.in_ok-need_sets.ensures;
      goal_set = c.in_ok-goal_set.ensures;
    }
