use Rattle.std.proofs.Common.{◌≡◌, ◌<◌, ◌&&◌, not, true, ℕ, length, ap, sym, ◌∙◌, subst}
use Rattle.std.specs.List.{All}
use Rattle.std.specs.List.Sorted.{IsStrictlyIncreasing}
use Rattle.std.proofs.lemmas.List.FromFn.{length-map-range_with_len}
use Rattle.wp_relax.specs.AdditiveCost.{costs_of, supporter_of}
use Rattle.wp_task.specs.Set.{has, atoms_in}
use Rattle.wp_relax.specs.RelaxedPlan.{in_reach, wanted_of, is_wanted_added, AreActs}
use Rattle.wp_relax.specs.Workspace.{Room}
use Rattle.wp_relax.proofs.PlanLemmas.{atoms_in-rises, atoms_in-below}
use Rattle.wp_relax.proofs.SupporterLemmas.{supporters_are_acts}
use Rattle.wp_relax.proofs.AddedAtoms.{relaxed_atoms-are}
use Rattle.wp_relax.proofs.workspace.Workspace.relaxed_atoms.Goals as goal

pub want_all-requires-clause-size : goal.want_all-requires-clause-size
want_all-requires-clause-size c =
    let acts = c.args.task.now.acts in
    let state = c.args.s.now in
    ap length (c.supporters-supporters.ensures ∙ c.in_ok-settle.ensures.supporters)
    ∙ (length-map-range_with_len (supporter_of acts state (costs_of acts state)) 0 (length state) ∙ c.requires.size)

pub want_all-requires-clause-numbers : goal.want_all-requires-clause-numbers
want_all-requires-clause-numbers c =
    let acts = c.args.task.now.acts in
    let state = c.args.s.now in
    subst (AreActs (length acts)) (sym (c.supporters-supporters.ensures ∙ c.in_ok-settle.ensures.supporters))
    (supporters_are_acts acts state (costs_of acts state))

pub add_all-requires-clause-size : goal.add_all-requires-clause-size
add_all-requires-clause-size c =
    let acts = c.args.task.now.acts in
    let state = c.args.s.now in
    ap length (c.supporters-supporters.ensures ∙ c.in_ok-settle.ensures.supporters)
    ∙ (length-map-range_with_len (supporter_of acts state (costs_of acts state)) 0 (length state) ∙ c.requires.size)

pub add_all-requires-clause-numbers : goal.add_all-requires-clause-numbers
add_all-requires-clause-numbers c =
    let acts = c.args.task.now.acts in
    let state = c.args.s.now in
    subst (AreActs (length acts)) (sym (c.supporters-supporters.ensures ∙ c.in_ok-settle.ensures.supporters))
    (supporters_are_acts acts state (costs_of acts state))

pub numbers_of-requires : goal.numbers_of-requires
numbers_of-requires c =
    let atoms : length c.self.inside.frontier.costs ≡ c.args.task.now.atoms = ap (λ (r : Room). r.atoms) (c.self.view_is ∙ c.requires.serves) in
    ap length c.deref-2.ensures.value
    ∙ (c.add_all.ensures.size ∙ (c.self.invariant.for_added ∙ (atoms ∙ (sym c.requires.size ∙ sym c.size.ensures))))

pub of-requires-2 : goal.of-requires-2
of-requires-2 c = subst IsStrictlyIncreasing (sym c.in_ok-atoms.ensures) (atoms_in-rises c.deref-2.result.now)

pub returns-clause-value : goal.returns-clause-value
returns-clause-value c =
    let acts = c.args.task.now.acts in
    let goals = c.args.task.now.goals in
    let state = c.args.s.now in
    let atoms : length c.self.inside.frontier.costs ≡ c.args.task.now.atoms = ap (λ (r : Room). r.atoms) (c.self.view_is ∙ c.requires.serves) in
    let size : length c.add_all.new.added.items ≡ length state =
    c.add_all.ensures.size ∙ (c.self.invariant.for_added ∙ (atoms ∙ sym c.requires.size)) in
    let reached : in_reach goals c.settle.new.frontier.costs ≡ true =
    sym (c.in_reach.ensures ∙ (λ j. in_reach (c.goals.ensures.value j) (c.costs.ensures j))) ∙ c.if-not-in_reach.false in
    c.of-2.ensures
    ∙ (c.in_ok-atoms.ensures
    ∙ (ap atoms_in c.deref-2.ensures.value
    ∙ relaxed_atoms-are acts goals state c.settle.new.frontier.costs c.settle.new.frontier.supporters c.want_all.new.wanted.items c.add_all.new.added.items
    c.in_ok-settle.ensures.costs c.in_ok-settle.ensures.supporters
    (c.in_ok-want_all.ensures.value ∙ ap (wanted_of acts goals state) c.supporters-supporters.ensures) reached size
    (λ q. c.add_all.ensures.set q
    ∙ (λ j. is_wanted_added acts (c.supporters-supporters.ensures j) (c.deref.ensures.value j) q && not (has state q)))))

pub returns-clause-below : goal.returns-clause-below
returns-clause-below c =
    let atoms : length c.self.inside.frontier.costs ≡ c.args.task.now.atoms = ap (λ (r : Room). r.atoms) (c.self.view_is ∙ c.requires.serves) in
    let size : length c.deref-2.result.now ≡ c.args.task.now.atoms =
    ap length c.deref-2.ensures.value ∙ (c.add_all.ensures.size ∙ (c.self.invariant.for_added ∙ atoms)) in
    let P : ℕ → Type 0 = λ n. All (λ p. p < n) c.of-2.result in
    subst P size
    (subst (All (λ p. p < length c.deref-2.result.now)) (sym (c.of-2.ensures ∙ c.in_ok-atoms.ensures)) (atoms_in-below c.deref-2.result.now))
