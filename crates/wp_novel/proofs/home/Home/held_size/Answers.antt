use Rattle.std.proofs.Common.{◌≡◌, ◌+◌, ◌≤◌, ℕ, Option, List, sym, ap, ◌∙◌, subst, arith}
use Rattle.std.specs.List.{All}
use Rattle.wp_tuples.specs.Placing.{Placing, HasPlace}
use Rattle.wp_tuples.specs.Ranking.{ranked}
use Rattle.wp_arrive.specs.Seen.{PassView}
use Rattle.wp_novel.specs.Homes.{pass_at, home_with}
use Rattle.wp_novel.specs.NoveltyTables.{HomeView, first_at}
use Rattle.wp_novel.specs.MarkedTuples.{new_atoms, old_atoms, tuples_with_new}
use Rattle.wp_novel.specs.Marks.{late_size, IsLeastSize}
use Rattle.wp_novel.specs.Jobs.{AreHeld}
use Rattle.wp_novel.specs.Dealing.{IsEarlierAtOld}
use Rattle.wp_novel.proofs.MarkedTupleLemmas.{marked_have_places}
use Rattle.wp_novel.proofs.SizeLemmas.{firsts_in, late_size_is, size_of_none}
use Rattle.wp_novel.proofs.HeldLemmas.{held_below, held_counted, earlier_ranked, size_held}
use Rattle.wp_novel.proofs.home.Home.held_size.Goals as goal
use Rattle.wp_novel.proofs.home.Home.held_size.Goals.{in-Some, in-None}

pub least_size-requires-clause-tuples : goal.least_size-requires-clause-tuples
least_size-requires-clause-tuples c κs =
    let r = c.self.inside.ranks in
    let places = ranked r in
    let b = c.args.birth.now in
    let held : AreHeld r b.node.state = subst (λ (h : HomeView). AreHeld h.ranking b.node.state) (sym c.self.view_is) c.requires.held in
    subst (λ (old : List ℕ). All (HasPlace places) (tuples_with_new places.width old c.new_atoms.result.now)) (sym c.old_atoms.ensures)
    (subst (λ (new : List ℕ). All (HasPlace places) (tuples_with_new places.width (old_atoms b) new)) (sym c.new_atoms.ensures)
    (marked_have_places places b (held_below r b.node.state c.atoms.ensures.within held) (held_counted r b.node.state held)))

pub returns-clause-size : goal.returns-clause-size
returns-clause-size c = λ index apart width size counted earlier.
    let r = c.self.inside.ranks in
    let places : Placing = ranked r in
    let b = c.args.birth.now in
    let home : HomeView = home_with r c.self.inside.shared in
    let held : AreHeld r b.node.state = subst (λ (h : HomeView). AreHeld h.ranking b.node.state) (sym c.self.view_is) c.requires.held in
    let wide : index.width ≡ r.width = width ∙ sym (ap (λ (h : HomeView). h.ranking.width) c.self.view_is) in
    let within = c.atoms.ensures.within in
    let was : IsEarlierAtOld index home b = subst (λ (h : HomeView). IsEarlierAtOld index h b) (sym c.self.view_is) earlier in
    subst (λ (h : HomeView). IsLeastSize index (first_at h) b.node.state b.node.number c.match-self.result) c.self.view_is
    (size_held index home b wide size counted within held c.match-self.result
    (elim c.match-self.branch [
      | in-Some w ↦
          let marks : w.in-Some.shared.marks ≡ home.marks = ap (λ (o : Option PassView). (pass_at o).marks) (sym w.in-Some.is) in
          let late : c.match-self.result ≡ late_size places home.marks b.node.number (old_atoms b) (new_atoms b) =
          w.result-is ∙ (w.least_size.ensures.size ∙ (λ j. late_size places (marks j) (c.requires.number j) (w.old_atoms.ensures j) (w.new_atoms.ensures j))) in
          subst (λ (n : ℕ). IsLeastSize places (firsts_in places home.marks) b.node.state b.node.number n) (sym late)
          (late_size_is places w.least_size.ensures.apart b home.marks (held_below r b.node.state within held) (held_counted r b.node.state held)
          (earlier_ranked index home b wide size counted within held was))
      | in-None w ↦
          let none : home.table.words ≡ 0 = ap (λ (o : Option PassView). (pass_at o).table.words) w.in-None.is in
          let words : places.len ≤ home.table.words = subst (λ (h : HomeView). (ranked h.ranking).len ≤ h.table.words) (sym c.self.view_is) c.requires.words in
          let last : c.match-self.result ≡ places.width + 1 = w.result-is ∙ ap (λ n. n + 1) w.width.ensures.value in
          subst (λ (n : ℕ). IsLeastSize places (firsts_in places home.marks) b.node.state b.node.number n) (sym last)
          (size_of_none places b.node.state b.node.number home.marks w.width.ensures.apart (omega arith))
    ]))
