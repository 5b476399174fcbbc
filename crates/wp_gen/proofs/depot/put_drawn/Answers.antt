use Rattle.std.proofs.Common.{◌≡◌, ◌++◌, ℕ, sym, ap, ◌∙◌, subst, arith}
use Rattle.wp_gen.specs.Depot.{at_text, each_below, goal_of, start_of}
use Rattle.wp_gen.specs.Numbers.{drawn_below}
use Rattle.wp_gen.proofs.TextLemmas.{drawn_more, first_term, next_terms, second_term}
use Rattle.wp_gen.proofs.depot.put_drawn.Goals as goal

pub loop-parcel-preserved : goal.loop-parcel-preserved
loop-parcel-preserved c =
    let number = c.args.number in
    let size = c.args.size in
    let n = c.loop-parcel.parcel in
    let first = first_term number c.loop-parcel.term c.put_next.new.term n c.loop-parcel.invariant.0 c.in_ok-put_next.ensures.term in
    let second = second_term number c.put_next.new.term c.put_next-in-loop-parcel.new.term n first c.in_ok-put_next-2.ensures.term in (
      next_terms number c.put_next-in-loop-parcel.new.term n second,
      drawn_more size n c.loop-parcel.term (start_of number size) c.args.starts.now.items c.loop-parcel.starts.items _
          c.loop-parcel.invariant.1 (ap (drawn_below size) (sym c.in_ok-put_next.ensures.term ∙ first)) c.in_ok-put_next.ensures.text,
      drawn_more size n c.put_next.new.term (goal_of number size) c.args.goals.now.items c.loop-parcel.goals.items _
          c.loop-parcel.invariant.2 (ap (drawn_below size) (sym c.in_ok-put_next-2.ensures.term ∙ second)) c.in_ok-put_next-2.ensures.text,
    )

pub returns-clause-starts : goal.returns-clause-starts
returns-clause-starts c =
    let all : c.loop-parcel.parcel ≡ c.args.size = omega (arith, c.loop-parcel-test.false, c.loop-parcel.auto.parcel-end) in
    subst (λ (n : ℕ). c.loop-parcel.starts.items ≡ c.args.starts.now.items ++ each_below (λ (parcel : ℕ). at_text parcel (start_of c.args.number c.args.size parcel)) n)
    all c.loop-parcel.invariant.1

pub returns-clause-goals : goal.returns-clause-goals
returns-clause-goals c =
    let all : c.loop-parcel.parcel ≡ c.args.size = omega (arith, c.loop-parcel-test.false, c.loop-parcel.auto.parcel-end) in
    subst (λ (n : ℕ). c.loop-parcel.goals.items ≡ c.args.goals.now.items ++ each_below (λ (parcel : ℕ). at_text parcel (goal_of c.args.number c.args.size parcel)) n)
    all c.loop-parcel.invariant.2
