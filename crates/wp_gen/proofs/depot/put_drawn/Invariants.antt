use Rattle.std.proofs.Common.{◌≡◌, ◌++◌, ◌*◌, ℕ}
use Rattle.wp_gen.specs.Depot.{at_text, each_below, goal_of, start_of}
use Rattle.wp_gen.specs.Numbers.{term_of}
use Rattle.wp_gen.proofs.depot.put_drawn.Given as goal

abbrev pub invariant-loop-parcel : goal.invariant-loop-parcel
invariant-loop-parcel l =
    (l.term ≡ term_of l.number (l.parcel * 2))
    × (l.starts.items ≡ l.fn.starts.items ++ each_below (λ (parcel : ℕ). at_text parcel (start_of l.number l.size parcel)) l.parcel)
    × (l.goals.items ≡ l.fn.goals.items ++ each_below (λ (parcel : ℕ). at_text parcel (goal_of l.number l.size parcel)) l.parcel)
