use Rattle.std.proofs.Common.{◌≡◌, ◌<◌, ◌≤◌, ℕ, length, get_or}
use Rattle.wp_arrive.specs.FirstArrival.{first}
use Rattle.wp_arrive.proofs.Firsts.{none_yet}
use Rattle.wp_arrive.proofs.arrivals.Arrivals.first_words.Given as goal

abbrev pub invariant-loop-t : goal.invariant-loop-t
invariant-loop-t l = record {
  count : length l.made.items ≡ l.words;
  done : (u : ℕ) → u < l.t → get_or l.made.items u 0 ≡ first l.fn.pass.marks u;
  rest : (u : ℕ) → l.t ≤ u → u < l.words → get_or l.made.items u 0 ≡ none_yet;
  same : l.pass ≡ l.fn.pass;
}
