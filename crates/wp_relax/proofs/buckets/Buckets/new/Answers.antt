use Rattle.std.proofs.Common.{◌≤◌, ℕ, List, [], length, get_or, sym, ap, subst, ◌∙◌, arith}
use Rattle.std.specs.List.{All}
use Rattle.std.proofs.lemmas.List.{length-replicate, get_or-replicate}
use Rattle.std.proofs.lemmas.List.Elements.{All-nil}
use Rattle.wp_relax.specs.Buckets.{Waiting, bucket_count}
use Rattle.wp_relax.proofs.buckets.Buckets.new.Goals as goal

pub invariant_of-result : goal.invariant_of-result
invariant_of-result c = record {
  count = ap length c.in_ok-buckets.ensures ∙ length-replicate {A = List ℕ} bucket_count [];
  empty = λ i within. ap (λ l. get_or l i []) c.in_ok-buckets.ensures ∙ get_or-replicate {A = List ℕ} bucket_count i [] [] within;
  within = omega arith;
  above = subst (All (λ (w : Waiting). bucket_count ≤ w.0.0)) (sym c.new.ensures.items) (All-nil (λ (w : Waiting). bucket_count ≤ w.0.0));
  ordered = c.new.ensures.heap_order;
}
