use Rattle.std.proofs.Common.{rules}
use Rattle.std.specs.BTreeSet.{contains}
use Rattle.std.specs.Ordering.{nat_cmp}
use Rattle.std.proofs.lemmas.Map.Made.{filter_same_pairs}
use Rattle.wp_ahead.proofs.FrontLemmas.{keeps_filter}
use Rattle.wp_ahead.proofs.front.keep_only.Goals as goal

pub returns-clause-kept : goal.returns-clause-kept
returns-clause-kept c =
    keeps_filter c.args.numbers.now (contains nat_cmp c.in_ok-numbers.numbers) c.args.kept.now.entries c.retain.new.self.entries c.in_ok-numbers.ensures
    (filter_same_pairs _ (λ e. contains nat_cmp c.in_ok-numbers.numbers e.0) _ (λ k v b w f' t. search rules) _ _ c.retain.ensures.filtered)
