use Rattle.std.proofs.Common.{◌∙◌}
use Rattle.wp_arrive.proofs.Steps.{begins, opens}
use Rattle.wp_arrive.proofs.arrivals.Arrivals.new.Goals as goal

pub of_words-requires : goal.of_words-requires
of_words-requires c = begins _ _ _ (opens _ _ (c.as_slice.ensures.value ∙ c.in_ok-first.ensures.items_if_clones_equal (λ y e. e)))
