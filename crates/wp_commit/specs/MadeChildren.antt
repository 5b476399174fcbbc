-- Evaluated children by their states: a child is a state that is reached, and what else it is.
use Rattle.wp_count.specs.declared.brood.Child.{Child}
use Rattle.wp_commit.specs.declared.made.Evaluated.{Evaluated}
use Rattle.wp_commit.specs.declared.unseen.Reached.{Reached}

abbrev pub reached_as : Child → Reached Evaluated
reached_as c = record { state = c.state; rest = record { act = c.act; g = c.g; r = c.r; got = c.got; fresh = c.fresh } }

abbrev pub child_as : Reached Evaluated → Child
child_as x = record { act = x.rest.act; state = x.state; g = x.rest.g; r = x.rest.r; got = x.rest.got; fresh = x.rest.fresh }
