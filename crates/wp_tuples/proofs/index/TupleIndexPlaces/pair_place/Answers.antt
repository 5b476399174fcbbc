use Rattle.std.proofs.Common.{◌≡◌, ◌+◌, ap, ◌∙◌}
use Rattle.wp_tuples.specs.TuplePlaces.{Indexed}
use Rattle.wp_tuples.proofs.Triangles.{triangle}
use Rattle.wp_tuples.proofs.PlaceLemmas.{pair_within}
use Rattle.wp_tuples.proofs.index.TupleIndexPlaces.pair_place.Goals as goal

pub returns-clause-within : goal.returns-clause-within
returns-clause-within c =
    let atoms : c.from.result ≡ c.args.self.now.atoms = c.from.ensures ∙ ap (λ (v : Indexed). v.atoms) c.self.view_is in
    let pairs : c.pairs_below.result ≡ triangle c.args.q = c.pairs_below.ensures.value ∙ ap triangle c.from-2.ensures in
    let place : c.from.result + c.pairs_below.result + c.from-3.result ≡ c.args.self.now.atoms + triangle c.args.q + c.args.p =
    (λ j. atoms j + pairs j + c.from-3.ensures j) in
    rw place (pair_within c.args.self.now.atoms c.args.self.now.width c.args.p c.args.q c.requires.width c.requires.order c.requires.atom)
