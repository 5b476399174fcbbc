use Rattle.wp_cert.proofs.FewLemmas.{emptied_keeps_few}
use Rattle.wp_cert.proofs.laws.emptied_searches_keep_few.Goals as goal

pub returns : goal.returns
returns c = emptied_keeps_few c.nodes_are_numbered.ensures c.first_is_least.ensures
