use Rattle.std.proofs.Common.{◌∙◌, ap, length, arith}
use Rattle.std.proofs.lemmas.List.{length-map}
use Rattle.wp_task.specs.Set.{atoms_in}
use Rattle.wp_cert.proofs.closing.listed.Goals as goal

pub of_vec-requires : goal.of_vec-requires
of_vec-requires c = record {
  few = omega (arith, ap length c.in_ok-states.ensures.value ∙ length-map c.as_slice.result.now atoms_in ∙ ap length c.as_slice.ensures.keys, c.requires.few);
  each = c.in_ok-states.ensures.fits;
}
