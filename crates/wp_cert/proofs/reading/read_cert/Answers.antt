use Rattle.std.proofs.Common.{sym, subst, ap, ◌∙◌, ◌+◌, arith}
use Rattle.wp_cert.specs.Format.{pieces, header_from, cert_of, Gives}
use Rattle.wp_cert.proofs.LineLemmas.{some_piece, header_comment}
use Rattle.wp_cert.proofs.reading.read_cert.Goals as goal

pub returns-then-not-is_comment : goal.returns-then-not-is_comment
unfolding cert_of
returns-then-not-is_comment c =
    subst (Gives c.read_from_header.result)
    (ap (header_from c.loop-split.number) (sym c.in-Some.ensures.line) ∙ c.loop-split.invariant.so_far)
    c.read_from_header.ensures

pub loop-split-preserved : goal.loop-split-preserved
loop-split-preserved c = record {
  so_far =
      sym (ap (header_from c.loop-split.number) c.in-Some.ensures.line
      ∙ header_comment c.loop-split.number c.in-Some.split.line.now (pieces 10 c.in-Some.split.behind.now) (some_piece 10 c.in-Some.split.behind.now)
      (sym c.is_comment.ensures ∙ c.if-not-is_comment.false))
      ∙ c.loop-split.invariant.so_far;
  few = omega (arith, c.in-Some.ensures.shorter, c.loop-split.invariant.few);
}

pub returns : goal.returns
unfolding cert_of
returns c = sym c.loop-split.invariant.so_far ∙ ap (header_from c.loop-split.number) c.in_default.ensures.last
