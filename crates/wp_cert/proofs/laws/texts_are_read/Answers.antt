use Rattle.std.proofs.Common.{◌++◌}
use Rattle.std.specs.List.{flat_map}
use Rattle.wp_cert.specs.Format.{line, text_of}
use Rattle.wp_cert.proofs.FormatLemmas.{commented_is_of, text_read, text_is_of}
use Rattle.wp_cert.proofs.TextLemmas.{read_is_text}
use Rattle.wp_cert.proofs.laws.texts_are_read.Goals as goal

pub returns : goal.returns
returns c = record {
  texts = λ cert text. (text_read cert text, read_is_text cert text);
  written = λ cert fits. text_read cert (text_of cert) (text_is_of cert fits);
  commented = λ comments cert lines all fits. text_read cert (flat_map line comments ++ text_of cert) (commented_is_of comments cert lines all fits);
}
