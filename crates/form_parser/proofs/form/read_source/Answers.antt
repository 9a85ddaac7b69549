use Rattle.form_parser.proofs.Forms.{form_reads}
use Rattle.form_parser.proofs.form.read_source.Goals as goal

pub returns : goal.returns
returns c = record { reads = form_reads c.if-bytes-gt256.false c.in_ok-tokens.ensures c.as_slice.ensures c.parse.result c.parse.ensures }
