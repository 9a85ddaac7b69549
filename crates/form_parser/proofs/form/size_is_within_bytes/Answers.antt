use Rattle.form_parser.proofs.Sizes.{size_within_bytes}
use Rattle.form_parser.proofs.form.size_is_within_bytes.Goals as goal

pub returns : goal.returns
returns c = size_within_bytes
