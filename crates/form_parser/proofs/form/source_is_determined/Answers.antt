use Rattle.form_parser.proofs.Forms.{one_tree}
use Rattle.form_parser.proofs.form.source_is_determined.Goals as goal

pub returns : goal.returns
returns c = one_tree
