use Rattle.kt_files.proofs.HeadRows.{path_from_none}
use Rattle.kt_files.proofs.heads.import_path.Goals as goal

pub returns : goal.returns
returns c = path_from_none c.args.tokens.now c.args.at c.new-none.ensures c.more_names.result c.more_names.ensures
