use Rattle.std.proofs.Common.{refl}
use Rattle.kt_grammar.proofs.Advances.{not_one}
use Rattle.kt_files.proofs.HeadRows.{import_token}
use Rattle.kt_files.proofs.words.expect_import.Goals as goal

pub returns-in-None : goal.returns-in-None
returns-in-None c = not_one import_token refl c.requires c.in-None.ensures c.fault.ensures
