use Rattle.kt_files.proofs.HeadRows.{no_package, package_from}
use Rattle.kt_grammar.proofs.Advances.{behind_near}
use Rattle.kt_grammar.specs.Rows as rows
use Rattle.kt_grammar.specs.TypesBuilt as types_built
use Rattle.grammars.specs.Grammar.{row}
use Rattle.kt_files.proofs.heads.package_name.Goals as goal

pub returns-in_default : goal.returns-in_default
returns-in_default c = no_package c.requires c.in_default.ensures c.new.ensures

pub returns : goal.returns
returns c = rw c.behind.ensures (package_from c.requires c.in-Some.ensures _ (behind_near (row rows.dotted) types_built.words_of c.args.tokens.now c.in-Some.next c.dotted.result c.dotted.ensures))
