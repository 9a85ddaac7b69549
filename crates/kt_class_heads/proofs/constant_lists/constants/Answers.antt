use Rattle.grammars.specs.Grammar.{row}
use Rattle.kt_grammar.specs.DeclarationsBuilt as built
use Rattle.kt_grammar.specs.Rows as rows
use Rattle.kt_class_heads.proofs.Lists.{from_none}
use Rattle.kt_class_heads.proofs.constant_lists.constants.Goals as goal

pub returns : goal.returns
returns c = from_none (row rows.constants) built.constants_of c.new-none.result c.new-none.ensures c.args.tokens.now c.args.at c.listed_constants.result c.listed_constants.ensures
