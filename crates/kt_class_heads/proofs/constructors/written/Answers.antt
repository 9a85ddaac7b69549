use Rattle.kt_class_heads.proofs.ConstructorRows.{without_word, with_word}
use Rattle.kt_class_heads.proofs.constructors.written.Goals as goal

pub returns-in_default : goal.returns-in_default
returns-in_default c = without_word c.args.tokens.now c.args.at c.requires.within c.in_default.ensures c.bracketed.result c.bracketed.ensures

pub returns : goal.returns
returns c = with_word c.in-Some.ensures c.bracketed-2.result c.bracketed-2.ensures
