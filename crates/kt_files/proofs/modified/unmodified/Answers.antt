use Rattle.std.proofs.Common.{sym, ◌∙◌}
use Rattle.kt_files.proofs.UnmodifiedRows.{class_chosen, class_passed}
use Rattle.kt_files.proofs.modified.unmodified.Goals as goal

pub returns-then-is_word_at : goal.returns-then-is_word_at
returns-then-is_word_at c = class_chosen c.args.tokens.now c.args.at c.requires.within c.args.is_abstract c.args.is_enum (sym c.is_word_at.ensures ∙ c.if-is_word_at.true) c.class_declaration.result c.class_declaration.ensures

pub returns : goal.returns
returns c = class_passed c.args.tokens.now c.args.at c.requires.within c.args.is_abstract c.args.is_enum (sym c.is_word_at.ensures ∙ c.if-is_word_at.false) c.no_class.result c.no_class.ensures
