use Rattle.std.proofs.Common.{sym, ◌∙◌}
use Rattle.kt_class_heads.proofs.ParameterRows.{not_kept, kept_by}
use Rattle.kt_class_heads.proofs.parameters.kept.Goals as goal

pub returns-then-not-begins_local : goal.returns-then-not-begins_local
returns-then-not-begins_local c = not_kept c.requires (sym c.begins_local.ensures ∙ c.if-not-begins_local.true) c.no_word.ensures

pub returns : goal.returns
returns c = kept_by c.to.result c.word_at.result (sym c.begins_local.ensures ∙ c.if-not-begins_local.false) c.word_at.ensures c.to.ensures
