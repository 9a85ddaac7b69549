use Rattle.kt_grammar.proofs.Advances.{not_one}
use Rattle.kt_members.proofs.TokenRows.{sample, is_sample}
use Rattle.kt_members.proofs.member_words.expect_word.Goals as goal

pub returns-in-None : goal.returns-in-None
returns-in-None c = not_one (sample c.args.word) (is_sample c.args.word) c.requires c.in-None.ensures c.fault.ensures
