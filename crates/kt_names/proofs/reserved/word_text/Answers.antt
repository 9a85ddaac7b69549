use Rattle.kt_names.proofs.Words.{text_is}
use Rattle.kt_names.proofs.reserved.word_text.Goals as goal

pub returns : goal.returns
returns c = text_is c.from_str.result c.word.result.now c.args.number c.requires c.word.ensures c.from_str.ensures.ascii
