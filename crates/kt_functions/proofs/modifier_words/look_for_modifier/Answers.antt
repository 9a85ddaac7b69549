use Rattle.std.proofs.Common.{sym, ◌∙◌}
use Rattle.kt_bodies.proofs.Looking.{looked_at}
use Rattle.kt_functions.proofs.ModifierRows.{says_in, says_other, says_name, begun_name, begun_here_at}
use Rattle.kt_functions.proofs.modifier_words.look_for_modifier.Goals as goal

pub returns-then-is_word_at : goal.returns-then-is_word_at
returns-then-is_word_at c = looked_at c.seen.result (says_in (sym c.is_word_at.ensures ∙ c.if-is_word_at.true)) c.requires (begun_here_at c.args.tokens.now c.args.at.at) c.seen.ensures

pub returns-in_default : goal.returns-in_default
returns-in_default c = looked_at c.seen-in_default.result (says_other (sym c.is_word_at.ensures ∙ c.if-is_word_at.false) c.in_default.ensures) c.requires (begun_here_at c.args.tokens.now c.args.at.at) c.seen-in_default.ensures

pub returns : goal.returns
returns c =
    let h = sym c.is_word_at.ensures ∙ c.if-is_word_at.false in
    let o = c.in-Some.ensures in
    looked_at c.seen-2.result (says_name o h c.goes_on.ensures) o.within (begun_name o h) c.seen-2.ensures
