-- The words of members.
use Rattle.std.specs.Prelude.{ℕ, Bool}
use Rattle.kt_lexer.specs.declared.token.Token.{Token}
use Rattle.kt_members.specs.declared.member_words.MemberWord.{MemberWord}
use Rattle.kt_members.specs.declared.member_words.MemberWord.TheVariants as word
use Rattle.kt_grammar.specs.Tokens.{is_of}

abbrev pub word_class : MemberWord → ℕ
word_class word.Get = 87
word_class word.Set = 88
word_class word.Init = 89

abbrev pub is_member_word : MemberWord → Token → Bool
is_member_word w = is_of (word_class w)
