-- The steps of the functions that take single tokens, and parts that have derivations.
use Rattle.std.proofs.Common.{◌≡◌, ℕ, true, [], ◌∷◌, refl}
use Rattle.grammars.specs.Grammar.{row, one, Cst, none, leaf, node, pair, left, right, Derives, d_nothing, d_one, d_row, d_both, d_left, d_right, d_done, Productive}
use Rattle.kt_bodies.proofs.TryRows.{has_block}
use Rattle.kt_lexer.specs.declared.token.Token.{Token}
use Rattle.kt_lexer.specs.declared.token.TokenKind.TheVariants as kind
use Rattle.kt_lexer.specs.declared.token.Operator.TheVariants as operator
use Rattle.kt_members.specs.declared.member_words.MemberWord.{MemberWord}
use Rattle.kt_members.specs.declared.member_words.MemberWord.TheVariants as word
use Rattle.kt_members.specs.MemberWords.{is_member_word}
use Rattle.kt_grammar.specs.Rows as rows
use Rattle.kt_grammar.specs.Rows.{grammar, value}
use Rattle.kt_grammar.specs.TypesBuilt.{no_span}
use Rattle.kt_grammar.proofs.SingleTokens.{a_name}
use Rattle.kt_grammar.proofs.Steps.{has_both}
use Rattle.kt_grammar.proofs.TypeRows.{has_op}

-- a name behind a line's end
abbrev pub named : ℕ → Token
named n = record { kind = kind.Name n; span = no_span; marked = true }

abbrev pub sample : MemberWord → Token
sample word.Get = named 3
sample word.Set = named 4
sample word.Init = named 5

pub is_sample : (w : MemberWord) → is_member_word w (sample w) ≡ true
is_sample word.Get = refl
is_sample word.Set = refl
is_sample word.Init = refl

pub has_member_word : (w : MemberWord) → Productive grammar (one (is_member_word w))
has_member_word w = (sample w ∷ [], leaf (sample w), d_one (is_sample w))

-- ---- an expression

abbrev turn_tree : Cst Token → Cst Token
turn_tree x = node (pair x none)

abbrev prefix_tree : Cst Token
prefix_tree = node (right (node (pair (node (right (left (leaf a_name)))) none)))

abbrev named_tree : Cst Token
named_tree = turn_tree (turn_tree (turn_tree (turn_tree (turn_tree (turn_tree (turn_tree prefix_tree))))))

abbrev expression_tree : Cst Token
expression_tree = turn_tree (turn_tree (turn_tree (node (pair named_tree (right none)))))

an_expression : Derives grammar (row rows.expression) (a_name ∷ []) expression_tree []
an_expression = d_row (d_both (d_row (d_both (d_row (d_both (d_row (d_both (d_row (d_both (d_row (d_both (d_row (d_both (d_row (d_both (d_row (d_both (d_row (d_both (d_row (d_both
    (d_row (d_right (d_row (d_both (d_row (d_right (d_left (d_one refl)))) d_done)))) d_done)) d_done)) d_done)) d_done)) d_done)) d_done)) d_done)) (d_right d_nothing))) d_done)) d_done)) d_done)

pub has_expression : Productive grammar (row rows.expression)
has_expression = (a_name ∷ [], expression_tree, an_expression)

pub has_value : Productive grammar value
has_value = has_both (has_op operator.Assign) has_expression

-- a body in braces
pub has_body : Productive grammar (row rows.body)
has_body = let k = has_block in (k.0, node (left k.1), d_row (d_left k.2))
