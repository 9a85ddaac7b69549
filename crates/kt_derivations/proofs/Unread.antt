-- Six lists that are derived and not read.
use Rattle.std.proofs.Common.{List, [], ◌∷◌, ◌++◌, refl}
use Rattle.grammars.specs.Grammar.{Part, next, row, both, choose, many, Cst, Derives, d_row, d_both, d_right, d_done, d_nothing}
use Rattle.grammars.proofs.Readings.{derives, followed}
use Rattle.bound_grammars.proofs.Fails.{IsRead, unread, leaves}
use Rattle.kt_lexer.specs.declared.token.Token.{Token}
use Rattle.kt_lexer.specs.declared.token.TokenKind.TheVariants as kind
use Rattle.kt_lexer.specs.declared.token.Keyword.TheVariants as keyword
use Rattle.kt_lexer.specs.declared.token.Operator.TheVariants as operator
use Rattle.kt_grammar.specs.Examples.{token, o, w, a, b, c}
use Rattle.kt_grammar.specs.Rows.{Row, grammar, expression, comparison, named, infix_, range, postfix, primary, suffix, branch, infix_turns, comparison_turn, op, word, condition, conditions, statement}
use Rattle.kt_grammar.specs.Lookahead.{suffix_follows}
use Rattle.kt_grammar.specs.Tokens.{is_word}
use Rattle.kt_derivations.specs.Unread.{value_of_return, less_behind_cast, arrow_behind_check, lambda_of_finally, less_behind_local, arguments_behind_check, RulesDecide}

record Derived (p : Part Row Token) (ts : List Token) : Type 0 where
  tree : Cst Token
  derived : Derives grammar p ts tree []

-- the first part reads a front, and the second one the rest
in_two : (p q : Part Row Token) (front back : List Token) → IsRead grammar p front [] → IsRead grammar q back [] → Derived (both p q) (front ++ back)
in_two p q front back i j = record { tree = _; derived = d_both (followed grammar (derives grammar i.reads) back) (derives grammar j.reads) }

-- nothing follows at the levels above
above_comparison : {ts : List Token} → Derived (grammar comparison) ts → Derived (row expression) ts
above_comparison d = record { tree = _; derived = d_row (d_both (d_row (d_both (d_row (d_both (d_row d.derived) d_done)) d_done)) d_done) }

above_infix : {ts : List Token} → Derived (grammar infix_) ts → Derived (row expression) ts
above_infix d = above_comparison (record { tree = _; derived = d_both (d_row (d_both (d_row (d_both (d_row d.derived) d_done)) d_done)) (d_right d_nothing) })

above_postfix : {ts : List Token} → Derived (grammar postfix) ts → Derived (row expression) ts
above_postfix d = above_infix (record {
  tree = _;
  derived = d_both (d_row (d_both (d_row (d_both (d_row (d_both (d_row (d_both (d_row (d_right (d_row d.derived))) d_done)) d_done)) d_done)) d_done)) d_done;
})

returned : Derived (row expression) value_of_return
returned = above_infix (in_two (row range) infix_turns (w keyword.Return ∷ []) (a ∷ b ∷ []) (leaves grammar 200 _ _ [] refl) (leaves grammar 200 _ _ [] refl))

compared : Derived (row expression) less_behind_cast
compared = above_comparison (in_two (row named) comparison_turn (c ∷ w keyword.As ∷ o operator.OpenRound ∷ o operator.CloseRound ∷ o operator.Arrow ∷ a ∷ []) (o operator.Less ∷ b ∷ [])
    (leaves grammar 200 _ _ [] refl) (leaves grammar 200 _ _ [] refl))

called : Derived (row expression) lambda_of_finally
called = above_infix (in_two (row range) infix_turns
    (w keyword.Try ∷ o operator.OpenBrace ∷ o operator.CloseBrace
    ∷ token (kind.Name 0) ∷ o operator.OpenRound ∷ a ∷ o operator.Colon ∷ b ∷ o operator.CloseRound ∷ o operator.OpenBrace ∷ o operator.CloseBrace ∷ [])
    (token (kind.Name 1) ∷ o operator.OpenBrace ∷ a ∷ o operator.Arrow ∷ b ∷ o operator.CloseBrace ∷ [])
    (leaves grammar 200 _ _ [] refl) (leaves grammar 200 _ _ [] refl))

-- the whole `if` is compared
if_compared : Derived (row expression) less_behind_local
if_compared = above_comparison (in_two (row named) comparison_turn
    (w keyword.If ∷ o operator.OpenRound ∷ c ∷ o operator.CloseRound ∷ w keyword.Val ∷ a ∷ o operator.Colon ∷ b ∷ []) (o operator.Less ∷ c ∷ [])
    (leaves grammar 200 _ _ [] refl) (leaves grammar 200 _ _ [] refl))

-- the whole `if` is called
if_called : Derived (row expression) arguments_behind_check
if_called = above_postfix (in_two (row primary) (many suffix_follows (row suffix))
    (w keyword.If ∷ o operator.OpenRound ∷ c ∷ o operator.CloseRound ∷ a ∷ w keyword.Is ∷ o operator.OpenRound ∷ b ∷ o operator.CloseRound ∷ [])
    (o operator.Less ∷ c ∷ o operator.Greater ∷ o operator.OpenRound ∷ o operator.CloseRound ∷ [])
    (leaves grammar 200 _ _ [] refl) (leaves grammar 200 _ _ [] refl))

abbrev choose_else : Part Row Token
choose_else = choose (next (is_word keyword.Else)) (word keyword.Else) (both (row condition) (row conditions))

abbrev arrow_and_body : Part Row Token
arrow_and_body = both (op operator.Arrow) (row statement)

-- the condition, and the arrow with its body
branched : Derived (row branch) arrow_behind_check
branched =
    let k = in_two (choose_else) (arrow_and_body) (c ∷ w keyword.Is ∷ o operator.OpenRound ∷ a ∷ o operator.CloseRound ∷ []) (o operator.Arrow ∷ b ∷ []) (leaves grammar 200 _ _ [] refl) (leaves grammar 200 _ _ [] refl) in
    record { tree = _; derived = d_row k.derived }

pub rules_decide : RulesDecide
rules_decide = (
  ((returned.tree, returned.derived), λ y r d. unread grammar d 200 refl),
  ((compared.tree, compared.derived), λ y r d. unread grammar d 200 refl),
  ((branched.tree, branched.derived), λ y r d. unread grammar d 200 refl),
  ((called.tree, called.derived), λ y r d. unread grammar d 200 refl),
  ((if_compared.tree, if_compared.derived), λ y r d. unread grammar d 200 refl),
  ((if_called.tree, if_called.derived), λ y r d. unread grammar d 200 refl),
)
