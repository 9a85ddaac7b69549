-- Tests of the grammar that look at more than the next token.
use Rattle.std.specs.Prelude.{Bool, true, false, not, ◌&&◌, ◌||◌, if◌then◌else◌, List, [], ◌∷◌}
use Rattle.std.proofs.Common.{refl}
use Rattle.grammars.specs.Grammar.{Test, next}
use Rattle.grammars.specs.Tests.{and_then}
use Rattle.grammars.specs.Automata.{Step, go, stop, scan}
use Rattle.kt_lexer.specs.declared.token.Token.{Token}
use Rattle.kt_lexer.specs.declared.token.Keyword.TheVariants as keyword
use Rattle.kt_lexer.specs.declared.token.Operator.TheVariants as operator
use Rattle.kt_grammar.specs.declared.lookahead.Frame.{Frame}
use Rattle.kt_grammar.specs.declared.lookahead.Frame.TheVariants as frame
use Rattle.kt_grammar.specs.declared.lookahead.Goal.{Goal}
use Rattle.kt_grammar.specs.declared.lookahead.Goal.TheVariants as goal
use Rattle.kt_grammar.specs.declared.lookahead.Mode.{Mode}
use Rattle.kt_grammar.specs.declared.lookahead.Mode.TheVariants as mode
use Rattle.kt_grammar.specs.declared.lookahead.Place.{Place}
use Rattle.kt_grammar.specs.Tokens.{is_op, is_word, is_name, is_out, is_catch, is_finally, is_dot, is_postfix, is_local, is_modifier_name, begins_parameter, unmarked, begins_type, begins_trailing}

-- ---- types that go on or end by what stands behind them

abbrev pub at : List Frame → Mode → Step Place
at fs m = go (record { frames = fs; mode = m })

abbrev pub no : Step Place
no = stop false

abbrev pub behind_comma : List Frame → Step Place
behind_comma [] = no
behind_comma (frame.Angle ∷ fs) = at (frame.Angle ∷ fs) (mode.Argument true)
behind_comma (frame.Round ∷ fs) = at (frame.List ∷ fs) mode.Item
behind_comma (frame.List ∷ fs) = at (frame.List ∷ fs) mode.Item

abbrev pub last_greater : Goal → Step Place
last_greater goal.BeforeArrow = at [] mode.Complete
last_greater _ = at [] mode.Closed

abbrev pub behind_greater : Goal → List Frame → Step Place
behind_greater g (frame.Angle ∷ []) = last_greater g
behind_greater g (frame.Angle ∷ fs) = at fs mode.Complete
behind_greater g _ = no

abbrev pub behind_round : List Frame → Step Place
behind_round (frame.Round ∷ fs) = at fs mode.Grouped
behind_round (frame.List ∷ fs) = at fs mode.Listed
behind_round _ = no

-- `)` with no type before it
abbrev pub behind_empty : List Frame → Step Place
behind_empty (frame.Round ∷ fs) = at fs mode.Listed
behind_empty (frame.List ∷ fs) = at fs mode.Listed
behind_empty _ = no

abbrev pub behind_type : Goal → List Frame → Token → Step Place
behind_type g fs t =
    if is_op operator.Question t then at fs mode.Complete else
    if is_op operator.Comma t then behind_comma fs else
    if is_op operator.Greater t then behind_greater g fs else
    if is_op operator.CloseRound t then behind_round fs else no

-- behind a whole type that no bracket is open round: a further `->`, or the `,` between parameters or conditions
abbrev pub outermost : Goal → Token → Bool
outermost goal.BeforeArrow t = is_op operator.Arrow t || is_op operator.Comma t
outermost _ t = false

abbrev pub type_end : Goal → List Frame → Token → Step Place
type_end g [] t = if outermost g t then stop true else behind_type g [] t
type_end g (f ∷ fs) t = behind_type g (f ∷ fs) t

abbrev pub group_end : Goal → List Frame → Token → Step Place
group_end g [] t = if outermost g t then stop true else if is_op operator.Arrow t then at [] mode.Wanted else behind_type g [] t
group_end g (f ∷ fs) t = if is_op operator.Arrow t then at (f ∷ fs) mode.Wanted else behind_type g (f ∷ fs) t

-- a call, or its lambda
abbrev pub begins_call : Token → Bool
begins_call t = unmarked (is_op operator.OpenRound) t || unmarked begins_trailing t

-- what follows an operand, whatever stands behind it
abbrev pub follows_operand : Token → Bool
follows_operand t = is_dot t || (unmarked is_postfix t || (unmarked (is_op operator.OpenSquare) t || begins_call t))

abbrev pub operand_end : Goal → Token → Bool
operand_end goal.BeforeCall t = follows_operand t
operand_end _ t = false

abbrev pub arguments_end : Goal → Token → Bool
arguments_end goal.BeforeCall t = begins_call t
arguments_end _ t = true

abbrev pub opens : Goal → Token → Bool
opens goal.BeforeCall t = unmarked (is_op operator.Less) t
opens _ t = is_op operator.Less t

abbrev pub type_start : List Frame → Token → Step Place
type_start fs t = if is_name t then at fs mode.Named else if is_op operator.OpenRound t then at (frame.Round ∷ fs) mode.Item else no

abbrev pub argument_start : List Frame → Token → Step Place
argument_start fs t =
    if is_op operator.Times t then at fs mode.Star else
    if is_word keyword.In t then at fs mode.Wanted else
    if is_out t then at fs mode.Projected else type_start fs t

-- behind the name of a type
abbrev pub behind_name : Goal → List Frame → Token → Step Place
behind_name g fs t =
    if is_op operator.Dot t then at fs mode.Part else
    if is_op operator.Less t then at (frame.Angle ∷ fs) (mode.Argument false) else type_end g fs t

abbrev pub behind_operand : Goal → List Frame → Token → Step Place
behind_operand g fs t = if operand_end g t then stop true else if opens g t then at (frame.Angle ∷ fs) (mode.Argument false) else no

abbrev pub behind_argument : Goal → Bool → List Frame → Token → Step Place
behind_argument g close fs t = if close && is_op operator.Greater t then behind_greater g fs else argument_start fs t

abbrev pub projected : Goal → List Frame → Token → Step Place
projected g fs t = if begins_type t then type_start fs t else behind_name g fs t

abbrev pub item : List Frame → Token → Step Place
item fs t = if is_op operator.CloseRound t then behind_empty fs else type_start fs t

abbrev pub behind_star : Goal → List Frame → Token → Step Place
behind_star g fs t = if is_op operator.Comma t then behind_comma fs else if is_op operator.Greater t then behind_greater g fs else no

abbrev pub go_if : Bool → List Frame → Mode → Step Place
go_if b fs m = if b then at fs m else no

abbrev pub step_in : Goal → List Frame → Mode → Token → Step Place
step_in g fs mode.Operand t = behind_operand g fs t
step_in g fs mode.Arrow t = go_if (is_op operator.Arrow t) fs mode.Wanted
step_in g fs (mode.Argument close) t = behind_argument g close fs t
step_in g fs mode.Projected t = projected g fs t
step_in g fs mode.Wanted t = type_start fs t
step_in g fs mode.Item t = item fs t
step_in g fs mode.Part t = go_if (is_name t) fs mode.Named
step_in g fs mode.Named t = behind_name g fs t
step_in g fs mode.Complete t = type_end g fs t
step_in g fs mode.Star t = behind_star g fs t
step_in g fs mode.Grouped t = group_end g fs t
step_in g fs mode.Listed t = go_if (is_op operator.Arrow t) fs mode.Wanted
step_in g fs mode.Closed t = stop (arguments_end g t)

abbrev pub step : Goal → Place → Token → Step Place
step g p t = step_in g p.frames p.mode t

abbrev pub is_closed : Mode → Bool
is_closed mode.Closed = true
is_closed _ = false

abbrev pub found_at_end : Goal → Mode → Bool
found_at_end goal.Anywhere m = is_closed m
found_at_end _ m = false

abbrev pub at_end : Goal → Place → Bool
at_end g p = found_at_end g p.mode

-- A postfix operator, a member, an index or a call follows an operand. Type arguments do where the tokens form some and `(`, or a
-- lambda, stands unmarked behind them.
abbrev pub suffix_follows : Test Token
suffix_follows = scan (step goal.BeforeCall) (at_end goal.BeforeCall) (record { frames = []; mode = mode.Operand }) refl

-- behind the name of a type in an expression: the tokens form type arguments
abbrev pub arguments_form : Test Token
arguments_form = scan (step goal.Anywhere) (at_end goal.Anywhere) (record { frames = []; mode = mode.Operand }) refl

-- behind a type in brackets, where `->` stands behind the whole type: `->` and a type before a further `->`, or before `,`
abbrev pub result_follows : Test Token
result_follows = scan (step goal.BeforeArrow) (at_end goal.BeforeArrow) (record { frames = []; mode = mode.Arrow }) refl

-- ---- words that mean something before certain tokens

-- `=` behind a name
abbrev pub argument_name : Test Token
argument_name = and_then is_name (next (is_op operator.Assign))

-- the parameters of a lambda
abbrev pub parameters : Test Token
parameters = and_then is_name (next (λ t. is_op operator.Comma t || (is_op operator.Colon t || is_op operator.Arrow t)))

-- `out` before a type
abbrev pub out_type : Test Token
out_type = and_then is_out (next begins_type)

-- a clause of `try`: `catch ( NAME :`
abbrev pub catch_clause : Test Token
catch_clause = and_then is_catch (and_then (is_op operator.OpenRound) (and_then is_name (next (is_op operator.Colon))))

-- `finally {`
abbrev pub finally_clause : Test Token
finally_clause = and_then is_finally (next (is_op operator.OpenBrace))

-- ---- the `else` of an `if`: no `->` stands behind it, and one `;` may stand before it

pub data Turn : Type 0 where
  body_end : Turn
  semicolon : Turn
  otherwise : Turn

abbrev pub else_step : Turn → Token → Step Turn
else_step body_end t = if is_word keyword.Else t then go otherwise else if is_op operator.Semicolon t then go semicolon else stop false
else_step semicolon t = if is_word keyword.Else t then go otherwise else stop false
else_step otherwise t = stop (not (is_op operator.Arrow t))

abbrev pub else_at_end : Turn → Bool
else_at_end body_end = false
else_at_end semicolon = false
else_at_end otherwise = true

abbrev pub else_follows : Test Token
else_follows = scan else_step else_at_end body_end refl

-- ---- the modifiers of a parameter: a word is one where the parameter goes on behind it

pub data Word : Type 0 where
  begun : Word
  modifier : Word

abbrev pub modifier_step : Word → Token → Step Word
modifier_step begun t = if is_word keyword.In t then stop true else if is_modifier_name t then go modifier else stop false
modifier_step modifier t = stop (begins_parameter t || is_local t)

abbrev pub no_modifier : Word → Bool
no_modifier w = false

abbrev pub modifier_follows : Test Token
modifier_follows = scan modifier_step no_modifier begun refl
