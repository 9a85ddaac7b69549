-- What the scans for type arguments and function types have gone over begins such: what is wanted at each state, and how it is closed.
use Rattle.std.proofs.Common.{◌≡◌, Bool, true, false, ◌&&◌, List, [], ◌∷◌, ◌⊎◌, inl, inr, if◌then◌else◌, not, refl, sym, subst}
use Rattle.grammars.specs.Grammar.{Test, next, Part, nothing, one, row, both, choose}
use Rattle.grammars.specs.Automata.{Step, go, stop}
use Rattle.grammars.proofs.Scans.{GoneOver, gone_over}
use Rattle.grammars.proofs.Stacks as stacks
use Rattle.grammars.proofs.Stacks.{all_end, all_one, all_nothing, all_row, all_both, all_left, all_right, all_more, all_done, all_tail}
use Rattle.kt_lexer.specs.declared.token.Token.{Token}
use Rattle.kt_lexer.specs.declared.token.Keyword.TheVariants as keyword
use Rattle.kt_lexer.specs.declared.token.Operator.TheVariants as operator
use Rattle.kt_grammar.specs.declared.lookahead.Frame.{Frame}
use Rattle.kt_grammar.specs.declared.lookahead.Frame.TheVariants as frame
use Rattle.kt_grammar.specs.declared.lookahead.Goal.{Goal}
use Rattle.kt_grammar.specs.declared.lookahead.Goal.TheVariants as goal
use Rattle.kt_grammar.specs.declared.lookahead.Mode.{Mode}
use Rattle.kt_grammar.specs.declared.lookahead.Mode.TheVariants as mode
use Rattle.kt_grammar.specs.declared.lookahead.Place.{Place}
use Rattle.kt_grammar.specs.Lookahead as look
use Rattle.kt_grammar.specs.Lookahead.{result_follows, out_type}
use Rattle.kt_grammar.specs.Rows as rows
use Rattle.kt_grammar.specs.Rows.{Row, grammar, op, word, maybe, a_type, brackets, question_marks, dotted_names, to_type, behind_first_type}
use Rattle.kt_grammar.specs.Tokens.{is_op, is_word, is_name, is_out, class_of, begins_type, begins_type_argument}
use Rattle.kt_grammar.proofs.SingleTokens.{a_name, op_token}
use Rattle.kt_grammar.proofs.TypeRows.{out_is_name}

abbrev pub Stack : Type 0
Stack = List (Part Row Token)

abbrev pub All : Stack → List Token → Type 0
All K us = stacks.All grammar K us

-- ---- what is wanted at each state

-- the row of a type, its brackets and the test of a result's arrow: those before an arrow where no bracket is open
abbrev outer : Goal → Row
outer goal.BeforeArrow = rows.type_before_arrow
outer _ = rows.type_

abbrev outer_arrow : Goal → Test Token
outer_arrow goal.BeforeArrow = result_follows
outer_arrow _ = next (is_op operator.Arrow)

abbrev pub wanted : Goal → List Frame → Row
wanted g [] = outer g
wanted g (f ∷ fs) = rows.type_

abbrev arrow : Goal → List Frame → Test Token
arrow g [] = outer_arrow g
arrow g (f ∷ fs) = next (is_op operator.Arrow)

abbrev arguments : Part Row Token
arguments = choose (next (is_op operator.Less)) (row rows.type_arguments) nothing

-- a type argument, with a type of the row
abbrev argument_of : Row → Part Row Token
argument_of n = choose (next (is_op operator.Times)) (op operator.Times) (choose (next (is_word keyword.In)) (both (word keyword.In) (row n)) (choose out_type (both (one is_out) (row n)) (row n)))

-- behind all that is looked for
abbrev ends : Goal → Stack
ends goal.BeforeCall = row rows.call ∷ []
ends _ = []

-- behind the last `>`
abbrev pub closed : Goal → Stack
closed goal.BeforeArrow = question_marks ∷ []
closed g = ends g

abbrev angle : Goal → List Frame → Stack → Stack
angle g [] K = closed g
angle g (f ∷ fs) K = question_marks ∷ K

-- behind a whole type
abbrev pub behind : Goal → List Frame → Stack
behind g [] = ends g
behind g (frame.Angle ∷ fs) = row rows.more_type_arguments ∷ op operator.Greater ∷ angle g fs (behind g fs)
behind g (frame.Round ∷ fs) = behind_first_type (arrow g fs) (wanted g fs) ∷ question_marks ∷ behind g fs
behind g (frame.List ∷ fs) = maybe (is_op operator.Comma) (both (op operator.Comma) (row rows.types)) ∷ both (op operator.CloseRound) (to_type (wanted g fs)) ∷ question_marks ∷ behind g fs

abbrev named : Goal → List Frame → Stack
named g fs = dotted_names ∷ arguments ∷ question_marks ∷ behind g fs

abbrev in_brackets : Goal → List Frame → Part Row Token
in_brackets g fs = choose (next (is_op operator.CloseRound)) (both (op operator.CloseRound) (to_type (wanted g fs))) (both (row rows.type_) (behind_first_type (arrow g fs) (wanted g fs)))

abbrev items : Goal → List Frame → Stack
items g [] = row (outer g) ∷ ends g
items g (frame.Angle ∷ fs) = row rows.type_ ∷ behind g (frame.Angle ∷ fs)
items g (frame.Round ∷ fs) = in_brackets g fs ∷ question_marks ∷ behind g fs
items g (frame.List ∷ fs) = row rows.types ∷ both (op operator.CloseRound) (to_type (wanted g fs)) ∷ question_marks ∷ behind g fs

-- behind a comma, where the flag is set
abbrev argument : Goal → Bool → List Frame → Stack
argument g true (frame.Angle ∷ fs) = maybe begins_type_argument (both (row rows.type_argument) (row rows.more_type_arguments)) ∷ op operator.Greater ∷ angle g fs (behind g fs)
argument g _ fs = argument_of (wanted g fs) ∷ behind g fs

abbrev pub Completes : Goal → List Frame → Mode → List Token → Type 0
Completes g fs mode.Operand us = All (row rows.type_arguments ∷ angle g fs (behind g fs)) us
Completes g fs mode.Arrow us = All (to_type (wanted g fs) ∷ behind g fs) us
Completes g fs (mode.Argument close) us = All (argument g close fs) us
Completes g fs mode.Projected us = All (row (wanted g fs) ∷ behind g fs) us ⊎ All (named g fs) us
Completes g fs mode.Wanted us = All (row (wanted g fs) ∷ behind g fs) us
Completes g fs mode.Item us = All (items g fs) us
Completes g fs mode.Part us = All (one is_name ∷ named g fs) us
Completes g fs mode.Named us = All (named g fs) us
Completes g fs mode.Complete us = All (question_marks ∷ behind g fs) us
Completes g fs mode.Star us = All (behind g fs) us
Completes g fs mode.Grouped us = All (choose (arrow g fs) (to_type (wanted g fs)) nothing ∷ question_marks ∷ behind g fs) us
Completes g fs mode.Listed us = All (to_type (wanted g fs) ∷ question_marks ∷ behind g fs) us
Completes g fs mode.Closed us = All (closed g) us

-- ---- each step agrees

abbrev Owes : Goal → Step Place → List Token → Type 0
Owes g (go s) us = Completes g s.frames s.mode us
Owes g (stop b) us = ⊥

by_if : {P : Type 0} (g : Goal) (us : List Token) (b : Bool) (x y : Step Place) → (b ≡ true → Owes g x us → P) → (Owes g y us → P) → Owes g (if b then x else y) us → P
by_if g us true x y f h o = f refl o
by_if g us false x y f h o = h o

-- a `?` need not follow
no_mark : (K : Stack) (us : List Token) → All K us → All (question_marks ∷ K) us
no_mark K us k = all_done grammar k

-- behind the last `>` there may be `?` only where the type goes on
marks_closed : (g : Goal) (us : List Token) → All (closed g) us → All (question_marks ∷ ends g) us
marks_closed goal.BeforeArrow us k = k
marks_closed goal.BeforeCall us k = all_done grammar k
marks_closed goal.Anywhere us k = all_done grammar k

marks_angle : (g : Goal) (fs : List Frame) (us : List Token) → All (angle g fs (behind g fs)) us → All (question_marks ∷ behind g fs) us
marks_angle g [] us k = marks_closed g us k
marks_angle g (f ∷ fs) us k = k

comma_step : (g : Goal) (fs : List Frame) (t : Token) (us : List Token) → is_op operator.Comma t ≡ true → Owes g (look.behind_comma fs) us → All (behind g fs) (t ∷ us)
comma_step g [] t us h o = absurd o
comma_step g (frame.Angle ∷ fs) t us h o = all_row grammar (all_left grammar (all_both grammar (all_one grammar h o)))
comma_step g (frame.Round ∷ fs) t us h o = all_left grammar (all_both grammar (all_one grammar h (all_both grammar o)))
comma_step g (frame.List ∷ fs) t us h o = all_left grammar (all_both grammar (all_one grammar h o))

last_step : (g : Goal) (us : List Token) → Owes g (look.last_greater g) us → All (closed g) us
last_step goal.BeforeArrow us o = o
last_step goal.BeforeCall us o = o
last_step goal.Anywhere us o = o

close_step : (g : Goal) (fs : List Frame) (t : Token) (us : List Token) → is_op operator.Greater t ≡ true → Owes g (look.behind_greater g (frame.Angle ∷ fs)) us
    → All (op operator.Greater ∷ angle g fs (behind g fs)) (t ∷ us)
close_step g [] t us h o = all_one grammar h (last_step g us o)
close_step g (f ∷ fs) t us h o = all_one grammar h o

greater_step : (g : Goal) (fs : List Frame) (t : Token) (us : List Token) → is_op operator.Greater t ≡ true → Owes g (look.behind_greater g fs) us → All (behind g fs) (t ∷ us)
greater_step g [] t us h o = absurd o
greater_step g (frame.Angle ∷ fs) t us h o = all_row grammar (all_right grammar (all_nothing grammar (close_step g fs t us h o)))
greater_step g (frame.Round ∷ fs) t us h o = absurd o
greater_step g (frame.List ∷ fs) t us h o = absurd o

round_step : (g : Goal) (fs : List Frame) (t : Token) (us : List Token) → is_op operator.CloseRound t ≡ true → Owes g (look.behind_round fs) us → All (behind g fs) (t ∷ us)
round_step g [] t us h o = absurd o
round_step g (frame.Angle ∷ fs) t us h o = absurd o
round_step g (frame.Round ∷ fs) t us h o = all_right grammar (all_both grammar (all_one grammar h o))
round_step g (frame.List ∷ fs) t us h o = all_right grammar (all_nothing grammar (all_both grammar (all_one grammar h o)))

empty_step : (g : Goal) (fs : List Frame) (t : Token) (us : List Token) → is_op operator.CloseRound t ≡ true → Owes g (look.behind_empty fs) us → All (items g fs) (t ∷ us)
empty_step g [] t us h o = absurd o
empty_step g (frame.Angle ∷ fs) t us h o = absurd o
empty_step g (frame.Round ∷ fs) t us h o = all_left grammar (all_both grammar (all_one grammar h o))
empty_step g (frame.List ∷ fs) t us h o = all_row grammar (all_right grammar (all_nothing grammar (all_both grammar (all_one grammar h o))))

type_step : (g : Goal) (fs : List Frame) (t : Token) (us : List Token) → Owes g (look.behind_type g fs t) us → All (question_marks ∷ behind g fs) (t ∷ us)
type_step g fs t us o = by_if g us (is_op operator.Question t) (look.at fs mode.Complete) (if is_op operator.Comma t then look.behind_comma fs else
    if is_op operator.Greater t then look.behind_greater g fs else if is_op operator.CloseRound t then look.behind_round fs else look.no)
    (λ h k. all_more grammar (all_one grammar h k))
    (λ k. all_done grammar (by_if g us (is_op operator.Comma t) (look.behind_comma fs) (if is_op operator.Greater t then look.behind_greater g fs else if is_op operator.CloseRound t then look.behind_round fs else look.no)
    (λ h k. comma_step g fs t us h k)
    (λ k. by_if g us (is_op operator.Greater t) (look.behind_greater g fs) (if is_op operator.CloseRound t then look.behind_round fs else look.no)
    (λ h k. greater_step g fs t us h k)
    (λ k. by_if g us (is_op operator.CloseRound t) (look.behind_round fs) look.no (λ h k. round_step g fs t us h k) (λ k. absurd k) k) k) k)) o

end_step : (g : Goal) (fs : List Frame) (t : Token) (us : List Token) → Owes g (look.type_end g fs t) us → All (question_marks ∷ behind g fs) (t ∷ us)
end_step g [] t us o = by_if g us (look.outermost g t) (stop true) (look.behind_type g [] t) (λ h k. absurd k) (λ k. type_step g [] t us k) o
end_step g (f ∷ fs) t us o = type_step g (f ∷ fs) t us o

result_step : (g : Goal) (fs : List Frame) (t : Token) (us : List Token) → is_op operator.Arrow t ≡ true → All (row (wanted g fs) ∷ behind g fs) us
    → All (to_type (wanted g fs) ∷ question_marks ∷ behind g fs) (t ∷ us)
result_step g fs t us h k = all_both grammar (all_one grammar h (all_tail grammar (no_mark (behind g fs)) k))

group_step : (g : Goal) (fs : List Frame) (t : Token) (us : List Token) → Owes g (look.group_end g fs t) us
    → All (choose (arrow g fs) (to_type (wanted g fs)) nothing ∷ question_marks ∷ behind g fs) (t ∷ us)
group_step g [] t us o = by_if g us (look.outermost g t) (stop true) (if is_op operator.Arrow t then look.at [] mode.Wanted else look.behind_type g [] t) (λ h k. absurd k)
    (λ k. by_if g us (is_op operator.Arrow t) (look.at [] mode.Wanted) (look.behind_type g [] t) (λ h k. all_left grammar (result_step g [] t us h k)) (λ k. all_right grammar (all_nothing grammar (type_step g [] t us k))) k) o
group_step g (f ∷ fs) t us o = by_if g us (is_op operator.Arrow t) (look.at (f ∷ fs) mode.Wanted) (look.behind_type g (f ∷ fs) t)
    (λ h k. all_left grammar (result_step g (f ∷ fs) t us h k)) (λ k. all_right grammar (all_nothing grammar (type_step g (f ∷ fs) t us k))) o

-- ---- types

name_begins : (f : Test Token) (n : Row) (K : Stack) (t : Token) (us : List Token) → is_name t ≡ true → All (dotted_names ∷ choose f (row rows.type_arguments) nothing ∷ question_marks ∷ K) us → All (a_type f n ∷ K) (t ∷ us)
name_begins f n K t us h k = all_both grammar (all_right grammar (all_both grammar (all_row grammar (all_both grammar (all_one grammar h k)))))

open_begins : (f : Test Token) (n : Row) (K : Stack) (t : Token) (us : List Token) → All (row n ∷ question_marks ∷ K) (t ∷ us) → All (a_type f n ∷ K) (t ∷ us)
open_begins f n K t us k = all_both grammar (all_left grammar k)

named_step : (g : Goal) (fs : List Frame) (t : Token) (us : List Token) → is_name t ≡ true → All (named g fs) us → All (row (wanted g fs) ∷ behind g fs) (t ∷ us)
named_step goal.BeforeArrow [] t us h k = all_row grammar (name_begins (next (is_op operator.Less)) rows.bracketed_before_arrow [] t us h k)
named_step goal.BeforeCall [] t us h k = all_row grammar (name_begins (next (is_op operator.Less)) rows.bracketed_type (ends goal.BeforeCall) t us h k)
named_step goal.Anywhere [] t us h k = all_row grammar (name_begins (next (is_op operator.Less)) rows.bracketed_type [] t us h k)
named_step g (f ∷ fs) t us h k = all_row grammar (name_begins (next (is_op operator.Less)) rows.bracketed_type (behind g (f ∷ fs)) t us h k)

open_step : (g : Goal) (fs : List Frame) (t : Token) (us : List Token) → is_op operator.OpenRound t ≡ true → All (in_brackets g fs ∷ question_marks ∷ behind g fs) us → All (row (wanted g fs) ∷ behind g fs) (t ∷ us)
open_step goal.BeforeArrow [] t us h k = all_row grammar (open_begins (next (is_op operator.Less)) rows.bracketed_before_arrow [] t us (all_row grammar (all_both grammar (all_one grammar h k))))
open_step goal.BeforeCall [] t us h k = all_row grammar (open_begins (next (is_op operator.Less)) rows.bracketed_type (ends goal.BeforeCall) t us (all_row grammar (all_both grammar (all_one grammar h k))))
open_step goal.Anywhere [] t us h k = all_row grammar (open_begins (next (is_op operator.Less)) rows.bracketed_type [] t us (all_row grammar (all_both grammar (all_one grammar h k))))
open_step g (f ∷ fs) t us h k = all_row grammar (open_begins (next (is_op operator.Less)) rows.bracketed_type (behind g (f ∷ fs)) t us (all_row grammar (all_both grammar (all_one grammar h k))))

start_step : (g : Goal) (fs : List Frame) (t : Token) (us : List Token) → Owes g (look.type_start fs t) us → All (row (wanted g fs) ∷ behind g fs) (t ∷ us)
start_step g fs t us o = by_if g us (is_name t) (look.at fs mode.Named) (if is_op operator.OpenRound t then look.at (frame.Round ∷ fs) mode.Item else look.no)
    (λ h k. named_step g fs t us h k)
    (λ k. by_if g us (is_op operator.OpenRound t) (look.at (frame.Round ∷ fs) mode.Item) look.no (λ h k. open_step g fs t us h k) (λ k. absurd k) k) o

items_start : (g : Goal) (fs : List Frame) (t : Token) (us : List Token) → All (row (wanted g fs) ∷ behind g fs) (t ∷ us) → All (items g fs) (t ∷ us)
items_start g [] t us k = k
items_start g (frame.Angle ∷ fs) t us k = k
items_start g (frame.Round ∷ fs) t us k = all_right grammar (all_both grammar k)
items_start g (frame.List ∷ fs) t us k = all_row grammar (all_left grammar (all_both grammar k))

item_step : (g : Goal) (fs : List Frame) (t : Token) (us : List Token) → Owes g (look.item fs t) us → All (items g fs) (t ∷ us)
item_step g fs t us o = by_if g us (is_op operator.CloseRound t) (look.behind_empty fs) (look.type_start fs t) (λ h k. empty_step g fs t us h k) (λ k. items_start g fs t us (start_step g fs t us k)) o

-- ---- names and type arguments

argument_begins : (g : Goal) (fs : List Frame) (t : Token) (us : List Token) → is_op operator.Less t ≡ true → All (argument g false (frame.Angle ∷ fs)) us → All (row rows.type_arguments ∷ angle g fs (behind g fs)) (t ∷ us)
argument_begins g fs t us h k = all_row grammar (all_both grammar (all_one grammar h (all_both grammar (all_row grammar (all_tail grammar (λ vs m. all_both grammar m) k)))))

name_step : (g : Goal) (fs : List Frame) (t : Token) (us : List Token) → Owes g (look.behind_name g fs t) us → All (named g fs) (t ∷ us)
name_step g fs t us o = by_if g us (is_op operator.Dot t) (look.at fs mode.Part) (if is_op operator.Less t then look.at (frame.Angle ∷ fs) (mode.Argument false) else look.type_end g fs t)
    (λ h k. all_more grammar (all_both grammar (all_one grammar h k)))
    (λ k. all_done grammar (by_if g us (is_op operator.Less t) (look.at (frame.Angle ∷ fs) (mode.Argument false)) (look.type_end g fs t)
    (λ h k. all_left grammar (all_tail grammar (marks_angle g fs) (argument_begins g fs t us h k)))
    (λ k. all_right grammar (all_nothing grammar (end_step g fs t us k))) k)) o

projected_step : (g : Goal) (fs : List Frame) (t : Token) (us : List Token) → is_out t ≡ true → All (row (wanted g fs) ∷ behind g fs) us ⊎ All (named g fs) us → All (argument_of (wanted g fs) ∷ behind g fs) (t ∷ us)
projected_step g fs t us h (inl k) = all_right grammar (all_right grammar (all_left grammar (all_both grammar (all_one grammar h k))))
projected_step g fs t us h (inr k) = all_right grammar (all_right grammar (all_right grammar (named_step g fs t us (out_is_name (class_of t.kind) h) k)))

argument_start_step : (g : Goal) (fs : List Frame) (t : Token) (us : List Token) → Owes g (look.argument_start fs t) us → All (argument_of (wanted g fs) ∷ behind g fs) (t ∷ us)
argument_start_step g fs t us o = by_if g us (is_op operator.Times t) (look.at fs mode.Star)
    (if is_word keyword.In t then look.at fs mode.Wanted else if is_out t then look.at fs mode.Projected else look.type_start fs t)
    (λ h k. all_left grammar (all_one grammar h k))
    (λ k. by_if g us (is_word keyword.In t) (look.at fs mode.Wanted) (if is_out t then look.at fs mode.Projected else look.type_start fs t)
    (λ h k. all_right grammar (all_left grammar (all_both grammar (all_one grammar h k))))
    (λ k. by_if g us (is_out t) (look.at fs mode.Projected) (look.type_start fs t) (λ h k. projected_step g fs t us h k)
    (λ k. all_right grammar (all_right grammar (all_right grammar (start_step g fs t us k)))) k) k) o

argument_step : (g : Goal) (close : Bool) (fs : List Frame) (t : Token) (us : List Token) → Owes g (look.behind_argument g close fs t) us → All (argument g close fs) (t ∷ us)
argument_step g false fs t us o = argument_start_step g fs t us o
argument_step g true [] t us o = by_if g us (is_op operator.Greater t) (look.behind_greater g []) (look.argument_start [] t) (λ h k. absurd k) (λ k. argument_start_step g [] t us k) o
argument_step g true (frame.Angle ∷ fs) t us o = by_if g us (is_op operator.Greater t) (look.behind_greater g (frame.Angle ∷ fs)) (look.argument_start (frame.Angle ∷ fs) t)
    (λ h k. all_right grammar (all_nothing grammar (close_step g fs t us h k)))
    (λ k. all_left grammar (all_both grammar (all_row grammar (argument_start_step g (frame.Angle ∷ fs) t us k)))) o
argument_step g true (frame.Round ∷ fs) t us o = by_if g us (is_op operator.Greater t) (look.behind_greater g (frame.Round ∷ fs)) (look.argument_start (frame.Round ∷ fs) t) (λ h k. absurd k) (λ k. argument_start_step g (frame.Round ∷ fs) t us k) o
argument_step g true (frame.List ∷ fs) t us o = by_if g us (is_op operator.Greater t) (look.behind_greater g (frame.List ∷ fs)) (look.argument_start (frame.List ∷ fs) t) (λ h k. absurd k) (λ k. argument_start_step g (frame.List ∷ fs) t us k) o

and_left : (a b : Bool) → (a && b) ≡ true → a ≡ true
and_left true b h = refl
and_left false b h = h

opened : (g : Goal) (t : Token) → look.opens g t ≡ true → is_op operator.Less t ≡ true
opened goal.BeforeCall t h = and_left (is_op operator.Less t) (not t.marked) h
opened goal.Anywhere t h = h
opened goal.BeforeArrow t h = h

operand_step : (g : Goal) (fs : List Frame) (t : Token) (us : List Token) → Owes g (look.behind_operand g fs t) us → All (row rows.type_arguments ∷ angle g fs (behind g fs)) (t ∷ us)
operand_step g fs t us o = by_if g us (look.operand_end g t) (stop true) (if look.opens g t then look.at (frame.Angle ∷ fs) (mode.Argument false) else look.no) (λ h k. absurd k)
    (λ k. by_if g us (look.opens g t) (look.at (frame.Angle ∷ fs) (mode.Argument false)) look.no (λ h k. argument_begins g fs t us (opened g t h) k) (λ k. absurd k) k) o

star_step : (g : Goal) (fs : List Frame) (t : Token) (us : List Token) → Owes g (look.behind_star g fs t) us → All (behind g fs) (t ∷ us)
star_step g fs t us o = by_if g us (is_op operator.Comma t) (look.behind_comma fs) (if is_op operator.Greater t then look.behind_greater g fs else look.no) (λ h k. comma_step g fs t us h k)
    (λ k. by_if g us (is_op operator.Greater t) (look.behind_greater g fs) look.no (λ h k. greater_step g fs t us h k) (λ k. absurd k) k) o

state_step : (g : Goal) (fs : List Frame) (m : Mode) (t : Token) (us : List Token) → Owes g (look.step_in g fs m t) us → Completes g fs m (t ∷ us)
state_step g fs mode.Operand t us o = operand_step g fs t us o
state_step g fs mode.Arrow t us o = by_if g us (is_op operator.Arrow t) (look.at fs mode.Wanted) look.no (λ h k. all_both grammar (all_one grammar h k)) (λ k. absurd k) o
state_step g fs (mode.Argument close) t us o = argument_step g close fs t us o
state_step g fs mode.Projected t us o = by_if g us (begins_type t) (look.type_start fs t) (look.behind_name g fs t) (λ h k. inl (start_step g fs t us k)) (λ k. inr (name_step g fs t us k)) o
state_step g fs mode.Wanted t us o = start_step g fs t us o
state_step g fs mode.Item t us o = item_step g fs t us o
state_step g fs mode.Part t us o = by_if g us (is_name t) (look.at fs mode.Named) look.no (λ h k. all_one grammar h k) (λ k. absurd k) o
state_step g fs mode.Named t us o = name_step g fs t us o
state_step g fs mode.Complete t us o = end_step g fs t us o
state_step g fs mode.Star t us o = star_step g fs t us o
state_step g fs mode.Grouped t us o = group_step g fs t us o
state_step g fs mode.Listed t us o = by_if g us (is_op operator.Arrow t) (look.at fs mode.Wanted) look.no (λ h k. result_step g fs t us h k) (λ k. absurd k) o
state_step g fs mode.Closed t us o = absurd o

-- ---- each state can be completed

abbrev Some : Stack → Type 0
Some K = (us : List Token) × All K us

abbrev closing : Token
closing = op_token operator.CloseRound

some_call : Some (row rows.call ∷ [])
some_call = (
  op_token operator.OpenRound ∷ closing ∷ [],
  all_row grammar (all_left grammar (all_both grammar (all_both grammar (all_one grammar refl (all_both grammar (all_row grammar (all_right grammar (all_nothing grammar
      (all_one grammar refl (all_right grammar (all_nothing grammar all_end))))))))))),
)

some_ends : (g : Goal) → Some (ends g)
some_ends goal.BeforeCall = some_call
some_ends goal.Anywhere = ([], all_end)
some_ends goal.BeforeArrow = ([], all_end)

some_closed : (g : Goal) → Some (closed g)
some_closed goal.BeforeCall = some_call
some_closed goal.Anywhere = ([], all_end)
some_closed goal.BeforeArrow = ([], all_done grammar all_end)

some_type : (g : Goal) (fs : List Frame) → Some (behind g fs) → Some (row (wanted g fs) ∷ behind g fs)
some_type g fs k = (a_name ∷ k.0, named_step g fs a_name k.0 refl (all_done grammar (all_right grammar (all_nothing grammar (all_done grammar k.1)))))

some_result : (g : Goal) (fs : List Frame) → Some (behind g fs) → Some (to_type (wanted g fs) ∷ question_marks ∷ behind g fs)
some_result g fs k = let m = some_type g fs k in (op_token operator.Arrow ∷ m.0, result_step g fs (op_token operator.Arrow) m.0 refl m.1)

some_angle : (g : Goal) (fs : List Frame) → Some (behind g fs) → Some (angle g fs (behind g fs))
some_angle g [] k = some_closed g
some_angle g (f ∷ fs) k = (k.0, all_done grammar k.1)

some_behind : (g : Goal) (fs : List Frame) → Some (behind g fs)
some_behind g [] = some_ends g
some_behind g (frame.Angle ∷ fs) = let k = some_angle g fs (some_behind g fs) in (op_token operator.Greater ∷ k.0, all_row grammar (all_right grammar (all_nothing grammar (all_one grammar refl k.1))))
some_behind g (frame.Round ∷ fs) = let k = some_behind g fs in (closing ∷ k.0, all_right grammar (all_both grammar (all_one grammar refl (all_right grammar (all_nothing grammar (all_done grammar k.1))))))
some_behind g (frame.List ∷ fs) = let k = some_result g fs (some_behind g fs) in (closing ∷ k.0, all_right grammar (all_nothing grammar (all_both grammar (all_one grammar refl k.1))))

some_argument : (g : Goal) (fs : List Frame) → Some (argument_of (wanted g fs) ∷ behind g fs)
some_argument g fs = let k = some_behind g fs in (op_token operator.Times ∷ k.0, all_left grammar (all_one grammar refl k.1))

some_arguments : (g : Goal) (close : Bool) (fs : List Frame) → Some (argument g close fs)
some_arguments g false fs = some_argument g fs
some_arguments g true [] = some_argument g []
some_arguments g true (frame.Angle ∷ fs) = let k = some_angle g fs (some_behind g fs) in (op_token operator.Greater ∷ k.0, all_right grammar (all_nothing grammar (all_one grammar refl k.1)))
some_arguments g true (frame.Round ∷ fs) = some_argument g (frame.Round ∷ fs)
some_arguments g true (frame.List ∷ fs) = some_argument g (frame.List ∷ fs)

some_named : (g : Goal) (fs : List Frame) → Some (named g fs)
some_named g fs = let k = some_behind g fs in (k.0, all_done grammar (all_right grammar (all_nothing grammar (all_done grammar k.1))))

items_type : (g : Goal) (fs : List Frame) → Some (row (wanted g fs) ∷ behind g fs) → Some (items g fs)
items_type g [] k = k
items_type g (frame.Angle ∷ fs) k = k
items_type g (frame.Round ∷ fs) k = (k.0, all_right grammar (all_both grammar k.1))
items_type g (frame.List ∷ fs) k = (k.0, all_row grammar (all_left grammar (all_both grammar k.1)))

pub some_state : (g : Goal) (fs : List Frame) (m : Mode) → (us : List Token) × Completes g fs m us
some_state g fs mode.Operand = let k = some_argument g (frame.Angle ∷ fs) in (op_token operator.Less ∷ k.0, argument_begins g fs (op_token operator.Less) k.0 refl k.1)
some_state g fs mode.Arrow = let k = some_type g fs (some_behind g fs) in (op_token operator.Arrow ∷ k.0, all_both grammar (all_one grammar refl k.1))
some_state g fs (mode.Argument close) = some_arguments g close fs
some_state g fs mode.Projected = let k = some_named g fs in (k.0, inr k.1)
some_state g fs mode.Wanted = some_type g fs (some_behind g fs)
some_state g fs mode.Item = items_type g fs (some_type g fs (some_behind g fs))
some_state g fs mode.Part = let k = some_named g fs in (a_name ∷ k.0, all_one grammar refl k.1)
some_state g fs mode.Named = some_named g fs
some_state g fs mode.Complete = let k = some_behind g fs in (k.0, all_done grammar k.1)
some_state g fs mode.Star = some_behind g fs
some_state g fs mode.Grouped = let k = some_behind g fs in (k.0, all_right grammar (all_nothing grammar (all_done grammar k.1)))
some_state g fs mode.Listed = some_result g fs (some_behind g fs)
some_state g fs mode.Closed = some_closed g

-- ---- so what a scan has gone over can be completed

abbrev pub Completed : Goal → Place → List Token → Type 0
Completed g s us = Completes g s.frames s.mode us

pub place_step : (g : Goal) (s s' : Place) (t : Token) (us : List Token) → look.step g s t ≡ go s' → Completed g s' us → Completed g s (t ∷ us)
place_step g s s' t us e k = state_step g s.frames s.mode t us (subst (λ m. Owes g m us) (sym e) k)

pub scanned : (g : Goal) (s : Place) (ts : List Token) → GoneOver (look.step g) (look.at_end g) (Completed g) (λ p. some_state g p.frames p.mode) (place_step g) ts s
scanned g s ts = gone_over (look.step g) (look.at_end g) (Completed g) (λ p. some_state g p.frames p.mode) (place_step g) ts s
