-- A step inside `<` does the same whatever brackets are open around it.
use Rattle.std.proofs.Common.{◌≡◌, Bool, true, false, ◌&&◌, if◌then◌else◌, List, [], ◌∷◌, ◌++◌, refl}
use Rattle.grammars.specs.Automata.{Step, stop}
use Rattle.kt_lexer.specs.declared.token.Token.{Token}
use Rattle.kt_lexer.specs.declared.token.Keyword.TheVariants as keyword
use Rattle.kt_lexer.specs.declared.token.Operator.TheVariants as operator
use Rattle.kt_grammar.specs.Lookahead.{at, no, behind_comma, behind_greater, behind_round, behind_empty, behind_type, type_end, group_end, type_start, argument_start, behind_name, behind_argument, projected, item, behind_star, go_if, step_in}
use Rattle.kt_grammar.specs.Tokens.{is_op, is_word, is_name, is_out, begins_type}
use Rattle.kt_grammar.specs.declared.lookahead.Frame.{Frame}
use Rattle.kt_grammar.specs.declared.lookahead.Frame.TheVariants as frame
use Rattle.kt_grammar.specs.declared.lookahead.Goal.TheVariants as goal
use Rattle.kt_grammar.specs.declared.lookahead.Mode.{Mode}
use Rattle.kt_grammar.specs.declared.lookahead.Mode.TheVariants as mode
use Rattle.kt_grammar.specs.declared.lookahead.Place.{Place}
use Rattle.kt_suffixes.specs.Moves.{behind}

-- the modes in which a bracket is open, or a test has not found what it looks for
abbrev pub is_inner : Mode → Bool
is_inner mode.Operand = false
is_inner mode.Closed = false
is_inner _ = true

-- What steps with any brackets `fs` around the last `<` do, by what the step does with none around it.
pub data Within (k : List Frame → Step Place) (s : Step Place) : Type 0 where
  goes_on : (us : List Frame) (m : Mode) → is_inner m ≡ true → s ≡ at (us ++ frame.Angle ∷ []) m → ((fs : List Frame) → k fs ≡ at (us ++ frame.Angle ∷ fs) m) → Within k s
  closes : s ≡ at [] mode.Closed → ((fs : List Frame) → k fs ≡ at fs (behind fs)) → Within k s
  fails : s ≡ stop false → ((fs : List Frame) → k fs ≡ stop false) → Within k s

at_within : (us : List Frame) (m : Mode) → is_inner m ≡ true → Within (λ fs. at (us ++ frame.Angle ∷ fs) m) (at (us ++ frame.Angle ∷ []) m)
at_within us m i = goes_on us m i refl (λ fs. refl)

no_within : Within (λ fs. no) no
no_within = fails refl (λ fs. refl)

if_within : {k l : List Frame → Step Place} {s r : Step Place} (b : Bool) → Within k s → Within l r → Within (λ fs. if b then k fs else l fs) (if b then s else r)
if_within true x y = x
if_within false x y = y

comma_within : (us : List Frame) → Within (λ fs. behind_comma (us ++ frame.Angle ∷ fs)) (behind_comma (us ++ frame.Angle ∷ []))
comma_within [] = at_within [] (mode.Argument true) refl
comma_within (frame.Angle ∷ us) = at_within (frame.Angle ∷ us) (mode.Argument true) refl
comma_within (frame.Round ∷ us) = at_within (frame.List ∷ us) mode.Item refl
comma_within (frame.List ∷ us) = at_within (frame.List ∷ us) mode.Item refl

last_greater_within : (fs : List Frame) → behind_greater goal.BeforeCall (frame.Angle ∷ fs) ≡ at fs (behind fs)
last_greater_within [] = refl
last_greater_within (f ∷ fs) = refl

greater_within : (us : List Frame) → Within (λ fs. behind_greater goal.BeforeCall (us ++ frame.Angle ∷ fs)) (behind_greater goal.BeforeCall (us ++ frame.Angle ∷ []))
greater_within [] = closes refl (λ fs. last_greater_within fs)
greater_within (frame.Angle ∷ []) = at_within [] mode.Complete refl
greater_within (frame.Angle ∷ (u ∷ us)) = at_within (u ∷ us) mode.Complete refl
greater_within (frame.Round ∷ us) = no_within
greater_within (frame.List ∷ us) = no_within

round_within : (us : List Frame) → Within (λ fs. behind_round (us ++ frame.Angle ∷ fs)) (behind_round (us ++ frame.Angle ∷ []))
round_within [] = no_within
round_within (frame.Angle ∷ us) = no_within
round_within (frame.Round ∷ us) = at_within us mode.Grouped refl
round_within (frame.List ∷ us) = at_within us mode.Listed refl

empty_within : (us : List Frame) → Within (λ fs. behind_empty (us ++ frame.Angle ∷ fs)) (behind_empty (us ++ frame.Angle ∷ []))
empty_within [] = no_within
empty_within (frame.Angle ∷ us) = no_within
empty_within (frame.Round ∷ us) = at_within us mode.Listed refl
empty_within (frame.List ∷ us) = at_within us mode.Listed refl

type_within : (us : List Frame) (t : Token) → Within (λ fs. behind_type goal.BeforeCall (us ++ frame.Angle ∷ fs) t) (behind_type goal.BeforeCall (us ++ frame.Angle ∷ []) t)
type_within us t =
    if_within (is_op operator.Question t) (at_within us mode.Complete refl)
    (if_within (is_op operator.Comma t) (comma_within us)
    (if_within (is_op operator.Greater t) (greater_within us)
    (if_within (is_op operator.CloseRound t) (round_within us) no_within)))

end_within : (us : List Frame) (t : Token) → Within (λ fs. type_end goal.BeforeCall (us ++ frame.Angle ∷ fs) t) (type_end goal.BeforeCall (us ++ frame.Angle ∷ []) t)
end_within [] t = type_within [] t
end_within (u ∷ us) t = type_within (u ∷ us) t

group_within : (us : List Frame) (t : Token) → Within (λ fs. group_end goal.BeforeCall (us ++ frame.Angle ∷ fs) t) (group_end goal.BeforeCall (us ++ frame.Angle ∷ []) t)
group_within [] t = if_within (is_op operator.Arrow t) (at_within [] mode.Wanted refl) (type_within [] t)
group_within (u ∷ us) t = if_within (is_op operator.Arrow t) (at_within (u ∷ us) mode.Wanted refl) (type_within (u ∷ us) t)

start_within : (us : List Frame) (t : Token) → Within (λ fs. type_start (us ++ frame.Angle ∷ fs) t) (type_start (us ++ frame.Angle ∷ []) t)
start_within us t = if_within (is_name t) (at_within us mode.Named refl) (if_within (is_op operator.OpenRound t) (at_within (frame.Round ∷ us) mode.Item refl) no_within)

argument_within : (us : List Frame) (t : Token) → Within (λ fs. argument_start (us ++ frame.Angle ∷ fs) t) (argument_start (us ++ frame.Angle ∷ []) t)
argument_within us t =
    if_within (is_op operator.Times t) (at_within us mode.Star refl)
    (if_within (is_word keyword.In t) (at_within us mode.Wanted refl)
    (if_within (is_out t) (at_within us mode.Projected refl) (start_within us t)))

name_within : (us : List Frame) (t : Token) → Within (λ fs. behind_name goal.BeforeCall (us ++ frame.Angle ∷ fs) t) (behind_name goal.BeforeCall (us ++ frame.Angle ∷ []) t)
name_within us t =
    if_within (is_op operator.Dot t) (at_within us mode.Part refl)
    (if_within (is_op operator.Less t) (at_within (frame.Angle ∷ us) (mode.Argument false) refl) (end_within us t))

close_within : (close : Bool) (us : List Frame) (t : Token) → Within (λ fs. behind_argument goal.BeforeCall close (us ++ frame.Angle ∷ fs) t) (behind_argument goal.BeforeCall close (us ++ frame.Angle ∷ []) t)
close_within close us t = if_within (close && is_op operator.Greater t) (greater_within us) (argument_within us t)

projected_within : (us : List Frame) (t : Token) → Within (λ fs. projected goal.BeforeCall (us ++ frame.Angle ∷ fs) t) (projected goal.BeforeCall (us ++ frame.Angle ∷ []) t)
projected_within us t = if_within (begins_type t) (start_within us t) (name_within us t)

item_within : (us : List Frame) (t : Token) → Within (λ fs. item (us ++ frame.Angle ∷ fs) t) (item (us ++ frame.Angle ∷ []) t)
item_within us t = if_within (is_op operator.CloseRound t) (empty_within us) (start_within us t)

star_within : (us : List Frame) (t : Token) → Within (λ fs. behind_star goal.BeforeCall (us ++ frame.Angle ∷ fs) t) (behind_star goal.BeforeCall (us ++ frame.Angle ∷ []) t)
star_within us t = if_within (is_op operator.Comma t) (comma_within us) (if_within (is_op operator.Greater t) (greater_within us) no_within)

when_within : (b : Bool) (us : List Frame) (m : Mode) → is_inner m ≡ true → Within (λ fs. go_if b (us ++ frame.Angle ∷ fs) m) (go_if b (us ++ frame.Angle ∷ []) m)
when_within b us m i = if_within b (at_within us m i) no_within

pub step_within : (us : List Frame) (m : Mode) (t : Token) → is_inner m ≡ true
    → Within (λ fs. step_in goal.BeforeCall (us ++ frame.Angle ∷ fs) m t) (step_in goal.BeforeCall (us ++ frame.Angle ∷ []) m t)
step_within us mode.Operand t i = absurd (cc)
step_within us mode.Arrow t i = when_within (is_op operator.Arrow t) us mode.Wanted refl
step_within us (mode.Argument close) t i = close_within close us t
step_within us mode.Projected t i = projected_within us t
step_within us mode.Wanted t i = start_within us t
step_within us mode.Item t i = item_within us t
step_within us mode.Part t i = when_within (is_name t) us mode.Named refl
step_within us mode.Named t i = name_within us t
step_within us mode.Complete t i = end_within us t
step_within us mode.Star t i = star_within us t
step_within us mode.Grouped t i = group_within us t
step_within us mode.Listed t i = when_within (is_op operator.Arrow t) us mode.Wanted refl
step_within us mode.Closed t i = absurd (cc)
