-- A step over the tokens that jumps over type arguments whose end is known.
use Rattle.std.specs.Prelude.{ℕ, suc, nat_lt, false, if◌then◌else◌, List, [], ◌∷◌, get_or}
use Rattle.grammars.specs.Automata.{Step, go, stop}
use Rattle.kt_lexer.specs.declared.token.Token.{Token}
use Rattle.kt_grammar.specs.Lookahead.{step}
use Rattle.kt_grammar.specs.declared.lookahead.Frame.{Frame}
use Rattle.kt_grammar.specs.declared.lookahead.Frame.TheVariants as frame
use Rattle.kt_grammar.specs.declared.lookahead.Goal.TheVariants as goal
use Rattle.kt_grammar.specs.declared.lookahead.Mode.{Mode}
use Rattle.kt_grammar.specs.declared.lookahead.Mode.TheVariants as mode
use Rattle.kt_grammar.specs.declared.lookahead.Place.{Place}
use Rattle.kt_suffixes.specs.declared.moves.Ending.{Ending}
use Rattle.kt_suffixes.specs.declared.moves.Ending.TheVariants as ending
use Rattle.kt_suffixes.specs.declared.moves.Move.{Move}
use Rattle.kt_suffixes.specs.declared.moves.Move.TheVariants as move

abbrev pub failed : ℕ → Move
failed end = move.Stop (record { holds = false; end = end })

abbrev pub to : List Frame → Mode → ℕ → Move
to fs m next = move.To (record { frames = fs; mode = m }) next

abbrev pub enter : List Frame → Frame → ℕ → Move
enter fs f next = to (f ∷ fs) (mode.Argument false) next

-- the mode behind type arguments that are closed, by the brackets around them
abbrev pub behind : List Frame → Mode
behind [] = mode.Closed
behind (f ∷ fs) = mode.Complete

abbrev pub closed : List Frame → ℕ → Move
closed fs next = to fs (behind fs) next

-- behind `<`
abbrev pub skip : List Frame → Ending → ℕ → Move
skip fs ending.Unknown next = enter fs frame.Angle next
skip fs (ending.Fails end) next = failed end
skip fs (ending.Closes end) next = if nat_lt next end then closed fs end else enter fs frame.Angle next

abbrev pub over : List Frame → Ending → ℕ → Move
over [] e next = to [] (mode.Argument false) next
over (frame.Angle ∷ fs) e next = skip fs e next
over (frame.Round ∷ fs) e next = enter fs frame.Round next
over (frame.List ∷ fs) e next = enter fs frame.List next

abbrev pub jump_in : List Frame → Mode → Ending → ℕ → Move
jump_in fs (mode.Argument false) e next = over fs e next
jump_in fs m e next = to fs m next

abbrev pub jump : Place → Ending → ℕ → Move
jump p e next = jump_in p.frames p.mode e next

abbrev pub after : Step Place → Ending → ℕ → ℕ → Move
after (go p) e at next = jump p e next
after (stop b) e at next = move.Stop (record { holds = b; end = at })

abbrev pub pass : List Ending → Place → Token → ℕ → ℕ → Move
pass es p t at next = after (step goal.BeforeCall p t) (get_or es at ending.Unknown) at next

abbrev pub advance : List Ending → Place → ℕ → List Token → Move
advance es p at [] = failed at
advance es p at (t ∷ ts) = pass es p t at (suc at)
