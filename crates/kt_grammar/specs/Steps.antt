-- The steps of the code that looks ahead.
use Rattle.std.specs.Prelude.{◌≡◌, ℕ, ◌+◌, List, [], drop}
use Rattle.grammars.specs.Automata.{Step, go, stop, accepts, goes}
use Rattle.kt_lexer.specs.declared.token.Token.{Token}
use Rattle.kt_grammar.specs.declared.lookahead.Next.{Next}
use Rattle.kt_grammar.specs.declared.lookahead.Next.TheVariants as next_of
use Rattle.kt_grammar.specs.declared.lookahead.Place.{Place}
use Rattle.kt_grammar.specs.declared.lookahead.Goal.{Goal}
use Rattle.kt_grammar.specs.declared.lookahead.Mode.{Mode}
use Rattle.kt_grammar.specs.declared.lookahead.Look.{Look}
use Rattle.kt_grammar.specs.Lookahead.{step, at_end}

abbrev pub as_step : Next → Step Place
as_step (next_of.Go p) = go p
as_step (next_of.Stop b) = stop b

-- what a scan says from a place on, and the place of the token at which it stops, or the number of tokens
pub record Looks (goal : Goal) (mode : Mode) (ts : List Token) (start : ℕ) (look : Look) : Type 0 where
  pub holds : look.holds ≡ accepts (step goal) (at_end goal) (drop start ts) (record { frames = []; mode = mode })
  pub end : look.end ≡ start + goes (step goal) (at_end goal) (drop start ts) (record { frames = []; mode = mode })
