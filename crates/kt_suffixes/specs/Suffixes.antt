-- What follows an operand at each place, and where type arguments end.
use Rattle.std.specs.Prelude.{◌≡◌, ℕ, suc, ◌+◌, ◌<◌, false, List, ◌∷◌, drop, length, get_or, ⊤}
use Rattle.grammars.specs.Automata.{accepts, goes}
use Rattle.kt_lexer.specs.declared.token.Token.{Token}
use Rattle.kt_grammar.specs.Lookahead.{step, at_end, suffix_follows}
use Rattle.kt_grammar.specs.declared.lookahead.Frame.{Frame}
use Rattle.kt_grammar.specs.declared.lookahead.Frame.TheVariants as frame
use Rattle.kt_grammar.specs.declared.lookahead.Goal.TheVariants as goal
use Rattle.kt_grammar.specs.declared.lookahead.Look.{Look}
use Rattle.kt_grammar.specs.declared.lookahead.Mode.TheVariants as mode
use Rattle.kt_grammar.specs.declared.lookahead.Place.{Place}
use Rattle.kt_suffixes.specs.declared.moves.Ending.{Ending}
use Rattle.kt_suffixes.specs.declared.moves.Ending.TheVariants as ending
use Rattle.kt_suffixes.specs.Moves.{behind}

-- what the scan says from a place on, and the place of the token at which it stops, or the number of tokens
abbrev pub look_from : List Token → ℕ → Place → Look
look_from ts at p = record {
  holds = accepts (step goal.BeforeCall) (at_end goal.BeforeCall) (drop at ts) p;
  end = at + goes (step goal.BeforeCall) (at_end goal.BeforeCall) (drop at ts) p;
}

-- behind `<`, with the brackets around it
abbrev pub opened : List Frame → Place
opened fs = record { frames = frame.Angle ∷ fs; mode = mode.Argument false }

-- What is known of the `<` at a place holds whatever brackets are open around it.
abbrev pub IsEnding : List Token → ℕ → Ending → Type 0
IsEnding ts at ending.Unknown = ⊤
IsEnding ts at (ending.Fails end) = (fs : List Frame) → look_from ts (suc at) (opened fs) ≡ record { holds = false; end = end }
IsEnding ts at (ending.Closes end) = (fs : List Frame) → look_from ts (suc at) (opened fs) ≡ look_from ts end (record { frames = fs; mode = behind fs })

abbrev pub AreEndings : List Token → List Ending → Type 0
AreEndings ts es = (at : ℕ) → IsEnding ts at (get_or es at ending.Unknown)

-- whether a suffix follows an operand that ends before a place, and how far the test looks
abbrev pub suffix : List Token → ℕ → Look
suffix ts at = record { holds = suffix_follows.holds (drop at ts); end = at + suffix_follows.far (drop at ts) }

-- the answers at all places
pub record IsTable (ts : List Token) (looks : List Look) : Type 0 where
  pub count : length looks ≡ length ts
  pub entries : (at : ℕ) (d : Look) → at < length ts → get_or looks at d ≡ suffix ts at
