-- Modifiers of parameters.
use Rattle.std.specs.Prelude.{◌≡◌, ℕ, Bool, true, false, ◌||◌, List, [], ◌∷◌, Option, Some, None, Result, Ok, Err}
use Rattle.grammars.specs.Grammar.{one, Cst, leaf, test}
use Rattle.kc_text.specs.declared.errors.Fail.{Fail}
use Rattle.kc_tree.specs.declared.types.Mod.{Mod}
use Rattle.kt_lexer.specs.declared.token.Token.{Token}
use Rattle.kt_grammar.specs.declared.cursor.Cursor.{Cursor}
use Rattle.kt_grammar.specs.DeclarationsBuilt as built
use Rattle.kt_grammar.specs.Parsed.{Taken, Halts}
use Rattle.kt_grammar.specs.Tokens.{is_modifier, is_local, begins_parameter}

-- what stands behind a modifier: a further one, the parameter's name, `val` or `var`
abbrev pub goes_on : Token → Bool
goes_on t = begins_parameter t || is_local t

-- the modifier that a token is
abbrev pub ModifierAt : Option Token → Option Mod → Type 0
ModifierAt o None = test is_modifier o ≡ false
ModifierAt None (Some m) = ⊥
ModifierAt (Some t) (Some m) = (is_modifier t ≡ true) × (m ≡ built.mod_of t)

-- a modifier, from one place to the next
pub record ModifierMoved (ts : List Token) (start end : Cursor) (m : Mod) : Type 0 where
  pub taken : Taken is_modifier ts start.at end.at
  pub so_far : end.looked ≡ start.looked
  pub same : m ≡ built.mod_of taken.token

abbrev pub ExpectsModifier : List Token → Cursor → Result (Mod × Cursor) (Fail ℕ) → Type 0
ExpectsModifier ts start (Ok p) = ModifierMoved ts start p.1 p.0
ExpectsModifier ts start (Err e) = Halts (one is_modifier) ts start e

abbrev pub modifier_of : Cst Token → List Mod
modifier_of (leaf t) = built.mod_of t ∷ []
modifier_of _ = []
