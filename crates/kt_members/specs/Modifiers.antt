-- Modifiers of members.
use Rattle.std.specs.Prelude.{◌≡◌, true, false, List, drop, Option, Some, None}
use Rattle.grammars.specs.Grammar.{first, test}
use Rattle.kc_tree.specs.declared.types.Mod.{Mod}
use Rattle.kt_lexer.specs.declared.token.Token.{Token}
use Rattle.kt_grammar.specs.declared.cursor.Cursor.{Cursor}
use Rattle.kt_grammar.specs.DeclarationsBuilt as built
use Rattle.kt_grammar.specs.Parsed.{Taken}
use Rattle.kt_grammar.specs.Tokens.{is_modifier}

-- the modifier that a token is
abbrev pub ModifierAt : Option Token → Option Mod → Type 0
ModifierAt o None = test is_modifier o ≡ false
ModifierAt None (Some m) = ⊥
ModifierAt (Some t) (Some m) = (is_modifier t ≡ true) × (m ≡ built.mod_of t)

-- a modifier, from one place to the next
pub record ModifierMoved (ts : List Token) (start end : Cursor) (m : Mod) : Type 0 where
  pub taken : Taken is_modifier ts start.at end.at
  pub so_far : end.looked ≡ start.looked
  pub same : m ≡ built.mod_of taken.token

abbrev pub EatsModifier : List Token → Cursor → Option (Mod × Cursor) → Type 0
EatsModifier ts start (Some p) = ModifierMoved ts start p.1 p.0
EatsModifier ts start None = test is_modifier (first (drop start.at ts)) ≡ false
