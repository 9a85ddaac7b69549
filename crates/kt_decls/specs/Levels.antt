-- How deep tokens are nested. Lists of tokens have the last token first here.
use Rattle.std.specs.Prelude.{ℕ, ◌+◌, ◌==◌, ◌<◌, ◌≤◌, ◌≡◌, List, [], ◌∷◌, length, take, reverse, Bool, true, false, if◌then◌else◌, Option, Some, None}
use Rattle.kt_lexer.specs.declared.token.Token.{Token}
use Rattle.kt_decls.specs.declared.kinds.Bracket.{Bracket}
use Rattle.kt_decls.specs.declared.levels.TooDeep.{TooDeep}
use Rattle.kt_decls.specs.Kinds.{is_same, opens, closes, ends_operand, joins, counts, separates}

-- ---- places

-- a bracket that is open, and how many tokens there are up to it
pub record Opening : Type 0 where
  pub start : ℕ
  pub bracket : Bracket

abbrev pub without : Bracket → List Opening → List Opening
without b [] = []
without b (o ∷ os) = if is_same b o.bracket then os else o ∷ os

abbrev pub changed : Option Bracket → Option Bracket → ℕ → List Opening → List Opening
changed (Some b) closing n os = record { start = n; bracket = b } ∷ os
changed None (Some b) n os = without b os
changed None None n os = os

-- the brackets that are open behind these tokens, the innermost one first
abbrev pub opened : List Token → List Opening
opened [] = []
opened (t ∷ ts) = changed (opens t.kind) (closes t.kind) (length ts + 1) (opened ts)

-- A place is told by the number of tokens up to its bracket; what stands outside of all brackets is the place 0.
abbrev pub innermost : List Opening → ℕ
innermost [] = 0
innermost (o ∷ os) = o.start

-- where the token behind these stands
abbrev pub place_behind : List Token → ℕ
place_behind ts = innermost (opened ts)

-- ---- levels

abbrev pub said_by : (Token → Bool) → List Token → Bool
said_by f [] = false
said_by f (t ∷ ts) = f t

abbrev pub count_of : Bool → ℕ
count_of true = 1
count_of false = 0

-- of the tokens that stand directly in a place, how many count from the last separator there on
abbrev pub count_in : ℕ → List Token → ℕ
count_in place [] = 0
count_in place (t ∷ ts) =
    if place_behind ts == place
    then count_of (counts (said_by ends_operand ts) t.kind) + (if separates (said_by (λ t. joins t.kind) ts) t then 0 else count_in place ts)
    else count_in place ts

abbrev pub count_all : List Token → List Opening → ℕ
count_all ts [] = count_in 0 ts
count_all ts (o ∷ os) = count_in o.start ts + count_all ts os

-- the level of the last token: the sum over all places that are open there
abbrev pub level : List Token → ℕ
level ts = count_all ts (opened ts)

-- ---- the first token that is too deep

abbrev pub level_at : List Token → ℕ → ℕ
level_at ts at = level (reverse (take (at + 1) ts))

abbrev pub NoneDeep : List Token → ℕ → ℕ → Type 0
NoneDeep ts most end = (at : ℕ) → at < end → level_at ts at ≤ most

pub record FirstDeep (ts : List Token) (most : ℕ) (found : TooDeep) : Type 0 where
  pub within : found.at < length ts
  pub none : NoneDeep ts most found.at
  pub exact : found.level ≡ level_at ts found.at
  pub deep : most < found.level

abbrev pub IsFirstDeep : List Token → ℕ → Option TooDeep → Type 0
IsFirstDeep ts most (Some found) = FirstDeep ts most found
IsFirstDeep ts most None = NoneDeep ts most (length ts)
