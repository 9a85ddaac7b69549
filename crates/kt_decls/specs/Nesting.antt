-- The counts of all open places, as a scan over the tokens carries them.
use Rattle.std.specs.Prelude.{ℕ, ◌+◌, ◌-◌, ◌≡◌, List, [], ◌∷◌, Bool, false, if◌then◌else◌, Option, Some, None, reverse}
use Rattle.kt_lexer.specs.declared.token.Token.{Token}
use Rattle.kt_decls.specs.declared.kinds.Bracket.{Bracket}
use Rattle.kt_decls.specs.declared.levels.Place.{Place}
use Rattle.kt_decls.specs.declared.levels.Nesting.{Nesting}
use Rattle.kt_decls.specs.Kinds.{is_same, opens, closes, ends_operand, joins, counts, separates}
use Rattle.kt_decls.specs.Levels.{Opening, opened, said_by, count_of, count_in, level}

-- the places from the innermost one on
pub record State : Type 0 where
  pub places : List Place
  pub level : ℕ
  pub operand : Bool
  pub joined : Bool

abbrev pub state_of : Nesting → State
state_of n = record { places = n.inner ∷ reverse n.outer.items; level = n.level; operand = n.operand; joined = n.joined }

abbrev pub count_after : Bool → Bool → Token → ℕ → ℕ
count_after operand joined t count = count_of (counts operand t.kind) + (if separates joined t then 0 else count)

abbrev pub top_count : List Place → ℕ
top_count [] = 0
top_count (p ∷ ps) = p.count

abbrev pub recounted : ℕ → List Place → List Place
recounted n [] = []
recounted n (p ∷ ps) = record p { count = n } ∷ ps

abbrev pub counted : Token → State → State
counted t s =
    let n = count_after s.operand s.joined t (top_count s.places) in
    record s { places = recounted n s.places; level = s.level - top_count s.places + n }

abbrev pub entered : Bracket → State → State
entered b s = record s { places = record { bracket = Some b; count = 0 } ∷ s.places }

abbrev pub is_in : Bracket → Option Bracket → Bool
is_in b None = false
is_in b (Some c) = is_same b c

abbrev pub is_left : Bracket → List Place → Bool
is_left b [] = false
is_left b (p ∷ []) = false
is_left b (p ∷ q ∷ ps) = is_in b p.bracket

abbrev pub outer_places : List Place → List Place
outer_places [] = []
outer_places (p ∷ ps) = ps

abbrev pub left : Bracket → State → State
left b s = if is_left b s.places then record s { places = outer_places s.places; level = s.level - top_count s.places } else s

abbrev pub moved : Option Bracket → Option Bracket → State → State
moved (Some b) closing s = entered b s
moved None (Some b) s = left b s
moved None None s = s

abbrev pub passed : Token → State → State
passed t s = record (moved (opens t.kind) (closes t.kind) (counted t s)) { operand = ends_operand t; joined = joins t.kind }

-- ---- what is carried is what the definition says of the tokens so far, the last one first

abbrev pub places_of : List Token → List Opening → List Place
places_of ts [] = record { bracket = None; count = count_in 0 ts } ∷ []
places_of ts (o ∷ os) = record { bracket = Some o.bracket; count = count_in o.start ts } ∷ places_of ts os

pub record Stands (ts : List Token) (s : State) : Type 0 where
  pub places : s.places ≡ places_of ts (opened ts)
  pub level : s.level ≡ level ts
  pub operand : s.operand ≡ said_by ends_operand ts
  pub joined : s.joined ≡ said_by (λ t. joins t.kind) ts
