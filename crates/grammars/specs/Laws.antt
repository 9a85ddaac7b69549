-- What holds in every grammar.
use Rattle.std.specs.Prelude.{◌≡◌, ◌<◌, Bool, false, List, [], ◌++◌, length, ◌⊎◌}
use Rattle.grammars.specs.Grammar.{Part, row, Cst, first, Derives, Reads, Settled, Stuck}
use Rattle.grammars.specs.Tables.{is_empty, IsEmptyTable}
use Rattle.grammars.specs.Fair.{IsFair}
use Rattle.grammars.specs.Order.{Prefers, IsFault}

-- ---- readings

-- a reading is a derivation
abbrev pub ReadingDerives : Type 0 → Type 0 → Type 0
ReadingDerives R A = (G : R → Part R A) (a : Part R A) (ts r : List A) (x : Cst A) → Reads G a ts x r → Derives G a ts x r

-- from one list a part has one reading at most
abbrev pub OneReading : Type 0 → Type 0 → Type 0
OneReading R A = (G : R → Part R A) (a : Part R A) (ts r s : List A) (x y : Cst A) → Reads G a ts x r → Reads G a ts y s → (x ≡ y) × (r ≡ s)

-- a derivation stays one with more tokens behind it
abbrev pub MoreMayFollow : Type 0 → Type 0 → Type 0
MoreMayFollow R A = (G : R → Part R A) (a : Part R A) (ts r s : List A) (x : Cst A) → Derives G a ts x r → Derives G a (ts ++ s) x (r ++ s)

-- the same is read where, from a place on, tokens differ that no test has looked at
abbrev pub ReadAlike : Type 0 → Type 0 → Type 0
ReadAlike R A = (G : R → Part R A) (a : Part R A) (ts r back q s : List A) (x : Cst A) (d : Reads G a ts x r)
    → r ≡ back ++ q → Settled (length q) d → first q ≡ first s → (before : List A) × (ts ≡ before ++ q) × Reads G a (before ++ s) x (back ++ s)

-- a part that can't be empty takes a token
abbrev pub Progress : Type 0 → Type 0 → Type 0
Progress R A = (G : R → Part R A) (empty : R → Bool) (a : Part R A) (ts r : List A) (x : Cst A)
    → IsEmptyTable G empty → is_empty empty a ≡ false → Derives G a ts x r → length r < length ts

-- nothing is read where the part is stuck
abbrev pub NotReadWhereStuck : Type 0 → Type 0 → Type 0
NotReadWhereStuck R A = (G : R → Part R A) (a : Part R A) (ts r rest : List A) (x : Cst A) → Reads G a ts x r → Stuck G a ts rest → ⊥

-- ---- whole lists, in a fair grammar

-- a whole list with a derivation has a reading
abbrev pub WholeIsRead : Type 0 → Type 0 → Type 0
WholeIsRead R A = (G : R → Part R A) (empty : R → Bool) (n : R) (ts : List A) (x : Cst A)
    → IsFair G empty → Derives G (row n) ts x [] → (y : Cst A) × Reads G (row n) ts y []

-- the reading comes before each other derivation of tokens with which the list begins
abbrev pub ReadingIsPreferred : Type 0 → Type 0 → Type 0
ReadingIsPreferred R A = (G : R → Part R A) (empty : R → Bool) (n : R) (ts r s : List A) (x y : Cst A)
    → IsFair G empty → Reads G (row n) ts x r → Derives G (row n) ts y s → (x ≡ y) ⊎ Prefers x y

-- where a row is stuck, the list has its fault
abbrev pub StuckIsFault : Type 0 → Type 0 → Type 0
StuckIsFault R A = (G : R → Part R A) (empty : R → Bool) (n : R) (ts rest : List A) → IsFair G empty → Stuck G (row n) ts rest → IsFault G (row n) ts rest

-- ---- faults and the order

-- a list has one fault at most
abbrev pub OneFault : Type 0 → Type 0 → Type 0
OneFault R A = (G : R → Part R A) (a : Part R A) (ts r s : List A) → IsFault G a ts r → IsFault G a ts s → r ≡ s

-- no list has a derivation and a fault
abbrev pub DerivedOrFault : Type 0 → Type 0 → Type 0
DerivedOrFault R A = (G : R → Part R A) (a : Part R A) (ts rest : List A) (x : Cst A) → Derives G a ts x [] → IsFault G a ts rest → ⊥

-- of two derivations one alone comes before the other, and none before itself
abbrev pub OneWay : Type 0 → Type 0
OneWay A = (x y : Cst A) → Prefers x y → ((Prefers y x → ⊥) × (x ≡ y → ⊥))
