-- What holds in every grammar with rules.
use Rattle.std.specs.Prelude.{◌≡◌, Bool, List, [], ◌⊎◌}
use Rattle.grammars.specs.Grammar.{Test, Part, row, Cst, Derives, Reads, Stuck}
use Rattle.grammars.specs.Fair.{IsFair}
use Rattle.grammars.specs.Order.{Prefers}
use Rattle.bound_grammars.specs.Obeying.{Among, Obeys, IsFaultBut}
use Rattle.bound_grammars.specs.Heeding.{Heeds, IsOrderedBut}
use Rattle.bound_grammars.specs.Clear.{IsDecidedBut, IsClearBut}
use Rattle.bound_grammars.specs.Minding.{Paired, Minds, IsFaultOf, IsFairBut}

-- a reading obeys all rules
abbrev pub ReadingObeys : Type 0 → Type 0 → Type 0
ReadingObeys R A = (G : R → Part R A) (rules : List (Test A)) (a : Part R A) (ts r : List A) (x : Cst A) → Reads G a ts x r → Obeys G (Among rules) a ts x r

-- what obeys rules is a derivation
abbrev pub ObeyingDerives : Type 0 → Type 0 → Type 0
ObeyingDerives R A = (G : R → Part R A) (rules : List (Test A)) (a : Part R A) (ts r : List A) (x : Cst A) → Obeys G (Among rules) a ts x r → Derives G a ts x r

-- what obeys rules obeys fewer, and each derivation obeys none
abbrev pub FewerRules : Type 0 → Type 0 → Type 0
FewerRules R A = (G : R → Part R A) (rules fewer : List (Test A)) (a : Part R A) (ts r : List A) (x : Cst A)
    → ((f : Test A) → Among fewer f → Among rules f) → Obeys G (Among rules) a ts x r → Obeys G (Among fewer) a ts x r

abbrev pub NoRules : Type 0 → Type 0 → Type 0
NoRules R A = (G : R → Part R A) (a : Part R A) (ts r : List A) (x : Cst A) → Derives G a ts x r → Obeys G (Among []) a ts x r

-- Where rules decide what the next token leaves open, a derivation of a whole list that obeys them is its reading, and the one
-- reading.
abbrev pub ObeyingIsRead : Type 0 → Type 0 → Type 0
ObeyingIsRead R A = (G : R → Part R A) (empty : R → Bool) (rules : List (Test A)) (n : R) (ts : List A) (x : Cst A)
    → IsClearBut G empty (Among rules) → Obeys G (Among rules) (row n) ts x [] → Reads G (row n) ts x [] × ((y : Cst A) (r : List A) → Reads G (row n) ts y r → (x ≡ y) × (r ≡ []))

-- it is the only one of the list that obeys them
abbrev pub OneObeys : Type 0 → Type 0 → Type 0
OneObeys R A = (G : R → Part R A) (empty : R → Bool) (rules : List (Test A)) (n : R) (ts : List A) (x y : Cst A)
    → IsClearBut G empty (Among rules) → Obeys G (Among rules) (row n) ts x [] → Obeys G (Among rules) (row n) ts y [] → x ≡ y

-- Where the tests that are no rules are those of the first tokens, the reading comes before each other derivation of tokens with
-- which the list begins that obeys the rules.
abbrev pub ReadingIsPreferred : Type 0 → Type 0 → Type 0
ReadingIsPreferred R A = (G : R → Part R A) (rules : List (Test A)) (n : R) (ts r s : List A) (x y : Cst A)
    → IsDecidedBut G (Among rules) → Reads G (row n) ts x r → Obeys G (Among rules) (row n) ts y s → (x ≡ y) ⊎ Prefers x y

-- where a row is stuck, no list that goes on with the token there has a derivation that obeys the rules
abbrev pub StuckIsFault : Type 0 → Type 0 → Type 0
StuckIsFault R A = (G : R → Part R A) (empty : R → Bool) (rules : List (Test A)) (n : R) (ts rest : List A)
    → IsClearBut G empty (Among rules) → Stuck G (row n) ts rest → IsFaultBut G (Among rules) (row n) ts rest

-- Where a part that a test takes has a token, and the tests that are of neither kind are those of the first tokens, the reading comes
-- before each other derivation of tokens with which the list begins that heeds the tests of both kinds.
abbrev pub ReadingIsFirst : Type 0 → Type 0 → Type 0
ReadingIsFirst R A = (G : R → Part R A) (empty : R → Bool) (taken strict : List (Test A)) (n : R) (ts r s : List A) (x y : Cst A)
    → IsOrderedBut G empty (Among taken) (Among strict) → Reads G (row n) ts x r → Heeds G (Among taken) (Among strict) (row n) ts y s → (x ≡ y) ⊎ Prefers x y

-- ---- turns that can be taken within or without

-- what minds rules is a derivation
abbrev pub MindingDerives : Type 0 → Type 0 → Type 0
MindingDerives R A = (G : R → Part R A) (only : List (Test A × (List A → Bool))) (due : List (Test A)) (a : Part R A) (ts r : List A) (x : Cst A)
    → Minds G (Paired only) (Among due) a ts x r → Derives G a ts x r

-- each derivation minds no rules
abbrev pub NoneMinded : Type 0 → Type 0 → Type 0
NoneMinded R A = (G : R → Part R A) (a : Part R A) (ts r : List A) (x : Cst A) → Derives G a ts x r → Minds G (Paired []) (Among []) a ts x r

-- a fair grammar is fair with no rules
abbrev pub FairWithNone : Type 0 → Type 0 → Type 0
FairWithNone R A = (G : R → Part R A) (empty : R → Bool) → IsFair G empty → IsFairBut G (Paired []) (Among []) empty

-- In a grammar that is fair but for its rules a whole list with a derivation that minds them has a reading.
abbrev pub MindingIsRead : Type 0 → Type 0 → Type 0
MindingIsRead R A = (G : R → Part R A) (empty : R → Bool) (only : List (Test A × (List A → Bool))) (due : List (Test A)) (n : R) (ts : List A) (x : Cst A)
    → IsFairBut G (Paired only) (Among due) empty → Minds G (Paired only) (Among due) (row n) ts x [] → (y : Cst A) × Reads G (row n) ts y []

-- in such a grammar, where a row is stuck, no list that goes on with the token there has a derivation that minds the rules
abbrev pub StuckIsNotMinded : Type 0 → Type 0 → Type 0
StuckIsNotMinded R A = (G : R → Part R A) (empty : R → Bool) (only : List (Test A × (List A → Bool))) (due : List (Test A)) (n : R) (ts rest : List A)
    → IsFairBut G (Paired only) (Among due) empty → Stuck G (row n) ts rest → IsFaultOf G (Paired only) (Among due) (row n) ts rest
