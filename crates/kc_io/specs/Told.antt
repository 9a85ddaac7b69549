-- Contents that an object of the outside may tell: `Some` of them, or `None` where it does not tell.
use Rattle.std.specs.Prelude.{◌≡◌, ℕ, List, [], ◌++◌, Option, None, Some, refl}
use Rattle.std.proofs.Common.{ap, sym, ◌∙◌, append_assoc, append-nil}

-- what is told after these bytes came to its end
abbrev pub appended : Option (List ℕ) → List ℕ → Option (List ℕ)
appended None bytes = None
appended (Some told) bytes = Some (told ++ bytes)

-- what was told before these bytes were taken from its front
abbrev pub prepended : List ℕ → Option (List ℕ) → Option (List ℕ)
prepended bytes None = None
prepended bytes (Some told) = Some (bytes ++ told)

-- what is told has grown by these bytes but for the rest of them
pub record GainsAllBut (old new : Option (List ℕ)) (bytes rest : List ℕ) : Type 0 where
  pub front : List ℕ
  pub whole : front ++ rest ≡ bytes
  pub gained : new ≡ appended old front

-- what is told has grown by a front of these bytes
pub record GainsFront (old new : Option (List ℕ)) (bytes : List ℕ) : Type 0 where
  pub rest : List ℕ
  pub gains : GainsAllBut old new bytes rest

pub appended-nil : (told : Option (List ℕ)) → appended told [] ≡ told
appended-nil None = refl
appended-nil (Some told) = ap Some (append-nil told)

pub appended-append : (told : Option (List ℕ)) (first more : List ℕ) → appended (appended told first) more ≡ appended told (first ++ more)
appended-append None first more = refl
appended-append (Some told) first more = ap Some (append_assoc told first more)

pub prepended-nil : (told : Option (List ℕ)) → prepended [] told ≡ told
prepended-nil None = refl
prepended-nil (Some told) = refl

pub prepended-prepended : (first more : List ℕ) (told : Option (List ℕ)) → prepended first (prepended more told) ≡ prepended (first ++ more) told
prepended-prepended first more None = refl
prepended-prepended first more (Some told) = ap Some (sym (append_assoc first more told))

-- before the first piece
pub GainsAllBut-start : (told : Option (List ℕ)) (bytes : List ℕ) → GainsAllBut told told bytes bytes
GainsAllBut-start told bytes = record { front = []; whole = refl; gained = sym (appended-nil told) }

-- after one more piece
pub GainsAllBut-piece : (old middle new : Option (List ℕ)) (bytes rest piece left : List ℕ) → GainsAllBut old middle bytes rest → new ≡ appended middle piece → rest ≡ piece ++ left → GainsAllBut old new bytes left
GainsAllBut-piece old middle new bytes rest piece left h e split =
    record {
      front = h.front ++ piece;
      whole = append_assoc h.front piece left ∙ ap (λ more. h.front ++ more) (sym split) ∙ h.whole;
      gained = e ∙ ap (λ told. appended told piece) h.gained ∙ appended-append old h.front piece;
    }

-- after the last piece
pub GainsAllBut-end : (old new : Option (List ℕ)) (bytes : List ℕ) → GainsAllBut old new bytes [] → new ≡ appended old bytes
GainsAllBut-end old new bytes h = h.gained ∙ ap (λ front. appended old front) (sym (append-nil h.front) ∙ h.whole)

-- a front of one more piece
pub GainsAllBut-front : (old middle new : Option (List ℕ)) (bytes rest piece left : List ℕ) → GainsAllBut old middle bytes rest → GainsFront middle new piece → rest ≡ piece ++ left → GainsFront old new bytes
GainsAllBut-front old middle new bytes rest piece left h f split =
    record {
      rest = f.rest ++ left;
      gains = GainsAllBut-piece old middle new bytes rest f.gains.front (f.rest ++ left) h f.gains.gained (
          split ∙ ap (λ more. more ++ left) (sym f.gains.whole) ∙ append_assoc f.gains.front f.rest left
          );
    }

pub GainsFront-all_but : (old new : Option (List ℕ)) (bytes rest : List ℕ) → GainsAllBut old new bytes rest → GainsFront old new bytes
GainsFront-all_but old new bytes rest h = record { rest = rest; gains = h }

-- nothing is a front
pub GainsFront-nothing : (told : Option (List ℕ)) (bytes : List ℕ) → GainsFront told told bytes
GainsFront-nothing told bytes = record { rest = bytes; gains = GainsAllBut-start told bytes }

-- the whole is a front
pub GainsFront-whole : (old new : Option (List ℕ)) (bytes : List ℕ) → new ≡ appended old bytes → GainsFront old new bytes
GainsFront-whole old new bytes e = record { rest = []; gains = record { front = bytes; whole = append-nil bytes; gained = e } }

-- some bytes, and then a front of more
pub GainsFront-after : (old middle new : Option (List ℕ)) (first more : List ℕ) → middle ≡ appended old first → GainsFront middle new more → GainsFront old new (first ++ more)
GainsFront-after old middle new first more e h =
    record {
      rest = h.rest;
      gains = GainsAllBut-piece old middle new (first ++ more) more h.gains.front h.rest (record { front = first; whole = refl; gained = e }) h.gains.gained (sym h.gains.whole);
    }

-- a front of some bytes is one of them and more
pub GainsFront-longer : (old new : Option (List ℕ)) (bytes more : List ℕ) → GainsFront old new bytes → GainsFront old new (bytes ++ more)
GainsFront-longer old new bytes more h = GainsAllBut-front old old new (bytes ++ more) (bytes ++ more) bytes more (GainsAllBut-start old (bytes ++ more)) h refl

-- for a caller's `using`, where a piece is read after another
pub ruleset reads = (prepended-nil, prepended-prepended)

-- the same, where a piece is written after another
pub ruleset gains = (appended-nil, appended-append, GainsAllBut-start, GainsAllBut-piece, GainsAllBut-end, GainsAllBut-front, GainsFront-all_but, GainsFront-nothing, GainsFront-whole, GainsFront-after, GainsFront-longer)
