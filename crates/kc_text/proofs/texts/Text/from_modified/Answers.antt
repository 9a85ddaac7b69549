use Rattle.std.proofs.Common.{arith, rules, ◌≡◌, ◌<◌, ◌∷◌, [], List, ℕ, length, ◌++◌, append-nil, ◌∙◌, sym}
use Rattle.kc_text.specs.Modified.{modified_of}
use Rattle.kc_text.proofs.Spelling.{one_text, not_modified, read_up_to}
use Rattle.kc_text.proofs.texts.Text.from_modified.Goals as goal

all_read : (units : List ℕ) (rest : List ℕ) (bytes : List ℕ) → modified_of units ++ rest ≡ bytes → length rest ≡ 0 → bytes ≡ modified_of units
all_read units [] bytes e none = sym e ∙ append-nil (modified_of units)
all_read units (x ∷ xs) bytes e none = absurd (omega arith)

pub returns-then-is_empty-clause-only : goal.returns-then-is_empty-clause-only
returns-then-is_empty-clause-only c units all e =
    let read = c.loop-unit.invariant in
    let none : length c.loop-unit.rest.now ≡ 0 = search rules in
    one_text units c.loop-unit.units.items all read.fits (e ∙ all_read c.loop-unit.units.items c.loop-unit.rest.now c.args.bytes.now read.spelled none) ∙ sym c.in_ok-text.ensures

pub returns-clause-refused : goal.returns-clause-refused
returns-clause-refused c =
    let read = c.loop-unit.invariant in
    let some : 0 < length c.loop-unit.rest.now = search rules in
    not_modified c.loop-unit.units.items c.loop-unit.rest.now c.args.bytes.now read.fits c.in_default.ensures.none read.spelled some

pub returns-clause-at : goal.returns-clause-at
returns-clause-at c =
    let read = c.loop-unit.invariant in
    let some : 0 < length c.loop-unit.rest.now = search rules in
    read_up_to c.loop-unit.units.items c.loop-unit.rest.now c.args.bytes.now read.fits c.in_default.ensures.none read.spelled some
