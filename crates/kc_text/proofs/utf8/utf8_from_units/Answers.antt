use Rattle.std.proofs.Common.{arith, ◌<◌, List, ℕ, ◌^◌, get_or, ap, sym, ◌∙◌, append-nil}
use Rattle.std.proofs.lemmas.List.Elements.{All-from_get_or}
use Rattle.std.specs.List.{All}
use Rattle.std.proofs.str.Utf16.{utf16_chars-drop_all}
use Rattle.kc_text.proofs.Reading.{IsReading-characters_of}
use Rattle.kc_text.proofs.utf8.utf8_from_units.Goals as goal

fit : (units : List ℕ) → ((i : ℕ) → get_or units i 0 < 2 ^ 16) → All (λ unit. unit < 2 ^ 16) units
fit units below = All-from_get_or (λ unit. unit < 2 ^ 16) units 0 (λ i _. below i)

pub returns-clause-bytes : goal.returns-clause-bytes
returns-clause-bytes c =
    ap (λ v. v.items) c.into_bytes.ensures.value
    ∙ sym (append-nil _) ∙ rw (utf16_chars-drop_all c.args.units.now c.loop-at.at c.loop-at-test.false) at c.loop-at.invariant

pub returns-clause-read : goal.returns-clause-read
returns-clause-read c = IsReading-characters_of c.args.units.now (fit c.args.units.now (λ i. let below = c.type_inv.units i in omega arith))
