-- What is read or refused behind places that tests have looked at.
use Rattle.std.specs.Prelude.{ℕ, max, Result, Ok, Err}
use Rattle.kc_text.specs.declared.errors.Fail.{Fail}
use Rattle.kc_text.specs.declared.errors.Fail.TheVariants.{Found, Memory}
use Rattle.kt_grammar.specs.declared.cursor.Cursor.{Cursor}

abbrev pub fail_behind : ℕ → Fail ℕ → Fail ℕ
fail_behind n (Found place) = Found (max n place)
fail_behind n Memory = Memory

abbrev pub behind : {X : Type 0} → ℕ → Result (X × ℕ) (Fail ℕ) → Result (X × Cursor) (Fail ℕ)
behind n (Ok p) = Ok (p.0, record { at = p.1; looked = n })
behind n (Err e) = Err (fail_behind n e)
