use Rattle.std.proofs.Common.{ℕ, ◌≡◌, ◌==◌, Bool, true, false, if◌then◌else◌, sym, ap, ◌∙◌, arith, true≢false}
use Rattle.kt_lexer.specs.Characters.{unit_at, is_digit, starts_word}
use Rattle.kt_lexer.proofs.pieces.token_piece.Goals as goal

past : {A : Type 0} (b : Bool) (x y z : A) → b ≡ false → z ≡ y → z ≡ (if b then x else y)
past true x y z e i = absurd (true≢false e)
past false x y z e i = i

not_same : (u v k : ℕ) → u ≡ v → (u ≡ k → ⊥) → (v == k) ≡ false
not_same u v k e h = grind (arith, e, h)

pub returns : goal.returns
returns c =
    let unit = c.unit_at-unit.ensures.value in
    let no_word : starts_word c.args.text.now ≡ false = sym c.starts_word.ensures ∙ c.if-starts_word.false in
    let no_digit : is_digit (unit_at c.args.text.now 0) ≡ false = sym (c.is_digit.ensures ∙ ap is_digit unit) ∙ c.if-is_digit.false in
    let no_quote : (unit_at c.args.text.now 0 == 39) ≡ false = not_same _ _ 39 unit c.if-unit-eq39.false in
    let no_string : (unit_at c.args.text.now 0 == 34) ≡ false = not_same _ _ 34 unit c.if-unit-eq34.false in
    past _ _ _ _ no_word (past _ _ _ _ no_digit (past _ _ _ _ no_quote (past _ _ _ _ no_string c.operator_piece.ensures)))
