-- Below 128 the identifier characters are those of the general categories.
use Rattle.std.proofs.Common.{◌≡◌, ℕ, zero, suc, ◌<◌, ◌==◌, ◌&&◌, ◌||◌, not, Bool, true, false, refl, sym, subst, arith, true≢false, ◌⊎◌, inl, inr}
use Rattle.unicode.specs.GeneralCategory.{general_category}
use Rattle.unicode.specs.Rows.{value_in}
use Rattle.ucd_category.specs.GeneralCategoryRows.{general_category_rows}
use Rattle.kt_lexer.specs.Characters.{starts, continues, is_letter, is_decimal}
use Rattle.kt_lexer.specs.Laws.{AsciiByCategory}

abbrev all_below : ℕ → (ℕ → Bool) → Bool
all_below zero f = true
all_below (suc n) f = f n && all_below n f

first_of : (b c : Bool) → (b && c) ≡ true → b ≡ true
first_of true c e = refl
first_of false c e = absurd (true≢false (sym e))

second_of : (b c : Bool) → (b && c) ≡ true → c ≡ true
second_of true c e = e
second_of false c e = absurd (true≢false (sym e))

last_or_below : (c n : ℕ) → c < suc n → (c ≡ n) ⊎ (c < n)
last_or_below c n h = grind (arith, h)

holds : (n : ℕ) (f : ℕ → Bool) → all_below n f ≡ true → (c : ℕ) → c < n → f c ≡ true
holds zero f e c h = absurd (omega (arith, h))
holds (suc n) f e c h = elim (last_or_below c n h) [ inl i ↦ subst (λ m. f m ≡ true) (sym i) (first_of (f n) (all_below n f) e) | inr l ↦ holds n f (second_of (f n) (all_below n f) e) c l ]

abbrev same : Bool → Bool → Bool
same true b = b
same false b = not b

same_holds : (a b : Bool) → same a b ≡ true → a ≡ b
same_holds true b e = sym e
same_holds false true e = absurd (true≢false (sym e))
same_holds false false e = refl

abbrev begins : ℕ → Bool
begins c = same (starts c) (is_letter (general_category c) || c == 95)

abbrev goes_on : ℕ → Bool
goes_on c = same (continues c) (is_letter (general_category c) || c == 95 || is_decimal (general_category c))

all_begin : all_below 128 begins ≡ true
unfolding general_category value_in general_category_rows
all_begin = refl

all_go_on : all_below 128 goes_on ≡ true
unfolding general_category value_in general_category_rows
all_go_on = refl

pub ascii_by_category : AsciiByCategory
ascii_by_category c h = (same_holds _ _ (holds 128 begins all_begin c h), same_holds _ _ (holds 128 goes_on all_go_on c h))
