-- A token takes the longest spelling in front.
use Rattle.std.proofs.Common.{◌≡◌, ℕ, suc, ◌+◌, ◌≤◌, ◌<◌, ◌==◌, nat_le, not, ◌&&◌, ◌||◌, Bool, true, false, if◌then◌else◌, List, [], ◌∷◌, ◌++◌, length, take, drop, Option, Some, None, refl, sym, ap, subst, ◌∙◌, arith, true≢false, append_assoc}
use Rattle.std.specs.Prelude.{codes, ⊤}
use Rattle.std.specs.Option.{is_none}
use Rattle.std.proofs.lemmas.List.{length-append, length-take-le, take-append-drop, take_at}
use Rattle.kt_lexer.specs.declared.token.Keyword.{Keyword}
use Rattle.kt_lexer.specs.declared.token.Keyword.TheVariants as keyword
use Rattle.kt_lexer.specs.declared.token.Operator.{Operator}
use Rattle.kt_lexer.specs.declared.token.Operator.TheVariants as operator
use Rattle.kt_lexer.specs.declared.numbers.Number.TheVariants as number
use Rattle.kt_lexer.specs.declared.strings.Element.{Element}
use Rattle.kt_lexer.specs.declared.pieces.Shape.{Shape}
use Rattle.kt_lexer.specs.declared.pieces.Shape.TheVariants as shape
use Rattle.kt_lexer.specs.declared.pieces.Piece.{Piece}
use Rattle.kt_lexer.specs.declared.pieces.Piece.TheVariants as piece
use Rattle.kt_lexer.specs.declared.pieces.Open.{Open}
use Rattle.kt_lexer.specs.declared.pieces.Open.TheVariants as bracket
use Rattle.kt_lexer.specs.declared.pieces.Lead.{Lead}
use Rattle.kt_lexer.specs.declared.pieces.Lead.TheVariants as lead
use Rattle.kt_lexer.specs.Characters.{unit_at, is_empty, is_front, is_blank, is_line_end, is_digit, is_surrogate, starts, starts_word, part_length, word_length}
use Rattle.kt_lexer.specs.Words.{keyword_of, word_of, name_length}
use Rattle.kt_lexer.specs.Operators.{find_front, with_length, operator_of, of_three, assignments, other_pairs, signs, brackets}
use Rattle.kt_lexer.specs.Numbers.{number_of}
use Rattle.kt_lexer.specs.Strings.{letter_escape, four_digits, unit_escape, of_letter, escape_of, begins_template, element, element_of, text_length}
use Rattle.kt_lexer.specs.Comments.{close}
use Rattle.kt_lexer.specs.Laws.{NoLonger}
use Rattle.kt_lexer.specs.Pieces as spec
use Rattle.kt_lexer.specs.Pieces.{Fits, gap_fits, line_fits, token_fits, bad_fits, end_fits}
use Rattle.kt_lexer.proofs.Elements.{same_of, text_goes, fits_of}
use Rattle.kt_lexer.proofs.Runs.{word_step}
use Rattle.kt_lexer.proofs.Longest.{longest_operator}
use Rattle.kt_lexer.proofs.Sizes.{piece_fits, starts_some}
use Rattle.kt_spellings.specs.Spellings.{IsWord, IsName, Escape, by_letter, by_digits, IsPlain, IsText, one_unit, one_escape, unit_and_more, escape_and_more, Spelled, here, there, operators, read_behind, CodeSpells, a_keyword, as_safe, not_in, not_is, a_name, a_label, a_label_use, a_number, a_character, an_escaped_character, a_string_open, a_hole_close, an_operator, StringSpells, a_string_close, a_hole_open, a_string_name, a_string_text, Spells}
use Rattle.kt_spellings.specs.Laws.{TokenIsLongest, begins_comment, SpelledIsToken}
use Rattle.kt_spellings.proofs.Words.{run_and_more, begins_more, lone}
use Rattle.kt_spellings.proofs.Spelling.{token_is_spelled, Listed, listed, operator_listed, if_piece, first_of, second_of, at_least}

-- the piece is a token, which takes so many units at least, and where it takes no more it is of this shape
data Meets (m : ℕ) (t : Shape) : Piece → Type 0 where
  meets : {s : Shape} {n : ℕ} → m ≤ n → (n ≡ m → s ≡ t) → Meets m t (piece.Token s n)

pub clash : {A : Type 0} {b : Bool} → b ≡ true → b ≡ false → A
clash e f = absurd (true≢false (sym e ∙ f))

-- ---- words and names

no_run : (rest : List ℕ) → part_length rest ≡ 0 → word_length rest ≡ 0
no_run rest e = (word_step rest).stops e

run_reaches : (w rest : List ℕ) → word_length w ≡ length w → length w ≤ word_length (w ++ rest)
run_reaches w rest h = let e = run_and_more w rest h in omega (arith, e)

-- a word that is whole is the word in front
whole_run : (w rest : List ℕ) → word_length w ≡ length w → word_length rest ≡ 0 → word_length (w ++ rest) ≡ length w
whole_run w rest h k = let e = run_and_more w rest h in omega (arith, e, k)

whole_word : (w rest : List ℕ) → word_length w ≡ length w → word_length rest ≡ 0 → word_of (w ++ rest) ≡ w
whole_word w rest h k = ap (λ n. take n (w ++ rest)) (whole_run w rest h k) ∙ take_at w rest (length w) refl

whole_name : (w rest : List ℕ) → IsName w → part_length rest ≡ 0 → name_length (w ++ rest) ≡ length w
whole_name w rest n e =
    let k = no_run rest e in
    let b : (starts_word (w ++ rest) && is_none (keyword_of (word_of (w ++ rest)))) ≡ true =
    rw (begins_more w rest n.word.begins) (ap (λ o. is_none (keyword_of o)) (whole_word w rest n.word.whole k) ∙ ap is_none n.free) in
    ap (λ b. if b then word_length (w ++ rest) else 0) b ∙ whole_run w rest n.word.whole k

unit_behind : (w rest : List ℕ) (u : ℕ) → unit_at (w ++ u ∷ rest) (length w) ≡ u
unit_behind [] rest u = refl
unit_behind (v ∷ w) rest u = unit_behind w rest u

-- ---- outside of strings

more_units : {A : Type 0} {m n : ℕ} → m ≤ n → n + 1 ≡ m → A
more_units h e = absurd (omega (arith, h, e))

-- what a word is, without what is directly behind it
abbrev of_whole : Option Keyword → Shape
of_whole (Some k) = shape.Word k
of_whole None = shape.Name

of_word_meets : (k : Option Keyword) (n next m : ℕ) (t : Shape) → m ≤ n → (n ≡ m → of_whole k ≡ t) → Meets m t (spec.of_word k n next)
of_word_meets (Some keyword.As) n next m t h f = if_piece (Meets m t) (next == 63) (λ e. meets (omega (arith, h)) (λ i. more_units h i)) (λ e. meets h f)
of_word_meets (Some _) n next m t h f = meets h f
of_word_meets None n next m t h f = if_piece (Meets m t) (next == 64) (λ e. meets (omega (arith, h)) (λ i. more_units h i)) (λ e. meets h f)

-- what an operator's spelling is like
abbrev is_like_operator : List ℕ → Bool
is_like_operator [] = false
is_like_operator (u ∷ w) =
    not (is_surrogate u || starts u || is_digit u || u == 39 || u == 34)
    && nat_le (length w) 2 && ((not (u == 64) && not (u == 125)) || length w == 0) && not (unit_at w 0 == 105)

abbrev all_like : List (List ℕ × Operator) → Bool
all_like [] = true
all_like (e ∷ es) = is_like_operator e.0 && all_like es

like_of : {w : List ℕ} {k : Operator} (table : List (List ℕ × Operator)) → all_like table ≡ true → Spelled w k table → is_like_operator w ≡ true
like_of [] a s = elim s [ ]
like_of (e ∷ es) a (here i j) = subst (λ v. is_like_operator v ≡ true) i (first_of (is_like_operator e.0) _ a)
like_of (e ∷ es) a (there s) = like_of es (second_of (is_like_operator e.0) a) s

no_longer : {w : List ℕ} {k : Operator} (text : List ℕ) (n : ℕ) (table : List (List ℕ × Operator)) → NoLonger text n table → is_front w text ≡ true → Spelled w k table → length w ≤ n
no_longer text n [] h f s = elim s [ ]
no_longer text n (e ∷ es) h f (here i j) = subst (λ v. length v ≤ n) i (h.0 (subst (λ v. is_front v text ≡ true) (sym i) f))
no_longer text n (e ∷ es) h f (there s) = no_longer text n es h.1 f s

front_of : (w rest : List ℕ) → is_front w (w ++ rest) ≡ true
front_of [] rest = refl
front_of (u ∷ w) rest = rw (equal u) (front_of w rest)
  where
    equal : (u : ℕ) → (u == u) ≡ true
    equal u = grind arith

escape_is : {e : List ℕ} {u : ℕ} (rest : List ℕ) → Escape e u → escape_of (e ++ rest) ≡ Some (element u (length e))
escape_is rest (by_letter {c = c} {u = u} h) = on_test (c == 117) refl
  where
    none_is_some : {A : Type 0} {x : A} → None ≡ Some x → ⊥
    none_is_some e = cc

    on_test : (b : Bool) → (c == 117) ≡ b → (if b then unit_escape (unit_at rest 0) (unit_at rest 1) (unit_at rest 2) (unit_at rest 3) else of_letter (letter_escape c)) ≡ Some (element u 2)
    on_test true e = absurd (none_is_some (ap letter_escape (sym (same_of c 117 e)) ∙ h))
    on_test false e = ap of_letter h
escape_is rest (by_digits {a = a} {b = b} {c = c} {d = d} h i j k) = rw h (rw i (rw j (rw k refl)))

-- ---- one operator has a spelling

abbrev is_same : List ℕ → List ℕ → Bool
is_same w v = is_front w v && length w == length v

abbrev is_fresh : List ℕ → List (List ℕ × Operator) → Bool
is_fresh w [] = true
is_fresh w (e ∷ es) = not (is_same w e.0) && is_fresh w es

abbrev all_fresh : List (List ℕ × Operator) → Bool
all_fresh [] = true
all_fresh (e ∷ es) = is_fresh e.0 es && all_fresh es

not_true : (b : Bool) → not b ≡ true → b ≡ false
not_true true e = absurd (true≢false (sym e))
not_true false e = refl

equal : (u : ℕ) → (u == u) ≡ true
equal u = grind arith

front_self : (w : List ℕ) → is_front w w ≡ true
front_self [] = refl
front_self (u ∷ w) = rw (equal u) (front_self w)

same_self : (w : List ℕ) → is_same w w ≡ true
same_self w = rw (front_self w) (equal (length w))

not_fresh : {w : List ℕ} {k : Operator} (table : List (List ℕ × Operator)) → is_fresh w table ≡ true → Spelled w k table → ⊥
not_fresh [] f s = elim s [ ]
not_fresh {w = w} (e ∷ es) f (here i j) = clash (same_self w) (not_true (is_same w w) (subst (λ v. not (is_same w v) ≡ true) i (first_of (not (is_same w e.0)) _ f)))
not_fresh {w = w} (e ∷ es) f (there s) = not_fresh es (second_of (not (is_same w e.0)) f) s

one_operator : {w : List ℕ} {k l : Operator} (table : List (List ℕ × Operator)) → all_fresh table ≡ true → Spelled w k table → Spelled w l table → k ≡ l
one_operator [] f s t = elim s [ ]
one_operator (e ∷ es) f (here i j) (here h k) = sym j ∙ k
one_operator (e ∷ es) f (here i j) (there t) = absurd (not_fresh es (subst (λ v. is_fresh v es ≡ true) i (first_of (is_fresh e.0 es) _ f)) t)
one_operator (e ∷ es) f (there s) (here h k) = absurd (not_fresh es (subst (λ v. is_fresh v es ≡ true) h (first_of (is_fresh e.0 es) _ f)) s)
one_operator (e ∷ es) f (there s) (there t) = one_operator es (second_of (is_fresh e.0 es) f) s t

-- ---- where no operator is found, none is there

if_none : (b : Bool) (k : Operator) (o : Option Operator) → (if b then Some k else o) ≡ None → (b ≡ false) × (o ≡ None)
if_none true k o e = absurd cc
if_none false k o e = (refl, e)

absent : {w : List ℕ} {k : Operator} (text : List ℕ) (table : List (List ℕ × Operator)) → find_front text table ≡ None → is_front w text ≡ true → Spelled w k table → ⊥
absent text [] e f s = elim s [ ]
absent text (x ∷ xs) e f (here i j) = clash f (subst (λ v. is_front v text ≡ false) i (if_none (is_front x.0 text) x.1 (find_front text xs) e).0)
absent text (x ∷ xs) e f (there s) = absent text xs (if_none (is_front x.0 text) x.1 (find_front text xs) e).1 f s

with_none : (n : ℕ) (o : Option Operator) (other : Option (Operator × ℕ)) → with_length n o other ≡ None → (o ≡ None) × (other ≡ None)
with_none n (Some k) other e = absurd cc
with_none n None other e = (refl, e)

in_either : {w : List ℕ} {k : Operator} (a b : List (List ℕ × Operator)) → (Spelled w k a → ⊥) → (Spelled w k b → ⊥) → Spelled w k (a ++ b) → ⊥
in_either [] b f g s = g s
in_either (x ∷ a) b f g (here i j) = f (here i j)
in_either (x ∷ a) b f g (there s) = in_either a b (λ s. f (there s)) g s

no_operator : {w : List ℕ} {k : Operator} (text : List ℕ) → operator_of text ≡ None → is_front w text ≡ true → Spelled w k operators → ⊥
no_operator text e f s =
    let a = with_none 3 (find_front text of_three) _ e in
    let b = with_none 2 (find_front text assignments) _ a.1 in
    let c = with_none 2 (find_front text other_pairs) _ b.1 in
    let d = with_none 1 (find_front text signs) _ c.1 in
    let g = with_none 1 (find_front text brackets) None d.1 in
    in_either of_three (assignments ++ (other_pairs ++ (signs ++ brackets))) (λ s. absent text of_three a.0 f s) (λ s.
    in_either assignments (other_pairs ++ (signs ++ brackets)) (λ s. absent text assignments b.0 f s) (λ s.
    in_either other_pairs (signs ++ brackets) (λ s. absent text other_pairs c.0 f s) (λ s.
    in_either signs brackets (λ s. absent text signs d.0 f s) (λ s. absent text brackets g.0 f s) s) s) s) s

left_false : (a b : Bool) → (a || b) ≡ false → a ≡ false
left_false true b e = absurd (true≢false e)
left_false false b e = refl

right_false : (a b : Bool) → (a || b) ≡ false → b ≡ false
right_false true b e = absurd (true≢false e)
right_false false b e = e

-- a digit begins no word
digit_alone : (u : ℕ) → is_digit u ≡ true → (is_surrogate u ≡ false) × (starts u ≡ false)
digit_alone u e =
    let low : 48 ≤ u = at_least 48 u (first_of (nat_le 48 u) _ e) in
    let high : u ≤ 57 = at_least u 57 (second_of (nat_le 48 u) e) in
    (none_above 55296 57343 u (omega (arith, high)), starts_not (nat_le 128 u) _ _ (too_low 128 u (omega (arith, high))) (or_false _ (or_false _ (none_above 97 122 u (omega (arith, high))) (none_above 65 90 u (omega (arith, high)))) (other u 95 (omega (arith, high)))))
  where
    too_low : (m u : ℕ) → u < m → nat_le m u ≡ false
    too_low m u h = grind (arith, h)

    none_above : (m n u : ℕ) → u < m → (nat_le m u && nat_le u n) ≡ false
    none_above m n u h = ap (λ b. b && nat_le u n) (too_low m u h)

    other : (u v : ℕ) → u < v → (u == v) ≡ false
    other u v h = grind (arith, h)

    or_false : {a : Bool} (b : Bool) → a ≡ false → b ≡ false → (a || b) ≡ false
    or_false b i j = ap (λ a. a || b) i ∙ j

    starts_not : (b : Bool) (x y : Bool) → b ≡ false → y ≡ false → (if b then x else y) ≡ false
    starts_not true x y i j = absurd (true≢false i)
    starts_not false x y i j = j

no_word : (u : ℕ) (text : List ℕ) → starts_word (u ∷ text) ≡ true → is_surrogate u ≡ false → starts u ≡ false → ⊥
no_word u text e i j = clash (sym (ap (nat_le 1) (lone u (unit_at (u ∷ text) 1) i)) ∙ e) (ap (λ b. nat_le 1 (if b then 1 else 0)) j)

or_is : (a : Bool) {b : Bool} → b ≡ true → (a || b) ≡ true
or_is true e = refl
or_is false e = e

or_left : {a : Bool} (b : Bool) → a ≡ true → (a || b) ≡ true
or_left b e = ap (λ a. a || b) e

-- an `@` and a brace are alone
alone : (a b : Bool) (n : ℕ) → ((not a && not b) || n == 0) ≡ true → (a || b) ≡ true → n ≡ 0
alone true b n e h = same_of n 0 e
alone false true n e h = same_of n 0 e
alone false false n e h = absurd (true≢false (sym h))

-- in place of `!in` and `!is` no operator has more units than one
negated_alone : (x u : ℕ) (w rest : List ℕ) → is_front (33 ∷ 105 ∷ x ∷ []) (u ∷ w ++ rest) ≡ true → (unit_at w 0 == 105) ≡ false → length w ≡ 0
negated_alone x u [] rest e f = refl
negated_alone x u (v ∷ w) rest e f = clash (ap (λ v. v == 105) (sym (same_of 105 v (first_of (105 == v) _ (second_of (33 == u) e))))) f

-- what is known of the first unit of an operator, and of the units behind it
record Like (u : ℕ) (w : List ℕ) : Type 0 where
  no_surrogate : is_surrogate u ≡ false
  no_start : starts u ≡ false
  no_digit : is_digit u ≡ false
  no_character : (u == 39) ≡ false
  no_string : (u == 34) ≡ false
  short : length w ≤ 2
  one : (u == 64 || u == 125) ≡ true → length w ≡ 0
  no_word_behind : (unit_at w 0 == 105) ≡ false

like : (u : ℕ) (w : List ℕ) → is_like_operator (u ∷ w) ≡ true → Like u w
like u w e = by_tests (is_surrogate u) (starts u) (is_digit u) (u == 39) (u == 34) (u == 64) (u == 125) refl refl refl refl refl refl refl e
  where
    by_tests : (a b c d f g h : Bool) → is_surrogate u ≡ a → starts u ≡ b → is_digit u ≡ c → (u == 39) ≡ d → (u == 34) ≡ f → (u == 64) ≡ g → (u == 125) ≡ h
        → (not (a || b || c || d || f) && nat_le (length w) 2 && ((not g && not h) || length w == 0) && not (unit_at w 0 == 105)) ≡ true → Like u w
    by_tests a b c d f g h ea eb ec ed ef eg eh e =
        let x = first_of (not (a || b || c || d || f) && nat_le (length w) 2 && ((not g && not h) || length w == 0)) _ e in
        let y = first_of (not (a || b || c || d || f) && nat_le (length w) 2) _ x in
        let n = not_true (a || b || c || d || f) (first_of (not (a || b || c || d || f)) _ y) in
        let n4 = left_false (a || b || c || d) f n in
        let n3 = left_false (a || b || c) d n4 in
        let n2 = left_false (a || b) c n3 in
        record {
          no_surrogate = ea ∙ left_false a b n2;
          no_start = eb ∙ right_false a b n2;
          no_digit = ec ∙ right_false (a || b) c n3;
          no_character = ed ∙ right_false (a || b || c) d n4;
          no_string = ef ∙ right_false (a || b || c || d) f n;
          short = at_least (length w) 2 (second_of (not (a || b || c || d || f)) y);
          one = λ i. alone g h (length w) (second_of (not (a || b || c || d || f) && nat_le (length w) 2) x) (ap (λ p. p || h) (sym eg) ∙ ap (λ p. (u == 64) || p) (sym eh) ∙ i);
          no_word_behind = not_true (unit_at w 0 == 105) (second_of (not (a || b || c || d || f) && nat_le (length w) 2 && ((not g && not h) || length w == 0)) e);
        }

three_units : {A : Type 0} {n : ℕ} → n ≡ 0 → 3 ≡ suc n → A
three_units e f = absurd (omega (arith, e, f))

module _ (inside : Option Open) (before : Lead) (at : ℕ) where
  word_meets : (m : ℕ) (t : Shape) (text : List ℕ) → starts_word text ≡ true → Meets m t (spec.word_piece text) → Meets m t (spec.token_piece inside before at text)
  word_meets m t text e h = if_piece (Meets m t) (starts_word text) (λ i. h) (λ i. clash e i)

  plain_word_meets : (w rest : List ℕ) (k : Option Keyword) → IsWord w → keyword_of w ≡ k → Meets (length w) (of_whole k) (spec.token_piece inside before at (w ++ rest))
  plain_word_meets w rest k i e = word_meets (length w) (of_whole k) (w ++ rest) (begins_more w rest i.begins)
      (of_word_meets (keyword_of (word_of (w ++ rest))) (word_length (w ++ rest)) (unit_at (w ++ rest) (word_length (w ++ rest))) (length w) (of_whole k) (run_reaches w rest i.whole)
      (λ n. ap of_whole (ap keyword_of (ap (λ n. take n (w ++ rest)) n ∙ take_at w rest (length w) refl) ∙ e)))

  -- a word with this unit, which is part of its token, directly behind it
  marked_meets : (w rest : List ℕ) (u : ℕ) (k : Option Keyword) (t : Shape) → IsWord w → keyword_of w ≡ k → word_length (u ∷ rest) ≡ 0 → Meets (length w + 1) t (spec.of_word k (length w) u) → Meets (length (w ++ u ∷ [])) t (spec.token_piece inside before at ((w ++ u ∷ []) ++ rest))
  marked_meets w rest u k t i e z h =
      let n = whole_run w (u ∷ rest) i.whole z in
      let o : keyword_of (word_of (w ++ u ∷ rest)) ≡ k = ap keyword_of (whole_word w (u ∷ rest) i.whole z) ∙ e in
      let b : unit_at (w ++ u ∷ rest) (word_length (w ++ u ∷ rest)) ≡ u = ap (unit_at (w ++ u ∷ rest)) n ∙ unit_behind w rest u in
      let p : spec.word_piece (w ++ u ∷ rest) ≡ spec.of_word k (length w) u = ap (λ k. spec.of_word k (word_length (w ++ u ∷ rest)) (unit_at (w ++ u ∷ rest) (word_length (w ++ u ∷ rest)))) o ∙ ap (λ m. spec.of_word k m (unit_at (w ++ u ∷ rest) (word_length (w ++ u ∷ rest)))) n ∙ ap (λ v. spec.of_word k (length w) v) b in
      let l : length (w ++ u ∷ []) ≡ length w + 1 = length-append w (u ∷ []) in
      subst (λ x. Meets (length (w ++ u ∷ [])) t (spec.token_piece inside before at x)) (sym (append_assoc w (u ∷ []) rest))
      (subst (λ (m : ℕ). Meets m t (spec.token_piece inside before at (w ++ u ∷ rest))) (sym l)
      (word_meets (length w + 1) t (w ++ u ∷ rest) (begins_more w (u ∷ rest) i.begins) (subst (Meets (length w + 1) t) (sym p) h)))

  no_question : (rest : List ℕ) → word_length (63 ∷ rest) ≡ 0
  no_question [] = refl
  no_question (v ∷ rest) = refl

  no_at : (rest : List ℕ) → word_length (64 ∷ rest) ≡ 0
  no_at [] = refl
  no_at (v ∷ rest) = refl

  number_meets : (w rest : List ℕ) {v : ℕ} {long : Bool} → is_digit (unit_at w 0) ≡ true → word_length w ≡ length w → part_length rest ≡ 0 → number_of (spec.is_minus before) w ≡ number.Value v long → Meets (length w) (shape.Number v long) (spec.token_piece inside before at (w ++ rest))
  number_meets [] rest d h z e = absurd (true≢false (sym d))
  number_meets (u ∷ w) rest {v = v} {long = long} d h z e =
      let k = no_run rest z in
      let o : number_of (spec.is_minus before) (word_of (u ∷ w ++ rest)) ≡ number.Value v long = ap (number_of (spec.is_minus before)) (whole_word (u ∷ w) rest h k) ∙ e in
      let n = whole_run (u ∷ w) rest h k in
      let a = digit_alone u d in
      if_piece (Meets (length (u ∷ w)) (shape.Number v long)) (starts_word (u ∷ w ++ rest)) (λ i. absurd (no_word u (w ++ rest) i a.0 a.1)) (λ i.
      if_piece (Meets (length (u ∷ w)) (shape.Number v long)) (is_digit u) (λ i. subst (λ o. Meets (length (u ∷ w)) (shape.Number v long) (spec.of_number o (word_length (u ∷ w ++ rest)) at)) (sym o) (meets (omega (arith, n)) (λ i. refl))) (λ i. clash d i))

  label_use_meets : (w rest : List ℕ) → before ≡ lead.Jump at → IsName w → part_length rest ≡ 0 → Meets (length (64 ∷ w)) shape.LabelUse (spec.token_piece inside before at (64 ∷ w ++ rest))
  label_use_meets w rest j n e =
      let l = whole_name w rest n e in
      let s = starts_some w n.word.begins in
      if_piece (Meets (length (64 ∷ w)) shape.LabelUse) (spec.is_label_use before at (64 ∷ w ++ rest)) (λ i. meets (omega (arith, l)) (λ i. refl)) (λ i. clash (is_use (name_length (w ++ rest)) j (omega (arith, l, s, n.word.whole))) i)
    where
      least : (n : ℕ) → 1 ≤ n → nat_le 1 n ≡ true
      least n h = grind (arith, h)

      is_use : {before : Lead} (n : ℕ) → before ≡ lead.Jump at → 1 ≤ n → (spec.is_jump before at && nat_le 1 n) ≡ true
      is_use n j h = ap (λ b. spec.is_jump b at && nat_le 1 n) j ∙ ap (λ b. b && nat_le 1 n) (equal at) ∙ least n h

  character_meets : (u : ℕ) (rest : List ℕ) → (u == 92) ≡ false → (u == 39 || is_line_end u) ≡ false → Meets 3 (shape.CharLiteral u) (spec.token_piece inside before at (39 ∷ u ∷ 39 ∷ rest))
  character_meets u rest e f =
      if_piece (Meets 3 (shape.CharLiteral u)) (u == 92) (λ i. clash i e) (λ i.
      if_piece (Meets 3 (shape.CharLiteral u)) (u == 39 || is_line_end u) (λ i. clash i f) (λ i. meets (omega arith) (λ i. refl)))

  escape_meets : {e : List ℕ} {u : ℕ} (rest : List ℕ) → Escape e u → Meets (length (39 ∷ e ++ 39 ∷ [])) (shape.CharLiteral u) (spec.token_piece inside before at ((39 ∷ e ++ 39 ∷ []) ++ rest))
  escape_meets {u = u} rest (by_letter {c = c} h) = subst (λ o. Meets 4 (shape.CharLiteral u) (spec.of_escape o at (39 ∷ 92 ∷ c ∷ 39 ∷ rest))) (sym (escape_is (39 ∷ rest) (by_letter {c = c} h))) (meets (omega arith) (λ i. refl))
  escape_meets rest (by_digits {a = a} {b = b} {c = c} {d = d} h i j k) = subst (λ o. Meets 8 (shape.CharLiteral (four_digits a b c d)) (spec.of_escape o at (39 ∷ 92 ∷ 117 ∷ a ∷ b ∷ c ∷ d ∷ 39 ∷ rest))) (sym (escape_is (39 ∷ rest) (by_digits {a = a} {b = b} {c = c} {d = d} h i j k))) (meets (omega arith) (λ i. refl))

  of_kind_meets : (k : Operator) (m n : ℕ) (t : Shape) → m ≤ n → (n ≡ m → shape.Op (read_behind k before) ≡ t) → Meets m t (spec.of_operator (Some (k, n)) before at)
  of_kind_meets operator.Times m n t h f = by_lead before f
    where
      by_lead : (l : Lead) → (n ≡ m → shape.Op (read_behind operator.Times l) ≡ t) → Meets m t (if spec.is_dot l then piece.Token (shape.Op operator.TimesBehindDot) n else piece.Token (shape.Op operator.Times) n)
      by_lead lead.Dot f = meets h f
      by_lead lead.Minus f = meets h f
      by_lead (lead.Jump end) f = meets h f
      by_lead lead.Other f = meets h f
  of_kind_meets _ m n t h f = meets h f

  of_operator_meets : {k : Operator} (w rest : List ℕ) (o : Option (Operator × ℕ)) → operator_of (w ++ rest) ≡ o → Listed (w ++ rest) o → Spelled w k operators → Meets (length w) (shape.Op (read_behind k before)) (spec.of_operator o before at)
  of_operator_meets w rest None e l s = absurd (no_operator (w ++ rest) e (front_of w rest) s)
  of_operator_meets {k = k} w rest (Some _) e (listed {k = l} {n = n} h t) s = of_kind_meets l (length w) n (shape.Op (read_behind k before)) (no_longer (w ++ rest) n operators (longest_operator (w ++ rest) l n e) (front_of w rest) s) (λ i. ap (λ k. shape.Op (read_behind k before)) (one_operator operators refl (subst (λ v. Spelled v l operators) (ap (λ n. take n (w ++ rest)) i ∙ take_at w rest (length w) refl) t) s))

  operator_meets : {k : Operator} (w rest : List ℕ) → is_like_operator w ≡ true → Spelled w k operators → spec.is_hole_end inside w ≡ false → Meets (length w) (shape.Op (read_behind k before)) (spec.token_piece inside before at (w ++ rest))
  operator_meets [] rest e s h = absurd (true≢false (sym e))
  operator_meets {k = k} (u ∷ w) rest e s h =
      let l = like u w e in
      let t = shape.Op (read_behind k before) in
      let text = u ∷ w ++ rest in
      if_piece (Meets (suc (length w)) t) (starts_word text) (λ i. absurd (no_word u (w ++ rest) i l.no_surrogate l.no_start)) (λ i.
      if_piece (Meets (suc (length w)) t) (is_digit u) (λ i. clash i l.no_digit) (λ i.
      if_piece (Meets (suc (length w)) t) (u == 39) (λ i. clash i l.no_character) (λ i.
      if_piece (Meets (suc (length w)) t) (u == 34) (λ i. clash i l.no_string) (λ i.
      if_piece (Meets (suc (length w)) t) (spec.is_label_use before at text) (λ i.
      let z = l.one (or_left (u == 125) (first_of (u == 64) _ (first_of (u == 64 && spec.is_jump before at) _ i))) in
      let n = at_least 1 (name_length (w ++ rest)) (second_of (u == 64 && spec.is_jump before at) i) in
      meets (omega (arith, z)) (λ j. absurd (omega (arith, z, n, j)))) (λ i.
      if_piece (Meets (suc (length w)) t) (spec.is_negated (codes "!in") text) (λ i. let z = negated_alone 110 u w rest (first_of (is_front (codes "!in") text) _ i) l.no_word_behind in meets (omega (arith, z)) (λ j. three_units z j)) (λ i.
      if_piece (Meets (suc (length w)) t) (spec.is_negated (codes "!is") text) (λ i. let z = negated_alone 115 u w rest (first_of (is_front (codes "!is") text) _ i) l.no_word_behind in meets (omega (arith, z)) (λ j. three_units z j)) (λ i.
      if_piece (Meets (suc (length w)) t) (spec.is_hole_end inside text) (λ i. clash i h) (λ i.
      of_operator_meets (u ∷ w) rest (operator_of text) refl (operator_listed text) s))))))))

  token_meets : {w rest : List ℕ} {t : Shape} → CodeSpells inside before at w rest t → Meets (length w) t (spec.token_piece inside before at (w ++ rest))
  token_meets (a_keyword {w = w} {rest = rest} {k = k} i e) = plain_word_meets w rest (Some k) i e
  token_meets (a_name {w = w} {rest = rest} n) = plain_word_meets w rest None n.word n.free
  token_meets (as_safe {w = w} {rest = rest} i e) = marked_meets w rest 63 (Some keyword.As) (shape.Word keyword.AsSafe) i e (no_question rest) (meets (omega arith) (λ i. refl))
  token_meets (a_label {w = w} {rest = rest} n) = marked_meets w rest 64 None shape.Label n.word n.free (no_at rest) (meets (omega arith) (λ i. refl))
  token_meets (not_in {rest = rest} e) = if_piece (Meets 3 (shape.Word keyword.NotIn)) (part_length rest == 0) (λ i. meets (omega arith) (λ i. refl)) (λ i. clash (ap (λ n. n == 0) e) i)
  token_meets (not_is {rest = rest} e) = if_piece (Meets 3 (shape.Word keyword.NotIs)) (part_length rest == 0) (λ i. meets (omega arith) (λ i. refl)) (λ i. clash (ap (λ n. n == 0) e) i)
  token_meets (a_label_use {w = w} {rest = rest} j n e) = label_use_meets w rest j n e
  token_meets (a_number {w = w} {rest = rest} d h z e) = number_meets w rest d h z e
  token_meets (a_character {u = u} {rest = rest} e f) = character_meets u rest e f
  token_meets (an_escaped_character {rest = rest} x) = escape_meets rest x
  token_meets (a_string_open {rest = rest}) = meets (omega arith) (λ i. refl)
  token_meets (a_hole_close {rest = rest} i) = subst (λ i. Meets 1 shape.HoleClose (spec.token_piece i before at (125 ∷ rest))) (sym i) (meets (omega arith) (λ i. refl))
  token_meets (an_operator {w = w} {rest = rest} s e) = operator_meets w rest (like_of operators refl s) s e

-- ---- within strings

if_element : {A : Type 0} (P : Option A → Type 0) (b : Bool) {x y : Option A} → (b ≡ true → P x) → (b ≡ false → P y) → P (if b then x else y)
if_element P true f g = f refl
if_element P false f g = g refl

suc_some : (n : ℕ) → (suc n == 0) ≡ false
suc_some n = grind arith

plain_element : (u : ℕ) (rest : List ℕ) → IsPlain u rest → element_of (u ∷ rest) ≡ Some (element u 1)
plain_element u rest p =
    if_element (λ o. o ≡ Some (element u 1)) (is_empty (u ∷ rest)) (λ i. clash i (suc_some (length rest))) (λ i.
    if_element (λ o. o ≡ Some (element u 1)) (is_line_end u) (λ i. clash i p.no_line_end) (λ i.
    if_element (λ o. o ≡ Some (element u 1)) (u == 34) (λ i. clash i p.no_quote) (λ i.
    if_element (λ o. o ≡ Some (element u 1)) (u == 92) (λ i. clash i p.no_escape) (λ i.
    if_element (λ o. o ≡ Some (element u 1)) (begins_template (u ∷ rest)) (λ i. clash i p.no_template) (λ i. refl)))))

escape_element : {e : List ℕ} {u : ℕ} (rest : List ℕ) → Escape e u → element_of (e ++ rest) ≡ Some (element u (length e))
escape_element {u = u} rest (by_letter {c = c} h) = if_element (λ o. o ≡ Some (element u 2)) (is_empty (92 ∷ c ∷ rest)) (λ i. clash i (suc_some (suc (length rest)))) (λ i. escape_is rest (by_letter {c = c} h))
escape_element rest (by_digits {a = a} {b = b} {c = c} {d = d} h i j k) = if_element (λ o. o ≡ Some (element (four_digits a b c d) 6)) (is_empty (92 ∷ 117 ∷ a ∷ b ∷ c ∷ d ∷ rest)) (λ i. clash i (suc_some (length (117 ∷ a ∷ b ∷ c ∷ d ∷ rest)))) (λ l. escape_is rest (by_digits {a = a} {b = b} {c = c} {d = d} h i j k))

drop_front : (w rest : List ℕ) → drop (length w) (w ++ rest) ≡ rest
drop_front [] rest = refl
drop_front (u ∷ w) rest = drop_front w rest

-- an element, and what the text behind it has
goes_on : (e rest : List ℕ) (u m : ℕ) → element_of (e ++ rest) ≡ Some (element u (length e)) → m ≤ text_length rest → length e + m ≤ text_length (e ++ rest)
goes_on e rest u m i h =
    let g = text_goes (e ++ rest) i in
    let d : text_length (drop (length e) (e ++ rest)) ≡ text_length rest = ap text_length (drop_front e rest) in
    omega (arith, g, d, h)

-- a string's text is no longer than what is read in its place
text_reaches : {w rest : List ℕ} → IsText w rest → length w ≤ text_length (w ++ rest)
text_reaches (one_unit {u = u} {rest = rest} p) = let g = goes_on (u ∷ []) rest u 0 (plain_element u rest p) (omega arith) in omega (arith, g)
text_reaches (one_escape {e = e} {rest = rest} {u = u} x) = let g = goes_on e rest u 0 (escape_element rest x) (omega arith) in omega (arith, g)
text_reaches (unit_and_more {u = u} {more = more} {rest = rest} p t) = let g = goes_on (u ∷ []) (more ++ rest) u (length more) (plain_element u (more ++ rest) p) (text_reaches t) in omega (arith, g)
text_reaches (escape_and_more {e = e} {more = more} {rest = rest} {u = u} x t) =
    let g = goes_on e (more ++ rest) u (length more) (escape_element (more ++ rest) x) (text_reaches t) in
    subst (λ l. length (e ++ more) ≤ text_length l) (sym (append_assoc e more rest)) (let l = length-append e more in omega (arith, g, l))

-- an element's first unit ends no text, and begins no name and no hole
data BeginsText (text : List ℕ) : Type 0 where
  begins : {e : Element} → element_of text ≡ Some e → BeginsText text

text_begins : {w rest : List ℕ} → IsText w rest → BeginsText (w ++ rest)
text_begins (one_unit {u = u} {rest = rest} p) = begins (plain_element u rest p)
text_begins (one_escape {rest = rest} x) = begins (escape_element rest x)
text_begins (unit_and_more {u = u} {more = more} {rest = rest} p t) = begins (plain_element u (more ++ rest) p)
text_begins (escape_and_more {e = e} {more = more} {rest = rest} x t) = subst BeginsText (sym (append_assoc e more rest)) (begins (escape_element (more ++ rest) x))

none_is_some : {A B : Type 0} {x : A} → None ≡ Some x → B
none_is_some e = absurd cc

no_close : (text : List ℕ) → BeginsText text → (unit_at text 0 == 34) ≡ true → ⊥
no_close text (begins e) q = from_tests (is_empty text) (is_line_end (unit_at text 0)) (unit_at text 0 == 34) _ q e
  where
    from_tests : (a b c : Bool) (o : Option Element) {e : Element} → c ≡ true → (if a then None else (if b then None else (if c then None else o))) ≡ Some e → ⊥
    from_tests true b c o i e = none_is_some e
    from_tests false true c o i e = none_is_some e
    from_tests false false true o i e = none_is_some e
    from_tests false false false o i e = true≢false (sym i)

no_template : (text : List ℕ) → BeginsText text → (unit_at text 0 == 36) ≡ true → begins_template text ≡ true → ⊥
no_template text (begins e) q t = from_tests (is_empty text) (is_line_end (unit_at text 0)) (unit_at text 0 == 34) (unit_at text 0 == 92) (begins_template text) _ _ (ap (λ u. u == 92) (same_of (unit_at text 0) 36 q)) t e
  where
    from_tests : (a b c d t : Bool) (o p : Option Element) {e : Element} → d ≡ false → t ≡ true → (if a then None else (if b then None else (if c then None else (if d then o else (if t then None else p))))) ≡ Some e → ⊥
    from_tests true b c d t o p i j e = none_is_some e
    from_tests false true c d t o p i j e = none_is_some e
    from_tests false false true d t o p i j e = none_is_some e
    from_tests false false false true t o p i j e = true≢false i
    from_tests false false false false true o p i j e = none_is_some e
    from_tests false false false false false o p i j e = true≢false (sym j)

-- a hole in front is a template
hole_template : (text : List ℕ) → is_front (codes "${") text ≡ true → ((unit_at text 0 == 36) ≡ true) × (begins_template text ≡ true)
hole_template [] e = absurd (true≢false (sym e))
hole_template (u ∷ []) e = absurd (true≢false (sym (second_of (36 == u) e)))
hole_template (u ∷ v ∷ text) e = from_units (sym (same_of 36 u (first_of (36 == u) _ e))) (sym (same_of 123 v (first_of (123 == v) _ (second_of (36 == u) e))))
  where
    from_units : u ≡ 36 → v ≡ 123 → ((u == 36) ≡ true) × (((u == 36) && (v == 123 || nat_le 1 (name_length (v ∷ text)))) ≡ true)
    from_units i j = (ap (λ u. u == 36) i, ap (λ u. (u == 36) && (v == 123 || nat_le 1 (name_length (v ∷ text)))) i ∙ ap (λ v. v == 123 || nat_le 1 (name_length (v ∷ text))) j)

name_template : (text : List ℕ) → spec.is_string_name text ≡ true → begins_template text ≡ true
name_template text e = rw (first_of (unit_at text 0 == 36) _ e) (or_is (unit_at text 1 == 123) (second_of (unit_at text 0 == 36) e))

no_brace : (w rest : List ℕ) → starts_word w ≡ true → is_front (codes "{") (w ++ rest) ≡ true → ⊥
no_brace [] rest s e = true≢false (sym s)
no_brace (u ∷ w) rest s e = true≢false (sym (subst (λ (u : ℕ). starts_word (u ∷ w) ≡ true) (sym (same_of 123 u (first_of (123 == u) _ e))) s))

string_name_meets : (quote at : ℕ) (w rest : List ℕ) → IsName w → part_length rest ≡ 0 → Meets (suc (length w)) shape.StringName (spec.string_piece quote at (36 ∷ w ++ rest))
string_name_meets quote at w rest n e =
    let l = whole_name w rest n e in
    let s = starts_some w n.word.begins in
    let b : nat_le 1 (name_length (w ++ rest)) ≡ true = least (name_length (w ++ rest)) (omega (arith, l, s, n.word.whole)) in
    if_piece (Meets (suc (length w)) shape.StringName) (is_empty (36 ∷ w ++ rest)) (λ i. clash i (suc_some (length (w ++ rest)))) (λ i.
    if_piece (Meets (suc (length w)) shape.StringName) (is_front (codes "{") (w ++ rest)) (λ i. absurd (no_brace w rest n.word.begins i)) (λ i.
    if_piece (Meets (suc (length w)) shape.StringName) (nat_le 1 (name_length (w ++ rest))) (λ i. meets (omega (arith, l)) (λ i. refl)) (λ i. clash b i)))
  where
    least : (n : ℕ) → 1 ≤ n → nat_le 1 n ≡ true
    least n h = grind (arith, h)

some_text : (text : List ℕ) → BeginsText text → 1 ≤ text_length text
some_text text (begins e) = let g = text_goes text e in let f = fits_of text e in omega (arith, g, f.some)

not_ended : (text : List ℕ) → BeginsText text → (is_empty text ≡ false) × (is_line_end (unit_at text 0) ≡ false)
not_ended text (begins e) = from_tests (is_empty text) (is_line_end (unit_at text 0)) _ e
  where
    from_tests : (a b : Bool) (o : Option Element) {e : Element} → (if a then None else (if b then None else o)) ≡ Some e → (a ≡ false) × (b ≡ false)
    from_tests true b o e = none_is_some e
    from_tests false true o e = none_is_some e
    from_tests false false o e = (refl, refl)

string_text_meets : (quote at : ℕ) (m : ℕ) (text : List ℕ) → BeginsText text → m ≤ text_length text → Meets m shape.StringText (spec.string_piece quote at text)
string_text_meets quote at m text b h =
    if_piece (Meets m shape.StringText) (is_empty text) (λ i. clash i (not_ended text b).0) (λ i.
    if_piece (Meets m shape.StringText) (is_line_end (unit_at text 0)) (λ i. clash i (not_ended text b).1) (λ i.
    if_piece (Meets m shape.StringText) (unit_at text 0 == 34) (λ i. absurd (no_close text b i)) (λ i.
    if_piece (Meets m shape.StringText) (is_front (codes "${") text) (λ i. let t = hole_template text i in absurd (no_template text b t.0 t.1)) (λ i.
    if_piece (Meets m shape.StringText) (spec.is_string_name text) (λ i. absurd (no_template text b (first_of (unit_at text 0 == 36) _ i) (name_template text i))) (λ i.
    if_piece (Meets m shape.StringText) (text_length text == 0) (λ i. let z = same_of (text_length text) 0 i in let o = some_text text b in absurd (omega (arith, z, o))) (λ i. meets h (λ i. refl)))))))

string_meets : (quote at : ℕ) {w rest : List ℕ} {t : Shape} → StringSpells w rest t → Meets (length w) t (spec.string_piece quote at (w ++ rest))
string_meets quote at (a_string_close {rest = rest}) = if_piece (Meets 1 shape.StringClose) (is_empty (34 ∷ rest)) (λ i. clash i (suc_some (length rest))) (λ i. meets (omega arith) (λ i. refl))
string_meets quote at (a_hole_open {rest = rest}) = if_piece (Meets 2 shape.HoleOpen) (is_empty (36 ∷ 123 ∷ rest)) (λ i. clash i (suc_some (suc (length rest)))) (λ i. meets (omega arith) (λ i. refl))
string_meets quote at (a_string_name {w = w} {rest = rest} n e) = string_name_meets quote at w rest n e
string_meets quote at (a_string_text {w = w} {rest = rest} t) = string_text_meets quote at (length w) (w ++ rest) (text_begins t) (text_reaches t)

-- ---- everywhere

-- where the piece is a token, it takes so many units at least
abbrev Reaches : ℕ → Piece → Type 0
Reaches m (piece.Token s n) = m ≤ n
Reaches m _ = ⊤

reaches_of : {m : ℕ} {t : Shape} {p : Piece} → Meets m t p → Reaches m p
reaches_of (meets h f) = h

of_comment_reaches : (m at : ℕ) (o : Option ℕ) → Reaches m (spec.of_comment o at)
of_comment_reaches m at None = tt
of_comment_reaches m at (Some n) = tt

abbrev is_token : Piece → Bool
is_token (piece.Token s n) = true
is_token _ = false

token_there : {m : ℕ} {t : Shape} {p : Piece} → Meets m t p → is_token p ≡ true
token_there (meets h f) = refl

module _ (inside : Option Open) (before : Lead) (at : ℕ) where
  code_reaches : (m : ℕ) (text : List ℕ) → Reaches m (spec.token_piece inside before at text) → Reaches m (spec.code_piece inside before at text)
  code_reaches m text h =
      if_piece (Reaches m) (is_empty text) (λ e. tt) (λ e.
      if_piece (Reaches m) (is_blank (unit_at text 0)) (λ e. tt) (λ e.
      if_piece (Reaches m) (is_line_end (unit_at text 0)) (λ e. tt) (λ e.
      if_piece (Reaches m) (is_front (codes "//") text) (λ e. tt) (λ e.
      if_piece (Reaches m) (is_front (codes "/*") text) (λ e. of_comment_reaches m at (close 0 (drop 2 text))) (λ e. h)))))

  -- no token begins with these
  nothing : (u v : ℕ) (text : List ℕ) → (u == v) ≡ true → is_token (spec.token_piece inside before at (v ∷ text)) ≡ false → is_token (spec.token_piece inside before at (u ∷ text)) ≡ false
  nothing u v text e h = subst (λ (u : ℕ). is_token (spec.token_piece inside before at (u ∷ text)) ≡ false) (sym (same_of u v e)) h

  no_end : (text : List ℕ) → is_empty text ≡ true → is_token (spec.token_piece inside before at text) ≡ false
  no_end [] e = refl
  no_end (u ∷ text) e = clash e (suc_some (length text))

  no_blank : (text : List ℕ) → is_blank (unit_at text 0) ≡ true → is_token (spec.token_piece inside before at text) ≡ false
  no_blank [] e = absurd (true≢false (sym e))
  no_blank (u ∷ text) e = by_tests (u == 32) (u == 9) (u == 12) refl refl refl e
    where
      by_tests : (a b c : Bool) → (u == 32) ≡ a → (u == 9) ≡ b → (u == 12) ≡ c → (a || b || c) ≡ true → is_token (spec.token_piece inside before at (u ∷ text)) ≡ false
      by_tests true b c i j k e = nothing u 32 text i refl
      by_tests false true c i j k e = nothing u 9 text j refl
      by_tests false false true i j k e = nothing u 12 text k refl
      by_tests false false false i j k e = absurd (true≢false (sym e))

  no_line : (text : List ℕ) → is_line_end (unit_at text 0) ≡ true → is_token (spec.token_piece inside before at text) ≡ false
  no_line [] e = absurd (true≢false (sym e))
  no_line (u ∷ text) e = by_tests (u == 10) (u == 13) refl refl e
    where
      by_tests : (a b : Bool) → (u == 10) ≡ a → (u == 13) ≡ b → (a || b) ≡ true → is_token (spec.token_piece inside before at (u ∷ text)) ≡ false
      by_tests true b i j e = nothing u 10 text i refl
      by_tests false true i j e = nothing u 13 text j refl
      by_tests false false i j e = absurd (true≢false (sym e))

  code_meets : {m : ℕ} {t : Shape} (text : List ℕ) → (is_front (codes "//") text || is_front (codes "/*") text) ≡ false → Meets m t (spec.token_piece inside before at text) → Meets m t (spec.code_piece inside before at text)
  code_meets {m = m} {t = t} text c h =
      if_piece (Meets m t) (is_empty text) (λ e. clash (token_there h) (no_end text e)) (λ e.
      if_piece (Meets m t) (is_blank (unit_at text 0)) (λ e. clash (token_there h) (no_blank text e)) (λ e.
      if_piece (Meets m t) (is_line_end (unit_at text 0)) (λ e. clash (token_there h) (no_line text e)) (λ e.
      if_piece (Meets m t) (is_front (codes "//") text) (λ e. clash e (left_false (is_front (codes "//") text) _ c)) (λ e.
      if_piece (Meets m t) (is_front (codes "/*") text) (λ e. clash e (right_false (is_front (codes "//") text) _ c)) (λ e. h)))))

-- what is spelled is no longer than the token in front
spelled_reaches : (inside : Option Open) (before : Lead) (at : ℕ) (w rest : List ℕ) (t : Shape) → Spells inside before at w rest t → Reaches (length w) (spec.piece_of inside before at (w ++ rest))
spelled_reaches (Some (bracket.Quote quote)) before at w rest t s = reaches_of (string_meets quote at s)
spelled_reaches None before at w rest t s = code_reaches None before at (length w) (w ++ rest) (reaches_of (token_meets None before at s))
spelled_reaches (Some bracket.Round) before at w rest t s = code_reaches (Some bracket.Round) before at (length w) (w ++ rest) (reaches_of (token_meets (Some bracket.Round) before at s))
spelled_reaches (Some bracket.Square) before at w rest t s = code_reaches (Some bracket.Square) before at (length w) (w ++ rest) (reaches_of (token_meets (Some bracket.Square) before at s))
spelled_reaches (Some bracket.Brace) before at w rest t s = code_reaches (Some bracket.Brace) before at (length w) (w ++ rest) (reaches_of (token_meets (Some bracket.Brace) before at s))
spelled_reaches (Some bracket.Hole) before at w rest t s = code_reaches (Some bracket.Hole) before at (length w) (w ++ rest) (reaches_of (token_meets (Some bracket.Hole) before at s))

-- and where no comment begins it meets the token
spelled_meets : (inside : Option Open) (before : Lead) (at : ℕ) (w rest : List ℕ) (t : Shape) → begins_comment inside (w ++ rest) ≡ false → Spells inside before at w rest t → Meets (length w) t (spec.piece_of inside before at (w ++ rest))
spelled_meets (Some (bracket.Quote quote)) before at w rest t c s = string_meets quote at s
spelled_meets None before at w rest t c s = code_meets None before at (w ++ rest) c (token_meets None before at s)
spelled_meets (Some bracket.Round) before at w rest t c s = code_meets (Some bracket.Round) before at (w ++ rest) c (token_meets (Some bracket.Round) before at s)
spelled_meets (Some bracket.Square) before at w rest t c s = code_meets (Some bracket.Square) before at (w ++ rest) c (token_meets (Some bracket.Square) before at s)
spelled_meets (Some bracket.Brace) before at w rest t c s = code_meets (Some bracket.Brace) before at (w ++ rest) c (token_meets (Some bracket.Brace) before at s)
spelled_meets (Some bracket.Hole) before at w rest t c s = code_meets (Some bracket.Hole) before at (w ++ rest) c (token_meets (Some bracket.Hole) before at s)

pub token_is_longest : TokenIsLongest
token_is_longest inside before at text s n e t m more within spells =
    let r = spelled_reaches inside before at (take m text) (drop m text) t spells in
    let p : spec.piece_of inside before at (take m text ++ drop m text) ≡ piece.Token s n = ap (spec.piece_of inside before at) (take-append-drop m text) ∙ e in
    let h : length (take m text) ≤ n = subst (Reaches (length (take m text))) p r in
    let l = length-take-le m text within in
    omega (arith, h, l, more)

-- a token that takes no more units than are known is of the known shape
exact : {n : ℕ} {t : Shape} {p : Piece} → Meets n t p → ((s : Shape) (k : ℕ) → p ≡ piece.Token s k → n < k → ⊥) → p ≡ piece.Token t n
exact {n = n} {t = t} (meets {s = s} {n = k} h f) g = by_order (nat_le k n) refl
  where
    more : (k n : ℕ) → nat_le k n ≡ false → n < k
    more k n e = grind (arith, e)

    by_order : (b : Bool) → nat_le k n ≡ b → piece.Token s k ≡ piece.Token t n
    by_order true e = let i : k ≡ n = let l = at_least k n e in omega (arith, h, l) in ap (λ s. piece.Token s k) (f i) ∙ ap (λ k. piece.Token t k) i
    by_order false e = absurd (g s k refl (more k n e))

-- as many units as a token takes are there
abbrev pub Within : ℕ → Piece → Type 0
Within size (piece.Token s n) = n ≤ size
Within size _ = ⊤

pub within_of : {p : Piece} {size : ℕ} → Fits p size → Within size p
within_of (gap_fits h l) = tt
within_of (line_fits h) = tt
within_of (token_fits h l) = l
within_of bad_fits = tt
within_of end_fits = tt

pub spelled_is_token : SpelledIsToken
spelled_is_token inside before at text s n c within spells longest =
    let j = take-append-drop n text in
    let m = spelled_meets inside before at (take n text) (drop n text) s (ap (begins_comment inside) j ∙ c) spells in
    let l : Meets n s (spec.piece_of inside before at text) = subst (λ (k : ℕ). Meets k s (spec.piece_of inside before at text)) (length-take-le n text within) (subst (λ x. Meets (length (take n text)) s (spec.piece_of inside before at x)) j m) in
    exact l (λ t k e more. longest t k more (subst (Within (length text)) e (within_of (piece_fits inside before at text))) (token_is_spelled inside before at text t k e))
