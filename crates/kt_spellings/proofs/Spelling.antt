-- A token is spelled by the units that it takes.
use Rattle.std.proofs.Common.{◌≡◌, ℕ, zero, suc, ◌+◌, ◌≤◌, ◌==◌, nat_le, ◌&&◌, ◌||◌, Bool, true, false, if◌then◌else◌, List, [], ◌∷◌, ◌++◌, length, take, drop, Option, Some, None, refl, sym, ap, subst, ◌∙◌, arith, true≢false, append-nil}
use Rattle.std.specs.Prelude.{codes, ⊤}
use Rattle.std.specs.Option.{is_none}
use Rattle.std.proofs.lemmas.List.{length-take-le, get_or-take, take_more, take-append-drop, drop-drop, length-drop}
use Rattle.kt_lexer.specs.declared.token.Keyword.{Keyword}
use Rattle.kt_lexer.specs.declared.token.Keyword.TheVariants as keyword
use Rattle.kt_lexer.specs.declared.token.Operator.{Operator}
use Rattle.kt_lexer.specs.declared.token.Operator.TheVariants as operator
use Rattle.kt_lexer.specs.declared.numbers.Number.{Number}
use Rattle.kt_lexer.specs.declared.numbers.Number.TheVariants as number
use Rattle.kt_lexer.specs.declared.strings.Element.{Element}
use Rattle.kt_lexer.specs.declared.pieces.Shape.{Shape}
use Rattle.kt_lexer.specs.declared.pieces.Shape.TheVariants as shape
use Rattle.kt_lexer.specs.declared.pieces.Piece.{Piece}
use Rattle.kt_lexer.specs.declared.pieces.Piece.TheVariants as piece
use Rattle.kt_lexer.specs.declared.pieces.Open.{Open}
use Rattle.kt_lexer.specs.declared.pieces.Open.TheVariants as bracket
use Rattle.kt_lexer.specs.declared.pieces.Lead.{Lead}
use Rattle.kt_lexer.specs.declared.pieces.Lead.TheVariants as lead
use Rattle.kt_lexer.specs.Characters.{unit_at, is_empty, is_front, is_blank, is_line_end, is_digit, starts_word, part_length, word_length}
use Rattle.kt_lexer.specs.Words.{keyword_of, word_of, name_length}
use Rattle.kt_lexer.specs.Operators.{find_front, with_length, operator_of, of_three, assignments, other_pairs, signs, brackets}
use Rattle.kt_lexer.specs.Numbers.{number_of}
use Rattle.kt_lexer.specs.Strings.{letter_escape, is_hex, unit_escape, of_letter, escape_of, four_digits, begins_template, element, element_of, name_behind, text_length}
use Rattle.kt_lexer.specs.Comments.{close}
use Rattle.kt_lexer.specs.Pieces as spec
use Rattle.kt_lexer.proofs.Elements.{same_of, unit_within, text_stops, text_goes, fits_of}
use Rattle.kt_lexer.proofs.Longest.{longest_word}
use Rattle.kt_lexer.proofs.Sizes.{word_within, digit_some}
use Rattle.kt_spellings.specs.Spellings.{IsWord, IsName, Escape, by_letter, by_digits, IsPlain, IsText, one_unit, one_escape, unit_and_more, escape_and_more, Spelled, here, there, operators, read_behind, CodeSpells, a_keyword, as_safe, not_in, not_is, a_name, a_label, a_label_use, a_number, a_character, an_escaped_character, a_string_open, a_hole_close, an_operator, StringSpells, a_string_close, a_hole_open, a_string_name, a_string_text}
use Rattle.kt_spellings.specs.Laws.{TokenIsSpelled}
use Rattle.kt_spellings.proofs.Words.{run_alone, begins_take}

pub first_of : (b c : Bool) → (b && c) ≡ true → b ≡ true
first_of true c e = refl
first_of false c e = absurd (true≢false (sym e))

pub second_of : (b : Bool) {c : Bool} → (b && c) ≡ true → c ≡ true
second_of true e = e
second_of false e = absurd (true≢false (sym e))

pub at_least : (m n : ℕ) → nat_le m n ≡ true → m ≤ n
at_least m n e = grind (arith, e)

-- what holds of both branches of a test holds of the test
pub if_piece : (P : Piece → Type 0) (b : Bool) {x y : Piece} → (b ≡ true → P x) → (b ≡ false → P y) → P (if b then x else y)
if_piece P true f g = f refl
if_piece P false f g = g refl

-- a spelling in front is what the text begins with
pub front_is : (w text : List ℕ) → is_front w text ≡ true → take (length w) text ≡ w
front_is [] text e = refl
front_is (s ∷ w) [] e = absurd (true≢false (sym e))
front_is (s ∷ w) (u ∷ text) e = ap (λ v. v ∷ take (length w) text) (sym (same_of s u (first_of (s == u) _ e))) ∙ ap (λ l. s ∷ l) (front_is w text (second_of (s == u) e))

-- one unit more
joined : (text : List ℕ) (n u : ℕ) → (unit_at text n == u) ≡ true → 1 ≤ u → take (n + 1) text ≡ take n text ++ u ∷ []
joined text n u e h = take_more text n 0 (unit_within text n u e h) ∙ ap (λ v. take n text ++ v ∷ []) (same_of (unit_at text n) u e)

plus_one : (n : ℕ) → suc n ≡ n + 1
plus_one n = omega arith

-- ---- words and names

pub word_there : (text : List ℕ) → starts_word text ≡ true → IsWord (take (word_length text) text)
word_there text e = record { begins = begins_take text e; whole = run_alone text ∙ sym (length-take-le (word_length text) text (word_within text)) }

none_of : {A : Type 0} (o : Option A) → is_none o ≡ true → o ≡ None
none_of None e = refl
none_of (Some x) e = absurd (true≢false (sym e))

-- a whole name
pub record Named (text : List ℕ) (n : ℕ) : Type 0 where
  pub name : IsName (take n text)
  pub ends : part_length (drop n text) ≡ 0

pub named : (text : List ℕ) → 1 ≤ name_length text → Named text (name_length text)
named text h = on_test (starts_word text && is_none (keyword_of (word_of text))) refl h
  where
    on_test : (b : Bool) → (starts_word text && is_none (keyword_of (word_of text))) ≡ b → 1 ≤ (if b then word_length text else 0) → Named text (if b then word_length text else 0)
    on_test true e h = record {
      name = record { word = word_there text (first_of (starts_word text) _ e); free = none_of (keyword_of (word_of text)) (second_of (starts_word text) e) };
      ends = (longest_word text).ends;
    }
    on_test false e h = absurd (omega (arith, h))

-- ---- escapes

abbrev pub EscapeTells : List ℕ → Option Element → Type 0
EscapeTells text None = ⊤
EscapeTells text (Some e) = Escape (take e.length text) e.unit

if_escape : (text : List ℕ) (b : Bool) (e : Element) → (b ≡ true → EscapeTells text (Some e)) → EscapeTells text (if b then Some e else None)
if_escape text true e f = f refl
if_escape text false e f = tt

no_hex : (b : Bool) → (b && false) ≡ true → ⊥
no_hex true e = absurd (true≢false (sym e))
no_hex false e = absurd (true≢false (sym e))

four_tell : (a b c d : ℕ) (text : List ℕ) → EscapeTells (92 ∷ 117 ∷ a ∷ b ∷ c ∷ d ∷ text) (unit_escape a b c d)
four_tell a b c d text = if_escape (92 ∷ 117 ∷ a ∷ b ∷ c ∷ d ∷ text) (is_hex a && is_hex b && is_hex c && is_hex d) (element (four_digits a b c d) 6) (λ e.
    by_digits (first_of (is_hex a) _ (first_of (is_hex a && is_hex b) _ (first_of (is_hex a && is_hex b && is_hex c) _ e)))
    (second_of (is_hex a) (first_of (is_hex a && is_hex b) _ (first_of (is_hex a && is_hex b && is_hex c) _ e)))
    (second_of (is_hex a && is_hex b) (first_of (is_hex a && is_hex b && is_hex c) _ e))
    (second_of (is_hex a && is_hex b && is_hex c) e))

few_tell : (a b c : ℕ) (text : List ℕ) → EscapeTells text (unit_escape a b c 0)
few_tell a b c text = if_escape text (is_hex a && is_hex b && is_hex c && is_hex 0) (element (four_digits a b c 0) 6) (λ e. absurd (no_hex (is_hex a && is_hex b && is_hex c) e))

digits_tell : (text : List ℕ) → EscapeTells (92 ∷ 117 ∷ text) (unit_escape (unit_at text 0) (unit_at text 1) (unit_at text 2) (unit_at text 3))
digits_tell [] = few_tell 0 0 0 (92 ∷ 117 ∷ [])
digits_tell (a ∷ []) = few_tell a 0 0 (92 ∷ 117 ∷ a ∷ [])
digits_tell (a ∷ b ∷ []) = few_tell a b 0 (92 ∷ 117 ∷ a ∷ b ∷ [])
digits_tell (a ∷ b ∷ c ∷ []) = few_tell a b c (92 ∷ 117 ∷ a ∷ b ∷ c ∷ [])
digits_tell (a ∷ b ∷ c ∷ d ∷ text) = four_tell a b c d text

letter_tells : (c : ℕ) (text : List ℕ) (o : Option ℕ) → letter_escape c ≡ o → EscapeTells (92 ∷ c ∷ text) (of_letter o)
letter_tells c text None e = tt
letter_tells c text (Some u) e = by_letter e

escape_tells : (text : List ℕ) → EscapeTells (92 ∷ text) (escape_of (92 ∷ text))
escape_tells [] = tt
escape_tells (c ∷ text) = on_test (c == 117) refl
  where
    on_test : (b : Bool) → (c == 117) ≡ b → EscapeTells (92 ∷ c ∷ text) (if b then unit_escape (unit_at text 0) (unit_at text 1) (unit_at text 2) (unit_at text 3) else of_letter (letter_escape c))
    on_test true e = subst (λ (c : ℕ). EscapeTells (92 ∷ c ∷ text) (unit_escape (unit_at text 0) (unit_at text 1) (unit_at text 2) (unit_at text 3))) (sym (same_of c 117 e)) (digits_tell text)
    on_test false e = letter_tells c text (letter_escape c) refl

-- ---- operators

-- an operator in front, with its length, is one of the table
pub data Listed (text : List ℕ) : Option (Operator × ℕ) → Type 0 where
  not_listed : Listed text None
  listed : {k : Operator} {n : ℕ} → 1 ≤ n → Spelled (take n text) k operators → Listed text (Some (k, n))

pub spelled_left : {w : List ℕ} {k : Operator} {a : List (List ℕ × Operator)} (b : List (List ℕ × Operator)) → Spelled w k a → Spelled w k (a ++ b)
spelled_left b (here e f) = here e f
spelled_left b (there s) = there (spelled_left b s)

pub spelled_right : {w : List ℕ} {k : Operator} (a : List (List ℕ × Operator)) {b : List (List ℕ × Operator)} → Spelled w k b → Spelled w k (a ++ b)
spelled_right [] s = s
spelled_right (x ∷ a) s = there (spelled_right a s)

-- all spellings of a table have this length
abbrev are_long : ℕ → List (List ℕ × Operator) → Bool
are_long n [] = true
are_long n (e ∷ es) = length e.0 == n && are_long n es

if_listed : {text : List ℕ} (n : ℕ) (k : Operator) (b : Bool) (o : Option Operator) (other : Option (Operator × ℕ)) → (b ≡ true → Listed text (Some (k, n))) → Listed text (with_length n o other) → Listed text (with_length n (if b then Some k else o) other)
if_listed n k true o other f r = f refl
if_listed n k false o other f r = r

with_listed : (n : ℕ) (text : List ℕ) (table : List (List ℕ × Operator)) (other : Option (Operator × ℕ)) → 1 ≤ n → are_long n table ≡ true → ((w : List ℕ) (k : Operator) → Spelled w k table → Spelled w k operators) → Listed text other → Listed text (with_length n (find_front text table) other)
with_listed n text [] other h l f o = o
with_listed n text (e ∷ es) other h l f o =
    if_listed n e.1 (is_front e.0 text) (find_front text es) other
    (λ i. listed h (f (take n text) e.1 (here (sym (front_is e.0 text i) ∙ ap (λ m. take m text) (same_of (length e.0) n (first_of (length e.0 == n) _ l))) refl)))
    (with_listed n text es other h (second_of (length e.0 == n) l) (λ w k s. f w k (there s)) o)

pub operator_listed : (text : List ℕ) → Listed text (operator_of text)
operator_listed text =
    with_listed 3 text of_three _ (omega arith) refl (λ w k s. spelled_left _ s) (
    with_listed 2 text assignments _ (omega arith) refl (λ w k s. spelled_right of_three (spelled_left _ s)) (
    with_listed 2 text other_pairs _ (omega arith) refl (λ w k s. spelled_right of_three (spelled_right assignments (spelled_left _ s))) (
    with_listed 1 text signs _ (omega arith) refl (λ w k s. spelled_right of_three (spelled_right assignments (spelled_right other_pairs (spelled_left _ s)))) (
    with_listed 1 text brackets None (omega arith) refl (λ w k s. spelled_right of_three (spelled_right assignments (spelled_right other_pairs (spelled_right signs s)))) not_listed))))

-- ---- outside of strings

-- where the piece is a token, it is spelled
abbrev Tells : Option Open → Lead → ℕ → List ℕ → Piece → Type 0
Tells inside before at text (piece.Token s n) = CodeSpells inside before at (take n text) (drop n text) s
Tells inside before at text _ = ⊤

jumps : (before : Lead) (at : ℕ) → spec.is_jump before at ≡ true → before ≡ lead.Jump at
jumps (lead.Jump end) at e = ap lead.Jump (same_of end at e)
jumps lead.Minus at e = absurd (true≢false (sym e))
jumps lead.Dot at e = absurd (true≢false (sym e))
jumps lead.Other at e = absurd (true≢false (sym e))

in_hole : (inside : Option Open) → spec.is_hole inside ≡ true → inside ≡ Some bracket.Hole
in_hole (Some bracket.Hole) e = refl
in_hole (Some bracket.Round) e = absurd (true≢false (sym e))
in_hole (Some bracket.Square) e = absurd (true≢false (sym e))
in_hole (Some bracket.Brace) e = absurd (true≢false (sym e))
in_hole (Some (bracket.Quote q)) e = absurd (true≢false (sym e))
in_hole None e = absurd (true≢false (sym e))

module _ (inside : Option Open) (before : Lead) (at : ℕ) where
  -- a spelling of one unit
  one_tells : {s : Shape} (u : ℕ) (text : List ℕ) → (unit_at text 0 == u) ≡ true → 1 ≤ u → ((rest : List ℕ) → CodeSpells inside before at (u ∷ []) rest s) → CodeSpells inside before at (take 1 text) (drop 1 text) s
  one_tells {s = s} u text e h f = subst (λ w. CodeSpells inside before at w (drop 1 text) s) (sym (joined text 0 u e h)) (f (drop 1 text))

  of_word_tells : (text : List ℕ) (n : ℕ) → IsWord (take n text) → (k : Option Keyword) → keyword_of (take n text) ≡ k → Tells inside before at text (spec.of_word k n (unit_at text n))
  of_word_tells text n w (Some keyword.As) i = if_piece (Tells inside before at text) (unit_at text n == 63)
      (λ e. subst (λ w. CodeSpells inside before at w (drop (n + 1) text) (shape.Word keyword.AsSafe)) (sym (joined text n 63 e (omega arith))) (as_safe w i))
      (λ e. a_keyword w i)
  of_word_tells text n w (Some _) i = a_keyword w i
  of_word_tells text n w None i = if_piece (Tells inside before at text) (unit_at text n == 64)
      (λ e. subst (λ w. CodeSpells inside before at w (drop (n + 1) text) shape.Label) (sym (joined text n 64 e (omega arith))) (a_label (record { word = w; free = i })))
      (λ e. a_name (record { word = w; free = i }))

  word_tells : (text : List ℕ) → starts_word text ≡ true → Tells inside before at text (spec.word_piece text)
  word_tells text e = of_word_tells text (word_length text) (word_there text e) (keyword_of (word_of text)) refl

  of_number_tells : (text : List ℕ) → is_digit (unit_at text 0) ≡ true → (k : Number) → number_of (spec.is_minus before) (word_of text) ≡ k → Tells inside before at text (spec.of_number k (word_length text) at)
  of_number_tells text e number.No i = tt
  of_number_tells text e number.TooWide i = tt
  of_number_tells text e (number.Value v long) i = a_number (ap is_digit (get_or-take (word_length text) text 0 0 (digit_some text e)) ∙ e) (run_alone text ∙ sym (length-take-le (word_length text) text (word_within text))) (longest_word text).ends i

  of_operator_tells : (text : List ℕ) {o : Option (Operator × ℕ)} → Listed text o → spec.is_hole_end inside text ≡ false → Tells inside before at text (spec.of_operator o before at)
  of_operator_tells text not_listed e = tt
  of_operator_tells text (listed {k = k} {n = n} h s) e = of_kind k (an_operator s (ap (λ u. u == 125 && spec.is_hole inside) (get_or-take n text 0 0 h) ∙ e))
    where
      by_lead : (l : Lead) → CodeSpells inside before at (take n text) (drop n text) (shape.Op (read_behind operator.Times l)) → Tells inside before at text (if spec.is_dot l then piece.Token (shape.Op operator.TimesBehindDot) n else piece.Token (shape.Op operator.Times) n)
      by_lead lead.Dot t = t
      by_lead lead.Minus t = t
      by_lead (lead.Jump end) t = t
      by_lead lead.Other t = t

      of_kind : (k : Operator) → CodeSpells inside before at (take n text) (drop n text) (shape.Op (read_behind k before)) → Tells inside before at text (spec.of_operator (Some (k, n)) before at)
      of_kind operator.Times t = by_lead before t
      of_kind _ t = t

  label_use_tells : (text : List ℕ) → spec.is_label_use before at text ≡ true → Tells inside before at text (piece.Token shape.LabelUse (name_behind text + 1))
  label_use_tells [] e = absurd (true≢false (sym e))
  label_use_tells (u ∷ text) e =
      let a : (u == 64 && spec.is_jump before at) ≡ true = first_of (u == 64 && spec.is_jump before at) _ e in
      let m = named text (at_least 1 (name_length text) (second_of (u == 64 && spec.is_jump before at) e)) in
      let t : CodeSpells inside before at (64 ∷ take (name_length text) text) (drop (name_length text) text) shape.LabelUse = a_label_use (jumps before at (second_of (u == 64) a)) m.name m.ends in
      subst (λ (n : ℕ). CodeSpells inside before at (take n (u ∷ text)) (drop n (u ∷ text)) shape.LabelUse) (plus_one (name_length text))
      (subst (λ (v : ℕ). CodeSpells inside before at (v ∷ take (name_length text) text) (drop (name_length text) text) shape.LabelUse) (sym (same_of u 64 (first_of (u == 64) _ a))) t)

  operator_tells : (text : List ℕ) → Tells inside before at text (spec.operator_piece inside before at text)
  operator_tells text =
      if_piece (Tells inside before at text) (spec.is_label_use before at text) (λ e. label_use_tells text e) (λ e.
      if_piece (Tells inside before at text) (spec.is_negated (codes "!in") text) (λ e. subst (λ w. CodeSpells inside before at w (drop 3 text) (shape.Word keyword.NotIn)) (sym (front_is (codes "!in") text (first_of (is_front (codes "!in") text) _ e))) (not_in (same_of _ 0 (second_of (is_front (codes "!in") text) e)))) (λ e.
      if_piece (Tells inside before at text) (spec.is_negated (codes "!is") text) (λ e. subst (λ w. CodeSpells inside before at w (drop 3 text) (shape.Word keyword.NotIs)) (sym (front_is (codes "!is") text (first_of (is_front (codes "!is") text) _ e))) (not_is (same_of _ 0 (second_of (is_front (codes "!is") text) e)))) (λ e.
      if_piece (Tells inside before at text) (spec.is_hole_end inside text) (λ e. one_tells 125 text (first_of (unit_at text 0 == 125) _ e) (omega arith) (λ rest. a_hole_close (in_hole inside (second_of (unit_at text 0 == 125) e)))) (λ e.
      of_operator_tells text (operator_listed text) e))))

  -- `e`, the units of an escape behind the opening quote, and the closing one
  of_escape_tells : (text : List ℕ) (o : Option Element) → EscapeTells text o → Tells inside before at (39 ∷ text) (spec.of_escape o at (39 ∷ text))
  of_escape_tells text None t = tt
  of_escape_tells text (Some e) t = on_test (unit_at (39 ∷ text) (e.length + 1) == 39) refl
    where
      on_test : (b : Bool) → (unit_at (39 ∷ text) (e.length + 1) == 39) ≡ b → Tells inside before at (39 ∷ text) (spec.closed_character b e.unit (e.length + 2) at)
      on_test true i =
          let j : (unit_at text e.length == 39) ≡ true = ap (λ k. unit_at (39 ∷ text) k == 39) (plus_one e.length) ∙ i in
          let s : CodeSpells inside before at (39 ∷ take (e.length + 1) text) (drop (e.length + 1) text) (shape.CharLiteral e.unit) =
          subst (λ w. CodeSpells inside before at (39 ∷ w) (drop (e.length + 1) text) (shape.CharLiteral e.unit)) (sym (joined text e.length 39 j (omega arith))) (an_escaped_character t) in
          subst (λ (k : ℕ). CodeSpells inside before at (take k (39 ∷ text)) (drop k (39 ∷ text)) (shape.CharLiteral e.unit)) (let k : suc (e.length + 1) ≡ e.length + 2 = omega arith in k) s
      on_test false i = tt

  plain_tells : (text : List ℕ) → (unit_at text 0 == 92) ≡ false → (unit_at text 0 == 39 || is_line_end (unit_at text 0)) ≡ false → Tells inside before at (39 ∷ text) (spec.closed_character (unit_at text 1 == 39) (unit_at text 0) 3 at)
  plain_tells [] e f = tt
  plain_tells (u ∷ []) e f = tt
  plain_tells (u ∷ v ∷ text) e f = on_test (v == 39) refl
    where
      on_test : (b : Bool) → (v == 39) ≡ b → Tells inside before at (39 ∷ u ∷ v ∷ text) (spec.closed_character b u 3 at)
      on_test true i = subst (λ (v : ℕ). CodeSpells inside before at (39 ∷ u ∷ v ∷ []) text (shape.CharLiteral u)) (sym (same_of v 39 i)) (a_character e f)
      on_test false i = tt

  escaped_tells : (text : List ℕ) → (unit_at text 0 == 92) ≡ true → Tells inside before at (39 ∷ text) (spec.of_escape (escape_of text) at (39 ∷ text))
  escaped_tells [] e = absurd (true≢false (sym e))
  escaped_tells (u ∷ text) e = subst (λ (u : ℕ). Tells inside before at (39 ∷ u ∷ text) (spec.of_escape (escape_of (u ∷ text)) at (39 ∷ u ∷ text))) (sym (same_of u 92 e)) (of_escape_tells (92 ∷ text) (escape_of (92 ∷ text)) (escape_tells text))

  quoted_tells : (text : List ℕ) → Tells inside before at (39 ∷ text) (spec.character_piece at (39 ∷ text))
  quoted_tells text =
      if_piece (Tells inside before at (39 ∷ text)) (unit_at text 0 == 92) (λ e. escaped_tells text e) (λ e.
      if_piece (Tells inside before at (39 ∷ text)) (unit_at text 0 == 39 || is_line_end (unit_at text 0)) (λ f. tt) (λ f. plain_tells text e f))

  character_tells : (text : List ℕ) → (unit_at text 0 == 39) ≡ true → Tells inside before at text (spec.character_piece at text)
  character_tells [] e = absurd (true≢false (sym e))
  character_tells (u ∷ text) e = subst (λ (u : ℕ). Tells inside before at (u ∷ text) (spec.character_piece at (u ∷ text))) (sym (same_of u 39 e)) (quoted_tells text)

  token_tells : (text : List ℕ) → Tells inside before at text (spec.token_piece inside before at text)
  token_tells text =
      if_piece (Tells inside before at text) (starts_word text) (λ e. word_tells text e) (λ e.
      if_piece (Tells inside before at text) (is_digit (unit_at text 0)) (λ e. of_number_tells text e (number_of (spec.is_minus before) (word_of text)) refl) (λ e.
      if_piece (Tells inside before at text) (unit_at text 0 == 39) (λ e. character_tells text e) (λ e.
      if_piece (Tells inside before at text) (unit_at text 0 == 34) (λ e. one_tells 34 text e (omega arith) (λ rest. a_string_open)) (λ e.
      operator_tells text))))

  of_comment_tells : (text : List ℕ) (o : Option ℕ) → Tells inside before at text (spec.of_comment o at)
  of_comment_tells text None = tt
  of_comment_tells text (Some n) = tt

  code_tells : (text : List ℕ) → Tells inside before at text (spec.code_piece inside before at text)
  code_tells text =
      if_piece (Tells inside before at text) (is_empty text) (λ e. tt) (λ e.
      if_piece (Tells inside before at text) (is_blank (unit_at text 0)) (λ e. tt) (λ e.
      if_piece (Tells inside before at text) (is_line_end (unit_at text 0)) (λ e. tt) (λ e.
      if_piece (Tells inside before at text) (is_front (codes "//") text) (λ e. tt) (λ e.
      if_piece (Tells inside before at text) (is_front (codes "/*") text) (λ e. of_comment_tells text (close 0 (drop 2 text))) (λ e.
      token_tells text)))))

-- ---- within strings

abbrev TellsString : List ℕ → Piece → Type 0
TellsString text (piece.Token s n) = StringSpells (take n text) (drop n text) s
TellsString text _ = ⊤

-- the first unit of a string's text
data FirstUnit : List ℕ → Option Element → Type 0 where
  no_unit : {text : List ℕ} → FirstUnit text None
  a_unit : {u : ℕ} {text : List ℕ} → IsPlain u text → FirstUnit (u ∷ text) (Some (element u 1))
  an_escape : {text : List ℕ} {e : Element} → Escape (take e.length text) e.unit → FirstUnit text (Some e)

if_first : (text : List ℕ) (b : Bool) {x y : Option Element} → (b ≡ true → FirstUnit text x) → (b ≡ false → FirstUnit text y) → FirstUnit text (if b then x else y)
if_first text true f g = f refl
if_first text false f g = g refl

of_escape_first : (text : List ℕ) (o : Option Element) → EscapeTells text o → FirstUnit text o
of_escape_first text None t = no_unit
of_escape_first text (Some e) t = an_escape t

first_unit : (text : List ℕ) → FirstUnit text (element_of text)
first_unit [] = no_unit
first_unit (u ∷ text) =
    if_first (u ∷ text) (is_empty (u ∷ text)) (λ e. no_unit) (λ some.
    if_first (u ∷ text) (is_line_end u) (λ e. no_unit) (λ line_end.
    if_first (u ∷ text) (u == 34) (λ e. no_unit) (λ quote.
    if_first (u ∷ text) (u == 92) (λ e. subst (λ (u : ℕ). FirstUnit (u ∷ text) (escape_of (u ∷ text))) (sym (same_of u 92 e)) (of_escape_first (92 ∷ text) (escape_of (92 ∷ text)) (escape_tells text))) (λ escape.
    if_first (u ∷ text) (begins_template (u ∷ text)) (λ e. no_unit) (λ template.
    a_unit (record { no_quote = quote; no_escape = escape; no_line_end = line_end; no_template = template }))))))

none_taken : (n : ℕ) → ◌≡◌ {A = List ℕ} (take n []) []
none_taken zero = refl
none_taken (suc n) = refl

take_plus : (a b : ℕ) (xs : List ℕ) → take (a + b) xs ≡ take a xs ++ take b (drop a xs)
take_plus zero b xs = ap (λ n. take n xs) (let e : 0 + b ≡ b = omega arith in e)
take_plus (suc a) b [] = none_taken (suc a + b) ∙ sym (none_taken b)
take_plus (suc a) b (x ∷ xs) = ap (λ n. take n (x ∷ xs)) (let e : suc a + b ≡ suc (a + b) = omega arith in e) ∙ ap (λ l. x ∷ l) (take_plus a b xs)

-- text of a string that begins with this element, and goes on for so many units
text_by : {text : List ℕ} {e : Element} (m : ℕ) → FirstUnit text (Some e) → (1 ≤ m → IsText (take m (drop e.length text)) (drop m (drop e.length text))) → IsText (take e.length text ++ take m (drop e.length text)) (drop m (drop e.length text))
text_by zero (a_unit p) g = one_unit p
text_by zero (an_escape {text = text} {e = e} x) g = subst (λ w. IsText w (drop e.length text)) (sym (append-nil (take e.length text))) (one_escape x)
text_by (suc m) (a_unit {u = u} {text = text} p) g = unit_and_more (subst (λ l. IsPlain u l) (sym (take-append-drop (suc m) text)) p) (g (omega arith))
text_by (suc m) (an_escape x) g = escape_and_more x (g (omega arith))

text_from : (text : List ℕ) (o : Option Element) → element_of text ≡ o → FirstUnit text o → 1 ≤ text_length text
    → ((e : Element) → element_of text ≡ Some e → 1 ≤ text_length (drop e.length text) → IsText (take (text_length (drop e.length text)) (drop e.length text)) (drop (text_length (drop e.length text)) (drop e.length text)))
    → IsText (take (text_length text) text) (drop (text_length text) text)
text_from text None i f some g = absurd (let s = text_stops text i in omega (arith, some, s))
text_from text (Some e) i f some g =
    let m = text_length (drop e.length text) in
    subst (λ (n : ℕ). IsText (take n text) (drop n text)) (sym (text_goes text i))
    (subst (λ w. IsText w (drop (e.length + m) text)) (sym (take_plus e.length m text))
    (subst (λ l. IsText (take e.length text ++ take m (drop e.length text)) l) (drop-drop m e.length text) (text_by m f (g e i))))

text_spells : (fuel : ℕ) (text : List ℕ) → length text ≤ fuel → 1 ≤ text_length text → IsText (take (text_length text) text) (drop (text_length text) text)
text_spells zero [] h some = absurd (omega (arith, some))
text_spells zero (u ∷ text) h some = absurd (omega (arith, h))
text_spells (suc fuel) text h some = text_from text (element_of text) refl (first_unit text) some (λ e i k.
    let s = fits_of text i in
    text_spells fuel (drop e.length text) (omega (arith, h, s.some, s.within, length-drop e.length text)) k)

string_name_tells : (text : List ℕ) → spec.is_string_name text ≡ true → StringSpells (take (name_behind text + 1) text) (drop (name_behind text + 1) text) shape.StringName
string_name_tells [] e = absurd (true≢false (sym e))
string_name_tells (u ∷ text) e =
    let m = named text (at_least 1 (name_length text) (second_of (u == 36) e)) in
    let t : StringSpells (36 ∷ take (name_length text) text) (drop (name_length text) text) shape.StringName = a_string_name m.name m.ends in
    subst (λ (n : ℕ). StringSpells (take n (u ∷ text)) (drop n (u ∷ text)) shape.StringName) (plus_one (name_length text))
    (subst (λ (v : ℕ). StringSpells (v ∷ take (name_length text) text) (drop (name_length text) text) shape.StringName) (sym (same_of u 36 (first_of (u == 36) _ e))) t)

string_tells : (quote at : ℕ) (text : List ℕ) → TellsString text (spec.string_piece quote at text)
string_tells quote at text =
    if_piece (TellsString text) (is_empty text) (λ e. tt) (λ e.
    if_piece (TellsString text) (is_line_end (unit_at text 0)) (λ e. tt) (λ e.
    if_piece (TellsString text) (unit_at text 0 == 34) (λ e. subst (λ w. StringSpells w (drop 1 text) shape.StringClose) (sym (joined text 0 34 e (omega arith))) a_string_close) (λ e.
    if_piece (TellsString text) (is_front (codes "${") text) (λ e. subst (λ w. StringSpells w (drop 2 text) shape.HoleOpen) (sym (front_is (codes "${") text e)) a_hole_open) (λ e.
    if_piece (TellsString text) (spec.is_string_name text) (λ e. string_name_tells text e) (λ e.
    if_piece (TellsString text) (text_length text == 0) (λ e. tt) (λ e. a_string_text (text_spells (length text) text (omega arith) (some_of (text_length text) e))))))))
  where
    some_of : (n : ℕ) → (n == 0) ≡ false → 1 ≤ n
    some_of n e = grind (arith, e)

-- ---- everywhere

pub token_is_spelled : TokenIsSpelled
token_is_spelled (Some (bracket.Quote quote)) before at text s n e = subst (TellsString text) e (string_tells quote at text)
token_is_spelled None before at text s n e = subst (Tells None before at text) e (code_tells None before at text)
token_is_spelled (Some bracket.Round) before at text s n e = subst (Tells (Some bracket.Round) before at text) e (code_tells (Some bracket.Round) before at text)
token_is_spelled (Some bracket.Square) before at text s n e = subst (Tells (Some bracket.Square) before at text) e (code_tells (Some bracket.Square) before at text)
token_is_spelled (Some bracket.Brace) before at text s n e = subst (Tells (Some bracket.Brace) before at text) e (code_tells (Some bracket.Brace) before at text)
token_is_spelled (Some bracket.Hole) before at text s n e = subst (Tells (Some bracket.Hole) before at text) e (code_tells (Some bracket.Hole) before at text)
