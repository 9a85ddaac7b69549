-- A piece takes some units, and no more than there are.
use Rattle.std.proofs.Common.{◌≡◌, ℕ, zero, suc, ◌+◌, ◌-◌, ◌<◌, ◌≤◌, ◌==◌, nat_le, ◌&&◌, ◌||◌, Bool, true, false, if◌then◌else◌, List, [], ◌∷◌, length, drop, Option, Some, None, refl, sym, subst, arith, true≢false}
use Rattle.std.specs.Prelude.{codes}
use Rattle.std.specs.Option.{is_none}
use Rattle.std.proofs.lemmas.List.{length-drop, length-take}
use Rattle.kt_lexer.specs.declared.token.Keyword.{Keyword}
use Rattle.kt_lexer.specs.declared.token.Keyword.TheVariants as keyword
use Rattle.kt_lexer.specs.declared.token.Operator.{Operator}
use Rattle.kt_lexer.specs.declared.token.Operator.TheVariants as operator
use Rattle.kt_lexer.specs.declared.numbers.Number.{Number}
use Rattle.kt_lexer.specs.declared.numbers.Number.TheVariants as number
use Rattle.kt_lexer.specs.declared.strings.Element.{Element}
use Rattle.kt_lexer.specs.declared.pieces.Piece.{Piece}
use Rattle.kt_lexer.specs.declared.pieces.Piece.TheVariants as piece
use Rattle.kt_lexer.specs.declared.pieces.Open.{Open}
use Rattle.kt_lexer.specs.declared.pieces.Open.TheVariants as bracket
use Rattle.kt_lexer.specs.declared.pieces.Lead.{Lead}
use Rattle.kt_lexer.specs.Characters.{unit_at, is_empty, is_front, is_blank, is_line_end, is_digit, is_ascii_letter, is_letter, is_decimal, is_pair, is_surrogate, pair_code, starts, continues, length_if, character_of, character_length, starts_word, part_length, word_length}
use Rattle.unicode.specs.GeneralCategory.{general_category}
use Rattle.kt_lexer.specs.Words.{keyword_of, word_of, name_length}
use Rattle.kt_lexer.specs.Operators.{find_front, with_length, operator_of, of_three, assignments, other_pairs, signs, brackets}
use Rattle.kt_lexer.specs.Numbers.{number_of}
use Rattle.kt_lexer.specs.Strings.{element_of, escape_of, name_behind, text_length, length_within, and_further}
use Rattle.kt_lexer.specs.Comments.{line_length, close, closed, and_units}
use Rattle.kt_lexer.specs.Pieces as spec
use Rattle.kt_lexer.specs.Pieces.{Fits, gap_fits, line_fits, token_fits, bad_fits, end_fits}
use Rattle.kt_lexer.proofs.Fronts.{front_fits}
use Rattle.kt_lexer.proofs.Runs.{word_step}
use Rattle.kt_lexer.proofs.Elements.{present, unit_within, not_empty, same_of}

if_fits : (b : Bool) {x y : Piece} {n : ℕ} → (b ≡ true → Fits x n) → (b ≡ false → Fits y n) → Fits (if b then x else y) n
if_fits true f g = f refl
if_fits false f g = g refl

first_of : (b c : Bool) → (b && c) ≡ true → b ≡ true
first_of true c e = refl
first_of false c e = absurd (true≢false (sym e))

second_of : (b : Bool) {c : Bool} → (b && c) ≡ true → c ≡ true
second_of true e = e
second_of false e = absurd (true≢false (sym e))

at_least : (m n : ℕ) → nat_le m n ≡ true → m ≤ n
at_least m n e = grind (arith, e)

-- ---- words

pub word_within : (text : List ℕ) → word_length text ≤ length text
word_within [] = omega arith
word_within (u ∷ []) = (word_step (u ∷ [])).within
word_within (u ∷ v ∷ text) = by_cases (is_pair u v) (continues (pair_code u v)) (is_surrogate u) (continues u) (word_within text) (word_within (v ∷ text))
  where
    by_cases : (p c s d : Bool) {a b n : ℕ} → a ≤ n → b ≤ suc n → (if p then (if c then 2 + a else 0) else (if s then 0 else (if d then 1 + b else 0))) ≤ suc (suc n)
    by_cases true true s d h k = omega (arith, h)
    by_cases true false s d h k = omega arith
    by_cases false c true d h k = omega arith
    by_cases false c false true h k = omega (arith, k)
    by_cases false c false false h k = omega arith

word_some : (text : List ℕ) → 1 ≤ part_length text → 1 ≤ word_length text
word_some text h = let g = (word_step text).goes h in omega (arith, g, h)

or_more : (a b c : Bool) → (a || b) ≡ true → (a || b || c) ≡ true
or_more true b c e = refl
or_more false true c e = refl
or_more false false c e = absurd (true≢false (sym e))

or_left : (a b : Bool) → a ≡ true → (a || b) ≡ true
or_left true b e = refl
or_left false b e = absurd (true≢false (sym e))

-- a character that begins an identifier goes on with one
starts_continues : (c : ℕ) → starts c ≡ true → continues c ≡ true
starts_continues c e = on_range (nat_le 128 c) e
  where
    on_range : (b : Bool) → (if b then is_letter (general_category c) else (is_ascii_letter c || c == 95)) ≡ true → (if b then (is_letter (general_category c) || is_decimal (general_category c)) else (is_ascii_letter c || c == 95 || is_digit c)) ≡ true
    on_range true i = or_left (is_letter (general_category c)) (is_decimal (general_category c)) i
    on_range false i = or_more (is_ascii_letter c) (c == 95) (is_digit c) i

length_more : (f g : ℕ → Bool) → ((c : ℕ) → f c ≡ true → g c ≡ true) → (o : Option (ℕ × ℕ)) → 1 ≤ length_if f o → 1 ≤ length_if g o
length_more f g h None k = k
length_more f g h (Some p) k = both (f p.0) (g p.0) p.1 (h p.0) k
  where
    both : (b c : Bool) (n : ℕ) → (b ≡ true → c ≡ true) → 1 ≤ (if b then n else 0) → 1 ≤ (if c then n else 0)
    both true true n i k = k
    both true false n i k = absurd (true≢false (sym (i refl)))
    both false c n i k = absurd (omega (arith, k))

pub starts_some : (text : List ℕ) → starts_word text ≡ true → 1 ≤ word_length text
starts_some text e = word_some text (length_more starts continues starts_continues (character_of (unit_at text 0) (unit_at text 1)) (at_least 1 (character_length starts (unit_at text 0) (unit_at text 1)) e))

-- a digit is an identifier character
or_last : (a b : Bool) {c : Bool} → c ≡ true → (a || b || c) ≡ true
or_last true b e = refl
or_last false true e = refl
or_last false false e = e

narrow : (b x y : Bool) → b ≡ false → y ≡ true → (if b then x else y) ≡ true
narrow true x y e i = absurd (true≢false e)
narrow false x y e i = i

digit_continues : (u : ℕ) → is_digit u ≡ true → continues u ≡ true
digit_continues u e =
    let high : u ≤ 57 = at_least u 57 (second_of (nat_le 48 u) e) in
    narrow (nat_le 128 u) _ _ (grind (arith, high)) (or_last (is_ascii_letter u) (u == 95) e)

alone : (a b c d : Bool) (k u : ℕ) → a ≡ false → continues u ≡ true → 1 ≤ length_if continues (if (a && b) && c then Some (k, 2) else (if a && d then None else Some (u, 1)))
alone true b c d k u e i = absurd (true≢false e)
alone false b c d k u e i = if_one (continues u) i
  where
    if_one : (b : Bool) → b ≡ true → 1 ≤ (if b then 1 else 0)
    if_one true j = omega arith
    if_one false j = absurd (true≢false (sym j))

digit_part : (u v : ℕ) → is_digit u ≡ true → 1 ≤ character_length continues u v
digit_part u v e =
    let high : u ≤ 57 = at_least u 57 (second_of (nat_le 48 u) e) in
    alone (nat_le 55296 u) (nat_le u 56319) (nat_le 56320 v && nat_le v 57343) (nat_le u 57343) (pair_code u v) u (grind (arith, high)) (digit_continues u e)

pub digit_some : (text : List ℕ) → is_digit (unit_at text 0) ≡ true → 1 ≤ word_length text
digit_some text e = word_some text (digit_part (unit_at text 0) (unit_at text 1) e)

-- how many units a name has
name_within : (text : List ℕ) → name_length text ≤ length text
name_within text = on_test (starts_word text && is_none (keyword_of (word_of text)))
  where
    on_test : (b : Bool) → (if b then word_length text else 0) ≤ length text
    on_test true = word_within text
    on_test false = omega arith

pub behind_within : (text : List ℕ) → 1 ≤ name_behind text → name_behind text + 1 ≤ length text
behind_within text h = let n = name_within (drop 1 text) in omega (arith, h, simp length-drop at n)

-- ---- the pieces

of_word_fits : (k : Option Keyword) (n next size : ℕ) → 1 ≤ n → n ≤ size → (1 ≤ next → n < size) → Fits (spec.of_word k n next) size
of_word_fits (Some keyword.As) n next size h l f = if_fits (next == 63) (λ e. let s = same_of next 63 e in let m = f (omega (arith, s)) in token_fits (omega arith) (omega (arith, m))) (λ e. token_fits h l)
of_word_fits (Some _) n next size h l f = token_fits h l
of_word_fits None n next size h l f = if_fits (next == 64) (λ e. let s = same_of next 64 e in let m = f (omega (arith, s)) in token_fits (omega arith) (omega (arith, m))) (λ e. token_fits h l)

word_fits : (text : List ℕ) → starts_word text ≡ true → Fits (spec.word_piece text) (length text)
word_fits text e = of_word_fits (keyword_of (word_of text)) (word_length text) (unit_at text (word_length text)) (length text) (starts_some text e) (word_within text) (λ h. present text (word_length text) h)

of_number_fits : (k : Number) (n at size : ℕ) → 1 ≤ n → n ≤ size → Fits (spec.of_number k n at) size
of_number_fits number.No n at size h l = bad_fits
of_number_fits number.TooWide n at size h l = bad_fits
of_number_fits (number.Value v long) n at size h l = token_fits h l

number_fits : (before : Lead) (at : ℕ) (text : List ℕ) → is_digit (unit_at text 0) ≡ true → Fits (spec.number_piece before at text) (length text)
number_fits before at text e = of_number_fits (number_of (spec.is_minus before) (word_of text)) (word_length text) at (length text) (digit_some text e) (word_within text)

closed_fits : (b : Bool) (unit n at size : ℕ) → 1 ≤ n → (b ≡ true → n ≤ size) → Fits (spec.closed_character b unit n at) size
closed_fits true unit n at size h f = token_fits h (f refl)
closed_fits false unit n at size h f = bad_fits

of_escape_fits : (e : Option Element) (at : ℕ) (text : List ℕ) → Fits (spec.of_escape e at text) (length text)
of_escape_fits None at text = bad_fits
of_escape_fits (Some e) at text = closed_fits (unit_at text (e.length + 1) == 39) e.unit (e.length + 2) at (length text) (omega arith) (λ i. let w = unit_within text (e.length + 1) 39 i (omega arith) in omega (arith, w))

character_fits : (at : ℕ) (text : List ℕ) → Fits (spec.character_piece at text) (length text)
character_fits at text =
    if_fits (unit_at text 1 == 92) (λ e. of_escape_fits (escape_of (drop 1 text)) at text) (λ e.
    if_fits (unit_at text 1 == 39 || is_line_end (unit_at text 1)) (λ e. bad_fits) (λ e.
    closed_fits (unit_at text 2 == 39) (unit_at text 1) 3 at (length text) (omega arith) (λ i. let w = unit_within text 2 39 i (omega arith) in omega (arith, w))))

-- an operator in front, and its length
data OperatorFits : Option (Operator × ℕ) → ℕ → Type 0 where
  no_operator : {size : ℕ} → OperatorFits None size
  an_operator : {k : Operator} {n size : ℕ} → 1 ≤ n → n ≤ size → OperatorFits (Some (k, n)) size

-- all spellings of a table have this length
abbrev are_long : ℕ → List (List ℕ × Operator) → Bool
are_long n [] = true
are_long n (e ∷ es) = length e.0 == n && are_long n es

if_front : (n : ℕ) (k : Operator) (b : Bool) (o : Option Operator) (other : Option (Operator × ℕ)) (size : ℕ) → 1 ≤ n → (b ≡ true → n ≤ size) → OperatorFits (with_length n o other) size → OperatorFits (with_length n (if b then Some k else o) other) size
if_front n k true o other size h f r = an_operator h (f refl)
if_front n k false o other size h f r = r

with_fits : (n : ℕ) (text : List ℕ) (table : List (List ℕ × Operator)) (other : Option (Operator × ℕ)) → 1 ≤ n → are_long n table ≡ true → OperatorFits other (length text) → OperatorFits (with_length n (find_front text table) other) (length text)
with_fits n text [] other h l o = o
with_fits n text (e ∷ es) other h l o =
    let long = same_of (length e.0) n (first_of (length e.0 == n) _ l) in
    if_front n e.1 (is_front e.0 text) (find_front text es) other (length text) h
    (λ i. let f = front_fits e.0 text i in omega (arith, f, long))
    (with_fits n text es other h (second_of (length e.0 == n) l) o)

operator_fits : (text : List ℕ) → OperatorFits (operator_of text) (length text)
operator_fits text =
    with_fits 3 text of_three _ (omega arith) refl (
    with_fits 2 text assignments _ (omega arith) refl (
    with_fits 2 text other_pairs _ (omega arith) refl (
    with_fits 1 text signs _ (omega arith) refl (
    with_fits 1 text brackets None (omega arith) refl no_operator))))

of_operator_fits : {o : Option (Operator × ℕ)} {size : ℕ} → OperatorFits o size → (before : Lead) (at : ℕ) → Fits (spec.of_operator o before at) size
of_operator_fits no_operator before at = bad_fits
of_operator_fits (an_operator {k = k} {n = n} {size = size} h l) before at = of_kind k
  where
    of_kind : (k : Operator) → Fits (spec.of_operator (Some (k, n)) before at) size
    of_kind operator.Times = if_fits (spec.is_dot before) (λ e. token_fits h l) (λ e. token_fits h l)
    of_kind _ = token_fits h l

operator_piece_fits : (inside : Option Open) (before : Lead) (at : ℕ) (text : List ℕ) → 1 ≤ length text → Fits (spec.operator_piece inside before at text) (length text)
operator_piece_fits inside before at text some =
    if_fits (spec.is_label_use before at text) (λ e. let h = at_least 1 (name_behind text) (second_of (unit_at text 0 == 64 && spec.is_jump before at) e) in token_fits (omega arith) (behind_within text h)) (λ e.
    if_fits (spec.is_negated (codes "!in") text) (λ e. token_fits (omega arith) (front_fits (codes "!in") text (first_of (is_front (codes "!in") text) _ e))) (λ e.
    if_fits (spec.is_negated (codes "!is") text) (λ e. token_fits (omega arith) (front_fits (codes "!is") text (first_of (is_front (codes "!is") text) _ e))) (λ e.
    if_fits (spec.is_hole_end inside text) (λ e. token_fits (omega arith) some) (λ e.
    of_operator_fits (operator_fits text) before at))))

-- ---- comments

-- this many units, where it is a number, are at most as many
data AtMost : Option ℕ → ℕ → Type 0 where
  no_units : {size : ℕ} → AtMost None size
  some_units : {n size : ℕ} → n ≤ size → AtMost (Some n) size

and_at_most : (k : ℕ) {o : Option ℕ} {size : ℕ} → AtMost o size → AtMost (and_units k o) (k + size)
and_at_most k no_units = no_units
and_at_most k (some_units h) = some_units (omega (arith, h))

two_suc : (n : ℕ) → 2 + n ≡ suc (suc n)
two_suc n = omega arith

one_suc : (n : ℕ) → 1 + suc n ≡ suc (suc n)
one_suc n = omega arith

closed_at_most : (depth : ℕ) (further : ℕ → Option ℕ) (n : ℕ) → ((d : ℕ) → AtMost (further d) n) → AtMost (closed depth further) (2 + n)
closed_at_most zero further n h = some_units (omega arith)
closed_at_most (suc depth) further n h = and_at_most 2 (h depth)

if_at_most : (b : Bool) {x y : Option ℕ} {n : ℕ} → AtMost x n → AtMost y n → AtMost (if b then x else y) n
if_at_most true h k = h
if_at_most false h k = k

-- a comment's end is within the text
close_within : (depth : ℕ) (text : List ℕ) → AtMost (close depth text) (length text)
close_within depth [] = no_units
close_within depth (u ∷ []) = no_units
close_within depth (u ∷ v ∷ text) =
    if_at_most (is_front (codes "*/") (u ∷ v ∷ text)) (subst (λ (m : ℕ). AtMost (closed depth (λ d. close d text)) m) (two_suc (length text)) (closed_at_most depth (λ d. close d text) (length text) (λ d. close_within d text)))
    (if_at_most (is_front (codes "/*") (u ∷ v ∷ text)) (subst (λ (m : ℕ). AtMost (and_units 2 (close (suc depth) text)) m) (two_suc (length text)) (and_at_most 2 (close_within (suc depth) text)))
    (subst (λ (m : ℕ). AtMost (and_units 1 (close depth (v ∷ text))) m) (one_suc (length text)) (and_at_most 1 (close_within depth (v ∷ text)))))

of_comment_fits : {o : Option ℕ} {n : ℕ} → AtMost o n → (at size : ℕ) → n + 2 ≤ size → Fits (spec.of_comment o at) size
of_comment_fits no_units at size h = bad_fits
of_comment_fits (some_units l) at size h = gap_fits (omega arith) (omega (arith, l, h))

comment_fits : (at : ℕ) (text : List ℕ) → is_front (codes "/*") text ≡ true → Fits (spec.comment_piece at text) (length text)
comment_fits at text e =
    let two = front_fits (codes "/*") text e in
    of_comment_fits (close_within 0 (drop 2 text)) at (length text) (omega (arith, two, length-drop 2 text))

line_within : (text : List ℕ) → line_length text ≤ length text
line_within text = omega (arith, length-take {A = ℕ})

slash_line : (u : ℕ) (text : List ℕ) → u ≡ 47 → 1 ≤ line_length (u ∷ text)
slash_line u text e = subst (λ (v : ℕ). 1 ≤ line_length (v ∷ text)) (sym e) (omega (arith, length-take {A = ℕ}))

line_fits_there : (text : List ℕ) → is_front (codes "//") text ≡ true → Fits (piece.Gap (line_length text)) (length text)
line_fits_there [] e = absurd (true≢false (sym e))
line_fits_there (u ∷ text) e = gap_fits (slash_line u text (sym (same_of 47 u (first_of (47 == u) _ e)))) (line_within (u ∷ text))

-- ---- texts of strings

not_zero : (n : ℕ) → (n == 0) ≡ false → 1 ≤ n
not_zero zero e = absurd (true≢false e)
not_zero (suc n) e = omega arith

length_within_text : (k : ℕ) (text : List ℕ) → length_within k text ≤ length text
length_within_text k [] = omega arith
length_within_text zero (u ∷ text) = on_element (element_of (u ∷ text)) (λ k. length_within k text) (λ k. length_within_text k text)
  where
    on_element : (o : Option Element) (further : ℕ → ℕ) → ((k : ℕ) → further k ≤ length text) → and_further o further ≤ suc (length text)
    on_element None further h = omega arith
    on_element (Some e) further h = let m = h (e.length - 1) in omega (arith, m)
length_within_text (suc k) (u ∷ text) = let m = length_within_text k text in omega (arith, m)

text_within : (text : List ℕ) → text_length text ≤ length text
text_within text = length_within_text 0 text

-- ---- all pieces

code_fits : (inside : Option Open) (before : Lead) (at : ℕ) (text : List ℕ) → Fits (spec.code_piece inside before at text) (length text)
code_fits inside before at text =
    if_fits (is_empty text) (λ e. end_fits) (λ e. let some = not_empty text e in
    if_fits (is_blank (unit_at text 0)) (λ e. gap_fits (omega arith) some) (λ e.
    if_fits (is_line_end (unit_at text 0)) (λ e. line_fits some) (λ e.
    if_fits (is_front (codes "//") text) (λ e. line_fits_there text e) (λ e.
    if_fits (is_front (codes "/*") text) (λ e. comment_fits at text e) (λ e.
    if_fits (starts_word text) (λ e. word_fits text e) (λ e.
    if_fits (is_digit (unit_at text 0)) (λ e. number_fits before at text e) (λ e.
    if_fits (unit_at text 0 == 39) (λ e. character_fits at text) (λ e.
    if_fits (unit_at text 0 == 34) (λ e. token_fits (omega arith) some) (λ e.
    operator_piece_fits inside before at text some)))))))))

string_fits : (quote at : ℕ) (text : List ℕ) → Fits (spec.string_piece quote at text) (length text)
string_fits quote at text =
    if_fits (is_empty text) (λ e. bad_fits) (λ e. let some = not_empty text e in
    if_fits (is_line_end (unit_at text 0)) (λ e. bad_fits) (λ e.
    if_fits (unit_at text 0 == 34) (λ e. token_fits (omega arith) some) (λ e.
    if_fits (is_front (codes "${") text) (λ e. token_fits (omega arith) (front_fits (codes "${") text e)) (λ e.
    if_fits (spec.is_string_name text) (λ e. let h = at_least 1 (name_behind text) (second_of (unit_at text 0 == 36) e) in token_fits (omega arith) (behind_within text h)) (λ e.
    if_fits (text_length text == 0) (λ e. bad_fits) (λ e. token_fits (not_zero (text_length text) e) (text_within text)))))))

pub piece_fits : (inside : Option Open) (before : Lead) (at : ℕ) (text : List ℕ) → Fits (spec.piece_of inside before at text) (length text)
piece_fits (Some (bracket.Quote quote)) before at text = string_fits quote at text
piece_fits (Some bracket.Round) before at text = code_fits (Some bracket.Round) before at text
piece_fits (Some bracket.Square) before at text = code_fits (Some bracket.Square) before at text
piece_fits (Some bracket.Brace) before at text = code_fits (Some bracket.Brace) before at text
piece_fits (Some bracket.Hole) before at text = code_fits (Some bracket.Hole) before at text
piece_fits None before at text = code_fits None before at text
