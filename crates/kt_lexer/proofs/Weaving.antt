-- The spellings of a cut's tokens, with what is skipped between them, give the text back.
use Rattle.std.proofs.Common.{◌≡◌, ℕ, suc, ◌+◌, ◌≤◌, ◌==◌, ◌||◌, Bool, true, false, if◌then◌else◌, List, [], ◌∷◌, ◌++◌, length, take, drop, Option, Some, None, refl, sym, ap, subst, ◌∙◌, append_assoc, arith, true≢false}
use Rattle.std.specs.Prelude.{codes}
use Rattle.std.proofs.lemmas.List.{length-take, length-append, take-append-drop}
use Rattle.kt_lexer.specs.declared.token.Keyword.{Keyword}
use Rattle.kt_lexer.specs.declared.token.Keyword.TheVariants as keyword
use Rattle.kt_lexer.specs.declared.token.Operator.{Operator}
use Rattle.kt_lexer.specs.declared.token.Operator.TheVariants as operator
use Rattle.kt_lexer.specs.declared.token.Token.{Token}
use Rattle.kt_lexer.specs.declared.token.LexFault.{LexFault}
use Rattle.kt_lexer.specs.declared.numbers.Number.{Number}
use Rattle.kt_lexer.specs.declared.numbers.Number.TheVariants as number
use Rattle.kt_lexer.specs.declared.strings.Element.{Element}
use Rattle.kt_lexer.specs.declared.pieces.Shape.{Shape}
use Rattle.kt_lexer.specs.declared.pieces.Piece.{Piece}
use Rattle.kt_lexer.specs.declared.pieces.Piece.TheVariants as piece
use Rattle.kt_lexer.specs.declared.pieces.Open.{Open}
use Rattle.kt_lexer.specs.declared.pieces.Open.TheVariants as bracket
use Rattle.kt_lexer.specs.declared.pieces.Lead.{Lead}
use Rattle.kt_lexer.specs.declared.places.Place.{Place}
use Rattle.kt_lexer.specs.Characters.{unit_at, is_empty, is_front, is_blank, is_line_end, is_digit, starts_word, word_length}
use Rattle.kt_lexer.specs.Words.{keyword_of, word_of}
use Rattle.kt_lexer.specs.Operators.{operator_of}
use Rattle.kt_lexer.specs.Numbers.{number_of}
use Rattle.kt_lexer.specs.Strings.{escape_of, text_length}
use Rattle.kt_lexer.specs.Comments.{close}
use Rattle.kt_lexer.specs.Openings.{innermost}
use Rattle.kt_lexer.specs.Pieces as spec
use Rattle.kt_lexer.specs.Cut.{front, Cut, the_end, gap, line_end, one_more, start_of}
use Rattle.kt_lexer.specs.Laws as law
use Rattle.kt_lexer.specs.Laws.{Skips, Woven, GivesBack}
use Rattle.kt_lexer.proofs.Cuts.{gap_count, line_count, token_count}

-- ---- a token or a fault skips nothing

data IsPlain : Piece → Type 0 where
  a_token : {s : Shape} {n : ℕ} → IsPlain (piece.Token s n)
  a_fault : {f : LexFault} → IsPlain (piece.Bad f)

if_plain : (b : Bool) {x y : Piece} → IsPlain x → IsPlain y → IsPlain (if b then x else y)
if_plain true f g = f
if_plain false f g = g

word_plain : (k : Option Keyword) (n next : ℕ) → IsPlain (spec.of_word k n next)
word_plain (Some keyword.As) n next = if_plain (next == 63) a_token a_token
word_plain (Some _) n next = a_token
word_plain None n next = if_plain (next == 64) a_token a_token

number_plain : (k : Number) (n at : ℕ) → IsPlain (spec.of_number k n at)
number_plain number.No n at = a_fault
number_plain number.TooWide n at = a_fault
number_plain (number.Value v long) n at = a_token

closed_plain : (b : Bool) (unit n at : ℕ) → IsPlain (spec.closed_character b unit n at)
closed_plain b unit n at = if_plain b a_token a_fault

escape_plain : (e : Option Element) (at : ℕ) (text : List ℕ) → IsPlain (spec.of_escape e at text)
escape_plain None at text = a_fault
escape_plain (Some e) at text = closed_plain (unit_at text (e.length + 1) == 39) e.unit (e.length + 2) at

character_plain : (at : ℕ) (text : List ℕ) → IsPlain (spec.character_piece at text)
character_plain at text =
    if_plain (unit_at text 1 == 92) (escape_plain (escape_of (drop 1 text)) at text)
    (if_plain (unit_at text 1 == 39 || is_line_end (unit_at text 1)) a_fault
    (closed_plain (unit_at text 2 == 39) (unit_at text 1) 3 at))

operator_plain : (o : Option (Operator × ℕ)) (before : Lead) (at : ℕ) → IsPlain (spec.of_operator o before at)
operator_plain None before at = a_fault
operator_plain (Some (operator.Times, n)) before at = if_plain (spec.is_dot before) a_token a_token
operator_plain (Some (_, n)) before at = a_token

token_plain : (inside : Option Open) (before : Lead) (at : ℕ) (text : List ℕ) → IsPlain (spec.token_piece inside before at text)
token_plain inside before at text =
    if_plain (starts_word text) (word_plain (keyword_of (word_of text)) (word_length text) (unit_at text (word_length text)))
    (if_plain (is_digit (unit_at text 0)) (number_plain (number_of (spec.is_minus before) (word_of text)) (word_length text) at)
    (if_plain (unit_at text 0 == 39) (character_plain at text)
    (if_plain (unit_at text 0 == 34) a_token
    (if_plain (spec.is_label_use before at text) a_token
    (if_plain (spec.is_negated (codes "!in") text) a_token
    (if_plain (spec.is_negated (codes "!is") text) a_token
    (if_plain (spec.is_hole_end inside text) a_token
    (operator_plain (operator_of text) before at))))))))

string_plain : (quote at : ℕ) (text : List ℕ) → IsPlain (spec.string_piece quote at text)
string_plain quote at text =
    if_plain (is_empty text) a_fault
    (if_plain (is_line_end (unit_at text 0)) a_fault
    (if_plain (unit_at text 0 == 34) a_token
    (if_plain (is_front (codes "${") text) a_token
    (if_plain (spec.is_string_name text) a_token
    (if_plain (text_length text == 0) a_fault a_token)))))

-- ---- what a piece skips

-- so many units of a text are skipped
abbrev Passes : List ℕ → ℕ → Type 0
Passes text n = (rest : List ℕ) → Skips (drop n text) rest → Skips text rest

data Explained (text : List ℕ) : Piece → Type 0 where
  by_gap : {n : ℕ} → Passes text n → Explained text (piece.Gap n)
  by_line : Passes text 1 → Explained text piece.LineEnd
  by_token : {s : Shape} {n : ℕ} → Explained text (piece.Token s n)
  by_fault : {f : LexFault} → Explained text (piece.Bad f)
  by_end : text ≡ [] → Explained text piece.End

if_explained : {text : List ℕ} (b : Bool) {x y : Piece} → (b ≡ true → Explained text x) → (b ≡ false → Explained text y) → Explained text (if b then x else y)
if_explained true f g = f refl
if_explained false f g = g refl

of_plain : {text : List ℕ} {q : Piece} → IsPlain q → Explained text q
of_plain a_token = by_token
of_plain a_fault = by_fault

none_left : (text : List ℕ) → is_empty text ≡ true → text ≡ []
none_left [] e = refl
none_left (u ∷ text) e = absurd (no_length (length text) e)
  where
    no_length : (n : ℕ) → (suc n == 0) ≡ true → ⊥
    no_length n e = grind (arith, e)

blank_passes : (text : List ℕ) → is_empty text ≡ false → is_blank (unit_at text 0) ≡ true → Passes text 1
blank_passes [] e b = absurd (true≢false e)
blank_passes (u ∷ text) e b = λ rest s. law.white_space b s

line_passes : (text : List ℕ) → is_empty text ≡ false → is_line_end (unit_at text 0) ≡ true → Passes text 1
line_passes [] e b = absurd (true≢false e)
line_passes (u ∷ text) e b = λ rest s. law.line_end b s

comment_explained : (text : List ℕ) (at : ℕ) (o : Option ℕ) → is_front (codes "/*") text ≡ true → close 0 (drop 2 text) ≡ o → Explained text (spec.of_comment o at)
comment_explained text at None e i = by_fault
comment_explained text at (Some n) e i = by_gap (λ rest s. law.comment e i s)

code_explained : (inside : Option Open) (before : Lead) (at : ℕ) (text : List ℕ) → Explained text (spec.code_piece inside before at text)
code_explained inside before at text =
    if_explained (is_empty text) (λ e. by_end (none_left text e)) (λ some.
    if_explained (is_blank (unit_at text 0)) (λ e. by_gap (blank_passes text some e)) (λ e.
    if_explained (is_line_end (unit_at text 0)) (λ e. by_line (line_passes text some e)) (λ e.
    if_explained (is_front (codes "//") text) (λ e. by_gap (λ rest s. law.line_comment e s)) (λ e.
    if_explained (is_front (codes "/*") text) (λ e. comment_explained text at (close 0 (drop 2 text)) e refl) (λ e.
    of_plain (token_plain inside before at text))))))

piece_explained : (inside : Option Open) (before : Lead) (at : ℕ) (text : List ℕ) → Explained text (spec.piece_of inside before at text)
piece_explained (Some (bracket.Quote quote)) before at text = of_plain (string_plain quote at text)
piece_explained (Some bracket.Round) before at text = code_explained (Some bracket.Round) before at text
piece_explained (Some bracket.Square) before at text = code_explained (Some bracket.Square) before at text
piece_explained (Some bracket.Brace) before at text = code_explained (Some bracket.Brace) before at text
piece_explained (Some bracket.Hole) before at text = code_explained (Some bracket.Hole) before at text
piece_explained None before at text = code_explained None before at text

same_gap : {n m : ℕ} → piece.Gap n ≡ piece.Gap m → n ≡ m
same_gap e = cc

gap_of : {text : List ℕ} {q : Piece} {n : ℕ} → Explained text q → q ≡ piece.Gap n → Passes text n
gap_of {text = text} (by_gap f) e = subst (λ k. Passes text k) (same_gap e) f
gap_of (by_line f) e = absurd (cc)
gap_of by_token e = absurd (cc)
gap_of by_fault e = absurd (cc)
gap_of (by_end i) e = absurd (cc)

line_of : {text : List ℕ} {q : Piece} → Explained text q → q ≡ piece.LineEnd → Passes text 1
line_of (by_gap f) e = absurd (cc)
line_of (by_line f) e = f
line_of by_token e = absurd (cc)
line_of by_fault e = absurd (cc)
line_of (by_end i) e = absurd (cc)

end_of : {text : List ℕ} {q : Piece} → Explained text q → q ≡ piece.End → text ≡ []
end_of (by_gap f) e = absurd (cc)
end_of (by_line f) e = absurd (cc)
end_of by_token e = absurd (cc)
end_of by_fault e = absurd (cc)
end_of (by_end i) e = i

explained : (p : Place) (text : List ℕ) → Explained text (front p text)
explained p text = piece_explained (innermost p.openings) p.before p.at text

-- ---- the text, woven

-- a whole text, of which these units are skipped and the rest is left
record Left (at : ℕ) (whole skipped text : List ℕ) (here : ℕ) : Type 0 where
  parts : whole ≡ skipped ++ text
  passes : (rest : List ℕ) → Skips text rest → Skips whole rest
  place : here ≡ at + length skipped

count_of : (n : ℕ) (text : List ℕ) → n ≤ length text → length (take n text) ≡ n
count_of n text h = omega (arith, length-take n text, h)

further : {at here : ℕ} {whole skipped text : List ℕ} (n : ℕ) → Left at whole skipped text here → n ≤ length text → Passes text n → Left at whole (skipped ++ take n text) (drop n text) (here + n)
further {at = at} {here = here} {whole = whole} {skipped = skipped} {text = text} n l h f =
    let c = count_of n text h in
    let m = length-append skipped (take n text) in
    record {
      parts = l.parts ∙ ap (λ us. skipped ++ us) (sym (take-append-drop n text)) ∙ sym (append_assoc skipped (take n text) (drop n text));
      passes = λ rest s. l.passes rest (f rest s);
      place = omega (arith, l.place, c, m);
    }

weave : {names : List (List ℕ)} {file : ℕ} {p : Place} {text : List ℕ} {ts : List Token} → Cut names file p text ts → (at : ℕ) (whole skipped : List ℕ) → Left at whole skipped text p.at → Woven at whole ts
weave {p = p} {text = text} (the_end e n) at whole skipped l = law.all_skipped (l.passes [] (subst (λ us. Skips us []) (sym (end_of (explained p text) e)) law.nothing))
weave {p = p} {text = text} (gap {n = n} e c) at whole skipped l = weave c at whole (skipped ++ take n text) (further n l (gap_count p text e) (gap_of (explained p text) e))
weave {p = p} {text = text} (line_end e c) at whole skipped l = weave c at whole (skipped ++ take 1 text) (further 1 l (line_count p text e) (line_of (explained p text) e))
weave {p = p} {text = text} (one_more {n = n} {t = t} {ts = ts} e i c) at whole skipped l =
    let k = token_count p text e in
    let size = count_of n text k.1 in
    let start : t.span.start ≡ p.at = ap (λ s. s.start) i.span in
    let end : t.span.end ≡ p.at + n = ap (λ s. s.end) i.span in
    let none : Left (p.at + n) (drop n text) [] (drop n text) (p.at + n) = record { parts = refl; passes = λ rest s. s; place = omega arith } in
    law.a_token skipped (take n text) (drop n text)
    (l.parts ∙ ap (λ us. skipped ++ us) (sym (take-append-drop n text)) ∙ sym (append_assoc skipped (take n text) (drop n text)))
    (l.passes (take n text ++ drop n text) (subst (λ us. Skips text us) (sym (take-append-drop n text)) law.nothing))
    (omega (arith, size, k.0))
    (omega (arith, start, l.place))
    (omega (arith, start, end, size))
    (subst (λ (m : ℕ). Woven m (drop n text) ts) (sym end) (weave c (p.at + n) (drop n text) [] none))

pub gives_back : GivesBack
gives_back names file text ts c = weave c (start_of text) (drop (start_of text) text) [] (record { parts = refl; passes = λ rest s. s; place = omega arith })
