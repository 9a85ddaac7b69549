-- The cut by spellings is the cut.
use Rattle.std.proofs.Common.{◌≡◌, ℕ, suc, ◌+◌, ◌==◌, ◌||◌, Bool, true, false, List, [], ◌∷◌, length, drop, Option, Some, None, refl, sym, ap, subst, ◌∙◌, arith, true≢false}
use Rattle.std.specs.Prelude.{codes, ⊤}
use Rattle.kt_lexer.specs.declared.token.Keyword.{Keyword}
use Rattle.kt_lexer.specs.declared.token.Keyword.TheVariants as keyword
use Rattle.kt_lexer.specs.declared.token.Operator.{Operator}
use Rattle.kt_lexer.specs.declared.token.Operator.TheVariants as operator
use Rattle.kt_lexer.specs.declared.numbers.Number.{Number}
use Rattle.kt_lexer.specs.declared.numbers.Number.TheVariants as number
use Rattle.kt_lexer.specs.declared.strings.Element.{Element}
use Rattle.kt_lexer.specs.Words.{keyword_of, word_of}
use Rattle.kt_lexer.specs.Operators.{operator_of}
use Rattle.kt_lexer.specs.Numbers.{number_of}
use Rattle.kt_lexer.specs.Strings.{escape_of, text_length}
use Rattle.kt_lexer.specs.declared.pieces.Piece.{Piece}
use Rattle.kt_lexer.specs.declared.pieces.Piece.TheVariants as piece
use Rattle.kt_lexer.specs.declared.pieces.Open.{Open}
use Rattle.kt_lexer.specs.declared.pieces.Open.TheVariants as bracket
use Rattle.kt_lexer.specs.declared.pieces.Lead.{Lead}
use Rattle.kt_lexer.specs.declared.places.Place.{Place}
use Rattle.kt_lexer.specs.Characters.{unit_at, is_empty, is_front, is_blank, is_line_end, is_digit, starts_word, word_length}
use Rattle.kt_lexer.specs.Comments.{line_length, close}
use Rattle.kt_lexer.specs.Openings.{innermost, open_quote}
use Rattle.kt_lexer.specs.Cut.{Cut, unclosed_string, fault_at_end}
use Rattle.kt_lexer.specs.Cut as cut
use Rattle.kt_lexer.specs.Pieces as spec
use Rattle.kt_lexer.proofs.Elements.{same_of}
use Rattle.kt_lexer.proofs.Sizes.{piece_fits}
use Rattle.kt_spellings.specs.Laws.{begins_comment}
use Rattle.kt_spellings.specs.Cut.{in_string, IsGap, white_space, line_comment, comment, SpelledCut, the_end, gap, line_end, a_token, CutIsSpelled, SpelledIsCut}
use Rattle.kt_spellings.proofs.Spelling.{if_piece, first_of, second_of, token_is_spelled}
use Rattle.kt_spellings.proofs.Longest.{clash, token_is_longest, spelled_is_token, Within, within_of}

-- what a piece says of the text in front of which it stands
abbrev Says : Option Open → List ℕ → Piece → Type 0
Says inside text (piece.Gap n) = (in_string inside ≡ false) × IsGap text n
Says inside text piece.LineEnd = (in_string inside ≡ false) × (is_line_end (unit_at text 0) ≡ true)
Says inside text (piece.Token s n) = begins_comment inside text ≡ false
Says inside text (piece.Bad f) = ⊤
Says inside text piece.End = text ≡ []

-- a piece that is a token or a fault
abbrev is_solid : Piece → Bool
is_solid (piece.Token s n) = true
is_solid (piece.Bad f) = true
is_solid _ = false

solid_says : (inside : Option Open) (text : List ℕ) (p : Piece) → is_solid p ≡ true → begins_comment inside text ≡ false → Says inside text p
solid_says inside text (piece.Token s n) e c = c
solid_says inside text (piece.Bad f) e c = tt
solid_says inside text (piece.Gap n) e c = absurd (true≢false (sym e))
solid_says inside text piece.LineEnd e c = absurd (true≢false (sym e))
solid_says inside text piece.End e c = absurd (true≢false (sym e))

empty_is : (text : List ℕ) → is_empty text ≡ true → text ≡ []
empty_is [] e = refl
empty_is (u ∷ text) e = absurd (none (length text) e)
  where
    none : (n : ℕ) → (suc n == 0) ≡ true → ⊥
    none n e = grind (arith, e)

no_comment : (a b : Bool) → a ≡ false → b ≡ false → (a || b) ≡ false
no_comment a b e f = ap (λ a. a || b) e ∙ f

abbrev Solid : Piece → Type 0
Solid p = is_solid p ≡ true

word_solid : (k : Option Keyword) (n next : ℕ) → Solid (spec.of_word k n next)
word_solid (Some keyword.As) n next = if_piece Solid (next == 63) (λ e. refl) (λ e. refl)
word_solid (Some _) n next = refl
word_solid None n next = if_piece Solid (next == 64) (λ e. refl) (λ e. refl)

number_solid : (k : Number) (n at : ℕ) → Solid (spec.of_number k n at)
number_solid number.No n at = refl
number_solid number.TooWide n at = refl
number_solid (number.Value v long) n at = refl

closed_solid : (b : Bool) (u n at : ℕ) → Solid (spec.closed_character b u n at)
closed_solid true u n at = refl
closed_solid false u n at = refl

escape_solid : (o : Option Element) (at : ℕ) (text : List ℕ) → Solid (spec.of_escape o at text)
escape_solid None at text = refl
escape_solid (Some e) at text = closed_solid (unit_at text (e.length + 1) == 39) e.unit (e.length + 2) at

character_solid : (at : ℕ) (text : List ℕ) → Solid (spec.character_piece at text)
character_solid at text =
    if_piece Solid (unit_at text 1 == 92) (λ e. escape_solid (escape_of (drop 1 text)) at text) (λ e.
    if_piece Solid (unit_at text 1 == 39 || is_line_end (unit_at text 1)) (λ e. refl) (λ e. closed_solid (unit_at text 2 == 39) (unit_at text 1) 3 at))

operator_solid : (o : Option (Operator × ℕ)) (before : Lead) (at : ℕ) → Solid (spec.of_operator o before at)
operator_solid None before at = refl
operator_solid (Some (operator.Times, n)) before at = if_piece Solid (spec.is_dot before) (λ e. refl) (λ e. refl)
operator_solid (Some (_, n)) before at = refl

blank_some : (text : List ℕ) → is_empty text ≡ true → is_blank (unit_at text 0) ≡ false
blank_some text e = ap (λ t. is_blank (unit_at t 0)) (empty_is text e)

line_some : (text : List ℕ) → is_empty text ≡ true → is_line_end (unit_at text 0) ≡ false
line_some text e = ap (λ t. is_line_end (unit_at t 0)) (empty_is text e)

no_front : (w text : List ℕ) → is_empty text ≡ true → is_front (47 ∷ w) text ≡ false
no_front w text e = ap (λ t. is_front (47 ∷ w) t) (empty_is text e)

slash : (w text : List ℕ) → is_front (47 ∷ w) text ≡ true → unit_at text 0 ≡ 47
slash w [] e = absurd (true≢false (sym e))
slash w (u ∷ text) e = sym (same_of 47 u (first_of (47 == u) _ e))

one_comment : (text : List ℕ) → is_front (codes "//") text ≡ true → is_front (codes "/*") text ≡ true → ⊥
one_comment [] e f = true≢false (sym e)
one_comment (u ∷ []) e f = true≢false (sym (second_of (47 == u) e))
one_comment (u ∷ v ∷ text) e f = clash (first_of (42 == v) _ (second_of (47 == u) f)) (ap (λ v. 42 == v) (sym (same_of 47 v (first_of (47 == v) _ (second_of (47 == u) e)))))

no_both : (u : ℕ) → is_line_end u ≡ true → is_blank u ≡ true → ⊥
no_both u l b = by_tests (u == 10) (u == 13) refl refl l
  where
    by_tests : (c d : Bool) → (u == 10) ≡ c → (u == 13) ≡ d → (c || d) ≡ true → ⊥
    by_tests true d i j e = clash b (ap is_blank (same_of u 10 i))
    by_tests false true i j e = clash b (ap is_blank (same_of u 13 j))
    by_tests false false i j e = true≢false (sym e)

module _ (inside : Option Open) (before : Lead) (at : ℕ) (outside : in_string inside ≡ false) (as_comment : (text : List ℕ) → begins_comment inside text ≡ (is_front (codes "//") text || is_front (codes "/*") text)) where
  comment_says : (text : List ℕ) (o : Option ℕ) → is_front (codes "/*") text ≡ true → close 0 (drop 2 text) ≡ o → Says inside text (spec.of_comment o at)
  comment_says text None e i = tt
  comment_says text (Some n) e i = (outside, comment e i)

  token_solid : (text : List ℕ) → Solid (spec.token_piece inside before at text)
  token_solid text =
      if_piece Solid (starts_word text) (λ e. word_solid (keyword_of (word_of text)) (word_length text) (unit_at text (word_length text))) (λ e.
      if_piece Solid (is_digit (unit_at text 0)) (λ e. number_solid (number_of (spec.is_minus before) (word_of text)) (word_length text) at) (λ e.
      if_piece Solid (unit_at text 0 == 39) (λ e. character_solid at text) (λ e.
      if_piece Solid (unit_at text 0 == 34) (λ e. refl) (λ e.
      if_piece Solid (spec.is_label_use before at text) (λ e. refl) (λ e.
      if_piece Solid (spec.is_negated (codes "!in") text) (λ e. refl) (λ e.
      if_piece Solid (spec.is_negated (codes "!is") text) (λ e. refl) (λ e.
      if_piece Solid (spec.is_hole_end inside text) (λ e. refl) (λ e. operator_solid (operator_of text) before at))))))))

  code_says : (text : List ℕ) → Says inside text (spec.code_piece inside before at text)
  code_says text =
      if_piece (Says inside text) (is_empty text) (λ e. empty_is text e) (λ e.
      if_piece (Says inside text) (is_blank (unit_at text 0)) (λ e. (outside, white_space e)) (λ e.
      if_piece (Says inside text) (is_line_end (unit_at text 0)) (λ e. (outside, e)) (λ e.
      if_piece (Says inside text) (is_front (codes "//") text) (λ e. (outside, line_comment e)) (λ e.
      if_piece (Says inside text) (is_front (codes "/*") text) (λ f. comment_says text (close 0 (drop 2 text)) f refl) (λ f.
      solid_says inside text (spec.token_piece inside before at text) (token_solid text) (as_comment text ∙ no_comment _ _ e f))))))

  code_gap : (text : List ℕ) (n : ℕ) → IsGap text n → spec.code_piece inside before at text ≡ piece.Gap n
  code_gap text n (white_space b) =
      if_piece (λ x. x ≡ piece.Gap 1) (is_empty text) (λ e. clash b (blank_some text e)) (λ e.
      if_piece (λ x. x ≡ piece.Gap 1) (is_blank (unit_at text 0)) (λ e. refl) (λ e. clash b e))
  code_gap text n (line_comment f) = let s = slash (codes "/") text f in
      if_piece (λ x. x ≡ piece.Gap (line_length text)) (is_empty text) (λ e. clash f (no_front (codes "/") text e)) (λ e.
      if_piece (λ x. x ≡ piece.Gap (line_length text)) (is_blank (unit_at text 0)) (λ e. clash e (ap is_blank s)) (λ e.
      if_piece (λ x. x ≡ piece.Gap (line_length text)) (is_line_end (unit_at text 0)) (λ e. clash e (ap is_line_end s)) (λ e.
      if_piece (λ x. x ≡ piece.Gap (line_length text)) (is_front (codes "//") text) (λ e. refl) (λ e. clash f e))))
  code_gap text n (comment {n = k} f i) = let s = slash (codes "*") text f in
      if_piece (λ x. x ≡ piece.Gap (k + 2)) (is_empty text) (λ e. clash f (no_front (codes "*") text e)) (λ e.
      if_piece (λ x. x ≡ piece.Gap (k + 2)) (is_blank (unit_at text 0)) (λ e. clash e (ap is_blank s)) (λ e.
      if_piece (λ x. x ≡ piece.Gap (k + 2)) (is_line_end (unit_at text 0)) (λ e. clash e (ap is_line_end s)) (λ e.
      if_piece (λ x. x ≡ piece.Gap (k + 2)) (is_front (codes "//") text) (λ e. absurd (one_comment text e f)) (λ e.
      if_piece (λ x. x ≡ piece.Gap (k + 2)) (is_front (codes "/*") text) (λ e. ap (λ o. spec.of_comment o at) i) (λ e. clash f e)))))

  code_line : (text : List ℕ) → is_line_end (unit_at text 0) ≡ true → spec.code_piece inside before at text ≡ piece.LineEnd
  code_line text l =
      if_piece (λ x. x ≡ piece.LineEnd) (is_empty text) (λ e. clash l (line_some text e)) (λ e.
      if_piece (λ x. x ≡ piece.LineEnd) (is_blank (unit_at text 0)) (λ e. absurd (no_both (unit_at text 0) l e)) (λ e.
      if_piece (λ x. x ≡ piece.LineEnd) (is_line_end (unit_at text 0)) (λ e. refl) (λ e. clash l e)))

string_solid : (quote at : ℕ) (text : List ℕ) → Solid (spec.string_piece quote at text)
string_solid quote at text =
    if_piece Solid (is_empty text) (λ e. refl) (λ e.
    if_piece Solid (is_line_end (unit_at text 0)) (λ e. refl) (λ e.
    if_piece Solid (unit_at text 0 == 34) (λ e. refl) (λ e.
    if_piece Solid (is_front (codes "${") text) (λ e. refl) (λ e.
    if_piece Solid (spec.is_string_name text) (λ e. refl) (λ e.
    if_piece Solid (text_length text == 0) (λ e. refl) (λ e. refl))))))

says : (inside : Option Open) (before : Lead) (at : ℕ) (text : List ℕ) → Says inside text (spec.piece_of inside before at text)
says (Some (bracket.Quote quote)) before at text = solid_says (Some (bracket.Quote quote)) text (spec.string_piece quote at text) (string_solid quote at text) refl
says None before at text = code_says None before at refl (λ text. refl) text
says (Some bracket.Round) before at text = code_says (Some bracket.Round) before at refl (λ text. refl) text
says (Some bracket.Square) before at text = code_says (Some bracket.Square) before at refl (λ text. refl) text
says (Some bracket.Brace) before at text = code_says (Some bracket.Brace) before at refl (λ text. refl) text
says (Some bracket.Hole) before at text = code_says (Some bracket.Hole) before at refl (λ text. refl) text

-- what the piece at a place says
said : (p : Place) (text : List ℕ) {x : Piece} → cut.front p text ≡ x → Says (innermost p.openings) text x
said p text e = subst (Says (innermost p.openings) text) e (says (innermost p.openings) p.before p.at text)

pub cut_is_spelled : CutIsSpelled
cut_is_spelled names file p text ts (cut.the_end e f) = subst (λ x. SpelledCut names file p x []) (sym (said p text e)) (the_end f)
cut_is_spelled names file p text ts (cut.gap {n = n} e c) = let s = said p text e in gap s.0 s.1 (cut_is_spelled names file _ _ ts c)
cut_is_spelled names file p text ts (cut.line_end e c) = let s = said p text e in line_end s.0 s.1 (cut_is_spelled names file _ _ ts c)
cut_is_spelled names file p text ts (cut.one_more {s = s} {n = n} {t = t} {ts = us} e i c) =
    a_token (said p text e) (subst (Within (length text)) e (within_of (piece_fits (innermost p.openings) p.before p.at text)))
    (token_is_spelled (innermost p.openings) p.before p.at text s n e) (token_is_longest (innermost p.openings) p.before p.at text s n e)
    i (cut_is_spelled names file _ _ us c)

outside : (inside : Option Open) → in_string inside ≡ false → (before : Lead) (at : ℕ) (text : List ℕ) → spec.piece_of inside before at text ≡ spec.code_piece inside before at text
outside (Some (bracket.Quote quote)) o before at text = absurd (true≢false o)
outside None o before at text = refl
outside (Some bracket.Round) o before at text = refl
outside (Some bracket.Square) o before at text = refl
outside (Some bracket.Brace) o before at text = refl
outside (Some bracket.Hole) o before at text = refl

code_comment : (inside : Option Open) → in_string inside ≡ false → (text : List ℕ) → begins_comment inside text ≡ (is_front (codes "//") text || is_front (codes "/*") text)
code_comment (Some (bracket.Quote quote)) o text = absurd (true≢false o)
code_comment None o text = refl
code_comment (Some bracket.Round) o text = refl
code_comment (Some bracket.Square) o text = refl
code_comment (Some bracket.Brace) o text = refl
code_comment (Some bracket.Hole) o text = refl

-- where no string is open the innermost bracket is none
at_end : (os : List Open) → unclosed_string (open_quote os) ≡ None → in_string (innermost os) ≡ false
at_end [] e = refl
at_end (bracket.Quote quote ∷ os) e = absurd cc
at_end (bracket.Round ∷ os) e = refl
at_end (bracket.Square ∷ os) e = refl
at_end (bracket.Brace ∷ os) e = refl
at_end (bracket.Hole ∷ os) e = refl

pub spelled_is_cut : SpelledIsCut
spelled_is_cut names file p text ts (the_end e) = cut.the_end (outside (innermost p.openings) (at_end p.openings e) p.before p.at []) e
spelled_is_cut names file p text ts (gap {n = n} o g c) =
    cut.gap (outside (innermost p.openings) o p.before p.at text ∙ code_gap (innermost p.openings) p.before p.at o (code_comment (innermost p.openings) o) text n g) (spelled_is_cut names file _ _ ts c)
spelled_is_cut names file p text ts (line_end o l c) =
    cut.line_end (outside (innermost p.openings) o p.before p.at text ∙ code_line (innermost p.openings) p.before p.at o (code_comment (innermost p.openings) o) text l) (spelled_is_cut names file _ _ ts c)
spelled_is_cut names file p text ts (a_token {s = s} {n = n} {ts = us} b w x l i c) =
    cut.one_more (spelled_is_token (innermost p.openings) p.before p.at text s n b w x l) i (spelled_is_cut names file _ _ us c)
