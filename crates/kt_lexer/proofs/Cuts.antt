-- A text has one cut at most, and none where it has a fault; what the scanner has read so far.
use Rattle.std.proofs.Common.{◌≡◌, ℕ, ◌+◌, ◌<◌, ◌≤◌, ◌==◌, Bool, true, false, if◌then◌else◌, List, [], ◌∷◌, ◌++◌, length, drop, slice_get, Option, Some, None, refl, sym, ap, subst, ◌∙◌, append_assoc, append-nil, arith}
use Rattle.std.proofs.lemmas.List.{length-drop, drop-drop}
use Rattle.std.proofs.lemmas.Option.{slice_get_within, slice_get-get_or}
use Rattle.kc_text.specs.NameList.{AllDifferent, KeepsNumbers}
use Rattle.kc_tree.specs.declared.fault.Span.{Span}
use Rattle.kt_lexer.specs.declared.token.Token.{Token}
use Rattle.kt_lexer.specs.declared.token.TokenKind.{TokenKind}
use Rattle.kt_lexer.specs.declared.token.TokenKind.TheVariants as kind
use Rattle.kt_lexer.specs.declared.token.LexFault.{LexFault}
use Rattle.kt_lexer.specs.declared.pieces.Shape.{Shape}
use Rattle.kt_lexer.specs.declared.pieces.Shape.TheVariants as shape
use Rattle.kt_lexer.specs.declared.pieces.Piece.{Piece}
use Rattle.kt_lexer.specs.declared.pieces.Piece.TheVariants as piece
use Rattle.kt_lexer.specs.declared.places.Place.{Place}
use Rattle.kt_lexer.specs.Characters.{unit_at}
use Rattle.kt_lexer.specs.Strings.{text_units}
use Rattle.kt_lexer.specs.Openings.{innermost}
use Rattle.kt_lexer.specs.Places.{behind_gap, behind_line, behind_token}
use Rattle.kt_lexer.specs.Pieces.{Fits, gap_fits, line_fits, token_fits, bad_fits, end_fits}
use Rattle.kt_lexer.specs.Cut.{Numbers, IsKind, a_word, a_name, a_label, a_label_use, a_number, a_character, a_string_open, a_string_text, a_string_name, a_hole_open, a_hole_close, a_string_close, an_operator, front, IsToken, fault_at_end, Cut, the_end, gap, line_end, one_more, Stops, here, unclosed, past_gap, past_line, past_token, beginning, IsCut, HasFault, HasNoCut}
use Rattle.kt_lexer.specs.Laws.{OneCut, CutOrFault, OneFault}
use Rattle.kt_lexer.proofs.Elements.{present, same_of}
use Rattle.kt_lexer.proofs.Sizes.{piece_fits}

-- ---- a piece is of one sort

gap_or_end : {q : Piece} {n : ℕ} → q ≡ piece.Gap n → q ≡ piece.End → ⊥
gap_or_end e i = cc

gap_or_line : {q : Piece} {n : ℕ} → q ≡ piece.Gap n → q ≡ piece.LineEnd → ⊥
gap_or_line e i = cc

gap_or_token : {q : Piece} {n m : ℕ} {s : Shape} → q ≡ piece.Gap n → q ≡ piece.Token s m → ⊥
gap_or_token e i = cc

gap_or_bad : {q : Piece} {n : ℕ} {f : LexFault} → q ≡ piece.Gap n → q ≡ piece.Bad f → ⊥
gap_or_bad e i = cc

line_or_end : {q : Piece} → q ≡ piece.LineEnd → q ≡ piece.End → ⊥
line_or_end e i = cc

line_or_token : {q : Piece} {n : ℕ} {s : Shape} → q ≡ piece.LineEnd → q ≡ piece.Token s n → ⊥
line_or_token e i = cc

line_or_bad : {q : Piece} {f : LexFault} → q ≡ piece.LineEnd → q ≡ piece.Bad f → ⊥
line_or_bad e i = cc

token_or_end : {q : Piece} {n : ℕ} {s : Shape} → q ≡ piece.Token s n → q ≡ piece.End → ⊥
token_or_end e i = cc

token_or_bad : {q : Piece} {n : ℕ} {s : Shape} {f : LexFault} → q ≡ piece.Token s n → q ≡ piece.Bad f → ⊥
token_or_bad e i = cc

bad_or_end : {q : Piece} {f : LexFault} → q ≡ piece.Bad f → q ≡ piece.End → ⊥
bad_or_end e i = cc

same_gap : {q : Piece} {n m : ℕ} → q ≡ piece.Gap n → q ≡ piece.Gap m → n ≡ m
same_gap e i = cc

same_shape : {q : Piece} {n m : ℕ} {s t : Shape} → q ≡ piece.Token s n → q ≡ piece.Token t m → s ≡ t
same_shape e i = cc

same_count : {q : Piece} {n m : ℕ} {s t : Shape} → q ≡ piece.Token s n → q ≡ piece.Token t m → n ≡ m
same_count e i = cc

same_fault : {q : Piece} {f g : LexFault} → q ≡ piece.Bad f → q ≡ piece.Bad g → f ≡ g
same_fault e i = cc

some_or_none : {o : Option LexFault} {f : LexFault} → o ≡ Some f → o ≡ None → ⊥
some_or_none e i = cc

same_some : {o : Option LexFault} {f g : LexFault} → o ≡ Some f → o ≡ Some g → f ≡ g
same_some e i = cc

-- ---- numbers of names

got_within : (names : List (List ℕ)) (n : ℕ) {name : List ℕ} → slice_get names n ≡ Some name → n < length names
got_within names n {name = name} e = slice_get_within names n name e

same_number : (names : List (List ℕ)) (n m : ℕ) {name : List ℕ} → AllDifferent names → Numbers names n name → Numbers names m name → n ≡ m
same_number names n m d e i = d n m (got_within names n e) (e ∙ sym i)

-- ---- kinds

pub kind_along : {names : List (List ℕ)} {text : List ℕ} {n : ℕ} {s s' : Shape} {k : TokenKind} → s ≡ s' → IsKind names text n s' k → IsKind names text n s k
kind_along {names = names} {text = text} {n = n} {k = k} e i = subst (λ s. IsKind names text n s k) (sym e) i

pub text_kind : {names : List (List ℕ)} {text units : List ℕ} {n : ℕ} → units ≡ text_units text → IsKind names text n shape.StringText (kind.StringText units)
text_kind {names = names} {text = text} {n = n} e = subst (λ us. IsKind names text n shape.StringText (kind.StringText us)) (sym e) a_string_text

-- ---- one cut

same_kind : {names : List (List ℕ)} {text : List ℕ} {n : ℕ} {s : Shape} {k l : TokenKind} → AllDifferent names → IsKind names text n s k → IsKind names text n s l → k ≡ l
same_kind d a_word a_word = refl
same_kind {names = names} d (a_name {m = m} e) (a_name {m = m2} i) = ap kind.Name (same_number names m m2 d e i)
same_kind {names = names} d (a_label {m = m} e) (a_label {m = m2} i) = ap kind.Label (same_number names m m2 d e i)
same_kind {names = names} d (a_label_use {m = m} e) (a_label_use {m = m2} i) = ap kind.LabelUse (same_number names m m2 d e i)
same_kind d a_number a_number = refl
same_kind d a_character a_character = refl
same_kind d a_string_open a_string_open = refl
same_kind d a_string_text a_string_text = refl
same_kind {names = names} d (a_string_name {m = m} e) (a_string_name {m = m2} i) = ap kind.StringName (same_number names m m2 d e i)
same_kind d a_hole_open a_hole_open = refl
same_kind d a_hole_close a_hole_close = refl
same_kind d a_string_close a_string_close = refl
same_kind d an_operator an_operator = refl

same_parts : {k l : TokenKind} {a b : Span} {x y : Bool} → k ≡ l → a ≡ b → x ≡ y → ◌≡◌ {A = Token} (record { kind = k; span = a; marked = x }) (record { kind = l; span = b; marked = y })
same_parts p q r = cc

same_token : {names : List (List ℕ)} {file : ℕ} {p : Place} {text : List ℕ} {s : Shape} {n : ℕ} {t u : Token} → AllDifferent names → IsToken names file p text s n t → IsToken names file p text s n u → t ≡ u
same_token d a b = same_parts (same_kind d a.kind b.kind) (a.span ∙ sym b.span) (a.marked ∙ sym b.marked)

both : {t u : Token} {ts us : List Token} → t ≡ u → ts ≡ us → t ∷ ts ≡ u ∷ us
both e i = cc

one_cut : {names : List (List ℕ)} {file : ℕ} {p : Place} {text : List ℕ} {ts us : List Token} → AllDifferent names → Cut names file p text ts → Cut names file p text us → ts ≡ us
one_cut d (the_end e n) (the_end i m) = refl
one_cut d (the_end e n) (gap i c) = absurd (gap_or_end i e)
one_cut d (the_end e n) (line_end i c) = absurd (line_or_end i e)
one_cut d (the_end e n) (one_more i t c) = absurd (token_or_end i e)
one_cut d (gap e b) (the_end i m) = absurd (gap_or_end e i)
one_cut {names = names} {file = file} {p = p} {text = text} {us = us} d (gap e b) (gap i c) = one_cut d b (subst (λ (k : ℕ). Cut names file (behind_gap p k) (drop k text) us) (same_gap i e) c)
one_cut d (gap e b) (line_end i c) = absurd (gap_or_line e i)
one_cut d (gap e b) (one_more i t c) = absurd (gap_or_token e i)
one_cut d (line_end e b) (the_end i m) = absurd (line_or_end e i)
one_cut d (line_end e b) (gap i c) = absurd (gap_or_line i e)
one_cut d (line_end e b) (line_end i c) = one_cut d b c
one_cut d (line_end e b) (one_more i t c) = absurd (line_or_token e i)
one_cut d (one_more e t b) (the_end i m) = absurd (token_or_end e i)
one_cut d (one_more e t b) (gap i c) = absurd (gap_or_token i e)
one_cut d (one_more e t b) (line_end i c) = absurd (line_or_token i e)
one_cut {names = names} {file = file} {p = p} {text = text} d (one_more {s = s} {n = n} e t b) (one_more {s = s'} {n = m} {t = u'} {ts = us'} i u c) =
    let P : Shape → ℕ → Type 0 = λ s n. IsToken names file p text s n u' in
    let Q : Shape → ℕ → Type 0 = λ s n. Cut names file (behind_token p s n) (drop n text) us' in
    let u2 = subst (λ k. P k n) (same_shape i e) (subst (λ k. P s' k) (same_count i e) u) in
    let c2 = subst (λ k. Q k n) (same_shape i e) (subst (λ k. Q s' k) (same_count i e) c) in
    both (same_token d t u2) (one_cut d b c2)

pub cut_is_unique : OneCut
cut_is_unique names file text ts us d b c = one_cut d b c

-- ---- a cut or a fault

no_cut : {names : List (List ℕ)} {file : ℕ} {p : Place} {text : List ℕ} {ts : List Token} {f : LexFault} → Stops p text f → Cut names file p text ts → ⊥
no_cut (here e) (the_end i m) = bad_or_end e i
no_cut (here e) (gap i c) = gap_or_bad i e
no_cut (here e) (line_end i c) = line_or_bad i e
no_cut (here e) (one_more i t c) = token_or_bad i e
no_cut (unclosed e n) (the_end i m) = some_or_none n m
no_cut (unclosed e n) (gap i c) = gap_or_end i e
no_cut (unclosed e n) (line_end i c) = line_or_end i e
no_cut (unclosed e n) (one_more i t c) = token_or_end i e
no_cut (past_gap e b) (the_end i m) = gap_or_end e i
no_cut {names = names} {file = file} {p = p} {text = text} {ts = ts} (past_gap e b) (gap i c) = no_cut b (subst (λ (k : ℕ). Cut names file (behind_gap p k) (drop k text) ts) (same_gap i e) c)
no_cut (past_gap e b) (line_end i c) = gap_or_line e i
no_cut (past_gap e b) (one_more i t c) = gap_or_token e i
no_cut (past_line e b) (the_end i m) = line_or_end e i
no_cut (past_line e b) (gap i c) = gap_or_line i e
no_cut (past_line e b) (line_end i c) = no_cut b c
no_cut (past_line e b) (one_more i t c) = line_or_token e i
no_cut (past_token e b) (the_end i m) = token_or_end e i
no_cut (past_token e b) (gap i c) = gap_or_token i e
no_cut (past_token e b) (line_end i c) = line_or_token i e
no_cut {names = names} {file = file} {p = p} {text = text} (past_token {s = s} {n = n} e b) (one_more {s = s'} {n = m} {ts = us'} i u c) =
    let Q : Shape → ℕ → Type 0 = λ s n. Cut names file (behind_token p s n) (drop n text) us' in
    no_cut b (subst (λ k. Q k n) (same_shape i e) (subst (λ k. Q s' k) (same_count i e) c))

pub cut_excludes_fault : CutOrFault
cut_excludes_fault names file text ts f b c = no_cut b c

one_fault : {p : Place} {text : List ℕ} {f g : LexFault} → Stops p text f → Stops p text g → f ≡ g
one_fault (here e) (here i) = same_fault e i
one_fault (here e) (unclosed i m) = absurd (bad_or_end e i)
one_fault (here e) (past_gap i c) = absurd (gap_or_bad i e)
one_fault (here e) (past_line i c) = absurd (line_or_bad i e)
one_fault (here e) (past_token i c) = absurd (token_or_bad i e)
one_fault (unclosed e n) (here i) = absurd (bad_or_end i e)
one_fault (unclosed e n) (unclosed i m) = same_some n m
one_fault (unclosed e n) (past_gap i c) = absurd (gap_or_end i e)
one_fault (unclosed e n) (past_line i c) = absurd (line_or_end i e)
one_fault (unclosed e n) (past_token i c) = absurd (token_or_end i e)
one_fault (past_gap e b) (here i) = absurd (gap_or_bad e i)
one_fault (past_gap e b) (unclosed i m) = absurd (gap_or_end e i)
one_fault {p = p} {text = text} {g = g} (past_gap e b) (past_gap i c) = one_fault b (subst (λ (k : ℕ). Stops (behind_gap p k) (drop k text) g) (same_gap i e) c)
one_fault (past_gap e b) (past_line i c) = absurd (gap_or_line e i)
one_fault (past_gap e b) (past_token i c) = absurd (gap_or_token e i)
one_fault (past_line e b) (here i) = absurd (line_or_bad e i)
one_fault (past_line e b) (unclosed i m) = absurd (line_or_end e i)
one_fault (past_line e b) (past_gap i c) = absurd (gap_or_line i e)
one_fault (past_line e b) (past_line i c) = one_fault b c
one_fault (past_line e b) (past_token i c) = absurd (line_or_token e i)
one_fault (past_token e b) (here i) = absurd (token_or_bad e i)
one_fault (past_token e b) (unclosed i m) = absurd (token_or_end e i)
one_fault (past_token e b) (past_gap i c) = absurd (gap_or_token i e)
one_fault (past_token e b) (past_line i c) = absurd (line_or_token i e)
one_fault {p = p} {text = text} {g = g} (past_token {s = s} {n = n} e b) (past_token {s = s'} {n = m} i c) =
    let Q : Shape → ℕ → Type 0 = λ s n. Stops (behind_token p s n) (drop n text) g in
    one_fault b (subst (λ k. Q k n) (same_shape i e) (subst (λ k. Q s' k) (same_count i e) c))

pub fault_is_unique : OneFault
fault_is_unique text f g b c = one_fault b c

pub no_cut_of : (text : List ℕ) (f : LexFault) → HasFault text f → HasNoCut text
no_cut_of text f b = λ names file ts c. no_cut b c

-- ---- names that are added keep what was said of the older ones

numbers_grow : (old new : List (List ℕ)) (n : ℕ) {name : List ℕ} → KeepsNumbers old new → Numbers old n name → Numbers new n name
numbers_grow old new n k e = k n (got_within old n e) ∙ e

kind_grows : {old : List (List ℕ)} {new : List (List ℕ)} {text : List ℕ} {n : ℕ} {s : Shape} {k : TokenKind} → KeepsNumbers old new → IsKind old text n s k → IsKind new text n s k
kind_grows g a_word = a_word
kind_grows {old = old} {new = new} g (a_name {m = m} e) = a_name (numbers_grow old new m g e)
kind_grows {old = old} {new = new} g (a_label {m = m} e) = a_label (numbers_grow old new m g e)
kind_grows {old = old} {new = new} g (a_label_use {m = m} e) = a_label_use (numbers_grow old new m g e)
kind_grows g a_number = a_number
kind_grows g a_character = a_character
kind_grows g a_string_open = a_string_open
kind_grows g a_string_text = a_string_text
kind_grows {old = old} {new = new} g (a_string_name {m = m} e) = a_string_name (numbers_grow old new m g e)
kind_grows g a_hole_open = a_hole_open
kind_grows g a_hole_close = a_hole_close
kind_grows g a_string_close = a_string_close
kind_grows g an_operator = an_operator

token_grows : {old new : List (List ℕ)} {file : ℕ} {p : Place} {text : List ℕ} {s : Shape} {n : ℕ} {t : Token} → KeepsNumbers old new → IsToken old file p text s n t → IsToken new file p text s n t
token_grows g t = record { kind = kind_grows g t.kind; span = t.span; marked = t.marked }

longer : (old new : List (List ℕ)) → KeepsNumbers old new → (n : ℕ) → n < length old → n < length new
longer old new k n h = got_within new n (k n h ∙ slice_get-get_or old n [] h)

pub keep_along : (a b c : List (List ℕ)) → KeepsNumbers a b → KeepsNumbers b c → KeepsNumbers a c
keep_along a b c h k = λ n l. k n (longer a b h n l) ∙ h n l

-- ---- what the rest of the scanner's loop gives is what the whole gives

pub record Resumes (names : List (List ℕ)) (file : ℕ) (text : List ℕ) (p : Place) (before : List Token) : Type 0 where
  pub within : p.at ≤ length text
  pub go : (later : List (List ℕ)) → KeepsNumbers names later → (ts : List Token) → Cut later file p (drop p.at text) ts → IsCut later file text (before ++ ts)
  pub stops : (f : LexFault) → Stops p (drop p.at text) f → HasFault text f

on_mark : (text : List ℕ) (b : Bool) → (unit_at text 0 == 65279) ≡ b → (if b then 1 else 0) ≤ length text
on_mark text true e = let s = same_of (unit_at text 0) 65279 e in let p = present text 0 (omega (arith, s)) in omega (arith, p)
on_mark text false e = omega arith

pub at_start : (names : List (List ℕ)) (file : ℕ) (text : List ℕ) → Resumes names file text (beginning text) []
at_start names file text = record { within = on_mark text (unit_at text 0 == 65279) refl; go = λ later k ts c. c; stops = λ f s. s }

-- the units of a piece are units of the text
pub record Ahead (text : List ℕ) (at n : ℕ) : Type 0 where
  pub some : 1 ≤ n
  pub within : at + n ≤ length text
  pub here : n ≤ length (drop at text)

ahead_of : (text : List ℕ) (at n : ℕ) → at ≤ length text → 1 ≤ n → n ≤ length (drop at text) → Ahead text at n
ahead_of text at n h s w = record { some = s; within = omega (arith, h, simp length-drop at w); here = w }

fits_along : {q r : Piece} {n : ℕ} → Fits q n → q ≡ r → Fits r n
fits_along {n = n} f e = subst (λ q. Fits q n) e f

of_gap : {q : Piece} {n size : ℕ} → Fits q size → q ≡ piece.Gap n → (1 ≤ n) × (n ≤ size)
of_gap (gap_fits h l) e = let i = same_gap refl e in (rw (sym i) h, rw (sym i) l)
of_gap (line_fits h) e = absurd (cc)
of_gap (token_fits h l) e = absurd (cc)
of_gap bad_fits e = absurd (cc)
of_gap end_fits e = absurd (cc)

of_line : {q : Piece} {size : ℕ} → Fits q size → q ≡ piece.LineEnd → 1 ≤ size
of_line (gap_fits h l) e = absurd (cc)
of_line (line_fits h) e = h
of_line (token_fits h l) e = absurd (cc)
of_line bad_fits e = absurd (cc)
of_line end_fits e = absurd (cc)

of_token : {q : Piece} {s : Shape} {n size : ℕ} → Fits q size → q ≡ piece.Token s n → (1 ≤ n) × (n ≤ size)
of_token (gap_fits h l) e = absurd (cc)
of_token (line_fits h) e = absurd (cc)
of_token (token_fits h l) e = let i = same_count refl e in (rw (sym i) h, rw (sym i) l)
of_token bad_fits e = absurd (cc)
of_token end_fits e = absurd (cc)

fits : (text : List ℕ) (p : Place) → Fits (front p (drop p.at text)) (length (drop p.at text))
fits text p = piece_fits (innermost p.openings) p.before p.at (drop p.at text)

pub gap_ahead : {names : List (List ℕ)} {file : ℕ} {text : List ℕ} {p : Place} {before : List Token} {n : ℕ} → Resumes names file text p before → front p (drop p.at text) ≡ piece.Gap n → Ahead text p.at n
gap_ahead {text = text} {p = p} {n = n} r e = let f = of_gap (fits text p) e in ahead_of text p.at n r.within f.0 f.1

pub line_ahead : {names : List (List ℕ)} {file : ℕ} {text : List ℕ} {p : Place} {before : List Token} → Resumes names file text p before → front p (drop p.at text) ≡ piece.LineEnd → Ahead text p.at 1
line_ahead {text = text} {p = p} r e = ahead_of text p.at 1 r.within (omega arith) (of_line (fits text p) e)

pub token_ahead : {names : List (List ℕ)} {file : ℕ} {text : List ℕ} {p : Place} {before : List Token} {s : Shape} {n : ℕ} → Resumes names file text p before → front p (drop p.at text) ≡ piece.Token s n → Ahead text p.at n
token_ahead {text = text} {p = p} {n = n} r e = let f = of_token (fits text p) e in ahead_of text p.at n r.within f.0 f.1

pub on_gap : {names : List (List ℕ)} {file : ℕ} {text : List ℕ} {p : Place} {before : List Token} {n : ℕ} → Resumes names file text p before → front p (drop p.at text) ≡ piece.Gap n → Resumes names file text (behind_gap p n) before
on_gap {file = file} {text = text} {p = p} {n = n} r e =
    let d = sym (drop-drop n p.at text) in
    record {
      within = (gap_ahead r e).within;
      go = λ later k ts c. r.go later k ts (gap e (subst (λ t. Cut later file (behind_gap p n) t ts) d c));
      stops = λ f s. r.stops f (past_gap e (subst (λ t. Stops (behind_gap p n) t f) d s));
    }

pub on_line : {names : List (List ℕ)} {file : ℕ} {text : List ℕ} {p : Place} {before : List Token} → Resumes names file text p before → front p (drop p.at text) ≡ piece.LineEnd → Resumes names file text (behind_line p) before
on_line {file = file} {text = text} {p = p} r e =
    let d = sym (drop-drop 1 p.at text) in
    record {
      within = (line_ahead r e).within;
      go = λ later k ts c. r.go later k ts (line_end e (subst (λ t. Cut later file (behind_line p) t ts) d c));
      stops = λ f s. r.stops f (past_line e (subst (λ t. Stops (behind_line p) t f) d s));
    }

pub on_token : {names more : List (List ℕ)} {file : ℕ} {text : List ℕ} {p : Place} {before : List Token} {s : Shape} {n : ℕ} {t : Token} → Resumes names file text p before → front p (drop p.at text) ≡ piece.Token s n → KeepsNumbers names more → IsToken more file p (drop p.at text) s n t → Resumes more file text (behind_token p s n) (before ++ t ∷ [])
on_token {names = names} {more = more} {file = file} {text = text} {p = p} {before = before} {s = s} {n = n} {t = t} r e g i =
    let d = sym (drop-drop n p.at text) in
    record {
      within = (token_ahead r e).within;
      go = λ later k ts c. subst (λ us. IsCut later file text us) (sym (append_assoc before (t ∷ []) ts))
          (r.go later (keep_along names more later g k) (t ∷ ts) (one_more e (token_grows k i) (subst (λ u. Cut later file (behind_token p s n) u ts) d c)));
      stops = λ f q. r.stops f (past_token e (subst (λ u. Stops (behind_token p s n) u f) d q));
    }

pub on_bad : {names : List (List ℕ)} {file : ℕ} {text : List ℕ} {p : Place} {before : List Token} {f : LexFault} → Resumes names file text p before → front p (drop p.at text) ≡ piece.Bad f → HasFault text f
on_bad {f = f} r e = r.stops f (here e)

pub on_unclosed : {names : List (List ℕ)} {file : ℕ} {text : List ℕ} {p : Place} {before : List Token} {f : LexFault} → Resumes names file text p before → front p (drop p.at text) ≡ piece.End → fault_at_end p ≡ Some f → HasFault text f
on_unclosed {f = f} r e n = r.stops f (unclosed e n)

pub on_end : {names : List (List ℕ)} {file : ℕ} {text : List ℕ} {p : Place} {before : List Token} → Resumes names file text p before → front p (drop p.at text) ≡ piece.End → fault_at_end p ≡ None → IsCut names file text before
on_end {names = names} {file = file} {text = text} {before = before} r e n =
    subst (λ us. IsCut names file text us) (append-nil before) (r.go names (λ m h. refl) [] (the_end e n))

-- ---- how many units a piece takes

size_of : (p : Place) (text : List ℕ) → Fits (front p text) (length text)
size_of p text = piece_fits (innermost p.openings) p.before p.at text

pub gap_count : (p : Place) (text : List ℕ) {n : ℕ} → front p text ≡ piece.Gap n → n ≤ length text
gap_count p text e = (of_gap (size_of p text) e).1

pub line_count : (p : Place) (text : List ℕ) → front p text ≡ piece.LineEnd → 1 ≤ length text
line_count p text e = of_line (size_of p text) e

pub token_count : (p : Place) (text : List ℕ) {s : Shape} {n : ℕ} → front p text ≡ piece.Token s n → (1 ≤ n) × (n ≤ length text)
token_count p text e = of_token (size_of p text) e
