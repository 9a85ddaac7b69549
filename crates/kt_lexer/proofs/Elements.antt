-- Elements of a string's text.
use Rattle.std.proofs.Common.{◌≡◌, ℕ, zero, suc, ◌+◌, ◌-◌, ◌<◌, ◌≤◌, ◌==◌, ◌&&◌, Bool, true, false, if◌then◌else◌, List, [], ◌∷◌, ◌++◌, length, drop, Option, Some, None, refl, sym, ap, ◌∙◌, arith, true≢false, append_assoc, append-nil}
use Rattle.std.proofs.lemmas.List.{drop-drop, length-drop, get_or_past}
use Rattle.kt_lexer.specs.declared.strings.Element.{Element}
use Rattle.kt_lexer.specs.Characters.{unit_at, is_empty, is_line_end}
use Rattle.kt_lexer.specs.Strings.{letter_escape, is_hex, unit_escape, of_letter, escape_of, begins_template, element_of, and_further, length_within, text_length, with_further, units_within, text_units}

past : (text : List ℕ) (n : ℕ) → length text ≤ n → 1 ≤ unit_at text n → ⊥
past text n h k = omega (arith, get_or_past text n 0 h, k)

-- a unit that is not 0 is within the text
pub present : (text : List ℕ) (n : ℕ) → 1 ≤ unit_at text n → n < length text
present text n k = let p = past text n in grind (arith, p, k)

pub same_of : (u v : ℕ) → (u == v) ≡ true → u ≡ v
same_of u v e = grind (arith, e)

pub unit_within : (text : List ℕ) (n k : ℕ) → (unit_at text n == k) ≡ true → 1 ≤ k → n < length text
unit_within text n k e h = let s = same_of (unit_at text n) k e in present text n (omega (arith, s, h))

pub not_empty : (text : List ℕ) → is_empty text ≡ false → 1 ≤ length text
not_empty [] e = absurd (true≢false e)
not_empty (u ∷ text) e = omega arith

-- an element takes some units, and no more than there are
pub data SomeFits : Option Element → ℕ → Type 0 where
  no_element : {n : ℕ} → SomeFits None n
  an_element : {e : Element} {n : ℕ} → 1 ≤ e.length → e.length ≤ n → SomeFits (Some e) n

if_some : (b : Bool) {x y : Option Element} {n : ℕ} → (b ≡ true → SomeFits x n) → (b ≡ false → SomeFits y n) → SomeFits (if b then x else y) n
if_some true f g = f refl
if_some false f g = g refl

hex_some : (u : ℕ) → is_hex u ≡ true → 1 ≤ u
hex_some zero e = absurd (true≢false (sym e))
hex_some (suc u) e = omega arith

second_of : (b : Bool) {c : Bool} → (b && c) ≡ true → c ≡ true
second_of true e = e
second_of false e = absurd (true≢false (sym e))

unit_escape_fits : (a b c d n : ℕ) → (1 ≤ d → 6 ≤ n) → SomeFits (unit_escape a b c d) n
unit_escape_fits a b c d n h = if_some (is_hex a && is_hex b && is_hex c && is_hex d) (λ e. an_element (omega arith) (h (hex_some d (second_of (is_hex a && is_hex b && is_hex c) e)))) (λ e. no_element)

of_any_letter : (o : Option ℕ) (n : ℕ) → 2 ≤ n → SomeFits (of_letter o) n
of_any_letter (Some u) n h = an_element (omega arith) h
of_any_letter None n h = no_element

of_letter_fits : (u n : ℕ) → (1 ≤ u → 2 ≤ n) → SomeFits (of_letter (letter_escape u)) n
of_letter_fits zero n h = no_element
of_letter_fits (suc u) n h = of_any_letter (letter_escape (suc u)) n (h (omega arith))

pub escape_fits : (text : List ℕ) → SomeFits (escape_of text) (length text)
escape_fits text = if_some (unit_at text 1 == 117)
    (λ e. unit_escape_fits (unit_at text 2) (unit_at text 3) (unit_at text 4) (unit_at text 5) (length text) (λ h. let p = present text 5 h in omega (arith, p)))
    (λ e. of_letter_fits (unit_at text 1) (length text) (λ h. let p = present text 1 h in omega (arith, p)))

pub element_fits : (text : List ℕ) → SomeFits (element_of text) (length text)
element_fits text =
    if_some (is_empty text) (λ e. no_element) (λ some.
    if_some (is_line_end (unit_at text 0)) (λ e. no_element) (λ e.
    if_some (unit_at text 0 == 34) (λ e. no_element) (λ e.
    if_some (unit_at text 0 == 92) (λ e. escape_fits text) (λ e.
    if_some (begins_template text) (λ e. no_element) (λ e. an_element (omega arith) (not_empty text some))))))

pub record ElementFits (e : Element) (n : ℕ) : Type 0 where
  pub some : 1 ≤ e.length
  pub within : e.length ≤ n

same_some : {a b : Element} → Some a ≡ Some b → a ≡ b
same_some i = cc

of_fits : {o : Option Element} {e : Element} {n : ℕ} → SomeFits o n → o ≡ Some e → ElementFits e n
of_fits no_element i = absurd (cc)
of_fits (an_element h k) i = let e = same_some i in record { some = rw (sym e) h; within = rw (sym e) k }

pub fits_of : (text : List ℕ) {e : Element} → element_of text ≡ Some e → ElementFits e (length text)
fits_of text i = of_fits (element_fits text) i

-- ---- behind the units of an element

skip_length : (k : ℕ) (text : List ℕ) → k ≤ length text → length_within k text ≡ k + length_within 0 (drop k text)
skip_length zero text h = omega arith
skip_length (suc k) [] h = absurd (omega (arith, h))
skip_length (suc k) (u ∷ text) h = let m = skip_length k text (omega (arith, h)) in omega (arith, m)

skip_units : (k : ℕ) (text : List ℕ) → units_within k text ≡ units_within 0 (drop k text)
skip_units zero text = refl
skip_units (suc k) [] = refl
skip_units (suc k) (u ∷ text) = skip_units k text

pub text_stops : (text : List ℕ) → element_of text ≡ None → text_length text ≡ 0
text_stops [] e = refl
text_stops (u ∷ text) e = ap (λ o. and_further o (λ k. length_within k text)) e

pub units_stop : (text : List ℕ) → element_of text ≡ None → text_units text ≡ []
units_stop [] e = refl
units_stop (u ∷ text) e = ap (λ o. with_further o (λ k. units_within k text)) e

by_one : (n : ℕ) (u : ℕ) (text : List ℕ) → 1 ≤ n → drop (n - 1) text ≡ drop n (u ∷ text)
by_one zero u text h = absurd (omega (arith, h))
by_one (suc n) u text h = let e : suc n - 1 ≡ n = omega arith in ap (λ m. drop m text) e

pub text_goes : (text : List ℕ) {e : Element} → element_of text ≡ Some e → text_length text ≡ e.length + text_length (drop e.length text)
text_goes [] i = absurd (cc)
text_goes (u ∷ text) {e = e} i =
    let f = fits_of (u ∷ text) i in
    let one : text_length (u ∷ text) ≡ suc (length_within (e.length - 1) text) = ap (λ o. and_further o (λ k. length_within k text)) i in
    let skip = skip_length (e.length - 1) text (omega (arith, f.some, f.within)) in
    let same : length_within 0 (drop (e.length - 1) text) ≡ length_within 0 (drop e.length (u ∷ text)) = ap (length_within 0) (by_one e.length u text f.some) in
    omega (arith, one, skip, same, f.some)

pub units_go : (text : List ℕ) {e : Element} → element_of text ≡ Some e → text_units text ≡ e.unit ∷ text_units (drop e.length text)
units_go [] i = absurd (cc)
units_go (u ∷ text) {e = e} i =
    let f = fits_of (u ∷ text) i in
    let one : text_units (u ∷ text) ≡ e.unit ∷ units_within (e.length - 1) text = ap (λ o. with_further o (λ k. units_within k text)) i in
    one ∙ ap (λ us. e.unit ∷ us) (skip_units (e.length - 1) text ∙ ap (units_within 0) (by_one e.length u text f.some))

-- how far a text has been read
pub record Spelled (text : List ℕ) (at : ℕ) : Type 0 where
  pub within : at ≤ length text
  pub rest : text_length text ≡ at + text_length (drop at text)

pub spelled_more : {text : List ℕ} {at : ℕ} {e : Element} → Spelled text at → element_of (drop at text) ≡ Some e → Spelled text (at + e.length)
spelled_more {text = text} {at = at} {e = e} r i =
    let f = fits_of (drop at text) i in
    let w : e.length ≤ length (drop at text) = f.within in
    let g = text_goes (drop at text) i in
    let d : text_length (drop e.length (drop at text)) ≡ text_length (drop (at + e.length) text) = ap text_length (drop-drop e.length at text) in
    record { within = omega (arith, r.within, simp length-drop at w); rest = omega (arith, r.rest, g, d) }

-- an element at a place of a text
pub record Ahead (text : List ℕ) (at : ℕ) (e : Element) : Type 0 where
  pub some : 1 ≤ e.length
  pub within : at + e.length ≤ length text

ahead : (text : List ℕ) (at : ℕ) {e : Element} → at ≤ length text → element_of (drop at text) ≡ Some e → Ahead text at e
ahead text at {e = e} h i =
    let f = fits_of (drop at text) i in
    let w : e.length ≤ length (drop at text) = f.within in
    record { some = f.some; within = omega (arith, h, simp length-drop at w) }

pub element_ahead_spelled : {text : List ℕ} {at : ℕ} {e : Element} → Spelled text at → element_of (drop at text) ≡ Some e → Ahead text at e
element_ahead_spelled {text = text} {at = at} r i = ahead text at r.within i

pub spelled_end : {text : List ℕ} {at : ℕ} → Spelled text at → element_of (drop at text) ≡ None → at ≡ text_length text
spelled_end {text = text} {at = at} r i = let s = text_stops (drop at text) i in omega (arith, r.rest, s)

pub record Unescaped (text : List ℕ) (at : ℕ) (units : List ℕ) : Type 0 where
  pub within : at ≤ length text
  pub rest : text_units text ≡ units ++ text_units (drop at text)

pub unescaped_more : {text units : List ℕ} {at : ℕ} {e : Element} → Unescaped text at units → element_of (drop at text) ≡ Some e → Unescaped text (at + e.length) (units ++ e.unit ∷ [])
unescaped_more {text = text} {units = units} {at = at} {e = e} r i =
    let f = fits_of (drop at text) i in
    let w : e.length ≤ length (drop at text) = f.within in
    record {
      within = omega (arith, r.within, simp length-drop at w);
      rest = r.rest ∙ ap (λ us. units ++ us) (units_go (drop at text) i ∙ ap (λ us. e.unit ∷ text_units us) (drop-drop e.length at text)) ∙ sym (append_assoc units (e.unit ∷ []) (text_units (drop (at + e.length) text)));
    }

pub unescaped_end : {text units : List ℕ} {at : ℕ} → Unescaped text at units → element_of (drop at text) ≡ None → units ≡ text_units text
unescaped_end {text = text} {units = units} {at = at} r i = sym (r.rest ∙ ap (λ us. units ++ us) (units_stop (drop at text) i) ∙ append-nil units)

pub element_ahead_unescaped : {text units : List ℕ} {at : ℕ} {e : Element} → Unescaped text at units → element_of (drop at text) ≡ Some e → Ahead text at e
element_ahead_unescaped {text = text} {at = at} r i = ahead text at r.within i
