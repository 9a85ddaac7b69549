-- A text has one cut at most, and what the scanner has read so far.
use Rattle.std.proofs.Common.{◌≡◌, ℕ, zero, suc, ◌+◌, ◌<◌, ◌≤◌, Bool, true, false, ◌||◌, if◌then◌else◌, List, [], ◌∷◌, ◌++◌, length, drop, Option, Some, None, Result, Ok, Err, refl, sym, ap, subst, ◌∙◌, append_assoc, append-nil, arith}
use Rattle.std.proofs.lemmas.List.{length-take, length-drop, drop-drop}
use Rattle.kc_text.specs.declared.errors.Fail.{Fail}
use Rattle.kc_text.specs.declared.errors.Fail.TheVariants.{Found, Memory}
use Rattle.form_parser.specs.declared.tokens.NotBuilt.{NotBuilt}
use Rattle.form_parser.specs.declared.tokens.TokenKind.{TokenKind}
use Rattle.form_parser.specs.declared.tokens.UnitClass.{UnitClass}
use Rattle.form_parser.specs.declared.tokens.UnitClass.TheVariants as class
use Rattle.form_parser.specs.declared.tokens.Sign.{Sign}
use Rattle.form_parser.specs.declared.tokens.Token.{Token}
use Rattle.form_parser.specs.Cut.{unit_class, single_kind, double_kind, is_foreign, is_identity, sized, or_single, sign_of, word_of, word_kind, token, Cut, the_end, blank, line_end, word, sign}
use Rattle.form_parser.specs.Pieces.{IsToken, a_word, a_sign, IsNothing, no_word, no_sign, Scans}

-- ---- the class of a unit decides which rule applies

blank_or_line : {c : UnitClass} → c ≡ class.Blank → c ≡ class.LineEnd → ⊥
blank_or_line p q = cc

blank_or_word : {c : UnitClass} → c ≡ class.Blank → c ≡ class.Word → ⊥
blank_or_word p q = cc

blank_or_sign : {c : UnitClass} → c ≡ class.Blank → c ≡ class.Sign → ⊥
blank_or_sign p q = cc

line_or_word : {c : UnitClass} → c ≡ class.LineEnd → c ≡ class.Word → ⊥
line_or_word p q = cc

line_or_sign : {c : UnitClass} → c ≡ class.LineEnd → c ≡ class.Sign → ⊥
line_or_sign p q = cc

word_or_sign : {c : UnitClass} → c ≡ class.Word → c ≡ class.Sign → ⊥
word_or_sign p q = cc

same_some : {A : Type 0} {o : Option A} {a b : A} → o ≡ Some a → o ≡ Some b → a ≡ b
same_some p q = cc

none_or_some : {A : Type 0} {o : Option A} {a : A} → o ≡ None → o ≡ Some a → ⊥
none_or_some p q = cc

same_tokens : {k l : TokenKind} (marked : Bool) (at count : ℕ) {ts us : List Token} → k ≡ l → ts ≡ us → token k marked at count ∷ ts ≡ token l marked at count ∷ us
same_tokens marked at count p q = cc

same_signs : (marked : Bool) (at : ℕ) {s z : Sign} {ts us : List Token} → s ≡ z → ts ≡ us → token s.kind marked at s.length ∷ ts ≡ token z.kind marked at z.length ∷ us
same_signs marked at p q = cc

-- a text has one cut at most
pub one_cut : {at : ℕ} {marked : Bool} {us : List ℕ} {ts ts' : List Token} → Cut at marked us ts → Cut at marked us ts' → ts ≡ ts'
one_cut the_end the_end = refl
one_cut (blank h c) (blank h' c') = one_cut c c'
one_cut (blank h c) (line_end h' c') = absurd (blank_or_line h h')
one_cut (blank h c) (word h' k' c') = absurd (blank_or_word h h')
one_cut (blank h c) (sign h' j' c') = absurd (blank_or_sign h h')
one_cut (line_end h c) (blank h' c') = absurd (blank_or_line h' h)
one_cut (line_end h c) (line_end h' c') = one_cut c c'
one_cut (line_end h c) (word h' k' c') = absurd (line_or_word h h')
one_cut (line_end h c) (sign h' j' c') = absurd (line_or_sign h h')
one_cut (word h k c) (blank h' c') = absurd (blank_or_word h' h)
one_cut (word h k c) (line_end h' c') = absurd (line_or_word h' h)
one_cut (word {at = at} {u = u} {marked = marked} {us = us} h k c) (word h' k' c') = same_tokens marked at (length (word_of (u ∷ us))) (same_some k k') (one_cut c c')
one_cut (word h k c) (sign h' j' c') = absurd (word_or_sign h h')
one_cut (sign h j c) (blank h' c') = absurd (blank_or_sign h' h)
one_cut (sign h j c) (line_end h' c') = absurd (line_or_sign h' h)
one_cut (sign h j c) (word h' k' c') = absurd (word_or_sign h' h)
one_cut (sign {at = at} {u = u} {marked = marked} {us = us} h j c) (sign {ts = ts'} h' j' c') =
    let e = same_some j j' in
    same_signs marked at e (one_cut c (subst (λ (x : Sign). Cut (at + x.length) false (drop x.length (u ∷ us)) ts') (sym e) c'))

-- where nothing of the form begins there is no cut
pub nothing_cut : {at : ℕ} {marked : Bool} {us : List ℕ} {ts : List Token} → IsNothing us → Cut at marked us ts → ⊥
nothing_cut (no_word h n) (blank h' c) = blank_or_word h' h
nothing_cut (no_word h n) (line_end h' c) = line_or_word h' h
nothing_cut (no_word h n) (word h' k c) = none_or_some n k
nothing_cut (no_word h n) (sign h' j c) = word_or_sign h h'
nothing_cut (no_sign h n) (blank h' c) = blank_or_sign h' h
nothing_cut (no_sign h n) (line_end h' c) = line_or_sign h' h
nothing_cut (no_sign h n) (word h' k c) = word_or_sign h' h
nothing_cut (no_sign h n) (sign h' j c) = none_or_some n j

-- ---- behind one piece

behind_blank : {at u : ℕ} {marked : Bool} {us : List ℕ} {ts : List Token} → unit_class u ≡ class.Blank → Cut at marked (u ∷ us) ts → Cut (suc at) marked us ts
behind_blank h (blank h' c) = c
behind_blank h (line_end h' c) = absurd (blank_or_line h h')
behind_blank h (word h' k c) = absurd (blank_or_word h h')
behind_blank h (sign h' j c) = absurd (blank_or_sign h h')

behind_line : {at u : ℕ} {marked : Bool} {us : List ℕ} {ts : List Token} → unit_class u ≡ class.LineEnd → Cut at marked (u ∷ us) ts → Cut (suc at) true us ts
behind_line h (blank h' c) = absurd (blank_or_line h' h)
behind_line h (line_end h' c) = c
behind_line h (word h' k c) = absurd (line_or_word h h')
behind_line h (sign h' j c) = absurd (line_or_sign h h')

abbrev Later : ℕ → List ℕ → Type 0
Later at us = (ts : List Token) × Cut at false us ts

behind_word : {at u : ℕ} {marked : Bool} {us : List ℕ} {ts : List Token} → unit_class u ≡ class.Word → Cut at marked (u ∷ us) ts → Later (at + length (word_of (u ∷ us))) (drop (length (word_of (u ∷ us))) (u ∷ us))
behind_word h (blank h' c) = absurd (blank_or_word h' h)
behind_word h (line_end h' c) = absurd (line_or_word h' h)
behind_word h (word h' k c) = (_, c)
behind_word h (sign h' j c) = absurd (word_or_sign h h')

behind_sign : {at u : ℕ} {marked : Bool} {us : List ℕ} {ts : List Token} {s : Sign} → unit_class u ≡ class.Sign → sign_of u us ≡ Some s → Cut at marked (u ∷ us) ts
    → Later (at + s.length) (drop s.length (u ∷ us))
behind_sign h j (blank h' c) = absurd (blank_or_sign h' h)
behind_sign h j (line_end h' c) = absurd (line_or_sign h' h)
behind_sign h j (word h' k c) = absurd (word_or_sign h' h)
behind_sign {at = at} {u = u} {us = us} h j (sign h' j' c) = subst (λ (x : Sign). Later (at + x.length) (drop x.length (u ∷ us))) (same_some j' j) (_, c)

-- a token at the front: what stands before it, and what is behind it
token_before : {at count : ℕ} {k : TokenKind} {us : List ℕ} → IsToken k count us → (marked : Bool) (ts : List Token) → Cut (at + count) false (drop count us) ts → Cut at marked us (token k marked at count ∷ ts)
token_before {at = at} {k = k} (a_word {u = u} {us = us} h w e) marked ts c =
    let P : ℕ → Type 0 = λ n. Cut (at + n) false (drop n (u ∷ us)) ts → Cut at marked (u ∷ us) (token k marked at n ∷ ts) in
    subst P (sym e) (λ d. word h w d) c
token_before {at = at} {count = count} (a_sign {u = u} {us = us} {s = s} h j e f) marked ts c =
    let P : TokenKind → ℕ → Type 0 = λ l n. Cut (at + n) false (drop n (u ∷ us)) ts → Cut at marked (u ∷ us) (token l marked at n ∷ ts) in
    subst (λ l. P l count) (sym e) (subst (P s.kind) (sym f) (λ d. sign h j d)) c

behind_token : {at count : ℕ} {k : TokenKind} {us : List ℕ} {marked : Bool} {ts : List Token} → IsToken k count us → Cut at marked us ts → Later (at + count) (drop count us)
behind_token {at = at} (a_word {u = u} {us = us} h w e) c = subst (λ (n : ℕ). Later (at + n) (drop n (u ∷ us))) (sym e) (behind_word h c)
behind_token {at = at} (a_sign {u = u} {us = us} h j e f) c = subst (λ (n : ℕ). Later (at + n) (drop n (u ∷ us))) (sym f) (behind_sign h j c)

pub some_units : {k : TokenKind} (w : List ℕ) → word_kind w ≡ Some k → 0 < length w
some_units [] e = absurd (none_or_some refl e)
some_units (u ∷ us) e = omega arith

pub record Counts (count : ℕ) (us : List ℕ) : Type 0 where
  pub some : 0 < count
  pub within : count ≤ length us

sized_length : (o : Option TokenKind) (n : ℕ) {s : Sign} → sized o n ≡ Some s → s.length ≡ n
sized_length (Some k) n e = cc
sized_length None n e = absurd (cc)

-- a sign has one or two units, where there are so many
pub signs_length : (u : ℕ) (us : List ℕ) {s : Sign} → sign_of u us ≡ Some s → (0 < s.length) × (s.length ≤ 1 + length us)
signs_length u [] e = let n = sized_length (single_kind u) 1 e in (omega (arith, n), omega (arith, n))
signs_length u (v ∷ rest) {s = s} e = by (is_foreign u v || is_identity u v rest) (double_kind u v) e
  where
    by : (b : Bool) (o : Option TokenKind) → (if b then None else or_single u o) ≡ Some s → (0 < s.length) × (s.length ≤ 1 + length (v ∷ rest))
    by true o e = absurd (cc)
    by false (Some k) e = let n = sized_length (Some k) 2 e in (omega (arith, n), omega (arith, n))
    by false None e = let n = sized_length (single_kind u) 1 e in (omega (arith, n), omega (arith, n))

pub token_counts : {k : TokenKind} {count : ℕ} {us : List ℕ} → IsToken k count us → Counts count us
token_counts (a_word {u = u} {us = us} h w e) =
    let some = some_units (word_of (u ∷ us)) w in
    record { some = omega (arith, e, some); within = omega (arith, e, length-take {A = ℕ}) }
token_counts (a_sign {u = u} {us = us} h j e f) =
    let n = signs_length u us j in
    record { some = omega (arith, f, n.0); within = omega (arith, f, n.1) }

-- a text by its first unit
pub word_token : {text us : List ℕ} {u count : ℕ} {k : TokenKind} → text ≡ u ∷ us → unit_class u ≡ class.Word → word_kind (word_of text) ≡ Some k → count ≡ length (word_of text) → IsToken k count text
word_token {count = count} {k = k} e h w n =
    subst (λ t. word_kind (word_of t) ≡ Some k → count ≡ length (word_of t) → IsToken k count t) (sym e) (λ w n. a_word h w n) w n

pub sign_token : {text us : List ℕ} {u count : ℕ} {k : TokenKind} {s : Sign} → text ≡ u ∷ us → unit_class u ≡ class.Sign → sign_of u us ≡ Some s → k ≡ s.kind → count ≡ s.length
    → IsToken k count text
sign_token {count = count} {k = k} e h j p q = subst (λ t. IsToken k count t) (sym e) (a_sign h j p q)

pub not_word : {text us : List ℕ} {u : ℕ} → text ≡ u ∷ us → unit_class u ≡ class.Word → word_kind (word_of text) ≡ None → IsNothing text
not_word e h w = subst (λ t. word_kind (word_of t) ≡ None → IsNothing t) (sym e) (λ w. no_word h w) w

pub not_sign : {text us : List ℕ} {u : ℕ} → text ≡ u ∷ us → unit_class u ≡ class.Sign → sign_of u us ≡ None → IsNothing text
not_sign e h j = subst (λ t. IsNothing t) (sym e) (no_sign h j)

-- ---- what the rest of the scanner's loop gives is what the whole gives

pub record Resumes (text : List ℕ) (at : ℕ) (marked : Bool) (before : List Token) : Type 0 where
  pub within : at ≤ length text
  pub whole : (r : Result (List Token) (Fail NotBuilt)) → Scans at marked (drop at text) before r → Scans 0 false text [] r

pub at_start : (text : List ℕ) → Resumes text 0 false []
at_start text = record { within = omega arith; whole = λ r s. s }

-- one piece, which makes these tokens
passes : {at to : ℕ} {marked later : Bool} {us vs : List ℕ} (before new after : List Token) → after ≡ before ++ new
    → ((ts : List Token) → Cut to later vs ts → Cut at marked us (new ++ ts))
    → ((ts : List Token) → Cut at marked us ts → (rest : List Token) × Cut to later vs rest)
    → (r : Result (List Token) (Fail NotBuilt)) → Scans to later vs after r → Scans at marked us before r
passes before new after e go back (Ok all) s = record {
  tokens = new ++ s.tokens;
  cut = go s.tokens s.cut;
  whole = s.whole ∙ ap (λ l. l ++ s.tokens) e ∙ append_assoc before new s.tokens;
}
passes before new after e go back (Err (Found cause)) s = λ ts c. let k = back ts c in s k.0 k.1
passes before new after e go back (Err Memory) s = tt

moved : {at : ℕ} {marked : Bool} {us vs : List ℕ} {ts : List Token} → us ≡ vs → Cut at marked us ts → Cut at marked vs ts
moved {at = at} {marked = marked} {ts = ts} e c = subst (λ l. Cut at marked l ts) e c

record Next (n : ℕ) (text rest : List ℕ) : Type 0 where
  rest_is : drop (suc n) text ≡ rest
  within : suc n ≤ length text

next_of : (n : ℕ) (text : List ℕ) {u : ℕ} {rest : List ℕ} → drop n text ≡ u ∷ rest → Next n text rest
next_of zero [] e = absurd (cc)
next_of zero (x ∷ ts) e = record { rest_is = cc; within = omega arith }
next_of (suc n) [] e = absurd (cc)
next_of (suc n) (x ∷ ts) e = let k = next_of n ts e in record { rest_is = k.rest_is; within = omega (arith, k.within) }

pub on_blank : {text : List ℕ} {at : ℕ} {marked : Bool} {before : List Token} {u : ℕ} {us : List ℕ} → Resumes text at marked before → drop at text ≡ u ∷ us → unit_class u ≡ class.Blank → Resumes text (suc at) marked before
on_blank {text = text} {at = at} {before = before} v e h =
    let k = next_of at text e in
    record {
      within = k.within;
      whole = λ r s. v.whole r (passes before [] before (sym (append-nil before))
          (λ ts c. moved (sym e) (blank h (moved k.rest_is c)))
          (λ ts c. (ts, moved (sym k.rest_is) (behind_blank h (moved e c)))) r s);
    }

pub on_line : {text : List ℕ} {at : ℕ} {marked : Bool} {before : List Token} {u : ℕ} {us : List ℕ} → Resumes text at marked before → drop at text ≡ u ∷ us → unit_class u ≡ class.LineEnd → Resumes text (suc at) true before
on_line {text = text} {at = at} {before = before} v e h =
    let k = next_of at text e in
    record {
      within = k.within;
      whole = λ r s. v.whole r (passes before [] before (sym (append-nil before))
          (λ ts c. moved (sym e) (line_end h (moved k.rest_is c)))
          (λ ts c. (ts, moved (sym k.rest_is) (behind_line h (moved e c)))) r s);
    }

pub token_fits : (text : List ℕ) {at count : ℕ} {k : TokenKind} → at ≤ length text → IsToken k count (drop at text) → at + count ≤ length text
token_fits text {at = at} le h = let n = (token_counts h).within in omega (arith, simp length-drop at n)

pub on_token : {text : List ℕ} {at count : ℕ} {marked : Bool} {before : List Token} {k : TokenKind} → Resumes text at marked before → IsToken k count (drop at text) → Resumes text (at + count) false (before ++ token k marked at count ∷ [])
on_token {text = text} {at = at} {count = count} {marked = marked} {before = before} {k = k} v h =
    let e = drop-drop count at text in
    record {
      within = token_fits text v.within h;
      whole = λ r s. v.whole r (passes before (token k marked at count ∷ []) (before ++ token k marked at count ∷ []) refl
          (λ ts c. token_before h marked ts (moved (sym e) c))
          (λ ts c. let l = behind_token h c in (l.0, moved e l.1)) r s);
    }

pub on_nothing : {text : List ℕ} {at : ℕ} {marked : Bool} {before : List Token} → Resumes text at marked before → IsNothing (drop at text) → (ts : List Token) → Cut 0 false text ts → ⊥
on_nothing v h = v.whole (Err (Found (record {}))) (λ ts c. nothing_cut h c)

pub on_end : {text : List ℕ} {at : ℕ} {marked : Bool} {before : List Token} → Resumes text at marked before → drop at text ≡ [] → Scans 0 false text [] (Ok before)
on_end {before = before} v e = v.whole (Ok before) (record { tokens = []; cut = moved (sym e) the_end; whole = sym (append-nil before) })
