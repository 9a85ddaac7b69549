-- The end of a comment.
use Rattle.std.proofs.Common.{◌≡◌, ℕ, suc, ◌+◌, ◌<◌, ◌≤◌, Bool, true, false, if◌then◌else◌, List, [], ◌∷◌, length, drop, Option, Some, None, refl, sym, ap, subst, ◌∙◌, arith}
use Rattle.std.proofs.lemmas.List.{drop-drop, length-drop}
use Rattle.kt_lexer.specs.declared.comments.Mark.TheVariants as mark
use Rattle.kt_lexer.specs.Comments.{and_units, closed, close, in_front, mark_of}

pub short_mark : (text : List ℕ) → length text < 2 → mark.End ≡ mark_of text
short_mark [] h = refl
short_mark (u ∷ []) h = refl
short_mark (u ∷ v ∷ text) h = absurd (omega (arith, h))

pub long_mark : (text : List ℕ) → 2 ≤ length text → in_front text ≡ mark_of text
long_mark [] h = absurd (omega (arith, h))
long_mark (u ∷ []) h = absurd (omega (arith, h))
long_mark (u ∷ v ∷ text) h = refl

-- of the two tests the mark tells which holds
if_closes : (b c : Bool) (x y z : Option ℕ) → (if b then mark.Closes else (if c then mark.Opens else mark.Plain)) ≡ mark.Closes → (if b then x else (if c then y else z)) ≡ x
if_closes true c x y z e = refl
if_closes false true x y z e = absurd (cc)
if_closes false false x y z e = absurd (cc)

if_opens : (b c : Bool) (x y z : Option ℕ) → (if b then mark.Closes else (if c then mark.Opens else mark.Plain)) ≡ mark.Opens → (if b then x else (if c then y else z)) ≡ y
if_opens true c x y z e = absurd (cc)
if_opens false true x y z e = refl
if_opens false false x y z e = absurd (cc)

if_plain : (b c : Bool) (x y z : Option ℕ) → (if b then mark.Closes else (if c then mark.Opens else mark.Plain)) ≡ mark.Plain → (if b then x else (if c then y else z)) ≡ z
if_plain true c x y z e = absurd (cc)
if_plain false true x y z e = absurd (cc)
if_plain false false x y z e = refl

if_end : (b c : Bool) → (if b then mark.Closes else (if c then mark.Opens else mark.Plain)) ≡ mark.End → ⊥
if_end true c e = cc
if_end false true e = cc
if_end false false e = cc

on_closes : (d : ℕ) (text : List ℕ) → mark_of text ≡ mark.Closes → close d text ≡ closed d (λ k. close k (drop 2 text))
on_closes d [] e = absurd (cc)
on_closes d (u ∷ []) e = absurd (cc)
on_closes d (u ∷ v ∷ text) e = if_closes _ _ _ _ _ e

on_opens : (d : ℕ) (text : List ℕ) → mark_of text ≡ mark.Opens → close d text ≡ and_units 2 (close (suc d) (drop 2 text))
on_opens d [] e = absurd (cc)
on_opens d (u ∷ []) e = absurd (cc)
on_opens d (u ∷ v ∷ text) e = if_opens _ _ _ _ _ e

on_plain : (d : ℕ) (text : List ℕ) → mark_of text ≡ mark.Plain → close d text ≡ and_units 1 (close d (drop 1 text))
on_plain d [] e = absurd (cc)
on_plain d (u ∷ []) e = absurd (cc)
on_plain d (u ∷ v ∷ text) e = if_plain _ _ _ _ _ e

on_end : (d : ℕ) (text : List ℕ) → mark_of text ≡ mark.End → close d text ≡ None
on_end d [] e = refl
on_end d (u ∷ []) e = refl
on_end d (u ∷ v ∷ text) e = absurd (if_end _ _ e)

two_left : (text : List ℕ) → (mark_of text ≡ mark.End → ⊥) → 2 ≤ length text
two_left [] h = absurd (h refl)
two_left (u ∷ []) h = absurd (h refl)
two_left (u ∷ v ∷ text) h = omega arith

-- how far a comment has been read
pub record Within (text : List ℕ) (at depth : ℕ) : Type 0 where
  pub within : at ≤ length text
  pub bound : depth ≤ at
  pub rest : close 0 text ≡ and_units at (close depth (drop at text))

none_before : (o : Option ℕ) → o ≡ and_units 0 o
none_before (Some n) = ap Some (omega arith)
none_before None = refl

pub at_start : (text : List ℕ) → Within text 0 0
at_start text = record { within = omega arith; bound = omega arith; rest = none_before (close 0 text) }

together : (a b : ℕ) (o : Option ℕ) → and_units a (and_units b o) ≡ and_units (a + b) o
together a b (Some n) = ap Some (omega arith)
together a b None = refl

-- so many units on
record Onward (text : List ℕ) (at k : ℕ) : Type 0 where
  within : at + k ≤ length text
  same : drop k (drop at text) ≡ drop (at + k) text

onward : (text : List ℕ) (at k : ℕ) → at ≤ length text → (mark_of (drop at text) ≡ mark.End → ⊥) → k ≤ 2 → Onward text at k
onward text at k h m l =
    let two = two_left (drop at text) m in
    record { within = omega (arith, h, l, simp length-drop at two); same = drop-drop k at text }

pub at_close : {text : List ℕ} {at d : ℕ} → Within text at (suc d) → mark.Closes ≡ mark_of (drop at text) → Within text (at + 2) d
at_close {text = text} {at = at} {d = d} w e =
    let o = onward text at 2 w.within (λ h. absurd (cc)) (omega arith) in
    record {
      within = o.within;
      bound = omega (arith, w.bound);
      rest = w.rest ∙ ap (λ m. and_units at m) (on_closes (suc d) (drop at text) (sym e)) ∙ together at 2 (close d (drop 2 (drop at text))) ∙ ap (λ t. and_units (at + 2) (close d t)) o.same;
    }

pub at_open : {text : List ℕ} {at d : ℕ} → Within text at d → mark.Opens ≡ mark_of (drop at text) → Within text (at + 2) (d + 1)
at_open {text = text} {at = at} {d = d} w e =
    let o = onward text at 2 w.within (λ h. absurd (cc)) (omega arith) in
    let s : suc d ≡ d + 1 = omega arith in
    record {
      within = o.within;
      bound = omega (arith, w.bound);
      rest = w.rest ∙ ap (λ m. and_units at m) (on_opens d (drop at text) (sym e)) ∙ together at 2 (close (suc d) (drop 2 (drop at text))) ∙ ap (λ n. and_units (at + 2) (close n (drop 2 (drop at text)))) s ∙ ap (λ t. and_units (at + 2) (close (d + 1) t)) o.same;
    }

pub at_plain : {text : List ℕ} {at d : ℕ} → Within text at d → mark.Plain ≡ mark_of (drop at text) → Within text (at + 1) d
at_plain {text = text} {at = at} {d = d} w e =
    let o = onward text at 1 w.within (λ h. absurd (cc)) (omega arith) in
    record {
      within = o.within;
      bound = omega (arith, w.bound);
      rest = w.rest ∙ ap (λ m. and_units at m) (on_plain d (drop at text) (sym e)) ∙ together at 1 (close d (drop 1 (drop at text))) ∙ ap (λ t. and_units (at + 1) (close d t)) o.same;
    }

pub at_last : {text : List ℕ} {at : ℕ} → Within text at 0 → mark.Closes ≡ mark_of (drop at text) → (at + 2 ≤ length text) × (Some (at + 2) ≡ close 0 text)
at_last {text = text} {at = at} w e =
    ((onward text at 2 w.within (λ h. absurd (cc)) (omega arith)).within, sym (w.rest ∙ ap (λ m. and_units at m) (on_closes 0 (drop at text) (sym e))))

pub at_the_end : {text : List ℕ} {at d : ℕ} → Within text at d → mark.End ≡ mark_of (drop at text) → None ≡ close 0 text
at_the_end {text = text} {at = at} {d = d} w e = sym (w.rest ∙ ap (λ m. and_units at m) (on_end d (drop at text) (sym e)))

pub deeper_by : {text : List ℕ} {at d d' : ℕ} → d ≡ d' → Within text at d → Within text at d'
deeper_by {text = text} {at = at} q w = subst (λ n. Within text at n) q w
