-- The steps of the functions that look farther than the next token, and of those that go by what they say.
use Rattle.std.proofs.Common.{◌≡◌, ℕ, suc, ◌+◌, ◌≤◌, max, Bool, true, false, ◌&&◌, List, [], ◌∷◌, length, drop, refl, sym, ap, subst, ◌∙◌, arith}
use Rattle.grammars.specs.Grammar.{Test, next, Part, choose, many, Cst, none, pair, left, right, first, test}
use Rattle.grammars.specs.Tests.{count_if, and_then}
use Rattle.kc_text.specs.declared.errors.Fail.{Fail}
use Rattle.kt_bodies.specs.Looks.{Looked}
use Rattle.kt_lexer.specs.declared.token.Token.{Token}
use Rattle.kt_grammar.specs.declared.cursor.Cursor.{Cursor}
use Rattle.kt_grammar.specs.Parsed.{Read, Refused, Halts, Taken}
use Rattle.kt_grammar.specs.Rows.{Row}
use Rattle.kt_grammar.proofs.Advances.{refused_wider, refused_left, refused_turn, refused_instead, refused_more, halts_on}
use Rattle.kt_grammar.proofs.Steps.{BegunAt, begun_to, wider, read_left, read_instead, read_more, read_stop}

-- ---- what a test says, and the place of the farthest token that it looks at

pub record Says (f : Test Token) (ts : List Token) (at : ℕ) (holds : Bool) (end : ℕ) : Type 0 where
  pub is : holds ≡ f.holds (drop at ts)
  pub far : end ≡ at + f.far (drop at ts)

pub says_next : (f : Token → Bool) {ts : List Token} {at : ℕ} {b : Bool} → b ≡ test f (first (drop at ts)) → Says (next f) ts at b at
says_next f e = record { is = e; far = omega arith }

no_holds : (f : Token → Bool) (g : Test Token) (us : List Token) → test f (first us) ≡ false → (and_then f g).holds us ≡ false
no_holds f g [] h = refl
no_holds f g (t ∷ us) h = ap (λ b. b && g.holds us) h

no_far : (f : Token → Bool) (g : Test Token) (us : List Token) → test f (first us) ≡ false → (and_then f g).far us ≡ 0
no_far f g [] h = refl
no_far f g (t ∷ us) h = ap (λ b. count_if b (g.far us)) h

pub says_no : (f : Token → Bool) (g : Test Token) {ts : List Token} {at : ℕ} → test f (first (drop at ts)) ≡ false → Says (and_then f g) ts at false at
says_no f g {ts = ts} {at = at} h = record { is = sym (no_holds f g (drop at ts) h); far = omega (arith, no_far f g (drop at ts) h) }

on_holds : (f : Token → Bool) (g : Test Token) {ts : List Token} {at mid : ℕ} (o : Taken f ts at mid) → (and_then f g).holds (drop at ts) ≡ g.holds (drop mid ts)
on_holds f g {ts = ts} {mid = mid} o = ap (and_then f g).holds o.here ∙ ap (λ b. b && g.holds (drop mid ts)) o.is_so

on_far : (f : Token → Bool) (g : Test Token) {ts : List Token} {at mid : ℕ} (o : Taken f ts at mid) → (and_then f g).far (drop at ts) ≡ suc (g.far (drop mid ts))
on_far f g {ts = ts} {mid = mid} o = ap (and_then f g).far o.here ∙ ap (λ b. count_if b (g.far (drop mid ts))) o.is_so

pub says_on : (f : Token → Bool) (g : Test Token) {ts : List Token} {at mid n : ℕ} {b : Bool} (o : Taken f ts at mid) → Says g ts mid b n → Says (and_then f g) ts at b n
says_on f g o k = record { is = k.is ∙ sym (on_holds f g o); far = omega (arith, k.far, o.next, on_far f g o) }

pub looked_at : {f : Test Token} {a : Part Row Token} {ts : List Token} {start : Cursor} {n : ℕ} {b : Bool} (mid : Cursor) → Says f ts start.at b n → n ≤ length ts → BegunAt a ts start.at n
    → mid ≡ record { at = start.at; looked = max start.looked n } → Looked f a ts start mid b
looked_at {f = f} {a = a} {ts = ts} {start = start} {n = n} {b = b} mid k w g e = subst (λ (c : Cursor). Looked f a ts start c b) (sym e) (record {
  says = k.is;
  same = refl;
  so_far = omega (arith, k.far);
  within = omega (arith, w, k.far);
  begun = begun_to a ts start.at n (start.at + f.far (drop start.at ts)) k.far g;
})

pub looked_so : {f : Test Token} {a : Part Row Token} {ts : List Token} {start mid : Cursor} {b d : Bool} → b ≡ d → Looked f a ts start mid b → Looked f a ts start mid d
looked_so {f = f} {a = a} {ts = ts} {start = start} {mid = mid} e k = subst (λ b. Looked f a ts start mid b) e k

-- ---- readings behind it

abbrev reach : {f : Test Token} {a : Part Row Token} {ts : List Token} {start mid : Cursor} {b : Bool} (k : Looked f a ts start mid b) → ℕ
reach {f = f} {ts = ts} {start = start} k = start.at + f.far (drop start.at ts)

from_start : {f : Test Token} {a c : Part Row Token} {ts : List Token} {start mid : Cursor} {b : Bool} {end l : ℕ} {x : Cst Token} (k : Looked f a ts start mid b) → Read c ts mid.at end l x → Read c ts start.at end l x
from_start {c = c} {ts = ts} {end = end} {l = l} {x = x} k p = subst (λ n. Read c ts n end l x) k.same p

pub start_within : {f : Test Token} {a : Part Row Token} {ts : List Token} {start mid : Cursor} {b : Bool} (k : Looked f a ts start mid b) → start.at ≤ length ts
start_within k = omega (arith, k.within)

pub looked_left : {f : Test Token} {a b : Part Row Token} {ts : List Token} {start mid : Cursor} {end l : ℕ} {x : Cst Token} (k : Looked f a ts start mid true) → Read a ts mid.at end l x
    → Read (choose f a b) ts start.at end (max (reach k) l) (left x)
looked_left k p = read_left (sym k.says) (omega arith) (wider (reach k) k.within k.begun (from_start k p))

pub looked_right : {f : Test Token} {a b : Part Row Token} {ts : List Token} {start mid : Cursor} {end l : ℕ} {x : Cst Token} (k : Looked f a ts start mid false) → Read b ts mid.at end l x
    → Read (choose f a b) ts start.at end (max (reach k) l) (right x)
looked_right k p = read_instead (reach k) (sym k.says) refl k.within k.begun (from_start k p)

pub looked_turn : {f : Test Token} {a : Part Row Token} {ts : List Token} {start mid : Cursor} {next end l m : ℕ} {x y : Cst Token} (k : Looked f a ts start mid true) → Read a ts mid.at next l x
    → Read (many f a) ts next end m y → Read (many f a) ts start.at end (max (max (reach k) l) m) (pair x y)
looked_turn k p q = read_more (sym k.says) (omega arith) (wider (reach k) k.within k.begun (from_start k p)) q

pub looked_stop : {f : Test Token} {a : Part Row Token} {ts : List Token} {start mid : Cursor} (k : Looked f a ts start mid false) → Read (many f a) ts start.at mid.at (reach k) none
looked_stop {f = f} {a = a} {ts = ts} {start = start} k = subst (λ n. Read (many f a) ts start.at n (reach k) none) (sym k.same) (read_stop (reach k) (sym k.says) refl (start_within k) k.within k.begun)

-- ---- refusals behind it

refused_there : {f : Test Token} {a c : Part Row Token} {ts : List Token} {start mid : Cursor} {b : Bool} {place : ℕ} (k : Looked f a ts start mid b) → Refused c ts mid.at place → Refused c ts start.at place
refused_there {c = c} {ts = ts} {place = place} k r = subst (λ n. Refused c ts n place) k.same r

pub halts_looked_left : {f : Test Token} {a b : Part Row Token} {ts : List Token} {start mid : Cursor} {e : Fail ℕ} (k : Looked f a ts start mid true) → Halts a ts mid e → Halts (choose f a b) ts start e
halts_looked_left k q = halts_on (reach k) k.so_far (λ place r. refused_left (start_within k) (sym k.says) (omega arith) (refused_wider (reach k) (start_within k) k.within k.begun (refused_there k r))) q

pub halts_looked_right : {f : Test Token} {a b : Part Row Token} {ts : List Token} {start mid : Cursor} {e : Fail ℕ} (k : Looked f a ts start mid false) → Halts b ts mid e → Halts (choose f a b) ts start e
halts_looked_right k q = halts_on (reach k) k.so_far (λ place r. refused_instead (reach k) (start_within k) k.within (sym k.says) refl k.begun (refused_there k r)) q

pub halts_looked_turn : {f : Test Token} {a : Part Row Token} {ts : List Token} {start mid : Cursor} {e : Fail ℕ} (k : Looked f a ts start mid true) → Halts a ts mid e → Halts (many f a) ts start e
halts_looked_turn k q = halts_on (reach k) k.so_far (λ place r. refused_turn (start_within k) (sym k.says) (omega arith) (refused_wider (reach k) (start_within k) k.within k.begun (refused_there k r))) q

pub halts_looked_more : {f : Test Token} {a : Part Row Token} {ts : List Token} {start mid next : Cursor} {l : ℕ} {x : Cst Token} {e : Fail ℕ} (k : Looked f a ts start mid true) → Read a ts mid.at next.at l x
    → next.looked ≡ max mid.looked l → Halts (many f a) ts next e → Halts (many f a) ts start e
halts_looked_more k p i q = halts_on (max (reach k) _) (omega (arith, k.so_far, i)) (λ place r. refused_more (sym k.says) (omega arith) (wider (reach k) k.within k.begun (from_start k p)) r) q
