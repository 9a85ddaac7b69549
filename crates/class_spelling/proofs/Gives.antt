-- From bytes of a grammar, whatever follows them, a reader gives a value and leaves what follows.
use Rattle.std.proofs.Common.{◌≡◌, ℕ, ◌+◌, ◌^◌, ◌<◌, Bool, true, false, cond, ltb, eqb, List, [], ◌∷◌, ◌++◌, length, Ok, refl, sym, ap, subst, ◌∙◌, append_assoc, append-nil, arith, length-append, eq-eqb}
use Rattle.std.specs.Prelude.{ℤ, FitsSigned}
use Rattle.std.specs.Int.{Width, w8, w16, w32, w64, byte_len, from_be_bytes, to_be_bytes, cast_unsigned}
use Rattle.std.proofs.lemmas.Bool.{le-ltb}
use Rattle.std.proofs.lemmas.List.{take_at, drop_at}
use Rattle.std.proofs.lemmas.Int.{to_z-of_z, ints}
use Rattle.std.proofs.lemmas.Nat.{from_be_bytes-to_be_bytes_2, from_be_bytes-to_be_bytes_4, from_be_bytes-to_be_bytes_8}
use Rattle.class_file.specs.declared.format_fault.FormatCode.{FormatCode}
use Rattle.class_file.specs.InstrBytes.{u1, u2, u4, s1, s2}
use Rattle.class_file.specs.ClassBytes.{◌⌢◌, Is, U2, Each, Table, Sized}
use Rattle.class_file.specs.Inputs.{◌>>=◌, Input, Read, Reading, read, fault, bytes_at, number_at, signed_at, expected, window, sized, each, table, whole}

abbrev pub input : ℕ → List ℕ → Input
input at bytes = record { at = at; bytes = bytes }

abbrev pub got : {A : Type 0} → A → ℕ → List ℕ → Read A
got x at bytes = record { value = x; rest = input at bytes }

-- from bytes of the grammar the reader gives this value
pub record Gives {A : Type 0} (r : Input → Reading A) (P : List ℕ → Type 0) (x : A) : Type 0 where
  pub gives : (at : ℕ) (piece rest : List ℕ) → P piece → (end : ℕ) × (r (input at (piece ++ rest)) ≡ Ok (got x end rest))

-- one field, and then others
pub then : {A B : Type 0} {r : Input → Reading A} {P Q : List ℕ → Type 0} {x : A} {y : B} (k : Input → Read A → Reading B)
    → Gives r P x → ((i : Input) → Gives (λ j. k i (record { value = x; rest = j })) Q y) → Gives (λ i. r i >>= k i) (P ⌢ Q) y
then {r = r} {x = x} {y = y} k first others = record {
  gives = λ at piece rest is.
      let a = first.gives at is.0 (is.1 ++ rest) is.3 in
      let b = (others (input at (piece ++ rest))).gives a.0 is.1 rest is.4 in
      let same : piece ++ rest ≡ is.0 ++ (is.1 ++ rest) = ap (λ (p : List ℕ). p ++ rest) is.2 ∙ append_assoc is.0 is.1 rest in
      let read_first : r (input at (piece ++ rest)) ≡ Ok (got x a.0 (is.1 ++ rest)) = ap (λ (p : List ℕ). r (input at p)) same ∙ a.1 in
      (b.0, ap (λ z. z >>= k (input at (piece ++ rest))) read_first ∙ b.1);
}

-- the last field
pub last : {A B : Type 0} {r : Input → Reading A} {P : List ℕ → Type 0} {x : A} {y : B} (k : Input → Read A → Reading B)
    → Gives r P x → ((i j : Input) → k i (record { value = x; rest = j }) ≡ read y j) → Gives (λ i. r i >>= k i) P y
last {r = r} {x = x} {y = y} k first end = record {
  gives = λ at piece rest is.
      let a = first.gives at piece rest is in
      (a.0, ap (λ z. z >>= k (input at (piece ++ rest))) a.1 ∙ end (input at (piece ++ rest)) (input a.0 rest));
}

-- ---- numbers

pub record IsWide (w : Width) (bytes : ℕ → List ℕ) (limit : ℕ) : Type 0 where
  pub len : (n : ℕ) → length (bytes n) ≡ byte_len w
  pub again : (n : ℕ) → n < limit → from_be_bytes w (bytes n) ≡ n

pub wide8 : IsWide w8 u1 (2 ^ 8)
wide8 = record { len = λ n. refl; again = λ n lt. omega arith }

pub wide16 : IsWide w16 u2 (2 ^ 16)
wide16 = record { len = λ n. refl; again = λ n lt. from_be_bytes-to_be_bytes_2 n lt }

pub wide32 : IsWide w32 u4 (2 ^ 32)
wide32 = record { len = λ n. refl; again = λ n lt. from_be_bytes-to_be_bytes_4 n lt }

pub wide64 : IsWide w64 (to_be_bytes w64) (2 ^ 64)
wide64 = record { len = λ n. refl; again = λ n lt. from_be_bytes-to_be_bytes_8 n lt }

numbered : (w : Width) (spelled : List ℕ) (n : ℕ) → length spelled ≡ byte_len w → from_be_bytes w spelled ≡ n → Gives (number_at w) (Is spelled) n
numbered w spelled n len again = record {
  gives = λ at piece rest is.
      let len' : length piece ≡ byte_len w = ap length is ∙ len in
      let long : ltb (length (piece ++ rest)) (byte_len w) ≡ false = le-ltb _ _ (omega (arith, length-append piece rest)) in
      let back : from_be_bytes w piece ≡ n = ap (from_be_bytes w) is ∙ again in
      (at + byte_len w, rw (long, take_at piece rest (byte_len w) len', drop_at piece rest (byte_len w) len', back) refl);
}

pub number : {w : Width} {spelled : ℕ → List ℕ} {limit : ℕ} → IsWide w spelled limit → (n : ℕ) → n < limit → Gives (number_at w) (Is (spelled n)) n
number {w} {spelled} wide n lt = numbered w (spelled n) n (wide.len n) (wide.again n lt)

-- one byte, which need not be small
pub byte : (n : ℕ) → Gives (number_at w8) (Is (u1 n)) n
byte n = numbered w8 (u1 n) n refl (omega arith)

pub number2 : (n : ℕ) → Gives (number_at w16) (U2 n) n
number2 n = record { gives = λ at piece rest is. (number wide16 n is.0).gives at piece rest is.1 }

pub signed : {w : Width} {spelled : ℕ → List ℕ} {limit : ℕ} → IsWide w spelled limit → (z : ℤ) → FitsSigned w z → cast_unsigned w z < limit → Gives (signed_at w) (Is (spelled (cast_unsigned w z))) z
signed {w} {spelled} wide z fits lt = last _ (number wide (cast_unsigned w z) lt) (λ i j. ap (λ n. read n j) (to_z-of_z w z fits))

pub signed1 : (z : ℤ) → FitsSigned w8 z → Gives (signed_at w8) (Is (s1 z)) z
signed1 z fits = last _ (byte (cast_unsigned w8 z)) (λ i j. ap (λ n. read n j) (to_z-of_z w8 z fits))

pub signed2 : (z : ℤ) → FitsSigned w16 z → Gives (signed_at w16) (Is (s2 z)) z
signed2 z fits = signed wide16 z fits (omega (arith, ints))

pub expects : {w : Width} {spelled : ℕ → List ℕ} {limit : ℕ} → IsWide w spelled limit → (n : ℕ) (code : FormatCode) → n < limit
    → (at : ℕ) (piece rest : List ℕ) → piece ≡ spelled n → (end : ℕ) × (expected w n code (input at (piece ++ rest)) ≡ Ok (input end rest))
expects {w} wide n code lt at piece rest is =
    let a = (number wide n lt).gives at piece rest is in
    (a.0, ap (λ z. z >>= λ (m : Read ℕ). cond (eqb m.value n) (Ok m.rest) (fault code at)) a.1 ∙ ap (λ (b : Bool). cond b (Ok (input a.0 rest)) (fault code at)) (eq-eqb n n refl))

-- ---- parts of a declared length

pub bytes_read : (wanted : List ℕ) → Gives (bytes_at (length wanted)) (Is wanted) wanted
bytes_read wanted = record {
  gives = λ at piece rest is.
      let len : length piece ≡ length wanted = ap length is in
      let long : ltb (length (piece ++ rest)) (length wanted) ≡ false = le-ltb _ _ (omega (arith, length-append piece rest)) in
      (at + length wanted, rw (long, take_at piece rest (length wanted) len, drop_at piece rest (length wanted) len, is) refl);
}

pub windowed : {A : Type 0} {inside : Input → Reading A} {P : List ℕ → Type 0} {x : A} → Gives inside P x → (n : ℕ) → Gives (window n inside) (λ body. (length body ≡ n) × P body) x
unfolding window
windowed {inside = inside} {x = x} gives n = record {
  gives = λ at piece rest is.
      let b = (bytes_read piece).gives at piece rest refl in
      let g = gives.gives at piece [] is.1 in
      let g' : inside (input at piece) ≡ Ok (got x g.0 []) = ap (λ (p : List ℕ). inside (input at p)) (sym (append-nil piece)) ∙ g.1 in
      let read_bytes : bytes_at n (input at (piece ++ rest)) ≡ Ok (got piece b.0 rest) = ap (λ (m : ℕ). bytes_at m (input at (piece ++ rest))) (sym is.0) ∙ b.1 in
      (b.0, ap (λ z. z >>= λ (c : Read (List ℕ)). whole c.rest (inside (record { at = at; bytes = c.value }))) read_bytes ∙ ap (whole (input b.0 rest)) g');
}

-- contents that are read up to their end
pub window_gives : {A : Type 0} (inside : Input → Reading A) (x : A) (body : List ℕ) → ((at : ℕ) → (end : ℕ) × (inside (input at body) ≡ Ok (got x end []))) → Gives (window (length body) inside) (Is body) x
unfolding window
window_gives inside x body read_all = record {
  gives = λ at piece rest is.
      let b = (bytes_read body).gives at piece rest is in
      (b.0, ap (λ z. z >>= λ (c : Read (List ℕ)). whole c.rest (inside (record { at = at; bytes = c.value }))) b.1 ∙ ap (whole (input b.0 rest)) (read_all at).1);
}

pub in_size : {A : Type 0} {inside : Input → Reading A} {P : List ℕ → Type 0} {x : A} → Gives inside P x → Gives (sized inside) (Sized P) x
unfolding sized
in_size {inside = inside} {P = P} {x = x} gives = record {
  gives = λ at piece rest is.
      (then {P = Is (u4 (length is.0))} {Q = λ body. (length body ≡ length is.0) × Is is.0 body} (λ i n. window n.value inside n.rest) (number wide32 (length is.0) is.1)
      (λ i. record { gives = λ at body rest same. (windowed gives (length is.0)).gives at body rest (same.0, subst P (sym same.1) is.3) })).gives at piece rest (u4 (length is.0), is.0, is.2, refl, (refl, refl));
}

-- ---- things of one kind

pub each_gives : {A : Type 0} {one : Input → Reading A} {P : A → List ℕ → Type 0} → ((x : A) → Gives one (P x) x) → (xs : List A) → Gives (each one (length xs)) (Each P xs) xs
unfolding each
each_gives one [] = record { gives = λ at piece rest is. (at, ap (λ (p : List ℕ). read [] (input at (p ++ rest))) is) }
each_gives one (x ∷ xs) = then _ (one x) (λ i. last _ (each_gives one xs) (λ i j. refl))

pub table_gives : {A : Type 0} {one : Input → Reading A} {P : A → List ℕ → Type 0} → ((x : A) → Gives one (P x) x) → (xs : List A) → Gives (table one) (Table P xs) xs
unfolding table
table_gives one xs = then _ (number2 (length xs)) (λ i. each_gives one xs)

-- ---- other forms of grammars and readers

-- the bytes are those of the piece
pub at_piece : {A : Type 0} {r : Input → Reading A} {P : List ℕ → Type 0} {x : A} → Gives r P x → (bytes : List ℕ) → P bytes → Gives r (Is bytes) x
at_piece {P = P} gives bytes is = record { gives = λ at piece rest same. gives.gives at piece rest (subst P (sym same) is) }

pub regroup : {A : Type 0} {r : Input → Reading A} {P Q R : List ℕ → Type 0} {x : A} → Gives r (P ⌢ Q ⌢ R) x → Gives r ((P ⌢ Q) ⌢ R) x
regroup gives = record {
  gives = λ at piece rest is.
      gives.gives at piece rest (is.3.0, is.3.1 ++ is.1, is.2 ∙ ap (λ (p : List ℕ). p ++ is.1) is.3.2 ∙ append_assoc is.3.0 is.3.1 is.1, is.3.3, (is.3.1, is.1, refl, is.3.4, is.4));
}

pub without_end : {A : Type 0} {r : Input → Reading A} {P : List ℕ → Type 0} {x : A} → Gives r (P ⌢ Is []) x → Gives r P x
without_end gives = record { gives = λ at piece rest is. gives.gives at piece rest (piece, [], sym (append-nil piece), is, refl) }

pub nothing_read : {A : Type 0} (x : A) → Gives (λ i. read x i) (Is []) x
nothing_read x = record { gives = λ at piece rest is. (at, ap (λ (p : List ℕ). read x (input at (p ++ rest))) is) }

pub by_else : {A : Type 0} (r s : Input → Reading A) {P : List ℕ → Type 0} {x : A} (b : Bool) → b ≡ false → Gives s P x → Gives (λ i. cond b (r i) (s i)) P x
by_else r s b e gives = record { gives = λ at piece rest is. let g = gives.gives at piece rest is in (g.0, ap (λ (b : Bool). cond b (r (input at (piece ++ rest))) (s (input at (piece ++ rest)))) e ∙ g.1) }

pub by_then : {A : Type 0} (r s : Input → Reading A) {P : List ℕ → Type 0} {x : A} (b : Bool) → b ≡ true → Gives r P x → Gives (λ i. cond b (r i) (s i)) P x
by_then r s b e gives = record { gives = λ at piece rest is. let g = gives.gives at piece rest is in (g.0, ap (λ (b : Bool). cond b (r (input at (piece ++ rest))) (s (input at (piece ++ rest)))) e ∙ g.1) }

pub moved : {A : Type 0} {r : Input → Reading A} {spelled : List ℕ} {x : A} → Gives r (Is spelled) x → (y : A) (bytes : List ℕ) → y ≡ x → bytes ≡ spelled → Gives r (Is bytes) y
moved {A = A} {r = r} {x = x} gives y bytes e f = subst (λ (y : A). Gives r (Is bytes) y) (sym e) (subst (λ (b : List ℕ). Gives r (Is b) x) (sym f) gives)

pub expect_then : {B : Type 0} {w : Width} {spelled : ℕ → List ℕ} {limit : ℕ} {Q : List ℕ → Type 0} {y : B} → IsWide w spelled limit → (n : ℕ) (code : FormatCode) (k : Input → Reading B) → n < limit
    → Gives k Q y → Gives (λ i. expected w n code i >>= k) (Is (spelled n) ⌢ Q) y
expect_then {w = w} wide n code k lt others = record {
  gives = λ at piece rest is.
      let a = expects wide n code lt at is.0 (is.1 ++ rest) is.3 in
      let b = others.gives a.0 is.1 rest is.4 in
      let same : piece ++ rest ≡ is.0 ++ (is.1 ++ rest) = ap (λ (p : List ℕ). p ++ rest) is.2 ∙ append_assoc is.0 is.1 rest in
      (b.0, ap (λ (p : List ℕ). expected w n code (input at p) >>= k) same ∙ ap (λ z. z >>= k) a.1 ∙ b.1);
}
