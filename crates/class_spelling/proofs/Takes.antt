-- What a reader takes from bytes is of a grammar, and what it leaves is the rest.
use Rattle.std.proofs.Common.{◌≡◌, ℕ, zero, suc, ◌+◌, ◌^◌, ◌<◌, ◌≤◌, Bool, true, false, cond, ltb, eqb, List, [], ◌∷◌, ◌++◌, length, take, drop, get_or, Result, Ok, Err, refl, sym, ap, subst, ◌∙◌, append_assoc, append-nil, arith, inl, inr, All}
use Rattle.std.specs.Prelude.{ℤ, FitsSigned}
use Rattle.std.specs.Int.{Width, w8, w16, w32, w64, byte_len, from_be_bytes, to_be_bytes, cast_signed, cast_unsigned}
use Rattle.std.proofs.lemmas.Bool.{cases_lt, ltb-false, eqb-true}
use Rattle.std.proofs.lemmas.Int.{of_z-to_z}
use Rattle.std.proofs.Common.{rules}
use Rattle.std.proofs.Math.Facts.{sfits_to_z}
use Rattle.std.proofs.lemmas.List.{take-append-drop, length-take, get_or_past, nil_from_length}
use Rattle.std.proofs.lemmas.List.Elements.{All-get_or, All-take}
use Rattle.std.proofs.lemmas.Nat.{be_bytes_2, be_bytes_4, be_bytes_8}
use Rattle.class_file.specs.declared.format_fault.FormatFault.{FormatFault}
use Rattle.class_file.specs.declared.format_fault.FormatCode.{FormatCode}
use Rattle.class_file.specs.declared.format_fault.FormatCode.TheVariants.{Truncated, Trailing}
use Rattle.class_file.specs.InstrBytes.{u1, u2, u4}
use Rattle.class_file.specs.ClassBytes.{◌⌢◌, Is, U2, Each, Table, Sized, AreBytes}
use Rattle.class_file.specs.Inputs.{◌>>=◌, Input, Read, Reading, read, fault, bytes_at, number_at, signed_at, expected, window, sized, each, table, whole}
use Rattle.class_spelling.proofs.Texts.{all_right}

-- what was taken from the front
pub record Taken {A : Type 0} (P : A → List ℕ → Type 0) (bytes : List ℕ) (y : Read A) : Type 0 where
  pub piece : List ℕ
  pub parts : bytes ≡ piece ++ y.rest.bytes
  pub is : P y.value piece

pub record Takes {A : Type 0} (r : Input → Reading A) (P : A → List ℕ → Type 0) : Type 0 where
  pub takes : (i : Input) → AreBytes i.bytes → (y : Read A) → r i ≡ Ok y → Taken P i.bytes y

-- ---- steps that did not fail

pub bind_ok : {A B : Type 0} (r : Result A FormatFault) (f : A → Result B FormatFault) (y : B) → (r >>= f) ≡ Ok y → (x : A) × (r ≡ Ok x) × (f x ≡ Ok y)
bind_ok (Ok x) f y e = (x, refl, e)
bind_ok (Err d) f y e = absurd cc

abbrev done : {A : Type 0} → A → Result A FormatFault
done x = Ok x

pub ok_is : {A : Type 0} (x y : A) → done x ≡ done y → x ≡ y
ok_is x y e = cc

pub no_fault : {A : Type 0} (f : FormatFault) (y : A) → (let r : Result A FormatFault = Err f in r) ≡ Ok y → ⊥
no_fault f y e = cc

pub rest_fits : (bytes piece rest : List ℕ) → AreBytes bytes → bytes ≡ piece ++ rest → AreBytes rest
rest_fits bytes piece rest fits e = all_right (λ b. b < 2 ^ 8) piece rest (subst (All (λ b. b < 2 ^ 8)) e fits)

-- one field, and then others, of which something is known by the first
pub take_given : {A B : Type 0} {r : Input → Reading A} (k : Input → Read A → Reading B) {P : A → List ℕ → Type 0} (Q : A → B → List ℕ → Type 0)
    → Takes r P → ((i : Input) (x : A) (piece : List ℕ) → P x piece → Takes (λ j. k i (record { value = x; rest = j })) (Q x)) → Takes (λ i. r i >>= k i) (λ y bytes. (x : A) × (P x ⌢ Q x y) bytes)
take_given {r = r} k Q first others = record {
  takes = λ i fits y e.
      let b = bind_ok (r i) (k i) y e in
      let t = first.takes i fits b.0 b.1 in
      let u = (others i b.0.value t.piece t.is).takes b.0.rest (rest_fits i.bytes t.piece b.0.rest.bytes fits t.parts) y b.2 in
      record { piece = t.piece ++ u.piece; parts = t.parts ∙ ap (λ (p : List ℕ). t.piece ++ p) u.parts ∙ sym (append_assoc t.piece u.piece y.rest.bytes); is = (b.0.value, (t.piece, u.piece, refl, t.is, u.is)) };
}

-- one field, and then others
pub take_then : {A B : Type 0} {r : Input → Reading A} (k : Input → Read A → Reading B) {P : A → List ℕ → Type 0} (Q : A → B → List ℕ → Type 0)
    → Takes r P → ((i : Input) (x : A) → Takes (λ j. k i (record { value = x; rest = j })) (Q x)) → Takes (λ i. r i >>= k i) (λ y bytes. (x : A) × (P x ⌢ Q x y) bytes)
take_then {r = r} k Q first others = record {
  takes = λ i fits y e.
      let b = bind_ok (r i) (k i) y e in
      let t = first.takes i fits b.0 b.1 in
      let u = (others i b.0.value).takes b.0.rest (rest_fits i.bytes t.piece b.0.rest.bytes fits t.parts) y b.2 in
      record { piece = t.piece ++ u.piece; parts = t.parts ∙ ap (λ (p : List ℕ). t.piece ++ p) u.parts ∙ sym (append_assoc t.piece u.piece y.rest.bytes); is = (b.0.value, (t.piece, u.piece, refl, t.is, u.is)) };
}

-- the last field
pub take_last : {A B : Type 0} {r : Input → Reading A} (k : Input → Read A → Reading B) {P : A → List ℕ → Type 0} (Q : A → B → Type 0)
    → Takes r P → ((i j : Input) (x : A) (y : Read B) → k i (record { value = x; rest = j }) ≡ Ok y → (y.rest ≡ j) × Q x y.value) → Takes (λ i. r i >>= k i) (λ y bytes. (x : A) × Q x y × P x bytes)
take_last {r = r} k Q first end = record {
  takes = λ i fits y e.
      let b = bind_ok (r i) (k i) y e in
      let t = first.takes i fits b.0 b.1 in
      let u = end i b.0.rest b.0.value y b.2 in
      record { piece = t.piece; parts = t.parts ∙ ap (λ (j : Input). t.piece ++ j.bytes) (sym u.0); is = (b.0.value, u.1, t.is) };
}

pub take_as : {A : Type 0} {r : Input → Reading A} {P : A → List ℕ → Type 0} (S : A → List ℕ → Type 0) → Takes r P → ((y : A) (bytes : List ℕ) → P y bytes → S y bytes) → Takes r S
take_as S takes as_such = record { takes = λ i fits y e. let t = takes.takes i fits y e in record { piece = t.piece; parts = t.parts; is = as_such y.value t.piece t.is } }

pub take_if : {A : Type 0} (r s : Input → Reading A) (P : A → List ℕ → Type 0) (b : Bool) → (b ≡ true → Takes r P) → (b ≡ false → Takes s P) → Takes (λ i. cond b (r i) (s i)) P
take_if r s P true f g = record { takes = λ i fits y e. (f refl).takes i fits y e }
take_if r s P false f g = record { takes = λ i fits y e. (g refl).takes i fits y e }

-- either way
pub take_either : {A : Type 0} (r s : Input → Reading A) (P : A → List ℕ → Type 0) (b : Input → Bool) → Takes r P → Takes s P → Takes (λ i. cond (b i) (r i) (s i)) P
take_either {A = A} r s P b f g = record { takes = λ i fits y e. go i fits y (b i) e }
  where
    go : (i : Input) → AreBytes i.bytes → (y : Read A) (c : Bool) → cond c (r i) (s i) ≡ Ok y → Taken P i.bytes y
    go i fits y true e = f.takes i fits y e
    go i fits y false e = g.takes i fits y e

pub take_fault : {A : Type 0} (f : Input → FormatFault) (P : A → List ℕ → Type 0) → Takes (λ i. Err (f i)) P
take_fault f P = record { takes = λ i fits y e. absurd (no_fault (f i) y e) }

pub take_nothing : {A : Type 0} (x : A) → Takes (λ i. read x i) (λ y bytes. (y ≡ x) × (bytes ≡ []))
take_nothing x = record { takes = λ i fits y e. let same = ok_is (record { value = x; rest = i }) y e in record { piece = []; parts = ap (λ (z : Read _). z.rest.bytes) same; is = (sym (ap (λ (z : Read _). z.value) same), refl) } }

-- what is read at the end
pub read_is : {A : Type 0} (x : A) (j : Input) (y : Read A) → read x j ≡ Ok y → (y.rest ≡ j) × (y.value ≡ x)
read_is {A = A} x j y e = let same = ok_is (record { value = x; rest = j }) y e in (sym (ap (λ (z : Read A). z.rest) same), sym (ap (λ (z : Read A). z.value) same))

-- ---- numbers

pub bytes_below : (bytes : List ℕ) → AreBytes bytes → (i : ℕ) → get_or bytes i 0 < 256
bytes_below bytes fits i = elim (cases_lt i (length bytes)) [
  | inl lt ↦ All-get_or (λ b. b < 2 ^ 8) bytes i 0 lt fits
  | inr le ↦ rw (get_or_past bytes i 0 le) (omega arith)
]

pub record IsRead (w : Width) (spelled : ℕ → List ℕ) (limit : ℕ) : Type 0 where
  pub back : (bytes : List ℕ) → length bytes ≡ byte_len w → AreBytes bytes → bytes ≡ spelled (from_be_bytes w bytes)
  pub below : (bytes : List ℕ) → AreBytes bytes → from_be_bytes w bytes < limit

one_of : (bytes : List ℕ) → length bytes ≡ 1 → bytes ≡ u1 (from_be_bytes w8 bytes)
one_of [] e = absurd (omega (arith, e))
one_of (b ∷ []) e = ap u1 (self b)
  where
    self : (b : ℕ) → b ≡ from_be_bytes w8 (b ∷ [])
    self b = omega arith
one_of (b ∷ c ∷ bytes) e = absurd (omega (arith, e))

pub read8 : IsRead w8 u1 (2 ^ 8)
read8 = record { back = λ bytes len fits. one_of bytes len; below = λ bytes fits. let f = bytes_below bytes fits in omega (arith, f 0) }

pub read16 : IsRead w16 u2 (2 ^ 16)
read16 = record { back = λ bytes len fits. sym (be_bytes_2 bytes _ len (bytes_below bytes fits) refl); below = λ bytes fits. let f = bytes_below bytes fits in omega (arith, f 0, f 1) }

pub read32 : IsRead w32 u4 (2 ^ 32)
read32 = record { back = λ bytes len fits. sym (be_bytes_4 bytes _ len (bytes_below bytes fits) refl); below = λ bytes fits. let f = bytes_below bytes fits in omega (arith, f 0, f 1, f 2, f 3) }

pub read64 : IsRead w64 (to_be_bytes w64) (2 ^ 64)
read64 = record { back = λ bytes len fits. sym (be_bytes_8 bytes _ len (bytes_below bytes fits) refl); below = λ bytes fits. let f = bytes_below bytes fits in omega (arith, f 0, f 1, f 2, f 3, f 4, f 5, f 6, f 7) }

pub take_bytes : (n : ℕ) → Takes (bytes_at n) (λ wanted bytes. (length wanted ≡ n) × AreBytes wanted × (bytes ≡ wanted))
take_bytes n = record {
  takes = λ i fits y e.
      let g = long (ltb (length i.bytes) n) i y e in
      let le : n ≤ length i.bytes = ltb-false _ _ g.0 in
      let value : y.value ≡ take n i.bytes = sym (ap (λ (z : Read (List ℕ)). z.value) g.1) in
      let rest : y.rest.bytes ≡ drop n i.bytes = sym (ap (λ (z : Read (List ℕ)). z.rest.bytes) g.1) in
      record {
        piece = take n i.bytes;
        parts = sym (take-append-drop n i.bytes) ∙ ap (λ (r : List ℕ). take n i.bytes ++ r) (sym rest);
        is = (omega (arith, ap length value, length-take n i.bytes), subst (All (λ b. b < 2 ^ 8)) (sym value) (All-take (λ b. b < 2 ^ 8) n i.bytes fits), sym value);
      };
}
  where
    long : (b : Bool) (i : Input) (y : Read (List ℕ)) → cond b (fault Truncated i.at) (read (take n i.bytes) (record { at = i.at + n; bytes = drop n i.bytes })) ≡ Ok y → (b ≡ false) × ((let z : Read (List ℕ) = record { value = take n i.bytes; rest = record { at = i.at + n; bytes = drop n i.bytes } } in z) ≡ y)
    long true i y e = absurd cc
    long false i y e = (refl, ok_is _ y e)

pub take_number : {w : Width} {spelled : ℕ → List ℕ} {limit : ℕ} → IsRead w spelled limit → Takes (number_at w) (λ n bytes. (n < limit) × (bytes ≡ spelled n))
take_number {w = w} {spelled = spelled} {limit = limit} is_read = record {
  takes = λ i fits y e.
      let g = long (ltb (length i.bytes) (byte_len w)) i y e in
      let le : byte_len w ≤ length i.bytes = ltb-false _ _ g.0 in
      let front = take (byte_len w) i.bytes in
      let fits' = All-take (λ b. b < 2 ^ 8) (byte_len w) i.bytes fits in
      let value : y.value ≡ from_be_bytes w front = sym (ap (λ (z : Read ℕ). z.value) g.1) in
      let rest : y.rest.bytes ≡ drop (byte_len w) i.bytes = sym (ap (λ (z : Read ℕ). z.rest.bytes) g.1) in
      record {
        piece = front;
        parts = sym (take-append-drop (byte_len w) i.bytes) ∙ ap (λ (r : List ℕ). front ++ r) (sym rest);
        is = (subst (λ (n : ℕ). n < limit) (sym value) (is_read.below front fits'), is_read.back front (omega (arith, length-take (byte_len w) i.bytes)) fits' ∙ ap spelled (sym value));
      };
}
  where
    long : (b : Bool) (i : Input) (y : Read ℕ) → cond b (fault Truncated i.at) (read (from_be_bytes w (take (byte_len w) i.bytes)) (record { at = i.at + byte_len w; bytes = drop (byte_len w) i.bytes })) ≡ Ok y
        → (b ≡ false) × ((let z : Read ℕ = record { value = from_be_bytes w (take (byte_len w) i.bytes); rest = record { at = i.at + byte_len w; bytes = drop (byte_len w) i.bytes } } in z) ≡ y)
    long true i y e = absurd cc
    long false i y e = (refl, ok_is _ y e)

pub take_number2 : Takes (number_at w16) U2
take_number2 = take_number read16

-- ---- signed numbers

pub record IsSigned (w : Width) (limit : ℕ) : Type 0 where
  pub fits : (n : ℕ) → n < limit → FitsSigned w (cast_signed w n)
  pub back : (n : ℕ) → n < limit → cast_unsigned w (cast_signed w n) ≡ n

pub signed8 : IsSigned w8 (2 ^ 8)
signed8 = record { fits = λ n lt. search (rules, sfits_to_z); back = λ n lt. of_z-to_z w8 n lt }

pub signed16 : IsSigned w16 (2 ^ 16)
signed16 = record { fits = λ n lt. search (rules, sfits_to_z); back = λ n lt. of_z-to_z w16 n lt }

pub signed32 : IsSigned w32 (2 ^ 32)
signed32 = record { fits = λ n lt. search (rules, sfits_to_z); back = λ n lt. of_z-to_z w32 n lt }

pub signed64 : IsSigned w64 (2 ^ 64)
signed64 = record { fits = λ n lt. search (rules, sfits_to_z); back = λ n lt. of_z-to_z w64 n lt }

pub take_signed : {w : Width} {spelled : ℕ → List ℕ} {limit : ℕ} → IsRead w spelled limit → IsSigned w limit → Takes (signed_at w) (λ z bytes. FitsSigned w z × (bytes ≡ spelled (cast_unsigned w z)))
take_signed {w = w} {spelled = spelled} is_read is_signed = take_as (λ z bytes. FitsSigned w z × (bytes ≡ spelled (cast_unsigned w z)))
    (take_last (λ i n. read (cast_signed w n.value) n.rest) (λ n z. z ≡ cast_signed w n) (take_number is_read) (λ i j n y e. read_is (cast_signed w n) j y e))
    (λ z bytes t. (subst (FitsSigned w) (sym t.1) (is_signed.fits t.0 t.2.0), t.2.1 ∙ ap spelled (sym (is_signed.back t.0 t.2.0)) ∙ ap (λ (z : ℤ). spelled (cast_unsigned w z)) (sym t.1)))

-- ---- parts of a declared length

whole_is : {A : Type 0} (rest : Input) (r : Reading A) (y : Read A) → whole rest r ≡ Ok y → (x : Read A) × (r ≡ Ok x) × (x.rest.bytes ≡ []) × (y.rest ≡ rest) × (y.value ≡ x.value)
whole_is rest (Err f) y e = absurd cc
whole_is {A = A} rest (Ok x) y e = on_test (eqb (length x.rest.bytes) 0) refl e
  where
    on_test : (b : Bool) → eqb (length x.rest.bytes) 0 ≡ b → cond b (read x.value rest) (fault Trailing x.rest.at) ≡ Ok y → (z : Read A) × ((let r : Reading A = Ok x in r) ≡ Ok z) × (z.rest.bytes ≡ []) × (y.rest ≡ rest) × (y.value ≡ z.value)
    on_test true t e = let same = read_is x.value rest y e in (x, refl, nil_from_length x.rest.bytes (eqb-true _ _ t), same.0, same.1)
    on_test false t e = absurd cc

pub take_window : {A : Type 0} {inside : Input → Reading A} {P : A → List ℕ → Type 0} (n : ℕ) → Takes inside P → Takes (window n inside) (λ x bytes. (length bytes ≡ n) × P x bytes)
unfolding window
take_window {A = A} {inside = inside} {P = P} n takes = record {
  takes = λ i fits y e.
      let b = bind_ok (bytes_at n i) (λ b. whole b.rest (inside (record { at = i.at; bytes = b.value }))) y e in
      let t = (take_bytes n).takes i fits b.0 b.1 in
      let w = whole_is b.0.rest (inside (record { at = i.at; bytes = b.0.value })) y b.2 in
      let u = takes.takes (record { at = i.at; bytes = b.0.value }) t.is.1 w.0 w.1 in
      let body : t.piece ≡ u.piece = t.is.2 ∙ u.parts ∙ ap (λ (r : List ℕ). u.piece ++ r) w.2 ∙ append-nil u.piece in
      record {
        piece = t.piece;
        parts = t.parts ∙ ap (λ (j : Input). t.piece ++ j.bytes) (sym w.3);
        is = (ap length t.is.2 ∙ t.is.0, subst (P y.value) (sym body) (subst (λ (x : A). P x u.piece) (sym w.4) u.is));
      };
}

pub take_size : {A : Type 0} {inside : Input → Reading A} {P : A → List ℕ → Type 0} → Takes inside P → Takes (sized inside) (λ x. Sized (P x))
unfolding sized
take_size {inside = inside} {P = P} takes = take_as (λ x. Sized (P x))
    (take_then (λ i n. window n.value inside n.rest) (λ n x body. (length body ≡ n) × P x body) (take_number read32) (λ i n. take_window n takes))
    (λ x bytes t. let s = t.1 in (s.1, subst (λ (n : ℕ). n < 2 ^ 32) (sym s.4.0) s.3.0, s.2 ∙ ap (λ (f : List ℕ). f ++ s.1) s.3.1 ∙ ap (λ (n : ℕ). u4 n ++ s.1) (sym s.4.0), s.4.1))

-- ---- things of one kind

pub take_each : {A : Type 0} {one : Input → Reading A} {P : A → List ℕ → Type 0} → Takes one P → (n : ℕ) → Takes (each one n) (λ xs bytes. (length xs ≡ n) × Each P xs bytes)
unfolding each
take_each {P = P} takes zero = take_as (λ xs bytes. (length xs ≡ 0) × Each P xs bytes) (take_nothing []) (λ xs bytes t. subst (λ (ys : List _). (length ys ≡ 0) × Each P ys bytes) (sym t.0) (refl, t.1))
take_each {A = A} {one = one} {P = P} takes (suc n) = take_as (λ xs bytes. (length xs ≡ suc n) × Each P xs bytes)
    (take_then (λ i first. each one n first.rest >>= λ others. read (first.value ∷ others.value) others.rest) (λ x ys bytes. (xs : List A) × (ys ≡ x ∷ xs) × ((length xs ≡ n) × Each P xs bytes)) takes
    (λ i x. take_last (λ j others. read (x ∷ others.value) others.rest) (λ xs ys. ys ≡ x ∷ xs) (take_each takes n) (λ i j xs y e. read_is (x ∷ xs) j y e)))
    (λ ys bytes t. let s = t.1 in let m = s.4 in subst (λ (zs : List A). (length zs ≡ suc n) × Each P zs bytes) (sym m.1) (ap suc m.2.0, (s.0, s.1, s.2, s.3, m.2.1)))

pub take_table : {A : Type 0} {one : Input → Reading A} {P : A → List ℕ → Type 0} → Takes one P → Takes (table one) (Table P)
unfolding table
take_table {one = one} {P = P} takes = take_as (Table P) (take_then (λ i n. each one n.value n.rest) (λ n xs bytes. (length xs ≡ n) × Each P xs bytes) take_number2 (λ i n. take_each takes n))
    (λ xs bytes t. let s = t.1 in (s.0, s.1, s.2, subst (λ (n : ℕ). U2 n s.0) (sym s.4.0) s.3, s.4.1))

-- a number that can only be one
expected_is : (w : Width) (wanted : ℕ) (code : FormatCode) (i : Input) (j : Input) → expected w wanted code i ≡ Ok j → (n : Read ℕ) × (number_at w i ≡ Ok n) × (n.value ≡ wanted) × (n.rest ≡ j)
expected_is w wanted code i j e =
    let b = bind_ok (number_at w i) (λ n. cond (eqb n.value wanted) (Ok n.rest) (fault code i.at)) j e in
    let c = on_test (eqb b.0.value wanted) b.0.rest b.2 in
    (b.0, b.1, eqb-true b.0.value wanted c.0, c.1)
  where
    on_test : (t : Bool) (rest : Input) → cond t (done rest) (fault code i.at) ≡ Ok j → (t ≡ true) × (rest ≡ j)
    on_test true rest e = (refl, ok_is rest j e)
    on_test false rest e = absurd cc

pub take_expected : {w : Width} {spelled : ℕ → List ℕ} {limit : ℕ} → IsRead w spelled limit → (wanted : ℕ) (code : FormatCode) (i : Input) (j : Input) → AreBytes i.bytes → expected w wanted code i ≡ Ok j
    → (piece : List ℕ) × (i.bytes ≡ piece ++ j.bytes) × Is (spelled wanted) piece
take_expected {w = w} {spelled = spelled} is_read wanted code i j fits e =
    let x = expected_is w wanted code i j e in
    let t = (take_number is_read).takes i fits x.0 x.1 in
    (t.piece, t.parts ∙ ap (λ (r : Input). t.piece ++ r.bytes) x.3, t.is.1 ∙ ap spelled x.2)

pub take_expect : {B : Type 0} {w : Width} {spelled : ℕ → List ℕ} {limit : ℕ} {Q : B → List ℕ → Type 0} {k : Input → Reading B} → IsRead w spelled limit → (wanted : ℕ) (code : FormatCode)
    → Takes k Q → Takes (λ i. expected w wanted code i >>= k) (λ y. Is (spelled wanted) ⌢ Q y)
take_expect {w = w} {k = k} is_read wanted code takes = record {
  takes = λ i fits y e.
      let b = bind_ok (expected w wanted code i) k y e in
      let t = take_expected is_read wanted code i b.0 fits b.1 in
      let u = takes.takes b.0 (rest_fits i.bytes t.0 b.0.bytes fits t.1) y b.2 in
      record { piece = t.0 ++ u.piece; parts = t.1 ∙ ap (λ (p : List ℕ). t.0 ++ p) u.parts ∙ sym (append_assoc t.0 u.piece y.rest.bytes); is = (t.0, u.piece, refl, t.2, u.is) };
}
