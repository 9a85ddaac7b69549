-- Instructions by their places.
use Rattle.std.proofs.Common.{◌≡◌, ℕ, zero, suc, ◌+◌, ◌-◌, ◌<◌, ◌≤◌, Bool, true, false, cond, eqb, ltb, List, [], ◌∷◌, ◌++◌, length, get_or, Option, Some, None, refl, sym, ap, ◌∙◌, arith, lit<}
use Rattle.std.proofs.lemmas.Bool.{eqb-true, ltb-false, le-ltb, lt-ltb, ltb-true}
use Rattle.std.proofs.Math.Dec.{eqb-suc-zero}
use Rattle.std.specs.Option.{option_map}
use Rattle.std.proofs.Math.ListN.{get_or-append}
use Rattle.std.proofs.lemmas.List.{length-replicate, get_or-replicate, get_or-append_right}
use Rattle.std.proofs.Common.{length-append}
use Rattle.class_file.specs.declared.class.Frame.{Frame}
use Rattle.class_file.specs.Verification.{has, code_length, given_in, types_given}
use Rattle.verifier.specs.Flags.{flags_of, instr_flags, frame_for}
use Rattle.class_file.specs.declared.instr.Instr.{Instr}
use Rattle.class_file.specs.declared.instr.Instr.TheVariants as instr
use Rattle.class_file.specs.Rows.{length_of, instr_at}

pub positive : (i : Instr) → 0 < length_of i
positive instr.Nop = lit< tt
positive _ = lit< tt

pub not_zero : (n : ℕ) → 0 < n → eqb n 0 ≡ false
not_zero zero h = absurd (omega arith)
not_zero (suc n) h = eqb-suc-zero n

some_instr : (x y : Instr) → (let o : Option Instr = Some x in o) ≡ Some y → x ≡ y
some_instr x y e = cc

none_some : (y : Instr) → (let o : Option Instr = None in o) ≡ Some y → ⊥
none_some y e = cc

-- how the search for an instruction ended
pub data Found (i0 i : Instr) (is : List Instr) (q : ℕ) : Type 0 where
  Here : q ≡ 0 → i0 ≡ i → Found i0 i is q
  Later : length_of i0 ≤ q → instr_at is (q - length_of i0) ≡ Some i → Found i0 i is q

found : (i0 i : Instr) (is : List Instr) (q : ℕ) (b c : Bool) → eqb q 0 ≡ b → ltb q (length_of i0) ≡ c → cond b (Some i0) (cond c None (instr_at is (q - length_of i0))) ≡ Some i → Found i0 i is q
found i0 i is q true c hb hc e = Here (eqb-true q 0 hb) (some_instr i0 i e)
found i0 i is q false true hb hc e = absurd (none_some i e)
found i0 i is q false false hb hc e = Later (ltb-false q (length_of i0) hc) e

pub found_at : (i0 i : Instr) (is : List Instr) (q : ℕ) → instr_at (i0 ∷ is) q ≡ Some i → Found i0 i is q
unfolding instr_at
found_at i0 i is q e = found i0 i is q (eqb q 0) (ltb q (length_of i0)) refl refl e

pub nothing_at : (q : ℕ) (i : Instr) → instr_at [] q ≡ Some i → ⊥
unfolding instr_at
nothing_at q i e = none_some i e

pub empty_at : (q : ℕ) → instr_at [] q ≡ None
unfolding instr_at
empty_at q = refl

pub first_at : (i : Instr) (is : List Instr) → instr_at (i ∷ is) 0 ≡ Some i
unfolding instr_at
first_at i is = refl

-- within the bytes of one instruction
pub within_at : (i : Instr) (is : List Instr) (q : ℕ) → 0 < q → q < length_of i → instr_at (i ∷ is) q ≡ None
unfolding instr_at
within_at i is q p h =
    ap (λ (b : Bool). cond b (Some i) (cond (ltb q (length_of i)) None (instr_at is (q - length_of i)))) (not_zero q p)
    ∙ ap (λ (b : Bool). cond b None (instr_at is (q - length_of i))) (lt-ltb q (length_of i) h)

-- past one instruction
pub instr_past : (i : Instr) (is : List Instr) (q : ℕ) → instr_at (i ∷ is) (length_of i + q) ≡ instr_at is q
unfolding instr_at
instr_past i is q =
    let p : 0 < length_of i = positive i in
    let no = not_zero (length_of i + q) (omega arith) in
    let far : ltb (length_of i + q) (length_of i) ≡ false = le-ltb _ _ (omega arith) in
    let back : length_of i + q - length_of i ≡ q = omega arith in
    ap (λ (b : Bool). cond b (Some i) (cond (ltb (length_of i + q) (length_of i)) None (instr_at is (length_of i + q - length_of i)))) no
    ∙ ap (λ (b : Bool). cond b None (instr_at is (length_of i + q - length_of i))) far ∙ ap (instr_at is) back

-- the flags of a code
flags_length : (n : ℕ) → 0 < n → length (instr_flags n) ≡ n
flags_length n p = let len = length-replicate (n - 1) false in omega arith

flag_within : (n : ℕ) (q : ℕ) (rest : List Bool) → 0 < q → q < n → get_or (instr_flags n ++ rest) q false ≡ false
flag_within n zero rest p h = absurd (omega arith)
flag_within n (suc q) rest p h =
    let len = flags_length n (omega arith) in
    get_or-append (instr_flags n) rest false (suc q) (omega arith) ∙ get_or-replicate (n - 1) q false false (omega arith)

pub flag_of : (code : List Instr) (pc : ℕ) → get_or (flags_of code) pc false ≡ has (instr_at code pc)
flag_of [] pc = sym (ap has (empty_at pc))
flag_of (i ∷ is) zero = sym (ap has (first_at i is))
flag_of (i ∷ is) (suc q) = by (ltb (suc q) (length_of i)) refl (flag_of is (suc q - length_of i))
  where
    by : (b : Bool) → ltb (suc q) (length_of i) ≡ b → get_or (flags_of is) (suc q - length_of i) false ≡ has (instr_at is (suc q - length_of i)) → get_or (instr_flags (length_of i) ++ flags_of is) (suc q) false ≡ has (instr_at (i ∷ is) (suc q))
    by true e more = flag_within (length_of i) (suc q) (flags_of is) (omega arith) (ltb-true (suc q) (length_of i) e) ∙ sym (ap has (within_at i is (suc q) (omega arith) (ltb-true (suc q) (length_of i) e)))
    by false e more =
        let far = ltb-false (suc q) (length_of i) e in
        let back : length_of i + (suc q - length_of i) ≡ suc q = omega arith in
        get_or-append_right (instr_flags (length_of i)) (flags_of is) (length_of i) (suc q) false (flags_length (length_of i) (positive i)) far ∙ more
        ∙ sym (ap (λ (n : ℕ). has (instr_at (i ∷ is) n)) (sym back) ∙ ap has (instr_past i is (suc q - length_of i)))

-- the first frame of a place
pub given_find : (max : ℕ) (fs : List Frame) (pc : ℕ) → given_in max fs pc ≡ option_map (types_given max) (frame_for fs pc)
given_find max [] pc = refl
given_find max (f ∷ fs) pc = by (eqb f.at pc) (given_find max fs pc)
  where
    by : (b : Bool) → given_in max fs pc ≡ option_map (types_given max) (frame_for fs pc) → cond b (Some (types_given max f)) (given_in max fs pc) ≡ option_map (types_given max) (cond b (Some f) (frame_for fs pc))
    by true e = refl
    by false e = e

pub flags_count : (code : List Instr) → length (flags_of code) ≡ code_length code
flags_count [] = refl
flags_count (i ∷ is) = length-append (instr_flags (length_of i)) (flags_of is) ∙ ap (λ (n : ℕ). n + length (flags_of is)) (flags_length (length_of i) (positive i)) ∙ ap (λ (n : ℕ). length_of i + n) (flags_count is)
