-- Instructions that are read are spelled.
use Rattle.std.proofs.Common.{◌≡◌, ℕ, zero, suc, ◌^◌, ◌<◌, Bool, true, false, cond, ltb, eqb, List, [], ◌∷◌, ◌++◌, length, Option, Some, None, Ok, refl, sym, ap, subst, ◌∙◌, append-nil, arith}
use Rattle.std.specs.Prelude.{ℤ, FitsSigned, ◌||◌}
use Rattle.std.specs.Int.{w8, w16}
use Rattle.std.proofs.lemmas.Bool.{eqb-true, eqb-false, ltb-false}
use Rattle.class_file.specs.declared.pool.Entry.{Entry}
use Rattle.class_file.specs.declared.instr.Instr.{Instr}
use Rattle.class_file.specs.declared.format_fault.FormatCode.TheVariants.{BadIndex, BadCode}
use Rattle.class_file.specs.Pools.{Slots, entry_at}
use Rattle.class_file.specs.InstrBytes.{u1, u2, u4, s1, s2}
use Rattle.class_file.specs.ClassBytes.{◌⌢◌, Each, Sized, InstrIs, InstrsAre}
use Rattle.class_file.specs.Inputs.{◌>>=◌, Input, Read, read, fault, number_at, signed_at, expected, window}
use Rattle.class_file.specs.Opcodes.{Form, Plain, Signed1, Signed2, Unsigned1, Unsigned2, Short, Index, Increment, WideIncrement, CallOfInterface, form_of, wide_form_of}
use Rattle.class_file.specs.FormatFaults.{index_checked, operands_at, formed, wide_at, instruction_at, instructions_at, code_array_at}
use Rattle.class_spelling.proofs.Takes.{Takes, take_then, take_last, take_as, take_if, take_either, take_fault, take_nothing, read_is, read8, read16, read32, signed8, signed16, take_number, take_signed, take_window, take_expect}
use Rattle.class_spelling.proofs.Forms.{FormIs, alone_spelled, wide_spelled}

kept_then : {A : Type 0} (b : Bool) (at : ℕ) (x : A) (j : Input) (y : Read A) → cond b (read x j) (fault BadIndex at) ≡ Ok y → (y.rest ≡ j) × (b ≡ true) × (y.value ≡ x)
kept_then true at x j y e = let same = read_is x j y e in (same.0, refl, same.1)
kept_then false at x j y e = absurd cc

take_checked : (slots : Slots) (is_kind : Option Entry → Bool) (at index : ℕ) (make : ℕ → Instr) → Takes (λ j. index_checked slots is_kind at index j make) (λ i bytes. (is_kind (entry_at slots index) ≡ true) × (bytes ≡ []))
take_checked slots is_kind at index make = take_if _ _ (λ i bytes. (is_kind (entry_at slots index) ≡ true) × (bytes ≡ [])) (is_kind (entry_at slots index))
    (λ e. take_as (λ i bytes. (is_kind (entry_at slots index) ≡ true) × (bytes ≡ [])) (take_nothing (make index)) (λ i bytes t. (e, t.1))) (λ _. take_fault _ (λ i bytes. (is_kind (entry_at slots index) ≡ true) × (bytes ≡ [])))

some_count : (b : ℕ) → eqb b 0 ≡ false → 0 < b
some_count b e = let ne = eqb-false b 0 e in omega (arith, ne)

-- behind the index of `invokeinterface`
abbrev Count : (ℕ → ℕ → Instr) → ℕ → Instr → List ℕ → Type 0
Count make a i bytes = (b : ℕ) × (0 < b) × (b < 2 ^ 8) × (i ≡ make a b) × (bytes ≡ u1 b ++ u1 0)

take_count : (make : ℕ → ℕ → Instr) (a : ℕ) → Takes (λ k. number_at w8 k >>= λ n. cond (eqb n.value 0) (fault BadCode k.at) (expected w8 0 BadCode n.rest >>= λ rest. read (make a n.value) rest)) (Count make a)
take_count make a = take_as (Count make a)
    (take_then (λ k n. cond (eqb n.value 0) (fault BadCode k.at) (expected w8 0 BadCode n.rest >>= λ rest. read (make a n.value) rest)) (λ b i bytes. (0 < b) × (i ≡ make a b) × (bytes ≡ u1 0)) (take_number read8) (λ k b.
    take_if _ _ (λ i bytes. (0 < b) × (i ≡ make a b) × (bytes ≡ u1 0)) (eqb b 0) (λ _. take_fault _ (λ i bytes. (0 < b) × (i ≡ make a b) × (bytes ≡ u1 0)))
    (λ e. take_as (λ i bytes. (0 < b) × (i ≡ make a b) × (bytes ≡ u1 0)) (take_expect read8 0 BadCode (take_nothing (make a b))) (λ i bytes t. (some_count b e, t.4.0, t.2 ∙ ap (λ (r : List ℕ). t.0 ++ r) t.4.1 ∙ append-nil t.0 ∙ t.3)))))
    (λ i bytes t. let s = t.1 in (t.0, s.4.0, s.3.0, s.4.1, s.2 ∙ ap (λ (f : List ℕ). f ++ s.1) s.3.1 ∙ ap (λ (r : List ℕ). u1 t.0 ++ r) s.4.2))

take_operands : (slots : Slots) (form : Form) (at : ℕ) → Takes (operands_at slots form at) (FormIs slots form)
take_operands slots (Plain j) at = take_nothing j
take_operands slots (Signed1 make) at = take_as (FormIs slots (Signed1 make)) (take_last (λ i a. read (make a.value) a.rest) (λ a i. i ≡ make a) (take_signed read8 signed8) (λ i j a y e. read_is (make a) j y e)) (λ i bytes t. (t.0, t.2.0, t.1, t.2.1))
take_operands slots (Signed2 make) at = take_as (FormIs slots (Signed2 make)) (take_last (λ i a. read (make a.value) a.rest) (λ a i. i ≡ make a) (take_signed read16 signed16) (λ i j a y e. read_is (make a) j y e)) (λ i bytes t. (t.0, t.2.0, t.1, t.2.1))
take_operands slots (Unsigned1 make) at = take_as (FormIs slots (Unsigned1 make)) (take_last (λ i a. read (make a.value) a.rest) (λ a i. i ≡ make a) (take_number read8) (λ i j a y e. read_is (make a) j y e)) (λ i bytes t. (t.0, t.2.0, t.1, t.2.1))
take_operands slots (Unsigned2 make) at = take_as (FormIs slots (Unsigned2 make)) (take_last (λ i a. read (make a.value) a.rest) (λ a i. i ≡ make a) (take_number read16) (λ i j a y e. read_is (make a) j y e)) (λ i bytes t. (t.0, t.2.0, t.1, t.2.1))
take_operands slots (Short is_kind make) at = take_as (FormIs slots (Short is_kind make)) (take_last (λ i a. index_checked slots is_kind i.at a.value a.rest make) (λ a i. (is_kind (entry_at slots a) ≡ true) × (i ≡ make a)) (take_number read8)
    (λ i j a y e. let k = kept_then (is_kind (entry_at slots a)) i.at (make a) j y e in (k.0, (k.1, k.2)))) (λ i bytes t. (t.0, (t.2.0, (wider t.0 t.2.0, t.1.0)), t.1.1, t.2.1))
  where
    wider : (a : ℕ) → a < 2 ^ 8 → a < 2 ^ 16
    wider a lt = omega arith
take_operands slots (Index is_kind make) at = take_as (FormIs slots (Index is_kind make)) (take_last (λ i a. index_checked slots is_kind i.at a.value a.rest make) (λ a i. (is_kind (entry_at slots a) ≡ true) × (i ≡ make a)) (take_number read16)
    (λ i j a y e. let k = kept_then (is_kind (entry_at slots a)) i.at (make a) j y e in (k.0, (k.1, k.2)))) (λ i bytes t. (t.0, (t.2.0, t.1.0), t.1.1, t.2.1))
take_operands slots (Increment make) at = take_as (FormIs slots (Increment make))
    (take_then (λ i a. signed_at w8 a.rest >>= λ b. read (make a.value b.value) b.rest) (λ a i bytes. (b : ℤ) × (i ≡ make a b) × (FitsSigned w8 b × (bytes ≡ s1 b))) (take_number read8)
    (λ i a. take_last (λ j b. read (make a b.value) b.rest) (λ b i. i ≡ make a b) (take_signed read8 signed8) (λ i j b y e. read_is (make a b) j y e)))
    (λ i bytes t. let s = t.1 in let u = s.4 in (t.0, u.0, (s.3.0, u.2.0), u.1, s.2 ∙ ap (λ (f : List ℕ). f ++ s.1) s.3.1 ∙ ap (λ (r : List ℕ). u1 t.0 ++ r) u.2.1))
take_operands slots (WideIncrement make) at = take_as (FormIs slots (WideIncrement make))
    (take_then (λ i a. signed_at w16 a.rest >>= λ b. read (make a.value b.value) b.rest) (λ a i bytes. (b : ℤ) × (i ≡ make a b) × (FitsSigned w16 b × (bytes ≡ s2 b))) (take_number read16)
    (λ i a. take_last (λ j b. read (make a b.value) b.rest) (λ b i. i ≡ make a b) (take_signed read16 signed16) (λ i j b y e. read_is (make a b) j y e)))
    (λ i bytes t. let s = t.1 in let u = s.4 in (t.0, u.0, (s.3.0, u.2.0), u.1, s.2 ∙ ap (λ (f : List ℕ). f ++ s.1) s.3.1 ∙ ap (λ (r : List ℕ). u2 t.0 ++ r) u.2.1))
take_operands slots (CallOfInterface is_kind make) at = take_as (FormIs slots (CallOfInterface is_kind make))
    (take_then (λ i a. index_checked slots is_kind i.at a.value a.rest (λ index. make index 0) >>= λ instr. number_at w8 instr.rest >>= λ n. cond (eqb n.value 0) (fault BadCode instr.rest.at) (expected w8 0 BadCode n.rest >>= λ rest. read (make a.value n.value) rest))
    (λ a i bytes. (x : Instr) × ((λ c. (is_kind (entry_at slots a) ≡ true) × (c ≡ [])) ⌢ Count make a i) bytes) (take_number read16)
    (λ i a. take_then (λ j instr. number_at w8 instr.rest >>= λ n. cond (eqb n.value 0) (fault BadCode instr.rest.at) (expected w8 0 BadCode n.rest >>= λ rest. read (make a n.value) rest)) (λ x. Count make a) (take_checked slots is_kind i.at a (λ index. make index 0)) (λ j x. take_count make a)))
    (λ i bytes t. let s = t.1 in let u = s.4.1 in let c = u.4 in (t.0, c.0, ((s.3.0, u.3.0), c.1, c.2), c.3, s.2 ∙ ap (λ (f : List ℕ). f ++ s.1) s.3.1 ∙ ap (λ (r : List ℕ). u2 t.0 ++ r) (u.2 ∙ ap (λ (f : List ℕ). f ++ u.1) u.3.1 ∙ c.4)))

take_formed : (slots : Slots) (o : Option Form) (at : ℕ) → Takes (formed slots o at) (λ i bytes. (form : Form) × (o ≡ Some form) × FormIs slots form i bytes)
take_formed slots None at = take_fault _ (λ i bytes. (form : Form) × (None ≡ Some form) × FormIs slots form i bytes)
take_formed slots (Some form) at = take_as (λ i bytes. (f : Form) × (Some form ≡ Some f) × FormIs slots f i bytes) (take_operands slots form at) (λ i bytes is. (form, refl, is))

take_wide : (slots : Slots) → Takes (wide_at slots) (λ i bytes. InstrIs slots i (0xC4 ∷ bytes))
take_wide slots = take_as (λ i bytes. InstrIs slots i (0xC4 ∷ bytes)) (take_then (λ i opcode. formed slots (wide_form_of opcode.value) i.at opcode.rest) (λ code i bytes. (form : Form) × (wide_form_of code ≡ Some form) × FormIs slots form i bytes) (take_number read8) (λ i code. take_formed slots (wide_form_of code) i.at))
    (λ i bytes t. let s = t.1 in let u = s.4 in subst (λ (b : List ℕ). InstrIs slots i (0xC4 ∷ b)) (sym (s.2 ∙ ap (λ (f : List ℕ). f ++ s.1) s.3.1)) (wide_spelled slots t.0 u.0 i s.1 u.1 u.2))

pub take_instruction : (slots : Slots) → Takes (instruction_at slots) (InstrIs slots)
unfolding instruction_at
take_instruction slots = take_as (InstrIs slots)
    (take_then (λ i opcode. cond (eqb opcode.value 0xC4) (wide_at slots opcode.rest) (formed slots (form_of opcode.value) i.at opcode.rest)) (λ code i bytes. InstrIs slots i (code ∷ bytes)) (take_number read8)
    (λ i code. take_if (wide_at slots) (formed slots (form_of code) i.at) (λ i bytes. InstrIs slots i (code ∷ bytes)) (eqb code 0xC4)
    (λ e. take_as (λ i bytes. InstrIs slots i (code ∷ bytes)) (take_wide slots) (λ i bytes is. subst (λ (c : ℕ). InstrIs slots i (c ∷ bytes)) (sym (eqb-true code 0xC4 e)) is))
    (λ _. take_as (λ i bytes. InstrIs slots i (code ∷ bytes)) (take_formed slots (form_of code) i.at) (λ j bytes u. alone_spelled slots code u.0 j bytes u.1 u.2))))
    (λ i bytes t. let s = t.1 in subst (InstrIs slots i) (sym (s.2 ∙ ap (λ (f : List ℕ). f ++ s.1) s.3.1)) s.4)

no_instructions : (slots : Slots) → Takes (λ i. read [] i) (Each (InstrIs slots))
no_instructions slots = take_as (Each (InstrIs slots)) (take_nothing []) (λ code bytes t. subst (λ (c : List Instr). Each (InstrIs slots) c bytes) (sym t.0) t.1)

take_instructions : (slots : Slots) (most : ℕ) → Takes (instructions_at slots most) (Each (InstrIs slots))
unfolding instructions_at
take_instructions slots zero = no_instructions slots
take_instructions slots (suc most) = take_either _ _ (Each (InstrIs slots)) (λ i. eqb (length i.bytes) 0) (no_instructions slots) (take_as (Each (InstrIs slots))
    (take_then (λ i first. instructions_at slots most first.rest >>= λ others. read (first.value ∷ others.value) others.rest) (λ x code bytes. (xs : List Instr) × (code ≡ x ∷ xs) × Each (InstrIs slots) xs bytes) (take_instruction slots)
    (λ i x. take_last (λ j others. read (x ∷ others.value) others.rest) (λ xs code. code ≡ x ∷ xs) (take_instructions slots most) (λ i j xs y e. read_is (x ∷ xs) j y e)))
    (λ code bytes t. let s = t.1 in let u = s.4 in subst (λ (c : List Instr). Each (InstrIs slots) c bytes) (sym u.1) (s.0, s.1, s.2, s.3, u.2)))

bounded : (n : ℕ) → (eqb n 0 || ltb 65535 n) ≡ false → (0 < n) × (n < 2 ^ 16)
bounded n e = go (eqb n 0) refl (ltb 65535 n) refl e
  where
    go : (b : Bool) → eqb n 0 ≡ b → (c : Bool) → ltb 65535 n ≡ c → (b || c) ≡ false → (0 < n) × (n < 2 ^ 16)
    go true f c g e = absurd cc
    go false f true g e = absurd cc
    go false f false g e = (some_count n f, let le = ltb-false 65535 n g in omega arith)

pub take_code_array : (slots : Slots) → Takes (code_array_at slots) (λ code. Sized (InstrsAre slots code))
unfolding code_array_at
take_code_array slots = take_as (λ code. Sized (InstrsAre slots code))
    (take_then (λ i n. cond (eqb n.value 0 || ltb 65535 n.value) (fault BadCode i.at) (window n.value (instructions_at slots n.value) n.rest)) Contents (take_number read32)
    (λ i n. take_if _ (window n (instructions_at slots n)) (Contents n) (eqb n 0 || ltb 65535 n) (λ _. take_fault _ (Contents n))
    (λ e. take_as (Contents n) (take_window n (take_instructions slots n)) (λ code body t. let b = bounded n e in (b.0, b.1, t.0, t.1)))))
    (λ code bytes t. let s = t.1 in let u = s.4 in
    (s.1, subst (λ (n : ℕ). n < 2 ^ 32) (sym u.2) s.3.0, s.2 ∙ ap (λ (f : List ℕ). f ++ s.1) s.3.1 ∙ ap (λ (n : ℕ). u4 n ++ s.1) (sym u.2), (subst (λ (n : ℕ). 0 < n) (sym u.2) u.0, subst (λ (n : ℕ). n < 2 ^ 16) (sym u.2) u.1, u.3)))
  where
    Contents : ℕ → List Instr → List ℕ → Type 0
    Contents n code body = (0 < n) × (n < 2 ^ 16) × (length body ≡ n) × Each (InstrIs slots) code body
