-- Instructions that are spelled are read.
use Rattle.std.proofs.Common.{◌≡◌, ℕ, zero, suc, ◌+◌, ◌^◌, ◌<◌, ◌≤◌, Bool, true, false, cond, ltb, eqb, List, [], ◌∷◌, ◌++◌, length, Option, Some, Ok, refl, sym, ap, subst, ◌∙◌, arith, length-append}
use Rattle.std.specs.Prelude.{◌||◌}
use Rattle.std.specs.Int.{w8, w16}
use Rattle.std.proofs.lemmas.Bool.{le-ltb}
use Rattle.std.proofs.lemmas.Bool.Decides.{nat_tests}
use Rattle.class_file.specs.declared.pool.Entry.{Entry}
use Rattle.class_file.specs.declared.instr.Instr.{Instr}
use Rattle.class_file.specs.declared.format_fault.FormatCode.TheVariants.{BadIndex, BadCode}
use Rattle.class_file.specs.Pools.{Slots, entry_at}
use Rattle.class_file.specs.InstrBytes.{u1, u2, u4, s1, s2, instr_bytes}
use Rattle.class_file.specs.ClassBytes.{◌⌢◌, Is, Each, Sized, InstrIs, InstrsAre}
use Rattle.class_file.specs.Inputs.{◌>>=◌, read, fault, number_at, expected, window}
use Rattle.class_file.specs.Opcodes.{Form, Plain, Signed1, Signed2, Unsigned1, Unsigned2, Short, Index, Increment, WideIncrement, CallOfInterface, form_of, wide_form_of}
use Rattle.class_file.specs.FormatFaults.{index_checked, operands_at, formed, instruction_at, instructions_at, code_array_at}
use Rattle.class_spelling.proofs.Gives.{input, got, Gives, then, last, number, byte, wide8, wide16, wide32, signed1, signed2, at_piece, nothing_read, by_else, by_then, moved, expect_then, window_gives}
use Rattle.class_spelling.proofs.Forms.{FormIs, Coded, alone, behind_wide, coded}

unsigned2 : (a : ℕ) → a < 2 ^ 16 → Gives (number_at w16) (Is (u2 a)) a
unsigned2 a lt = number wide16 a lt

checked : (slots : Slots) (is_kind : Option Entry → Bool) (at index : ℕ) (make : ℕ → Instr) → is_kind (entry_at slots index) ≡ true → Gives (λ j. index_checked slots is_kind at index j make) (Is []) (make index)
checked slots is_kind at index make e = by_then (λ j. read (make index) j) _ (is_kind (entry_at slots index)) e (nothing_read (make index))

not_0 : (b : ℕ) → 0 < b → eqb b 0 ≡ false
not_0 b lt = grind (arith, nat_tests)

operands_give : (slots : Slots) (form : Form) (at : ℕ) (i : Instr) (bytes : List ℕ) → FormIs slots form i bytes → Gives (operands_at slots form at) (Is bytes) i
operands_give slots (Plain j) at i bytes is = moved (nothing_read j) i bytes is.0 is.1
operands_give slots (Signed1 make) at i bytes is = moved (last _ (signed1 is.0 is.1) (λ i j. refl)) i bytes is.2 is.3
operands_give slots (Signed2 make) at i bytes is = moved (last _ (signed2 is.0 is.1) (λ i j. refl)) i bytes is.2 is.3
operands_give slots (Unsigned1 make) at i bytes is = moved (last _ (byte is.0) (λ i j. refl)) i bytes is.2 is.3
operands_give slots (Unsigned2 make) at i bytes is = moved (last _ (unsigned2 is.0 is.1) (λ i j. refl)) i bytes is.2 is.3
operands_give slots (Short is_kind make) at i bytes is = moved (last _ (byte is.0) (λ i j. ap (λ (b : Bool). cond b (read (make is.0) j) (fault BadIndex i.at)) is.1.1.1)) i bytes is.2 is.3
operands_give slots (Index is_kind make) at i bytes is = moved (last _ (unsigned2 is.0 is.1.0) (λ i j. ap (λ (b : Bool). cond b (read (make is.0) j) (fault BadIndex i.at)) is.1.1)) i bytes is.2 is.3
operands_give slots (Increment make) at i bytes is =
    moved (at_piece (then _ (byte is.0) (λ i. last _ (signed1 is.1 is.2.1) (λ i j. refl))) (u1 is.0 ++ s1 is.1) (u1 is.0, s1 is.1, refl, refl, refl)) i bytes is.3 is.4
operands_give slots (WideIncrement make) at i bytes is =
    moved (at_piece (then _ (unsigned2 is.0 is.2.0) (λ i. last _ (signed2 is.1 is.2.1) (λ i j. refl))) (u2 is.0 ++ s2 is.1) (u2 is.0, s2 is.1, refl, refl, refl)) i bytes is.3 is.4
operands_give slots (CallOfInterface is_kind make) at i bytes is =
    moved (at_piece (then _ (unsigned2 is.0 is.2.0.0) (λ i. then _ (checked slots is_kind i.at is.0 (λ index. make index 0) is.2.0.1) (λ j.
    then _ (byte is.1) (λ k. by_else _ (λ l. expected w8 0 BadCode l >>= λ rest. read (make is.0 is.1) rest) (eqb is.1 0) (not_0 is.1 is.2.1) (expect_then wide8 0 BadCode (λ rest. read (make is.0 is.1) rest) (omega arith) (nothing_read (make is.0 is.1)))))))
    (u2 is.0 ++ u1 is.1 ++ u1 0) (u2 is.0, u1 is.1 ++ u1 0, refl, refl, ([], u1 is.1 ++ u1 0, refl, refl, (u1 is.1, u1 0, refl, refl, (u1 0, [], refl, refl, refl))))) i bytes is.3 is.4

formed_gives : (slots : Slots) (o : Option Form) (form : Form) (at : ℕ) (i : Instr) (bytes : List ℕ) → o ≡ Some form → FormIs slots form i bytes → Gives (formed slots o at) (Is bytes) i
formed_gives slots o form at i bytes e is = subst (λ (o : Option Form). Gives (formed slots o at) (Is bytes) i) (sym e) (operands_give slots form at i bytes is)

coded_gives : (slots : Slots) (i : Instr) (bytes : List ℕ) → Coded slots i bytes → Gives (instruction_at slots) (Is bytes) i
unfolding instruction_at
coded_gives slots i bytes (alone code form rest other e is same) =
    moved (at_piece (then _ (byte code) (λ j. by_else _ (formed slots (form_of code) j.at) (eqb code 0xC4) other (formed_gives slots (form_of code) form j.at i rest e is))) (code ∷ rest) (u1 code, rest, refl, refl, refl)) i bytes refl same
coded_gives slots i bytes (behind_wide code form rest e is same) =
    moved (at_piece (then _ (byte 0xC4) (λ j. then _ (byte code) (λ k. formed_gives slots (wide_form_of code) form k.at i rest e is))) (0xC4 ∷ code ∷ rest) (u1 0xC4, code ∷ rest, refl, refl, (u1 code, rest, refl, refl, refl))) i bytes refl same

pub instruction_gives : (slots : Slots) (i : Instr) → Gives (instruction_at slots) (InstrIs slots i) i
instruction_gives slots i = record { gives = λ at piece rest is. (coded_gives slots i (instr_bytes i) (coded slots i is.0)).gives at piece rest is.1 }

some_byte : (slots : Slots) (i : Instr) (bytes : List ℕ) → Coded slots i bytes → 0 < length bytes
some_byte slots i bytes (alone code form rest other e is same) = omega (arith, ap length same)
some_byte slots i bytes (behind_wide code form rest e is same) = omega (arith, ap length same)

-- instructions up to the end
instructions_give : (slots : Slots) (code : List Instr) (most at : ℕ) (bytes : List ℕ) → Each (InstrIs slots) code bytes → length bytes ≤ most → (end : ℕ) × (instructions_at slots most (input at bytes) ≡ Ok (got code end []))
unfolding instructions_at
instructions_give slots [] zero at bytes is le = (at, ap (λ (b : List ℕ). read [] (input at b)) is)
instructions_give slots [] (suc most) at bytes is le = (at, ap (λ (b : List ℕ). instructions_at slots (suc most) (input at b)) is)
instructions_give slots (i ∷ code) zero at bytes is le = absurd (omega (arith, ap length is.2, length-append is.0 is.1, some_byte slots i is.0 (subst (Coded slots i) (sym is.3.1) (coded slots i is.3.0))))
instructions_give slots (i ∷ code) (suc most) at bytes is le =
    let some = some_byte slots i is.0 (subst (Coded slots i) (sym is.3.1) (coded slots i is.3.0)) in
    let lengths : length bytes ≡ length is.0 + length is.1 = ap length is.2 ∙ length-append is.0 is.1 in
    let a = (instruction_gives slots i).gives at is.0 is.1 is.3 in
    let b = instructions_give slots code most a.0 is.1 is.4 (omega arith) in
    let more : eqb (length bytes) 0 ≡ false = not_0 (length bytes) (omega arith) in
    let first : instruction_at slots (input at bytes) ≡ Ok (got i a.0 is.1) = ap (λ (p : List ℕ). instruction_at slots (input at p)) is.2 ∙ a.1 in
    (b.0, rw (more, first, b.1) refl)

sized_code : (slots : Slots) (code : List Instr) (body : List ℕ) → InstrsAre slots code body → Gives (code_array_at slots) (Is (u4 (length body)) ⌢ Is body) code
unfolding code_array_at
sized_code slots code body is = then _ (number wide32 (length body) (omega (arith, is.1))) (λ i. by_else _ (window (length body) (instructions_at slots (length body))) (eqb (length body) 0 || ltb 65535 (length body)) fits
    (window_gives (instructions_at slots (length body)) code body (λ at. instructions_give slots code (length body) at body is.2 (omega arith))))
  where
    fits : (eqb (length body) 0 || ltb 65535 (length body)) ≡ false
    fits = rw (not_0 (length body) is.0, le-ltb 65535 (length body) (omega (arith, is.1)))

pub code_array_gives : (slots : Slots) (code : List Instr) → Gives (code_array_at slots) (Sized (InstrsAre slots code)) code
code_array_gives slots code = record { gives = λ at piece rest is. (sized_code slots code is.0 is.3).gives at piece rest (u4 (length is.0), is.0, is.2, refl, refl) }
