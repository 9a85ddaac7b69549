-- The bytes of operands, by the form that an opcode has them in.
use Rattle.std.proofs.Common.{Bool, cond, true, sym, ap, subst, ◌∙◌, append-nil}
use Rattle.std.specs.List.{AllByRecursion}
use Rattle.std.proofs.lemmas.Bool.{eqb-true}
use Rattle.class_file.specs.ClassBytes.{InstrIs}
use Rattle.std.proofs.Common.{◌≡◌, ℕ, ◌^◌, ◌<◌, false, List, [], ◌∷◌, ◌++◌, Some, refl, eqb}
use Rattle.std.specs.Prelude.{ℤ, FitsSigned}
use Rattle.std.specs.Int.{w8, w16}
use Rattle.class_file.specs.declared.instr.Instr.{Instr}
use Rattle.class_file.specs.declared.instr.Instr.TheVariants as instr
use Rattle.class_file.specs.Pools.{Slots}
use Rattle.class_file.specs.InstrBytes.{u1, u2, s1, s2, is_constant, is_long, is_field, is_method, is_any_method, is_interface_method, is_class, IsIndexOf, IsInstr, instr_bytes}
use Rattle.class_file.specs.Opcodes.{Form, Plain, Signed1, Signed2, Unsigned1, Unsigned2, Short, Index, Increment, WideIncrement, CallOfInterface, Opcode, find_form, opcodes, wide_opcodes, form_of, wide_form_of}

-- the operands of an instruction
abbrev pub FormIs : Slots → Form → Instr → List ℕ → Type 0
FormIs slots (Plain j) i bytes = (i ≡ j) × (bytes ≡ [])
FormIs slots (Signed1 make) i bytes = (a : ℤ) × FitsSigned w8 a × (i ≡ make a) × (bytes ≡ s1 a)
FormIs slots (Signed2 make) i bytes = (a : ℤ) × FitsSigned w16 a × (i ≡ make a) × (bytes ≡ s2 a)
FormIs slots (Unsigned1 make) i bytes = (a : ℕ) × (a < 2 ^ 8) × (i ≡ make a) × (bytes ≡ u1 a)
FormIs slots (Unsigned2 make) i bytes = (a : ℕ) × (a < 2 ^ 16) × (i ≡ make a) × (bytes ≡ u2 a)
FormIs slots (Short is_kind make) i bytes = (a : ℕ) × ((a < 2 ^ 8) × IsIndexOf is_kind slots a) × (i ≡ make a) × (bytes ≡ u1 a)
FormIs slots (Index is_kind make) i bytes = (a : ℕ) × IsIndexOf is_kind slots a × (i ≡ make a) × (bytes ≡ u2 a)
FormIs slots (Increment make) i bytes = (a : ℕ) × (b : ℤ) × ((a < 2 ^ 8) × FitsSigned w8 b) × (i ≡ make a b) × (bytes ≡ u1 a ++ s1 b)
FormIs slots (WideIncrement make) i bytes = (a : ℕ) × (b : ℤ) × ((a < 2 ^ 16) × FitsSigned w16 b) × (i ≡ make a b) × (bytes ≡ u2 a ++ s2 b)
FormIs slots (CallOfInterface is_kind make) i bytes = (a : ℕ) × (b : ℕ) × (IsIndexOf is_kind slots a × (0 < b) × (b < 2 ^ 8)) × (i ≡ make a b) × (bytes ≡ u2 a ++ u1 b ++ u1 0)

-- an instruction's bytes, by its opcode
pub data Coded (slots : Slots) (i : Instr) (bytes : List ℕ) : Type 0 where
  alone : (code : ℕ) (form : Form) (rest : List ℕ) → eqb code 0xC4 ≡ false → form_of code ≡ Some form → FormIs slots form i rest → bytes ≡ code ∷ rest → Coded slots i bytes
  behind_wide : (code : ℕ) (form : Form) (rest : List ℕ) → wide_form_of code ≡ Some form → FormIs slots form i rest → bytes ≡ 0xC4 ∷ code ∷ rest → Coded slots i bytes

pub coded : (slots : Slots) (i : Instr) → IsInstr slots i → Coded slots i (instr_bytes i)
unfolding form_of wide_form_of opcodes wide_opcodes
coded slots instr.Nop is = alone 0x00 (Plain instr.Nop) _ refl refl (refl, refl) refl
coded slots instr.AconstNull is = alone 0x01 (Plain instr.AconstNull) _ refl refl (refl, refl) refl
coded slots instr.IconstM1 is = alone 0x02 (Plain instr.IconstM1) _ refl refl (refl, refl) refl
coded slots instr.Iconst0 is = alone 0x03 (Plain instr.Iconst0) _ refl refl (refl, refl) refl
coded slots instr.Iconst1 is = alone 0x04 (Plain instr.Iconst1) _ refl refl (refl, refl) refl
coded slots instr.Iconst2 is = alone 0x05 (Plain instr.Iconst2) _ refl refl (refl, refl) refl
coded slots instr.Iconst3 is = alone 0x06 (Plain instr.Iconst3) _ refl refl (refl, refl) refl
coded slots instr.Iconst4 is = alone 0x07 (Plain instr.Iconst4) _ refl refl (refl, refl) refl
coded slots instr.Iconst5 is = alone 0x08 (Plain instr.Iconst5) _ refl refl (refl, refl) refl
coded slots instr.Lconst0 is = alone 0x09 (Plain instr.Lconst0) _ refl refl (refl, refl) refl
coded slots instr.Lconst1 is = alone 0x0A (Plain instr.Lconst1) _ refl refl (refl, refl) refl
coded slots (instr.Bipush a) is = alone 0x10 (Signed1 instr.Bipush) _ refl refl (a, is, refl, refl) refl
coded slots (instr.Sipush a) is = alone 0x11 (Signed2 instr.Sipush) _ refl refl (a, is, refl, refl) refl
coded slots (instr.Ldc a) is = alone 0x12 (Short is_constant instr.Ldc) _ refl refl (a, is, refl, refl) refl
coded slots (instr.LdcW a) is = alone 0x13 (Index is_constant instr.LdcW) _ refl refl (a, is, refl, refl) refl
coded slots (instr.Ldc2W a) is = alone 0x14 (Index is_long instr.Ldc2W) _ refl refl (a, is, refl, refl) refl
coded slots (instr.Iload a) is = alone 0x15 (Unsigned1 instr.Iload) _ refl refl (a, is, refl, refl) refl
coded slots (instr.Lload a) is = alone 0x16 (Unsigned1 instr.Lload) _ refl refl (a, is, refl, refl) refl
coded slots (instr.Aload a) is = alone 0x19 (Unsigned1 instr.Aload) _ refl refl (a, is, refl, refl) refl
coded slots instr.Iload0 is = alone 0x1A (Plain instr.Iload0) _ refl refl (refl, refl) refl
coded slots instr.Iload1 is = alone 0x1B (Plain instr.Iload1) _ refl refl (refl, refl) refl
coded slots instr.Iload2 is = alone 0x1C (Plain instr.Iload2) _ refl refl (refl, refl) refl
coded slots instr.Iload3 is = alone 0x1D (Plain instr.Iload3) _ refl refl (refl, refl) refl
coded slots instr.Lload0 is = alone 0x1E (Plain instr.Lload0) _ refl refl (refl, refl) refl
coded slots instr.Lload1 is = alone 0x1F (Plain instr.Lload1) _ refl refl (refl, refl) refl
coded slots instr.Lload2 is = alone 0x20 (Plain instr.Lload2) _ refl refl (refl, refl) refl
coded slots instr.Lload3 is = alone 0x21 (Plain instr.Lload3) _ refl refl (refl, refl) refl
coded slots instr.Aload0 is = alone 0x2A (Plain instr.Aload0) _ refl refl (refl, refl) refl
coded slots instr.Aload1 is = alone 0x2B (Plain instr.Aload1) _ refl refl (refl, refl) refl
coded slots instr.Aload2 is = alone 0x2C (Plain instr.Aload2) _ refl refl (refl, refl) refl
coded slots instr.Aload3 is = alone 0x2D (Plain instr.Aload3) _ refl refl (refl, refl) refl
coded slots instr.Aaload is = alone 0x32 (Plain instr.Aaload) _ refl refl (refl, refl) refl
coded slots (instr.Istore a) is = alone 0x36 (Unsigned1 instr.Istore) _ refl refl (a, is, refl, refl) refl
coded slots (instr.Lstore a) is = alone 0x37 (Unsigned1 instr.Lstore) _ refl refl (a, is, refl, refl) refl
coded slots (instr.Astore a) is = alone 0x3A (Unsigned1 instr.Astore) _ refl refl (a, is, refl, refl) refl
coded slots instr.Istore0 is = alone 0x3B (Plain instr.Istore0) _ refl refl (refl, refl) refl
coded slots instr.Istore1 is = alone 0x3C (Plain instr.Istore1) _ refl refl (refl, refl) refl
coded slots instr.Istore2 is = alone 0x3D (Plain instr.Istore2) _ refl refl (refl, refl) refl
coded slots instr.Istore3 is = alone 0x3E (Plain instr.Istore3) _ refl refl (refl, refl) refl
coded slots instr.Lstore0 is = alone 0x3F (Plain instr.Lstore0) _ refl refl (refl, refl) refl
coded slots instr.Lstore1 is = alone 0x40 (Plain instr.Lstore1) _ refl refl (refl, refl) refl
coded slots instr.Lstore2 is = alone 0x41 (Plain instr.Lstore2) _ refl refl (refl, refl) refl
coded slots instr.Lstore3 is = alone 0x42 (Plain instr.Lstore3) _ refl refl (refl, refl) refl
coded slots instr.Astore0 is = alone 0x4B (Plain instr.Astore0) _ refl refl (refl, refl) refl
coded slots instr.Astore1 is = alone 0x4C (Plain instr.Astore1) _ refl refl (refl, refl) refl
coded slots instr.Astore2 is = alone 0x4D (Plain instr.Astore2) _ refl refl (refl, refl) refl
coded slots instr.Astore3 is = alone 0x4E (Plain instr.Astore3) _ refl refl (refl, refl) refl
coded slots instr.Aastore is = alone 0x53 (Plain instr.Aastore) _ refl refl (refl, refl) refl
coded slots instr.Pop is = alone 0x57 (Plain instr.Pop) _ refl refl (refl, refl) refl
coded slots instr.Pop2 is = alone 0x58 (Plain instr.Pop2) _ refl refl (refl, refl) refl
coded slots instr.Dup is = alone 0x59 (Plain instr.Dup) _ refl refl (refl, refl) refl
coded slots instr.DupX1 is = alone 0x5A (Plain instr.DupX1) _ refl refl (refl, refl) refl
coded slots instr.Dup2 is = alone 0x5C (Plain instr.Dup2) _ refl refl (refl, refl) refl
coded slots instr.Iadd is = alone 0x60 (Plain instr.Iadd) _ refl refl (refl, refl) refl
coded slots instr.Ladd is = alone 0x61 (Plain instr.Ladd) _ refl refl (refl, refl) refl
coded slots instr.Isub is = alone 0x64 (Plain instr.Isub) _ refl refl (refl, refl) refl
coded slots instr.Lsub is = alone 0x65 (Plain instr.Lsub) _ refl refl (refl, refl) refl
coded slots instr.Imul is = alone 0x68 (Plain instr.Imul) _ refl refl (refl, refl) refl
coded slots instr.Lmul is = alone 0x69 (Plain instr.Lmul) _ refl refl (refl, refl) refl
coded slots instr.Idiv is = alone 0x6C (Plain instr.Idiv) _ refl refl (refl, refl) refl
coded slots instr.Ldiv is = alone 0x6D (Plain instr.Ldiv) _ refl refl (refl, refl) refl
coded slots instr.Irem is = alone 0x70 (Plain instr.Irem) _ refl refl (refl, refl) refl
coded slots instr.Lrem is = alone 0x71 (Plain instr.Lrem) _ refl refl (refl, refl) refl
coded slots instr.Ineg is = alone 0x74 (Plain instr.Ineg) _ refl refl (refl, refl) refl
coded slots instr.Lneg is = alone 0x75 (Plain instr.Lneg) _ refl refl (refl, refl) refl
coded slots instr.Ishl is = alone 0x78 (Plain instr.Ishl) _ refl refl (refl, refl) refl
coded slots instr.Lshl is = alone 0x79 (Plain instr.Lshl) _ refl refl (refl, refl) refl
coded slots instr.Ishr is = alone 0x7A (Plain instr.Ishr) _ refl refl (refl, refl) refl
coded slots instr.Lshr is = alone 0x7B (Plain instr.Lshr) _ refl refl (refl, refl) refl
coded slots instr.Iushr is = alone 0x7C (Plain instr.Iushr) _ refl refl (refl, refl) refl
coded slots instr.Lushr is = alone 0x7D (Plain instr.Lushr) _ refl refl (refl, refl) refl
coded slots instr.Iand is = alone 0x7E (Plain instr.Iand) _ refl refl (refl, refl) refl
coded slots instr.Land is = alone 0x7F (Plain instr.Land) _ refl refl (refl, refl) refl
coded slots instr.Ior is = alone 0x80 (Plain instr.Ior) _ refl refl (refl, refl) refl
coded slots instr.Lor is = alone 0x81 (Plain instr.Lor) _ refl refl (refl, refl) refl
coded slots instr.Ixor is = alone 0x82 (Plain instr.Ixor) _ refl refl (refl, refl) refl
coded slots instr.Lxor is = alone 0x83 (Plain instr.Lxor) _ refl refl (refl, refl) refl
coded slots (instr.Iinc a b) is = alone 0x84 (Increment instr.Iinc) _ refl refl (a, b, is, refl, refl) refl
coded slots instr.I2l is = alone 0x85 (Plain instr.I2l) _ refl refl (refl, refl) refl
coded slots instr.L2i is = alone 0x88 (Plain instr.L2i) _ refl refl (refl, refl) refl
coded slots instr.I2c is = alone 0x92 (Plain instr.I2c) _ refl refl (refl, refl) refl
coded slots instr.Lcmp is = alone 0x94 (Plain instr.Lcmp) _ refl refl (refl, refl) refl
coded slots (instr.Ifeq a) is = alone 0x99 (Signed2 instr.Ifeq) _ refl refl (a, is, refl, refl) refl
coded slots (instr.Ifne a) is = alone 0x9A (Signed2 instr.Ifne) _ refl refl (a, is, refl, refl) refl
coded slots (instr.Iflt a) is = alone 0x9B (Signed2 instr.Iflt) _ refl refl (a, is, refl, refl) refl
coded slots (instr.Ifge a) is = alone 0x9C (Signed2 instr.Ifge) _ refl refl (a, is, refl, refl) refl
coded slots (instr.Ifgt a) is = alone 0x9D (Signed2 instr.Ifgt) _ refl refl (a, is, refl, refl) refl
coded slots (instr.Ifle a) is = alone 0x9E (Signed2 instr.Ifle) _ refl refl (a, is, refl, refl) refl
coded slots (instr.IfIcmpeq a) is = alone 0x9F (Signed2 instr.IfIcmpeq) _ refl refl (a, is, refl, refl) refl
coded slots (instr.IfIcmpne a) is = alone 0xA0 (Signed2 instr.IfIcmpne) _ refl refl (a, is, refl, refl) refl
coded slots (instr.IfIcmplt a) is = alone 0xA1 (Signed2 instr.IfIcmplt) _ refl refl (a, is, refl, refl) refl
coded slots (instr.IfIcmpge a) is = alone 0xA2 (Signed2 instr.IfIcmpge) _ refl refl (a, is, refl, refl) refl
coded slots (instr.IfIcmpgt a) is = alone 0xA3 (Signed2 instr.IfIcmpgt) _ refl refl (a, is, refl, refl) refl
coded slots (instr.IfIcmple a) is = alone 0xA4 (Signed2 instr.IfIcmple) _ refl refl (a, is, refl, refl) refl
coded slots (instr.IfAcmpeq a) is = alone 0xA5 (Signed2 instr.IfAcmpeq) _ refl refl (a, is, refl, refl) refl
coded slots (instr.IfAcmpne a) is = alone 0xA6 (Signed2 instr.IfAcmpne) _ refl refl (a, is, refl, refl) refl
coded slots (instr.Goto a) is = alone 0xA7 (Signed2 instr.Goto) _ refl refl (a, is, refl, refl) refl
coded slots instr.Ireturn is = alone 0xAC (Plain instr.Ireturn) _ refl refl (refl, refl) refl
coded slots instr.Lreturn is = alone 0xAD (Plain instr.Lreturn) _ refl refl (refl, refl) refl
coded slots instr.Areturn is = alone 0xB0 (Plain instr.Areturn) _ refl refl (refl, refl) refl
coded slots instr.Return is = alone 0xB1 (Plain instr.Return) _ refl refl (refl, refl) refl
coded slots (instr.Getstatic a) is = alone 0xB2 (Index is_field instr.Getstatic) _ refl refl (a, is, refl, refl) refl
coded slots (instr.Putstatic a) is = alone 0xB3 (Index is_field instr.Putstatic) _ refl refl (a, is, refl, refl) refl
coded slots (instr.Getfield a) is = alone 0xB4 (Index is_field instr.Getfield) _ refl refl (a, is, refl, refl) refl
coded slots (instr.Putfield a) is = alone 0xB5 (Index is_field instr.Putfield) _ refl refl (a, is, refl, refl) refl
coded slots (instr.Invokevirtual a) is = alone 0xB6 (Index is_method instr.Invokevirtual) _ refl refl (a, is, refl, refl) refl
coded slots (instr.Invokespecial a) is = alone 0xB7 (Index is_any_method instr.Invokespecial) _ refl refl (a, is, refl, refl) refl
coded slots (instr.Invokestatic a) is = alone 0xB8 (Index is_any_method instr.Invokestatic) _ refl refl (a, is, refl, refl) refl
coded slots (instr.Invokeinterface a b) is = alone 0xB9 (CallOfInterface is_interface_method instr.Invokeinterface) _ refl refl (a, b, is, refl, refl) refl
coded slots (instr.New a) is = alone 0xBB (Index is_class instr.New) _ refl refl (a, is, refl, refl) refl
coded slots (instr.Anewarray a) is = alone 0xBD (Index is_class instr.Anewarray) _ refl refl (a, is, refl, refl) refl
coded slots instr.Arraylength is = alone 0xBE (Plain instr.Arraylength) _ refl refl (refl, refl) refl
coded slots instr.Athrow is = alone 0xBF (Plain instr.Athrow) _ refl refl (refl, refl) refl
coded slots (instr.Checkcast a) is = alone 0xC0 (Index is_class instr.Checkcast) _ refl refl (a, is, refl, refl) refl
coded slots (instr.Instanceof a) is = alone 0xC1 (Index is_class instr.Instanceof) _ refl refl (a, is, refl, refl) refl
coded slots (instr.Ifnull a) is = alone 0xC6 (Signed2 instr.Ifnull) _ refl refl (a, is, refl, refl) refl
coded slots (instr.Ifnonnull a) is = alone 0xC7 (Signed2 instr.Ifnonnull) _ refl refl (a, is, refl, refl) refl
coded slots (instr.WideIload a) is = behind_wide 0x15 (Unsigned2 instr.WideIload) _ refl (a, is, refl, refl) refl
coded slots (instr.WideLload a) is = behind_wide 0x16 (Unsigned2 instr.WideLload) _ refl (a, is, refl, refl) refl
coded slots (instr.WideAload a) is = behind_wide 0x19 (Unsigned2 instr.WideAload) _ refl (a, is, refl, refl) refl
coded slots (instr.WideIstore a) is = behind_wide 0x36 (Unsigned2 instr.WideIstore) _ refl (a, is, refl, refl) refl
coded slots (instr.WideLstore a) is = behind_wide 0x37 (Unsigned2 instr.WideLstore) _ refl (a, is, refl, refl) refl
coded slots (instr.WideAstore a) is = behind_wide 0x3A (Unsigned2 instr.WideAstore) _ refl (a, is, refl, refl) refl
coded slots (instr.WideIinc a b) is = behind_wide 0x84 (WideIncrement instr.WideIinc) _ refl (a, b, is, refl, refl) refl

-- ---- from opcodes to instructions

-- what an opcode's form makes is an instruction with these bytes in front of its operands
abbrev pub FormFits : Slots → List ℕ → Form → Type 0
FormFits slots front (Plain j) = IsInstr slots j × (instr_bytes j ≡ front)
FormFits slots front (Signed1 make) = (a : ℤ) → FitsSigned w8 a → IsInstr slots (make a) × (instr_bytes (make a) ≡ front ++ s1 a)
FormFits slots front (Signed2 make) = (a : ℤ) → FitsSigned w16 a → IsInstr slots (make a) × (instr_bytes (make a) ≡ front ++ s2 a)
FormFits slots front (Unsigned1 make) = (a : ℕ) → a < 2 ^ 8 → IsInstr slots (make a) × (instr_bytes (make a) ≡ front ++ u1 a)
FormFits slots front (Unsigned2 make) = (a : ℕ) → a < 2 ^ 16 → IsInstr slots (make a) × (instr_bytes (make a) ≡ front ++ u2 a)
FormFits slots front (Short is_kind make) = (a : ℕ) → (a < 2 ^ 8) × IsIndexOf is_kind slots a → IsInstr slots (make a) × (instr_bytes (make a) ≡ front ++ u1 a)
FormFits slots front (Index is_kind make) = (a : ℕ) → IsIndexOf is_kind slots a → IsInstr slots (make a) × (instr_bytes (make a) ≡ front ++ u2 a)
FormFits slots front (Increment make) = (a : ℕ) (b : ℤ) → (a < 2 ^ 8) × FitsSigned w8 b → IsInstr slots (make a b) × (instr_bytes (make a b) ≡ front ++ (u1 a ++ s1 b))
FormFits slots front (WideIncrement make) = (a : ℕ) (b : ℤ) → (a < 2 ^ 16) × FitsSigned w16 b → IsInstr slots (make a b) × (instr_bytes (make a b) ≡ front ++ (u2 a ++ s2 b))
FormFits slots front (CallOfInterface is_kind make) = (a b : ℕ) → IsIndexOf is_kind slots a × (0 < b) × (b < 2 ^ 8) → IsInstr slots (make a b) × (instr_bytes (make a b) ≡ front ++ (u2 a ++ u1 b ++ u1 0))

alone_fit : (slots : Slots) → AllByRecursion (λ o. FormFits slots (o.code ∷ []) o.form) opcodes
unfolding opcodes
alone_fit slots = ((tt, refl), ((tt, refl), ((tt, refl), ((tt, refl), ((tt, refl), ((tt, refl), ((tt, refl), ((tt, refl), ((tt, refl), ((tt, refl), ((tt, refl), ((λ a is. (is, refl)), ((λ a is. (is, refl)), ((λ a is. (is, refl)), ((λ a is. (is, refl)), ((λ a is. (is, refl)), ((λ a is. (is, refl)), ((λ a is. (is, refl)), ((λ a is. (is, refl)), ((tt, refl), ((tt, refl), ((tt, refl), ((tt, refl), ((tt, refl), ((tt, refl), ((tt, refl), ((tt, refl), ((tt, refl), ((tt, refl), ((tt, refl), ((tt, refl), ((tt, refl), ((λ a is. (is, refl)), ((λ a is. (is, refl)), ((λ a is. (is, refl)), ((tt, refl), ((tt, refl), ((tt, refl), ((tt, refl), ((tt, refl), ((tt, refl), ((tt, refl), ((tt, refl), ((tt, refl), ((tt, refl), ((tt, refl), ((tt, refl), ((tt, refl), ((tt, refl), ((tt, refl), ((tt, refl), ((tt, refl), ((tt, refl), ((tt, refl), ((tt, refl), ((tt, refl), ((tt, refl), ((tt, refl), ((tt, refl), ((tt, refl), ((tt, refl), ((tt, refl), ((tt, refl), ((tt, refl), ((tt, refl), ((tt, refl), ((tt, refl), ((tt, refl), ((tt, refl), ((tt, refl), ((tt, refl), ((tt, refl), ((tt, refl), ((tt, refl), ((tt, refl), ((tt, refl), ((tt, refl), ((λ a b is. (is, refl)), ((tt, refl), ((tt, refl), ((tt, refl), ((tt, refl), ((λ a is. (is, refl)), ((λ a is. (is, refl)), ((λ a is. (is, refl)), ((λ a is. (is, refl)), ((λ a is. (is, refl)), ((λ a is. (is, refl)), ((λ a is. (is, refl)), ((λ a is. (is, refl)), ((λ a is. (is, refl)), ((λ a is. (is, refl)), ((λ a is. (is, refl)), ((λ a is. (is, refl)), ((λ a is. (is, refl)), ((λ a is. (is, refl)), ((λ a is. (is, refl)), ((tt, refl), ((tt, refl), ((tt, refl), ((tt, refl), ((λ a is. (is, refl)), ((λ a is. (is, refl)), ((λ a is. (is, refl)), ((λ a is. (is, refl)), ((λ a is. (is, refl)), ((λ a is. (is, refl)), ((λ a is. (is, refl)), ((λ a b is. (is, refl)), ((λ a is. (is, refl)), ((λ a is. (is, refl)), ((tt, refl), ((tt, refl), ((λ a is. (is, refl)), ((λ a is. (is, refl)), ((λ a is. (is, refl)), ((λ a is. (is, refl)), tt)))))))))))))))))))))))))))))))))))))))))))))))))))))))))))))))))))))))))))))))))))))))))))))))))))))))))))))))))))))

wide_fit : (slots : Slots) → AllByRecursion (λ o. FormFits slots (0xC4 ∷ o.code ∷ []) o.form) wide_opcodes
unfolding wide_opcodes
wide_fit slots = ((λ a is. (is, refl)), ((λ a is. (is, refl)), ((λ a is. (is, refl)), ((λ a is. (is, refl)), ((λ a is. (is, refl)), ((λ a is. (is, refl)), ((λ a b is. (is, refl)), tt)))))))

found_fits : (slots : Slots) (front : ℕ → List ℕ) (code : ℕ) (form : Form) (os : List Opcode) → AllByRecursion (λ o. FormFits slots (front o.code) o.form) os → find_form code os ≡ Some form → FormFits slots (front code) form
found_fits slots front code form [] all e = absurd cc
found_fits slots front code form (o ∷ os) all e = go (eqb o.code code) refl e (found_fits slots front code form os all.1)
  where
    go : (b : Bool) → eqb o.code code ≡ b → cond b (Some o.form) (find_form code os) ≡ Some form → (find_form code os ≡ Some form → FormFits slots (front code) form) → FormFits slots (front code) form
    go true same e more = let f : o.form ≡ form = cc in subst (λ (c : ℕ). FormFits slots (front c) form) (eqb-true o.code code same) (subst (FormFits slots (front o.code)) f all.0)
    go false other e more = more e

spelled : (slots : Slots) (front : List ℕ) (i j : Instr) (bytes operands : List ℕ) → IsInstr slots j → instr_bytes j ≡ front ++ operands → i ≡ j → bytes ≡ operands → InstrIs slots i (front ++ bytes)
spelled slots front i j bytes operands is e f g = subst (λ (k : Instr). InstrIs slots k (front ++ bytes)) (sym f) (is, ap (λ (b : List ℕ). front ++ b) g ∙ sym e)

form_spelled : (slots : Slots) (front : List ℕ) (form : Form) (i : Instr) (bytes : List ℕ) → FormFits slots front form → FormIs slots form i bytes → InstrIs slots i (front ++ bytes)
form_spelled slots front (Plain j) i bytes fits is = spelled slots front i j bytes [] fits.0 (fits.1 ∙ sym (append-nil front)) is.0 is.1
form_spelled slots front (Signed1 make) i bytes fits is = let f = fits is.0 is.1 in spelled slots front i (make is.0) bytes _ f.0 f.1 is.2 is.3
form_spelled slots front (Signed2 make) i bytes fits is = let f = fits is.0 is.1 in spelled slots front i (make is.0) bytes _ f.0 f.1 is.2 is.3
form_spelled slots front (Unsigned1 make) i bytes fits is = let f = fits is.0 is.1 in spelled slots front i (make is.0) bytes _ f.0 f.1 is.2 is.3
form_spelled slots front (Unsigned2 make) i bytes fits is = let f = fits is.0 is.1 in spelled slots front i (make is.0) bytes _ f.0 f.1 is.2 is.3
form_spelled slots front (Short is_kind make) i bytes fits is = let f = fits is.0 is.1 in spelled slots front i (make is.0) bytes _ f.0 f.1 is.2 is.3
form_spelled slots front (Index is_kind make) i bytes fits is = let f = fits is.0 is.1 in spelled slots front i (make is.0) bytes _ f.0 f.1 is.2 is.3
form_spelled slots front (Increment make) i bytes fits is = let f = fits is.0 is.1 is.2 in spelled slots front i (make is.0 is.1) bytes _ f.0 f.1 is.3 is.4
form_spelled slots front (WideIncrement make) i bytes fits is = let f = fits is.0 is.1 is.2 in spelled slots front i (make is.0 is.1) bytes _ f.0 f.1 is.3 is.4
form_spelled slots front (CallOfInterface is_kind make) i bytes fits is = let f = fits is.0 is.1 is.2 in spelled slots front i (make is.0 is.1) bytes _ f.0 f.1 is.3 is.4

pub alone_spelled : (slots : Slots) (code : ℕ) (form : Form) (i : Instr) (bytes : List ℕ) → form_of code ≡ Some form → FormIs slots form i bytes → InstrIs slots i (code ∷ bytes)
unfolding form_of
alone_spelled slots code form i bytes e is = form_spelled slots (code ∷ []) form i bytes (found_fits slots (λ c. c ∷ []) code form opcodes (alone_fit slots) e) is

pub wide_spelled : (slots : Slots) (code : ℕ) (form : Form) (i : Instr) (bytes : List ℕ) → wide_form_of code ≡ Some form → FormIs slots form i bytes → InstrIs slots i (0xC4 ∷ code ∷ bytes)
unfolding wide_form_of
wide_spelled slots code form i bytes e is = form_spelled slots (0xC4 ∷ code ∷ []) form i bytes (found_fits slots (λ c. 0xC4 ∷ c ∷ []) code form wide_opcodes (wide_fit slots) e) is
