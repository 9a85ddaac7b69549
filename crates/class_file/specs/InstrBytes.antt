-- The bytes of instructions (Java Virtual Machine Specification SE 8, 6.5), and what their operands ask for.
use Rattle.std.specs.Prelude.{ℕ, ◌^◌, ◌<◌, List, [], ◌∷◌, ◌++◌, Option, Some, Bool, true, false, ℤ, ⊤, FitsSigned, IsTrue}
use Rattle.std.specs.Int.{w8, w16, w32, w64, to_be_bytes, cast_unsigned}
use Rattle.class_file.specs.declared.pool.Entry.{Entry}
use Rattle.class_file.specs.declared.pool.Entry.TheVariants as entry
use Rattle.class_file.specs.declared.instr.Instr.{Instr}
use Rattle.class_file.specs.declared.instr.Instr.TheVariants as instr
use Rattle.class_file.specs.Pools.{Slots, entry_at}

-- ---- numbers, the highest byte first; a signed one by its two's complement

abbrev pub u1 : ℕ → List ℕ
u1 n = n ∷ []

abbrev pub u2 : ℕ → List ℕ
u2 n = to_be_bytes w16 n

abbrev pub u4 : ℕ → List ℕ
u4 n = to_be_bytes w32 n

abbrev pub s1 : ℤ → List ℕ
s1 z = u1 (cast_unsigned w8 z)

abbrev pub s2 : ℤ → List ℕ
s2 z = to_be_bytes w16 (cast_unsigned w16 z)

abbrev pub s4 : ℤ → List ℕ
s4 z = to_be_bytes w32 (cast_unsigned w32 z)

abbrev pub s8 : ℤ → List ℕ
s8 z = to_be_bytes w64 (cast_unsigned w64 z)

-- ---- the kinds of entries that instructions name (4.9.1)

-- what `ldc` and `ldc_w` load
abbrev pub is_constant : Option Entry → Bool
is_constant (Some (entry.Integer n)) = true
is_constant (Some (entry.Str text)) = true
is_constant _ = false

abbrev pub is_long : Option Entry → Bool
is_long (Some (entry.Long n)) = true
is_long _ = false

abbrev pub is_field : Option Entry → Bool
is_field (Some (entry.FieldRef owner member)) = true
is_field _ = false

abbrev pub is_method : Option Entry → Bool
is_method (Some (entry.MethodRef owner member)) = true
is_method _ = false

abbrev pub is_interface_method : Option Entry → Bool
is_interface_method (Some (entry.InterfaceMethodRef owner member)) = true
is_interface_method _ = false

abbrev pub is_any_method : Option Entry → Bool
is_any_method (Some (entry.MethodRef owner member)) = true
is_any_method (Some (entry.InterfaceMethodRef owner member)) = true
is_any_method _ = false

abbrev pub is_class : Option Entry → Bool
is_class (Some (entry.Class name)) = true
is_class _ = false

-- an index of an entry of a kind
abbrev pub IsIndexOf : (Option Entry → Bool) → Slots → ℕ → Type 0
IsIndexOf is_kind slots index = (index < 2 ^ 16) × IsTrue (is_kind (entry_at slots index))

-- ---- instructions

-- the opcode, behind `wide` where the instruction has it, and the operands
abbrev pub instr_bytes : Instr → List ℕ
instr_bytes instr.Nop = 0x00 ∷ []
instr_bytes instr.AconstNull = 0x01 ∷ []
instr_bytes instr.IconstM1 = 0x02 ∷ []
instr_bytes instr.Iconst0 = 0x03 ∷ []
instr_bytes instr.Iconst1 = 0x04 ∷ []
instr_bytes instr.Iconst2 = 0x05 ∷ []
instr_bytes instr.Iconst3 = 0x06 ∷ []
instr_bytes instr.Iconst4 = 0x07 ∷ []
instr_bytes instr.Iconst5 = 0x08 ∷ []
instr_bytes instr.Lconst0 = 0x09 ∷ []
instr_bytes instr.Lconst1 = 0x0A ∷ []
instr_bytes (instr.Bipush a) = 0x10 ∷ [] ++ s1 a
instr_bytes (instr.Sipush a) = 0x11 ∷ [] ++ s2 a
instr_bytes (instr.Ldc a) = 0x12 ∷ [] ++ u1 a
instr_bytes (instr.LdcW a) = 0x13 ∷ [] ++ u2 a
instr_bytes (instr.Ldc2W a) = 0x14 ∷ [] ++ u2 a
instr_bytes (instr.Iload a) = 0x15 ∷ [] ++ u1 a
instr_bytes (instr.Lload a) = 0x16 ∷ [] ++ u1 a
instr_bytes (instr.Aload a) = 0x19 ∷ [] ++ u1 a
instr_bytes instr.Iload0 = 0x1A ∷ []
instr_bytes instr.Iload1 = 0x1B ∷ []
instr_bytes instr.Iload2 = 0x1C ∷ []
instr_bytes instr.Iload3 = 0x1D ∷ []
instr_bytes instr.Lload0 = 0x1E ∷ []
instr_bytes instr.Lload1 = 0x1F ∷ []
instr_bytes instr.Lload2 = 0x20 ∷ []
instr_bytes instr.Lload3 = 0x21 ∷ []
instr_bytes instr.Aload0 = 0x2A ∷ []
instr_bytes instr.Aload1 = 0x2B ∷ []
instr_bytes instr.Aload2 = 0x2C ∷ []
instr_bytes instr.Aload3 = 0x2D ∷ []
instr_bytes instr.Aaload = 0x32 ∷ []
instr_bytes (instr.Istore a) = 0x36 ∷ [] ++ u1 a
instr_bytes (instr.Lstore a) = 0x37 ∷ [] ++ u1 a
instr_bytes (instr.Astore a) = 0x3A ∷ [] ++ u1 a
instr_bytes instr.Istore0 = 0x3B ∷ []
instr_bytes instr.Istore1 = 0x3C ∷ []
instr_bytes instr.Istore2 = 0x3D ∷ []
instr_bytes instr.Istore3 = 0x3E ∷ []
instr_bytes instr.Lstore0 = 0x3F ∷ []
instr_bytes instr.Lstore1 = 0x40 ∷ []
instr_bytes instr.Lstore2 = 0x41 ∷ []
instr_bytes instr.Lstore3 = 0x42 ∷ []
instr_bytes instr.Astore0 = 0x4B ∷ []
instr_bytes instr.Astore1 = 0x4C ∷ []
instr_bytes instr.Astore2 = 0x4D ∷ []
instr_bytes instr.Astore3 = 0x4E ∷ []
instr_bytes instr.Aastore = 0x53 ∷ []
instr_bytes instr.Pop = 0x57 ∷ []
instr_bytes instr.Pop2 = 0x58 ∷ []
instr_bytes instr.Dup = 0x59 ∷ []
instr_bytes instr.DupX1 = 0x5A ∷ []
instr_bytes instr.Dup2 = 0x5C ∷ []
instr_bytes instr.Iadd = 0x60 ∷ []
instr_bytes instr.Ladd = 0x61 ∷ []
instr_bytes instr.Isub = 0x64 ∷ []
instr_bytes instr.Lsub = 0x65 ∷ []
instr_bytes instr.Imul = 0x68 ∷ []
instr_bytes instr.Lmul = 0x69 ∷ []
instr_bytes instr.Idiv = 0x6C ∷ []
instr_bytes instr.Ldiv = 0x6D ∷ []
instr_bytes instr.Irem = 0x70 ∷ []
instr_bytes instr.Lrem = 0x71 ∷ []
instr_bytes instr.Ineg = 0x74 ∷ []
instr_bytes instr.Lneg = 0x75 ∷ []
instr_bytes instr.Ishl = 0x78 ∷ []
instr_bytes instr.Lshl = 0x79 ∷ []
instr_bytes instr.Ishr = 0x7A ∷ []
instr_bytes instr.Lshr = 0x7B ∷ []
instr_bytes instr.Iushr = 0x7C ∷ []
instr_bytes instr.Lushr = 0x7D ∷ []
instr_bytes instr.Iand = 0x7E ∷ []
instr_bytes instr.Land = 0x7F ∷ []
instr_bytes instr.Ior = 0x80 ∷ []
instr_bytes instr.Lor = 0x81 ∷ []
instr_bytes instr.Ixor = 0x82 ∷ []
instr_bytes instr.Lxor = 0x83 ∷ []
instr_bytes (instr.Iinc a b) = 0x84 ∷ [] ++ u1 a ++ s1 b
instr_bytes instr.I2l = 0x85 ∷ []
instr_bytes instr.L2i = 0x88 ∷ []
instr_bytes instr.I2c = 0x92 ∷ []
instr_bytes instr.Lcmp = 0x94 ∷ []
instr_bytes (instr.Ifeq a) = 0x99 ∷ [] ++ s2 a
instr_bytes (instr.Ifne a) = 0x9A ∷ [] ++ s2 a
instr_bytes (instr.Iflt a) = 0x9B ∷ [] ++ s2 a
instr_bytes (instr.Ifge a) = 0x9C ∷ [] ++ s2 a
instr_bytes (instr.Ifgt a) = 0x9D ∷ [] ++ s2 a
instr_bytes (instr.Ifle a) = 0x9E ∷ [] ++ s2 a
instr_bytes (instr.IfIcmpeq a) = 0x9F ∷ [] ++ s2 a
instr_bytes (instr.IfIcmpne a) = 0xA0 ∷ [] ++ s2 a
instr_bytes (instr.IfIcmplt a) = 0xA1 ∷ [] ++ s2 a
instr_bytes (instr.IfIcmpge a) = 0xA2 ∷ [] ++ s2 a
instr_bytes (instr.IfIcmpgt a) = 0xA3 ∷ [] ++ s2 a
instr_bytes (instr.IfIcmple a) = 0xA4 ∷ [] ++ s2 a
instr_bytes (instr.IfAcmpeq a) = 0xA5 ∷ [] ++ s2 a
instr_bytes (instr.IfAcmpne a) = 0xA6 ∷ [] ++ s2 a
instr_bytes (instr.Goto a) = 0xA7 ∷ [] ++ s2 a
instr_bytes instr.Ireturn = 0xAC ∷ []
instr_bytes instr.Lreturn = 0xAD ∷ []
instr_bytes instr.Areturn = 0xB0 ∷ []
instr_bytes instr.Return = 0xB1 ∷ []
instr_bytes (instr.Getstatic a) = 0xB2 ∷ [] ++ u2 a
instr_bytes (instr.Putstatic a) = 0xB3 ∷ [] ++ u2 a
instr_bytes (instr.Getfield a) = 0xB4 ∷ [] ++ u2 a
instr_bytes (instr.Putfield a) = 0xB5 ∷ [] ++ u2 a
instr_bytes (instr.Invokevirtual a) = 0xB6 ∷ [] ++ u2 a
instr_bytes (instr.Invokespecial a) = 0xB7 ∷ [] ++ u2 a
instr_bytes (instr.Invokestatic a) = 0xB8 ∷ [] ++ u2 a
instr_bytes (instr.Invokeinterface a b) = 0xB9 ∷ [] ++ u2 a ++ u1 b ++ u1 0
instr_bytes (instr.New a) = 0xBB ∷ [] ++ u2 a
instr_bytes (instr.Anewarray a) = 0xBD ∷ [] ++ u2 a
instr_bytes instr.Arraylength = 0xBE ∷ []
instr_bytes instr.Athrow = 0xBF ∷ []
instr_bytes (instr.Checkcast a) = 0xC0 ∷ [] ++ u2 a
instr_bytes (instr.Instanceof a) = 0xC1 ∷ [] ++ u2 a
instr_bytes (instr.Ifnull a) = 0xC6 ∷ [] ++ s2 a
instr_bytes (instr.Ifnonnull a) = 0xC7 ∷ [] ++ s2 a
instr_bytes (instr.WideIload a) = 0xC4 ∷ 0x15 ∷ [] ++ u2 a
instr_bytes (instr.WideLload a) = 0xC4 ∷ 0x16 ∷ [] ++ u2 a
instr_bytes (instr.WideAload a) = 0xC4 ∷ 0x19 ∷ [] ++ u2 a
instr_bytes (instr.WideIstore a) = 0xC4 ∷ 0x36 ∷ [] ++ u2 a
instr_bytes (instr.WideLstore a) = 0xC4 ∷ 0x37 ∷ [] ++ u2 a
instr_bytes (instr.WideAstore a) = 0xC4 ∷ 0x3A ∷ [] ++ u2 a
instr_bytes (instr.WideIinc a b) = 0xC4 ∷ 0x84 ∷ [] ++ u2 a ++ s2 b

-- the operands are of the lengths that they are written in, indexes are of the right entries, and the count of `invokeinterface`
-- is not 0
abbrev pub IsInstr : Slots → Instr → Type 0
IsInstr slots (instr.Bipush a) = FitsSigned w8 a
IsInstr slots (instr.Sipush a) = FitsSigned w16 a
IsInstr slots (instr.Ldc a) = (a < 2 ^ 8) × IsIndexOf is_constant slots a
IsInstr slots (instr.LdcW a) = IsIndexOf is_constant slots a
IsInstr slots (instr.Ldc2W a) = IsIndexOf is_long slots a
IsInstr slots (instr.Iload a) = (a < 2 ^ 8)
IsInstr slots (instr.Lload a) = (a < 2 ^ 8)
IsInstr slots (instr.Aload a) = (a < 2 ^ 8)
IsInstr slots (instr.Istore a) = (a < 2 ^ 8)
IsInstr slots (instr.Lstore a) = (a < 2 ^ 8)
IsInstr slots (instr.Astore a) = (a < 2 ^ 8)
IsInstr slots (instr.Iinc a b) = (a < 2 ^ 8) × FitsSigned w8 b
IsInstr slots (instr.Ifeq a) = FitsSigned w16 a
IsInstr slots (instr.Ifne a) = FitsSigned w16 a
IsInstr slots (instr.Iflt a) = FitsSigned w16 a
IsInstr slots (instr.Ifge a) = FitsSigned w16 a
IsInstr slots (instr.Ifgt a) = FitsSigned w16 a
IsInstr slots (instr.Ifle a) = FitsSigned w16 a
IsInstr slots (instr.IfIcmpeq a) = FitsSigned w16 a
IsInstr slots (instr.IfIcmpne a) = FitsSigned w16 a
IsInstr slots (instr.IfIcmplt a) = FitsSigned w16 a
IsInstr slots (instr.IfIcmpge a) = FitsSigned w16 a
IsInstr slots (instr.IfIcmpgt a) = FitsSigned w16 a
IsInstr slots (instr.IfIcmple a) = FitsSigned w16 a
IsInstr slots (instr.IfAcmpeq a) = FitsSigned w16 a
IsInstr slots (instr.IfAcmpne a) = FitsSigned w16 a
IsInstr slots (instr.Goto a) = FitsSigned w16 a
IsInstr slots (instr.Getstatic a) = IsIndexOf is_field slots a
IsInstr slots (instr.Putstatic a) = IsIndexOf is_field slots a
IsInstr slots (instr.Getfield a) = IsIndexOf is_field slots a
IsInstr slots (instr.Putfield a) = IsIndexOf is_field slots a
IsInstr slots (instr.Invokevirtual a) = IsIndexOf is_method slots a
IsInstr slots (instr.Invokespecial a) = IsIndexOf is_any_method slots a
IsInstr slots (instr.Invokestatic a) = IsIndexOf is_any_method slots a
IsInstr slots (instr.Invokeinterface a b) = IsIndexOf is_interface_method slots a × (0 < b) × (b < 2 ^ 8)
IsInstr slots (instr.New a) = IsIndexOf is_class slots a
IsInstr slots (instr.Anewarray a) = IsIndexOf is_class slots a
IsInstr slots (instr.Checkcast a) = IsIndexOf is_class slots a
IsInstr slots (instr.Instanceof a) = IsIndexOf is_class slots a
IsInstr slots (instr.Ifnull a) = FitsSigned w16 a
IsInstr slots (instr.Ifnonnull a) = FitsSigned w16 a
IsInstr slots (instr.WideIload a) = (a < 2 ^ 16)
IsInstr slots (instr.WideLload a) = (a < 2 ^ 16)
IsInstr slots (instr.WideAload a) = (a < 2 ^ 16)
IsInstr slots (instr.WideIstore a) = (a < 2 ^ 16)
IsInstr slots (instr.WideLstore a) = (a < 2 ^ 16)
IsInstr slots (instr.WideAstore a) = (a < 2 ^ 16)
IsInstr slots (instr.WideIinc a b) = (a < 2 ^ 16) × FitsSigned w16 b
IsInstr slots _ = ⊤
