-- The opcodes of instructions, and the operands that follow each (Java Virtual Machine Specification SE 8, 6.5).
use Rattle.std.specs.Prelude.{ℕ, List, [], ◌∷◌, Option, Some, None, Bool, ◌==◌, if◌then◌else◌, ℤ}
use Rattle.class_file.specs.declared.pool.Entry.{Entry}
use Rattle.class_file.specs.declared.instr.Instr.{Instr}
use Rattle.class_file.specs.declared.instr.Instr.TheVariants as instr
use Rattle.class_file.specs.InstrBytes.{is_constant, is_long, is_field, is_method, is_any_method, is_interface_method, is_class}

-- The operands of an instruction: none, a number of one or two bytes, an index of an entry of a kind in one byte or in two, a
-- variable and what is added to it, or what `invokeinterface` has.
pub data Form : Type 0 where
  Plain : (i : Instr) → Form
  Signed1 : (make : ℤ → Instr) → Form
  Signed2 : (make : ℤ → Instr) → Form
  Unsigned1 : (make : ℕ → Instr) → Form
  Unsigned2 : (make : ℕ → Instr) → Form
  Short : (is_kind : Option Entry → Bool) (make : ℕ → Instr) → Form
  Index : (is_kind : Option Entry → Bool) (make : ℕ → Instr) → Form
  Increment : (make : ℕ → ℤ → Instr) → Form
  WideIncrement : (make : ℕ → ℤ → Instr) → Form
  CallOfInterface : (is_kind : Option Entry → Bool) (make : ℕ → ℕ → Instr) → Form

pub record Opcode : Type 0 where
  pub code : ℕ
  pub form : Form

abbrev pub opcode : ℕ → Form → Opcode
opcode code form = record { code = code; form = form }

abbrev pub find_form : ℕ → List Opcode → Option Form
find_form code [] = None
find_form code (o ∷ os) = if o.code == code then Some o.form else find_form code os

unfoldable pub opcodes : List Opcode
opcodes =
    opcode 0x00 (Plain instr.Nop)
    ∷ opcode 0x01 (Plain instr.AconstNull)
    ∷ opcode 0x02 (Plain instr.IconstM1)
    ∷ opcode 0x03 (Plain instr.Iconst0)
    ∷ opcode 0x04 (Plain instr.Iconst1)
    ∷ opcode 0x05 (Plain instr.Iconst2)
    ∷ opcode 0x06 (Plain instr.Iconst3)
    ∷ opcode 0x07 (Plain instr.Iconst4)
    ∷ opcode 0x08 (Plain instr.Iconst5)
    ∷ opcode 0x09 (Plain instr.Lconst0)
    ∷ opcode 0x0A (Plain instr.Lconst1)
    ∷ opcode 0x10 (Signed1 instr.Bipush)
    ∷ opcode 0x11 (Signed2 instr.Sipush)
    ∷ opcode 0x12 (Short is_constant instr.Ldc)
    ∷ opcode 0x13 (Index is_constant instr.LdcW)
    ∷ opcode 0x14 (Index is_long instr.Ldc2W)
    ∷ opcode 0x15 (Unsigned1 instr.Iload)
    ∷ opcode 0x16 (Unsigned1 instr.Lload)
    ∷ opcode 0x19 (Unsigned1 instr.Aload)
    ∷ opcode 0x1A (Plain instr.Iload0)
    ∷ opcode 0x1B (Plain instr.Iload1)
    ∷ opcode 0x1C (Plain instr.Iload2)
    ∷ opcode 0x1D (Plain instr.Iload3)
    ∷ opcode 0x1E (Plain instr.Lload0)
    ∷ opcode 0x1F (Plain instr.Lload1)
    ∷ opcode 0x20 (Plain instr.Lload2)
    ∷ opcode 0x21 (Plain instr.Lload3)
    ∷ opcode 0x2A (Plain instr.Aload0)
    ∷ opcode 0x2B (Plain instr.Aload1)
    ∷ opcode 0x2C (Plain instr.Aload2)
    ∷ opcode 0x2D (Plain instr.Aload3)
    ∷ opcode 0x32 (Plain instr.Aaload)
    ∷ opcode 0x36 (Unsigned1 instr.Istore)
    ∷ opcode 0x37 (Unsigned1 instr.Lstore)
    ∷ opcode 0x3A (Unsigned1 instr.Astore)
    ∷ opcode 0x3B (Plain instr.Istore0)
    ∷ opcode 0x3C (Plain instr.Istore1)
    ∷ opcode 0x3D (Plain instr.Istore2)
    ∷ opcode 0x3E (Plain instr.Istore3)
    ∷ opcode 0x3F (Plain instr.Lstore0)
    ∷ opcode 0x40 (Plain instr.Lstore1)
    ∷ opcode 0x41 (Plain instr.Lstore2)
    ∷ opcode 0x42 (Plain instr.Lstore3)
    ∷ opcode 0x4B (Plain instr.Astore0)
    ∷ opcode 0x4C (Plain instr.Astore1)
    ∷ opcode 0x4D (Plain instr.Astore2)
    ∷ opcode 0x4E (Plain instr.Astore3)
    ∷ opcode 0x53 (Plain instr.Aastore)
    ∷ opcode 0x57 (Plain instr.Pop)
    ∷ opcode 0x58 (Plain instr.Pop2)
    ∷ opcode 0x59 (Plain instr.Dup)
    ∷ opcode 0x5A (Plain instr.DupX1)
    ∷ opcode 0x5C (Plain instr.Dup2)
    ∷ opcode 0x60 (Plain instr.Iadd)
    ∷ opcode 0x61 (Plain instr.Ladd)
    ∷ opcode 0x64 (Plain instr.Isub)
    ∷ opcode 0x65 (Plain instr.Lsub)
    ∷ opcode 0x68 (Plain instr.Imul)
    ∷ opcode 0x69 (Plain instr.Lmul)
    ∷ opcode 0x6C (Plain instr.Idiv)
    ∷ opcode 0x6D (Plain instr.Ldiv)
    ∷ opcode 0x70 (Plain instr.Irem)
    ∷ opcode 0x71 (Plain instr.Lrem)
    ∷ opcode 0x74 (Plain instr.Ineg)
    ∷ opcode 0x75 (Plain instr.Lneg)
    ∷ opcode 0x78 (Plain instr.Ishl)
    ∷ opcode 0x79 (Plain instr.Lshl)
    ∷ opcode 0x7A (Plain instr.Ishr)
    ∷ opcode 0x7B (Plain instr.Lshr)
    ∷ opcode 0x7C (Plain instr.Iushr)
    ∷ opcode 0x7D (Plain instr.Lushr)
    ∷ opcode 0x7E (Plain instr.Iand)
    ∷ opcode 0x7F (Plain instr.Land)
    ∷ opcode 0x80 (Plain instr.Ior)
    ∷ opcode 0x81 (Plain instr.Lor)
    ∷ opcode 0x82 (Plain instr.Ixor)
    ∷ opcode 0x83 (Plain instr.Lxor)
    ∷ opcode 0x84 (Increment instr.Iinc)
    ∷ opcode 0x85 (Plain instr.I2l)
    ∷ opcode 0x88 (Plain instr.L2i)
    ∷ opcode 0x92 (Plain instr.I2c)
    ∷ opcode 0x94 (Plain instr.Lcmp)
    ∷ opcode 0x99 (Signed2 instr.Ifeq)
    ∷ opcode 0x9A (Signed2 instr.Ifne)
    ∷ opcode 0x9B (Signed2 instr.Iflt)
    ∷ opcode 0x9C (Signed2 instr.Ifge)
    ∷ opcode 0x9D (Signed2 instr.Ifgt)
    ∷ opcode 0x9E (Signed2 instr.Ifle)
    ∷ opcode 0x9F (Signed2 instr.IfIcmpeq)
    ∷ opcode 0xA0 (Signed2 instr.IfIcmpne)
    ∷ opcode 0xA1 (Signed2 instr.IfIcmplt)
    ∷ opcode 0xA2 (Signed2 instr.IfIcmpge)
    ∷ opcode 0xA3 (Signed2 instr.IfIcmpgt)
    ∷ opcode 0xA4 (Signed2 instr.IfIcmple)
    ∷ opcode 0xA5 (Signed2 instr.IfAcmpeq)
    ∷ opcode 0xA6 (Signed2 instr.IfAcmpne)
    ∷ opcode 0xA7 (Signed2 instr.Goto)
    ∷ opcode 0xAC (Plain instr.Ireturn)
    ∷ opcode 0xAD (Plain instr.Lreturn)
    ∷ opcode 0xB0 (Plain instr.Areturn)
    ∷ opcode 0xB1 (Plain instr.Return)
    ∷ opcode 0xB2 (Index is_field instr.Getstatic)
    ∷ opcode 0xB3 (Index is_field instr.Putstatic)
    ∷ opcode 0xB4 (Index is_field instr.Getfield)
    ∷ opcode 0xB5 (Index is_field instr.Putfield)
    ∷ opcode 0xB6 (Index is_method instr.Invokevirtual)
    ∷ opcode 0xB7 (Index is_any_method instr.Invokespecial)
    ∷ opcode 0xB8 (Index is_any_method instr.Invokestatic)
    ∷ opcode 0xB9 (CallOfInterface is_interface_method instr.Invokeinterface)
    ∷ opcode 0xBB (Index is_class instr.New)
    ∷ opcode 0xBD (Index is_class instr.Anewarray)
    ∷ opcode 0xBE (Plain instr.Arraylength)
    ∷ opcode 0xBF (Plain instr.Athrow)
    ∷ opcode 0xC0 (Index is_class instr.Checkcast)
    ∷ opcode 0xC1 (Index is_class instr.Instanceof)
    ∷ opcode 0xC6 (Signed2 instr.Ifnull)
    ∷ opcode 0xC7 (Signed2 instr.Ifnonnull)
    ∷ []

-- behind `wide`
unfoldable pub wide_opcodes : List Opcode
wide_opcodes =
    opcode 0x15 (Unsigned2 instr.WideIload)
    ∷ opcode 0x16 (Unsigned2 instr.WideLload)
    ∷ opcode 0x19 (Unsigned2 instr.WideAload)
    ∷ opcode 0x36 (Unsigned2 instr.WideIstore)
    ∷ opcode 0x37 (Unsigned2 instr.WideLstore)
    ∷ opcode 0x3A (Unsigned2 instr.WideAstore)
    ∷ opcode 0x84 (WideIncrement instr.WideIinc)
    ∷ []

unfoldable pub form_of : ℕ → Option Form
unfolding opcodes
form_of code = find_form code opcodes

unfoldable pub wide_form_of : ℕ → Option Form
unfolding wide_opcodes
wide_form_of code = find_form code wide_opcodes
