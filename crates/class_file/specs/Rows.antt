-- The table of instructions: the length of each, and what it does whatever its spelling.
-- Java Virtual Machine Specification SE 8, 6.5 (instructions) and 4.7.3 (the code array).
use Rattle.std.specs.Prelude.{ℕ, ◌-◌, List, [], ◌∷◌, Option, Some, None, ◌==◌, nat_lt, if◌then◌else◌, true, false, ℤ, pos, negsuc, ◌+ℤ◌}
use Rattle.class_file.specs.declared.value.Kind.TheVariants as kinds
use Rattle.class_file.specs.declared.row.Row.{Row}
use Rattle.class_file.specs.declared.row.Row.TheVariants as row
use Rattle.class_file.specs.declared.row.Operator.TheVariants as op
use Rattle.class_file.specs.declared.row.Shift.TheVariants as shift
use Rattle.class_file.specs.declared.row.Test.TheVariants as test
use Rattle.class_file.specs.declared.instr.Instr.{Instr}
use Rattle.class_file.specs.declared.instr.Instr.TheVariants as instr

-- how many bytes an instruction takes
abbrev pub length_of : Instr → ℕ
length_of (instr.Bipush a) = 2
length_of (instr.Ldc a) = 2
length_of (instr.Iload a) = 2
length_of (instr.Lload a) = 2
length_of (instr.Aload a) = 2
length_of (instr.Istore a) = 2
length_of (instr.Lstore a) = 2
length_of (instr.Astore a) = 2
length_of (instr.Sipush a) = 3
length_of (instr.LdcW a) = 3
length_of (instr.Ldc2W a) = 3
length_of (instr.Iinc a b) = 3
length_of (instr.Ifeq a) = 3
length_of (instr.Ifne a) = 3
length_of (instr.Iflt a) = 3
length_of (instr.Ifge a) = 3
length_of (instr.Ifgt a) = 3
length_of (instr.Ifle a) = 3
length_of (instr.IfIcmpeq a) = 3
length_of (instr.IfIcmpne a) = 3
length_of (instr.IfIcmplt a) = 3
length_of (instr.IfIcmpge a) = 3
length_of (instr.IfIcmpgt a) = 3
length_of (instr.IfIcmple a) = 3
length_of (instr.IfAcmpeq a) = 3
length_of (instr.IfAcmpne a) = 3
length_of (instr.Goto a) = 3
length_of (instr.Ifnull a) = 3
length_of (instr.Ifnonnull a) = 3
length_of (instr.Getstatic a) = 3
length_of (instr.Putstatic a) = 3
length_of (instr.Getfield a) = 3
length_of (instr.Putfield a) = 3
length_of (instr.Invokevirtual a) = 3
length_of (instr.Invokespecial a) = 3
length_of (instr.Invokestatic a) = 3
length_of (instr.New a) = 3
length_of (instr.Anewarray a) = 3
length_of (instr.Checkcast a) = 3
length_of (instr.Instanceof a) = 3
length_of (instr.WideIload a) = 4
length_of (instr.WideLload a) = 4
length_of (instr.WideAload a) = 4
length_of (instr.WideIstore a) = 4
length_of (instr.WideLstore a) = 4
length_of (instr.WideAstore a) = 4
length_of (instr.Invokeinterface a b) = 5
length_of (instr.WideIinc a b) = 6
length_of _ = 1

-- the place that is so far from another; one before the code's start is behind every code
abbrev pub target : ℕ → ℤ → ℕ
target pc offset = elim (pos pc +ℤ offset) [ pos n ↦ n | negsuc n ↦ 65536 ]

-- what an instruction at a place does
abbrev pub row_of : ℕ → Instr → Row
row_of pc instr.AconstNull = row.PushNull
row_of pc instr.IconstM1 = row.PushInt (negsuc 0)
row_of pc instr.Iconst0 = row.PushInt (pos 0)
row_of pc instr.Iconst1 = row.PushInt (pos 1)
row_of pc instr.Iconst2 = row.PushInt (pos 2)
row_of pc instr.Iconst3 = row.PushInt (pos 3)
row_of pc instr.Iconst4 = row.PushInt (pos 4)
row_of pc instr.Iconst5 = row.PushInt (pos 5)
row_of pc instr.Lconst0 = row.PushLong (pos 0)
row_of pc instr.Lconst1 = row.PushLong (pos 1)
row_of pc (instr.Bipush n) = row.PushInt n
row_of pc (instr.Sipush n) = row.PushInt n
row_of pc (instr.Ldc i) = row.PushConstant i
row_of pc (instr.LdcW i) = row.PushConstant i
row_of pc (instr.Iload i) = row.Load kinds.Int i
row_of pc (instr.Lload i) = row.Load kinds.Long i
row_of pc (instr.Aload i) = row.Load kinds.Ref i
row_of pc (instr.WideIload i) = row.Load kinds.Int i
row_of pc (instr.WideLload i) = row.Load kinds.Long i
row_of pc (instr.WideAload i) = row.Load kinds.Ref i
row_of pc instr.Iload0 = row.Load kinds.Int 0
row_of pc instr.Iload1 = row.Load kinds.Int 1
row_of pc instr.Iload2 = row.Load kinds.Int 2
row_of pc instr.Iload3 = row.Load kinds.Int 3
row_of pc instr.Lload0 = row.Load kinds.Long 0
row_of pc instr.Lload1 = row.Load kinds.Long 1
row_of pc instr.Lload2 = row.Load kinds.Long 2
row_of pc instr.Lload3 = row.Load kinds.Long 3
row_of pc instr.Aload0 = row.Load kinds.Ref 0
row_of pc instr.Aload1 = row.Load kinds.Ref 1
row_of pc instr.Aload2 = row.Load kinds.Ref 2
row_of pc instr.Aload3 = row.Load kinds.Ref 3
row_of pc (instr.Istore i) = row.Store kinds.Int i
row_of pc (instr.Lstore i) = row.Store kinds.Long i
row_of pc (instr.Astore i) = row.Store kinds.Ref i
row_of pc (instr.WideIstore i) = row.Store kinds.Int i
row_of pc (instr.WideLstore i) = row.Store kinds.Long i
row_of pc (instr.WideAstore i) = row.Store kinds.Ref i
row_of pc instr.Istore0 = row.Store kinds.Int 0
row_of pc instr.Istore1 = row.Store kinds.Int 1
row_of pc instr.Istore2 = row.Store kinds.Int 2
row_of pc instr.Istore3 = row.Store kinds.Int 3
row_of pc instr.Lstore0 = row.Store kinds.Long 0
row_of pc instr.Lstore1 = row.Store kinds.Long 1
row_of pc instr.Lstore2 = row.Store kinds.Long 2
row_of pc instr.Lstore3 = row.Store kinds.Long 3
row_of pc instr.Astore0 = row.Store kinds.Ref 0
row_of pc instr.Astore1 = row.Store kinds.Ref 1
row_of pc instr.Astore2 = row.Store kinds.Ref 2
row_of pc instr.Astore3 = row.Store kinds.Ref 3
row_of pc instr.Pop = row.Pop
row_of pc instr.Pop2 = row.Pop2
row_of pc instr.Dup = row.Dup
row_of pc instr.Iadd = row.IntBinary op.Add
row_of pc instr.Ladd = row.LongBinary op.Add
row_of pc instr.Isub = row.IntBinary op.Sub
row_of pc instr.Lsub = row.LongBinary op.Sub
row_of pc instr.Imul = row.IntBinary op.Mul
row_of pc instr.Lmul = row.LongBinary op.Mul
row_of pc instr.Idiv = row.IntBinary op.Div
row_of pc instr.Ldiv = row.LongBinary op.Div
row_of pc instr.Irem = row.IntBinary op.Rem
row_of pc instr.Lrem = row.LongBinary op.Rem
row_of pc instr.Ineg = row.IntNeg
row_of pc instr.Lneg = row.LongNeg
row_of pc instr.I2l = row.IntToLong
row_of pc instr.L2i = row.LongToInt
row_of pc instr.Lcmp = row.LongCompare
row_of pc (instr.Ifeq o) = row.IfZero test.Eq (target pc o)
row_of pc (instr.Ifne o) = row.IfZero test.Ne (target pc o)
row_of pc (instr.Iflt o) = row.IfZero test.Lt (target pc o)
row_of pc (instr.Ifge o) = row.IfZero test.Ge (target pc o)
row_of pc (instr.Ifgt o) = row.IfZero test.Gt (target pc o)
row_of pc (instr.Ifle o) = row.IfZero test.Le (target pc o)
row_of pc (instr.IfIcmpeq o) = row.IfCompare test.Eq (target pc o)
row_of pc (instr.IfIcmpne o) = row.IfCompare test.Ne (target pc o)
row_of pc (instr.IfIcmplt o) = row.IfCompare test.Lt (target pc o)
row_of pc (instr.IfIcmpge o) = row.IfCompare test.Ge (target pc o)
row_of pc (instr.IfIcmpgt o) = row.IfCompare test.Gt (target pc o)
row_of pc (instr.IfIcmple o) = row.IfCompare test.Le (target pc o)
row_of pc (instr.Goto o) = row.Goto (target pc o)
row_of pc instr.Ireturn = row.ReturnValue kinds.Int
row_of pc instr.Lreturn = row.ReturnValue kinds.Long
row_of pc instr.Areturn = row.ReturnValue kinds.Ref
row_of pc instr.Return = row.Return
row_of pc instr.Nop = row.Nop
row_of pc instr.DupX1 = row.DupX1
row_of pc instr.Dup2 = row.Dup2
row_of pc instr.Iand = row.IntBinary op.And
row_of pc instr.Land = row.LongBinary op.And
row_of pc instr.Ior = row.IntBinary op.Or
row_of pc instr.Lor = row.LongBinary op.Or
row_of pc instr.Ixor = row.IntBinary op.Xor
row_of pc instr.Lxor = row.LongBinary op.Xor
row_of pc instr.Ishl = row.IntShift shift.Left
row_of pc instr.Lshl = row.LongShift shift.Left
row_of pc instr.Ishr = row.IntShift shift.Right
row_of pc instr.Lshr = row.LongShift shift.Right
row_of pc instr.Iushr = row.IntShift shift.UnsignedRight
row_of pc instr.Lushr = row.LongShift shift.UnsignedRight
row_of pc (instr.Iinc i n) = row.Increment i n
row_of pc (instr.WideIinc i n) = row.Increment i n
row_of pc instr.I2c = row.IntToChar
row_of pc (instr.IfAcmpeq o) = row.IfSame true (target pc o)
row_of pc (instr.IfAcmpne o) = row.IfSame false (target pc o)
row_of pc (instr.Ifnull o) = row.IfNull true (target pc o)
row_of pc (instr.Ifnonnull o) = row.IfNull false (target pc o)
row_of pc (instr.Ldc2W i) = row.PushLongConstant i
row_of pc (instr.Getstatic i) = row.GetStatic i
row_of pc (instr.Putstatic i) = row.PutStatic i
row_of pc (instr.Getfield i) = row.GetField i
row_of pc (instr.Putfield i) = row.PutField i
row_of pc (instr.Invokevirtual i) = row.InvokeVirtual i
row_of pc (instr.Invokespecial i) = row.InvokeSpecial i
row_of pc (instr.Invokestatic i) = row.InvokeStatic i
row_of pc (instr.Invokeinterface i n) = row.InvokeInterface i
row_of pc (instr.New i) = row.New i
row_of pc (instr.Anewarray i) = row.NewArray i
row_of pc (instr.Checkcast i) = row.CheckCast i
row_of pc (instr.Instanceof i) = row.InstanceOf i
row_of pc instr.Arraylength = row.ArrayLength
row_of pc instr.Aaload = row.ArrayLoad
row_of pc instr.Aastore = row.ArrayStore
row_of pc instr.Athrow = row.Throw

-- the instruction that starts at a place, counted in bytes
unfoldable pub instr_at : List Instr → ℕ → Option Instr
instr_at [] pc = None
instr_at (i ∷ is) pc =
    if pc == 0 then Some i else (if nat_lt pc (length_of i) then None else instr_at is (pc - length_of i))
