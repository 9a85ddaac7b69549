-- Instructions as the reader keeps them by their operands, against the definition's table.
use Rattle.std.specs.Prelude.{ℕ, ℤ, List, take, drop, Option, Bool}
use Rattle.class_file.specs.declared.pool.Entry.{Entry}
use Rattle.class_file.specs.declared.instr.Instr.{Instr}
use Rattle.class_file.specs.declared.instr.Instr.TheVariants as instr
use Rattle.class_file.specs.InstrBytes.{is_constant, is_long, is_field, is_method, is_any_method, is_interface_method, is_class}
use Rattle.class_file.specs.Opcodes as table
use Rattle.class_reader.specs.declared.opcodes.Form as kept
use Rattle.class_reader.specs.declared.opcodes.Form.TheVariants as form
use Rattle.class_reader.specs.declared.opcodes.Short.{Short}
use Rattle.class_reader.specs.declared.opcodes.Short.TheVariants as short
use Rattle.class_reader.specs.declared.opcodes.Variable.{Variable}
use Rattle.class_reader.specs.declared.opcodes.Variable.TheVariants as variable
use Rattle.class_reader.specs.declared.opcodes.Index.{Index}
use Rattle.class_reader.specs.declared.opcodes.Index.TheVariants as index
use Rattle.class_reader.specs.declared.opcodes.Wide.{Wide}
use Rattle.class_reader.specs.declared.opcodes.Wide.TheVariants as wide

abbrev pub with_short : Short → ℤ → Instr
with_short short.Sipush = instr.Sipush
with_short short.Ifeq = instr.Ifeq
with_short short.Ifne = instr.Ifne
with_short short.Iflt = instr.Iflt
with_short short.Ifge = instr.Ifge
with_short short.Ifgt = instr.Ifgt
with_short short.Ifle = instr.Ifle
with_short short.IfIcmpeq = instr.IfIcmpeq
with_short short.IfIcmpne = instr.IfIcmpne
with_short short.IfIcmplt = instr.IfIcmplt
with_short short.IfIcmpge = instr.IfIcmpge
with_short short.IfIcmpgt = instr.IfIcmpgt
with_short short.IfIcmple = instr.IfIcmple
with_short short.IfAcmpeq = instr.IfAcmpeq
with_short short.IfAcmpne = instr.IfAcmpne
with_short short.Goto = instr.Goto
with_short short.Ifnull = instr.Ifnull
with_short short.Ifnonnull = instr.Ifnonnull

abbrev pub with_variable : Variable → ℕ → Instr
with_variable variable.Iload = instr.Iload
with_variable variable.Lload = instr.Lload
with_variable variable.Aload = instr.Aload
with_variable variable.Istore = instr.Istore
with_variable variable.Lstore = instr.Lstore
with_variable variable.Astore = instr.Astore

abbrev pub with_wide_variable : Variable → ℕ → Instr
with_wide_variable variable.Iload = instr.WideIload
with_wide_variable variable.Lload = instr.WideLload
with_wide_variable variable.Aload = instr.WideAload
with_wide_variable variable.Istore = instr.WideIstore
with_wide_variable variable.Lstore = instr.WideLstore
with_wide_variable variable.Astore = instr.WideAstore

abbrev pub with_index : Index → ℕ → Instr
with_index index.LdcW = instr.LdcW
with_index index.Ldc2W = instr.Ldc2W
with_index index.Getstatic = instr.Getstatic
with_index index.Putstatic = instr.Putstatic
with_index index.Getfield = instr.Getfield
with_index index.Putfield = instr.Putfield
with_index index.Invokevirtual = instr.Invokevirtual
with_index index.Invokespecial = instr.Invokespecial
with_index index.Invokestatic = instr.Invokestatic
with_index index.New = instr.New
with_index index.Anewarray = instr.Anewarray
with_index index.Checkcast = instr.Checkcast
with_index index.Instanceof = instr.Instanceof

-- what the index has to name
abbrev pub kind_of : Index → Option Entry → Bool
kind_of index.LdcW = is_constant
kind_of index.Ldc2W = is_long
kind_of index.Getstatic = is_field
kind_of index.Putstatic = is_field
kind_of index.Getfield = is_field
kind_of index.Putfield = is_field
kind_of index.Invokevirtual = is_method
kind_of index.Invokespecial = is_any_method
kind_of index.Invokestatic = is_any_method
kind_of index.New = is_class
kind_of index.Anewarray = is_class
kind_of index.Checkcast = is_class
kind_of index.Instanceof = is_class

-- some of the table's rows, from one on
abbrev pub part : ℕ → ℕ → List table.Opcode
part from count = take count (drop from table.opcodes)

abbrev pub form_seen : kept.Form → table.Form
form_seen (form.Plain i) = table.Plain i
form_seen form.Byte = table.Signed1 instr.Bipush
form_seen (form.Short s) = table.Signed2 (with_short s)
form_seen (form.Variable v) = table.Unsigned1 (with_variable v)
form_seen form.Constant = table.Short is_constant instr.Ldc
form_seen (form.Index i) = table.Index (kind_of i) (with_index i)
form_seen form.Increment = table.Increment instr.Iinc
form_seen form.InterfaceCall = table.CallOfInterface is_interface_method instr.Invokeinterface

abbrev pub wide_form_seen : Wide → table.Form
wide_form_seen (wide.Variable v) = table.Unsigned2 (with_wide_variable v)
wide_form_seen wide.Increment = table.WideIncrement instr.WideIinc
