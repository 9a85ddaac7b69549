-- Members by name and descriptor.
use Rattle.std.specs.Prelude.{ℕ, List, Option}
use Rattle.class_file.specs.declared.format_fault.FormatCode.{FormatCode}
use Rattle.class_file.specs.ClassBytes.{Key}
use Rattle.class_file.specs.DescriptorFaults.{field_descriptor_fault, method_descriptor_fault}
use Rattle.class_reader.specs.declared.seen.Member as kept
use Rattle.class_reader.specs.declared.members.Members.{Members}
use Rattle.class_reader.specs.declared.members.Members.TheVariants as kinds

abbrev pub key : List ℕ → List ℕ → Key
key name descriptor = record { name = name; descriptor = descriptor }

abbrev pub key_of : kept.Member → Key
key_of m = key m.name m.descriptor

abbrev pub fault_in : Members → List ℕ → Option FormatCode
fault_in kinds.Fields = field_descriptor_fault
fault_in kinds.Methods = method_descriptor_fault
