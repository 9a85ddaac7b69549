-- What is read spells its bytes, and what is refused spells nothing.
use Rattle.std.proofs.Common.{ℕ, List, Result, Ok, Err}
use Rattle.std.specs.Prelude.{IfOk}
use Rattle.class_file.specs.declared.class.ClassFile.{ClassFile}
use Rattle.class_file.specs.declared.format_fault.FormatFault.{FormatFault}
use Rattle.kc_text.specs.declared.errors.Fail.{Fail}
use Rattle.kc_text.specs.declared.errors.Fail.TheVariants as fail
use Rattle.kc_text.specs.Fail.{IfFound}
use Rattle.class_file.specs.ClassBytes.{AreBytes, Spells}
use Rattle.class_file.specs.FormatFaults.{class_of}
use Rattle.class_spelling.proofs.Found.{read_is_spelled}
use Rattle.class_spelling.proofs.Corollaries.{refused_where_none_spells}
use Rattle.class_reader.specs.Reads.{Gives}

pub found : (bytes : List ℕ) (r : Result ClassFile (Fail FormatFault)) → AreBytes bytes → Gives (λ (c : ClassFile). c) r (class_of bytes) → IfOk r (λ (c : ClassFile). Spells c bytes)
found bytes (Ok c) fits h = read_is_spelled bytes fits c h
found bytes (Err e) fits h = tt

pub refused : (bytes : List ℕ) (r : Result ClassFile (Fail FormatFault)) → Gives (λ (c : ClassFile). c) r (class_of bytes) → IfFound r (λ (f : FormatFault). (c : ClassFile) → ¬ (Spells c bytes))
refused bytes (Ok c) h = tt
refused bytes (Err (fail.Found f)) h = refused_where_none_spells bytes f h
refused bytes (Err fail.Memory) h = tt
