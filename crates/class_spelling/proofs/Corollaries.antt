-- What follows of the laws.
use Rattle.std.proofs.Common.{◌≡◌, ℕ, List, Result, Ok, Err, refl}
use Rattle.class_file.specs.declared.class.ClassFile.{ClassFile}
use Rattle.class_file.specs.declared.format_fault.FormatFault.{FormatFault}
use Rattle.class_file.specs.FormatFaults.{class_of}
use Rattle.class_file.specs.WrittenClass.{class_bytes}
use Rattle.class_spelling.specs.Laws.{SpellingIsOfOneClass, RefusedWhereNoneSpells, UnspelledIsRefused, WrittenIsRead}
use Rattle.class_file.specs.ClassBytes.{AreBytes, Spells}
use Rattle.class_spelling.proofs.Found.{read_is_spelled}
use Rattle.class_spelling.proofs.Reading.{spelled_is_read}
use Rattle.class_spelling.proofs.Written.{written_spells}

one_value : (r : Result ClassFile FormatFault) (c d : ClassFile) → r ≡ Ok c → r ≡ Ok d → c ≡ d
one_value r c d e f = cc

pub spelling_is_of_one_class : SpellingIsOfOneClass
spelling_is_of_one_class c d bytes x y = one_value (class_of bytes) c d (spelled_is_read c bytes x) (spelled_is_read d bytes y)

no_value : (r : Result ClassFile FormatFault) (c : ClassFile) (f : FormatFault) → r ≡ Ok c → r ≡ Err f → ⊥
no_value r c f e g = cc

pub refused_where_none_spells : RefusedWhereNoneSpells
refused_where_none_spells bytes f e c x = no_value (class_of bytes) c f (spelled_is_read c bytes x) e

fault_of : (bytes : List ℕ) (r : Result ClassFile FormatFault) → class_of bytes ≡ r → AreBytes bytes → ((c : ClassFile) → Spells c bytes → ⊥) → (f : FormatFault) × (class_of bytes ≡ Err f)
fault_of bytes (Ok c) e fits none = absurd (none c (read_is_spelled bytes fits c e))
fault_of bytes (Err f) e fits none = (f, e)

pub unspelled_is_refused : UnspelledIsRefused
unspelled_is_refused bytes fits none = fault_of bytes (class_of bytes) refl fits none

pub written_is_read : WrittenIsRead
written_is_read c bytes x = spelled_is_read c (class_bytes c) (written_spells c bytes x)
