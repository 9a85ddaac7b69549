-- What holds of the bytes that spell classes, of those that are read, and of those that are written.
use Rattle.std.specs.Prelude.{◌≡◌, ◌≤◌, ℕ, List, length, Ok, Err}
use Rattle.class_file.specs.declared.class.ClassFile.{ClassFile}
use Rattle.class_file.specs.declared.format_fault.FormatFault.{FormatFault}
use Rattle.class_file.specs.ClassBytes.{AreBytes, Spells}
use Rattle.class_file.specs.FormatFaults.{class_of}
use Rattle.class_file.specs.WrittenClass.{class_bytes}

-- bytes that spell a class are read as that class
abbrev pub SpelledIsRead : Type 0
SpelledIsRead = (c : ClassFile) (bytes : List ℕ) → Spells c bytes → class_of bytes ≡ Ok c

-- bytes that are read as a class spell it
abbrev pub ReadIsSpelled : Type 0
ReadIsSpelled = (bytes : List ℕ) → AreBytes bytes → (c : ClassFile) → class_of bytes ≡ Ok c → Spells c bytes

-- where any bytes spell a class, those that are written do
abbrev pub WrittenSpells : Type 0
WrittenSpells = (c : ClassFile) (bytes : List ℕ) → Spells c bytes → Spells c (class_bytes c)

-- no bytes spell two classes
abbrev pub SpellingIsOfOneClass : Type 0
SpellingIsOfOneClass = (c d : ClassFile) (bytes : List ℕ) → Spells c bytes → Spells d bytes → c ≡ d

-- bytes in which a fault is found spell no class
abbrev pub RefusedWhereNoneSpells : Type 0
RefusedWhereNoneSpells = (bytes : List ℕ) (f : FormatFault) → class_of bytes ≡ Err f → (c : ClassFile) → Spells c bytes → ⊥

-- in bytes that spell no class a fault is found
abbrev pub UnspelledIsRefused : Type 0
UnspelledIsRefused = (bytes : List ℕ) → AreBytes bytes → ((c : ClassFile) → Spells c bytes → ⊥) → (f : FormatFault) × (class_of bytes ≡ Err f)

-- what is written is read
abbrev pub WrittenIsRead : Type 0
WrittenIsRead = (c : ClassFile) (bytes : List ℕ) → Spells c bytes → class_of (class_bytes c) ≡ Ok c

-- no bytes of a class are shorter than those that are written
abbrev pub WrittenIsNoLonger : Type 0
WrittenIsNoLonger = (c : ClassFile) (bytes : List ℕ) → Spells c bytes → length (class_bytes c) ≤ length bytes
