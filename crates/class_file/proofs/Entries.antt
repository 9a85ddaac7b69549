-- Entries are equal where `==` says so.
use Rattle.std.proofs.Common.{◌≡◌, Bool, true, sym, ap, true≢false, rules}
use Rattle.std.specs.Cmp.{IsEquivalence}
use Rattle.std.specs.Cmp.Lexicographic.{bytes_decides}
use Rattle.class_file.specs.declared.pool.Entry.{Entry}
use Rattle.class_file.specs.declared.pool.Entry.TheVariants.{Utf8, Integer, Long, Class, Str, FieldRef, MethodRef, InterfaceMethodRef, NameAndType}
use Rattle.class_file.specs.contracts.pool.EntryPartialEq.TheImpl.{eq-value}
use Rattle.class_file.specs.contracts.pool.EntryEq.TheImpl.Laws.{laws-law}

abbrev pub entry_eq : Entry → Entry → Bool
entry_eq = eq-value.it

pub entry_laws : IsEquivalence entry_eq
entry_laws = laws-law

pub same_entry : (x y : Entry) → entry_eq x y ≡ true → x ≡ y
same_entry (Utf8 a) (Utf8 b) h = ap Utf8 ((bytes_decides a b).0 h)
same_entry (Utf8 a) y h = absurd (true≢false (sym h))
same_entry (Integer a) (Integer b) h = search rules
same_entry (Integer a) y h = absurd (true≢false (sym h))
same_entry (FieldRef a b) (FieldRef d e) h = search rules
same_entry (FieldRef a b) y h = absurd (true≢false (sym h))
same_entry (Long a) (Long b) h = search rules
same_entry (Long a) y h = absurd (true≢false (sym h))
same_entry (Class a) (Class b) h = search rules
same_entry (Class a) y h = absurd (true≢false (sym h))
same_entry (Str a) (Str b) h = search rules
same_entry (Str a) y h = absurd (true≢false (sym h))
same_entry (MethodRef a b) (MethodRef d e) h = search rules
same_entry (MethodRef a b) y h = absurd (true≢false (sym h))
same_entry (InterfaceMethodRef a b) (InterfaceMethodRef d e) h = search rules
same_entry (InterfaceMethodRef a b) y h = absurd (true≢false (sym h))
same_entry (NameAndType a b) (NameAndType d e) h = search rules
same_entry (NameAndType a b) y h = absurd (true≢false (sym h))
