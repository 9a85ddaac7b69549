-- The example's pool is made entry by entry, and some bytes are its class's.
use Rattle.std.proofs.Common.{◌≡◌, ℕ, zero, suc, ◌<◌, ◌^◌, true, false, List, [], ◌∷◌, ◌++◌, length, Some, Ok, refl, sym, ap, ◌∙◌, arith, true≢false, inl, inr, eq-eqb, ltb}
use Rattle.std.specs.Prelude.{slice_index_or, not}
use Rattle.std.specs.List.{list_all}
use Rattle.std.proofs.lemmas.Bool.{ltb-true}
use Rattle.std.proofs.lemmas.List.Elements.{All-nil, All-cons}
use Rattle.class_file.specs.declared.pool.Entry.{Entry}
use Rattle.class_file.specs.declared.pool.Entry.TheVariants.{Utf8, Integer, Long, Class, Str, FieldRef, MethodRef, InterfaceMethodRef, NameAndType}
use Rattle.class_file.specs.Indexing.{IndexesOnce, added}
use Rattle.class_file.specs.Pools.{Slots}
use Rattle.class_file.specs.ClassBytes.{AreBytes, Spells}
use Rattle.class_file.specs.WrittenClass.{class_bytes}
use Rattle.class_file.specs.Inputs.{window, sized, each, table, text_of_modified}
use Rattle.class_file.specs.Opcodes.{opcodes, form_of}
use Rattle.class_file.specs.PoolFaults.{uses_fault, tagged_at, entries_at, pool_at}
use Rattle.class_file.specs.FormatFaults.{class_of, attribute_at, among_at, attributes_among, frames_at, instruction_at, instructions_at, code_array_at, handler_at, code_at, fields_at, method_at, methods_at, class_at}
use Rattle.class_spelling.proofs.Texts.{both_true, text_is_itself}
use Rattle.class_spelling.proofs.Found.{read_is_spelled}
use Rattle.class_writer.specs.Examples.{differs, is_new, main_class}

differs_not : (e : Entry) → differs e (Some e) ≡ false
differs_not (Utf8 t) = ap not (text_is_itself t)
differs_not (Integer n) = refl
differs_not (Long n) = refl
differs_not (Class n) = ap not (eq-eqb n n refl)
differs_not (Str n) = refl
differs_not (FieldRef n m) = refl
differs_not (MethodRef n m) = refl
differs_not (InterfaceMethodRef n m) = refl
differs_not (NameAndType n m) = refl

not_in : (slots : Slots) (e : Entry) (k : ℕ) → is_new slots e ≡ true → k < length slots → slice_index_or slots k (Some e) ≡ Some e → ⊥
not_in [] e k new lt is = omega arith
not_in (s ∷ slots) e zero new lt is = true≢false (sym (both_true (differs e s) (is_new slots e) new).0 ∙ ap (differs e) is ∙ differs_not e)
not_in (s ∷ slots) e (suc k) new lt is = not_in slots e k (both_true (differs e s) (is_new slots e) new).1 (omega arith) is

pub added_new : (old new : Slots) (e : Entry) → is_new old e ≡ true → IndexesOnce old new e → new ≡ old ++ added e
added_new old new e fresh once = elim once [ inl had ↦ absurd (not_in old e had.0.0 fresh had.0.1 had.0.2) | inr gained ↦ gained.1 ]

are_bytes : (bytes : List ℕ) → list_all (λ (b : ℕ). ltb b (2 ^ 8)) bytes ≡ true → AreBytes bytes
are_bytes [] e = All-nil (λ (b : ℕ). b < 2 ^ 8)
are_bytes (b ∷ bytes) e =
    let bits = both_true (ltb b (2 ^ 8)) (list_all (λ (a : ℕ). ltb a (2 ^ 8)) bytes) e in All-cons (λ (a : ℕ). a < 2 ^ 8) b bytes (ltb-true b (2 ^ 8) bits.0) (are_bytes bytes bits.1)

main_is_read : class_of (class_bytes main_class) ≡ Ok main_class
unfolding class_at pool_at uses_fault entries_at tagged_at text_of_modified table each fields_at methods_at method_at attributes_among among_at sized window code_at code_array_at instructions_at instruction_at form_of opcodes handler_at frames_at attribute_at
main_is_read = refl

pub main_spelled : (bytes : List ℕ) × Spells main_class bytes
main_spelled = (class_bytes main_class, read_is_spelled (class_bytes main_class) (are_bytes (class_bytes main_class) refl) main_class main_is_read)
