-- Bytes that spell a class are read as that class.
use Rattle.std.proofs.Common.{◌≡◌, ℕ, List, [], ◌++◌, Ok, refl, sym, ap, ◌∙◌, append-nil, append_assoc, arith}
use Rattle.std.specs.Int.{w16}
use Rattle.class_file.specs.declared.class.ClassFile.{ClassFile}
use Rattle.class_file.specs.declared.format_fault.FormatCode.TheVariants.{BadMagic, Version}
use Rattle.class_file.specs.InstrBytes.{u2, u4}
use Rattle.class_file.specs.ClassBytes.{◌⌢◌, Is, magic, major_version, Spells, PartsAre}
use Rattle.class_file.specs.Inputs.{◌>>=◌, Input, Reading, expected}
use Rattle.class_file.specs.FormatFaults.{head_at, class_at, nothing_left}
use Rattle.class_spelling.specs.Laws.{SpelledIsRead}
use Rattle.class_spelling.proofs.Gives.{input, Gives, then, last, number2, wide16, wide32, expects, table_gives}
use Rattle.class_spelling.proofs.Attributes.{class_gives, attribute_gives}
use Rattle.class_spelling.proofs.Pools.{pool_gives}
use Rattle.class_spelling.proofs.Members.{all_fields_give, all_methods_give}

-- the start of a file
head_then : {P : List ℕ → Type 0} {c : ClassFile} (k : Input → Reading ClassFile) → Gives k P c → Gives (λ i. head_at i >>= k) (Is (u4 magic) ⌢ Is (u2 0) ⌢ Is (u2 major_version) ⌢ P) c
head_then k gives = record {
  gives = λ at piece rest is.
      let a = expects wide32 magic BadMagic (omega arith) at is.0 (is.1 ++ rest) is.3 in
      let b = expects wide16 0 Version (omega arith) a.0 is.4.0 (is.4.1 ++ rest) is.4.3 in
      let c = expects wide16 major_version Version (omega arith) b.0 is.4.4.0 (is.4.4.1 ++ rest) is.4.4.3 in
      let d = gives.gives c.0 is.4.4.1 rest is.4.4.4 in
      let at_first : piece ++ rest ≡ is.0 ++ (is.1 ++ rest) = ap (λ (p : List ℕ). p ++ rest) is.2 ∙ append_assoc is.0 is.1 rest in
      let at_second : is.1 ++ rest ≡ is.4.0 ++ (is.4.1 ++ rest) = ap (λ (p : List ℕ). p ++ rest) is.4.2 ∙ append_assoc is.4.0 is.4.1 rest in
      let at_third : is.4.1 ++ rest ≡ is.4.4.0 ++ (is.4.4.1 ++ rest) = ap (λ (p : List ℕ). p ++ rest) is.4.4.2 ∙ append_assoc is.4.4.0 is.4.4.1 rest in
      let third : expected w16 major_version Version (input b.0 (is.4.1 ++ rest)) ≡ Ok (input c.0 (is.4.4.1 ++ rest)) = ap (λ (p : List ℕ). expected w16 major_version Version (input b.0 p)) at_third ∙ c.1 in
      let second : expected w16 0 Version (input a.0 (is.1 ++ rest)) ≡ Ok (input b.0 (is.4.1 ++ rest)) = ap (λ (p : List ℕ). expected w16 0 Version (input a.0 p)) at_second ∙ b.1 in
      let head : head_at (input at (piece ++ rest)) ≡ Ok (input c.0 (is.4.4.1 ++ rest)) =
      ap (λ (p : List ℕ). head_at (input at p)) at_first ∙ ap (λ z. z >>= λ minor. expected w16 0 Version minor >>= λ major. expected w16 major_version Version major) a.1
      ∙ ap (λ z. z >>= λ major. expected w16 major_version Version major) second ∙ third in
      (d.0, ap (λ z. z >>= k) head ∙ d.1);
}

class_file_gives : (c : ClassFile) (bytes : List ℕ) → Spells c bytes → Gives class_at (PartsAre c) c
unfolding class_at
class_file_gives c bytes spells = head_then _ (then _ (pool_gives c.pool) (λ i. then _ (number2 c.flags) (λ i. then _ (class_gives c.pool c.this_name) (λ i. then _ (class_gives c.pool c.super_name) (λ i.
    then _ (table_gives (class_gives c.pool) c.interfaces) (λ i. then _ (all_fields_give c.pool c.fields spells.fields_differ) (λ i. then _ (all_methods_give c.pool c.this_name c.methods spells.methods_differ) (λ i.
    last _ (table_gives (attribute_gives c.pool) c.others) (λ i j. refl)))))))))

pub spelled_is_read : SpelledIsRead
spelled_is_read c bytes spells =
    let a = (class_file_gives c bytes spells).gives 0 bytes [] spells.parts in
    ap (λ (p : List ℕ). nothing_left (class_at (input 0 p))) (sym (append-nil bytes)) ∙ ap nothing_left a.1
