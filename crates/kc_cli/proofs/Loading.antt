-- The class of a source file is loaded, and verifies.
use Rattle.std.proofs.Common.{◌≡◌, ◌≢◌, ◌⊎◌, inl, inr, ℕ, ◌-◌, ◌≤◌, ◌<◌, Bool, true, false, cond, List, [], ◌∷◌, ◌++◌, Some, refl, sym, ap, ◌∙◌, subst, nat_eq, nat_lt, codes, arith, true≢false}
use Rattle.std.proofs.lemmas.Bool.{ltb-true}
use Rattle.std.proofs.lemmas.Bool.Decides.{eqb_tells}
use Rattle.std.proofs.lemmas.List.Elements.{All-nil, All-cons, All-head}
use Rattle.std.specs.List.{AllPass}
use Rattle.std.specs.Prelude.{All, slice_get}
use Rattle.std.specs.Char.{to_ascii_uppercase}
use Rattle.kc_core.specs.declared.tree.Function.{Function}
use Rattle.kc_core.specs.declared.tree.Program.{Program}
use Rattle.kc_core.specs.Formed.{FormedMain, MainFormed}
use Rattle.class_file.specs.declared.class.ClassFile.{ClassFile}
use Rattle.class_file.specs.declared.class.Method.{Method}
use Rattle.class_file.specs.declared.class.Set.{Set}
use Rattle.class_file.specs.Classes.{is_abstract_flag}
use Rattle.class_file.specs.Descriptors.{is_array_name}
use Rattle.class_file.specs.Lots.{MainIsPlain}
use Rattle.class_file.specs.Verification.{Verifies}
use Rattle.class_soundness.specs.Soundness.{IsLoaded, HasCode, IsPlain, PlainSetsAreLoaded}
use Rattle.stack_code.specs.Agrees.{IsCompiled, CompiledHasCode}
use Rattle.stack_code.specs.Frames.{CompiledVerifies}
use Rattle.kc_cli.specs.ClassName.{capitalized, class_name_of}
use Rattle.kc_cli.specs.SourceFile.{is_word_byte, IsBaseName, HasParts, IsSourceFile}
use Rattle.kc_cli.specs.Compiled.{Compiles}
use Rattle.kc_cli.proofs.ClassNames.{class_name-of_parts}

-- a letter, a digit or `_` in upper case is no bracket
upper_word : (byte : ℕ) → is_word_byte byte ≡ true → nat_eq (to_ascii_uppercase byte) 91 ≡ false
upper_word byte word = by (nat_lt byte 97) (nat_lt byte 123) refl refl
  where
    itself : nat_eq byte 91 ≡ false
    itself =
        elim (eqb_tells byte 91) [
          | inl it ↦ (let no : is_word_byte byte ≡ false = ap is_word_byte it.1 in cc)
          | inr it ↦ it.0
        ]

    by : (a b : Bool) → nat_lt byte 97 ≡ a → nat_lt byte 123 ≡ b → nat_eq (cond a byte (cond b (byte - 32) byte)) 91 ≡ false
    by true b low high = itself
    by false false low high = itself
    by false true low high =
        elim (eqb_tells (byte - 32) 91) [
          | inl it ↦ (let less = ltb-true byte 123 high in absurd (omega (arith, it.1, less)))
          | inr it ↦ it.0
        ]

base_is_no_array : (base : List ℕ) → IsBaseName base → is_array_name (capitalized base ++ codes "Kt") ≡ false
base_is_no_array [] named = absurd named
base_is_no_array (first ∷ rest) named = upper_word first (All-head (λ (byte : ℕ). is_word_byte byte ≡ true) first rest named.1)

pub file_is_no_array : (file : List ℕ) → IsSourceFile file → is_array_name (class_name_of file) ≡ false
file_is_no_array file is = ap is_array_name (class_name-of_parts file is.folders is.base is.parts) ∙ base_is_no_array is.base is.parts.named

has_code : (m : Method) → m.flags ≡ 9 → m.code ≢ [] → HasCode m
has_code m flags some = (ap is_abstract_flag flags, some)

pub loaded : PlainSetsAreLoaded → CompiledHasCode → (set : Set) (program : Program) (file : List ℕ) → IsSourceFile file → set.main ≡ class_name_of file → MainIsPlain set → IsCompiled set program 0 → IsLoaded set
loaded plain coded set program file is name main c =
    let class : IsPlain c.class = record {
      super = c.super;
      name = ap is_array_name (c.name ∙ name) ∙ file_is_no_array file is;
      methods = subst (All HasCode) (sym c.methods) (All-cons HasCode c.method [] (has_code c.method c.flags (coded set program 0 c)) (All-nil HasCode));
    } in
    plain set main (subst (All IsPlain) (sym c.classes) (All-cons IsPlain c.class [] class (All-nil IsPlain)))

same_function : (program : Program) (f g : Function) → slice_get program.functions 0 ≡ Some f → slice_get program.functions 0 ≡ Some g → f ≡ g
same_function program f g a b = cc

pub verifies : CompiledVerifies → (set : Set) (program : Program) → MainFormed program 0 → Compiles set program 0 → Verifies set
verifies law set program formed c =
    law set program 0 c.compiled (subst FormedMain (same_function program formed.0 c.compiled.function formed.1 c.compiled.function_is) formed.2) c.framed
