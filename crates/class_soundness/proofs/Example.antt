-- A set of one class, whose main does nothing, meets what the law asks for.
use Rattle.std.proofs.Common.{◌≡◌, ℕ, zero, suc, ◌+◌, ◌-◌, Bool, true, false, cond, eqb, nat_lt, [], ◌∷◌, Some, None, refl, subst, arith}
use Rattle.std.specs.Prelude.{All, slice_get, codes}
use Rattle.std.proofs.lemmas.Bool.{eqb-true}
use Rattle.class_file.specs.declared.class.ClassFile.{ClassFile}
use Rattle.class_file.specs.declared.class.Method.{Method}
use Rattle.class_file.specs.declared.class.Set.{Set}
use Rattle.class_file.specs.declared.instr.Instr.{Instr}
use Rattle.class_file.specs.declared.instr.Instr.TheVariants as instr
use Rattle.class_file.specs.Rows.{instr_at, row_of}
use Rattle.class_file.specs.Pools.{is_text}
use Rattle.class_file.specs.Classes.{built_ins, method_view, object_name, is_abstract_flag, is_interface_flag}
use Rattle.class_file.specs.Lots.{in_first_lot}
use Rattle.class_file.specs.Machine.{main_method}
use Rattle.class_file.specs.Descriptors.{is_array_name}
use Rattle.class_file.specs.Typing.{Types}
use Rattle.class_file.specs.Verification.{Verifies, MethodVerifies, IsTyped, Passes, first_types, given_at, starts}
use Rattle.class_soundness.specs.Soundness.{HasMain, IsLoaded, IsFlat, LawIsOfSomeSet}
use Rattle.class_soundness.proofs.Found.{some_same, none_is}
use Rattle.class_soundness.proofs.Ranked.{flat_heights}
use Rattle.class_soundness.proofs.Frames.{starting_at}
use Rattle.class_soundness.proofs.Listed.{first_lot}

abbrev main : Method
main = record { flags = 8; name = codes "main"; descriptor = codes "()V"; max_stack = 0; max_locals = 0; code = instr.Return ∷ []; handlers = []; frames = []; code_others = []; others = [] }

abbrev only : ClassFile
only = record { pool = []; flags = 0; this_name = codes "M"; super_name = codes "java/lang/Object"; interfaces = []; fields = []; methods = main ∷ []; others = [] }

abbrev lone : Set
lone = record { classes = only ∷ []; main = codes "M" }

one : {X : Type 0} (P : X → Type 0) (x : X) → P x → All P (x ∷ [])
one P x h zero d lt = h
one P x h (suc k) d lt = absurd (omega arith)

-- the one element
alone : {X : Type 0} (P : X → Type 0) (x y : X) (k : ℕ) → slice_get (x ∷ []) k ≡ Some y → P x → P y
alone P x y zero e h = subst P (some_same x y e) h
alone P x y (suc k) e h = absurd cc

each_method : (P : ClassFile → Method → Type 0) (class place : ℕ) (c : ClassFile) (m : Method) → slice_get lone.classes class ≡ Some c → slice_get c.methods place ≡ Some m → P only main → P c m
each_method P class place c m k h p =
    alone (λ (c : ClassFile). slice_get c.methods place ≡ Some m → P c m) only c class k (λ h. alone (P only) main m place h p) h

has_main : HasMain lone
unfolding main_method built_ins
has_main = record { found = record { class = 37; method = method_view 0 0 main }; is = refl; class = 0; place = 0; coded = refl }

begins : starts main 0 ≡ true
unfolding instr_at
begins = refl

is_flat : IsFlat lone
is_flat class c k = alone (λ (c : ClassFile). is_text c.super_name object_name ≡ true) only c class k refl

is_loaded : IsLoaded lone
is_loaded = record {
  main = has_main;
  coded = λ class place c m k h. each_method (λ c m. is_abstract_flag m.flags ≡ false → starts m 0 ≡ true) class place c m k h (λ e. begins);
  initialisers = λ class place c m k h. each_method (λ c m. is_text m.name (codes "<clinit>") ≡ true → is_abstract_flag m.flags ≡ false) class place c m k h (λ e. refl);
  names = λ class c k. alone (λ (c : ClassFile). is_array_name c.this_name ≡ false) only c class k refl;
  interfaces = λ class c k. alone (λ (c : ClassFile). is_interface_flag c.flags ≡ true → is_text c.super_name object_name ≡ true) only c class k (λ e. refl);
  heights = flat_heights lone is_flat;
}

-- an instruction of main is its only one
record Alone (at : ℕ) (i : Instr) : Type 0 where
  first : at ≡ 0
  is : instr.Return ≡ i

alone_at : (at : ℕ) (i : Instr) → instr_at main.code at ≡ Some i → Alone at i
unfolding instr_at
alone_at at i e = by (eqb at 0) (nat_lt at 1) refl e
  where
    by : (a b : Bool) → eqb at 0 ≡ a → cond a (Some instr.Return) (cond b None (instr_at [] (at - 1))) ≡ Some i → Alone at i
    by true b k e = record { first = eqb-true at 0 k; is = some_same instr.Return i e }
    by false true k e = absurd (none_is i e)
    by false false k e = absurd (none_is i e)

abbrev before : ℕ → Types
before pc = first_types only main

no_frames : (pc : ℕ) (g : Types) → given_at main pc ≡ Some g → ⊥
no_frames pc g e = none_is g e

passes : (pc : ℕ) → Passes lone only main before pc instr.Return
passes pc = record {
  framed = λ e. absurd cc;
  after = first_types only main;
  is = refl;
  jumps = λ to e. absurd cc;
  goes = λ e. absurd cc;
  stops = λ e s. absurd (beyond s);
  caught = tt;
  makes = refl;
}
  where
    beyond : starts main (pc + 1) ≡ true → ⊥
    beyond s =
        let x = starting_at main (pc + 1) s in
        let a = (alone_at (pc + 1) x.instr x.here).first in omega (arith, a)

is_typed : IsTyped lone only main before
is_typed = record {
  given = λ pc g e. absurd (no_frames pc g e);
  begins = λ e. record { enters = record { start = begins; given = λ g e. absurd (no_frames 0 g e); carried = λ e. refl }; rows = tt };
  each = λ pc i e. subst (λ (j : Instr). Passes lone only main before pc j) (alone_at pc i e).is (passes pc);
}

verifies : Verifies lone
verifies = record { methods = λ class c place m k h. each_method (λ c m. MethodVerifies lone c m) class place c m k h (record { before = before; typed = is_typed }) }

abbrev InLot : Instr → Type 0
InLot i = (pc : ℕ) → in_first_lot (row_of pc i) ≡ true

pub example : LawIsOfSomeSet
example =
    let code : All InLot main.code = one InLot instr.Return (λ pc. refl) in
    let methods : All (λ (m : Method). All InLot m.code) only.methods = one (λ (m : Method). All InLot m.code) main code in
    (lone, record { loaded = is_loaded; covered = first_lot lone (one (λ (c : ClassFile). All (λ (m : Method). All InLot m.code) c.methods) only methods); verifies = verifies })
