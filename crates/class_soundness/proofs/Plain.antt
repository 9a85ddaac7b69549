-- Sets of the first lot, and sets of classes right below Object whose methods all have instructions.
use Rattle.std.proofs.Common.{◌≡◌, ◌≢◌, ℕ, zero, suc, ◌+◌, ◌-◌, ◌<◌, Bool, true, false, cond, eqb, List, [], ◌∷◌, Option, Some, None, refl, ap, ◌∙◌, arith, get_or, lit<}
use Rattle.std.specs.Prelude.{All, slice_get, nat_lt, codes}
use Rattle.std.proofs.lemmas.Bool.{eqb-true, ltb-true}
use Rattle.std.proofs.lemmas.Option.{slice_get-get_or}
use Rattle.class_file.specs.declared.class.ClassFile.{ClassFile}
use Rattle.class_file.specs.declared.class.Method.{Method}
use Rattle.class_file.specs.declared.class.Set.{Set}
use Rattle.class_file.specs.declared.instr.Instr.{Instr}
use Rattle.class_file.specs.declared.instr.Instr.TheVariants as instr
use Rattle.class_file.specs.Rows.{length_of, row_of, instr_at}
use Rattle.class_file.specs.Pools.{is_text}
use Rattle.class_file.specs.Classes.{Body, Coded, NoBody, number_of_place, object_name, is_abstract_flag, method_view}
use Rattle.class_file.specs.Machine.{fetch, instr_in, methods_of, main_method, main_found}
use Rattle.class_file.specs.Lots.{in_first_lot, MainIsPlain}
use Rattle.class_file.specs.Verification.{starts, has}
use Rattle.class_soundness.specs.Soundness.{HasMain, HasCode, IsPlain, HasOwnMain, IsWhole, FirstLotIsOfInstructions, PlainSetsAreLoaded, WholeSetsAreLoaded}
use Rattle.class_soundness.proofs.Listed.{each}
use Rattle.class_soundness.proofs.Ranked.{flat_heights, ranked_heights}
use Rattle.class_soundness.proofs.Named.{numbered, named_static}

-- ---- the first lot

-- an instruction is of the first lot wherever it stands
anywhere : (i : Instr) (at : ℕ) → in_first_lot (row_of at i) ≡ true → (pc : ℕ) → in_first_lot (row_of pc i) ≡ true
anywhere instr.Nop at e pc = e
anywhere _ at e pc = e

positive : (i : Instr) → 0 < length_of i
positive instr.Nop = lit< tt
positive _ = lit< tt

-- a place where an instruction of the code starts
record StandsIn (is : List Instr) (i : Instr) : Type 0 where
  at : ℕ
  here : instr_at is at ≡ Some i

first_at : (i : Instr) (is : List Instr) → instr_at (i ∷ is) 0 ≡ Some i
unfolding instr_at
first_at i is = refl

behind : (j : Instr) (is : List Instr) (at : ℕ) → instr_at (j ∷ is) (length_of j + at) ≡ instr_at is at
unfolding instr_at
behind j is at = by (eqb (length_of j + at) 0) (nat_lt (length_of j + at) (length_of j)) refl refl
  where
    by : (a b : Bool) → eqb (length_of j + at) 0 ≡ a → nat_lt (length_of j + at) (length_of j) ≡ b → cond a (Some j) (cond b None (instr_at is (length_of j + at - length_of j))) ≡ instr_at is at
    by true b k l = let p = positive j in let z = eqb-true (length_of j + at) 0 k in absurd (omega (arith, p, z))
    by false true k l = let z = ltb-true (length_of j + at) (length_of j) l in absurd (omega (arith, z))
    by false false k l = let back : length_of j + at - length_of j ≡ at = omega arith in ap (instr_at is) back

stands_in : (is : List Instr) (k : ℕ) (i : Instr) → slice_get is k ≡ Some i → StandsIn is i
stands_in [] k i e = absurd cc
stands_in (j ∷ is) zero i e = record { at = 0; here = first_at j is ∙ e }
stands_in (j ∷ is) (suc k) i e =
    let r = stands_in is k i e in
    record { at = length_of j + r.at; here = behind j is r.at ∙ r.here }

-- what is so of each element that is there
pub all_there : {X : Type 0} (P : X → Type 0) (xs : List X) → ((k : ℕ) (x : X) → slice_get xs k ≡ Some x → P x) → All P xs
all_there P xs h k d lt = h k (get_or xs k d) (slice_get-get_or xs k d lt)

fetched : (set : Set) (class : ℕ) (c : ClassFile) → slice_get set.classes class ≡ Some c → (place : ℕ) (m : Method) → slice_get c.methods place ≡ Some m → (at : ℕ) → fetch set class place at ≡ instr_at m.code at
unfolding fetch
fetched set class c k place m h at =
    ap (λ (o : Option ClassFile). instr_in (slice_get (methods_of o) place) at) k
    ∙ ap (λ (o : Option Method). instr_in o at) h

pub of_instructions : FirstLotIsOfInstructions
of_instructions set lot =
    all_there (λ (c : ClassFile). All (λ (m : Method). All (λ (i : Instr). (pc : ℕ) → in_first_lot (row_of pc i) ≡ true) m.code) c.methods) set.classes
    (λ class c k. all_there (λ (m : Method). All (λ (i : Instr). (pc : ℕ) → in_first_lot (row_of pc i) ≡ true) m.code) c.methods
    (λ place m h. all_there (λ (i : Instr). (pc : ℕ) → in_first_lot (row_of pc i) ≡ true) m.code
    (λ n i l. let s = stands_in m.code n i l in anywhere i s.at (lot.rows class place s.at i (fetched set class c k place m h s.at ∙ s.here)))))

-- ---- classes right below Object

has_start : (m : Method) → m.code ≢ [] → starts m 0 ≡ true
has_start m some = by m.code some
  where
    by : (is : List Instr) → is ≢ [] → has (instr_at is 0) ≡ true
    by [] more = absurd (more refl)
    by (i ∷ is) more = ap (λ (o : Option Instr). has o) (first_at i is)

has_main : (set : Set) → MainIsPlain set → HasMain set
has_main set main = record { found = record { class = number_of_place main.class; method = main.view }; is = main.found; class = main.class; place = main.place; coded = main.body }

same_object : is_text object_name object_name ≡ true
same_object = refl

pub plain_loaded : PlainSetsAreLoaded
plain_loaded set main plain = record {
  main = has_main set main;
  coded = λ class place c m k h e. has_start m (method class place c m k h).1;
  initialisers = λ class place c m k h e. (method class place c m k h).0;
  names = λ class c k. (each IsPlain set.classes class c plain k).name;
  interfaces = λ class c k e. below class c k;
  heights = flat_heights set below;
}
  where
    method : (class place : ℕ) (c : ClassFile) (m : Method) → slice_get set.classes class ≡ Some c → slice_get c.methods place ≡ Some m → HasCode m
    method class place c m k h = each HasCode c.methods place m (each IsPlain set.classes class c plain k).methods h

    below : (class : ℕ) (c : ClassFile) → slice_get set.classes class ≡ Some c → is_text c.super_name object_name ≡ true
    below class c k = ap (λ (name : List ℕ). is_text name object_name) (each IsPlain set.classes class c plain k).super ∙ same_object

-- ---- sets of whole classes

main_there : (set : Set) (main : HasOwnMain set) → main_method set ≡ Some (record { class = number_of_place main.class; method = method_view main.class main.place main.method })
unfolding main_method
main_there set main =
    ap (main_found set) (numbered set set.main main.class main.own main.class_is)
    ∙ named_static set (codes "main") (codes "()V") main.class main.place main.file main.method main.file_is main.place_is main.method_is refl

own_main : (set : Set) → HasOwnMain set → HasMain set
own_main set main = record {
  found = record { class = number_of_place main.class; method = method_view main.class main.place main.method };
  is = main_there set main;
  class = main.class;
  place = main.place;
  coded = ap (λ (b : Bool). let body : Body = cond b NoBody (Coded main.class main.place) in body) main.coded;
}

pub whole_loaded : WholeSetsAreLoaded
whole_loaded set rank main whole ranked = record {
  main = own_main set main;
  coded = λ class place c m k h e. has_start m (each (λ (m : Method). is_abstract_flag m.flags ≡ false → m.code ≢ []) c.methods place m (there class c k).coded h e);
  initialisers = λ class place c m k h e. each (λ (m : Method). is_text m.name (codes "<clinit>") ≡ true → is_abstract_flag m.flags ≡ false) c.methods place m (there class c k).initialisers h e;
  names = λ class c k. (there class c k).name;
  interfaces = λ class c k e. (there class c k).interface e;
  heights = ranked_heights set rank ranked;
}
  where
    there : (class : ℕ) (c : ClassFile) → slice_get set.classes class ≡ Some c → IsWhole c
    there class c k = each IsWhole set.classes class c whole k
