-- The machine is built for the sets that pass the tests.
use Rattle.std.proofs.Common.{◌≡◌, ◌≢◌, ℕ, ◌+◌, ◌-◌, ◌<◌, Bool, true, false, cond, eqb, List, [], ◌∷◌, ◌++◌, length, get_or, Option, Some, None, refl, sym, ap, subst, ◌∙◌, ◌⊎◌, inl, inr}
use Rattle.std.specs.Prelude.{All, slice_get, position, map, take, not, ◌&&◌, ◌||◌, ◌==◌, nat_lt, codes, if◌then◌else◌}
use Rattle.std.specs.List.{list_all}
use Rattle.std.specs.Option.{option_map}
use Rattle.std.proofs.lemmas.Bool.{eqb-true, eqb-false}
use Rattle.std.proofs.lemmas.List.{map-append, take_more}
use Rattle.std.proofs.lemmas.Option.{slice_get-get_or, slice_get-map}
use Rattle.class_file.specs.declared.value.NativeId.{NativeId}
use Rattle.class_file.specs.declared.value.BuiltIn.{BuiltIn}
use Rattle.class_file.specs.declared.value.BuiltIn.TheVariants as built_in
use Rattle.class_file.specs.declared.row.Row.TheVariants as row
use Rattle.class_file.specs.declared.pool.Entry.{Entry}
use Rattle.class_file.specs.declared.instr.Instr.{Instr}
use Rattle.class_file.specs.declared.instr.Instr.TheVariants as instr
use Rattle.class_file.specs.declared.class.ClassFile.{ClassFile}
use Rattle.class_file.specs.declared.class.Handler.{Handler}
use Rattle.class_file.specs.declared.class.Method.{Method}
use Rattle.class_file.specs.declared.class.Set.{Set}
use Rattle.class_file.specs.Rows.{length_of, row_of, instr_at}
use Rattle.class_file.specs.Pools.{Slots, Member, Named, flat, named_in, name_in, entry_at, is_text}
use Rattle.class_file.specs.Descriptors.{Signature, signature, is_array_name}
use Rattle.class_file.specs.Members.{call_or_none, is_there}
use Rattle.class_file.specs.Classes.{Body, Coded, NoBody, ClassView, FoundMethod, MethodView, class_at, class_named, class_number, number_of_place, object_class, object_name, chain, superclass, superclass_in, is_interface_flag, is_abstract_flag, is_special_name, is_static_flag, method_view, owner_number, named_method}
use Rattle.class_file.specs.Lots.{static_named}
use Rattle.class_file.specs.Machine.{Static, callee, callee_of, callee_at, clinit, fetch, methods_of, pool_of, class_pool, method_at, main_method, main_found, is_interface_in}
use Rattle.class_soundness.specs.Soundness.{IsLoaded, IsOwnName}
use Rattle.class_soundness.proofs.Tests.{both_true}
use Rattle.class_soundness.proofs.Found.{text_same, some_same, none_is, all_at, not_true}
use Rattle.class_soundness.proofs.Loaded.{stands, object_number}
use Rattle.class_soundness.proofs.Chains.{below_object}
use Rattle.class_soundness.proofs.Plain.{all_there}
use Rattle.class_soundness.proofs.Named.{numbered, named_static, view_there, seen_at}
use Rattle.verifier.specs.Whole.{is_reserved, has_code, has_code_at}
use Rattle.verifier.proofs.Wholes.{own_name}
use Rattle.class_machine.specs.declared.linking.TheConstants.{EXCEPTIONS}
use Rattle.class_machine.specs.Links.{native_named, natives, caught_in, caught_named, caught_number}
use Rattle.class_machine.specs.Lot.{IsBuilt, MainIsBuilt, CanStart, CallsOwn, IsCall, OfNative, OfSet, CatchesKnown, CatchesAll, CatchesOne, class_name, is_built}
use Rattle.class_machine.specs.Building.{is_signed, owns_in, owns_at, is_own_call, is_call_of, is_call, is_set, instr_is_built, catches, handler_is_built, method_is_built, class_is_built, set_is_built, main_member}
use Rattle.class_machine.proofs.Linked.{first_names, Fetched, fetched, flat_some, same_at}
use Rattle.class_machine.proofs.Starting.{clinit_seen}

-- ---- what an own call is of

record OwnCall (set : Set) (m : Member) : Type 0 where
  own : IsOwnName m.owner
  usual : is_special_name m.name ≡ false
  sign : Signature
  signed : signature m.descriptor ≡ Some sign
  class : ℕ
  class_is : class_named m.owner set.classes ≡ Some class
  file : ClassFile
  file_is : slice_get set.classes class ≡ Some file
  no_interface : is_interface_flag file.flags ≡ false
  above : file.super_name ≡ object_name
  place : ℕ
  place_is : static_named m.name m.descriptor file.methods ≡ Some place
  method : Method
  there : slice_get file.methods place ≡ Some method
  coded : is_abstract_flag method.flags ≡ false

either : (a b : Bool) → (a || b) ≡ true → (a ≡ true) ⊎ (b ≡ true)
either true b e = inl refl
either false b e = inr e

plain_signed : (s : Signature) × (signature (codes "()V") ≡ Some s)
plain_signed = (_, refl)

has_signature : (d : List ℕ) → is_signed d ≡ true → (s : Signature) × (signature d ≡ Some s)
has_signature d e = by (signature d) refl e
  where
    plain : is_text d (codes "()V") ≡ true → (s : Signature) × (signature d ≡ Some s)
    plain h = (plain_signed.0, ap signature (text_same d (codes "()V") h) ∙ plain_signed.1)

    by : (o : Option Signature) → signature d ≡ o → (not (length (call_or_none o).params == 0) || (is_there (call_or_none o).result || is_text d (codes "()V"))) ≡ true → (s : Signature) × (signature d ≡ Some s)
    by (Some s) k h = (s, k)
    by None k h = plain h

module _ (set : Set) (m : Member) (own : IsOwnName m.owner) (usual : is_special_name m.name ≡ false) (sign : Signature) (signed : signature m.descriptor ≡ Some sign) where
  by_method : (class : ℕ) → class_named m.owner set.classes ≡ Some class → (c : ClassFile) → slice_get set.classes class ≡ Some c → is_interface_flag c.flags ≡ false → c.super_name ≡ object_name → (place : ℕ) → static_named m.name m.descriptor c.methods ≡ Some place → (o : Option Method) → slice_get c.methods place ≡ o → has_code o ≡ true → OwnCall set m
  by_method class k c l i s place p None q h = absurd cc
  by_method class k c l i s place p (Some x) q h = record {
    own = own;
    usual = usual;
    sign = sign;
    signed = signed;
    class = class;
    class_is = k;
    file = c;
    file_is = l;
    no_interface = i;
    above = s;
    place = place;
    place_is = p;
    method = x;
    there = q;
    coded = not_true (is_abstract_flag x.flags) h;
  }

  by_place : (class : ℕ) → class_named m.owner set.classes ≡ Some class → (c : ClassFile) → slice_get set.classes class ≡ Some c → is_interface_flag c.flags ≡ false → c.super_name ≡ object_name → (o : Option ℕ) → static_named m.name m.descriptor c.methods ≡ o → has_code_at c.methods o ≡ true → OwnCall set m
  by_place class k c l i s None p h = absurd cc
  by_place class k c l i s (Some place) p h = by_method class k c l i s place p (slice_get c.methods place) refl h

  by_file : (class : ℕ) → class_named m.owner set.classes ≡ Some class → (o : Option ClassFile) → slice_get set.classes class ≡ o → owns_in m o ≡ true → OwnCall set m
  by_file class k None l h = absurd cc
  by_file class k (Some c) l h =
      let a = both_true (not (is_interface_flag c.flags)) (is_text c.super_name object_name && has_code_at c.methods (static_named m.name m.descriptor c.methods)) h in
      let b = both_true (is_text c.super_name object_name) (has_code_at c.methods (static_named m.name m.descriptor c.methods)) a.1 in
      by_place class k c l (not_true (is_interface_flag c.flags) a.0) (text_same c.super_name object_name b.0) (static_named m.name m.descriptor c.methods) refl b.1

  by_class : (o : Option ℕ) → class_named m.owner set.classes ≡ o → owns_at set.classes m o ≡ true → OwnCall set m
  by_class None k h = absurd cc
  by_class (Some class) k h = by_file class k (slice_get set.classes class) refl h

own_call : (set : Set) (m : Member) → is_own_call set m ≡ true → OwnCall set m
own_call set m e =
    let a = both_true (not (is_reserved m.owner)) (not (is_special_name m.name) && (is_signed m.descriptor && owns_at set.classes m (class_named m.owner set.classes))) e in
    let b = both_true (not (is_special_name m.name)) (is_signed m.descriptor && owns_at set.classes m (class_named m.owner set.classes)) a.1 in
    let c = both_true (is_signed m.descriptor) (owns_at set.classes m (class_named m.owner set.classes)) b.1 in
    let s = has_signature m.descriptor c.0 in
    by_class set m (own_name m.owner (not_true (is_reserved m.owner) a.0)) (not_true (is_special_name m.name) b.0) s.0 s.1 (class_named m.owner set.classes) refl c.1

module _ (set : Set) (loaded : IsLoaded set) (m : Member) (c : OwnCall set m) where
  abbrev number : ℕ
  number = number_of_place c.class

  abbrev view : MethodView
  view = method_view c.class c.place c.method

  -- ---- its class starts

  superclass_is : superclass set number ≡ Some object_class
  superclass_is = ap (superclass_in set) (view_there set c.class c.file c.file_is) ∙ ap (class_number set) c.above ∙ object_number set

  chain_is : chain set number ≡ number ∷ object_class ∷ []
  chain_is = below_object set loaded number superclass_is

  no_body : (b : Bool) (class place : ℕ) → b ≡ false → (let body : Body = cond b NoBody (Coded class place) in body) ≢ NoBody
  no_body true class place e h = absurd cc
  no_body false class place e h = cc

  some_view : (v w : MethodView) → (let o : Option MethodView = Some v in o) ≡ Some w → v ≡ w
  some_view v w e = cc

  initial : (v : MethodView) → clinit set number ≡ Some v → v.body ≢ NoBody
  initial v e = by (static_named (codes "<clinit>") (codes "()V") c.file.methods) refl (sym (clinit_seen set c.class c.file c.file_is) ∙ e)
    where
      by_initialiser : (place : ℕ) → static_named (codes "<clinit>") (codes "()V") c.file.methods ≡ Some place → (o : Option Method) → slice_get c.file.methods place ≡ o → option_map (method_view c.class place) o ≡ Some v → v.body ≢ NoBody
      by_initialiser place k None l h = absurd (none_is v h)
      by_initialiser place k (Some x) l h =
          let s = stands (λ (y : Method). is_static_flag y.flags && (is_text y.name (codes "<clinit>") && is_text y.descriptor (codes "()V"))) c.file.methods place k in
          let named = (both_true (is_text s.x.name (codes "<clinit>")) (is_text s.x.descriptor (codes "()V")) (both_true (is_static_flag s.x.flags) (is_text s.x.name (codes "<clinit>") && is_text s.x.descriptor (codes "()V")) s.passes).1).0 in
          let same : s.x ≡ x = some_same s.x x (sym s.at ∙ l) in
          let is : is_text x.name (codes "<clinit>") ≡ true = subst (λ (y : Method). is_text y.name (codes "<clinit>") ≡ true) same named in
          subst (λ (w : MethodView). w.body ≢ NoBody) (some_view (method_view c.class place x) v h)
          (no_body (is_abstract_flag x.flags) c.class place (loaded.initialisers c.class place c.file x c.file_is l is))

      by : (o : Option ℕ) → static_named (codes "<clinit>") (codes "()V") c.file.methods ≡ o → seen_at c.class c.file.methods o ≡ Some v → v.body ≢ NoBody
      by None k h = absurd (none_is v h)
      by (Some place) k h = by_initialiser place k (slice_get c.file.methods place) refl h

  can_start : CanStart set c.class
  can_start = record { above = chain_is; coded = initial }

  -- ---- it is found by its name

  no_array : is_array_name m.owner ≡ false
  no_array =
      let s = stands (λ (d : ClassFile). is_text d.this_name m.owner) set.classes c.class c.class_is in
      subst (λ (t : List ℕ). is_array_name t ≡ false) (text_same s.x.this_name m.owner s.passes) (loaded.names c.class s.x s.at)

  owner_is : owner_number set m.owner m.name ≡ Some number
  owner_is = by m.owner no_array ∙ numbered set m.owner c.class c.own c.class_is
    where
      by : (owner : List ℕ) → is_array_name owner ≡ false → owner_number set owner m.name ≡ class_number set owner
      by [] e = refl
      by (u ∷ us) e = ap (λ (b : Bool). if b then (if is_special_name m.name then None else Some object_class) else class_number set (u ∷ us)) e

  no_constructor : is_text m.name (codes "<init>") ≡ false
  no_constructor = by m.name c.usual
    where
      by : (name : List ℕ) → is_special_name name ≡ false → is_text name (codes "<init>") ≡ false
      by [] e = refl
      by (u ∷ us) e = ap (λ (b : Bool). b && is_text us (codes "init>")) e

  abbrev found : FoundMethod
  found = record { class = number; method = view }

  found_is : named_method set true m.name m.descriptor number ≡ Some found
  found_is = named_static set m.name m.descriptor c.class c.place c.file c.method c.file_is c.place_is c.there no_constructor

  may : (not (is_interface_in (class_at set number)) && not (is_special_name m.name)) ≡ true
  may =
      ap (λ (o : Option ClassView). not (is_interface_in o) && not (is_special_name m.name)) (view_there set c.class c.file c.file_is)
      ∙ ap (λ (b : Bool). not b && not (is_special_name m.name)) c.no_interface
      ∙ ap (λ (b : Bool). not b) c.usual

  abbrev named_so : Named
  named_so = record { is_interface = false; member = m }

  callee_is : callee set Static (Some named_so) ≡ Some (record { owner = number; found = found; signature = c.sign })
  callee_is =
      ap (callee_at set Static named_so) owner_is
      ∙ ap (λ (b : Bool). if b then callee_of number (named_method set true m.name m.descriptor number) (signature m.descriptor) else None) may
      ∙ ap (λ (o : Option FoundMethod). callee_of number o (signature m.descriptor)) found_is
      ∙ ap (λ (o : Option Signature). callee_of number (Some found) o) c.signed

  body_is : view.body ≡ Coded c.class c.place
  body_is = ap (λ (b : Bool). let body : Body = cond b NoBody (Coded c.class c.place) in body) c.coded

  in_class : static_named m.name m.descriptor (methods_of (slice_get set.classes c.class)) ≡ Some c.place
  in_class = ap (λ (o : Option ClassFile). static_named m.name m.descriptor (methods_of o)) c.file_is ∙ c.place_is

  method_is : method_at set c.class c.place ≡ Some c.method
  method_is = ap (λ (o : Option ClassFile). slice_get (methods_of o) c.place) c.file_is ∙ c.there

  calls_own : (from i : ℕ) → named_in (class_pool set from) (entry_at (class_pool set from) i) ≡ Some named_so → CallsOwn set from i
  calls_own from i named = record {
    member = m;
    named_is = named;
    class = c.class;
    place = c.place;
    method = c.method;
    to = record { owner = number; found = found; signature = c.sign };
    class_is = c.class_is;
    place_is = in_class;
    method_is = method_is;
    callee_is = callee_is;
    found_in = refl;
    body = body_is;
    signed = c.signed;
    starts = can_start;
  }

module _ (set : Set) (loaded : IsLoaded set) (c : OwnCall set (main_member set)) where
  main_there : main_method set ≡ Some (found set loaded (main_member set) c)
  unfolding main_method
  main_there = ap (main_found set) (numbered set set.main c.class c.own c.class_is) ∙ found_is set loaded (main_member set) c

  main_built : MainIsBuilt set
  main_built = record {
    class = c.class;
    place = c.place;
    method = c.method;
    view = view set loaded (main_member set) c;
    class_is = c.class_is;
    place_is = in_class set loaded (main_member set) c;
    method_is = method_is set loaded (main_member set) c;
    found = main_there;
    body = body_is set loaded (main_member set) c;
    starts = can_start set loaded (main_member set) c;
  }

-- ---- calls

some_named : (a b : Named) → a.is_interface ≡ false → a ≡ record { is_interface = false; member = a.member }
some_named a b e = ap (λ (i : Bool). let n : Named = record { is_interface = i; member = a.member } in n) e

module _ (set : Set) (loaded : IsLoaded set) (class i : ℕ) where
  abbrev entry : Option Named
  entry = named_in (class_pool set class) (entry_at (class_pool set class) i)

  by_native : (m : Member) → entry ≡ Some (record { is_interface = false; member = m }) → (o : Option NativeId) → native_named m ≡ o → is_there o ≡ true → IsCall set class i
  by_native m e None k h = absurd cc
  by_native m e (Some id) k h = OfNative (record { id = id; names = record { member = m; is = first_names natives m id k; named_is = e } })

  by_named : (o : Option Named) → entry ≡ o → is_call_of set o ≡ true → IsCall set class i
  by_named None k h = absurd cc
  by_named (Some n) k h =
      let a = both_true (not n.is_interface) (is_there (native_named n.member) || is_own_call set n.member) h in
      let is : entry ≡ Some (record { is_interface = false; member = n.member }) = k ∙ ap (λ (x : Named). Some x) (some_named n n (not_true n.is_interface a.0)) in
      by_kind n.member is (either (is_there (native_named n.member)) (is_own_call set n.member) a.1)
    where
      by_kind : (m : Member) → entry ≡ Some (record { is_interface = false; member = m }) → ((is_there (native_named m) ≡ true) ⊎ (is_own_call set m ≡ true)) → IsCall set class i
      by_kind m e (inl h) = by_native m e (native_named m) refl h
      by_kind m e (inr h) = OfSet (calls_own set loaded m (own_call set m h) class i e)

  is_call_there : is_call set (class_pool set class) (entry_at (class_pool set class) i) ≡ true → IsCall set class i
  is_call_there h = by_named entry refl h

-- ---- instructions

at_place : (p : Instr → Bool) (is : List Instr) (at : ℕ) (i : Instr) → list_all p is ≡ true → instr_at is at ≡ Some i → p i ≡ true
unfolding instr_at
at_place p [] at i h e = absurd (none_is i e)
at_place p (j ∷ is) at i h e =
    let b = both_true (p j) (list_all p is) h in
    by (eqb at 0) (nat_lt at (length_of j)) b.0 (at_place p is (at - length_of j) i b.1) e
  where
    by : (a b : Bool) → p j ≡ true → (instr_at is (at - length_of j) ≡ Some i → p i ≡ true) → cond a (Some j) (cond b None (instr_at is (at - length_of j))) ≡ Some i → p i ≡ true
    by true b q more e = subst (λ (x : Instr). p x ≡ true) (some_same j i e) q
    by false true q more e = absurd (none_is i e)
    by false false q more e = more e

built_anywhere : (calls : List Bool) (i : Instr) (at : ℕ) → instr_is_built calls i ≡ true → is_built (row_of at i) ≡ true
built_anywhere calls (instr.Invokestatic k) at e = refl
built_anywhere calls _ at e = e

same_index : (a b : ℕ) → row.InvokeStatic a ≡ row.InvokeStatic b → a ≡ b
same_index a b e = cc

call_index : (calls : List Bool) (i : Instr) (at k : ℕ) → instr_is_built calls i ≡ true → row_of at i ≡ row.InvokeStatic k → is_set (slice_get calls k) ≡ true
call_index calls (instr.Invokestatic j) at k e r = subst (λ (n : ℕ). is_set (slice_get calls n) ≡ true) (same_index j k r) e
call_index calls _ at k e r = absurd cc

-- what is marked for an entry holds of it
marked_entry : (set : Set) (pool : Slots) (k : ℕ) → is_set (slice_get (map (is_call set pool) pool) k) ≡ true → is_call set pool (entry_at pool k) ≡ true
marked_entry set pool k e = by (slice_get pool k) refl (subst (λ (o : Option Bool). is_set o ≡ true) (slice_get-map (is_call set pool) pool k) e)
  where
    by : (o : Option (Option Entry)) → slice_get pool k ≡ o → is_set (option_map (is_call set pool) o) ≡ true → is_call set pool (entry_at pool k) ≡ true
    by None h e = absurd cc
    by (Some slot) h e = subst (λ (x : Option Entry). is_call set pool x ≡ true) (sym (ap flat h ∙ flat_some slot)) e

-- one more entry marked
pub one_call : (set : Set) (pool : Slots) (calls new : List Bool) (b : Bool) (i : ℕ) → i < length pool → new ≡ calls ++ b ∷ [] → b ≡ is_call set pool (entry_at pool i) → calls ≡ map (is_call set pool) (take i pool) → new ≡ map (is_call set pool) (take (i + 1) pool)
one_call set pool calls new b i lt is means e =
    let slot = get_or pool i None in
    let at : entry_at pool i ≡ slot = ap flat (slice_get-get_or pool i None lt) ∙ flat_some slot in
    is ∙ ap (λ (bs : List Bool). bs ++ b ∷ []) e
    ∙ ap (λ (x : Bool). map (is_call set pool) (take i pool) ++ x ∷ []) (means ∙ ap (is_call set pool) at)
    ∙ sym (ap (map (is_call set pool)) (take_more pool i None lt) ∙ map-append (is_call set pool) (take i pool) (slot ∷ []))

-- ---- handlers

exceptions : List BuiltIn
exceptions =
    built_in.Throwable ∷ built_in.Exception ∷ built_in.Error ∷ built_in.RuntimeException ∷ built_in.IllegalArgumentException ∷ built_in.NumberFormatException ∷ built_in.IllegalStateException
    ∷ built_in.UnsupportedOperationException ∷ built_in.ArithmeticException ∷ built_in.NullPointerException ∷ built_in.ClassCastException ∷ built_in.IndexOutOfBoundsException ∷ built_in.ArrayIndexOutOfBoundsException
    ∷ built_in.ArrayStoreException ∷ built_in.NegativeArraySizeException ∷ built_in.IncompatibleClassChangeError ∷ built_in.AbstractMethodError ∷ built_in.NoSuchElementException ∷ []

abbrev text_known : record { now : List ℕ } → List ℕ
text_known known = known.now

exceptions_named : map class_name exceptions ≡ map text_known EXCEPTIONS
unfolding exceptions
exceptions_named = refl

known_exception : (name : List ℕ) (place : ℕ) → position (λ (known : record { now : List ℕ }). is_text name known.now) EXCEPTIONS ≡ Some place → (x : BuiltIn) × (name ≡ class_name x)
known_exception name place e =
    let s = stands (λ (known : record { now : List ℕ }). is_text name known.now) EXCEPTIONS place e in
    let a = same_at class_name text_known exceptions EXCEPTIONS place s.x exceptions_named s.at in
    (a.0, text_same name s.x.now s.passes ∙ sym a.2)

known_handler : (pool : Slots) (h : Handler) → handler_is_built pool h ≡ true → CatchesKnown pool h
known_handler pool h e = by (eqb h.catch_type 0) refl e
  where
    by_place : (name : List ℕ) → h.catch_type ≢ 0 → name_in pool (entry_at pool h.catch_type) ≡ Some name → (o : Option ℕ) → position (λ (known : record { now : List ℕ }). is_text name known.now) EXCEPTIONS ≡ o → catches (caught_number (option_map (λ k. 7 + k) o)) ≡ true → CatchesKnown pool h
    by_place name some k None l q = absurd cc
    by_place name some k (Some place) l q =
        let x = known_exception name place l in
        CatchesOne x.0 some (k ∙ ap (λ (t : List ℕ). Some t) x.1)

    by_name : h.catch_type ≢ 0 → (o : Option (List ℕ)) → name_in pool (entry_at pool h.catch_type) ≡ o → catches (caught_named o) ≡ true → CatchesKnown pool h
    by_name some None k q = absurd cc
    by_name some (Some name) k q = by_place name some k (position (λ (known : record { now : List ℕ }). is_text name known.now) EXCEPTIONS) refl q

    by : (b : Bool) → eqb h.catch_type 0 ≡ b → catches (caught_in b (name_in pool (entry_at pool h.catch_type))) ≡ true → CatchesKnown pool h
    by true k q = CatchesAll (eqb-true h.catch_type 0 k)
    by false k q = by_name (eqb-false h.catch_type 0 k) (name_in pool (entry_at pool h.catch_type)) refl q

-- ---- the set

module _ (set : Set) (loaded : IsLoaded set) (classes : list_all (class_is_built set) set.classes ≡ true) where
  abbrev calls_in : ClassFile → List Bool
  calls_in c = map (is_call set c.pool) c.pool

  method_passes : (class : ℕ) (c : ClassFile) (method : ℕ) (m : Method) → slice_get set.classes class ≡ Some c → slice_get c.methods method ≡ Some m → method_is_built (calls_in c) c.pool m ≡ true
  method_passes class c method m k h =
      all_at (method_is_built (calls_in c) c.pool) c.methods method m (all_at (class_is_built set) set.classes class c classes k) h

  instr_passes : (class method at : ℕ) (i : Instr) (f : Fetched set class method at i) → instr_is_built (calls_in f.c) i ≡ true
  instr_passes class method at i f =
      at_place (instr_is_built (calls_in f.c)) f.m.code at i
      (both_true (list_all (instr_is_built (calls_in f.c)) f.m.code) (list_all (handler_is_built f.c.pool) f.m.handlers) (method_passes class f.c method f.m f.class_is f.method_is)).0 f.instr_is

  call_there : (class method at k : ℕ) (i : Instr) → fetch set class method at ≡ Some i → row_of at i ≡ row.InvokeStatic k → IsCall set class k
  call_there class method at k i e r =
      let f = fetched set class method at i e in
      let pool : class_pool set class ≡ f.c.pool = ap pool_of f.class_is in
      is_call_there set loaded class k
      (subst (λ (p : Slots). is_call set p (entry_at p k) ≡ true) (sym pool)
      (marked_entry set f.c.pool k (call_index (calls_in f.c) i at k (instr_passes class method at i f) r)))

  handlers_there : (class method : ℕ) (m : Method) → method_at set class method ≡ Some m → All (CatchesKnown (class_pool set class)) m.handlers
  handlers_there class method m e = by (slice_get set.classes class) refl e
    where
      by : (o : Option ClassFile) → slice_get set.classes class ≡ o → slice_get (methods_of o) method ≡ Some m → All (CatchesKnown (class_pool set class)) m.handlers
      by None k h = absurd cc
      by (Some c) k h =
          let b = both_true (list_all (instr_is_built (calls_in c)) m.code) (list_all (handler_is_built c.pool) m.handlers) (method_passes class c method m k h) in
          subst (λ (p : Slots). All (CatchesKnown p) m.handlers) (sym (ap pool_of k))
          (all_there (CatchesKnown c.pool) m.handlers (λ n r q. known_handler c.pool r (all_at (handler_is_built c.pool) m.handlers n r b.1 q)))

pub built : (set : Set) → IsLoaded set → set_is_built set ≡ true → IsBuilt set
built set loaded e =
    let b = both_true (is_own_call set (main_member set)) (list_all (class_is_built set) set.classes) e in
    record {
      main = main_built set loaded (own_call set (main_member set) b.0);
      rows = λ class method at i h. let f = fetched set class method at i h in built_anywhere (map (is_call set f.c.pool) f.c.pool) i at (instr_passes set loaded b.1 class method at i f);
      calls = call_there set loaded b.1;
      handlers = handlers_there set loaded b.1;
    }
