-- Laws of runs: a run is one run after another, a run that is over stays over, and what was written stays.
use Rattle.std.specs.Int.{w32, cast_signed}
use Rattle.std.specs.Prelude.{◌≡◌, ◌%◌, ◌^◌, ℕ, ℤ, pos, negsuc, zero, suc, ◌+◌, ◌-◌, ◌≤◌, List, [], ◌∷◌, ◌++◌, length, Option, Some, None, Bool, true, false, ◌&&◌, ◌==◌, if◌then◌else◌, slice_get, slice_set, refl}
use Rattle.std.proofs.Common.{sym, ap, ◌∙◌, arith, append_assoc, append-nil}
use Rattle.class_file.specs.declared.value.Value.{Value}
use Rattle.class_file.specs.declared.value.Value.TheVariants.{Nothing, Int, Long, Null, Ref}
use Rattle.class_file.specs.declared.value.BuiltIn.{BuiltIn}
use Rattle.class_file.specs.declared.value.BuiltIn.TheVariants as built_in
use Rattle.class_file.specs.declared.instr.Instr.{Instr}
use Rattle.class_file.specs.declared.class.Handler.{Handler}
use Rattle.class_file.specs.declared.class.Method.{Method}
use Rattle.class_file.specs.declared.class.Set.{Set}
use Rattle.class_file.specs.Rows.{length_of, row_of}
use Rattle.class_file.specs.Pools.{Constant, Number, Literal}
use Rattle.class_file.specs.Descriptors.{Reference, field_type}
use Rattle.class_file.specs.Classes.{Body, Coded, Native, NoBody, MethodView, FoundField, Selected, Selects, Abstract, Conflict, Element, throwable_class, exception_number, is_below, layout, field_place, select, can_be_made}
use Rattle.class_file.specs.Natives.{Object, TextObject, Instance, ArrayObject, NativeEffect, Gives, SetsFirst, Writes, ReadsLine, NativeThrows, NativeFails, native_effect, Line, first_line}
use Rattle.class_file.specs.Natives as native
use Rattle.class_file.specs.Machine.{Call, Static, Special, Virtual, OfInterface, Effect, Goes, Throws, LoadsConstant, LoadsLong, Compares, GetsStatic, PutsStatic, GetsField, PutsField, Invokes, News, NewsArray, Casts, Tests, Measures, LoadsItem, StoresItem, ThrowsObject, Returns, Fails, effect, Active, State, Ending, Ended, Next, Going, Over, stuck, written, with, only_if, goes_on, made, constant, long_constant, Callee, resolve, resolve_field, resolve_type, class_of, is_instance, is_same, branch, message, with_exception, exception_reference, exception_fields, handler, unwound, thrown_object, thrown, clinit, started_with, run_clinit, marked, is_started, starting, unstarted, with_started, popped, entered, set_first_field, with_object, line_read, native_step, run, selected, special, on_receiver, dispatched, on_object, static_call, called, invoked, resumed, without_value, handed, returned, loaded, static_value, with_static, suits, got_static, put_static, fields_of, on_reference, got_field, with_field, put_field, new_object, new_array, cast, tested, items_of, measured, at_place, item_loaded, fits_element, stored_in, throws_object, after, executed, begun, main_method, begin, running, fetch, method_at, step, on_from}

-- one list is the front of another
abbrev pub Begins : List ℕ → List ℕ → Type 0
Begins front whole = (more : List ℕ) × (front ++ more ≡ whole)

pub Begins-same : (front whole : List ℕ) → whole ≡ front → Begins front whole
Begins-same front whole e = ([], append-nil front ∙ sym e)

pub Begins-trans : (a b c : List ℕ) → Begins a b → Begins b c → Begins a c
Begins-trans a b c (x, e) (y, f) = (x ++ y, sym (append_assoc a x y) ∙ ap (λ (s : List ℕ). s ++ y) e ∙ f)

-- a run that is over stays over
pub over_stays : (set : Set) (n : ℕ) (how : Ending) (out : List ℕ) → on_from set n (Over how out) ≡ Over how out
over_stays set zero how out = refl
over_stays set (suc n) how out = refl

-- a run of some steps and then of some more
pub on_add : (set : Set) (m n : ℕ) (s : Next) → on_from set (m + n) s ≡ on_from set n (on_from set m s)
on_add set zero n s = let i : zero + n ≡ n = omega arith in ap (λ (k : ℕ). on_from set k s) i
on_add set (suc m) n (Going t) =
    let i : suc m + n ≡ suc (m + n) = omega arith in ap (λ (k : ℕ). on_from set k (Going t)) i ∙ on_add set m n (step set t)
on_add set (suc m) n (Over how out) = over_stays set (suc m + n) how out ∙ sym (over_stays set n how out)

-- one more step
pub on_one_more : (set : Set) (k : ℕ) (s t : State) → on_from set k (Going s) ≡ Going t → on_from set (k + 1) (Going s) ≡ step set t
on_one_more set k s t e = on_add set k 1 (Going s) ∙ ap (on_from set 1) e

-- a run that is over after some steps is the same after more
pub over_after : (set : Set) (k n : ℕ) (s : Next) (how : Ending) (out : List ℕ) → k ≤ n → on_from set k s ≡ Over how out → on_from set n s ≡ Over how out
over_after set k n s how out h e =
    let i : n ≡ k + (n - k) = omega arith in
    ap (λ (j : ℕ). on_from set j s) i ∙ on_add set k (n - k) s ∙ ap (on_from set (n - k)) e ∙ over_stays set (n - k) how out

-- ---- a step keeps what was written, and perhaps writes more; by the parts of a step

abbrev pub Keeps : List ℕ → Next → Type 0
Keeps out next = Begins out (written next)

-- nothing more is written
stays : (out : List ℕ) (next : Next) → written next ≡ out → Keeps out next
stays out next e = Begins-same out (written next) e

-- by the case of a test, or of what is there
by_test : (out : List ℕ) (b : Bool) (x y : Next) → Keeps out x → Keeps out y → Keeps out (if b then x else y)
by_test out true x y p q = p
by_test out false x y p q = q

with_keeps : {A : Type 0} (s : State) (o : Option A) (go : A → Next) → ((a : A) → Keeps s.out (go a)) → Keeps s.out (with s o go)
with_keeps s None go h = stays s.out (stuck s) refl
with_keeps s (Some a) go h = h a

only_if_keeps : (s : State) (b : Bool) (next : Next) → Keeps s.out next → Keeps s.out (only_if s b next)
only_if_keeps s true next h = h
only_if_keeps s false next h = stays s.out (stuck s) refl

-- throws
pub unwound_out : (set : Set) (s : State) (r class : ℕ) (fields : List Value) (fs : List Active) → written (unwound set s r class fields fs) ≡ s.out
unwound_out set s r class fields [] = refl
unwound_out set s r class fields (f ∷ fs) = by_handler (unwound_out set s r class fields fs) (handler set class f)
  where
    by_handler : written (unwound set s r class fields fs) ≡ s.out → (o : Option Handler) → written (elim o [ Some h ↦ goes_on s f fs h.at (Ref r ∷ []) | None ↦ unwound set s r class fields fs ]) ≡ s.out
    by_handler more (Some h) = refl
    by_handler more None = more

pub thrown_out : (set : Set) (x : BuiltIn) (s : State) (fs : List Active) → written (thrown set x s fs) ≡ s.out
thrown_out set x s fs = unwound_out set (with_exception x s) (exception_reference x s) (exception_number x) (exception_fields (length s.heap) (message x)) fs

thrown_keeps : (set : Set) (x : BuiltIn) (s : State) (fs : List Active) → Keeps s.out (thrown set x s fs)
thrown_keeps set x s fs = stays s.out (thrown set x s fs) (thrown_out set x s fs)

thrown_object_keeps : (set : Set) (s : State) (r : ℕ) (fs : List Active) (o : Option Object) → Keeps s.out (thrown_object set s r fs o)
thrown_object_keeps set s r fs (Some (Instance class fields)) =
    only_if_keeps s (is_below set class throwable_class) (unwound set s r class fields fs) (stays s.out (unwound set s r class fields fs) (unwound_out set s r class fields fs))
thrown_object_keeps set s r fs (Some (TextObject units)) = stays s.out (stuck s) refl
thrown_object_keeps set s r fs (Some (ArrayObject class dimensions items)) = stays s.out (stuck s) refl
thrown_object_keeps set s r fs None = stays s.out (stuck s) refl

-- initialisation
started_with_keeps : (s : State) (n : ℕ) (fs : List Active) (class method : ℕ) (o : Option Method) → Keeps s.out (started_with s n fs class method o)
started_with_keeps s n fs class method None = stays s.out (stuck s) refl
started_with_keeps s n fs class method (Some m) = stays s.out (started_with s n fs class method (Some m)) refl

run_clinit_keeps : (set : Set) (s : State) (n : ℕ) (fs : List Active) (b : Body) → Keeps s.out (run_clinit set s n fs b)
run_clinit_keeps set s n fs (Coded class method) = started_with_keeps s n fs class method (method_at set class method)
run_clinit_keeps set s n fs (Native id) = stays s.out (stuck s) refl
run_clinit_keeps set s n fs NoBody = stays s.out (stuck s) refl

starting_keeps : (set : Set) (s : State) (fs : List Active) (ns : List ℕ) (go : State → Next) → ((started : List Bool) → Keeps s.out (go (record s { started = started }))) → Keeps s.out (starting set s fs ns go)
starting_keeps set s fs [] go h = h s.started
starting_keeps set s fs (n ∷ ns) go h = by_clinit (starting_keeps set (record s { started = marked n s.started }) fs ns go h) (clinit set n)
  where
    by_clinit : Keeps s.out (starting set (record s { started = marked n s.started }) fs ns go) → (o : Option MethodView) → Keeps s.out (elim o [ Some m ↦ run_clinit set s n fs m.body | None ↦ starting set (record s { started = marked n s.started }) fs ns go ])
    by_clinit more (Some m) = run_clinit_keeps set s n fs m.body
    by_clinit more None = more

with_started_keeps : (set : Set) (s : State) (fs : List Active) (n : ℕ) (go : State → Next) → ((started : List Bool) → Keeps s.out (go (record s { started = started }))) → Keeps s.out (with_started set s fs n go)
with_started_keeps set s fs n go h =
    by_test s.out (is_started s.started n) (go s) (starting set s fs (unstarted set s n) go) (h s.started) (starting_keeps set s fs (unstarted set s n) go h)

-- calls
entered_keeps : (s : State) (fs : List Active) (class method : ℕ) (args : List Value) (o : Option Method) → Keeps s.out (entered s fs class method args o)
entered_keeps s fs class method args None = stays s.out (stuck s) refl
entered_keeps s fs class method args (Some m) = stays s.out (entered s fs class method args (Some m)) refl

sets_keeps : (s : State) (f : Active) (fs : List Active) (next r : ℕ) (o : Option Object) (change : Object → Object) → Keeps s.out (goes_on (with_object s r o change) f fs next f.stack)
sets_keeps s f fs next r None change = stays s.out (goes_on s f fs next f.stack) refl
sets_keeps s f fs next r (Some o) change = stays s.out (goes_on (with_object s r (Some o) change) f fs next f.stack) refl

line_keeps : (s : State) (f : Active) (fs : List Active) (next : ℕ) (o : Option Line) → Keeps s.out (line_read s f fs next o)
line_keeps s f fs next None = stays s.out (line_read s f fs next None) refl
line_keeps s f fs next (Some line) = stays s.out (line_read s f fs next (Some line)) refl

pub native_grows : (set : Set) (s : State) (f : Active) (fs : List Active) (next : ℕ) (e : NativeEffect) → Keeps s.out (native_step set s f fs next e)
native_grows set s f fs next (Gives values) = stays s.out (native_step set s f fs next (Gives values)) refl
native_grows set s f fs next (native.Makes object) = stays s.out (native_step set s f fs next (native.Makes object)) refl
native_grows set s f fs next (SetsFirst r v) = sets_keeps s f fs next r (slice_get s.heap r) (set_first_field v)
native_grows set s f fs next (Writes bytes) = (bytes, refl)
native_grows set s f fs next ReadsLine = line_keeps s f fs next (first_line s.input)
native_grows set s f fs next (NativeThrows x) = thrown_keeps set x s (f ∷ fs)
native_grows set s f fs next NativeFails = stays s.out (stuck s) refl

run_keeps : (set : Set) (s : State) (f : Active) (fs : List Active) (next : ℕ) (args : List Value) (b : Body) → Keeps s.out (run set s f fs next args b)
run_keeps set s f fs next args (Coded class method) = entered_keeps s (f ∷ fs) class method args (method_at set class method)
run_keeps set s f fs next args (Native id) = native_grows set s f fs next (native_effect set id s.heap args)
run_keeps set s f fs next args NoBody = thrown_keeps set built_in.AbstractMethodError s (f ∷ fs)

selected_keeps : (set : Set) (s : State) (f : Active) (fs : List Active) (next : ℕ) (args : List Value) (x : Selected) → Keeps s.out (selected set s f fs next args x)
selected_keeps set s f fs next args (Selects found) = run_keeps set s f fs next args found.method.body
selected_keeps set s f fs next args Abstract = thrown_keeps set built_in.AbstractMethodError s (f ∷ fs)
selected_keeps set s f fs next args Conflict = thrown_keeps set built_in.IncompatibleClassChangeError s (f ∷ fs)

on_receiver_keeps : (set : Set) (s : State) (f : Active) (fs : List Active) (args : List Value) (go : Object → Next) → ((o : Object) → Keeps s.out (go o)) → Keeps s.out (on_receiver set s f fs args go)
on_receiver_keeps set s f fs (Ref r ∷ args) go h = with_keeps s (slice_get s.heap r) go h
on_receiver_keeps set s f fs (Null ∷ args) go h = thrown_keeps set built_in.NullPointerException s (f ∷ fs)
on_receiver_keeps set s f fs (Nothing ∷ args) go h = stays s.out (stuck s) refl
on_receiver_keeps set s f fs (Int n ∷ args) go h = stays s.out (stuck s) refl
on_receiver_keeps set s f fs (Long n ∷ args) go h = stays s.out (stuck s) refl
on_receiver_keeps set s f fs [] go h = stays s.out (stuck s) refl

dispatched_keeps : (set : Set) (s : State) (f : Active) (fs : List Active) (next : ℕ) (call : Call) (c : Callee) (args : List Value) (o : Object) → Keeps s.out (dispatched set s f fs next call c args o)
dispatched_keeps set s f fs next Static c args o = stays s.out (stuck s) refl
dispatched_keeps set s f fs next Special c args o = selected_keeps set s f fs next args (special set c)
dispatched_keeps set s f fs next Virtual c args o =
    let x = select set (class_of o) c.found.method.name c.found.method.descriptor in
    only_if_keeps s (is_below set (class_of o) c.owner) (selected set s f fs next args x) (selected_keeps set s f fs next args x)
dispatched_keeps set s f fs next OfInterface c args o =
    let x = select set (class_of o) c.found.method.name c.found.method.descriptor in
    by_test s.out (is_below set (class_of o) c.owner) (selected set s f fs next args x) (thrown set built_in.IncompatibleClassChangeError s (f ∷ fs))
    (selected_keeps set s f fs next args x) (thrown_keeps set built_in.IncompatibleClassChangeError s (f ∷ fs))

on_object_keeps : (set : Set) (s : State) (f : Active) (fs : List Active) (next : ℕ) (call : Call) (c : Callee) → Keeps s.out (on_object set s f fs next call c)
on_object_keeps set s f fs next call c =
    with_keeps s (popped (Reference [] ∷ c.signature.params) f.stack) _ (λ p.
    on_receiver_keeps set s (record f { stack = p.rest }) fs p.args (dispatched set s (record f { stack = p.rest }) fs next call c p.args)
    (dispatched_keeps set s (record f { stack = p.rest }) fs next call c p.args))

static_call_keeps : (set : Set) (s : State) (f : Active) (fs : List Active) (next : ℕ) (c : Callee) → Keeps s.out (static_call set s f fs next c)
static_call_keeps set s f fs next c =
    with_keeps s (popped c.signature.params f.stack) _ (λ p. run_keeps set s (record f { stack = p.rest }) fs next p.args c.found.method.body)

called_keeps : (set : Set) (s : State) (f : Active) (fs : List Active) (next : ℕ) (call : Call) (c : Callee) → Keeps s.out (called set s f fs next call c)
called_keeps set s f fs next Static c =
    with_started_keeps set s (f ∷ fs) c.found.class (λ t. static_call set t f fs next c) (λ started. static_call_keeps set (record s { started = started }) f fs next c)
called_keeps set s f fs next Special c = on_object_keeps set s f fs next Special c
called_keeps set s f fs next Virtual c = on_object_keeps set s f fs next Virtual c
called_keeps set s f fs next OfInterface c = on_object_keeps set s f fs next OfInterface c

pub invoked_grows : (set : Set) (s : State) (f : Active) (fs : List Active) (next : ℕ) (call : Call) (o : Option Callee) → Keeps s.out (invoked set s f fs next call o)
invoked_grows set s f fs next call None = stays s.out (stuck s) refl
invoked_grows set s f fs next call (Some c) = called_keeps set s f fs next call c

resumed_out : (s : State) (values : List Value) (f : Active) (fs : List Active) (o : Option Instr) → written (resumed s values f fs o) ≡ s.out
resumed_out s values f fs None = refl
resumed_out s values f fs (Some i) = refl

valueless_keeps : (s : State) (values : List Value) (next : Next) → Keeps s.out next → Keeps s.out (without_value s values next)
valueless_keeps s [] next h = h
valueless_keeps s (v ∷ vs) next h = stays s.out (stuck s) refl

handed_keeps : (set : Set) (s : State) (values : List Value) (fs : List Active) → Keeps s.out (handed set s values fs)
handed_keeps set s values [] = valueless_keeps s values (Over Ended s.out) (stays s.out (Over Ended s.out) refl)
handed_keeps set s values (f ∷ fs) = stays s.out (handed set s values (f ∷ fs)) (resumed_out s values f fs (fetch set f.class f.method f.at))

returned_keeps : (set : Set) (s : State) (values : List Value) (f : Active) (fs : List Active) → Keeps s.out (returned set s values f fs)
returned_keeps set s values f fs =
    by_test s.out f.starts (without_value s values (Going (record s { frames = fs }))) (handed set s values fs)
    (valueless_keeps s values (Going (record s { frames = fs })) (stays s.out (Going (record s { frames = fs })) refl)) (handed_keeps set s values fs)

-- constants, fields, objects and arrays
loaded_keeps : (s : State) (f : Active) (fs : List Active) (next : ℕ) (o : Option Constant) → Keeps s.out (loaded s f fs next o)
loaded_keeps s f fs next None = stays s.out (stuck s) refl
loaded_keeps s f fs next (Some (Number n)) = stays s.out (loaded s f fs next (Some (Number n))) refl
loaded_keeps s f fs next (Some (Literal units)) = stays s.out (loaded s f fs next (Some (Literal units))) refl

goes_on_keeps : (s : State) (f : Active) (fs : List Active) (at : ℕ) (stack : List Value) → Keeps s.out (goes_on s f fs at stack)
goes_on_keeps s f fs at stack = stays s.out (goes_on s f fs at stack) refl

got_static_keeps : (set : Set) (s : State) (f : Active) (fs : List Active) (next : ℕ) (field : FoundField) → Keeps s.out (got_static set s f fs next field)
got_static_keeps set s f fs next field =
    with_started_keeps set s (f ∷ fs) field.class (λ t. with t (static_value t field) (λ v. goes_on t f fs next (v ∷ f.stack))) (λ started.
    with_keeps (record s { started = started }) (static_value s field) (λ v. goes_on (record s { started = started }) f fs next (v ∷ f.stack)) (λ v. goes_on_keeps (record s { started = started }) f fs next (v ∷ f.stack)))

put_static_keeps : (set : Set) (s : State) (f : Active) (fs : List Active) (next : ℕ) (v : Value) (rest : List Value) (field : FoundField) → Keeps s.out (put_static set s f fs next v rest field)
put_static_keeps set s f fs next v rest field =
    with_started_keeps set s (f ∷ fs) field.class (λ t. only_if t (suits (field_type field.descriptor) v) (with t (static_value t field) (λ old. goes_on (with_static t field v) f fs next rest))) (λ started.
    only_if_keeps (record s { started = started }) (suits (field_type field.descriptor) v) (with (record s { started = started }) (static_value s field) (λ old. goes_on (with_static (record s { started = started }) field v) f fs next rest))
    (with_keeps (record s { started = started }) (static_value s field) (λ old. goes_on (with_static (record s { started = started }) field v) f fs next rest) (λ old. stays s.out (goes_on (with_static (record s { started = started }) field v) f fs next rest) refl)))

on_reference_keeps : (set : Set) (s : State) (f : Active) (fs : List Active) (v : Value) (go : ℕ → Object → Next) → ((r : ℕ) (o : Object) → Keeps s.out (go r o)) → Keeps s.out (on_reference set s f fs v go)
on_reference_keeps set s f fs (Ref r) go h = with_keeps s (slice_get s.heap r) (go r) (h r)
on_reference_keeps set s f fs Null go h = thrown_keeps set built_in.NullPointerException s (f ∷ fs)
on_reference_keeps set s f fs Nothing go h = stays s.out (stuck s) refl
on_reference_keeps set s f fs (Int n) go h = stays s.out (stuck s) refl
on_reference_keeps set s f fs (Long n) go h = stays s.out (stuck s) refl

got_field_keeps : (set : Set) (s : State) (f : Active) (fs : List Active) (next : ℕ) (object : Value) (rest : List Value) (field : FoundField) → Keeps s.out (got_field set s f fs next object rest field)
got_field_keeps set s f fs next object rest field =
    on_reference_keeps set s f fs object _ (λ r o. with_keeps s (fields_of set field o) _ (λ fields.
    with_keeps s (slice_get fields (field_place set field.class field.place)) _ (λ v. goes_on_keeps s f fs next (v ∷ rest))))

with_field_keeps : (s : State) (f : Active) (fs : List Active) (next : ℕ) (rest : List Value) (r : ℕ) (o : Object) (place : ℕ) (v : Value) → Keeps s.out (goes_on (with_field s r o place v) f fs next rest)
with_field_keeps s f fs next rest r (Instance class fields) place v = stays s.out (goes_on (with_field s r (Instance class fields) place v) f fs next rest) refl
with_field_keeps s f fs next rest r (TextObject units) place v = goes_on_keeps s f fs next rest
with_field_keeps s f fs next rest r (ArrayObject class dimensions items) place v = goes_on_keeps s f fs next rest

put_field_keeps : (set : Set) (s : State) (f : Active) (fs : List Active) (next : ℕ) (object v : Value) (rest : List Value) (field : FoundField) → Keeps s.out (put_field set s f fs next object v rest field)
put_field_keeps set s f fs next object v rest field =
    only_if_keeps s (suits (field_type field.descriptor) v) _ (on_reference_keeps set s f fs object _ (λ r o. with_keeps s (fields_of set field o) _ (λ fields.
    with_keeps s (slice_get fields (field_place set field.class field.place)) _ (λ old. with_field_keeps s f fs next rest r o (field_place set field.class field.place) v))))

new_object_keeps : (set : Set) (s : State) (f : Active) (fs : List Active) (next : ℕ) (t : Element) → Keeps s.out (new_object set s f fs next t)
new_object_keeps set s f fs next t =
    only_if_keeps s (t.dimensions == 0 && can_be_made set t.class) (with_started set s (f ∷ fs) t.class (λ u. made u f fs next (Instance t.class (layout set t.class)) f.stack)) (with_started_keeps set s (f ∷ fs) t.class (λ u. made u f fs next (Instance t.class (layout set t.class)) f.stack) (λ started.
    stays s.out (made (record s { started = started }) f fs next (Instance t.class (layout set t.class)) f.stack) refl))

new_array_keeps : (set : Set) (s : State) (f : Active) (fs : List Active) (next : ℕ) (count : ℤ) (rest : List Value) (t : Element) → Keeps s.out (new_array set s f fs next count rest t)
new_array_keeps set s f fs next (pos count) rest t = stays s.out (new_array set s f fs next (pos count) rest t) refl
new_array_keeps set s f fs next (negsuc n) rest t = thrown_keeps set built_in.NegativeArraySizeException s (f ∷ fs)

cast_keeps : (set : Set) (s : State) (f : Active) (fs : List Active) (next : ℕ) (v : Value) (t : Element) → Keeps s.out (cast set s f fs next v t)
cast_keeps set s f fs next Null t = goes_on_keeps s f fs next f.stack
cast_keeps set s f fs next (Ref r) t =
    with_keeps s (slice_get s.heap r) _ (λ o. by_test s.out (is_instance set o t) (goes_on s f fs next f.stack) (thrown set built_in.ClassCastException s (f ∷ fs)) (goes_on_keeps s f fs next f.stack) (thrown_keeps set built_in.ClassCastException s (f ∷ fs)))
cast_keeps set s f fs next Nothing t = stays s.out (stuck s) refl
cast_keeps set s f fs next (Int n) t = stays s.out (stuck s) refl
cast_keeps set s f fs next (Long n) t = stays s.out (stuck s) refl

tested_keeps : (set : Set) (s : State) (f : Active) (fs : List Active) (next : ℕ) (v : Value) (rest : List Value) (t : Element) → Keeps s.out (tested set s f fs next v rest t)
tested_keeps set s f fs next Null rest t = goes_on_keeps s f fs next (Int (pos 0) ∷ rest)
tested_keeps set s f fs next (Ref r) rest t =
    with_keeps s (slice_get s.heap r) _ (λ o. goes_on_keeps s f fs next (Int (if is_instance set o t then pos 1 else pos 0) ∷ rest))
tested_keeps set s f fs next Nothing rest t = stays s.out (stuck s) refl
tested_keeps set s f fs next (Int n) rest t = stays s.out (stuck s) refl
tested_keeps set s f fs next (Long n) rest t = stays s.out (stuck s) refl

measured_keeps : (set : Set) (s : State) (f : Active) (fs : List Active) (next : ℕ) (array : Value) (rest : List Value) → Keeps s.out (measured set s f fs next array rest)
measured_keeps set s f fs next array rest =
    on_reference_keeps set s f fs array _ (λ r o. with_keeps s (items_of o) _ (λ items. goes_on_keeps s f fs next (Int (cast_signed w32 (length items % 2 ^ 32)) ∷ rest)))

at_place_keeps : (set : Set) (s : State) (f : Active) (fs : List Active) (items : List Value) (place : ℤ) (go : ℕ → Value → Next) → ((k : ℕ) (v : Value) → Keeps s.out (go k v)) → Keeps s.out (at_place set s f fs items place go)
at_place_keeps set s f fs items (pos place) go h = by_item (slice_get items place)
  where
    by_item : (o : Option Value) → Keeps s.out (elim o [ Some v ↦ go place v | None ↦ thrown set built_in.ArrayIndexOutOfBoundsException s (f ∷ fs) ])
    by_item (Some v) = h place v
    by_item None = thrown_keeps set built_in.ArrayIndexOutOfBoundsException s (f ∷ fs)
at_place_keeps set s f fs items (negsuc n) go h = thrown_keeps set built_in.ArrayIndexOutOfBoundsException s (f ∷ fs)

item_loaded_keeps : (set : Set) (s : State) (f : Active) (fs : List Active) (next : ℕ) (array : Value) (place : ℤ) (rest : List Value) → Keeps s.out (item_loaded set s f fs next array place rest)
item_loaded_keeps set s f fs next array place rest =
    on_reference_keeps set s f fs array _ (λ r o. with_keeps s (items_of o) _ (λ items. at_place_keeps set s f fs items place _ (λ k v. goes_on_keeps s f fs next (v ∷ rest))))

stored_in_keeps : (set : Set) (s : State) (f : Active) (fs : List Active) (next : ℕ) (place : ℤ) (v : Value) (rest : List Value) (r : ℕ) (o : Object) → Keeps s.out (stored_in set s f fs next place v rest r o)
stored_in_keeps set s f fs next place v rest r (ArrayObject class dimensions items) =
    at_place_keeps set s f fs items place _ (λ k old. with_keeps s (fits_element set s class dimensions v) _ (λ fits.
    by_test s.out fits _ (thrown set built_in.ArrayStoreException s (f ∷ fs))
    (stays s.out (goes_on (record s { heap = slice_set s.heap r (ArrayObject class dimensions (slice_set items k v)) }) f fs next rest) refl)
    (thrown_keeps set built_in.ArrayStoreException s (f ∷ fs))))
stored_in_keeps set s f fs next place v rest r (TextObject units) = stays s.out (stuck s) refl
stored_in_keeps set s f fs next place v rest r (Instance class fields) = stays s.out (stuck s) refl

throws_object_keeps : (set : Set) (s : State) (f : Active) (fs : List Active) (v : Value) → Keeps s.out (throws_object set s f fs v)
throws_object_keeps set s f fs (Ref r) = thrown_object_keeps set s r (f ∷ fs) (slice_get s.heap r)
throws_object_keeps set s f fs Null = thrown_keeps set built_in.NullPointerException s (f ∷ fs)
throws_object_keeps set s f fs Nothing = stays s.out (stuck s) refl
throws_object_keeps set s f fs (Int n) = stays s.out (stuck s) refl
throws_object_keeps set s f fs (Long n) = stays s.out (stuck s) refl

after_grows : (set : Set) (s : State) (f : Active) (fs : List Active) (next : ℕ) (e : Effect) → Keeps s.out (after set s f fs next e)
after_grows set s f fs next (Goes at locals stack) = stays s.out (after set s f fs next (Goes at locals stack)) refl
after_grows set s f fs next (Throws x) = thrown_keeps set x s (f ∷ fs)
after_grows set s f fs next (LoadsConstant i) = loaded_keeps s f fs next (constant set f.class i)
after_grows set s f fs next (LoadsLong i) = with_keeps s (long_constant set f.class i) _ (λ n. goes_on_keeps s f fs next (Long n ∷ f.stack))
after_grows set s f fs next (Compares wanted to v w rest) = goes_on_keeps s f fs (branch wanted (is_same s.heap v w) to next) rest
after_grows set s f fs next (GetsStatic i) = with_keeps s (resolve_field set true f.class i) _ (got_static_keeps set s f fs next)
after_grows set s f fs next (PutsStatic i v rest) = with_keeps s (resolve_field set true f.class i) _ (put_static_keeps set s f fs next v rest)
after_grows set s f fs next (GetsField i o rest) = with_keeps s (resolve_field set false f.class i) _ (got_field_keeps set s f fs next o rest)
after_grows set s f fs next (PutsField i o v rest) = with_keeps s (resolve_field set false f.class i) _ (put_field_keeps set s f fs next o v rest)
after_grows set s f fs next (Invokes call i) = invoked_grows set s f fs next call (resolve set call f.class i)
after_grows set s f fs next (News i) = with_keeps s (resolve_type set f.class i) _ (new_object_keeps set s f fs next)
after_grows set s f fs next (NewsArray i count rest) = with_keeps s (resolve_type set f.class i) _ (new_array_keeps set s f fs next count rest)
after_grows set s f fs next (Casts i o) = with_keeps s (resolve_type set f.class i) _ (cast_keeps set s f fs next o)
after_grows set s f fs next (Tests i o rest) = with_keeps s (resolve_type set f.class i) _ (tested_keeps set s f fs next o rest)
after_grows set s f fs next (Measures array rest) = measured_keeps set s f fs next array rest
after_grows set s f fs next (LoadsItem array place rest) = item_loaded_keeps set s f fs next array place rest
after_grows set s f fs next (StoresItem array place v rest) = on_reference_keeps set s f fs array _ (stored_in_keeps set s f fs next place v rest)
after_grows set s f fs next (ThrowsObject o) = throws_object_keeps set s f fs o
after_grows set s f fs next (Returns values) = returned_keeps set s values f fs
after_grows set s f fs next Fails = stays s.out (stuck s) refl

executed_grows : (set : Set) (s : State) (f : Active) (fs : List Active) (o : Option Instr) → Keeps s.out (executed set s f fs o)
executed_grows set s f fs None = stays s.out (stuck s) refl
executed_grows set s f fs (Some i) =
    after_grows set s f fs (f.at + length_of i) (effect (row_of f.at i) (f.at + length_of i) f.locals f.stack)

begun_keeps : (set : Set) (s : State) (b : Body) → Keeps s.out (begun set s b)
begun_keeps set s (Coded class method) = entered_keeps s [] class method [] (method_at set class method)
begun_keeps set s (Native id) = stays s.out (stuck s) refl
begun_keeps set s NoBody = stays s.out (stuck s) refl

begin_grows : (set : Set) (s : State) → Keeps s.out (begin set s)
unfolding begin
begin_grows set s = with_keeps s (main_method set) _ (λ m. with_started_keeps set s [] m.class (λ t. begun set t m.method.body) (λ started. begun_keeps set (record s { started = started }) m.method.body))

running_grows : (set : Set) (s : State) (fs : List Active) → Keeps s.out (running set s fs)
running_grows set s [] = begin_grows set s
running_grows set s (f ∷ fs) = executed_grows set s f fs (fetch set f.class f.method f.at)

-- a step keeps what was written
pub step_grows : (set : Set) (s : State) → Keeps s.out (step set s)
unfolding step
step_grows set s = running_grows set s s.frames

-- a run keeps what was written
pub run_grows : (set : Set) (n : ℕ) (s : Next) → Begins (written s) (written (on_from set n s))
run_grows set zero s = Begins-same (written s) (written s) refl
run_grows set (suc n) (Going t) =
    Begins-trans t.out (written (step set t)) (written (on_from set n (step set t))) (step_grows set t) (run_grows set n (step set t))
run_grows set (suc n) (Over how out) = Begins-same out out refl

-- more steps write what fewer wrote, and maybe more
pub grows : (set : Set) (n m : ℕ) (s : Next) → n ≤ m → Begins (written (on_from set n s)) (written (on_from set m s))
grows set n m s h =
    let i : m ≡ n + (m - n) = omega arith in
    let e : on_from set m s ≡ on_from set (m - n) (on_from set n s) = ap (λ (j : ℕ). on_from set j s) i ∙ on_add set n (m - n) s in
    rw e (run_grows set (m - n) (on_from set n s))
