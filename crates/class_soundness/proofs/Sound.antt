-- A step keeps the frames fine, and so a run is never stuck.
use Rattle.std.proofs.Common.{◌≡◌, ℕ, ℤ, zero, suc, ◌+◌, ◌≤◌, Bool, true, false, cond, List, [], ◌∷◌, ◌++◌, length, drop, Option, Some, None, refl, sym, ap, subst, ◌∙◌, arith, nat_lt}
use Rattle.std.specs.Prelude.{codes, ◌||◌, reverse, Ok}
use Rattle.std.proofs.lemmas.Bool.{ltb-false}
use Rattle.class_file.specs.declared.value.Value.{Value}
use Rattle.class_file.specs.declared.value.Value.TheVariants as value
use Rattle.class_file.specs.declared.class.VType.{VType}
use Rattle.class_file.specs.declared.class.VType.TheVariants as vtype
use Rattle.class_file.specs.declared.class.ClassFile.{ClassFile}
use Rattle.class_file.specs.declared.class.Method.{Method}
use Rattle.class_file.specs.declared.class.Set.{Set}
use Rattle.class_file.specs.declared.instr.Instr.{Instr}
use Rattle.class_file.specs.declared.row.Row.{Row}
use Rattle.class_file.specs.declared.row.Row.TheVariants as row
use Rattle.class_file.specs.declared.pool.Entry.{Entry}
use Rattle.class_file.specs.declared.pool.Entry.TheVariants as entry
use Rattle.class_file.specs.declared.verify_code.VerifyCode.{VerifyCode}
use Rattle.class_file.specs.declared.verify_code.VerifyCode.TheVariants.{LocalRange, WrongType}
use Rattle.class_file.specs.Rows.{length_of, row_of}
use Rattle.class_file.specs.Pools.{Constant, Number, Literal, constant_in, long_in, entry_at, is_text}
use Rattle.class_file.specs.Descriptors.{FieldType, signature, field_type}
use Rattle.class_file.specs.Classes.{FoundField, Body, Coded, FoundMethod, class_number, chain, supertypes}
use Rattle.class_file.specs.Natives.{Object, TextObject}
use Rattle.class_file.specs.Machine.{GetsStatic, PutsStatic, resolve_field, got_static, put_static, static_value, with_static, suits, only_if, Active, State, Next, Going, Over, with, goes_on, branch, is_same, Static, Callee, Popped, resolve, invoked, called, static_call, run, loaded, constant, long_constant, pool_of, Effect, Goes, Throws, LoadsConstant, LoadsLong, Compares, Invokes, Returns, effect, after, executed, fetch, begun, main_method, main_found, with_started, begin, running, step, on_from, first, method_at}
use Rattle.class_file.specs.Members as members
use Rattle.class_file.specs.Members.{described, type_of_field, call_of}
use Rattle.class_file.specs.Typing.{t_get_static, Types, Verdict, typed, size_fault, reaches, result_types, misuses, t_call, t_pushed, constant_type, long_constant_type}
use Rattle.class_file.specs.Verification.{Verifies, Enters, Passes, jump_of, starts}
use Rattle.class_file.specs.Verification as verification
use Rattle.class_soundness.specs.Soundness.{IsLoaded, IsCovered, VerifiedIsNeverStuck}
use Rattle.class_soundness.proofs.Fits.{Has, Fits, Grows, Fits-append, Fits-grows, grows_by, new_text_is}
use Rattle.class_soundness.proofs.Rows.{Puts, Sound, Comes, row_sound, refuses_not, no_verdict, verdict_types}
use Rattle.class_soundness.proofs.Found.{Runnable, IsNative, IsCoded, IsAbstract, runnable, none_is, some_same}
use Rattle.class_soundness.proofs.Calls.{kind_has, calls, arguments, found_first}
use Rattle.class_soundness.proofs.Frames.{Fine, Frames, Below, Runs, Waits, takes, gives, before, method_there, fetched, goes_to, below_grow, starting_at}
use Rattle.class_soundness.proofs.Fields.{resolved}
use Rattle.class_soundness.proofs.Stores.{Stored, HasField, stored_grows, first_stored, stored_put}
use Rattle.class_soundness.proofs.Throws.{throws_fine}
use Rattle.class_soundness.proofs.Steps.{with_started_fine, body_fine, returned_fine, entered_fine, no_result}

-- what the size of a frame leaves to a row
no_code : (x beyond : Bool) (c : VerifyCode) (o : Option VerifyCode) → (let r : Option VerifyCode = cond (x || beyond) (Some c) o in r) ≡ None → beyond ≡ false
no_code true beyond c o e = absurd (some_code c e)
  where
    some_code : (c : VerifyCode) → (let r : Option VerifyCode = Some c in r) ≡ None → ⊥
    some_code c e = cc
no_code false false c o e = refl
no_code false true c o e = absurd (some_code c e)
  where
    some_code : (c : VerifyCode) → (let r : Option VerifyCode = Some c in r) ≡ None → ⊥
    some_code c e = cc

within : (set : Set) (c : ClassFile) (m : Method) (r : Row) (t : Types) → size_fault set c m r t ≡ None → reaches r ≤ m.max_locals
within set c m r t e = ltb-false m.max_locals (reaches r) (no_code (nat_lt m.max_locals (length t.locals)) (nat_lt m.max_locals (reaches r)) LocalRange _ e)

module _ (set : Set) (is_loaded : IsLoaded set) (covered : IsCovered set) (ver : Verifies set) where
  module _ (s : State) (st : Stored set s.heap s.statics) (f : Active) (fs : List Active) (r : Runs set is_loaded ver s.heap f) (b : Below set is_loaded ver s.heap (gives set is_loaded ver f r.placed) f.starts fs) (next : ℕ) (next_is : next ≡ f.at + length_of r.start.instr) where
    abbrev now : Types
    now = before set is_loaded ver f r.placed f.at

    abbrev to_next : Types → Type 0
    to_next t = Enters set r.placed.m (before set is_loaded ver f r.placed) t next

    -- the frame goes on with another stack, on a heap that has grown
    onward : (x : Types) → x.locals ≡ now.locals → to_next x → (heap : List Object) → Grows s.heap heap → (stack : List Value) → Fits set heap stack x.stack → Frames set is_loaded ver heap (record f { at = next; stack = stack } ∷ fs)
    unfolding goes_to
    onward x same to heap g stack fits =
        let l : Fits set heap f.locals x.locals = subst (λ (ts : List VType). Fits set heap f.locals ts) (sym same) (Fits-grows set s.heap heap g f.locals now.locals r.locals) in
        (goes_to set is_loaded ver heap f r.placed x next f.locals stack (record { to = to; locals_fit = l; stack_fits = fits; same = refl }), below_grow set is_loaded ver s.heap heap g (gives set is_loaded ver f r.placed) f.starts fs b)

    -- ---- constants

    pushed : (u : VType) (after_ : Types) → (let v : Verdict = t_pushed now (Some u) in v) ≡ Ok after_ → to_next after_ → (heap : List Object) → Grows s.heap heap → (v : Value) → Has set heap v u → Frames set is_loaded ver heap (record f { at = next; stack = v ∷ f.stack } ∷ fs)
    pushed u after_ e to heap g v h =
        let x : Types = record { locals = now.locals; stack = u ∷ now.stack; unset = now.unset } in
        onward x refl (subst to_next (sym (verdict_types x after_ e)) to) heap g (v ∷ f.stack) (h, Fits-grows set s.heap heap g f.stack now.stack r.stack)

    loaded_fine : (o : Option Constant) (after_ : Types) → t_pushed now (constant_type o) ≡ Ok after_ → to_next after_ → Fine set is_loaded ver (loaded s f fs next o)
    loaded_fine None after_ e to = absurd (no_verdict WrongType after_ e)
    loaded_fine (Some (Number n)) after_ e to = (pushed vtype.Integer after_ e to s.heap (λ r t. t) (value.Int n) tt, st)
    loaded_fine (Some (Literal units)) after_ e to =
        (pushed (vtype.Object (codes "java/lang/String")) after_ e to (s.heap ++ TextObject units ∷ []) (grows_by s.heap (TextObject units ∷ [])) (value.Ref (length s.heap)) (λ e. new_text_is s.heap units), stored_grows set s.heap (s.heap ++ TextObject units ∷ []) (grows_by s.heap (TextObject units ∷ [])) s.statics st)

    long_fine : (o : Option Entry) (after_ : Types) → t_pushed now (long_constant_type o) ≡ Ok after_ → to_next after_ → Fine set is_loaded ver (with s (long_in o) (λ n. goes_on s f fs next (value.Long n ∷ f.stack)))
    long_fine (Some (entry.Long n)) after_ e to = (pushed vtype.Long after_ e to s.heap (λ r t. t) (value.Long n) tt, st)
    long_fine (Some _) after_ e to = absurd (no_verdict WrongType after_ e)
    long_fine None after_ e to = absurd (no_verdict WrongType after_ e)

    constant_is : (i : ℕ) → constant set f.class i ≡ constant_in r.placed.c.pool (entry_at r.placed.c.pool i)
    unfolding constant
    constant_is i = ap (λ (o : Option ClassFile). constant_in (pool_of o) (entry_at (pool_of o) i)) r.placed.class_is

    long_is : (i : ℕ) → long_constant set f.class i ≡ long_in (entry_at r.placed.c.pool i)
    unfolding long_constant
    long_is i = ap (λ (o : Option ClassFile). long_in (entry_at (pool_of o) i)) r.placed.class_is

    -- ---- calls

    waits : (x : Types) → x.locals ≡ now.locals → to_next x → (result : Option VType) (below : List VType) → x.stack ≡ result_types result ++ below → (stack : List Value) → Fits set s.heap stack below
        → (w : Waits set is_loaded ver s.heap result (record f { stack = stack })) × Below set is_loaded ver s.heap (gives set is_loaded ver (record f { stack = stack }) w.placed) f.starts fs
    waits x same to result below shape stack fits =
        let p = r.placed in
        let t = takes set is_loaded ver f.class p.c f.method p.m p.class_is p.method_is x next to in
        let w : Waits set is_loaded ver s.heap result (record f { stack = stack }) = record {
          placed = record { c = p.c; m = p.m; class_is = p.class_is; method_is = p.method_is; room = p.room };
          start = r.start;
          held = r.locals;
          next = starting_at p.m (f.at + length_of r.start.instr) (subst (λ (n : ℕ). starts p.m n ≡ true) next_is to.start);
          locals = subst (λ (n : ℕ). Fits set s.heap f.locals (before set is_loaded ver f p n).locals) next_is (t.locals s.heap f.locals (subst (λ (ts : List VType). Fits set s.heap f.locals ts) (sym same) r.locals));
          types = below;
          below = fits;
          goes = λ later vs h. subst (λ (n : ℕ). Fits set later vs (before set is_loaded ver f p n).stack) next_is (t.stack later vs (subst (λ (ts : List VType). Fits set later vs ts) (sym shape) h));
        } in (w, b)

    called_fine : (to : Callee) (name descriptor : List ℕ) (x : Types) → signature descriptor ≡ Some to.signature → Runnable set name descriptor to.found.method.body
        → misuses set (reverse (call_of to.signature).params) now.stack ≡ None → x.locals ≡ now.locals → x.stack ≡ result_types (call_of to.signature).result ++ drop (length (call_of to.signature).params) now.stack → to_next x
        → Fine set is_loaded ver (called set s f fs next Static to)
    called_fine to name descriptor x signed runs well same shape goes =
        let below = drop (length (call_of to.signature).params) now.stack in
        let a = arguments set is_loaded s.heap to.signature.params f.stack now.stack r.stack well in
        with_started_fine set is_loaded ver s st (f ∷ fs) to.found.class (λ t. static_call set t f fs next to) (r, b) (λ started.
        subst (λ (o : Option Popped). Fine set is_loaded ver (with (record s { started = started }) o (λ p. run set (record s { started = started }) (record f { stack = p.rest }) fs next p.args to.found.method.body))) (sym a.is)
        (body_fine set is_loaded ver (record s { started = started }) st (record f { stack = a.rest }) fs next a.args name descriptor to.signature signed to.found.method.body runs a.have
        (λ heap g vs h. onward x same goes heap g (vs ++ a.rest) (subst (λ (ts : List VType). Fits set heap (vs ++ a.rest) ts) (sym shape) (Fits-append set heap vs a.rest _ below h (Fits-grows set s.heap heap g a.rest below a.fits))))
        (waits x same goes (call_of to.signature).result below shape a.rest a.fits)))

    invoked_fine : (i : ℕ) (o : Option members.Call) (after_ : Types) → row_of f.at r.start.instr ≡ row.InvokeStatic i → members.static_call set r.placed.c i ≡ o → t_call set now o ≡ Ok after_ → to_next after_ → Fine set is_loaded ver (invoked set s f fs next Static (resolve set Static f.class i))
    invoked_fine i None after_ ri k e to = absurd (no_verdict WrongType after_ e)
    invoked_fine i (Some call) after_ ri k e to =
        let c = calls set f.class r.placed.c i call r.placed.class_is k in
        let e2 : t_call set now (Some (call_of c.to.signature)) ≡ Ok after_ = subst (λ (x : members.Call). t_call set now (Some x) ≡ Ok after_) (sym c.call_is) e in
        let x : Types = record { locals = now.locals; stack = result_types (call_of c.to.signature).result ++ drop (length (call_of c.to.signature).params) now.stack; unset = now.unset } in
        let p = refuses_not (misuses set (reverse (call_of c.to.signature).params) now.stack) (Ok x) after_ e2 in
        subst (λ (o : Option Callee). Fine set is_loaded ver (invoked set s f fs next Static o)) (sym c.is)
        (called_fine c.to c.name c.descriptor x c.signed (runnable set c.name c.descriptor c.to.found.class c.to.found.method c.own) p.0 refl refl (subst to_next (sym (verdict_types x after_ p.1)) to))

    -- ---- static fields

    gets_fine : (i : ℕ) (o : Option members.FieldUse) (after_ : Types) → members.field_use set true r.placed.c i ≡ o → t_get_static now o ≡ Ok after_ → to_next after_ → Fine set is_loaded ver (with s (resolve_field set true f.class i) (got_static set s f fs next))
    gets_fine i None after_ k e to = absurd (no_verdict WrongType after_ e)
    gets_fine i (Some u) after_ k e to =
        let x = resolved set f.class r.placed.c i u r.placed.class_is k in
        let h = st x.to.class x.to.place x.standing.view x.standing.at in
        let typed_so : field_type x.standing.view.descriptor ≡ Some x.t = ap field_type x.standing.same ∙ x.typed in
        let has : Has set s.heap h.v u.type = subst (λ (t : VType). Has set s.heap h.v t) x.type_is (subst (λ (o : Option FieldType). HasField set s.heap h.v o) typed_so h.has) in
        subst (λ (o : Option FoundField). Fine set is_loaded ver (with s o (got_static set s f fs next))) (sym x.is)
        (with_started_fine set is_loaded ver s st (f ∷ fs) x.to.class (λ t. with t (static_value t x.to) (λ v. goes_on t f fs next (v ∷ f.stack))) (r, b) (λ started.
        subst (λ (o : Option Value). Fine set is_loaded ver (with (record s { started = started }) o (λ v. goes_on (record s { started = started }) f fs next (v ∷ f.stack)))) (sym h.is) (pushed u.type after_ e to s.heap (λ r t. t) h.v has, st)))

    puts_fine : (i : ℕ) (v : Value) (rest : List Value) (after_ : Types) → Puts set r.placed.c s.heap (Enters set r.placed.m (before set is_loaded ver f r.placed) after_) (length f.locals) after_ next f.locals rest i v
        → Frames set is_loaded ver s.heap (record f { at = next; stack = rest } ∷ fs) → Fine set is_loaded ver (with s (resolve_field set true f.class i) (put_static set s f fs next v rest))
    puts_fine i v rest after_ p goes =
        let x = resolved set f.class r.placed.c i p.use_ r.placed.class_is p.is in
        let h = st x.to.class x.to.place x.standing.view x.standing.at in
        let typed_so : field_type x.standing.view.descriptor ≡ Some x.t = ap field_type x.standing.same ∙ x.typed in
        let has : Has set s.heap v (type_of_field x.t) = subst (λ (t : VType). Has set s.heap v t) (sym x.type_is) p.has in
        let held : HasField set s.heap v (field_type x.standing.view.descriptor) = subst (λ (o : Option FieldType). HasField set s.heap v o) (sym typed_so) has in
        let suits_so : suits (field_type x.to.descriptor) v ≡ true = ap (λ (o : Option FieldType). suits o v) x.typed ∙ kind_has set is_loaded s.heap v x.t has in
        subst (λ (o : Option FoundField). Fine set is_loaded ver (with s o (put_static set s f fs next v rest))) (sym x.is)
        (with_started_fine set is_loaded ver s st (f ∷ fs) x.to.class (λ t. only_if t (suits (field_type x.to.descriptor) v) (with t (static_value t x.to) (λ old. goes_on (with_static t x.to v) f fs next rest))) (r, b) (λ started.
        subst (λ (b : Bool). Fine set is_loaded ver (only_if (record s { started = started }) b (with (record s { started = started }) (static_value s x.to) (λ old. goes_on (with_static (record s { started = started }) x.to v) f fs next rest)))) (sym suits_so)
        (subst (λ (o : Option Value). Fine set is_loaded ver (with (record s { started = started }) o (λ old. goes_on (with_static (record s { started = started }) x.to v) f fs next rest))) (sym h.is)
        (goes, stored_put set s.heap s.statics st x.to.class x.to.place x.standing.view v x.standing.at held))))

    -- ---- what a row's effect makes of the state

    choose : (wanted so : Bool) (to : ℕ) (rest : List Value) → Frames set is_loaded ver s.heap (record f { at = to; stack = rest } ∷ fs) → Frames set is_loaded ver s.heap (record f { at = next; stack = rest } ∷ fs) → Fine set is_loaded ver (goes_on s f fs (branch wanted so to next) rest)
    choose true true to rest p q = (p, st)
    choose true false to rest p q = (q, st)
    choose false true to rest p q = (q, st)
    choose false false to rest p q = (p, st)

    come : (after_ : Types) (at : ℕ) (locals stack : List Value) → Comes set s.heap (Enters set r.placed.m (before set is_loaded ver f r.placed) after_) (length f.locals) after_ at locals stack → Frames set is_loaded ver s.heap (record f { at = at; locals = locals; stack = stack } ∷ fs)
    unfolding goes_to
    come after_ at locals stack h = (goes_to set is_loaded ver s.heap f r.placed after_ at locals stack h, b)

    after_fine : (w : Row) (after_ : Types) (x : Effect) → row_of f.at r.start.instr ≡ w → typed set r.placed.c r.placed.m f.at w now ≡ Ok after_ → (verification.goes_on w ≡ true → to_next after_)
        → Sound set r.placed.c s.heap (gives set is_loaded ver f r.placed) (Enters set r.placed.m (before set is_loaded ver f r.placed) after_) next f.locals w after_ x → Fine set is_loaded ver (after set s f fs next x)
    after_fine w after_ (Goes at locals stack) wi e to h = (come after_ at locals stack h, st)
    after_fine w after_ (Throws x) wi e to h = throws_fine set is_loaded ver x s st None true (f ∷ fs) (refl, (r, b))
    after_fine w after_ (LoadsConstant i) wi e to h =
        let e2 : typed set r.placed.c r.placed.m f.at (row.PushConstant i) now ≡ Ok after_ = subst (λ (z : Row). typed set r.placed.c r.placed.m f.at z now ≡ Ok after_) h e in
        let to2 = subst (λ (z : Row). verification.goes_on z ≡ true → to_next after_) h to refl in
        subst (λ (o : Option Constant). Fine set is_loaded ver (loaded s f fs next o)) (sym (constant_is i)) (loaded_fine (constant_in r.placed.c.pool (entry_at r.placed.c.pool i)) after_ e2 to2)
    after_fine w after_ (LoadsLong i) wi e to h =
        let e2 : typed set r.placed.c r.placed.m f.at (row.PushLongConstant i) now ≡ Ok after_ = subst (λ (z : Row). typed set r.placed.c r.placed.m f.at z now ≡ Ok after_) h e in
        let to2 = subst (λ (z : Row). verification.goes_on z ≡ true → to_next after_) h to refl in
        subst (λ (o : Option ℤ). Fine set is_loaded ver (with s o (λ n. goes_on s f fs next (value.Long n ∷ f.stack)))) (sym (long_is i)) (long_fine (entry_at r.placed.c.pool i) after_ e2 to2)
    after_fine w after_ (Compares wanted to_ v u rest) wi e to h =
        choose wanted (is_same s.heap v u) to_ rest (come after_ to_ f.locals rest h.0) (come after_ next f.locals rest h.1)
    after_fine w after_ (Invokes Static i) wi e to h =
        let e2 : typed set r.placed.c r.placed.m f.at (row.InvokeStatic i) now ≡ Ok after_ = subst (λ (z : Row). typed set r.placed.c r.placed.m f.at z now ≡ Ok after_) h e in
        let to2 = subst (λ (z : Row). verification.goes_on z ≡ true → to_next after_) h to refl in
        invoked_fine i (members.static_call set r.placed.c i) after_ (wi ∙ h) refl e2 to2
    after_fine w after_ (GetsStatic i) wi e to h =
        let e2 : typed set r.placed.c r.placed.m f.at (row.GetStatic i) now ≡ Ok after_ = subst (λ (z : Row). typed set r.placed.c r.placed.m f.at z now ≡ Ok after_) h e in
        let to2 = subst (λ (z : Row). verification.goes_on z ≡ true → to_next after_) h to refl in
        gets_fine i (members.field_use set true r.placed.c i) after_ refl e2 to2
    after_fine w after_ (PutsStatic i v rest) wi e to h = puts_fine i v rest after_ h (come after_ next f.locals rest h.comes)
    after_fine w after_ (Returns values) wi e to h = returned_fine set is_loaded ver s st values f fs (gives set is_loaded ver f r.placed) b h
    after_fine w after_ _ wi e to h = absurd h

  executed_fine : (s : State) (st : Stored set s.heap s.statics) (f : Active) (fs : List Active) (r : Runs set is_loaded ver s.heap f) → Below set is_loaded ver s.heap (gives set is_loaded ver f r.placed) f.starts fs → (o : Option Instr) → o ≡ Some r.start.instr → Fine set is_loaded ver (executed set s f fs o)
  executed_fine s st f fs r b None k = absurd (none_is r.start.instr k)
  executed_fine s st f fs r b (Some j) k =
      let i = r.start.instr in
      let w = row_of f.at i in
      let next = f.at + length_of i in
      let p = (ver.methods f.class r.placed.c f.method r.placed.m r.placed.class_is r.placed.method_is).typed.each f.at i r.start.here in
      let now = before set is_loaded ver f r.placed f.at in
      let q = refuses_not (size_fault set r.placed.c r.placed.m w now) (typed set r.placed.c r.placed.m f.at w now) p.after p.is in
      let room : reaches w ≤ length f.locals = omega (arith, within set r.placed.c r.placed.m w now q.0, r.placed.room) in
      let lot = covered f.class f.method f.at i (fetched set is_loaded ver f r.placed r.start) in
      let good = row_sound set is_loaded r.placed.c r.placed.m f.at s.heap (Enters set r.placed.m (before set is_loaded ver f r.placed) p.after) next now p.after f.locals f.stack r.locals r.stack w lot p.jumps p.goes room q.1 in
      subst (λ (x : Instr). Fine set is_loaded ver (executed set s f fs (Some x))) (sym (some_same j i k)) (after_fine s st f fs r b next refl w p.after (effect w next f.locals f.stack) refl q.1 p.goes good)

  -- ---- the call of main

  begun_fine : (s : State) (st : Stored set s.heap s.statics) (name : List ℕ) (body : Body) → Runnable set name (codes "()V") body → (class place : ℕ) → body ≡ Coded class place → Fine set is_loaded ver (begun set s body)
  begun_fine s st name _ (IsNative id d nc) class place e = absurd cc
  begun_fine s st name _ (IsCoded c k_ p_ m k h st0 d nm ab) class place e =
      entered_fine set is_loaded ver s st [] k_ p_ c m k h st0 ab [] (ap (λ (t : List ℕ). (described t).params) d) [] tt (no_result set is_loaded ver m.descriptor d) (method_at set k_ p_) (method_there set is_loaded ver k_ c p_ m k h)
  begun_fine s st name _ (IsAbstract c k_ p_ m k h nm ab) class place e = absurd cc

  main_fine : (s : State) (st : Stored set s.heap s.statics) (o : Option FoundMethod) (f : FoundMethod) → main_method set ≡ o → o ≡ Some f → (class place : ℕ) → f.method.body ≡ Coded class place → s.frames ≡ [] → Runnable set (codes "main") (codes "()V") f.method.body
      → Fine set is_loaded ver (with s o (λ m. with_started set s [] m.class (λ t. begun set t m.method.body)))
  main_fine s st None f k e class place c n r = absurd (none_is f e)
  main_fine s st (Some g) f k e class place c n r =
      subst (λ (x : FoundMethod). Fine set is_loaded ver (with s (Some x) (λ m. with_started set s [] m.class (λ t. begun set t m.method.body)))) (sym (some_same g f e))
      (with_started_fine set is_loaded ver s st [] f.class (λ t. begun set t f.method.body) tt (λ started. begun_fine (record s { started = started }) st (codes "main") f.method.body r class place c))

  main_runs : (o : Option ℕ) (f : FoundMethod) → main_found set o ≡ Some f → Runnable set (codes "main") (codes "()V") f.method.body
  main_runs None f e = absurd (none_is f e)
  main_runs (Some n) f e = runnable set (codes "main") (codes "()V") f.class f.method (found_first set (codes "main") (codes "()V") (cond (is_text (codes "main") (codes "<init>")) (n ∷ []) (chain set n ++ supertypes set n)) f e)

  main_runnable : (f : FoundMethod) → main_method set ≡ Some f → Runnable set (codes "main") (codes "()V") f.method.body
  unfolding main_method
  main_runnable f e = main_runs (class_number set set.main) f e

  begin_fine : (s : State) (st : Stored set s.heap s.statics) → s.frames ≡ [] → Fine set is_loaded ver (begin set s)
  unfolding begin
  begin_fine s st n =
      let m = is_loaded.main in
      main_fine s st (main_method set) m.found refl m.is m.class m.place m.coded n (main_runnable m.found m.is)

  running_fine : (s : State) (st : Stored set s.heap s.statics) (fs : List Active) → s.frames ≡ fs → Frames set is_loaded ver s.heap fs → Fine set is_loaded ver (running set s fs)
  running_fine s st [] e h = begin_fine s st e
  running_fine s st (f ∷ fs) e h = executed_fine s st f fs h.0 h.1 (fetch set f.class f.method f.at) (fetched set is_loaded ver f h.0.placed h.0.start)

  step_fine : (s : State) → Frames set is_loaded ver s.heap s.frames × Stored set s.heap s.statics → Fine set is_loaded ver (step set s)
  unfolding step
  step_fine s h = running_fine s h.1 s.frames refl h.0

  runs_fine : (n : ℕ) (x : Next) → Fine set is_loaded ver x → Fine set is_loaded ver (on_from set n x)
  runs_fine zero x h = h
  runs_fine (suc n) (Going s) h = runs_fine n (step set s) (step_fine s h)
  runs_fine (suc n) (Over how out) h = h

pub never_stuck : VerifiedIsNeverStuck
never_stuck set is_loaded covered ver input n out e =
    subst (Fine set is_loaded ver) e (runs_fine set is_loaded covered ver n (Going (first set input)) (tt, first_stored set is_loaded))
