-- Throws, initialisers, natives, calls and returns keep the frames fine.
use Rattle.std.proofs.Common.{◌≡◌, ℕ, ◌+◌, ◌-◌, Bool, true, false, cond, List, [], ◌∷◌, ◌++◌, length, Option, Some, None, refl, sym, ap, subst, ◌∙◌, arith, map}
use Rattle.std.specs.Prelude.{slice_get, codes, replicate}
use Rattle.std.specs.Option.{option_map}
use Rattle.class_file.specs.declared.value.Value.{Value}
use Rattle.class_file.specs.declared.value.Value.TheVariants as value
use Rattle.class_file.specs.declared.value.BuiltIn.{BuiltIn}
use Rattle.class_file.specs.declared.value.BuiltIn.TheVariants as built_in
use Rattle.class_file.specs.declared.class.VType.{VType}
use Rattle.class_file.specs.declared.class.ClassFile.{ClassFile}
use Rattle.class_file.specs.declared.class.Method.{Method}
use Rattle.class_file.specs.declared.class.Set.{Set}
use Rattle.class_file.specs.declared.instr.Instr.{Instr}
use Rattle.class_file.specs.Rows.{length_of}
use Rattle.class_file.specs.Pools.{is_text}
use Rattle.class_file.specs.Descriptors.{FieldType, Signature, signature}
use Rattle.class_file.specs.Classes.{Body, MethodView, is_abstract_flag}
use Rattle.class_file.specs.Natives.{Object, TextObject, NativeEffect, Gives, Makes, Writes, ReadsLine, NativeThrows, native_effect, Line, first_line, text_of_bytes}
use Rattle.class_file.specs.Machine.{Active, State, Next, Going, Over, Ended, made, method_at, thrown, clinit, marked, started_with, run_clinit, starting, is_started, unstarted, with_started, entered, run, native_step, line_read, resumed, without_value, handed, returned, fetch}
use Rattle.class_file.specs.Members.{described, type_of_field, call_of, call_or_none}
use Rattle.class_file.specs.Typing.{result_types}
use Rattle.class_file.specs.Verification.{Verifies, is_static}
use Rattle.class_soundness.specs.Soundness.{IsLoaded}
use Rattle.class_soundness.proofs.Fits.{Fits, Grows, grows_by, stays, Fits-append}
use Rattle.class_soundness.proofs.Found.{Runnable, IsNative, IsCoded, IsAbstract, runnable, none_is, some_same}
use Rattle.class_soundness.proofs.Natives.{HasAll, Answers, IsRight, a_text, text_type, native_right}
use Rattle.class_soundness.proofs.Stores.{Stored, stored_grows}
use Rattle.class_soundness.proofs.Throws.{throws_fine}
use Rattle.class_soundness.proofs.Frames.{Fine, Frames, Below, Runs, Waits, gives, enters, method_there, fetched}

module _ (set : Set) (loaded : IsLoaded set) (ver : Verifies set) where
  -- ---- initialisers

  below_starts : (heap : List Object) (result : Option VType) (fs : List Active) → result ≡ None → Frames set loaded ver heap fs → Below set loaded ver heap result true fs
  below_starts heap result [] e h = e
  below_starts heap result (f ∷ fs) e h = (e, h)

  no_params : (d : List ℕ) → d ≡ codes "()V" → (described d).params ≡ []
  no_params d e = ap (λ (d : List ℕ). (described d).params) e

  pub no_result : (d : List ℕ) → d ≡ codes "()V" → (described d).result ≡ None
  no_result d e = ap (λ (d : List ℕ). (described d).result) e

  clinit_runs : (s : State) (st : Stored set s.heap s.statics) (n : ℕ) (fs : List Active) → Frames set loaded ver s.heap fs → (c : ClassFile) (class place : ℕ) (m : Method) (k : slice_get set.classes class ≡ Some c) (h : slice_get c.methods place ≡ Some m)
      → is_static m ≡ true → m.descriptor ≡ codes "()V" → is_abstract_flag m.flags ≡ false → (o : Option Method) → o ≡ Some m → Fine set loaded ver (started_with s n fs class place o)
  unfolding enters
  clinit_runs s st n fs b c class place m k h st0 d ab None e = absurd (none_is m e)
  clinit_runs s st n fs b c class place m k h st0 d ab (Some m2) e =
      let same : m.max_locals - 0 ≡ m.max_locals = omega arith in
      let r = enters set loaded ver s.heap class c place m true k h st0 (loaded.coded class place c m k h ab) [] (no_params m.descriptor d) [] tt in
      subst (λ (x : Method). Fine set loaded ver (started_with s n fs class place (Some x))) (sym (some_same m2 m e)) (
        subst (λ (size : ℕ). Frames set loaded ver s.heap (record { class = class; method = place; at = 0; locals = replicate size value.Nothing; stack = []; starts = true } ∷ fs)) same
            (r, below_starts s.heap (described m.descriptor).result fs (no_result m.descriptor d) b),
        st,
      )

  pub clinit_fine : (s : State) (st : Stored set s.heap s.statics) (n : ℕ) (fs : List Active) → Frames set loaded ver s.heap fs → (body : Body) → Runnable set (codes "<clinit>") (codes "()V") body → Fine set loaded ver (run_clinit set s n fs body)
  clinit_fine s st n fs b _ (IsNative id d e) = absurd (apart e)
    where
      apart : (let b : Bool = true in b) ≡ false → ⊥
      apart e = cc
  clinit_fine s st n fs b _ (IsCoded c class place m k h st0 d nm ab) = clinit_runs s st n fs b c class place m k h st0 d ab (method_at set class place) (method_there set loaded ver class c place m k h)
  clinit_fine s st n fs b _ (IsAbstract c class place m k h nm ab) =
      absurd (apart (is_abstract_flag m.flags) ab (loaded.initialisers class place c m k h (ap (λ (t : List ℕ). is_text t (codes "<clinit>")) nm)))
    where
      apart : (b : Bool) → b ≡ true → b ≡ false → ⊥
      apart true e f = cc
      apart false e f = cc

  by_initialiser : (s : State) (st : Stored set s.heap s.statics) (n : ℕ) (fs : List Active) → Frames set loaded ver s.heap fs → (more : Next) → Fine set loaded ver more → (o : Option MethodView) → clinit set n ≡ o
      → Fine set loaded ver (elim o [ Some m ↦ run_clinit set s n fs m.body | None ↦ more ])
  by_initialiser s st n fs b more h None e = h
  by_initialiser s st n fs b more h (Some v) e = clinit_fine s st n fs b v.body (runnable set (codes "<clinit>") (codes "()V") n v e)

  starting_fine : (s : State) (st : Stored set s.heap s.statics) (fs : List Active) (ns : List ℕ) (go : State → Next) → Frames set loaded ver s.heap fs → ((started : List Bool) → Fine set loaded ver (go (record s { started = started }))) → Fine set loaded ver (starting set s fs ns go)
  starting_fine s st fs [] go b h = h s.started
  starting_fine s st fs (n ∷ ns) go b h =
      by_initialiser s st n fs b (starting set (record s { started = marked n s.started }) fs ns go) (starting_fine (record s { started = marked n s.started }) st fs ns go b h) (clinit set n) refl

  by_test : (b : Bool) (x y : Next) → Fine set loaded ver x → Fine set loaded ver y → Fine set loaded ver (cond b x y)
  by_test true x y p q = p
  by_test false x y p q = q

  pub with_started_fine : (s : State) (st : Stored set s.heap s.statics) (fs : List Active) (n : ℕ) (go : State → Next) → Frames set loaded ver s.heap fs → ((started : List Bool) → Fine set loaded ver (go (record s { started = started }))) → Fine set loaded ver (with_started set s fs n go)
  with_started_fine s st fs n go b h =
      by_test (is_started s.started n) (go s) (starting set s fs (unstarted set s n) go) (h s.started) (starting_fine s st fs (unstarted set s n) go b h)

  -- ---- natives

  -- wherever the heap grows to, the frame goes on with values of its type
  abbrev GoesOn : State → Active → List Active → ℕ → Option FieldType → Type 0
  GoesOn s f fs next result = (heap : List Object) → Grows s.heap heap → (vs : List Value) → Fits set heap vs (result_types (option_map type_of_field result)) → Frames set loaded ver heap (record f { at = next; stack = vs ++ f.stack } ∷ fs)

  made_fine : (s : State) (st : Stored set s.heap s.statics) (f : Active) (fs : List Active) (next : ℕ) (result : Option FieldType) (object : Object) → GoesOn s f fs next result → IsRight set result object → Fine set loaded ver (made s f fs next object f.stack)
  made_fine s st f fs next result object go h =
      let heap = s.heap ++ object ∷ [] in (
        go heap (grows_by s.heap (object ∷ [])) (value.Ref (length s.heap) ∷ [])
            (subst (λ (o : Option FieldType). Fits set heap (value.Ref (length s.heap) ∷ []) (result_types (option_map type_of_field o))) (sym h.is) (h.right s.heap, tt)),
        stored_grows set s.heap heap (grows_by s.heap (object ∷ [])) s.statics st,
      )

  line_fine : (s : State) (st : Stored set s.heap s.statics) (f : Active) (fs : List Active) (next : ℕ) (result : Option FieldType) → GoesOn s f fs next result → result ≡ Some text_type → (o : Option Line) → Fine set loaded ver (line_read s f fs next o)
  line_fine s st f fs next result go e None =
      (go s.heap (stays s.heap) (value.Null ∷ []) (subst (λ (o : Option FieldType). Fits set s.heap (value.Null ∷ []) (result_types (option_map type_of_field o))) (sym e) (tt, tt)), st)
  line_fine s st f fs next result go e (Some line) = made_fine (record s { input = line.rest }) st f fs next result (TextObject (text_of_bytes line.bytes)) go (subst (λ (o : Option FieldType). IsRight set o (TextObject (text_of_bytes line.bytes))) (sym e) (a_text set (text_of_bytes line.bytes)))

  native_fine : (s : State) (st : Stored set s.heap s.statics) (f : Active) (fs : List Active) (next : ℕ) (result : Option FieldType) → GoesOn s f fs next result → ((x : BuiltIn) → Fine set loaded ver (thrown set x s (f ∷ fs))) → (e : NativeEffect) → Answers set s.heap result e → Fine set loaded ver (native_step set s f fs next e)
  native_fine s st f fs next result go throws (Gives values) h = (go s.heap (stays s.heap) values h, st)
  native_fine s st f fs next result go throws (Makes object) h = made_fine s st f fs next result object go h
  native_fine s st f fs next result go throws (Writes bytes) h =
      (go s.heap (stays s.heap) [] (subst (λ (o : Option FieldType). Fits set s.heap [] (result_types (option_map type_of_field o))) (sym h) tt), st)
  native_fine s st f fs next result go throws ReadsLine h = line_fine s st f fs next result go h (first_line s.input)
  native_fine s st f fs next result go throws (NativeThrows x) h = throws x
  native_fine s st f fs next result go throws _ h = absurd h

  -- ---- a method's body over its arguments

  pub entered_fine : (s : State) (st : Stored set s.heap s.statics) (fs : List Active) (class place : ℕ) (c : ClassFile) (m : Method) (k : slice_get set.classes class ≡ Some c) (h : slice_get c.methods place ≡ Some m)
      → is_static m ≡ true → is_abstract_flag m.flags ≡ false → (params : List FieldType) → (described m.descriptor).params ≡ map type_of_field params → (args : List Value) → HasAll set s.heap params args
      → Below set loaded ver s.heap (described m.descriptor).result false fs → (o : Option Method) → o ≡ Some m → Fine set loaded ver (entered s fs class place args o)
  unfolding enters
  entered_fine s st fs class place c m k h st0 ab params p args all b None e = absurd (none_is m e)
  entered_fine s st fs class place c m k h st0 ab params p args all b (Some m2) e =
      subst (λ (x : Method). Fine set loaded ver (entered s fs class place args (Some x))) (sym (some_same m2 m e))
      ((enters set loaded ver s.heap class c place m false k h st0 (loaded.coded class place c m k h ab) params p args all, b), st)

  described_so : (d e : List ℕ) (sign : Signature) → d ≡ e → signature e ≡ Some sign → described d ≡ call_of sign
  described_so d e sign s k = ap described s ∙ ap call_or_none k

  pub body_fine : (s : State) (st : Stored set s.heap s.statics) (f : Active) (fs : List Active) (next : ℕ) (args : List Value) (name descriptor : List ℕ) (sign : Signature) → signature descriptor ≡ Some sign → (body : Body) → Runnable set name descriptor body
      → HasAll set s.heap sign.params args → GoesOn s f fs next sign.result → Below set loaded ver s.heap (option_map type_of_field sign.result) false (f ∷ fs) → Fine set loaded ver (run set s f fs next args body)
  body_fine s st f fs next args name descriptor sign signed _ (IsNative id d nc) all go b =
      native_fine s st f fs next sign.result go (λ x. throws_fine set loaded ver x s st (option_map type_of_field sign.result) false (f ∷ fs) b) (native_effect set id s.heap args) (native_right set loaded id sign (ap signature (sym d) ∙ signed) s.heap args all)
  body_fine s st f fs next args name descriptor sign signed _ (IsCoded c class place m k h st0 d nm ab) all go b =
      let so = described_so m.descriptor descriptor sign d signed in
      entered_fine s st (f ∷ fs) class place c m k h st0 ab sign.params (ap (λ (x : _). x.params) so) args all
      (subst (λ (r : Option VType). Below set loaded ver s.heap r false (f ∷ fs)) (sym (ap (λ (x : _). x.result) so)) b) (method_at set class place) (method_there set loaded ver class c place m k h)
  body_fine s st f fs next args name descriptor sign signed _ (IsAbstract c class place m k h nm ab) all go b = throws_fine set loaded ver built_in.AbstractMethodError s st (option_map type_of_field sign.result) false (f ∷ fs) b

  -- ---- returns

  no_values : (heap : List Object) (values : List Value) (result : Option VType) → result ≡ None → Fits set heap values (result_types result) → values ≡ []
  no_values heap [] result e h = refl
  no_values heap (v ∷ vs) result e h = absurd (subst (λ (r : Option VType). Fits set heap (v ∷ vs) (result_types r)) e h)

  valueless_fine : (s : State) (values : List Value) (next : Next) → values ≡ [] → Fine set loaded ver next → Fine set loaded ver (without_value s values next)
  valueless_fine s [] next e h = h
  valueless_fine s (v ∷ vs) next e h = absurd (some_value v vs e)
    where
      some_value : (v : Value) (vs : List Value) → v ∷ vs ≡ [] → ⊥
      some_value v vs e = cc

  resumed_fine : (s : State) (st : Stored set s.heap s.statics) (values : List Value) (f : Active) (fs : List Active) (result : Option VType) (w : Waits set loaded ver s.heap result f) → Below set loaded ver s.heap (gives set loaded ver f w.placed) f.starts fs → Fits set s.heap values (result_types result)
      → (o : Option Instr) → o ≡ Some w.start.instr → Fine set loaded ver (resumed s values f fs o)
  resumed_fine s st values f fs result w b h None e = absurd (none_is w.start.instr e)
  resumed_fine s st values f fs result w b h (Some i) e =
      let at = f.at + length_of w.start.instr in
      let r : Runs set loaded ver s.heap (record f { at = at; stack = values ++ f.stack }) = record {
        placed = record { c = w.placed.c; m = w.placed.m; class_is = w.placed.class_is; method_is = w.placed.method_is; room = w.placed.room };
        start = w.next;
        locals = w.locals;
        stack = w.goes s.heap (values ++ f.stack) (Fits-append set s.heap values f.stack (result_types result) w.types h w.below);
      } in
      subst (λ (x : Instr). Fine set loaded ver (resumed s values f fs (Some x))) (sym (some_same i w.start.instr e)) ((r, b), st)

  handed_fine : (s : State) (st : Stored set s.heap s.statics) (values : List Value) (fs : List Active) (result : Option VType) → Below set loaded ver s.heap result false fs → Fits set s.heap values (result_types result) → Fine set loaded ver (handed set s values fs)
  handed_fine s st values [] result b h = valueless_fine s values (Over Ended s.out) (no_values s.heap values result b h) tt
  handed_fine s st values (f ∷ fs) result b h = resumed_fine s st values f fs result b.0 b.1 h (fetch set f.class f.method f.at) (fetched set loaded ver f b.0.placed b.0.start)

  pub returned_fine : (s : State) (st : Stored set s.heap s.statics) (values : List Value) (f : Active) (fs : List Active) (result : Option VType) → Below set loaded ver s.heap result f.starts fs → Fits set s.heap values (result_types result) → Fine set loaded ver (returned set s values f fs)
  returned_fine s st values f fs result b h = by f.starts fs b
    where
      by : (first : Bool) (fs : List Active) → Below set loaded ver s.heap result first fs → Fine set loaded ver (cond first (without_value s values (Going (record s { frames = fs }))) (handed set s values fs))
      by true [] b = valueless_fine s values (Going (record s { frames = [] })) (no_values s.heap values result b h) (tt, st)
      by true (g ∷ gs) b = valueless_fine s values (Going (record s { frames = g ∷ gs })) (no_values s.heap values result b.0 h) (b.1, st)
      by false fs b = handed_fine s st values fs result b h
