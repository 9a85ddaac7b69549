-- What the machine does at an instruction for each operation.
use Rattle.std.proofs.Common.{◌≡◌, ℕ, ◌+◌, List, [], ◌∷◌, ◌++◌, length, Option, Some, None, Bool, true, false, refl, ap, ◌∙◌, ⊎_elim}
use Rattle.std.specs.Prelude.{slice_get, slice_set, ℤ, pos, nat_lt, if◌then◌else◌, ◌||◌, ◌-◌}
use Rattle.std.specs.Fmt.{signed_decimal}
use Rattle.std.specs.Int.{w32, int_wrapping_neg}
use Rattle.kc_text.specs.Unicode.{utf8_of}
use Rattle.kc_core.specs.Values.{truth_text}
use Rattle.kc_core.specs.Meaning.{State as Known}
use Rattle.class_file.specs.declared.value.Value.{Value as Slot}
use Rattle.class_file.specs.declared.value.Value.TheVariants as slot
use Rattle.class_file.specs.declared.value.Kind.{Kind as SlotKind}
use Rattle.stack_code.specs.declared.constants.Helper.{Helper}
use Rattle.stack_code.specs.declared.constants.Helper.TheVariants as helper
use Rattle.class_file.specs.declared.row.Row.{Row}
use Rattle.class_file.specs.declared.row.Row.TheVariants as row
use Rattle.class_file.specs.declared.row.Operator.{Operator}
use Rattle.class_file.specs.declared.row.Test.{Test}
use Rattle.class_file.specs.declared.class.Set.{Set}
use Rattle.class_file.specs.Rows.{row_of, target}
use Rattle.class_file.specs.Pools.{Constant, Number, Literal}
use Rattle.class_file.specs.Natives.{Object, TextObject, NativeEffect, Makes, Writes, native_effect, text_in, given_text, as_text, both_texts, text_argument}
use Rattle.class_file.specs.Lots.{CallsNative, native_params, native_called}
use Rattle.class_file.specs.Machine.{Active, State, Next, Static, callee, with, with_started, is_marked, starting, unstarted, Popped, popped, static_call, step, on_from, resolve, constant, effect, after, executed, loaded, invoked, run, native_step, has_kind, is_narrow, int_answer, or_zero_divisor, holds, handed, places, stored, Effect, Goes, Fails}
use Rattle.stack_code.specs.Code.{native_of, Operation, PushInt, PushText, Load, Store, Compute, Negate, Discard, Call, Jump, JumpIf, JumpCompare, Leave, bytes_of, bit}
use Rattle.stack_code.specs.Implements.{Activation, running as frame, state_at as state}
use Rattle.stack_code.proofs.Runs.{live, At}

module _ (set : Set) (o : Activation) where
  -- a step is what the effect of the instruction's row makes of the state
  executes : (at : ℕ) (ls st : List Slot) (h : List Object) (s : Known) (op : Operation) (a : At set o at op) → on_from set 1 (live o at ls st h s) ≡ after set (state o at ls st h s) (frame o at ls st) o.rest (at + bytes_of op) (effect (row_of at a.instr) (at + bytes_of op) ls st)
  unfolding step
  executes at ls st h s op a =
      ap (executed set (state o at ls st h s) (frame o at ls st) o.rest) a.fetched
      ∙ ap (λ n. after set (state o at ls st h s) (frame o at ls st) o.rest (at + n) (effect (row_of at a.instr) (at + n) ls st)) a.long

  -- the same by the row
  by_row : (at : ℕ) (ls st : List Slot) (h : List Object) (s : Known) (op : Operation) (a : At set o at op) (r : Row) → row_of at a.instr ≡ r → on_from set 1 (live o at ls st h s) ≡ after set (state o at ls st h s) (frame o at ls st) o.rest (at + bytes_of op) (effect r (at + bytes_of op) ls st)
  by_row at ls st h s op a r e = executes at ls st h s op a ∙ ap (λ x. after set (state o at ls st h s) (frame o at ls st) o.rest (at + bytes_of op) (effect x (at + bytes_of op) ls st)) e

  by_constant : (at : ℕ) (ls st : List Slot) (h : List Object) (s : Known) (op : Operation) (a : At set o at op) (k : ℕ) (c : Constant) → row_of at a.instr ≡ row.PushConstant k → constant set o.class k ≡ Some c → on_from set 1 (live o at ls st h s) ≡ loaded (state o at ls st h s) (frame o at ls st) o.rest (at + bytes_of op) (Some c)
  by_constant at ls st h s op a k c e f = by_row at ls st h s op a (row.PushConstant k) e ∙ ap (loaded (state o at ls st h s) (frame o at ls st) o.rest (at + bytes_of op)) f

  pub push_int : (at : ℕ) (ls st : List Slot) (h : List Object) (s : Known) (z : ℤ) → At set o at (PushInt z) → on_from set 1 (live o at ls st h s) ≡ live o (at + bytes_of (PushInt z)) ls (slot.Int z ∷ st) h s
  unfolding constant
  push_int at ls st h s z a =
      ⊎_elim (λ e. by_row at ls st h s (PushInt z) a (row.PushInt z) e) (λ p. by_constant at ls st h s (PushInt z) a p.0 (Number z) p.1 p.2) a.stands

  pub push_text : (at : ℕ) (ls st : List Slot) (h : List Object) (s : Known) (t : List ℕ) → At set o at (PushText t) → on_from set 1 (live o at ls st h s) ≡ live o (at + 3) ls (slot.Ref (length h) ∷ st) (h ++ TextObject t ∷ []) s
  unfolding constant
  push_text at ls st h s t a = by_constant at ls st h s (PushText t) a a.stands.0 (Literal t) a.stands.1 a.stands.2

  pub load : (at : ℕ) (ls st : List Slot) (h : List Object) (s : Known) (k : SlotKind) (x : ℕ) (v : Slot) → At set o at (Load k x) → slice_get ls x ≡ Some v → has_kind k v ≡ true → on_from set 1 (live o at ls st h s) ≡ live o (at + bytes_of (Load k x)) ls (v ∷ st) h s
  load at ls st h s k x v a e f =
      by_row at ls st h s (Load k x) a (row.Load k x) a.stands
      ∙ ap (after set (state o at ls st h s) (frame o at ls st) o.rest (at + bytes_of (Load k x))) (found (slice_get ls x) v e)
      ∙ ap (λ b. after set (state o at ls st h s) (frame o at ls st) o.rest (at + bytes_of (Load k x)) (if b then Goes (at + bytes_of (Load k x)) ls (v ∷ st) else Fails)) f
    where
      found : (w : Option Slot) (v : Slot) → w ≡ Some v → (elim w [ Some v ↦ if has_kind k v then Goes (at + bytes_of (Load k x)) ls (v ∷ st) else Fails | None ↦ Fails ]) ≡ (if has_kind k v then Goes (at + bytes_of (Load k x)) ls (v ∷ st) else Fails)
      found w v e = rw e refl

  pub negate : (at : ℕ) (ls st : List Slot) (h : List Object) (s : Known) (z : ℤ) → At set o at Negate → on_from set 1 (live o at ls (slot.Int z ∷ st) h s) ≡ live o (at + 1) ls (slot.Int (int_wrapping_neg w32 z) ∷ st) h s
  negate at ls st h s z a = by_row at ls (slot.Int z ∷ st) h s Negate a row.IntNeg a.stands

  pub discard : (at : ℕ) (ls st : List Slot) (h : List Object) (s : Known) (v : Slot) → At set o at Discard → is_narrow v ≡ true → on_from set 1 (live o at ls (v ∷ st) h s) ≡ live o (at + 1) ls st h s
  discard at ls st h s v a e =
      by_row at ls (v ∷ st) h s Discard a row.Pop a.stands
      ∙ ap (λ b. after set (state o at ls (v ∷ st) h s) (frame o at ls (v ∷ st)) o.rest (at + 1) (if b then Goes (at + 1) ls st else Fails)) e

  pub compute : (at : ℕ) (ls st : List Slot) (h : List Object) (s : Known) (p : Operator) (x y : ℤ) → At set o at (Compute p) → on_from set 1 (live o at ls (slot.Int y ∷ slot.Int x ∷ st) h s) ≡ after set (state o at ls (slot.Int y ∷ slot.Int x ∷ st) h s) (frame o at ls (slot.Int y ∷ slot.Int x ∷ st)) o.rest (at + 1) (or_zero_divisor (int_answer p x y) (λ n. Goes (at + 1) ls (slot.Int n ∷ st)))
  compute at ls st h s p x y a = by_row at ls (slot.Int y ∷ slot.Int x ∷ st) h s (Compute p) a (row.IntBinary p) a.stands

  pub jump : (at : ℕ) (ls st : List Slot) (h : List Object) (s : Known) (d : ℤ) (to : ℕ) → At set o at (Jump d) → target at d ≡ to → on_from set 1 (live o at ls st h s) ≡ live o to ls st h s
  jump at ls st h s d to a e = by_row at ls st h s (Jump d) a (row.Goto (target at d)) a.stands ∙ ap (λ n. live o n ls st h s) e

  pub jump_if : (at : ℕ) (ls st : List Slot) (h : List Object) (s : Known) (t : Test) (n : ℕ) (z : ℤ) (b : Bool) → At set o at (JumpIf t n) → holds t z (pos 0) ≡ b → on_from set 1 (live o at ls (slot.Int z ∷ st) h s) ≡ live o (if b then at + n else at + 3) ls st h s
  jump_if at ls st h s t n z b a e = by_row at ls (slot.Int z ∷ st) h s (JumpIf t n) a (row.IfZero t (at + n)) a.stands ∙ ap (λ b. live o (if b then at + n else at + 3) ls st h s) e

  pub jump_compare : (at : ℕ) (ls st : List Slot) (h : List Object) (s : Known) (t : Test) (n : ℕ) (x y : ℤ) (b : Bool) → At set o at (JumpCompare t n) → holds t x y ≡ b → on_from set 1 (live o at ls (slot.Int y ∷ slot.Int x ∷ st) h s) ≡ live o (if b then at + n else at + 3) ls st h s
  jump_compare at ls st h s t n x y b a e = by_row at ls (slot.Int y ∷ slot.Int x ∷ st) h s (JumpCompare t n) a (row.IfCompare t (at + n)) a.stands ∙ ap (λ b. live o (if b then at + n else at + 3) ls st h s) e

  -- a store of a value that takes one place
  pub store : (at : ℕ) (ls st : List Slot) (h : List Object) (s : Known) (k : SlotKind) (x : ℕ) (v : Slot) → At set o at (Store k x) → has_kind k v ≡ true → nat_lt (length ls) (x + places k) ≡ false → stored k x v ls ≡ slice_set ls x v → on_from set 1 (live o at ls (v ∷ st) h s) ≡ live o (at + bytes_of (Store k x)) (slice_set ls x v) st h s
  store at ls st h s k x v a e f g =
      by_row at ls (v ∷ st) h s (Store k x) a (row.Store k x) a.stands
      ∙ ap (λ b. A (if b then (if nat_lt (length ls) (x + places k) then Fails else Goes n (stored k x v ls) st) else Fails)) e
      ∙ ap (λ b. A (if b then Fails else Goes n (stored k x v ls) st)) f
      ∙ ap (λ l. A (Goes n l st)) g
    where
      n : ℕ
      n = at + bytes_of (Store k x)

      A : Effect → Next
      A w = after set (state o at ls (v ∷ st) h s) (frame o at ls (v ∷ st)) o.rest (at + bytes_of (Store k x)) w

  by_call : (at : ℕ) (ls st : List Slot) (h : List Object) (s : Known) (m : Helper) → At set o at (Call m) → (p : Popped) → popped (native_params (native_of m)) st ≡ Some p → on_from set 1 (live o at ls st h s) ≡ native_step set (state o at ls st h s) (frame o at ls p.rest) o.rest (at + 3) (native_effect set (native_of m) h p.args)
  unfolding resolve
  by_call at ls st h s m a p e =
      by_row at ls st h s (Call m) a (row.InvokeStatic a.stands.0) a.stands.1
      ∙ ap (λ n. invoked set now f o.rest (at + 3) Static (callee set Static n)) a.stands.2.named_is
      ∙ ap (invoked set now f o.rest (at + 3) Static) c.is
      ∙ ⊎_elim (λ q. started 25 c.callee.found.class q refl) (λ q. started 26 c.callee.found.class q refl) c.built_in
      ∙ ap (λ params. with now (popped params st) enters) c.params
      ∙ ap (λ w. with now w enters) e
      ∙ ap (run set now (frame o at ls p.rest) o.rest (at + 3) p.args) c.native
    where
      now : State
      now = state o at ls st h s

      f : Active
      f = frame o at ls st

      c : CallsNative (callee set Static (Some (record { is_interface = false; member = a.stands.2.member }))) (native_of m)
      c = native_called set (native_of m) a.stands.2.member a.stands.2.is

      enters : Popped → Next
      enters w = run set now (frame o at ls w.rest) o.rest (at + 3) w.args c.callee.found.method.body

      -- a built-in class has nothing to initialise
      started : (n class : ℕ) → class ≡ n → nat_lt n 37 ≡ true → with_started set now (f ∷ o.rest) class (λ t. static_call set t f o.rest (at + 3) c.callee) ≡ static_call set now f o.rest (at + 3) c.callee
      started n class q lt =
          ap (λ k. with_started set now (f ∷ o.rest) k (λ t. static_call set t f o.rest (at + 3) c.callee)) q
          ∙ ap (λ b. if b || is_marked (slice_get o.started (n - 37)) then static_call set now f o.rest (at + 3) c.callee else starting set now (f ∷ o.rest) (unstarted set now n) (λ t. static_call set t f o.rest (at + 3) c.callee)) lt

  -- a native over its arguments, with what is left of the stack below
  abbrev makes : ℕ → List Slot → List Slot → List Slot → List Object → Known → NativeEffect → Next
  makes at ls st rest h s e = native_step set (state o at ls st h s) (frame o at ls rest) o.rest (at + 3) e

  pub call_of_int : (at : ℕ) (ls st : List Slot) (h : List Object) (s : Known) (z : ℤ) → At set o at (Call helper.TextsOfInt) → on_from set 1 (live o at ls (slot.Int z ∷ st) h s) ≡ live o (at + 3) ls (slot.Ref (length h) ∷ st) (h ++ TextObject (signed_decimal z) ∷ []) s
  unfolding native_effect
  call_of_int at ls st h s z a = by_call at ls (slot.Int z ∷ st) h s helper.TextsOfInt a (record { args = slot.Int z ∷ []; rest = st }) refl

  pub call_of_boolean : (at : ℕ) (ls st : List Slot) (h : List Object) (s : Known) (b : Bool) → At set o at (Call helper.TextsOfBoolean) → on_from set 1 (live o at ls (slot.Int (bit b) ∷ st) h s) ≡ live o (at + 3) ls (slot.Ref (length h) ∷ st) (h ++ TextObject (truth_text b) ∷ []) s
  unfolding native_effect
  call_of_boolean at ls st h s true a = by_call at ls (slot.Int (pos 1) ∷ st) h s helper.TextsOfBoolean a (record { args = slot.Int (pos 1) ∷ []; rest = st }) refl
  call_of_boolean at ls st h s false a = by_call at ls (slot.Int (pos 0) ∷ st) h s helper.TextsOfBoolean a (record { args = slot.Int (pos 0) ∷ []; rest = st }) refl

  pub call_concat : (at : ℕ) (ls st : List Slot) (h : List Object) (s : Known) (r q : ℕ) (t u : List ℕ) → At set o at (Call helper.TextsConcat) → slice_get h r ≡ Some (TextObject t) → slice_get h q ≡ Some (TextObject u) → on_from set 1 (live o at ls (slot.Ref q ∷ slot.Ref r ∷ st) h s) ≡ live o (at + 3) ls (slot.Ref (length h) ∷ st) (h ++ TextObject (t ++ u) ∷ []) s
  unfolding native_effect
  call_concat at ls st h s r q t u a e f =
      by_call at ls (slot.Ref q ∷ slot.Ref r ∷ st) h s helper.TextsConcat a (record { args = slot.Ref r ∷ slot.Ref q ∷ []; rest = st }) refl
      ∙ ap (λ (w : Option Object). makes at ls (slot.Ref q ∷ slot.Ref r ∷ st) st h s (both_texts (as_text (text_in w)) (text_argument h (slot.Ref q)) (λ first second. Makes (TextObject (first ++ second))))) e
      ∙ ap (λ (w : Option Object). makes at ls (slot.Ref q ∷ slot.Ref r ∷ st) st h s (both_texts (as_text (Some t)) (as_text (text_in w)) (λ first second. Makes (TextObject (first ++ second))))) f

  pub call_write : (at : ℕ) (ls st : List Slot) (h : List Object) (s : Known) (r : ℕ) (t : List ℕ) → At set o at (Call helper.ConsoleWrite) → slice_get h r ≡ Some (TextObject t) → on_from set 1 (live o at ls (slot.Ref r ∷ st) h s) ≡ live o (at + 3) ls st h (record s { out = s.out ++ utf8_of t })
  unfolding native_effect
  call_write at ls st h s r t a e =
      by_call at ls (slot.Ref r ∷ st) h s helper.ConsoleWrite a (record { args = slot.Ref r ∷ []; rest = st }) refl
      ∙ ap (λ (w : Option Object). makes at ls (slot.Ref r ∷ st) st h s (given_text (text_in w) (λ units. Writes (utf8_of units)))) e

  -- a return without value
  pub leave : (at : ℕ) (ls st : List Slot) (h : List Object) (s : Known) → At set o at Leave → on_from set 1 (live o at ls st h s) ≡ handed set (state o at ls st h s) [] o.rest
  leave at ls st h s a = by_row at ls st h s Leave a row.Return a.stands
