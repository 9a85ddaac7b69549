-- A row whose types pass does not fail, and leaves values of the types after it.
use Rattle.std.proofs.Common.{drop, ◌≡◌, ℕ, ◌+◌, ◌≤◌, Bool, true, false, cond, List, [], ◌∷◌, length, Option, Some, None, refl, sym, ap, subst, ◌∙◌, ℤ, pos}
use Rattle.std.specs.Prelude.{slice_get, slice_set, Ok, Err, nat_lt}
use Rattle.std.specs.Int.{w32, int_wrapping_add}
use Rattle.std.proofs.lemmas.List.{length-set}
use Rattle.std.proofs.lemmas.Bool.{le-ltb}
use Rattle.class_file.specs.declared.value.Value.{Value}
use Rattle.class_file.specs.declared.value.Value.TheVariants as value
use Rattle.class_file.specs.declared.class.VType.{VType}
use Rattle.class_file.specs.declared.class.VType.TheVariants as vtype
use Rattle.class_file.specs.declared.value.Kind.{Kind}
use Rattle.class_file.specs.declared.value.Kind.TheVariants as kinds
use Rattle.class_file.specs.declared.row.Row.{Row}
use Rattle.class_file.specs.declared.row.Row.TheVariants as row
use Rattle.class_file.specs.declared.class.ClassFile.{ClassFile}
use Rattle.class_file.specs.declared.class.Method.{Method}
use Rattle.class_file.specs.declared.class.Set.{Set}
use Rattle.class_file.specs.declared.verify_code.VerifyCode.{VerifyCode}
use Rattle.class_file.specs.declared.verify_code.VerifyCode.TheVariants.{WrongType}
use Rattle.class_file.specs.Natives.{Object}
use Rattle.class_file.specs.Machine.{GetsStatic, PutsStatic, Static, Effect, Goes, Throws, LoadsConstant, LoadsLong, Compares, Invokes, Returns, Fails, effect, on_int, on_long, on_narrow, on_kind, on_ref, on_local, has_kind, is_narrow, places, stored, or_zero_divisor, incremented, int_answer, long_answer, holds, branch, is_null}
use Rattle.class_file.specs.Members.{assignable, described, FieldUse, field_use}
use Rattle.class_file.specs.Typing.{misuses, worse, left, Types, Verdict, typed, t_int, t_long, t_narrow, t_kind, t_pop2, t_dup2, t_increment, t_reference, t_stored, t_returned, t_return, t_load, is_kind, takes_one, kind_width, reaches, result_types, refuse, misuse}
use Rattle.class_file.specs.Verification.{jump_of, goes_on}
use Rattle.class_soundness.specs.Soundness.{IsLoaded, is_covered}
use Rattle.class_soundness.proofs.Fits.{Has, Fits, Has-kind, Has-narrow, Fits-get, Fits-stored, Fits-put, Has-assign}

-- the frame comes so to a place where its values have the types that are wanted
pub record Comes (set : Set) (heap : List Object) (P : ℕ → Type 0) (size : ℕ) (after : Types) (at : ℕ) (locals stack : List Value) : Type 0 where
  pub to : P at
  pub locals_fit : Fits set heap locals after.locals
  pub stack_fits : Fits set heap stack after.stack
  pub same : length locals ≡ size

-- the frame comes so to the next instruction, with a value of the type of a static field
pub record Puts (set : Set) (class : ClassFile) (heap : List Object) (P : ℕ → Type 0) (size : ℕ) (after : Types) (next : ℕ) (locals rest : List Value) (i : ℕ) (v : Value) : Type 0 where
  pub comes : Comes set heap P size after next locals rest
  pub use_ : FieldUse
  pub is : field_use set true class i ≡ Some use_
  pub has : Has set heap v use_.type

-- what an effect leaves has the types after it, and is at a place that may follow
abbrev pub Sound : Set → ClassFile → List Object → Option VType → (ℕ → Type 0) → ℕ → List Value → Row → Types → Effect → Type 0
Sound set class heap result P next ls r after (Goes at locals stack) = Comes set heap P (length ls) after at locals stack
Sound set class heap result P next ls r after (Throws x) = Unit {0}
Sound set class heap result P next ls r after (LoadsConstant i) = r ≡ row.PushConstant i
Sound set class heap result P next ls r after (LoadsLong i) = r ≡ row.PushLongConstant i
Sound set class heap result P next ls r after (Compares wanted to v w rest) = Comes set heap P (length ls) after to ls rest × Comes set heap P (length ls) after next ls rest
Sound set class heap result P next ls r after (Invokes Static i) = r ≡ row.InvokeStatic i
Sound set class heap result P next ls r after (Returns values) = Fits set heap values (result_types result)
Sound set class heap result P next ls r after (GetsStatic i) = r ≡ row.GetStatic i
Sound set class heap result P next ls r after (PutsStatic i v rest) = Puts set class heap P (length ls) after next ls rest i v
Sound set class heap result P next ls r after _ = ⊥

pub verdict_types : (x y : Types) → (let o : Verdict = Ok x in o) ≡ Ok y → x ≡ y
verdict_types x y e = cc

pub no_verdict : (c : VerifyCode) (y : Types) → (let o : Verdict = Err c in o) ≡ Ok y → ⊥
no_verdict c y e = cc

pub guard : (b : Bool) (v : Verdict) (c : VerifyCode) (after : Types) → cond b v (Err c) ≡ Ok after → (b ≡ true) × (v ≡ Ok after)
guard true v c after e = (refl, e)
guard false v c after e = absurd (no_verdict c after e)

pub guard_not : (b : Bool) (v : Verdict) (c : VerifyCode) (after : Types) → cond b (Err c) v ≡ Ok after → (b ≡ false) × (v ≡ Ok after)
guard_not false v c after e = (refl, e)
guard_not true v c after e = absurd (no_verdict c after e)

pub refuses_not : (o : Option VerifyCode) (v : Verdict) (after : Types) → refuse o v ≡ Ok after → (o ≡ None) × (v ≡ Ok after)
refuses_not None v after e = (refl, e)
refuses_not (Some c) v after e = absurd (no_verdict c after e)

some_code : (c : Bool) (x y : VerifyCode) → (let o : Option VerifyCode = cond c (Some x) (Some y) in o) ≡ None → ⊥
some_code true x y e = cc
some_code false x y e = cc

no_code : (b c : Bool) (x y : VerifyCode) → (let o : Option VerifyCode = cond b None (cond c (Some x) (Some y)) in o) ≡ None → b ≡ true
no_code true c x y e = refl
no_code false c x y e = absurd (some_code c x y e)

pub used_well : (set : Set) (w t : VType) → misuse set w t ≡ None → assignable set t w ≡ true
used_well set w t e = no_code (assignable set t w) _ _ _ e

pub worse_none : (a b : Option VerifyCode) → worse a b ≡ None → (a ≡ None) × (b ≡ None)
worse_none None b e = (refl, e)
worse_none (Some WrongType) b e = absurd cc
worse_none (Some c) None e = absurd cc
worse_none (Some c) (Some d) e = absurd cc

neither : (b : Bool) (x y : VerifyCode) (after : Types) → (let v : Verdict = cond b (Err x) (Err y) in v) ≡ Ok after → ⊥
neither true x y after e = cc
neither false x y after e = cc

as_width : (k : Kind) → places k ≡ kind_width k
as_width kinds.Int = refl
as_width kinds.Long = refl
as_width kinds.Ref = refl

stored_length : (k : Kind) (i : ℕ) (v : Value) (ls : List Value) → length (stored k i v ls) ≡ length ls
stored_length kinds.Int i v ls = length-set ls i v
stored_length kinds.Long i v ls = length-set (slice_set ls i v) (i + 1) value.Nothing ∙ length-set ls i v
stored_length kinds.Ref i v ls = length-set ls i v

module _ (set : Set) (loaded : IsLoaded set) (class : ClassFile) (heap : List Object) (result : Option VType) (P : ℕ → Type 0) (next : ℕ) (ls : List Value) (r : Row) (after : Types) where
  abbrev Good : Effect → Type 0
  Good e = Sound set class heap result P next ls r after e

  -- an Int is taken off
  int_sound : (ts : List VType) (vs : List Value) (go : List VType → Verdict) (run : ℤ → List Value → Effect) → Fits set heap vs ts → t_int ts go ≡ Ok after
      → ((rest : List VType) (n : ℤ) (below : List Value) → go rest ≡ Ok after → Fits set heap below rest → Good (run n below)) → Good (on_int vs run)
  int_sound (vtype.Integer ∷ ts) (value.Int n ∷ vs) go run h e k = k ts n vs e h.1
  int_sound (vtype.Integer ∷ ts) [] go run h e k = absurd h
  int_sound (vtype.Integer ∷ ts) (_ ∷ vs) go run h e k = absurd h.0
  int_sound [] vs go run h e k = absurd cc
  int_sound (_ ∷ ts) vs go run h e k = absurd cc

  long_sound : (ts : List VType) (vs : List Value) (go : List VType → Verdict) (run : ℤ → List Value → Effect) → Fits set heap vs ts → t_long ts go ≡ Ok after
      → ((rest : List VType) (n : ℤ) (below : List Value) → go rest ≡ Ok after → Fits set heap below rest → Good (run n below)) → Good (on_long vs run)
  long_sound (vtype.Long ∷ ts) (value.Long n ∷ vs) go run h e k = k ts n vs e h.1
  long_sound (vtype.Long ∷ ts) [] go run h e k = absurd h
  long_sound (vtype.Long ∷ ts) (_ ∷ vs) go run h e k = absurd h.0
  long_sound [] vs go run h e k = absurd cc
  long_sound (_ ∷ ts) vs go run h e k = absurd cc

  reference_sound : (ts : List VType) (vs : List Value) (go : List VType → Verdict) (run : Value → List Value → Effect) → Fits set heap vs ts → t_reference ts go ≡ Ok after
      → ((rest : List VType) (v : Value) (below : List Value) → go rest ≡ Ok after → Fits set heap below rest → Good (run v below)) → Good (on_ref vs run)
  reference_sound (vtype.Null ∷ ts) (value.Null ∷ vs) go run h e k = k ts value.Null vs e h.1
  reference_sound (vtype.Null ∷ ts) [] go run h e k = absurd h
  reference_sound (vtype.Null ∷ ts) (_ ∷ vs) go run h e k = absurd h.0
  reference_sound (vtype.Object c ∷ ts) (value.Null ∷ vs) go run h e k = k ts value.Null vs e h.1
  reference_sound (vtype.Object c ∷ ts) (value.Ref x ∷ vs) go run h e k = k ts (value.Ref x) vs e h.1
  reference_sound (vtype.Object c ∷ ts) [] go run h e k = absurd h
  reference_sound (vtype.Object c ∷ ts) (_ ∷ vs) go run h e k = absurd h.0
  reference_sound (vtype.UninitializedThis ∷ ts) [] go run h e k = absurd h
  reference_sound (vtype.UninitializedThis ∷ ts) (v ∷ vs) go run h e k = absurd h.0
  reference_sound (vtype.Uninitialized p ∷ ts) [] go run h e k = absurd h
  reference_sound (vtype.Uninitialized p ∷ ts) (v ∷ vs) go run h e k = absurd h.0
  reference_sound [] vs go run h e k = absurd cc
  reference_sound (_ ∷ ts) vs go run h e k = absurd cc

  if_true : (b : Bool) (x y : Effect) → b ≡ true → Good x → Good (cond b x y)
  if_true true x y e h = h
  if_true false x y e h = absurd cc

  if_false : (b : Bool) (x y : Effect) → b ≡ false → Good y → Good (cond b x y)
  if_false true x y e h = absurd cc
  if_false false x y e h = h

  narrow_sound : (ts : List VType) (vs : List Value) (go : VType → List VType → Verdict) (run : Value → List Value → Effect) → Fits set heap vs ts → t_narrow ts go ≡ Ok after
      → ((t : VType) (rest : List VType) (v : Value) (below : List Value) → go t rest ≡ Ok after → Has set heap v t → Fits set heap below rest → Good (run v below)) → Good (on_narrow vs run)
  narrow_sound [] vs go run h e k = absurd cc
  narrow_sound (t ∷ ts) [] go run h e k = absurd h
  narrow_sound (t ∷ ts) (v ∷ vs) go run h e k =
      let g = guard (takes_one t) (go t ts) WrongType after e in
      if_true (is_narrow v) (run v vs) Fails (Has-narrow set heap v t g.0 h.0) (k t ts v vs g.1 h.0 h.1)

  kind_sound : (kind : Kind) (ts : List VType) (vs : List Value) (go : VType → List VType → Verdict) (run : Value → List Value → Effect) → Fits set heap vs ts → t_kind kind ts go ≡ Ok after
      → ((t : VType) (rest : List VType) (v : Value) (below : List Value) → go t rest ≡ Ok after → Has set heap v t → Fits set heap below rest → Good (run v below)) → Good (on_kind kind vs run)
  kind_sound kind [] vs go run h e k = absurd cc
  kind_sound kind (t ∷ ts) [] go run h e k = absurd h
  kind_sound kind (t ∷ ts) (v ∷ vs) go run h e k =
      let g = guard (is_kind kind t) (go t ts) WrongType after e in
      if_true (has_kind kind v) (run v vs) Fails (Has-kind set heap kind v t g.0 h.0) (k t ts v vs g.1 h.0 h.1)

  -- the types after are these
  comes : (x : Types) (at : ℕ) (locals stack : List Value) → (let o : Verdict = Ok x in o) ≡ Ok after → P at → Fits set heap locals x.locals → Fits set heap stack x.stack → length locals ≡ length ls → Comes set heap P (length ls) after at locals stack
  comes x at locals stack e p l s n =
      let is = verdict_types x after e in
      record { to = p; locals_fit = subst (λ (t : Types). Fits set heap locals t.locals) is l; stack_fits = subst (λ (t : Types). Fits set heap stack t.stack) is s; same = n }

  divides : (o : Option ℤ) (run : ℤ → Effect) → ((n : ℤ) → Good (run n)) → Good (or_zero_divisor o run)
  divides None run k = tt
  divides (Some n) run k = k n

  -- one of two places
  one_of : (b : Bool) (to : ℕ) → P to → P next → P (cond b to next)
  one_of true to p q = p
  one_of false to p q = q

  branched : (wanted so : Bool) (to : ℕ) → P to → P next → P (branch wanted so to next)
  branched true so to p q = one_of so to p q
  branched false true to p q = q
  branched false false to p q = p

  narrow_twice : (ts : List VType) (vs : List Value) (go : List VType → Verdict) (run : List Value → Effect) → Fits set heap vs ts → t_narrow ts (λ t more. t_narrow more (λ u below. go below)) ≡ Ok after
      → ((rest : List VType) (below : List Value) → go rest ≡ Ok after → Fits set heap below rest → Good (run below)) → Good (on_narrow vs (λ v rest. on_narrow rest (λ w below. run below)))
  narrow_twice ts vs go run h e k =
      narrow_sound ts vs (λ t more. t_narrow more (λ u below. go below)) (λ v rest. on_narrow rest (λ w below. run below)) h e
      (λ t rest v below e1 hv f. narrow_sound rest below (λ u more. go more) (λ w more. run more) f e1 (λ u rest2 w below2 e2 hw f2. k rest2 below2 e2 f2))

  pop2_sound : (ts : List VType) (vs : List Value) (go : List VType → Verdict) → Fits set heap vs ts → t_pop2 ts go ≡ Ok after
      → ((rest : List VType) (below : List Value) → go rest ≡ Ok after → Fits set heap below rest → Good (Goes next ls below)) → Good (effect row.Pop2 next ls vs)
  pop2_sound (vtype.Long ∷ ts) (value.Long n ∷ vs) go h e k = k ts vs e h.1
  pop2_sound (vtype.Long ∷ ts) [] go h e k = absurd h
  pop2_sound (vtype.Long ∷ ts) (_ ∷ vs) go h e k = absurd h.0
  pop2_sound (vtype.Integer ∷ ts) (value.Int n ∷ vs) go h e k = narrow_twice (vtype.Integer ∷ ts) (value.Int n ∷ vs) go (λ b. Goes next ls b) h e k
  pop2_sound (vtype.Integer ∷ ts) [] go h e k = absurd h
  pop2_sound (vtype.Integer ∷ ts) (_ ∷ vs) go h e k = absurd h.0
  pop2_sound (vtype.Null ∷ ts) (value.Null ∷ vs) go h e k = narrow_twice (vtype.Null ∷ ts) (value.Null ∷ vs) go (λ b. Goes next ls b) h e k
  pop2_sound (vtype.Null ∷ ts) [] go h e k = absurd h
  pop2_sound (vtype.Null ∷ ts) (_ ∷ vs) go h e k = absurd h.0
  pop2_sound (vtype.Object c ∷ ts) (value.Null ∷ vs) go h e k = narrow_twice (vtype.Object c ∷ ts) (value.Null ∷ vs) go (λ b. Goes next ls b) h e k
  pop2_sound (vtype.Object c ∷ ts) (value.Ref x ∷ vs) go h e k = narrow_twice (vtype.Object c ∷ ts) (value.Ref x ∷ vs) go (λ b. Goes next ls b) h e k
  pop2_sound (vtype.Object c ∷ ts) [] go h e k = absurd h
  pop2_sound (vtype.Object c ∷ ts) (_ ∷ vs) go h e k = absurd h.0
  pop2_sound (vtype.UninitializedThis ∷ ts) [] go h e k = absurd h
  pop2_sound (vtype.UninitializedThis ∷ ts) (v ∷ vs) go h e k = absurd h.0
  pop2_sound (vtype.Uninitialized p ∷ ts) [] go h e k = absurd h
  pop2_sound (vtype.Uninitialized p ∷ ts) (v ∷ vs) go h e k = absurd h.0
  pop2_sound [] vs go h e k = absurd cc
  pop2_sound (vtype.Top ∷ ts) vs go h e k = absurd cc

  narrow_pair : (ts : List VType) (vs : List Value) (go : VType → VType → List VType → Verdict) (run : Value → Value → List Value → Effect) → Fits set heap vs ts → t_narrow ts (λ t more. t_narrow more (λ u below. go t u below)) ≡ Ok after
      → ((t u : VType) (rest : List VType) (v w : Value) (below : List Value) → go t u rest ≡ Ok after → Has set heap v t → Has set heap w u → Fits set heap below rest → Good (run v w below)) → Good (on_narrow vs (λ v rest. on_narrow rest (λ w below. run v w below)))
  narrow_pair ts vs go run h e k =
      narrow_sound ts vs (λ t more. t_narrow more (λ u below. go t u below)) (λ v rest. on_narrow rest (λ w below. run v w below)) h e
      (λ t rest v below e1 hv f. narrow_sound rest below (λ u more. go t u more) (λ w more. run v w more) f e1 (λ u rest2 w below2 e2 hw f2. k t u rest2 v w below2 e2 hv hw f2))

  dup2_sound : (x : Types) (ts : List VType) (vs : List Value) → P next → Fits set heap ls x.locals → Fits set heap vs ts → t_dup2 x ts ≡ Ok after → Good (effect row.Dup2 next ls vs)
  dup2_sound x (vtype.Long ∷ ts) (value.Long n ∷ vs) p l h e =
      comes (record { locals = x.locals; stack = vtype.Long ∷ vtype.Long ∷ ts; unset = x.unset }) next ls (value.Long n ∷ value.Long n ∷ vs) e p l (tt, (tt, h.1)) refl
  dup2_sound x (vtype.Long ∷ ts) [] p l h e = absurd h
  dup2_sound x (vtype.Long ∷ ts) (_ ∷ vs) p l h e = absurd h.0
  dup2_sound x (vtype.Integer ∷ ts) (value.Int n ∷ vs) p l h e =
      narrow_pair (vtype.Integer ∷ ts) (value.Int n ∷ vs) (λ t u below. Ok (record { locals = x.locals; stack = t ∷ u ∷ t ∷ u ∷ below; unset = x.unset })) (λ v w below. Goes next ls (v ∷ w ∷ v ∷ w ∷ below)) h e
      (λ t u rest v w below e1 hv hw f. comes (record { locals = x.locals; stack = t ∷ u ∷ t ∷ u ∷ rest; unset = x.unset }) next ls (v ∷ w ∷ v ∷ w ∷ below) e1 p l (hv, (hw, (hv, (hw, f)))) refl)
  dup2_sound x (vtype.Integer ∷ ts) [] p l h e = absurd h
  dup2_sound x (vtype.Integer ∷ ts) (_ ∷ vs) p l h e = absurd h.0
  dup2_sound x (vtype.Null ∷ ts) (value.Null ∷ vs) p l h e =
      narrow_pair (vtype.Null ∷ ts) (value.Null ∷ vs) (λ t u below. Ok (record { locals = x.locals; stack = t ∷ u ∷ t ∷ u ∷ below; unset = x.unset })) (λ v w below. Goes next ls (v ∷ w ∷ v ∷ w ∷ below)) h e
      (λ t u rest v w below e1 hv hw f. comes (record { locals = x.locals; stack = t ∷ u ∷ t ∷ u ∷ rest; unset = x.unset }) next ls (v ∷ w ∷ v ∷ w ∷ below) e1 p l (hv, (hw, (hv, (hw, f)))) refl)
  dup2_sound x (vtype.Null ∷ ts) [] p l h e = absurd h
  dup2_sound x (vtype.Null ∷ ts) (_ ∷ vs) p l h e = absurd h.0
  dup2_sound x (vtype.Object c ∷ ts) (value.Null ∷ vs) p l h e =
      narrow_pair (vtype.Object c ∷ ts) (value.Null ∷ vs) (λ t u below. Ok (record { locals = x.locals; stack = t ∷ u ∷ t ∷ u ∷ below; unset = x.unset })) (λ v w below. Goes next ls (v ∷ w ∷ v ∷ w ∷ below)) h e
      (λ t u rest v w below e1 hv hw f. comes (record { locals = x.locals; stack = t ∷ u ∷ t ∷ u ∷ rest; unset = x.unset }) next ls (v ∷ w ∷ v ∷ w ∷ below) e1 p l (hv, (hw, (hv, (hw, f)))) refl)
  dup2_sound x (vtype.Object c ∷ ts) (value.Ref y ∷ vs) p l h e =
      narrow_pair (vtype.Object c ∷ ts) (value.Ref y ∷ vs) (λ t u below. Ok (record { locals = x.locals; stack = t ∷ u ∷ t ∷ u ∷ below; unset = x.unset })) (λ v w below. Goes next ls (v ∷ w ∷ v ∷ w ∷ below)) h e
      (λ t u rest v w below e1 hv hw f. comes (record { locals = x.locals; stack = t ∷ u ∷ t ∷ u ∷ rest; unset = x.unset }) next ls (v ∷ w ∷ v ∷ w ∷ below) e1 p l (hv, (hw, (hv, (hw, f)))) refl)
  dup2_sound x (vtype.Object c ∷ ts) [] p l h e = absurd h
  dup2_sound x (vtype.Object c ∷ ts) (_ ∷ vs) p l h e = absurd h.0
  dup2_sound x (vtype.UninitializedThis ∷ ts) [] p l h e = absurd h
  dup2_sound x (vtype.UninitializedThis ∷ ts) (v ∷ vs) p l h e = absurd h.0
  dup2_sound x (vtype.Uninitialized at ∷ ts) [] p l h e = absurd h
  dup2_sound x (vtype.Uninitialized at ∷ ts) (v ∷ vs) p l h e = absurd h.0
  dup2_sound x [] vs p l h e = absurd cc
  dup2_sound x (vtype.Top ∷ ts) vs p l h e = absurd cc

  incremented_sound : (t : Types) (i : ℕ) (n : ℤ) (st : List Value) (v : Value) → P next → Fits set heap ls t.locals → Fits set heap st t.stack → slice_get t.locals i ≡ Some vtype.Integer → Has set heap v vtype.Integer → (let o : Verdict = Ok t in o) ≡ Ok after
      → Good (incremented next ls st i n (Some v))
  incremented_sound t i n st (value.Int x) p l s at h e =
      comes t next (slice_set ls i (value.Int (int_wrapping_add w32 x n))) st e p (Fits-put set heap ls t.locals i (value.Int (int_wrapping_add w32 x n)) vtype.Integer l at tt) s (length-set ls i (value.Int (int_wrapping_add w32 x n)))
  incremented_sound t i n st _ p l s at h e = absurd h

  increment_sound : (t : Types) (i : ℕ) (n : ℤ) (st : List Value) (o : Option VType) → P next → Fits set heap ls t.locals → Fits set heap st t.stack → slice_get t.locals i ≡ o → t_increment t o ≡ Ok after
      → Good (incremented next ls st i n (slice_get ls i))
  increment_sound t i n st (Some vtype.Integer) p l s at e =
      let v = Fits-get set heap ls t.locals i vtype.Integer l at in
      subst (λ (o : Option Value). Good (incremented next ls st i n o)) (sym v.is) (incremented_sound t i n st v.v p l s at v.has e)
  increment_sound t i n st (Some _) p l s at e = absurd (no_verdict WrongType after e)
  increment_sound t i n st None p l s at e = absurd (no_verdict WrongType after e)

  put_sound : (t : Types) (i : ℕ) (ts : List VType) (st : List Value) (o : Option FieldUse) → field_use set true class i ≡ o → P next → Fits set heap ls t.locals → Fits set heap st ts
      → (let v : Verdict = elim o [ None ↦ Err WrongType | Some f ↦ refuse (misuses set (f.type ∷ []) ts) (left t (drop 1 ts)) ] in v) ≡ Ok after → Good (effect (row.PutStatic i) next ls st)
  put_sound t i ts st None k p l h e = absurd (no_verdict WrongType after e)
  put_sound t i [] st (Some f) k p l h e = absurd (no_verdict WrongType after e)
  put_sound t i (u ∷ ts) [] (Some f) k p l h e = absurd h
  put_sound t i (u ∷ ts) (v ∷ vs) (Some f) k p l h e =
      let q = refuses_not (misuses set (f.type ∷ []) (u ∷ ts)) (left t ts) after e in
      let w = worse_none (misuse set f.type u) None q.0 in
      record { comes = comes (record { locals = t.locals; stack = ts; unset = t.unset }) next ls vs q.1 p l h.1 refl; use_ = f; is = k; has = Has-assign set loaded heap v u f.type (used_well set f.type u w.0) h.0 }

  load_sound : (kind : Kind) (t : Types) (i : ℕ) (st : List Value) (o : Option VType) → P next → Fits set heap ls t.locals → Fits set heap st t.stack → slice_get t.locals i ≡ o
      → t_load kind t o ≡ Ok after → Good (on_local kind ls i (λ v. Goes next ls (v ∷ st)))
  load_sound kind t i st None p l s h e = absurd (no_verdict WrongType after e)
  load_sound kind t i st (Some u) p l s h e =
      let g = guard (is_kind kind u) (Ok (record { locals = t.locals; stack = u ∷ t.stack; unset = t.unset })) WrongType after e in
      let at = Fits-get set heap ls t.locals i u l h in
      let done = if_true (has_kind kind at.v) (Goes next ls (at.v ∷ st)) Fails (Has-kind set heap kind at.v u g.0 at.has) (comes (record { locals = t.locals; stack = u ∷ t.stack; unset = t.unset }) next ls (at.v ∷ st) g.1 p l (at.has, s) refl) in
      subst (λ (x : Option Value). Good (elim x [ Some v ↦ cond (has_kind kind v) (Goes next ls (v ∷ st)) Fails | None ↦ Fails ])) (sym at.is) done

  store_sound : (kind : Kind) (t : Types) (i : ℕ) (st : List Value) → P next → Fits set heap ls t.locals → Fits set heap st t.stack → i + kind_width kind ≤ length ls
      → t_kind kind t.stack (λ u rest. Ok (record { locals = t_stored kind i u t.locals; stack = rest; unset = t.unset })) ≡ Ok after
      → Good (on_kind kind st (λ v rest. cond (nat_lt (length ls) (i + places kind)) Fails (Goes next (stored kind i v ls) rest)))
  store_sound kind t i st p l s room e =
      kind_sound kind t.stack st (λ u rest. Ok (record { locals = t_stored kind i u t.locals; stack = rest; unset = t.unset })) (λ v rest. cond (nat_lt (length ls) (i + places kind)) Fails (Goes next (stored kind i v ls) rest)) s e
      (λ u rest v below e1 hv f.
      let fits : nat_lt (length ls) (i + places kind) ≡ false = ap (λ (w : ℕ). nat_lt (length ls) (i + w)) (as_width kind) ∙ le-ltb (length ls) (i + kind_width kind) room in
      if_false (nat_lt (length ls) (i + places kind)) Fails (Goes next (stored kind i v ls) below) fits
      (comes (record { locals = t_stored kind i u t.locals; stack = rest; unset = t.unset }) next (stored kind i v ls) below e1 p (Fits-stored set heap kind ls t.locals i v u l hv) f (stored_length kind i v ls)))

  -- a return's value
  well_returned : (w u : VType) (v : Value) (b c : Bool) (x y : VerifyCode) (more : Verdict) → (let o : Verdict = cond b (refuse (misuse set w u) more) (cond c (Err x) (Err y)) in o) ≡ Ok after → Has set heap v u → Has set heap v w
  well_returned w u v true c x y more e h = Has-assign set loaded heap v u w (used_well set w u (refuses_not (misuse set w u) more after e).0) h
  well_returned w u v false c x y more e h = absurd (neither c x y after e)

  value_fits : (o : Option VType) (t : Types) (k : Kind) (u : VType) (rest : List VType) (v : Value) → t_returned set o t k u rest ≡ Ok after → Has set heap v u → Fits set heap (v ∷ []) (result_types o)
  value_fits None t k u rest v e h = absurd (neither _ _ _ after e)
  value_fits (Some w) t k u rest v e h = (well_returned w u v (is_kind k w) _ _ _ _ e h, tt)

  no_result : (o : Option VType) (t : Types) → t_return o t ≡ Ok after → Fits set heap [] (result_types o)
  no_result None t e = tt
  no_result (Some w) t e = absurd (neither t.unset _ _ after e)

module _ (set : Set) (loaded : IsLoaded set) (class : ClassFile) (m : Method) (pc : ℕ) (heap : List Object) (P : ℕ → Type 0) (next : ℕ) (t after : Types) (ls st : List Value) (l : Fits set heap ls t.locals) (s : Fits set heap st t.stack) where
  abbrev result : Option VType
  result = (described m.descriptor).result

  abbrev GoodRow : Row → Type 0
  GoodRow r = Sound set class heap result P next ls r after (effect r next ls st)

  abbrev left_so : List VType → Types
  left_so stack = record { locals = t.locals; stack = stack; unset = t.unset }

  pub row_sound : (r : Row) → is_covered r ≡ true → ((to : ℕ) → jump_of r ≡ Some to → P to) → (goes_on r ≡ true → P next) → reaches r ≤ length ls → typed set class m pc r t ≡ Ok after → GoodRow r
  row_sound (row.PushInt n) lot j g room e = comes set loaded class heap result P next ls (row.PushInt n) after (left_so (vtype.Integer ∷ t.stack)) next ls (value.Int n ∷ st) e (g refl) l (tt, s) refl
  row_sound (row.PushLong n) lot j g room e = comes set loaded class heap result P next ls (row.PushLong n) after (left_so (vtype.Long ∷ t.stack)) next ls (value.Long n ∷ st) e (g refl) l (tt, s) refl
  row_sound row.PushNull lot j g room e = comes set loaded class heap result P next ls row.PushNull after (left_so (vtype.Null ∷ t.stack)) next ls (value.Null ∷ st) e (g refl) l (tt, s) refl
  row_sound (row.PushConstant i) lot j g room e = refl
  row_sound (row.PushLongConstant i) lot j g room e = refl
  row_sound (row.Load k i) lot j g room e = load_sound set loaded class heap result P next ls (row.Load k i) after k t i st (slice_get t.locals i) (g refl) l s refl e
  row_sound (row.Store k i) lot j g room e = store_sound set loaded class heap result P next ls (row.Store k i) after k t i st (g refl) l s room e
  row_sound row.Nop lot j g room e = comes set loaded class heap result P next ls row.Nop after t next ls st e (g refl) l s refl
  row_sound (row.Increment i n) lot j g room e = increment_sound set loaded class heap result P next ls (row.Increment i n) after t i n st (slice_get t.locals i) (g refl) l s refl e
  row_sound row.DupX1 lot j g room e =
      narrow_pair set loaded class heap result P next ls row.DupX1 after t.stack st (λ u v below. Ok (left_so (u ∷ v ∷ u ∷ below))) (λ v w below. Goes next ls (v ∷ w ∷ v ∷ below)) s e
      (λ u1 u2 rest v w below e1 hv hw f. comes set loaded class heap result P next ls row.DupX1 after (left_so (u1 ∷ u2 ∷ u1 ∷ rest)) next ls (v ∷ w ∷ v ∷ below) e1 (g refl) l (hv, (hw, (hv, f))) refl)
  row_sound row.Dup2 lot j g room e = dup2_sound set loaded class heap result P next ls row.Dup2 after t t.stack st (g refl) l s e
  row_sound (row.GetStatic i) lot j g room e = refl
  row_sound (row.PutStatic i) lot j g room e = put_sound set loaded class heap result P next ls (row.PutStatic i) after t i t.stack st (field_use set true class i) refl (g refl) l s e
  row_sound row.Pop lot j g room e =
      narrow_sound set loaded class heap result P next ls row.Pop after t.stack st _ _ s e
      (λ u rest v below e1 hv f. comes set loaded class heap result P next ls row.Pop after (left_so rest) next ls below e1 (g refl) l f refl)
  row_sound row.Pop2 lot j g room e =
      pop2_sound set loaded class heap result P next ls row.Pop2 after t.stack st _ s e
      (λ rest below e1 f. comes set loaded class heap result P next ls row.Pop2 after (left_so rest) next ls below e1 (g refl) l f refl)
  row_sound row.Dup lot j g room e =
      narrow_sound set loaded class heap result P next ls row.Dup after t.stack st _ _ s e
      (λ u rest v below e1 hv f. comes set loaded class heap result P next ls row.Dup after (left_so (u ∷ u ∷ rest)) next ls (v ∷ v ∷ below) e1 (g refl) l (hv, (hv, f)) refl)
  row_sound (row.IntBinary o) lot j g room e =
      int_sound set loaded class heap result P next ls (row.IntBinary o) after t.stack st _ _ s e
      (λ rest y below e1 f. int_sound set loaded class heap result P next ls (row.IntBinary o) after rest below _ _ f e1
      (λ more x deep e2 f2. divides set loaded class heap result P next ls (row.IntBinary o) after (int_answer o x y) _ (λ n. comes set loaded class heap result P next ls (row.IntBinary o) after (left_so (vtype.Integer ∷ more)) next ls (value.Int n ∷ deep) e2 (g refl) l (tt, f2) refl)))
  row_sound (row.LongBinary o) lot j g room e =
      long_sound set loaded class heap result P next ls (row.LongBinary o) after t.stack st _ _ s e
      (λ rest y below e1 f. long_sound set loaded class heap result P next ls (row.LongBinary o) after rest below _ _ f e1
      (λ more x deep e2 f2. divides set loaded class heap result P next ls (row.LongBinary o) after (long_answer o x y) _ (λ n. comes set loaded class heap result P next ls (row.LongBinary o) after (left_so (vtype.Long ∷ more)) next ls (value.Long n ∷ deep) e2 (g refl) l (tt, f2) refl)))
  row_sound (row.IntShift o) lot j g room e =
      int_sound set loaded class heap result P next ls (row.IntShift o) after t.stack st _ _ s e
      (λ rest y below e1 f. int_sound set loaded class heap result P next ls (row.IntShift o) after rest below _ _ f e1
      (λ more x deep e2 f2. comes set loaded class heap result P next ls (row.IntShift o) after (left_so (vtype.Integer ∷ more)) next ls (value.Int _ ∷ deep) e2 (g refl) l (tt, f2) refl))
  row_sound (row.LongShift o) lot j g room e =
      int_sound set loaded class heap result P next ls (row.LongShift o) after t.stack st _ _ s e
      (λ rest y below e1 f. long_sound set loaded class heap result P next ls (row.LongShift o) after rest below _ _ f e1
      (λ more x deep e2 f2. comes set loaded class heap result P next ls (row.LongShift o) after (left_so (vtype.Long ∷ more)) next ls (value.Long _ ∷ deep) e2 (g refl) l (tt, f2) refl))
  row_sound row.IntNeg lot j g room e =
      int_sound set loaded class heap result P next ls row.IntNeg after t.stack st _ _ s e
      (λ rest x below e1 f. comes set loaded class heap result P next ls row.IntNeg after (left_so (vtype.Integer ∷ rest)) next ls (value.Int _ ∷ below) e1 (g refl) l (tt, f) refl)
  row_sound row.LongNeg lot j g room e =
      long_sound set loaded class heap result P next ls row.LongNeg after t.stack st _ _ s e
      (λ rest x below e1 f. comes set loaded class heap result P next ls row.LongNeg after (left_so (vtype.Long ∷ rest)) next ls (value.Long _ ∷ below) e1 (g refl) l (tt, f) refl)
  row_sound row.IntToLong lot j g room e =
      int_sound set loaded class heap result P next ls row.IntToLong after t.stack st _ _ s e
      (λ rest x below e1 f. comes set loaded class heap result P next ls row.IntToLong after (left_so (vtype.Long ∷ rest)) next ls (value.Long _ ∷ below) e1 (g refl) l (tt, f) refl)
  row_sound row.LongToInt lot j g room e =
      long_sound set loaded class heap result P next ls row.LongToInt after t.stack st _ _ s e
      (λ rest x below e1 f. comes set loaded class heap result P next ls row.LongToInt after (left_so (vtype.Integer ∷ rest)) next ls (value.Int _ ∷ below) e1 (g refl) l (tt, f) refl)
  row_sound row.IntToChar lot j g room e =
      int_sound set loaded class heap result P next ls row.IntToChar after t.stack st _ _ s e
      (λ rest x below e1 f. comes set loaded class heap result P next ls row.IntToChar after (left_so (vtype.Integer ∷ rest)) next ls (value.Int _ ∷ below) e1 (g refl) l (tt, f) refl)
  row_sound row.LongCompare lot j g room e =
      long_sound set loaded class heap result P next ls row.LongCompare after t.stack st _ _ s e
      (λ rest y below e1 f. long_sound set loaded class heap result P next ls row.LongCompare after rest below _ _ f e1
      (λ more x deep e2 f2. comes set loaded class heap result P next ls row.LongCompare after (left_so (vtype.Integer ∷ more)) next ls (value.Int _ ∷ deep) e2 (g refl) l (tt, f2) refl))
  row_sound (row.IfZero test to) lot j g room e =
      int_sound set loaded class heap result P next ls (row.IfZero test to) after t.stack st _ _ s e
      (λ rest x below e1 f. comes set loaded class heap result P next ls (row.IfZero test to) after (left_so rest) _ ls below e1 (one_of set loaded class heap result P next ls (row.IfZero test to) after (holds test x (pos 0)) to (j to refl) (g refl)) l f refl)
  row_sound (row.IfCompare test to) lot j g room e =
      int_sound set loaded class heap result P next ls (row.IfCompare test to) after t.stack st _ _ s e
      (λ rest y below e1 f. int_sound set loaded class heap result P next ls (row.IfCompare test to) after rest below _ _ f e1
      (λ more x deep e2 f2. comes set loaded class heap result P next ls (row.IfCompare test to) after (left_so more) _ ls deep e2 (one_of set loaded class heap result P next ls (row.IfCompare test to) after (holds test x y) to (j to refl) (g refl)) l f2 refl))
  row_sound (row.IfNull wanted to) lot j g room e =
      reference_sound set loaded class heap result P next ls (row.IfNull wanted to) after t.stack st _ _ s e
      (λ rest v below e1 f. comes set loaded class heap result P next ls (row.IfNull wanted to) after (left_so rest) _ ls below e1 (branched set loaded class heap result P next ls (row.IfNull wanted to) after wanted (is_null v) to (j to refl) (g refl)) l f refl)
  row_sound (row.IfSame wanted to) lot j g room e =
      reference_sound set loaded class heap result P next ls (row.IfSame wanted to) after t.stack st _ _ s e
      (λ rest w below e1 f. reference_sound set loaded class heap result P next ls (row.IfSame wanted to) after rest below _ _ f e1
      (λ more v deep e2 f2. (comes set loaded class heap result P next ls (row.IfSame wanted to) after (left_so more) to ls deep e2 (j to refl) l f2 refl, comes set loaded class heap result P next ls (row.IfSame wanted to) after (left_so more) next ls deep e2 (g refl) l f2 refl)))
  row_sound (row.Goto to) lot j g room e = comes set loaded class heap result P next ls (row.Goto to) after t to ls st e (j to refl) l s refl
  row_sound row.Return lot j g room e = no_result set loaded class heap result P next ls row.Return after result t e
  row_sound (row.ReturnValue k) lot j g room e =
      kind_sound set loaded class heap result P next ls (row.ReturnValue k) after k t.stack st _ _ s e
      (λ u rest v below e1 hv f. value_fits set loaded class heap result P next ls (row.ReturnValue k) after result t k u rest v e1 hv)
  row_sound (row.InvokeStatic i) lot j g room e = refl
  row_sound _ lot j g room e = absurd cc
