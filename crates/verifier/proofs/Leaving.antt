-- What a row leaves of the local variables.
use Rattle.std.proofs.Common.{◌≡◌, ℕ, Bool, true, false, cond, List, [], ◌∷◌, ◌++◌, length, drop, Option, Some, None, subst}
use Rattle.std.specs.Prelude.{slice_get, reverse, Ok, Err, ◌||◌}
use Rattle.class_file.specs.declared.value.Kind.{Kind}
use Rattle.class_file.specs.declared.class.VType.{VType}
use Rattle.class_file.specs.declared.class.VType.TheVariants.{Integer, Long, Null, Object, UninitializedThis, Uninitialized}
use Rattle.class_file.specs.declared.class.ClassFile.{ClassFile}
use Rattle.class_file.specs.declared.class.Method.{Method}
use Rattle.class_file.specs.declared.class.Set.{Set}
use Rattle.class_file.specs.declared.row.Row.{Row}
use Rattle.class_file.specs.declared.row.Row.TheVariants as row
use Rattle.class_file.specs.declared.verify_code.VerifyCode.{VerifyCode}
use Rattle.class_file.specs.declared.verify_code.VerifyCode.TheVariants.{WrongType, Uninitialised, ReturnType}
use Rattle.class_file.specs.Lots.{in_first_lot}
use Rattle.class_file.specs.Members.{Call, described, static_call}
use Rattle.class_file.specs.Pools.{entry_at, constant_in}
use Rattle.class_file.specs.Typing.{Types, Verdict, left, late, takes_one, is_kind, is_uninitialised, misuse, misuses, refuse, result_types, constant_type, long_constant_type, t_int, t_long, t_narrow, t_pop2, t_kind, t_reference, t_pushed, t_load, t_stored, t_return, t_returned, t_call, typed, stepped, size_fault}
use Rattle.verifier.specs.Carrying.{IsUnset, stored_by, and_place}
use Rattle.verifier.proofs.Carries.{one_stored}

-- if there are types after it, their local variables have a property
abbrev Leaves : (List VType → Type 0) → Verdict → Type 0
Leaves P (Ok after) = P after.locals
Leaves P (Err code) = Unit {0}

module _ (P : List VType → Type 0) where
  chosen : (b : Bool) (v w : Verdict) → Leaves P v → Leaves P w → Leaves P (cond b v w)
  chosen true v w h k = h
  chosen false v w h k = k

  refused : (o : Option VerifyCode) (v : Verdict) → Leaves P v → Leaves P (refuse o v)
  refused None v h = h
  refused (Some code) v h = tt

  in_late : (v : Verdict) → Leaves P (late v)
  in_late (Ok after) = tt
  in_late (Err WrongType) = tt
  in_late (Err _) = tt

  int : (ts : List VType) (go : List VType → Verdict) → ((rest : List VType) → Leaves P (go rest)) → Leaves P (t_int ts go)
  int [] go h = tt
  int (Integer ∷ ts) go h = h ts
  int (_ ∷ ts) go h = tt

  long : (ts : List VType) (go : List VType → Verdict) → ((rest : List VType) → Leaves P (go rest)) → Leaves P (t_long ts go)
  long [] go h = tt
  long (Long ∷ ts) go h = h ts
  long (_ ∷ ts) go h = tt

  narrow : (ts : List VType) (go : VType → List VType → Verdict) → ((u : VType) (rest : List VType) → Leaves P (go u rest)) → Leaves P (t_narrow ts go)
  narrow [] go h = tt
  narrow (u ∷ ts) go h = chosen (takes_one u) (go u ts) (Err WrongType) (h u ts) tt

  kind : (k : Kind) (ts : List VType) (go : VType → List VType → Verdict) → ((u : VType) (rest : List VType) → Leaves P (go u rest)) → Leaves P (t_kind k ts go)
  kind k [] go h = tt
  kind k (u ∷ ts) go h = chosen (is_kind k u) (go u ts) (Err WrongType) (h u ts) tt

  reference : (ts : List VType) (go : List VType → Verdict) → ((rest : List VType) → Leaves P (go rest)) → Leaves P (t_reference ts go)
  reference [] go h = tt
  reference (Null ∷ ts) go h = h ts
  reference (Object c ∷ ts) go h = h ts
  reference (UninitializedThis ∷ ts) go h = in_late (go ts)
  reference (Uninitialized at ∷ ts) go h = in_late (go ts)
  reference (_ ∷ ts) go h = tt

  module _ (t : Types) (same : P t.locals) where
    pop2 : (ts : List VType) → Leaves P (t_pop2 ts (λ rest. left t rest))
    pop2 [] = tt
    pop2 (Long ∷ ts) = same
    pop2 (u ∷ ts) = narrow (u ∷ ts) (λ v more. t_narrow more (λ w below. left t below)) (λ v more. narrow more (λ w below. left t below) (λ w below. same))

    pushed : (o : Option VType) → Leaves P (t_pushed t o)
    pushed None = tt
    pushed (Some u) = same

    loaded : (k : Kind) (o : Option VType) → Leaves P (t_load k t o)
    loaded k None = tt
    loaded k (Some u) = chosen (is_kind k u) (left t (u ∷ t.stack)) (Err WrongType) same tt

    called : (set : Set) (o : Option Call) → Leaves P (t_call set t o)
    called set None = tt
    called set (Some s) = refused (misuses set (reverse s.params) t.stack) (left t (result_types s.result ++ drop (length s.params) t.stack)) same

    ended : (o : Option VType) → Leaves P (t_return o t)
    ended None = chosen t.unset (Err Uninitialised) (Ok t) tt same
    ended (Some w) = chosen t.unset (Err Uninitialised) (Err ReturnType) tt tt

    returned : (set : Set) (o : Option VType) (k : Kind) (u : VType) (rest : List VType) → Leaves P (t_returned set o t k u rest)
    returned set None k u rest = chosen (t.unset || is_uninitialised u) (Err Uninitialised) (Err ReturnType) tt tt
    returned set (Some w) k u rest =
        chosen (is_kind k w) (refuse (misuse set w u) (cond t.unset (Err Uninitialised) (left t rest))) (cond (t.unset || is_uninitialised u) (Err Uninitialised) (Err ReturnType))
        (refused (misuse set w u) (cond t.unset (Err Uninitialised) (left t rest)) (chosen t.unset (Err Uninitialised) (left t rest) tt same))
        (chosen (t.unset || is_uninitialised u) (Err Uninitialised) (Err ReturnType) tt tt)

module _ (set : Set) (c : ClassFile) (m : Method) (pc : ℕ) (front : ℕ) (stored : List ℕ) where
  typed_unset : (r : Row) (t : Types) → in_first_lot r ≡ true → IsUnset front stored t.locals → Leaves (IsUnset front (and_place stored (stored_by r))) (typed set c m pc r t)
  typed_unset (row.PushInt n) t lot u = u
  typed_unset (row.PushLong n) t lot u = u
  typed_unset row.PushNull t lot u = u
  typed_unset (row.PushConstant i) t lot u = pushed (IsUnset front stored) t u (constant_type (constant_in c.pool (entry_at c.pool i)))
  typed_unset (row.PushLongConstant i) t lot u = pushed (IsUnset front stored) t u (long_constant_type (entry_at c.pool i))
  typed_unset (row.Load k i) t lot u = loaded (IsUnset front stored) t u k (slice_get t.locals i)
  typed_unset (row.Store k i) t lot u =
      kind (IsUnset front (stored ++ i ∷ [])) k t.stack (λ v rest. Ok (record { locals = t_stored k i v t.locals; stack = rest; unset = t.unset })) (λ v rest. one_stored front stored t.locals k i v u)
  typed_unset row.Pop t lot u = narrow (IsUnset front stored) t.stack (λ v rest. left t rest) (λ v rest. u)
  typed_unset row.Pop2 t lot u = pop2 (IsUnset front stored) t u t.stack
  typed_unset row.Dup t lot u = narrow (IsUnset front stored) t.stack (λ v rest. left t (v ∷ v ∷ rest)) (λ v rest. u)
  typed_unset (row.IntBinary o) t lot u = int (IsUnset front stored) t.stack (λ rest. t_int rest (λ below. left t (Integer ∷ below))) (λ rest. int (IsUnset front stored) rest (λ below. left t (Integer ∷ below)) (λ below. u))
  typed_unset (row.LongBinary o) t lot u = long (IsUnset front stored) t.stack (λ rest. t_long rest (λ below. left t (Long ∷ below))) (λ rest. long (IsUnset front stored) rest (λ below. left t (Long ∷ below)) (λ below. u))
  typed_unset (row.IntShift o) t lot u = int (IsUnset front stored) t.stack (λ rest. t_int rest (λ below. left t (Integer ∷ below))) (λ rest. int (IsUnset front stored) rest (λ below. left t (Integer ∷ below)) (λ below. u))
  typed_unset (row.LongShift o) t lot u = int (IsUnset front stored) t.stack (λ rest. t_long rest (λ below. left t (Long ∷ below))) (λ rest. long (IsUnset front stored) rest (λ below. left t (Long ∷ below)) (λ below. u))
  typed_unset row.IntNeg t lot u = int (IsUnset front stored) t.stack (λ rest. left t (Integer ∷ rest)) (λ rest. u)
  typed_unset row.LongNeg t lot u = long (IsUnset front stored) t.stack (λ rest. left t (Long ∷ rest)) (λ rest. u)
  typed_unset row.IntToLong t lot u = int (IsUnset front stored) t.stack (λ rest. left t (Long ∷ rest)) (λ rest. u)
  typed_unset row.LongToInt t lot u = long (IsUnset front stored) t.stack (λ rest. left t (Integer ∷ rest)) (λ rest. u)
  typed_unset row.IntToChar t lot u = int (IsUnset front stored) t.stack (λ rest. left t (Integer ∷ rest)) (λ rest. u)
  typed_unset row.LongCompare t lot u = long (IsUnset front stored) t.stack (λ rest. t_long rest (λ below. left t (Integer ∷ below))) (λ rest. long (IsUnset front stored) rest (λ below. left t (Integer ∷ below)) (λ below. u))
  typed_unset (row.IfZero test to) t lot u = int (IsUnset front stored) t.stack (λ rest. left t rest) (λ rest. u)
  typed_unset (row.IfCompare test to) t lot u = int (IsUnset front stored) t.stack (λ rest. t_int rest (λ below. left t below)) (λ rest. int (IsUnset front stored) rest (λ below. left t below) (λ below. u))
  typed_unset (row.IfSame same to) t lot u = reference (IsUnset front stored) t.stack (λ rest. t_reference rest (λ below. left t below)) (λ rest. reference (IsUnset front stored) rest (λ below. left t below) (λ below. u))
  typed_unset (row.IfNull null to) t lot u = reference (IsUnset front stored) t.stack (λ rest. left t rest) (λ rest. u)
  typed_unset (row.Goto to) t lot u = u
  typed_unset row.Return t lot u = ended (IsUnset front stored) t u (described m.descriptor).result
  typed_unset (row.ReturnValue k) t lot u =
      kind (IsUnset front stored) k t.stack (λ v rest. t_returned set (described m.descriptor).result t k v rest) (λ v rest. returned (IsUnset front stored) t u set (described m.descriptor).result k v rest)
  typed_unset (row.InvokeStatic i) t lot u = called (IsUnset front stored) t u set (static_call set c i)
  typed_unset _ t lot u = absurd cc

  -- a row can make only the local variable hold something that it stores into
  pub stepped_unset : (r : Row) (t after : Types) → in_first_lot r ≡ true → stepped set c m pc r t ≡ Ok after → IsUnset front stored t.locals → IsUnset front (and_place stored (stored_by r)) after.locals
  stepped_unset r t after lot e u =
      subst (Leaves (IsUnset front (and_place stored (stored_by r)))) e
      (refused (IsUnset front (and_place stored (stored_by r))) (size_fault set c m r t) (typed set c m pc r t) (typed_unset r t lot u))
