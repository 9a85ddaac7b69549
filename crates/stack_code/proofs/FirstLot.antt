-- The machine is built for compiled sets.
use Rattle.std.proofs.Common.{◌≡◌, ℕ, zero, suc, ◌+◌, ◌-◌, ◌≤◌, ◌⊎◌, inl, inr, List, [], ◌∷◌, Some, None, Bool, true, false, cond, refl, sym, ap, ◌∙◌, subst, arith, ⊎_elim}
use Rattle.std.specs.Prelude.{slice_get, nat_lt, ◌==◌}
use Rattle.std.proofs.lemmas.Bool.{eqb-true, ltb-false}
use Rattle.kc_core.specs.declared.tree.Program.{Program}
use Rattle.class_file.specs.declared.class.ClassFile.{ClassFile}
use Rattle.class_file.specs.declared.class.Method.{Method}
use Rattle.class_file.specs.declared.class.Set.{Set}
use Rattle.class_file.specs.declared.instr.Instr.{Instr}
use Rattle.class_file.specs.declared.row.Row.TheVariants as row
use Rattle.class_file.specs.Rows.{length_of, row_of, instr_at, target}
use Rattle.class_file.specs.Pools.{Slots, named_in, entry_at}
use Rattle.class_file.specs.Machine.{fetch, instr_in, methods_of, method_at, class_pool}
use Rattle.class_file.specs.Lots.{in_first_lot, NamesNative, IsFirstLot}
use Rattle.class_file.specs.declared.value.NativeId.{NativeId}
use Rattle.stack_code.specs.Code.{Operation, PushInt, PushText, Load, Store, Compute, Negate, Discard, Call, Jump, JumpIf, JumpCompare, Leave, bytes_of, StandsFor, Spells, native_of, body_code}
use Rattle.stack_code.specs.Agrees.{IsCompiled, CompiledIsFirstLot}
use Rattle.stack_code.proofs.Found.{method_is, pool_is, main_is_plain}

-- an instruction that stands for an operation of the code
pub record Stands (pool : Slots) (at : ℕ) (i : Instr) : Type 0 where
  pub op : Operation
  pub stands : StandsFor pool at i op

-- where an instruction starts
pub found_at : (i : Instr) (is : List Instr) (pc : ℕ) (j : Instr) → instr_at (i ∷ is) pc ≡ Some j → ((pc ≡ 0) × (i ≡ j)) ⊎ ((length_of i ≤ pc) × (instr_at is (pc - length_of i) ≡ Some j))
unfolding instr_at
found_at i is pc j e = by_zero (pc == 0) refl e
  where
    by_less : (b : Bool) → nat_lt pc (length_of i) ≡ b → cond b None (instr_at is (pc - length_of i)) ≡ Some j → ((pc ≡ 0) × (i ≡ j)) ⊎ ((length_of i ≤ pc) × (instr_at is (pc - length_of i) ≡ Some j))
    by_less true q e = absurd cc
    by_less false q e = inr (ltb-false pc (length_of i) q, e)

    by_zero : (b : Bool) → (pc == 0) ≡ b → cond b (Some i) (cond (nat_lt pc (length_of i)) None (instr_at is (pc - length_of i))) ≡ Some j → ((pc ≡ 0) × (i ≡ j)) ⊎ ((length_of i ≤ pc) × (instr_at is (pc - length_of i) ≡ Some j))
    by_zero true q e = inl (eqb-true pc 0 q, cc)
    by_zero false q e = by_less (nat_lt pc (length_of i)) refl e

pub nothing_at : (pc : ℕ) (i : Instr) → instr_at [] pc ≡ Some i → ⊥
unfolding instr_at
nothing_at pc i e = cc

stands_at : (pool : Slots) (n m : ℕ) (i j : Instr) (op : Operation) → n ≡ m → i ≡ j → StandsFor pool n i op → Stands pool m j
stands_at pool n m i j op e f h = record { op = op; stands = subst (λ k. StandsFor pool k j op) e (subst (λ x. StandsFor pool n x op) f h) }

-- each instruction of code that is spelled stands for an operation
spelled : (pool : Slots) (is : List Instr) (ops : List Operation) (at pc : ℕ) (i : Instr) → Spells pool at is ops → instr_at is pc ≡ Some i → Stands pool (at + pc) i
spelled pool [] [] at pc i h e = absurd (nothing_at pc i e)
spelled pool [] (op ∷ ops) at pc i h e = absurd h
spelled pool (j ∷ is) [] at pc i h e = absurd h
spelled pool (j ∷ is) (op ∷ ops) at pc i h e =
    ⊎_elim (λ z. stands_at pool at (at + pc) j i op (omega (arith, z.0)) z.1 h.0)
    (λ z.
    let w = spelled pool is ops (at + bytes_of op) (pc - length_of j) i h.2 z.1 in
    stands_at pool (at + bytes_of op + (pc - length_of j)) (at + pc) i i w.op (omega (arith, z.0, h.1)) refl w.stands)
    (found_at j is pc i e)

row_is_in : (pool : Slots) (at : ℕ) (i : Instr) (op : Operation) → StandsFor pool at i op → in_first_lot (row_of at i) ≡ true
row_is_in pool at i (PushInt z) h = ⊎_elim (λ e. ap in_first_lot e) (λ t. ap in_first_lot t.1) h
row_is_in pool at i (PushText t) h = ap in_first_lot h.1
row_is_in pool at i (Load k x) h = ap in_first_lot h
row_is_in pool at i (Store k x) h = ap in_first_lot h
row_is_in pool at i (Compute o) h = ap in_first_lot h
row_is_in pool at i Negate h = ap in_first_lot h
row_is_in pool at i Discard h = ap in_first_lot h
row_is_in pool at i (Call m) h = ap in_first_lot h.1
row_is_in pool at i (Jump d) h = ap in_first_lot h
row_is_in pool at i (JumpIf t n) h = ap in_first_lot h
row_is_in pool at i (JumpCompare t n) h = ap in_first_lot h
row_is_in pool at i Leave h = ap in_first_lot h

same_index : (a b : ℕ) → row.InvokeStatic a ≡ row.InvokeStatic b → a ≡ b
same_index a b e = cc

call_is_built : (pool : Slots) (at k : ℕ) (i : Instr) (op : Operation) → StandsFor pool at i op → row_of at i ≡ row.InvokeStatic k → (id : NativeId) × NamesNative (named_in pool (entry_at pool k)) id
call_is_built pool at k i (Call m) h r =
    (native_of m, subst (λ n. NamesNative (named_in pool (entry_at pool n)) (native_of m)) (same_index h.0 k (sym h.1 ∙ r)) h.2)
call_is_built pool at k i (PushInt z) h r =
    absurd (⊎_elim (λ a. let q : row.PushInt z ≡ row.InvokeStatic k = sym a ∙ r in cc) (λ t. let q : row.PushConstant t.0 ≡ row.InvokeStatic k = sym t.1 ∙ r in cc) h)
call_is_built pool at k i (PushText t) h r = absurd (let q : row.PushConstant h.0 ≡ row.InvokeStatic k = sym h.1 ∙ r in cc)
call_is_built pool at k i (Load l x) h r = absurd (let q : row.Load l x ≡ row.InvokeStatic k = sym h ∙ r in cc)
call_is_built pool at k i (Store l x) h r = absurd (let q : row.Store l x ≡ row.InvokeStatic k = sym h ∙ r in cc)
call_is_built pool at k i (Compute o) h r = absurd (let q : row.IntBinary o ≡ row.InvokeStatic k = sym h ∙ r in cc)
call_is_built pool at k i Negate h r = absurd (let q : row.IntNeg ≡ row.InvokeStatic k = sym h ∙ r in cc)
call_is_built pool at k i Discard h r = absurd (let q : row.Pop ≡ row.InvokeStatic k = sym h ∙ r in cc)
call_is_built pool at k i (Jump d) h r = absurd (let q : row.Goto (target at d) ≡ row.InvokeStatic k = sym h ∙ r in cc)
call_is_built pool at k i (JumpIf t n) h r = absurd (let q : row.IfZero t (at + n) ≡ row.InvokeStatic k = sym h ∙ r in cc)
call_is_built pool at k i (JumpCompare t n) h r = absurd (let q : row.IfCompare t (at + n) ≡ row.InvokeStatic k = sym h ∙ r in cc)
call_is_built pool at k i Leave h r = absurd (let q : row.Return ≡ row.InvokeStatic k = sym h ∙ r in cc)

same_method : (a b : Method) → Some a ≡ Some b → a ≡ b
same_method a b e = cc

module _ (set : Set) (program : Program) (main : ℕ) (c : IsCompiled set program main) where
  no_method : (method : ℕ) → method_at set 0 (suc method) ≡ None
  no_method method =
      ap (λ (cs : List ClassFile). slice_get (methods_of (slice_get cs 0)) (suc method)) c.classes ∙ ap (λ (ms : List Method). slice_get ms (suc method)) c.methods

  no_class : (class method : ℕ) → method_at set (suc class) method ≡ None
  no_class class method = ap (λ (cs : List ClassFile). slice_get (methods_of (slice_get cs (suc class))) method) c.classes

  -- what is fetched is of main's code
  fetched : (class method at : ℕ) (i : Instr) → fetch set class method at ≡ Some i → Stands (class_pool set class) at i
  unfolding fetch
  fetched zero zero at i e =
      subst (λ n. Stands (class_pool set 0) n i) (let z : 0 + at ≡ at = omega arith in z)
      (spelled (class_pool set 0) c.method.code (body_code c.function.body) 0 at i
      (subst (λ pool. Spells pool 0 c.method.code (body_code c.function.body)) (sym (pool_is set program main c)) c.code.spelled)
      (ap (λ m. instr_in m at) (sym (method_is set program main c)) ∙ e))
  fetched zero (suc method) at i e = absurd (let q : None ≡ Some i = sym (ap (λ m. instr_in m at) (no_method method)) ∙ e in cc)
  fetched (suc class) method at i e = absurd (let q : None ≡ Some i = sym (ap (λ m. instr_in m at) (no_class class method)) ∙ e in cc)

  -- each method is main
  unhandled : (class method : ℕ) (m : Method) → method_at set class method ≡ Some m → m.handlers ≡ []
  unhandled zero zero m e = ap (λ (k : Method). k.handlers) (same_method m c.method (sym e ∙ method_is set program main c)) ∙ c.code.unhandled
  unhandled zero (suc method) m e = absurd (let q : None ≡ Some m = sym (no_method method) ∙ e in cc)
  unhandled (suc class) method m e = absurd (let q : None ≡ Some m = sym (no_class class method) ∙ e in cc)

  first_lot : IsFirstLot set
  first_lot = record {
    main = main_is_plain set program main c;
    rows = λ class method at i e. let s = fetched class method at i e in row_is_in (class_pool set class) at i s.op s.stands;
    calls = λ class method at k i e r. let s = fetched class method at i e in call_is_built (class_pool set class) at k i s.op s.stands r;
    unhandled = unhandled;
  }

pub compiled_is_first_lot : CompiledIsFirstLot
compiled_is_first_lot set program main c = first_lot set program main c
