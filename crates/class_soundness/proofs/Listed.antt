-- What is so of each instruction in a set is so of each that is fetched.
use Rattle.std.proofs.Common.{◌≡◌, ℕ, zero, suc, ◌-◌, Bool, true, false, cond, eqb, List, [], ◌∷◌, Option, Some, None, refl, subst, arith}
use Rattle.std.specs.Prelude.{All, slice_get, nat_lt}
use Rattle.class_file.specs.declared.class.ClassFile.{ClassFile}
use Rattle.class_file.specs.declared.class.Method.{Method}
use Rattle.class_file.specs.declared.instr.Instr.{Instr}
use Rattle.class_file.specs.declared.row.Row.{Row}
use Rattle.class_file.specs.declared.row.Row.TheVariants as row
use Rattle.class_file.specs.Rows.{length_of, row_of, instr_at}
use Rattle.class_file.specs.Machine.{fetch, instr_in, methods_of}
use Rattle.class_file.specs.Lots.{in_first_lot}
use Rattle.class_soundness.specs.Soundness.{is_covered, FirstLotIsCovered}
use Rattle.class_soundness.proofs.Found.{some_same, none_is}

head_of : {X : Type 0} (P : X → Type 0) (x : X) (xs : List X) → All P (x ∷ xs) → P x
head_of P x xs h = h 0 x (omega arith)

tail_of : {X : Type 0} (P : X → Type 0) (x : X) (xs : List X) → All P (x ∷ xs) → All P xs
tail_of P x xs h = λ k d lt. h (suc k) d (omega arith)

pub each : {X : Type 0} (P : X → Type 0) (xs : List X) (k : ℕ) (x : X) → All P xs → slice_get xs k ≡ Some x → P x
each P [] k x h e = absurd cc
each P (y ∷ ys) zero x h e = subst P (some_same y x e) (head_of P y ys h)
each P (y ∷ ys) (suc k) x h e = each P ys k x (tail_of P y ys h) e

each_instr : (P : Instr → Type 0) (is : List Instr) (at : ℕ) (i : Instr) → All P is → instr_at is at ≡ Some i → P i
unfolding instr_at
each_instr P [] at i h e = absurd (none_is i e)
each_instr P (j ∷ is) at i h e = by (eqb at 0) (nat_lt at (length_of j)) (each_instr P is (at - length_of j) i (tail_of P j is h)) e
  where
    by : (a b : Bool) → (instr_at is (at - length_of j) ≡ Some i → P i) → cond a (Some j) (cond b None (instr_at is (at - length_of j))) ≡ Some i → P i
    by true b more e = subst P (some_same j i e) (head_of P j is h)
    by false true more e = absurd (none_is i e)
    by false false more e = more e

covered : (r : Row) → in_first_lot r ≡ true → is_covered r ≡ true
covered row.Nop e = refl
covered row.DupX1 e = refl
covered row.Dup2 e = refl
covered (row.Increment i n) e = refl
covered (row.GetStatic i) e = refl
covered (row.PutStatic i) e = refl
covered _ e = e

pub first_lot : FirstLotIsCovered
unfolding fetch
first_lot set h class method at i e = covered (row_of at i) (by_class (slice_get set.classes class) refl e)
  where
    by_method : (c : ClassFile) → slice_get set.classes class ≡ Some c → (o : Option Method) → slice_get c.methods method ≡ o → instr_in o at ≡ Some i → in_first_lot (row_of at i) ≡ true
    by_method c k None l e = absurd (none_is i e)
    by_method c k (Some m) l e =
        each_instr (λ (i : Instr). (pc : ℕ) → in_first_lot (row_of pc i) ≡ true) m.code at i (each (λ (x : Method). All (λ (j : Instr). (pc : ℕ) → in_first_lot (row_of pc j) ≡ true) x.code) c.methods method m (each (λ (x : ClassFile). All (λ (y : Method). All (λ (j : Instr). (pc : ℕ) → in_first_lot (row_of pc j) ≡ true) y.code) x.methods) set.classes class c h k) l) e at

    by_class : (o : Option ClassFile) → slice_get set.classes class ≡ o → instr_in (slice_get (methods_of o) method) at ≡ Some i → in_first_lot (row_of at i) ≡ true
    by_class None k e = by_none (slice_get [] method) refl e
      where
        by_none : (o : Option Method) → slice_get [] method ≡ o → instr_in o at ≡ Some i → in_first_lot (row_of at i) ≡ true
        by_none None l e = absurd (none_is i e)
        by_none (Some m) l e = absurd cc
    by_class (Some c) k e = by_method c k (slice_get c.methods method) refl e
