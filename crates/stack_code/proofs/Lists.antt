-- Lists, heaps and locals after a change.
use Rattle.std.proofs.Common.{◌≡◌, ℕ, zero, suc, ◌+◌, ◌<◌, ◌⊎◌, inl, inr, List, [], ◌∷◌, ◌++◌, length, Option, Some, None, refl, sym, ap, ◌∙◌, subst, arith, ⊎_elim}
use Rattle.std.specs.Prelude.{slice_get, slice_set}
use Rattle.std.proofs.lemmas.Bool.{cases_lt}
use Rattle.kc_core.specs.Values.{Value}
use Rattle.class_file.specs.declared.value.Value.{Value as Slot}
use Rattle.class_file.specs.Natives.{Object}
use Rattle.stack_code.specs.Code.{Operation, bytes}
use Rattle.stack_code.specs.Implements.{Grows, Holds, Held}

pub bytes_append : (a b : List Operation) → bytes (a ++ b) ≡ bytes a + bytes b
bytes_append [] b = omega arith
bytes_append (x ∷ a) b = let r = bytes_append a b in omega (arith, r)

pub get_same : {A : Type 0} (xs : List A) (i : ℕ) (a : A) → i < length xs → slice_get (slice_set xs i a) i ≡ Some a
get_same [] i a h = absurd (omega arith)
get_same (x ∷ xs) zero a h = refl
get_same (x ∷ xs) (suc i) a h = get_same xs i a (omega arith)

pub get_other : {A : Type 0} (xs : List A) (i k : ℕ) (a : A) → (k ≡ i → ⊥) → slice_get (slice_set xs i a) k ≡ slice_get xs k
get_other [] i k a h = refl
get_other (x ∷ xs) zero zero a h = absurd (h refl)
get_other (x ∷ xs) zero (suc k) a h = refl
get_other (x ∷ xs) (suc i) zero a h = refl
get_other (x ∷ xs) (suc i) (suc k) a h = get_other xs i k a (λ e. h (ap suc e))

pub set_length : {A : Type 0} (xs : List A) (i : ℕ) (a : A) → length (slice_set xs i a) ≡ length xs
set_length [] i a = refl
set_length (x ∷ xs) zero a = refl
set_length (x ∷ xs) (suc i) a = ap suc (set_length xs i a)

pub within : {A : Type 0} (xs : List A) (i : ℕ) (a : A) → slice_get xs i ≡ Some a → i < length xs
within [] i a h = cc
within (x ∷ xs) zero a h = omega arith
within (x ∷ xs) (suc i) a h = let r = within xs i a h in omega (arith, r)

-- what stood in a list stands in it with more behind
pub get_front : {A : Type 0} (xs more : List A) (i : ℕ) (a : A) → slice_get xs i ≡ Some a → slice_get (xs ++ more) i ≡ Some a
get_front [] more i a e = cc
get_front (x ∷ xs) more zero a e = e
get_front (x ∷ xs) more (suc i) a e = get_front xs more i a e

pub get_new : {A : Type 0} (xs : List A) (a : A) → slice_get (xs ++ a ∷ []) (length xs) ≡ Some a
get_new [] a = refl
get_new (x ∷ xs) a = get_new xs a

pub grows_more : (h : List Object) (ob : Object) → Grows h (h ++ ob ∷ [])
grows_more h ob = record { stays = λ r old e. get_front h (ob ∷ []) r old e }

pub nat_discrete : (x y : ℕ) → (x ≡ y) ⊎ (x ≡ y → ⊥)
nat_discrete x y = ⊎_elim (λ lt. inr (λ e. omega arith)) (λ le. ⊎_elim (λ lt. inr (λ e. omega arith)) (λ ge. inl (omega arith)) (cases_lt y x)) (cases_lt x y)

-- A local gets a value, and the machine's local variable what holds it.
pub held_write : (h : List Object) (ls ls' : List Slot) (locals : List (Option Value)) (y : ℕ) (v : Value) → y < length locals → length ls' ≡ length ls → Holds h v (slice_get ls' y) → ((x : ℕ) → (x ≡ y → ⊥) → slice_get ls' x ≡ slice_get ls x) → Held h ls locals → Held h ls' (slice_set locals y (Some v))
held_write h ls ls' locals y v lt long new others held = record {
  room = let e = set_length locals y (Some v) in omega (arith, e, long, held.room);
  same = λ x w e. by_test x w e (nat_discrete x y);
}
  where
    some_is : (a b : Option Value) → Some a ≡ Some b → a ≡ b
    some_is a b e = cc

    value_is : (a b : Value) → Some a ≡ Some b → a ≡ b
    value_is a b e = cc

    by_test : (x : ℕ) (w : Value) → slice_get (slice_set locals y (Some v)) x ≡ Some (Some w) → (x ≡ y) ⊎ (x ≡ y → ⊥) → Holds h w (slice_get ls' x)
    by_test x w e (inl q) =
        let a : Some (Some v) ≡ Some (Some w) = sym (get_same locals y (Some v) lt) ∙ ap (slice_get (slice_set locals y (Some v))) (sym q) ∙ e in
        let b : v ≡ w = value_is v w (some_is (Some v) (Some w) a) in
        subst (λ i. Holds h w (slice_get ls' i)) (sym q) (subst (λ u. Holds h u (slice_get ls' y)) b new)
    by_test x w e (inr q) =
        subst (Holds h w) (sym (others x q)) (held.same x w (sym (get_other locals y x (Some v) q) ∙ e))

-- a local is unset
pub held_unset : (h : List Object) (ls : List Slot) (locals : List (Option Value)) (y : ℕ) → y < length locals → Held h ls locals → Held h ls (slice_set locals y None)
held_unset h ls locals y lt held = record {
  room = let e = set_length locals y None in omega (arith, e, held.room);
  same = λ x w e. by_test x w e (nat_discrete x y);
}
  where
    by_test : (x : ℕ) (w : Value) → slice_get (slice_set locals y None) x ≡ Some (Some w) → (x ≡ y) ⊎ (x ≡ y → ⊥) → Holds h w (slice_get ls x)
    by_test x w e (inl q) =
        let a : Some None ≡ Some (Some w) = sym (get_same locals y None lt) ∙ ap (slice_get (slice_set locals y None)) (sym q) ∙ e in absurd cc
    by_test x w e (inr q) = held.same x w (sym (get_other locals y x None q) ∙ e)
