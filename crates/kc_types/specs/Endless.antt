-- Hierarchies that break a rule on supertypes' arguments or on bounds. Three have a question that leads on to itself, and gets its yes at no
-- height. One has a question that leads on to larger ones: that it gets no yes is computed at one height alone. In the last an argument
-- is beyond its bound, and the questions get their yes all the same.
use Rattle.std.specs.Prelude.{◌≡◌, ℕ, true, false, nat_eq, List, [], ◌∷◌, cond}
use Rattle.kc_types.specs.Types.{Ty, Param, Nullable, Exact, Out, Star, Invariant, Covariant, Contravariant, HeadParam, Heads}
use Rattle.kc_types.specs.Subtype.{below}
use Rattle.kc_types.specs.Examples.{nth, plain, one, two, any_bound, bounded}

abbrev pub heads_with : ℕ → List (List HeadParam) → List (List Ty) → ℕ → Ty → Heads
heads_with n ps ss x t = record {
  classes = n;
  params = nth [] ps;
  supers = nth [] ss;
  vars = n;
  bound_of = λ y. cond (nat_eq y x) t (Nullable (plain 0));
  any = 0;
  is_function = λ c. false;
}

-- N<M<*>>
abbrev pub n_of_m : ℕ → ℕ → Ty
n_of_m n m = one n (Exact (one m Star))

-- Any 0, N<T> 1, P : N<M<out N<M<*>>>> 2, M<T : P> 3
abbrev pub by_itself : Heads
by_itself = heads_with 4
    ([] ∷ (any_bound 10 Invariant ∷ []) ∷ [] ∷ (bounded 30 (plain 2) ∷ []) ∷ [])
    ([] ∷ [] ∷ (one 1 (Exact (one 3 (Out (n_of_m 1 3)))) ∷ []) ∷ [] ∷ []) 30 (plain 2)

-- Any 0, N<T> 1, M<T : D<N<M<*>>>> 2, D<T : D<N<M<*>>>> : N<M<out T>> 3
abbrev pub d_of_n : Ty
d_of_n = one 3 (Exact (n_of_m 1 2))

abbrev pub by_bound : Heads
by_bound = heads_with 4
    ([] ∷ (any_bound 10 Invariant ∷ []) ∷ (bounded 20 d_of_n ∷ []) ∷ (bounded 30 d_of_n ∷ []) ∷ [])
    ([] ∷ [] ∷ [] ∷ (one 1 (Exact (one 2 (Out (Param 30)))) ∷ []) ∷ []) 30 d_of_n

-- Any 0, Function1<in P, out R> 1, Unit 2, and a type parameter T : ((T) -> Unit) -> Unit
abbrev pub to_unit : Ty → Ty
to_unit t = two 1 (Exact t) (Exact (plain 2))

abbrev pub by_function : Heads
by_function = heads_with 3
    ([] ∷ (any_bound 10 Contravariant ∷ any_bound 11 Covariant ∷ []) ∷ [] ∷ [])
    ([] ∷ [] ∷ [] ∷ []) 30 (to_unit (to_unit (Param 30)))

-- Any 0, C<out T> 1, N<T> 2, M<T : D<N<M<*>>>> 3, D<T> : C<D<C<C<T>>>>, N<M<out T>> 4
abbrev pub d_of : Ty
d_of = one 4 (Exact (n_of_m 2 3))

abbrev pub c_of : Ty → Ty
c_of t = one 1 (Exact t)

abbrev pub by_larger : Heads
by_larger = heads_with 5
    ([] ∷ (any_bound 10 Covariant ∷ []) ∷ (any_bound 20 Invariant ∷ []) ∷ (bounded 30 d_of ∷ []) ∷ (any_bound 40 Invariant ∷ []) ∷ [])
    ([] ∷ [] ∷ [] ∷ [] ∷ (c_of (one 4 (Exact (c_of (c_of (Param 40))))) ∷ one 2 (Exact (one 3 (Out (Param 40)))) ∷ []) ∷ []) 30 d_of

-- Any 0, Num 1, Box<T : Num> 2, C : Box<Any> 3
abbrev pub beyond : Heads
beyond = heads_with 4 ([] ∷ [] ∷ (bounded 20 (plain 1) ∷ []) ∷ [] ∷ []) ([] ∷ [] ∷ [] ∷ (one 2 (Exact (plain 0)) ∷ []) ∷ []) 20 (plain 1)

pub record Endless : Type 0 where
  -- P below N<M<*>> asks M<*> below M<out N<M<*>>>, and that the same again: no height says yes
  pub itself : (n : ℕ) → below n by_itself (plain 2) (n_of_m 1 3) ≡ false
  -- D<N<M<*>>> below N<M<*>>, by way of M's bound
  pub bound : (n : ℕ) → below n by_bound d_of_n (n_of_m 1 2) ≡ false
  -- T below (T) -> Unit, by way of its own bound
  pub function : (n : ℕ) → below n by_function (Param 30) (to_unit (Param 30)) ≡ false
  -- D<N<M<*>>> below C<N<M<*>>> asks for larger and larger types: not yet at a height of 6
  pub larger : below 6 by_larger d_of (c_of (n_of_m 2 3)) ≡ false
  -- C is below Box<Any>, that below Box<out Num>, and so is C, though the argument of its supertype is beyond the bound
  pub at_instance : below 4 beyond (plain 3) (one 2 (Exact (plain 0))) ≡ true
  pub beside_bound : below 4 beyond (one 2 (Exact (plain 0))) (one 2 (Out (plain 1))) ≡ true
  pub joined : below 6 beyond (plain 3) (one 2 (Out (plain 1))) ≡ true
