-- Small hierarchies, computed: what the rules give where a plainer reading of them would give something else.
use Rattle.std.specs.Prelude.{◌≡◌, ℕ, zero, suc, true, false, nat_eq, List, [], ◌∷◌, Some, None, cond, ◌||◌}
use Rattle.kc_types.specs.Types.{Ty, Class, Param, Nothing, Nullable, Arg, Exact, Out, In, Star, none, more, Variance, Invariant, Covariant, Contravariant, HeadParam, Heads, up, down, star_bound, class_given}
use Rattle.kc_types.specs.Supertypes.{instance}
use Rattle.kc_types.specs.Subtype.{below}
use Rattle.kc_types.specs.View.{view}
use Rattle.kc_types.specs.CommonClasses.{common_class}

abbrev pub nth : {A : Type 0} → A → List A → ℕ → A
nth d [] k = d
nth d (x ∷ xs) zero = x
nth d (x ∷ xs) (suc k) = nth d xs k

abbrev pub plain : ℕ → Ty
plain c = Class c none

abbrev pub one : ℕ → Arg → Ty
one c a = Class c (more a none)

abbrev pub two : ℕ → Arg → Arg → Ty
two c a b = Class c (more a (more b none))

abbrev pub var : ℕ → Arg
var x = Exact (Param x)

abbrev pub any_bound : ℕ → Variance → HeadParam
any_bound x v = record { var = x; variance = v; bound = Nullable (plain 0) }

abbrev pub bounded : ℕ → Ty → HeadParam
bounded x t = record { var = x; variance = Invariant; bound = t }

abbrev pub num_bound : ℕ → HeadParam
num_bound x = bounded x (plain 1)

-- Any 0, Num 1 : Any, L<out S> 2, D<T : Num> : L<T> 3, Sink<in X> 4, Function1<in P, out R> 5,
-- Iterable<out A> 6, Collection<out B> : Iterable<B> 7, MutableList<E> : Collection<E> 8, ArrayList<F> : MutableList<F> 9
abbrev pub heads_params : List (List HeadParam)
heads_params = [] ∷ [] ∷ (any_bound 20 Covariant ∷ []) ∷ (record { var = 30; variance = Invariant; bound = plain 1 } ∷ []) ∷ (any_bound 40 Contravariant ∷ []) ∷
    (any_bound 50 Contravariant ∷ any_bound 51 Covariant ∷ []) ∷ (any_bound 60 Covariant ∷ []) ∷ (any_bound 70 Covariant ∷ []) ∷ (any_bound 80 Invariant ∷ []) ∷ (any_bound 90 Invariant ∷ []) ∷ []

abbrev pub heads_supers : List (List Ty)
heads_supers = [] ∷ (plain 0 ∷ []) ∷ [] ∷ (one 2 (var 30) ∷ []) ∷ [] ∷ [] ∷ [] ∷ (one 6 (var 70) ∷ []) ∷ (one 7 (var 80) ∷ []) ∷ (one 8 (var 90) ∷ []) ∷ []

abbrev pub heads : Heads
heads = record {
  classes = 10;
  params = nth [] heads_params;
  supers = nth [] heads_supers;
  vars = 10;
  bound_of = λ x. cond (nat_eq x 30) (plain 1) (Nullable (plain 0));
  any = 0;
  is_function = λ c. nat_eq c 5;
}

-- Any 0, Comparable<in T> 1, Int : Comparable<Int> 2, String : Comparable<String> 3, Tag 4, A : Comparable<A>, Tag 5, and B likewise 6
abbrev pub compared : ℕ → Ty
compared c = one 1 (Exact (plain c))

abbrev pub comparables : Heads
comparables = record {
  classes = 7;
  params = nth [] ([] ∷ (any_bound 10 Contravariant ∷ []) ∷ []);
  supers = nth [] ([] ∷ (plain 0 ∷ []) ∷ (compared 2 ∷ []) ∷ (compared 3 ∷ []) ∷ (plain 0 ∷ []) ∷ (compared 5 ∷ plain 4 ∷ []) ∷ (compared 6 ∷ plain 4 ∷ []) ∷ []);
  vars = 1;
  bound_of = λ x. Nullable (plain 0);
  any = 0;
  is_function = λ c. false;
}

-- Any 0, Num 1 : Any, L<X, Y> 2, D<X : Num, Y> : L<X, Y> 3, C<T : Num> : D<T, T> 4, E<T : Num> : L<T?, T> 5, Sink<in X> 6, Box<T> 7,
-- K<out T> : Sink<Box<out Sink<T>>> 8
abbrev pub in_steps : Heads
in_steps = record {
  classes = 9;
  params = nth [] ([] ∷ [] ∷ (any_bound 20 Invariant ∷ any_bound 21 Invariant ∷ []) ∷ (num_bound 30 ∷ any_bound 31 Invariant ∷ []) ∷ (num_bound 40 ∷ []) ∷ (num_bound 50 ∷ []) ∷
      (any_bound 60 Contravariant ∷ []) ∷ (any_bound 70 Invariant ∷ []) ∷ (any_bound 80 Covariant ∷ []) ∷ []);
  supers = nth [] ([] ∷ (plain 0 ∷ []) ∷ [] ∷ (two 2 (var 30) (var 31) ∷ []) ∷ (two 3 (var 40) (var 40) ∷ []) ∷ (two 2 (Exact (Nullable (Param 50))) (var 50) ∷ []) ∷ [] ∷ [] ∷
      (one 6 (Exact (one 7 (Out (one 6 (var 80))))) ∷ []) ∷ []);
  vars = 9;
  bound_of = λ x. Nullable (plain 0);
  any = 0;
  is_function = λ c. false;
}

-- Any 0, Num 1 : Any, Unit 2, MutableList<E> 3, List<out E> 4, Function1<in P, out R> 5, Function0<out R> 6,
-- Box<T : MutableList<MutableList<T>>> 7, X : MutableList<MutableList<X>> 8, Chain<A : B?, B : D?, D : Num?> 9, Lists<A : B?, B : List<B>?> 10,
-- Call<T : (T) -> Unit> 11, Make<T : () -> List<T>> 12, Outs<T : MutableList<out T>> 13, Nulls<T : MutableList<T?>> 14, Itself<T : () -> T> 15,
-- Lazy<U : Num, F : () -> U> 16, Takes<U, F : (U?) -> Unit> 17, Finds<U : Num, F : () -> U?> 18, Makes<U : MutableList<U>, F : (Num) -> U> 19,
-- Again<U, F : () -> F> 20, Sink<in X> 21, Feeds<U : Num, F : (Sink<U?>) -> Unit> 22
abbrev pub box_bound : HeadParam
box_bound = bounded 70 (one 3 (Exact (one 3 (var 70))))

abbrev pub chain_bound : ℕ → Ty → HeadParam
chain_bound x t = bounded x (Nullable t)

abbrev pub call_bound : HeadParam
call_bound = bounded 110 (two 5 (var 110) (Exact (plain 2)))

abbrev pub make_bound : HeadParam
make_bound = bounded 120 (one 6 (Exact (one 4 (var 120))))

abbrev pub outs_bound : HeadParam
outs_bound = bounded 130 (one 3 (Out (Param 130)))

abbrev pub nulls_bound : HeadParam
nulls_bound = bounded 140 (one 3 (Exact (Nullable (Param 140))))

abbrev pub itself_bound : HeadParam
itself_bound = bounded 150 (one 6 (var 150))

abbrev pub lazy_bound : HeadParam
lazy_bound = bounded 161 (one 6 (var 160))

abbrev pub takes_bound : HeadParam
takes_bound = bounded 171 (two 5 (Exact (Nullable (Param 170))) (Exact (plain 2)))

abbrev pub finds_bound : HeadParam
finds_bound = bounded 181 (one 6 (Exact (Nullable (Param 180))))

abbrev pub makes_bound : HeadParam
makes_bound = bounded 191 (two 5 (Exact (plain 1)) (var 190))

abbrev pub again_bound : HeadParam
again_bound = bounded 201 (one 6 (var 201))

abbrev pub feeds_bound : HeadParam
feeds_bound = bounded 221 (two 5 (Exact (one 21 (Exact (Nullable (Param 220))))) (Exact (plain 2)))

abbrev pub with_bounds : Heads
with_bounds = record {
  classes = 23;
  params = nth [] ([] ∷ [] ∷ [] ∷ (any_bound 30 Invariant ∷ []) ∷ (any_bound 40 Covariant ∷ []) ∷ (any_bound 50 Contravariant ∷ any_bound 51 Covariant ∷ []) ∷ (any_bound 60 Covariant ∷ []) ∷
      (box_bound ∷ []) ∷ [] ∷ (chain_bound 90 (Param 91) ∷ chain_bound 91 (Param 92) ∷ chain_bound 92 (plain 1) ∷ []) ∷ (chain_bound 100 (Param 101) ∷ chain_bound 101 (one 4 (var 101)) ∷ []) ∷
      (call_bound ∷ []) ∷ (make_bound ∷ []) ∷ (outs_bound ∷ []) ∷ (nulls_bound ∷ []) ∷ (itself_bound ∷ []) ∷ (num_bound 160 ∷ lazy_bound ∷ []) ∷ (any_bound 170 Invariant ∷ takes_bound ∷ []) ∷
      (num_bound 180 ∷ finds_bound ∷ []) ∷ (bounded 190 (one 3 (var 190)) ∷ makes_bound ∷ []) ∷ (any_bound 200 Invariant ∷ again_bound ∷ []) ∷
      (any_bound 210 Contravariant ∷ []) ∷ (num_bound 220 ∷ feeds_bound ∷ []) ∷ []);
  supers = nth [] ([] ∷ (plain 0 ∷ []) ∷ [] ∷ [] ∷ [] ∷ [] ∷ [] ∷ [] ∷ (one 3 (Exact (one 3 (Exact (plain 8)))) ∷ []) ∷ []);
  vars = 0;
  bound_of = λ x. Nullable (plain 0);
  any = 0;
  is_function = λ c. nat_eq c 5 || nat_eq c 6;
}

-- Any 0, Comparable<in T> 1, Enum<E : Enum<E>> : Comparable<E> 2, Sorted<T : Comparable<T>> : Any 3, Color : Enum<Color> 4
abbrev pub ordered_params : List (List HeadParam)
ordered_params = [] ∷ (any_bound 10 Contravariant ∷ []) ∷ (bounded 20 (one 2 (var 20)) ∷ []) ∷ (bounded 30 (one 1 (var 30)) ∷ []) ∷ [] ∷ []

abbrev pub ordered_supers : List (List Ty)
ordered_supers = [] ∷ [] ∷ (one 1 (var 20) ∷ []) ∷ (plain 0 ∷ []) ∷ (one 2 (Exact (plain 4)) ∷ []) ∷ []

abbrev pub ordered : Heads
ordered = record {
  classes = 5;
  params = nth [] ordered_params;
  supers = nth [] ordered_supers;
  vars = 0;
  bound_of = λ x. Nullable (plain 0);
  any = 0;
  is_function = λ c. false;
}

pub record ExamplesHold : Type 0 where
  -- Int and String have Comparable above both; where two such classes stand side by side it is Any
  pub common : common_class comparables 2 3 ≡ 1
  pub common_above : common_class heads 9 7 ≡ 7
  pub common_beside : common_class comparables 5 6 ≡ 0
  -- ArrayList<Num> is below Iterable<Num> and Iterable<Any>
  pub walks : below 8 heads (one 9 (Exact (plain 1))) (one 6 (Exact (plain 0))) ≡ true
  pub at_iterable : instance heads 9 6 ≡ Some (one 6 (var 90))
  pub of_num : up heads (class_given heads 9 (more (Exact (plain 1)) none)) (one 6 (var 90)) ≡ one 6 (Exact (plain 1))
  -- a star keeps its parameter's bound at a superclass, and so does an `in` projection
  pub star_keeps_bound : below 8 heads (one 3 Star) (one 2 (Exact (plain 1))) ≡ true
  pub in_keeps_bound : below 8 heads (one 3 (In Nothing)) (one 2 (Exact (plain 1))) ≡ true
  -- an argument beyond its bound gives way to `out` of the bound
  pub beyond_bound : below 8 heads (one 3 (Exact (plain 0))) (one 3 (Out (plain 1))) ≡ true
  -- C<in Nothing> is a D<in Nothing, in Nothing>, whose bound makes the first argument `out Num`: at L, whose parameters have no bounds,
  -- one argument of C can't be both
  pub on_the_way : below 8 in_steps (one 4 (In Nothing)) (two 2 (Out (plain 1)) (In Nothing)) ≡ true
  -- E<Any> is beyond E's bound; as an E<in Any> it is an L<out Num?, in Any>
  pub beyond_twice : below 8 in_steps (one 5 (Exact (plain 0))) (two 2 (Out (Nullable (plain 1))) (In (plain 1))) ≡ true
  -- a projection that says what declared variance says is no projection: K<out Num> is at Sink what K<Num> is
  pub declared_out : up in_steps (class_given in_steps 8 (more (Out (plain 1)) none)) (one 6 (Exact (one 7 (Out (one 6 (var 80)))))) ≡ one 6 (Exact (one 7 (Out (one 6 (Exact (plain 1))))))
  pub keeps_invariance : below 8 heads (one 3 (Exact (plain 1))) (one 3 (Exact (plain 0))) ≡ false
  pub takes_wider : below 8 heads (one 4 (Exact (plain 0))) (one 4 (Exact (plain 1))) ≡ true
  pub takes_narrower : below 8 heads (one 4 (Exact (plain 1))) (one 4 (Exact (plain 0))) ≡ false
  pub of_functions : below 8 heads (two 5 (Exact (plain 0)) (Exact (plain 1))) (two 5 (Exact (plain 1)) (Exact (plain 0))) ≡ true
  pub of_nullable : below 8 heads (Nullable (one 3 (Exact (plain 1)))) (Nullable (one 2 (Exact (plain 0)))) ≡ true
  pub null_is_no_any : below 8 heads (Nullable (plain 1)) (plain 0) ≡ false
  pub null_is_any_or_null : below 8 heads (Nullable (plain 1)) (Nullable (plain 0)) ≡ true
  pub two_marks : below 8 heads (Nullable (Nullable (plain 1))) (Nullable (plain 1)) ≡ true
  pub one_mark : below 8 heads (Nullable (plain 1)) (Nullable (Nullable (plain 1))) ≡ true
  -- a bound as a star reads it: MutableList<MutableList<T>> becomes MutableList<out MutableList<*>>. X keeps the bound, and is no
  -- MutableList<MutableList<*>>
  pub deeper_in_bound : star_bound with_bounds 7 box_bound ≡ one 3 (Out (one 3 Star))
  pub keeps_written : below 8 with_bounds (plain 8) (one 3 (Exact (one 3 (Exact (plain 8))))) ≡ true
  pub keeps_star : below 8 with_bounds (plain 8) (one 3 (Out (one 3 Star))) ≡ true
  pub below_no_list : below 8 with_bounds (plain 8) (one 3 (Exact (one 3 Star))) ≡ false
  -- a parameter that is an argument becomes a star, also with `out` or with `?`
  pub out_in_bound : star_bound with_bounds 13 outs_bound ≡ one 3 Star
  pub null_in_bound : star_bound with_bounds 14 nulls_bound ≡ one 3 Star
  -- a bound that is a parameter leads on to that parameter's bound, with its `?`
  pub bound_leads : star_bound with_bounds 9 (chain_bound 90 (Param 91)) ≡ Nullable (plain 1)
  pub bound_leads_to_list : star_bound with_bounds 10 (chain_bound 100 (Param 101)) ≡ Nullable (one 4 Star)
  -- the bound (T) -> Unit stays a function type, and so do () -> List<T> and () -> T
  pub function_bound : star_bound with_bounds 11 call_bound ≡ two 5 (Exact Nothing) (Exact (plain 2))
  pub function_of_list : star_bound with_bounds 12 make_bound ≡ one 6 (Exact (one 4 Star))
  pub function_of_itself : star_bound with_bounds 15 itself_bound ≡ one 6 (Exact (Nullable (plain 0)))
  -- the result of a function type that is a bound is another parameter's own bound, with its `?`; and a parameter with `?` takes null
  pub function_of_bound : star_bound with_bounds 16 lazy_bound ≡ one 6 (Exact (plain 1))
  pub function_takes_null : star_bound with_bounds 17 takes_bound ≡ two 5 (Exact (Nullable Nothing)) (Exact (plain 2))
  pub function_gives_null : star_bound with_bounds 18 finds_bound ≡ one 6 (Exact (Nullable (plain 1)))
  pub function_of_lists : star_bound with_bounds 19 makes_bound ≡ two 5 (Exact (plain 1)) (Exact (one 3 Star))
  -- (Sink<Num?>) -> Unit keeps the bound (Sink<U?>) -> Unit, and is no (Sink<Num>) -> Unit
  pub function_of_sinks : star_bound with_bounds 22 feeds_bound ≡ two 5 (Exact (one 21 (Exact (Nullable (plain 1))))) (Exact (plain 2))
  -- a bound that leads back to itself is followed as often as the class has parameters
  pub function_again : star_bound with_bounds 20 again_bound ≡ one 6 (Exact (one 6 (Exact (Nullable (plain 0)))))
  -- a projection against its parameter's variance is a star, also where a type is taken upwards: with `in Nothing?` in its place
  -- null would reach a Sink<Num>
  pub against : up heads (class_given heads 3 (more Star none)) (one 4 (Out (Nullable (Param 30)))) ≡ one 4 Star
  pub upwards : up heads (class_given heads 3 (more (Out (plain 1)) none)) (one 2 (Exact (one 3 (var 30)))) ≡ one 2 (Out (one 3 (Out (plain 1))))
  -- downwards only the class type whose invariant argument names the parameter becomes Nothing, not what stands round it
  pub downwards : down heads (class_given heads 3 (more (Out (plain 1)) none)) (one 2 (Exact (one 3 (var 30)))) ≡ one 2 (Exact Nothing)
  -- a function type stays one: its parameters are taken downwards
  pub function_upwards : up heads (class_given heads 3 (more Star none)) (two 5 (var 30) (var 30)) ≡ two 5 (Exact Nothing) (Exact (plain 1))
  -- what was a Collection<Any> is, as a MutableList, one of something below Any
  pub view_inward : view heads (one 7 (Exact (plain 0))) 8 ≡ Some (one 8 (Out (plain 0)))
  pub view_outward : view heads (one 9 (Exact (plain 1))) 7 ≡ Some (one 7 (Exact (plain 1)))
  pub view_of_nullable : view heads (Nullable (one 8 (Exact (plain 1)))) 9 ≡ Some (one 9 (Exact (plain 1)))
  pub view_beside : view heads (plain 1) 8 ≡ Some (one 8 Star)
  pub no_view_at_function : view heads (plain 1) 5 ≡ None
