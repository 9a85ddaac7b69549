-- Types that are formed: each class has as many arguments as parameters, a class of functions has types as arguments and no
-- projections, and no `?` stands on another. Whether there is a class of a number is not asked here: what counts are the parameters that the
-- heads give it.
use Rattle.std.specs.Prelude.{◌≡◌, true, false, List, [], ◌∷◌}
use Rattle.kc_types.specs.Types.{Ty, Class, Param, Nothing, Nullable, Arg, Exact, Out, In, Star, Args, none, more, HeadParam, Heads, is_own}

-- no type parameter stands twice
abbrev pub Different : List HeadParam → Type 0
Different [] = Unit {0}
Different (p ∷ ps) = (is_own ps p.var ≡ false) × Different ps

-- arguments that are types, whatever these have inside
abbrev pub Exact_args : Args → Type 0
Exact_args none = Unit {0}
Exact_args (more (Exact t) xs) = Exact_args xs
Exact_args (more (Out t) xs) = ⊥
Exact_args (more (In t) xs) = ⊥
Exact_args (more Star xs) = ⊥

abbrev pub Unmarked : Ty → Type 0
Unmarked (Nullable t) = ⊥
Unmarked (Class c xs) = Unit {0}
Unmarked (Param x) = Unit {0}
Unmarked Nothing = Unit {0}

module _ (h : Heads) where
  abbrev mutual
    pub Formed : Ty → Type 0
    Formed (Class c xs) = (h.is_function c ≡ true → Exact_args xs) × Args_formed (h.params c) xs
    Formed (Param x) = Unit {0}
    Formed Nothing = Unit {0}
    Formed (Nullable t) = Unmarked t × Formed t

    pub Arg_formed : Arg → Type 0
    Arg_formed (Exact t) = Formed t
    Arg_formed (Out t) = Formed t
    Arg_formed (In t) = Formed t
    Arg_formed Star = Unit {0}

    pub Args_formed : List HeadParam → Args → Type 0
    Args_formed [] none = Unit {0}
    Args_formed (p ∷ ps) (more a xs) = Arg_formed a × Args_formed ps xs
    Args_formed [] (more a xs) = ⊥
    Args_formed (p ∷ ps) none = ⊥
