-- What the core's relation has is in the whole one.
use Rattle.std.proofs.Common.{◌≡◌, ℕ, zero, suc, ◌<◌, Bool, true, false, nat_eq, List, [], ◌∷◌, cond, ◌||◌, refl, sym, ap, subst, ◌∙◌, ◌⊎◌, inl, inr, eqb-true, eq-eqb, arith}
use Rattle.kc_types.specs.Types.{Ty, Class, Param, Nothing, Nullable, Exact, Args, none, more, Variance, HeadParam, Heads, nullable, is_own, up, class_given, star_bound}
use Rattle.kc_types.specs.Supertypes.{IsIn, Supertype, put, put_args, put_in, own_args}
use Rattle.kc_types.specs.Supertypes.Supertype.{own, next}
use Rattle.kc_types.specs.Subtype.{Sub, All, In_arg, read}
use Rattle.kc_types.specs.Subtype.Sub.{same, through, nothing, any, null, nulls, object, super, arguments}
use Rattle.kc_types.specs.Subtype.All.{end, next as next_arg}
use Rattle.kc_types.specs.Subtype.In_arg.{out_out, in_in, exact}
use Rattle.kc_types.specs.Core as core
use Rattle.kc_types.specs.Core.Supertype.{own as core_own, next as core_next}
use Rattle.kc_types.specs.Core.Sub.{same as core_same, through as core_through, nothing as core_nothing, any as core_any, null as core_null, nulls as core_nulls, super as core_super, arguments as core_arguments}
use Rattle.kc_types.specs.Core.All.{end as core_end, out_next, in_next, both_next}
use Rattle.kc_types.specs.Core.{Valid, All_kinded}
use Rattle.kc_types.specs.Formed.{Different, Exact_args}
use Rattle.kc_types.specs.Whole.{whole, whole_args, whole_variance, Matches, parameter_at, CoreOf, numbered, whole_super}
use Rattle.kc_types.specs.Laws.{CoreIsPart, CoreHasWhole}
use Rattle.kc_types.proofs.CoreHeads.{super_kinded}
use Rattle.kc_types.proofs.Exacts.{Plain, Plain_args, neither, up_is_put}
use Rattle.kc_types.proofs.Listed.{map_in}

-- ---- substitution
pub twice : (t : Ty) → nullable t ≡ nullable (nullable t)
twice (Class c xs) = refl
twice (Param x) = refl
twice Nothing = refl
twice (Nullable t) = refl

pub put_nullable : (s : ℕ → Ty) (t : Ty) → put s (nullable t) ≡ nullable (put s t)
put_nullable s (Class c xs) = refl
put_nullable s (Param x) = refl
put_nullable s Nothing = refl
put_nullable s (Nullable t) = twice (put s t)

mutual
  whole_put : (t : ℕ → core.Ty) (f : ℕ → Ty) (w : core.Ty) → whole f (core.put t w) ≡ whole (λ k. whole f (t k)) w
  whole_put t f (core.Class c ws) = ap (λ us. Class c us) (whole_puts t f ws)
  whole_put t f (core.Hole k) = refl
  whole_put t f core.Nothing = refl
  whole_put t f (core.Nullable w) = ap nullable (whole_put t f w)

  whole_puts : (t : ℕ → core.Ty) (f : ℕ → Ty) (ws : core.Args) → whole_args f (core.puts t ws) ≡ whole_args (λ k. whole f (t k)) ws
  whole_puts t f core.none = refl
  whole_puts t f (core.more w ws) = cc (whole_put t f w, whole_puts t f ws)

mutual
  put_whole : (s f : ℕ → Ty) (w : core.Ty) → put s (whole f w) ≡ whole (λ k. put s (f k)) w
  put_whole s f (core.Class c ws) = ap (λ us. Class c us) (put_wholes s f ws)
  put_whole s f (core.Hole k) = refl
  put_whole s f core.Nothing = refl
  put_whole s f (core.Nullable w) = put_nullable s (whole f w) ∙ ap nullable (put_whole s f w)

  put_wholes : (s f : ℕ → Ty) (ws : core.Args) → put_args s (whole_args f ws) ≡ whole_args (λ k. put s (f k)) ws
  put_wholes s f core.none = refl
  put_wholes s f (core.more w ws) = cc (put_whole s f w, put_wholes s f ws)

mutual
  whole_same : (f g : ℕ → Ty) → ((k : ℕ) → f k ≡ g k) → (w : core.Ty) → whole f w ≡ whole g w
  whole_same f g e (core.Class c ws) = ap (λ us. Class c us) (whole_args_same f g e ws)
  whole_same f g e (core.Hole k) = e k
  whole_same f g e core.Nothing = refl
  whole_same f g e (core.Nullable w) = ap nullable (whole_same f g e w)

  whole_args_same : (f g : ℕ → Ty) → ((k : ℕ) → f k ≡ g k) → (ws : core.Args) → whole_args f ws ≡ whole_args g ws
  whole_args_same f g e core.none = refl
  whole_args_same f g e (core.more w ws) = cc (whole_same f g e w, whole_args_same f g e ws)

-- ---- types of the core have no projections
nullable_plain : (t : Ty) → Plain t → Plain (nullable t)
nullable_plain (Class c xs) p = p
nullable_plain (Param x) p = p
nullable_plain Nothing p = p
nullable_plain (Nullable t) p = p

mutual
  whole_plain : (f : ℕ → Ty) → ((k : ℕ) → Plain (f k)) → (w : core.Ty) → Plain (whole f w)
  whole_plain f e (core.Class c ws) = whole_plain_args f e ws
  whole_plain f e (core.Hole k) = e k
  whole_plain f e core.Nothing = tt
  whole_plain f e (core.Nullable w) = nullable_plain (whole f w) (whole_plain f e w)

  whole_plain_args : (f : ℕ → Ty) → ((k : ℕ) → Plain (f k)) → (ws : core.Args) → Plain_args (whole_args f ws)
  whole_plain_args f e core.none = tt
  whole_plain_args f e (core.more w ws) = (whole_plain f e w, whole_plain_args f e ws)

parameter_plain : (ps : List HeadParam) (k : ℕ) → Plain (parameter_at ps k)
parameter_plain [] k = tt
parameter_plain (p ∷ ps) zero = tt
parameter_plain (p ∷ ps) (suc k) = parameter_plain ps k

whole_exact : (f : ℕ → Ty) (ws : core.Args) → Exact_args (whole_args f ws)
whole_exact f core.none = tt
whole_exact f (core.more w ws) = whole_exact f ws

-- ---- arguments put in for parameters, and for places
no : {A : Type 0} → false ≡ true → A
no e = absurd (cc)

pub either_false : (a b : Bool) → (a || b) ≡ false → (a ≡ false) × (b ≡ false)
either_false false b e = (refl, e)
either_false true b e = no (sym e)

turned_in : (a b : ℕ) → nat_eq a b ≡ false → (v : Bool) → nat_eq b a ≡ v → nat_eq b a ≡ false
turned_in a b e true q = no (sym e ∙ eq-eqb a b (sym (eqb-true b a q)))
turned_in a b e false q = q

pub turned : (a b : ℕ) → nat_eq a b ≡ false → nat_eq b a ≡ false
turned a b e = turned_in a b e (nat_eq b a) refl

first_of : (b : Bool) (t u : Ty) → b ≡ true → cond b t u ≡ t
first_of true t u e = refl
first_of false t u e = no e

pub second_of : (b : Bool) (t u : Ty) → b ≡ false → cond b t u ≡ u
second_of false t u e = refl
second_of true t u e = no (sym e)

passed : (p : HeadParam) (t : Ty) (ps : List HeadParam) (xs : Args) (qs : List HeadParam) → is_own qs p.var ≡ false → (k : ℕ) →
    put (put_in (p ∷ ps) (more (Exact t) xs)) (parameter_at qs k) ≡ put (put_in ps xs) (parameter_at qs k)
passed p t ps xs [] e k = refl
passed p t ps xs (q ∷ qs) e zero = second_of (nat_eq p.var q.var) t (put_in ps xs q.var) (turned q.var p.var (either_false (nat_eq q.var p.var) (is_own qs p.var) e).0)
passed p t ps xs (q ∷ qs) e (suc k) = passed p t ps xs qs (either_false (nat_eq q.var p.var) (is_own qs p.var) e).1 k

-- as many arguments as parameters
abbrev Fits : List HeadParam → core.Args → Type 0
Fits [] core.none = Unit {0}
Fits (p ∷ ps) (core.more z zs) = Fits ps zs
Fits [] (core.more z zs) = ⊥
Fits (p ∷ ps) core.none = ⊥

in_place : (f : ℕ → Ty) (ps : List HeadParam) (zs : core.Args) → Fits ps zs → Different ps → (k : ℕ) → put (put_in ps (whole_args f zs)) (parameter_at ps k) ≡ whole f (core.at zs k)
in_place f [] core.none n d k = refl
in_place f (p ∷ ps) (core.more z zs) n d zero = first_of (nat_eq p.var p.var) (whole f z) (put_in ps (whole_args f zs) p.var) (eq-eqb p.var p.var refl)
in_place f (p ∷ ps) (core.more z zs) n d (suc k) = passed p (whole f z) ps (whole_args f zs) ps d.0 k ∙ in_place f ps zs n d.1 k
in_place f [] (core.more z zs) n d k = absurd n
in_place f (p ∷ ps) core.none n d k = absurd n

all_in_place : (f : ℕ → Ty) (ps : List HeadParam) (zs : core.Args) → Fits ps zs → Different ps → (ws : core.Args) →
    put_args (put_in ps (whole_args f zs)) (whole_args (parameter_at ps) ws) ≡ whole_args f (core.puts (core.at zs) ws)
all_in_place f ps zs n d ws =
    put_wholes (put_in ps (whole_args f zs)) (parameter_at ps) ws ∙
    whole_args_same (λ k. put (put_in ps (whole_args f zs)) (parameter_at ps k)) (λ k. whole f (core.at zs k)) (in_place f ps zs n d) ws ∙
    sym (whole_puts (core.at zs) f ws)

own_in : (ps : List HeadParam) (vs : List core.Variance) → Matches ps vs → own_args ps ≡ whole_args (parameter_at ps) (core.own_args vs)
own_in [] [] m = refl
own_in (p ∷ ps) (v ∷ vs) m = ap (λ us. more (Exact (Param p.var)) us) (own_in ps vs m.1 ∙ sym (whole_puts core.next_place (parameter_at (p ∷ ps)) (core.own_args vs)))
own_in [] (v ∷ vs) m = absurd m
own_in (p ∷ ps) [] m = absurd m

-- ---- null
pub null_in : (h : Heads) (t : Ty) → Sub h t (nullable t)
null_in h (Class c xs) = null
null_in h (Param x) = null
null_in h Nothing = null
null_in h (Nullable t) = same

null_before : (h : Heads) (t u : Ty) → Sub h t (nullable u) → Sub h (Nullable t) (nullable u)
null_before h t (Class c xs) d = nulls d
null_before h t (Param x) d = nulls d
null_before h t Nothing d = nulls d
null_before h t (Nullable u) d = nulls d

pub nulls_in : (h : Heads) (t u : Ty) → Sub h t (nullable u) → Sub h (nullable t) (nullable u)
nulls_in h (Class c xs) u d = null_before h (Class c xs) u d
nulls_in h (Param x) u d = null_before h (Param x) u d
nulls_in h Nothing u d = null_before h Nothing u d
nulls_in h (Nullable t) u d = d

-- ---- the rules
module _ (part : core.Heads) (valid : Valid part) (h : Heads) (is : CoreOf h part) where
  fits : (ps : List HeadParam) (vs : List core.Variance) (zs : core.Args) → Matches ps vs → All_kinded part vs zs → Fits ps zs
  fits [] [] core.none m n = tt
  fits (p ∷ ps) (v ∷ vs) (core.more z zs) m n = fits ps vs zs m.1 n.1
  fits [] [] (core.more z zs) m n = absurd n
  fits (p ∷ ps) (v ∷ vs) core.none m n = absurd n
  fits [] (v ∷ vs) zs m n = absurd m
  fits (p ∷ ps) [] zs m n = absurd m

  none_in : {A : Type 0} (x : A) (xs : List A) → xs ≡ [] → IsIn A x xs → ⊥
  none_in x xs e i = let j : IsIn _ x [] = subst (λ ys. IsIn _ x ys) e i in elim j [ ]

  -- each supertype is one of the whole, or the class of all objects
  abbrev Super_in : ℕ → ℕ → core.Args → Type 0
  Super_in c d zs = (d ≡ part.any) ⊎ Supertype h c (Class d (whole_args (parameter_at (h.params c)) zs))

  next_in : (c d : ℕ) (zs : core.Args) (x : core.Super) → All_kinded part (part.vars d) zs → IsIn core.Super x (part.supers d) → Super_in c d zs → Super_in c x.class (core.puts (core.at zs) x.args)
  next_in c d zs x n i (inl e) = absurd (none_in x (part.supers d) (ap part.supers e ∙ valid.alone) i)
  next_in c d zs x n i (inr st) = elim (is.supers d x i) [
    | inl e ↦ inl e
    | inr j ↦ inr (subst (λ us. Supertype h c (Class x.class us)) (all_in_place (parameter_at (h.params c)) (h.params d) zs (fits (h.params d) (part.vars d) zs (is.variances d) n) (is.different d) x.args) (next st j))
  ]

  super_in : {c d : ℕ} {zs : core.Args} → core.Supertype part c d zs → Super_in c d zs
  super_in {c = c} core_own = inr (subst (λ us. Supertype h c (Class c us)) (own_in (h.params c) (part.vars c) (is.variances c)) own)
  super_in {c = c} (core_next {d = d} {zs = zs} {s = x} st i) = next_in c d zs x (super_kinded part valid st) i (super_in st)

  no_arguments : (vs : List core.Variance) (zs : core.Args) → vs ≡ [] → All_kinded part vs zs → zs ≡ core.none
  no_arguments [] core.none e n = refl
  no_arguments [] (core.more z zs) e n = absurd n
  no_arguments (v ∷ vs) zs e n = absurd (cc)

  module _ (s : ℕ → Ty) where
    up_in : (c d : ℕ) (xs zs : core.Args) → All_kinded part (part.vars c) xs →
        up h (class_given h c (whole_args s xs)) (Class d (whole_args (parameter_at (h.params c)) zs)) ≡ Class d (whole_args s (core.puts (core.at xs) zs))
    up_in c d xs zs n =
        up_is_put h c (whole_args s xs) (whole_exact s xs) (Class d (whole_args (parameter_at (h.params c)) zs)) (whole_plain_args (parameter_at (h.params c)) (parameter_plain (h.params c)) zs) ∙
        ap (λ us. Class d us) (all_in_place s (h.params c) xs (fits (h.params c) (part.vars c) xs (is.variances c) n) (is.different c) zs)

    read_as : (p : HeadParam) (v : Variance) (top : Ty) (a b : Ty) → p.variance ≡ v → In_arg h top (read v (Exact a)) (read v (Exact b)) → In_arg h top (read p.variance (Exact a)) (read p.variance (Exact b))
    read_as p v top a b e d = subst (λ q. In_arg h top (read q (Exact a)) (read q (Exact b))) (sym e) d

    super_sub : (c d : ℕ) (xs zs : core.Args) → All_kinded part (part.vars c) xs → All_kinded part (part.vars d) zs → Super_in c d zs → Sub h (whole s (core.Class c xs)) (whole s (core.Class d (core.puts (core.at xs) zs)))
    super_sub c d xs zs n k (inl e) =
        subst (λ ws. Sub h (Class c (whole_args s xs)) (Class d (whole_args s (core.puts (core.at xs) ws)))) (sym (no_arguments (part.vars d) zs (ap part.vars e ∙ valid.plain) k))
        (subst (λ q. Sub h (Class c (whole_args s xs)) (Class q none)) (sym (e ∙ is.any)) object)
    super_sub c d xs zs n k (inr st) = subst (λ t. Sub h (Class c (whole_args s xs)) t) (up_in c d xs zs n) (super st)

    mutual
      pub sub_in : {a b : core.Ty} → core.Sub part a b → Sub h (whole s a) (whole s b)
      sub_in (core_same n) = same
      sub_in (core_through d e) = through (sub_in d) (sub_in e)
      sub_in core_nothing = nothing
      sub_in (core_any {a = a} n) = subst (λ c. Sub h (whole s a) (Nullable (Class c none))) (sym is.any) any
      sub_in (core_null {a = a} n) = null_in h (whole s a)
      sub_in (core_nulls {a = a} {b = b} d) = nulls_in h (whole s a) (whole s b) (sub_in d)
      sub_in (core_super {c = c} {d = d} {xs = xs} {zs = zs} st n) = super_sub c d xs zs n (super_kinded part valid st) (super_in st)
      sub_in (core_arguments {c = c} {xs = xs} {ys = ys} n d) = arguments (all_in (star_bound h c) (h.params c) (is.variances c) d)

      all_in : (all : HeadParam → Ty) (ps : List HeadParam) {vs : List core.Variance} {xs ys : core.Args} → Matches ps vs → core.All part vs xs ys → All h all ps (whole_args s xs) (whole_args s ys)
      all_in all [] m core_end = end
      all_in all (p ∷ ps) m core_end = absurd m
      all_in all [] m (out_next d ds) = absurd m
      all_in all [] m (in_next d ds) = absurd m
      all_in all [] m (both_next d e ds) = absurd m
      all_in all (p ∷ ps) m (out_next {a = a} {b = b} d ds) =
          next_arg (read_as p (whole_variance core.Cov) _ (whole s a) (whole s b) m.0 (out_out (sub_in d))) (all_in all ps m.1 ds)
      all_in all (p ∷ ps) m (in_next {a = a} {b = b} d ds) =
          next_arg (read_as p (whole_variance core.Contra) _ (whole s a) (whole s b) m.0 (in_in (sub_in d))) (all_in all ps m.1 ds)
      all_in all (p ∷ ps) m (both_next {a = a} {b = b} d e ds) =
          next_arg (read_as p (whole_variance core.Inv) _ (whole s a) (whole s b) m.0 (exact (sub_in d) (sub_in e))) (all_in all ps m.1 ds)

pub is_part : CoreIsPart
is_part part valid h is s a b d = sub_in part valid h is s d

-- ---- heads that the core's are a part of
numbered_matches : (top n : ℕ) (vs : List core.Variance) → Matches (numbered top n vs) vs
numbered_matches top n [] = tt
numbered_matches top n (v ∷ vs) = (refl, numbered_matches top (suc n) vs)

differs : (a b : ℕ) → a < b → (v : Bool) → nat_eq b a ≡ v → v ≡ false
differs a b l true q = let e : b ≡ a = eqb-true b a q in absurd (omega (arith, l, e))
differs a b l false q = refl

numbered_later : (top n x : ℕ) → x < n → (vs : List core.Variance) → is_own (numbered top n vs) x ≡ false
numbered_later top n x l [] = refl
numbered_later top n x l (v ∷ vs) = neither (nat_eq n x) (is_own (numbered top (suc n) vs) x) (differs x n l (nat_eq n x) refl) (numbered_later top (suc n) x (omega (arith, l)) vs)

numbered_different : (top n : ℕ) (vs : List core.Variance) → Different (numbered top n vs)
numbered_different top n [] = tt
numbered_different top n (v ∷ vs) = (numbered_later top (suc n) n (omega arith) vs, numbered_different top (suc n) vs)

pub has_whole : CoreHasWhole
has_whole n part = record {
  variances = λ c. numbered_matches part.any 0 (part.vars c);
  different = λ c. numbered_different part.any 0 (part.vars c);
  supers = λ c s i. inr (map_in (whole_super (numbered part.any 0 (part.vars c))) s (part.supers c) i);
  any = refl;
}
