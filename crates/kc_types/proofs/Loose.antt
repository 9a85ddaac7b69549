-- What a loose type is below is settled, and what is above one is loose.
use Rattle.std.proofs.Common.{◌≡◌, ℕ, zero, suc, ◌<◌, ◌≤◌, Bool, true, false, nat_eq, List, [], ◌∷◌, Option, Some, None, cond, ◌||◌, refl, sym, ap, subst, ◌∙◌, ⊎_elim, inl, inr, eqb-true, arith}
use Rattle.std.proofs.lemmas.Bool.{and_parts, or_cases}
use Rattle.kc_types.specs.Types.{Ty, Class, Param, Nothing, Nullable, Arg, Exact, Out, In, Star, Args, none, more, Variance, Invariant, Covariant, Contravariant, HeadParam, Heads, Given, nullable, given, alone, unless_against, is_own, up, up_arg, up_args, star_bound, given_all, reduced, reduced_args, class_given}
use Rattle.kc_types.specs.Supertypes.{IsIn, here, later, Supertype, put, put_arg, put_args, put_in, own_args, own_type, RanksBelow}
use Rattle.kc_types.specs.Subtype.{read, contains_with, all_with, options, choices, choices_by, is_anything, below}
use Rattle.kc_types.specs.Positions.{May, All_stand, Arg_stands, variance_in}
use Rattle.kc_types.specs.FormedSub.{All_over, ValidHeads}
use Rattle.kc_types.specs.Ending.{Own_arg, Own_args, Passes_on, Loose, Loose_arg, Loose_args}
use Rattle.kc_types.proofs.Exacts.{kept}
use Rattle.kc_types.proofs.Supertypes.{above_only}
use Rattle.kc_types.proofs.Sound.{made}
use Rattle.kc_types.proofs.Reflexive.{only_none}
use Rattle.kc_types.proofs.Outermost.{nothing_above}
use Rattle.kc_types.proofs.Placed.{placed}
use Rattle.kc_types.proofs.Instances.{super_joins}
use Rattle.kc_types.proofs.Settled.{Yes, Settled, Ask, Holds, constant, asked, Each_settled, class_settled, Way_holds, class_holds}
use Rattle.kc_types.proofs.Climbs.{rank, lower_there}
use Rattle.kc_types.proofs.Sizes.{size, size_arg, sizes, size_as_read}

no : {A : Type 0} → false ≡ true → A
no e = absurd (cc)

module _ (h : Heads) where
  -- ---- as its parameter's variance has it
  abbrev Loose_read : Arg → Type 0
  Loose_read (Exact t) = ⊥
  Loose_read (Out t) = Loose h t
  Loose_read (In t) = ⊥
  Loose_read Star = Unit {0}

  loose_read : (v : Variance) (a : Arg) → Loose_arg h v a → Loose_read (read v a)
  loose_read Invariant (Exact t) l = absurd l
  loose_read Invariant (Out t) l = l
  loose_read Invariant (In t) l = absurd l
  loose_read Invariant Star l = tt
  loose_read Covariant (Exact t) l = l
  loose_read Covariant (Out t) l = l
  loose_read Covariant (In t) l = tt
  loose_read Covariant Star l = tt
  loose_read Contravariant (Exact t) l = absurd l
  loose_read Contravariant (Out t) l = tt
  loose_read Contravariant (In t) l = absurd l
  loose_read Contravariant Star l = tt

  read_loose : (v : Variance) (a : Arg) → Loose_read (read v a) → Loose_arg h v a
  read_loose Invariant (Exact t) l = absurd l
  read_loose Invariant (Out t) l = l
  read_loose Invariant (In t) l = absurd l
  read_loose Invariant Star l = tt
  read_loose Covariant (Exact t) l = l
  read_loose Covariant (Out t) l = l
  read_loose Covariant (In t) l = tt
  read_loose Covariant Star l = tt
  read_loose Contravariant (Exact t) l = absurd l
  read_loose Contravariant (Out t) l = tt
  read_loose Contravariant (In t) l = absurd l
  read_loose Contravariant Star l = tt

  reduced_loose : (v : Variance) (a : Arg) → Loose_arg h v a → Loose_arg h v (reduced v a)
  reduced_loose Invariant a l = l
  reduced_loose Covariant (Exact t) l = l
  reduced_loose Covariant (Out t) l = l
  reduced_loose Covariant (In t) l = tt
  reduced_loose Covariant Star l = tt
  reduced_loose Contravariant (Exact t) l = l
  reduced_loose Contravariant (Out t) l = tt
  reduced_loose Contravariant (In t) l = absurd l
  reduced_loose Contravariant Star l = tt

  alone_loose : (v w : Variance) (a : Arg) → May v w → Loose_arg h v a → Loose_arg h w a
  alone_loose Invariant Invariant a m l = l
  alone_loose Invariant Covariant (Exact t) m l = absurd l
  alone_loose Invariant Covariant (Out t) m l = l
  alone_loose Invariant Covariant (In t) m l = tt
  alone_loose Invariant Covariant Star m l = tt
  alone_loose Invariant Contravariant (Exact t) m l = absurd l
  alone_loose Invariant Contravariant (Out t) m l = tt
  alone_loose Invariant Contravariant (In t) m l = absurd l
  alone_loose Invariant Contravariant Star m l = tt
  alone_loose Covariant Covariant a m l = l
  alone_loose Covariant Invariant a m l = absurd m
  alone_loose Covariant Contravariant a m l = absurd m
  alone_loose Contravariant Contravariant a m l = l
  alone_loose Contravariant Invariant a m l = absurd m
  alone_loose Contravariant Covariant a m l = absurd m

  -- ---- choices
  abbrev Tops_loose : (HeadParam → Ty) → List HeadParam → Type 0
  Tops_loose tops ps = (p : HeadParam) → IsIn HeadParam p ps → Loose h (tops p)

  option_loose : (v : Variance) (top : Ty) (a b : Arg) → Loose h top → Loose_arg h v a → IsIn Arg b (options v top a) → Loose_arg h v b
  option_loose Contravariant top a b t l here = l
  option_loose Contravariant top a b t l (later i) = elim i [ ]
  option_loose Covariant top a b t l here = l
  option_loose Covariant top a b t l (later here) = t
  option_loose Covariant top a b t l (later (later i)) = elim i [ ]
  option_loose Invariant top (Exact x) b t l i = absurd l
  option_loose Invariant top (Out x) b t l here = l
  option_loose Invariant top (Out x) b t l (later here) = t
  option_loose Invariant top (Out x) b t l (later (later i)) = elim i [ ]
  option_loose Invariant top (In x) b t l i = absurd l
  option_loose Invariant top Star b t l here = l
  option_loose Invariant top Star b t l (later here) = t
  option_loose Invariant top Star b t l (later (later i)) = elim i [ ]

  choice_loose : (tops : HeadParam → Ty) (ps : List HeadParam) (xs us : Args) → Tops_loose tops ps → Loose_args h ps xs → IsIn Args us (choices tops ps xs) → Loose_args h ps us
  choice_loose tops [] none us t l i = subst (λ zs. Loose_args h [] zs) (sym (only_none us i)) tt
  choice_loose tops [] (more a xs) us t l i = absurd l
  choice_loose tops (p ∷ ps) none us t l i = absurd l
  choice_loose tops (p ∷ ps) (more a xs) us t l i =
      let m = made (options p.variance (tops p) a) (choices tops ps xs) us i in
      subst (λ zs. Loose_args h (p ∷ ps) zs) (sym m.is) (option_loose p.variance (tops p) a m.a (t p here) l.0 m.first_in, choice_loose tops ps xs m.xs (λ q j. t q (later j)) l.1 m.rest_in)

  chosen_loose : (f : Bool) (tops : HeadParam → Ty) (ps : List HeadParam) (xs us : Args) → Tops_loose tops ps → Loose_args h ps xs → IsIn Args us (choices_by f tops ps xs) → Loose_args h ps us
  chosen_loose true tops ps xs us t l here = l
  chosen_loose true tops ps xs us t l (later i) = elim i [ ]
  chosen_loose false tops ps xs us t l i = choice_loose tops ps xs us t l i

  -- ---- supertypes
  abbrev Loose_given : Variance → Option Given → Type 0
  Loose_given v None = ⊥
  Loose_given v (Some g) = Loose_arg h v g.arg

  given_picked : (b c : Bool) (v w : Variance) (g : Given) (o : Option Given) → Loose_given v (Some g) → (c ≡ true → Loose_given w o) → (b || c) ≡ true → Loose_given (cond b v w) (cond b (Some g) o)
  given_picked true c v w g o l f e = l
  given_picked false c v w g o l f e = f e

  given_loose : (tops : HeadParam → Ty) (ps : List HeadParam) (us : Args) → Loose_args h ps us → (x : ℕ) → is_own ps x ≡ true → Loose_given (variance_in ps x) (given (given_all tops ps (reduced_args ps us)) x)
  given_loose tops [] none l x e = no e
  given_loose tops (p ∷ ps) (more a us) l x e =
      given_picked (nat_eq p.var x) (is_own ps x) p.variance (variance_in ps x) (record { var = p.var; arg = reduced p.variance a; top = tops p }) (given (given_all tops ps (reduced_args ps us)) x)
      (reduced_loose p.variance a l.0) (λ q. given_loose tops ps us l.1 x q) e
  given_loose tops [] (more a us) l x e = absurd l
  given_loose tops (p ∷ ps) none l x e = absurd l

  given_alone : (v w : Variance) (x : ℕ) (o : Option Given) → May v w → Loose_given v o → Loose_arg h w (alone x o)
  given_alone v w x None m l = absurd l
  given_alone v w x (Some g) m l = alone_loose v w g.arg m l

  module _ (qs : List HeadParam) (gs : List Given) (loose : (x : ℕ) → is_own qs x ≡ true → Loose_given (variance_in qs x) (given gs x)) where
    arg_up : (w : Variance) (a : Arg) → Own_arg h a → Arg_stands h (variance_in qs) Covariant w a → (x : ℕ) → a ≡ Exact (Param x) → is_own qs x ≡ true → Loose_arg h w (unless_against w a (up_arg h gs false a w))
    arg_up w (Exact (Param y)) o s x e k =
        let f : y ≡ x = cc in
        subst (λ b. Loose_arg h w b) (sym (kept w (Param y) (alone y (given gs y)))) (given_alone (variance_in qs y) w y (given gs y) s (loose y (subst (λ z. is_own qs z ≡ true) (sym f) k)))
    arg_up w (Exact (Class c xs)) o s x e k = absurd o
    arg_up w (Exact Nothing) o s x e k = absurd o
    arg_up w (Exact (Nullable t)) o s x e k = absurd o
    arg_up w (Out t) o s x e k = absurd o
    arg_up w (In t) o s x e k = absurd o
    arg_up w Star o s x e k = absurd o

    args_up : (ps : List HeadParam) (zs : Args) → Own_args h zs → All_over qs zs → All_stand h (variance_in qs) Covariant ps zs → Loose_args h ps (up_args h gs false ps zs)
    args_up [] none o v s = tt
    args_up (p ∷ ps) (more (Exact (Param x)) zs) o v s = (arg_up p.variance (Exact (Param x)) o.0 s.0 x refl v.0, args_up ps zs o.1 v.1 s.1)
    args_up (p ∷ ps) (more (Exact (Class c xs)) zs) o v s = absurd o.0
    args_up (p ∷ ps) (more (Exact Nothing) zs) o v s = absurd o.0
    args_up (p ∷ ps) (more (Exact (Nullable t)) zs) o v s = absurd o.0
    args_up (p ∷ ps) (more (Out t) zs) o v s = absurd o.0
    args_up (p ∷ ps) (more (In t) zs) o v s = absurd o.0
    args_up (p ∷ ps) (more Star zs) o v s = absurd o.0
    args_up [] (more a zs) o v s = absurd s
    args_up (p ∷ ps) none o v s = absurd s

    by_function : (f : Bool) (ps : List HeadParam) (zs : Args) → (f ≡ true → zs ≡ none) → Own_args h zs → All_over qs zs → All_stand h (variance_in qs) Covariant ps zs → Loose_args h ps (up_args h gs f ps zs)
    by_function false ps zs e o v s = args_up ps zs o v s
    by_function true ps none e o v s = args_up ps none o v s
    by_function true ps (more a zs) e o v s = let q : more a zs ≡ none = e refl in absurd (cc)

-- ---- classes that pass their parameters on
put_own : (h : Heads) (s : ℕ → Ty) (a : Arg) → Own_arg h (put_arg s a) → Own_arg h a
put_own h s (Exact (Param x)) o = tt
put_own h s (Exact (Class c xs)) o = o
put_own h s (Exact Nothing) o = o
put_own h s (Exact (Nullable t)) o = marked (put s t) o
  where
    marked : (u : Ty) → Own_arg h (Exact (nullable u)) → ⊥
    marked (Class c xs) o = o
    marked (Param x) o = o
    marked Nothing o = o
    marked (Nullable u) o = o
put_own h s (Out t) o = o
put_own h s (In t) o = o
put_own h s Star o = o

puts_own : (h : Heads) (s : ℕ → Ty) (xs : Args) → Own_args h (put_args s xs) → Own_args h xs
puts_own h s none o = tt
puts_own h s (more a xs) o = (put_own h s a o.0, puts_own h s xs o.1)

puts_none : (s : ℕ → Ty) (xs : Args) → put_args s xs ≡ none → xs ≡ none
puts_none s none e = refl
puts_none s (more a xs) e = absurd (cc)

all_own : (h : Heads) (ps : List HeadParam) → Own_args h (own_args ps)
all_own h [] = tt
all_own h (p ∷ ps) = (tt, all_own h ps)

module _ (h : Heads) (valid : ValidHeads h) where
  passes_up : (c e : ℕ) (zs : Args) → Passes_on h c → Supertype h c (Class e zs) → Passes_on h e
  passes_up c e zs p st d xs sd = let q = p d (put_args (put_in (h.params e) zs) xs) (super_joins h valid st sd) in (puts_own h (put_in (h.params e) zs) xs q.0, λ f. puts_none (put_in (h.params e) zs) xs (q.1 f))

  any_none : (d : ℕ) (xs : Args) → Class d xs ≡ own_type h h.any → xs ≡ none
  any_none d xs e = let q : xs ≡ own_args (h.params h.any) = cc e in q ∙ ap own_args valid.plain

  pub any_passes : Passes_on h h.any
  any_passes d xs st = let q = any_none d xs (nothing_above h valid st refl) in (subst (λ zs. Own_args h zs) (sym q) tt, λ f. q)

  pub any_loose : Loose h (Class h.any none)
  any_loose = (any_passes, subst (λ ps. Loose_args h ps none) (sym valid.plain) tt)

  pub object_loose : (d : ℕ) (ys : Args) → d ≡ h.any → ys ≡ none → Loose h (Class d ys)
  object_loose d ys e f = subst (λ c. Loose h (Class c ys)) (sym e) (subst (λ zs. Loose h (Class h.any zs)) (sym f) any_loose)

  pub anything_loose : (t : Ty) → is_anything h t ≡ true → Loose h t
  anything_loose (Nullable (Class d none)) e = object_loose d none (eqb-true d h.any e) refl
  anything_loose (Nullable (Class d (more a xs))) e = no e
  anything_loose (Nullable (Param x)) e = no e
  anything_loose (Nullable Nothing) e = no e
  anything_loose (Nullable (Nullable t)) e = no e
  anything_loose (Class d ys) e = no e
  anything_loose (Param x) e = no e
  anything_loose Nothing e = no e

  -- a supertype of a loose type is loose
  super_loose : (c e : ℕ) (us zs : Args) → Passes_on h c → Loose_args h (h.params c) us → Supertype h c (Class e zs) → Loose h (up h (class_given h c us) (Class e zs))
  super_loose c e us zs p l st =
      let q = placed h valid st in
      let o = p e zs st in (
        passes_up c e zs p st,
        by_function h (h.params c) (class_given h c us) (given_loose h (star_bound h c) (h.params c) us l) (h.is_function e) (h.params e) zs o.1 o.0 q.over q.stand,
      )

  module _ (tops : (c : ℕ) (p : HeadParam) → IsIn HeadParam p (h.params c) → Loose h (star_bound h c p)) where
    -- ---- what a loose type is below is settled: what is asked next has a smaller type on the right, or a class of lower rank on the left
    abbrev Less_size : ℕ → Type 0
    Less_size m = (a b : Ty) → Loose h a → size b < m → Ask h a b

    abbrev Less_rank : ℕ → ℕ → Type 0
    Less_rank m r = (c : ℕ) (xs : Args) (d : ℕ) (ys : Args) → Loose h (Class c xs) → size (Class d ys) ≤ m → rank h valid c < r → Ask h (Class c xs) (Class d ys)

    module _ (m : ℕ) (less_size : Less_size m) where
      one_settled : (top : Ty) (a b : Arg) → Loose h top → Loose_read h a → size_arg b < m → Settled h (λ go. contains_with go top a b)
      one_settled top (Exact a) b t l z = absurd l
      one_settled top (In a) b t l z = absurd l
      one_settled top (Out a) (Exact b) t l z = constant h false
      one_settled top (Out a) (Out b) t l z = less_size a b l z
      one_settled top (Out a) (In b) t l z = constant h false
      one_settled top (Out a) Star t l z = constant h true
      one_settled top Star (Exact b) t l z = constant h false
      one_settled top Star (Out b) t l z = less_size top b t z
      one_settled top Star (In b) t l z = constant h false
      one_settled top Star Star t l z = constant h true

      args_settled : (above_all : HeadParam → Ty) (ps : List HeadParam) (us ys : Args) → Tops_loose h above_all ps → Loose_args h ps us → sizes ys < m → Each_settled h above_all ps us ys
      args_settled above_all [] none none t l z = tt
      args_settled above_all [] none (more b ys) t l z = tt
      args_settled above_all (p ∷ ps) (more a us) none t l z = tt
      args_settled above_all (p ∷ ps) (more a us) (more b ys) t l z =
          let q = size_as_read p.variance b in (
            one_settled (above_all p) (read p.variance a) (read p.variance b) (t p here) (loose_read h p.variance a l.0) (omega (arith, q, z)),
            args_settled above_all ps us ys (λ r i. t r (later i)) l.1 (omega (arith, z)),
          )
      args_settled above_all [] (more a us) ys t l z = absurd l
      args_settled above_all (p ∷ ps) none ys t l z = absurd l

      on_settled : (r c : ℕ) (us : Args) (d : ℕ) (ys : Args) → Less_rank m r → rank h valid c ≤ r → Passes_on h c → Loose_args h (h.params c) us → size (Class d ys) ≤ m → (t : Ty) → Supertype h c t → RanksBelow valid.acyclic.rank (rank h valid c) t →
          Ask h (up h (class_given h c us) t) (Class d ys)
      on_settled r c us d ys f le p l z (Class e zs) st low =
          f e (up_args h (class_given h c us) (h.is_function e) (h.params e) zs) d ys (super_loose c e us zs p l st) z (omega (arith, low, le))
      on_settled r c us d ys f le p l z (Param x) st low = absurd low
      on_settled r c us d ys f le p l z Nothing st low = absurd low
      on_settled r c us d ys f le p l z (Nullable t) st low = absurd low

      by_rank : (r : ℕ) → Less_rank m r
      by_rank zero c xs d ys l z lt = absurd (omega (arith, lt))
      by_rank (suc r) c xs d ys l z lt = class_settled h c xs d ys (λ us i.
          let k = chosen_loose h (h.is_function c) (star_bound h c) (h.params c) xs us (tops c) l.1 i in (
            λ e. args_settled (star_bound h c) (h.params c) us ys (tops c) k (omega (arith, z)),
            λ t j n. on_settled r c us d ys (by_rank r) (omega (arith, lt)) l.0 k z t (above_only h c t j) (lower_there h valid c t j n),
          ))

      class_asked : (c : ℕ) (xs : Args) (b : Ty) → Loose h (Class c xs) → size b ≤ m → Ask h (Class c xs) b
      class_asked c xs (Class d ys) l z = by_rank (suc (rank h valid c)) c xs d ys l z (omega arith)
      class_asked c xs (Param x) l z = asked h (Class c xs) (Param x) (constant h false)
      class_asked c xs Nothing l z = asked h (Class c xs) Nothing (constant h false)
      class_asked c xs (Nullable b) l z = asked h (Class c xs) (Nullable b) (less_size (Class c xs) b l (omega (arith, z)))

      type_asked : (a b : Ty) → Loose h a → size b ≤ m → Ask h a b
      type_asked (Class c xs) b l z = class_asked c xs b l z
      type_asked (Nullable a) (Nullable b) l z = asked h (Nullable a) (Nullable b) (type_asked a (Nullable b) l z)
      type_asked (Nullable a) (Class d ys) l z = asked h (Nullable a) (Class d ys) (constant h false)
      type_asked (Nullable a) (Param x) l z = asked h (Nullable a) (Param x) (constant h false)
      type_asked (Nullable a) Nothing l z = asked h (Nullable a) Nothing (constant h false)
      type_asked (Param x) b l z = absurd l
      type_asked Nothing b l z = absurd l

    by_size : (m : ℕ) → Less_size m
    by_size zero a b l z = absurd (omega (arith, z))
    by_size (suc m) a b l z = type_asked m (by_size m) a b l (omega (arith, z))

    pub loose_settled : (a b : Ty) → Loose h a → Ask h a b
    loose_settled a b l = by_size (suc (size b)) a b l (omega arith)

    -- ---- what is above a loose type is loose, by the same way
    abbrev Less_above : ℕ → Type 0
    Less_above m = (a b : Ty) → Loose h a → size b < m → Holds h a b → Loose h b

    abbrev Rank_above : ℕ → ℕ → Type 0
    Rank_above m r = (c : ℕ) (xs : Args) (d : ℕ) (ys : Args) → Loose h (Class c xs) → size (Class d ys) ≤ m → rank h valid c < r → Holds h (Class c xs) (Class d ys) → Loose h (Class d ys)

    module _ (m : ℕ) (less_above : Less_above m) where
      refused : {A : Type 0} → Yes h (λ go. false) → A
      refused s = no s.1

      one_above : (top : Ty) (a b : Arg) → Loose h top → Loose_read h a → size_arg b < m → Yes h (λ go. contains_with go top a b) → Loose_read h b
      one_above top (Exact a) b t l z s = absurd l
      one_above top (In a) b t l z s = absurd l
      one_above top (Out a) (Exact b) t l z s = refused s
      one_above top (Out a) (Out b) t l z s = less_above a b l z s
      one_above top (Out a) (In b) t l z s = refused s
      one_above top (Out a) Star t l z s = tt
      one_above top Star (Exact b) t l z s = refused s
      one_above top Star (Out b) t l z s = less_above top b t z s
      one_above top Star (In b) t l z s = refused s
      one_above top Star Star t l z s = tt

      args_above : (above_all : HeadParam → Ty) (ps : List HeadParam) (us ys : Args) → Tops_loose h above_all ps → Loose_args h ps us → sizes ys < m → Yes h (λ go. all_with go above_all ps us ys) → Loose_args h ps ys
      args_above above_all [] none none t l z s = tt
      args_above above_all [] none (more b ys) t l z s = refused s
      args_above above_all (p ∷ ps) (more a us) none t l z s = refused s
      args_above above_all (p ∷ ps) (more a us) (more b ys) t l z s =
          let q = size_as_read p.variance b in
          let w = and_parts (contains_with (below s.0 h) (above_all p) (read p.variance a) (read p.variance b)) (all_with (below s.0 h) above_all ps us ys) s.1 in (
            read_loose h p.variance b (one_above (above_all p) (read p.variance a) (read p.variance b) (t p here) (loose_read h p.variance a l.0) (omega (arith, q, z)) (s.0, w.0)),
            args_above above_all ps us ys (λ r i. t r (later i)) l.1 (omega (arith, z)) (s.0, w.1),
          )
      args_above above_all [] (more a us) ys t l z s = absurd l
      args_above above_all (p ∷ ps) none ys t l z s = absurd l

      on_above : (r c : ℕ) (us : Args) (d : ℕ) (ys : Args) → Rank_above m r → rank h valid c ≤ r → Passes_on h c → Loose_args h (h.params c) us → size (Class d ys) ≤ m → (t : Ty) → Supertype h c t → RanksBelow valid.acyclic.rank (rank h valid c) t →
          Holds h (up h (class_given h c us) t) (Class d ys) → Loose h (Class d ys)
      on_above r c us d ys f le p l z (Class e zs) st low s =
          f e (up_args h (class_given h c us) (h.is_function e) (h.params e) zs) d ys (super_loose c e us zs p l st) z (omega (arith, low, le)) s
      on_above r c us d ys f le p l z (Param x) st low s = absurd low
      on_above r c us d ys f le p l z Nothing st low s = absurd low
      on_above r c us d ys f le p l z (Nullable t) st low s = absurd low

      way_above : (r c : ℕ) (us : Args) (d : ℕ) (ys : Args) → Rank_above m r → rank h valid c ≤ r → Passes_on h c → Loose_args h (h.params c) us → size (Class d ys) ≤ m → Way_holds h c us d ys → Loose h (Class d ys)
      way_above r c us d ys f le p l z (inl w) = subst (λ q. Loose h (Class q ys)) w.0 (p, args_above (star_bound h c) (h.params c) us ys (tops c) l (omega (arith, z)) w.1)
      way_above r c us d ys f le p l z (inr w) = on_above r c us d ys f le p l z w.0 (above_only h c w.0 w.1) (lower_there h valid c w.0 w.1 w.2) w.3

      rank_above : (r : ℕ) → Rank_above m r
      rank_above zero c xs d ys l z lt s = absurd (omega (arith, lt))
      rank_above (suc r) c xs d ys l z lt s = ⊎_elim
          (λ q. object_loose d ys q.0 q.1)
          (λ q. way_above r c q.args d ys (rank_above r) (omega (arith, lt)) l.0 (chosen_loose h (h.is_function c) (star_bound h c) (h.params c) xs q.args (tops c) l.1 q.there) z q.way)
          (class_holds h c xs d ys s)

      class_above : (n c : ℕ) (xs : Args) (b : Ty) → Loose h (Class c xs) → size b ≤ m → below n h (Class c xs) b ≡ true → Loose h b
      class_above zero c xs b l z e = no e
      class_above (suc n) c xs (Class d ys) l z e = rank_above (suc (rank h valid c)) c xs d ys l z (omega arith) (suc n, e)
      class_above (suc n) c xs (Param x) l z e = no e
      class_above (suc n) c xs Nothing l z e = no e
      class_above (suc n) c xs (Nullable b) l z e = ⊎_elim (λ q. anything_loose (Nullable b) q) (λ q. less_above (Class c xs) b l (omega (arith, z)) (n, q)) (or_cases (is_anything h (Nullable b)) (below n h (Class c xs) b) e)

      type_above : (a : Ty) (n : ℕ) (b : Ty) → Loose h a → size b ≤ m → below n h a b ≡ true → Loose h b
      type_above (Class c xs) n b l z e = class_above n c xs b l z e
      type_above (Nullable a) zero b l z e = no e
      type_above (Nullable a) (suc n) (Nullable b) l z e = ⊎_elim (λ q. anything_loose (Nullable b) q) (λ q. type_above a n (Nullable b) l z q) (or_cases (is_anything h (Nullable b)) (below n h a (Nullable b)) e)
      type_above (Nullable a) (suc n) (Class d ys) l z e = no e
      type_above (Nullable a) (suc n) (Param x) l z e = no e
      type_above (Nullable a) (suc n) Nothing l z e = no e
      type_above (Param x) n b l z e = absurd l
      type_above Nothing n b l z e = absurd l

    above_by_size : (m : ℕ) → Less_above m
    above_by_size zero a b l z s = absurd (omega (arith, z))
    above_by_size (suc m) a b l z s = type_above m (above_by_size m) a s.0 b l (omega (arith, z)) s.1

    pub loose_above : (a b : Ty) → Loose h a → Holds h a b → Loose h b
    loose_above a b l s = above_by_size (suc (size b)) a b l (omega arith) s
