-- Over lists of arguments that are firmly contained a type taken upwards keeps its side, and so it does downwards, turned round.
use Rattle.std.proofs.Common.{◌≡◌, ℕ, Bool, true, false, nat_eq, List, [], ◌∷◌, Option, Some, None, cond, refl, sym, subst}
use Rattle.kc_types.specs.Types.{Ty, Class, Param, Nothing, Nullable, Arg, Exact, Out, In, Star, Args, none, more, Variance, Invariant, Covariant, Contravariant, HeadParam, Heads, Given, nullable, given, is_given_projection, names, names_arg, names_args, value_up, value_down, alone, variance_at, rest_of, projected, down_arg, unless_against, blocked, up, down, up_arg, up_args, down_args, each_up, each_down, star_bound, given_all, reduced, reduced_args}
use Rattle.kc_types.specs.Subtype.{read}
use Rattle.kc_types.specs.Formed.{Formed, Arg_formed, Args_formed}
use Rattle.kc_types.specs.FormedSub.{FormedSub, FormedAll, FormedIn}
use Rattle.kc_types.specs.FormedSub.FormedSub.{same, through, nothing, null, nulls, arguments}
use Rattle.kc_types.specs.FormedSub.FormedAll.{end, next}
use Rattle.kc_types.specs.FormedSub.FormedIn.{star, out_exact, out_out, in_exact, in_in, exact}
use Rattle.kc_types.specs.Positions.{May, Stands, Arg_stands, All_stand, variance_in, Varies, FunctionsVary}
use Rattle.kc_types.proofs.Exacts.{neither, kept}
use Rattle.kc_types.proofs.CoreInWhole.{either_false}
use Rattle.kc_types.proofs.Upwards.{one_way, weaken}
use Rattle.kc_types.proofs.FormedUp.{Given_formed, up_formed, down_formed}
use Rattle.kc_types.proofs.Firm.{Rel, Firm, Firms, firm_unprojected, value_of}

firm_value : (h : Heads) (v : Variance) (top : Ty) (a b : Arg) → May v Covariant → Firm (Rel h) v top a b → FormedSub h (value_of top a) (value_of top b)
firm_value h Invariant top (Exact x) (Exact y) w r = r.0.2
firm_value h Invariant top (Exact x) (Out y) w r = r.2
firm_value h Invariant top (Exact x) (In y) w r = r.1.2
firm_value h Invariant top (Exact x) Star w r = r.2
firm_value h Invariant top (Out x) (Exact y) w r = absurd r
firm_value h Invariant top (Out x) (Out y) w r = r.2
firm_value h Invariant top (Out x) (In y) w r = absurd r
firm_value h Invariant top (Out x) Star w r = r.2
firm_value h Invariant top (In x) (Exact y) w r = absurd r
firm_value h Invariant top (In x) (Out y) w r = absurd r
firm_value h Invariant top (In x) (In y) w r = same
firm_value h Invariant top (In x) Star w r = same
firm_value h Invariant top Star (Exact y) w r = absurd r
firm_value h Invariant top Star (Out y) w r = absurd r
firm_value h Invariant top Star (In y) w r = absurd r
firm_value h Invariant top Star Star w r = same
firm_value h Covariant top (Exact x) (Exact y) w r = r.2
firm_value h Covariant top (Exact x) (Out y) w r = absurd r
firm_value h Covariant top (Exact x) (In y) w r = absurd r
firm_value h Covariant top (Exact x) Star w r = r.2
firm_value h Covariant top (Out x) b w r = absurd r
firm_value h Covariant top (In x) b w r = absurd r
firm_value h Covariant top Star (Exact y) w r = absurd r
firm_value h Covariant top Star (Out y) w r = absurd r
firm_value h Covariant top Star (In y) w r = absurd r
firm_value h Covariant top Star Star w r = same
firm_value h Contravariant top a b w r = absurd w

abbrev lower_of : Arg → Ty
lower_of (Exact t) = t
lower_of (Out t) = Nothing
lower_of (In t) = t
lower_of Star = Nothing

firm_lower : (h : Heads) (v : Variance) (top : Ty) (a b : Arg) → May v Contravariant → Firm (Rel h) v top a b → FormedSub h (lower_of b) (lower_of a)
firm_lower h Invariant top (Exact x) (Exact y) w r = r.1.2
firm_lower h Invariant top (Exact x) (Out y) w r = nothing
firm_lower h Invariant top (Exact x) (In y) w r = r.0.2
firm_lower h Invariant top (Exact x) Star w r = nothing
firm_lower h Invariant top (Out x) (Exact y) w r = absurd r
firm_lower h Invariant top (Out x) (Out y) w r = nothing
firm_lower h Invariant top (Out x) (In y) w r = absurd r
firm_lower h Invariant top (Out x) Star w r = nothing
firm_lower h Invariant top (In x) (Exact y) w r = absurd r
firm_lower h Invariant top (In x) (Out y) w r = absurd r
firm_lower h Invariant top (In x) (In y) w r = r.2
firm_lower h Invariant top (In x) Star w r = nothing
firm_lower h Invariant top Star (Exact y) w r = absurd r
firm_lower h Invariant top Star (Out y) w r = absurd r
firm_lower h Invariant top Star (In y) w r = absurd r
firm_lower h Invariant top Star Star w r = nothing
firm_lower h Covariant top a b w r = absurd w
firm_lower h Contravariant top (Exact x) (Exact y) w r = r.2
firm_lower h Contravariant top (Exact x) (Out y) w r = absurd r
firm_lower h Contravariant top (Exact x) (In y) w r = absurd r
firm_lower h Contravariant top (Exact x) Star w r = nothing
firm_lower h Contravariant top (Out x) b w r = absurd r
firm_lower h Contravariant top (In x) b w r = absurd r
firm_lower h Contravariant top Star (Exact y) w r = absurd r
firm_lower h Contravariant top Star (Out y) w r = absurd r
firm_lower h Contravariant top Star (In y) w r = absurd r
firm_lower h Contravariant top Star Star w r = nothing

-- as an argument of a parameter in a position where it may stand
firm_alone : (h : Heads) (v w : Variance) (top upper : Ty) (a b : Arg) → May v w → Firm (Rel h) v top a b → FormedIn h upper (read w a) (read w b)
firm_alone h Invariant Invariant top upper (Exact x) (Exact y) m r = exact r.0.2 r.1.2
firm_alone h Invariant Invariant top upper (Exact x) (Out y) m r = out_exact r.2
firm_alone h Invariant Invariant top upper (Exact x) (In y) m r = in_exact r.0.2
firm_alone h Invariant Invariant top upper (Exact x) Star m r = star
firm_alone h Invariant Invariant top upper (Out x) (Exact y) m r = absurd r
firm_alone h Invariant Invariant top upper (Out x) (Out y) m r = out_out r.2
firm_alone h Invariant Invariant top upper (Out x) (In y) m r = absurd r
firm_alone h Invariant Invariant top upper (Out x) Star m r = star
firm_alone h Invariant Invariant top upper (In x) (Exact y) m r = absurd r
firm_alone h Invariant Invariant top upper (In x) (Out y) m r = absurd r
firm_alone h Invariant Invariant top upper (In x) (In y) m r = in_in r.2
firm_alone h Invariant Invariant top upper (In x) Star m r = star
firm_alone h Invariant Invariant top upper Star (Exact y) m r = absurd r
firm_alone h Invariant Invariant top upper Star (Out y) m r = absurd r
firm_alone h Invariant Invariant top upper Star (In y) m r = absurd r
firm_alone h Invariant Invariant top upper Star Star m r = star
firm_alone h Invariant Covariant top upper (Exact x) (Exact y) m r = out_out r.0.2
firm_alone h Invariant Covariant top upper (Exact x) (Out y) m r = out_out r.2
firm_alone h Invariant Covariant top upper (Exact x) (In y) m r = star
firm_alone h Invariant Covariant top upper (Exact x) Star m r = star
firm_alone h Invariant Covariant top upper (Out x) (Exact y) m r = absurd r
firm_alone h Invariant Covariant top upper (Out x) (Out y) m r = out_out r.2
firm_alone h Invariant Covariant top upper (Out x) (In y) m r = absurd r
firm_alone h Invariant Covariant top upper (Out x) Star m r = star
firm_alone h Invariant Covariant top upper (In x) (Exact y) m r = absurd r
firm_alone h Invariant Covariant top upper (In x) (Out y) m r = absurd r
firm_alone h Invariant Covariant top upper (In x) (In y) m r = star
firm_alone h Invariant Covariant top upper (In x) Star m r = star
firm_alone h Invariant Covariant top upper Star (Exact y) m r = absurd r
firm_alone h Invariant Covariant top upper Star (Out y) m r = absurd r
firm_alone h Invariant Covariant top upper Star (In y) m r = absurd r
firm_alone h Invariant Covariant top upper Star Star m r = star
firm_alone h Invariant Contravariant top upper (Exact x) (Exact y) m r = in_in r.1.2
firm_alone h Invariant Contravariant top upper (Exact x) (Out y) m r = star
firm_alone h Invariant Contravariant top upper (Exact x) (In y) m r = in_in r.0.2
firm_alone h Invariant Contravariant top upper (Exact x) Star m r = star
firm_alone h Invariant Contravariant top upper (Out x) (Exact y) m r = absurd r
firm_alone h Invariant Contravariant top upper (Out x) (Out y) m r = star
firm_alone h Invariant Contravariant top upper (Out x) (In y) m r = absurd r
firm_alone h Invariant Contravariant top upper (Out x) Star m r = star
firm_alone h Invariant Contravariant top upper (In x) (Exact y) m r = absurd r
firm_alone h Invariant Contravariant top upper (In x) (Out y) m r = absurd r
firm_alone h Invariant Contravariant top upper (In x) (In y) m r = in_in r.2
firm_alone h Invariant Contravariant top upper (In x) Star m r = star
firm_alone h Invariant Contravariant top upper Star (Exact y) m r = absurd r
firm_alone h Invariant Contravariant top upper Star (Out y) m r = absurd r
firm_alone h Invariant Contravariant top upper Star (In y) m r = absurd r
firm_alone h Invariant Contravariant top upper Star Star m r = star
firm_alone h Covariant Invariant top upper a b m r = absurd m
firm_alone h Covariant Covariant top upper (Exact x) (Exact y) m r = out_out r.2
firm_alone h Covariant Covariant top upper (Exact x) (Out y) m r = absurd r
firm_alone h Covariant Covariant top upper (Exact x) (In y) m r = absurd r
firm_alone h Covariant Covariant top upper (Exact x) Star m r = star
firm_alone h Covariant Covariant top upper (Out x) b m r = absurd r
firm_alone h Covariant Covariant top upper (In x) b m r = absurd r
firm_alone h Covariant Covariant top upper Star (Exact y) m r = absurd r
firm_alone h Covariant Covariant top upper Star (Out y) m r = absurd r
firm_alone h Covariant Covariant top upper Star (In y) m r = absurd r
firm_alone h Covariant Covariant top upper Star Star m r = star
firm_alone h Covariant Contravariant top upper a b m r = absurd m
firm_alone h Contravariant Invariant top upper a b m r = absurd m
firm_alone h Contravariant Covariant top upper a b m r = absurd m
firm_alone h Contravariant Contravariant top upper (Exact x) (Exact y) m r = in_in r.2
firm_alone h Contravariant Contravariant top upper (Exact x) (Out y) m r = absurd r
firm_alone h Contravariant Contravariant top upper (Exact x) (In y) m r = absurd r
firm_alone h Contravariant Contravariant top upper (Exact x) Star m r = star
firm_alone h Contravariant Contravariant top upper (Out x) b m r = absurd r
firm_alone h Contravariant Contravariant top upper (In x) b m r = absurd r
firm_alone h Contravariant Contravariant top upper Star (Exact y) m r = absurd r
firm_alone h Contravariant Contravariant top upper Star (Out y) m r = absurd r
firm_alone h Contravariant Contravariant top upper Star (In y) m r = absurd r
firm_alone h Contravariant Contravariant top upper Star Star m r = star

no : {A : Type 0} → true ≡ false → A
no e = absurd (cc)

-- ---- what a parameter stands for on each side
abbrev Pair : Heads → Variance → Option Given → Option Given → Type 0
Pair h v None None = Unit {0}
Pair h v (Some g) (Some k) = (g.top ≡ k.top) × Firm (Rel h) v g.top g.arg k.arg
Pair h v None (Some k) = ⊥
Pair h v (Some g) None = ⊥

value_is : (a : Arg) (top : Ty) → value_of top a ≡ elim a [ Exact t ↦ t | Out t ↦ t | In t ↦ top | Star ↦ top ]
value_is (Exact t) top = refl
value_is (Out t) top = refl
value_is (In t) top = refl
value_is Star top = refl

lower_is : (a : Arg) → lower_of a ≡ elim a [ Exact t ↦ t | Out t ↦ Nothing | In t ↦ t | Star ↦ Nothing ]
lower_is (Exact t) = refl
lower_is (Out t) = refl
lower_is (In t) = refl
lower_is Star = refl

module _ (h : Heads) where
  value_raised : (v : Variance) (x : ℕ) (o q : Option Given) → Pair h v o q → May v Covariant → FormedSub h (value_up x o) (value_up x q)
  value_raised v x None None r m = same
  value_raised v x (Some g) (Some k) r m =
      subst (λ a. FormedSub h a (value_up x (Some k))) (value_is g.arg g.top)
      (subst (λ b. FormedSub h (value_of g.top g.arg) b) (value_is k.arg k.top)
      (subst (λ top. FormedSub h (value_of g.top g.arg) (value_of top k.arg)) r.0 (firm_value h v g.top g.arg k.arg m r.1)))
  value_raised v x None (Some k) r m = absurd r
  value_raised v x (Some g) None r m = absurd r

  value_lowered : (v : Variance) (x : ℕ) (o q : Option Given) → Pair h v o q → May v Contravariant → FormedSub h (value_down x q) (value_down x o)
  value_lowered v x None None r m = same
  value_lowered v x (Some g) (Some k) r m =
      subst (λ a. FormedSub h a (value_down x (Some g))) (lower_is k.arg) (subst (λ b. FormedSub h (lower_of k.arg) b) (lower_is g.arg) (firm_lower h v g.top g.arg k.arg m r.1))
  value_lowered v x None (Some k) r m = absurd r
  value_lowered v x (Some g) None r m = absurd r

  read_same : (v : Variance) (top a : Ty) → FormedIn h top (read v (Exact a)) (read v (Exact a))
  read_same Invariant top a = exact same same
  read_same Covariant top a = out_out same
  read_same Contravariant top a = in_in same

  alone_pair : (v w : Variance) (upper : Ty) (x : ℕ) (o q : Option Given) → Pair h v o q → May v w → FormedIn h upper (read w (alone x o)) (read w (alone x q))
  alone_pair v w upper x None None r m = read_same w upper (Param x)
  alone_pair v w upper x (Some g) (Some k) r m = firm_alone h v w g.top upper g.arg k.arg m r.1
  alone_pair v w upper x None (Some k) r m = absurd r
  alone_pair v w upper x (Some g) None r m = absurd r

  unprojected_pair : (v : Variance) (o q : Option Given) → Pair h v o q → is_given_projection q ≡ false → is_given_projection o ≡ false
  unprojected_pair v None None r e = refl
  unprojected_pair v (Some g) (Some k) r e = firm_unprojected (Rel h) v g.top g.arg k.arg r.1 e
  unprojected_pair v None (Some k) r e = absurd r
  unprojected_pair v (Some g) None r e = absurd r

  null_to : (t : Ty) → FormedSub h t (nullable t)
  null_to (Class c xs) = null
  null_to (Param x) = null
  null_to Nothing = null
  null_to (Nullable t) = same

  null_before : (t u : Ty) → FormedSub h t (nullable u) → FormedSub h (Nullable t) (nullable u)
  null_before t (Class c xs) e = nulls e
  null_before t (Param x) e = nulls e
  null_before t Nothing e = nulls e
  null_before t (Nullable u) e = nulls e

  both_null : (t u : Ty) → FormedSub h t (nullable u) → FormedSub h (nullable t) (nullable u)
  both_null (Class c xs) u e = null_before (Class c xs) u e
  both_null (Param x) u e = null_before (Param x) u e
  both_null Nothing u e = null_before Nothing u e
  both_null (Nullable t) u e = e

  nullables : (a b : Ty) → Formed h b → FormedSub h a b → FormedSub h (nullable a) (nullable b)
  nullables a b k d = both_null a b (through k d (null_to b))

  -- what an argument needs of a type taken upwards and downwards on each side
  abbrev Need : Variance → Ty → Ty → Ty → Ty → Type 0
  Need Covariant u w d e = FormedSub h u w
  Need Contravariant u w d e = FormedSub h e d
  Need Invariant u w d e = FormedSub h u w × FormedSub h e d

  -- upwards and downwards are one on the first side, or on both
  back : (u w d e : Ty) → u ≡ d → w ≡ e → FormedSub h e d → FormedSub h w u
  back u w d e p q r = subst (λ x. FormedSub h x u) (sym q) (subst (λ y. FormedSub h e y) (sym p) r)

  projected_pair : (b c : Bool) (v : Variance) (top u w d e : Ty) → (c ≡ false → b ≡ false) → (b ≡ false → u ≡ d) → (c ≡ false → w ≡ e) → Need v u w d e → FormedIn h top (read v (projected b v u d)) (read v (projected c v w e))
  projected_pair false false Covariant top u w d e f p q r = out_out r
  projected_pair false false Contravariant top u w d e f p q r = in_in (back u w d e (p refl) (q refl) r)
  projected_pair false false Invariant top u w d e f p q r = exact r.0 (back u w d e (p refl) (q refl) r.1)
  projected_pair false true Covariant top u w d e f p q r = out_out r
  projected_pair false true Contravariant top u w d e f p q r = in_in (subst (λ y. FormedSub h e y) (sym (p refl)) r)
  projected_pair false true Invariant top u w d e f p q r = out_exact r.0
  projected_pair true true Covariant top u w d e f p q r = out_out r
  projected_pair true true Contravariant top u w d e f p q r = in_in r
  projected_pair true true Invariant top u w d e f p q r = out_out r.0
  projected_pair true false v top u w d e f p q r = no (f refl)

  unless_lowered : (b c : Bool) (t u : Ty) → (c ≡ false → b ≡ false) → (c ≡ false → FormedSub h u t) → FormedSub h (cond c Nothing u) (cond b Nothing t)
  unless_lowered b true t u f g = nothing
  unless_lowered false false t u f g = g refl
  unless_lowered true false t u f g = no (f refl)

  blocked_pair : (v : Variance) (b c : Bool) → (c ≡ false → b ≡ false) → elim v [ Invariant ↦ c | Covariant ↦ false | Contravariant ↦ false ] ≡ false → elim v [ Invariant ↦ b | Covariant ↦ false | Contravariant ↦ false ] ≡ false
  blocked_pair Invariant b c f e = f e
  blocked_pair Covariant b c f e = refl
  blocked_pair Contravariant b c f e = refl

module _ (h : Heads) (vary : FunctionsVary h) (variance : ℕ → Variance) (gs ks : List Given) (fine : (x : ℕ) → Given_formed h (given gs x)) (fine_too : (x : ℕ) → Given_formed h (given ks x))
    (pairs : (x : ℕ) → Pair h (variance x) (given gs x) (given ks x)) where
  mutual
    unnamed : (t : Ty) → names ks t ≡ false → names gs t ≡ false
    unnamed (Class c xs) e = unnamed_args xs e
    unnamed (Param x) e = unprojected_pair h (variance x) (given gs x) (given ks x) (pairs x) e
    unnamed Nothing e = refl
    unnamed (Nullable t) e = unnamed t e

    unnamed_arg : (a : Arg) → names_arg ks a ≡ false → names_arg gs a ≡ false
    unnamed_arg (Exact t) e = unnamed t e
    unnamed_arg (Out t) e = unnamed t e
    unnamed_arg (In t) e = unnamed t e
    unnamed_arg Star e = refl

    unnamed_args : (xs : Args) → names_args ks xs ≡ false → names_args gs xs ≡ false
    unnamed_args none e = refl
    unnamed_args (more a xs) e = let q = either_false (names_arg ks a) (names_args ks xs) e in neither (names_arg gs a) (names_args gs xs) (unnamed_arg a q.0) (unnamed_args xs q.1)

  unblocked_too : (ps : List HeadParam) (xs : Args) → blocked ks ps xs ≡ false → blocked gs ps xs ≡ false
  unblocked_too ps none e = refl
  unblocked_too ps (more a xs) e =
      let q = either_false (elim (variance_at ps) [ Invariant ↦ names_arg ks a | Covariant ↦ false | Contravariant ↦ false ]) (blocked ks (rest_of ps) xs) e in
      neither (elim (variance_at ps) [ Invariant ↦ names_arg gs a | Covariant ↦ false | Contravariant ↦ false ]) (blocked gs (rest_of ps) xs)
      (blocked_pair h (variance_at ps) (names_arg gs a) (names_arg ks a) (unnamed_arg a) q.0) (unblocked_too (rest_of ps) xs q.1)

  exact_at : (f : Bool) (v : Variance) (top : Ty) (t : Ty) → (f ≡ true → ¬ (v ≡ Invariant)) → Stands h variance v t → Need h v (up h gs t) (up h ks t) (down h gs t) (down h ks t) →
      FormedIn h top (read v (up_arg h gs f (Exact t) v)) (read v (up_arg h ks f (Exact t) v))
  exact_at true Covariant top t n w r = out_out r
  exact_at true Contravariant top t n w r = in_in r
  exact_at true Invariant top t n w r = absurd (n refl refl)
  exact_at false v top (Param x) n w r = alone_pair h (variance x) v top x (given gs x) (given ks x) (pairs x) w
  exact_at false v top (Class c xs) n w r =
      projected_pair h (names_args gs xs) (names_args ks xs) v top (up h gs (Class c xs)) (up h ks (Class c xs)) (down h gs (Class c xs)) (down h ks (Class c xs))
      (unnamed_args xs) (λ e. one_way h gs (Class c xs) e) (λ e. one_way h ks (Class c xs) e) r
  exact_at false v top Nothing n w r = read_same h v top Nothing
  exact_at false v top (Nullable t) n w r =
      projected_pair h (names gs t) (names ks t) v top (up h gs (Nullable t)) (up h ks (Nullable t)) (down h gs (Nullable t)) (down h ks (Nullable t))
      (unnamed t) (λ e. one_way h gs (Nullable t) e) (λ e. one_way h ks (Nullable t) e) r

  exact_in : (f : Bool) (v : Variance) (top : Ty) (t : Ty) → (f ≡ true → ¬ (v ≡ Invariant)) → Stands h variance v t → Need h v (up h gs t) (up h ks t) (down h gs t) (down h ks t) →
      FormedIn h top (read v (unless_against v (Exact t) (up_arg h gs f (Exact t) v))) (read v (unless_against v (Exact t) (up_arg h ks f (Exact t) v)))
  exact_in f v top t n w r =
      subst (λ a. FormedIn h top (read v a) (read v (unless_against v (Exact t) (up_arg h ks f (Exact t) v)))) (sym (kept v t (up_arg h gs f (Exact t) v)))
      (subst (λ b. FormedIn h top (read v (up_arg h gs f (Exact t) v)) (read v b)) (sym (kept v t (up_arg h ks f (Exact t) v))) (exact_at f v top t n w r))

  -- a type that names no parameter with a projection is the same upwards and downwards
  turned_back : (t : Ty) → names ks t ≡ false → FormedSub h (up h gs t) (up h ks t) → FormedSub h (down h gs t) (down h ks t)
  turned_back t e r = subst (λ x. FormedSub h x (down h ks t)) (one_way h gs t (unnamed t e)) (subst (λ y. FormedSub h (up h gs t) y) (one_way h ks t e) r)

  mutual
    pub raised : (t : Ty) → Formed h t → Stands h variance Covariant t → FormedSub h (up h gs t) (up h ks t)
    raised (Class c xs) k w = arguments (raised_args (h.is_function c) (star_bound h c) (h.params c) xs (λ e. vary c e) k.1 w)
    raised (Param x) k w = value_raised h (variance x) x (given gs x) (given ks x) (pairs x) w
    raised Nothing k w = same
    raised (Nullable t) k w = nullables h (up h gs t) (up h ks t) (up_formed h ks fine_too t k.1) (raised t k.1 w)

    raised_args : (f : Bool) (all : HeadParam → Ty) (ps : List HeadParam) (xs : Args) → (f ≡ true → Varies ps) → Args_formed h ps xs → All_stand h variance Covariant ps xs → FormedAll h all ps (up_args h gs f ps xs) (up_args h ks f ps xs)
    raised_args f all [] none n k w = end
    raised_args f all (p ∷ ps) (more a xs) n k w = next (raised_arg f p.variance (all p) a (λ e. (n e).0) k.0 w.0) (raised_args f all ps xs (λ e. (n e).1) k.1 w.1)
    raised_args f all [] (more a xs) n k w = absurd w
    raised_args f all (p ∷ ps) none n k w = absurd w

    raised_arg : (f : Bool) (v : Variance) (top : Ty) (a : Arg) → (f ≡ true → ¬ (v ≡ Invariant)) → Arg_formed h a → Arg_stands h variance Covariant v a →
        FormedIn h top (read v (unless_against v a (up_arg h gs f a v))) (read v (unless_against v a (up_arg h ks f a v)))
    raised_arg f Covariant top (Exact t) n k w = exact_in f Covariant top t n w (raised t k w)
    raised_arg f Contravariant top (Exact t) n k w = exact_in f Contravariant top t n w (lowered t k w)
    raised_arg f Invariant top (Exact t) n k w = exact_in f Invariant top t n w (raised t k (weaken h variance Covariant t w), lowered t k (weaken h variance Contravariant t w))
    raised_arg f Covariant top (Out t) n k w = out_out (raised t k w)
    raised_arg f Contravariant top (Out t) n k w = star
    raised_arg f Invariant top (Out t) n k w = out_out (raised t k w)
    raised_arg f Covariant top (In t) n k w = star
    raised_arg f Contravariant top (In t) n k w = in_in (lowered t k w)
    raised_arg f Invariant top (In t) n k w = in_in (lowered t k w)
    raised_arg f Covariant top Star n k w = star
    raised_arg f Contravariant top Star n k w = star
    raised_arg f Invariant top Star n k w = star

    pub lowered : (t : Ty) → Formed h t → Stands h variance Contravariant t → FormedSub h (down h ks t) (down h gs t)
    lowered (Class c xs) k w =
        unless_lowered h (blocked gs (h.params c) xs) (blocked ks (h.params c) xs) (Class c (down_args h gs (h.params c) xs)) (Class c (down_args h ks (h.params c) xs))
        (unblocked_too (h.params c) xs) (λ e. arguments (lowered_args (star_bound h c) (h.params c) xs e k.1 w))
    lowered (Param x) k w = value_lowered h (variance x) x (given gs x) (given ks x) (pairs x) w
    lowered Nothing k w = same
    lowered (Nullable t) k w = nullables h (down h ks t) (down h gs t) (down_formed h gs fine t k.1) (lowered t k.1 w)

    lowered_args : (all : HeadParam → Ty) (ps : List HeadParam) (xs : Args) → blocked ks ps xs ≡ false → Args_formed h ps xs → All_stand h variance Contravariant ps xs → FormedAll h all ps (down_args h ks ps xs) (down_args h gs ps xs)
    lowered_args all [] none e k w = end
    lowered_args all (p ∷ ps) (more a xs) e k w =
        let q = either_false (elim p.variance [ Invariant ↦ names_arg ks a | Covariant ↦ false | Contravariant ↦ false ]) (blocked ks ps xs) e in
        next (lowered_arg p.variance (all p) a q.0 k.0 w.0) (lowered_args all ps xs q.1 k.1 w.1)
    lowered_args all [] (more a xs) e k w = absurd w
    lowered_args all (p ∷ ps) none e k w = absurd w

    lowered_arg : (v : Variance) (top : Ty) (a : Arg) → elim v [ Invariant ↦ names_arg ks a | Covariant ↦ false | Contravariant ↦ false ] ≡ false → Arg_formed h a → Arg_stands h variance Contravariant v a →
        FormedIn h top (read v (unless_against v a (down_arg v (each_up h ks a) (each_down h ks a)))) (read v (unless_against v a (down_arg v (each_up h gs a) (each_down h gs a))))
    lowered_arg Covariant top (Exact t) e k w = out_out (lowered t k w)
    lowered_arg Covariant top (Out t) e k w = out_out (lowered t k w)
    lowered_arg Covariant top (In t) e k w = star
    lowered_arg Covariant top Star e k w = star
    lowered_arg Contravariant top (Exact t) e k w = in_in (raised t k w)
    lowered_arg Contravariant top (Out t) e k w = star
    lowered_arg Contravariant top (In t) e k w = in_in (raised t k w)
    lowered_arg Contravariant top Star e k w = star
    lowered_arg Invariant top (Exact t) e k w = exact (lowered t k (weaken h variance Contravariant t w)) (turned_back t e (raised t k (weaken h variance Covariant t w)))
    lowered_arg Invariant top (Out t) e k w = out_out (lowered t k w)
    lowered_arg Invariant top (In t) e k w = in_in (turned_back t e (raised t k w))
    lowered_arg Invariant top Star e k w = star

-- ---- from the lists of arguments
module _ (h : Heads) where
  pair_picked : (b : Bool) (v w : Variance) (g k : Given) (o q : Option Given) → Pair h v (Some g) (Some k) → Pair h w o q → Pair h (cond b v w) (cond b (Some g) o) (cond b (Some k) q)
  pair_picked true v w g k o q r s = r
  pair_picked false v w g k o q r s = s

  pub firm_pairs : (all : HeadParam → Ty) (ps : List HeadParam) (xs ys : Args) → Firms (Rel h) all ps xs ys → (x : ℕ) → Pair h (variance_in ps x) (given (given_all all ps (reduced_args ps xs)) x) (given (given_all all ps (reduced_args ps ys)) x)
  firm_pairs all [] none none r x = tt
  firm_pairs all (p ∷ ps) (more a xs) (more b ys) r x =
      pair_picked (nat_eq p.var x) p.variance (variance_in ps x) (record { var = p.var; arg = reduced p.variance a; top = all p }) (record { var = p.var; arg = reduced p.variance b; top = all p })
      (given (given_all all ps (reduced_args ps xs)) x) (given (given_all all ps (reduced_args ps ys)) x) (refl, r.0) (firm_pairs all ps xs ys r.1 x)
  firm_pairs all [] none (more b ys) r x = absurd r
  firm_pairs all [] (more a xs) ys r x = absurd r
  firm_pairs all (p ∷ ps) none ys r x = absurd r
  firm_pairs all (p ∷ ps) (more a xs) none r x = absurd r
