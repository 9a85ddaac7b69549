-- The example is valid.
use Rattle.std.proofs.Common.{◌≡◌, ℕ, zero, suc, Bool, true, false, nat_eq, Some, None, cond, refl, ap, subst, eqb-true, eq-eqb, arith}
use Rattle.kc_types.specs.Supertypes.{IsIn, here, later}
use Rattle.kc_types.specs.Core.{Args, none, Cov, Super, puts, at, own_args, Supertype, Stand_all, All_kinded, Valid}
use Rattle.kc_types.specs.Core.Supertype.{own, next}
use Rattle.kc_types.specs.CoreExample.{vars, one_place, supers, above, example}

some_args : {x y : Args} → Some x ≡ Some y → x ≡ y
some_args e = cc

top : (c : ℕ) → Supertype example c 0 none
top zero = own
top (suc zero) = next own here
top (suc (suc zero)) = next (next own here) here
top (suc (suc (suc c))) = next own here

as_top : (c : ℕ) (ws : Args) → Some none ≡ Some ws → Supertype example c 0 ws
as_top c ws f = subst (λ us. Supertype example c 0 us) (some_args f) (top c)

further : (c e : ℕ) (b : Bool) → nat_eq (suc (suc c)) e ≡ b → (ws : Args) → cond b (Some none) None ≡ Some ws → Supertype example (suc (suc (suc c))) (suc e) ws
further c e true q ws f =
    let same : suc (suc c) ≡ e = eqb-true (suc (suc c)) e q in
    subst (λ k. Supertype example (suc (suc (suc c))) (suc k) ws) same (subst (λ us. Supertype example (suc (suc (suc c))) (suc (suc (suc c))) us) (some_args f) own)
further c e false q ws f = absurd cc

found : (c e : ℕ) (ws : Args) → above c e ≡ Some ws → Supertype example c e ws
found zero zero ws f = as_top zero ws f
found zero (suc e) ws f = absurd cc
found (suc zero) zero ws f = as_top 1 ws f
found (suc zero) (suc zero) ws f = subst (λ us. Supertype example 1 1 us) (some_args f) own
found (suc zero) (suc (suc e)) ws f = absurd cc
found (suc (suc zero)) zero ws f = as_top 2 ws f
found (suc (suc zero)) (suc zero) ws f = subst (λ us. Supertype example 2 1 us) (some_args f) (next own here)
found (suc (suc zero)) (suc (suc zero)) ws f = subst (λ us. Supertype example 2 2 us) (some_args f) own
found (suc (suc zero)) (suc (suc (suc e))) ws f = absurd cc
found (suc (suc (suc c))) zero ws f = as_top (suc (suc (suc c))) ws f
found (suc (suc (suc c))) (suc e) ws f = further c e (nat_eq (suc (suc c)) e) refl ws f

itself : (c : ℕ) → above c c ≡ Some (own_args (vars c))
itself zero = refl
itself (suc zero) = refl
itself (suc (suc zero)) = refl
itself (suc (suc (suc c))) = ap (λ b. cond b (Some none) None) (eq-eqb (suc (suc c)) (suc (suc c)) refl)

at_top : (c : ℕ) → above c 0 ≡ Some none
at_top zero = refl
at_top (suc zero) = refl
at_top (suc (suc zero)) = refl
at_top (suc (suc (suc c))) = refl

no_list : {A : Type 0} (c : ℕ) (zs : Args) (b : Bool) → nat_eq (suc (suc c)) 1 ≡ b → cond b (Some none) None ≡ Some zs → A
no_list c zs true q f = let e : suc (suc c) ≡ 1 = eqb-true (suc (suc c)) 1 q in absurd (omega (arith, e))
no_list c zs false q f = absurd cc

-- a step from a class that was found
step : (c d : ℕ) (zs : Args) → above c d ≡ Some zs → (s : Super) → IsIn Super s (supers d) → above c s.class ≡ Some (puts (at zs) s.args)
step c zero zs f s i = elim i [ ]
step c (suc zero) zs f s here = at_top c
step c (suc zero) zs f s (later i) = elim i [ ]
step zero (suc (suc zero)) zs f s i = absurd cc
step (suc zero) (suc (suc zero)) zs f s i = absurd cc
step (suc (suc zero)) (suc (suc zero)) zs f s here = ap (λ us. Some (puts (at us) one_place)) (some_args f)
step (suc (suc zero)) (suc (suc zero)) zs f s (later i) = elim i [ ]
step (suc (suc (suc c))) (suc (suc zero)) zs f s i = no_list c zs (nat_eq (suc (suc c)) 1) refl f
step c (suc (suc (suc d))) zs f s here = at_top c
step c (suc (suc (suc d))) zs f s (later i) = elim i [ ]

one : (c e : ℕ) (ws : Args) → Supertype example c e ws → above c e ≡ Some ws
one c e ws own = itself c
one c e ws (next {d = d} {zs = zs} {s = s} st i) = step c d zs (one c d zs st) s i

stand : (d : ℕ) (s : Super) → IsIn Super s (supers d) → Stand_all example (vars d) Cov (vars s.class) s.args
stand zero s i = elim i [ ]
stand (suc zero) s here = tt
stand (suc zero) s (later i) = elim i [ ]
stand (suc (suc zero)) s here = (tt, tt)
stand (suc (suc zero)) s (later i) = elim i [ ]
stand (suc (suc (suc d))) s here = tt
stand (suc (suc (suc d))) s (later i) = elim i [ ]

kinded : (d : ℕ) (s : Super) → IsIn Super s (supers d) → All_kinded example (vars s.class) s.args
kinded zero s i = elim i [ ]
kinded (suc zero) s here = tt
kinded (suc zero) s (later i) = elim i [ ]
kinded (suc (suc zero)) s here = (tt, tt)
kinded (suc (suc zero)) s (later i) = elim i [ ]
kinded (suc (suc (suc d))) s here = tt
kinded (suc (suc (suc d))) s (later i) = elim i [ ]

pub is_valid : Valid example
is_valid = record { found = found; one = one; stand = stand; kinded = kinded; top = top; plain = refl; alone = refl }
