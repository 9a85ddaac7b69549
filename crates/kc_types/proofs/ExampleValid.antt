-- The heads of the examples are valid.
use Rattle.std.proofs.Common.{◌≡◌, ℕ, zero, suc, ◌<◌, ◌≤◌, Bool, true, false, nat_eq, List, [], ◌∷◌, cond, refl, sym, subst, eqb-true, arith}
use Rattle.kc_types.specs.Types.{Nullable, Invariant, Covariant, Contravariant}
use Rattle.kc_types.specs.Supertypes.{IsIn, here, later, RanksBelow, Acyclic}
use Rattle.kc_types.specs.Formed.{Different, Formed}
use Rattle.kc_types.specs.Positions.{Stands, variance_in, Varies}
use Rattle.kc_types.specs.FormedSub.{Over, Of_types}
use Rattle.kc_types.specs.Examples.{nth, plain, heads_params, heads_supers, heads}
use Rattle.kc_types.specs.Laws.{HasValidHeads}

-- what holds of each item of each list, by its number
abbrev pub Every : {A : Type 0} → (A → Type 0) → List A → Type 0
Every P [] = Unit {0}
Every P (x ∷ xs) = P x × Every P xs

pub every_in : {A : Type 0} (P : A → Type 0) (xs : List A) (x : A) → Every P xs → IsIn A x xs → P x
every_in P [] x e i = elim i [ ]
every_in P (y ∷ xs) x e here = e.0
every_in P (y ∷ xs) x e (later i) = every_in P xs x e.1 i

abbrev Numbered : {A : Type 0} → (ℕ → A → Type 0) → List (List A) → Type 0
Numbered P [] = Unit {0}
Numbered P (xs ∷ xss) = Every (P zero) xs × Numbered (λ k. P (suc k)) xss

nowhere : {A : Type 0} (P : Type 0) (x : A) → IsIn A x [] → P
nowhere P x i = elim i [ ]

pub numbered_in : {A : Type 0} (P : ℕ → A → Type 0) (xss : List (List A)) (c : ℕ) (x : A) → Numbered P xss → IsIn A x (nth [] xss c) → P c x
numbered_in P [] c x e i = nowhere (P c x) x i
numbered_in P (xs ∷ xss) zero x e i = every_in (P zero) xs x e.0 i
numbered_in P (xs ∷ xss) (suc c) x e i = numbered_in (λ k. P (suc k)) xss c x e.1 i

pub nth_all : {A : Type 0} (P : A → Type 0) (d : A) (xs : List A) → P d → Every P xs → (c : ℕ) → P (nth d xs c)
nth_all P d [] p e c = p
nth_all P d (x ∷ xs) p e zero = e.0
nth_all P d (x ∷ xs) p e (suc c) = nth_all P d xs p e.1 c

abbrev ranks : List ℕ
ranks = 0 ∷ 1 ∷ 0 ∷ 1 ∷ 0 ∷ 0 ∷ 0 ∷ 1 ∷ 2 ∷ 3 ∷ []

first : 0 < 1
first = omega arith

second : 1 < 2
second = omega arith

third : 2 < 3
third = omega arith

few : (n : ℕ) → n < 10 → n ≤ 10
few n l = omega (arith, l)

pub acyclic : Acyclic heads
acyclic = record {
  rank = nth 0 ranks;
  within = nth_all (λ r. r ≤ 10) 0 ranks (few 0 (omega arith)) (few 0 (omega arith), (few 1 (omega arith), (few 0 (omega arith), (few 1 (omega arith), (few 0 (omega arith), (few 0 (omega arith), (few 0 (omega arith), (few 1 (omega arith), (few 2 (omega arith), (few 3 (omega arith), tt))))))))));
  lower = λ c s i. numbered_in (λ k t. RanksBelow (nth 0 ranks) (nth 0 ranks k) t) heads_supers c s (tt, ((first, tt), (tt, ((first, tt), (tt, (tt, (tt, ((first, tt), ((second, tt), ((third, tt), tt)))))))))) i;
}

contravariant : Contravariant ≡ Invariant → ⊥
contravariant e = absurd cc

covariant : Covariant ≡ Invariant → ⊥
covariant e = absurd cc

function : (c : ℕ) → nat_eq c 5 ≡ true → Varies (nth [] heads_params c)
function c e = subst (λ k. Varies (nth [] heads_params k)) (sym (eqb-true c 5 e)) (contravariant, (covariant, tt))

bounded : (b : Bool) → Formed heads (cond b (plain 1) (Nullable (plain 0)))
bounded true = (λ f. tt, tt)
bounded false = (tt, (λ f. tt, tt))

pub is_valid : HasValidHeads
is_valid = record {
  acyclic = acyclic;
  different = nth_all Different [] heads_params tt (tt, (tt, ((refl, tt), ((refl, tt), ((refl, tt), ((refl, (refl, tt)), ((refl, tt), ((refl, tt), ((refl, tt), ((refl, tt), tt))))))))));
  functions = function;
  formed = λ c s i. numbered_in (λ k t. Formed heads t) heads_supers c s (tt, (((λ f. tt, tt), tt), (tt, (((λ f. tt, (tt, tt)), tt), (tt, (tt, (tt, (((λ f. tt, (tt, tt)), tt), (((λ f. tt, (tt, tt)), tt), (((λ f. tt, (tt, tt)), tt), tt)))))))))) i;
  types = λ c s i. numbered_in (λ k t. Of_types t) heads_supers c s (tt, ((tt, tt), (tt, ((tt, tt), (tt, (tt, (tt, ((tt, tt), ((tt, tt), ((tt, tt), tt)))))))))) i;
  over = λ c s i. numbered_in (λ k t. Over (nth [] heads_params k) t) heads_supers c s (tt, ((tt, tt), (tt, (((refl, tt), tt), (tt, (tt, (tt, (((refl, tt), tt), (((refl, tt), tt), (((refl, tt), tt), tt)))))))))) i;
  stand = λ c s i. numbered_in (λ k t. Stands heads (variance_in (nth [] heads_params k)) Covariant t) heads_supers c s (tt, ((tt, tt), (tt, (((tt, tt), tt), (tt, (tt, (tt, (((tt, tt), tt), (((tt, tt), tt), (((tt, tt), tt), tt)))))))))) i;
  class_bounds = λ c p i. numbered_in (λ k q. Formed heads q.bound) heads_params c p (tt, (tt, (((tt, (λ f. tt, tt)), tt), (((λ f. tt, tt), tt), (((tt, (λ f. tt, tt)), tt), (((tt, (λ f. tt, tt)), ((tt, (λ f. tt, tt)), tt)), (((tt, (λ f. tt, tt)), tt), (((tt, (λ f. tt, tt)), tt), (((tt, (λ f. tt, tt)), tt), (((tt, (λ f. tt, tt)), tt), tt)))))))))) i;
  bounds = λ x. bounded (nat_eq x 30);
  plain = refl;
  alone = refl;
}
