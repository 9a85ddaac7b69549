-- What is computed is the reading.
use Rattle.std.proofs.Common.{◌≡◌, ℕ, zero, suc, ◌+◌, nat_lt, Bool, true, false, List, [], ◌∷◌, length, Option, Some, None, refl, subst}
use Rattle.grammars.specs.Grammar.{Test, Part, nothing, one, row, both, choose, many, guard, Cst, none, leaf, node, pair, left, right, Reads, r_nothing, r_one, r_row, r_both, r_left, r_right, r_more, r_done, r_guard}
use Rattle.grammars.specs.Runs.{with_tree, read}
use Rattle.std.proofs.lemmas.Bool.{ltb-true}

module _ {R A : Type 0} (G : R → Part R A) where
  -- what is computed is a reading
  data Gives (p : Part R A) (ts : List A) : Option (Cst A × List A) → Type 0 where
    none_given : Gives p ts None
    gives : {k : Cst A × List A} → Reads G p ts k.0 k.1 → Gives p ts (Some k)

  given_row : {r : R} {ts : List A} (o : Option (Cst A × List A)) → Gives (G r) ts o → Gives (row r) ts (with_tree G node o)
  given_row None g = none_given
  given_row (Some k) (gives g) = gives (r_row g)

  given_one : {f : A → Bool} {t : A} {ts : List A} (b : Bool) → f t ≡ b → Gives (one f) (t ∷ ts) (elim b as (λ _. Option (Cst A × List A)) [ true ↦ Some (leaf t, ts) | false ↦ None ])
  given_one true h = gives (r_one h)
  given_one false h = none_given

  given_second : {a b : Part R A} {ts us : List A} {x : Cst A} (o : Option (Cst A × List A)) → Reads G a ts x us → Gives b us o → Gives (both a b) ts (with_tree G (pair x) o)
  given_second None d g = none_given
  given_second (Some k) d (gives g) = gives (r_both d g)

  given_both : {a b : Part R A} {ts : List A} (n : ℕ) (o : Option (Cst A × List A)) → Gives a ts o → ((us : List A) → Gives b us (read G n b us))
      → Gives (both a b) ts (elim o as (λ _. Option (Cst A × List A)) [ None ↦ None | Some k ↦ with_tree G (pair k.0) (read G n b k.1) ])
  given_both n None g h = none_given
  given_both {b = b} n (Some k) (gives g) h = given_second (read G n b k.1) g (h k.1)

  given_left : {f : Test A} {a b : Part R A} {ts : List A} (o : Option (Cst A × List A)) → f.holds ts ≡ true → Gives a ts o → Gives (choose f a b) ts (with_tree G left o)
  given_left None h g = none_given
  given_left (Some k) h (gives g) = gives (r_left h g)

  given_right : {f : Test A} {a b : Part R A} {ts : List A} (o : Option (Cst A × List A)) → f.holds ts ≡ false → Gives b ts o → Gives (choose f a b) ts (with_tree G right o)
  given_right None h g = none_given
  given_right (Some k) h (gives g) = gives (r_right h g)

  given_choice : {f : Test A} {a b : Part R A} {ts : List A} (c : Bool) (o p : Option (Cst A × List A)) → f.holds ts ≡ c → Gives a ts o → Gives b ts p
      → Gives (choose f a b) ts (elim c as (λ _. Option (Cst A × List A)) [ true ↦ with_tree G left o | false ↦ with_tree G right p ])
  given_choice true o p h g g' = given_left o h g
  given_choice false o p h g g' = given_right p h g'

  given_rest : {f : Test A} {a : Part R A} {ts us : List A} {x : Cst A} (o : Option (Cst A × List A)) → f.holds ts ≡ true → Reads G a ts x us → Gives (many f a) us o
      → Gives (many f a) ts (with_tree G (pair x) o)
  given_rest None h d g = none_given
  given_rest (Some k) h d (gives g) = gives (r_more h d g)

  given_turn : {f : Test A} {a : Part R A} {ts : List A} (n : ℕ) (o : Option (Cst A × List A)) → f.holds ts ≡ true → Gives a ts o → ((us : List A) → Gives (many f a) us (read G n (many f a) us))
      → Gives (many f a) ts (elim o as (λ _. Option (Cst A × List A)) [ None ↦ None | Some k ↦ with_tree G (pair k.0) (read G n (many f a) k.1) ])
  given_turn n None h g i = none_given
  given_turn {f = f} {a = a} n (Some k) h (gives g) i = given_rest (read G n (many f a) k.1) h g (i k.1)

  given_loop : {f : Test A} {a : Part R A} {ts : List A} (n : ℕ) (c : Bool) (o : Option (Cst A × List A)) → f.holds ts ≡ c → Gives a ts o → ((us : List A) → Gives (many f a) us (read G n (many f a) us))
      → Gives (many f a) ts (elim c as (λ _. Option (Cst A × List A)) [ true ↦ elim o as (λ _. Option (Cst A × List A)) [ None ↦ None | Some k ↦ with_tree G (pair k.0) (read G n (many f a) k.1) ] | false ↦ Some (none, ts) ])
  given_loop n true o h g i = given_turn n o h g i
  given_loop n false o h g i = gives (r_done h)

  given_taken : {f : Test A} {a : Part R A} {ts us : List A} {x : Cst A} (c : Bool) → nat_lt (length us + f.far ts) (length ts) ≡ c → f.holds ts ≡ true → Reads G a ts x us
      → Gives (guard f a) ts (elim c as (λ _. Option (Cst A × List A)) [ true ↦ Some (node x, us) | false ↦ None ])
  given_taken true e h d = gives (r_guard h d (ltb-true _ _ e))
  given_taken false e h d = none_given

  given_inside : {f : Test A} {a : Part R A} {ts : List A} (o : Option (Cst A × List A)) → f.holds ts ≡ true → Gives a ts o
      → Gives (guard f a) ts (elim o as (λ _. Option (Cst A × List A)) [ None ↦ None | Some k ↦ elim (nat_lt (length k.1 + f.far ts) (length ts)) as (λ _. Option (Cst A × List A)) [ true ↦ Some (node k.0, k.1) | false ↦ None ] ])
  given_inside None h g = none_given
  given_inside {f = f} {ts = ts} (Some k) h (gives g) = given_taken (nat_lt (length k.1 + f.far ts) (length ts)) refl h g

  given_guard : {f : Test A} {a : Part R A} {ts : List A} (c : Bool) (o : Option (Cst A × List A)) → f.holds ts ≡ c → Gives a ts o
      → Gives (guard f a) ts (elim c as (λ _. Option (Cst A × List A)) [ true ↦ elim o as (λ _. Option (Cst A × List A)) [ None ↦ None | Some k ↦ elim (nat_lt (length k.1 + f.far ts) (length ts)) as (λ _. Option (Cst A × List A)) [ true ↦ Some (node k.0, k.1) | false ↦ None ] ] | false ↦ None ])
  given_guard true o h g = given_inside o h g
  given_guard false o h g = none_given

  given : (n : ℕ) (p : Part R A) (ts : List A) → Gives p ts (read G n p ts)
  given zero p ts = none_given
  given (suc n) nothing ts = gives r_nothing
  given (suc n) (one f) [] = none_given
  given (suc n) (one f) (t ∷ ts) = given_one (f t) refl
  given (suc n) (row r) ts = given_row (read G n (G r) ts) (given n (G r) ts)
  given (suc n) (both a b) ts = given_both n (read G n a ts) (given n a ts) (λ us. given n b us)
  given (suc n) (choose f a b) ts = given_choice (f.holds ts) (read G n a ts) (read G n b ts) refl (given n a ts) (given n b ts)
  given (suc n) (many f a) ts = given_loop n (f.holds ts) (read G n a ts) refl (given n a ts) (λ us. given n (many f a) us)
  given (suc n) (guard f a) ts = given_guard (f.holds ts) (read G n a ts) refl (given n a ts)

  -- what is computed is a reading
  pub is_read : (n : ℕ) (p : Part R A) (ts r : List A) (x : Cst A) → read G n p ts ≡ Some (x, r) → Reads G p ts x r
  is_read n p ts r x e = from (subst (λ o. Gives p ts o) e (given n p ts))
    where
      from : Gives p ts (Some (x, r)) → Reads G p ts x r
      from (gives d) = d
