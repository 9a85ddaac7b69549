-- The reading of a part computed in so many steps: a word for examples.
use Rattle.std.specs.Prelude.{ℕ, zero, suc, ◌+◌, nat_lt, length, Bool, true, false, List, [], ◌∷◌, Option, Some, None}
use Rattle.grammars.specs.Grammar.{Part, nothing, one, row, both, choose, many, guard, Cst, none, leaf, node, pair, left, right}

module _ {R A : Type 0} (G : R → Part R A) where
  abbrev pub with_tree : (Cst A → Cst A) → Option (Cst A × List A) → Option (Cst A × List A)
  with_tree f None = None
  with_tree f (Some k) = Some (f k.0, k.1)

  abbrev pub read_one : (A → Bool) → List A → Option (Cst A × List A)
  read_one f [] = None
  read_one f (t ∷ ts) = elim (f t) as (λ _. Option (Cst A × List A)) [ true ↦ Some (leaf t, ts) | false ↦ None ]

  abbrev pub read : ℕ → Part R A → List A → Option (Cst A × List A)
  read zero p ts = None
  read (suc n) nothing ts = Some (none, ts)
  read (suc n) (one f) ts = read_one f ts
  read (suc n) (row r) ts = with_tree node (read n (G r) ts)
  read (suc n) (both a b) ts = elim (read n a ts) as (λ _. Option (Cst A × List A)) [ None ↦ None | Some k ↦ with_tree (pair k.0) (read n b k.1) ]
  read (suc n) (choose f a b) ts = elim (f.holds ts) as (λ _. Option (Cst A × List A)) [ true ↦ with_tree left (read n a ts) | false ↦ with_tree right (read n b ts) ]
  read (suc n) (many f a) ts = elim (f.holds ts) as (λ _. Option (Cst A × List A)) [
    | true ↦ elim (read n a ts) as (λ _. Option (Cst A × List A)) [ None ↦ None | Some k ↦ with_tree (pair k.0) (read n (many f a) k.1) ]
    | false ↦ Some (none, ts)
  ]
  read (suc n) (guard f a) ts = elim (f.holds ts) as (λ _. Option (Cst A × List A)) [
    | true ↦ elim (read n a ts) as (λ _. Option (Cst A × List A)) [ None ↦ None | Some k ↦ elim (nat_lt (length k.1 + f.far ts) (length ts)) as (λ _. Option (Cst A × List A)) [ true ↦ Some (node k.0, k.1) | false ↦ None ] ]
    | false ↦ None
  ]
