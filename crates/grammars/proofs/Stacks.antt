-- Lists of parts that derive lists of tokens, one behind the other.
use Rattle.std.proofs.Common.{◌≡◌, Bool, true, List, [], ◌∷◌}
use Rattle.grammars.specs.Grammar.{Test, Part, nothing, one, row, both, choose, many, Cst, Derives, d_nothing, d_one, d_row, d_both, d_left, d_right, d_more, d_done}

pub data All {R A : Type 0} (G : R → Part R A) : List (Part R A) → List A → Type 0 where
  all_end : All G [] []
  all_then : {a : Part R A} {K : List (Part R A)} {ts r : List A} {x : Cst A} → Derives G a ts x r → All G K r → All G (a ∷ K) ts

module _ {R A : Type 0} (G : R → Part R A) where
  pub all_one : {f : A → Bool} {t : A} {ts : List A} {K : List (Part R A)} → f t ≡ true → All G K ts → All G (one f ∷ K) (t ∷ ts)
  all_one h k = all_then (d_one h) k

  pub all_nothing : {ts : List A} {K : List (Part R A)} → All G K ts → All G (nothing ∷ K) ts
  all_nothing k = all_then d_nothing k

  pub all_row : {n : R} {ts : List A} {K : List (Part R A)} → All G (G n ∷ K) ts → All G (row n ∷ K) ts
  all_row (all_then d k) = all_then (d_row d) k

  pub all_both : {a b : Part R A} {ts : List A} {K : List (Part R A)} → All G (a ∷ b ∷ K) ts → All G (both a b ∷ K) ts
  all_both (all_then d (all_then e k)) = all_then (d_both d e) k

  pub all_left : {f : Test A} {a b : Part R A} {ts : List A} {K : List (Part R A)} → All G (a ∷ K) ts → All G (choose f a b ∷ K) ts
  all_left (all_then d k) = all_then (d_left d) k

  pub all_right : {f : Test A} {a b : Part R A} {ts : List A} {K : List (Part R A)} → All G (b ∷ K) ts → All G (choose f a b ∷ K) ts
  all_right (all_then d k) = all_then (d_right d) k

  pub all_more : {f : Test A} {a : Part R A} {ts : List A} {K : List (Part R A)} → All G (a ∷ many f a ∷ K) ts → All G (many f a ∷ K) ts
  all_more (all_then d (all_then e k)) = all_then (d_more d e) k

  pub all_done : {f : Test A} {a : Part R A} {ts : List A} {K : List (Part R A)} → All G K ts → All G (many f a ∷ K) ts
  all_done k = all_then d_done k

  -- another list behind the first part
  pub all_tail : {a : Part R A} {ts : List A} {K L : List (Part R A)} → ((us : List A) → All G K us → All G L us) → All G (a ∷ K) ts → All G (a ∷ L) ts
  all_tail h (all_then d k) = all_then d (h _ k)

  -- one part alone
  pub all_of : {a : Part R A} {ts : List A} → All G (a ∷ []) ts → (x : Cst A) × Derives G a ts x []
  all_of (all_then d all_end) = (_, d)
