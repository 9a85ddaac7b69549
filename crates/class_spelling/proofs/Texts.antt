-- Equality of texts, and parts of lists.
use Rattle.std.proofs.Common.{◌≡◌, ℕ, Bool, true, false, List, [], ◌∷◌, refl, sym, ap₂, eq-eqb, true≢false, eqb, All, ◌++◌}
use Rattle.std.specs.Prelude.{◌&&◌, ◌||◌}
use Rattle.std.proofs.lemmas.Bool.{eqb-true}
use Rattle.std.proofs.lemmas.List.Elements.{All-nil, All-cons, All-head, All-tail}
use Rattle.class_file.specs.Pools.{is_text}

pub both_true : (a b : Bool) → (a && b) ≡ true → (a ≡ true) × (b ≡ true)
both_true true b e = (refl, e)
both_true false b e = absurd (true≢false (sym e))

pub or_true : (b : Bool) → (b || true) ≡ true
or_true true = refl
or_true false = refl

pub text_is_itself : (t : List ℕ) → is_text t t ≡ true
text_is_itself [] = refl
text_is_itself (u ∷ t) = ap₂ (λ a b. a && b) (eq-eqb u u refl) (text_is_itself t)

pub same_text : (a b : List ℕ) → is_text a b ≡ true → a ≡ b
same_text [] [] e = refl
same_text [] (v ∷ b) e = absurd (true≢false (sym e))
same_text (u ∷ a) [] e = absurd (true≢false (sym e))
same_text (u ∷ a) (v ∷ b) e = let e' = both_true (eqb u v) (is_text a b) e in ap₂ (λ x xs. x ∷ xs) (eqb-true u v e'.0) (same_text a b e'.1)

pub all_left : {X : Type 0} (P : X → Type 0) (xs ys : List X) → All P (xs ++ ys) → All P xs
all_left P [] ys all = All-nil P
all_left P (x ∷ xs) ys all = All-cons P x xs (All-head P x (xs ++ ys) all) (all_left P xs ys (All-tail P x (xs ++ ys) all))

pub all_right : {X : Type 0} (P : X → Type 0) (xs ys : List X) → All P (xs ++ ys) → All P ys
all_right P [] ys all = all
all_right P (x ∷ xs) ys all = all_right P xs ys (All-tail P x (xs ++ ys) all)
