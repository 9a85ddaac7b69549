-- Heads whose classes have such ranks are acyclic.
use Rattle.std.proofs.Common.{◌≡◌, ℕ, zero, suc, ◌+◌, ◌≤◌, Bool, true, List, [], ◌∷◌, length, map, Option, Some, None, refl, sym, ap, subst, ◌∙◌, arith}
use Rattle.std.specs.Prelude.{slice_get, nat_le}
use Rattle.std.specs.List.{list_all}
use Rattle.std.proofs.lemmas.Bool.{and_parts, ltb-true, leb-true}
use Rattle.kc_types.specs.declared.trees.TypeTree.{TypeTree, out-TypeTree}
use Rattle.kc_types.specs.declared.trees.ArgTree.TheOpen.{TypeTree-F}
use Rattle.kc_types.specs.declared.trees.ArgTree.{ArgTree}
use Rattle.kc_types.specs.declared.trees.ArgTree.TheFolds.{map-TypeTree, fold_out-TypeTree, fold-ArgTree, fold-TypeTree}
use Rattle.kc_types.specs.declared.heads.Head.{Head}
use Rattle.kc_types.specs.declared.heads.Heads as declared_heads
use Rattle.kc_types.specs.Types.{Ty, Class, Param, Nothing, Nullable, Arg}
use Rattle.kc_types.specs.Supertypes.{IsIn, here, later, RanksBelow, Acyclic}
use Rattle.kc_types.specs.Trees.{Level}
use Rattle.kc_types.specs.TypeOf.{function_class, argument_level, type_level, type_of, supers_of, heads_of}
use Rattle.kc_types.specs.Ranks.{class_of_level, class_of, rank_in, rank_of, is_lower, are_lower, are_lower_from, are_ranked}
use Rattle.kc_types.proofs.Supertypes.{in_map}

abbrev class_number : Ty → Option ℕ
class_number (Class c xs) = Some c
class_number (Param x) = None
class_number Nothing = None
class_number (Nullable t) = None

same_length : {A B : Type 0} (f : A → B) (xs : List A) → length (map f xs) ≡ length xs
same_length f [] = refl
same_length f (x ∷ xs) = ap suc (same_length f xs)

level_number : (f : ArgTree → Arg) (g : TypeTree → Ty) (l : Level) → class_number (type_level (map-TypeTree ArgTree TypeTree Arg Ty f g l)) ≡ class_of_level l
level_number f g (TypeTree-F.Class c xs) = refl
level_number f g (TypeTree-F.Fun ps r) = ap (λ n. Some (function_class n)) (same_length g ps)
level_number f g (TypeTree-F.Param x) = refl
level_number f g TypeTree-F.Nothing = refl
level_number f g (TypeTree-F.Nullable t) = refl

number_is : (t : TypeTree) → class_number (type_of t) ≡ class_of t
number_is t = ap class_number (fold_out-TypeTree Arg Ty argument_level type_level t) ∙ level_number (fold-ArgTree Arg Ty argument_level type_level) (fold-TypeTree Arg Ty argument_level type_level) (out-TypeTree t)

lower_is : (ranks : List ℕ) (rank : ℕ) (t : Ty) → is_lower ranks rank (class_number t) ≡ true → RanksBelow (rank_of ranks) rank t
lower_is ranks rank (Class d xs) e = ltb-true (rank_of ranks d) rank e
lower_is ranks rank (Param x) e = absurd cc
lower_is ranks rank Nothing e = absurd cc
lower_is ranks rank (Nullable t) e = absurd cc

all_in : {A : Type 0} (p : A → Bool) (xs : List A) (x : A) → list_all p xs ≡ true → IsIn A x xs → p x ≡ true
all_in p [] x e i = elim i [ ]
all_in p (y ∷ xs) x e here = (and_parts (p x) (list_all p xs) e).0
all_in p (y ∷ xs) x e (later i) = all_in p xs x (and_parts (p y) (list_all p xs) e).1 i

all_at : {A : Type 0} (p : A → Bool) (xs : List A) (k : ℕ) (x : A) → list_all p xs ≡ true → slice_get xs k ≡ Some x → p x ≡ true
all_at p [] k x e f = absurd cc
all_at p (y ∷ xs) zero x e f = let s : y ≡ x = cc in subst (λ z. p z ≡ true) s (and_parts (p y) (list_all p xs) e).0
all_at p (y ∷ xs) (suc k) x e f = all_at p xs k x (and_parts (p y) (list_all p xs) e).1 f

lower_at : (ranks : List ℕ) (n : ℕ) (cs : List Head) (k : ℕ) (c : Head) → are_lower_from ranks n cs ≡ true → slice_get cs k ≡ Some c → are_lower ranks (rank_of ranks (n + k)) c.supers ≡ true
lower_at ranks n [] k c e f = absurd cc
lower_at ranks n (d ∷ ds) zero c e f =
    let z : n ≡ n + 0 = omega arith in
    let s : d ≡ c = cc in
    subst (λ m. are_lower ranks (rank_of ranks m) c.supers ≡ true) z
    (subst (λ x. are_lower ranks (rank_of ranks n) x.supers ≡ true) s (and_parts (are_lower ranks (rank_of ranks n) d.supers) (are_lower_from ranks (n + 1) ds) e).0)
lower_at ranks n (d ∷ ds) (suc k) c e f =
    let z : n + 1 + k ≡ n + suc k = omega arith in
    subst (λ m. are_lower ranks (rank_of ranks m) c.supers ≡ true) z
    (lower_at ranks (n + 1) ds k c (and_parts (are_lower ranks (rank_of ranks n) d.supers) (are_lower_from ranks (n + 1) ds) e).1 f)

module _ (h : declared_heads.Heads) (ranks : List ℕ) (e : are_ranked h.classes ranks ≡ true) where
  parts : (are_lower_from ranks 0 h.classes ≡ true) × (list_all (λ rank. nat_le rank (length h.classes)) ranks ≡ true)
  parts = and_parts (are_lower_from ranks 0 h.classes) (list_all (λ rank. nat_le rank (length h.classes)) ranks) e

  few : (c : ℕ) (o : Option ℕ) → slice_get ranks c ≡ o → rank_in o ≤ length h.classes
  few c None f = omega arith
  few c (Some rank) f = leb-true rank (length h.classes) (all_at (λ r. nat_le r (length h.classes)) ranks c rank parts.1 f)

  lower : (c : ℕ) (o : Option Head) → slice_get h.classes c ≡ o → (s : Ty) → IsIn Ty s (supers_of o) → RanksBelow (rank_of ranks) (rank_of ranks c) s
  lower c None f s i = elim i [ ]
  lower c (Some head) f s i =
      let m = in_map type_of head.supers s i in
      let z : 0 + c ≡ c = omega arith in
      let all : are_lower ranks (rank_of ranks c) head.supers ≡ true = subst (λ k. are_lower ranks (rank_of ranks k) head.supers ≡ true) z (lower_at ranks 0 h.classes c head parts.0 f) in
      let one : is_lower ranks (rank_of ranks c) (class_of m.x) ≡ true = all_in (λ t. is_lower ranks (rank_of ranks c) (class_of t)) head.supers m.x all m.there in
      subst (λ t. RanksBelow (rank_of ranks) (rank_of ranks c) t) (sym m.is) (lower_is ranks (rank_of ranks c) (type_of m.x) (subst (λ o. is_lower ranks (rank_of ranks c) o ≡ true) (sym (number_is m.x)) one))

  pub acyclic : Acyclic (heads_of h)
  acyclic = record { rank = rank_of ranks; within = λ c. few c (slice_get ranks c) refl; lower = λ c s i. lower c (slice_get h.classes c) refl s i }
