-- Arguments as local variables.
use Rattle.std.proofs.Common.{◌≡◌, List, [], ◌∷◌, ◌++◌, refl, ap}
use Rattle.class_file.specs.declared.value.Value.{Value}
use Rattle.class_file.specs.declared.value.Value.TheVariants.{Nothing, Int, Long, Null, Ref}
use Rattle.class_file.specs.Machine.{spread}

pub spread_append : (xs ys : List Value) → spread (xs ++ ys) ≡ spread xs ++ spread ys
spread_append [] ys = refl
spread_append (Nothing ∷ xs) ys = ap (λ (l : List Value). Nothing ∷ l) (spread_append xs ys)
spread_append (Int n ∷ xs) ys = ap (λ (l : List Value). Int n ∷ l) (spread_append xs ys)
spread_append (Long n ∷ xs) ys = ap (λ (l : List Value). Long n ∷ Nothing ∷ l) (spread_append xs ys)
spread_append (Null ∷ xs) ys = ap (λ (l : List Value). Null ∷ l) (spread_append xs ys)
spread_append (Ref r ∷ xs) ys = ap (λ (l : List Value). Ref r ∷ l) (spread_append xs ys)
