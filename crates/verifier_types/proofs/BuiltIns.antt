-- The tables of built-in classes.
use Rattle.std.proofs.Common.{◌≡◌, ℕ, ◌+◌, ◌-◌, ◌<◌, Bool, true, false, cond, List, [], ◌∷◌, length, get_or, Option, Some, None, refl, sym, ap, ◌∙◌, nat_lt, map, position, arith}
use Rattle.std.proofs.lemmas.List.{length-map}
use Rattle.std.specs.Prelude.{not, slice_get, ◌||◌}
use Rattle.std.specs.Option.{option_map}
use Rattle.std.proofs.lemmas.Option.{slice_get-map, slice_get-get_or}
use Rattle.std.proofs.lemmas.Bool.{lt-ltb}
use Rattle.std.specs.List.{position_or_len, find, list_any}
use Rattle.class_file.specs.Members.{is_there}
use Rattle.class_file.specs.declared.class.Set.{Set}
use Rattle.class_file.specs.Classes.{ClassView, built_ins, class_at, viewed}

same_len : {A B : Type 0} (p : A → Bool) (q : B → Bool) (xs : List A) (ys : List B) → map p xs ≡ map q ys → position_or_len p xs ≡ position_or_len q ys
same_len p q xs ys e = by_map p xs ∙ ap (position_or_len (λ (b : Bool). b)) e ∙ sym (by_map q ys)
  where
    by_map : {C : Type 0} (r : C → Bool) (zs : List C) → position_or_len r zs ≡ position_or_len (λ (b : Bool). b) (map r zs)
    by_map r [] = refl
    by_map r (z ∷ zs) = ap (λ (n : ℕ). cond (not (r z)) (1 + n) 0) (by_map r zs)

-- tests that agree along two lists pass first at the same place
pub same_position : {A B : Type 0} (p : A → Bool) (q : B → Bool) (xs : List A) (ys : List B) → map p xs ≡ map q ys → position p xs ≡ position q ys
same_position p q xs ys e =
    let len : length xs ≡ length ys = sym (length-map xs p) ∙ ap length e ∙ length-map ys q in
    ap (λ (n : ℕ). cond (nat_lt n (length xs)) (Some n) None) (same_len p q xs ys e) ∙ ap (λ (n : ℕ). cond (nat_lt (position_or_len q ys) n) (Some (position_or_len q ys)) None) len

-- what a table by numbers says of a class
pub table_at : {B : Type 0} (set : Set) (f : ClassView → B) (g : Option ClassView → B) (rows : List B) (n : ℕ) (d : B) → ((c : ClassView) → g (Some c) ≡ f c) → map f built_ins ≡ rows → length rows ≡ 37 → n < 37 → get_or rows n d ≡ g (class_at set n)
table_at {B} set f g rows n d same is size lt = by (slice_get built_ins n) refl (sym (slice_get-map f built_ins n) ∙ ap (λ (s : List B). slice_get s n) is ∙ slice_get-get_or rows n d (omega arith))
  where
    by : (o : Option ClassView) → slice_get built_ins n ≡ o → option_map f o ≡ Some (get_or rows n d) → get_or rows n d ≡ g (class_at set n)
    by None k e = absurd cc
    by (Some c) k e =
        let here : f c ≡ get_or rows n d = cc in
        let at : class_at set n ≡ Some c = ap (λ (b : Bool). cond b (slice_get built_ins n) (viewed (n - 37) (slice_get set.classes (n - 37)))) (lt-ltb n 37 lt) ∙ k in
        sym here ∙ sym (same c) ∙ ap g (sym at)

pub find_any : {A : Type 0} (p : A → Bool) (xs : List A) → is_there (find p xs) ≡ list_any p xs
find_any p [] = refl
find_any p (x ∷ xs) = by (p x) (find p xs) (list_any p xs) (find_any p xs)
  where
    by : (b : Bool) (o : Option _) (r : Bool) → is_there o ≡ r → is_there (cond b (Some x) o) ≡ (b || r)
    by true o r e = refl
    by false o r e = e
