-- Lists of types, from either end.
use Rattle.std.proofs.Common.{◌≡◌, ◌≢◌, ℕ, suc, ◌+◌, ◌-◌, ◌*◌, ◌<◌, ◌≤◌, Bool, true, false, List, [], ◌∷◌, ◌++◌, length, take, get_or, refl, sym, ap, ◌∙◌, arith, map}
use Rattle.std.specs.Prelude.{reverse, ◌&&◌, slice_set}
use Rattle.class_file.specs.declared.value.Kind.{Kind}
use Rattle.class_file.specs.declared.value.Kind.TheVariants as kinds
use Rattle.std.proofs.Math.Seq.{take-length}
use Rattle.std.proofs.lemmas.List.{reverse-append, map-append, take_more, set_past}
use Rattle.class_file.specs.declared.class.Set.{Set}
use Rattle.class_file.specs.declared.class.VType.{VType}
use Rattle.class_file.specs.declared.class.VType.TheVariants as vtype
use Rattle.class_file.specs.Members.{assignable}
use Rattle.class_file.specs.Typing.{all_assignable, width, widths, cut_long, t_stored}
use Rattle.verifier_types.specs.declared.types.VerificationType.{VerificationType}
use Rattle.verifier_types.specs.Seen.{type_of}

width_small : (t : VType) → width t ≤ 2
width_small vtype.Long = omega arith
width_small _ = omega arith

pub widths_small : (ts : List VType) → widths ts ≤ 2 * length ts
widths_small [] = omega arith
widths_small (t ∷ ts) = omega (arith, width_small t, widths_small ts)

module _ (set : Set) where
  pub unequal : (ts us : List VType) → length ts ≢ length us → all_assignable set ts us ≡ false
  unequal [] [] h = absurd (h refl)
  unequal [] (u ∷ us) h = refl
  unequal (t ∷ ts) [] h = refl
  unequal (t ∷ ts) (u ∷ us) h = by (assignable set t u) (unequal ts us (λ e. h (ap suc e)))
    where
      by : (b : Bool) {c : Bool} → c ≡ false → (b && c) ≡ false
      by true e = e
      by false e = refl

pub map_reverse : (xs : List VerificationType) → map type_of (reverse xs) ≡ reverse (map type_of xs)
map_reverse [] = refl
map_reverse (x ∷ xs) =
    ap (map type_of) (reverse-append (x ∷ []) xs) ∙ map-append type_of (reverse xs) (x ∷ []) ∙ ap (λ (s : List VType). s ++ type_of x ∷ []) (map_reverse xs)
    ∙ sym (reverse-append (type_of x ∷ []) (map type_of xs))

pub set_beyond : (xs : List VType) (i : ℕ) (y : VType) → length xs ≤ i → xs ≡ slice_set xs i y
set_beyond xs i y h = sym (set_past xs i y h)

pub stored_beyond : (k : Kind) (i : ℕ) (t : VType) (locals : List VType) → length (cut_long i locals) ≤ i → cut_long i locals ≡ t_stored k i t locals
stored_beyond kinds.Int i t locals h = set_beyond (cut_long i locals) i t h
stored_beyond kinds.Ref i t locals h = set_beyond (cut_long i locals) i t h
stored_beyond kinds.Long i t locals h =
    let once = set_beyond (cut_long i locals) i t h in
    once ∙ set_beyond (slice_set (cut_long i locals) i t) (i + 1) vtype.Top (omega (arith, ap length once))

-- the top, which stands last, and what is below
pub below_top : (xs : List VerificationType) (d : VerificationType) → 0 < length xs → map type_of (reverse xs) ≡ type_of (get_or xs (length xs - 1) d) ∷ map type_of (reverse (take (length xs - 1) xs))
below_top xs d pos =
    let n = length xs - 1 in
    let lt : n < length xs = omega arith in
    let back : length xs ≡ n + 1 = omega arith in
    let all : take (n + 1) xs ≡ xs = ap (λ (k : ℕ). take k xs) (sym back) ∙ take-length xs in
    ap (λ (s : List VerificationType). map type_of (reverse s)) (sym all ∙ take_more xs n d lt) ∙ ap (map type_of) (reverse-append (take n xs) (get_or xs n d ∷ []))
