-- A walk over a tree: what it knows, and what it passes step by step.
use Rattle.std.proofs.Common.{append-nil, append_assoc, length-drop, ◌≡◌, ℕ, zero, suc, ◌+◌, ◌-◌, ◌<◌, List, [], ◌∷◌, ◌++◌, length, map, drop, take, reverse, get_or, Bool, true, false, refl, sym, ap, ◌∙◌, arith}
use Rattle.std.specs.Prelude.{◌&&◌, ◌≤◌, nat_eq, cond, slice_set}
use Rattle.std.proofs.lemmas.Bool.{eqb-true, eqb-false}
use Rattle.std.proofs.lemmas.List.{get_or-set_same, get_or-set_other, take-append-drop, drop_at, drop-map, drop_more, reverse-reverse, length-map, length-reverse, reverse-append, map_push}
use std.Path.{fun_ext}
use Rattle.kc_core.specs.Formed.{Assigned, marked}
use Rattle.class_file.specs.declared.class.VType.{VType}
use Rattle.stack_code.specs.declared.frames.Operand.{Operand}
use Rattle.stack_code.specs.Frames.{both}
use Rattle.stack_code.specs.Walking.{operand_type, set_of, met}

-- ---- lists

pub next_item : {A : Type 0} (xs : List A) (i : ℕ) (x : A) → i < length xs → x ≡ get_or xs i x → drop i xs ≡ x ∷ drop (i + 1) xs
next_item xs i x lt h = drop_more xs i x lt ∙ ap (λ w. w ∷ drop (i + 1) xs) (sym h)

-- a list grows by the first of what is left
pub grown : {B : Type 0} (done new : List B) (b : B) (left rest total : List B) → new ≡ done ++ b ∷ [] → left ≡ b ∷ rest → done ++ left ≡ total → new ++ rest ≡ total
grown done new b left rest total e l h = ap (λ w. w ++ rest) e ∙ append_assoc done (b ∷ []) rest ∙ ap (λ w. done ++ w) (sym l) ∙ h

-- nothing is left
pub ended : {B : Type 0} (done left total : List B) → left ≡ [] → done ++ left ≡ total → done ≡ total
ended done left total l h = sym (append-nil done) ∙ ap (λ w. done ++ w) (sym l) ∙ h

truncated : {A : Type 0} (xs : List A) (n : ℕ) → reverse (take n xs) ≡ drop (length xs - n) (reverse xs)
truncated xs n =
    sym (ap (λ w. drop (length xs - n) (reverse w)) (sym (take-append-drop n xs))
    ∙ ap (drop (length xs - n)) (reverse-append (take n xs) (drop n xs))
    ∙ drop_at (reverse (drop n xs)) (reverse (take n xs)) (length xs - n) (length-reverse (drop n xs) ∙ length-drop n xs))

pub restored : (s : List Operand) (n : ℕ) → map operand_type (reverse (take n s)) ≡ drop (length (map operand_type (reverse s)) - n) (map operand_type (reverse s))
restored s n =
    ap (map operand_type) (truncated s n)
    ∙ sym (drop-map operand_type (length s - n) (reverse s))
    ∙ ap (λ (m : ℕ). drop (m - n) (map operand_type (reverse s))) (sym (length-map (reverse s) operand_type ∙ length-reverse s))

last_off : (xs : List VType) (n : ℕ) → length xs ≡ n → drop (length xs - (n - 1)) xs ≡ drop 1 xs
last_off [] n e = let z : 0 - (n - 1) ≡ 0 = omega arith in ap (λ (m : ℕ). let none : List VType = [] in drop m none) z
last_off (x ∷ xs) n e = let z : length (x ∷ xs) - (n - 1) ≡ 1 = omega (arith, e) in ap (λ (m : ℕ). drop m (x ∷ xs)) z

pub one_off : (s : List Operand) → map operand_type (reverse (take (length s - 1) s)) ≡ drop 1 (map operand_type (reverse s))
one_off s = restored s (length s - 1) ∙ last_off (map operand_type (reverse s)) (length s) (length-map (reverse s) operand_type ∙ length-reverse s)

map_reversed : {A B : Type 0} (f : A → B) (xs : List A) → map f (reverse xs) ≡ reverse (map f xs)
map_reversed f [] = refl
map_reversed f (x ∷ xs) =
    ap (map f) (reverse-append (x ∷ []) xs) ∙ map_push f (reverse xs) x ∙ ap (λ w. w ++ f x ∷ []) (map_reversed f xs) ∙ sym (reverse-append (f x ∷ []) (map f xs))

-- a frame's stack has the top last
pub upright : (s : List Operand) → reverse (map operand_type (reverse s)) ≡ map operand_type s
upright s = ap reverse (map_reversed operand_type s) ∙ reverse-reverse (map operand_type s)

-- ---- sets of locals

met_at : (flags : List Bool) (n : ℕ) (b : Assigned) (x : ℕ) → get_or (met flags n b) x false ≡ (get_or flags x false && b (n + x))
met_at [] n b x = refl
met_at (f ∷ flags) n b zero = ap (λ m. f && b m) (let z : n ≡ n + 0 = omega arith in z)
met_at (f ∷ flags) n b (suc x) = met_at flags (n + 1) b x ∙ ap (λ m. get_or flags x false && b m) (let z : n + 1 + x ≡ n + suc x = omega arith in z)

pub met_is : (flags : List Bool) (b : Assigned) → set_of (met flags 0 b) ≡ both (set_of flags) b
met_is flags b = fun_ext (λ x. met_at flags 0 b x ∙ ap (λ m. get_or flags x false && b m) (let z : 0 + x ≡ x = omega arith in z))

pub met_both : (flags one : List Bool) (b : Assigned) → flags ≡ met one 0 b → set_of flags ≡ both (set_of one) b
met_both flags one b e = ap set_of e ∙ met_is one b

-- a flag that is not set says what a missing one says
pub unset_behind : (flags : List Bool) → set_of (flags ++ false ∷ []) ≡ set_of flags
unset_behind flags = fun_ext (go flags)
  where
    go : (flags : List Bool) (x : ℕ) → get_or (flags ++ false ∷ []) x false ≡ get_or flags x false
    go [] zero = refl
    go [] (suc x) = refl
    go (f ∷ flags) zero = refl
    go (f ∷ flags) (suc x) = go flags x

marked_at : (flags : List Bool) (at : ℕ) (a : Assigned) (new : List Bool) → set_of flags ≡ a → set_of new at ≡ true → ((x : ℕ) → (x ≡ at → ⊥) → set_of new x ≡ set_of flags x) → set_of new ≡ marked at true a
marked_at flags at a new is there others = fun_ext (λ x. by_place x (nat_eq x at) refl)
  where
    by_place : (x : ℕ) (b : Bool) → nat_eq x at ≡ b → set_of new x ≡ cond (nat_eq x at) true (a x)
    by_place x true e = ap (set_of new) (eqb-true x at e) ∙ there ∙ sym (ap (λ b. cond b true (a x)) e)
    by_place x false e = others x (eqb-false x at e) ∙ ap (λ f. f x) is ∙ sym (ap (λ b. cond b true (a x)) e)

-- a flag among the others is set
pub set_within : (flags : List Bool) (at : ℕ) (a : Assigned) → set_of flags ≡ a → at < length flags → set_of (slice_set flags at true) ≡ marked at true a
set_within flags at a is lt = marked_at flags at a (slice_set flags at true) is (get_or-set_same flags at true false lt) (λ x n. get_or-set_other flags at x true false n)

-- a flag behind the others is set
pub set_behind : (flags : List Bool) (at : ℕ) (a : Assigned) → set_of flags ≡ a → at ≤ length flags → length flags ≤ at → set_of (flags ++ true ∷ []) ≡ marked at true a
set_behind flags at a is le ge =
    marked_at flags at a (flags ++ true ∷ []) is (ap (set_of (flags ++ true ∷ [])) (let e : at ≡ length flags = omega (arith, le, ge) in e) ∙ there flags) (λ x n. elsewhere flags x (λ e. n (omega (arith, e, le, ge))))
  where
    there : (flags : List Bool) → get_or (flags ++ true ∷ []) (length flags) false ≡ true
    there [] = refl
    there (f ∷ flags) = there flags

    elsewhere : (flags : List Bool) (x : ℕ) → (x ≡ length flags → ⊥) → get_or (flags ++ true ∷ []) x false ≡ get_or flags x false
    elsewhere [] zero h = absurd (h refl)
    elsewhere [] (suc x) h = refl
    elsewhere (f ∷ flags) zero h = refl
    elsewhere (f ∷ flags) (suc x) h = elsewhere flags x (λ e. h (ap suc e))
