-- Names up to a semicolon, and arrays.
use Rattle.std.proofs.Common.{◌≡◌, ◌≢◌, ℕ, zero, suc, ◌+◌, ◌-◌, ◌<◌, ◌≤◌, Bool, true, false, cond, eqb, List, [], ◌∷◌, ◌++◌, length, take, drop, get_or, Option, Some, None, refl, sym, ap, subst, ◌∙◌, nat_lt, position, arith, add-one, take_all, append_assoc, map}
use Rattle.std.specs.Prelude.{not, ◌&&◌, ◌||◌}
use Rattle.std.proofs.Common.{length-drop}
use Rattle.std.proofs.Math.Seq.{drop-cons}
use Rattle.std.proofs.lemmas.List.{nil_from_length}
use Rattle.std.specs.Option.{option_map}
use Rattle.std.specs.List.{position_or_len}
use Rattle.std.proofs.lemmas.Bool.{eqb-true, eqb-false, ltb-true, ltb-false}
use Rattle.class_file.specs.Descriptors.{is_class_name, Typed, Reference, up_to_semicolon, with_first, spelled_class, array_type, array_of, first_type, Parameters, parameters, put_first, with_parameter}
use Rattle.class_file.specs.declared.class.VType.{VType}
use Rattle.class_file.specs.Members.{type_of_field}
use Rattle.verifier_types.proofs.Elements.{neq_eqb}
use Rattle.verifier_types.specs.Calls.{name_step, NameEnds, SemicolonAt, Takes, SpelledReads, ArrayReads, Reads, read_of, prefixed}

abbrev ends : ℕ → Bool
ends u = eqb u 59

abbrev lead : List ℕ → ℕ
lead us = position_or_len ends us

lead_le : (us : List ℕ) → lead us ≤ length us
lead_le [] = omega arith
lead_le (u ∷ us) = by (eqb u 59) (lead_le us)
  where
    by : (b : Bool) → lead us ≤ length us → cond (not b) (1 + lead us) 0 ≤ suc (length us)
    by true h = omega arith
    by false h = omega arith

-- no semicolon
none_at : (us : List ℕ) → lead us ≡ length us → up_to_semicolon us ≡ None
none_at [] e = refl
none_at (u ∷ us) e = by (eqb u 59) (none_at us) e
  where
    by : (b : Bool) → (lead us ≡ length us → up_to_semicolon us ≡ None) → cond (not b) (1 + lead us) 0 ≡ suc (length us) → cond b (Some (record { units = []; rest = us })) (with_first u (up_to_semicolon us)) ≡ None
    by true more h = absurd (omega arith)
    by false more h = ap (with_first u) (more (omega arith))

some_at : (us : List ℕ) (at : ℕ) → lead us ≡ at → at < length us → NameEnds at us
some_at [] at e h = absurd (omega arith)
some_at (u ∷ us) at e h = by (eqb u 59) refl (some_at us (lead us) refl) e
  where
    by : (b : Bool) → eqb u 59 ≡ b → (lead us < length us → NameEnds (lead us) us) → cond (not b) (1 + lead us) 0 ≡ at → NameEnds at (u ∷ us)
    by true k more q =
        let is_59 : u ≡ 59 = eqb-true u 59 k in
        let here : NameEnds 0 (u ∷ us) = record {
          within = omega arith;
          is = ap (λ (b : Bool). cond b (Some (record { units = []; rest = us })) (with_first u (up_to_semicolon us))) k;
          semicolon = ap (λ (x : ℕ). x ∷ []) is_59;
        } in
        subst (λ (n : ℕ). NameEnds n (u ∷ us)) q here
    by false k more q =
        let n = lead us in
        let back : suc n ≡ at = omega arith in
        let m = more (omega arith) in
        let there : NameEnds (suc n) (u ∷ us) = record {
          within = omega (arith, m.within);
          is = ap (λ (b : Bool). cond b (Some (record { units = []; rest = us })) (with_first u (up_to_semicolon us))) k ∙ ap (with_first u) m.is;
          semicolon = ap (λ (s : List ℕ). u ∷ s) m.semicolon;
        } in
        subst (λ (n : ℕ). NameEnds n (u ∷ us)) back there

pub semicolon_at : (us : List ℕ) (o : Option ℕ) → o ≡ position ends us → SemicolonAt o us
semicolon_at us o e = by (nat_lt (lead us) (length us)) refl o e
  where
    by : (b : Bool) → nat_lt (lead us) (length us) ≡ b → (o : Option ℕ) → o ≡ cond b (Some (lead us)) None → SemicolonAt o us
    by true k None e = absurd cc
    by true k (Some at) e = let same : lead us ≡ at = cc in some_at us at same (omega (arith, ltb-true (lead us) (length us) k))
    by false k None e = none_at us (omega (arith, ltb-false (lead us) (length us) k, lead_le us))
    by false k (Some at) e = absurd cc

-- one more unit of a class's name
name_next : (b : Bool) (u : ℕ) (us : List ℕ) → is_class_name b (u ∷ us) ≡ elim (name_step b u) [ None ↦ false | Some n ↦ is_class_name n us ]
name_next b u us = by (eqb u 47) (eqb u 46) (eqb u 91) b
  where
    by : (x y z b : Bool) → cond x (b && is_class_name false us) (not (y || z) && is_class_name true us) ≡ elim (cond x (cond b (Some false) None) (cond (y || z) None (Some true))) as (λ (o : Option Bool). Bool) [ None ↦ false | Some n ↦ is_class_name n us ]
    by true y z true = refl
    by true y z false = refl
    by false true z b = refl
    by false false true b = refl
    by false false false b = refl

pub name_ends : (b : Bool) (us : List ℕ) (k : ℕ) → k < length us → None ≡ name_step b (get_or us k 0) → is_class_name b (drop k us) ≡ false
name_ends b us k lt e =
    ap (is_class_name b) (drop-cons us k 0 lt) ∙ name_next b (get_or us k 0) (drop (suc k) us) ∙ ap (λ (o : Option Bool). elim o as (λ (o : Option Bool). Bool) [ None ↦ false | Some n ↦ is_class_name n (drop (suc k) us) ]) (sym e)

pub name_goes : (b n : Bool) (us : List ℕ) (k : ℕ) → k < length us → Some n ≡ name_step b (get_or us k 0) → is_class_name b (drop k us) ≡ is_class_name n (drop (k + 1) us)
name_goes b n us k lt e =
    ap (is_class_name b) (drop-cons us k 0 lt) ∙ name_next b (get_or us k 0) (drop (suc k) us) ∙ ap (λ (o : Option Bool). elim o as (λ (o : Option Bool). Bool) [ None ↦ false | Some n ↦ is_class_name n (drop (suc k) us) ]) (sym e)
    ∙ ap (λ (j : ℕ). is_class_name n (drop j us)) (sym (add-one k))

pub name_over : (b : Bool) (us : List ℕ) (k : ℕ) → length us ≤ k → is_class_name b (drop k us) ≡ b
name_over b us k le = let empty : drop k us ≡ [] = nil_from_length (drop k us) (omega (arith, length-drop k us)) in ap (is_class_name b) empty

-- arrays: by the first unit
abbrev array_by : Bool → Bool → List ℕ → Option Typed
array_by b d us = cond b (array_of (array_type us)) (cond d (spelled_class (up_to_semicolon us)) None)

not_here : (u v : ℕ) → u ≢ v → eqb u v ≡ false
not_here u v h = neq_eqb u v h

is_here : (u v : ℕ) → u ≡ v → eqb u v ≡ true
is_here u v e = by (eqb u v) refl
  where
    by : (b : Bool) → eqb u v ≡ b → b ≡ true
    by true k = refl
    by false k = absurd (eqb-false u v k e)

pub array_spelled : (us : List ℕ) (u n : ℕ) → u ≢ 91 → u ≡ 76 → SpelledReads (Some n) us → ArrayReads (Some (n + 1)) (u ∷ us)
array_spelled us u n h k s =
    let there : Takes (array_of (array_type (u ∷ us))) 91 (suc n) (u ∷ us) = record {
      is = ap (λ (b : Bool). array_of (array_by b (eqb u 76) us)) (not_here u 91 h) ∙ ap (λ (b : Bool). array_of (array_by false b us)) (is_here u 76 k) ∙ ap array_of s.is ∙ ap (λ (x : ℕ). Some (record { type = Reference (91 ∷ x ∷ take n us); rest = drop n us })) (sym k);
      within = omega (arith, s.within);
    } in
    subst (λ (j : ℕ). Takes (array_of (array_type (u ∷ us))) 91 j (u ∷ us)) (sym (add-one n)) there

pub array_spelled_at : (xs : List ℕ) (n : ℕ) → 0 < length xs → get_or xs 0 0 ≢ 91 → get_or xs 0 0 ≡ 76 → SpelledReads (Some n) (take (length xs - 1) (drop 1 xs)) → ArrayReads (Some (n + 1)) xs
array_spelled_at [] n h a b s = absurd (omega arith)
array_spelled_at (x ∷ xs) n h a b s = array_spelled xs x n a b (subst (λ (ys : List ℕ). SpelledReads (Some n) ys) (take_all (suc (length xs) - 1) xs (omega arith)) s)

-- one more parameter
parameter_by : (front : List VType) (k : ℕ) (f : Typed) → prefixed (front ++ type_of_field f.type ∷ []) (parameters k f.rest) ≡ prefixed front (put_first f.type (parameters k f.rest))
parameter_by front k f = by (parameters k f.rest)
  where
    by : (o : Option Parameters) → prefixed (front ++ type_of_field f.type ∷ []) o ≡ prefixed front (put_first f.type o)
    by None = refl
    by (Some p) = ap (λ (ts : List VType). Some (record { types = ts; rest = p.rest })) (append_assoc front (type_of_field f.type ∷ []) (map type_of_field p.types))

parameter_first : (front : List VType) (k : ℕ) (u : ℕ) (us : List ℕ) (r : Reads) (o : Option Typed) → u ≢ 41 → first_type (u ∷ us) ≡ o → option_map read_of o ≡ Some r → prefixed (front ++ r.type ∷ []) (parameters k r.rest) ≡ prefixed front (parameters (suc k) (u ∷ us))
parameter_first front k u us r None h e q = absurd cc
parameter_first front k u us r (Some f) h e q =
    let same : read_of f ≡ r = cc in
    ap (λ (x : Reads). prefixed (front ++ x.type ∷ []) (parameters k x.rest)) (sym same) ∙ parameter_by front k f
    ∙ sym (ap (λ (b : Bool). prefixed front (cond b (Some (record { types = []; rest = us })) (with_parameter (first_type (u ∷ us)) (parameters k)))) (neq_eqb u 41 h) ∙ ap (λ (x : Option Typed). prefixed front (with_parameter x (parameters k))) e)

pub parameter_read : (front : List VType) (left : ℕ) (xs : List ℕ) (r : Reads) → 0 < length xs → get_or xs 0 0 ≢ 41 → left ≢ 0 → Some r ≡ option_map read_of (first_type xs) → prefixed (front ++ r.type ∷ []) (parameters (left - 1) r.rest) ≡ prefixed front (parameters left xs)
parameter_read front left [] r h a b e = absurd (omega arith)
parameter_read front zero (x ∷ xs) r h a b e = absurd (b refl)
parameter_read front (suc k) (x ∷ xs) r h a b e =
    let back : suc k - 1 ≡ k = omega arith in
    ap (λ (n : ℕ). prefixed (front ++ r.type ∷ []) (parameters n r.rest)) back ∙ parameter_first front k x xs r (first_type (x ∷ xs)) a refl (sym e)
