-- What is behind the types of a descriptor.
use Rattle.std.proofs.Common.{◌≡◌, ℕ, zero, suc, Bool, true, false, cond, eqb, List, [], ◌∷◌, ◌++◌, length, get_or, take, drop, take_all, ◌≤◌, ◌-◌, arith, Option, Some, None, refl, sym, ap, subst, ◌∙◌}
use Rattle.std.specs.Prelude.{not, ◌&&◌, ◌||◌, is_some}
use Rattle.class_file.specs.Descriptors.{Name, FieldType, IntType, CharType, BooleanType, LongType, Reference, Typed, typed, Parameters, Signature, is_class_name, up_to_semicolon, with_first, class_type, spelled_class, array_type, array_of, first_type, alone, field_type, put_first, with_parameter, parameters, with_result, result_of, behind_parameters}
use Rattle.class_file.specs.Pools.{is_text}
use Rattle.std.proofs.lemmas.Bool.{eqb-true}
use Rattle.class_file.specs.DescriptorFaults.{behind_type, goes_on, is_any_method_descriptor, is_behind_open}
use Rattle.class_file.specs.ClassBytes.{is_field_descriptor, is_method_descriptor}
use Rattle.class_reader.specs.declared.descriptors.Types.{Types}
use Rattle.class_reader.specs.declared.descriptors.Types.TheVariants as types
use Rattle.class_reader.specs.Descriptors.{name_step, name_behind, elements_behind, rest_of, behind_first, is_nothing, is_whole, is_result, is_open, is_method}

abbrev step_by : Bool → Bool → Bool → Bool → Option Bool
step_by x y z b = cond x (cond b (Some false) None) (cond (y || z) None (Some true))

class_name_goes : (begun next : Bool) (u : ℕ) (us : List ℕ) → name_step begun u ≡ Some next → is_class_name begun (u ∷ us) ≡ is_class_name next us
class_name_goes begun next u us e = by (eqb u 47) (eqb u 46) (eqb u 91) begun next e
  where
    by : (x y z b n : Bool) → step_by x y z b ≡ Some n → cond x (b && is_class_name false us) (not (y || z) && is_class_name true us) ≡ is_class_name n us
    by true y z true true e = absurd cc
    by true y z true false e = refl
    by true y z false n e = absurd cc
    by false true z b n e = absurd cc
    by false false true b n e = absurd cc
    by false false false b true e = refl
    by false false false b false e = absurd cc

class_name_stops : (begun : Bool) (u : ℕ) (us : List ℕ) → name_step begun u ≡ None → is_class_name begun (u ∷ us) ≡ false
class_name_stops begun u us e = by (eqb u 47) (eqb u 46) (eqb u 91) begun e
  where
    by : (x y z b : Bool) → step_by x y z b ≡ None → cond x (b && is_class_name false us) (not (y || z) && is_class_name true us) ≡ false
    by true y z true e = absurd cc
    by true y z false e = refl
    by false true z b e = refl
    by false false true b e = refl
    by false false false b e = absurd cc

abbrev found_by : Bool → ℕ → List ℕ → Option Name → Option Name
found_by b u us more = cond b (Some (record { units = []; rest = us })) (with_first u more)

pub name_goes : (begun next : Bool) (u : ℕ) (us : List ℕ) → eqb u 59 ≡ false → name_step begun u ≡ Some next → name_behind begun (up_to_semicolon (u ∷ us)) ≡ name_behind next (up_to_semicolon us)
name_goes begun next u us other e = ap (λ (b : Bool). name_behind begun (found_by b u us (up_to_semicolon us))) other ∙ by (up_to_semicolon us)
  where
    by : (o : Option Name) → name_behind begun (with_first u o) ≡ name_behind next o
    by None = refl
    by (Some n) = rw (class_name_goes begun next u n.units e) refl

pub name_stops : (begun : Bool) (u : ℕ) (us : List ℕ) → eqb u 59 ≡ false → name_step begun u ≡ None → name_behind begun (up_to_semicolon (u ∷ us)) ≡ None
name_stops begun u us other e = ap (λ (b : Bool). name_behind begun (found_by b u us (up_to_semicolon us))) other ∙ by (up_to_semicolon us)
  where
    by : (o : Option Name) → name_behind begun (with_first u o) ≡ None
    by None = refl
    by (Some n) = rw (class_name_stops begun u n.units e) refl

-- ---- types

pub class_rest : (o : Option Name) → rest_of (class_type o) ≡ name_behind false o
class_rest None = refl
class_rest (Some n) = by (is_class_name false n.units)
  where
    by : (b : Bool) → rest_of (cond b (typed (Reference n.units) n.rest) None) ≡ cond b (Some n.rest) None
    by true = refl
    by false = refl

pub spelled_rest : (o : Option Name) → rest_of (spelled_class o) ≡ name_behind false o
spelled_rest None = refl
spelled_rest (Some n) = by (is_class_name false n.units)
  where
    by : (b : Bool) → rest_of (cond b (typed (Reference (76 ∷ n.units ++ 59 ∷ [])) n.rest) None) ≡ cond b (Some n.rest) None
    by true = refl
    by false = refl

elements : (o : Option Typed) → rest_of (array_of (array_of o)) ≡ rest_of (array_of o)
elements None = refl
elements (Some t) = by t.type
  where
    by : (k : FieldType) → rest_of (array_of (array_of (typed k t.rest))) ≡ rest_of (array_of (typed k t.rest))
    by IntType = refl
    by CharType = refl
    by BooleanType = refl
    by LongType = refl
    by (Reference name) = refl

spelled_elements : (o : Option Name) → rest_of (array_of (spelled_class o)) ≡ rest_of (spelled_class o)
spelled_elements None = refl
spelled_elements (Some n) = by (is_class_name false n.units)
  where
    by : (b : Bool) → rest_of (array_of (cond b (typed (Reference (76 ∷ n.units ++ 59 ∷ [])) n.rest) None)) ≡ rest_of (cond b (typed (Reference (76 ∷ n.units ++ 59 ∷ [])) n.rest) None)
    by true = refl
    by false = refl

-- one `[` more leaves the same behind it
pub array_rest : (us : List ℕ) → rest_of (array_of (array_type us)) ≡ rest_of (array_type us)
array_rest [] = refl
array_rest (u ∷ us) = by (eqb u 91) (eqb u 76)
  where
    by : (x y : Bool) → rest_of (array_of (cond x (array_of (array_type us)) (cond y (spelled_class (up_to_semicolon us)) None))) ≡ rest_of (cond x (array_of (array_type us)) (cond y (spelled_class (up_to_semicolon us)) None))
    by true y = elements (array_type us)
    by false true = spelled_elements (up_to_semicolon us)
    by false false = refl

pub elements_are : (us : List ℕ) → elements_behind us ≡ rest_of (array_type us)
elements_are [] = refl
elements_are (u ∷ us) = by (eqb u 91) (eqb u 76) (elements_are us)
  where
    by : (x y : Bool) → elements_behind us ≡ rest_of (array_type us) → cond x (elements_behind us) (cond y (name_behind false (up_to_semicolon us)) None) ≡ rest_of (cond x (array_of (array_type us)) (cond y (spelled_class (up_to_semicolon us)) None))
    by true y e = e ∙ sym (array_rest us)
    by false true e = sym (spelled_rest (up_to_semicolon us))
    by false false e = refl

pub array_elements : (us : List ℕ) → elements_behind us ≡ rest_of (array_of (array_type us))
array_elements us = elements_are us ∙ sym (array_rest us)

-- ---- descriptors

abbrev no_more : List ℕ → Option Parameters
no_more us = Some (record { types = []; rest = us })

pub field_is : (us : List ℕ) → is_whole types.Profile us ≡ is_field_descriptor us
field_is us = by (first_type us)
  where
    by : (o : Option Typed) → is_nothing (rest_of o) ≡ is_some (alone o)
    by None = refl
    by (Some t) = ends t.type t.rest
      where
        ends : (k : FieldType) (rest : List ℕ) → is_nothing (Some rest) ≡ is_some (alone (typed k rest))
        ends k [] = refl
        ends k (v ∷ vs) = refl

pub any_open : (n : ℕ) (us : List ℕ) → is_open types.Standard n us ≡ is_behind_open n us
any_open n [] = refl
any_open zero (u ∷ us) = refl
any_open (suc n) (u ∷ us) = by (any_open n) (eqb u 41) (behind_type (u ∷ us))
  where
    by : ((vs : List ℕ) → is_open types.Standard n vs ≡ is_behind_open n vs) → (b : Bool) (o : Option (List ℕ)) → cond b (is_result types.Standard us) (goes_on o (is_open types.Standard n)) ≡ cond b (is_result types.Standard us) (goes_on o (is_behind_open n))
    by more true o = refl
    by more false None = refl
    by more false (Some rest) = more rest

pub any_method : (us : List ℕ) → is_method types.Standard us ≡ is_any_method_descriptor us
any_method [] = refl
any_method (u ∷ us) = ap (λ (b : Bool). eqb u 40 && b) (any_open (length us) us)

v_alone : (params : List FieldType) (us : List ℕ) → is_some (result_of params (86 ∷ us)) ≡ is_result types.Profile (86 ∷ us)
v_alone params [] = refl
v_alone params (v ∷ vs) = refl

second_some : (b : Bool) (x y : Option Signature) → b ≡ false → is_some (cond b x y) ≡ is_some y
second_some true x y e = absurd cc
second_some false x y e = refl

with_some : (params : List FieldType) (o : Option FieldType) → is_some (with_result params o) ≡ is_some o
with_some params None = refl
with_some params (Some t) = refl

result_at : (params : List FieldType) (u : ℕ) (us : List ℕ) (b : Bool) → eqb u 86 ≡ b → is_some (result_of params (u ∷ us)) ≡ is_result types.Profile (u ∷ us)
result_at params u us true k = subst (λ (v : ℕ). is_some (result_of params (v ∷ us)) ≡ is_result types.Profile (v ∷ us)) (sym (eqb-true u 86 k)) (v_alone params us)
result_at params u us false k =
    second_some (eqb u 86) _ (with_result params (field_type (u ∷ us))) k
    ∙ with_some params (field_type (u ∷ us))
    ∙ sym (field_is (u ∷ us))
    ∙ sym (ap (λ (b : Bool). (b && is_text us []) || is_whole types.Profile (u ∷ us)) k)

-- whether a result is one does not hang on the parameters
result_is : (params : List FieldType) (us : List ℕ) → is_some (result_of params us) ≡ is_result types.Profile us
result_is params [] = refl
result_is params (u ∷ us) = result_at params u us (eqb u 86) refl

put_some : (t : FieldType) (o : Option Parameters) → is_some (behind_parameters (put_first t o)) ≡ is_some (behind_parameters o)
put_some t None = refl
put_some t (Some p) = result_is (t ∷ p.types) p.rest ∙ sym (result_is p.types p.rest)

behind_is : (n : ℕ) (us : List ℕ) → is_some (behind_parameters (parameters n us)) ≡ is_open types.Profile n us
behind_is zero [] = refl
behind_is (suc n) [] = refl
behind_is zero (u ∷ us) = by (eqb u 41)
  where
    by : (b : Bool) → is_some (behind_parameters (cond b (no_more us) None)) ≡ (b && is_result types.Profile us)
    by true = result_is [] us
    by false = refl
behind_is (suc n) (u ∷ us) = by (behind_is n) (eqb u 41) (first_type (u ∷ us))
  where
    by : ((vs : List ℕ) → is_some (behind_parameters (parameters n vs)) ≡ is_open types.Profile n vs) → (b : Bool) (o : Option Typed)
        → is_some (behind_parameters (cond b (no_more us) (with_parameter o (parameters n)))) ≡ cond b (is_result types.Profile us) (goes_on (rest_of o) (is_open types.Profile n))
    by more true o = result_is [] us
    by more false None = refl
    by more false (Some t) = put_some t.type (parameters n t.rest) ∙ more t.rest

pub method_is : (us : List ℕ) → is_method types.Profile us ≡ is_method_descriptor us
method_is [] = refl
method_is (u ∷ us) = by (eqb u 40) (behind_is (length us) us)
  where
    by : (b : Bool) → is_some (behind_parameters (parameters (length us) us)) ≡ is_open types.Profile (length us) us
        → (b && is_open types.Profile (length us) us) ≡ is_some (cond b (behind_parameters (parameters (length us) us)) None)
    by true e = sym e
    by false e = refl

pub open_step : (t : Types) (m n : ℕ) (us next : List ℕ) → m ≡ suc n → 1 ≤ length us → (get_or us 0 0 ≡ 41 → ⊥) → Some next ≡ behind_first t us → is_open t n next ≡ is_open t m us
open_step t m n [] next is le other h = absurd (omega arith)
open_step t m n (u ∷ us) next is le other h = by (eqb u 41) refl
  where
    by : (b : Bool) → eqb u 41 ≡ b → is_open t n next ≡ is_open t m (u ∷ us)
    by true k = absurd (other (eqb-true u 41 k))
    by false k =
        ap (λ (o : Option (List ℕ)). goes_on o (is_open t n)) h
        ∙ sym (ap (λ (b : Bool). cond b (is_result t us) (goes_on (behind_first t (u ∷ us)) (is_open t n))) k)
        ∙ sym (ap (λ (k : ℕ). is_open t k (u ∷ us)) is)

pub in_array : (us : List ℕ) → 1 ≤ length us → get_or us 0 0 ≡ 91 → elements_behind (take (length us - 1) (drop 1 us)) ≡ rest_of (first_type us)
in_array [] le e = absurd (omega arith)
in_array (u ∷ us) le e =
    let all_left : take (length us) us ≡ us = take_all (length us) us (omega arith) in
    let count : length (u ∷ us) - 1 ≡ length us = omega arith in
    let same : take (length (u ∷ us) - 1) us ≡ take (length us) us = ap (λ (n : ℕ). take n us) count in
    ap elements_behind (same ∙ all_left) ∙ array_elements us ∙ ap (λ (v : ℕ). rest_of (first_type (v ∷ us))) (sym e)
