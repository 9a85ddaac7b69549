-- A descriptor of the profile is one of the standard's, and none is both a field's and a method's.
use Rattle.std.proofs.Common.{◌≡◌, ℕ, zero, suc, Bool, true, false, cond, eqb, List, [], ◌∷◌, ◌++◌, length, Option, Some, None, refl, ap, ◌∙◌, inl, inr}
use Rattle.std.specs.Prelude.{◌||◌, ◌&&◌, codes, is_some}
use Rattle.std.proofs.lemmas.Bool.{eqb-true, cases_Bool}
use Rattle.class_spelling.proofs.Texts.{or_true}
use Rattle.class_file.specs.Pools.{is_text}
use Rattle.class_file.specs.Descriptors.{FieldType, IntType, CharType, BooleanType, LongType, Reference, Signature, Name, Typed, Parameters, up_to_semicolon, is_class_name, class_type, array_of, array_type, spelled_class, first_type, field_type, alone, parameters, with_parameter, put_first, result_of, with_result, behind_parameters, typed}
use Rattle.class_file.specs.ClassBytes.{is_field_descriptor, is_method_descriptor}
use Rattle.class_file.specs.DescriptorFaults.{unless, behind_type, is_any_field_descriptor, is_result, goes_on, is_behind_open, is_any_method_descriptor}

-- ---- types

-- `L`, a class's name and `;`
class_behind : (us : List ℕ) (t : Typed) → class_type (up_to_semicolon us) ≡ Some t → behind_type (76 ∷ us) ≡ Some t.rest
class_behind us t e = by (up_to_semicolon us) refl e
  where
    named : (n : Name) (b : Bool) → cond b (typed (Reference n.units) n.rest) None ≡ Some t → cond b (Some n.rest) None ≡ Some t.rest
    named n true e = cc
    named n false e = absurd cc

    by : (o : Option Name) → up_to_semicolon us ≡ o → class_type o ≡ Some t → behind_type (76 ∷ us) ≡ Some t.rest
    by None f e = absurd cc
    by (Some n) f e = rw f (named n (is_class_name false n.units) e)

spelled_behind : (us : List ℕ) (t : Typed) → spelled_class (up_to_semicolon us) ≡ Some t → behind_type (76 ∷ us) ≡ Some t.rest
spelled_behind us t e = by (up_to_semicolon us) refl e
  where
    named : (n : Name) (b : Bool) (name : List ℕ) → cond b (typed (Reference name) n.rest) None ≡ Some t → cond b (Some n.rest) None ≡ Some t.rest
    named n true name e = cc
    named n false name e = absurd cc

    by : (o : Option Name) → up_to_semicolon us ≡ o → spelled_class o ≡ Some t → behind_type (76 ∷ us) ≡ Some t.rest
    by None f e = absurd cc
    by (Some n) f e = rw f (named n (is_class_name false n.units) (76 ∷ n.units ++ 59 ∷ []) e)

array_rest : (o : Option Typed) (t : Typed) → array_of o ≡ Some t → (s : Typed) × (o ≡ Some s) × (s.rest ≡ t.rest)
array_rest None t e = absurd cc
array_rest (Some s) t e = (s, refl, by s.type e)
  where
    by : (f : FieldType) → elim f [ Reference name ↦ typed (Reference (91 ∷ name)) s.rest | _ ↦ None ] ≡ Some t → s.rest ≡ t.rest
    by (Reference name) e = cc
    by IntType e = absurd cc
    by CharType e = absurd cc
    by BooleanType e = absurd cc
    by LongType e = absurd cc

array_behind : (us : List ℕ) (t : Typed) → array_type us ≡ Some t → behind_type us ≡ Some t.rest
array_behind [] t e = absurd cc
array_behind (u ∷ us) t e = by (eqb u 91) refl (eqb u 76) refl e (array_behind us)
  where
    by : (a : Bool) → eqb u 91 ≡ a → (b : Bool) → eqb u 76 ≡ b → cond a (array_of (array_type us)) (cond b (spelled_class (up_to_semicolon us)) None) ≡ Some t → ((s : Typed) → array_type us ≡ Some s → behind_type us ≡ Some s.rest) → behind_type (u ∷ us) ≡ Some t.rest
    by true f b g e more = let r = array_rest (array_type us) t e in ap (λ (v : ℕ). behind_type (v ∷ us)) (eqb-true u 91 f) ∙ more r.0 r.1 ∙ ap Some r.2
    by false f true g e more = ap (λ (v : ℕ). behind_type (v ∷ us)) (eqb-true u 76 g) ∙ spelled_behind us t e
    by false f false g e more = absurd cc

first_behind : (us : List ℕ) (t : Typed) → first_type us ≡ Some t → behind_type us ≡ Some t.rest
first_behind [] t e = absurd cc
first_behind (u ∷ us) t e = by (eqb u 73) refl (eqb u 67) refl (eqb u 90) refl (eqb u 74) refl (eqb u 76) refl (eqb u 91) refl e
  where
    at : (n : ℕ) → eqb u n ≡ true → behind_type (u ∷ us) ≡ behind_type (n ∷ us)
    at n f = ap (λ (v : ℕ). behind_type (v ∷ us)) (eqb-true u n f)

    by : (a : Bool) → eqb u 73 ≡ a → (b : Bool) → eqb u 67 ≡ b → (c : Bool) → eqb u 90 ≡ c → (d : Bool) → eqb u 74 ≡ d → (k : Bool) → eqb u 76 ≡ k → (l : Bool) → eqb u 91 ≡ l
        → cond a (typed IntType us) (cond b (typed CharType us) (cond c (typed BooleanType us) (cond d (typed LongType us) (cond k (class_type (up_to_semicolon us)) (cond l (array_of (array_type us)) None))))) ≡ Some t → behind_type (u ∷ us) ≡ Some t.rest
    by true f b f1 c f2 d f3 k f4 l f5 e = at 73 f ∙ cc
    by false f true f1 c f2 d f3 k f4 l f5 e = at 67 f1 ∙ cc
    by false f false f1 true f2 d f3 k f4 l f5 e = at 90 f2 ∙ cc
    by false f false f1 false f2 true f3 k f4 l f5 e = at 74 f3 ∙ cc
    by false f false f1 false f2 false f3 true f4 l f5 e = at 76 f4 ∙ class_behind us t e
    by false f false f1 false f2 false f3 false f4 true f5 e = let r = array_rest (array_type us) t e in at 91 f5 ∙ array_behind us r.0 r.1 ∙ ap Some r.2
    by false f false f1 false f2 false f3 false f4 false f5 e = absurd cc

-- ---- fields

pub some_value : {A : Type 0} (o : Option A) → is_some o ≡ true → (x : A) × (o ≡ Some x)
some_value (Some x) e = (x, refl)
some_value None e = absurd cc

alone_is : (o : Option Typed) (f : FieldType) → alone o ≡ Some f → (t : Typed) × (o ≡ Some t) × (t.rest ≡ [])
alone_is None f e = absurd cc
alone_is (Some t) f e = (t, refl, by t.rest e)
  where
    by : (r : List ℕ) → elim r [ [] ↦ Some t.type | u ∷ us ↦ None ] ≡ Some f → r ≡ []
    by [] e = refl
    by (u ∷ us) e = absurd cc

field_in_standard : (units : List ℕ) (f : FieldType) → field_type units ≡ Some f → is_any_field_descriptor units ≡ true
field_in_standard units f e = let a = alone_is (first_type units) f e in rw (first_behind units a.0 a.1 ∙ ap Some a.2) refl

pub field_is_any : (t : List ℕ) → is_field_descriptor t ≡ true → is_any_field_descriptor t ≡ true
field_is_any t e = let f = some_value (field_type t) e in field_in_standard t f.0 f.1

-- ---- methods

result_in_standard : (params : List FieldType) (rest : List ℕ) (s : Signature) → result_of params rest ≡ Some s → is_result rest ≡ true
result_in_standard params [] s e = absurd cc
result_in_standard params (u ∷ us) s e = by (eqb u 86) refl us refl e
  where
    of_type : (o : Option FieldType) → with_result params o ≡ Some s → (f : FieldType) × (o ≡ Some f)
    of_type None e = absurd cc
    of_type (Some f) e = (f, refl)

    by : (b : Bool) → eqb u 86 ≡ b → (vs : List ℕ) → us ≡ vs → cond b (elim vs [ [] ↦ Some (record { params = params; result = None }) | v ∷ vs ↦ None ]) (with_result params (field_type (u ∷ us))) ≡ Some s → is_result (u ∷ us) ≡ true
    by true f [] g e = ap (λ (v : ℕ). is_result (v ∷ us)) (eqb-true u 86 f) ∙ ap (λ (w : List ℕ). is_result (86 ∷ w)) g
    by true f (v ∷ vs) g e = absurd cc
    by false f vs g e = let t = of_type (field_type (u ∷ us)) e in ap (λ (b : Bool). is_text (u ∷ us) (codes "V") || b) (field_in_standard (u ∷ us) t.0 t.1) ∙ or_true (is_text (u ∷ us) (codes "V"))

parameters_in_standard : (n : ℕ) (us : List ℕ) (p : Parameters) → parameters n us ≡ Some p → is_result p.rest ≡ true → is_behind_open n us ≡ true
parameters_in_standard n [] p e r = absurd cc
parameters_in_standard zero (u ∷ us) p e r = by (eqb u 41) e
  where
    by : (b : Bool) → cond b (Some (record { types = []; rest = us })) None ≡ Some p → (b && is_result us) ≡ true
    by true e = let f : us ≡ p.rest = cc in ap is_result f ∙ r
    by false e = absurd cc
parameters_in_standard (suc n) (u ∷ us) p e r = by (eqb u 41) e (parameters_in_standard n)
  where
    put : (f : FieldType) (o : Option Parameters) → put_first f o ≡ Some p → (q : Parameters) × (o ≡ Some q) × (q.rest ≡ p.rest)
    put f None e = absurd cc
    put f (Some q) e = (q, refl, cc)

    first : (o : Option Typed) → with_parameter o (parameters n) ≡ Some p → (t : Typed) × (o ≡ Some t) × ((q : Parameters) × (parameters n t.rest ≡ Some q) × (q.rest ≡ p.rest))
    first None e = absurd cc
    first (Some t) e = (t, refl, put t.type (parameters n t.rest) e)

    by : (b : Bool) → cond b (Some (record { types = []; rest = us })) (with_parameter (first_type (u ∷ us)) (parameters n)) ≡ Some p
        → ((vs : List ℕ) (q : Parameters) → parameters n vs ≡ Some q → is_result q.rest ≡ true → is_behind_open n vs ≡ true) → cond b (is_result us) (goes_on (behind_type (u ∷ us)) (is_behind_open n)) ≡ true
    by true e more = let f : us ≡ p.rest = cc in ap is_result f ∙ r
    by false e more =
        let t = first (first_type (u ∷ us)) e in let q = t.2 in
        ap (λ (o : Option (List ℕ)). goes_on o (is_behind_open n)) (first_behind (u ∷ us) t.0 t.1) ∙ more t.0.rest q.0 q.1 (ap is_result q.2 ∙ r)

pub method_is_any : (t : List ℕ) → is_method_descriptor t ≡ true → is_any_method_descriptor t ≡ true
method_is_any [] e = absurd cc
method_is_any (u ∷ us) e = by (eqb u 40) e
  where
    signed : (o : Option Parameters) → is_some (behind_parameters o) ≡ true → (p : Parameters) × (o ≡ Some p) × (is_result p.rest ≡ true)
    signed None e = absurd cc
    signed (Some p) e = let s = some_value (result_of p.types p.rest) e in (p, refl, result_in_standard p.types p.rest s.0 s.1)

    by : (b : Bool) → is_some (cond b (behind_parameters (parameters (length us) us)) None) ≡ true → (b && is_behind_open (length us) us) ≡ true
    by true e = let s = signed (parameters (length us) us) e in parameters_in_standard (length us) us s.0 s.1 s.2
    by false e = absurd cc

pub in_profile : (b c : Bool) → unless b c ≡ None → b ≡ true
in_profile true c e = refl
in_profile false true e = absurd cc
in_profile false false e = absurd cc

-- ---- the two kinds

pub no_method : (t : List ℕ) → is_field_descriptor t ≡ true → is_method_descriptor t ≡ false
no_method [] e = refl
no_method (u ∷ t) e = elim (cases_Bool (eqb u 40)) [
  | inl opens ↦ let f = ap (λ (v : ℕ). is_field_descriptor (v ∷ t)) (eqb-true u 40 opens) in absurd cc
  | inr other ↦ rw other refl
]

pub no_any_method : (t : List ℕ) → is_field_descriptor t ≡ true → is_any_method_descriptor t ≡ false
no_any_method [] e = refl
no_any_method (u ∷ t) e = elim (cases_Bool (eqb u 40)) [
  | inl opens ↦ let f = ap (λ (v : ℕ). is_field_descriptor (v ∷ t)) (eqb-true u 40 opens) in absurd cc
  | inr other ↦ rw other refl
]

pub no_field : (t : List ℕ) → is_method_descriptor t ≡ true → is_field_descriptor t ≡ false
no_field [] e = refl
no_field (u ∷ t) e = elim (cases_Bool (eqb u 40)) [
  | inl opens ↦ ap (λ (v : ℕ). is_field_descriptor (v ∷ t)) (eqb-true u 40 opens)
  | inr other ↦ let f : is_method_descriptor (u ∷ t) ≡ false = rw other refl in absurd cc
]

pub no_any_field : (t : List ℕ) → is_method_descriptor t ≡ true → is_any_field_descriptor t ≡ false
no_any_field [] e = refl
no_any_field (u ∷ t) e = elim (cases_Bool (eqb u 40)) [
  | inl opens ↦ ap (λ (v : ℕ). is_any_field_descriptor (v ∷ t)) (eqb-true u 40 opens)
  | inr other ↦ let f : is_method_descriptor (u ∷ t) ≡ false = rw other refl in absurd cc
]
