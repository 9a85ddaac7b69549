-- Locals in scope, as well-formed trees see them.
use Rattle.std.proofs.Common.{◌≡◌, ℕ, Bool, true, false, cond, nat_eq, List, [], ◌∷◌, ◌++◌, length, Option, Some, None, refl, sym, ap, subst, ◌∙◌, append_assoc, eq-eqb}
use Rattle.std.specs.Option.{option_map}
use Rattle.std.specs.Prelude.{option_and_then, if◌then◌else◌, slice_get}
use Rattle.std.specs.List.{find}
use Rattle.kc_core.specs.declared.tree.TypeTree.{TypeTree}
use Rattle.kc_core.specs.declared.tree.TypeTree.TheVariants as type_is
use Rattle.kc_core.specs.declared.tree.Core.{Core}
use Rattle.kc_core.specs.declared.tree.Local.{Local}
use Rattle.kc_core.specs.Lists.{still_there}
use Rattle.kc_core.specs.Formed.{Assigned, marked, Among}
use Rattle.form_elaboration.specs.declared.scope.Visible.{Visible}
use Rattle.form_elaboration.specs.Nodes.{same_type}
use Rattle.form_elaboration.specs.Expressions.{of_type, both}

-- ---- options

pub same_value : {A : Type 0} {a b : A} → Some a ≡ Some b → a ≡ b
same_value e = cc

pub none_or_some : {A : Type 0} {a : A} {B : Type 0} → None ≡ Some a → B
none_or_some e = absurd (cc)

pub record Mapped {A B : Type 0} (f : A → B) (o : Option A) (b : B) : Type 0 where
  pub value : A
  pub was : o ≡ Some value
  pub is_it : b ≡ f value

pub mapped : {A B : Type 0} (f : A → B) (o : Option A) {b : B} → option_map f o ≡ Some b → Mapped f o b
mapped f (Some x) e = record { value = x; was = refl; is_it = sym (same_value e) }
mapped f None e = none_or_some e

pub record Chained {A B : Type 0} (f : A → Option B) (o : Option A) (b : B) : Type 0 where
  pub value : A
  pub was : o ≡ Some value
  pub is_it : f value ≡ Some b

pub chained : {A B : Type 0} (f : A → Option B) (o : Option A) {b : B} → option_and_then f o ≡ Some b → Chained f o b
chained f (Some x) e = record { value = x; was = refl; is_it = e }
chained f None e = none_or_some e

-- ---- nodes of a type

same_types : (a b : TypeTree) → same_type a b ≡ true → a ≡ b
same_types type_is.Int type_is.Int e = refl
same_types type_is.Boolean type_is.Boolean e = refl
same_types type_is.String type_is.String e = refl
same_types type_is.Unit type_is.Unit e = refl
same_types _ _ e = absurd (cc)

pub record OfType (ty : TypeTree) (o : Option Core) (e : Core) : Type 0 where
  pub was : o ≡ Some e
  pub typed : e.ty ≡ ty

pub of_typed : (ty : TypeTree) (o : Option Core) (e : Core) → of_type ty o ≡ Some e → OfType ty o e
of_typed ty None e h = none_or_some h
of_typed ty (Some x) e h = by (same_type x.ty ty) refl h
  where
    by : (b : Bool) → same_type x.ty ty ≡ b → (if b then Some x else None) ≡ Some e → OfType ty (Some x) e
    by true s k = record { was = k; typed = ap (λ (c : Core). c.ty) (sym (same_value k)) ∙ same_types x.ty ty s }
    by false s k = none_or_some k

pub record Both (ty : TypeTree) (a b : Option Core) (s : Core × Core) : Type 0 where
  pub left : OfType ty a s.0
  pub right : OfType ty b s.1

pub both_typed : (ty : TypeTree) (a b : Option Core) (s : Core × Core) → both ty a b ≡ Some s → Both ty a b s
both_typed ty a b s h =
    let join : Core → Core → Core × Core = λ x y. (x, y) in
    let c = chained (λ (x : Core). option_map (join x) (of_type ty b)) (of_type ty a) h in
    let m = mapped (join c.value) (of_type ty b) c.is_it in
    record {
      left = subst (OfType ty a) (sym (ap (λ (p : Core × Core). p.0) m.is_it)) (of_typed ty a c.value c.was);
      right = subst (OfType ty b) (sym (ap (λ (p : Core × Core). p.1) m.is_it)) (of_typed ty b m.value m.was);
    }

-- ---- what is assigned

pub among_same : (a : Assigned) → Among a a
among_same a x h = h

pub among_trans : (a b c : Assigned) → Among a b → Among b c → Among a c
among_trans a b c f g x h = g x (f x h)

pub marked_grows : (x : ℕ) (a : Assigned) → Among a (marked x true a)
marked_grows x a y h = by (nat_eq y x)
  where
    by : (b : Bool) → cond b true (a y) ≡ true
    by true = refl
    by false = h

pub marked_on : (x : ℕ) (a : Assigned) → marked x true a x ≡ true
marked_on x a = ap (λ b. cond b true (a x)) (eq-eqb x x refl)

-- ---- locals

-- the one list with more behind it
pub record Front {A : Type 0} (xs ys : List A) : Type 0 where
  pub more : List A
  pub is : ys ≡ xs ++ more

pub front_same : {A : Type 0} (xs : List A) → Front xs xs
front_same xs = record { more = []; is = sym (append_none xs) }
  where
    append_none : {A : Type 0} (l : List A) → l ++ [] ≡ l
    append_none [] = refl
    append_none (x ∷ l) = ap (λ r. x ∷ r) (append_none l)

pub front_trans : {A : Type 0} (xs ys zs : List A) → Front xs ys → Front ys zs → Front xs zs
front_trans xs ys zs f g = record { more = f.more ++ g.more; is = g.is ∙ ap (λ l. l ++ g.more) f.is ∙ append_assoc xs f.more g.more }

last_there : {A : Type 0} (xs : List A) (a : A) → slice_get (xs ++ a ∷ []) (length xs) ≡ Some a
last_there [] a = refl
last_there (x ∷ xs) a = last_there xs a

pub declared_there : {A : Type 0} (xs ys : List A) (a : A) → Front (xs ++ a ∷ []) ys → slice_get ys (length xs) ≡ Some a
declared_there xs ys a f = subst (λ l. slice_get l (length xs) ≡ Some a) (sym f.is) (still_there (xs ++ a ∷ []) f.more (length xs) a (last_there xs a))

-- the local that a name in scope stands for
abbrev pub local_of : Visible → Local
local_of v = record { name = v.local; ty = v.ty; is_var = v.is_var }

-- it is among the locals, and assigned
pub record Fit (locals : List Local) (a : Assigned) (v : Visible) : Type 0 where
  pub there : slice_get locals v.local ≡ Some (local_of v)
  pub on : a v.local ≡ true

abbrev pub Fits : List Local → Assigned → List Visible → Type 0
Fits locals a [] = Unit {0}
Fits locals a (v ∷ vs) = Fit locals a v × Fits locals a vs

pub found_fits : (locals : List Local) (a : Assigned) (test : Visible → Bool) (vs : List Visible) (v : Visible) → Fits locals a vs → find test vs ≡ Some v → Fit locals a v
found_fits locals a test [] v f h = none_or_some h
found_fits locals a test (x ∷ xs) v f h = by (test x) (found_fits locals a test xs v f.1) h
  where
    by : (b : Bool) → (find test xs ≡ Some v → Fit locals a v) → cond b (Some x) (find test xs) ≡ Some v → Fit locals a v
    by true later k = subst (Fit locals a) (same_value k) f.0
    by false later k = later k

pub fits_more : (locals : List Local) (a b : Assigned) (vs : List Visible) → Among a b → Fits locals a vs → Fits locals b vs
fits_more locals a b [] m f = tt
fits_more locals a b (v ∷ vs) m f = (record { there = f.0.there; on = m v.local f.0.on }, fits_more locals a b vs m f.1)

pub fits_append : (locals : List Local) (a : Assigned) (vs : List Visible) (v : Visible) → Fits locals a vs → Fit locals a v → Fits locals a (vs ++ v ∷ [])
fits_append locals a [] v f g = (g, tt)
fits_append locals a (x ∷ xs) v f g = (f.0, fits_append locals a xs v f.1 g)
