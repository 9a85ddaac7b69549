-- Values that have the types which the verifier knows.
use Rattle.std.proofs.Common.{◌≡◌, ℕ, zero, suc, ◌+◌, ◌-◌, Bool, true, false, cond, List, [], ◌∷◌, ◌++◌, length, Option, Some, None, refl, sym, ap, subst, ◌∙◌, eqb}
use Rattle.std.specs.Prelude.{slice_get, slice_set, replicate}
use Rattle.class_file.specs.declared.value.Value.{Value}
use Rattle.class_file.specs.declared.value.Value.TheVariants as value
use Rattle.class_file.specs.declared.class.VType.{VType}
use Rattle.class_file.specs.declared.class.VType.TheVariants as vtype
use Rattle.class_file.specs.declared.value.Kind.{Kind}
use Rattle.class_file.specs.declared.value.Kind.TheVariants as kinds
use Rattle.class_file.specs.declared.class.Set.{Set}
use Rattle.class_file.specs.Natives.{Object, TextObject, text_of, text_in}
use Rattle.class_file.specs.Machine.{has_kind, stored, is_narrow}
use Rattle.class_file.specs.Members.{assignable}
use Rattle.class_soundness.specs.Soundness.{IsLoaded}
use Rattle.class_soundness.proofs.Tests.{both_true}
use Rattle.class_soundness.proofs.Found.{none_is}
use Rattle.class_soundness.proofs.Chains.{is_text_type, text_below}
use Rattle.class_file.specs.Typing.{all_assignable, is_kind, cut_long, cut_at, t_stored, takes_one}

-- a text stands at this number of the heap
pub record IsText (heap : List Object) (r : ℕ) : Type 0 where
  pub units : List ℕ
  pub is : text_of heap r ≡ Some units

-- A value has a type. What the instructions so far ask of a reference is that it names a text where only texts are of its type.
abbrev pub Has : Set → List Object → Value → VType → Type 0
Has set heap v vtype.Top = Unit {0}
Has set heap (value.Int n) vtype.Integer = Unit {0}
Has set heap (value.Long n) vtype.Long = Unit {0}
Has set heap value.Null vtype.Null = Unit {0}
Has set heap value.Null (vtype.Object c) = Unit {0}
Has set heap (value.Ref r) (vtype.Object c) = is_text_type set c ≡ true → IsText heap r
Has set heap _ _ = ⊥

abbrev pub Fits : Set → List Object → List Value → List VType → Type 0
Fits set heap [] [] = Unit {0}
Fits set heap (v ∷ vs) (t ∷ ts) = Has set heap v t × Fits set heap vs ts
Fits set heap _ _ = ⊥

-- texts stay where they are
abbrev pub Grows : List Object → List Object → Type 0
Grows old new = (r : ℕ) → IsText old r → IsText new r

same_object : (x y : Object) → (let o : Option Object = Some x in o) ≡ Some y → x ≡ y
same_object x y e = cc

kept : (heap more : List Object) (r : ℕ) (o : Object) → slice_get heap r ≡ Some o → slice_get (heap ++ more) r ≡ Some o
kept [] more r o e = absurd cc
kept (x ∷ heap) more zero o e = e
kept (x ∷ heap) more (suc r) o e = kept heap more r o e

last_is : (heap : List Object) (x : Object) → slice_get (heap ++ x ∷ []) (length heap) ≡ Some x
last_is [] x = refl
last_is (y ∷ heap) x = last_is heap x

pub grows_by : (heap more : List Object) → Grows heap (heap ++ more)
grows_by heap more r t = by (slice_get heap r) refl t.is
  where
    by : (o : Option Object) → slice_get heap r ≡ o → text_in o ≡ Some t.units → IsText (heap ++ more) r
    by None k e = absurd (none_is t.units e)
    by (Some o) k e = record { units = t.units; is = ap text_in (kept heap more r o k) ∙ e }

pub new_text_is : (heap : List Object) (units : List ℕ) → IsText (heap ++ TextObject units ∷ []) (length heap)
new_text_is heap units = record { units = units; is = ap text_in (last_is heap (TextObject units)) }

pub stays : (heap : List Object) → Grows heap heap
stays heap r t = t

pub Has-grows : (set : Set) (old new : List Object) → Grows old new → (v : Value) (t : VType) → Has set old v t → Has set new v t
Has-grows set old new g v vtype.Top h = tt
Has-grows set old new g (value.Int n) vtype.Integer h = tt
Has-grows set old new g _ vtype.Integer h = absurd h
Has-grows set old new g (value.Long n) vtype.Long h = tt
Has-grows set old new g _ vtype.Long h = absurd h
Has-grows set old new g value.Null vtype.Null h = tt
Has-grows set old new g _ vtype.Null h = absurd h
Has-grows set old new g value.Null (vtype.Object c) h = tt
Has-grows set old new g (value.Ref r) (vtype.Object c) h = λ e. g r (h e)
Has-grows set old new g _ (vtype.Object c) h = absurd h
Has-grows set old new g _ _ h = absurd h

pub Fits-grows : (set : Set) (old new : List Object) → Grows old new → (vs : List Value) (ts : List VType) → Fits set old vs ts → Fits set new vs ts
Fits-grows set old new g [] [] h = tt
Fits-grows set old new g [] (t ∷ ts) h = absurd h
Fits-grows set old new g (v ∷ vs) [] h = absurd h
Fits-grows set old new g (v ∷ vs) (t ∷ ts) h = (Has-grows set old new g v t h.0, Fits-grows set old new g vs ts h.1)

module _ (set : Set) (loaded : IsLoaded set) (heap : List Object) where
  pub Has-assign : (v : Value) (t u : VType) → assignable set t u ≡ true → Has set heap v t → Has set heap v u
  Has-assign v t vtype.Top e h = tt
  Has-assign v vtype.Integer vtype.Integer e h = h
  Has-assign v _ vtype.Integer e h = absurd cc
  Has-assign v vtype.Long vtype.Long e h = h
  Has-assign v _ vtype.Long e h = absurd cc
  Has-assign v vtype.Null vtype.Null e h = h
  Has-assign v _ vtype.Null e h = absurd cc
  Has-assign value.Null vtype.Null (vtype.Object c) e h = tt
  Has-assign _ vtype.Null (vtype.Object c) e h = absurd h
  Has-assign value.Null (vtype.Object b) (vtype.Object c) e h = tt
  Has-assign (value.Ref r) (vtype.Object b) (vtype.Object c) e h = λ k. h (text_below set loaded b c e k)
  Has-assign _ (vtype.Object b) (vtype.Object c) e h = absurd h
  Has-assign v _ (vtype.Object c) e h = absurd cc
  Has-assign v vtype.UninitializedThis vtype.UninitializedThis e h = absurd h
  Has-assign v _ vtype.UninitializedThis e h = absurd cc
  Has-assign v (vtype.Uninitialized p) (vtype.Uninitialized q) e h = absurd h
  Has-assign v _ (vtype.Uninitialized q) e h = absurd cc

  pub Fits-assign : (vs : List Value) (ts us : List VType) → all_assignable set ts us ≡ true → Fits set heap vs ts → Fits set heap vs us
  Fits-assign [] [] [] e h = tt
  Fits-assign [] [] (u ∷ us) e h = absurd cc
  Fits-assign [] (t ∷ ts) us e h = absurd h
  Fits-assign (v ∷ vs) [] us e h = absurd h
  Fits-assign (v ∷ vs) (t ∷ ts) [] e h = absurd cc
  Fits-assign (v ∷ vs) (t ∷ ts) (u ∷ us) e h =
      let b = both_true (assignable set t u) (all_assignable set ts us) e in
      (Has-assign v t u b.0 h.0, Fits-assign vs ts us b.1 h.1)

module _ (set : Set) (heap : List Object) where
  pub Fits-length : (vs : List Value) (ts : List VType) → Fits set heap vs ts → length vs ≡ length ts
  Fits-length [] [] h = refl
  Fits-length [] (t ∷ ts) h = absurd h
  Fits-length (v ∷ vs) [] h = absurd h
  Fits-length (v ∷ vs) (t ∷ ts) h = ap suc (Fits-length vs ts h.1)

  pub Fits-append : (vs ws : List Value) (ts us : List VType) → Fits set heap vs ts → Fits set heap ws us → Fits set heap (vs ++ ws) (ts ++ us)
  Fits-append [] ws [] us h k = k
  Fits-append [] ws (t ∷ ts) us h k = absurd h
  Fits-append (v ∷ vs) ws [] us h k = absurd h
  Fits-append (v ∷ vs) ws (t ∷ ts) us h k = (h.0, Fits-append vs ws ts us h.1 k)

  pub Fits-replicate : (n : ℕ) → Fits set heap (replicate n value.Nothing) (replicate n vtype.Top)
  Fits-replicate zero = tt
  Fits-replicate (suc n) = (tt, Fits-replicate n)

  pub Fits-set : (vs : List Value) (ts : List VType) (i : ℕ) (v : Value) (t : VType) → Fits set heap vs ts → Has set heap v t → Fits set heap (slice_set vs i v) (slice_set ts i t)
  Fits-set [] [] i v t h k = tt
  Fits-set [] (u ∷ ts) i v t h k = absurd h
  Fits-set (w ∷ vs) [] i v t h k = absurd h
  Fits-set (w ∷ vs) (u ∷ ts) zero v t h k = (k, h.1)
  Fits-set (w ∷ vs) (u ∷ ts) (suc i) v t h k = (h.0, Fits-set vs ts i v t h.1 k)

  -- another value of the type of a place
  pub Fits-put : (vs : List Value) (ts : List VType) (i : ℕ) (v : Value) (t : VType) → Fits set heap vs ts → slice_get ts i ≡ Some t → Has set heap v t → Fits set heap (slice_set vs i v) ts
  Fits-put [] [] i v t h e k = tt
  Fits-put [] (u ∷ ts) i v t h e k = absurd h
  Fits-put (w ∷ vs) [] i v t h e k = absurd h
  Fits-put (w ∷ vs) (u ∷ ts) zero v t h e k = (subst (λ (x : VType). Has set heap v x) (sym (same_type u t e)) k, h.1)
    where
      same_type : (x y : VType) → (let o : Option VType = Some x in o) ≡ Some y → x ≡ y
      same_type x y e = cc
  Fits-put (w ∷ vs) (u ∷ ts) (suc i) v t h e k = (h.0, Fits-put vs ts i v t h.1 e k)

  -- one place may be forgotten
  pub Fits-top : (vs : List Value) (ts : List VType) (i : ℕ) → Fits set heap vs ts → Fits set heap vs (slice_set ts i vtype.Top)
  Fits-top [] [] i h = tt
  Fits-top [] (u ∷ ts) i h = absurd h
  Fits-top (w ∷ vs) [] i h = absurd h
  Fits-top (w ∷ vs) (u ∷ ts) zero h = (tt, h.1)
  Fits-top (w ∷ vs) (u ∷ ts) (suc i) h = (h.0, Fits-top vs ts i h.1)

  -- a value of a kind's type is of the kind
  pub Has-kind : (k : Kind) (v : Value) (t : VType) → is_kind k t ≡ true → Has set heap v t → has_kind k v ≡ true
  Has-kind kinds.Int (value.Int n) vtype.Integer e h = refl
  Has-kind kinds.Int _ vtype.Integer e h = absurd h
  Has-kind kinds.Int v _ e h = absurd cc
  Has-kind kinds.Long (value.Long n) vtype.Long e h = refl
  Has-kind kinds.Long _ vtype.Long e h = absurd h
  Has-kind kinds.Long v _ e h = absurd cc
  Has-kind kinds.Ref value.Null vtype.Null e h = refl
  Has-kind kinds.Ref _ vtype.Null e h = absurd h
  Has-kind kinds.Ref value.Null (vtype.Object c) e h = refl
  Has-kind kinds.Ref (value.Ref r) (vtype.Object c) e h = refl
  Has-kind kinds.Ref _ (vtype.Object c) e h = absurd h
  Has-kind kinds.Ref v vtype.UninitializedThis e h = absurd h
  Has-kind kinds.Ref v (vtype.Uninitialized p) e h = absurd h
  Has-kind kinds.Ref v _ e h = absurd cc

  pub Has-narrow : (v : Value) (t : VType) → takes_one t ≡ true → Has set heap v t → is_narrow v ≡ true
  Has-narrow (value.Int n) vtype.Integer e h = refl
  Has-narrow _ vtype.Integer e h = absurd h
  Has-narrow value.Null vtype.Null e h = refl
  Has-narrow _ vtype.Null e h = absurd h
  Has-narrow value.Null (vtype.Object c) e h = refl
  Has-narrow (value.Ref r) (vtype.Object c) e h = refl
  Has-narrow _ (vtype.Object c) e h = absurd h
  Has-narrow v vtype.UninitializedThis e h = absurd h
  Has-narrow v (vtype.Uninitialized p) e h = absurd h
  Has-narrow v _ e h = absurd cc

  Fits-cut_at : (vs : List Value) (ts : List VType) (i : ℕ) (o : Option VType) → Fits set heap vs ts → Fits set heap vs (cut_at i o ts)
  Fits-cut_at vs ts i None h = h
  Fits-cut_at vs ts i (Some vtype.Long) h = Fits-top vs ts i h
  Fits-cut_at vs ts i (Some _) h = h

  Fits-if : (vs : List Value) (b : Bool) (ts us : List VType) → Fits set heap vs ts → Fits set heap vs us → Fits set heap vs (cond b ts us)
  Fits-if vs true ts us h k = h
  Fits-if vs false ts us h k = k

  pub Fits-cut : (vs : List Value) (ts : List VType) (i : ℕ) → Fits set heap vs ts → Fits set heap vs (cut_long i ts)
  Fits-cut vs ts i h = Fits-if vs (eqb i 0) ts (cut_at (i - 1) (slice_get ts (i - 1)) ts) h (Fits-cut_at vs ts (i - 1) (slice_get ts (i - 1)) h)

  pub Fits-stored : (k : Kind) (vs : List Value) (ts : List VType) (i : ℕ) (v : Value) (t : VType) → Fits set heap vs ts → Has set heap v t → Fits set heap (stored k i v vs) (t_stored k i t ts)
  Fits-stored kinds.Int vs ts i v t h k = Fits-set vs (cut_long i ts) i v t (Fits-cut vs ts i h) k
  Fits-stored kinds.Long vs ts i v t h k = Fits-set (slice_set vs i v) (slice_set (cut_long i ts) i t) (i + 1) value.Nothing vtype.Top (Fits-set vs (cut_long i ts) i v t (Fits-cut vs ts i h) k) tt
  Fits-stored kinds.Ref vs ts i v t h k = Fits-set vs (cut_long i ts) i v t (Fits-cut vs ts i h) k

  some_type : (x y : VType) → (let o : Option VType = Some x in o) ≡ Some y → x ≡ y
  some_type x y e = cc

  -- what stands at a place of which the type is known
  pub record Local (vs : List Value) (i : ℕ) (t : VType) : Type 0 where
    pub v : Value
    pub is : slice_get vs i ≡ Some v
    pub has : Has set heap v t

  pub Fits-get : (vs : List Value) (ts : List VType) (i : ℕ) (t : VType) → Fits set heap vs ts → slice_get ts i ≡ Some t → Local vs i t
  Fits-get [] [] i t h e = absurd cc
  Fits-get [] (u ∷ ts) i t h e = absurd h
  Fits-get (w ∷ vs) [] i t h e = absurd h
  Fits-get (w ∷ vs) (u ∷ ts) zero t h e = record { v = w; is = refl; has = subst (λ (x : VType). Has set heap w x) (some_type u t e) h.0 }
  Fits-get (w ∷ vs) (u ∷ ts) (suc i) t h e = let r = Fits-get vs ts i t h.1 e in record { v = r.v; is = r.is; has = r.has }
