-- What is found where a static method is looked for.
use Rattle.std.proofs.Common.{◌≡◌, ℕ, zero, suc, ◌+◌, ◌-◌, ◌*◌, ◌<◌, Bool, true, false, cond, List, [], ◌∷◌, Option, Some, None, refl, sym, ap, subst, ◌∙◌, arith, eqb}
use Rattle.std.specs.Prelude.{slice_get, ◌&&◌, ◌||◌, not, codes, bit_and, nat_lt}
use Rattle.std.specs.List.{find, list_all}
use Rattle.std.specs.Int.{bit_at}
use Rattle.std.specs.Cmp.Lexicographic.{same_text}
use Rattle.std.proofs.lemmas.Nat.Bits.{and_pow, bit_at-lt}
use Rattle.class_file.specs.declared.value.NativeId.{NativeId}
use Rattle.class_file.specs.declared.value.NativeId.TheVariants as native_is
use Rattle.class_file.specs.declared.class.ClassFile.{ClassFile}
use Rattle.class_file.specs.declared.class.Method.{Method}
use Rattle.class_file.specs.declared.class.Set.{Set}
use Rattle.class_file.specs.Pools.{is_text}
use Rattle.class_file.specs.Classes.{Body, Coded, Native, NoBody, MethodView, ClassView, built_ins, viewed, method_view, method_views, methods_in, own_method, is_method, is_static_flag, is_abstract_flag}
use Rattle.class_file.specs.Verification.{is_static}
use Rattle.class_soundness.proofs.Tests.{both_true}

pub text_same : (a b : List ℕ) → is_text a b ≡ true → a ≡ b
text_same a b e = same_text a b (sym e)

-- the first element that passes, and where it stands
pub record Finds {X : Type 0} (p : X → Bool) (xs : List X) (x : X) : Type 0 where
  pub passes : p x ≡ true
  pub place : ℕ
  pub at : slice_get xs place ≡ Some x

pub some_same : {X : Type 0} (x y : X) → (let o : Option X = Some x in o) ≡ Some y → x ≡ y
some_same x y e = cc

pub finds : {X : Type 0} (p : X → Bool) (xs : List X) (x : X) → find p xs ≡ Some x → Finds p xs x
finds p [] x e = absurd cc
finds {X} p (y ∷ ys) x e = by (finds p ys x) (p y) refl e
  where
    by : (find p ys ≡ Some x → Finds p ys x) → (b : Bool) → p y ≡ b → cond b (Some y) (find p ys) ≡ Some x → Finds p (y ∷ ys) x
    by more true k e = record { passes = subst (λ (z : X). p z ≡ true) (some_same y x e) k; place = 0; at = e }
    by more false k e = let r = more e in record { passes = r.passes; place = suc r.place; at = r.at }

pub all_at : {X : Type 0} (q : X → Bool) (xs : List X) (k : ℕ) (x : X) → list_all q xs ≡ true → slice_get xs k ≡ Some x → q x ≡ true
all_at q [] k x h e = absurd cc
all_at {X} q (y ∷ ys) zero x h e = subst (λ (z : X). q z ≡ true) (some_same y x e) (both_true (q y) (list_all q ys) h).0
all_at q (y ∷ ys) (suc k) x h e = all_at q ys k x (both_true (q y) (list_all q ys) h).1 e

-- a method of a class file behind its view
record Behind (class start : ℕ) (ms : List Method) (v : MethodView) : Type 0 where
  place : ℕ
  m : Method
  at : slice_get ms place ≡ Some m
  is : v ≡ method_view class (start + place) m

behind : (class start : ℕ) (ms : List Method) (k : ℕ) (v : MethodView) → slice_get (method_views class start ms) k ≡ Some v → Behind class start ms v
behind class start [] k v e = absurd cc
behind class start (m ∷ ms) zero v e =
    let same : start ≡ start + 0 = omega arith in
    record { place = 0; m = m; at = refl; is = sym (some_same (method_view class start m) v e) ∙ ap (λ (n : ℕ). method_view class n m) same }
behind class start (m ∷ ms) (suc k) v e =
    let r = behind class (start + 1) ms k v e in
    let same : start + 1 + r.place ≡ start + suc r.place = omega arith in
    record { place = suc r.place; m = r.m; at = r.at; is = r.is ∙ ap (λ (n : ℕ). method_view class n r.m) same }

-- a static method that a class has itself
pub data Own (set : Set) (name descriptor : List ℕ) (n : ℕ) (v : MethodView) : Type 0 where
  BuiltIn : (c : ClassView) (class place : ℕ) → slice_get built_ins class ≡ Some c → slice_get c.methods place ≡ Some v → is_method true name descriptor v ≡ true → Own set name descriptor n v
  OfSet : (c : ClassFile) (class place : ℕ) (m : Method) → slice_get set.classes class ≡ Some c → slice_get c.methods place ≡ Some m → v ≡ method_view class place m → is_method true name descriptor v ≡ true → Own set name descriptor n v

pub none_is : {X : Type 0} (x : X) → (let o : Option X = None in o) ≡ Some x → ⊥
none_is x e = cc

pub own : (set : Set) (name descriptor : List ℕ) (n : ℕ) (v : MethodView) → own_method set true name descriptor n ≡ Some v → Own set name descriptor n v
own set name descriptor n v e = by_number (nat_lt n 37) e
  where
    by_view : (o : Option ClassView) → slice_get built_ins n ≡ o → find (is_method true name descriptor) (methods_in o) ≡ Some v → Own set name descriptor n v
    by_view None k e = absurd (none_is v e)
    by_view (Some c) k e = let f = finds (is_method true name descriptor) c.methods v e in BuiltIn c n f.place k f.at f.passes

    by_file : (o : Option ClassFile) → slice_get set.classes (n - 37) ≡ o → find (is_method true name descriptor) (methods_in (viewed (n - 37) o)) ≡ Some v → Own set name descriptor n v
    by_file None k e = absurd (none_is v e)
    by_file (Some c) k e =
        let f = finds (is_method true name descriptor) (method_views (n - 37) 0 c.methods) v e in
        let b = behind (n - 37) 0 c.methods f.place v f.at in
        let same : 0 + b.place ≡ b.place = omega arith in
        OfSet c (n - 37) b.place b.m k b.at (b.is ∙ ap (λ (i : ℕ). method_view (n - 37) i b.m) same) f.passes

    by_number : (b : Bool) → find (is_method true name descriptor) (methods_in (cond b (slice_get built_ins n) (viewed (n - 37) (slice_get set.classes (n - 37))))) ≡ Some v → Own set name descriptor n v
    by_number true e = by_view (slice_get built_ins n) refl e
    by_number false e = by_file (slice_get set.classes (n - 37)) refl e

-- ---- the natives that are static

-- how each is described
abbrev pub descriptor_of : NativeId → List ℕ
descriptor_of native_is.IntegerValueOf = codes "(I)Ljava/lang/Integer;"
descriptor_of native_is.LongValueOf = codes "(J)Ljava/lang/Long;"
descriptor_of native_is.CharacterValueOf = codes "(C)Ljava/lang/Character;"
descriptor_of native_is.BooleanValueOf = codes "(Z)Ljava/lang/Boolean;"
descriptor_of native_is.ConsoleWrite = codes "(Ljava/lang/String;)V"
descriptor_of native_is.ConsoleReadLine = codes "()Ljava/lang/String;"
descriptor_of native_is.TextsLength = codes "(Ljava/lang/String;)I"
descriptor_of native_is.TextsCharAt = codes "(Ljava/lang/String;I)C"
descriptor_of native_is.TextsConcat = codes "(Ljava/lang/String;Ljava/lang/String;)Ljava/lang/String;"
descriptor_of native_is.TextsSubstring = codes "(Ljava/lang/String;II)Ljava/lang/String;"
descriptor_of native_is.TextsCompare = codes "(Ljava/lang/String;Ljava/lang/String;)I"
descriptor_of native_is.TextsOfInt = codes "(I)Ljava/lang/String;"
descriptor_of native_is.TextsOfLong = codes "(J)Ljava/lang/String;"
descriptor_of native_is.TextsOfChar = codes "(C)Ljava/lang/String;"
descriptor_of native_is.TextsOfBoolean = codes "(Z)Ljava/lang/String;"
descriptor_of _ = []

abbrev is_described : Body → List ℕ → Bool
is_described (Native id) descriptor = is_text descriptor (descriptor_of id)
is_described _ descriptor = false

-- a static method of a built-in class is a native that is described so, and no initialiser
abbrev is_known : MethodView → Bool
is_known v = not v.is_static || (not (is_text v.name (codes "<clinit>")) && is_described v.body v.descriptor)

all_known : list_all (λ (c : ClassView). list_all is_known c.methods) built_ins ≡ true
unfolding built_ins
all_known = refl

-- a static method that is found, by how it runs
pub data Runnable (set : Set) (name descriptor : List ℕ) : Body → Type 0 where
  IsNative : (id : NativeId) → descriptor ≡ descriptor_of id → is_text name (codes "<clinit>") ≡ false → Runnable set name descriptor (Native id)
  IsCoded : (c : ClassFile) (class place : ℕ) (m : Method) → slice_get set.classes class ≡ Some c → slice_get c.methods place ≡ Some m → is_static m ≡ true → m.descriptor ≡ descriptor → m.name ≡ name → is_abstract_flag m.flags ≡ false → Runnable set name descriptor (Coded class place)
  IsAbstract : (c : ClassFile) (class place : ℕ) (m : Method) → slice_get set.classes class ≡ Some c → slice_get c.methods place ≡ Some m → m.name ≡ name → is_abstract_flag m.flags ≡ true → Runnable set name descriptor NoBody

pub not_true : (b : Bool) → not b ≡ true → b ≡ false
not_true true e = absurd cc
not_true false e = refl

first_holds : (a b : Bool) → a ≡ true → (not a || b) ≡ true → b ≡ true
first_holds true b h e = e
first_holds false b h e = absurd cc

described_so : (set : Set) (name descriptor : List ℕ) (body : Body) (d : List ℕ) → d ≡ descriptor → is_text name (codes "<clinit>") ≡ false → is_described body d ≡ true → Runnable set name descriptor body
described_so set name descriptor (Native id) d s f e = IsNative id (sym s ∙ text_same d (descriptor_of id) e) f
described_so set name descriptor (Coded class place) d s f e = absurd cc
described_so set name descriptor NoBody d s f e = absurd cc

-- the static flag is one bit
flag_is : (flags : ℕ) → is_static_flag flags ≡ true → eqb (bit_and flags 8) 8 ≡ true
flag_is flags h = by (bit_at flags 3) (bit_at-lt flags 3) (and_pow flags 3) h
  where
    unequal : (let b : Bool = false in b) ≡ true → ⊥
    unequal e = cc

    by : (k : ℕ) → k < 2 → bit_and flags 8 ≡ k * 8 → not (eqb (bit_and flags 8) 0) ≡ true → eqb (bit_and flags 8) 8 ≡ true
    by zero lt e h = absurd (unequal (subst (λ (n : ℕ). not (eqb n 0) ≡ true) e h))
    by (suc zero) lt e h = ap (λ (n : ℕ). eqb n 8) e
    by (suc (suc k)) lt e h = absurd (omega arith)

static_parts : (v : MethodView) (name descriptor : List ℕ) → is_method true name descriptor v ≡ true → (v.is_static ≡ true) × ((v.name ≡ name) × (v.descriptor ≡ descriptor))
static_parts v name descriptor h =
    let a = both_true v.is_static (is_text v.name name && is_text v.descriptor descriptor) h in
    let b = both_true (is_text v.name name) (is_text v.descriptor descriptor) a.1 in
    (a.0, (text_same v.name name b.0, text_same v.descriptor descriptor b.1))

pub runnable : (set : Set) (name descriptor : List ℕ) (n : ℕ) (v : MethodView) → own_method set true name descriptor n ≡ Some v → Runnable set name descriptor v.body
runnable set name descriptor n v e = by (own set name descriptor n v e)
  where
    by_flag : (c : ClassFile) (class place : ℕ) (m : Method) → slice_get set.classes class ≡ Some c → slice_get c.methods place ≡ Some m → is_static m ≡ true → m.descriptor ≡ descriptor → m.name ≡ name → (b : Bool) → is_abstract_flag m.flags ≡ b → Runnable set name descriptor (cond b NoBody (Coded class place))
    by_flag c class place m k h s d l true f = IsAbstract c class place m k h l f
    by_flag c class place m k h s d l false f = IsCoded c class place m k h s d l f

    by : Own set name descriptor n v → Runnable set name descriptor v.body
    by (BuiltIn c class place k h p) =
        let q = static_parts v name descriptor p in
        let known = all_at is_known c.methods place v (all_at (λ (c : ClassView). list_all is_known c.methods) built_ins class c all_known k) h in
        let both = both_true (not (is_text v.name (codes "<clinit>"))) (is_described v.body v.descriptor) (first_holds v.is_static _ q.0 known) in
        described_so set name descriptor v.body v.descriptor q.1.1 (ap (λ (t : List ℕ). is_text t (codes "<clinit>")) (sym q.1.0) ∙ not_true (is_text v.name (codes "<clinit>")) both.0) both.1
    by (OfSet c class place m k h s p) =
        let q = static_parts (method_view class place m) name descriptor (subst (λ (w : MethodView). is_method true name descriptor w ≡ true) s p) in
        subst (λ (w : MethodView). Runnable set name descriptor w.body) (sym s) (by_flag c class place m k h (flag_is m.flags q.0) q.1.1 q.1.0 (is_abstract_flag m.flags) refl)
