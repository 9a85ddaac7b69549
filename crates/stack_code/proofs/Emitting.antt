-- Emitting one stretch of code behind another.
use Rattle.std.proofs.Common.{◌≡◌, ℕ, ◌+◌, inl, inr, List, [], ◌∷◌, ◌++◌, length, Option, Some, None, refl, sym, ap, ◌∙◌, subst, append_assoc, append-nil, ⊎_elim}
use Rattle.std.specs.Prelude.{slice_get, ◌&&◌}
use Rattle.class_file.specs.declared.pool.Entry.{Entry}
use Rattle.class_file.specs.declared.pool.Entry.TheVariants.{Utf8, Integer, Long, Class, Str, FieldRef, MethodRef, InterfaceMethodRef, NameAndType}
use Rattle.class_file.specs.declared.instr.Instr.{Instr}
use Rattle.class_file.specs.Pools.{Slots, flat, entry_at, text_in, name_in, typed_in, method_in, member_of, Member, Named, named, named_in, constant_in, literal_of, Constant, Extends}
use Rattle.class_file.specs.declared.value.NativeId.{NativeId}
use Rattle.class_file.specs.Lots.{NamesNative}
use Rattle.stack_code.specs.Code.{native_of, Operation, PushInt, PushText, Load, Store, Compute, Negate, Discard, Call, Jump, JumpIf, JumpCompare, Leave, bytes_of, StandsFor, Spells, Emitted, kept, two_ops, truth}
use Rattle.std.proofs.Common.{drop, ◌<◌, ◌≤◌, ◌*◌, Bool, true, false, get_or, arith}
use Rattle.std.proofs.lemmas.List.{drop_all, drop_more, length-append}
use Rattle.kc_core.specs.declared.tree.Core.{Core}
use Rattle.class_file.specs.Indexing.{places_of, added, IndexesOnce}
use Rattle.stack_code.specs.declared.operations.CodeBuffer.{CodeBuffer}
use Rattle.stack_code.specs.Emission.{HasInstruction, HaveInstructions, Emits, IsFor, NamesTypes, Partly}
use Rattle.stack_code.proofs.Lists.{get_front, bytes_append}

pub extends_none : (p : Slots) → Extends p p
extends_none p = ([], sym (append-nil p))

pub extends_on : (p q r : Slots) → Extends p q → Extends q r → Extends p r
extends_on p q r a b = (a.0 ++ b.0, b.1 ∙ ap (λ w. w ++ b.0) a.1 ∙ append_assoc p a.0 b.0)

some_slot : (o : Option (Option Entry)) (e : Entry) → flat o ≡ Some e → o ≡ Some (Some e)
some_slot (Some (Some x)) e h = ap Some h
some_slot (Some None) e h = cc
some_slot None e h = cc

-- an entry stays
pub entry_stays : (p q : Slots) (i : ℕ) (e : Entry) → Extends p q → entry_at p i ≡ Some e → entry_at q i ≡ Some e
entry_stays p q i e x h =
    ap (λ w. flat (slice_get w i)) x.1 ∙ ap flat (get_front p x.0 i (Some e) (some_slot (slice_get p i) e h))

-- so does what an entry names
text_stays : (p q : Slots) (i : ℕ) (t : List ℕ) → Extends p q → (w : Option Entry) → entry_at p i ≡ w → text_in w ≡ Some t → text_in (entry_at q i) ≡ Some t
text_stays p q i t x (Some e) h k = ap text_in (entry_stays p q i e x h) ∙ k
text_stays p q i t x None h k = cc

pub text_kept : (p q : Slots) (i : ℕ) (t : List ℕ) → Extends p q → text_in (entry_at p i) ≡ Some t → text_in (entry_at q i) ≡ Some t
text_kept p q i t x h = text_stays p q i t x (entry_at p i) refl h

name_of : (p q : Slots) (t : List ℕ) → Extends p q → (e : Entry) → name_in p (Some e) ≡ Some t → name_in q (Some e) ≡ Some t
name_of p q t x (Class n) h = text_kept p q n t x h
name_of p q t x (Utf8 a) h = cc
name_of p q t x (Integer a) h = cc
name_of p q t x (Long a) h = cc
name_of p q t x (Str a) h = cc
name_of p q t x (FieldRef a b) h = cc
name_of p q t x (MethodRef a b) h = cc
name_of p q t x (InterfaceMethodRef a b) h = cc
name_of p q t x (NameAndType a b) h = cc

name_stays : (p q : Slots) (i : ℕ) (t : List ℕ) → Extends p q → (w : Option Entry) → entry_at p i ≡ w → name_in p w ≡ Some t → name_in q (entry_at q i) ≡ Some t
name_stays p q i t x (Some e) h k = ap (name_in q) (entry_stays p q i e x h) ∙ name_of p q t x e k
name_stays p q i t x None h k = cc

literal_is : (o : Option (List ℕ)) (c : Constant) → literal_of o ≡ Some c → (t : List ℕ) × (o ≡ Some t)
literal_is (Some t) c h = (t, refl)
literal_is None c h = cc

constant_of : (p q : Slots) (c : Constant) → Extends p q → (e : Entry) → constant_in p (Some e) ≡ Some c → constant_in q (Some e) ≡ Some c
constant_of p q c x (Integer n) h = h
constant_of p q c x (Str n) h =
    let t = literal_is (text_in (entry_at p n)) c h in
    ap literal_of (text_kept p q n t.0 x t.1 ∙ sym t.1) ∙ h
constant_of p q c x (Utf8 a) h = cc
constant_of p q c x (Long a) h = cc
constant_of p q c x (Class a) h = cc
constant_of p q c x (FieldRef a b) h = cc
constant_of p q c x (MethodRef a b) h = cc
constant_of p q c x (InterfaceMethodRef a b) h = cc
constant_of p q c x (NameAndType a b) h = cc

constant_stays : (p q : Slots) (i : ℕ) (c : Constant) → Extends p q → (w : Option Entry) → entry_at p i ≡ w → constant_in p w ≡ Some c → constant_in q (entry_at q i) ≡ Some c
constant_stays p q i c x (Some e) h k = ap (constant_in q) (entry_stays p q i e x h) ∙ constant_of p q c x e k
constant_stays p q i c x None h k = cc

-- the three texts of a member
parts_there : (a b d : Option (List ℕ)) (m : Member) → member_of a b d ≡ Some m → (x : List ℕ) × (a ≡ Some x) × ((y : List ℕ) × (b ≡ Some y) × ((z : List ℕ) × (d ≡ Some z)))
parts_there (Some x) (Some y) (Some z) m h = (x, refl, (y, refl, (z, refl)))
parts_there None b d m h = cc
parts_there (Some x) None d m h = cc
parts_there (Some x) (Some y) None m h = cc

typed_of : (p q : Slots) (a a' : Option (List ℕ)) (m : Member) → Extends p q → ((x : List ℕ) → a ≡ Some x → a' ≡ Some x) → (e : Entry) → typed_in p a (Some e) ≡ Some m → typed_in q a' (Some e) ≡ Some m
typed_of p q a a' m x f (NameAndType n d) h =
    let t = parts_there a (text_in (entry_at p n)) (text_in (entry_at p d)) m h in
    let e1 : a' ≡ a = f t.0 t.1 ∙ sym t.1 in
    let e2 : text_in (entry_at q n) ≡ text_in (entry_at p n) = text_kept p q n t.2.0 x t.2.1 ∙ sym t.2.1 in
    let e3 : text_in (entry_at q d) ≡ text_in (entry_at p d) = text_kept p q d t.2.2.0 x t.2.2.1 ∙ sym t.2.2.1 in
    ap (λ w. member_of w (text_in (entry_at q n)) (text_in (entry_at q d))) e1 ∙ ap (λ w. member_of a w (text_in (entry_at q d))) e2 ∙ ap (λ w. member_of a (text_in (entry_at p n)) w) e3 ∙ h
typed_of p q a a' m x f (Integer b) h = cc
typed_of p q a a' m x f (Utf8 b) h = cc
typed_of p q a a' m x f (Long b) h = cc
typed_of p q a a' m x f (Class b) h = cc
typed_of p q a a' m x f (Str b) h = cc
typed_of p q a a' m x f (FieldRef b c) h = cc
typed_of p q a a' m x f (MethodRef b c) h = cc
typed_of p q a a' m x f (InterfaceMethodRef b c) h = cc

typed_stays : (p q : Slots) (i : ℕ) (a a' : Option (List ℕ)) (m : Member) → Extends p q → ((x : List ℕ) → a ≡ Some x → a' ≡ Some x) → (w : Option Entry) → entry_at p i ≡ w → typed_in p a w ≡ Some m → typed_in q a' (entry_at q i) ≡ Some m
typed_stays p q i a a' m x f (Some e) h k = ap (typed_in q a') (entry_stays p q i e x h) ∙ typed_of p q a a' m x f e k
typed_stays p q i a a' m x f None h k = cc

method_of : (p q : Slots) (m : Member) → Extends p q → (e : Entry) → method_in p (Some e) ≡ Some m → method_in q (Some e) ≡ Some m
method_of p q m x (MethodRef n d) h =
    typed_stays p q d (name_in p (entry_at p n)) (name_in q (entry_at q n)) m x (λ t k. name_stays p q n t x (entry_at p n) refl k) (entry_at p d) refl h
method_of p q m x (Integer b) h = cc
method_of p q m x (Utf8 b) h = cc
method_of p q m x (Long b) h = cc
method_of p q m x (Class b) h = cc
method_of p q m x (Str b) h = cc
method_of p q m x (FieldRef b c) h = cc
method_of p q m x (InterfaceMethodRef b c) h = cc
method_of p q m x (NameAndType b c) h = cc

-- a method's entry over the entries of its class and of its name
pub named_method : (p q r : Slots) (i owner member : ℕ) (o n d : List ℕ) → Extends p q → Extends q r → name_in p (entry_at p owner) ≡ Some o → NamesTypes q member n d → entry_at r i ≡ Some (MethodRef owner member) → named_in r (entry_at r i) ≡ Some (record { is_interface = false; member = record { owner = o; name = n; descriptor = d } })
named_method p q r i owner member o n d x y h t e =
    ap (named_in r) e
    ∙ ap (λ w. named false (typed_in r w (entry_at r member))) (name_stays p r owner o (extends_on p q r x y) (entry_at p owner) refl h)
    ∙ ap (λ w. named false (typed_in r (Some o) w)) (entry_stays q r member (NameAndType t.first t.second) y t.is)
    ∙ ap (λ w. named false (member_of (Some o) w (text_in (entry_at r t.second)))) (text_kept q r t.first n y t.name_is)
    ∙ ap (λ w. named false (member_of (Some o) (Some n) w)) (text_kept q r t.second d y t.descriptor_is)

member_there : (of_interface : Bool) (w : Option Member) (n : Named) → named of_interface w ≡ Some n → (m : Member) × (w ≡ Some m)
member_there of_interface (Some m) n h = (m, refl)
member_there of_interface None n h = cc

named_of : (p q : Slots) (n : Named) → Extends p q → (e : Entry) → named_in p (Some e) ≡ Some n → named_in q (Some e) ≡ Some n
named_of p q n x (MethodRef c d) h =
    let m = member_there false (method_in p (Some (MethodRef c d))) n h in
    ap (named false) (method_of p q m.0 x (MethodRef c d) m.1 ∙ sym m.1) ∙ h
named_of p q n x (InterfaceMethodRef c d) h =
    let m = member_there true (typed_in p (name_in p (entry_at p c)) (entry_at p d)) n h in
    ap (named true) (typed_stays p q d (name_in p (entry_at p c)) (name_in q (entry_at q c)) m.0 x (λ t k. name_stays p q c t x (entry_at p c) refl k) (entry_at p d) refl m.1 ∙ sym m.1) ∙ h
named_of p q n x (Integer b) h = cc
named_of p q n x (Utf8 b) h = cc
named_of p q n x (Long b) h = cc
named_of p q n x (Class b) h = cc
named_of p q n x (Str b) h = cc
named_of p q n x (FieldRef b c) h = cc
named_of p q n x (NameAndType b c) h = cc

named_stays : (p q : Slots) (i : ℕ) (n : Named) → Extends p q → (w : Option Entry) → entry_at p i ≡ w → named_in p w ≡ Some n → named_in q (entry_at q i) ≡ Some n
named_stays p q i n x (Some e) h k = ap (named_in q) (entry_stays p q i e x h) ∙ named_of p q n x e k
named_stays p q i n x None h k = cc

native_stays : (p q : Slots) (i : ℕ) (id : NativeId) → Extends p q → NamesNative (named_in p (entry_at p i)) id → NamesNative (named_in q (entry_at q i)) id
native_stays p q i id x n = record { member = n.member; is = n.is; named_is = named_stays p q i _ x (entry_at p i) refl n.named_is }

-- an instruction stands for an operation over a larger pool too
stands_kept : (p q : Slots) (at : ℕ) (i : Instr) (op : Operation) → Extends p q → StandsFor p at i op → StandsFor q at i op
stands_kept p q at i (PushInt z) x h =
    ⊎_elim (λ e. inl e) (λ t. inr (t.0, t.1, constant_stays p q t.0 _ x (entry_at p t.0) refl t.2)) h
stands_kept p q at i (PushText t) x h = (h.0, h.1, constant_stays p q h.0 _ x (entry_at p h.0) refl h.2)
stands_kept p q at i (Load k n) x h = h
stands_kept p q at i (Store k n) x h = h
stands_kept p q at i (Compute o) x h = h
stands_kept p q at i Negate x h = h
stands_kept p q at i Discard x h = h
stands_kept p q at i (Call n) x h = (h.0, h.1, native_stays p q h.0 (native_of n) x h.2)
stands_kept p q at i (Jump d) x h = h
stands_kept p q at i (JumpIf t n) x h = h
stands_kept p q at i (JumpCompare t n) x h = h
stands_kept p q at i Leave x h = h

spells_kept : (p q : Slots) (at : ℕ) (is : List Instr) (ops : List Operation) → Extends p q → Spells p at is ops → Spells q at is ops
spells_kept p q at [] [] x h = tt
spells_kept p q at (i ∷ is) (o ∷ os) x h = (stands_kept p q at i o x h.0, h.1, spells_kept p q (at + bytes_of o) is os x h.2)
spells_kept p q at [] (o ∷ os) x h = absurd h
spells_kept p q at (i ∷ is) [] x h = absurd h

-- a stretch of code is spelled, and another one wherever it stands
spells_append : (p : Slots) (is js : List Instr) (os more : List Operation) (at : ℕ) → Spells p at is os → ((n : ℕ) → Spells p n js more) → Spells p at (is ++ js) (os ++ more)
spells_append p [] js [] more at h g = g at
spells_append p (i ∷ is) js (o ∷ os) more at h g = (h.0, h.1, spells_append p is js os more (at + bytes_of o) h.2 g)
spells_append p [] js (o ∷ os) more at h g = absurd h
spells_append p (i ∷ is) js [] more at h g = absurd h

-- an entry that goes to the pool takes its places there
pub grown_once : (p q : Slots) (e : Entry) → IndexesOnce p q e → length q ≤ length p + places_of e
grown_once p q e h = ⊎_elim (λ a. let l = ap length a.1 in omega (arith, l)) (λ a. let l = ap length a.1 in let m = length-append p (added e) in let n = by_kind e in omega (arith, l, m, n)) h
  where
    by_kind : (e : Entry) → length (added e) ≡ places_of e
    by_kind (Utf8 t) = refl
    by_kind (Integer n) = refl
    by_kind (Long n) = refl
    by_kind (Class n) = refl
    by_kind (Str n) = refl
    by_kind (FieldRef a b) = refl
    by_kind (MethodRef a b) = refl
    by_kind (InterfaceMethodRef a b) = refl
    by_kind (NameAndType a b) = refl

-- nothing is emitted
pub emits_none : (code : CodeBuffer) (p : Slots) → Emits code code p p []
emits_none code p = record {
  added = [];
  whole = sym (append-nil code.instrs.items);
  kept = extends_none p;
  fitted = λ f. f;
  spells = λ f at. tt;
  grown = λ f. omega arith;
  fits = λ f all room. f;
}

-- one instruction
pub emits_one : (old new : CodeBuffer) (p q : Slots) (i : Instr) (op : Operation) → new.instrs.items ≡ old.instrs.items ++ i ∷ [] → new.fits ≡ old.fits → Extends p q → length q ≤ length p + 2 * bytes_of op → IsFor q i op → Emits old new p q (op ∷ [])
emits_one old new p q i op e same x l f = record {
  added = i ∷ [];
  whole = e;
  kept = x;
  fitted = λ g. sym same ∙ g;
  spells = λ g at. (f.stands at, f.long, tt);
  grown = λ g. omega (arith, l);
  fits = λ g all room. same ∙ g;
}

-- an operation that has no instruction, or for which the pool has no room
pub emits_unfit : (old new : CodeBuffer) (p q : Slots) (op : Operation) → new.instrs.items ≡ old.instrs.items → new.fits ≡ false → Extends p q → (HasInstruction op → length p + 2 * bytes_of op ≤ 65535 → ⊥) → Emits old new p q (op ∷ [])
emits_unfit old new p q op e off x unfit = record {
  added = [];
  whole = e ∙ sym (append-nil old.instrs.items);
  kept = x;
  fitted = λ g. clash off g;
  spells = λ g. clash off g;
  grown = λ g. clash off g;
  fits = λ g all room. absurd (unfit all.0 (omega (arith, room)));
}
  where
    clash : {A : Type 0} {b : Bool} → b ≡ false → b ≡ true → A
    clash e f = absurd (let g = sym e ∙ f in cc)

-- one stretch behind another
pub emits_then : (a b c : CodeBuffer) (p q r : Slots) (ops more : List Operation) → Emits a b p q ops → Emits b c q r more → Emits a c p r (ops ++ more)
emits_then a b c p q r ops more f g =
    let n = bytes_append ops more in
    record {
      added = f.added ++ g.added;
      whole = g.whole ∙ ap (λ w. w ++ g.added) f.whole ∙ append_assoc a.instrs.items f.added g.added;
      kept = extends_on p q r f.kept g.kept;
      fitted = λ on. f.fitted (g.fitted on);
      spells = λ on at. spells_append r f.added g.added ops more at (spells_kept q r at f.added ops g.kept (f.spells (g.fitted on) at)) (g.spells on);
      grown = λ on. let l = f.grown (g.fitted on) in let m = g.grown on in omega (arith, l, m, n);
      fits = λ on all room.
          let first : b.fits ≡ true = f.fits on (all_front ops more all) (omega (arith, room, n)) in
          let l = f.grown first in
          g.fits first (all_behind ops more all) (omega (arith, room, n, l));
    }
  where
    all_front : (xs ys : List Operation) → HaveInstructions (xs ++ ys) → HaveInstructions xs
    all_front [] ys h = tt
    all_front (x ∷ xs) ys h = (h.0, all_front xs ys h.1)

    all_behind : (xs ys : List Operation) → HaveInstructions (xs ++ ys) → HaveInstructions ys
    all_behind [] ys h = h
    all_behind (x ∷ xs) ys h = all_behind xs ys h.1

-- one instruction that needs no entry of the pool, and how it comes at the code's end
pub emits_row : (old new : CodeBuffer) (i : Instr) (op : Operation) → new.instrs.items ≡ old.instrs.items ++ i ∷ [] → new.fits ≡ old.fits → ((p : Slots) → IsFor p i op) → (p : Slots) → Emits old new p p (op ∷ [])
emits_row old new i op e same f p = emits_one old new p p i op e same (extends_none p) (omega arith) (f p)

-- nothing is emitted yet
pub partly_none : (code : CodeBuffer) (p : Slots) (total : List Operation) → Partly code code p p total total
partly_none code p total = record { front = []; emitted = emits_none code p; whole = refl }

-- one stretch more
pub partly_on : (a b c : CodeBuffer) (p q r : Slots) (ops more rest total : List Operation) → rest ≡ ops ++ more → Partly a b p q rest total → Emits b c q r ops → Partly a c p r more total
partly_on a b c p q r ops more rest total e f g = record {
  front = f.front ++ ops;
  emitted = emits_then a b c p q r f.front ops f.emitted g;
  whole = append_assoc f.front ops more ∙ ap (λ w. f.front ++ w) (sym e) ∙ f.whole;
}

-- all is emitted
pub partly_all : (a b : CodeBuffer) (p q : Slots) (rest total : List Operation) → rest ≡ [] → Partly a b p q rest total → Emits a b p q total
partly_all a b p q rest total e f =
    subst (Emits a b p q) (sym (append-nil f.front) ∙ ap (λ w. f.front ++ w) (sym e) ∙ f.whole) f.emitted

-- a part and what comes behind it, and the parts behind that
pub next_part : (es : List Core) (i : ℕ) (e : Core) → i < length es → e ≡ get_or es i e → drop i es ≡ e ∷ drop (i + 1) es
next_part es i e lt h = drop_more es i e lt ∙ ap (λ x. x ∷ drop (i + 1) es) (sym h)

pub nothing_left : (es : List Core) (i : ℕ) → length es ≤ i → drop i es ≡ []
nothing_left es i h = drop_all i es h

-- code, and what stands behind it
pub emits_kept : (a b c : CodeBuffer) (p q r : Slots) (goes : Bool) (ops more : List Operation) → goes ≡ true → Emits a b p q ops → Emits b c q r more → Emits a c p r (ops ++ kept goes more)
emits_kept a b c p q r goes ops more on f g = subst (λ g. Emits a c p r (ops ++ kept g more)) (sym on) (emits_then a b c p q r ops more f g)

-- code that does not go on
pub emits_alone : (a b : CodeBuffer) (p q : Slots) (goes : Bool) (ops more : List Operation) → goes ≡ false → Emits a b p q ops → Emits a b p q (ops ++ kept goes more)
emits_alone a b p q goes ops more off f = subst (λ g. Emits a b p q (ops ++ kept g more)) (sym off) (subst (Emits a b p q) (sym (append-nil ops)) f)

-- two stretches of code, and what stands behind both
pub emits_two : (a b c : CodeBuffer) (p q r : Slots) (x y : Emitted) (tail : List Operation) → (x.goes_on && y.goes_on) ≡ true → Emits a b p q (x.code ++ kept x.goes_on y.code) → Emits b c q r tail → Emits a c p r (two_ops x y tail)
emits_two a b c p q r x y tail both f g = by_both x.goes_on y.goes_on both f
  where
    by_both : (u v : Bool) → (u && v) ≡ true → Emits a b p q (x.code ++ kept u y.code) → Emits a c p r (x.code ++ kept u (y.code ++ kept v tail))
    by_both true true e f = subst (Emits a c p r) (append_assoc x.code y.code tail) (emits_then a b c p q r (x.code ++ y.code) tail f g)
    by_both true false e f = cc
    by_both false v e f = cc

-- a test, and the value made of what it comes to
pub emits_truth : (a b c : CodeBuffer) (p q : Slots) (g goes : Bool) (ops whole : List Operation) → g ≡ goes → whole ≡ ops ++ kept goes truth → Emits a b p q ops → ((r : Slots) → Emits b c r r (kept g truth)) → Emits a c p q whole
emits_truth a b c p q g goes ops whole e is f h =
    subst (Emits a c p q) (sym is) (emits_then a b c p q q ops (kept goes truth) f (subst (λ g. Emits b c q q (kept g truth)) e (h q)))

-- code that begins empty
pub emits_all : (old new : CodeBuffer) (p q : Slots) (ops : List Operation) → old.instrs.items ≡ [] → new.fits ≡ true → Emits old new p q ops → Spells q 0 new.instrs.items ops
emits_all old new p q ops e on f = subst (λ is. Spells q 0 is ops) (sym (f.whole ∙ ap (λ w. w ++ f.added) e)) (f.spells on 0)
