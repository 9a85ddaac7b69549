-- The entries of a code by byte offset, and what the links of a set say of it.
use Rattle.std.proofs.Common.{◌≡◌, ℕ, zero, suc, ◌+◌, ◌-◌, ◌<◌, ◌≤◌, Bool, true, false, cond, eqb, ltb, List, [], ◌∷◌, ◌++◌, length, get_or, take, drop, Option, Some, None, refl, sym, ap, subst, ◌∙◌, append_assoc, length-append, arith, ◌⊎◌, inl, inr, nat_eq, add-one, lit<, if◌then◌else◌}
use Rattle.std.specs.Prelude.{slice_get, map, ℤ, codes, ◌&&◌}
use Rattle.std.specs.Option.{option_map}
use Rattle.std.specs.Cmp.Lexicographic.{pointwise}
use Rattle.std.proofs.Math.ListN.{replicate, get_or-append}
use Rattle.std.proofs.Math.Seq.{drop-cons}
use Rattle.std.proofs.lemmas.List.{length-replicate, length-map, length-take-le, get_or-replicate, get_or-append_right, map-append, take_more}
use Rattle.std.proofs.lemmas.Option.{slice_get-get_or, slice_get_within, get_or_from_slice_get, slice_get-map}
use Rattle.std.proofs.lemmas.Bool.{eqb-true, eqb-false, ltb-false}
use Rattle.class_file.specs.declared.class.Set.{Set}
use Rattle.class_file.specs.declared.class.ClassFile.{ClassFile}
use Rattle.class_file.specs.declared.class.Method.{Method}
use Rattle.class_file.specs.declared.instr.Instr.{Instr}
use Rattle.class_file.specs.declared.instr.Instr.TheVariants as instr
use Rattle.class_file.specs.declared.pool.Entry.{Entry}
use Rattle.class_file.specs.declared.value.NativeId.{NativeId}
use Rattle.class_file.specs.declared.value.NativeId.TheVariants as native_is
use Rattle.class_file.specs.Rows.{length_of, instr_at}
use Rattle.class_file.specs.Pools.{Slots, Constant, Member, entry_at, flat, is_text, is_member, named_in as entry_named}
use Rattle.class_file.specs.Pools as pools
use Rattle.class_file.specs.Descriptors.{Signature}
use Rattle.class_file.specs.Classes.{number_of_place, console_class, texts_class}
use Rattle.class_file.specs.Members.{call_or_none, type_of_field}
use Rattle.class_file.specs.Machine.{Callee, pool_of, class_pool, methods_of, method_at, handlers_of, instr_in, fetch, constant, long_constant}
use Rattle.class_file.specs.Lots.{NamesNative, native_member, native_called}
use Rattle.class_machine.specs.declared.links.Op.{Op}
use Rattle.class_machine.specs.declared.links.Link.{Link}
use Rattle.class_machine.specs.declared.links.LinkedHandler.{LinkedHandler}
use Rattle.class_machine.specs.declared.links.LinkedMethod.{LinkedMethod}
use Rattle.class_machine.specs.declared.links.LinkedClass.{LinkedClass}
use Rattle.class_machine.specs.declared.links.Links.{Links}
use Rattle.class_machine.specs.Lot.{CallsOwn}
use Rattle.class_machine.specs.Links.{op_of, ops_of, IsLinked, Meaning, meaning_of, meaning_in, names, natives, first_named, native_named, native_in, native_of, constant_of, wide_of, target_of, target_called, target_at, count_of, locals_of, own_in, own_in_class, unless_native, plain_target, main_target, linked_handler, MethodParts, method_parts, method_parts_of, Parts, parts, parts_of, all_parts, methods_in, ops_in, handlers_in, initialiser_in, constants_in, op_at, link_at, native_at, own_at, wide_at, constant_at, handlers_at, initialiser_at}

positive : (i : Instr) → 0 < length_of i
positive instr.Nop = lit< tt
positive _ = lit< tt

run_get : (n q : ℕ) (op : Op) (rest : List Op) → q < n → slice_get (replicate n op ++ rest) q ≡ Some op
run_get n q op rest h =
    let within : q < length (replicate n op) = omega (arith, length-replicate n op) in
    slice_get-get_or (replicate n op ++ rest) q op (omega (arith, length-append (replicate n op) rest)) ∙ ap Some (get_or-append (replicate n op) rest op q within ∙ get_or-replicate n q op op h)

past_get : (n q : ℕ) (op : Op) (rest : List Op) (o : Op) → n ≤ q → slice_get rest (q - n) ≡ Some o → slice_get (replicate n op ++ rest) q ≡ Some o
past_get n q op rest o h e =
    let within = slice_get_within rest (q - n) o e in
    let len = length-replicate n op in
    slice_get-get_or (replicate n op ++ rest) q o (omega (arith, length-append (replicate n op) rest)) ∙ ap Some (get_or-append_right (replicate n op) rest n q o len h ∙ get_or_from_slice_get rest (q - n) o o e)

some_instr : (x y : Instr) → (let o : Option Instr = Some x in o) ≡ Some y → x ≡ y
some_instr x y e = cc

-- how the search for an instruction ended
data Found (i0 i : Instr) (is : List Instr) (q : ℕ) : Type 0 where
  Here : q ≡ 0 → i0 ≡ i → Found i0 i is q
  Later : length_of i0 ≤ q → instr_at is (q - length_of i0) ≡ Some i → Found i0 i is q

found : (i0 i : Instr) (is : List Instr) (q : ℕ) (b c : Bool) → eqb q 0 ≡ b → ltb q (length_of i0) ≡ c → cond b (Some i0) (cond c None (instr_at is (q - length_of i0))) ≡ Some i → Found i0 i is q
found i0 i is q true c hb hc e = Here (eqb-true q 0 hb) (some_instr i0 i e)
found i0 i is q false true hb hc e = absurd cc
found i0 i is q false false hb hc e = Later (ltb-false q (length_of i0) hc) e

found_at : (i0 i : Instr) (is : List Instr) (q : ℕ) → instr_at (i0 ∷ is) q ≡ Some i → Found i0 i is q
unfolding instr_at
found_at i0 i is q e = found i0 i is q (eqb q 0) (ltb q (length_of i0)) refl refl e

nothing_at : (q : ℕ) (i : Instr) → instr_at [] q ≡ Some i → ⊥
unfolding instr_at
nothing_at q i e = cc

pub placed : (is : List Instr) (p q : ℕ) (i : Instr) → instr_at is q ≡ Some i → slice_get (ops_of p is) q ≡ Some (op_of (p + q) i)
placed [] p q i e = absurd (nothing_at q i e)
placed (i0 ∷ is) p q i e =
    elim (found_at i0 i is q e) [
      | Here z same ↦
          let pos : 0 < length_of i0 = positive i0 in
          let at : p + q ≡ p = omega arith in
          run_get (length_of i0) q (op_of p i0) (ops_of (p + length_of i0) is) (omega arith) ∙ ap (λ (x : Instr). Some (op_of p x)) same ∙ ap (λ (n : ℕ). Some (op_of n i)) (sym at)
      | Later le h ↦
          let at : p + length_of i0 + (q - length_of i0) ≡ p + q = omega arith in
          past_get (length_of i0) q (op_of p i0) (ops_of (p + length_of i0) is) (op_of (p + q) i) le (placed is (p + length_of i0) (q - length_of i0) i h ∙ ap (λ (n : ℕ). Some (op_of n i)) at)
    ]

-- one more instruction spread out
pub one_more : (code : List Instr) (k : ℕ) (d : Instr) (ops new total : List Op) → k < length code → new ≡ ops ++ replicate (length_of (get_or code k d)) (op_of (length ops) (get_or code k d)) → ops ++ ops_of (length ops) (drop k code) ≡ total → new ++ ops_of (length new) (drop (k + 1) code) ≡ total
one_more code k d ops new total lt h e =
    let i = get_or code k d in
    let front = replicate (length_of i) (op_of (length ops) i) in
    let len : length new ≡ length ops + length_of i = ap length h ∙ length-append ops front ∙ ap (λ (n : ℕ). length ops + n) (length-replicate (length_of i) (op_of (length ops) i)) in
    let cut : drop k code ≡ i ∷ drop (k + 1) code = drop-cons code k d lt ∙ ap (λ (n : ℕ). i ∷ drop n code) (sym (add-one k)) in
    ap (λ (x : List Op). x ++ ops_of (length new) (drop (k + 1) code)) h ∙ ap (λ (n : ℕ). (ops ++ front) ++ ops_of n (drop (k + 1) code)) len ∙ append_assoc ops front (ops_of (length ops + length_of i) (drop (k + 1) code)) ∙ ap (λ (c : List Instr). ops ++ ops_of (length ops) c) (sym cut) ∙ e

pub flat_some : (slot : Option Entry) → flat (Some slot) ≡ slot
flat_some (Some e) = refl
flat_some None = refl

-- what stands at an index of two lists that a function makes equal
pub same_at : {A B Y : Type 0} (f : A → Y) (g : B → Y) (xs : List A) (ys : List B) (i : ℕ) (y : B) → map f xs ≡ map g ys → slice_get ys i ≡ Some y → (x : A) × (slice_get xs i ≡ Some x) × (f x ≡ g y)
same_at f g xs ys i y e h = by (slice_get xs i) refl (sym (slice_get-map f xs i) ∙ ap (λ (s : List _). slice_get s i) e ∙ slice_get-map g ys i ∙ ap (option_map g) h)
  where
    by : (o : Option _) → slice_get xs i ≡ o → option_map f o ≡ Some (g y) → (x : _) × (slice_get xs i ≡ Some x) × (f x ≡ g y)
    by None k q = absurd cc
    by (Some x) k q = (x, k, (let r : f x ≡ g y = cc in r))

eqb-from_eq : (m n : ℕ) → m ≡ n → eqb m n ≡ true
eqb-from_eq m n e = by (eqb m n) refl
  where
    by : (b : Bool) → eqb m n ≡ b → b ≡ true
    by true k = refl
    by false k = absurd (eqb-false m n k e)

eqb-from_neq : (m n : ℕ) → ¬ (m ≡ n) → eqb m n ≡ false
eqb-from_neq m n e = by (eqb m n) refl
  where
    by : (b : Bool) → eqb m n ≡ b → b ≡ false
    by true k = absurd (e (eqb-true m n k))
    by false k = refl

head_same : (a b : List ℕ) (i : ℕ) → i < length a → i < length b → pointwise nat_eq (drop i a) (drop i b) ≡ (nat_eq (get_or a i 0) (get_or b i 0) && pointwise nat_eq (drop (i + 1) a) (drop (i + 1) b))
head_same a b i la lb =
    ap (λ (x : List ℕ). pointwise nat_eq x (drop i b)) (drop-cons a i 0 la) ∙ ap (λ (x : List ℕ). pointwise nat_eq (get_or a i 0 ∷ drop (suc i) a) x) (drop-cons b i 0 lb)
    ∙ ap (λ (n : ℕ). nat_eq (get_or a i 0) (get_or b i 0) && pointwise nat_eq (drop n a) (drop n b)) (sym (add-one i))

-- one more character compared
pub same_head : (a b : List ℕ) (i x : ℕ) → i < length b → slice_get a i ≡ Some x → x ≡ get_or b i 0 → pointwise nat_eq (drop i a) (drop i b) ≡ pointwise nat_eq (drop (i + 1) a) (drop (i + 1) b)
same_head a b i x lb h e =
    let t : nat_eq (get_or a i 0) (get_or b i 0) ≡ true = eqb-from_eq (get_or a i 0) (get_or b i 0) (get_or_from_slice_get a i x 0 h ∙ e) in
    head_same a b i (slice_get_within a i x h) lb ∙ ap (λ (t : Bool). t && pointwise nat_eq (drop (i + 1) a) (drop (i + 1) b)) t

pub other_head : (a b : List ℕ) (i x : ℕ) → i < length b → slice_get a i ≡ Some x → ¬ (x ≡ get_or b i 0) → false ≡ pointwise nat_eq (drop i a) (drop i b)
other_head a b i x lb h e =
    let f : nat_eq (get_or a i 0) (get_or b i 0) ≡ false = eqb-from_neq (get_or a i 0) (get_or b i 0) (λ k. e (sym (get_or_from_slice_get a i x 0 h) ∙ k)) in
    sym (head_same a b i (slice_get_within a i x h) lb ∙ ap (λ (t : Bool). t && pointwise nat_eq (drop (i + 1) a) (drop (i + 1) b)) f)

-- one more index linked
pub one_link : (classes : List ClassFile) (pool : Slots) (links new : List Link) (l : Link) (i : ℕ) → i < length pool → new ≡ links ++ l ∷ [] → meaning_of l ≡ meaning_in classes pool (entry_at pool i) → map meaning_of links ≡ map (meaning_in classes pool) (take i pool) → map meaning_of new ≡ map (meaning_in classes pool) (take (i + 1) pool)
one_link classes pool links new l i lt is means e =
    let slot = get_or pool i None in
    let at : entry_at pool i ≡ slot = ap flat (slice_get-get_or pool i None lt) ∙ flat_some slot in
    ap (map meaning_of) is ∙ map-append meaning_of links (l ∷ []) ∙ ap (λ (ms : List Meaning). ms ++ meaning_of l ∷ []) e
    ∙ ap (λ (m : Meaning). map (meaning_in classes pool) (take i pool) ++ m ∷ []) (means ∙ ap (meaning_in classes pool) at)
    ∙ sym (ap (map (meaning_in classes pool)) (take_more pool i None lt) ∙ map-append (meaning_in classes pool) (take i pool) (slot ∷ []))

some_member : (a b : Member) → (let o : Option Member = Some a in o) ≡ Some b → a ≡ b
some_member a b e = cc

-- each native is found by its name
native_known : (id : NativeId) (m : Member) → native_member id ≡ Some m → native_named m ≡ Some id
native_known native_is.TextsOfInt m e = ap native_named (sym (some_member _ m e))
native_known native_is.TextsOfLong m e = ap native_named (sym (some_member _ m e))
native_known native_is.TextsOfChar m e = ap native_named (sym (some_member _ m e))
native_known native_is.TextsOfBoolean m e = ap native_named (sym (some_member _ m e))
native_known native_is.TextsConcat m e = ap native_named (sym (some_member _ m e))
native_known native_is.ConsoleWrite m e = ap native_named (sym (some_member _ m e))
native_known _ m e = absurd cc

native_found : (o : Option pools.Named) (id : NativeId) → NamesNative o id → native_in o ≡ Some id
native_found o id n = ap native_in n.named_is ∙ native_known id n.member n.is

both_true : (a b : Bool) → (a && b) ≡ true → (a ≡ true) × (b ≡ true)
both_true true b e = (refl, e)
both_true false b e = absurd cc

-- two texts that compare as one are one
text_same : (a b : List ℕ) → is_text a b ≡ true → a ≡ b
text_same [] [] e = refl
text_same [] (v ∷ vs) e = absurd cc
text_same (u ∷ us) [] e = absurd cc
text_same (u ∷ us) (v ∷ vs) e =
    let p = both_true (eqb u v) (pointwise nat_eq us vs) e in
    ap (λ (x : ℕ). x ∷ us) (eqb-true u v p.0) ∙ ap (λ (xs : List ℕ). v ∷ xs) (text_same us vs p.1)

member_same : (a b : Member) → is_member a b ≡ true → a ≡ b
member_same a b e =
    let p = both_true (is_text a.owner b.owner) (is_text a.name b.name && is_text a.descriptor b.descriptor) e in
    let q = both_true (is_text a.name b.name) (is_text a.descriptor b.descriptor) p.1 in
    ap (λ (t : List ℕ). record { owner = t; name = a.name; descriptor = a.descriptor }) (text_same a.owner b.owner p.0)
    ∙ ap (λ (t : List ℕ). record { owner = b.owner; name = t; descriptor = a.descriptor }) (text_same a.name b.name q.0)
    ∙ ap (λ (t : List ℕ). record { owner = b.owner; name = b.name; descriptor = t }) (text_same a.descriptor b.descriptor q.1)

-- a native that is found is called so
names_member : (id : NativeId) (m : Member) (o : Option Member) → native_member id ≡ o → elim o as (λ _. Bool) [ Some member ↦ is_member m member | None ↦ false ] ≡ true → native_member id ≡ Some m
names_member id m None k e = absurd cc
names_member id m (Some member) k e = k ∙ ap Some (sym (member_same m member e))

pub first_names : (ids : List NativeId) (m : Member) (id : NativeId) → first_named ids m ≡ Some id → native_member id ≡ Some m
first_names [] m id e = absurd cc
first_names (x ∷ ids) m id e = by (names x m) refl e (first_names ids m id)
  where
    some_native : (a b : NativeId) → (let o : Option NativeId = Some a in o) ≡ Some b → a ≡ b
    some_native a b q = cc

    by : (b : Bool) → names x m ≡ b → (if b then Some x else first_named ids m) ≡ Some id → (first_named ids m ≡ Some id → native_member id ≡ Some m) → native_member id ≡ Some m
    by true k q more = subst (λ (y : NativeId). native_member y ≡ Some m) (some_native x id q) (names_member x m (native_member x) refl k)
    by false k q more = more q

-- what the class of the set has is no native
not_native : (set : Set) (from i : ℕ) (c : CallsOwn set from i) → native_named c.member ≡ None
not_native set from i c = by (native_named c.member) refl
  where
    some_callee : (a b : Callee) → (let o : Option Callee = Some a in o) ≡ Some b → a ≡ b
    some_callee a b q = cc

    apart : (n : ℕ) → (n ≡ console_class) ⊎ (n ≡ texts_class) → n ≡ number_of_place c.class → ⊥
    apart n (inl h) k = omega (arith, h, k)
    apart n (inr h) k = omega (arith, h, k)

    by : (o : Option NativeId) → native_named c.member ≡ o → o ≡ None
    by None k = refl
    by (Some id) k =
        let n = native_called set id c.member (first_names natives c.member id k) in
        let same : n.callee ≡ c.to = some_callee n.callee c.to (sym n.is ∙ c.callee_is) in
        absurd (apart n.callee.found.class n.built_in (ap (λ (x : Callee). x.found.class) same ∙ c.found_in))

-- ---- what the links of a set keep

-- an instruction that the definition finds, by its class and its method
pub record Fetched (set : Set) (class method at : ℕ) (i : Instr) : Type 0 where
  pub c : ClassFile
  pub m : Method
  pub class_is : slice_get set.classes class ≡ Some c
  pub method_is : slice_get c.methods method ≡ Some m
  pub instr_is : instr_at m.code at ≡ Some i

in_class : (set : Set) (class method at : ℕ) (i : Instr) (c : ClassFile) (o : Option Method) → slice_get set.classes class ≡ Some c → slice_get c.methods method ≡ o → instr_in o at ≡ Some i → Fetched set class method at i
in_class set class method at i c None k h e = absurd cc
in_class set class method at i c (Some m) k h e = record { c = c; m = m; class_is = k; method_is = h; instr_is = e }

fetched_by : (set : Set) (class method at : ℕ) (i : Instr) (o : Option ClassFile) → slice_get set.classes class ≡ o → instr_in (slice_get (methods_of o) method) at ≡ Some i → Fetched set class method at i
fetched_by set class method at i None k e = absurd cc
fetched_by set class method at i (Some c) k e = in_class set class method at i c (slice_get c.methods method) k refl e

pub fetched : (set : Set) (class method at : ℕ) (i : Instr) → fetch set class method at ≡ Some i → Fetched set class method at i
unfolding fetch
fetched set class method at i e = fetched_by set class method at i (slice_get set.classes class) refl e

-- the parts of the class at a place
all_at : (classes : List ClassFile) (p : ℕ) (cs : List ClassFile) (i : ℕ) → slice_get (all_parts classes p cs) i ≡ option_map (λ (c : ClassFile). parts_of classes (p + i) c) (slice_get cs i)
all_at classes p [] i = refl
all_at classes p (c ∷ cs) zero = let z : p + 0 ≡ p = omega arith in ap (λ (k : ℕ). Some (parts_of classes k c)) (sym z)
all_at classes p (c ∷ cs) (suc i) =
    let n : (p + 1) + i ≡ p + suc i = omega arith in
    all_at classes (p + 1) cs i ∙ ap (λ (k : ℕ). option_map (λ (d : ClassFile). parts_of classes k d) (slice_get cs i)) n

all_append : (classes : List ClassFile) (p : ℕ) (cs : List ClassFile) (c : ClassFile) → all_parts classes p (cs ++ c ∷ []) ≡ all_parts classes p cs ++ parts_of classes (p + length cs) c ∷ []
all_append classes p [] c = let z : p + 0 ≡ p = omega arith in ap (λ (k : ℕ). parts_of classes k c ∷ []) (sym z)
all_append classes p (d ∷ cs) c =
    let n : (p + 1) + length cs ≡ p + suc (length cs) = omega arith in
    ap (λ (ps : List Parts). parts_of classes p d ∷ ps) (all_append classes (p + 1) cs c)
    ∙ ap (λ (k : ℕ). parts_of classes p d ∷ all_parts classes (p + 1) cs ++ parts_of classes k c ∷ []) n

-- one more class linked
pub one_class : (classes : List ClassFile) (linked new : List LinkedClass) (l : LinkedClass) (k : ℕ) (d : ClassFile) → k < length classes → new ≡ linked ++ l ∷ [] → parts l ≡ parts_of classes k (get_or classes k d) → map parts linked ≡ all_parts classes 0 (take k classes) → map parts new ≡ all_parts classes 0 (take (k + 1) classes)
one_class classes linked new l k d lt is parts_are e =
    let n : 0 + length (take k classes) ≡ k = omega (arith, length-take-le k classes (omega arith)) in
    ap (map parts) is ∙ map-append parts linked (l ∷ []) ∙ ap (λ (ps : List Parts). ps ++ parts l ∷ []) e
    ∙ ap (λ (p : Parts). all_parts classes 0 (take k classes) ++ p ∷ []) parts_are
    ∙ ap (λ (j : ℕ). all_parts classes 0 (take k classes) ++ parts_of classes j (get_or classes k d) ∷ []) (sym n)
    ∙ sym (all_append classes 0 (take k classes) (get_or classes k d))
    ∙ ap (all_parts classes 0) (sym (take_more classes k d lt))

module _ (set : Set) (links : Links) (h : map parts links.classes.items ≡ all_parts set.classes 0 set.classes) where
  parts_at : (class : ℕ) → option_map parts (slice_get links.classes.items class) ≡ option_map (λ (c : ClassFile). parts_of set.classes class c) (slice_get set.classes class)
  parts_at class =
      let z : 0 + class ≡ class = omega arith in
      sym (slice_get-map parts links.classes.items class) ∙ ap (λ (ps : List Parts). slice_get ps class) h ∙ all_at set.classes 0 set.classes class
      ∙ ap (λ (k : ℕ). option_map (λ (c : ClassFile). parts_of set.classes k c) (slice_get set.classes class)) z

  -- a linked class, by its class
  record Linked (class : ℕ) (c : ClassFile) : Type 0 where
    l : LinkedClass
    at : slice_get links.classes.items class ≡ Some l
    is : parts l ≡ parts_of set.classes class c

  linked_class : (class : ℕ) (c : ClassFile) → slice_get set.classes class ≡ Some c → Linked class c
  linked_class class c k = by (slice_get links.classes.items class) refl (parts_at class ∙ ap (option_map (λ (d : ClassFile). parts_of set.classes class d)) k)
    where
      by : (o : Option LinkedClass) → slice_get links.classes.items class ≡ o → option_map parts o ≡ Some (parts_of set.classes class c) → Linked class c
      by None e q = absurd cc
      by (Some l) e q = record { l = l; at = e; is = (let r : parts l ≡ parts_of set.classes class c = cc in r) }

  ops_are : (class method at : ℕ) (i : Instr) → fetch set class method at ≡ Some i → op_at links class method at ≡ Some (op_of at i)
  ops_are class method at i e =
      let f = fetched set class method at i e in
      let k = linked_class class f.c f.class_is in
      let m = same_at method_parts (method_parts_of f.c.pool) k.l.methods.items f.c.methods method f.m (ap (λ (p : Parts). p.methods) k.is) f.method_is in
      let z : 0 + at ≡ at = omega arith in
      ap (λ (o : Option LinkedClass). slice_get (ops_in (slice_get (methods_in o) method)) at) k.at
      ∙ ap (λ (o : Option LinkedMethod). slice_get (ops_in o) at) m.1
      ∙ ap (λ (p : MethodParts). slice_get p.ops at) m.2
      ∙ placed f.m.code 0 at i f.instr_is
      ∙ ap (λ (n : ℕ). Some (op_of n i)) z

  -- ---- exception tables

  abbrev rows_of : Option MethodParts → List LinkedHandler
  rows_of None = []
  rows_of (Some p) = p.handlers

  rows_linked : (o : Option LinkedMethod) → handlers_in o ≡ rows_of (option_map method_parts o)
  rows_linked None = refl
  rows_linked (Some m) = refl

  rows_of_method : (pool : Slots) (o : Option Method) → rows_of (option_map (method_parts_of pool) o) ≡ map (linked_handler pool) (handlers_of o)
  rows_of_method pool None = refl
  rows_of_method pool (Some m) = refl

  handlers_by : (class method : ℕ) (o : Option ClassFile) (q : Option LinkedClass) → slice_get set.classes class ≡ o → slice_get links.classes.items class ≡ q
      → option_map parts q ≡ option_map (λ (c : ClassFile). parts_of set.classes class c) o → handlers_in (slice_get (methods_in q) method) ≡ map (linked_handler (pool_of o)) (handlers_of (slice_get (methods_of o) method))
  handlers_by class method None None e k p = refl
  handlers_by class method None (Some l) e k p = absurd cc
  handlers_by class method (Some c) None e k p = absurd cc
  handlers_by class method (Some c) (Some l) e k p =
      let same : parts l ≡ parts_of set.classes class c = cc in
      rows_linked (slice_get l.methods.items method)
      ∙ ap rows_of (sym (slice_get-map method_parts l.methods.items method))
      ∙ ap (λ (x : Parts). rows_of (slice_get x.methods method)) same
      ∙ ap rows_of (slice_get-map (method_parts_of c.pool) c.methods method)
      ∙ rows_of_method c.pool (slice_get c.methods method)

  handlers_are : (class method : ℕ) → handlers_at links class method ≡ map (linked_handler (class_pool set class)) (handlers_of (method_at set class method))
  handlers_are class method = handlers_by class method (slice_get set.classes class) (slice_get links.classes.items class) refl refl (parts_at class)

  initialisers_are : (class : ℕ) (c : ClassFile) → slice_get set.classes class ≡ Some c → initialiser_at links class ≡ plain_target class (codes "<clinit>") c.methods
  initialisers_are class c e = let k = linked_class class c e in ap initialiser_in k.at ∙ ap (λ (p : Parts). p.initialiser) k.is

  -- ---- names of pools

  -- what an index of a class's pool means is what its link means
  record Names (class i : ℕ) : Type 0 where
    l : Link
    at : link_at links class i ≡ Some l
    is : meaning_of l ≡ meaning_in set.classes (class_pool set class) (entry_at (class_pool set class) i)

  abbrev Named : ℕ → ℕ → Type 0
  Named class i = (entry_at (class_pool set class) i ≡ None) ⊎ Names class i

  named_in_class : (class i : ℕ) (c : ClassFile) (o : Option (Option Entry)) → Linked class c → slice_get set.classes class ≡ Some c → slice_get c.pool i ≡ o → Named class i
  named_in_class class i c None k e h = inl (ap (λ (o : Option ClassFile). entry_at (pool_of o) i) e ∙ ap flat h)
  named_in_class class i c (Some slot) k e h =
      let x = same_at meaning_of (meaning_in set.classes c.pool) k.l.constants.items c.pool i slot (ap (λ (p : Parts). p.meanings) k.is) h in
      let pool : class_pool set class ≡ c.pool = ap pool_of e in
      let entry : entry_at c.pool i ≡ slot = ap flat h ∙ flat_some slot in
      inr (record {
        l = x.0;
        at = ap (λ (o : Option LinkedClass). slice_get (constants_in o) i) k.at ∙ x.1;
        is = x.2 ∙ ap (meaning_in set.classes c.pool) (sym entry) ∙ sym (ap (λ (p : Slots). meaning_in set.classes p (entry_at p i)) pool);
      })

  named_by : (class i : ℕ) (o : Option ClassFile) → slice_get set.classes class ≡ o → Named class i
  named_by class i None e = inl (ap (λ (o : Option ClassFile). entry_at (pool_of o) i) e)
  named_by class i (Some c) e = named_in_class class i c (slice_get c.pool i) (linked_class class c e) e refl

  named : (class i : ℕ) → Named class i
  named class i = named_by class i (slice_get set.classes class) refl

  natives_are : (class i : ℕ) (id : NativeId) → Named class i → NamesNative (entry_named (class_pool set class) (entry_at (class_pool set class) i)) id → native_at links class i ≡ Some id
  natives_are class i id (inl none) n = let h = rw none at n.named_is in absurd cc
  natives_are class i id (inr k) n =
      ap (λ (o : Option Link). elim o [ Some l ↦ native_of l | None ↦ None ]) k.at ∙ ap (λ (m : Meaning). m.native) k.is ∙ native_found _ id n

  wides_are : (class i : ℕ) (n : ℤ) → Named class i → long_constant set class i ≡ Some n → wide_at links class i ≡ Some n
  unfolding long_constant
  wides_are class i n (inl none) e = absurd (let h = rw none at e in cc)
  wides_are class i n (inr k) e =
      ap (λ (o : Option Link). elim o [ Some l ↦ wide_of l | None ↦ None ]) k.at ∙ ap (λ (m : Meaning). m.wide) k.is ∙ e

  constants_are : (class i : ℕ) (k : Constant) → Named class i → constant set class i ≡ Some k → constant_at links class i ≡ Some k
  unfolding constant
  constants_are class i k (inl none) e = absurd (let h = rw none at e in cc)
  constants_are class i k (inr n) e =
      ap (λ (o : Option Link). elim o [ Some l ↦ constant_of l | None ↦ None ]) n.at ∙ ap (λ (m : Meaning). m.constant) n.is ∙ e

  -- what a call of a method of the set is linked to
  own_found : (from i : ℕ) (c : CallsOwn set from i) → own_in set.classes (entry_named (class_pool set from) (entry_at (class_pool set from) i)) ≡ Some (target_called c)
  own_found from i c =
      ap (own_in set.classes) c.named_is
      ∙ ap (own_in_class set.classes c.member) c.class_is
      ∙ ap (target_at c.class (methods_of (slice_get set.classes c.class)) (count_of c.member.descriptor)) c.place_is
      ∙ ap (λ (o : Option Method). Some (record { class = c.class; method = c.place; params = count_of c.member.descriptor; max_locals = locals_of o })) c.method_is
      ∙ ap (λ (o : Option Signature). Some (record { class = c.class; method = c.place; params = length (call_or_none o).params; max_locals = c.method.max_locals })) c.signed
      ∙ ap (λ (n : ℕ). Some (record { class = c.class; method = c.place; params = n; max_locals = c.method.max_locals })) (length-map c.to.signature.params type_of_field)

  owns_are : (from i : ℕ) (c : CallsOwn set from i) → Named from i → own_at links from i ≡ Some (target_called c)
  owns_are from i c (inl none) = let h = rw none at c.named_is in absurd cc
  owns_are from i c (inr k) =
      ap (λ (o : Option Link). elim o [ Some l ↦ target_of l | None ↦ None ]) k.at ∙ ap (λ (m : Meaning). m.own) k.is
      ∙ ap (λ (o : Option NativeId). unless_native o (own_in set.classes (entry_named (class_pool set from) (entry_at (class_pool set from) i)))) (ap native_in c.named_is ∙ not_native set from i c)
      ∙ own_found from i c

  pub is_linked : links.main ≡ main_target set → IsLinked set links
  is_linked main = record {
    ops = ops_are;
    natives = λ class i id n. natives_are class i id (named class i) n;
    owns = λ class i c. owns_are class i c (named class i);
    wides = λ class i n e. wides_are class i n (named class i) e;
    constants = λ class i k e. constants_are class i k (named class i) e;
    handlers = handlers_are;
    initialisers = initialisers_are;
    main = main;
  }
