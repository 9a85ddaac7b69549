-- The verifier goes from what is known before an instruction to what its operation makes of it.
use Rattle.std.proofs.Common.{◌≡◌, ℕ, zero, suc, ◌+◌, ◌-◌, ◌<◌, ◌≤◌, List, [], ◌∷◌, ◌++◌, length, Option, Some, None, Bool, true, false, refl, sym, ap, ◌∙◌, subst, arith, ⊎_elim}
use Rattle.std.specs.Prelude.{slice_get, slice_set, replicate, drop, nat_lt, cond, ◌==◌, ◌||◌, if◌then◌else◌, Ok, Err, ℤ}
use Rattle.std.proofs.Math.ListN.{length-replicate}
use Rattle.std.proofs.lemmas.Bool.{le-ltb, ne_eqb, eq-eqb}
use Rattle.kc_core.specs.declared.tree.TypeTree.{TypeTree}
use Rattle.kc_core.specs.declared.tree.TypeTree.TheVariants as type_is
use Rattle.kc_core.specs.declared.tree.Local.{Local}
use Rattle.kc_core.specs.Formed.{Assigned, marked}
use Rattle.class_file.specs.declared.value.Kind.{Kind}
use Rattle.class_file.specs.declared.value.Kind.TheVariants as kinds
use Rattle.class_file.specs.declared.class.VType.{VType}
use Rattle.class_file.specs.declared.class.VType.TheVariants as vtype
use Rattle.class_file.specs.declared.class.ClassFile.{ClassFile}
use Rattle.class_file.specs.declared.class.Method.{Method}
use Rattle.class_file.specs.declared.class.Set.{Set}
use Rattle.class_file.specs.declared.instr.Instr.{Instr}
use Rattle.class_file.specs.declared.row.Row.{Row}
use Rattle.class_file.specs.declared.row.Row.TheVariants as row
use Rattle.class_file.specs.declared.pool.Entry.{Entry}
use Rattle.class_file.specs.declared.pool.Entry.TheVariants as entry
use Rattle.class_file.specs.declared.verify_code.VerifyCode.{VerifyCode}
use Rattle.class_file.specs.declared.verify_code.VerifyCode.TheVariants as code
use Rattle.class_file.specs.Rows.{row_of, target}
use Rattle.class_file.specs.Pools.{constant_in, Constant, Number, Literal, Slots, Member, Named, named, named_in, name_in, typed_in, entry_at}
use Rattle.class_file.specs.Lots.{NamesNative, native_member}
use Rattle.class_file.specs.Classes.{built_ins}
use Rattle.class_file.specs.Members.{Call, described, static_call, static_entry, static_member}
use Rattle.class_file.specs.Typing.{Types, call_needs, call_width, Verdict, widths, left, refuse, room_fault, typed, stepped, reaches, needs, gives, t_pushed, t_load, t_call, t_return, constant_type, cut_at, cut_long, takes_one, result_types}
use Rattle.class_file.specs.Verification.{spread, padded}
use Rattle.stack_code.specs.declared.constants.Helper.{Helper}
use Rattle.stack_code.specs.declared.constants.Helper.TheVariants as helper
use Rattle.stack_code.specs.Code.{Operation, PushInt, PushText, Load, Store, Compute, Negate, Discard, Call as CallOp, Jump, JumpIf, JumpCompare, Leave, loads, stores, native_of, StandsFor}
use Rattle.stack_code.specs.Frames.{Known, text_type, value_types, effect, local_type, local_types}
use Rattle.stack_code.proofs.Flowing.{Takes, params}
use Rattle.stack_code.proofs.Lists.{within, get_front}

-- ---- types of locals

abbrev pub is_long : VType → Bool
is_long vtype.Long = true
is_long _ = false

abbrev pub Narrow : List VType → Type 0
Narrow [] = Unit {0}
Narrow (t ∷ ts) = (is_long t ≡ false) × Narrow ts

narrow_local : (ty : TypeTree) (b : Bool) → is_long (if b then local_type ty else vtype.Top) ≡ false
narrow_local type_is.Int true = refl
narrow_local type_is.Boolean true = refl
narrow_local type_is.String true = refl
narrow_local type_is.Unit true = refl
narrow_local ty false = refl

pub narrow_locals : (y : ℕ) (ls : List Local) (a : Assigned) → Narrow (local_types y ls a)
narrow_locals y [] a = tt
narrow_locals y (l ∷ ls) a = (narrow_local l.ty (a y), narrow_locals (y + 1) ls a)

narrow_top : (n : ℕ) → Narrow (replicate n vtype.Top)
narrow_top zero = tt
narrow_top (suc n) = (refl, narrow_top n)

narrow_both : (a b : List VType) → Narrow a → Narrow b → Narrow (a ++ b)
narrow_both [] b p q = q
narrow_both (t ∷ a) b p q = (p.0, narrow_both a b p.1 q)

pub spread_narrow : (ts : List VType) → Narrow ts → spread ts ≡ ts
spread_narrow [] h = refl
spread_narrow (vtype.Long ∷ ts) h = absurd (let e = h.0 in cc)
spread_narrow (vtype.Top ∷ ts) h = ap (λ us. vtype.Top ∷ us) (spread_narrow ts h.1)
spread_narrow (vtype.Integer ∷ ts) h = ap (λ us. vtype.Integer ∷ us) (spread_narrow ts h.1)
spread_narrow (vtype.Null ∷ ts) h = ap (λ us. vtype.Null ∷ us) (spread_narrow ts h.1)
spread_narrow (vtype.UninitializedThis ∷ ts) h = ap (λ us. vtype.UninitializedThis ∷ us) (spread_narrow ts h.1)
spread_narrow (vtype.Object c ∷ ts) h = ap (λ us. vtype.Object c ∷ us) (spread_narrow ts h.1)
spread_narrow (vtype.Uninitialized p ∷ ts) h = ap (λ us. vtype.Uninitialized p ∷ us) (spread_narrow ts h.1)

abbrev long_there : Option VType → Bool
long_there (Some t) = is_long t
long_there None = false

none_long : (ts : List VType) (i : ℕ) → Narrow ts → long_there (slice_get ts i) ≡ false
none_long [] i h = refl
none_long (t ∷ ts) zero h = h.0
none_long (t ∷ ts) (suc i) h = none_long ts i h.1

uncut : (i : ℕ) (o : Option VType) (ts : List VType) → long_there o ≡ false → cut_at i o ts ≡ ts
uncut i None ts h = refl
uncut i (Some vtype.Long) ts h = absurd cc
uncut i (Some vtype.Top) ts h = refl
uncut i (Some vtype.Integer) ts h = refl
uncut i (Some vtype.Null) ts h = refl
uncut i (Some vtype.UninitializedThis) ts h = refl
uncut i (Some (vtype.Object c)) ts h = refl
uncut i (Some (vtype.Uninitialized p)) ts h = refl

no_cut : (i : ℕ) (ts : List VType) → Narrow ts → cut_long i ts ≡ ts
no_cut i ts h = by_zero (i == 0)
  where
    by_zero : (b : Bool) → cond b ts (cut_at (i - 1) (slice_get ts (i - 1)) ts) ≡ ts
    by_zero true = refl
    by_zero false = uncut (i - 1) (slice_get ts (i - 1)) ts (none_long ts (i - 1) h)

pub locals_length : (y : ℕ) (ls : List Local) (a : Assigned) → length (local_types y ls a) ≡ length ls
locals_length y [] a = refl
locals_length y (l ∷ ls) a = ap suc (locals_length (y + 1) ls a)

pub local_get : (ls : List Local) (y i : ℕ) (l : Local) (a : Assigned) → slice_get ls i ≡ Some l → slice_get (local_types y ls a) i ≡ Some (if a (y + i) then local_type l.ty else vtype.Top)
local_get [] y i l a e = cc
local_get (l' ∷ ls) y zero l a e =
    ap (λ (w : Local). Some (if a y then local_type w.ty else vtype.Top)) (local_is l' l e) ∙ ap (λ n. Some (if a n then local_type l.ty else vtype.Top)) (let z : y ≡ y + 0 = omega arith in z)
  where
    local_is : (p q : Local) → Some p ≡ Some q → p ≡ q
    local_is p q e = cc
local_get (l' ∷ ls) y (suc i) l a e = local_get ls (y + 1) i l a e ∙ ap (λ n. Some (if a n then local_type l.ty else vtype.Top)) (let z : y + 1 + i ≡ y + suc i = omega arith in z)

-- a mark on an earlier local changes nothing
pub earlier : (ls : List Local) (x y : ℕ) (a : Assigned) → x < y → local_types y ls a ≡ local_types y ls (marked x true a)
earlier [] x y a lt = refl
earlier (l ∷ ls) x y a lt =
    ap (λ (b : Bool). (if cond b true (a y) then local_type l.ty else vtype.Top) ∷ local_types (y + 1) ls a) (sym (ne_eqb y x (λ e. omega (arith, e, lt))))
    ∙ ap (λ (ts : List VType). (if marked x true a y then local_type l.ty else vtype.Top) ∷ ts) (earlier ls x (y + 1) a (omega (arith, lt)))

pub local_set : (ls : List Local) (y i : ℕ) (l : Local) (a : Assigned) → slice_get ls i ≡ Some l → slice_set (local_types y ls a) i (local_type l.ty) ≡ local_types y ls (marked (y + i) true a)
local_set [] y i l a e = cc
local_set (l' ∷ ls) y zero l a e =
    ap (λ (w : Local). local_type w.ty ∷ local_types (y + 1) ls a) (sym (local_is l' l e))
    ∙ ap (λ (b : Bool). (if cond b true (a y) then local_type l'.ty else vtype.Top) ∷ local_types (y + 1) ls a) (sym (eq-eqb y (y + 0) (omega arith)))
    ∙ ap (λ (ts : List VType). (if marked (y + 0) true a y then local_type l'.ty else vtype.Top) ∷ ts) (earlier ls (y + 0) (y + 1) a (omega arith))
  where
    local_is : (p q : Local) → Some p ≡ Some q → p ≡ q
    local_is p q e = cc
local_set (l' ∷ ls) y (suc i) l a e =
    ap (λ (b : Bool). (if cond b true (a y) then local_type l'.ty else vtype.Top) ∷ slice_set (local_types (y + 1) ls a) i (local_type l.ty)) (sym (ne_eqb y (y + suc i) (λ e. omega (arith, e))))
    ∙ ap (λ (ts : List VType). (if marked (y + suc i) true a y then local_type l'.ty else vtype.Top) ∷ ts) (local_set ls (y + 1) i l a e ∙ ap (λ n. local_types (y + 1) ls (marked n true a)) (let z : y + 1 + i ≡ y + suc i = omega arith in z))

set_front : {A : Type 0} (xs more : List A) (i : ℕ) (a : A) → i < length xs → slice_set (xs ++ more) i a ≡ slice_set xs i a ++ more
set_front [] more i a h = absurd (omega (arith, h))
set_front (x ∷ xs) more zero a h = refl
set_front (x ∷ xs) more (suc i) a h = ap (λ l. x ∷ l) (set_front xs more i a (omega (arith, h)))

pub length_both : {A : Type 0} (a b : List A) → length (a ++ b) ≡ length a + length b
length_both [] b = omega arith
length_both (x ∷ a) b = let r = length_both a b in omega (arith, r)

-- ---- instructions

-- the verifier's types for what is known
abbrev pub types_of : ℕ → List Local → Known → Types
types_of max locals k = record { locals = padded max (local_types 0 locals k.assigned); stack = k.stack; unset = false }

no_fault : (ml ms : ℕ) (beyond : Bool) (needed given : ℕ) (t : Types) → nat_lt ml (length t.locals) ≡ false → beyond ≡ false → nat_lt (length t.stack) needed ≡ false → nat_lt ms (widths t.stack) ≡ false → nat_lt ms (widths (drop needed t.stack) + given) ≡ false → room_fault ml ms beyond needed given t ≡ None
no_fault ml ms beyond needed given t a b c d e = by (nat_lt ml (length t.locals)) beyond (nat_lt (length t.stack) needed) (nat_lt ms (widths t.stack)) (nat_lt ms (widths (drop needed t.stack) + given)) a b c d e
  where
    by : (p q r s u : Bool) → p ≡ false → q ≡ false → r ≡ false → s ≡ false → u ≡ false → (let o : Option VerifyCode = if p || q then Some code.LocalRange else (if r then Some code.StackUnderflow else (if s || u then Some code.StackOverflow else None)) in o) ≡ None
    by false false false false false a b c d e = refl
    by true q r s u a b c d e = absurd cc
    by false true r s u a b c d e = absurd cc
    by false false true s u a b c d e = absurd cc
    by false false false true u a b c d e = absurd cc
    by false false false false true a b c d e = absurd cc

module _ (set : Set) (class : ClassFile) (m : Method) (locals : List Local) (room : length locals ≤ m.max_locals) (result : (described m.descriptor).result ≡ None) where
  abbrev T : Known → Types
  T k = types_of m.max_locals locals k

  not_less : (a b : ℕ) → b ≤ a → nat_lt a b ≡ false
  not_less a b le = le-ltb a b le

  padded_length : (a : Assigned) → length (padded m.max_locals (local_types 0 locals a)) ≡ m.max_locals
  padded_length a =
      let p = locals_length 0 locals a in
      let q = length_both (local_types 0 locals a) (replicate (m.max_locals - length (local_types 0 locals a)) vtype.Top) in
      let r = length-replicate (m.max_locals - length (local_types 0 locals a)) vtype.Top in
      omega (arith, p, q, r, room)

  -- a row whose operands are right, and for which there is room
  goes_well : (pc : ℕ) (r : Row) (k : Known) (after : Types) → reaches r ≤ m.max_locals → needs set class r k.stack ≤ length k.stack → widths k.stack ≤ m.max_stack → widths (drop (needs set class r k.stack) k.stack) + gives set class r ≤ m.max_stack → typed set class m pc r (T k) ≡ Ok after → stepped set class m pc r (T k) ≡ Ok after
  goes_well pc r k after a b c d e =
      ap (λ (o : Option VerifyCode). refuse o (typed set class m pc r (T k)))
      (no_fault m.max_locals m.max_stack (nat_lt m.max_locals (reaches r)) (needs set class r k.stack) (gives set class r) (T k)
      (not_less m.max_locals (length (padded m.max_locals (local_types 0 locals k.assigned))) (let p = padded_length k.assigned in omega (arith, p)))
      (not_less m.max_locals (reaches r) a) (not_less (length k.stack) (needs set class r k.stack) b) (not_less m.max_stack (widths k.stack) c) (not_less m.max_stack (widths (drop (needs set class r k.stack) k.stack) + gives set class r) d))
      ∙ e

  -- what is to be shown of an operation
  abbrev Steps : ℕ → Row → Operation → Known → Type 0
  Steps pc r o k = widths k.stack ≤ m.max_stack → widths (effect o k).stack ≤ m.max_stack → stepped set class m pc r (T k) ≡ Ok (T (effect o k))

  -- an operation is tried on the stack that it takes
  on_stack : (pc : ℕ) (r : Row) (o : Operation) (k : Known) (stack : List VType) → k.stack ≡ stack → Steps pc r o (record { assigned = k.assigned; stack = stack }) → Steps pc r o k
  on_stack pc r o k stack e h = subst (λ (s : List VType). Steps pc r o (record { assigned = k.assigned; stack = s })) (sym e) h

  push_int : (pc : ℕ) (z : ℤ) (k : Known) → Steps pc (row.PushInt z) (PushInt z) k
  push_int pc z k = λ w v. goes_well pc (row.PushInt z) k (T (effect (PushInt z) k)) (omega arith) (omega arith) w (omega (arith, v)) refl

  push_number : (pc i : ℕ) (z : ℤ) (k : Known) → constant_in class.pool (entry_at class.pool i) ≡ Some (Number z) → Steps pc (row.PushConstant i) (PushInt z) k
  push_number pc i z k e = λ w v. goes_well pc (row.PushConstant i) k (T (effect (PushInt z) k)) (omega arith) (omega arith) w (omega (arith, v)) (ap (λ (o : Option Constant). t_pushed (T k) (constant_type o)) e)

  push_text : (pc i : ℕ) (t : List ℕ) (k : Known) → constant_in class.pool (entry_at class.pool i) ≡ Some (Literal t) → Steps pc (row.PushConstant i) (PushText t) k
  push_text pc i t k e = λ w v. goes_well pc (row.PushConstant i) k (T (effect (PushText t) k)) (omega arith) (omega arith) w (omega (arith, v)) (ap (λ (o : Option Constant). t_pushed (T k) (constant_type o)) e)

  -- the type of a local that is assigned
  got : (x : ℕ) (l : Local) (k : Known) → slice_get locals x ≡ Some l → k.assigned x ≡ true → slice_get (padded m.max_locals (local_types 0 locals k.assigned)) x ≡ Some (local_type l.ty)
  got x l k e on =
      get_front (local_types 0 locals k.assigned) (replicate (m.max_locals - length (local_types 0 locals k.assigned)) vtype.Top) x (local_type l.ty)
      (local_get locals 0 x l k.assigned e ∙ ap (λ (n : ℕ). Some (if k.assigned n then local_type l.ty else vtype.Top)) (let z : 0 + x ≡ x = omega arith in z) ∙ ap (λ (b : Bool). Some (if b then local_type l.ty else vtype.Top)) on)

  some_kind : (a b : Kind) (x : ℕ) → Load a x ∷ [] ≡ Load b x ∷ [] → a ≡ b
  some_kind a b x e = cc

  some_store : (a b : Kind) (x : ℕ) → Store a x ∷ [] ≡ Store b x ∷ [] → a ≡ b
  some_store a b x e = cc

  load : (pc x : ℕ) (kind : Kind) (l : Local) (k : Known) → slice_get locals x ≡ Some l → k.assigned x ≡ true → loads l.ty x ≡ Load kind x ∷ [] → Steps pc (row.Load kind x) (Load kind x) k
  load pc x kind l k e on h = by_type l.ty refl
    where
      far : x + 1 ≤ m.max_locals
      far = let r = within locals x l e in omega (arith, r, room)

      by_type : (ty : TypeTree) → l.ty ≡ ty → Steps pc (row.Load kind x) (Load kind x) k
      by_type type_is.Int t =
          subst (λ (q : Kind). Steps pc (row.Load q x) (Load q x) k) (some_kind kinds.Int kind x (sym (ap (λ ty. loads ty x) t) ∙ h))
          (λ w v. goes_well pc (row.Load kinds.Int x) k (T (effect (Load kinds.Int x) k)) far (omega arith) w (omega (arith, v)) (ap (t_load kinds.Int (T k)) (got x l k e on ∙ ap (λ ty. Some (local_type ty)) t)))
      by_type type_is.Boolean t =
          subst (λ (q : Kind). Steps pc (row.Load q x) (Load q x) k) (some_kind kinds.Int kind x (sym (ap (λ ty. loads ty x) t) ∙ h))
          (λ w v. goes_well pc (row.Load kinds.Int x) k (T (effect (Load kinds.Int x) k)) far (omega arith) w (omega (arith, v)) (ap (t_load kinds.Int (T k)) (got x l k e on ∙ ap (λ ty. Some (local_type ty)) t)))
      by_type type_is.String t =
          subst (λ (q : Kind). Steps pc (row.Load q x) (Load q x) k) (some_kind kinds.Ref kind x (sym (ap (λ ty. loads ty x) t) ∙ h))
          (λ w v. goes_well pc (row.Load kinds.Ref x) k (T (effect (Load kinds.Ref x) k)) far (omega arith) w (omega (arith, v)) (ap (t_load kinds.Ref (T k)) (got x l k e on ∙ ap (λ ty. Some (local_type ty)) t)))
      by_type type_is.Unit t = absurd (let q : [] ≡ Load kind x ∷ [] = sym (ap (λ ty. loads ty x) t) ∙ h in cc)

  -- the locals behind a store
  put : (x : ℕ) (l : Local) (a : Assigned) → slice_get locals x ≡ Some l → slice_set (cut_long x (padded m.max_locals (local_types 0 locals a))) x (local_type l.ty) ≡ padded m.max_locals (local_types 0 locals (marked x true a))
  put x l a e =
      ap (λ (ts : List VType). slice_set ts x (local_type l.ty)) (no_cut x (padded m.max_locals (local_types 0 locals a)) (narrow_both (local_types 0 locals a) (replicate (m.max_locals - length (local_types 0 locals a)) vtype.Top) (narrow_locals 0 locals a) (narrow_top (m.max_locals - length (local_types 0 locals a)))))
      ∙ set_front (local_types 0 locals a) (replicate (m.max_locals - length (local_types 0 locals a)) vtype.Top) x (local_type l.ty) (let r = within locals x l e in let n = locals_length 0 locals a in omega (arith, r, n))
      ∙ ap (λ (ts : List VType). ts ++ replicate (m.max_locals - length (local_types 0 locals a)) vtype.Top) (local_set locals 0 x l a e ∙ ap (λ (n : ℕ). local_types 0 locals (marked n true a)) (let z : 0 + x ≡ x = omega arith in z))
      ∙ ap (λ (n : ℕ). local_types 0 locals (marked x true a) ++ replicate (m.max_locals - n) vtype.Top) (locals_length 0 locals a ∙ sym (locals_length 0 locals (marked x true a)))

  store : (pc x : ℕ) (kind : Kind) (l : Local) (k : Known) (rest : List VType) → slice_get locals x ≡ Some l → k.stack ≡ value_types l.ty ++ rest → stores l.ty x ≡ Store kind x ∷ [] → Steps pc (row.Store kind x) (Store kind x) k
  store pc x kind l k rest e s h = by_type l.ty refl
    where
      far : x + 1 ≤ m.max_locals
      far = let r = within locals x l e in omega (arith, r, room)

      stored : (stack : List VType) (ty : TypeTree) → l.ty ≡ ty → (let v : Verdict = Ok (record { locals = slice_set (cut_long x (padded m.max_locals (local_types 0 locals k.assigned))) x (local_type ty); stack = stack; unset = false }) in v) ≡ Ok (T (record { assigned = marked x true k.assigned; stack = stack }))
      stored stack ty t =
          ap (λ (u : TypeTree). let v : Verdict = Ok (record { locals = slice_set (cut_long x (padded m.max_locals (local_types 0 locals k.assigned))) x (local_type u); stack = stack; unset = false }) in v) (sym t)
          ∙ ap (λ (ts : List VType). let v : Verdict = Ok (record { locals = ts; stack = stack; unset = false }) in v) (put x l k.assigned e)

      by_type : (ty : TypeTree) → l.ty ≡ ty → Steps pc (row.Store kind x) (Store kind x) k
      by_type type_is.Int t =
          on_stack pc (row.Store kind x) (Store kind x) k (vtype.Integer ∷ rest) (s ∙ ap (λ ty. value_types ty ++ rest) t)
          (subst (λ (q : Kind). Steps pc (row.Store q x) (Store q x) (record { assigned = k.assigned; stack = vtype.Integer ∷ rest })) (some_store kinds.Int kind x (sym (ap (λ ty. stores ty x) t) ∙ h))
          (λ w v. goes_well pc (row.Store kinds.Int x) (record { assigned = k.assigned; stack = vtype.Integer ∷ rest }) (T (effect (Store kinds.Int x) (record { assigned = k.assigned; stack = vtype.Integer ∷ rest }))) far (omega arith) w (omega (arith, v)) (stored rest type_is.Int t)))
      by_type type_is.Boolean t =
          on_stack pc (row.Store kind x) (Store kind x) k (vtype.Integer ∷ rest) (s ∙ ap (λ ty. value_types ty ++ rest) t)
          (subst (λ (q : Kind). Steps pc (row.Store q x) (Store q x) (record { assigned = k.assigned; stack = vtype.Integer ∷ rest })) (some_store kinds.Int kind x (sym (ap (λ ty. stores ty x) t) ∙ h))
          (λ w v. goes_well pc (row.Store kinds.Int x) (record { assigned = k.assigned; stack = vtype.Integer ∷ rest }) (T (effect (Store kinds.Int x) (record { assigned = k.assigned; stack = vtype.Integer ∷ rest }))) far (omega arith) w (omega (arith, v)) (stored rest type_is.Boolean t)))
      by_type type_is.String t =
          on_stack pc (row.Store kind x) (Store kind x) k (text_type ∷ rest) (s ∙ ap (λ ty. value_types ty ++ rest) t)
          (subst (λ (q : Kind). Steps pc (row.Store q x) (Store q x) (record { assigned = k.assigned; stack = text_type ∷ rest })) (some_store kinds.Ref kind x (sym (ap (λ ty. stores ty x) t) ∙ h))
          (λ w v. goes_well pc (row.Store kinds.Ref x) (record { assigned = k.assigned; stack = text_type ∷ rest }) (T (effect (Store kinds.Ref x) (record { assigned = k.assigned; stack = text_type ∷ rest }))) far (omega arith) w (omega (arith, v)) (stored rest type_is.String t)))
      by_type type_is.Unit t = absurd (let q : [] ≡ Store kind x ∷ [] = sym (ap (λ ty. stores ty x) t) ∙ h in cc)

  -- the methods of the natives
  helper_call : Helper → Call
  helper_call helper.ConsoleWrite = record { params = text_type ∷ []; result = None }
  helper_call helper.TextsConcat = record { params = text_type ∷ text_type ∷ []; result = Some text_type }
  helper_call helper.TextsOfInt = record { params = vtype.Integer ∷ []; result = Some text_type }
  helper_call helper.TextsOfBoolean = record { params = vtype.Integer ∷ []; result = Some text_type }

  is_member : (a b : Member) → (let o : Option Member = Some a in o) ≡ Some b → a ≡ b
  is_member a b e = cc

  abbrev found_so : Helper → Member → Type 0
  found_so h x = static_member set false (Some x) ≡ Some (helper_call h)

  native_found : (h : Helper) (x : Member) → native_member (native_of h) ≡ Some x → static_member set false (Some x) ≡ Some (helper_call h)
  unfolding built_ins helper_call
  native_found helper.ConsoleWrite x e = subst (found_so helper.ConsoleWrite) (is_member _ x e) refl
  native_found helper.TextsConcat x e = subst (found_so helper.TextsConcat) (is_member _ x e) refl
  native_found helper.TextsOfInt x e = subst (found_so helper.TextsOfInt) (is_member _ x e) refl
  native_found helper.TextsOfBoolean x e = subst (found_so helper.TextsOfBoolean) (is_member _ x e) refl

  plain_name : (o : Option Member) (x : Member) → named false o ≡ Some (record { is_interface = false; member = x }) → o ≡ Some x
  plain_name None x e = absurd cc
  plain_name (Some y) x e = ap (λ (o : Option Named). elim o [ Some n ↦ (let p : Option Member = Some n.member in p) | None ↦ None ]) e

  no_interface : (o : Option Member) (x : Member) → named true o ≡ Some (record { is_interface = false; member = x }) → ⊥
  no_interface None x e = cc
  no_interface (Some y) x e = let q : true ≡ false = ap (λ (o : Option Named). elim o [ Some n ↦ n.is_interface | None ↦ true ]) e in cc

  entry_named : (slots : Slots) (o : Option Entry) (x : Member) → named_in slots o ≡ Some (record { is_interface = false; member = x }) → static_entry set slots o ≡ static_member set false (Some x)
  entry_named slots (Some (entry.MethodRef owner member)) x e = ap (static_member set false) (plain_name (typed_in slots (name_in slots (entry_at slots owner)) (entry_at slots member)) x e)
  entry_named slots (Some (entry.InterfaceMethodRef owner member)) x e = absurd (no_interface (typed_in slots (name_in slots (entry_at slots owner)) (entry_at slots member)) x e)
  entry_named slots None x e = absurd cc
  entry_named slots (Some _) x e = absurd cc

  native_call : (i : ℕ) (h : Helper) → NamesNative (named_in class.pool (entry_at class.pool i)) (native_of h) → static_call set class i ≡ Some (helper_call h)
  native_call i h n = entry_named class.pool (entry_at class.pool i) n.member n.named_is ∙ native_found h n.member n.is

  -- a call, by what it takes and gives
  called_as : (pc i : ℕ) (h : Helper) (k : Known) (after : Types) → static_call set class i ≡ Some (helper_call h) → refuse (room_fault m.max_locals m.max_stack (nat_lt m.max_locals 0) (length (helper_call h).params) (widths (result_types (helper_call h).result)) (T k)) (t_call set (T k) (Some (helper_call h))) ≡ Ok after → stepped set class m pc (row.InvokeStatic i) (T k) ≡ Ok after
  called_as pc i h k after e f = ap (λ (o : Option Call). refuse (room_fault m.max_locals m.max_stack (nat_lt m.max_locals 0) (call_needs o) (call_width o) (T k)) (t_call set (T k) o)) e ∙ f

  called_well : (needed given : ℕ) (k : Known) (v after : Verdict) → needed ≤ length k.stack → widths k.stack ≤ m.max_stack → widths (drop needed k.stack) + given ≤ m.max_stack → v ≡ after → refuse (room_fault m.max_locals m.max_stack (nat_lt m.max_locals 0) needed given (T k)) v ≡ after
  called_well needed given k v after b c d e =
      ap (λ (o : Option VerifyCode). refuse o v)
      (no_fault m.max_locals m.max_stack (nat_lt m.max_locals 0) needed given (T k) (not_less m.max_locals (length (padded m.max_locals (local_types 0 locals k.assigned))) (let p = padded_length k.assigned in omega (arith, p)))
      (not_less m.max_locals 0 (omega arith)) (not_less (length k.stack) needed b) (not_less m.max_stack (widths k.stack) c) (not_less m.max_stack (widths (drop needed k.stack) + given) d))
      ∙ e

  call : (pc i : ℕ) (h : Helper) (k : Known) (rest : List VType) → NamesNative (named_in class.pool (entry_at class.pool i)) (native_of h) → k.stack ≡ params h ++ rest → Steps pc (row.InvokeStatic i) (CallOp h) k
  unfolding helper_call
  call pc i h k rest n e = on_stack pc (row.InvokeStatic i) (CallOp h) k (params h ++ rest) e (λ w v. called_as pc i h K (T (effect (CallOp h) K)) (native_call i h n) (by_helper h w v))
    where
      K : Known
      K = record { assigned = k.assigned; stack = params h ++ rest }

      by_helper : (h : Helper) → widths (params h ++ rest) ≤ m.max_stack → widths (effect (CallOp h) (record { assigned = k.assigned; stack = params h ++ rest })).stack ≤ m.max_stack → refuse (room_fault m.max_locals m.max_stack (nat_lt m.max_locals 0) (length (helper_call h).params) (widths (result_types (helper_call h).result)) (T (record { assigned = k.assigned; stack = params h ++ rest }))) (t_call set (T (record { assigned = k.assigned; stack = params h ++ rest })) (Some (helper_call h))) ≡ Ok (T (effect (CallOp h) (record { assigned = k.assigned; stack = params h ++ rest })))
      by_helper helper.ConsoleWrite w v = called_well 1 0 (record { assigned = k.assigned; stack = text_type ∷ rest }) _ _ (omega arith) w (omega (arith, v)) refl
      by_helper helper.TextsConcat w v = called_well 2 1 (record { assigned = k.assigned; stack = text_type ∷ text_type ∷ rest }) _ _ (omega arith) w (omega (arith, v)) refl
      by_helper helper.TextsOfInt w v = called_well 1 1 (record { assigned = k.assigned; stack = vtype.Integer ∷ rest }) _ _ (omega arith) w (omega (arith, v)) refl
      by_helper helper.TextsOfBoolean w v = called_well 1 1 (record { assigned = k.assigned; stack = vtype.Integer ∷ rest }) _ _ (omega arith) w (omega (arith, v)) refl

  -- an operation whose operands are two Ints, or one
  two_ints : (pc : ℕ) (r : Row) (o : Operation) (k : Known) (rest : List VType) → k.stack ≡ vtype.Integer ∷ vtype.Integer ∷ rest → Steps pc r o (record { assigned = k.assigned; stack = vtype.Integer ∷ vtype.Integer ∷ rest }) → Steps pc r o k
  two_ints pc r o k rest e h = on_stack pc r o k (vtype.Integer ∷ vtype.Integer ∷ rest) e h

  discard : (pc : ℕ) (k : Known) (t : VType) (rest : List VType) → takes_one t ≡ true → k.stack ≡ t ∷ rest → Steps pc row.Pop Discard k
  discard pc k t rest n e = on_stack pc row.Pop Discard k (t ∷ rest) e (λ w v.
      goes_well pc row.Pop (record { assigned = k.assigned; stack = t ∷ rest }) (T (record { assigned = k.assigned; stack = rest })) (omega arith) (omega arith) w (omega (arith, v))
      (ap (λ (b : Bool). if b then left (T (record { assigned = k.assigned; stack = t ∷ rest })) rest else Err wrong) n))
    where
      wrong : VerifyCode
      wrong = code.WrongType

  -- every operation
  pub steps : (pc : ℕ) (i : Instr) (o : Operation) (k : Known) → StandsFor class.pool pc i o → Takes locals o k → Steps pc (row_of pc i) o k
  steps pc i o k h t = by o h t
    where
      by_row : (o : Operation) (r : Row) → row_of pc i ≡ r → Steps pc r o k → Steps pc (row_of pc i) o k
      by_row o r e s = subst (λ (q : Row). Steps pc q o k) (sym e) s

      by : (o : Operation) → StandsFor class.pool pc i o → Takes locals o k → Steps pc (row_of pc i) o k
      by (PushInt z) h t = ⊎_elim (λ e. by_row (PushInt z) (row.PushInt z) e (push_int pc z k)) (λ p. by_row (PushInt z) (row.PushConstant p.0) p.1 (push_number pc p.0 z k p.2)) h
      by (PushText u) h t = by_row (PushText u) (row.PushConstant h.0) h.1 (push_text pc h.0 u k h.2)
      by (Load kind x) h t = by_row (Load kind x) (row.Load kind x) h (load pc x kind t.0 k t.1 t.2 t.3)
      by (Store kind x) h t = by_row (Store kind x) (row.Store kind x) h (store pc x kind t.0 k t.1 t.2 t.3 t.4)
      by (Compute p) h t = by_row (Compute p) (row.IntBinary p) h (two_ints pc (row.IntBinary p) (Compute p) k t.0 t.1 (λ w v. goes_well pc (row.IntBinary p) (record { assigned = k.assigned; stack = vtype.Integer ∷ vtype.Integer ∷ t.0 }) _ (omega arith) (omega arith) w (omega (arith, v)) refl))
      by Negate h t = by_row Negate row.IntNeg h (on_stack pc row.IntNeg Negate k (vtype.Integer ∷ t.0) t.1 (λ w v. goes_well pc row.IntNeg (record { assigned = k.assigned; stack = vtype.Integer ∷ t.0 }) _ (omega arith) (omega arith) w (omega (arith, v)) refl))
      by Discard h t = by_row Discard row.Pop h (discard pc k t.0 t.1 t.2 t.3)
      by (CallOp m) h t = by_row (CallOp m) (row.InvokeStatic h.0) h.1 (call pc h.0 m k t.0 h.2 t.1)
      by (Jump d) h t = by_row (Jump d) (row.Goto (target pc d)) h (λ w v. goes_well pc (row.Goto (target pc d)) k (T k) (omega arith) (omega arith) w (omega (arith, v)) refl)
      by (JumpIf q n) h t = by_row (JumpIf q n) (row.IfZero q (pc + n)) h (on_stack pc (row.IfZero q (pc + n)) (JumpIf q n) k (vtype.Integer ∷ t.0) t.1 (λ w v. goes_well pc (row.IfZero q (pc + n)) (record { assigned = k.assigned; stack = vtype.Integer ∷ t.0 }) _ (omega arith) (omega arith) w (omega (arith, v)) refl))
      by (JumpCompare q n) h t = by_row (JumpCompare q n) (row.IfCompare q (pc + n)) h (two_ints pc (row.IfCompare q (pc + n)) (JumpCompare q n) k t.0 t.1 (λ w v. goes_well pc (row.IfCompare q (pc + n)) (record { assigned = k.assigned; stack = vtype.Integer ∷ vtype.Integer ∷ t.0 }) _ (omega arith) (omega arith) w (omega (arith, v)) refl))
      by Leave h t = by_row Leave row.Return h (λ w v. goes_well pc row.Return k (T k) (omega arith) (omega arith) w (omega (arith, v)) (ap (λ (o : Option VType). t_return o (T k)) result))
