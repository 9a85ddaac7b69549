-- What is known before the operations of some code flows on from each to those that come next.
use Rattle.std.proofs.Common.{◌≡◌, ℕ, suc, ◌+◌, List, [], ◌∷◌, ◌++◌, length, Option, Some, None, Bool, true, false, refl, sym, ap, ◌∙◌, subst, arith}
use Rattle.std.specs.Prelude.{slice_get, ◌&&◌, if◌then◌else◌, nat_eq, cond}
use Rattle.std.proofs.lemmas.Bool.{eqb-true}
use Rattle.kc_core.specs.declared.tree.TypeTree.{TypeTree}
use Rattle.kc_core.specs.declared.tree.TypeTree.TheVariants as type_is
use Rattle.kc_core.specs.declared.tree.Local.{Local}
use Rattle.kc_core.specs.Formed.{Assigned, marked}
use Rattle.class_file.specs.declared.value.Kind.TheVariants as kinds
use Rattle.class_file.specs.declared.class.VType.{VType}
use Rattle.class_file.specs.declared.class.VType.TheVariants.{Top, Integer}
use Rattle.class_file.specs.Typing.{takes_one}
use Rattle.stack_code.specs.declared.constants.Helper.{Helper}
use Rattle.stack_code.specs.declared.constants.Helper.TheVariants as helper
use Rattle.stack_code.specs.Code.{Operation, Load, Store, Compute, Negate, Discard, Call, JumpIf, JumpCompare, bytes_of, bytes, kept, loads, stores}
use Rattle.stack_code.specs.Frames.{Known, text_type, value_types, effect, in_line, behind_line, kept_known, with_value, jump_of, goes_on, local_type, local_types}
use Rattle.stack_code.proofs.Lists.{bytes_append}

-- the values of a type are something
abbrev pub is_something : TypeTree → Bool
is_something type_is.Unit = false
is_something _ = true

abbrev pub counts_in : Option Local → Bool
counts_in None = false
counts_in (Some l) = is_something l.ty

pub kept_even : (goes : Bool) (os : List Operation) (ks : List Known) → length os ≡ length ks → length (kept goes os) ≡ length (kept_known goes ks)
kept_even true os ks e = e
kept_even false os ks e = refl

pub length_both : {A : Type 0} (a b : List A) → length (a ++ b) ≡ length a + length b
length_both [] b = omega arith
length_both (x ∷ a) b = let r = length_both a b in omega (arith, r)

pub even_both : (a b : List Operation) (ka kb : List Known) → length a ≡ length ka → length b ≡ length kb → length (a ++ b) ≡ length (ka ++ kb)
even_both a b ka kb e f = let p = length_both a b in let q = length_both ka kb in omega (arith, p, q, e, f)

pub even_line : (os : List Operation) (k : Known) → length os ≡ length (in_line os k)
even_line [] k = refl
even_line (o ∷ os) k = ap suc (even_line os (effect o k))

abbrev pub params : Helper → List VType
params helper.ConsoleWrite = text_type ∷ []
params helper.TextsConcat = text_type ∷ text_type ∷ []
params helper.TextsOfInt = Integer ∷ []
params helper.TextsOfBoolean = Integer ∷ []

-- what an operation asks of what is known before it
abbrev pub Takes : List Local → Operation → Known → Type 0
Takes locals (Load kind x) k = (l : Local) × (slice_get locals x ≡ Some l) × (k.assigned x ≡ true) × (loads l.ty x ≡ Load kind x ∷ [])
Takes locals (Store kind x) k = (l : Local) × (rest : List VType) × (slice_get locals x ≡ Some l) × (k.stack ≡ value_types l.ty ++ rest) × (stores l.ty x ≡ Store kind x ∷ [])
Takes locals (Compute o) k = (rest : List VType) × (k.stack ≡ Integer ∷ Integer ∷ rest)
Takes locals Negate k = (rest : List VType) × (k.stack ≡ Integer ∷ rest)
Takes locals Discard k = (t : VType) × (rest : List VType) × (takes_one t ≡ true) × (k.stack ≡ t ∷ rest)
Takes locals (Call m) k = (rest : List VType) × (k.stack ≡ params m ++ rest)
Takes locals (JumpIf t n) k = (rest : List VType) × (k.stack ≡ Integer ∷ rest)
Takes locals (JumpCompare t n) k = (rest : List VType) × (k.stack ≡ Integer ∷ Integer ∷ rest)
Takes locals _ k = Unit {0}

module _ (locals : List Local) (there : ℕ → Option Known) (named : ℕ → Bool) where
  -- a local that holds something
  abbrev pub counts : ℕ → Bool
  counts x = counts_in (slice_get locals x)

  -- each such local that is assigned in the one is assigned in the other
  abbrev pub Within : Assigned → Assigned → Type 0
  Within a b = (x : ℕ) → counts x ≡ true → a x ≡ true → b x ≡ true

  pub record Below (k l : Known) : Type 0 where
    pub fits : Within l.assigned k.assigned
    pub stack : k.stack ≡ l.stack

  pub record Flows (k : Known) (to : ℕ) : Type 0 where
    pub known : Known
    pub is : there to ≡ Some known
    pub below : Below k known
    pub exact : named to ≡ false → local_types 0 locals known.assigned ≡ local_types 0 locals k.assigned

  abbrev pub Jumps : ℕ → Operation → Type 0
  Jumps at o = (to : ℕ) → jump_of at o ≡ Some to → named to ≡ true

  -- at these places this is known, and the places that are jumped to have names
  abbrev pub Stands : ℕ → List Operation → List Known → Type 0
  Stands at [] [] = Unit {0}
  Stands at (o ∷ os) (k ∷ ks) = (there at ≡ Some k) × Jumps at o × Stands (at + bytes_of o) os ks
  Stands at _ _ = ⊥

  pub record Good (at : ℕ) (o : Operation) (k : Known) : Type 0 where
    pub takes : Takes locals o k
    pub jumps : (to : ℕ) → jump_of at o ≡ Some to → Flows (effect o k) to
    pub goes : goes_on o ≡ true → Flows (effect o k) (at + bytes_of o)

  abbrev pub AllGood : ℕ → List Operation → List Known → Type 0
  AllGood at [] [] = Unit {0}
  AllGood at (o ∷ os) (k ∷ ks) = Good at o k × AllGood (at + bytes_of o) os ks
  AllGood at _ _ = ⊥

  -- ---- lists of operations, one behind the other

  pub split : (a b : List Operation) (ka kb : List Known) (at : ℕ) → length a ≡ length ka → Stands at (a ++ b) (ka ++ kb) → Stands at a ka × Stands (at + bytes a) b kb
  split [] b [] kb at e h = (tt, subst (λ n. Stands n b kb) (let z : at ≡ at + 0 = omega arith in z) h)
  split [] b (k ∷ ka) kb at e h = absurd (omega (arith, e))
  split (o ∷ a) b [] kb at e h = absurd (omega (arith, e))
  split (o ∷ a) b (k ∷ ka) kb at e h =
      let r = split a b ka kb (at + bytes_of o) (omega (arith, e)) h.2 in (
        (h.0, h.1, r.0),
        subst (λ n. Stands n b kb) (let z : at + bytes_of o + bytes a ≡ at + (bytes_of o + bytes a) = omega arith in z) r.1,
      )

  pub join : (a b : List Operation) (ka kb : List Known) (at : ℕ) → AllGood at a ka → AllGood (at + bytes a) b kb → AllGood at (a ++ b) (ka ++ kb)
  join [] b [] kb at g h = subst (λ n. AllGood n b kb) (let z : at + 0 ≡ at = omega arith in z) h
  join [] b (k ∷ ka) kb at g h = absurd g
  join (o ∷ a) b [] kb at g h = absurd g
  join (o ∷ a) b (k ∷ ka) kb at g h =
      (g.0, join a b ka kb (at + bytes_of o) g.1 (subst (λ n. AllGood n b kb) (let z : at + (bytes_of o + bytes a) ≡ at + bytes_of o + bytes a = omega arith in z) h))

  -- ---- flows

  pub flows_here : (k : Known) (at : ℕ) → there at ≡ Some k → Flows k at
  flows_here k at e = record { known = k; is = e; below = record { fits = λ x c on. on; stack = refl }; exact = λ n. refl }

  pub not_both : (b : Bool) → b ≡ true → b ≡ false → ⊥
  not_both true e f = cc
  not_both false e f = cc

  -- more may flow to a place with a name
  pub flows_more : (k l : Known) (to : ℕ) → named to ≡ true → Below k l → Flows l to → Flows k to
  flows_more k l to n b f = record {
    known = f.known;
    is = f.is;
    below = record { fits = λ x c on. b.fits x c (f.below.fits x c on); stack = b.stack ∙ f.below.stack };
    exact = λ e. absurd (not_both (named to) n e);
  }

  -- what is assigned counts only for locals that hold something
  pub flows_same : (k l : Known) (to : ℕ) → Below k l → local_types 0 locals l.assigned ≡ local_types 0 locals k.assigned → Flows l to → Flows k to
  flows_same k l to b e f = record {
    known = f.known;
    is = f.is;
    below = record { fits = λ x c on. b.fits x c (f.below.fits x c on); stack = b.stack ∙ f.below.stack };
    exact = λ n. f.exact n ∙ e;
  }

  pub flows_at : (k : Known) (m n : ℕ) → m ≡ n → Flows k m → Flows k n
  flows_at k m n e f = subst (Flows k) e f

  -- ---- runs of operations

  -- The code goes well from what is known before it, if what is known behind it may flow to its end.
  abbrev pub Run : ℕ → List Operation → List Known → Known → Bool → Known → Type 0
  Run at os ks k goes l = Stands at os ks → (goes ≡ true → Flows l (at + bytes os)) → AllGood at os ks × Flows k at

  pub idle : (at : ℕ) (k : Known) → Run at [] [] k true k
  idle at k = λ h f. (tt, flows_at k (at + 0) at (omega arith) (f refl))

  -- one operation
  pub single : (at : ℕ) (o : Operation) (k : Known) → Takes locals o k → ((to : ℕ) → jump_of at o ≡ Some to → Flows (effect o k) to) → Run at (o ∷ []) (k ∷ []) k (goes_on o) (effect o k)
  single at o k t j h f = (
    (record { takes = t; jumps = j; goes = λ g. flows_at (effect o k) (at + (bytes_of o + 0)) (at + bytes_of o) (omega arith) (f g) }, tt),
    flows_here k at h.0,
  )

  -- one behind the other
  pub in_turn : (at : ℕ) (a b : List Operation) (ka kb : List Known) (k l m : Known) (goes more : Bool) → length a ≡ length ka → Run at a ka k goes l → (goes ≡ true → Run (at + bytes a) b kb l more m) → Run at (a ++ kept goes b) (ka ++ kept_known goes kb) k (goes && more) m
  in_turn at a b ka kb k l m true more e ra rb h f =
      let s = split a b ka kb at e h in
      let g = rb refl s.1 (λ on. flows_at m (at + bytes (a ++ b)) (at + bytes a + bytes b) (let z = bytes_append a b in omega (arith, z)) (f on)) in
      let r = ra s.0 (λ on. g.1) in
      (join a b ka kb at r.0 g.0, r.1)
  in_turn at a b ka kb k l m false more e ra rb h f =
      let s = split a [] ka [] at e h in
      let r = ra s.0 (λ on. absurd (not_both false on refl)) in
      (join a [] ka [] at r.0 tt, r.1)

  -- one behind the other, where the first goes on
  pub two : (at : ℕ) (a b : List Operation) (ka kb : List Known) (k l m : Known) (more : Bool) → length a ≡ length ka → Run at a ka k true l → Run (at + bytes a) b kb l more m → Run at (a ++ b) (ka ++ kb) k more m
  two at a b ka kb k l m more e ra rb = in_turn at a b ka kb k l m true more e ra (λ on. rb)

  -- ---- operations without jumps

  abbrev pub Line : List Operation → Known → Type 0
  Line [] k = Unit {0}
  Line (o ∷ os) k = Takes locals o k × (goes_on o ≡ true) × ((at : ℕ) → jump_of at o ≡ None) × Line os (effect o k)

  pub no_jump : (to : ℕ) → (let o : Option ℕ = None in o) ≡ Some to → ⊥
  no_jump to e = cc

  pub line : (os : List Operation) (at : ℕ) (k : Known) → Line os k → Run at os (in_line os k) k true (behind_line os k)
  line [] at k t = idle at k
  line (o ∷ os) at k t = λ h f.
      let r = line os (at + bytes_of o) (effect o k) t.3 h.2 (λ on. flows_at (behind_line os (effect o k)) (at + (bytes_of o + bytes os)) (at + bytes_of o + bytes os) (omega arith) (f on)) in
      ((record { takes = t.0; jumps = λ to e. absurd (no_jump to (sym (t.2 at) ∙ e)); goes = λ g. r.1 }, r.0), flows_here k at h.0)

  -- ---- locals

  -- a local that holds nothing has one type
  abbrev pub type_if : TypeTree → Bool → VType
  type_if ty b = if b then local_type ty else Top

  pub one_type : (ty : TypeTree) (b c : Bool) → is_something ty ≡ false → type_if ty b ≡ type_if ty c
  one_type type_is.Unit true true e = refl
  one_type type_is.Unit true false e = refl
  one_type type_is.Unit false true e = refl
  one_type type_is.Unit false false e = refl
  one_type type_is.Int b c e = absurd cc
  one_type type_is.Boolean b c e = absurd cc
  one_type type_is.String b c e = absurd cc

  pub mark_type : (l : Local) (x y : ℕ) (a : Assigned) → (y ≡ x → is_something l.ty ≡ false) → type_if l.ty (marked x true a y) ≡ type_if l.ty (a y)
  mark_type l x y a h = by_same (nat_eq y x) refl
    where
      by_same : (b : Bool) → nat_eq y x ≡ b → type_if l.ty (cond b true (a y)) ≡ type_if l.ty (a y)
      by_same true e = one_type l.ty true (a y) (h (eqb-true y x e))
      by_same false e = refl

  pub mark_nothing : (ls : List Local) (x y : ℕ) (a : Assigned) → ((i : ℕ) → y + i ≡ x → counts_in (slice_get ls i) ≡ false) → local_types y ls (marked x true a) ≡ local_types y ls a
  mark_nothing [] x y a h = refl
  mark_nothing (l ∷ ls) x y a h =
      ap (λ (t : VType). t ∷ local_types (y + 1) ls (marked x true a)) (mark_type l x y a (λ e. h 0 (omega (arith, e))))
      ∙ ap (λ (ts : List VType). type_if l.ty (a y) ∷ ts) (mark_nothing ls x (y + 1) a (λ i e. h (suc i) (omega (arith, e))))

  -- what is assigned stays so where one more is
  pub within_marked : (x : ℕ) (a : Assigned) → Within a (marked x true a)
  within_marked x a y c on = by_same (nat_eq y x)
    where
      by_same : (b : Bool) → cond b true (a y) ≡ true
      by_same true = refl
      by_same false = on

  pub mark_within : (x : ℕ) (a b : Assigned) → Within a b → Within (marked x true a) (marked x true b)
  mark_within x a b h y c on = by_same (nat_eq y x) on
    where
      by_same : (t : Bool) → cond t true (a y) ≡ true → cond t true (b y) ≡ true
      by_same true e = refl
      by_same false e = h y c e

  pub unmarked : (x : ℕ) (a : Assigned) → counts x ≡ false → Within (marked x true a) a
  unmarked x a n y c on = by_same (nat_eq y x) refl on
    where
      by_same : (t : Bool) → nat_eq y x ≡ t → cond t true (a y) ≡ true → a y ≡ true
      by_same true q e = absurd (not_both (counts y) c (ap counts (eqb-true y x q) ∙ n))
      by_same false q e = e

  -- a value is stored
  pub stored : (at x : ℕ) (l : Local) (ty : TypeTree) (a : Assigned) (rest : List VType) → slice_get locals x ≡ Some l → ty ≡ l.ty → Run at (stores ty x) (in_line (stores ty x) (record { assigned = a; stack = value_types ty ++ rest })) (record { assigned = a; stack = value_types ty ++ rest }) true (record { assigned = marked x true a; stack = rest })
  stored at x l type_is.Int a rest e t =
      line (Store kinds.Int x ∷ []) at (record { assigned = a; stack = Integer ∷ rest }) ((l, rest, e, ap (λ ty. value_types ty ++ rest) t, sym (ap (λ ty. stores ty x) t)), refl, λ at. refl, tt)
  stored at x l type_is.Boolean a rest e t =
      line (Store kinds.Int x ∷ []) at (record { assigned = a; stack = Integer ∷ rest }) ((l, rest, e, ap (λ ty. value_types ty ++ rest) t, sym (ap (λ ty. stores ty x) t)), refl, λ at. refl, tt)
  stored at x l type_is.String a rest e t =
      line (Store kinds.Ref x ∷ []) at (record { assigned = a; stack = text_type ∷ rest }) ((l, rest, e, ap (λ ty. value_types ty ++ rest) t, sym (ap (λ ty. stores ty x) t)), refl, λ at. refl, tt)
  stored at x l type_is.Unit a rest e t =
      λ h f. idle at (record { assigned = a; stack = rest }) h (λ on.
      flows_same (record { assigned = a; stack = rest }) (record { assigned = marked x true a; stack = rest }) (at + 0)
      (record { fits = unmarked x a none; stack = refl })
      (mark_nothing locals x 0 a (λ i q. ap counts (let z : i ≡ x = omega (arith, q) in z) ∙ none)) (f on))
    where
      none : counts x ≡ false
      none = ap counts_in e ∙ ap is_something (sym t)

  -- a local is loaded
  pub loaded : (at x : ℕ) (l : Local) (k : Known) → slice_get locals x ≡ Some l → (is_something l.ty ≡ true → k.assigned x ≡ true) → Run at (loads l.ty x) (in_line (loads l.ty x) k) k true (with_value l.ty k.assigned k)
  loaded at x l k e on = by_type l.ty refl
    where
      by_type : (ty : TypeTree) → l.ty ≡ ty → Run at (loads ty x) (in_line (loads ty x) k) k true (with_value ty k.assigned k)
      by_type type_is.Int t = line (Load kinds.Int x ∷ []) at k ((l, e, on (ap is_something t), ap (λ ty. loads ty x) t), refl, λ at. refl, tt)
      by_type type_is.Boolean t = line (Load kinds.Int x ∷ []) at k ((l, e, on (ap is_something t), ap (λ ty. loads ty x) t), refl, λ at. refl, tt)
      by_type type_is.String t = line (Load kinds.Ref x ∷ []) at k ((l, e, on (ap is_something t), ap (λ ty. loads ty x) t), refl, λ at. refl, tt)
      by_type type_is.Unit t = idle at k
