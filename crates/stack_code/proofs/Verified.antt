-- A compiled set verifies whose method gives its frames.
use Rattle.std.proofs.Common.{◌≡◌, ℕ, zero, suc, ◌+◌, ◌-◌, ◌≤◌, List, [], ◌∷◌, ◌++◌, length, Option, Some, None, Bool, true, false, not, refl, sym, ap, ◌∙◌, subst, arith, ⊎_elim}
use Rattle.std.specs.Prelude.{slice_get, replicate, reverse, nat_lt, ◌==◌, ◌&&◌, ◌||◌, if◌then◌else◌, max, codes, bit_and}
use Rattle.std.specs.Option.{option_map}
use Rattle.std.proofs.lemmas.Bool.{eqb-true, eq-eqb, ne_eqb}
use Rattle.std.proofs.lemmas.List.{reverse-reverse}
use Rattle.std.proofs.Math.Nat.{le-max_left, le-max_right}
use Rattle.kc_core.specs.declared.tree.TypeTree.{TypeTree}
use Rattle.kc_core.specs.declared.tree.TypeTree.TheVariants as type_is
use Rattle.kc_core.specs.declared.tree.Local.{Local}
use Rattle.kc_core.specs.declared.tree.Program.{Program}
use Rattle.kc_core.specs.Formed.{Assigned, none_assigned, FormedMain}
use Rattle.class_file.specs.declared.class.VType.{VType}
use Rattle.class_file.specs.declared.class.VType.TheVariants as vtype
use Rattle.class_file.specs.declared.class.Frame.{Frame}
use Rattle.class_file.specs.declared.class.Handler.{Handler}
use Rattle.class_file.specs.declared.class.ClassFile.{ClassFile}
use Rattle.class_file.specs.declared.class.Method.{Method}
use Rattle.class_file.specs.declared.class.Set.{Set}
use Rattle.class_file.specs.declared.instr.Instr.{Instr}
use Rattle.class_file.specs.Rows.{length_of, row_of, instr_at}
use Rattle.class_file.specs.Pools.{Slots, is_text}
use Rattle.class_file.specs.Members.{described, assignable, below_element, cannot_be_made}
use Rattle.class_file.specs.Classes.{named_type}
use Rattle.stack_code.proofs.Found.{text_same}
use Rattle.class_file.specs.Typing.{Types, all_assignable, types_assignable, widths, stepped}
use Rattle.class_file.specs.Verification as verification
use Rattle.class_file.specs.Verification.{padded, given_in, given_at, is_place, is_target, needs_frame, has, starts, first_types, Enters, Passes, Begins, EachRow, IsTyped, MethodVerifies, Verifies, is_caught, is_good_row}
use Rattle.stack_code.specs.Code.{Operation, PushInt, PushText, Load, Store, Compute, Negate, Discard, Call, Jump, JumpIf, JumpCompare, Leave, bytes_of, StandsFor, Spells, body_code}
use Rattle.stack_code.specs.Agrees.{IsCompiled}
use Rattle.stack_code.specs.Frames.{Known, text_type, effect, nothing_known, body_known, jump_of, goes_on, is_entry, local_type, local_types, frame_at, frames_from, highest, IsFramed, CompiledVerifies}
use Rattle.stack_code.proofs.Flowing.{counts_in, Stands, AllGood, Good, Flows, Below}
use Rattle.stack_code.proofs.Tracing.{body_even, body_good}
use Rattle.stack_code.proofs.Stepping.{narrow_locals, spread_narrow, locals_length, types_of, steps}
use Rattle.stack_code.proofs.Placed.{here, past}
use Rattle.stack_code.proofs.FirstLot.{found_at, nothing_at}

-- what is known at a place of a rest of the code, which begins at another
abbrev known_at : ℕ → List Operation → List Known → ℕ → Option Known
known_at at (o ∷ os) (k ∷ ks) pc = if at == pc then Some k else known_at (at + bytes_of o) os ks pc
known_at at _ _ pc = None

pub positive : (o : Operation) → 1 ≤ bytes_of o
positive (PushInt z) = by_size _ _
  where
    by_size : (a b : Bool) → 1 ≤ (if a then 1 else (if b then 2 else 3))
    by_size true b = omega arith
    by_size false true = omega arith
    by_size false false = omega arith
positive (PushText t) = omega arith
positive (Load k x) = by_size (nat_lt x 256)
  where
    by_size : (a : Bool) → 1 ≤ (if a then 2 else 4)
    by_size true = omega arith
    by_size false = omega arith
positive (Store k x) = by_size (nat_lt x 256)
  where
    by_size : (a : Bool) → 1 ≤ (if a then 2 else 4)
    by_size true = omega arith
    by_size false = omega arith
positive (Compute o) = omega arith
positive Negate = omega arith
positive Discard = omega arith
positive (Call m) = omega arith
positive (Jump d) = omega arith
positive (JumpIf t n) = omega arith
positive (JumpCompare t n) = omega arith
positive Leave = omega arith

or_right : (a b : Bool) → b ≡ true → (a || b) ≡ true
or_right true b e = refl
or_right false b e = e

or_left : (a b : Bool) → a ≡ true → (a || b) ≡ true
or_left true b e = refl
or_left false b e = absurd cc

jumps_there : (to : ℕ) (o : Option ℕ) → o ≡ Some to → is_place o to ≡ true
jumps_there to None e = absurd cc
jumps_there to (Some n) e = eq-eqb n to (let q : n ≡ to = cc in q)

-- what is known stands at the places of the code
module _ (locals : List Local) (there : ℕ → Option Known) (named : ℕ → Bool) where
  pub stands : (at : ℕ) (os : List Operation) (ks : List Known) → length os ≡ length ks → ((pc : ℕ) → at ≤ pc → there pc ≡ known_at at os ks pc) → ((to : ℕ) → is_entry at os to ≡ true → named to ≡ true) → Stands locals there named at os ks
  stands at [] [] e h n = tt
  stands at [] (k ∷ ks) e h n = absurd (omega (arith, e))
  stands at (o ∷ os) [] e h n = absurd (omega (arith, e))
  stands at (o ∷ os) (k ∷ ks) e h n = (
    h at (omega arith) ∙ ap (λ (b : Bool). if b then Some k else known_at (at + bytes_of o) os ks at) (eq-eqb at at refl),
    λ to j. n to (or_left (is_place (jump_of at o) to || (not (goes_on o) && at + bytes_of o == to)) (is_entry (at + bytes_of o) os to) (or_left (is_place (jump_of at o) to) (not (goes_on o) && at + bytes_of o == to) (jumps_there to (jump_of at o) j))),
    stands (at + bytes_of o) os ks (omega (arith, e))
        (λ pc le. h pc (omega (arith, le)) ∙ ap (λ (b : Bool). if b then Some k else known_at (at + bytes_of o) os ks pc) (ne_eqb at pc (λ q. let p = positive o in omega (arith, q, le, p))))
        (λ to j. n to (or_right (is_place (jump_of at o) to || (not (goes_on o) && at + bytes_of o == to)) (is_entry (at + bytes_of o) os to) j)),
  )

-- ---- frames

module _ (locals : List Local) (named : ℕ → Bool) (max_locals : ℕ) where
  abbrev T : Known → Types
  T k = types_of max_locals locals k

  given : (k : Known) (at : ℕ) → verification.types_given max_locals (frame_at locals at k) ≡ T k
  given k at =
      ap (λ (ts : List VType). let t : Types = record { locals = padded max_locals ts; stack = reverse (reverse k.stack); unset = false } in t) (spread_narrow (local_types 0 locals k.assigned) (narrow_locals 0 locals k.assigned))
      ∙ ap (λ (ts : List VType). let t : Types = record { locals = padded max_locals (local_types 0 locals k.assigned); stack = ts; unset = false } in t) (reverse-reverse k.stack)

  -- the frame that is given for a place
  abbrev due : ℕ → Option Known → Option Types
  due pc o = if named pc then option_map T o else None

  pub frames_give : (at : ℕ) (os : List Operation) (ks : List Known) (pc : ℕ) → given_in max_locals (frames_from locals named at os ks) pc ≡ due pc (known_at at os ks pc)
  frames_give at [] ks pc = none (named pc)
    where
      none : (b : Bool) → (let o : Option Types = None in o) ≡ (if b then None else None)
      none true = refl
      none false = refl
  frames_give at (o ∷ os) [] pc = none (named pc)
    where
      none : (b : Bool) → (let o : Option Types = None in o) ≡ (if b then None else None)
      none true = refl
      none false = refl
  frames_give at (o ∷ os) (k ∷ ks) pc = by_entry (named at) refl (at == pc) refl (frames_give (at + bytes_of o) os ks pc)
    where
      rest : List Frame
      rest = frames_from locals named (at + bytes_of o) os ks

      more : Option Known
      more = known_at (at + bytes_of o) os ks pc

      by_entry : (n : Bool) → named at ≡ n → (s : Bool) → (at == pc) ≡ s → given_in max_locals rest pc ≡ due pc more → given_in max_locals (if n then frame_at locals at k ∷ rest else rest) pc ≡ due pc (if s then Some k else more)
      by_entry true e true q h =
          ap (λ (b : Bool). if b then Some (verification.types_given max_locals (frame_at locals at k)) else given_in max_locals rest pc) q
          ∙ ap (λ (t : Types). let o : Option Types = Some t in o) (given k at)
          ∙ ap (λ (b : Bool). if b then Some (T k) else None) (sym (sym (ap named (eqb-true at pc q)) ∙ e))
      by_entry true e false q h = ap (λ (b : Bool). if b then Some (verification.types_given max_locals (frame_at locals at k)) else given_in max_locals rest pc) q ∙ h
      by_entry false e true q h =
          h
          ∙ ap (λ (b : Bool). if b then option_map T more else None) (sym (ap named (eqb-true at pc q)) ∙ e)
          ∙ ap (λ (b : Bool). if b then Some (T k) else None) (sym (sym (ap named (eqb-true at pc q)) ∙ e))
      by_entry false e false q h = h

-- ---- rows and operations

pub row_jumps : (pool : Slots) (at : ℕ) (i : Instr) (o : Operation) → StandsFor pool at i o → verification.jump_of (row_of at i) ≡ jump_of at o
row_jumps pool at i (PushInt z) h = ⊎_elim (λ e. ap verification.jump_of e) (λ p. ap verification.jump_of p.1) h
row_jumps pool at i (PushText t) h = ap verification.jump_of h.1
row_jumps pool at i (Load k x) h = ap verification.jump_of h
row_jumps pool at i (Store k x) h = ap verification.jump_of h
row_jumps pool at i (Compute p) h = ap verification.jump_of h
row_jumps pool at i Negate h = ap verification.jump_of h
row_jumps pool at i Discard h = ap verification.jump_of h
row_jumps pool at i (Call m) h = ap verification.jump_of h.1
row_jumps pool at i (Jump d) h = ap verification.jump_of h
row_jumps pool at i (JumpIf t n) h = ap verification.jump_of h
row_jumps pool at i (JumpCompare t n) h = ap verification.jump_of h
row_jumps pool at i Leave h = ap verification.jump_of h

pub row_goes : (pool : Slots) (at : ℕ) (i : Instr) (o : Operation) → StandsFor pool at i o → verification.goes_on (row_of at i) ≡ goes_on o
row_goes pool at i (PushInt z) h = ⊎_elim (λ e. ap verification.goes_on e) (λ p. ap verification.goes_on p.1) h
row_goes pool at i (PushText t) h = ap verification.goes_on h.1
row_goes pool at i (Load k x) h = ap verification.goes_on h
row_goes pool at i (Store k x) h = ap verification.goes_on h
row_goes pool at i (Compute p) h = ap verification.goes_on h
row_goes pool at i Negate h = ap verification.goes_on h
row_goes pool at i Discard h = ap verification.goes_on h
row_goes pool at i (Call m) h = ap verification.goes_on h.1
row_goes pool at i (Jump d) h = ap verification.goes_on h
row_goes pool at i (JumpIf t n) h = ap verification.goes_on h
row_goes pool at i (JumpCompare t n) h = ap verification.goes_on h
row_goes pool at i Leave h = ap verification.goes_on h

makes_nothing : (set : Set) (c : ClassFile) (at : ℕ) (i : Instr) (o : Operation) → StandsFor c.pool at i o → cannot_be_made set c (row_of at i) ≡ false
makes_nothing set c at i (PushInt z) h = ⊎_elim (λ e. ap (cannot_be_made set c) e) (λ p. ap (cannot_be_made set c) p.1) h
makes_nothing set c at i (PushText t) h = ap (cannot_be_made set c) h.1
makes_nothing set c at i (Load k x) h = ap (cannot_be_made set c) h
makes_nothing set c at i (Store k x) h = ap (cannot_be_made set c) h
makes_nothing set c at i (Compute p) h = ap (cannot_be_made set c) h
makes_nothing set c at i Negate h = ap (cannot_be_made set c) h
makes_nothing set c at i Discard h = ap (cannot_be_made set c) h
makes_nothing set c at i (Call m) h = ap (cannot_be_made set c) h.1
makes_nothing set c at i (Jump d) h = ap (cannot_be_made set c) h
makes_nothing set c at i (JumpIf t n) h = ap (cannot_be_made set c) h
makes_nothing set c at i (JumpCompare t n) h = ap (cannot_be_made set c) h
makes_nothing set c at i Leave h = ap (cannot_be_made set c) h

-- a place that a jump names, or that stands behind what does not go on, is an entry
targets_are : (pool : Slots) (is : List Instr) (os : List Operation) (at pc : ℕ) → Spells pool at is os → is_target at is pc ≡ true → is_entry at os pc ≡ true
targets_are pool [] [] at pc h e = absurd cc
targets_are pool [] (o ∷ os) at pc h e = absurd h
targets_are pool (i ∷ is) [] at pc h e = absurd h
targets_are pool (i ∷ is) (o ∷ os) at pc h e = by (is_place (verification.jump_of (row_of at i)) pc) refl e (λ f. targets_are pool is os (at + bytes_of o) pc h.2 f)
  where
    by : (b : Bool) → is_place (verification.jump_of (row_of at i)) pc ≡ b → (b || is_target (at + length_of i) is pc) ≡ true → (is_target (at + bytes_of o) is pc ≡ true → is_entry (at + bytes_of o) os pc ≡ true) → is_entry at (o ∷ os) pc ≡ true
    by true q f more = or_left (is_place (jump_of at o) pc || (not (goes_on o) && at + bytes_of o == pc)) (is_entry (at + bytes_of o) os pc) (or_left (is_place (jump_of at o) pc) (not (goes_on o) && at + bytes_of o == pc) (ap (λ j. is_place j pc) (sym (row_jumps pool at i o h.0)) ∙ q))
    by false q f more =
        or_right (is_place (jump_of at o) pc || (not (goes_on o) && at + bytes_of o == pc)) (is_entry (at + bytes_of o) os pc)
        (more (ap (λ n. is_target (at + n) is pc) (sym h.1) ∙ f))

-- ---- types that flow on

both_hold : (a b : Bool) → a ≡ true → b ≡ true → (a && b) ≡ true
both_hold true b e f = f
both_hold false b e f = absurd cc

local_fits : (set : Set) (l : Local) (a b : Bool) → (counts_in (Some l) ≡ true → b ≡ true → a ≡ true) → assignable set (if a then local_type l.ty else vtype.Top) (if b then local_type l.ty else vtype.Top) ≡ true
local_fits set l a false h = refl
local_fits set l a true h = by_type l.ty h
  where
    by_type : (ty : TypeTree) → (counts_in (Some (record l { ty = ty })) ≡ true → true ≡ true → a ≡ true) → assignable set (if a then local_type ty else vtype.Top) (local_type ty) ≡ true
    by_type type_is.Unit h = refl
    by_type type_is.Int h = ap (λ (b : Bool). assignable set (if b then vtype.Integer else vtype.Top) vtype.Integer) (h refl refl)
    by_type type_is.Boolean h = ap (λ (b : Bool). assignable set (if b then vtype.Integer else vtype.Top) vtype.Integer) (h refl refl)
    by_type type_is.String h = ap (λ (b : Bool). assignable set (if b then text_type else vtype.Top) text_type) (h refl refl)

locals_fit : (set : Set) (y : ℕ) (ls : List Local) (a b : Assigned) → ((i : ℕ) → counts_in (slice_get ls i) ≡ true → b (y + i) ≡ true → a (y + i) ≡ true) → all_assignable set (local_types y ls a) (local_types y ls b) ≡ true
locals_fit set y [] a b h = refl
locals_fit set y (l ∷ ls) a b h =
    both_hold (assignable set (if a y then local_type l.ty else vtype.Top) (if b y then local_type l.ty else vtype.Top)) (all_assignable set (local_types (y + 1) ls a) (local_types (y + 1) ls b))
    (local_fits set l (a y) (b y) (λ c on. ap a (let z : y ≡ y + 0 = omega arith in z) ∙ h 0 c (ap b (let z : y + 0 ≡ y = omega arith in z) ∙ on)))
    (locals_fit set (y + 1) ls a b (λ i c on. ap a (let z : y + 1 + i ≡ y + suc i = omega arith in z) ∙ h (suc i) c (ap b (let z : y + suc i ≡ y + 1 + i = omega arith in z) ∙ on)))

tops_fit : (set : Set) (xs ys : List VType) (n : ℕ) → all_assignable set xs ys ≡ true → all_assignable set (xs ++ replicate n vtype.Top) (ys ++ replicate n vtype.Top) ≡ true
tops_fit set [] [] zero e = refl
tops_fit set [] [] (suc n) e = tops_fit set [] [] n e
tops_fit set [] (u ∷ ys) n e = absurd cc
tops_fit set (t ∷ xs) [] n e = absurd cc
tops_fit set (t ∷ xs) (u ∷ ys) n e = by (assignable set t u) e (λ f. tops_fit set xs ys n f)
  where
    by : (b : Bool) → (b && all_assignable set xs ys) ≡ true → (all_assignable set xs ys ≡ true → all_assignable set (xs ++ replicate n vtype.Top) (ys ++ replicate n vtype.Top) ≡ true) → (b && all_assignable set (xs ++ replicate n vtype.Top) (ys ++ replicate n vtype.Top)) ≡ true
    by true e more = more e
    by false e more = absurd cc

fits_itself : (set : Set) (t : VType) → assignable set t t ≡ true
fits_itself set vtype.Top = refl
fits_itself set vtype.Integer = refl
fits_itself set vtype.Long = refl
fits_itself set vtype.Null = refl
fits_itself set vtype.UninitializedThis = refl
fits_itself set (vtype.Object name) = or_left (is_text name name) (below_element set (named_type set name) (named_type set name)) (text_same name)
fits_itself set (vtype.Uninitialized p) = eq-eqb p p refl

fit_themselves : (set : Set) (ts : List VType) → all_assignable set ts ts ≡ true
fit_themselves set [] = refl
fit_themselves set (t ∷ ts) = both_hold (assignable set t t) (all_assignable set ts ts) (fits_itself set t) (fit_themselves set ts)

nothing_types : (y : ℕ) (ls : List Local) → local_types y ls none_assigned ≡ replicate (length ls) vtype.Top
nothing_types y [] = refl
nothing_types y (l ∷ ls) = ap (λ ts. vtype.Top ∷ ts) (nothing_types (y + 1) ls)

tops_both : (n k : ℕ) → replicate n vtype.Top ++ replicate k vtype.Top ≡ replicate (n + k) vtype.Top
tops_both zero k = ap (λ n. replicate n vtype.Top) (let z : k ≡ 0 + k = omega arith in z)
tops_both (suc n) k = ap (λ ts. vtype.Top ∷ ts) (tops_both n k) ∙ ap (λ n. replicate n vtype.Top) (let z : suc (n + k) ≡ suc n + k = omega arith in z)

-- ---- the method

same_class : (a b : ClassFile) → Some a ≡ Some b → a ≡ b
same_class a b e = cc

same_method : (a b : Method) → Some a ≡ Some b → a ≡ b
same_method a b e = cc

no_class : (b : ClassFile) → (let o : Option ClassFile = None in o) ≡ Some b → ⊥
no_class b e = cc

no_method : (b : Method) → (let o : Option Method = None in o) ≡ Some b → ⊥
no_method b e = cc

module _ (set : Set) (program : Program) (main : ℕ) (c : IsCompiled set program main) (formed : FormedMain c.function) (framed : IsFramed c.method c.function) where
  abbrev m : Method
  m = c.method

  abbrev locals : List Local
  locals = c.function.locals

  abbrev ops : List Operation
  ops = body_code c.function.body

  abbrev ks : List Known
  ks = body_known c.function.body

  abbrev named : ℕ → Bool
  named pc = is_entry 0 ops pc

  abbrev there : ℕ → Option Known
  there pc = known_at 0 ops ks pc

  abbrev Types_of : Known → Types
  Types_of k = types_of m.max_locals locals k

  abbrev types_in : Option Known → Types
  types_in (Some k) = Types_of k
  types_in None = Types_of nothing_known

  abbrev before : ℕ → Types
  before pc = types_in (there pc)

  standing : Stands locals there named 0 ops ks
  standing = stands locals there named 0 ops ks (body_even locals there named c.function.body formed.after formed.body) (λ pc le. refl) (λ to e. e)

  good : AllGood locals there named 0 ops ks × Flows locals there named nothing_known 0
  good = body_good locals there named c.function.body formed.after formed.body standing

  given_is : (pc : ℕ) → given_at m pc ≡ (if named pc then option_map Types_of (there pc) else None)
  given_is pc = ap (λ (fs : List Frame). given_in m.max_locals fs pc) framed.frames ∙ frames_give locals named m.max_locals 0 ops ks pc

  given_there : (pc : ℕ) (k : Known) → there pc ≡ Some k → given_at m pc ≡ (if named pc then Some (Types_of k) else None)
  given_there pc k e = given_is pc ∙ ap (λ (o : Option Known). if named pc then option_map Types_of o else None) e

  -- an instruction of the code, its operation, and what is known before it
  record Place (pc : ℕ) (i : Instr) : Type 0 where
    op : Operation
    known : Known
    is : there pc ≡ Some known
    for_it : StandsFor c.class.pool pc i op
    long : length_of i ≡ bytes_of op
    right : Good locals there named pc op known
    stop : goes_on op ≡ false → named (pc + bytes_of op) ≡ true
    low : widths known.stack ≤ m.max_stack
    low_after : widths (effect op known).stack ≤ m.max_stack

  stops_there : (at : ℕ) (o : Operation) (os : List Operation) → ((to : ℕ) → is_entry at (o ∷ os) to ≡ true → named to ≡ true) → goes_on o ≡ false → named (at + bytes_of o) ≡ true
  stops_there at o os n e =
      n (at + bytes_of o) (or_left (is_place (jump_of at o) (at + bytes_of o) || (not (goes_on o) && at + bytes_of o == at + bytes_of o)) (is_entry (at + bytes_of o) os (at + bytes_of o))
      (or_right (is_place (jump_of at o) (at + bytes_of o)) (not (goes_on o) && at + bytes_of o == at + bytes_of o)
      (both_hold (not (goes_on o)) (at + bytes_of o == at + bytes_of o) (ap not e) (eq-eqb (at + bytes_of o) (at + bytes_of o) refl))))

  place_so : (p q : ℕ) (i j : Instr) → p ≡ q → i ≡ j → Place p i → Place q j
  place_so p q i j e f h = subst (λ (n : ℕ). Place n j) e (subst (Place p) f h)

  places : (is : List Instr) (os : List Operation) (kn : List Known) (at : ℕ) → Spells c.class.pool at is os → Stands locals there named at os kn → AllGood locals there named at os kn → ((to : ℕ) → is_entry at os to ≡ true → named to ≡ true) → highest os kn ≤ m.max_stack → (pc : ℕ) (i : Instr) → instr_at is pc ≡ Some i → Place (at + pc) i
  places [] os kn at h s g n r pc i e = absurd (nothing_at pc i e)
  places (j ∷ is) [] kn at h s g n r pc i e = absurd h
  places (j ∷ is) (o ∷ os) [] at h s g n r pc i e = absurd s
  places (j ∷ is) (o ∷ os) (k ∷ kn) at h s g n r pc i e =
      let a = le-max_left (widths k.stack) (max (widths (effect o k).stack) (highest os kn)) in
      let b = le-max_right (widths k.stack) (max (widths (effect o k).stack) (highest os kn)) in
      let d = le-max_left (widths (effect o k).stack) (highest os kn) in
      let f = le-max_right (widths (effect o k).stack) (highest os kn) in
      ⊎_elim (λ z. place_so at (at + pc) j i (omega (arith, z.0)) z.1
      (record { op = o; known = k; is = s.0; for_it = h.0; long = h.1; right = g.0; stop = stops_there at o os n; low = omega (arith, a, r); low_after = omega (arith, b, d, r) }))
      (λ z. place_so (at + bytes_of o + (pc - length_of j)) (at + pc) i i (omega (arith, z.0, h.1)) refl
      (places is os kn (at + bytes_of o) h.2 s.2 g.1 (λ to q. n to (or_right (is_place (jump_of at o) to || (not (goes_on o) && at + bytes_of o == to)) (is_entry (at + bytes_of o) os to) q)) (omega (arith, b, f, r)) (pc - length_of j) i z.1))
      (found_at j is pc i e)

  place_at : (pc : ℕ) (i : Instr) → instr_at m.code pc ≡ Some i → Place pc i
  place_at pc i e = place_so (0 + pc) pc i i (omega arith) refl (places m.code ops ks 0 c.code.spelled standing good.0 (λ to q. q) framed.deep pc i e)

  -- where something is known an instruction starts
  started : (is : List Instr) (os : List Operation) (kn : List Known) (at to : ℕ) (k : Known) → Spells c.class.pool at is os → known_at at os kn to ≡ Some k → (q : ℕ) × (to ≡ at + q) × (has (instr_at is q) ≡ true)
  started [] [] kn at to k h e = absurd cc
  started [] (o ∷ os) kn at to k h e = absurd h
  started (i ∷ is) [] kn at to k h e = absurd cc
  started (i ∷ is) (o ∷ os) [] at to k h e = absurd cc
  started (i ∷ is) (o ∷ os) (l ∷ kn) at to k h e = by (at == to) refl e (λ f. started is os kn (at + bytes_of o) to k h.2 f)
    where
      by : (b : Bool) → (at == to) ≡ b → (if b then Some l else known_at (at + bytes_of o) os kn to) ≡ Some k → (known_at (at + bytes_of o) os kn to ≡ Some k → (q : ℕ) × (to ≡ at + bytes_of o + q) × (has (instr_at is q) ≡ true)) → (q : ℕ) × (to ≡ at + q) × (has (instr_at (i ∷ is) q) ≡ true)
      by true q e more = (0, let z = eqb-true at to q in omega (arith, z), ap has (here i is))
      by false q e more = let r = more e in (length_of i + r.0, let z = r.1 in omega (arith, z, h.1), ap has (past i is r.0) ∙ r.2)

  starts_there : (to : ℕ) (k : Known) → there to ≡ Some k → starts m to ≡ true
  starts_there to k e =
      let r = started m.code ops ks 0 to k c.code.spelled e in
      ap (λ (n : ℕ). has (instr_at m.code n)) (let z = r.1 in let y : to ≡ r.0 = omega (arith, z) in y) ∙ r.2

  -- what is known may flow on
  fits : (k l : Known) → Below locals there named k l → types_assignable set (Types_of k) (Types_of l) ≡ true
  fits k l b =
      both_hold (all_assignable set (padded m.max_locals (local_types 0 locals k.assigned)) (padded m.max_locals (local_types 0 locals l.assigned))) (all_assignable set k.stack l.stack && true)
      (ap (λ (n : ℕ). all_assignable set (padded m.max_locals (local_types 0 locals k.assigned)) (local_types 0 locals l.assigned ++ replicate (m.max_locals - n) vtype.Top)) (locals_length 0 locals l.assigned ∙ sym (locals_length 0 locals k.assigned))
      ∙ tops_fit set (local_types 0 locals k.assigned) (local_types 0 locals l.assigned) (m.max_locals - length (local_types 0 locals k.assigned))
      (locals_fit set 0 locals k.assigned l.assigned (λ i d on. let z : 0 + i ≡ i = omega arith in ap k.assigned z ∙ b.fits i d (sym (ap l.assigned z) ∙ on))))
      (both_hold (all_assignable set k.stack l.stack) true (ap (all_assignable set k.stack) (sym b.stack) ∙ fit_themselves set k.stack) refl)

  some_types : (a b : Types) → (let o : Option Types = Some a in o) ≡ Some b → a ≡ b
  some_types a b e = cc

  enters : (k : Known) (to : ℕ) → Flows locals there named k to → Enters set m before (Types_of k) to
  enters k to f = record {
    start = starts_there to f.known f.is;
    given = λ g e. when (named to) (sym (given_there to f.known f.is) ∙ e);
    carried = λ e. ap types_in f.is ∙ carried (named to) refl (sym (given_there to f.known f.is) ∙ e);
  }
    where
      when : {g : Types} (b : Bool) → (let o : Option Types = if b then Some (Types_of f.known) else None in o) ≡ Some g → types_assignable set (Types_of k) g ≡ true
      when true e = ap (types_assignable set (Types_of k)) (sym (some_types _ _ e)) ∙ fits k f.known f.below
      when false e = absurd cc

      carried : (b : Bool) → named to ≡ b → (let o : Option Types = if b then Some (Types_of f.known) else None in o) ≡ None → Types_of f.known ≡ Types_of k
      carried true q e = absurd cc
      carried false q e =
          ap (λ (ts : List VType). let t : Types = record { locals = padded m.max_locals ts; stack = f.known.stack; unset = false } in t) (f.exact q)
          ∙ ap (λ (ts : List VType). let t : Types = record { locals = padded m.max_locals (local_types 0 locals k.assigned); stack = ts; unset = false } in t) (sym f.below.stack)

  -- a frame is given where one is needed
  given_so : (pc : ℕ) (k : Known) → there pc ≡ Some k → named pc ≡ true → has (given_at m pc) ≡ true
  given_so pc k e n = ap has (given_there pc k e) ∙ ap (λ (b : Bool). let o : Option Types = if b then Some (Types_of k) else None in has o) n

  needed : (pc : ℕ) → needs_frame m pc ≡ true → named pc ≡ true
  needed pc e =
      targets_are c.class.pool m.code ops 0 pc c.code.spelled
      (by (is_target 0 m.code pc) (sym (ap (λ (hs : List Handler). is_target 0 m.code pc || verification.is_handler hs pc) c.code.unhandled) ∙ e))
    where
      by : (b : Bool) → (b || false) ≡ true → b ≡ true
      by true e = refl
      by false e = absurd cc

  is_static : verification.is_static m ≡ true
  is_static = ap (λ (n : ℕ). bit_and n 8 == 8) c.flags

  no_result : (described m.descriptor).result ≡ None
  no_result = ap (λ (d : List ℕ). (described d).result) c.descriptor

  begins_so : first_types c.class m ≡ Types_of nothing_known
  begins_so =
      ap (λ (b : Bool). let t : Types = record { locals = padded m.max_locals ((if b then [] else (if is_text m.name (codes "<init>") && not b then vtype.UninitializedThis ∷ [] else vtype.Object c.class.this_name ∷ [])) ++ verification.spread (described m.descriptor).params); stack = []; unset = is_text m.name (codes "<init>") && not b } in t) is_static
      ∙ ap (λ (d : List ℕ). let t : Types = record { locals = padded m.max_locals (verification.spread (described d).params); stack = []; unset = is_text m.name (codes "<init>") && false } in t) c.descriptor
      ∙ ap (λ (name : List ℕ). let t : Types = record { locals = padded m.max_locals []; stack = []; unset = is_text name (codes "<init>") && false } in t) c.method_name
      ∙ ap (λ (ts : List VType). let t : Types = record { locals = ts; stack = []; unset = false } in t) tops
    where
      tops : padded m.max_locals [] ≡ padded m.max_locals (local_types 0 locals none_assigned)
      tops =
          let n = locals_length 0 locals none_assigned in
          ap (λ (k : ℕ). replicate k vtype.Top) (let r = c.code.room in let z : m.max_locals - 0 ≡ length locals + (m.max_locals - length (local_types 0 locals none_assigned)) = omega (arith, n, r) in z)
          ∙ sym (tops_both (length locals) (m.max_locals - length (local_types 0 locals none_assigned)))
          ∙ ap (λ (ts : List VType). ts ++ replicate (m.max_locals - length (local_types 0 locals none_assigned)) vtype.Top) (sym (nothing_types 0 locals))

  no_rows : (P : Handler → Type 0) → EachRow P m.handlers
  no_rows P = subst (EachRow P) (sym c.code.unhandled) tt

  next_there : (pc : ℕ) → starts m pc ≡ true → (k : Known) × (there pc ≡ Some k)
  next_there pc e = by (instr_at m.code pc) refl e
    where
      by : (o : Option Instr) → instr_at m.code pc ≡ o → has o ≡ true → (k : Known) × (there pc ≡ Some k)
      by None q e = absurd cc
      by (Some i) q e = let p = place_at pc i q in (p.known, p.is)

  passes : (pc : ℕ) (i : Instr) → instr_at m.code pc ≡ Some i → Passes set c.class m before pc i
  passes pc i e =
      let p = place_at pc i e in
      let long : pc + bytes_of p.op ≡ pc + length_of i = (let z = p.long in omega (arith, z)) in
      record {
        framed = λ n. given_so pc p.known p.is (needed pc n);
        after = Types_of (effect p.op p.known);
        is = ap (λ (o : Option Known). stepped set c.class m pc (row_of pc i) (types_in o)) p.is ∙ steps set c.class m locals c.code.room no_result pc i p.op p.known p.for_it p.right.takes p.low p.low_after;
        jumps = λ to j. enters (effect p.op p.known) to (p.right.jumps to (sym (row_jumps c.class.pool pc i p.op p.for_it) ∙ j));
        goes = λ g. subst (λ (n : ℕ). Enters set m before (Types_of (effect p.op p.known)) n) long (enters (effect p.op p.known) (pc + bytes_of p.op) (p.right.goes (sym (row_goes c.class.pool pc i p.op p.for_it) ∙ g)));
        stops = λ g s. let k = next_there (pc + length_of i) s in given_so (pc + length_of i) k.0 k.1 (subst (λ (n : ℕ). named n ≡ true) long (p.stop (sym (row_goes c.class.pool pc i p.op p.for_it) ∙ g)));
        caught = no_rows (λ h. is_caught set c.class m pc (before pc) h ≡ true);
        makes = makes_nothing set c.class pc i p.op p.for_it;
      }

  given_before : (pc : ℕ) (g : Types) → given_at m pc ≡ Some g → before pc ≡ g
  given_before pc g e = by (named pc) (there pc) (sym (given_is pc) ∙ e)
    where
      by : (b : Bool) (o : Option Known) → (let t : Option Types = if b then option_map Types_of o else None in t) ≡ Some g → types_in o ≡ g
      by true (Some k) e = some_types (Types_of k) g e
      by true None e = absurd cc
      by false o e = absurd cc

  method_verifies : MethodVerifies set c.class m
  method_verifies = record {
    before = before;
    typed = record {
      given = given_before;
      begins = λ s. record { enters = subst (λ (t : Types). Enters set m before t 0) (sym begins_so) (enters nothing_known 0 good.1); rows = no_rows (λ h. is_good_row set c.class m h ≡ true) };
      each = passes;
    };
  }

  the_method : (class : ℕ) (k : ClassFile) (method : ℕ) (n : Method) → slice_get set.classes class ≡ Some k → slice_get k.methods method ≡ Some n → MethodVerifies set k n
  the_method zero k method n e f = by method (sym (ap (λ (x : ClassFile). slice_get x.methods method) is_class ∙ ap (λ (ms : List Method). slice_get ms method) c.methods) ∙ f)
    where
      is_class : k ≡ c.class
      is_class = sym (same_class c.class k (sym (ap (λ (cs : List ClassFile). slice_get cs 0) c.classes) ∙ e))

      by : (method : ℕ) → slice_get (c.method ∷ []) method ≡ Some n → MethodVerifies set k n
      by zero f = subst (λ (x : ClassFile). MethodVerifies set x n) (sym is_class) (subst (MethodVerifies set c.class) (same_method c.method n f) method_verifies)
      by (suc method) f = absurd (no_method n f)
  the_method (suc class) k method n e f = absurd (no_class k (sym (ap (λ (cs : List ClassFile). slice_get cs (suc class)) c.classes) ∙ e))

pub compiled_verifies : CompiledVerifies
compiled_verifies set program main c formed framed = record { methods = the_method set program main c formed framed }
