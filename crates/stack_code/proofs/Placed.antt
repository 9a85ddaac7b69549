-- Code that spells operations has an instruction for each at its place.
use Rattle.std.proofs.Common.{◌≡◌, ℕ, ◌+◌, ◌-◌, ◌≤◌, List, [], ◌∷◌, ◌++◌, Some, None, false, cond, refl, sym, ap, ◌∙◌, arith, append_assoc}
use Rattle.std.specs.Prelude.{nat_lt, ◌==◌}
use Rattle.std.proofs.lemmas.Bool.{le-ltb, ne_eqb}
use Rattle.class_file.specs.declared.class.Set.{Set}
use Rattle.class_file.specs.declared.class.Method.{Method}
use Rattle.class_file.specs.declared.instr.Instr.{Instr}
use Rattle.class_file.specs.declared.instr.Instr.TheVariants as instr
use Rattle.class_file.specs.Rows.{length_of, instr_at}
use Rattle.class_file.specs.Machine.{fetch, method_at, instr_in, class_pool}
use Rattle.stack_code.specs.Code.{Operation, bytes_of, Spells}
use Rattle.stack_code.specs.Implements.{Activation}
use Rattle.stack_code.proofs.Runs.{HasAt}

positive : (i : Instr) → 1 ≤ length_of i
positive instr.Nop = omega arith
positive _ = omega arith

-- how many bytes instructions take
abbrev lengths : List Instr → ℕ
lengths [] = 0
lengths (i ∷ is) = length_of i + lengths is

pub here : (i : Instr) (is : List Instr) → instr_at (i ∷ is) 0 ≡ Some i
unfolding instr_at
here i is = refl

pub past : (i : Instr) (is : List Instr) (q : ℕ) → instr_at (i ∷ is) (length_of i + q) ≡ instr_at is q
unfolding instr_at
past i is q =
    let p = positive i in
    let n : (length_of i + q == 0) ≡ false = ne_eqb (length_of i + q) 0 (λ e. omega (arith, e, p)) in
    let l : nat_lt (length_of i + q) (length_of i) ≡ false = le-ltb (length_of i + q) (length_of i) (omega arith) in
    let m : length_of i + q - length_of i ≡ q = omega arith in
    ap (λ b. cond b (Some i) (cond (nat_lt (length_of i + q) (length_of i)) None (instr_at is (length_of i + q - length_of i)))) n
    ∙ ap (λ b. cond b None (instr_at is (length_of i + q - length_of i))) l
    ∙ ap (instr_at is) m

-- the instruction behind others
behind : (before : List Instr) (i : Instr) (is : List Instr) → instr_at (before ++ i ∷ is) (lengths before) ≡ Some i
behind [] i is = here i is
behind (j ∷ before) i is = past j (before ++ i ∷ is) (lengths before) ∙ behind before i is

lengths_append : (a b : List Instr) → lengths (a ++ b) ≡ lengths a + lengths b
lengths_append [] b = omega arith
lengths_append (x ∷ a) b = let r = lengths_append a b in omega (arith, r)

module _ (set : Set) (o : Activation) (m : Method) (there : method_at set o.class o.method ≡ Some m) where
  fetched : (at : ℕ) (i : Instr) → instr_at m.code at ≡ Some i → fetch set o.class o.method at ≡ Some i
  unfolding fetch
  fetched at i e = ap (λ w. instr_in w at) there ∙ e

  from : (before is : List Instr) (ops : List Operation) (at : ℕ) → lengths before ≡ at → before ++ is ≡ m.code → Spells (class_pool set o.class) at is ops → HasAt set o at ops
  from before [] [] at e whole h = tt
  from before [] (op ∷ ops) at e whole h = absurd h
  from before (i ∷ is) [] at e whole h = absurd h
  from before (i ∷ is) (op ∷ ops) at e whole h = (
    record { instr = i; fetched = fetched at i (ap (λ c. instr_at c at) (sym whole) ∙ ap (instr_at (before ++ i ∷ is)) (sym e) ∙ behind before i is); long = h.1; stands = h.0 },
    from (before ++ i ∷ []) is ops (at + bytes_of op)
        (let r = lengths_append before (i ∷ []) in omega (arith, r, e, h.1))
        (append_assoc before (i ∷ []) is ∙ whole) h.2,
  )

  -- code that spells operations has them
  pub has_all : (ops : List Operation) → Spells (class_pool set o.class) 0 m.code ops → HasAt set o 0 ops
  has_all ops h = from [] m.code ops 0 refl refl h
