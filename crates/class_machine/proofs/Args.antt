-- The arguments of a call lie on the stack in their order.
use Rattle.std.proofs.Common.{◌≡◌, ℕ, suc, ◌+◌, ◌-◌, ◌≤◌, Bool, true, false, cond, List, [], ◌∷◌, ◌++◌, length, take, drop, Option, Some, None, refl, sym, ap, ◌∙◌, append_assoc, length-append, length-drop, arith}
use Rattle.std.specs.Prelude.{reverse}
use Rattle.std.proofs.lemmas.List.{reverse-append, reverse-reverse, length-reverse, append-nil, take_at, drop_at, take_all}
use Rattle.class_file.specs.declared.value.Value.{Value}
use Rattle.class_file.specs.Descriptors.{FieldType, kind_of}
use Rattle.class_file.specs.Machine.{Popped, take_args, has_kind, first_locals}
use Rattle.class_machine.specs.Runs.{CanTake, Taken}

some_is : (x y : Popped) → (let o : Option Popped = Some x in o) ≡ Some y → x ≡ y
some_is x y e = cc

-- a guarded option that is there
guard_some : (b : Bool) (o : Option Popped) (p : Popped) → cond b o None ≡ Some p → (b ≡ true) × (o ≡ Some p)
guard_some true o p e = (refl, e)
guard_some false o p e = absurd cc

pub record Took (n : ℕ) (acc stack : List Value) (p : Popped) : Type 0 where
  pub taken : List Value
  pub stack_is : stack ≡ taken ++ p.rest
  pub count : length taken ≡ n
  pub args : p.args ≡ reverse taken ++ acc

pub took : (ks : List FieldType) (acc stack : List Value) (p : Popped) → take_args ks acc stack ≡ Some p → Took (length ks) acc stack p
took [] acc stack p e = let h = some_is (record { args = acc; rest = stack }) p e in record { taken = []; stack_is = ap (λ (q : Popped). q.rest) h; count = refl; args = sym (ap (λ (q : Popped). q.args) h) }
took (k ∷ ks) acc [] p e = absurd cc
took (k ∷ ks) acc (v ∷ stack) p e =
    let g = guard_some (has_kind (kind_of k) v) (take_args ks (v ∷ acc) stack) p e in
    let t = took ks (v ∷ acc) stack p g.1 in
    record {
      taken = v ∷ t.taken;
      stack_is = ap (λ (s : List Value). v ∷ s) t.stack_is;
      count = ap suc t.count;
      args = t.args ∙ sym (append_assoc (reverse t.taken) (v ∷ []) acc) ∙ ap (λ (s : List Value). s ++ acc) (sym (reverse-append (v ∷ []) t.taken));
    }

-- the stack as the code holds it: the rest, and then the arguments
pub record Parts (n : ℕ) (items : List Value) (p : Popped) : Type 0 where
  pub items_are : items ≡ reverse p.rest ++ p.args
  pub count : length p.args ≡ n
  pub enough : n ≤ length items
  pub rest : reverse (take (length items - n) items) ≡ p.rest
  pub args : drop (length items - n) items ≡ p.args

pub parts : (ks : List FieldType) (items : List Value) (p : Popped) → take_args (reverse ks) [] (reverse items) ≡ Some p → Parts (length ks) items p
parts ks items p e =
    let t = took (reverse ks) [] (reverse items) p e in
    let p0 : p.args ≡ reverse t.taken = t.args ∙ append-nil (reverse t.taken) in
    let whole : items ≡ reverse p.rest ++ p.args = sym (reverse-reverse items) ∙ ap reverse t.stack_is ∙ reverse-append t.taken p.rest ∙ ap (λ (s : List Value). reverse p.rest ++ s) (sym p0) in
    let n : length p.args ≡ length ks = ap length p0 ∙ length-reverse t.taken ∙ t.count ∙ length-reverse ks in
    let len : length items ≡ length (reverse p.rest) + length p.args = ap length whole ∙ length-append (reverse p.rest) p.args in
    let cut : length (reverse p.rest) ≡ length items - length ks = omega arith in
    record {
      items_are = whole;
      count = n;
      enough = omega arith;
      rest = ap (λ (xs : List Value). reverse (take (length items - length ks) xs)) whole ∙ ap reverse (take_at (reverse p.rest) p.args (length items - length ks) cut) ∙ reverse-reverse p.rest;
      args = ap (λ (xs : List Value). drop (length items - length ks) xs) whole ∙ drop_at (reverse p.rest) p.args (length items - length ks) cut;
    }

pub tail_is : (n m : ℕ) (items slice : List Value) → slice ≡ items → m ≤ length items → n ≡ length items - m → take (length slice - n) (drop n slice) ≡ drop (length items - m) items
tail_is n m items slice e le h = rw (e, h) (take_all (length items - (length items - m)) (drop (length items - m) items) (omega (arith, length-drop (length items - m) items)))

pub taking : (params max : ℕ) (items locals : List Value) (can : CanTake params (reverse items)) → locals ≡ first_locals max (drop (length items - params) items) → Taken params max (reverse items) locals (reverse (take (length items - params) items))
taking params max items locals can h types p count is =
    let t = parts types items p is in
    let n : length items - params ≡ length items - length types = omega (arith, count) in
    (h ∙ ap (λ (k : ℕ). first_locals max (drop k items)) n ∙ ap (first_locals max) t.args, ap (λ (k : ℕ). reverse (take k items)) n ∙ t.rest)

pub enough_to_take : (params : ℕ) (items : List Value) → CanTake params (reverse items) → params ≤ length items
enough_to_take params items can = let t = parts can.types items can.values can.is in omega (arith, can.count, t.enough)
