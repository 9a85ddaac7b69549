-- Code that a test chooses, and loops: it does what they do.
use Rattle.std.proofs.Common.{◌≡◌, ℕ, zero, suc, ◌+◌, ◌≤◌, List, [], ◌∷◌, ◌++◌, Some, Bool, true, false, refl, sym, ap, ◌∙◌, subst, arith}
use Rattle.std.proofs.lemmas.Int.{ints}
use Rattle.std.specs.Prelude.{ℤ, pos, negsuc, ◌+ℤ◌, ◌-◌, not, ◌&&◌, ◌||◌, if◌then◌else◌}
use Rattle.kc_core.specs.declared.tree.TypeTree.{TypeTree}
use Rattle.kc_core.specs.declared.tree.Span.{Span}
use Rattle.kc_core.specs.Values.{Value, Int, Boolean, Text, UnitValue}
use Rattle.kc_core.specs.Meaning.{State, Completion, Gives, then_do, enter, checked, on_boolean, either}
use Rattle.class_file.specs.declared.value.Value.{Value as Slot}
use Rattle.class_file.specs.declared.class.Set.{Set}
use Rattle.class_file.specs.Rows.{target}
use Rattle.class_file.specs.Natives.{Object}
use Rattle.class_file.specs.Machine.{Next}
use Rattle.stack_code.specs.Code.{Operation, Jump, bytes, back, discards, kept, kept_bytes, Emitted, plain, condition, condition_size, if_code, over, over_size, either_ops, either_bytes, if_else_code, body_size, returns, while_code}
use Rattle.stack_code.specs.Implements.{Held, Activation}
use Rattle.stack_code.proofs.Runs.{grows_none, Represents, Typed, On, live, HasAt, has_front, has_back, written, kept_all, kept_size, both_on, Sized, factor, Rep, Reaches, Owed, Run, run_on, run_weak, run_paid, bind, bind_to, own, ends_at, Prepared, Ready, Follows, Inside, with_check, entered, aim_of, Nothing, True, Acts}
use Rattle.stack_code.proofs.Steps.{jump}
use Rattle.stack_code.proofs.Lists.{bytes_append}
use Rattle.stack_code.proofs.Single.{behind}
use Rattle.stack_code.proofs.Several.{discarded}
use Rattle.stack_code.proofs.Tests.{plain_acts}

-- a jump back
pub back_to : (at n : ℕ) → target (at + n) (back n) ≡ at
back_to at zero = omega arith
back_to at (suc n) = ap place (let e : pos (at + suc n) +ℤ negsuc n ≡ pos at = omega (arith, ints) in e)
  where
    place : ℤ → ℕ
    place z = elim z [ pos n ↦ n | negsuc n ↦ 65536 ]

pub condition_sized : (c : Emitted) → Sized c → (n : ℕ) → bytes (condition c n) ≡ condition_size c
condition_sized c zc n = by_case c.always
  where
    by_case : (t : Bool) → bytes (if t then [] else c.test false n) ≡ (if t then 0 else c.test_size false)
    by_case true = refl
    by_case false = zc.test false n

pub if_size : (c a : Emitted) → Sized c → Sized a → bytes (condition c a.size ++ kept c.goes_on a.code) ≡ condition_size c + kept_bytes c.goes_on a.size
if_size c a zc za =
    let r = bytes_append (condition c a.size) (kept c.goes_on a.code) in
    let q = condition_sized c zc a.size in
    let k = kept_size c.goes_on a.code in
    let e = ap (kept_bytes c.goes_on) za.whole in
    omega (arith, r, q, k, e)

pub either_size : (c a b : Emitted) → Sized c → Sized a → Sized b → bytes (either_ops c a b) ≡ either_bytes c a b
either_size c a b zc za zb =
    let r = bytes_append (c.test false (a.size + over_size a)) (kept c.goes_on (a.code ++ (over a b.size ++ b.code))) in
    let q = zc.test false (a.size + over_size a) in
    let k = kept_size c.goes_on (a.code ++ (over a b.size ++ b.code)) in
    let e = ap (kept_bytes c.goes_on) ways in
    omega (arith, r, q, k, e)
  where
    ways : bytes (a.code ++ (over a b.size ++ b.code)) ≡ a.size + over_size a + b.size
    ways =
        let p = bytes_append a.code (over a b.size ++ b.code) in
        let o = bytes_append (over a b.size) b.code in
        let k = kept_size a.goes_on (Jump (pos (b.size + 3)) ∷ []) in
        omega (arith, p, o, k, za.whole, zb.whole)

pub while_size : (c a : Emitted) → Sized c → Sized a → bytes (condition c (body_size a) ++ kept c.goes_on (a.code ++ returns a (condition_size c + a.size + bytes (discards a.ty)))) ≡ condition_size c + kept_bytes c.goes_on (body_size a)
while_size c a zc za =
    let r = bytes_append (condition c (body_size a)) (kept c.goes_on (a.code ++ back_code)) in
    let q = condition_sized c zc (body_size a) in
    let k = kept_size c.goes_on (a.code ++ back_code) in
    let e = ap (kept_bytes c.goes_on) turn in
    omega (arith, r, q, k, e)
  where
    n : ℕ
    n = condition_size c + a.size + bytes (discards a.ty)

    back_code : List Operation
    back_code = returns a n

    turn : bytes (a.code ++ back_code) ≡ body_size a
    turn =
        let p = bytes_append a.code back_code in
        let k = kept_size a.goes_on (discards a.ty ++ Jump (back n) ∷ []) in
        let e = ap (kept_bytes a.goes_on) (bytes_append (discards a.ty) (Jump (back n) ∷ [])) in
        omega (arith, p, k, e, za.whole)

or_on : (a b : Bool) → b ≡ true → (a || b) ≡ true
or_on true b e = refl
or_on false b e = e

-- whichever of the two decides, it is so
whichever : (t a b : Bool) → a ≡ true → b ≡ true → (if t then a else b) ≡ true
whichever true a b e f = e
whichever false a b e f = f

module _ (set : Set) (S : ℕ) where
  -- the code behind a condition
  behind_condition : (o : Activation) (c : Emitted) → Sized c → (at n : ℕ) (more : List Operation) → c.goes_on ≡ true → HasAt set o at (condition c n ++ kept c.goes_on more) → HasAt set o (at + condition_size c) more
  behind_condition o c zc at n more on h =
      written set o (at + condition_size c) c.goes_on more on (subst (λ m. HasAt set o (at + m) (kept c.goes_on more)) (condition_sized c zc n) (has_back set o at (condition c n) (kept c.goes_on more) h))

  -- a state that comes later
  abbrev Later : State → Activation → (at : ℕ) → Rep set S → ℕ → List Slot → (end : ℕ) → (State → Completion) → Type 0
  Later s o at rep b st end f = (s1 : State) (ls1 : List Slot) (h1 : List Object) → s1.units ≤ s.units → Held h1 ls1 s1.locals → Run set S o rep (live o at ls1 st h1 s1) h1 s1.units factor b ls1 end st (f s1)

  -- a condition, and then the code of one way or the other
  chosen_by : (t : Bool) (d : ℕ) (span : Span) (c : Emitted) (fc held failed : State → Completion) (n b : ℕ) (rep : Rep set S) → c.always ≡ t → c.nodes ≤ b → Acts set S d c fc → (s : State) (o : Activation) (at end : ℕ) (ls st : List Slot) (h : List Object) → Prepared set S d c (if t then [] else c.test false n) s o at ls h →
      (c.goes_on ≡ true → Later s o (at + (if t then 0 else c.test_size false)) rep (b - c.nodes) st end held) →
      (c.goes_on ≡ true → c.always ≡ false → Later s o (at + (if t then 0 else c.test_size false) + n) rep (b - c.nodes) st end failed) →
      Run set S o rep (live o at ls st h s) h s.units factor b ls end st (then_do (fc s) (λ v. on_boolean span v (λ t. either t held failed)))
  chosen_by true d span c fc held failed n b rep lit le rc s o at end ls st h ready on_held on_failed =
      bind set S o (On c.goes_on True) rep at end st st k h s.units factor b 0 c.nodes ls (omega arith) (omega arith) (λ v. on_boolean span v (λ t. either t held failed)) last (fc s) (rc.sure lit s o at ls st h ready)
    where
      k : Next
      k = live o at ls st h s

      last : (v : Value) (s1 : State) → Reaches set S k h s.units 0 c.nodes ls (λ h' xs. On c.goes_on True h' v xs) s1 (λ ls' h' xs. live o at ls' (xs ++ st) h' s1) → Run set S o rep k h s.units factor b ls end st (on_boolean span v (λ t. either t held failed) s1)
      last v s1 g =
          subst (λ u. Run set S o rep k h s.units factor b ls end st (on_boolean span u (λ t. either t held failed) s1)) (sym g.is.1.0)
          (run_on set S o rep end st k h s.units factor b 0 c.nodes factor (b - c.nodes) ls s1 (λ h' xs. On c.goes_on True h' v xs) (λ ls' h' xs. live o at ls' (xs ++ st) h' s1) g (omega arith) (omega (arith, le)) (held s1)
          (subst (λ ys. Run set S o rep (live o at g.ls' (ys ++ st) g.h' s1) g.h' s1.units factor (b - c.nodes) g.ls' end st (held s1)) (sym g.is.1.1)
          (subst (λ m. Run set S o rep (live o m g.ls' st g.h' s1) g.h' s1.units factor (b - c.nodes) g.ls' end st (held s1)) (let e : at + 0 ≡ at = omega arith in e)
          (on_held g.is.0 s1 g.ls' g.h' (omega (arith, g.units)) g.held))))
  chosen_by false d span c fc held failed n b rep lit le rc s o at end ls st h ready on_held on_failed =
      bind_to set S o (On c.goes_on Nothing) rep (aim_of false to next) (λ v. Some end) st st k h s.units factor b 1 c.nodes ls (omega arith) (omega arith) (λ v. on_boolean span v (λ t. either t held failed)) last (fc s) (rc.test false n s o at ls st h ready)
    where
      k : Next
      k = live o at ls st h s

      to : ℕ
      to = at + c.test_size false + n

      next : ℕ
      next = at + c.test_size false

      goes : (p : ℕ) (f : State → Completion) (s1 : State) → Reaches set S k h s.units 1 c.nodes ls (λ h' xs. (c.goes_on ≡ true) × (xs ≡ [])) s1 (λ ls' h' xs. live o p ls' (xs ++ st) h' s1) → (c.goes_on ≡ true → Later s o p rep (b - c.nodes) st end f) → Run set S o rep k h s.units factor b ls end st (f s1)
      goes p f s1 g on =
          run_on set S o rep end st k h s.units factor b 1 c.nodes factor (b - c.nodes) ls s1 (λ h' xs. (c.goes_on ≡ true) × (xs ≡ [])) (λ ls' h' xs. live o p ls' (xs ++ st) h' s1) g (omega arith) (omega (arith, le)) (f s1)
          (subst (λ ys. Run set S o rep (live o p g.ls' (ys ++ st) g.h' s1) g.h' s1.units factor (b - c.nodes) g.ls' end st (f s1)) (sym g.is.1)
          (on g.is.0 s1 g.ls' g.h' (omega (arith, g.units)) g.held))

      last : (v : Value) (s1 : State) → Owed set S o (On c.goes_on Nothing) k h s.units 1 c.nodes ls (aim_of false to next v) st v s1 → Run set S o rep k h s.units factor b ls end st (on_boolean span v (λ t. either t held failed) s1)
      last (Int z) s1 r = tt
      last (Boolean true) s1 r = goes next held s1 r on_held
      last (Boolean false) s1 r = goes to failed s1 r (λ on. on_failed on lit)
      last (Text t) s1 r = tt
      last UnitValue s1 r = tt

  chosen : (d : ℕ) (span : Span) (c : Emitted) (fc held failed : State → Completion) (n b : ℕ) (rep : Rep set S) → c.nodes ≤ b → Acts set S d c fc → (s : State) (o : Activation) (at end : ℕ) (ls st : List Slot) (h : List Object) → Prepared set S d c (condition c n) s o at ls h →
      (c.goes_on ≡ true → Later s o (at + condition_size c) rep (b - c.nodes) st end held) → (c.goes_on ≡ true → c.always ≡ false → Later s o (at + condition_size c + n) rep (b - c.nodes) st end failed) →
      Run set S o rep (live o at ls st h s) h s.units factor b ls end st (then_do (fc s) (λ v. on_boolean span v (λ t. either t held failed)))
  chosen d span c fc held failed n b rep le rc s o at end ls st h ready on_held on_failed = chosen_by c.always d span c fc held failed n b rep refl le rc s o at end ls st h ready on_held on_failed

  -- a part's code, whose value is the whole's
  part : (d : ℕ) (a : Emitted) (fa : State → Completion) (goes : Bool) → (a.goes_on ≡ true → goes ≡ true) → Follows set S d a fa → (s : State) (o : Activation) (at end b : ℕ) (ls st : List Slot) (h : List Object) → at + a.size ≡ end → a.nodes ≤ b → Ready set S d a s o at ls h → Run set S o (On goes Represents) (live o at ls st h s) h s.units factor b ls end st (fa s)
  part d a fa goes on ra s o at end b ls st h e le ready =
      ends_at set S o (On goes Represents) (live o at ls st h s) h s.units factor b ls (at + a.size) end st (fa s) e
      (run_weak set S o (On goes Represents) (On a.goes_on (Typed a.ty)) (λ v. Some (at + a.size)) st (live o at ls st h s) h s.units factor b 0 a.nodes ls (omega arith) le (λ h' v xs is. (on is.0, is.1.1)) (fa s) (ra s o at ls st h ready))

  -- nothing is done, and Unit is the value
  idle : (goes : Bool) → goes ≡ true → (s : State) (o : Activation) (at end b : ℕ) (ls st : List Slot) (h : List Object) → at ≡ end → Held h ls s.locals → Run set S o (On goes Represents) (live o at ls st h s) h s.units factor b ls end st (Gives UnitValue s)
  idle goes on s o at end b ls st h e held =
      own set S 0 (live o at ls st h s) h factor b ls ls h [] (λ h' ys. On goes Represents h' UnitValue ys) s (λ ls' h' ys. live o end ls' (ys ++ st) h' s) (omega arith) (ap (λ n. live o n ls st h s) e) (on, refl) (grows_none h) held refl

  pub if_acts : (d : ℕ) (ty : TypeTree) (span : Span) (c a : Emitted) (fc fa : State → Completion) → Sized c → Sized a → Acts set S d c fc → Acts set S d a fa → Acts set S (suc d) (if_code c a ty) (λ s. enter s.units s (λ s1. then_do (then_do (fc s1) (λ v. on_boolean span v (λ t. either t fa (Gives UnitValue)))) (checked span ty)))
  if_acts d ty span c a fc fa zc za rc ra =
      plain_acts set S (suc d) ty (condition_size c + kept_bytes c.goes_on a.size) (1 + c.nodes + a.nodes) goes (condition c a.size ++ kept c.goes_on a.code) _ (if_size c a zc za)
      (entered set S d (c.nodes + a.nodes) x _ (omega arith) (with_check set S d (c.nodes + a.nodes) x span g inside))
    where
      goes : Bool
      goes = if c.always then a.goes_on else c.goes_on

      x : Emitted
      x = if_code c a ty

      g : State → Completion
      g s = then_do (fc s) (λ v. on_boolean span v (λ t. either t fa (Gives UnitValue)))

      inside : Inside set S d (c.nodes + a.nodes) x g
      inside s o at ls st h ready =
          chosen d span c fc fa (Gives UnitValue) a.size (c.nodes + a.nodes) (On goes Represents) (omega arith) rc s o at end ls st h
          (record { deep = ready.deep; small = omega (arith, ready.small); code = has_front set o at (condition c a.size) (kept c.goes_on a.code) ready.code; held = ready.held; quiet = ready.quiet })
          (λ on s1 ls1 h1 less held1.
          let f = kept_all c.goes_on a.size on in
          part d a fa goes (λ on_a. whichever c.always a.goes_on c.goes_on on_a on) ra.value s1 o (at + condition_size c) end (c.nodes + a.nodes - c.nodes) ls1 st h1 (omega (arith, f)) (omega arith)
          (record { deep = omega (arith, less, ready.deep); small = omega (arith, ready.small); code = behind_condition o c zc at a.size a.code on ready.code; held = held1; quiet = ready.quiet }))
          (λ on lit s1 ls1 h1 less held1.
          let f = kept_all c.goes_on a.size on in
          idle goes (ap (λ t. if t then a.goes_on else c.goes_on) lit ∙ on) s1 o (at + condition_size c + a.size) end (c.nodes + a.nodes - c.nodes) ls1 st h1 (omega (arith, f)) held1)
        where
          end : ℕ
          end = at + (condition_size c + kept_bytes c.goes_on a.size)

  not_both : (t : Bool) → t ≡ true → t ≡ false → ⊥
  not_both true e f = cc
  not_both false e f = cc

  -- the condition is the literal true
  held_acts : (d : ℕ) (ty : TypeTree) (span : Span) (c a b : Emitted) (fc fa fb : State → Completion) → c.always ≡ true → Sized a → Acts set S d c fc → Acts set S d a fa → Acts set S (suc d) (plain ty a.size (1 + c.nodes + a.nodes + b.nodes) a.goes_on a.code) (λ s. enter s.units s (λ s1. then_do (then_do (fc s1) (λ v. on_boolean span v (λ t. either t fa fb))) (checked span ty)))
  held_acts d ty span c a b fc fa fb lit za rc ra =
      plain_acts set S (suc d) ty a.size (1 + c.nodes + a.nodes + b.nodes) a.goes_on a.code _ za.whole
      (entered set S d (c.nodes + a.nodes) x _ (omega arith) (with_check set S d (c.nodes + a.nodes) x span g inside))
    where
      x : Emitted
      x = plain ty a.size (1 + c.nodes + a.nodes + b.nodes) a.goes_on a.code

      g : State → Completion
      g s = then_do (fc s) (λ v. on_boolean span v (λ t. either t fa fb))

      inside : Inside set S d (c.nodes + a.nodes) x g
      inside s o at ls st h ready =
          chosen_by true d span c fc fa fb 0 (c.nodes + a.nodes) (On a.goes_on Represents) lit (omega arith) rc s o at (at + a.size) ls st h
          (record { deep = ready.deep; small = omega (arith, ready.small); code = tt; held = ready.held; quiet = ready.quiet })
          (λ on s1 ls1 h1 less held1.
          part d a fa a.goes_on (λ on_a. on_a) ra.value s1 o (at + 0) (at + a.size) (c.nodes + a.nodes - c.nodes) ls1 st h1 (omega arith) (omega arith)
          (record { deep = omega (arith, less, ready.deep); small = omega (arith, ready.small); code = subst (λ m. HasAt set o m a.code) (let e : at ≡ at + 0 = omega arith in e) ready.code; held = held1; quiet = ready.quiet }))
          (λ on no. absurd (not_both c.always lit no))

  -- the condition can fail
  either_acts : (d : ℕ) (ty : TypeTree) (span : Span) (c a b : Emitted) (fc fa fb : State → Completion) → c.always ≡ false → Sized c → Sized a → Sized b → Acts set S d c fc → Acts set S d a fa → Acts set S d b fb → Acts set S (suc d) (plain ty (either_bytes c a b) (1 + c.nodes + a.nodes + b.nodes) (c.goes_on && (a.goes_on || b.goes_on)) (either_ops c a b)) (λ s. enter s.units s (λ s1. then_do (then_do (fc s1) (λ v. on_boolean span v (λ t. either t fa fb))) (checked span ty)))
  either_acts d ty span c a b fc fa fb lit zc za zb rc ra rb =
      plain_acts set S (suc d) ty (c.test_size false + kept_bytes c.goes_on (a.size + over_size a + b.size)) (1 + c.nodes + a.nodes + b.nodes) goes (c.test false (a.size + over_size a) ++ kept c.goes_on ways) _ (either_size c a b zc za zb)
      (entered set S d (c.nodes + a.nodes + b.nodes) x _ (omega arith) (with_check set S d (c.nodes + a.nodes + b.nodes) x span g inside))
    where
      goes : Bool
      goes = c.goes_on && (a.goes_on || b.goes_on)

      ways : List Operation
      ways = a.code ++ (over a b.size ++ b.code)

      x : Emitted
      x = plain ty (either_bytes c a b) (1 + c.nodes + a.nodes + b.nodes) (c.goes_on && (a.goes_on || b.goes_on)) (either_ops c a b)

      g : State → Completion
      g s = then_do (fc s) (λ v. on_boolean span v (λ t. either t fa fb))

      inside : Inside set S d (c.nodes + a.nodes + b.nodes) x g
      inside s o at ls st h ready =
          chosen_by false d span c fc fa fb (a.size + over_size a) (c.nodes + a.nodes + b.nodes) (On goes Represents) lit (omega arith) rc s o at end ls st h
          (record { deep = ready.deep; small = omega (arith, ready.small); code = has_front set o at (c.test false (a.size + over_size a)) (kept c.goes_on ways) ready.code; held = ready.held; quiet = ready.quiet })
          on_held
          (λ on no s1 ls1 h1 less held1.
          let f = kept_all c.goes_on (a.size + over_size a + b.size) on in
          part d b fb goes (λ on_b. both_on c.goes_on (a.goes_on || b.goes_on) on (or_on a.goes_on b.goes_on on_b)) rb.value s1 o (next + (a.size + over_size a)) end (c.nodes + a.nodes + b.nodes - c.nodes) ls1 st h1 (omega (arith, f)) (omega arith)
          (record { deep = omega (arith, less, ready.deep); small = omega (arith, ready.small); code = code_b on; held = held1; quiet = ready.quiet }))
        where
          end : ℕ
          end = at + (c.test_size false + kept_bytes c.goes_on (a.size + over_size a + b.size))

          next : ℕ
          next = at + c.test_size false

          code_a : c.goes_on ≡ true → HasAt set o next ways
          code_a on =
              written set o next c.goes_on ways on
              (subst (λ m. HasAt set o (at + m) (kept c.goes_on ways)) (zc.test false (a.size + over_size a)) (has_back set o at (c.test false (a.size + over_size a)) (kept c.goes_on ways) ready.code))

          code_over : c.goes_on ≡ true → HasAt set o (next + a.size) (over a b.size ++ b.code)
          code_over on = behind set o a za next (over a b.size ++ b.code) (code_a on)

          code_b : c.goes_on ≡ true → HasAt set o (next + (a.size + over_size a)) b.code
          code_b on =
              subst (λ m. HasAt set o m b.code) (let k = kept_size a.goes_on (Jump (pos (b.size + 3)) ∷ []) in let e : next + a.size + bytes (over a b.size) ≡ next + (a.size + over_size a) = omega (arith, k) in e)
              (has_back set o (next + a.size) (over a b.size) b.code (code_over on))

          on_held : c.goes_on ≡ true → Later s o next (On goes Represents) (c.nodes + a.nodes + b.nodes - c.nodes) st end fa
          on_held on s1 ls1 h1 less held1 = by_case (fa s1) (ra.value s1 o next ls1 st h1 (record { deep = omega (arith, less, ready.deep); small = omega (arith, ready.small); code = has_front set o next a.code (over a b.size ++ b.code) (code_a on); held = held1; quiet = ready.quiet }))
            where
              c1 : Next
              c1 = live o next ls1 st h1 s1

              goes_so : a.goes_on ≡ true → goes ≡ true
              goes_so on_a = both_on c.goes_on (a.goes_on || b.goes_on) on (ap (λ t. t || b.goes_on) on_a)

              by_case : (r : Completion) → Run set S o (On a.goes_on (Typed a.ty)) c1 h1 s1.units 0 a.nodes ls1 (next + a.size) st r → Run set S o (On goes Represents) c1 h1 s1.units factor (c.nodes + a.nodes + b.nodes - c.nodes) ls1 end st r
              by_case (Gives v s2) g =
                  let f = kept_all c.goes_on (a.size + over_size a + b.size) on in
                  let k = kept_all a.goes_on 3 g.is.0 in
                  run_on set S o (On goes Represents) end st c1 h1 s1.units factor (c.nodes + a.nodes + b.nodes - c.nodes) 0 a.nodes 3 0 ls1 s2 (λ h' xs. On a.goes_on (Typed a.ty) h' v xs) (λ ls' h' xs. live o (next + a.size) ls' (xs ++ st) h' s2) g (omega arith) (omega arith) (Gives v s2)
                  (own set S 1 (live o (next + a.size) g.ls' (g.xs ++ st) g.h' s2) g.h' 3 0 g.ls' g.ls' g.h' g.xs (λ h' ys. On goes Represents h' v ys) s2 (λ ls' h' ys. live o end ls' (ys ++ st) h' s2) (omega arith)
                  (jump set o (next + a.size) g.ls' (g.xs ++ st) g.h' s2 (pos (b.size + 3)) end (written set o (next + a.size) a.goes_on (Jump (pos (b.size + 3)) ∷ []) g.is.0 (has_front set o (next + a.size) (over a b.size) b.code (code_over on))).0
                  (let e : next + a.size + (b.size + 3) ≡ end = omega (arith, f, k) in e)) (goes_so g.is.0, g.is.1.1) (grows_none g.h') g.held refl)
              by_case r g = run_weak set S o (On goes Represents) (On a.goes_on (Typed a.ty)) (λ v. Some end) st c1 h1 s1.units factor (c.nodes + a.nodes + b.nodes - c.nodes) 0 a.nodes ls1 (omega arith) (omega arith) (λ h' v xs is. (goes_so is.0, is.1.1)) r g

  pub if_else_acts : (d : ℕ) (ty : TypeTree) (span : Span) (c a b : Emitted) (fc fa fb : State → Completion) → Sized c → Sized a → Sized b → Acts set S d c fc → Acts set S d a fa → Acts set S d b fb → Acts set S (suc d) (if_else_code c a b ty) (λ s. enter s.units s (λ s1. then_do (then_do (fc s1) (λ v. on_boolean span v (λ t. either t fa fb))) (checked span ty)))
  if_else_acts d ty span c a b fc fa fb zc za zb rc ra rb = by_case c.always refl
    where
      by_case : (t : Bool) → c.always ≡ t → Acts set S (suc d) (plain ty (if t then a.size else either_bytes c a b) (1 + c.nodes + a.nodes + b.nodes) (if t then a.goes_on else c.goes_on && (a.goes_on || b.goes_on)) (if t then a.code else either_ops c a b)) (λ s. enter s.units s (λ s1. then_do (then_do (fc s1) (λ v. on_boolean span v (λ t. either t fa fb))) (checked span ty)))
      by_case true e = held_acts d ty span c a b fc fa fb e za rc ra
      by_case false e = either_acts d ty span c a b fc fa fb e zc za zb rc ra rb

  pub while_acts : (d : ℕ) (ty : TypeTree) (span : Span) (c a : Emitted) (fc fa again : State → Completion) → Sized c → Sized a → Acts set S d c fc → Acts set S d a fa → Acts set S d (while_code c a ty) again → Acts set S (suc d) (while_code c a ty) (λ s. enter s.units s (λ s1. then_do (then_do (fc s1) (λ v. on_boolean span v (λ t. either t (λ s2. then_do (fa s2) (λ v. again)) (Gives UnitValue)))) (checked span ty)))
  while_acts d ty span c a fc fa again zc za rc ra turn =
      plain_acts set S (suc d) ty (condition_size c + kept_bytes c.goes_on (body_size a)) (1 + c.nodes + a.nodes) goes (condition c (body_size a) ++ kept c.goes_on (a.code ++ returns a n)) _ (while_size c a zc za)
      (entered set S d (c.nodes + a.nodes) x _ (omega arith) (with_check set S d (c.nodes + a.nodes) x span g inside))
    where
      goes : Bool
      goes = c.goes_on && not c.always

      -- how far the jump back goes
      n : ℕ
      n = condition_size c + a.size + bytes (discards a.ty)

      x : Emitted
      x = while_code c a ty

      g : State → Completion
      g s = then_do (fc s) (λ v. on_boolean span v (λ t. either t (λ s2. then_do (fa s2) (λ v. again)) (Gives UnitValue)))

      inside : Inside set S d (c.nodes + a.nodes) x g
      inside s o at ls st h ready =
          chosen d span c fc (λ s2. then_do (fa s2) (λ v. again)) (Gives UnitValue) (body_size a) (c.nodes + a.nodes) rep (omega arith) rc s o at end ls st h
          (record { deep = ready.deep; small = omega (arith, ready.small); code = has_front set o at (condition c (body_size a)) (kept c.goes_on (a.code ++ returns a n)) ready.code; held = ready.held; quiet = ready.quiet })
          on_held
          (λ on lit s1 ls1 h1 less held1.
          let f = kept_all c.goes_on (body_size a) on in
          idle goes (both_on c.goes_on (not c.always) on (ap not lit)) s1 o (at + condition_size c + body_size a) end (c.nodes + a.nodes - c.nodes) ls1 st h1 (omega (arith, f)) held1)
        where
          rep : Rep set S
          rep = On goes Represents

          end : ℕ
          end = at + (condition_size c + kept_bytes c.goes_on (body_size a))

          next : ℕ
          next = at + condition_size c

          code_a : c.goes_on ≡ true → HasAt set o next (a.code ++ returns a n)
          code_a on = behind_condition o c zc at (body_size a) (a.code ++ returns a n) on ready.code

          code_back : c.goes_on ≡ true → a.goes_on ≡ true → HasAt set o (next + a.size) (discards a.ty ++ Jump (back n) ∷ [])
          code_back on on_a = written set o (next + a.size) a.goes_on (discards a.ty ++ Jump (back n) ∷ []) on_a (behind set o a za next (returns a n) (code_a on))

          -- the jump back, and the loop once more
          turned : HasAt set o (next + a.size + bytes (discards a.ty)) (Jump (back n) ∷ []) → (s2 : State) (ls2 : List Slot) (h2 : List Object) → s2.units ≤ s.units → Held h2 ls2 s2.locals → Run set S o rep (live o (next + a.size + bytes (discards a.ty)) ls2 st h2 s2) h2 s2.units 2 0 ls2 end st (again s2)
          turned jump_at s2 ls2 h2 less held2 =
              run_paid set S 1 o rep (λ v. Some end) st (live o (next + a.size + bytes (discards a.ty)) ls2 st h2 s2) (live o at ls2 st h2 s2) h2 h2 2 0 0 x.nodes ls2 ls2 s2 (omega arith) (omega (arith, ready.small))
              (jump set o (next + a.size + bytes (discards a.ty)) ls2 st h2 s2 (back n) at jump_at.0
              (ap (λ m. target m (back n)) (let e : next + a.size + bytes (discards a.ty) ≡ at + n = omega arith in e) ∙ back_to at n))
              (grows_none h2) held2 refl (again s2)
              (run_weak set S o rep (On x.goes_on (Typed x.ty)) (λ v. Some end) st (live o at ls2 st h2 s2) h2 s2.units 0 x.nodes 0 x.nodes ls2 (omega arith) (omega arith) (λ h' v xs is. (is.0, is.1.1)) (again s2)
              (turn.value s2 o at ls2 st h2 (record { deep = omega (arith, less, ready.deep); small = ready.small; code = ready.code; held = held2; quiet = ready.quiet })))

          on_held : c.goes_on ≡ true → Later s o next rep (c.nodes + a.nodes - c.nodes) st end (λ s1. then_do (fa s1) (λ v. again))
          on_held on s1 ls1 h1 less held1 =
              bind set S o (On a.goes_on (Typed a.ty)) rep (next + a.size) end st st c1 h1 s1.units factor (c.nodes + a.nodes - c.nodes) 0 a.nodes ls1 (omega arith) (omega arith) (λ v. again) last (fa s1)
              (ra.value s1 o next ls1 st h1 (record { deep = omega (arith, less, ready.deep); small = omega (arith, ready.small); code = has_front set o next a.code (returns a n) (code_a on); held = held1; quiet = ready.quiet }))
            where
              c1 : Next
              c1 = live o next ls1 st h1 s1

              last : (v : Value) (s2 : State) → Reaches set S c1 h1 s1.units 0 a.nodes ls1 (λ h' xs. On a.goes_on (Typed a.ty) h' v xs) s2 (λ ls' h' xs. live o (next + a.size) ls' (xs ++ st) h' s2) → Run set S o rep c1 h1 s1.units factor (c.nodes + a.nodes - c.nodes) ls1 end st (again s2)
              last v s2 g =
                  let code = code_back on g.is.0 in
                  run_on set S o rep end st c1 h1 s1.units factor (c.nodes + a.nodes - c.nodes) 0 a.nodes 4 0 ls1 s2 (λ h' xs. On a.goes_on (Typed a.ty) h' v xs) (λ ls' h' xs. live o (next + a.size) ls' (xs ++ st) h' s2) g (omega arith) (omega arith) (again s2)
                  (discarded set S o rep (next + a.size) end g.ls' st st g.h' s2 0 a.ty v g.xs (has_front set o (next + a.size) (discards a.ty) (Jump (back n) ∷ []) code) g.is.1 g.held (again s2)
                  (turned (has_back set o (next + a.size) (discards a.ty) (Jump (back n) ∷ []) code) s2 g.ls' g.h' (omega (arith, less, g.units)) g.held))
