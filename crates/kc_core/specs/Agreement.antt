-- From a simulation to agreement, for any two runs, and one agreement behind another.
use Rattle.std.proofs.Common.{◌≡◌, ℕ, ◌+◌, ◌*◌, ◌<◌, ◌≤◌, List, [], ◌++◌, sym, ap, ◌∙◌, subst, arith, ⊎_elim, append_assoc, append-nil, mul-le-mul_left}
use Rattle.std.proofs.Math.Nat.{mul-le-mul_right, mul_assoc}
use Rattle.std.proofs.lemmas.Bool.{cases_lt}
use Rattle.kc_core.specs.Runs.{Outcome, Going, Over, said, IsOver, IsPrefix, Lawful, AgreesBy, Says}

pub prefix_all : (a : List ℕ) → IsPrefix a a
prefix_all a = ([], append-nil a)

pub prefix_on : (a b c : List ℕ) → IsPrefix a b → IsPrefix b c → IsPrefix a c
prefix_on a b c f g = (f.0 ++ g.0, sym (append_assoc a f.0 g.0) ∙ ap (λ l. l ++ g.0) f.1 ∙ g.1)

far : (slack n j : ℕ) → slack + slack * n + 1 ≤ slack + slack * j → n < j
far slack n j h = ⊎_elim (λ lt. lt) (λ le. absurd (let k : slack * j ≤ slack * n = mul-le-mul_left slack le in omega arith)) (cases_lt n j)

module _ (E : Type 0) (f slack : ℕ) (p q : ℕ → Outcome E) (law : Lawful q) (follow : (n : ℕ) → Says f slack q n (p n)) where
  abbrev bound : ℕ → ℕ
  bound n = slack + slack * n + 1

  end_at : (n : ℕ) (r : Outcome E) → Says f slack q n r → IsOver r → q (f * (n + 1)) ≡ r
  end_at n (Going out) h over = absurd over
  end_at n (Over how out) h over = law.stays h.0 (f * (n + 1)) h.1 (subst IsOver (sym h.2) tt) ∙ h.2

  -- two ends of one run are one
  same_end : (j n : ℕ) (r : Outcome E) → q j ≡ r → IsOver r → IsOver (q n) → r ≡ q n
  same_end j n r e over over2 = sym e ∙ sym (law.stays j (j + n) (omega arith) (subst IsOver (sym e) over)) ∙ law.stays n (j + n) (omega arith) over2

  end_only : (n k : ℕ) (r : Outcome E) → bound n ≤ k → Says f slack q k r → IsOver (q n) → r ≡ q n
  end_only n k (Going out) big h over = absurd (subst IsOver (sym (law.stays n h.0 (let lt = far slack n h.0 (omega (arith, big, h.2)) in omega arith) over) ∙ h.3) over)
  end_only n k (Over how out) big h over = same_end h.0 n (Over how out) h.2 tt over

  says_to : (n : ℕ) (r : Outcome E) → Says f slack q n r → IsPrefix (said r) (said (q (f * (n + 1))))
  says_to n (Going out) h = subst (λ w. IsPrefix (said w) (said (q (f * (n + 1))))) h.3 (law.grows h.0 (f * (n + 1)) h.1)
  says_to n (Over how out) h = subst (λ w. IsPrefix (said w) (said (q (f * (n + 1))))) h.2 (law.grows h.0 (f * (n + 1)) h.1)

  at_end : (j n : ℕ) (r : Outcome E) → q j ≡ r → IsOver r → IsPrefix (said (q n)) (said r)
  at_end j n r e over = subst (λ w. IsPrefix (said (q n)) (said w)) (law.stays j (j + n) (omega arith) (subst IsOver (sym e) over) ∙ e) (law.grows n (j + n) (omega arith))

  says_from : (n k : ℕ) (r : Outcome E) → bound n ≤ k → Says f slack q k r → IsPrefix (said (q n)) (said r)
  says_from n k (Going out) big h = subst (λ w. IsPrefix (said (q n)) (said w)) h.3 (law.grows n h.0 (let lt = far slack n h.0 (omega (arith, big, h.2)) in omega arith))
  says_from n k (Over how out) big h = at_end h.0 n (Over how out) h.2 tt

  pub agree : AgreesBy f p q
  agree = record {
    ends = λ n over. end_at n (p n) (follow n) over;
    ends_only = λ n over. (bound n, end_only n (bound n) (p (bound n)) (omega arith) (follow (bound n)) over);
    says = λ n. says_to n (p n) (follow n);
    says_only = λ n. (bound n, says_from n (bound n) (p (bound n)) (omega arith) (follow (bound n)));
  }

-- a larger factor serves too
pub slower : (E : Type 0) (f g : ℕ) (p q : ℕ → Outcome E) → Lawful q → f ≤ g → AgreesBy f p q → AgreesBy g p q
slower E f g p q law le a = record {
  ends = λ n over. law.stays (f * (n + 1)) (g * (n + 1)) (mul-le-mul_right (n + 1) le) (subst IsOver (sym (a.ends n over)) over) ∙ a.ends n over;
  ends_only = a.ends_only;
  says = λ n. prefix_on _ _ _ (a.says n) (law.grows (f * (n + 1)) (g * (n + 1)) (mul-le-mul_right (n + 1) le));
  says_only = a.says_only;
}

-- one agreement behind another
pub compose : (E : Type 0) (f g h : ℕ) (p q r : ℕ → Outcome E) → Lawful r → g * (f + 1) ≤ h → AgreesBy f p q → AgreesBy g q r → AgreesBy h p r
compose E f g h p q r law fits a b = record {
  ends = λ n over. law.stays (g * (f * (n + 1) + 1)) (h * (n + 1)) (room n) (subst IsOver (sym (b.ends (f * (n + 1)) (over_q n over))) (over_q n over)) ∙ b.ends (f * (n + 1)) (over_q n over) ∙ a.ends n over;
  ends_only = λ n over. let k = b.ends_only n over in let m = a.ends_only k.0 (subst IsOver (sym k.1) over) in (m.0, m.1 ∙ k.1);
  says = λ n. prefix_on _ _ _ (a.says n) (prefix_on _ _ _ (b.says (f * (n + 1))) (law.grows (g * (f * (n + 1) + 1)) (h * (n + 1)) (room n)));
  says_only = λ n. let k = b.says_only n in let m = a.says_only k.0 in (m.0, prefix_on _ _ _ k.1 m.1);
}
  where
    over_q : (n : ℕ) → IsOver (p n) → IsOver (q (f * (n + 1)))
    over_q n over = subst IsOver (sym (a.ends n over)) over

    room : (n : ℕ) → g * (f * (n + 1) + 1) ≤ h * (n + 1)
    room n =
        let a : g * (f * (n + 1) + 1) ≤ g * ((f + 1) * (n + 1)) = mul-le-mul_left g (omega arith) in
        let b : g * (f + 1) * (n + 1) ≤ h * (n + 1) = mul-le-mul_right (n + 1) fits in
        let e = mul_assoc g (f + 1) (n + 1) in
        omega (arith, a, b, e)
