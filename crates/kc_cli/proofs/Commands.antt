-- Words command one thing at most.
use Rattle.std.proofs.Common.{◌≡◌, ◌≤◌, ◌<◌, ◌^◌, ◌⊎◌, ℕ, inl, inr, List, [], ◌∷◌, codes, decimal, refl, sym, ◌∙◌, ap, subst, arith}
use Rattle.std.proofs.lemmas.Fmt.{decimal_injective}
use Rattle.kc_cli.specs.declared.words.Command.{Command}
use Rattle.kc_cli.specs.declared.words.Command.TheVariants.{Exec}
use Rattle.kc_cli.specs.Words.{IsCommand, IsExec, IsStepCount, usual_steps}

-- what can be a count is a number of 64 bits
pub is_small : (n : ℕ) → n ≤ 1000000000000 → n < 2 ^ 64
is_small n h = omega (arith, h)

pub same_count : (word : List ℕ) (m n : ℕ) → IsStepCount word m → IsStepCount word n → m ≡ n
same_count word m n (is, some, few) (is2, some2, few2) = decimal_injective m n (is_small m few) (is_small n few2) (sym is ∙ is2)

same_exec : (words : List (List ℕ)) (m n : ℕ) (file other : List ℕ) → IsExec words m file → IsExec words n other → (m ≡ n) × (file ≡ other)
same_exec words m n file other (inl (w, s)) (inl (v, t)) = (s ∙ sym t, cc)
same_exec words m n file other (inl (w, s)) (inr (number, v, t)) = absurd cc
same_exec words m n file other (inr (number, w, s)) (inl (v, t)) = absurd cc
same_exec words m n file other (inr (number, w, s)) (inr (digits, v, t)) =
    let same : number ≡ digits = cc in
    let files : file ≡ other = cc in
    (same_count digits m n (subst (λ (x : List ℕ). IsStepCount x m) same s) t, files)

pub same_command : (words : List (List ℕ)) (one other : Command) → IsCommand words one → IsCommand words other → one ≡ other
same_command words (Exec m file) (Exec n other) (e, f) (g, h) =
    let (steps, files) = same_exec words m n file other e g in
    cc
