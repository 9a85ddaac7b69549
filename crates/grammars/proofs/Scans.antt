-- What an automaton has gone over can be completed, where each of its states can be and each step agrees.
use Rattle.std.proofs.Common.{◌≡◌, ℕ, suc, Bool, List, [], ◌∷◌, ◌++◌, refl, sym, ap, ◌∙◌, length}
use Rattle.grammars.specs.Automata.{Step, go, stop, goes}

module _ {S A : Type 0} (step : S → A → Step S) (at_end : S → Bool) (Completes : S → List A → Type 0)
    (some : (s : S) → (us : List A) × Completes s us)
    (stepped : (s s' : S) (t : A) (us : List A) → step s t ≡ go s' → Completes s' us → Completes s (t ∷ us)) where
  pub record GoneOver (ts : List A) (s : S) : Type 0 where
    pub front : List A
    pub back : List A
    pub split : ts ≡ front ++ back
    pub size : length front ≡ goes step at_end ts s
    pub rest : List A
    pub completed : Completes s (front ++ rest)

  nothing_gone_over : (ts : List A) (s : S) → 0 ≡ goes step at_end ts s → GoneOver ts s
  nothing_gone_over ts s e = let k = some s in record { front = []; back = ts; split = refl; size = e; rest = k.0; completed = k.1 }

  stepped_over : (t : A) (ts : List A) (s : S) (k : Step S) → step s t ≡ k
      → ((s' : S) → GoneOver ts s') → GoneOver (t ∷ ts) s
  stepped_over t ts s (go s') e h =
      let k = h s' in
      record { front = t ∷ k.front; back = k.back; split = ap (λ m. t ∷ m) k.split; size = ap suc k.size ∙ sym (ap (λ m. elim m as (λ _. ℕ) [ go s2 ↦ suc (goes step at_end ts s2) | stop b ↦ 0 ]) e); rest = k.rest; completed = stepped s s' t (k.front ++ k.rest) e k.completed }
  stepped_over t ts s (stop b) e h = nothing_gone_over (t ∷ ts) s (sym (ap (λ m. elim m as (λ _. ℕ) [ go s2 ↦ suc (goes step at_end ts s2) | stop b ↦ 0 ]) e))

  pub gone_over : (ts : List A) (s : S) → GoneOver ts s
  gone_over [] s = nothing_gone_over [] s refl
  gone_over (t ∷ ts) s = stepped_over t ts s (step s t) refl (λ s'. gone_over ts s')
