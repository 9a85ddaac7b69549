use Rattle.std.proofs.Common.{◌≡◌, ℕ, zero, suc, List, [], ◌∷◌, drop, Option, Some, None, refl, sym, ap, ◌∙◌, add-one}
use Rattle.class_file.specs.declared.class.VType.{VType}
use Rattle.verifier_types.specs.declared.types.VerificationType.{VerificationType}
use Rattle.verifier_types.specs.Seen.{Popped}
use Rattle.verifier_types.proofs.stack.Stack.drop_upper.Goals as goal

popped_rest : (o : Option VerificationType) (old new : List VType) → Popped o old new → new ≡ drop 1 old
popped_rest None old new h = h.1 ∙ sym (ap (drop 1) h.0)
popped_rest (Some t) old new h = sym (ap (drop 1) h)

one_more_dropped : (s : List VType) (n : ℕ) → drop 1 (drop n s) ≡ drop (suc n) s
one_more_dropped [] zero = refl
one_more_dropped [] (suc n) = refl
one_more_dropped (x ∷ s) zero = refl
one_more_dropped (x ∷ s) (suc n) = one_more_dropped s n

pub loop-preserved : goal.loop-preserved
loop-preserved c =
    popped_rest c.pop.result c.loop.self c.pop.new.self c.pop.ensures ∙ ap (drop 1) c.loop.invariant ∙ one_more_dropped c.args.self.now c.loop.counter
    ∙ ap (λ (n : ℕ). drop n c.args.self.now) (sym (add-one c.loop.counter))
