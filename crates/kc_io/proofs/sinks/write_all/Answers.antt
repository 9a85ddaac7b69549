use Rattle.std.proofs.Common.{◌≡◌, ℕ, ◌-◌, List, length, take, drop, ◌++◌, sym, ap, ◌∙◌, arith}
use Rattle.std.proofs.lemmas.List.{take-append-drop, take_rest}
use Rattle.kc_io.specs.Told.{GainsAllBut-piece}
use Rattle.kc_io.proofs.sinks.write_all.Goals as goal

-- a list is its first n items and the others
parted : (rest : List ℕ) (n : ℕ) → rest ≡ take n rest ++ take (length rest - n) (drop n rest)
parted rest n = sym (ap (λ others. take n rest ++ others) (take_rest rest n) ∙ take-append-drop n rest)

pub loop-rest-preserved : goal.loop-rest-preserved
loop-rest-preserved g c =
    record {
      gains = GainsAllBut-piece _ _ _ _ _ _ _ c.loop-rest.invariant.gains c.in_ok-count.ensures.ok (parted c.loop-rest.rest.now c.in_ok-count.count);
      faults = omega arith;
    }
