use Rattle.std.proofs.Common.{rules}
use Rattle.std.proofs.lemmas.List.Sorted.{IsNonDecreasingBy-from_sort_by_key}
use Rattle.class_file.specs.declared.class.Handler.{Handler}
use Rattle.verifier.proofs.sweep.sorted_rows.Goals as goal

pub returns-clause-sorted : goal.returns-clause-sorted
returns-clause-sorted c = IsNonDecreasingBy-from_sort_by_key (λ (row : Handler). row.start) _ c.in_ok-sort_by_key.ensures.sorted (λ a r q k. search rules)
