use Rattle.std.proofs.Common.{arith}
use Rattle.kc_types.specs.declared.types.Ty.TheVariants as node
use Rattle.kc_types.specs.Tables.{level_of}
use Rattle.kc_types.proofs.Tables.{depth_rolled}
use Rattle.kc_types.proofs.Putting.{found_map}
use Rattle.kc_types.proofs.table.TypeTable.nullable.Goals as goal

pub returns-clause-deep : goal.returns-clause-deep
returns-clause-deep c =
    let same = depth_rolled (level_of c.args.self.now (node.Nullable c.args.id)) in
    found_map c.intern.result _ (λ _. ⊥) (λ f h. let s = c.is_nullable.ensures.shallow in omega (arith, same, s, h.0, h.1)) c.intern.ensures.deep
