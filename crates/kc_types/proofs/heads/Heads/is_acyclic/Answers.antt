use Rattle.std.proofs.Common.{◌≡◌, true}
use Rattle.kc_types.specs.Ranks.{are_ranked}
use Rattle.kc_types.proofs.Ranked.{acyclic}
use Rattle.kc_types.proofs.heads.Heads.is_acyclic.Goals as goal

pub returns : goal.returns
returns c e =
    let ranked : are_ranked c.args.self.now.classes c.as_slice.result.now ≡ true = cc (c.as_slice-classes.ensures, c.are_ranked-ranked.ensures, e) in
    acyclic c.args.self.now c.as_slice.result.now ranked
