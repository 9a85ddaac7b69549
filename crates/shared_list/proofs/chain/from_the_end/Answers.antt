use Rattle.std.proofs.Common.{◌+◌, ◌-◌, ◌++◌, ◌∷◌, [], Bor, ap, sym, ◌∙◌, arith}
use Rattle.shared_list.specs.Chains.{elements}
use Rattle.shared_list.specs.declared.chain.Chain.{Chain}
use Rattle.shared_list.proofs.Reversed.{one_taken}
use Rattle.shared_list.proofs.chain.from_the_end.Goals as goal

pub loop-preserved : goal.loop-preserved
loop-preserved g c =
    one_taken (λ (e : Bor g.row.T.Denot). e.now) c.loop.all.items c.push.new.self.items _ (elements c.deref-left-in-Link.result.now) (elements c.loop.left.now) (c.args.count - c.loop.counter) (c.args.count - (c.loop.counter + 1)) c.in_ok-push-in-Link.ensures.items (ap elements c.in-Link.is ∙ ap (λ (rest : Chain g.row.T.Denot). elements rest ++ c.in-Link.last ∷ []) (sym c.deref-left-in-Link.ensures)) (omega (arith, c.loop-test.true))
    ∙ c.loop.invariant
