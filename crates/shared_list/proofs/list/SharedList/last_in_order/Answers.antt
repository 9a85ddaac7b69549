use Rattle.std.proofs.Common.{◌≡◌, Bor, List, map, reverse, subst}
use Rattle.shared_list.proofs.Reversed.{turned, last_of}
use Rattle.shared_list.proofs.list.SharedList.last_in_order.Goals as goal

pub returns : goal.returns
returns g c =
    turned (λ (e : Bor g.row.T.Denot). e.now) c.in_ok-all.all.items c.reverse.new.self.items (last_of c.args.count c.args.self.now) c.reverse.ensures.items
    (subst (λ (es : List g.row.T.Denot). map (λ (e : Bor g.row.T.Denot). e.now) c.in_ok-all.all.items ≡ reverse (last_of c.args.count es)) c.self.view_is c.in_ok-all.ensures)
