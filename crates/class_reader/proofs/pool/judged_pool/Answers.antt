use Rattle.std.proofs.lemmas.Result.{err_from_is_err_and}
use Rattle.class_reader.proofs.Entries.{pool_fails, pool_is, pool_breaks}
use Rattle.class_reader.proofs.pool.judged_pool.Goals as goal

pub returns-in_err-judged_uses : goal.returns-in_err-judged_uses
returns-in_err-judged_uses c =
    let p = err_from_is_err_and c.from_residual-in_err-judged_uses.result c.from_residual-in_err-judged_uses.ensures.1 in
    let read = rw (c.new-pool.ensures, c.new-uses.ensures.items) at c.in_ok-end.ensures in
    let judged = rw c.deref.ensures.value at c.in_err-judged_uses.ensures in
    rw (p.1, p.2) (pool_fails c.entries_at.new.pool c.args.count c.in_ok-end.end c.entries_at.new.uses.items _ c.in_err-judged_uses.field-0.0 read judged)

pub returns-in-Ok : goal.returns-in-Ok
returns-in-Ok c =
    let read = rw (c.new-pool.ensures, c.new-uses.ensures.items, c.in-Ok.is) at c.in_ok-end.ensures in
    let judged = rw c.deref.ensures.value at c.in_ok-judged_uses.ensures in
    pool_is c.entries_at.new.pool c.args.count c.in-Ok.rest c.entries_at.new.uses.items _ c.in_ok-judged_uses.field-0 read judged

pub returns : goal.returns
returns c =
    let read = rw (c.new-pool.ensures, c.new-uses.ensures.items, c.in-Err.is) at c.in_ok-end.ensures in
    let judged = rw c.deref.ensures.value at c.in_ok-judged_uses.ensures in
    pool_breaks c.entries_at.new.pool c.args.count c.in-Err.found c.entries_at.new.uses.items _ c.in_ok-judged_uses.field-0 read judged
