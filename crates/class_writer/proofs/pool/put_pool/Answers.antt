use Rattle.std.proofs.Common.{ℕ, ◌<◌, ◌++◌, List, length, take, sym, ap, ◌∙◌, append_assoc, arith}
use Rattle.std.specs.List.{flat_map}
use Rattle.class_file.specs.Pools.{entry_at}
use Rattle.class_file.specs.InstrBytes.{u2}
use Rattle.class_file.specs.ClassBytes.{slot_bytes}
use Rattle.class_writer.proofs.Slots.{slots_more}
use Rattle.class_writer.proofs.pool.put_pool.Goals as goal

pub loop-index-preserved : goal.loop-index-preserved
loop-index-preserved c =
    let pool = c.args.pool.now in
    let i = c.loop-index.index in
    let out = c.args.out.now.items in
    let lt : i < length pool = omega (arith, c.loop-index-test.true, c.count-index-end.ensures) in
    let s = slot_bytes (entry_at pool i) in
    let u = u2 (length pool) in
    let so_far = flat_map slot_bytes (take i pool) in
    c.in_ok-put_slot.ensures
    ∙ ap (λ (b : List ℕ). b ++ s) c.loop-index.invariant
    ∙ append_assoc out (u ++ so_far) s
    ∙ ap (λ (b : List ℕ). out ++ b) (append_assoc u so_far s ∙ ap (λ (b : List ℕ). u ++ b) (sym (slots_more pool i lt)))
