use Rattle.std.proofs.Common.{◌≡◌, ℕ, ◌+◌, ◌-◌, List, ◌++◌, length, take, drop, arith, sym, ap, ◌∙◌, subst}
use Rattle.std.proofs.lemmas.List.{take-append-drop, take_rest, drop-drop, length-take-le}
use Rattle.std.proofs.Math.Seq.{take-append_seam}
use Rattle.kc_io.proofs.memory.MemorySourceSource.read.Goals as goal

-- what was left is what was copied and what is left then
parted : (bytes copied others : List ℕ) (start n : ℕ) → copied ≡ take n (take (length bytes - start) (drop start bytes)) → length copied ≡ n → drop start bytes ≡ take n (copied ++ others) ++ drop (start + n) bytes
parted bytes copied others start n e same =
    let front : take n (copied ++ others) ≡ copied = subst (λ k. take k (copied ++ others) ≡ copied) same (take-append_seam copied others) in
    sym (
    ap (λ xs. take n (copied ++ others) ++ xs) (sym (drop-drop n start bytes))
    ∙ ap (λ xs. xs ++ drop n (drop start bytes)) (front ∙ e ∙ ap (take n) (take_rest bytes start))
    ∙ take-append-drop n (drop start bytes)
    )

pub returns-clause-ok : goal.returns-clause-ok
returns-clause-ok c =
    let n = c.min-count.result in
    sym (ap (λ s. s.left) c.self.view_is)
    ∙ parted c.self.inside.bytes.items c.copy_from_slice.new.self _ c.self.inside.start n
    (subst (λ bytes. c.copy_from_slice.new.self ≡ take n (take (length bytes - c.self.inside.start) (drop c.self.inside.start bytes))) c.deref.ensures.value c.copy_from_slice.ensures.after)
    (c.copy_from_slice.ensures.len ∙ length-take-le n c.args.buf.now (omega arith))
