use Rattle.std.proofs.Common.{ℕ}
use Rattle.std.proofs.lemmas.Result.{err_from_is_err_and}
use Rattle.class_file.specs.declared.pool.Entry.TheVariants as entry
use Rattle.class_file.specs.PoolFaults.{tagged_at, utf8_at, integer_at}
use Rattle.class_reader.specs.Reads.{input_of}
use Rattle.class_reader.proofs.Pieces.{plain, failed, short, long_read, other_read}
use Rattle.class_reader.proofs.pool.tagged_at.Goals as goal

pub returns-then-tag-eq1 : goal.returns-then-tag-eq1
unfolding tagged_at
returns-then-tag-eq1 c =
    rw c.if-tag-eq1.true (plain c.utf8_at.result c.args.uses.now.items (utf8_at (input_of c.args.input)) c.utf8_at.ensures)

pub returns-then-tag-eq3 : goal.returns-then-tag-eq3
unfolding tagged_at
returns-then-tag-eq3 c =
    rw c.if-tag-eq3.true (plain c.integer_at.result c.args.uses.now.items (integer_at (input_of c.args.input)) c.integer_at.ensures)

pub returns-then-left-lt2 : goal.returns-then-left-lt2
unfolding tagged_at
returns-then-left-lt2 c =
    rw c.fault.ensures (short c.args.left c.args.at c.args.tag (input_of c.args.input) c.args.uses.now.items c.if-tag-eq5.true c.if-left-lt2.true)

pub returns-then-tag-eq5 : goal.returns-then-tag-eq5
unfolding tagged_at
returns-then-tag-eq5 c =
    long_read c.args.left c.args.at c.args.tag (input_of c.args.input) c.long_at.result c.args.uses.now.items c.if-tag-eq5.true c.if-left-lt2.false c.long_at.ensures

pub returns-in_err-name : goal.returns-in_err-name
unfolding tagged_at
returns-in_err-name c =
    let p = err_from_is_err_and c.from_residual.result c.from_residual.ensures.1 in
    rw (p.1, p.2, c.if-tag-eq7.true) (failed entry.Class c.in_err-name.field-0.0 _ _ _ (c.in_err-name.ensures entry.Class))

pub returns-then-tag-eq7 : goal.returns-then-tag-eq7
unfolding tagged_at
returns-then-tag-eq7 c =
    rw c.if-tag-eq7.true (c.in_ok-name.ensures entry.Class)

pub returns-in_err-text : goal.returns-in_err-text
unfolding tagged_at
returns-in_err-text c =
    let p = err_from_is_err_and c.from_residual-in_err-text.result c.from_residual-in_err-text.ensures.1 in
    rw (p.1, p.2, c.if-tag-eq8.true) (failed entry.Str c.in_err-text.field-0.0 _ _ _ (c.in_err-text.ensures entry.Str))

pub returns-then-tag-eq8 : goal.returns-then-tag-eq8
unfolding tagged_at
returns-then-tag-eq8 c =
    rw c.if-tag-eq8.true (c.in_ok-text.ensures entry.Str)

pub returns-in_err-owner : goal.returns-in_err-owner
unfolding tagged_at
returns-in_err-owner c =
    let p = err_from_is_err_and c.from_residual-in_err-owner.result c.from_residual-in_err-owner.ensures.1 in
    rw (p.1, p.2, c.if-tag-eq9.true) (failed (λ (x : ℕ × ℕ). entry.FieldRef x.0 x.1) c.in_err-owner.field-0.0 _ _ _ (c.in_err-owner.ensures entry.FieldRef))

pub returns-then-tag-eq9 : goal.returns-then-tag-eq9
unfolding tagged_at
returns-then-tag-eq9 c =
    rw c.if-tag-eq9.true (c.in_ok-owner.ensures entry.FieldRef)

pub returns-in_err-owner-2 : goal.returns-in_err-owner-2
unfolding tagged_at
returns-in_err-owner-2 c =
    let p = err_from_is_err_and c.from_residual-in_err-owner-2.result c.from_residual-in_err-owner-2.ensures.1 in
    rw (p.1, p.2, c.if-tag-eq10.true) (failed (λ (x : ℕ × ℕ). entry.MethodRef x.0 x.1) c.in_err-owner-2.field-0.0 _ _ _ (c.in_err-owner-2.ensures entry.MethodRef))

pub returns-then-tag-eq10 : goal.returns-then-tag-eq10
unfolding tagged_at
returns-then-tag-eq10 c =
    rw c.if-tag-eq10.true (c.in_ok-owner-2.ensures entry.MethodRef)

pub returns-in_err-owner-3 : goal.returns-in_err-owner-3
unfolding tagged_at
returns-in_err-owner-3 c =
    let p = err_from_is_err_and c.from_residual-in_err-owner-3.result c.from_residual-in_err-owner-3.ensures.1 in
    rw (p.1, p.2, c.if-tag-eq11.true) (failed (λ (x : ℕ × ℕ). entry.InterfaceMethodRef x.0 x.1) c.in_err-owner-3.field-0.0 _ _ _ (c.in_err-owner-3.ensures entry.InterfaceMethodRef))

pub returns-then-tag-eq11 : goal.returns-then-tag-eq11
unfolding tagged_at
returns-then-tag-eq11 c =
    rw c.if-tag-eq11.true (c.in_ok-owner-3.ensures entry.InterfaceMethodRef)

pub returns-in_err-name-2 : goal.returns-in_err-name-2
unfolding tagged_at
returns-in_err-name-2 c =
    let p = err_from_is_err_and c.from_residual-in_err-name-2.result c.from_residual-in_err-name-2.ensures.1 in
    rw (p.1, p.2, c.if-tag-eq12.true) (failed (λ (x : ℕ × ℕ). entry.NameAndType x.0 x.1) c.in_err-name-2.field-0.0 _ _ _ (c.in_err-name-2.ensures entry.NameAndType))

pub returns-then-tag-eq12 : goal.returns-then-tag-eq12
unfolding tagged_at
returns-then-tag-eq12 c =
    rw c.if-tag-eq12.true (c.in_ok-name-2.ensures entry.NameAndType)

pub returns : goal.returns
unfolding tagged_at
returns c =
    rw c.fault-2.ensures (other_read c.args.left c.args.at c.args.tag (input_of c.args.input) c.args.uses.now.items c.if-tag-eq1.false c.if-tag-eq3.false c.if-tag-eq5.false c.if-tag-eq7.false c.if-tag-eq8.false c.if-tag-eq9.false c.if-tag-eq10.false c.if-tag-eq11.false c.if-tag-eq12.false)
