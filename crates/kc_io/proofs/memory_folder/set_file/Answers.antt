use Rattle.std.proofs.Common.{◌∙◌, ap}
use Rattle.std.specs.List.{position}
use Rattle.kc_io.specs.Entries.{entries_of, files_of, with_entry}
use Rattle.kc_io.proofs.Entries.{is_named, entries_replaced, entries_pushed, files_of-with_entry}
use Rattle.kc_io.proofs.memory_folder.set_file.Goals as goal

pub returns-in-Some-clause-order : goal.returns-in-Some-clause-order
returns-in-Some-clause-order c =
    entries_replaced c.args.files.now.items c.args.name.now c.in-Some.place _ _ (c.in-Some.ensures ∙ ap (position (is_named c.args.name.now)) c.deref.ensures.value) (ap (λ file. file.0) c.index_mut.ensures.value)
    ∙ ap (λ bytes. with_entry (entries_of c.args.files.now.items) c.args.name.now bytes) c.in_ok-contents.ensures.items

pub returns-in-Some-clause-ok : goal.returns-in-Some-clause-ok
returns-in-Some-clause-ok c = ap files_of (returns-in-Some-clause-order c) ∙ files_of-with_entry _ _ _

pub returns-in_ok-push-in-None-clause-order : goal.returns-in_ok-push-in-None-clause-order
returns-in_ok-push-in-None-clause-order c =
    ap entries_of c.in_ok-push-in-None.ensures.items
    ∙ entries_pushed c.args.files.now.items c.args.name.now _ (c.in-None.ensures ∙ ap (position (is_named c.args.name.now)) c.deref.ensures.value) c.in_ok-from_str-in-None.ensures.ok
    ∙ ap (λ bytes. with_entry (entries_of c.args.files.now.items) c.args.name.now bytes) c.in_ok-contents.ensures.items

pub returns-in_ok-push-in-None-clause-ok : goal.returns-in_ok-push-in-None-clause-ok
returns-in_ok-push-in-None-clause-ok c = ap files_of (returns-in_ok-push-in-None-clause-order c) ∙ files_of-with_entry _ _ _
