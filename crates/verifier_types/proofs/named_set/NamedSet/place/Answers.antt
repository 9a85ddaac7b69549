use Rattle.std.proofs.Common.{◌≡◌, ◌<◌, ◌^◌, ℕ, List, [], ◌∷◌, length, Option, None, Some, ap, sym, ◌∙◌, arith}
use Rattle.std.specs.Prelude.{IfSome}
use Rattle.std.proofs.lemmas.List.Quantifiers.{position-Some}
use Rattle.class_file.specs.declared.class.ClassFile.{ClassFile}
use Rattle.class_file.specs.declared.class.Set.{Set}
use Rattle.class_file.specs.Pools.{is_text}
use Rattle.class_file.specs.Classes.{class_named}
use Rattle.verifier_types.proofs.named_set.NamedSet.place.Goals as goal

-- a place is one of the list
few : (name : List ℕ) (cs : List ClassFile) (o : Option ℕ) (count : ℕ) → o ≡ class_named name cs → count ≡ length cs → count < 2 ^ 63 → IfSome o (λ place. place < 2 ^ 63)
few name cs None count e is h = tt
few name [] (Some place) count e is h = absurd cc
few name (d ∷ cs) (Some place) count e is h =
    let at = position-Some (λ (c : ClassFile). is_text c.this_name name) (d ∷ cs) place d (sym e) in omega (arith, at.0, is, h)

pub returns-clause-exact : goal.returns-clause-exact
returns-clause-exact c =
    c.place_in.ensures ∙ c.self.invariant.0.holds c.args.name
    ∙ ap (λ (s : Set). class_named c.args.name.now s.classes) c.self.view_is

pub returns-clause-small : goal.returns-clause-small
returns-clause-small c = few c.args.name.now c.args.self.now.classes c.place_in.result c.count-count.result (returns-clause-exact c) c.count-count.ensures.exact c.count-count.ensures.small
