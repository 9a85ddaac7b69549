-- The class of a source file has a name that no built-in class has.
use Rattle.std.proofs.Common.{◌≡◌, ℕ, ◌+◌, List, [], ◌∷◌, ◌++◌, length, Some, None, Bool, true, false, not, refl, sym, ap, ◌∙◌, arith}
use Rattle.std.specs.Prelude.{codes, ◌||◌, if◌then◌else◌, nat_lt}
use Rattle.std.specs.List.{list_any, position_or_len}
use Rattle.std.proofs.lemmas.Bool.{le-ltb}
use Rattle.kc_text.proofs.Different.{same}
use Rattle.class_file.specs.Pools.{is_text}
use Rattle.class_file.specs.Classes.{ClassView, built_ins}
use Rattle.stack_code.specs.Agrees.{FilesHaveOwnNames}

-- the text ends with `Kt`
abbrev ends_so : List ℕ → Bool
ends_so [] = false
ends_so (u ∷ us) = is_text (u ∷ us) (codes "Kt") || ends_so us

or_true : (b : Bool) → (b || true) ≡ true
or_true true = refl
or_true false = refl

ends : (name : List ℕ) → ends_so (name ++ codes "Kt") ≡ true
ends [] = refl
ends (u ∷ us) = ap (λ (b : Bool). is_text (u ∷ us ++ codes "Kt") (codes "Kt") || b) (ends us) ∙ or_true (is_text (u ∷ us ++ codes "Kt") (codes "Kt"))

other : (a name : List ℕ) → ends_so a ≡ false → is_text a (name ++ codes "Kt") ≡ false
other a name e = by_test (is_text a (name ++ codes "Kt")) refl
  where
    by_test : (b : Bool) → is_text a (name ++ codes "Kt") ≡ b → b ≡ false
    by_test true q = absurd (let r : false ≡ true = sym e ∙ ap ends_so (same a (name ++ codes "Kt") q) ∙ ends name in cc)
    by_test false q = refl

none_found : (name : List ℕ) (cs : List ClassView) → list_any (λ c. ends_so c.name) cs ≡ false → position_or_len (λ c. is_text c.name (name ++ codes "Kt")) cs ≡ length cs
none_found name [] e = refl
none_found name (c ∷ cs) e = by_test (none_found name cs) (ends_so c.name) refl e
  where
    by_test : (list_any (λ c. ends_so c.name) cs ≡ false → position_or_len (λ c. is_text c.name (name ++ codes "Kt")) cs ≡ length cs) → (b : Bool) → ends_so c.name ≡ b → (b || list_any (λ c. ends_so c.name) cs) ≡ false → position_or_len (λ c. is_text c.name (name ++ codes "Kt")) (c ∷ cs) ≡ length (c ∷ cs)
    by_test more true q e = absurd (let r : true ≡ false = e in cc)
    by_test more false q e =
        ap (λ (b : Bool). if not b then 1 + position_or_len (λ c. is_text c.name (name ++ codes "Kt")) cs else 0) (other c.name name q)
        ∙ (let r = more e in omega (arith, r))

built_ins_end_otherwise : list_any (λ (c : ClassView). ends_so c.name) built_ins ≡ false
unfolding built_ins
built_ins_end_otherwise = refl

pub own_name : FilesHaveOwnNames
own_name name =
    let n = none_found name built_ins built_ins_end_otherwise in
    ap (λ (k : ℕ). if nat_lt k (length built_ins) then Some k else None) n
    ∙ ap (λ (b : Bool). if b then Some (length built_ins) else None) (le-ltb (length built_ins) (length built_ins) (omega arith))
