-- A set that passes the tests of loading is loaded.
use Rattle.std.proofs.Common.{◌≡◌, ◌≢◌, ℕ, zero, suc, ◌+◌, ◌<◌, ◌≤◌, Bool, true, false, cond, List, [], ◌∷◌, length, Option, Some, None, refl, sym, ap, subst, ◌∙◌, arith}
use Rattle.std.specs.Prelude.{slice_get, position, not, ◌&&◌, ◌||◌, ◌==◌, nat_le, codes}
use Rattle.std.specs.List.{list_all}
use Rattle.std.specs.Option.{option_map}
use Rattle.std.proofs.lemmas.Bool.{ltb-true, leb-true}
use Rattle.std.proofs.lemmas.List.Quantifiers.{position-Some}
use Rattle.class_file.specs.declared.class.ClassFile.{ClassFile}
use Rattle.class_file.specs.declared.class.Method.{Method}
use Rattle.class_file.specs.declared.class.Set.{Set}
use Rattle.class_file.specs.Pools.{is_text}
use Rattle.class_file.specs.Descriptors.{is_array_name}
use Rattle.class_file.specs.Classes.{ClassView, built_ins, class_named, class_number, number_of_place, or_else, is_abstract_flag, is_interface_flag, object_name}
use Rattle.class_file.specs.Lots.{static_named}
use Rattle.class_soundness.specs.Soundness.{IsOwnName, HasOwnMain, IsWhole, IsRanked, IsLoaded, WholeSetsAreLoaded}
use Rattle.class_soundness.proofs.Tests.{both_true}
use Rattle.class_soundness.proofs.Found.{text_same, some_same, none_is, all_at, not_true}
use Rattle.class_soundness.proofs.Loaded.{stands}
use Rattle.class_soundness.proofs.Plain.{all_there}
use Rattle.verifier.specs.Whole.{is_reserved, method_is_whole, is_whole, has_code, has_code_at, main_in, main_at, main_is_own, rank_in, rank_of, is_higher, are_higher, are_ranked, set_is_whole}

unequal : (b : Bool) → b ≡ true → b ≡ false → ⊥
unequal b e f = let q : true ≡ false = sym e ∙ f in cc

implied : (a b : Bool) → a ≡ true → (not a || b) ≡ true → b ≡ true
implied true b h e = e
implied false b h e = absurd cc

-- ---- names

all_reserved : list_all (λ (c : ClassView). is_reserved c.name) built_ins ≡ true
unfolding built_ins
all_reserved = refl

pub own_name : (name : List ℕ) → is_reserved name ≡ false → IsOwnName name
own_name name free = by (position (λ (c : ClassView). is_text c.name name) built_ins) refl
  where
    by : (o : Option ℕ) → position (λ (c : ClassView). is_text c.name name) built_ins ≡ o → IsOwnName name
    by None k = k
    by (Some i) k =
        let s = stands (λ (c : ClassView). is_text c.name name) built_ins i k in
        let kept = all_at (λ (c : ClassView). is_reserved c.name) built_ins i s.x all_reserved s.at in
        absurd (unequal (is_reserved name) (subst (λ (t : List ℕ). is_reserved t ≡ true) (text_same s.x.name name s.passes) kept) free)

count_is : length built_ins ≡ 37
unfolding built_ins
count_is = refl

-- a class whose number is behind the built-in ones is found in the set
named_above : (set : Set) (name : List ℕ) (above : ℕ) → class_number set name ≡ Some (number_of_place above) → class_named name set.classes ≡ Some above
named_above set name above e = by (position (λ (c : ClassView). is_text c.name name) built_ins) refl e
  where
    by_place : (o : Option ℕ) → option_map number_of_place o ≡ Some (number_of_place above) → o ≡ Some above
    by_place None e = absurd (none_is (number_of_place above) e)
    by_place (Some place) e =
        let n : number_of_place place ≡ number_of_place above = some_same (number_of_place place) (number_of_place above) e in
        let p : place ≡ above = omega (arith, n) in
        ap (λ (m : ℕ). Some m) p

    by : (o : Option ℕ) → position (λ (c : ClassView). is_text c.name name) built_ins ≡ o → or_else o (option_map number_of_place (class_named name set.classes)) ≡ Some (number_of_place above) → class_named name set.classes ≡ Some above
    by None k e = by_place (class_named name set.classes) e
    by (Some i) k e =
        let s = stands (λ (c : ClassView). is_text c.name name) built_ins i k in
        let low = (position-Some (λ (c : ClassView). is_text c.name name) built_ins i s.x k).0 in
        let n : i ≡ number_of_place above = some_same i (number_of_place above) e in
        let all = count_is in
        absurd (omega (arith, low, n, all))

-- ---- main

own_main : (set : Set) → main_is_own set ≡ true → HasOwnMain set
own_main set e =
    let b = both_true (not (is_reserved set.main)) (main_at set.classes (class_named set.main set.classes)) e in
    by_class (own_name set.main (not_true (is_reserved set.main) b.0)) (class_named set.main set.classes) refl b.1
  where
    by_method : IsOwnName set.main → (class : ℕ) → class_named set.main set.classes ≡ Some class → (c : ClassFile) → slice_get set.classes class ≡ Some c → (place : ℕ) → static_named (codes "main") (codes "()V") c.methods ≡ Some place → (o : Option Method) → slice_get c.methods place ≡ o → has_code o ≡ true → HasOwnMain set
    by_method own class k c l place p None q h = absurd cc
    by_method own class k c l place p (Some m) q h = record {
      class = class;
      file = c;
      place = place;
      method = m;
      own = own;
      class_is = k;
      file_is = l;
      place_is = p;
      method_is = q;
      coded = not_true (is_abstract_flag m.flags) h;
    }

    by_place : IsOwnName set.main → (class : ℕ) → class_named set.main set.classes ≡ Some class → (c : ClassFile) → slice_get set.classes class ≡ Some c → (o : Option ℕ) → static_named (codes "main") (codes "()V") c.methods ≡ o → has_code_at c.methods o ≡ true → HasOwnMain set
    by_place own class k c l None p h = absurd cc
    by_place own class k c l (Some place) p h = by_method own class k c l place p (slice_get c.methods place) refl h

    by_file : IsOwnName set.main → (class : ℕ) → class_named set.main set.classes ≡ Some class → (o : Option ClassFile) → slice_get set.classes class ≡ o → main_in o ≡ true → HasOwnMain set
    by_file own class k None l h = absurd cc
    by_file own class k (Some c) l h = by_place own class k c l (static_named (codes "main") (codes "()V") c.methods) refl h

    by_class : IsOwnName set.main → (o : Option ℕ) → class_named set.main set.classes ≡ o → main_at set.classes o ≡ true → HasOwnMain set
    by_class own None k h = absurd cc
    by_class own (Some class) k h = by_file own class k (slice_get set.classes class) refl h

-- ---- classes

has_instructions : (m : Method) → method_is_whole (codes "<clinit>") m ≡ true → is_abstract_flag m.flags ≡ false → m.code ≢ []
has_instructions m w e none =
    let h : not (length m.code == 0) ≡ true = subst (λ (b : Bool). cond b (not (is_text m.name (codes "<clinit>"))) (not (length m.code == 0)) ≡ true) e w in
    unequal (not (length m.code == 0)) h (ap (λ is. not (length is == 0)) none)

is_coded : (m : Method) → method_is_whole (codes "<clinit>") m ≡ true → is_text m.name (codes "<clinit>") ≡ true → is_abstract_flag m.flags ≡ false
is_coded m w e = by (is_abstract_flag m.flags) w
  where
    by : (b : Bool) → cond b (not (is_text m.name (codes "<clinit>"))) (not (length m.code == 0)) ≡ true → b ≡ false
    by false w = refl
    by true w = absurd (unequal (is_text m.name (codes "<clinit>")) e (not_true (is_text m.name (codes "<clinit>")) w))

whole_class : (c : ClassFile) → is_whole c ≡ true → IsWhole c
whole_class c e =
    let a = both_true (not (is_array_name c.this_name)) ((not (is_interface_flag c.flags) || is_text c.super_name object_name) && list_all (method_is_whole (codes "<clinit>")) c.methods) e in
    let b = both_true (not (is_interface_flag c.flags) || is_text c.super_name object_name) (list_all (method_is_whole (codes "<clinit>")) c.methods) a.1 in
    record {
      coded = all_there (λ (m : Method). is_abstract_flag m.flags ≡ false → m.code ≢ []) c.methods (λ k m h. has_instructions m (all_at (method_is_whole (codes "<clinit>")) c.methods k m b.1 h));
      initialisers = all_there (λ (m : Method). is_text m.name (codes "<clinit>") ≡ true → is_abstract_flag m.flags ≡ false) c.methods (λ k m h. is_coded m (all_at (method_is_whole (codes "<clinit>")) c.methods k m b.1 h));
      name = not_true (is_array_name c.this_name) a.0;
      interface = λ i. implied (is_interface_flag c.flags) (is_text c.super_name object_name) i b.0;
    }

-- ---- ranks

higher_at : (set : Set) (ranks : List ℕ) (n : ℕ) (cs : List ClassFile) (k : ℕ) (c : ClassFile) → are_higher set ranks n cs ≡ true → slice_get cs k ≡ Some c → is_higher ranks (n + k) (class_named c.super_name set.classes) ≡ true
higher_at set ranks n [] k c h e = absurd cc
higher_at set ranks n (d ∷ ds) zero c h e =
    let z : n ≡ n + 0 = omega arith in
    subst (λ (m : ℕ). is_higher ranks m (class_named c.super_name set.classes) ≡ true) z
    (subst (λ (x : ClassFile). is_higher ranks n (class_named x.super_name set.classes) ≡ true) (some_same d c e) (both_true (is_higher ranks n (class_named d.super_name set.classes)) (are_higher set ranks (n + 1) ds) h).0)
higher_at set ranks n (d ∷ ds) (suc k) c h e =
    let z : n + 1 + k ≡ n + suc k = omega arith in
    subst (λ (m : ℕ). is_higher ranks m (class_named c.super_name set.classes) ≡ true) z
    (higher_at set ranks (n + 1) ds k c (both_true (is_higher ranks n (class_named d.super_name set.classes)) (are_higher set ranks (n + 1) ds) h).1 e)

ranked : (set : Set) (ranks : List ℕ) → are_ranked set ranks ≡ true → IsRanked set (rank_of ranks)
ranked set ranks e = record { few = λ class. few class (slice_get ranks class) refl; higher = higher }
  where
    parts : (are_higher set ranks 0 set.classes ≡ true) × (list_all (λ (rank : ℕ). nat_le rank (length set.classes)) ranks ≡ true)
    parts = both_true (are_higher set ranks 0 set.classes) (list_all (λ (rank : ℕ). nat_le rank (length set.classes)) ranks) e

    few : (class : ℕ) (o : Option ℕ) → slice_get ranks class ≡ o → rank_in o ≤ length set.classes
    few class None k = omega arith
    few class (Some rank) k = leb-true rank (length set.classes) (all_at (λ (rank : ℕ). nat_le rank (length set.classes)) ranks class rank parts.1 k)

    higher : (class above : ℕ) (c : ClassFile) → slice_get set.classes class ≡ Some c → class_number set c.super_name ≡ Some (number_of_place above) → rank_of ranks above < rank_of ranks class
    higher class above c k h =
        let z : 0 + class ≡ class = omega arith in
        let at = subst (λ (m : ℕ). is_higher ranks m (class_named c.super_name set.classes) ≡ true) z (higher_at set ranks 0 set.classes class c parts.0 k) in
        ltb-true (rank_of ranks above) (rank_of ranks class) (subst (λ (o : Option ℕ). is_higher ranks class o ≡ true) (named_above set c.super_name above h) at)

-- ---- the set

pub whole_set : (set : Set) (ranks : List ℕ) → WholeSetsAreLoaded → set_is_whole set ranks ≡ true → IsLoaded set
whole_set set ranks law e =
    let a = both_true (main_is_own set) (list_all is_whole set.classes && are_ranked set ranks) e in
    let b = both_true (list_all is_whole set.classes) (are_ranked set ranks) a.1 in
    law set (rank_of ranks) (own_main set a.0) (all_there IsWhole set.classes (λ k c h. whole_class c (all_at is_whole set.classes k c b.0 h))) (ranked set ranks b.1)
