-- The static methods of the set's classes, and those along a chain of superclasses.
use Rattle.std.proofs.Common.{◌≡◌, ℕ, ◌+◌, ◌-◌, ◌≤◌, Bool, true, cond, List, [], ◌∷◌, Option, Some, None, refl, sym, ap, ◌∙◌}
use Rattle.std.specs.Prelude.{slice_get, ◌||◌, ◌&&◌}
use Rattle.std.specs.Option.{option_map, unwrap_or}
use Rattle.std.specs.List.{find, list_any}
use Rattle.std.proofs.lemmas.Bool.{le-ltb}
use Rattle.class_file.specs.declared.class.Set.{Set}
use Rattle.class_file.specs.declared.class.ClassFile.{ClassFile}
use Rattle.class_file.specs.declared.class.Method.{Method}
use Rattle.class_file.specs.Pools.{is_text}
use Rattle.class_file.specs.Classes.{ClassView, class_at, viewed, built_ins, is_method, methods_in, method_views, own_method, is_static_flag}
use Rattle.class_file.specs.Members.{is_there}
use Rattle.verifier_types.specs.Places.{is_static_named}
use Rattle.verifier_types.proofs.BuiltIns.{find_any}

module _ (set : Set) (name descriptor : List ℕ) where
  viewed_any : (class place : ℕ) (ms : List Method) → list_any (is_method true name descriptor) (method_views class place ms) ≡ list_any (is_static_named name descriptor) ms
  viewed_any class place [] = refl
  viewed_any class place (m ∷ ms) = ap (λ (b : Bool). (is_static_flag m.flags && (is_text m.name name && is_text m.descriptor descriptor)) || b) (viewed_any class (place + 1) ms)

pub own_here : (set : Set) (n : ℕ) (name descriptor : List ℕ) (c : ClassFile) → 37 ≤ n → slice_get set.classes (n - 37) ≡ Some c → is_there (own_method set true name descriptor n) ≡ list_any (is_static_named name descriptor) c.methods
own_here set n name descriptor c far e =
    let p = is_method true name descriptor in
    let at : class_at set n ≡ viewed (n - 37) (Some c) = ap (λ (b : Bool). cond b (slice_get built_ins n) (viewed (n - 37) (slice_get set.classes (n - 37)))) (le-ltb n 37 far) ∙ ap (viewed (n - 37)) e in
    ap (λ (o : Option ClassView). is_there (find p (methods_in o))) at ∙ find_any p (method_views (n - 37) 0 c.methods) ∙ viewed_any set name descriptor (n - 37) 0 c.methods

-- the same where the class's methods are what is known
pub own_among : (set : Set) (n : ℕ) (name descriptor : List ℕ) (ms : List Method) (o : Option ClassFile) → 37 ≤ n → slice_get set.classes (n - 37) ≡ o → Some ms ≡ option_map (λ (c : ClassFile). c.methods) o → is_there (own_method set true name descriptor n) ≡ list_any (is_static_named name descriptor) ms
own_among set n name descriptor ms (Some c) far e h = own_here set n name descriptor c far e ∙ ap (λ (o : Option (List Method)). list_any (is_static_named name descriptor) (unwrap_or o ms)) (sym h)
own_among set n name descriptor ms None far e h = absurd cc
