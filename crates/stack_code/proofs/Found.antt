-- The main method of a compiled set, and its call.
use Rattle.std.proofs.Common.{◌≡◌, ℕ, suc, ◌+◌, List, [], ◌∷◌, length, Option, Some, None, Bool, true, false, not, refl, ap, ◌∙◌, arith}
use Rattle.std.specs.Prelude.{slice_get, replicate, position, reverse, codes, ◌&&◌, if◌then◌else◌, nat_lt}
use Rattle.std.specs.List.{find, filter}
use Rattle.std.specs.Option.{option_map}
use Rattle.std.proofs.lemmas.Bool.{eq-eqb}
use Rattle.kc_core.specs.declared.tree.Program.{Program}
use Rattle.class_file.specs.declared.class.ClassFile.{ClassFile}
use Rattle.class_file.specs.declared.class.Method.{Method}
use Rattle.class_file.specs.declared.class.Set.{Set}
use Rattle.class_file.specs.Pools.{is_text}
use Rattle.std.specs.Prelude.{◌++◌}
use Rattle.class_file.specs.Classes.{Coded, NoBody, MethodView, FoundMethod, built_ins, viewed, class_number, number_of_place, class_named, or_else, class_count, superclass, superclass_in, or_none, chain_up_to, chain, supertypes, is_method, methods_in, own_method, found_in, first_method, method_view, method_views, is_static_flag, is_abstract_flag}
use Rattle.class_file.specs.Machine.{State, Next, Going, with, pool_of, class_pool, methods_of, method_at, clinit, run_clinit, starting, is_started, with_started, entered, first_locals, begun, begin, main_found, main_method, step, first, first_heap, first_statics}
use Rattle.class_file.specs.Lots.{MainIsPlain, static_named}
use Rattle.stack_code.specs.Agrees.{IsCompiled}

pub text_same : (t : List ℕ) → is_text t t ≡ true
text_same [] = refl
text_same (u ∷ us) = ap (λ (b : Bool). b && is_text us us) (eq-eqb u u refl) ∙ text_same us

object_found : (set : Set) → class_number set (codes "java/lang/Object") ≡ Some 0
unfolding built_ins
object_found set = refl

no_superclass : (set : Set) → superclass set 0 ≡ None
unfolding built_ins
no_superclass set = refl

-- the one thing of a list is found
first_passes : {A : Type 0} (p : A → Bool) (a : A) → p a ≡ true → position p (a ∷ []) ≡ Some 0
first_passes p a e =
    ap (λ (b : Bool). let n = if not b then 1 else 0 in if nat_lt n 1 then Some n else None) e

find_first : {A : Type 0} (p : A → Bool) (a : A) → p a ≡ true → find p (a ∷ []) ≡ Some a
find_first p a e = ap (λ (b : Bool). if b then Some a else None) e

find_none : {A : Type 0} (p : A → Bool) (a : A) → p a ≡ false → find p (a ∷ []) ≡ None
find_none p a e = ap (λ (b : Bool). if b then Some a else None) e

module _ (set : Set) (program : Program) (main : ℕ) (c : IsCompiled set program main) where
  abbrev view : MethodView
  view = method_view 0 0 c.method

  class_there : slice_get set.classes 0 ≡ Some c.class
  class_there = ap (λ (cs : List ClassFile). slice_get cs 0) c.classes

  pub pool_is : class_pool set 0 ≡ c.class.pool
  pool_is = ap pool_of class_there

  pub method_is : method_at set 0 0 ≡ Some c.method
  method_is = ap (λ (o : Option ClassFile). slice_get (methods_of o) 0) class_there ∙ ap (λ (ms : List Method). slice_get ms 0) c.methods

  name_is : class_named set.main set.classes ≡ Some 0
  name_is =
      ap (class_named set.main) c.classes
      ∙ first_passes (λ (k : ClassFile). is_text k.this_name set.main) c.class (ap (λ (t : List ℕ). is_text t set.main) c.name ∙ text_same set.main)

  main_class : class_number set set.main ≡ Some 37
  main_class =
      ap (λ (o : Option ℕ). or_else o (option_map number_of_place (class_named set.main set.classes))) c.own
      ∙ ap (option_map number_of_place) name_is

  is_static : view.is_static ≡ true
  is_static = ap is_static_flag c.flags

  body_is : view.body ≡ Coded 0 0
  body_is = ap (λ (flags : ℕ). if is_abstract_flag flags then NoBody else Coded 0 0) c.flags

  -- whether the one method goes by a name
  by_name : (name descriptor : List ℕ) → is_method true name descriptor view ≡ (is_text (codes "main") name && is_text (codes "()V") descriptor)
  by_name name descriptor =
      ap (λ (b : Bool). b && (is_text c.method.name name && is_text c.method.descriptor descriptor)) is_static
      ∙ ap (λ (t : List ℕ). is_text t name && is_text c.method.descriptor descriptor) c.method_name
      ∙ ap (λ (t : List ℕ). is_text (codes "main") name && is_text t descriptor) c.descriptor

  own_methods : (name descriptor : List ℕ) → own_method set true name descriptor 37 ≡ find (is_method true name descriptor) (view ∷ [])
  own_methods name descriptor =
      ap (λ (o : Option ClassFile). find (is_method true name descriptor) (methods_in (viewed 0 o))) class_there
      ∙ ap (λ (ms : List Method). find (is_method true name descriptor) (method_views 0 0 ms)) c.methods

  main_own : own_method set true (codes "main") (codes "()V") 37 ≡ Some view
  main_own = own_methods (codes "main") (codes "()V") ∙ find_first (is_method true (codes "main") (codes "()V")) view (by_name (codes "main") (codes "()V"))

  no_clinit : clinit set 37 ≡ None
  no_clinit = own_methods (codes "<clinit>") (codes "()V") ∙ find_none (is_method true (codes "<clinit>") (codes "()V")) view (by_name (codes "<clinit>") (codes "()V"))

  main_found_there : main_method set ≡ Some (record { class = 37; method = view })
  unfolding main_method
  main_found_there =
      ap (main_found set) main_class
      ∙ ap (λ (o : Option MethodView). found_in 37 o (first_method set true (codes "main") (codes "()V") (or_none (superclass set 37) (chain_up_to (class_count set) set) ++ supertypes set 37))) main_own

  above_main : superclass set 37 ≡ Some 0
  above_main = ap (λ (o : Option ClassFile). superclass_in set (viewed 0 o)) class_there ∙ ap (class_number set) c.super ∙ object_found set

  main_chain : chain set 37 ≡ 37 ∷ 0 ∷ []
  main_chain =
      let e : class_count set ≡ suc (36 + length set.classes) = omega arith in
      ap (λ (o : Option ℕ). 37 ∷ or_none o (chain_up_to (class_count set) set)) above_main
      ∙ ap (λ (k : ℕ). 37 ∷ chain_up_to k set 0) e
      ∙ ap (λ (o : Option ℕ). 37 ∷ 0 ∷ or_none o (chain_up_to (36 + length set.classes) set)) (no_superclass set)

  place_is : static_named (codes "main") (codes "()V") (methods_of (slice_get set.classes 0)) ≡ Some 0
  place_is =
      ap (λ (o : Option ClassFile). static_named (codes "main") (codes "()V") (methods_of o)) class_there
      ∙ ap (static_named (codes "main") (codes "()V")) c.methods
      ∙ first_passes (λ (m : Method). is_static_flag m.flags && (is_text m.name (codes "main") && is_text m.descriptor (codes "()V"))) c.method (by_name (codes "main") (codes "()V"))

  pub main_is_plain : MainIsPlain set
  main_is_plain = record {
    class = 0;
    place = 0;
    method = c.method;
    view = view;
    class_is = name_is;
    place_is = place_is;
    method_is = method_is;
    found = main_found_there;
    body = body_is;
    above = main_chain;
    quiet = no_clinit;
  }

  -- the state before main is called, and that behind the initialisation of its class
  at_first : List Bool → List ℕ → State
  at_first started input = record { frames = []; heap = first_heap; statics = first_statics set; started = started; input = input; out = [] }

  begins_so : (input : List ℕ) → first set input ≡ at_first (false ∷ []) input
  unfolding at_first
  begins_so input = ap (λ (cs : List ClassFile). record (first set input) { started = replicate (length cs) false }) c.classes

  initialised : (input : List ℕ) (go : State → Next) → with_started set (at_first (false ∷ []) input) [] 37 go ≡ go (at_first (true ∷ []) input)
  unfolding at_first
  initialised input go =
      ap (λ (ns : List ℕ). starting set (at_first (false ∷ []) input) [] (filter (λ m. not (is_started (false ∷ []) m)) (reverse ns)) go) main_chain
      ∙ ap (λ (o : Option MethodView). elim o [ Some m ↦ run_clinit set (at_first (false ∷ []) input) 37 [] m.body | None ↦ go (at_first (true ∷ []) input) ]) no_clinit

  -- the call of main
  pub main_called : (input : List ℕ) → step set (first set input) ≡ Going (record { frames = record { class = 0; method = 0; at = 0; locals = first_locals c.method.max_locals []; stack = []; starts = false } ∷ []; heap = first_heap; statics = first_statics set; started = true ∷ []; input = input; out = [] })
  unfolding step begin at_first
  main_called input =
      ap (step set) (begins_so input)
      ∙ ap (λ (o : Option FoundMethod). with (at_first (false ∷ []) input) o (λ m. with_started set (at_first (false ∷ []) input) [] m.class (λ t. begun set t m.method.body))) main_found_there
      ∙ initialised input (λ t. begun set t view.body)
      ∙ ap (begun set (at_first (true ∷ []) input)) body_is
      ∙ ap (entered (at_first (true ∷ []) input) [] 0 0 []) method_is
