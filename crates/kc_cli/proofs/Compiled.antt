-- The class of a program is compiled code of it.
use Rattle.std.proofs.Common.{◌≡◌, ℕ, List, [], ◌∷◌, Some, sym, ap, ◌∙◌, subst, get_or, arith}
use Rattle.std.specs.Option.{unwrap_or}
use Rattle.std.specs.Prelude.{slice_get, codes}
use Rattle.kc_core.specs.declared.tree.Function.{Function}
use Rattle.kc_core.specs.declared.tree.Program.{Program}
use Rattle.kc_core.specs.Formed.{FormedMain, MainFormed}
use Rattle.class_file.specs.declared.class.ClassFile.{ClassFile}
use Rattle.class_file.specs.declared.class.Method.{Method}
use Rattle.stack_code.specs.Agrees.{IsCodeOf, IsCompiled, IsOwnName}
use Rattle.stack_code.specs.Frames.{IsFramed}
use Rattle.form_elaboration.specs.Form.{Form}
use Rattle.form_elaboration.specs.Light.{ProgramsAreLight}
use Rattle.kc_cli.specs.Compiled.{Compiles, MainIsSmall}

first_function : (fs : List Function) (f g : Function) → slice_get fs 0 ≡ Some g → f ≡ get_or fs 0 f → f ≡ g
first_function [] f g h e = cc
first_function (x ∷ fs) f g h e = e ∙ (let k : x ≡ g = cc in k)

-- a class right below Object, with one method
pub record IsAlone (c : ClassFile) (name : List ℕ) (m : Method) : Type 0 where
  pub name_is : c.this_name ≡ name
  pub super_is : c.super_name ≡ codes "java/lang/Object"
  pub methods_are : c.methods ≡ m ∷ []

-- the public static method of a function without parameters
pub record IsMethodOf (m : Method) (f : Function) : Type 0 where
  pub name_is : m.name ≡ f.name
  pub descriptor_is : m.descriptor ≡ codes "()V"
  pub flags_are : m.flags ≡ 9

pub is_compiled : (p : Program) (fs : List Function) (f g : Function) (c : ClassFile) (m : Method) (main : List ℕ) (classes : List ClassFile) → classes ≡ c ∷ [] → fs ≡ p.functions → f ≡ get_or fs 0 f → slice_get p.functions 0 ≡ Some g → g.name ≡ codes "main" → IsOwnName main → IsAlone c main m → IsMethodOf m f → IsCodeOf c.pool m f → IsCompiled (record { classes = classes; main = main }) p 0
is_compiled p fs f g c m main classes one list first there named own alone method code = record {
  function = f;
  class = c;
  method = m;
  function_is = there ∙ ap Some (sym f_is);
  classes = one;
  name = alone.name_is;
  own = own;
  super = alone.super_is;
  methods = alone.methods_are;
  method_name = method.name_is ∙ ap (λ x. x.name) f_is ∙ named;
  descriptor = method.descriptor_is;
  flags = method.flags_are;
  code = code;
}
  where
    f_is : f ≡ g
    f_is = first_function p.functions f g there (first ∙ ap (λ l. get_or l 0 f) list)

-- and its method gives the frames of its code
pub compiles : (p : Program) (fs : List Function) (f g : Function) (c : ClassFile) (m : Method) (main : List ℕ) (classes : List ClassFile) → classes ≡ c ∷ [] → fs ≡ p.functions → f ≡ get_or fs 0 f → slice_get p.functions 0 ≡ Some g → g.name ≡ codes "main" → IsOwnName main → IsAlone c main m → IsMethodOf m f → IsCodeOf c.pool m f → IsFramed m f → Compiles (record { classes = classes; main = main }) p 0
unfolding is_compiled
compiles p fs f g c m main classes one list first there named own alone method code framed = record {
  compiled = is_compiled p fs f g c m main classes one list first there named own alone method code;
  framed = framed;
}

-- a light function fits
pub main_is_small : (bytes : List ℕ) (program : Program) → ProgramsAreLight → Form 0 bytes program → MainFormed program 0 → MainIsSmall program
main_is_small bytes program light form formed f is =
    let l = light 0 bytes program form 0 f is in
    record {
      formed = subst FormedMain (ap (λ o. unwrap_or o f) (sym formed.1 ∙ is)) formed.2;
      weight = omega (arith, l.weight);
      locals = omega (arith, l.locals);
      room = omega (arith, l.weight);
    }
