-- The frames of small functions, computed.
use Rattle.std.proofs.Common.{◌≡◌, ℕ, List, [], ◌∷◌, ◌++◌, Some, None, true, false, refl, sym, ap, ◌∙◌}
use Rattle.std.specs.Prelude.{ℤ, pos, codes}
use Rattle.kc_core.specs.declared.tree.Span.{Span}
use Rattle.kc_core.specs.declared.tree.TypeTree.{TypeTree}
use Rattle.kc_core.specs.declared.tree.TypeTree.TheVariants as type_is
use Rattle.kc_core.specs.declared.tree.BinaryOp.TheVariants as binary
use Rattle.kc_core.specs.declared.tree.Order.TheVariants as order
use Rattle.kc_core.specs.declared.tree.Function.{Function}
use Rattle.kc_core.specs.declared.tree.Local.{Local}
use Rattle.kc_core.specs.declared.tree.Core.{Core}
use Rattle.kc_core.specs.declared.tree.Kind.{Kind}
use Rattle.kc_core.specs.declared.tree.Kind.TheOpen.{Kind-F}
use Rattle.kc_core.specs.declared.tree.Kind.TheFolds.{map-Kind}
use Rattle.kc_core.specs.declared.tree.Kind.TheViews.{roll-Kind, out-roll-Kind}
use Rattle.class_file.specs.declared.class.VType.{VType}
use Rattle.class_file.specs.declared.class.VType.TheVariants.{Top, Integer}
use Rattle.class_file.specs.declared.class.Frame.{Frame}
use Rattle.stack_code.specs.Code.{Emitted, Leave, kept}
use Rattle.stack_code.specs.Frames.{Traced, traced_kind, traced_of, kept_known, in_line, behind, nothing_known, is_entry, frames_from, frames_of}
use Rattle.stack_code.proofs.Traces.{TracedKind, traced_of_kind, traced_opened, emitted_is}

abbrev place : Span
place = record { file = 0; start = 0; end = 0 }

abbrev node : TypeTree → Kind-F Kind Core → Core
node ty k = record { span = place; ty = ty; kind = roll-Kind k }

abbrev number : ℤ → Core
number z = node type_is.Int (Kind-F.IntLit z)

abbrev read : ℕ → Core
read x = node type_is.Int (Kind-F.LocalRead x)

abbrev declare : ℕ → Core → Core
declare x e = node type_is.Unit (Kind-F.Declare x (Some e))

abbrev less : Core → Core → Core
less a b = node type_is.Boolean (Kind-F.NumCompare order.Less a b)

abbrev write : ℕ → Core → Core
write x e = node type_is.Unit (Kind-F.LocalWrite x e)

abbrev minus : Core → Core → Core
minus a b = node type_is.Int (Kind-F.NumBinary binary.Minus a b)

abbrev loop : Core → Core → Core
loop a b = node type_is.Unit (Kind-F.While 0 a b)

abbrev when : Core → Core → Core
when a b = node type_is.Unit (Kind-F.If a b None)

abbrev choice : Core → Core → Core → Core
choice a b c = node type_is.Unit (Kind-F.If a b (Some c))

abbrev block : List Core → Core
block es = node type_is.Unit (Kind-F.Block es)

abbrev local : TypeTree → Local
local ty = record { name = 0; ty = ty; is_var = true }

abbrev main_of : List Local → List Core → Function
main_of locals es = record { name = codes "main"; span = place; params = 0; result = type_is.Unit; locals = locals; body = block es }

abbrev frame : ℕ → List VType → List VType → Frame
frame at locals stack = record { at = at; locals = locals; stack = stack; unset = false }

-- var n = 3; while (0 < n) { n = n - 1 }
abbrev counting : Function
counting = main_of (local type_is.Int ∷ []) (declare 0 (number (pos 3)) ∷ loop (less (number (pos 0)) (read 0)) (block (write 0 (minus (read 0) (number (pos 1))) ∷ [])) ∷ [])

-- val b = 1 < 2
abbrev comparing : Function
comparing = main_of (local type_is.Boolean ∷ []) (declare 0 (less (number (pos 1)) (number (pos 2))) ∷ [])

-- if (1 < 2) { val x = 1 } else { val y = 2 }; val z = 3
abbrev choosing : Function
choosing =
    main_of (local type_is.Int ∷ local type_is.Int ∷ local type_is.Int ∷ [])
    (choice (less (number (pos 1)) (number (pos 2))) (block (declare 0 (number (pos 1)) ∷ [])) (block (declare 1 (number (pos 2)) ∷ [])) ∷ declare 2 (number (pos 3)) ∷ [])

-- if (1 < 2) { val x = 1; if (1 < 2) { val y = 2 } }: the two end at one place
abbrev nested : Function
nested =
    main_of (local type_is.Int ∷ local type_is.Int ∷ [])
    (when (less (number (pos 1)) (number (pos 2))) (block (declare 0 (number (pos 1)) ∷ when (less (number (pos 1)) (number (pos 2))) (block (declare 1 (number (pos 2)) ∷ [])) ∷ [])) ∷ [])

-- ---- the same nodes, traced

node_is : (ty : TypeTree) (y : Kind-F Kind Core) → traced_of (node ty y) ≡ traced_kind (map-Kind Kind Core TracedKind Traced traced_of_kind traced_of y) ty
node_is ty y = traced_opened (node ty y) y ty (out-roll-Kind y) refl

-- a tree of nodes, each with what is traced of it
record Is (e : Core) (t : Traced) : Type 0 where
  is : traced_of e ≡ t

abbrev Layer : Type 0
Layer = Kind-F TracedKind Traced

number_is : (z : ℤ) → Is (number z) (traced_kind (Kind-F.IntLit z) type_is.Int)
number_is z = record { is = node_is type_is.Int (Kind-F.IntLit z) }

read_is : (x : ℕ) → Is (read x) (traced_kind (Kind-F.LocalRead x) type_is.Int)
read_is x = record { is = node_is type_is.Int (Kind-F.LocalRead x) }

declare_is : (x : ℕ) (e : Core) (t : Traced) → Is e t → Is (declare x e) (traced_kind (Kind-F.Declare x (Some t)) type_is.Unit)
declare_is x e t h = record { is = node_is type_is.Unit (Kind-F.Declare x (Some e)) ∙ ap (λ (v : Traced). let y : Layer = Kind-F.Declare x (Some v) in traced_kind y type_is.Unit) h.is }

write_is : (x : ℕ) (e : Core) (t : Traced) → Is e t → Is (write x e) (traced_kind (Kind-F.LocalWrite x t) type_is.Unit)
write_is x e t h = record { is = node_is type_is.Unit (Kind-F.LocalWrite x e) ∙ ap (λ (v : Traced). let y : Layer = Kind-F.LocalWrite x v in traced_kind y type_is.Unit) h.is }

less_is : (a b : Core) (s t : Traced) → Is a s → Is b t → Is (less a b) (traced_kind (Kind-F.NumCompare order.Less s t) type_is.Boolean)
less_is a b s t h g = record {
  is = node_is type_is.Boolean (Kind-F.NumCompare order.Less a b)
      ∙ ap (λ (v : Traced). let y : Layer = Kind-F.NumCompare order.Less v (traced_of b) in traced_kind y type_is.Boolean) h.is
      ∙ ap (λ (v : Traced). let y : Layer = Kind-F.NumCompare order.Less s v in traced_kind y type_is.Boolean) g.is;
}

minus_is : (a b : Core) (s t : Traced) → Is a s → Is b t → Is (minus a b) (traced_kind (Kind-F.NumBinary binary.Minus s t) type_is.Int)
minus_is a b s t h g = record {
  is = node_is type_is.Int (Kind-F.NumBinary binary.Minus a b)
      ∙ ap (λ (v : Traced). let y : Layer = Kind-F.NumBinary binary.Minus v (traced_of b) in traced_kind y type_is.Int) h.is
      ∙ ap (λ (v : Traced). let y : Layer = Kind-F.NumBinary binary.Minus s v in traced_kind y type_is.Int) g.is;
}

one_is : (a : Core) (s : Traced) → Is a s → Is (block (a ∷ [])) (traced_kind (Kind-F.Block (s ∷ [])) type_is.Unit)
one_is a s h = record { is = node_is type_is.Unit (Kind-F.Block (a ∷ [])) ∙ ap (λ (v : Traced). let y : Layer = Kind-F.Block (v ∷ []) in traced_kind y type_is.Unit) h.is }

two_are : (a b : Core) (s t : Traced) → Is a s → Is b t → Is (block (a ∷ b ∷ [])) (traced_kind (Kind-F.Block (s ∷ t ∷ [])) type_is.Unit)
two_are a b s t h g = record {
  is = node_is type_is.Unit (Kind-F.Block (a ∷ b ∷ []))
      ∙ ap (λ (v : Traced). let y : Layer = Kind-F.Block (v ∷ traced_of b ∷ []) in traced_kind y type_is.Unit) h.is
      ∙ ap (λ (v : Traced). let y : Layer = Kind-F.Block (s ∷ v ∷ []) in traced_kind y type_is.Unit) g.is;
}

loop_is : (a b : Core) (s t : Traced) → Is a s → Is b t → Is (loop a b) (traced_kind (Kind-F.While 0 s t) type_is.Unit)
loop_is a b s t h g = record {
  is = node_is type_is.Unit (Kind-F.While 0 a b)
      ∙ ap (λ (v : Traced). let y : Layer = Kind-F.While 0 v (traced_of b) in traced_kind y type_is.Unit) h.is
      ∙ ap (λ (v : Traced). let y : Layer = Kind-F.While 0 s v in traced_kind y type_is.Unit) g.is;
}

when_is : (a b : Core) (s t : Traced) → Is a s → Is b t → Is (when a b) (traced_kind (Kind-F.If s t None) type_is.Unit)
when_is a b s t h g = record {
  is = node_is type_is.Unit (Kind-F.If a b None)
      ∙ ap (λ (v : Traced). let y : Layer = Kind-F.If v (traced_of b) None in traced_kind y type_is.Unit) h.is
      ∙ ap (λ (v : Traced). let y : Layer = Kind-F.If s v None in traced_kind y type_is.Unit) g.is;
}

choice_is : (a b c : Core) (s t u : Traced) → Is a s → Is b t → Is c u → Is (choice a b c) (traced_kind (Kind-F.If s t (Some u)) type_is.Unit)
choice_is a b c s t u h g f = record {
  is = node_is type_is.Unit (Kind-F.If a b (Some c))
      ∙ ap (λ (v : Traced). let y : Layer = Kind-F.If v (traced_of b) (Some (traced_of c)) in traced_kind y type_is.Unit) h.is
      ∙ ap (λ (v : Traced). let y : Layer = Kind-F.If s v (Some (traced_of c)) in traced_kind y type_is.Unit) g.is
      ∙ ap (λ (v : Traced). let y : Layer = Kind-F.If s t (Some v) in traced_kind y type_is.Unit) f.is;
}

-- the frames of a main whose body is traced
abbrev frames_by : List Local → Traced → List Frame
frames_by locals t =
    let ops = t.emitted.code ++ kept t.emitted.goes_on (Leave ∷ []) in
    frames_from locals (is_entry 0 ops) 0 ops (t.known nothing_known ++ kept_known t.emitted.goes_on (in_line (Leave ∷ []) (behind t nothing_known)))

frames_are : (locals : List Local) (es : List Core) (t : Traced) → Is (block es) t → frames_of (main_of locals es) ≡ frames_by locals t
frames_are locals es t h =
    ap (λ (x : Emitted). frames_from locals (is_entry 0 (x.code ++ kept x.goes_on (Leave ∷ []))) 0 (x.code ++ kept x.goes_on (Leave ∷ [])) ((traced_of (block es)).known nothing_known ++ kept_known (traced_of (block es)).emitted.goes_on (in_line (Leave ∷ []) (behind (traced_of (block es)) nothing_known)))) (sym (emitted_is (block es)))
    ∙ ap (frames_by locals) h.is

-- the loop's head, and what stands behind it
pub counting_frames : frames_of counting ≡ frame 3 (Integer ∷ []) [] ∷ frame 18 (Integer ∷ []) [] ∷ []
counting_frames = frames_are (local type_is.Int ∷ []) _ _ (two_are _ _ _ _ (declare_is 0 _ _ (number_is (pos 3))) (loop_is _ _ _ _ (less_is _ _ _ _ (number_is (pos 0)) (read_is 0)) (one_is _ _ (write_is 0 _ _ (minus_is _ _ _ _ (read_is 0) (number_is (pos 1)))))))

-- where the value is false, and where both values meet
pub comparing_frames : frames_of comparing ≡ frame 9 (Top ∷ []) [] ∷ frame 10 (Top ∷ []) (Integer ∷ []) ∷ []
comparing_frames = frames_are (local type_is.Boolean ∷ []) _ _ (one_is _ _ (declare_is 0 _ _ (less_is _ _ _ _ (number_is (pos 1)) (number_is (pos 2)))))

-- the other way, and behind both: no way assigns what the other one does
pub choosing_frames : frames_of choosing ≡ frame 11 (Top ∷ Top ∷ Top ∷ []) [] ∷ frame 14 (Top ∷ Top ∷ Top ∷ []) [] ∷ []
choosing_frames =
    frames_are (local type_is.Int ∷ local type_is.Int ∷ local type_is.Int ∷ []) _ _ (two_are _ _ _ _ (choice_is _ _ _ _ _ _ (less_is _ _ _ _ (number_is (pos 1)) (number_is (pos 2))) (one_is _ _ (declare_is 0 _ _ (number_is (pos 1)))) (one_is _ _ (declare_is 1 _ _ (number_is (pos 2))))) (declare_is 2 _ _ (number_is (pos 3))))

-- one frame, in which what the outer choice assigned is not there
pub nested_frames : frames_of nested ≡ frame 16 (Top ∷ Top ∷ []) [] ∷ []
nested_frames =
    frames_are (local type_is.Int ∷ local type_is.Int ∷ []) _ _ (one_is _ _ (when_is _ _ _ _ (less_is _ _ _ _ (number_is (pos 1)) (number_is (pos 2))) (two_are _ _ _ _ (declare_is 0 _ _ (number_is (pos 1))) (when_is _ _ _ _ (less_is _ _ _ _ (number_is (pos 1)) (number_is (pos 2))) (one_is _ _ (declare_is 1 _ _ (number_is (pos 2))))))))

-- no jumps, no frames
pub plain_frames : frames_of (main_of (local type_is.Int ∷ []) (declare 0 (number (pos 3)) ∷ [])) ≡ []
plain_frames = frames_are (local type_is.Int ∷ []) _ _ (one_is _ _ (declare_is 0 _ _ (number_is (pos 3))))
