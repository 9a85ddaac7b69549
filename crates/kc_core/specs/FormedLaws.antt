-- Laws of well-formed trees, for what makes them.
use Rattle.std.proofs.Common.{◌≡◌, ℕ, List, [], ◌∷◌, ◌++◌, true}
use Rattle.kc_core.specs.declared.tree.TypeTree.TheVariants as type_is
use Rattle.kc_core.specs.declared.tree.BinaryOp.{BinaryOp}
use Rattle.kc_core.specs.declared.tree.Local.{Local}
use Rattle.kc_core.specs.declared.tree.Core.{Core}
use Rattle.kc_core.specs.declared.tree.Kind.{out-Kind}
use Rattle.kc_core.specs.declared.tree.Kind.TheOpen.{Kind-F}
use Rattle.kc_core.specs.Formed.{Assigned, Formed, FormedAll}
use Rattle.kc_core.specs.Lists.{still_there}

-- a tree stays well formed where more locals come behind
mutual
  pub formed_more : (locals more : List Local) (e : Core) (a b : Assigned) → Formed locals e a b → Formed (locals ++ more) e a b
  formed_more locals more e a b (Formed.IntLit _ n _ k t) = Formed.IntLit e n a k t
  formed_more locals more e a b (Formed.StrLit _ u _ k t) = Formed.StrLit e u a k t
  formed_more locals more e a b (Formed.BoolLit _ u _ k t) = Formed.BoolLit e u a k t
  formed_more locals more e a b (Formed.LocalRead _ x l _ k at t on) = Formed.LocalRead e x l a k (still_there locals more x l at) t on
  formed_more locals more e a c (Formed.LocalWrite _ x l v _ b k at var t tv f) = Formed.LocalWrite e x l v a b k (still_there locals more x l at) var t tv (formed_more locals more v a b f)
  formed_more locals more e a b (Formed.DeclareUnset _ x l _ k at t) = Formed.DeclareUnset e x l a k (still_there locals more x l at) t
  formed_more locals more e a c (Formed.Declare _ x l v _ b k at t tv f) = Formed.Declare e x l v a b k (still_there locals more x l at) t tv (formed_more locals more v a b f)
  formed_more locals more e a c (Formed.NumBinary _ op left right _ b _ k t tl tr f g) =
      Formed.NumBinary e op left right a b c k t tl tr (formed_more locals more left a b f) (formed_more locals more right b c g)
  formed_more locals more e a b (Formed.NumUnary _ op v _ _ k t tv f) = Formed.NumUnary e op v a b k t tv (formed_more locals more v a b f)
  formed_more locals more e a c (Formed.NumCompare _ order left right _ b _ k t tl tr f g) =
      Formed.NumCompare e order left right a b c k t tl tr (formed_more locals more left a b f) (formed_more locals more right b c g)
  formed_more locals more e a c (Formed.Equal _ left right _ b _ k t tl tr f g) =
      Formed.Equal e left right a b c k t tl tr (formed_more locals more left a b f) (formed_more locals more right b c g)
  formed_more locals more e a b (Formed.Not _ v _ _ k t tv f) = Formed.Not e v a b k t tv (formed_more locals more v a b f)
  formed_more locals more e a m (Formed.And _ left right _ b c _ k t tl tr f g i j) =
      Formed.And e left right a b c m k t tl tr (formed_more locals more left a b f) (formed_more locals more right b c g) i j
  formed_more locals more e a m (Formed.Or _ left right _ b c _ k t tl tr f g i j) =
      Formed.Or e left right a b c m k t tl tr (formed_more locals more left a b f) (formed_more locals more right b c g) i j
  formed_more locals more e a b (Formed.Concat _ parts _ _ k t fs) = Formed.Concat e parts a b k t (formed_all_more locals more parts a b fs)
  formed_more locals more e a b (Formed.CallNative _ f values _ _ k t ts fs) = Formed.CallNative e f values a b k t ts (formed_all_more locals more values a b fs)
  formed_more locals more e a b (Formed.Block _ parts _ _ k t fs) = Formed.Block e parts a b k t (formed_all_more locals more parts a b fs)
  formed_more locals more e a m (Formed.IfHeld _ test held _ b c _ k t tt th f g i j) =
      Formed.IfHeld e test held a b c m k t tt th (formed_more locals more test a b f) (formed_more locals more held b c g) i j
  formed_more locals more e a m (Formed.If _ test held failed _ b c d _ k tt th tf f g h i j) =
      Formed.If e test held failed a b c d m k tt th tf (formed_more locals more test a b f) (formed_more locals more held b c g) (formed_more locals more failed b d h) i j
  formed_more locals more e a b (Formed.While _ label test body _ loop _ c k t tt tb j f g i) =
      Formed.While e label test body a loop b c k t tt tb j (formed_more locals more test loop b f) (formed_more locals more body b c g) i

  pub formed_all_more : (locals more : List Local) (es : List Core) (a b : Assigned) → FormedAll locals es a b → FormedAll (locals ++ more) es a b
  formed_all_more locals more es a b (FormedAll.NoMore _) = FormedAll.NoMore a
  formed_all_more locals more es a c (FormedAll.Next e rest _ b _ f fs) = FormedAll.Next e rest a b c (formed_more locals more e a b f) (formed_all_more locals more rest b c fs)

-- one list of nodes behind another
pub formed_append : (locals : List Local) (es fs : List Core) (a b c : Assigned) → FormedAll locals es a b → FormedAll locals fs b c → FormedAll locals (es ++ fs) a c
formed_append locals [] fs a b c (FormedAll.NoMore _) k = k
formed_append locals (e ∷ es) fs a b c (FormedAll.Next _ _ _ m _ f h) k = FormedAll.Next e (es ++ fs) a m c f (formed_append locals es fs m b c h k)

-- a local that is read is assigned before
pub read_assigned : (locals : List Local) (e : Core) (a b : Assigned) → Formed locals e a b → (x : ℕ) → out-Kind e.kind ≡ Kind-F.LocalRead x → a x ≡ true
read_assigned locals e a b (Formed.IntLit _ n _ k t) x is = cc
read_assigned locals e a b (Formed.StrLit _ u _ k t) x is = cc
read_assigned locals e a b (Formed.BoolLit _ u _ k t) x is = cc
read_assigned locals e a b (Formed.LocalRead _ y l _ k at t on) x is = let same : y ≡ x = cc in cc
read_assigned locals e a c (Formed.LocalWrite _ y l v _ b k at var t tv f) x is = cc
read_assigned locals e a b (Formed.DeclareUnset _ y l _ k at t) x is = cc
read_assigned locals e a c (Formed.Declare _ y l v _ b k at t tv f) x is = cc
read_assigned locals e a c (Formed.NumBinary _ op left right _ b _ k t tl tr f g) x is = cc
read_assigned locals e a b (Formed.NumUnary _ op v _ _ k t tv f) x is = cc
read_assigned locals e a c (Formed.NumCompare _ order left right _ b _ k t tl tr f g) x is = cc
read_assigned locals e a c (Formed.Equal _ left right _ b _ k t tl tr f g) x is = cc
read_assigned locals e a b (Formed.Not _ v _ _ k t tv f) x is = cc
read_assigned locals e a m (Formed.And _ left right _ b c _ k t tl tr f g i j) x is = cc
read_assigned locals e a m (Formed.Or _ left right _ b c _ k t tl tr f g i j) x is = cc
read_assigned locals e a b (Formed.Concat _ parts _ _ k t fs) x is = cc
read_assigned locals e a b (Formed.CallNative _ f values _ _ k t ts fs) x is = cc
read_assigned locals e a b (Formed.Block _ parts _ _ k t fs) x is = cc
read_assigned locals e a m (Formed.IfHeld _ test held _ b c _ k t tt th f g i j) x is = cc
read_assigned locals e a m (Formed.If _ test held failed _ b c d _ k tt th tf f g h i j) x is = cc
read_assigned locals e a b (Formed.While _ label test body _ loop _ c k t tt tb j f g i) x is = cc

-- the operands of an operator on numbers are Ints
pub operands_are_ints : (locals : List Local) (e : Core) (a b : Assigned) → Formed locals e a b → (op : BinaryOp) (left right : Core) →
    out-Kind e.kind ≡ Kind-F.NumBinary op left right → (left.ty ≡ type_is.Int) × (right.ty ≡ type_is.Int)
operands_are_ints locals e a b (Formed.IntLit _ n _ k t) op left right is = cc
operands_are_ints locals e a b (Formed.StrLit _ u _ k t) op left right is = cc
operands_are_ints locals e a b (Formed.BoolLit _ u _ k t) op left right is = cc
operands_are_ints locals e a b (Formed.LocalRead _ y l _ k at t on) op left right is = cc
operands_are_ints locals e a c (Formed.LocalWrite _ y l v _ b k at var t tv f) op left right is = cc
operands_are_ints locals e a b (Formed.DeclareUnset _ y l _ k at t) op left right is = cc
operands_are_ints locals e a c (Formed.Declare _ y l v _ b k at t tv f) op left right is = cc
operands_are_ints locals e a c (Formed.NumBinary _ _ left1 right1 _ b _ k t tl tr f g) op left right is =
    let same_left : left1 ≡ left = cc in let same_right : right1 ≡ right = cc in (cc, cc)
operands_are_ints locals e a b (Formed.NumUnary _ _ v _ _ k t tv f) op left right is = cc
operands_are_ints locals e a c (Formed.NumCompare _ order left1 right1 _ b _ k t tl tr f g) op left right is = cc
operands_are_ints locals e a c (Formed.Equal _ left1 right1 _ b _ k t tl tr f g) op left right is = cc
operands_are_ints locals e a b (Formed.Not _ v _ _ k t tv f) op left right is = cc
operands_are_ints locals e a m (Formed.And _ left1 right1 _ b c _ k t tl tr f g i j) op left right is = cc
operands_are_ints locals e a m (Formed.Or _ left1 right1 _ b c _ k t tl tr f g i j) op left right is = cc
operands_are_ints locals e a b (Formed.Concat _ parts _ _ k t fs) op left right is = cc
operands_are_ints locals e a b (Formed.CallNative _ f values _ _ k t ts fs) op left right is = cc
operands_are_ints locals e a b (Formed.Block _ parts _ _ k t fs) op left right is = cc
operands_are_ints locals e a m (Formed.IfHeld _ test held _ b c _ k t tt th f g i j) op left right is = cc
operands_are_ints locals e a m (Formed.If _ test held failed _ b c d _ k tt th tf f g h i j) op left right is = cc
operands_are_ints locals e a b (Formed.While _ label test body _ loop _ c k t tt tb j f g i) op left right is = cc
