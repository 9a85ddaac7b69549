-- When a tree is well formed: each use gets values of the types that it needs, the locals that are named exist, and no local
-- is read before it is assigned.
use Rattle.std.specs.Prelude.{◌≡◌, ℕ, Bool, true, false, nat_eq, cond, List, [], ◌∷◌, map, Some, None, slice_get, ℤ}
use Rattle.kc_core.specs.declared.tree.TypeTree.{TypeTree}
use Rattle.kc_core.specs.declared.tree.TypeTree.TheVariants as type_is
use Rattle.kc_core.specs.declared.tree.BinaryOp.{BinaryOp}
use Rattle.kc_core.specs.declared.tree.UnaryOp.{UnaryOp}
use Rattle.kc_core.specs.declared.tree.Order.{Order}
use Rattle.kc_core.specs.declared.tree.Native.{Native}
use Rattle.kc_core.specs.declared.tree.Native.TheVariants as native_is
use Rattle.kc_core.specs.declared.tree.Local.{Local}
use Rattle.kc_core.specs.declared.tree.Function.{Function}
use Rattle.kc_core.specs.declared.tree.Program.{Program}
use Rattle.kc_core.specs.declared.tree.Core.{Core}
use Rattle.kc_core.specs.declared.tree.Kind.{out-Kind}
use Rattle.kc_core.specs.declared.tree.Kind.TheOpen.{Kind-F}

-- which locals are assigned, by their numbers
abbrev pub Assigned : Type 0
Assigned = ℕ → Bool

abbrev pub none_assigned : Assigned
none_assigned x = false

-- as before, but for whether x is assigned
abbrev pub marked : ℕ → Bool → Assigned → Assigned
marked x is before = λ y. cond (nat_eq y x) is (before y)

-- each local that is assigned in the one is assigned in the other
abbrev pub Among : Assigned → Assigned → Type 0
Among a b = (x : ℕ) → a x ≡ true → b x ≡ true

abbrev pub type_of : Core → TypeTree
type_of e = e.ty

-- the type of the last part, or `ty` where there is none
abbrev pub last_type : TypeTree → List Core → TypeTree
last_type ty [] = ty
last_type ty (e ∷ es) = last_type e.ty es

-- the types of a native's parameters, and that of its result
abbrev pub parameters_of : Native → List TypeTree
parameters_of native_is.ConsoleWrite = type_is.String ∷ []

abbrev pub result_of : Native → TypeTree
result_of native_is.ConsoleWrite = type_is.Unit

-- `Formed locals e a b`: the node e is well formed in a function with these locals, where the locals in a are assigned before
-- it, and those in b are assigned after it, if it gives a value. `FormedAll` says it of nodes that are evaluated in turn.
-- A rule for a node with several ways through it takes for b only locals that each way assigns.
mutual
  pub data Formed (locals : List Local) : Core → Assigned → Assigned → Type 0 where
    IntLit : (e : Core) (n : ℤ) (a : Assigned) → out-Kind e.kind ≡ Kind-F.IntLit n → e.ty ≡ type_is.Int → Formed locals e a a
    StrLit : (e : Core) (t : List ℕ) (a : Assigned) → out-Kind e.kind ≡ Kind-F.StrLit t → e.ty ≡ type_is.String → Formed locals e a a
    BoolLit : (e : Core) (t : Bool) (a : Assigned) → out-Kind e.kind ≡ Kind-F.BoolLit t → e.ty ≡ type_is.Boolean → Formed locals e a a
    LocalRead : (e : Core) (x : ℕ) (l : Local) (a : Assigned) → out-Kind e.kind ≡ Kind-F.LocalRead x →
        slice_get locals x ≡ Some l → e.ty ≡ l.ty → a x ≡ true → Formed locals e a a
    LocalWrite : (e : Core) (x : ℕ) (l : Local) (v : Core) (a b : Assigned) → out-Kind e.kind ≡ Kind-F.LocalWrite x v →
        slice_get locals x ≡ Some l → l.is_var ≡ true → e.ty ≡ type_is.Unit → v.ty ≡ l.ty → Formed locals v a b → Formed locals e a (marked x true b)
    DeclareUnset : (e : Core) (x : ℕ) (l : Local) (a : Assigned) → out-Kind e.kind ≡ Kind-F.Declare x None →
        slice_get locals x ≡ Some l → e.ty ≡ type_is.Unit → Formed locals e a (marked x false a)
    Declare : (e : Core) (x : ℕ) (l : Local) (v : Core) (a b : Assigned) → out-Kind e.kind ≡ Kind-F.Declare x (Some v) →
        slice_get locals x ≡ Some l → e.ty ≡ type_is.Unit → v.ty ≡ l.ty → Formed locals v a b → Formed locals e a (marked x true b)
    NumBinary : (e : Core) (op : BinaryOp) (left right : Core) (a b c : Assigned) → out-Kind e.kind ≡ Kind-F.NumBinary op left right →
        e.ty ≡ type_is.Int → left.ty ≡ type_is.Int → right.ty ≡ type_is.Int → Formed locals left a b → Formed locals right b c → Formed locals e a c
    NumUnary : (e : Core) (op : UnaryOp) (v : Core) (a b : Assigned) → out-Kind e.kind ≡ Kind-F.NumUnary op v →
        e.ty ≡ type_is.Int → v.ty ≡ type_is.Int → Formed locals v a b → Formed locals e a b
    NumCompare : (e : Core) (order : Order) (left right : Core) (a b c : Assigned) → out-Kind e.kind ≡ Kind-F.NumCompare order left right →
        e.ty ≡ type_is.Boolean → left.ty ≡ type_is.Int → right.ty ≡ type_is.Int → Formed locals left a b → Formed locals right b c → Formed locals e a c
    Equal : (e : Core) (left right : Core) (a b c : Assigned) → out-Kind e.kind ≡ Kind-F.Equal left right →
        e.ty ≡ type_is.Boolean → left.ty ≡ type_is.Int → right.ty ≡ type_is.Int → Formed locals left a b → Formed locals right b c → Formed locals e a c
    Not : (e : Core) (v : Core) (a b : Assigned) → out-Kind e.kind ≡ Kind-F.Not v →
        e.ty ≡ type_is.Boolean → v.ty ≡ type_is.Boolean → Formed locals v a b → Formed locals e a b
    And : (e : Core) (left right : Core) (a b c after : Assigned) → out-Kind e.kind ≡ Kind-F.And left right →
        e.ty ≡ type_is.Boolean → left.ty ≡ type_is.Boolean → right.ty ≡ type_is.Boolean →
        Formed locals left a b → Formed locals right b c → Among after b → Among after c → Formed locals e a after
    Or : (e : Core) (left right : Core) (a b c after : Assigned) → out-Kind e.kind ≡ Kind-F.Or left right →
        e.ty ≡ type_is.Boolean → left.ty ≡ type_is.Boolean → right.ty ≡ type_is.Boolean →
        Formed locals left a b → Formed locals right b c → Among after b → Among after c → Formed locals e a after
    Concat : (e : Core) (parts : List Core) (a b : Assigned) → out-Kind e.kind ≡ Kind-F.Concat parts →
        e.ty ≡ type_is.String → FormedAll locals parts a b → Formed locals e a b
    CallNative : (e : Core) (f : Native) (values : List Core) (a b : Assigned) → out-Kind e.kind ≡ Kind-F.CallNative f values →
        e.ty ≡ result_of f → map type_of values ≡ parameters_of f → FormedAll locals values a b → Formed locals e a b
    Block : (e : Core) (parts : List Core) (a b : Assigned) → out-Kind e.kind ≡ Kind-F.Block parts →
        e.ty ≡ last_type type_is.Unit parts → FormedAll locals parts a b → Formed locals e a b
    IfHeld : (e : Core) (test held : Core) (a b c after : Assigned) → out-Kind e.kind ≡ Kind-F.If test held None →
        e.ty ≡ type_is.Unit → test.ty ≡ type_is.Boolean → held.ty ≡ type_is.Unit →
        Formed locals test a b → Formed locals held b c → Among after b → Among after c → Formed locals e a after
    If : (e : Core) (test held failed : Core) (a b c d after : Assigned) → out-Kind e.kind ≡ Kind-F.If test held (Some failed) →
        test.ty ≡ type_is.Boolean → held.ty ≡ e.ty → failed.ty ≡ e.ty →
        Formed locals test a b → Formed locals held b c → Formed locals failed b d → Among after c → Among after d → Formed locals e a after
    While : (e : Core) (label : ℕ) (test body : Core) (a loop b c : Assigned) → out-Kind e.kind ≡ Kind-F.While label test body →
        e.ty ≡ type_is.Unit → test.ty ≡ type_is.Boolean → body.ty ≡ type_is.Unit →
        Among loop a → Formed locals test loop b → Formed locals body b c → Among loop c → Formed locals e a b

  pub data FormedAll (locals : List Local) : List Core → Assigned → Assigned → Type 0 where
    NoMore : (a : Assigned) → FormedAll locals [] a a
    Next : (e : Core) (es : List Core) (a b c : Assigned) → Formed locals e a b → FormedAll locals es b c → FormedAll locals (e ∷ es) a c

-- a function that a program may start with
pub record FormedMain (f : Function) : Type 0 where
  pub no_parameters : f.params ≡ 0
  pub result : f.result ≡ type_is.Unit
  pub after : Assigned
  pub body : Formed f.locals f.body none_assigned after

abbrev pub MainFormed : Program → ℕ → Type 0
MainFormed program main = (f : Function) × (slice_get program.functions main ≡ Some f) × FormedMain f
