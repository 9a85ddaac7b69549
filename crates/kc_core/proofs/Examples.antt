-- The meaning of small programs, computed, and trees that are not well formed.
use Rattle.std.proofs.Common.{◌≡◌, ℕ, List, [], ◌∷◌, Option, Some, None, Bool, true, false, cond, refl, ◌∙◌, arith}
use Rattle.std.specs.Prelude.{ℤ, pos, negsuc, codes, nat_eq, slice_get}
use Rattle.std.specs.Fmt.{digits}
use Rattle.std.specs.Char.Utf16.{utf16_chars}
use lib.Utf8.{encode}
use Rattle.kc_core.specs.declared.tree.Span.{Span}
use Rattle.kc_core.specs.declared.tree.TypeTree.{TypeTree}
use Rattle.kc_core.specs.declared.tree.TypeTree.TheVariants as type_is
use Rattle.kc_core.specs.declared.tree.BinaryOp.{BinaryOp}
use Rattle.kc_core.specs.declared.tree.BinaryOp.TheVariants as binary
use Rattle.kc_core.specs.declared.tree.UnaryOp.TheVariants as unary
use Rattle.kc_core.specs.declared.tree.Order.TheVariants as order
use Rattle.kc_core.specs.declared.tree.Native.TheVariants as native_is
use Rattle.kc_core.specs.declared.tree.Function.{Function}
use Rattle.kc_core.specs.declared.tree.Local.{Local}
use Rattle.kc_core.specs.declared.tree.Program.{Program}
use Rattle.kc_core.specs.declared.tree.Core.{Core}
use Rattle.kc_core.specs.declared.tree.Kind.{Kind, out-Kind}
use Rattle.kc_core.specs.declared.tree.Kind.TheOpen.{Kind-F}
use Rattle.kc_core.specs.declared.tree.Kind.TheViews.{roll-Kind, out-roll-Kind}
use Rattle.kc_core.specs.declared.tree.Kind.TheFolds.{map-Kind, fold_out-Core, fold-roll-Kind}
use Rattle.kc_core.specs.Runs.{Outcome, Going, Over}
use Rattle.kc_core.specs.Meaning.{Ending, Ended, Threw, Broken, division_by_zero, meaning}
use Rattle.kc_core.specs.Room.{kind_weight, core_weight, weight_of, function_weight}
use Rattle.kc_core.specs.RoomLaws.{weight_of_kind}
use Rattle.kc_core.specs.Formed.{Assigned, none_assigned, marked, Among, Formed, FormedAll, MainFormed}
use Rattle.kc_core.specs.FormedLaws.{read_assigned, operands_are_ints}

abbrev place : Span
place = record { file = 0; start = 0; end = 0 }

abbrev node : TypeTree → Kind-F Kind Core → Core
node ty k = record { span = place; ty = ty; kind = roll-Kind k }

abbrev number : ℤ → Core
number z = node type_is.Int (Kind-F.IntLit z)

abbrev text : List ℕ → Core
text t = node type_is.String (Kind-F.StrLit t)

abbrev operator : BinaryOp → Core → Core → Core
operator op a b = node type_is.Int (Kind-F.NumBinary op a b)

-- println(e), which writes the text of e and a line feed
abbrev printing : Core → Core
printing e = node type_is.Unit (Kind-F.CallNative native_is.ConsoleWrite (node type_is.String (Kind-F.Concat (e ∷ text (codes "\n") ∷ [])) ∷ []))

abbrev block : List Core → Core
block es = node type_is.Unit (Kind-F.Block es)

abbrev main_of : List Local → List Core → Function
main_of locals es = record { name = codes "main"; span = place; params = 0; result = type_is.Unit; locals = locals; body = block es }

abbrev program : List Local → List Core → Program
program locals es = record { functions = main_of locals es ∷ [] }

-- what `println(e)` alone does, with n units
abbrev run : Core → ℕ → Outcome Ending
run e n = meaning (program [] (printing e ∷ [])) 0 [] n

abbrev least : ℤ
least = negsuc 2147483647

-- 1 + 2 * 3
abbrev seven : Core
seven = operator binary.Plus (number (pos 1)) (operator binary.Times (number (pos 2)) (number (pos 3)))

-- val x = 2, and x
abbrev an_int : Local
an_int = record { name = 0; ty = type_is.Int; is_var = false }

abbrev reading : Core
reading = node type_is.Int (Kind-F.LocalRead 0)

abbrev declaring : Core
declaring = node type_is.Unit (Kind-F.Declare 0 (Some (number (pos 2))))

-- var n = 3, which is assigned and compared
abbrev a_var : Local
a_var = record { name = 0; ty = type_is.Int; is_var = true }

abbrev starts : ℤ → Core
starts z = node type_is.Unit (Kind-F.Declare 0 (Some (number z)))

abbrev falls : Core
falls = node type_is.Unit (Kind-F.LocalWrite 0 (operator binary.Minus reading (number (pos 1))))

abbrev above : ℤ → Core
above z = node type_is.Boolean (Kind-F.NumCompare order.Greater reading (number z))

abbrev repeat : Core → List Core → Core
repeat test es = node type_is.Unit (Kind-F.While 0 test (block es))

abbrev choose : Core → Core → Option Core → Core
choose test held failed = node type_is.Unit (Kind-F.If test held failed)

abbrev truth : Bool → Core
truth b = node type_is.Boolean (Kind-F.BoolLit b)

abbrev both : Core → Core → Core
both a b = node type_is.Boolean (Kind-F.And a b)

-- 1 / 0 > 0, which throws
abbrev throwing : Core
throwing = node type_is.Boolean (Kind-F.NumCompare order.Greater (operator binary.Div (number (pos 1)) (number (pos 0))) (number (pos 0)))

-- n falls from 2, and each n is printed
abbrev counting : Program
counting = program (a_var ∷ []) (starts (pos 2) ∷ repeat (above (pos 0)) (printing reading ∷ falls ∷ []) ∷ [])

looped :
    (meaning counting 0 [] 50 ≡ Over Ended (codes "2\n1\n"))
    -- a bound that comes in the second turn
    × (meaning counting 0 [] 22 ≡ Going (codes "2\n"))
    -- a loop without an end prints more and more
    × (meaning (program [] (repeat (truth true) (printing (number (pos 1)) ∷ []) ∷ [])) 0 [] 20 ≡ Going (codes "1\n1\n"))
    -- a right side that is skipped does not throw
    × (meaning (program [] (choose (both (truth false) throwing) (block []) (Some (printing (truth true))) ∷ [])) 0 [] 30 ≡ Over Ended (codes "true\n"))
    × (meaning (program [] (choose (both (truth true) throwing) (block []) None ∷ [])) 0 [] 30 ≡ Over (Threw division_by_zero) [])
    -- a test that is no Boolean breaks the rules
    × (meaning (program [] (choose (number (pos 1)) (block []) None ∷ [])) 0 [] 30 ≡ Over (Broken place) [])
    -- Unit has a text
    × (run (block []) 20 ≡ Over Ended (codes "kotlin.Unit\n"))
unfolding out-Kind denote.Hole.Carrier.out roll-Kind denote.Hole.Carrier.roll Rattle.kc_core.specs.declared.tree.Kind.TheBlock.shown-the_row-Core-1 denote.Hole.Carrier.shown denote.Hole.Carrier.hidden digits utf16_chars encode
looped = (refl, refl, refl, refl, refl, refl, refl)

computed :
    (run seven 9 ≡ Over Ended (codes "7\n"))
    × (run seven 8 ≡ Going [])
    -- what was printed before a throw stays
    × (meaning (program [] (printing (number (pos 4)) ∷ printing (operator binary.Div (number (pos 1)) (number (pos 0))) ∷ [])) 0 [] 20 ≡ Over (Threw division_by_zero) (codes "4\n"))
    × (run (operator binary.Rem (number (pos 1)) (number (pos 0))) 20 ≡ Over (Threw division_by_zero) [])
    -- the least Int wraps to itself
    × (run (operator binary.Div (number least) (number (negsuc 0))) 20 ≡ Over Ended (codes "-2147483648\n"))
    × (run (node type_is.Int (Kind-F.NumUnary unary.Minus (number least))) 20 ≡ Over Ended (codes "-2147483648\n"))
    -- a quotient is cut towards zero, and a remainder has the sign of its dividend
    × (run (operator binary.Div (number (negsuc 6)) (number (pos 2))) 20 ≡ Over Ended (codes "-3\n"))
    × (run (operator binary.Rem (number (negsuc 6)) (number (pos 2))) 20 ≡ Over Ended (codes "-1\n"))
    -- val x = 2; println(x), with its first line and without
    × (meaning (program (an_int ∷ []) (declaring ∷ printing reading ∷ [])) 0 [] 20 ≡ Over Ended (codes "2\n"))
    × (meaning (program (an_int ∷ []) (printing reading ∷ [])) 0 [] 20 ≡ Over (Broken place) [])
unfolding out-Kind denote.Hole.Carrier.out roll-Kind denote.Hole.Carrier.roll Rattle.kc_core.specs.declared.tree.Kind.TheBlock.shown-the_row-Core-1 denote.Hole.Carrier.shown denote.Hole.Carrier.hidden digits utf16_chars encode
computed = (refl, refl, refl, refl, refl, refl, refl, refl, refl, refl)

-- no local is read before it is assigned
unset_not_formed : (b : Assigned) → Formed (an_int ∷ []) reading none_assigned b → ⊥
unset_not_formed b f = let bad : false ≡ true = read_assigned (an_int ∷ []) reading none_assigned b f 0 (out-roll-Kind _) in cc

-- a text is no operand of a division
text_not_formed : (a b : Assigned) → Formed [] (operator binary.Div (text (codes "a")) (number (pos 1))) a b → ⊥
text_not_formed a b f = let bad : type_is.String ≡ type_is.Int = (operands_are_ints [] _ a b f binary.Div (text (codes "a")) (number (pos 1)) (out-roll-Kind _)).0 in cc

-- val x = 2; println(x) is well formed
local_formed : MainFormed (program (an_int ∷ []) (declaring ∷ printing reading ∷ [])) 0
local_formed = (main_of (an_int ∷ []) (declaring ∷ printing reading ∷ []), refl, record { no_parameters = refl; result = refl; after = set; body = body })
  where
    set : Assigned
    set = marked 0 true none_assigned

    declares : Formed (an_int ∷ []) declaring none_assigned set
    declares = Formed.Declare declaring 0 an_int (number (pos 2)) none_assigned none_assigned (out-roll-Kind _) refl refl refl (Formed.IntLit _ (pos 2) none_assigned (out-roll-Kind _) refl)

    parts : FormedAll (an_int ∷ []) (reading ∷ text (codes "\n") ∷ []) set set
    parts = FormedAll.Next _ _ set set set (Formed.LocalRead reading 0 an_int set (out-roll-Kind _) refl refl refl)
        (FormedAll.Next _ _ set set set (Formed.StrLit _ (codes "\n") set (out-roll-Kind _) refl) (FormedAll.NoMore set))

    prints : Formed (an_int ∷ []) (printing reading) set set
    prints = Formed.CallNative _ native_is.ConsoleWrite _ set set (out-roll-Kind _) refl refl
        (FormedAll.Next _ _ set set set (Formed.Concat _ _ set set (out-roll-Kind _) refl parts) (FormedAll.NoMore set))

    body : Formed (an_int ∷ []) (block (declaring ∷ printing reading ∷ [])) none_assigned set
    body = Formed.Block _ _ none_assigned set (out-roll-Kind _) refl
        (FormedAll.Next _ _ none_assigned set set declares (FormedAll.Next _ _ set set set prints (FormedAll.NoMore set)))

-- Small programs of the form, with their derivations.

abbrev read_of : TypeTree → ℕ → Core
read_of ty x = node ty (Kind-F.LocalRead x)

abbrev declare_of : ℕ → Core → Core
declare_of x v = node type_is.Unit (Kind-F.Declare x (Some v))

abbrev write_of : ℕ → Core → Core
write_of x v = node type_is.Unit (Kind-F.LocalWrite x v)

abbrev loop_of : Core → Core → Core
loop_of test body = node type_is.Unit (Kind-F.While 0 test body)

abbrev greater_of : Core → Core → Core
greater_of a b = node type_is.Boolean (Kind-F.NumCompare order.Greater a b)

abbrev less_of : Core → Core → Core
less_of a b = node type_is.Boolean (Kind-F.NumCompare order.Less a b)

abbrev unequal_of : Core → Core → Core
unequal_of a b = node type_is.Boolean (Kind-F.Not (node type_is.Boolean (Kind-F.Equal a b)))

lit_ok : (ls : List Local) (z : ℤ) (a : Assigned) → Formed ls (number z) a a
lit_ok ls z a = Formed.IntLit _ z a (out-roll-Kind _) refl

read_ok : (ls : List Local) (ty : TypeTree) (x : ℕ) (l : Local) (a : Assigned) → slice_get ls x ≡ Some l → ty ≡ l.ty → a x ≡ true → Formed ls (read_of ty x) a a
read_ok ls ty x l a at t on = Formed.LocalRead _ x l a (out-roll-Kind _) at t on

declare_ok : (ls : List Local) (x : ℕ) (l : Local) (v : Core) (a b : Assigned) → slice_get ls x ≡ Some l → v.ty ≡ l.ty → Formed ls v a b → Formed ls (declare_of x v) a (marked x true b)
declare_ok ls x l v a b at t f = Formed.Declare _ x l v a b (out-roll-Kind _) at refl t f

write_ok : (ls : List Local) (x : ℕ) (l : Local) (v : Core) (a b : Assigned) → slice_get ls x ≡ Some l → l.is_var ≡ true → v.ty ≡ l.ty → Formed ls v a b → Formed ls (write_of x v) a (marked x true b)
write_ok ls x l v a b at var t f = Formed.LocalWrite _ x l v a b (out-roll-Kind _) at var refl t f

print_ok : (ls : List Local) (e : Core) (a b : Assigned) → Formed ls e a b → Formed ls (printing e) a b
print_ok ls e a b f = Formed.CallNative _ native_is.ConsoleWrite _ a b (out-roll-Kind _) refl refl
    (FormedAll.Next _ _ a b b (Formed.Concat _ _ a b (out-roll-Kind _) refl
    (FormedAll.Next _ _ a b b f (FormedAll.Next _ _ b b b (Formed.StrLit _ (codes "\n") b (out-roll-Kind _) refl) (FormedAll.NoMore b)))) (FormedAll.NoMore b))

among_marked : (a b : Assigned) (x : ℕ) → Among a b → Among a (marked x true b)
among_marked a b x h y on = by_same (nat_eq y x)
  where
    by_same : (is : Bool) → cond is true (b y) ≡ true
    by_same true = refl
    by_same false = h y on

among_all : (a : Assigned) → Among a a
among_all a x on = on

-- var i = 2; while (i > 0) { var j = i; while (j != 0) { val k = j; println(k); j = j - 1 }; i = i - 1 }
abbrev nested_locals : List Local
nested_locals = record { name = 0; ty = type_is.Int; is_var = true } ∷ record { name = 1; ty = type_is.Int; is_var = true } ∷ record { name = 2; ty = type_is.Int; is_var = false } ∷ []

abbrev minus_one : ℕ → Core
minus_one x = operator binary.Minus (read_of type_is.Int x) (number (pos 1))

abbrev inner_parts : List Core
inner_parts = declare_of 2 (read_of type_is.Int 1) ∷ printing (read_of type_is.Int 2) ∷ write_of 1 (minus_one 1) ∷ []

abbrev outer_parts : List Core
outer_parts = declare_of 1 (read_of type_is.Int 0) ∷ loop_of (unequal_of (read_of type_is.Int 1) (number (pos 0))) (block inner_parts) ∷ write_of 0 (minus_one 0) ∷ []

abbrev nested_parts : List Core
nested_parts = declare_of 0 (number (pos 2)) ∷ loop_of (greater_of (read_of type_is.Int 0) (number (pos 0))) (block outer_parts) ∷ []

minus_ok : (x : ℕ) (l : Local) (a : Assigned) → slice_get nested_locals x ≡ Some l → type_is.Int ≡ l.ty → a x ≡ true → Formed nested_locals (minus_one x) a a
minus_ok x l a at t on = Formed.NumBinary _ binary.Minus _ _ a a a (out-roll-Kind _) refl refl refl (read_ok nested_locals type_is.Int x l a at t on) (lit_ok nested_locals (pos 1) a)

nested_formed : MainFormed (program nested_locals nested_parts) 0
nested_formed = (main_of nested_locals nested_parts, refl, record { no_parameters = refl; result = refl; after = s1; body = body })
  where
    s1 : Assigned
    s1 = marked 0 true none_assigned

    s2 : Assigned
    s2 = marked 1 true s1

    s3 : Assigned
    s3 = marked 2 true s2

    inner : FormedAll nested_locals inner_parts s2 (marked 1 true s3)
    inner = FormedAll.Next _ _ s2 s3 _ (declare_ok nested_locals 2 _ _ s2 s2 refl refl (read_ok nested_locals type_is.Int 1 _ s2 refl refl refl))
        (FormedAll.Next _ _ s3 s3 _ (print_ok nested_locals _ s3 s3 (read_ok nested_locals type_is.Int 2 _ s3 refl refl refl))
        (FormedAll.Next _ _ s3 (marked 1 true s3) _ (write_ok nested_locals 1 _ _ s3 s3 refl refl refl (minus_ok 1 _ s3 refl refl refl)) (FormedAll.NoMore _)))

    differs : Formed nested_locals (unequal_of (read_of type_is.Int 1) (number (pos 0))) s2 s2
    differs = Formed.Not _ _ s2 s2 (out-roll-Kind _) refl refl
        (Formed.Equal _ _ _ s2 s2 s2 (out-roll-Kind _) refl refl refl (read_ok nested_locals type_is.Int 1 _ s2 refl refl refl) (lit_ok nested_locals (pos 0) s2))

    inner_loop : Formed nested_locals (loop_of (unequal_of (read_of type_is.Int 1) (number (pos 0))) (block inner_parts)) s2 s2
    inner_loop = Formed.While _ 0 _ _ s2 s2 s2 (marked 1 true s3) (out-roll-Kind _) refl refl refl (among_all s2) differs
        (Formed.Block _ _ s2 (marked 1 true s3) (out-roll-Kind _) refl inner) (among_marked s2 s3 1 (among_marked s2 s2 2 (among_all s2)))

    outer : FormedAll nested_locals outer_parts s1 (marked 0 true s2)
    outer = FormedAll.Next _ _ s1 s2 _ (declare_ok nested_locals 1 _ _ s1 s1 refl refl (read_ok nested_locals type_is.Int 0 _ s1 refl refl refl))
        (FormedAll.Next _ _ s2 s2 _ inner_loop
        (FormedAll.Next _ _ s2 (marked 0 true s2) _ (write_ok nested_locals 0 _ _ s2 s2 refl refl refl (minus_ok 0 _ s2 refl refl refl)) (FormedAll.NoMore _)))

    outer_loop : Formed nested_locals (loop_of (greater_of (read_of type_is.Int 0) (number (pos 0))) (block outer_parts)) s1 s1
    outer_loop = Formed.While _ 0 _ _ s1 s1 s1 (marked 0 true s2) (out-roll-Kind _) refl refl refl (among_all s1)
        (Formed.NumCompare _ order.Greater _ _ s1 s1 s1 (out-roll-Kind _) refl refl refl (read_ok nested_locals type_is.Int 0 _ s1 refl refl refl) (lit_ok nested_locals (pos 0) s1))
        (Formed.Block _ _ s1 (marked 0 true s2) (out-roll-Kind _) refl outer) (among_marked s1 s2 0 (among_marked s1 s1 1 (among_all s1)))

    body : Formed nested_locals (block nested_parts) none_assigned s1
    body = Formed.Block _ _ none_assigned s1 (out-roll-Kind _) refl
        (FormedAll.Next _ _ none_assigned s1 _ (declare_ok nested_locals 0 _ _ none_assigned none_assigned refl refl (lit_ok nested_locals (pos 2) none_assigned))
        (FormedAll.Next _ _ s1 s1 _ outer_loop (FormedAll.NoMore _)))

-- val a = true; if (a) { val x = 1; println(x) } else println(2)
abbrev choice_locals : List Local
choice_locals = record { name = 0; ty = type_is.Boolean; is_var = false } ∷ record { name = 1; ty = type_is.Int; is_var = false } ∷ []

abbrev held_parts : List Core
held_parts = declare_of 1 (number (pos 1)) ∷ printing (read_of type_is.Int 1) ∷ []

abbrev choice_parts : List Core
choice_parts = declare_of 0 (truth true) ∷ choose (read_of type_is.Boolean 0) (block held_parts) (Some (printing (number (pos 2)))) ∷ []

choice_formed : MainFormed (program choice_locals choice_parts) 0
choice_formed = (main_of choice_locals choice_parts, refl, record { no_parameters = refl; result = refl; after = s1; body = body })
  where
    s1 : Assigned
    s1 = marked 0 true none_assigned

    s2 : Assigned
    s2 = marked 1 true s1

    held : Formed choice_locals (block held_parts) s1 s2
    held = Formed.Block _ _ s1 s2 (out-roll-Kind _) refl
        (FormedAll.Next _ _ s1 s2 _ (declare_ok choice_locals 1 _ _ s1 s1 refl refl (lit_ok choice_locals (pos 1) s1))
        (FormedAll.Next _ _ s2 s2 _ (print_ok choice_locals _ s2 s2 (read_ok choice_locals type_is.Int 1 _ s2 refl refl refl)) (FormedAll.NoMore _)))

    chosen : Formed choice_locals (choose (read_of type_is.Boolean 0) (block held_parts) (Some (printing (number (pos 2))))) s1 s1
    chosen = Formed.If _ _ _ _ s1 s1 s2 s1 s1 (out-roll-Kind _) refl refl refl (read_ok choice_locals type_is.Boolean 0 _ s1 refl refl refl) held
        (print_ok choice_locals _ s1 s1 (lit_ok choice_locals (pos 2) s1)) (among_marked s1 s1 1 (among_all s1)) (among_all s1)

    body : Formed choice_locals (block choice_parts) none_assigned s1
    body = Formed.Block _ _ none_assigned s1 (out-roll-Kind _) refl
        (FormedAll.Next _ _ none_assigned s1 _ (declare_ok choice_locals 0 _ _ none_assigned none_assigned refl refl (Formed.BoolLit _ true none_assigned (out-roll-Kind _) refl))
        (FormedAll.Next _ _ s1 s1 _ chosen (FormedAll.NoMore _)))

-- while (true) println(1)
endless_formed : MainFormed (program [] (loop_of (truth true) (printing (number (pos 1))) ∷ [])) 0
endless_formed = (main_of [] (loop_of (truth true) (printing (number (pos 1))) ∷ []), refl, record { no_parameters = refl; result = refl; after = none_assigned; body = body })
  where
    none : Assigned
    none = none_assigned

    body : Formed [] (block (loop_of (truth true) (printing (number (pos 1))) ∷ [])) none none
    body = Formed.Block _ _ none none (out-roll-Kind _) refl (FormedAll.Next _ _ none none none
        (Formed.While _ 0 _ _ none none none none (out-roll-Kind _) refl refl refl (among_all none) (Formed.BoolLit _ true none (out-roll-Kind _) refl) (print_ok [] _ none none (lit_ok [] (pos 1) none)) (among_all none)) (FormedAll.NoMore _))

-- val x = 3; val y = 0; val b = x > 0 && y < 1; println(b)
abbrev truth_locals : List Local
truth_locals = record { name = 0; ty = type_is.Int; is_var = false } ∷ record { name = 1; ty = type_is.Int; is_var = false } ∷ record { name = 2; ty = type_is.Boolean; is_var = false } ∷ []

abbrev sides : Core
sides = both (greater_of (read_of type_is.Int 0) (number (pos 0))) (less_of (read_of type_is.Int 1) (number (pos 1)))

abbrev truth_parts : List Core
truth_parts = declare_of 0 (number (pos 3)) ∷ declare_of 1 (number (pos 0)) ∷ declare_of 2 sides ∷ printing (read_of type_is.Boolean 2) ∷ []

truth_formed : MainFormed (program truth_locals truth_parts) 0
truth_formed = (main_of truth_locals truth_parts, refl, record { no_parameters = refl; result = refl; after = s3; body = body })
  where
    s1 : Assigned
    s1 = marked 0 true none_assigned

    s2 : Assigned
    s2 = marked 1 true s1

    s3 : Assigned
    s3 = marked 2 true s2

    decides : Formed truth_locals sides s2 s2
    decides = Formed.And _ _ _ s2 s2 s2 s2 (out-roll-Kind _) refl refl refl
        (Formed.NumCompare _ order.Greater _ _ s2 s2 s2 (out-roll-Kind _) refl refl refl (read_ok truth_locals type_is.Int 0 _ s2 refl refl refl) (lit_ok truth_locals (pos 0) s2))
        (Formed.NumCompare _ order.Less _ _ s2 s2 s2 (out-roll-Kind _) refl refl refl (read_ok truth_locals type_is.Int 1 _ s2 refl refl refl) (lit_ok truth_locals (pos 1) s2))
        (among_all s2) (among_all s2)

    body : Formed truth_locals (block truth_parts) none_assigned s3
    body = Formed.Block _ _ none_assigned s3 (out-roll-Kind _) refl
        (FormedAll.Next _ _ none_assigned s1 _ (declare_ok truth_locals 0 _ _ none_assigned none_assigned refl refl (lit_ok truth_locals (pos 3) none_assigned))
        (FormedAll.Next _ _ s1 s2 _ (declare_ok truth_locals 1 _ _ s1 s1 refl refl (lit_ok truth_locals (pos 0) s1))
        (FormedAll.Next _ _ s2 s3 _ (declare_ok truth_locals 2 _ _ s2 s2 refl refl decides)
        (FormedAll.Next _ _ s3 s3 _ (print_ok truth_locals _ s3 s3 (read_ok truth_locals type_is.Boolean 2 _ s3 refl refl refl)) (FormedAll.NoMore _)))))

abbrev shows : ℤ → ℤ → Core
shows z v = node type_is.Int (Kind-F.Block (printing (number z) ∷ number v ∷ []))

small_programs :
    -- each node that is entered takes a unit, the loop's anew in each turn
    (meaning counting 0 [] 33 ≡ Over Ended (codes "2\n1\n"))
    × (meaning counting 0 [] 32 ≡ Going (codes "2\n1\n"))
    -- an empty loop that is not entered: block, loop, literal
    × (meaning (program [] (loop_of (truth false) (block []) ∷ [])) 0 [] 3 ≡ Over Ended [])
    × (meaning (program [] (loop_of (truth false) (block []) ∷ [])) 0 [] 2 ≡ Going [])
    -- both sides of a comparison in order
    × (run (less_of (shows (pos 1) (pos 5)) (shows (pos 2) (pos 6))) 40 ≡ Over Ended (codes "1\n2\ntrue\n"))
    × (run (unequal_of (shows (pos 1) (pos 5)) (shows (pos 2) (pos 5))) 40 ≡ Over Ended (codes "1\n2\nfalse\n"))
    × (meaning (program nested_locals nested_parts) 0 [] 200 ≡ Over Ended (codes "2\n1\n1\n"))
    × (meaning (program choice_locals choice_parts) 0 [] 40 ≡ Over Ended (codes "1\n"))
    × (meaning (program truth_locals truth_parts) 0 [] 40 ≡ Over Ended (codes "true\n"))
    -- a statement whose branch, or whose last part, has a value: Broken
    × (meaning (program [] (choose (truth true) (number (pos 1)) None ∷ [])) 0 [] 40 ≡ Over (Broken place) [])
    × (meaning (program [] (number (pos 1) ∷ [])) 0 [] 40 ≡ Over (Broken place) [])
    -- a variable that is declared without a value is new in each turn
    × (meaning (program nested_locals (declare_of 0 (number (pos 2)) ∷ loop_of (truth true) (block (node type_is.Unit (Kind-F.Declare 0 None) ∷ printing (read_of type_is.Int 0) ∷ [])) ∷ [])) 0 [] 40 ≡ Over (Broken place) [])
unfolding out-Kind denote.Hole.Carrier.out roll-Kind denote.Hole.Carrier.roll Rattle.kc_core.specs.declared.tree.Kind.TheBlock.shown-the_row-Core-1 denote.Hole.Carrier.shown denote.Hole.Carrier.hidden digits utf16_chars encode
small_programs = (refl, refl, refl, refl, refl, refl, refl, refl, refl, refl, refl, refl)

-- A loop that declares a local anew in each turn.

abbrev boolean_local : Local
boolean_local = record { name = 0; ty = type_is.Boolean; is_var = true }

abbrev unset_of : ℕ → Core
unset_of x = node type_is.Unit (Kind-F.Declare x None)

-- a loop that declares x anew is well formed where x is not assigned before it
fresh_formed : Formed (boolean_local ∷ []) (loop_of (truth false) (unset_of 0)) none_assigned none_assigned
fresh_formed = Formed.While _ 0 _ _ none_assigned none_assigned none_assigned (marked 0 false none_assigned) (out-roll-Kind _) refl refl refl (among_all none_assigned)
    (Formed.BoolLit _ false none_assigned (out-roll-Kind _) refl)
    (Formed.DeclareUnset _ 0 _ none_assigned (out-roll-Kind _) refl refl) (λ x on. cc)

-- and also where x is assigned before it
fresh_formed_behind : Formed (boolean_local ∷ []) (loop_of (truth false) (unset_of 0)) (marked 0 true none_assigned) none_assigned
fresh_formed_behind = Formed.While _ 0 _ _ (marked 0 true none_assigned) none_assigned none_assigned (marked 0 false none_assigned) (out-roll-Kind _) refl refl refl (λ x on. cc)
    (Formed.BoolLit _ false none_assigned (out-roll-Kind _) refl)
    (Formed.DeclareUnset _ 0 _ none_assigned (out-roll-Kind _) refl refl) (λ x on. cc)

-- The meaning itself does not look at a local's type: a local of type Int that gets a Boolean, and is read as one.
stored_as_other_type :
    (meaning (program (a_var ∷ []) (declare_of 0 (truth true) ∷ printing (read_of type_is.Boolean 0) ∷ [])) 0 [] 40 ≡ Over Ended (codes "true\n"))
unfolding out-Kind denote.Hole.Carrier.out roll-Kind denote.Hole.Carrier.roll Rattle.kc_core.specs.declared.tree.Kind.TheBlock.shown-the_row-Core-1 denote.Hole.Carrier.shown denote.Hole.Carrier.hidden digits utf16_chars encode
stored_as_other_type = refl

-- ---- weights

weighed : (ty : TypeTree) (k : Kind-F Kind Core) → weight_of (node ty k) ≡ kind_weight (map-Kind Kind Core ℕ ℕ weight_of_kind weight_of k)
weighed ty k = fold_out-Core ℕ ℕ kind_weight core_weight (node ty k) ∙ fold-roll-Kind ℕ ℕ kind_weight core_weight k

number_weighs : (z : ℤ) → weight_of (number z) ≡ 14
number_weighs z = weighed type_is.Int (Kind-F.IntLit z)

text_weighs : (t : List ℕ) → weight_of (text t) ≡ 14
text_weighs t = weighed type_is.String (Kind-F.StrLit t)

-- a line that is a number weighs 14 and, as a part of a block, 2 more
numbers_weigh : function_weight (main_of [] (number (pos 0) ∷ number (pos 1) ∷ number (pos 2) ∷ [])) ≡ 79
numbers_weigh =
    let whole = weighed type_is.Unit (Kind-F.Block (number (pos 0) ∷ number (pos 1) ∷ number (pos 2) ∷ [])) in
    let a = number_weighs (pos 0) in
    let b = number_weighs (pos 1) in
    let c = number_weighs (pos 2) in
    omega (arith, whole, a, b, c)

abbrev line_of : ℤ → Core
line_of z = node type_is.String (Kind-F.Concat (number z ∷ text (codes "\n") ∷ []))

-- `println(1)`: 24 for the call and 8 for what it takes, 30 for the text and 24 for each part, 14 for each of its two constants
printing_weighs : weight_of (printing (number (pos 1))) ≡ 138
printing_weighs =
    let whole = weighed type_is.Unit (Kind-F.CallNative native_is.ConsoleWrite (line_of (pos 1) ∷ [])) in
    let line = weighed type_is.String (Kind-F.Concat (number (pos 1) ∷ text (codes "\n") ∷ [])) in
    let a = number_weighs (pos 1) in
    let b = text_weighs (codes "\n") in
    omega (arith, whole, line, a, b)
