-- How heavy a function is, and how many bytes its code may take. A node's code takes no more room than the node weighs, so a limit
-- on weights, which is told before any code is there, bounds the code.
use Rattle.std.specs.Prelude.{ℕ, ◌+◌, ◌≤◌, List, [], ◌∷◌, Some, None}
use Rattle.kc_core.specs.declared.tree.Core.{Core}
use Rattle.kc_core.specs.declared.tree.Function.{Function}
use Rattle.kc_core.specs.declared.tree.Kind.TheFolds.{fold-Core}
use Rattle.kc_core.specs.declared.tree.Kind.TheOpen.{Kind-F, Core-F}

-- the weights of several children, each with so much more
abbrev pub with_each : ℕ → List ℕ → ℕ
with_each more [] = 0
with_each more (w ∷ ws) = (w + more) + with_each more ws

-- a kind's own number, its children's weights, and what is counted for each child
abbrev pub kind_weight : Kind-F ℕ ℕ → ℕ
kind_weight (Kind-F.IntLit n) = 14
kind_weight (Kind-F.StrLit t) = 14
kind_weight (Kind-F.BoolLit b) = 13
kind_weight (Kind-F.LocalRead x) = 16
kind_weight (Kind-F.LocalWrite x e) = 18 + (e + 8)
kind_weight (Kind-F.Declare x None) = 18
kind_weight (Kind-F.Declare x (Some e)) = 18 + (e + 8)
kind_weight (Kind-F.NumBinary o a b) = 14 + (a + 8) + (b + 8)
kind_weight (Kind-F.NumUnary o a) = 12 + (a + 8)
kind_weight (Kind-F.NumCompare o a b) = 28 + (a + 8) + (b + 8)
kind_weight (Kind-F.Equal a b) = 40 + (a + 8) + (b + 8)
kind_weight (Kind-F.Not a) = 28 + (a + 8)
kind_weight (Kind-F.And a b) = 28 + (a + 8) + (b + 8)
kind_weight (Kind-F.Or a b) = 28 + (a + 8) + (b + 8)
kind_weight (Kind-F.Concat parts) = 30 + with_each 24 parts
kind_weight (Kind-F.CallNative f values) = 24 + with_each 8 values
kind_weight (Kind-F.Block parts) = with_each 2 parts
kind_weight (Kind-F.If c a None) = 28 + (c + 8) + (a + 8)
kind_weight (Kind-F.If c a (Some b)) = 28 + (c + 8) + (a + 8) + (b + 8)
kind_weight (Kind-F.While label c a) = 32 + (c + 8) + (a + 8)

abbrev pub core_weight : Core-F ℕ ℕ → ℕ
core_weight c = c.kind

abbrev pub weight_of : Core → ℕ
weight_of e = fold-Core ℕ ℕ kind_weight core_weight e

abbrev pub function_weight : Function → ℕ
function_weight f = 31 + weight_of f.body

-- How many bytes a node's code may take: where it leaves the node's value, and where it goes on elsewhere by the value of a
-- Boolean node. A jump to a place outside the node's own code is counted with 5 bytes, or with 8 where it is on a condition, and a
-- local variable with 4.
pub record Room : Type 0 where
  pub value : ℕ
  pub branch : ℕ

-- a node that leaves its value, at which a test looks
abbrev pub plain_room : ℕ → Room
plain_room value = record { value = value; branch = value + 8 }

-- a node that tests, from which a value can be made
abbrev pub testing_room : ℕ → Room
testing_room branch = record { value = branch + 5; branch = branch }

-- the room of several children, each with so much more
abbrev pub room_of_each : ℕ → List Room → ℕ
room_of_each more [] = 0
room_of_each more (r ∷ rs) = (r.value + more) + room_of_each more rs

abbrev pub kind_room : Kind-F Room Room → Room
kind_room (Kind-F.IntLit n) = plain_room 3
kind_room (Kind-F.StrLit t) = plain_room 3
kind_room (Kind-F.BoolLit b) = plain_room 1
kind_room (Kind-F.LocalRead x) = plain_room 4
kind_room (Kind-F.LocalWrite x e) = plain_room (e.value + 4)
kind_room (Kind-F.Declare x None) = plain_room 0
kind_room (Kind-F.Declare x (Some e)) = plain_room (e.value + 4)
kind_room (Kind-F.NumBinary o a b) = plain_room (a.value + b.value + 1)
kind_room (Kind-F.NumUnary o a) = plain_room (a.value + 1)
kind_room (Kind-F.NumCompare o a b) = testing_room (a.value + b.value + 8)
kind_room (Kind-F.Equal a b) = testing_room (a.value + b.value + 8)
kind_room (Kind-F.Not a) = testing_room a.branch
kind_room (Kind-F.And a b) = testing_room (a.branch + b.branch)
kind_room (Kind-F.Or a b) = testing_room (a.branch + b.branch)
kind_room (Kind-F.Concat parts) = plain_room (3 + room_of_each 6 parts)
kind_room (Kind-F.CallNative f values) = plain_room (3 + room_of_each 0 values)
kind_room (Kind-F.Block parts) = plain_room (room_of_each 1 parts)
kind_room (Kind-F.If c a None) = plain_room (c.branch + a.value)
kind_room (Kind-F.If c a (Some b)) = plain_room (c.branch + a.value + 5 + b.value)
kind_room (Kind-F.While label c a) = plain_room (c.branch + a.value + 1 + 5)

abbrev pub core_room : Core-F Room Room → Room
core_room c = c.kind

abbrev pub room_of : Core → Room
room_of e = fold-Core Room Room kind_room core_room e

-- the body's value, if it leaves one, is dropped, and the function returns
abbrev pub function_room : Function → ℕ
function_room f = (room_of f.body).value + 2

-- a function's code takes no more bytes than the function weighs
abbrev pub RoomIsWithinWeight : Type 0
RoomIsWithinWeight = (f : Function) → function_room f ≤ function_weight f
