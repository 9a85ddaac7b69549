-- What objects in memory hold.
use Rattle.std.specs.Prelude.{ℕ, ◌+◌, ◌-◌, ◌^◌, min, Bool, nat_eq, nat_lt, ◌&&◌, List, if◌then◌else◌}
use Rattle.std.specs.List.{list_any}

-- the calls on an object: the numbers, from 1, of those that are to fail, and how many were made and failed
pub record Calls : Type 0 where
  pub failing : List ℕ
  pub made : ℕ
  pub failed : ℕ

-- the largest number of 64 bits; later calls have no number, and never fail
abbrev pub last_number : ℕ
last_number = 2 ^ 64 - 1

-- Is the next call to fail?
abbrev pub is_due : Calls → Bool
is_due calls = nat_lt calls.made last_number && list_any (λ number. nat_eq number (calls.made + 1)) calls.failing

-- after one more call
abbrev pub next_calls : Calls → Calls
next_calls calls =
    record {
      failing = calls.failing;
      made = min (calls.made + 1) last_number;
      failed = if is_due calls then calls.failed + 1 else calls.failed;
    }

-- a sink: the bytes taken, and how many it takes at most in a call
pub record SinkInMemory : Type 0 where
  pub taken : List ℕ
  pub most : ℕ
  pub calls : Calls

-- a source: the bytes left, and how many it gives at most in a call
pub record SourceInMemory : Type 0 where
  pub left : List ℕ
  pub most : ℕ
  pub calls : Calls

-- a folder: names and contents, in written order
pub record FolderInMemory : Type 0 where
  pub entries : List (List ℕ × List ℕ)
  pub calls : Calls
