-- Entries of a pool, read one after the other as a loop does.
use Rattle.std.proofs.Common.{◌≡◌, ℕ, zero, suc, ◌-◌, ◌+◌, ◌≤◌, ◌<◌, Bool, true, cond, List, [], ◌∷◌, ◌++◌, length, drop, get_or, nat_lt, Option, Some, None, Result, Ok, Err, refl, sym, ap, ◌∙◌, arith, le-ltb}
use Rattle.std.proofs.lemmas.Bool.{lt-ltb}
use Rattle.class_file.specs.declared.format_fault.FormatFault.{FormatFault}
use Rattle.class_file.specs.declared.format_fault.FormatCode.{FormatCode}
use Rattle.class_file.specs.declared.pool.Entry.{Entry}
use Rattle.class_file.specs.Indexing.{added}
use Rattle.std.proofs.lemmas.List.{drop_more, drop_all}
use Rattle.kc_text.specs.declared.errors.Fail.{Fail}
use Rattle.kc_text.specs.declared.errors.Fail.TheVariants as fail
use Rattle.class_reader.specs.declared.input.Input as kept_input
use Rattle.class_reader.specs.declared.uses.Use as kept_use
use Rattle.class_reader.specs.Reads.{Fails, input_of}
use Rattle.class_reader.specs.Pools.{noted, uses_of, IsPool}
use Rattle.class_file.specs.Pools.{Slots}
use Rattle.class_file.specs.Inputs.{Input, read, refused}
use Rattle.class_file.specs.PoolFaults.{judged, found_at, uses_fault, Use, PoolRead, pool_read, piece_at, more_entries, entries_at, judged_pool}

-- no fault
abbrev pub nothing : Result (Unit {0}) FormatFault
nothing = Ok tt

abbrev pub fault_at : FormatCode → ℕ → FormatFault
fault_at code at = record { at = at; code = code }

abbrev failed : {A : Type 0} → FormatFault → Result A FormatFault
failed f = Err f

pub goes_on : (slots : Slots) (uses : List Use) (count i : ℕ) (input after : Input) (e : Entry) (total : PoolRead) → i < count → length slots < count → (piece_at (count - length slots) input).end ≡ read e after
    → entries_at (count - i) count slots uses input ≡ total → entries_at (count - (i + 1)) count (slots ++ added e) (uses ++ (piece_at (count - length slots) input).uses) after ≡ total
unfolding entries_at
goes_on slots uses count i input after e total lt room h so_far =
    let k : count - i ≡ suc (count - (i + 1)) = omega arith in
    let open_ : nat_lt (length slots) count ≡ true = lt-ltb _ _ room in
    let step : entries_at (count - i) count slots uses input ≡ entries_at (count - (i + 1)) count (slots ++ added e) (uses ++ (piece_at (count - length slots) input).uses) after =
    ap (λ (n : ℕ). entries_at n count slots uses input) k
    ∙ ap (λ (b : Bool). cond b (more_entries (entries_at (count - (i + 1)) count) slots (uses ++ (piece_at (count - length slots) input).uses) (piece_at (count - length slots) input).end) (pool_read slots uses (Ok input))) open_
    ∙ ap (more_entries (entries_at (count - (i + 1)) count) slots (uses ++ (piece_at (count - length slots) input).uses)) h in
    sym step ∙ so_far

pub ends : (slots : Slots) (uses : List Use) (count i : ℕ) (input : Input) (f : FormatFault) (total : PoolRead) → i < count → length slots < count → (piece_at (count - length slots) input).end ≡ Err f
    → entries_at (count - i) count slots uses input ≡ total → total ≡ pool_read slots (uses ++ (piece_at (count - length slots) input).uses) (Err f)
unfolding entries_at
ends slots uses count i input f total lt room h so_far =
    let k : count - i ≡ suc (count - (i + 1)) = omega arith in
    let open_ : nat_lt (length slots) count ≡ true = lt-ltb _ _ room in
    let step : entries_at (count - i) count slots uses input ≡ pool_read slots (uses ++ (piece_at (count - length slots) input).uses) (Err f) =
    ap (λ (n : ℕ). entries_at n count slots uses input) k
    ∙ ap (λ (b : Bool). cond b (more_entries (entries_at (count - (i + 1)) count) slots (uses ++ (piece_at (count - length slots) input).uses) (piece_at (count - length slots) input).end) (pool_read slots uses (Ok input))) open_
    ∙ ap (more_entries (entries_at (count - (i + 1)) count) slots (uses ++ (piece_at (count - length slots) input).uses)) h in
    sym so_far ∙ step

pub is_full : (slots : Slots) (uses : List Use) (count i : ℕ) (input : Input) (total : PoolRead) → count ≤ length slots → entries_at (count - i) count slots uses input ≡ total → total ≡ pool_read slots uses (Ok input)
unfolding entries_at
is_full slots uses count i input total full so_far = sym so_far ∙ by (count - i)
  where
    by : (n : ℕ) → entries_at n count slots uses input ≡ pool_read slots uses (Ok input)
    by zero = refl
    by (suc n) = ap (λ (b : Bool). cond b (more_entries (entries_at n count) slots (uses ++ (piece_at (count - length slots) input).uses) (piece_at (count - length slots) input).end) (pool_read slots uses (Ok input))) (le-ltb _ _ full)

pub is_done : (slots : Slots) (uses : List Use) (count i : ℕ) (input : Input) (total : PoolRead) → count ≤ i → entries_at (count - i) count slots uses input ≡ total → total ≡ pool_read slots uses (Ok input)
unfolding entries_at
is_done slots uses count i input total le so_far =
    let k : count - i ≡ 0 = omega arith in
    sym so_far ∙ ap (λ (n : ℕ). entries_at n count slots uses input) k

-- ---- the judgement

module _ (slots : Slots) (count : ℕ) where
  pub uses_fail : {A : Type 0} (us : List Use) (go : Result A FormatFault) (f : FormatFault) → uses_fault slots count us nothing ≡ Err f → uses_fault slots count us go ≡ Err f
  unfolding uses_fault
  uses_fail [] go f e = absurd cc
  uses_fail (u ∷ us) go f e = by (judged slots count u.wanted (found_at slots count u.index)) (uses_fail us go f) e
    where
      by : (o : Option FormatCode) → (uses_fault slots count us nothing ≡ Err f → uses_fault slots count us go ≡ Err f) → refused u.at o (uses_fault slots count us nothing) ≡ Err f → refused u.at o (uses_fault slots count us go) ≡ Err f
      by None more e = more e
      by (Some code) more e = let same : fault_at code u.at ≡ f = cc in ap failed same

  pub uses_pass : {A : Type 0} (us : List Use) (go : Result A FormatFault) (x : Unit {0}) → uses_fault slots count us nothing ≡ Ok x → uses_fault slots count us go ≡ go
  unfolding uses_fault
  uses_pass [] go x e = refl
  uses_pass (u ∷ us) go x e = by (judged slots count u.wanted (found_at slots count u.index)) (uses_pass us go x) e
    where
      by : (o : Option FormatCode) → (uses_fault slots count us nothing ≡ Ok x → uses_fault slots count us go ≡ go) → refused u.at o (uses_fault slots count us nothing) ≡ Ok x → refused u.at o (uses_fault slots count us go) ≡ go
      by None more e = more e
      by (Some code) more e = absurd cc

  pub use_passes : (u : Use) (us : List Use) → judged slots count u.wanted (found_at slots count u.index) ≡ None → uses_fault slots count (u ∷ us) nothing ≡ uses_fault slots count us nothing
  unfolding uses_fault
  use_passes u us e = ap (λ (o : Option FormatCode). refused u.at o (uses_fault slots count us nothing)) e

  pub use_fails : (u : Use) (us : List Use) (code : FormatCode) → judged slots count u.wanted (found_at slots count u.index) ≡ Some code → uses_fault slots count (u ∷ us) nothing ≡ Err (fault_at code u.at)
  unfolding uses_fault
  use_fails u us code e = ap (λ (o : Option FormatCode). refused u.at o (uses_fault slots count us nothing)) e

  pub uses_none : uses_fault slots count [] nothing ≡ nothing
  unfolding uses_fault
  uses_none = refl

  pub at_use : (uses : List kept_use.Use) (i : ℕ) (d : kept_use.Use) → i < length uses → uses_fault slots count (uses_of (drop i uses)) nothing ≡ uses_fault slots count (noted (get_or uses i d) ∷ uses_of (drop (i + 1) uses)) nothing
  at_use uses i d lt = ap (λ (us : List kept_use.Use). uses_fault slots count (uses_of us) nothing) (drop_more uses i d lt)

  pub over : (uses : List kept_use.Use) (i : ℕ) → length uses ≤ i → uses_fault slots count (uses_of (drop i uses)) nothing ≡ nothing
  over uses i le = ap (λ (us : List kept_use.Use). uses_fault slots count (uses_of us) nothing) (drop_all i uses le) ∙ uses_none

  pub pool_fails : (end : Result kept_input.Input FormatFault) (uses : List kept_use.Use) (p : PoolRead) (e : Fail FormatFault) → IsPool (Ok end) slots uses p → Fails e (uses_fault slots count (uses_of uses) nothing) → Fails e (judged_pool count p)
  pool_fails end uses p fail.Memory is h = tt
  pool_fails (Ok i) uses p (fail.Found f) is h = ap (judged_pool count) is ∙ uses_fail (uses_of uses) (read slots (input_of i)) f h
  pool_fails (Err g) uses p (fail.Found f) is h = ap (judged_pool count) is ∙ uses_fail (uses_of uses) (Err g) f h

  pub pool_is : (i : kept_input.Input) (uses : List kept_use.Use) (p : PoolRead) (x : Unit {0}) → IsPool (Ok (Ok i)) slots uses p → uses_fault slots count (uses_of uses) nothing ≡ Ok x → judged_pool count p ≡ read slots (input_of i)
  pool_is i uses p x is h = ap (judged_pool count) is ∙ uses_pass (uses_of uses) (read slots (input_of i)) x h

  pub pool_breaks : (f : FormatFault) (uses : List kept_use.Use) (p : PoolRead) (x : Unit {0}) → IsPool (Ok (Err f)) slots uses p → uses_fault slots count (uses_of uses) nothing ≡ Ok x → judged_pool count p ≡ Err f
  pool_breaks f uses p x is h = ap (judged_pool count) is ∙ uses_pass (uses_of uses) (Err f) x h
