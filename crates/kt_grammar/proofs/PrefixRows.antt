-- The steps of the functions that take prefix operators one behind another.
use Rattle.std.proofs.Common.{◌≡◌, ℕ, suc, ◌-◌, ◌<◌, ◌≤◌, false, List, length, drop, Ok, refl, sym, subst, arith}
use Rattle.grammars.specs.Grammar.{row, first, test}
use Rattle.kc_text.specs.declared.errors.Fail.{Fail}
use Rattle.kc_tree.specs.declared.expr.Expr.{Expr}
use Rattle.kt_lexer.specs.declared.token.Token.{Token}
use Rattle.kt_grammar.specs.declared.cursor.Cursor.{Cursor}
use Rattle.kt_grammar.specs.Built as built
use Rattle.kt_grammar.specs.Parsed.{Advanced, Halts}
use Rattle.kt_grammar.specs.Prefixes.{PrefixRun, moved_to}
use Rattle.kt_grammar.specs.Rows as rows
use Rattle.kt_grammar.specs.Rows.{Row}
use Rattle.kt_grammar.specs.Signs.{TokenTaken}
use Rattle.kt_grammar.specs.Tokens.{is_prefix}
use Rattle.kt_grammar.proofs.OperatorRows.{prefix_plain, prefix_taken, prefix_halts}
use Rattle.kt_grammar.proofs.Advances.{halts_row, halts_right}

place_alike : {a b l m : ℕ} → a ≡ b → l ≡ m → (let x : Cursor = record { at = a; looked = l } in x) ≡ record { at = b; looked = m }
place_alike p q = cc

-- two places that are one
one_place : (c d : Cursor) → c.at ≡ d.at → c.looked ≡ d.looked → c ≡ d
one_place c d p q = place_alike p q

-- ---- on to the operand

pub record RunTo (ts : List Token) (start next : Cursor) : Type 0 where
  pub ahead : start.at ≤ next.at
  pub within : next.at ≤ length ts
  pub so_far : next.looked ≡ start.looked
  pub halts : (e : Fail ℕ) → Halts (row rows.prefix) ts next e → Halts (row rows.prefix) ts start e

pub run_none : {ts : List Token} {start : Cursor} → start.at ≤ length ts → RunTo ts start start
run_none w = record { ahead = omega arith; within = w; so_far = refl; halts = λ e h. h }

pub run_more : {ts : List Token} {start next behind : Cursor} {t : Token} → RunTo ts start next → TokenTaken is_prefix ts next behind t → RunTo ts start behind
run_more v o = record {
  ahead = omega (arith, v.ahead, o.taken.next);
  within = o.taken.within;
  so_far = omega (arith, v.so_far, o.so_far);
  halts = λ e h. v.halts e (prefix_halts v.within o h);
}

pub run_end : {ts : List Token} {start next : Cursor} → RunTo ts start next → test is_prefix (first (drop next.at ts)) ≡ false → PrefixRun ts start next.at
run_end {ts = ts} {start = start} {next = next} v h = record {
  ahead = v.ahead;
  within = v.within;
  no_more = h;
  halts = λ e k. v.halts e (subst (λ (c : Cursor). Halts (row rows.prefix) ts c e) (one_place (moved_to start next.at) next refl (sym v.so_far)) k);
}

-- ---- back from the operand

pub record Wrapped (ts : List Token) (start : Cursor) (at : ℕ) (end : Cursor) (x : Expr) : Type 0 where
  pub ahead : start.at ≤ at
  pub within : at ≤ length ts
  pub read : Advanced (row rows.prefix) built.prefix_of ts (moved_to start at) end x

pub wrap_none : {ts : List Token} {start end : Cursor} {at : ℕ} {x : Expr} → start.at ≤ at → at ≤ length ts → Advanced (row rows.prefix) built.prefix_of ts (moved_to start at) end x → Wrapped ts start at end x
wrap_none h w p = record { ahead = h; within = w; read = p }

pub wrap_more : {ts : List Token} {start next end : Cursor} {at before : ℕ} {t : Token} {x y : Expr} (mid : Cursor) → Wrapped ts start at end x → start.at < at → before ≡ at - 1 → mid ≡ moved_to start before
    → TokenTaken is_prefix ts mid next t → y ≡ built.prefixed t x → Wrapped ts start before end y
wrap_more {ts = ts} {start = start} {next = next} {end = end} {at = at} {before = before} {t = t} {x = x} mid v h e i k g = let o = subst (λ (c : Cursor). TokenTaken is_prefix ts c next t) i k in record {
  ahead = omega (arith, v.ahead, h, e);
  within = omega (arith, v.within, e);
  read = prefix_taken o (subst (λ (c : Cursor). Advanced (row rows.prefix) built.prefix_of ts c end x) (one_place (moved_to start at) next (omega (arith, o.taken.next, h, e)) (sym o.so_far)) v.read) g;
}

pub wrap_end : {ts : List Token} {start end : Cursor} {at : ℕ} {x : Expr} → Wrapped ts start at end x → at ≤ start.at → Advanced (row rows.prefix) built.prefix_of ts start end x
wrap_end {ts = ts} {start = start} {end = end} {at = at} {x = x} v h =
    subst (λ (c : Cursor). Advanced (row rows.prefix) built.prefix_of ts c end x) (one_place (moved_to start at) start (omega (arith, h, v.ahead)) refl) v.read

-- ---- the operand itself

pub run_operand : {ts : List Token} {start end : Cursor} {last : ℕ} {x : Expr} (mid : Cursor) → PrefixRun ts start last → mid ≡ moved_to start last → Advanced (row rows.postfix) built.postfix_of ts mid end x
    → Advanced (row rows.prefix) built.prefix_of ts (moved_to start last) end x
run_operand {ts = ts} {start = start} {end = end} {last = last} {x = x} mid v i p =
    prefix_plain ts (moved_to start last) v.within v.no_more (Ok (x, end)) (subst (λ (c : Cursor). Advanced (row rows.postfix) built.postfix_of ts c end x) i p)

pub run_stuck : {ts : List Token} {start : Cursor} {last : ℕ} {e : Fail ℕ} (mid : Cursor) → PrefixRun ts start last → mid ≡ moved_to start last → Halts (row rows.postfix) ts mid e → Halts (row rows.prefix) ts start e
run_stuck {ts = ts} {e = e} mid v i h = v.halts e (halts_row (halts_right v.within v.no_more (subst (λ (c : Cursor). Halts (row rows.postfix) ts c e) i h)))
