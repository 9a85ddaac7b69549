-- Where a part is stuck whose tests have looked beyond the place at which a part of it is: the two sides of that, each by itself. The
-- tokens up to a place begin a list with a derivation; and no reading goes on from there.
use Rattle.std.proofs.Common.{◌≡◌, Bool, true, false, List, [], ◌++◌, refl, sym, ap, ◌∙◌, ◌<◌, ◌≤◌, ◌+◌, length, length-append, arith, append_assoc}
use Rattle.std.proofs.lemmas.List.{append_cancel_right}
use Rattle.grammars.specs.Grammar.{Test, Part, row, both, choose, many, guard, Cst, none, node, pair, left, right, first, Derives, d_row, d_both, d_left, d_right, d_more, d_done, d_guard, Reads, Settled, Productive, Begun, Stuck}
use Rattle.grammars.proofs.Readings.{first_alike, holds_at, holds_front, far_front, Front, front_of, followed, along, along_d, carry, one_reading}
use Rattle.grammars.proofs.Refusals.{Longer, longer, Parts, parts, inner, chosen_left, chosen_right, turned, into_guard, after_more}

module _ {R A : Type 0} (G : R → Part R A) where
  -- ---- the tokens up to a place begin a list with a derivation

  pub begun_here : {a : Part R A} (ts : List A) → Productive G a → Begun G a ts ts
  begun_here ts p = record { before = []; split = refl; begins = p }

  pub begun_row : {n : R} {ts rest : List A} → Begun G (G n) ts rest → Begun G (row n) ts rest
  begun_row k = record { before = k.before; split = k.split; begins = (k.begins.0, node k.begins.1, d_row k.begins.2) }

  pub begun_left : {f : Test A} {a b : Part R A} {ts rest : List A} → Begun G a ts rest → Begun G (choose f a b) ts rest
  begun_left k = record { before = k.before; split = k.split; begins = (k.begins.0, left k.begins.1, d_left k.begins.2) }

  pub begun_right : {f : Test A} {a b : Part R A} {ts rest : List A} → Begun G b ts rest → Begun G (choose f a b) ts rest
  begun_right k = record { before = k.before; split = k.split; begins = (k.begins.0, right k.begins.1, d_right k.begins.2) }

  pub begun_turn : {f : Test A} {a : Part R A} {ts rest : List A} → Begun G a ts rest → Begun G (many f a) ts rest
  begun_turn k = record { before = k.before; split = k.split; begins = (k.begins.0, pair k.begins.1 none, d_more k.begins.2 d_done) }

  pub begun_first : {a b : Part R A} {ts rest : List A} → Begun G a ts rest → Productive G b → Begun G (both a b) ts rest
  begun_first k e = record {
    before = k.before;
    split = k.split;
    begins = (k.begins.0 ++ e.0, pair k.begins.1 e.1, after_more G k.before k.begins.0 e.0 (d_both (followed G k.begins.2 e.0) e.2));
  }

  begun_behind : {a b c : Part R A} {ts r rest : List A} {x : Cst A} → Reads G a ts x r → Begun G b r rest
      → ((p q : List A) (y : Cst A) → Derives G a p x q → Derives G b q y [] → (z : Cst A) × Derives G c p z []) → Begun G c ts rest
  begun_behind {a = a} {b = b} {c = c} {ts = ts} {r = r} {rest = rest} {x = x} d k make = record {
    before = l.front ++ k.before;
    split = l.split ∙ ap (λ m. l.front ++ m) k.split ∙ sym (append_assoc l.front k.before rest);
    begins = (k.begins.0, begun.0, along_d G (sym (append_assoc l.front k.before k.begins.0)) begun.1);
  }
    where
      l : Front G a ts x r
      l = front_of G d

      begun : (z : Cst A) × Derives G c (l.front ++ (k.before ++ k.begins.0)) z []
      begun = make _ _ k.begins.1 (l.derive (k.before ++ k.begins.0)) k.begins.2

  pub begun_second : {a b : Part R A} {ts r rest : List A} {x : Cst A} → Reads G a ts x r → Begun G b r rest → Begun G (both a b) ts rest
  begun_second d k = begun_behind d k (λ p q y d e. (_, d_both d e))

  pub begun_more : {f : Test A} {a : Part R A} {ts r rest : List A} {x : Cst A} → Reads G a ts x r → Begun G (many f a) r rest → Begun G (many f a) ts rest
  begun_more d k = begun_behind d k (λ p q y d e. (_, d_more d e))

  pub begun_guard : {f : Test A} {a : Part R A} {ts rest : List A} → f.holds ts ≡ true → (k : Begun G a ts rest) → f.far ts < length k.before → Begun G (guard f a) ts rest
  begun_guard {f = f} {ts = ts} {rest = rest} h k p = record {
    before = k.before;
    split = k.split;
    begins = (
      k.begins.0,
      node k.begins.1,
      d_guard (holds_front f k.before rest k.begins.0 ts k.split p ∙ h) k.begins.2
          (omega (arith, p, length-append k.before k.begins.0, far_front f k.before rest k.begins.0 ts k.split p)),
    );
  }

  pub begun_read : {a : Part R A} {ts r : List A} {x : Cst A} → Reads G a ts x r → Begun G a ts r
  begun_read {a = a} {ts = ts} {r = r} {x = x} d =
      let l : Front G a ts x r = front_of G d in record { before = l.front; split = l.split; begins = ([], x, l.derive []) }

  pub productive : {a : Part R A} {ts rest : List A} → Begun G a ts rest → Productive G a
  productive k = (k.before ++ k.begins.0, k.begins.1, k.begins.2)

  pub begun_of : {a : Part R A} {ts rest : List A} → Stuck G a ts rest → Begun G a ts rest
  begun_of k = record { before = k.before; split = k.split; begins = k.begins }

  -- ---- no reading goes on with the token at the place, or ends there where the tokens end

  pub record Dead (a : Part R A) (ts rest : List A) : Type 0 where
    pub before : List A
    pub split : ts ≡ before ++ rest
    pub no_more : (s r : List A) (x : Cst A) → first s ≡ first rest → Reads G a (before ++ s) x r → ⊥

  pub dead_of : {a : Part R A} {ts rest : List A} → Stuck G a ts rest → Dead a ts rest
  dead_of k = record { before = k.before; split = k.split; no_more = k.no_more }

  pub stuck_of : {a : Part R A} {ts rest : List A} → Begun G a ts rest → Dead a ts rest → Stuck G a ts rest
  stuck_of {a = a} {ts = ts} {rest = rest} k e =
      let same : k.before ≡ e.before = append_cancel_right k.before e.before rest (sym k.split ∙ e.split) in
      record { before = k.before; split = k.split; begins = k.begins; no_more = λ s r x w d. e.no_more s r x w (along G (ap (λ m. m ++ s) same) d) }

  -- neither does one from a later place
  pub dead_later : {a : Part R A} {ts early rest : List A} → Dead a ts early → (front : List A) → ts ≡ front ++ rest → length rest ≤ length early → Dead a ts rest
  dead_later {a = a} {ts = ts} {early = early} {rest = rest} e front split le = record {
    before = front;
    split = split;
    no_more = λ s r x w d. e.no_more (l.between ++ s) r x (sym (ap first l.backs ∙ first_alike l.between rest s (sym w)))
        (along G (ap (λ m. m ++ s) l.fronts ∙ append_assoc e.before l.between s) d);
  }
    where
      l : Longer G front rest e.before early
      l = longer G e.before front rest early (sym split ∙ e.split)
          (omega (arith, le, ap length split, ap length e.split, length-append front rest, length-append e.before early))

  dead_at : {a : Part R A} {ts rest : List A} (k : Dead a ts rest) (f : Test A) (s : List A) {b : Bool} → length rest + f.far ts ≤ length ts → first s ≡ first rest → f.holds ts ≡ b → f.holds (k.before ++ s) ≡ b
  dead_at {ts = ts} {rest = rest} k f s le w h = holds_at f k.before rest s ts k.split le (sym w) h

  pub dead_row : {n : R} {ts rest : List A} → Dead (G n) ts rest → Dead (row n) ts rest
  dead_row k = record { before = k.before; split = k.split; no_more = λ s r x w d. let i = inner G d in k.no_more s r i.0 w i.1 }

  pub dead_left : {f : Test A} {a b : Part R A} {ts rest : List A} → f.holds ts ≡ true → (k : Dead a ts rest) → length rest + f.far ts ≤ length ts → Dead (choose f a b) ts rest
  dead_left {f = f} h k le = record { before = k.before; split = k.split; no_more = λ s r x w d. let i = chosen_left G (dead_at k f s le w h) d in k.no_more s r i.0 w i.1 }

  pub dead_right : {f : Test A} {a b : Part R A} {ts rest : List A} → f.holds ts ≡ false → (k : Dead b ts rest) → length rest + f.far ts ≤ length ts → Dead (choose f a b) ts rest
  dead_right {f = f} h k le = record { before = k.before; split = k.split; no_more = λ s r x w d. let i = chosen_right G (dead_at k f s le w h) d in k.no_more s r i.0 w i.1 }

  pub dead_turn : {f : Test A} {a : Part R A} {ts rest : List A} → f.holds ts ≡ true → (k : Dead a ts rest) → length rest + f.far ts ≤ length ts → Dead (many f a) ts rest
  dead_turn {f = f} h k le = record { before = k.before; split = k.split; no_more = λ s r x w d. let i = turned G (dead_at k f s le w h) d in k.no_more s i.mid i.x w i.here }

  pub dead_first : {a b : Part R A} {ts rest : List A} → Dead a ts rest → Dead (both a b) ts rest
  dead_first k = record { before = k.before; split = k.split; no_more = λ s r x w d. let i = parts G d in k.no_more s i.mid i.x w i.here }

  pub dead_guard : {f : Test A} {a : Part R A} {ts rest : List A} → Dead a ts rest → Dead (guard f a) ts rest
  dead_guard k = record { before = k.before; split = k.split; no_more = λ s r x w d. let i = into_guard G d in k.no_more s r i.0 w i.1 }

  dead_behind : {a b c : Part R A} {ts r rest : List A} {x : Cst A} → (d : Reads G a ts x r) → Dead b r rest → Settled (length rest) d
      → ((front : List A) → ts ≡ front ++ rest → (s q : List A) (z : Cst A) → first rest ≡ first s → Reads G c (front ++ s) z q → Parts G a b (front ++ s) q) → Dead c ts rest
  dead_behind {a = a} {b = b} {c = c} {ts = ts} {r = r} {rest = rest} {x = x} d k seen opened = record {
    before = l.front ++ k.before;
    split = whole;
    no_more = λ s q z w e. impossible s q w (opened (l.front ++ k.before) whole s q z (sym w) e);
  }
    where
      l : Front G a ts x r
      l = front_of G d

      whole : ts ≡ (l.front ++ k.before) ++ rest
      whole = l.split ∙ ap (λ m. l.front ++ m) k.split ∙ sym (append_assoc l.front k.before rest)

      impossible : (s q : List A) → first s ≡ first rest → Parts G a b ((l.front ++ k.before) ++ s) q → ⊥
      impossible s q w i =
          let u = carry G d k.before rest s k.split seen (sym w) in
          let same : u.before ≡ l.front ++ k.before = append_cancel_right u.before (l.front ++ k.before) rest (sym u.split ∙ whole) in
          let again = one_reading G (along G (ap (λ m. m ++ s) same) u.reads) i.here in
          k.no_more s q i.y w (along G (sym again.rest) i.there)

  pub dead_second : {a b : Part R A} {ts r rest : List A} {x : Cst A} → (d : Reads G a ts x r) → Dead b r rest → Settled (length rest) d → Dead (both a b) ts rest
  dead_second d k seen = dead_behind d k seen (λ front split s q z w e. parts G e)

  pub dead_more : {f : Test A} {a : Part R A} {ts r rest : List A} {x : Cst A} → f.holds ts ≡ true → length rest + f.far ts ≤ length ts
      → (d : Reads G a ts x r) → Dead (many f a) r rest → Settled (length rest) d → Dead (many f a) ts rest
  dead_more {f = f} {ts = ts} {rest = rest} h le d k seen = dead_behind d k seen (λ front split s q z w e. turned G (holds_at f front rest s ts split le w h) e)
