-- The machine is built for the sets of the first lot.
use Rattle.std.proofs.Common.{◌≡◌, true, List, [], subst, sym, arith, ◌∙◌}
use Rattle.std.specs.Prelude.{All}
use Rattle.class_file.specs.declared.class.Handler.{Handler}
use Rattle.class_file.specs.declared.row.Row.{Row}
use Rattle.class_file.specs.declared.row.Row.TheVariants as row
use Rattle.class_file.specs.Machine.{class_pool}
use Rattle.class_file.specs.Lots.{in_first_lot}
use Rattle.class_machine.specs.Lot.{FirstLotIsBuilt, OfNative, CatchesKnown, is_built}

row_built : (r : Row) → in_first_lot r ≡ true → is_built r ≡ true
row_built row.Nop e = absurd cc
row_built row.DupX1 e = absurd cc
row_built row.Dup2 e = absurd cc
row_built (row.Increment i n) e = absurd cc
row_built _ e = e

none_known : (P : Handler → Type 0) → All P []
none_known P k d lt = absurd (omega (arith, lt))

pub is_built_set : FirstLotIsBuilt
is_built_set set lot = record {
  main = record {
    class = lot.main.class;
    place = lot.main.place;
    method = lot.main.method;
    view = lot.main.view;
    class_is = lot.main.class_is;
    place_is = lot.main.place_is;
    method_is = lot.main.method_is;
    found = lot.main.found;
    body = lot.main.body;
    starts = record { above = lot.main.above; coded = λ v e. absurd (let q = sym lot.main.quiet ∙ e in cc) };
  };
  rows = λ class method at i e. row_built _ (lot.rows class method at i e);
  calls = λ class method at k i e is. let n = lot.calls class method at k i e is in OfNative (record { id = n.0; names = n.1 });
  handlers = λ class method m e. subst (λ (hs : List Handler). All (CatchesKnown (class_pool set class)) hs) (sym (lot.unhandled class method m e)) (none_known (CatchesKnown (class_pool set class)));
}
