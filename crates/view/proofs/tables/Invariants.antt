-- `view::tables` meets its contract. The invariant: the answer for all is the answer for what is left.
-- Assumes nothing.
use Prim.Native.Nat.{◌-◌}
use mathlib.Core.Path.{◌≡◌}
use Rattle.view.specs.Parse.{many, parse_table, place_of}
use Rattle.view.proofs.tables.Given as goal

abbrev pub invariant-loop : goal.invariant-loop
invariant-loop l = record {
  left : place_of (many (parse_table l.fn.reader.view.now l.fn.reader.count l.depth) l.count l.fn.reader.place)
      ≡ place_of (many (parse_table l.fn.reader.view.now l.fn.reader.count l.depth) (l.count - l.counter) l.reader.place);
  view : l.reader.view ≡ l.fn.reader.view;
  count : l.reader.count ≡ l.fn.reader.count;
}
