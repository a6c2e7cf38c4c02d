-- `view::block`, `view::value` and `view::values` meet their contracts.
-- The measure is three times the levels left, with room for a block over its values over a value. Assumes nothing.
use Prim.Native.Nat.{◌+◌, ◌-◌}
use mathlib.Core.Path.{◌≡◌}
use Rattle.view.specs.Parse.{many, parse_value, place_of}
use Rattle.view.proofs.+block_value_values.Given as goal

abbrev pub decreases-block : goal.decreases-block
decreases-block l = l.depth + l.depth + l.depth + 2

abbrev pub decreases-value : goal.decreases-value
decreases-value l = l.depth + l.depth + l.depth

abbrev pub decreases-values : goal.decreases-values
decreases-values l = l.depth + l.depth + l.depth + 1

abbrev pub invariant-values-loop : goal.invariant-values-loop
invariant-values-loop l = record {
  left : place_of (many (parse_value l.fn.reader.view.now l.fn.reader.count l.depth) l.count l.fn.reader.place)
      ≡ place_of (many (parse_value l.fn.reader.view.now l.fn.reader.count l.depth) (l.count - l.counter) l.reader.place);
  view : l.reader.view ≡ l.fn.reader.view;
  count : l.reader.count ≡ l.fn.reader.count;
}
