-- `view::value` meets its contract where no level is left.
-- Assumes nothing.
use mathlib.Core.Path.{refl}
use Rattle.view.proofs.Turns.{value_too_deep}
use Rattle.view.proofs.+block_value_values.Goals as goal

pub value-returns-then-depth-eq0 : goal.value-returns-then-depth-eq0
value-returns-then-depth-eq0 t c = record {
  value = value_too_deep _ _ _ _ c.in_ok-peek.ensures c.shape.ensures c.in-Some.is c.if-depth-eq0.true;
  view = refl;
  count = refl;
}
