-- `store::table_spans` meets its contract: the array has the spans of the tables among the records before record i.
-- Assumes nothing.
use Prim.Native.Nat.{◌+◌, ◌*◌, ◌≤◌}
use Rattle.store.proofs.Arrays.{Spanned}
use Rattle.store.proofs.places.table_spans.Given as goal

abbrev pub invariant-loop-i : goal.invariant-loop-i
invariant-loop-i l = (l.at ≤ 8 + 1090650114 * l.i) × Spanned l.cat l.n l.store l.i l.tables l.at l.spans
