-- `lines::line_start` meets its contract. The loop: what is left of the lines, from here, comes to where the line starts.
-- Assumes nothing.
use Rattle.std.proofs.Common.{◌≡◌, ◌≤◌, ◌-◌, length}
use Rattle.lines.specs.Text.{line_start}
use Rattle.lines.proofs.line_start.Given as goal

abbrev pub invariant-loop : goal.invariant-loop
invariant-loop l = record { inside : l.at ≤ length l.text; same : line_start l.text (l.j - l.counter) l.at ≡ line_start l.text l.j 0 }
