-- `cases::fill` meets its contract. The loop: what is passed holds the pattern.
-- Assumes nothing.
use Rattle.std.proofs.Common.{◌≡◌, length, take}
use Rattle.cases.specs.Digest.{pattern}
use Rattle.cases.proofs.fill.Given as goal

abbrev pub invariant-loop-i : goal.invariant-loop-i
invariant-loop-i l = record { long : length l.buf ≡ length l.initial.buf; same : take l.i l.buf ≡ pattern l.i }
