-- `lines::read_number` meets its contract. The loop: what is left, after the value so far, decides.
-- Assumes nothing.
use Rattle.std.proofs.Common.{◌≡◌, ◌<◌, drop}
use Rattle.std.specs.List.{list_all}
use Rattle.lines.specs.Text.{is_digit, value_from, number_by, number_of}
use Rattle.lines.proofs.read_number.Given as goal

abbrev pub invariant-loop-byte : goal.invariant-loop-byte
invariant-loop-byte l = record { small : l.value < 65536; same : number_by (list_all is_digit (drop l.byte-index l.s)) (value_from l.value (drop l.byte-index l.s)) ≡ number_of l.s }
