-- `cases::digest` meets its contract. The loop: the digest of what is passed.
-- Assumes nothing.
use Rattle.std.proofs.Common.{◌≡◌, ◌<◌, take, fold}
use Rattle.cases.specs.Digest.{digest_step}
use Rattle.cases.proofs.digest.Given as goal

abbrev pub invariant-loop-byte : goal.invariant-loop-byte
invariant-loop-byte l = record { small : l.digest < 36028797018963913; same : l.digest ≡ fold digest_step 1 (take l.byte-index l.s) }
