-- What a writer of known contents holds after one record more.
-- Assumes nothing.
use Rattle.std.proofs.Common.{ℕ, ◌+◌, ◌≡◌, List, Option, subst, add-one}
use Rattle.std.specs.Io.KnownBytes.{Appends}
use Rattle.std.proofs.KnownBytes.{Appends-trans}
use Rattle.word.specs.Record.{rec_at}
use Rattle.word.specs.declared.Record.{Record}
use Rattle.showtree.specs.Shown.{record_line, record_lines}

pub record_further : (o m n : Option (List ℕ)) (tree : List ℕ) (i : ℕ) (r : Record) → Appends o m (record_lines tree i) → Appends m n (record_line r) → r ≡ rec_at tree i → Appends o n (record_lines tree (i + 1))
unfolding record_lines
record_further o m n tree i r p q e =
    rw add-one (Appends-trans o m n (record_lines tree i) (record_line (rec_at tree i)) p (subst (λ x. Appends m n (record_line x)) e q))
