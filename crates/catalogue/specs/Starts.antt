-- Where the tables stand: the numbers of their records, found once and held in an array of 32.
-- Assumes nothing.
use Rattle.std.specs.Prelude.{ℕ, zero, suc, ◌+◌, ◌≤◌, ◌≡◌, cond, List, [], ◌∷◌, Option, Some, None, eqb, length, get_or, take, replicate}
use Rattle.word.specs.Buffer.{put}
use Rattle.word.specs.Header.{count_at}
use Rattle.word.specs.Record.{kind_at}
use Rattle.cell.specs.Res.{Res, stuck, done}
use Rattle.catalogue.specs.Tables.{TabRef, table_at}

-- the numbers of the table records among the k records from i on
unfoldable pub starts_from : List ℕ → ℕ → ℕ → List ℕ
starts_from c zero i = []
starts_from c (suc k) i = let rest = starts_from c k (i + 1) in cond (eqb (kind_at c i) 1) (i ∷ rest) rest

-- THE TABLES' RECORDS, in order
unfoldable pub starts_of : List ℕ → List ℕ
starts_of c = starts_from c (count_at c) 0

-- the same of n records, in an array of 32: zeros stand after them, and a 33rd is left out
unfoldable pub starts_array : List ℕ → ℕ → List ℕ
starts_array c n = put (replicate 32 0) 0 (starts_from c n 0)

-- what the layers above hold of a catalogue of n records: the first numbers of an array of 32 are its tables' records
pub record StartsAre (c : List ℕ) (n tables : ℕ) (ss : List ℕ) : Type 0 where
  pub few : tables ≤ 32
  pub slots : length ss ≡ 32
  pub are : take tables ss ≡ starts_from c n 0

-- the table of a number among these, if there is a number
unfoldable pub ref_of : List ℕ → ℕ → List ℕ → Option ℕ → Res TabRef
ref_of c n ss None = stuck
ref_of c n ss (Some j) = done (record { num = j; table = table_at c n (get_or ss j 0) })
