-- What stands at the start of a case: 26 bytes, numbers lowest byte first.
-- Assumes nothing.
use Rattle.std.specs.Prelude.{ℕ, cond, List, Option, Some, None, ltb, length}
use Rattle.word.specs.Bytes.{u16_at, u32_at}
use Rattle.cases.specs.declared.Case.{Case}

-- the job, k and q (16 bits each), the lengths of the two lent buffers, those of catalogue, view and store (32 bits each)
unfoldable pub case_of : List ℕ → Case
case_of h =
    record {
      job = u16_at h 0;
      k = u16_at h 2;
      q = u16_at h 4;
      tree = u32_at h 6;
      answer = u32_at h 10;
      cat = u32_at h 14;
      view = u32_at h 18;
      store = u32_at h 22;
    }

-- a case, or the end where fewer bytes are left
unfoldable pub opening_of : List ℕ → Option Case
opening_of h = cond (ltb (length h) 26) None (Some (case_of h))
