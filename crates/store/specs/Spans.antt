-- Where the rows of each table stand: found once and held in an array.
-- Assumes nothing.
use Rattle.store.specs.declared.places.Span.{Span}
use Rattle.std.specs.Prelude.{ℕ, zero, suc, map, ◌+◌, ◌*◌, ◌<◌, ◌≤◌, ◌≡◌, List, [], ◌∷◌, length}
use Rattle.word.specs.Bytes.{u16_at}
use Rattle.word.specs.Record.{kind_at}
use Rattle.catalogue.specs.Starts.{starts_from}
use Rattle.store.specs.Layout.{row_size, place_of}

-- the span of table record i, of n: the place of the first row, how many rows there are, the bytes of a row
unfoldable pub span_of : List ℕ → ℕ → List ℕ → ℕ → Span
span_of c n s i = record { first = place_of c n s i + 2; rows = u16_at s (place_of c n s i); size = row_size c n i }

abbrev pub blank : Span
blank = record { first = 0; rows = 0; size = 0 }

-- a list in an array of so many: blanks stand after it, and what is past the array is left out
unfoldable pub fill : {A : Type 0} → ℕ → A → List A → List A
fill zero d xs = []
fill (suc m) d [] = d ∷ fill m d []
fill (suc m) d (x ∷ xs) = x ∷ fill m d xs

-- THE SPANS of the tables among n records, in an array for 32 tables: blanks stand after them, and a 33rd is left out
unfoldable pub spans_of : List ℕ → ℕ → List ℕ → List Span
spans_of c n s = fill 32 blank (map (span_of c n s) (starts_from c n 0))

-- what a table's span says, whose record is i: where its rows stand, and that all of them stand inside the store
pub record IsSpan (c : List ℕ) (n : ℕ) (s : List ℕ) (i : ℕ) (span : Span) : Type 0 where
  pub below : i < n
  pub table : kind_at c i ≡ 1
  pub first : span.first ≡ place_of c n s i + 2
  pub rows : span.rows ≡ u16_at s (place_of c n s i)
  pub size : span.size ≡ row_size c n i
  pub inside : span.first + span.rows * span.size ≤ length s
