-- What a line of a text is, and which number of 16 bits a part of it says.
-- Assumes nothing.
use Rattle.std.specs.Prelude.{ℕ, zero, suc, ◌+◌, ◌-◌, ◌*◌, ◌≤◌, ◌≡◌, min, Option, Some, None, Bool, cond, ◌&&◌, List, [], ◌∷◌, eqb, ltb, leb, length, get_or, take, drop}
use Rattle.std.specs.List.{list_all, position_or_len}
use Rattle.lines.specs.declared.Line.{Line}

-- the first line end (byte 10) at a place or after it, or the end
unfoldable pub line_end : List ℕ → ℕ → ℕ
line_end text at = at + position_or_len (λ b. eqb b 10) (drop at text)

-- the start of the line that stands so many lines after the one at a place: a line starts after the line end before it;
-- past the last line there are empty ones at the end
unfoldable pub line_start : List ℕ → ℕ → ℕ → ℕ
line_start text zero at = at
line_start text (suc j) at = line_start text j (min (line_end text at + 1) (length text))

-- where the text of a line from start to end stops: a carriage return (byte 13) at its end is no part of it
unfoldable pub line_close : List ℕ → ℕ → ℕ → ℕ
line_close text start end = cond (ltb start end && eqb (get_or text (end - 1) 0) 13) (end - 1) end

-- the part of a text where a line stands
abbrev pub part_of : List ℕ → Line → List ℕ
part_of text l = take (l.end - l.start) (drop l.start text)

-- line number j of a text, counted from 0
unfoldable pub line_of : List ℕ → ℕ → Line
line_of text j =
    record { start = line_start text j 0; end = line_close text (line_start text j 0) (line_end text (line_start text j 0)) }

-- its text
unfoldable pub line_text : List ℕ → ℕ → List ℕ
line_text text j = part_of text (line_of text j)

-- what is promised of line number j: which it is, and that it is a part of the text
pub record Within (text : List ℕ) (j : ℕ) (r : Line) : Type 0 where
  pub is : r ≡ line_of text j
  pub ordered : r.start ≤ r.end
  pub inside : r.end ≤ length text

-- a decimal digit
abbrev pub is_digit : ℕ → Bool
is_digit b = leb 48 b && leb b 57

-- the value of digits that follow a value
unfoldable pub value_from : ℕ → List ℕ → ℕ
value_from v [] = v
value_from v (b ∷ s) = value_from (10 * v + b - 48) s

-- the number, where all was digits and its value has 16 bits
abbrev pub number_by : Bool → ℕ → Option ℕ
number_by good v = cond (good && ltb v 65536) (Some v) None

-- the number that a text says: digits alone, at least one, and at most 65535
unfoldable pub number_of : List ℕ → Option ℕ
number_of s = number_by (ltb 0 (length s) && list_all is_digit s) (value_from 0 s)
