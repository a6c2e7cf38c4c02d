-- What the private steps of the two jobs ensure: the tree over an accepted catalogue, the tree and the answer over both files; and a result in one word.
-- Assumes nothing.
use Rattle.std.specs.Prelude.{ℕ, ◌+◌, ◌*◌, ◌%◌, ◌≡◌, List, length}
use Rattle.tree.specs.Tree.{SelectTree, size_select, tree_file}
use Rattle.run.specs.Answer.{answer_file}
use Rattle.word.specs.Refusal.{Checked, fine, refusal, and_then}
use Rattle.filter.specs.Jobs.{tree_of, answer_of, result_by, held_by, Translated, Answered}

-- the tree, or a refusal: the result, and the tree buffer o afterwards
pub record TreeGiven (x : Checked SelectTree) (o o' : List ℕ) (r : Checked ℕ) : Type 0 where
  pub says : r ≡ result_by size_select x
  pub holds : o' ≡ held_by tree_file x o

-- both, over an accepted catalogue and store
pub record BothGiven (c v : List ℕ) (k q : ℕ) (s o p o' p' : List ℕ) (r : Checked ℕ) : Type 0 where
  pub says : r ≡ result_by length (and_then (tree_of c v k q (length o)) (λ t. answer_of c s q t (length p)))
  pub tree : o' ≡ held_by tree_file (tree_of c v k q (length o)) o
  pub holds : p' ≡ held_by answer_file (and_then (tree_of c v k q (length o)) (λ t. answer_of c s q t (length p))) p

-- a result as one number for C: number + 65536 × place + 2^32 × count; accepted, number and place are 0, refused, the count is
abbrev pub word_of : Checked ℕ → ℕ
word_of (fine count) = 4294967296 * (count % 65536)
word_of (refusal number place) = number + 65536 * (place % 65536)

pub record TranslatedWord (c v : List ℕ) (k q : ℕ) (o o' : List ℕ) (w : ℕ) : Type 0 where
  pub result : Checked ℕ
  pub met : Translated c v k q o o' result
  pub is : w ≡ word_of result

pub record AnsweredWord (c v : List ℕ) (k q : ℕ) (s o p o' p' : List ℕ) (w : ℕ) : Type 0 where
  pub result : Checked ℕ
  pub met : Answered c v k q s o p o' p' result
  pub is : w ≡ word_of result
