-- Trees, their size in records, and their records in prefix order.
-- Assumes nothing.
use Rattle.std.specs.Prelude.{ℕ, ◌+◌, ◌*◌, List, [], ◌∷◌, ◌++◌, length}
use Rattle.word.specs.Header.{drt, header}
use Rattle.word.specs.Record.{Record, rec_bytes}
use Rattle.cell.specs.declared.Type.{«Type» as Ty}
use Rattle.cell.specs.declared.Type.TheVariants as T
use Rattle.cell.specs.declared.Value.{Value}
use Rattle.cell.specs.declared.Value.TheVariants as X
use Rattle.view.specs.Record.{const_rec}
use Rattle.view.specs.declared.Fold.{Fold}
use Rattle.view.specs.declared.Fold.TheVariants as fold
use Rattle.view.specs.declared.Pick.{Pick}
use Rattle.view.specs.declared.Pick.TheVariants as pick

pub data Tree : Type 0 where
  tree_const : Ty → Value → Tree
  tree_binop : ℕ → ℕ → Tree → Tree → Tree
  tree_not : Tree → Tree
  tree_if : Tree → Tree → Tree → Tree
  -- EXISTS or COUNT; VALUE, MAX or MIN
  tree_exists : Fold → List ℕ → Tree → Tree
  tree_value : Pick → List ℕ → Tree → Tree → Tree
  tree_data : ℕ → ℕ → ℕ → Tree
  tree_cell_class : ℕ → ℕ → ℕ → Tree
  tree_row_class : ℕ → ℕ → Tree
  tree_local : ℕ → Tree
  tree_local_class : ℕ → Tree
  tree_conv : ℕ → ℕ → Tree → Tree
  tree_bind : Tree → Tree → Tree
  tree_bind_class : Tree → Tree → Tree → Tree
  tree_lub : Tree → Tree → Tree
  tree_dom : Tree → Tree → Tree
  tree_agg : List ℕ → Tree → Tree

-- CLASS k
abbrev pub tree_class : ℕ → Tree
tree_class k = tree_const T.Class (X.Class k)

-- SELECT: its tables, its where, b pairs of data and class
pub record SelectTree : Type 0 where
  pub tabs : List ℕ
  pub test : Tree
  pub pairs : List (Tree × Tree)

-- how many records
unfoldable pub size : Tree → ℕ
size (tree_const t v) = 1
size (tree_binop op p x y) = 1 + (size x + size y)
size (tree_not x) = 1 + size x
size (tree_if c x y) = 1 + (size c + (size x + size y))
size (tree_exists f ns w) = 1 + (length ns + size w)
size (tree_value g ns w v) = 1 + (length ns + (size w + size v))
size (tree_data a b c) = 1
size (tree_cell_class a b c) = 1
size (tree_row_class a b) = 1
size (tree_local a) = 1
size (tree_local_class a) = 1
size (tree_conv p s x) = 1 + size x
size (tree_bind v b) = 1 + (size v + size b)
size (tree_bind_class c v b) = 1 + (size c + (size v + size b))
size (tree_lub x y) = 1 + (size x + size y)
size (tree_dom x y) = 1 + (size x + size y)
size (tree_agg ns x) = 1 + (length ns + size x)

unfoldable pub size_pairs : List (Tree × Tree) → ℕ
size_pairs [] = 0
size_pairs ((d, c) ∷ ps) = size d + (size c + size_pairs ps)

unfoldable pub size_select : SelectTree → ℕ
size_select s = 1 + (length s.tabs + (size s.test + size_pairs s.pairs))

-- the record of a constant
abbrev pub rec_of : Record → List ℕ
rec_of r = rec_bytes r.kind r.op r.a r.b r.c

-- the TABLE records of a block
unfoldable pub table_recs : List ℕ → List ℕ
table_recs [] = []
table_recs (n ∷ ns) = rec_bytes 12 0 n 0 0 ++ table_recs ns

-- the kind and the op of the record of EXISTS, COUNT, VALUE, MAX, MIN
unfoldable pub fold_kind : Fold → ℕ
fold_kind fold.Any = 10
fold_kind (fold.Count p) = 28

unfoldable pub fold_op : Fold → ℕ
fold_op fold.Any = 0
fold_op (fold.Count p) = 16 * p

unfoldable pub pick_kind : Pick → ℕ
pick_kind pick.Only = 11
pick_kind pick.Greatest = 29
pick_kind pick.Least = 30

-- a tree in prefix order: a record, then its children
unfoldable pub encode : Tree → List ℕ
encode (tree_const t v) = rec_of (const_rec t v)
encode (tree_binop op p x y) = rec_bytes 7 op p 0 0 ++ (encode x ++ encode y)
encode (tree_not x) = rec_bytes 8 0 0 0 0 ++ encode x
encode (tree_if c x y) = rec_bytes 9 0 0 0 0 ++ (encode c ++ (encode x ++ encode y))
encode (tree_exists f ns w) = rec_bytes (fold_kind f) (fold_op f) (length ns) 0 0 ++ (table_recs ns ++ encode w)
encode (tree_value g ns w v) = rec_bytes (pick_kind g) 0 (length ns) 0 0 ++ (table_recs ns ++ (encode w ++ encode v))
encode (tree_data a b c) = rec_bytes 17 0 a b c
encode (tree_cell_class a b c) = rec_bytes 18 0 a b c
encode (tree_row_class a b) = rec_bytes 19 0 a b 0
encode (tree_local a) = rec_bytes 20 0 a 0 0
encode (tree_local_class a) = rec_bytes 21 0 a 0 0
encode (tree_conv p s x) = rec_bytes 22 (16 * p + s) 0 0 0 ++ encode x
encode (tree_bind v b) = rec_bytes 23 0 0 0 0 ++ (encode v ++ encode b)
encode (tree_bind_class c v b) = rec_bytes 24 0 0 0 0 ++ (encode c ++ (encode v ++ encode b))
encode (tree_lub x y) = rec_bytes 25 0 0 0 0 ++ (encode x ++ encode y)
encode (tree_dom x y) = rec_bytes 26 0 0 0 0 ++ (encode x ++ encode y)
encode (tree_agg ns x) = rec_bytes 27 0 (length ns) 0 0 ++ (table_recs ns ++ encode x)

unfoldable pub encode_pairs : List (Tree × Tree) → List ℕ
encode_pairs [] = []
encode_pairs ((d, c) ∷ ps) = encode d ++ (encode c ++ encode_pairs ps)

unfoldable pub encode_select : SelectTree → List ℕ
encode_select s =
    rec_bytes 13 0 (length s.tabs) (length s.pairs) 0 ++ (table_recs s.tabs ++ (encode s.test ++ encode_pairs s.pairs))

-- THE TREE'S FILE: header and records
unfoldable pub tree_file : SelectTree → List ℕ
tree_file s = header drt (size_select s) ++ encode_select s
