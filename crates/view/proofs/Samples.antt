-- Worked views, as one table: each refusal, depth 16 and 17, and the view that the filter's program is shown with. The definitions compute.
-- Assumes nothing.
use Prim.Native.Nat.{ℕ, zero, suc}
use mathlib.Core.Path.{◌≡◌, refl}
use mathlib.Core.List.{List, [], ◌∷◌, ◌++◌}
use lib.ListN.{length}
use Rattle.word.specs.Bytes.{signed32, le16}
use Rattle.word.specs.Refusal.{Checked, fine, refusal}
use Rattle.word.specs.Header.{drq, drc, headed, header}
use Rattle.word.specs.Record.{rec_at, rec_bytes}
use Rattle.cell.specs.Types.{digits_rule}
use Rattle.view.specs.Ast.{Block, ok, and_then, first_of}
use Rattle.view.specs.Ast as ast
use Rattle.view.specs.Record.{const_of, node_of, node_at, slot_of}
use Rattle.view.specs.Parse.{enter_node, enter, many, name_of, parse_table, parse_block, parse_node, parse_value, root_node, parse_root, parse_view, place_of, check_of}

-- the bytes of records, and a view of them
bytes : List (List ℕ) → List ℕ
bytes [] = []
bytes (r ∷ rs) = r ++ bytes rs

view : List (List ℕ) → List ℕ
view rs = header drq (length rs) ++ bytes rs

-- SELECT of one table and one value, TABLE 7, COL 20, NOT, a FIXED of two digits
select : List ℕ
select = rec_bytes 13 0 1 1 0

table : List ℕ
table = rec_bytes 12 0 7 0 0

col : List ℕ
col = rec_bytes 14 0 20 0 0

neg : List ℕ
neg = rec_bytes 8 0 0 0 0

fixed : ℕ → List ℕ
fixed m = rec_bytes 3 33 0 m 0

-- NOT, so many times, before other records
nots : ℕ → List (List ℕ) → List (List ℕ)
nots zero rs = rs
nots (suc k) rs = neg ∷ nots k rs

-- the worked view: two values, of which one is a CLASSOF
worked : List ℕ
worked = view (rec_bytes 13 0 1 2 0 ∷ table ∷ rec_bytes 14 0 21 0 0 ∷ col ∷ rec_bytes 15 0 21 0 0 ∷ [])

views : List (List ℕ)
views =
    []
    ∷ (header drc 1 ++ bytes (select ∷ []))
    ∷ (drq ++ (le16 2 ++ (le16 1 ++ bytes (select ∷ []))))
    ∷ view []
    ∷ (header drq 2 ++ bytes (select ∷ []))
    ∷ view (rec_bytes 17 0 0 0 0 ∷ [])
    ∷ view (rec_bytes 13 0 5 1 0 ∷ [])
    ∷ view (rec_bytes 13 0 1 33 0 ∷ [])
    ∷ view (select ∷ rec_bytes 12 0 0 0 0 ∷ [])
    ∷ view (select ∷ table ∷ rec_bytes 7 13 0 0 0 ∷ [])
    ∷ view (select ∷ table ∷ col ∷ fixed 100 ∷ [])
    ∷ view (select ∷ table ∷ col ∷ fixed 99 ∷ [])
    ∷ view (col ∷ [])
    ∷ view (select ∷ col ∷ [])
    ∷ view (select ∷ table ∷ select ∷ [])
    ∷ view (select ∷ table ∷ col ∷ [])
    ∷ view (select ∷ table ∷ col ∷ col ∷ rec_bytes 17 0 0 0 0 ∷ [])
    ∷ view (select ∷ table ∷ nots 14 (col ∷ col ∷ []))
    ∷ view (select ∷ table ∷ nots 15 (col ∷ col ∷ []))
    ∷ worked
    ∷ []

check_all : List (List ℕ) → List (Checked ℕ)
check_all [] = []
check_all (v ∷ vs) = check_of v ∷ check_all vs

-- THE TABLE
worked_views : check_all views ≡
    refusal 1 0
    ∷ refusal 1 0
    ∷ refusal 1 0
    ∷ refusal 2 0
    ∷ refusal 2 0
    ∷ refusal 3 0
    ∷ refusal 3 0
    ∷ refusal 3 0
    ∷ refusal 3 1
    ∷ refusal 3 2
    ∷ refusal 3 3
    ∷ fine 4
    ∷ refusal 4 0
    ∷ refusal 4 1
    ∷ refusal 4 2
    ∷ refusal 4 3
    ∷ refusal 4 4
    ∷ fine 18
    ∷ refusal 5 17
    ∷ fine 5
    ∷ []
unfolding bytes view select table col neg fixed nots worked views check_all signed32 le16 headed header rec_at rec_bytes digits_rule and_then first_of const_of node_of node_at slot_of enter_node enter many name_of parse_table parse_block parse_node parse_value root_node parse_root parse_view place_of check_of
worked_views = refl

-- the worked view's syntax tree
tree : Block
tree = record {
  tables = record { at = 1; name = 7 } ∷ [];
  test = ast.Exp.col 2 21 0;
  values = ast.Exp.col 3 20 0 ∷ ast.Exp.classof 4 21 0 ∷ [];
}

worked_tree : parse_view worked ≡ ok tree 5
unfolding bytes view table col worked tree le16 headed header rec_at rec_bytes and_then const_of node_of node_at slot_of enter_node enter many name_of parse_table parse_block parse_node parse_value root_node parse_root parse_view
worked_tree = refl
