-- The data of a value from its notes: the bytes that a record of the view gives with its note, and those of a run of records.
-- Assumes nothing.
use Rattle.std.specs.Prelude.{ℕ, ◌+◌, ◌-◌, ◌*◌, ◌/◌, ◌%◌, ◌<◌, ◌≤◌, cond, List, [], ◌∷◌, ◌++◌, eqb, length, take, drop}
use Rattle.word.specs.Record.{rec_bytes}
use Rattle.view.specs.Record.{node_at, slot_of}
use Rattle.view.specs.declared.Node.{Node}
use Rattle.view.specs.declared.Node.TheVariants.{Const, Binop, Not, If, Exists, Single, Table, Select, Col, Classof, Let, Bad}
use Rattle.tree.specs.Tree.{tree_const, encode, fold_kind, fold_op, pick_kind}

-- CONV before a record, where the top byte m of its note isn't 0
unfoldable pub mark_bytes : ℕ → List ℕ
mark_bytes m = cond (eqb m 0) [] (rec_bytes 22 m 0 0 0)

-- a name by its note: LOCAL where it has 2^48, else DATA with scopes outward, table in block, column
unfoldable pub name_bytes : ℕ → List ℕ
name_bytes w =
    cond (eqb (w / 281474976710656 % 256) 0)
    (rec_bytes 17 0 (w % 65536) (w / 65536 % 65536) (w / 4294967296 % 65536))
    (rec_bytes 20 0 (w % 65536) 0 0)

-- THE RECORD that a node of the view gives with its note; SELECT is no value's, and a bad node is none
unfoldable pub plain_bytes : Node → ℕ → List ℕ
plain_bytes (Const t x) w = encode (tree_const t x)
plain_bytes (Binop op) w = rec_bytes 7 op (w % 65536) 0 0
plain_bytes Not w = rec_bytes 8 0 0 0 0
plain_bytes If w = rec_bytes 9 0 0 0 0
plain_bytes (Exists a f) w = rec_bytes (fold_kind f) (fold_op f) a 0 0
plain_bytes (Single a g) w = rec_bytes (pick_kind g) 0 a 0 0
plain_bytes (Table name) w = rec_bytes 12 0 (w % 65536) 0 0
plain_bytes (Select a b) w = []
plain_bytes (Col name q) w = name_bytes w
plain_bytes (Classof name q) w = rec_bytes 18 0 (w % 65536) (w / 65536 % 65536) (w / 4294967296 % 65536)
plain_bytes (Let name) w = rec_bytes 23 0 0 0 0
plain_bytes Bad w = []

-- the same, with CONV before it where the note is marked
unfoldable pub record_bytes : Node → ℕ → List ℕ
record_bytes nd w = mark_bytes (w / 72057594037927936) ++ plain_bytes nd w

-- THE BYTES of a run of records of the view from record `at` on, one for each note
unfoldable pub noted_bytes : List ℕ → List ℕ → ℕ → List ℕ
noted_bytes v [] at = []
noted_bytes v (w ∷ ws) at = record_bytes (node_at v at) w ++ noted_bytes v ws (at + 1)

-- the notes of the records from `at` on, before `end`
unfoldable pub notes_in : List ℕ → ℕ → ℕ → List ℕ
notes_in ws at end = take (end - at) (drop at ws)

-- a node of a value: one that stands in a value's place or in a table's
pub record Stands (nd : Node) : Type 0 where
  pub no_bad : 1 ≤ slot_of nd
  pub no_root : slot_of nd ≤ 2

-- the records from `at` on, before `end`, are in the view and have notes, and each is one of a value
pub record Noting (v ws : List ℕ) (at end : ℕ) : Type 0 where
  pub view_long : 8 + 8 * end ≤ length v
  pub notes_long : end ≤ length ws
  pub each : (i : ℕ) → at ≤ i → i < end → Stands (node_at v i)
