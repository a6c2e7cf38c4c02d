-- What a record of a view says: one node for each kind, with the fields that the kind has. A field that isn't named is zero.
-- Assumes nothing.
use Rattle.std.specs.Prelude.{ℕ, ◌+◌, ◌*◌, ◌/◌, ◌%◌, Bool, true, false, not, cond, ◌&&◌, List, eqb, leb, ℤ, nat_abs, Option, Some, None}
use Rattle.word.specs.Bytes.{signed32, bits32, within}
use Rattle.word.specs.Record.{Record, rec_at}
use Rattle.cell.specs.Types.{digits_rule}
use Rattle.cell.specs.Values.{digits, number_in}
use Rattle.cell.specs.declared.Type.{«Type» as Ty}
use Rattle.cell.specs.declared.Type.TheVariants as T
use Rattle.cell.specs.declared.Value.{Value}
use Rattle.cell.specs.declared.Value.TheVariants as X
use Rattle.view.specs.declared.Fold.TheVariants as fold
use Rattle.view.specs.declared.Pick.TheVariants as pick
use Rattle.view.specs.declared.Shape.{Shape}
use Rattle.view.specs.declared.Shape.TheVariants as shape
use Rattle.view.specs.declared.Node.{Node}
use Rattle.view.specs.declared.Node.TheVariants.{Const, Binop, Not, If, Exists, Single, Table, Select, Col, Classof, Let, Bad}

-- the node where its fields keep their rule
abbrev pub when : Bool → Node → Node
when true x = x
when false x = Bad

-- op and a, b, c are zero where they aren't named
abbrev pub bare : Record → Bool
bare r = (eqb r.op 0 && eqb r.a 0) && (eqb r.b 0 && eqb r.c 0)

abbrev pub op_only : Record → Bool
op_only r = eqb r.a 0 && (eqb r.b 0 && eqb r.c 0)

abbrev pub a_only : Record → Bool
a_only r = eqb r.op 0 && (eqb r.b 0 && eqb r.c 0)

-- COUNT's op: 16p+0, p is 1 to 9
abbrev pub counts : Record → Bool
counts r = (leb 1 (r.op / 16) && leb (r.op / 16) 9) && (eqb (r.op % 16) 0 && (eqb r.b 0 && eqb r.c 0))

-- a signed value: low half b, high half c
abbrev pub value_in : Record → ℤ
value_in r = signed32 (r.b + 65536 * r.c)

-- 1 NULL, 2 BOOL op 0/1, 3 FIXED op 16p+s with |value| below 10^p, 4 TIME and 5 INTERVAL op format, 6 CLASS a
unfoldable pub const_of : Record → Node
const_of r =
    cond (eqb r.kind 1) (when (bare r) (Const T.Null X.Null))
    (cond (eqb r.kind 2) (when (leb r.op 1 && op_only r) (Const T.Boolean (X.Truth (eqb r.op 1))))
    (cond (eqb r.kind 3)
    (when (eqb r.a 0 && (digits_rule (r.op / 16) (r.op % 16) && digits (r.op / 16) (value_in r)))
    (Const (T.Fixed (r.op / 16) (r.op % 16)) (X.Fixed (r.op % 16) (value_in r))))
    (cond (eqb r.kind 4) (when (eqb r.a 0) (Const (T.Time r.op) (X.Time (value_in r))))
    (cond (eqb r.kind 5) (when (eqb r.a 0) (Const (T.Interval r.op) (X.Interval (value_in r))))
    (when (a_only r) (Const T.Class (X.Class r.a)))))))

-- THE NODE of a record: 7 BINOP op, 8 NOT, 9 IF, 10 EXISTS a tables, 11 VALUE a tables, 12 TABLE a name, 13 SELECT a tables b values,
-- 14 COL a column b table or 0, 15 CLASSOF the same, 16 LET a name; 28 COUNT a tables op 16p, 29 MAX a tables, 30 MIN a tables
unfoldable pub node_of : Record → Node
node_of r =
    cond (within 1 6 r.kind) (const_of r)
    (cond (eqb r.kind 7) (when (within 1 12 r.op && op_only r) (Binop r.op))
    (cond (eqb r.kind 8) (when (bare r) Not)
    (cond (eqb r.kind 9) (when (bare r) If)
    (cond (eqb r.kind 10) (when (within 1 4 r.a && a_only r) (Exists r.a fold.Any))
    (cond (eqb r.kind 11) (when (within 1 4 r.a && a_only r) (Single r.a pick.Only))
    (cond (eqb r.kind 12) (when (leb 1 r.a && a_only r) (Table r.a))
    (cond (eqb r.kind 13) (when ((within 1 4 r.a && within 1 32 r.b) && (eqb r.op 0 && eqb r.c 0)) (Select r.a r.b))
    (cond (eqb r.kind 14) (when (leb 1 r.a && (eqb r.op 0 && eqb r.c 0)) (Col r.a r.b))
    (cond (eqb r.kind 15) (when (leb 1 r.a && (eqb r.op 0 && eqb r.c 0)) (Classof r.a r.b))
    (cond (eqb r.kind 16) (when (leb 1 r.a && a_only r) (Let r.a))
    (cond (eqb r.kind 28) (when (within 1 4 r.a && counts r) (Exists r.a (fold.Count (r.op / 16))))
    (cond (eqb r.kind 29) (when (within 1 4 r.a && a_only r) (Single r.a pick.Greatest))
    (cond (eqb r.kind 30) (when (within 1 4 r.a && a_only r) (Single r.a pick.Least))
    Bad)))))))))))))

-- the node of record i of a view
unfoldable pub node_at : List ℕ → ℕ → Node
node_at v i = node_of (rec_at v i)

-- where a node may stand: 1 a value's place, 2 a table's, 3 the root's; 0 nowhere
unfoldable pub slot_of : Node → ℕ
slot_of (Table name) = 2
slot_of (Select a b) = 3
slot_of Bad = 0
slot_of node = 1

-- whether a record says a node: its kind is known and its fields keep the kind's rule
unfoldable pub in_rule : Record → Bool
in_rule r = not (eqb (slot_of (node_of r)) 0)

-- what follows the record of a value: so many values, or a block; TABLE, SELECT and a bad record are no values
unfoldable pub shape_of : Node → Option Shape
shape_of (Const t v) = Some (shape.Values 0)
shape_of (Col name q) = Some (shape.Values 0)
shape_of (Classof name q) = Some (shape.Values 0)
shape_of Not = Some (shape.Values 1)
shape_of (Binop op) = Some (shape.Values 2)
shape_of (Let name) = Some (shape.Values 2)
shape_of If = Some (shape.Values 3)
shape_of (Exists a f) = Some (shape.Block a 0)
shape_of (Single a g) = Some (shape.Block a 1)
shape_of node = None

-- a record of these fields
abbrev pub rec : ℕ → ℕ → ℕ → ℕ → ℕ → Record
rec k o x y z = record { kind = k; op = o; a = x; b = y; c = z }

-- the record with a signed value: low half b, high half c
abbrev pub signed_rec : ℕ → ℕ → ℤ → Record
signed_rec k o m = rec k o 0 (bits32 m % 65536) (bits32 m / 65536)

-- THE RECORD of a constant, by its type
unfoldable pub const_rec : Ty → Value → Record
const_rec T.Null v = rec 1 0 0 0 0
const_rec T.Boolean v = rec 2 (nat_abs (number_in v)) 0 0 0
const_rec (T.Fixed p s) v = signed_rec 3 (16 * p + s) (number_in v)
const_rec (T.Time f) v = signed_rec 4 f (number_in v)
const_rec (T.Interval f) v = signed_rec 5 f (number_in v)
const_rec T.Class v = rec 6 0 (nat_abs (number_in v)) 0 0
