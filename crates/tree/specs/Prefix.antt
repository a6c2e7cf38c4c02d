-- The prefix order read back: a record, then its children, from the front of the bytes, with a depth that falls.
-- Assumes nothing.
use Rattle.std.specs.Prelude.{ℕ, zero, suc, ◌+◌, ◌/◌, ◌%◌, ◌<◌, max, ◌≡◌, cond, List, [], ◌∷◌, eqb, leb, length, get_or, drop}
use Rattle.word.specs.Bytes.{u16_at, within}
use Rattle.word.specs.Record.{Record}
use Rattle.cell.specs.Res.{Res, stuck, done, bind}
use Rattle.view.specs.Record.{const_of, const_rec}
use Rattle.view.specs.declared.Fold.TheVariants as fold
use Rattle.view.specs.declared.Pick.TheVariants as pick
use Rattle.view.specs.declared.Node.{Node}
use Rattle.view.specs.declared.Node.TheVariants.{Const, Binop, Not, If, Exists, Single, Table, Select, Col, Classof, Let, Bad}
use Rattle.tree.specs.Tree.{Tree, tree_const, tree_binop, tree_not, tree_if, tree_exists, tree_value, tree_data, tree_cell_class, tree_row_class, tree_local, tree_local_class, tree_conv, tree_bind, tree_bind_class, tree_lub, tree_dom, tree_agg}

-- what a reader gives: a thing, and the bytes after it
abbrev pub Read : Type 0 → Type 0
Read A = List ℕ → Res (A × List ℕ)

-- a record of eight bytes
unfoldable pub front : Read Record
front xs =
    cond (leb 8 (length xs))
    (done (record { kind = get_or xs 0 0; op = get_or xs 1 0; a = u16_at xs 2; b = u16_at xs 4; c = u16_at xs 6 }, drop 8 xs))
    stuck

-- so many TABLE records
unfoldable pub table_in : Record → Res ℕ
table_in r = cond (eqb r.kind 12) (done r.a) stuck

unfoldable pub read_tables : ℕ → Read (List ℕ)
read_tables zero xs = done ([], xs)
read_tables (suc n) xs = bind (front xs) (λ r. bind (table_in r.0) (λ t. bind (read_tables n r.1) (λ ts. done (t ∷ ts.0, ts.1))))

-- what a record says of a tree: a leaf, or what it makes of one, two, three children; of so many tables and one or two children; or nothing
pub data Form : Type 0 where
  leaf : Tree → Form
  one : (Tree → Tree) → Form
  two : (Tree → Tree → Tree) → Form
  three : (Tree → Tree → Tree → Tree) → Form
  block : ℕ → (List ℕ → Tree → Tree) → Form
  valued : ℕ → (List ℕ → Tree → Tree → Tree) → Form
  nothing : Form

-- kinds 1 to 6 keep their meaning
unfoldable pub const_form : Node → Form
const_form (Const t x) = leaf (tree_const t x)
const_form (Binop op) = nothing
const_form Not = nothing
const_form If = nothing
const_form (Exists a f) = nothing
const_form (Single a g) = nothing
const_form (Table name) = nothing
const_form (Select a b) = nothing
const_form (Col name q) = nothing
const_form (Classof name q) = nothing
const_form (Let name) = nothing
const_form Bad = nothing

unfoldable pub form_of : Record → Form
form_of r =
    cond (within 1 6 r.kind) (const_form (const_of r))
    (cond (eqb r.kind 7) (two (tree_binop r.op r.a))
    (cond (eqb r.kind 8) (one tree_not)
    (cond (eqb r.kind 9) (three tree_if)
    (cond (eqb r.kind 10) (block r.a (tree_exists fold.Any))
    (cond (eqb r.kind 11) (valued r.a (tree_value pick.Only))
    (cond (eqb r.kind 17) (leaf (tree_data r.a r.b r.c))
    (cond (eqb r.kind 18) (leaf (tree_cell_class r.a r.b r.c))
    (cond (eqb r.kind 19) (leaf (tree_row_class r.a r.b))
    (cond (eqb r.kind 20) (leaf (tree_local r.a))
    (cond (eqb r.kind 21) (leaf (tree_local_class r.a))
    (cond (eqb r.kind 22) (one (tree_conv (r.op / 16) (r.op % 16)))
    (cond (eqb r.kind 23) (two tree_bind)
    (cond (eqb r.kind 24) (three tree_bind_class)
    (cond (eqb r.kind 25) (two tree_lub)
    (cond (eqb r.kind 26) (two tree_dom)
    (cond (eqb r.kind 27) (block r.a tree_agg)
    (cond (eqb r.kind 28) (block r.a (tree_exists (fold.Count (r.op / 16))))
    (cond (eqb r.kind 29) (valued r.a (tree_value pick.Greatest))
    (cond (eqb r.kind 30) (valued r.a (tree_value pick.Least))
    nothing)))))))))))))))))))

-- the children, given their reader
unfoldable pub read_form : Read Tree → Form → Read Tree
read_form f (leaf t) xs = done (t, xs)
read_form f (one g) xs = bind (f xs) (λ x. done (g x.0, x.1))
read_form f (two g) xs = bind (f xs) (λ x. bind (f x.1) (λ y. done (g x.0 y.0, y.1)))
read_form f (three g) xs = bind (f xs) (λ x. bind (f x.1) (λ y. bind (f y.1) (λ z. done (g x.0 y.0 z.0, z.1))))
read_form f (block n g) xs = bind (read_tables n xs) (λ ts. bind (f ts.1) (λ x. done (g ts.0 x.0, x.1)))
read_form f (valued n g) xs =
    bind (read_tables n xs) (λ ts. bind (f ts.1) (λ x. bind (f x.1) (λ y. done (g ts.0 x.0 y.0, y.1))))
read_form f nothing xs = stuck

-- A TREE from the front of the bytes
unfoldable pub decode : ℕ → Read Tree
decode zero xs = stuck
decode (suc d) xs = bind (front xs) (λ r. read_form (decode d) (form_of r.0) r.1)

-- the levels below a tree's root
unfoldable pub height : Tree → ℕ
height (tree_const t v) = 0
height (tree_binop op p x y) = 1 + max (height x) (height y)
height (tree_not x) = 1 + height x
height (tree_if c x y) = 1 + max (height c) (max (height x) (height y))
height (tree_exists f ns w) = 1 + height w
height (tree_value g ns w v) = 1 + max (height w) (height v)
height (tree_data a b c) = 0
height (tree_cell_class a b c) = 0
height (tree_row_class a b) = 0
height (tree_local a) = 0
height (tree_local_class a) = 0
height (tree_conv p s x) = 1 + height x
height (tree_bind v b) = 1 + max (height v) (height b)
height (tree_bind_class c v b) = 1 + max (height c) (max (height v) (height b))
height (tree_lub x y) = 1 + max (height x) (height y)
height (tree_dom x y) = 1 + max (height x) (height y)
height (tree_agg ns x) = 1 + height x

-- what a tree has to keep so that its records say it: a constant's record says the constant, 16p+s says p and s
unfoldable pub Fits : Tree → Type 0
Fits (tree_const t v) = const_of (const_rec t v) ≡ Const t v
Fits (tree_binop op p x y) = Fits x × Fits y
Fits (tree_not x) = Fits x
Fits (tree_if c x y) = Fits c × Fits x × Fits y
Fits (tree_exists f ns w) = Fits w
Fits (tree_value g ns w v) = Fits w × Fits v
Fits (tree_data a b c) = Unit {0}
Fits (tree_cell_class a b c) = Unit {0}
Fits (tree_row_class a b) = Unit {0}
Fits (tree_local a) = Unit {0}
Fits (tree_local_class a) = Unit {0}
Fits (tree_conv p s x) = (s < 16) × Fits x
Fits (tree_bind v b) = Fits v × Fits b
Fits (tree_bind_class c v b) = Fits c × Fits v × Fits b
Fits (tree_lub x y) = Fits x × Fits y
Fits (tree_dom x y) = Fits x × Fits y
Fits (tree_agg ns x) = Fits x
