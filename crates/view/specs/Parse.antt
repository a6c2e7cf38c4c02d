-- The parser of a view (1 to 5): from its bytes to its syntax tree, or to the refusal's number and place.
-- Records in order, 3 before 4 before 5 at one record; after the root's end only 4; a tree that ends early is 4 at n. Assumes nothing.
use Rattle.std.specs.Prelude.{ℕ, zero, suc, ◌+◌, ◌*◌, cond, ◌&&◌, List, [], ◌∷◌, length, eqb, ltb}
use Rattle.word.specs.Bytes.{within}
use Rattle.word.specs.Refusal.{Checked, fine, refusal}
use Rattle.word.specs.Header.{drq, headed, count_at}
use Rattle.view.specs.Record.{node_at, slot_of}
use Rattle.view.specs.Ast.{TabName, Exp, Block, first_of, Parsed, ok, refused, and_then}
use Rattle.view.specs.Ast as ast
use Rattle.view.specs.declared.Node.{Node}
use Rattle.view.specs.declared.Node.TheVariants.{Const, Binop, Not, If, Exists, Single, Table, Select, Col, Classof, Let, Bad}

-- the node of record at, if it may stand in this slot: 3 before 4
unfoldable pub enter_node : ℕ → ℕ → Node → Parsed Node
enter_node slot at node =
    cond (eqb (slot_of node) 0) (refused 3 at)
    (cond (eqb (slot_of node) slot) (ok node (at + 1)) (refused 4 at))

-- the same, of the view v with n records; past the last record the tree ends early
unfoldable pub enter : List ℕ → ℕ → ℕ → ℕ → Parsed Node
enter v n slot at = let here = enter_node slot at (node_at v at) in cond (ltb at n) here (refused 4 n)

-- p, count times
unfoldable pub many : {A : Type 0} → (ℕ → Parsed A) → ℕ → ℕ → Parsed (List A)
many p zero at = ok [] at
many p (suc count) at = and_then (p at) (λ x next. and_then (many p count next) (λ xs end. ok (x ∷ xs) end))

-- the name of a TABLE
unfoldable pub name_of : Node → ℕ
name_of (Table name) = name
name_of node = 0

-- the names of so many TABLE records, from a place on
unfoldable pub names_at : List ℕ → ℕ → ℕ → List TabName
names_at v at zero = []
names_at v at (suc count) = record { at = at; name = name_of (node_at v at) } ∷ names_at v (at + 1) count

-- a TABLE record, with depth levels left
unfoldable pub parse_table : List ℕ → ℕ → ℕ → ℕ → Parsed TabName
parse_table v n depth at =
    and_then (enter v n 2 at) (λ node next.
    cond (eqb depth 0) (refused 5 at) (ok (record { at = at; name = name_of node }) next))

-- a block's tables, its where and its values, given the parser of values
unfoldable pub parse_block : List ℕ → ℕ → ℕ → (ℕ → Parsed Exp) → ℕ → ℕ → ℕ → Parsed Block
parse_block v n depth value tables values at =
    and_then (many (parse_table v n depth) tables at) (λ ts a.
    and_then (value a) (λ w b.
    and_then (many value values b) (λ vs c.
    ok (record { tables = ts; test = w; values = vs }) c)))

-- a value whose node is known, given the parser of values one level down
unfoldable pub parse_node : List ℕ → ℕ → ℕ → (ℕ → Parsed Exp) → ℕ → Node → Parsed Exp
parse_node v n depth value at (Const t x) = ok (ast.Exp.const at t x) (at + 1)
parse_node v n depth value at (Binop op) =
    and_then (value (at + 1)) (λ l a. and_then (value a) (λ r b. ok (ast.Exp.binop at op l r) b))
parse_node v n depth value at Not = and_then (value (at + 1)) (λ e a. ok (ast.Exp.neg at e) a)
parse_node v n depth value at If =
    and_then (value (at + 1)) (λ c a. and_then (value a) (λ l b. and_then (value b) (λ r d. ok (ast.Exp.if at c l r) d)))
parse_node v n depth value at (Exists tables f) =
    and_then (parse_block v n depth value tables 0 (at + 1)) (λ b next. ok (ast.Exp.exists at f b.tables b.test) next)
parse_node v n depth value at (Single tables g) =
    and_then (parse_block v n depth value tables 1 (at + 1)) (λ b next. ok (ast.Exp.single at g b.tables b.test (first_of b.values)) next)
parse_node v n depth value at (Table name) = refused 4 at
parse_node v n depth value at (Select tables values) = refused 4 at
parse_node v n depth value at (Col name q) = ok (ast.Exp.col at name q) (at + 1)
parse_node v n depth value at (Classof name q) = ok (ast.Exp.classof at name q) (at + 1)
parse_node v n depth value at (Let name) =
    and_then (value (at + 1)) (λ e a. and_then (value a) (λ b c. ok (ast.Exp.letin at name e b) c))
parse_node v n depth value at Bad = refused 3 at

-- a value, with depth levels left
unfoldable pub parse_value : List ℕ → ℕ → ℕ → ℕ → Parsed Exp
parse_value v n zero at = and_then (enter v n 1 at) (λ node next. refused 5 at)
parse_value v n (suc depth) at = and_then (enter v n 1 at) (λ node next. parse_node v n depth (parse_value v n depth) at node)

-- the root's node: SELECT, at depth 1 of 16
unfoldable pub root_node : List ℕ → ℕ → Node → Parsed Block
root_node v n (Select tables values) = parse_block v n 15 (parse_value v n 15) tables values 1
root_node v n node = refused 4 0

-- the whole tree of n records: nothing may follow the root's end
unfoldable pub parse_root : List ℕ → ℕ → Parsed Block
parse_root v n =
    and_then (enter v n 3 0) (λ node next.
    and_then (root_node v n node) (λ b end.
    cond (eqb end n) (ok b end) (refused 4 end)))

-- THE VIEW: header (1), count and length (2), tree (3 to 5)
unfoldable pub parse_view : List ℕ → Parsed Block
parse_view v =
    let whole = parse_root v (count_at v) in
    cond (headed drq v)
    (cond (within 1 1024 (count_at v) && eqb (length v) (8 + 8 * count_at v)) whole (refused 2 0))
    (refused 1 0)

-- the node of record at of n records: past the last one the view ends early, and a bad one is refused
unfoldable pub peek_of : List ℕ → ℕ → ℕ → Checked Node
peek_of v n at = cond (ltb at n) (cond (eqb (slot_of (node_at v at)) 0) (refusal 3 at) (fine (node_at v at))) (refusal 4 n)

-- what a parser's answer says but for the tree: the number of the next record, or the refusal
unfoldable pub place_of : {A : Type 0} → Parsed A → Checked ℕ
place_of (ok a next) = fine next
place_of (refused number place) = refusal number place

-- THE CHECK
unfoldable pub check_of : List ℕ → Checked ℕ
check_of v = place_of (parse_view v)
