-- The resolved value at a record of a view, as total functions of the bytes, and what the writers of its trees require of their caller.
-- Assumes nothing.
use Rattle.std.specs.Prelude.{ℕ, ◌+◌, ◌*◌, ◌≡◌, cond, List, []}
use Rattle.word.specs.Record.{Record, rec_bytes}
use Rattle.class.specs.declared.Info.{Info}
use Rattle.class.specs.declared.Info.TheVariants.{Fixed}
use Rattle.cell.specs.Types.{digits_of, scale_of, same_type}
use Rattle.cell.specs.declared.Type.{«Type» as Ty}
use Rattle.cell.specs.declared.Type.TheVariants as T
use Rattle.cell.specs.declared.Value.{Value}
use Rattle.cell.specs.declared.Value.TheVariants as X
use Rattle.catalogue.specs.Tables.{TabRef, tables_from}
use Rattle.view.specs.Ast.{Exp, Parsed, ok, refused, next_of}
use Rattle.view.specs.Ast as ast
use Rattle.view.specs.Parse.{names_at, parse_value}
use Rattle.view.specs.declared.Node.{Node}
use Rattle.view.specs.declared.Node.TheVariants.{Const, Binop, Not, If, Exists, Single, Table, Select, Col, Classof, Let, Bad}
use Rattle.scope.specs.Table.{scopes_of, infos_of}
use Rattle.scope.specs.Blocks.{tables_named, refs_of}
use Rattle.scope.specs.declared.Scope.{Scope}
use Rattle.scope.specs.declared.Found.{Found}
use Rattle.scope.specs.declared.Found.TheVariants as F
use Rattle.resolve.specs.Expr.{Expr}
use Rattle.resolve.specs.Expr as expr
use Rattle.resolve.specs.Resolve.{Out, good, bad, brought, resolve}
use Rattle.resolve.specs.Infos.{class_info}
use Rattle.resolve.specs.Claims.{Ready}
use Rattle.resolve.specs.declared.Asked.{Asked}
use Rattle.resolve.specs.declared.Asked.TheVariants as ask
use Rattle.resolve.specs.declared.Files.{Files}
use Rattle.tree.specs.Tree.{Tree, tree_const, tree_data, tree_cell_class, tree_local, fold_kind, fold_op, pick_kind}
use Rattle.tree.specs.Trans.{expr_data}

-- what was read; a null constant where nothing was
unfoldable pub exp_of : Parsed Exp → Exp
exp_of (ok e next) = e
exp_of (refused number place) = ast.Exp.const 0 T.Null X.Null

-- what was resolved, and its type; a null constant where it was refused
unfoldable pub expr_of : Out → Expr
expr_of (good x t) = x
expr_of (bad number place) = expr.Expr.const T.Null X.Null

unfoldable pub type_of : Out → Ty
type_of (good x t) = t
type_of (bad number place) = T.Null

-- THE VALUE AT A RECORD, with d levels left, in the scopes of t that are open: catalogue c, view v, numbers f
unfoldable pub out_at : List ℕ → List ℕ → Files → List Scope → ℕ → ℕ → ℕ → Out
out_at c v f t deep d at = resolve (tables_from c f.nc f.nc 0) (scopes_of c f.nc t deep) (exp_of (parse_value v f.n d at))

-- its expression, its type, what is known of its class, its data tree
unfoldable pub expr_at : List ℕ → List ℕ → Files → List Scope → ℕ → ℕ → ℕ → Expr
expr_at c v f t deep d at = expr_of (out_at c v f t deep d at)

unfoldable pub type_at : List ℕ → List ℕ → Files → List Scope → ℕ → ℕ → ℕ → Ty
type_at c v f t deep d at = type_of (out_at c v f t deep d at)

unfoldable pub info_at : List ℕ → List ℕ → Files → List Scope → ℕ → ℕ → ℕ → Info
info_at c v f t deep d at = class_info f.k (infos_of t deep) (expr_at c v f t deep d at)

unfoldable pub data_at : List ℕ → List ℕ → Files → List Scope → ℕ → ℕ → ℕ → Tree
data_at c v f t deep d at = expr_data (expr_at c v f t deep d at)

-- the same of a limb under IF of type r: brought to r
unfoldable pub limb_at : List ℕ → List ℕ → Files → List Scope → ℕ → ℕ → ℕ → Ty → Tree
limb_at c v f t deep d at r = expr_data (brought (type_at c v f t deep d at) r (expr_at c v f t deep d at))

-- the record after it
unfoldable pub next_at : List ℕ → Files → ℕ → ℕ → ℕ
next_at v f d at = next_of (parse_value v f.n d at)

-- AN ACCEPTED VALUE: it was read and the numbers are right (Ready), and its names and types keep their rules
pub record Accepted (c ss v : List ℕ) (f : Files) (t : List Scope) (deep d at : ℕ) : Type 0 where
  pub ready : Ready c ss v f t deep d at
  pub resolved : out_at c v f t deep d at ≡ good (expr_at c v f t deep d at) (type_at c v f t deep d at)

-- the tables that so many TABLE records name, from record `at` on, over n records of a catalogue
unfoldable pub refs_at : List ℕ → ℕ → List ℕ → ℕ → ℕ → List TabRef
refs_at c n v at count = refs_of (tables_named (tables_from c n n 0) (names_at v at count))

-- a constant's node, and its tree
pub record IsConst (nd : Node) : Type 0 where
  pub ty : Ty
  pub value : Value
  pub is : nd ≡ Const ty value

unfoldable pub const_tree : Node → Tree
const_tree (Const t x) = tree_const t x
const_tree (Binop op) = tree_const T.Null X.Null
const_tree Not = tree_const T.Null X.Null
const_tree If = tree_const T.Null X.Null
const_tree (Exists a f) = tree_const T.Null X.Null
const_tree (Single a g) = tree_const T.Null X.Null
const_tree (Table name) = tree_const T.Null X.Null
const_tree (Select a b) = tree_const T.Null X.Null
const_tree (Col name q) = tree_const T.Null X.Null
const_tree (Classof name q) = tree_const T.Null X.Null
const_tree (Let name) = tree_const T.Null X.Null
const_tree Bad = tree_const T.Null X.Null

-- the data tree of what a name finds: COL, and CLASSOF
unfoldable pub col_tree : Found → Tree
col_tree (F.Column a b c t i r) = tree_data a b c
col_tree (F.Local a t i) = tree_local a
col_tree F.None = tree_const T.Null X.Null
col_tree F.Ambiguous = tree_const T.Null X.Null

unfoldable pub class_tree : Found → Tree
class_tree (F.Column a b c t i r) = tree_cell_class a b c
class_tree (F.Local a t i) = tree_const T.Null X.Null
class_tree F.None = tree_const T.Null X.Null
class_tree F.Ambiguous = tree_const T.Null X.Null

-- the type of what a name finds; null where it finds nothing, or more than one
unfoldable pub found_type : Found → Ty
found_type (F.Column a b c t i r) = t
found_type (F.Local a t i) = t
found_type F.None = T.Null
found_type F.Ambiguous = T.Null

-- what is known of the class of what a name finds, and of its row's; 0 where it finds no such, or more than one
unfoldable pub found_info : Found → Info
found_info (F.Column a b c t i r) = i
found_info (F.Local a t i) = i
found_info F.None = Fixed 0
found_info F.Ambiguous = Fixed 0

unfoldable pub row_info : Found → Info
row_info (F.Column a b c t i r) = r
row_info (F.Local a t i) = Fixed 0
row_info F.None = Fixed 0
row_info F.Ambiguous = Fixed 0

-- the record before a limb of type s under IF of type t: CONV where they differ
unfoldable pub conv_bytes : Ty → Ty → List ℕ
conv_bytes s t = cond (same_type s t) [] (rec_bytes 22 (16 * digits_of t + scale_of t) 0 0 0)

-- the kind and the op of a block's record, by what is asked of it
unfoldable pub block_kind : Asked → ℕ
block_kind (ask.Rows f) = fold_kind f
block_kind (ask.Values g) = pick_kind g

unfoldable pub block_op : Asked → ℕ
block_op (ask.Rows f) = fold_op f
block_op (ask.Values g) = 0

-- a block's record, over so many tables
abbrev pub block_rec : Asked → ℕ → Record
block_rec asked count = record { kind = block_kind asked; op = block_op asked; a = count; b = 0; c = 0 }
