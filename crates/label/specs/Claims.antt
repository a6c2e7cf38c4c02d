-- What the writers of classes say of a record: its class, as a total function of the files' bytes.
-- Assumes nothing.
use Rattle.std.specs.Prelude.{ℕ, ◌≡◌, List}
use Rattle.class.specs.declared.Info.TheVariants.{Bound}
use Rattle.view.specs.Record.{node_at}
use Rattle.view.specs.declared.Node.TheVariants.{Binop}
use Rattle.scope.specs.Table.{infos_of}
use Rattle.scope.specs.declared.Scope.{Scope}
use Rattle.resolve.specs.declared.Files.{Files}
use Rattle.tree.specs.Trans.{expr_class, Class, info_of}
use Rattle.tree.specs.Claims.{expr_at}

-- THE CLASS of the value at a record
unfoldable pub class_at : List ℕ → List ℕ → Files → List Scope → ℕ → ℕ → ℕ → Class
class_at c v f t deep d at = expr_class f.k (infos_of t deep) (expr_at c v f t deep d at)

-- a class that is a tree
pub record IsTree (i : Class) : Type 0 where
  pub upper : ℕ
  pub is : info_of i ≡ Bound upper

-- BINOP stands at a record
pub record IsBinop (v : List ℕ) (at : ℕ) : Type 0 where
  pub op : ℕ
  pub is : node_at v at ≡ Binop op
