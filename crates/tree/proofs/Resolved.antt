-- The value at a record where one was read: what its expression and its type are.
-- Assumes nothing.
use Prim.Native.Nat.{ℕ}
use mathlib.Core.Path.{◌≡◌}
use mathlib.Core.List.{List}
use Rattle.cell.specs.declared.Type.{«Type» as Ty}
use Rattle.catalogue.specs.Tables.{tables_from}
use Rattle.view.specs.Ast.{Exp, ok}
use Rattle.view.specs.Parse.{parse_value}
use Rattle.scope.specs.Table.{scopes_of}
use Rattle.scope.specs.declared.Scope.{Scope}
use Rattle.resolve.specs.Expr.{Expr}
use Rattle.resolve.specs.Resolve.{good, resolve}
use Rattle.resolve.specs.declared.Files.{Files}
use Rattle.tree.specs.Claims.{exp_of, expr_of, type_of, out_at, expr_at, type_at}

module _ (c v : List ℕ) (f : Files) (t : List Scope) (deep d at : ℕ) where
  pub out_is : {e : Exp} {k : ℕ} → parse_value v f.n d at ≡ ok e k
      → out_at c v f t deep d at ≡ resolve (tables_from c f.nc f.nc 0) (scopes_of c f.nc t deep) e
  unfolding out_at exp_of
  out_is h = rw h

  pub expr_is : {x : Expr} {s : Ty} → out_at c v f t deep d at ≡ good x s → expr_at c v f t deep d at ≡ x
  unfolding expr_at expr_of
  expr_is h = rw h

  pub type_is : {x : Expr} {s : Ty} → out_at c v f t deep d at ≡ good x s → type_at c v f t deep d at ≡ s
  unfolding type_at type_of
  type_is h = rw h
