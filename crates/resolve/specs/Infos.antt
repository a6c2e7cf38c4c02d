-- What is known of an expression's class without building its tree: fixed, or a bound. k is the class of the view's constants;
-- is has what is known of each open scope's local, innermost first. Assumes nothing.
use Rattle.std.specs.Prelude.{ℕ, List, [], ◌∷◌, ◌++◌, map, get_or}
use Rattle.class.specs.Class.{lub_all}
use Rattle.class.specs.Info.{bound_of, join_i, joins_i, choice_i}
use Rattle.class.specs.declared.Info.{Info}
use Rattle.class.specs.declared.Info.TheVariants.{Fixed, Bound}
use Rattle.catalogue.specs.Tables.{TabRef}
use Rattle.resolve.specs.Expr.{Expr}
use Rattle.resolve.specs.Expr as expr

-- the lub of the tables' classes
abbrev pub table_class : List TabRef → ℕ
table_class ts = lub_all (map (λ t. t.table.tclass) ts)

-- several from the left
unfoldable pub join_all_i : List Info → Info
join_all_i [] = Fixed 0
join_all_i (i ∷ is) = joins_i i is

-- a block: the row classes in order, then what else is read at a row. AGG is a tree even over a fixed class; joined with the tables' classes
unfoldable pub block_i : List TabRef → List Info → Info
block_i ts is = join_i (Bound (bound_of (join_all_i (map (λ t. t.table.row) ts ++ is)))) (Fixed (table_class ts))

unfoldable pub class_info : ℕ → List Info → Expr → Info
class_info k is (expr.Expr.const t v) = Fixed k
class_info k is (expr.Expr.col a b c i) = i
class_info k is (expr.Expr.classof a b c i) = i
class_info k is (expr.Expr.local a) = get_or is a (Fixed 0)
class_info k is (expr.Expr.bin op p x y) = join_i (class_info k is x) (class_info k is y)
class_info k is (expr.Expr.neg x) = class_info k is x
class_info k is (expr.Expr.conv p s x) = class_info k is x
class_info k is (expr.Expr.if c x y) = join_i (class_info k is c) (choice_i (class_info k is x) (class_info k is y))
class_info k is (expr.Expr.letin x y) = class_info k (class_info k is x ∷ is) y
class_info k is (expr.Expr.exists f ts w) = block_i ts (class_info k (Fixed 0 ∷ is) w ∷ [])
class_info k is (expr.Expr.single g ts w v) =
    block_i ts (class_info k (Fixed 0 ∷ is) w ∷ choice_i (class_info k (Fixed 0 ∷ is) v) (Fixed 0) ∷ [])
