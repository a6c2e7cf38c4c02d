-- How many records the data tree and the class tree of an expression take, without building them; a fixed class is one record.
-- Assumes nothing.
use Rattle.std.specs.Prelude.{ℕ, ◌+◌, min, List, [], ◌∷◌, ◌++◌, map, length}
use Rattle.class.specs.Info.{bound_of, join_i, choice_i}
use Rattle.class.specs.declared.Info.{Info}
use Rattle.class.specs.declared.Info.TheVariants.{Fixed, Bound}
use Rattle.catalogue.specs.Tables.{TabRef}
use Rattle.resolve.specs.Expr.{Expr, Select}
use Rattle.resolve.specs.Expr as expr
use Rattle.resolve.specs.Infos.{table_class, class_info}
use Rattle.resolve.specs.declared.Sums.{Sums}
use Rattle.resolve.specs.declared.Weighed.{Weighed}

-- the data tree
unfoldable pub size_d : Expr → ℕ
size_d (expr.Expr.const t v) = 1
size_d (expr.Expr.col a b c i) = 1
size_d (expr.Expr.classof a b c i) = 1
size_d (expr.Expr.local a) = 1
size_d (expr.Expr.bin op p x y) = 1 + (size_d x + size_d y)
size_d (expr.Expr.neg x) = 1 + size_d x
size_d (expr.Expr.conv p s x) = 1 + size_d x
size_d (expr.Expr.if c x y) = 1 + (size_d c + (size_d x + size_d y))
size_d (expr.Expr.letin x y) = 1 + (size_d x + size_d y)
size_d (expr.Expr.exists f ts w) = 1 + (length ts + size_d w)
size_d (expr.Expr.single g ts w v) = 1 + (length ts + (size_d w + size_d v))

-- the size of a class's tree: one record where the class is fixed, else n
unfoldable pub sized_i : Info → ℕ → ℕ
sized_i (Fixed k) n = 1
sized_i (Bound b) n = n

abbrev pub weighed : Info → ℕ → Weighed
weighed i n = record { info = i; size = sized_i i n }

-- a join: LUB of both, or one fixed class
unfoldable pub join_w : Weighed → Weighed → Weighed
join_w x y = weighed (join_i x.info y.info) (1 + (x.size + y.size))

unfoldable pub joins_w : Weighed → List Weighed → Weighed
joins_w x [] = x
joins_w x (y ∷ ys) = joins_w (join_w x y) ys

unfoldable pub join_all_w : List Weighed → Weighed
join_all_w [] = weighed (Fixed 0) 1
join_all_w (x ∷ xs) = joins_w x xs

-- a choice under a data tree of d records
unfoldable pub choice_w : ℕ → Weighed → Weighed → Weighed
choice_w d x y = weighed (choice_i x.info y.info) (1 + (d + (x.size + y.size)))

-- LET: value's data of d records, value's class, body's class
unfoldable pub bind_size : Info → ℕ → ℕ → ℕ → ℕ
bind_size (Fixed a) m d n = 1 + (d + n)
bind_size (Bound b) m d n = 1 + (m + (d + n))

unfoldable pub let_w : ℕ → Weighed → Weighed → Weighed
let_w d x y = weighed y.info (bind_size x.info x.size d y.size)

-- the row class of each table of a block: one record each
unfoldable pub rows_w : List TabRef → List Weighed
rows_w ts = map (λ t. weighed t.table.row 1) ts

-- AGG over what is read at one row, joined with the tables' classes
unfoldable pub block_w : List TabRef → List Weighed → Weighed
block_w ts xs =
    join_w (weighed (Bound (bound_of (join_all_w (rows_w ts ++ xs)).info)) (1 + (length ts + (join_all_w (rows_w ts ++ xs)).size))) (weighed (Fixed (table_class ts)) 1)

-- THE CLASS TREE: what is known of the class, and the size of its tree
unfoldable pub weigh : ℕ → List Info → Expr → Weighed
weigh k is (expr.Expr.const t v) = weighed (Fixed k) 1
weigh k is (expr.Expr.col a b c i) = weighed i 1
weigh k is (expr.Expr.classof a b c i) = weighed i 1
weigh k is (expr.Expr.local a) = weighed (class_info k is (expr.Expr.local a)) 1
weigh k is (expr.Expr.bin op p x y) = join_w (weigh k is x) (weigh k is y)
weigh k is (expr.Expr.neg x) = weigh k is x
weigh k is (expr.Expr.conv p s x) = weigh k is x
weigh k is (expr.Expr.if c x y) = join_w (weigh k is c) (choice_w (size_d c) (weigh k is x) (weigh k is y))
weigh k is (expr.Expr.letin x y) = let_w (size_d x) (weigh k is x) (weigh k ((weigh k is x).info ∷ is) y)
weigh k is (expr.Expr.exists f ts w) = block_w ts (weigh k (Fixed 0 ∷ is) w ∷ [])
weigh k is (expr.Expr.single g ts w v) =
    block_w ts (weigh k (Fixed 0 ∷ is) w ∷ choice_w (size_d w) (weigh k (Fixed 0 ∷ is) v) (weighed (Fixed 0) 1) ∷ [])

-- sizes stop just above 8,190
abbrev pub capped : ℕ → ℕ
capped n = min n 8191

-- all pairs of data and class of several values
unfoldable pub pairs_size : ℕ → List Info → List Expr → ℕ
pairs_size k is [] = 0
pairs_size k is (x ∷ xs) = size_d x + ((weigh k is x).size + pairs_size k is xs)

-- A VIEW, under the scope of SELECT's block alone: what is known of its where's class, the records of the where's data and class, and those of its values
unfoldable pub sums_of : ℕ → Select → Sums
sums_of k s =
    record {
      info = class_info k (Fixed 0 ∷ []) s.test;
      values = capped (size_d s.test);
      classes = capped (weigh k (Fixed 0 ∷ []) s.test).size;
      pairs = capped (pairs_size k (Fixed 0 ∷ []) s.values);
    }
