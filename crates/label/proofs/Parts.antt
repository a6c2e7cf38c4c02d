-- THE CLASS OF AN ACCEPTED VALUE BY ITS KIND, from the classes of its parts; and what the walk tells of an accepted value.
-- Assumes nothing.
use Prim.Native.Nat.{ℕ, ◌+◌, ◌-◌}
use mathlib.Core.Path.{◌≡◌, refl, sym, ap, ap₂, ◌∙◌}
use mathlib.Core.Bool.{Bool, true, false, cond}
use mathlib.Core.List.{List, [], ◌∷◌}
use lib.ListN.{get_or}
use Rattle.class.specs.declared.Info.{Info}
use Rattle.class.specs.declared.Info.TheVariants.{Fixed}
use Rattle.cell.specs.Types.{same_type, digits_of, scale_of}
use Rattle.cell.specs.declared.Type.{«Type» as Ty}
use Rattle.cell.specs.declared.Value.{Value}
use Rattle.catalogue.specs.Tables.{TabRef}
use Rattle.view.specs.declared.Fold.{Fold}
use Rattle.view.specs.declared.Pick.{Pick}
use Rattle.scope.specs.Scopes.{find}
use Rattle.scope.specs.Table.{scopes_of, infos_of, found_of}
use Rattle.scope.specs.declared.Scope.{Scope}
use Rattle.scope.specs.declared.Found.{Found}
use Rattle.resolve.specs.Expr.{Expr}
use Rattle.resolve.specs.Expr as expr
use Rattle.resolve.specs.Resolve.{brought}
use Rattle.resolve.specs.declared.Files.{Files}
use Rattle.resolve.proofs.Inversion.{ColGood, of_column, of_local, ClassGood}
use Rattle.tree.specs.Tree.{Tree, tree_cell_class, tree_row_class, tree_local_class, encode}
use Rattle.tree.specs.Trans.{expr_data, expr_class, Class, fixed, as_tree, info_of, by_info, join, choice, let_class, block_class}
use Rattle.tree.specs.Claims.{expr_at, type_at, info_at, data_at}
use Rattle.tree.proofs.Infos.{info_of_class}
use Rattle.tree.specs.Levels.{Told}
use Rattle.tree.specs.declared.Part.{Part}
use Rattle.label.specs.Claims.{class_at, IsTree}
use Rattle.label.specs.Found.{cell_tree, row_tree}
use Rattle.label.proofs.Joins.{by_bytes}

module _ (c v : List ℕ) (f : Files) where
  -- the class, the data and what is known, by the expression
  pub class_of_lem : (t : List Scope) (deep d at : ℕ) (x : Expr) → expr_at c v f t deep d at ≡ x → class_at c v f t deep d at ≡ expr_class f.k (infos_of t deep) x
  unfolding class_at
  class_of_lem t deep d at x e = ap (expr_class f.k (infos_of t deep)) e

  class_is : (t : List Scope) (deep d at : ℕ) → expr_class f.k (infos_of t deep) (expr_at c v f t deep d at) ≡ class_at c v f t deep d at
  unfolding class_at
  class_is t deep d at = refl

  data_is : (t : List Scope) (deep d at : ℕ) → expr_data (expr_at c v f t deep d at) ≡ data_at c v f t deep d at
  unfolding data_at
  data_is t deep d at = refl

  pub info_is : (t : List Scope) (deep d at : ℕ) → info_at c v f t deep d at ≡ info_of (class_at c v f t deep d at)
  unfolding class_at info_at
  info_is t deep d at = sym (info_of_class f.k (infos_of t deep) (expr_at c v f t deep d at))

  -- ---- BY KIND
  module _ (t : List Scope) (deep d at : ℕ) where
    pub const_class : (s : Ty) (x : Value) → expr_at c v f t deep d at ≡ expr.Expr.const s x → info_of (class_at c v f t deep d at) ≡ Fixed f.k
    unfolding expr_class info_of
    const_class s x e = ap info_of (class_of_lem t deep d at _ e)

    pub not_class : expr_at c v f t deep d at ≡ expr.Expr.neg (expr_at c v f t deep (d - 1) (at + 1)) → class_at c v f t deep d at ≡ class_at c v f t deep (d - 1) (at + 1)
    unfolding expr_class
    not_class e = class_of_lem t deep d at _ e ∙ class_is t deep (d - 1) (at + 1)

    pub binop_class : (op p m : ℕ) → expr_at c v f t deep d at ≡ expr.Expr.bin op p (expr_at c v f t deep (d - 1) (at + 1)) (expr_at c v f t deep (d - 1) m)
        → class_at c v f t deep d at ≡ join (class_at c v f t deep (d - 1) (at + 1)) (class_at c v f t deep (d - 1) m)
    unfolding expr_class
    binop_class op p m e = class_of_lem t deep d at _ e ∙ ap₂ join (class_is t deep (d - 1) (at + 1)) (class_is t deep (d - 1) m)

    -- CONV before a limb does not change its class
    brought_class : (is : List Info) (s u : Ty) (x : Expr) → expr_class f.k is (brought s u x) ≡ expr_class f.k is x
    unfolding brought
    brought_class is s u x = go (same_type s u)
      where
        go : (b : Bool) → expr_class f.k is (cond b x (expr.Expr.conv (digits_of u) (scale_of u) x)) ≡ expr_class f.k is x
        go true = refl
        go false = unfold expr_class in refl

    pub if_class : (m l : ℕ) (r s u : Ty)
        → expr_at c v f t deep d at ≡ expr.Expr.if (expr_at c v f t deep (d - 1) (at + 1)) (brought r u (expr_at c v f t deep (d - 1) m)) (brought s u (expr_at c v f t deep (d - 1) l))
        → class_at c v f t deep d at
        ≡ join (class_at c v f t deep (d - 1) (at + 1)) (choice (data_at c v f t deep (d - 1) (at + 1)) (class_at c v f t deep (d - 1) m) (class_at c v f t deep (d - 1) l))
    unfolding expr_class
    if_class m l r s u e =
        class_of_lem t deep d at _ e
        ∙ ap₂ join (class_is t deep (d - 1) (at + 1))
        (ap₂ (choice (expr_data (expr_at c v f t deep (d - 1) (at + 1)))) (brought_class (infos_of t deep) r u _ ∙ class_is t deep (d - 1) m) (brought_class (infos_of t deep) s u _ ∙ class_is t deep (d - 1) l)
        ∙ ap (λ (b : Tree). choice b (class_at c v f t deep (d - 1) m) (class_at c v f t deep (d - 1) l)) (data_is t deep (d - 1) (at + 1)))

    pub let_class_lem : (u : List Scope) (m : ℕ) → expr_at c v f t deep d at ≡ expr.Expr.letin (expr_at c v f t deep (d - 1) (at + 1)) (expr_at c v f u (deep + 1) (d - 1) m)
        → infos_of u (deep + 1) ≡ info_at c v f t deep (d - 1) (at + 1) ∷ infos_of t deep
        → class_at c v f t deep d at ≡ let_class (data_at c v f t deep (d - 1) (at + 1)) (class_at c v f t deep (d - 1) (at + 1)) (class_at c v f u (deep + 1) (d - 1) m)
    unfolding expr_class
    let_class_lem u m e i =
        class_of_lem t deep d at _ e
        ∙ ap (λ (z : Class). let_class (expr_data (expr_at c v f t deep (d - 1) (at + 1))) z (expr_class f.k (info_of z ∷ infos_of t deep) (expr_at c v f u (deep + 1) (d - 1) m))) (class_is t deep (d - 1) (at + 1))
        ∙ ap (λ (z : List Info). let_class (expr_data (expr_at c v f t deep (d - 1) (at + 1))) (class_at c v f t deep (d - 1) (at + 1)) (expr_class f.k z (expr_at c v f u (deep + 1) (d - 1) m)))
        (ap (λ (z : Info). z ∷ infos_of t deep) (sym (info_is t deep (d - 1) (at + 1))) ∙ sym i)
        ∙ ap₂ (λ (x : Tree) (y : Class). let_class x (class_at c v f t deep (d - 1) (at + 1)) y) (data_is t deep (d - 1) (at + 1)) (class_is u (deep + 1) (d - 1) m)

    -- a block's parts stand in its scope
    pub exists_class : (u : List Scope) (m : ℕ) (h : Fold) (ts : List TabRef) → expr_at c v f t deep d at ≡ expr.Expr.exists h ts (expr_at c v f u (deep + 1) (d - 1) m)
        → infos_of u (deep + 1) ≡ Fixed 0 ∷ infos_of t deep
        → class_at c v f t deep d at ≡ block_class ts (class_at c v f u (deep + 1) (d - 1) m ∷ [])
    unfolding expr_class
    exists_class u m h ts e i =
        class_of_lem t deep d at _ e
        ∙ ap (λ (z : List Info). block_class ts (expr_class f.k z (expr_at c v f u (deep + 1) (d - 1) m) ∷ [])) (sym i)
        ∙ ap (λ (z : Class). block_class ts (z ∷ [])) (class_is u (deep + 1) (d - 1) m)

    pub single_class : (u : List Scope) (m l : ℕ) (h : Pick) (ts : List TabRef) → expr_at c v f t deep d at ≡ expr.Expr.single h ts (expr_at c v f u (deep + 1) (d - 1) m) (expr_at c v f u (deep + 1) (d - 1) l)
        → infos_of u (deep + 1) ≡ Fixed 0 ∷ infos_of t deep
        → class_at c v f t deep d at ≡ block_class ts (class_at c v f u (deep + 1) (d - 1) m ∷ choice (data_at c v f u (deep + 1) (d - 1) m) (class_at c v f u (deep + 1) (d - 1) l) (fixed 0) ∷ [])
    unfolding expr_class
    single_class u m l h ts e i =
        class_of_lem t deep d at _ e
        ∙ ap (λ (z : List Info). block_class ts (expr_class f.k z (expr_at c v f u (deep + 1) (d - 1) m) ∷ choice (expr_data (expr_at c v f u (deep + 1) (d - 1) m)) (expr_class f.k z (expr_at c v f u (deep + 1) (d - 1) l)) (fixed 0) ∷ [])) (sym i)
        ∙ ap₂ (λ (y z : Class). block_class ts (y ∷ choice (expr_data (expr_at c v f u (deep + 1) (d - 1) m)) z (fixed 0) ∷ [])) (class_is u (deep + 1) (d - 1) m) (class_is u (deep + 1) (d - 1) l)
        ∙ ap (λ (x : Tree). block_class ts (class_at c v f u (deep + 1) (d - 1) m ∷ choice x (class_at c v f u (deep + 1) (d - 1) l) (fixed 0) ∷ [])) (data_is u (deep + 1) (d - 1) m)

    -- COL and CLASSOF whose class is a tree: by what the name finds
    module _ (b : IsTree (class_at c v f t deep d at)) (name q : ℕ) (h : Found) (e : h ≡ found_of (infos_of t deep) (find name q 0 (scopes_of c f.nc t deep))) where
      by_found : (x : Expr) (i : Info) (u : Tree) → expr_at c v f t deep d at ≡ x → expr_class f.k (infos_of t deep) x ≡ by_info i u → encode (as_tree (class_at c v f t deep d at)) ≡ encode u
      by_found x i u g k =
          let j = class_of_lem t deep d at x g ∙ k in
          ap (λ (z : Class). encode (as_tree z)) j ∙ by_bytes i u b.upper (ap info_of (sym j) ∙ b.is)

      pub col_bytes : ColGood (find name q 0 (scopes_of c f.nc t deep)) (expr_at c v f t deep d at) (type_at c v f t deep d at) → encode (as_tree (class_at c v f t deep d at)) ≡ encode (cell_tree h)
      unfolding expr_class found_of cell_tree
      col_bytes (of_column x y z s k i j l) = by_found _ k.info (tree_cell_class x y z) j refl ∙ ap (λ (u : Found). encode (cell_tree u)) (sym (e ∙ ap (found_of (infos_of t deep)) i))
      col_bytes (of_local x i j) = by_found _ (get_or (infos_of t deep) x (Fixed 0)) (tree_local_class x) j refl ∙ ap (λ (u : Found). encode (cell_tree u)) (sym (e ∙ ap (found_of (infos_of t deep)) i))

      pub classof_bytes : ClassGood (find name q 0 (scopes_of c f.nc t deep)) (expr_at c v f t deep d at) (type_at c v f t deep d at) → encode (as_tree (class_at c v f t deep d at)) ≡ encode (row_tree h)
      unfolding expr_class found_of row_tree
      classof_bytes k = by_found _ k.table.row (tree_row_class k.a k.b) k.is refl ∙ ap (λ (u : Found). encode (row_tree u)) (sym (e ∙ ap (found_of (infos_of t deep)) k.found))

-- ---- WHAT THE WALK TELLS of an accepted value
pub class_known : {c v : List ℕ} {f : Files} {t : List Scope} {deep d at : ℕ} {x : Part} → Told c v f t deep d at x → x.info ≡ info_of (class_at c v f t deep d at)
class_known {c} {v} {f} {t} {deep} {d} {at} k = k.info_is ∙ info_is c v f t deep d at
