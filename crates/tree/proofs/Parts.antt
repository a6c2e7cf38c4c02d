-- WHAT IS KNOWN OF THE CLASS OF AN ACCEPTED VALUE BY ITS KIND, from what is known of the classes of its parts.
-- Assumes nothing.
use Prim.Native.Nat.{ℕ, ◌+◌, ◌-◌}
use mathlib.Core.Path.{◌≡◌, refl, sym, ap, ap₂, ◌∙◌}
use mathlib.Core.Bool.{Bool, true, false, cond}
use mathlib.Core.List.{List, [], ◌∷◌, map}
use native.Mathlib.Omega.{arith}
use lib.ListN.{length}
use Rattle.class.specs.Info.{join_i, choice_i}
use Rattle.class.specs.declared.Info.{Info}
use Rattle.class.specs.declared.Info.TheVariants.{Fixed}
use Rattle.cell.specs.Types.{digits_of, scale_of, same_type}
use Rattle.cell.specs.declared.Type.{«Type» as Ty}
use Rattle.cell.specs.declared.Value.{Value}
use Rattle.catalogue.specs.Tables.{Table}
use Rattle.view.specs.declared.Fold.{Fold}
use Rattle.view.specs.declared.Pick.{Pick}
use Rattle.scope.specs.Scopes.{Hit, Only}
use Rattle.scope.specs.Table.{open_of, infos_of, found_of}
use Rattle.scope.specs.Entry.{count_in, tables_in}
use Rattle.scope.specs.declared.Scope.{Scope}
use Rattle.scope.specs.declared.Found.{Found}
use Rattle.resolve.specs.Expr.{Expr}
use Rattle.resolve.specs.Expr as expr
use Rattle.resolve.specs.Resolve.{brought}
use Rattle.resolve.specs.Infos.{block_i, class_info}
use Rattle.resolve.specs.Steps.{refs_to}
use Rattle.resolve.specs.Claims.{Opening}
use Rattle.resolve.specs.declared.Files.{Files}
use Rattle.resolve.proofs.Inversion.{ColGood, of_column, of_local, ClassGood}
use Rattle.resolve.proofs.Tables.{own_info}
use Rattle.tree.specs.Claims.{expr_at, type_at, info_at, refs_at, found_info, row_info}
use Rattle.tree.proofs.Accepted.{NotIs, BinopIs, IfIs, LetIs, BlockIs, ExistsIs, SingleIs}

-- a name, by what it finds
pub found_info_lem : (k : ℕ) (is : List Info) {o : Only Hit} {x : Expr} {s : Ty} {h : Found} → ColGood o x s → h ≡ found_of is o → found_info h ≡ class_info k is x
unfolding found_of found_info class_info
found_info_lem k is (of_column a b c w j e f g) i = rw (i, e, f)
found_info_lem k is (of_local a e f) i = rw (i, e, f)

pub row_info_lem : (k : ℕ) (is : List Info) {o : Only Hit} {x : Expr} {s : Ty} {h : Found} → ClassGood o x s → h ≡ found_of is o → row_info h ≡ class_info k is x
unfolding found_of row_info class_info
row_info_lem k is g i = rw (i, g.found, g.is)

-- CONV before a limb does not change what is known
brought_info : (k : ℕ) (is : List Info) (s u : Ty) (x : Expr) → class_info k is (brought s u x) ≡ class_info k is x
unfolding brought
brought_info k is s u x = go (same_type s u)
  where
    go : (b : Bool) → class_info k is (cond b x (expr.Expr.conv (digits_of u) (scale_of u) x)) ≡ class_info k is x
    go true = refl
    go false = unfold class_info in refl

module _ (c ss v : List ℕ) (f : Files) (t : List Scope) (deep d at : ℕ) where
  -- what is known of its expression's class is known of its own
  pub info_as : {i : Info} → i ≡ class_info f.k (infos_of t deep) (expr_at c v f t deep d at) → i ≡ info_at c v f t deep d at
  unfolding info_at
  info_as e = e

  pub const_info : {s : Ty} {x : Value} → expr_at c v f t deep d at ≡ expr.Expr.const s x → Fixed f.k ≡ info_at c v f t deep d at
  unfolding info_at class_info
  const_info e = ap (class_info f.k (infos_of t deep)) (sym e)

  pub not_info : NotIs c ss v f t deep d at → info_at c v f t deep (d - 1) (at + 1) ≡ info_at c v f t deep d at
  unfolding info_at class_info
  not_info b = ap (class_info f.k (infos_of t deep)) (sym b.is)

  pub binop_info : (op m : ℕ) → BinopIs c ss v f t deep d at op m
      → join_i (info_at c v f t deep (d - 1) (at + 1)) (info_at c v f t deep (d - 1) m) ≡ info_at c v f t deep d at
  unfolding info_at class_info
  binop_info op m b = ap (class_info f.k (infos_of t deep)) (sym b.is)

  pub if_info : (m l : ℕ) → IfIs c ss v f t deep d at m l
      → join_i (info_at c v f t deep (d - 1) (at + 1)) (choice_i (info_at c v f t deep (d - 1) m) (info_at c v f t deep (d - 1) l)) ≡ info_at c v f t deep d at
  unfolding info_at class_info
  if_info m l b =
      ap (join_i (class_info f.k (infos_of t deep) (expr_at c v f t deep (d - 1) (at + 1))))
      (ap₂ choice_i (sym (brought_info f.k (infos_of t deep) (type_at c v f t deep (d - 1) m) (type_at c v f t deep d at) (expr_at c v f t deep (d - 1) m)))
      (sym (brought_info f.k (infos_of t deep) (type_at c v f t deep (d - 1) l) (type_at c v f t deep d at) (expr_at c v f t deep (d - 1) l))))
      ∙ ap (class_info f.k (infos_of t deep)) (sym b.is)

  pub let_info : (u : List Scope) (m : ℕ) → LetIs c ss v f t u deep d at m → info_at c v f u (deep + 1) (d - 1) m ≡ info_at c v f t deep d at
  unfolding info_at class_info
  let_info u m b =
      ap (λ (is : List Info). class_info f.k is (expr_at c v f u (deep + 1) (d - 1) m)) b.infos ∙ ap (class_info f.k (infos_of t deep)) (sym b.is)

  -- a block: s is its entry, u the table with its scope open
  module _ (count : ℕ) (s : Scope) (u : List Scope) where
    module _ (b : BlockIs c ss v f t u deep d at count s) where
      own_tables : tables_in (open_of c f.nc s) ≡ map (λ r. r.table) (refs_at c f.nc v (at + 1) count)
      unfolding tables_in refs_at
      own_tables = ap tables_in b.entry.opens

      refs_count : count_in s ≡ length (refs_at c f.nc v (at + 1) count)
      unfolding refs_at
      refs_count = b.entry.counted

      pub block_opening : Opening c f.nc s
      block_opening =
          let n = refs_count in
          let m = b.counted in
          let k = b.some in
          record { long = b.tabled.cat_long; among = b.entry.among; some = omega arith }

      block_as : (is : List Info) → block_i (refs_to (tables_in (open_of c f.nc s))) is ≡ block_i (refs_at c f.nc v (at + 1) count) is
      block_as is = ap (λ (us : List Table). block_i (refs_to us) is) own_tables ∙ sym (own_info (refs_at c f.nc v (at + 1) count) is)

    pub exists_info : (h : Fold) → ExistsIs c ss v f t u deep d at count h s
        → block_i (refs_to (tables_in (open_of c f.nc s))) (info_at c v f u (deep + 1) (d - 1) (at + 1 + count) ∷ []) ≡ info_at c v f t deep d at
    unfolding info_at class_info
    exists_info h b =
        block_as b.block _
        ∙ ap (λ (is : List Info). block_i (refs_at c f.nc v (at + 1) count) (class_info f.k is (expr_at c v f u (deep + 1) (d - 1) (at + 1 + count)) ∷ [])) b.block.infos
        ∙ ap (class_info f.k (infos_of t deep)) (sym b.is)

    pub single_info : (h : Pick) (m : ℕ) → SingleIs c ss v f t u deep d at count m h s
        → block_i (refs_to (tables_in (open_of c f.nc s))) (info_at c v f u (deep + 1) (d - 1) (at + 1 + count) ∷ choice_i (info_at c v f u (deep + 1) (d - 1) m) (Fixed 0) ∷ []) ≡ info_at c v f t deep d at
    unfolding info_at class_info
    single_info h m b =
        block_as b.block _
        ∙ ap (λ (is : List Info). block_i (refs_at c f.nc v (at + 1) count)
        (class_info f.k is (expr_at c v f u (deep + 1) (d - 1) (at + 1 + count)) ∷ choice_i (class_info f.k is (expr_at c v f u (deep + 1) (d - 1) m)) (Fixed 0) ∷ [])) b.block.infos
        ∙ ap (class_info f.k (infos_of t deep)) (sym b.is)
