-- The class of a value that is resolved is the lub of all that counts as read, and its bound dominates it.
-- Assumes nothing.
use Prim.Native.Nat.{ℕ, suc}
use mathlib.Core.Path.{◌≡◌, refl, sym, ◌∙◌}
use mathlib.Core.Bool.{Bool, true, false, cond, false≢true}
use mathlib.Core.List.{List, [], ◌∷◌, ◌++◌, map}
use mathlib.Core.Option.{Option, none, some}
use lib.ListN.{get_or}
use borrow.Author.Tests.{eqb-true}
use Rattle.class.specs.Class.{Dominates, lub_of, lub_all}
use Rattle.class.specs.Info.{InfoOk}
use Rattle.class.specs.declared.Info.{Info}
use Rattle.class.specs.declared.Info.TheVariants.{Fixed, Bound}
use Rattle.class.proofs.Laws.{dom_refl, dom_trans, lub_left, lub_right, lub_comm, lub_assoc}
use Rattle.class.proofs.Infos.{lub_covers}
use Rattle.cell.specs.Res.{done, bind, or_else, nth}
use Rattle.cell.specs.Types.{same_type, digits_of, scale_of}
use Rattle.cell.specs.Values.{as_class}
use Rattle.cell.specs.Apply.{as_cond}
use Rattle.cell.specs.declared.Type.{«Type» as Ty}
use Rattle.cell.specs.declared.Type.TheVariants as T
use Rattle.cell.specs.declared.Value.{Value}
use Rattle.cell.specs.declared.Value.TheVariants as X
use Rattle.cell.proofs.Sound.{cond_sound}
use Rattle.catalogue.specs.Tables.{Table, TabRef}
use Rattle.store.specs.Rows.{Row, All, All2}
use Rattle.view.specs.Ast.{Exp}
use Rattle.view.specs.Ast as ast
use Rattle.scope.specs.Scopes.{column, bound as local_hit}
use Rattle.resolve.specs.Expr.{Expr}
use Rattle.resolve.specs.Expr as expr
use Rattle.resolve.specs.Infos.{table_class}
use Rattle.resolve.specs.Resolve.{good, brought, resolve}
use Rattle.tree.specs.Tree.{Tree, tree_if, tree_agg, tree_cell_class, tree_row_class, tree_local_class}
use Rattle.tree.specs.Trans.{expr_data, expr_class, Class, fixed, tree, as_tree, bound, info_of, by_info, nums, join, joins, join_all, same_fixed, choice, let_class, block_class}
use Rattle.tree.specs.Trans.{row_classes as row_trees}
use Rattle.run.specs.Run.{run, rows_for, concat_map}
use Rattle.run.specs.Run as machine
use Rattle.reading.specs.Reading.{Frame, rows, known, scope_of, tabs_out, rows_over, table_classes, row_classes, is_true, eval, reads}
use Rattle.reading.proofs.Lists.{all_imp, all_map, all2_append, from, from_cons}
use Rattle.reading.proofs.Lattice.{zero_lub, lub_append, lub_concat, lub_cond, lub_below}
use Rattle.reading.proofs.Inversion.{const_elim, binop_elim, neg_elim, if_elim, exists_elim, single_elim, col_elim, classof_elim, let_elim}
use Rattle.reading.proofs.Names.{found_stands, tables_ok}
use Rattle.reading.proofs.WellTyped.{TablesRule, ConstsOk, tables_rule, well_typed}
use Rattle.reading.proofs.Scopes.{RowGood, StoreGood, tables_of, Match, m_rows, m_known, Kept, scopes_rule, weaken, frame_known, row_found, cell_found, block_ok}
use Rattle.reading.proofs.References.{column_reads, classof_reads, local_reads}
use Rattle.reading.proofs.Folds.{agg_fold}
use Rattle.reading.proofs.Data.{Good, data_ok, let_reads}

-- the class `c` is what the run of `i` gives, and the bound dominates it
abbrev pub ClassOk : List (List Row) → Class → ℕ → List machine.Frame → Type 0
ClassOk st (fixed k) c σ = c ≡ k
ClassOk st (tree t b) c σ = (run st t σ ≡ done (X.Class c)) × Dominates b c

pub as_tree_lem : (st : List (List Row)) (σ : List machine.Frame) (i : Class) (c : ℕ) → ClassOk st i c σ → run st (as_tree i) σ ≡ done (X.Class c)
unfolding run as_tree
as_tree_lem st σ (fixed k) c h = rw h
as_tree_lem st σ (tree t b) c h = h.0

pub bounded : (st : List (List Row)) (σ : List machine.Frame) (i : Class) (c : ℕ) → ClassOk st i c σ → Dominates (bound i) c
unfolding bound
bounded st σ (fixed k) c h = rw h (dom_refl k)
bounded st σ (tree t b) c h = h.1

module _ (st : List (List Row)) (σ : List machine.Frame) where
  pub by_info_lem : (i : Info) (t : Tree) (c : ℕ) → InfoOk i c → run st t σ ≡ done (X.Class c) → ClassOk st (by_info i t) c σ
  unfolding by_info
  by_info_lem (Fixed k) t c h e = h
  by_info_lem (Bound b) t c h e = (e, h)

  join_ok : (i j : Class) (a b : ℕ) → ClassOk st i a σ → ClassOk st j b σ → ClassOk st (join i j) (lub_of a b) σ
  unfolding run join bind as_class
  join_ok (fixed k) (fixed l) a b h e = rw (h, e)
  join_ok (fixed k) (tree u l) a b h e = (rw (e.0, h, lub_comm k b), lub_covers k l a b (rw h (dom_refl k)) e.1)
  join_ok (tree t k) (fixed l) a b h e = (rw (h.0, e), lub_covers k l a b h.1 (rw e (dom_refl l)))
  join_ok (tree t k) (tree u l) a b h e = (rw (h.0, e.0), lub_covers k l a b h.1 e.1)

  joins_ok : (i : Class) (c : ℕ) (is : List Class) (cs : List ℕ) → ClassOk st i c σ → All2 (λ j d. ClassOk st j d σ) is cs →
      ClassOk st (joins i is) (lub_of c (lub_all cs)) σ
  unfolding joins
  joins_ok i c [] [] h hs = rw zero_lub h
  joins_ok i c [] (d ∷ cs) h hs = absurd hs
  joins_ok i c (j ∷ is) [] h hs = absurd hs
  joins_ok i c (j ∷ is) (d ∷ cs) h hs = rw (← lub_assoc c d (lub_all cs)) (joins_ok (join i j) (lub_of c d) is cs (join_ok i j c d h hs.0) hs.1)

  join_all_ok : (is : List Class) (cs : List ℕ) → All2 (λ j d. ClassOk st j d σ) is cs → ClassOk st (join_all is) (lub_all cs) σ
  unfolding join_all
  join_all_ok [] [] hs = refl
  join_all_ok [] (d ∷ cs) hs = absurd hs
  join_all_ok (j ∷ is) [] hs = absurd hs
  join_all_ok (j ∷ is) (d ∷ cs) hs = joins_ok j d is cs hs.0 hs.1

  same_ok : (z : Bool) (i j : Class) (a b : ℕ) → same_fixed i j ≡ true → ClassOk st i a σ → ClassOk st j b σ → ClassOk st i (cond z a b) σ
  unfolding same_fixed
  same_ok true i j a b s h e = h
  same_ok false (fixed k) (fixed l) a b s h e = e ∙ sym (eqb-true k l s)
  same_ok false (fixed k) (tree u l) a b s h e = absurd (false≢true s)
  same_ok false (tree t k) (fixed l) a b s h e = absurd (false≢true s)
  same_ok false (tree t k) (tree u l) a b s h e = absurd (false≢true s)

  limb_ok : (z : Bool) (i j : Class) (a b : ℕ) → ClassOk st i a σ → ClassOk st j b σ →
      (cond z (run st (as_tree i) σ) (run st (as_tree j) σ) ≡ done (X.Class (cond z a b))) × Dominates (lub_of (bound i) (bound j)) (cond z a b)
  limb_ok true i j a b h e = (as_tree_lem st σ i a h, dom_trans (lub_of (bound i) (bound j)) (bound i) a (lub_left (bound i) (bound j)) (bounded st σ i a h))
  limb_ok false i j a b h e = (as_tree_lem st σ j b e, dom_trans (lub_of (bound i) (bound j)) (bound j) b (lub_right (bound i) (bound j)) (bounded st σ j b e))

  choice_ok : (d : Tree) (v : Value) → Good T.Boolean (run st d σ) v → (i j : Class) (a b : ℕ) → ClassOk st i a σ → ClassOk st j b σ →
      ClassOk st (choice d i j) (cond (is_true v) a b) σ
  unfolding run choice bind is_true or_else
  choice_ok d v g i j a b h e = let (z, ez) = cond_sound g.1 in rw ez (go z ez (same_fixed i j) refl)
    where
      go : (z : Bool) → as_cond v ≡ done z → (s : Bool) → same_fixed i j ≡ s →
          ClassOk st (cond s i (tree (tree_if d (as_tree i) (as_tree j)) (lub_of (bound i) (bound j)))) (cond z a b) σ
      go z ez true s = same_ok z i j a b s h e
      go z ez false s = rw (g.0, ez) (limb_ok z i j a b h e)

  let_ok : (d : Tree) (v : Value) → run st d σ ≡ done v → (i j : Class) (xs : List ℕ) (c : ℕ) → ClassOk st i (lub_all xs) σ →
      ((o : Option ℕ) → Kept (info_of i) xs o → ClassOk st j c (machine.Frame.local v o ∷ σ)) → ClassOk st (let_class d i j) c σ
  unfolding run let_class bind as_class info_of
  let_ok d v g (fixed k) (fixed l) xs c h body = body none h
  let_ok d v g (tree t k) (fixed l) xs c h body = body (some (lub_all xs)) (refl, h.1)
  let_ok d v g (fixed k) (tree u l) xs c h body = let (e, p) = body none h in (rw (g, e), p)
  let_ok d v g (tree t k) (tree u l) xs c h body = let (e, p) = body (some (lub_all xs)) (refl, h.1) in (rw (h.0, g, e), p)

  local_ok : (a : ℕ) (i : Info) (v : Value) (xs : List ℕ) (o : Option ℕ) → machine.local_in σ a ≡ done (v, o) → Kept i xs o →
      ClassOk st (by_info i (tree_local_class a)) (lub_all xs) σ
  unfolding run by_info bind machine.class_bound
  local_ok a (Fixed k) v xs o q h = h
  local_ok a (Bound b) v xs o q h = (rw (q, h.0), h.1)

  -- AGG over the rows of the product, joined with the tables' classes
  agg_ok : (ts : List TabRef) → rows_for st (nums ts) ≡ done (rows_over st ts) → (is : List Class) (f : List Row → List ℕ) →
      All (λ rs. ClassOk st (join_all (row_trees 0 ts ++ is)) (lub_all (f rs)) (machine.Frame.rows rs ∷ σ)) (rows_over st ts) →
      ClassOk st (block_class ts is) (lub_all (table_classes ts ++ concat_map f (rows_over st ts))) σ
  unfolding run block_class bind as_class
  agg_ok ts er is f h =
      let i : Class = join_all (row_trees 0 ts ++ is) in
      let ps : List (List Row) = rows_over st ts in
      let tc : ℕ = table_class ts in
      let x : ℕ = lub_all (concat_map f ps) in
      let ms = agg_fold (λ rs. bind (run st (as_tree i) (machine.Frame.rows rs ∷ σ)) as_class) (λ rs. lub_all (f rs)) ps
      (all_imp (λ rs. ClassOk st i (lub_all (f rs)) (machine.Frame.rows rs ∷ σ)) _ (λ rs ok. rw (as_tree_lem st (machine.Frame.rows rs ∷ σ) i (lub_all (f rs)) ok)) ps h) in
      let hb : Dominates (bound i) x = rw (← lub_concat f ps)
      (lub_below (bound i) (map (λ rs. lub_all (f rs)) ps) (all_map (Dominates (bound i)) (λ rs. lub_all (f rs)) ps
      (all_imp (λ rs. ClassOk st i (lub_all (f rs)) (machine.Frame.rows rs ∷ σ)) _ (λ rs ok. bounded st (machine.Frame.rows rs ∷ σ) i (lub_all (f rs)) ok) ps h))) in
      rw (lub_append (table_classes ts) (concat_map f ps), lub_comm tc x)
      (join_ok (tree (tree_agg (nums ts) (as_tree i)) (bound i)) (fixed tc) x tc (rw (er, ms, lub_concat f ps), hb) refl)

-- ---- what is read at one row of a block

rows_ok : (st : List (List Row)) (σ : List machine.Frame) (whole : List Row) (n : ℕ) (ts : List TabRef) (rs : List Row) → from n whole ≡ rs →
    All2 RowGood (tables_of ts) rs → All2 (λ i c. ClassOk st i c (machine.Frame.rows whole ∷ σ)) (row_trees n ts) (row_classes rs)
unfolding run row_trees bind nth machine.row_in machine.as_rows
rows_ok st σ whole n [] [] e h = tt
rows_ok st σ whole n [] (r ∷ rs) e h = absurd h
rows_ok st σ whole n (t ∷ ts) [] e h = absurd h
rows_ok st σ whole n (t ∷ ts) (r ∷ rs) e h =
    let (p, q) = from_cons n whole r rs e in
    (by_info_lem st (machine.Frame.rows whole ∷ σ) t.table.row (tree_row_class 0 n) r.rclass h.0.0.0 (rw p), rows_ok st σ whole (suc n) ts rs q h.1)

-- the row classes, and then more
block_class_lem : (st : List (List Row)) (σ : List machine.Frame) (ts : List TabRef) (rs : List Row) (is : List Class) (cs : List ℕ) →
    All2 RowGood (tables_of ts) rs → All2 (λ i c. ClassOk st i c (machine.Frame.rows rs ∷ σ)) is cs →
    ClassOk st (join_all (row_trees 0 ts ++ is)) (lub_of (lub_all (row_classes rs)) (lub_all cs)) (machine.Frame.rows rs ∷ σ)
block_class_lem st σ ts rs is cs ok h =
    rw (← lub_append (row_classes rs) cs)
    (join_all_ok st (machine.Frame.rows rs ∷ σ) (row_trees 0 ts ++ is) (row_classes rs ++ cs)
    (all2_append (λ i c. ClassOk st i c (machine.Frame.rows rs ∷ σ)) (row_trees 0 ts) (row_classes rs) is cs (rows_ok st σ rs 0 ts rs refl ok) h))

where_class : (st : List (List Row)) (σ : List machine.Frame) (ts : List TabRef) (rs : List Row) (i : Class) (xs : List ℕ) →
    All2 RowGood (tables_of ts) rs → ClassOk st i (lub_all xs) (machine.Frame.rows rs ∷ σ) →
    ClassOk st (join_all (row_trees 0 ts ++ (i ∷ []))) (lub_all (row_classes rs ++ xs)) (machine.Frame.rows rs ∷ σ)
where_class st σ ts rs i xs ok h =
    rw (lub_append (row_classes rs) xs)
    (rw (zero_lub (lub_all xs)) at (block_class_lem st σ ts rs (i ∷ []) (lub_all xs ∷ []) ok (h, tt)))

value_class : (st : List (List Row)) (σ : List machine.Frame) (ts : List TabRef) (rs : List Row) (i j : Class) (xs ys : List ℕ) →
    All2 RowGood (tables_of ts) rs → ClassOk st i (lub_all xs) (machine.Frame.rows rs ∷ σ) → ClassOk st j (lub_all ys) (machine.Frame.rows rs ∷ σ) →
    ClassOk st (join_all (row_trees 0 ts ++ (i ∷ j ∷ []))) (lub_all ((row_classes rs ++ xs) ++ ys)) (machine.Frame.rows rs ∷ σ)
value_class st σ ts rs i j xs ys ok h k =
    rw (lub_append (row_classes rs ++ xs) ys, lub_append (row_classes rs) xs, lub_assoc)
    (rw (zero_lub (lub_all ys)) at (block_class_lem st σ ts rs (i ∷ j ∷ []) (lub_all xs ∷ lub_all ys ∷ []) ok (h, (k, tt))))

-- CONV has the class of its operand
brought_class : (k : ℕ) (is : List Info) (t r : Ty) (x : Expr) → expr_class k is (brought t r x) ≡ expr_class k is x
unfolding brought expr_class
brought_class k is t r x = go (same_type t r)
  where
    go : (z : Bool) → expr_class k is (cond z x (expr.Expr.conv (digits_of r) (scale_of r) x)) ≡ expr_class k is x
    go true = refl
    go false = refl

module _ (cat : List Table) (k : ℕ) (st : List (List Row)) (accepted : StoreGood cat st) (ruled : TablesRule cat) where
  pub class_ok : (e : Exp) → ConstsOk e → (is : List Info) (ρ : List Frame) (σ : List machine.Frame) (X : Expr) (U : Ty) →
      resolve cat (map scope_of ρ) e ≡ good X U → Match Kept is ρ σ → ClassOk st (expr_class k is X) (lub_all (reads cat k st ρ e)) σ
  unfolding run expr_class eval ConstsOk bind or_else scope_of tabs_out
  class_ok (ast.Exp.const at t v) h is ρ σ X U e m = const_elim cat (map scope_of ρ) X U at t v e λ p q. rw p (zero_lub k)
  class_ok (ast.Exp.binop at op a b) h is ρ σ X U e m =
      binop_elim cat (map scope_of ρ) X U at op a b e λ x s y t e₁ e₂ e₃ p.
      rw (p, lub_append (reads cat k st ρ a) (reads cat k st ρ b))
      (join_ok st σ (expr_class k is x) (expr_class k is y) _ _ (class_ok a h.0 is ρ σ x s e₁ m) (class_ok b h.1 is ρ σ y t e₂ m))
  class_ok (ast.Exp.neg at a) h is ρ σ X U e m =
      neg_elim cat (map scope_of ρ) X U at a e λ x e₁ p q.
      rw p (class_ok a h is ρ σ x T.Boolean e₁ m)
  class_ok (ast.Exp.if at c a b) h is ρ σ X U e m =
      if_elim cat (map scope_of ρ) X U at c a b e λ x y z t u e₁ e₂ e₃ e₄ p.
      rw (
        p,
        brought_class k is t U y,
        brought_class k is u U z,
        lub_append (reads cat k st ρ c),
        lub_cond,
      )
      (join_ok st σ (expr_class k is x) (choice (expr_data x) (expr_class k is y) (expr_class k is z)) _ _ (class_ok c h.0 is ρ σ x T.Boolean e₁ m)
      (choice_ok st σ (expr_data x) (eval cat k st ρ c) (data_ok cat k st accepted ruled c h.0 is ρ σ x T.Boolean e₁ (weaken m)) (expr_class k is y) (expr_class k is z) _ _
      (class_ok a h.1 is ρ σ y t e₂ m) (class_ok b h.2 is ρ σ z u e₃ m)))
  class_ok (ast.Exp.exists at f names w) h is ρ σ X U e m =
      exists_elim cat (map scope_of ρ) X U at f names w e λ ts x e₁ e₂ p q.
      let (er, oks) = block_ok cat st accepted ts (tables_ok cat names ts e₁) in
      rw (e₁, p)
      (agg_ok st σ ts er (expr_class k (Fixed 0 ∷ is) x ∷ []) (λ rs. row_classes rs ++ reads cat k st (rows ts rs ∷ ρ) w)
      (all_imp (λ rs. All2 RowGood (tables_of ts) rs) _
      (λ rs ok. where_class st σ ts rs (expr_class k (Fixed 0 ∷ is) x) (reads cat k st (rows ts rs ∷ ρ) w) ok
      (class_ok w h.1 (Fixed 0 ∷ is) (rows ts rs ∷ ρ) (machine.Frame.rows rs ∷ σ) x T.Boolean e₂ (m_rows (tables_rule cat names ts ruled e₁) ok m)))
      (rows_over st ts) oks))
  class_ok (ast.Exp.single at g names w v) h is ρ σ X U e m =
      single_elim cat (map scope_of ρ) X U at g names w v e λ ts x y e₁ e₂ e₃ o p.
      let (er, oks) = block_ok cat st accepted ts (tables_ok cat names ts e₁) in
      let r = tables_rule cat names ts ruled e₁ in
      rw (e₁, p)
      (agg_ok st σ ts er (expr_class k (Fixed 0 ∷ is) x ∷ choice (expr_data x) (expr_class k (Fixed 0 ∷ is) y) (fixed 0) ∷ [])
      (λ rs. (row_classes rs ++ reads cat k st (rows ts rs ∷ ρ) w) ++ cond (is_true (eval cat k st (rows ts rs ∷ ρ) w)) (reads cat k st (rows ts rs ∷ ρ) v) [])
      (all_imp (λ rs. All2 RowGood (tables_of ts) rs) _
      (λ rs ok. value_class st σ ts rs (expr_class k (Fixed 0 ∷ is) x) (choice (expr_data x) (expr_class k (Fixed 0 ∷ is) y) (fixed 0)) (reads cat k st (rows ts rs ∷ ρ) w) _ ok
      (class_ok w h.0 (Fixed 0 ∷ is) (rows ts rs ∷ ρ) (machine.Frame.rows rs ∷ σ) x T.Boolean e₂ (m_rows r ok m))
      (rw (lub_cond (is_true (eval cat k st (rows ts rs ∷ ρ) w)) (reads cat k st (rows ts rs ∷ ρ) v) [])
      (choice_ok st (machine.Frame.rows rs ∷ σ) (expr_data x) (eval cat k st (rows ts rs ∷ ρ) w)
      (data_ok cat k st accepted ruled w h.0 (Fixed 0 ∷ is) (rows ts rs ∷ ρ) (machine.Frame.rows rs ∷ σ) x T.Boolean e₂ (m_rows r ok (weaken m)))
      (expr_class k (Fixed 0 ∷ is) y) (fixed 0) _ _
      (class_ok v h.1 (Fixed 0 ∷ is) (rows ts rs ∷ ρ) (machine.Frame.rows rs ∷ σ) y U e₃ (m_rows r ok m)) refl)))
      (rows_over st ts) oks))
  class_ok (ast.Exp.col at name q) h is ρ σ X U e m =
      col_elim cat (map scope_of ρ) X U at name q e
      (λ a b c t j f p g.
      let (x, i, o, ok, small) = cell_found m a b c t j (found_stands name q (map scope_of ρ) (column a b c t j) f) in
      rw (f, p, column_reads ρ a b c t j x i, zero_lub x.class) (by_info_lem st σ j.info (tree_cell_class a b c) x.class ok.1 (rw o)))
      (λ a f p.
      let (n, s) = found_stands name q (map scope_of ρ) (local_hit a U) f in
      let (v, xs, c, i, o, ok, kept) = frame_known m a n U s in
      rw (f, p, local_reads ρ a U v xs i) (local_ok st σ a (get_or is a (Fixed 0)) v xs c o kept))
  class_ok (ast.Exp.classof at name q) h is ρ σ X U e m =
      classof_elim cat (map scope_of ρ) X U at name q e λ a b c t j f p g.
      let (r, i, o, ok, _) = row_found m a b c t j (found_stands name q (map scope_of ρ) (column a b c t j) f) in
      rw (f, p, classof_reads ρ a b c t j r i, zero_lub r.rclass) (by_info_lem st σ t.row (tree_row_class a b) r.rclass ok.0.0 (rw o))
  class_ok (ast.Exp.letin at name v b) h is ρ σ X U e m =
      let_elim cat (map scope_of ρ) X U at name v b e λ x s y e₁ e₂ p.
      let (ev, tv) = data_ok cat k st accepted ruled v h.0 is ρ σ x s e₁ (weaken m) in
      let r = well_typed cat ruled v h.0 (map scope_of ρ) (scopes_rule m) x s e₁ in
      rw (let_reads cat k st ρ at name v b x s e₁, p)
      (let_ok st σ (expr_data x) (eval cat k st ρ v) ev (expr_class k is x) (expr_class k (info_of (expr_class k is x) ∷ is) y) (reads cat k st ρ v) _ (class_ok v h.0 is ρ σ x s e₁ m)
      (λ o kept.
      class_ok b h.1 (info_of (expr_class k is x) ∷ is) (known name s (eval cat k st ρ v) (reads cat k st ρ v) ∷ ρ)
      (machine.Frame.local (eval cat k st ρ v) o ∷ σ) y U e₂ (m_known tv r kept m)))
