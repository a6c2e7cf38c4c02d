-- SELECT over lists: its where with the tests keeps the rows that the reading rules show, each pair gives its value and its class.
-- Assumes nothing.
use Prim.Native.Nat.{ℕ, suc}
use mathlib.Core.Path.{◌≡◌, refl, sym, ◌∙◌, subst}
use mathlib.Core.Bool.{Bool, true, false, cond, ◌&&◌}
use mathlib.Core.List.{List, [], ◌∷◌, ◌++◌, map, append_assoc, append-nil}
use Rattle.class.specs.Class.{Dominates, dominatesb, lub_all}
use Rattle.class.proofs.Laws.{dom_of, dom_yes, dom_trans}
use Rattle.cell.specs.Res.{Res, done, bind, nth, map_res}
use Rattle.cell.specs.Values.{HasTy, is_null, as_truth, as_class}
use Rattle.cell.specs.Apply.{as3, of3, as_cond, apply, logic_v, settled}
use Rattle.cell.specs.declared.Type.{«Type» as Ty}
use Rattle.cell.specs.declared.Type.TheVariants as T
use Rattle.cell.specs.declared.Value.{Value}
use Rattle.cell.specs.declared.Value.TheVariants as X
use Rattle.catalogue.specs.Tables.{Table, TabRef}
use Rattle.store.specs.Rows.{Row, All, All2}
use Rattle.view.specs.Ast.{Exp}
use Rattle.scope.specs.Blocks.{opened}
use Rattle.resolve.specs.Expr.{Expr}
use Rattle.resolve.specs.Resolve.{good, resolve}
use Rattle.tree.specs.Tree.{Tree, tree_binop, tree_dom, tree_row_class, tree_class}
use Rattle.tree.specs.Trans.{expr_data, expr_class, Class, fixed, as_tree, bound, by_info}
use Rattle.tree.specs.Select.{test, table_tests, conj, root, declared_bound}
use Rattle.run.specs.Run.{run}
use Rattle.run.specs.Run as machine
use Rattle.run.specs.Answer.{cell_for, pair_at, concat}
use Rattle.reading.specs.Reading.{rows, scope_of, table_classes, row_classes, is_true, keep, eval, reads, sees}
use Rattle.reading.specs.Demands.{PairRuns, DataIs, Least, ClassIs, BoundIs}
use Rattle.reading.proofs.Lists.{not_stuck, done_inj, bind_done, from, from_cons}
use Rattle.reading.proofs.Lattice.{lub_below, lub_above, sees_lub}
use Rattle.reading.proofs.Inversion.{Values, no_value, one_more}
use Rattle.reading.proofs.WellTyped.{TablesRule, ConstsOk}
use Rattle.reading.proofs.Scopes.{RowGood, StoreGood, tables_of, Match, m_nil, m_rows, Kept, weaken}
use Rattle.reading.proofs.Data.{Good, cond_run, data_ok}
use Rattle.reading.proofs.Classes.{ClassOk, as_tree_lem, bounded, by_info_lem, class_ok}

-- ---- conditions

-- a condition's outcome
abbrev pub Holds : List (List Row) → List machine.Frame → Tree → Bool → Type 0
Holds st σ t b = bind (run st t σ) as_cond ≡ done b

-- true and a condition is the condition
and_cond : (v : Value) (b : Bool) → as_cond v ≡ done b → bind (apply 5 0 (X.Truth true) v) as_cond ≡ done b
unfolding apply logic_v settled as_cond as3 of3 as_truth is_null bind
and_cond X.Null b e = e
and_cond (X.Truth true) b e = e
and_cond (X.Truth false) b e = e
and_cond (X.Fixed s m) b e = absurd (not_stuck e)
and_cond (X.Time m) b e = absurd (not_stuck e)
and_cond (X.Interval m) b e = absurd (not_stuck e)
and_cond (X.Class c) b e = absurd (not_stuck e)

-- the order of tests doesn't matter
shuffle : (t r x y b : Bool) → (t && (r && (x && (y && b)))) ≡ ((t && x) && ((r && y) && b))
shuffle false r x y b = refl
shuffle true true x y b = refl
shuffle true false true y b = refl
shuffle true false false y b = refl

module _ (st : List (List Row)) (σ : List machine.Frame) where
  and_holds : (t u : Tree) (a b : Bool) → run st t σ ≡ done (X.Truth a) → Holds st σ u b → Holds st σ (tree_binop 5 0 t u) (a && b)
  unfolding run settled bind as_cond as3 as_truth is_null
  and_holds t u true b h k = let (v, e₁, e₂) = bind_done (run st u σ) as_cond b k in rw (h, e₁) (and_cond v b e₂)
  and_holds t u false b h k = rw h

  -- one test, kept or left out, before the rest
  test_holds : (q : ℕ) (i : Class) (c : ℕ) → ClassOk st i c σ → (ts : List Tree) (d : Tree) (b : Bool) → Holds st σ (conj ts d) b →
      Holds st σ (conj (test q i ++ ts) d) (dominatesb q c && b)
  unfolding run test conj bind as_class
  test_holds q i c h ts d b k = go (dominatesb q (bound i)) refl
    where
      go : (z : Bool) → dominatesb q (bound i) ≡ z → Holds st σ (conj (cond z [] (tree_dom (tree_class q) (as_tree i) ∷ []) ++ ts) d) (dominatesb q c && b)
      go true e = rw (dom_yes q c (dom_trans q (bound i) c (dom_of q (bound i) e) (bounded st σ i c h))) k
      go false e = and_holds (tree_dom (tree_class q) (as_tree i)) (conj ts d) (dominatesb q c) b (rw (as_tree_lem st σ i c h)) k

  -- for each table its class and its row class
  tests_hold : (q : ℕ) (d : Tree) (us : List Tree) (b : Bool) → Holds st σ (conj us d) b → (whole : List Row) (n : ℕ) (ts : List TabRef) (rs : List Row) →
      nth σ 0 ≡ done (machine.Frame.rows whole) → from n whole ≡ rs → All2 RowGood (tables_of ts) rs →
      Holds st σ (conj (table_tests q n ts ++ us) d) (sees q (table_classes ts) && (sees q (row_classes rs) && b))
  unfolding run table_tests sees bind machine.row_in machine.as_rows
  tests_hold q d us b k whole n [] [] w e h = k
  tests_hold q d us b k whole n [] (r ∷ rs) w e h = absurd h
  tests_hold q d us b k whole n (t ∷ ts) [] w e h = absurd h
  tests_hold q d us b k whole n (t ∷ ts) (r ∷ rs) w e h =
      let (p, e') = from_cons n whole r rs e in
      rw (
        append_assoc (test q (fixed t.table.tclass)) (test q (by_info t.table.row (tree_row_class 0 n)) ++ table_tests q (suc n) ts) us,
        append_assoc (test q (by_info t.table.row (tree_row_class 0 n))) (table_tests q (suc n) ts) us,
        ← shuffle (dominatesb q t.table.tclass) (dominatesb q r.rclass) (sees q (table_classes ts)) (sees q (row_classes rs)) b,
      )
      (test_holds q (fixed t.table.tclass) t.table.tclass refl _ d _
      (test_holds q (by_info t.table.row (tree_row_class 0 n)) r.rclass
      (by_info_lem st σ t.table.row (tree_row_class 0 n) r.rclass h.0.0.0 (rw (w, p))) _ d _
      (tests_hold q d us b k whole (suc n) ts rs w e' h.1)))

-- ---- rows and cells

-- the rows that are kept, in order
pub concat_keep : {A B : Type 0} (g : A → Bool) (f : A → B) (xs : List A) → concat (map (λ x. cond (g x) (f x ∷ []) []) xs) ≡ map f (keep (map g xs) xs)
unfolding concat keep
concat_keep g f [] = refl
concat_keep g f (x ∷ xs) = rw (concat_keep g f xs) (go (g x))
  where
    go : (z : Bool) → cond z (f x ∷ []) [] ++ map f (keep (map g xs) xs) ≡ map f (cond z (x ∷ keep (map g xs) xs) (keep (map g xs) xs))
    go true = refl
    go false = refl

-- a value's data and class
abbrev pub pair_of : ℕ → Expr → Tree × Tree
pair_of k x = (expr_data x, as_tree (expr_class k root x))

-- at one row of the product
module _ (cat : List Table) (k : ℕ) (st : List (List Row)) (accepted : StoreGood cat st) (ruled : TablesRule cat)
    (ts : List TabRef) (rule : TablesRule (tables_of ts)) (rs : List Row) (good_rows : All2 RowGood (tables_of ts) rs) where
  root_match : Match Kept root (rows ts rs ∷ []) (machine.Frame.rows rs ∷ [])
  root_match = m_rows rule good_rows m_nil

  value_good : (e : Exp) (x : Expr) (t : Ty) → ConstsOk e → resolve cat (opened ts ∷ []) e ≡ good x t →
      Good t (run st (expr_data x) (machine.Frame.rows rs ∷ [])) (eval cat k st (rows ts rs ∷ []) e)
  unfolding scope_of
  value_good e x t h f = data_ok cat k st accepted ruled e h root (rows ts rs ∷ []) (machine.Frame.rows rs ∷ []) x t f (weaken root_match)

  class_good : (e : Exp) (x : Expr) (t : Ty) → ConstsOk e → resolve cat (opened ts ∷ []) e ≡ good x t →
      ClassOk st (expr_class k root x) (lub_all (reads cat k st (rows ts rs ∷ []) e)) (machine.Frame.rows rs ∷ [])
  unfolding scope_of
  class_good e x t h f = class_ok cat k st accepted ruled e h root (rows ts rs ∷ []) (machine.Frame.rows rs ∷ []) x t f root_match

  class_runs : (e : Exp) (x : Expr) (t : Ty) → ConstsOk e → resolve cat (opened ts ∷ []) e ≡ good x t →
      run st (as_tree (expr_class k root x)) (machine.Frame.rows rs ∷ []) ≡ done (X.Class (lub_all (reads cat k st (rows ts rs ∷ []) e)))
  class_runs e x t h f = as_tree_lem st (machine.Frame.rows rs ∷ []) (expr_class k root x) (lub_all (reads cat k st (rows ts rs ∷ []) e)) (class_good e x t h f)

  -- the class that the run gives is the lub of what was read
  class_is : (e : Exp) (x : Expr) (t : Ty) → ConstsOk e → resolve cat (opened ts ∷ []) e ≡ good x t → (c : ℕ) →
      run st (as_tree (expr_class k root x)) (machine.Frame.rows rs ∷ []) ≡ done (X.Class c) → lub_all (reads cat k st (rows ts rs ∷ []) e) ≡ c
  class_is e x t h f c g =
      let d : ℕ = lub_all (reads cat k st (rows ts rs ∷ []) e) in
      let p : ◌≡◌ {A = Res Value} (done (X.Class d)) (done (X.Class c)) = sym (class_runs e x t h f) ∙ g in
      cc

  -- every column, by its value, its expression and its type
  pub pairs_run : (es : List Exp) (xs : List Expr) (tys : List Ty) → All ConstsOk es → Values cat (opened ts ∷ []) es xs tys →
      All (PairRuns st rs) (map (pair_of k) xs)
  pairs_run es xs tys h no_value = tt
  pairs_run es xs tys h (one_more {e = e} {x = x} {t = t} {es = fs} {xs = ys} {ts = us} f vs) = (
    record {
      value = eval cat k st (rows ts rs ∷ []) e;
      class = lub_all (reads cat k st (rows ts rs ∷ []) e);
      data_runs = (value_good e x t h.0 f).0;
      class_runs = class_runs e x t h.0 f;
    },
    pairs_run fs ys us h.1 vs,
  )

  pub data_is : (es : List Exp) (xs : List Expr) (tys : List Ty) → All ConstsOk es → Values cat (opened ts ∷ []) es xs tys →
      All2 (DataIs st rs) tys (map (pair_of k) xs)
  data_is es xs tys h no_value = tt
  data_is es xs tys h (one_more {e = e} {x = x} {t = t} {es = fs} {xs = ys} {ts = us} f vs) =
      let (p, ty) = value_good e x t h.0 f in
      (λ v g. subst (HasTy t) (done_inj (sym p ∙ g)) ty, data_is fs ys us h.1 vs)

  pub classes_are : (es : List Exp) (xs : List Expr) (tys : List Ty) → All ConstsOk es → Values cat (opened ts ∷ []) es xs tys →
      All2 (ClassIs cat k st ts rs) es (map (pair_of k) xs)
  classes_are es xs tys h no_value = tt
  classes_are es xs tys h (one_more {e = e} {x = x} {t = t} {es = fs} {xs = ys} {ts = us} f vs) = (
    λ c g.
        let all_read : List ℕ = reads cat k st (rows ts rs ∷ []) e in
        subst (λ d. Least d all_read) (class_is e x t h.0 f c g) (record { dominates_each = lub_above all_read; least = λ d. lub_below d all_read }),
    classes_are fs ys us h.1 vs,
  )

  pub bounds_are : (es : List Exp) (xs : List Expr) (tys : List Ty) → All ConstsOk es → Values cat (opened ts ∷ []) es xs tys →
      All2 (BoundIs k st rs) xs (map (pair_of k) xs)
  bounds_are es xs tys h no_value = tt
  bounds_are es xs tys h (one_more {e = e} {x = x} {t = t} {es = fs} {xs = ys} {ts = us} f vs) = (
    λ c g.
        subst (Dominates (declared_bound k x)) (class_is e x t h.0 f c g)
        (bounded st (machine.Frame.rows rs ∷ []) (expr_class k root x) (lub_all (reads cat k st (rows ts rs ∷ []) e)) (class_good e x t h.0 f)),
    bounds_are fs ys us h.1 vs,
  )

  -- the cells of the row
  pub cells_are : (q : ℕ) (es : List Exp) (xs : List Expr) (tys : List Ty) → All ConstsOk es → Values cat (opened ts ∷ []) es xs tys →
      map_res (pair_at st q rs) (map (pair_of k) xs) ≡
      done (map (λ e. cell_for q (eval cat k st (rows ts rs ∷ []) e) (lub_all (reads cat k st (rows ts rs ∷ []) e))) es)
  unfolding map_res pair_at bind as_class
  cells_are q es xs tys h no_value = refl
  cells_are q es xs tys h (one_more {e = e} {x = x} {t = t} {es = fs} {xs = ys} {ts = us} f vs) =
      rw ((value_good e x t h.0 f).0, class_runs e x t h.0 f, cells_are q fs ys us h.1 vs)

  -- the where with the tests
  pub test_keeps : (q : ℕ) (e : Exp) (x : Expr) → ConstsOk e → resolve cat (opened ts ∷ []) e ≡ good x T.Boolean →
      Holds st (machine.Frame.rows rs ∷ []) (conj (table_tests q 0 ts ++ test q (expr_class k root x)) (expr_data x))
      (sees q (table_classes ts) && (sees q (row_classes rs) && (sees q (reads cat k st (rows ts rs ∷ []) e) && is_true (eval cat k st (rows ts rs ∷ []) e))))
  unfolding nth conj
  test_keeps q e x h f =
      let σ : List machine.Frame = machine.Frame.rows rs ∷ [] in
      let last = test_holds st σ q (expr_class k root x) (lub_all (reads cat k st (rows ts rs ∷ []) e)) (class_good e x T.Boolean h f) [] (expr_data x)
      (is_true (eval cat k st (rows ts rs ∷ []) e)) (cond_run (value_good e x T.Boolean h f)) in
      rw (← sees_lub q (reads cat k st (rows ts rs ∷ []) e))
      (tests_hold st σ q (expr_data x) (test q (expr_class k root x)) _ (rw (append-nil (test q (expr_class k root x))) at last) rs 0 ts rs refl refl good_rows)
