-- AN ACCEPTED VIEW: its where and its values are accepted in the scope of SELECT's block, and its tree's file is made of their bytes.
-- Assumes nothing.
use Prim.Native.Nat.{ℕ, zero, suc, ◌+◌, ◌-◌, ◌*◌, ◌<◌, ◌≤◌}
use mathlib.Core.Path.{◌≡◌, refl, sym, ap, ap₂, subst, ◌∙◌}
use mathlib.Core.Bool.{cond}
use mathlib.Core.List.{List, [], ◌∷◌, ◌++◌, map, append_assoc}
use native.Mathlib.Omega.{arith}
use lib.ListN.{length, get_or, replicate}
use Rattle.word.specs.Refusal.{fine}
use Rattle.word.specs.Header.{drt, header, count_at}
use Rattle.word.specs.declared.writer.Writer.{Writer}
use Rattle.word.proofs.Laws.{length_header}
use Rattle.word.specs.Record.{rec_bytes}
use Rattle.class.specs.Class.{dominatesb}
use Rattle.class.specs.Info.{bound_of}
use Rattle.class.specs.declared.Info.{Info}
use Rattle.class.specs.declared.Info.TheVariants.{Fixed}
use Rattle.cell.specs.declared.Type.{«Type» as Ty}
use Rattle.cell.specs.declared.Type.TheVariants as T
use Rattle.catalogue.specs.Tables.{Table, TabRef, tables_from}
use Rattle.view.specs.Ast.{Exp, Block, Parsed, ok, next_of}
use Rattle.view.specs.Record.{node_at}
use Rattle.view.specs.Parse.{many, names_at, parse_value, parse_view}
use Rattle.view.specs.declared.Node.TheVariants.{Select as Sel}
use Rattle.view.proofs.Read.{InBlock, was_read, here_ok, more_ok, none_ok}
use Rattle.view.proofs.Whole.{Taken, taken, taken_count}
use Rattle.scope.specs.Scopes.{Open}
use Rattle.scope.specs.Table.{open_of, scopes_of, infos_of, blank}
use Rattle.scope.specs.Blocks.{Tabs, all, tables_named, refs_of, opened}
use Rattle.scope.specs.Entry.{type_in, opened_by, tables_in, rows_of, classes_of}
use Rattle.scope.specs.declared.Scope.{Scope}
use Rattle.scope.proofs.Named.{BlockOpened, block_opened, names_length}
use Rattle.resolve.specs.Expr.{Expr, Select}
use Rattle.resolve.specs.Resolve.{good, resolve, goods, resolve_all, Resolved, select, refused as denied, resolve_view}
use Rattle.resolve.specs.Claims.{or_no_table, Lent, resolved_by, verdict_of, Narrow, Tabled}
use Rattle.resolve.specs.declared.Files.{Files}
use Rattle.resolve.specs.declared.Sums.{Sums}
use Rattle.resolve.proofs.Entries.{entry_made}
use Rattle.resolve.proofs.Inversion.{ViewGood, view_good, all_good}
use Rattle.tree.specs.Tree.{Tree, size, size_pairs, size_select, table_recs, encode, encode_pairs, encode_select, tree_file}
use Rattle.tree.specs.Trans.{expr_data, expr_class, Class, as_tree, bound, nums}
use Rattle.tree.specs.Select.{test, table_tests, conj, root, translated}
use Rattle.tree.specs.Levels.{Fits}
use Rattle.tree.specs.Claims.{expr_at, data_at, next_at, refs_at, Accepted}
use Rattle.tree.proofs.Infos.{info_of_class, bound_info}
use Rattle.resolve.proofs.Narrow.{narrow_entry}
use Rattle.tree.proofs.Sizes.{size_data, size_class}
use Rattle.tree.proofs.Accepted.{Is, accept}
use Rattle.tree.proofs.Notes.{noted_long}
use Rattle.label.specs.Claims.{class_at}
use Rattle.label.specs.Rows.{rows_in}
use Rattle.label.specs.Whole.{select_in, select_at, tree_at, Viewed, Accepts, pair_bytes, flat, test_bytes, classes_in, flat_size, test_size}
use Rattle.label.specs.Left.{Left, LeftAll, LeftView, exprs_at}
use Rattle.label.proofs.Parts.{class_of_lem}
use Rattle.resolve.specs.Sizes.{capped, pairs_size, sums_of}
use Rattle.label.proofs.Counts.{flat_records, cap_all, test_counted}
use Rattle.label.proofs.Whole.{flat_append, flat_both, conj_bytes, tests_are, tests_sized}

-- the answer of an accepted view
is_select : (k : ℕ) (u : Sums) (R : Resolved) → verdict_of k R ≡ fine u → (ts : List Ty) × (R ≡ select (select_in R) ts)
unfolding verdict_of select_in
is_select k u (select s ts) e = (ts, refl)
is_select k u (denied i p) e = absurd (let z : ◌≡◌ {A = ℕ} 0 1 = cc in omega arith)

refs_of_lem : (tabs : Tabs) (ts : List TabRef) → tabs ≡ all ts → refs_of tabs ≡ ts
unfolding refs_of
refs_of_lem tabs ts e = ap refs_of e

rows_of_lem : (ts : List TabRef) → rows_of (map (λ r. r.table) ts) ≡ map (λ r. r.table.row) ts
rows_of_lem [] = refl
rows_of_lem (r ∷ rs) = ap (λ (xs : List Info). r.table.row ∷ xs) (rows_of_lem rs)

classes_of_lem : (ts : List TabRef) → classes_of (map (λ r. r.table) ts) ≡ map (λ r. r.table.tclass) ts
classes_of_lem [] = refl
classes_of_lem (r ∷ rs) = ap (λ (xs : List ℕ). r.table.tclass ∷ xs) (classes_of_lem rs)

rows_number : (ts : List TabRef) → length (map (λ r. r.table.row) ts) ≡ length ts
rows_number [] = refl
rows_number (r ∷ rs) = ap suc (rows_number rs)

nums_number : (ts : List TabRef) → length (nums ts) ≡ length ts
nums_number [] = refl
nums_number (r ∷ rs) = ap suc (nums_number rs)

-- each value's data and its class
abbrev pairs_of : ℕ → List Expr → List (Tree × Tree)
pairs_of k xs = map (λ v. (expr_data v, as_tree (expr_class k root v))) xs

pairs_number : (k : ℕ) (xs : List Expr) → length (pairs_of k xs) ≡ length xs
pairs_number k [] = refl
pairs_number k (x ∷ xs) = ap suc (pairs_number k xs)

parts_as : (v : List ℕ) (w : Taken v) (n a b : ℕ) → n ≡ count_at v → w.tables ≡ a → w.values ≡ b → InBlock v n (parse_value v n 15) a b 1 w.block n
parts_as v w n a b e x y = rw (e, ← x, ← y) w.parts

select_size : (k q : ℕ) (s : Select) → size_select (translated k q s)
    ≡ 1 + (length s.from + (flat_size (table_tests q 0 s.from) + (flat_size (test q (expr_class k root s.test)) + (size (expr_data s.test) + size_pairs (pairs_of k s.values)))))
unfolding size_select translated
select_size k q s =
    omega (arith, nums_number s.from, flat_records (table_tests q 0 s.from ++ test q (expr_class k root s.test)) (expr_data s.test), flat_both (table_tests q 0 s.from) (test q (expr_class k root s.test)))

-- what a view's sums say of its tree
pairs_size_lem : (k : ℕ) (xs : List Expr) → size_pairs (pairs_of k xs) ≡ pairs_size k root xs
unfolding size_pairs pairs_size
pairs_size_lem k [] = refl
pairs_size_lem k (x ∷ xs) = omega (arith, size_data x, size_class k root x, pairs_size_lem k xs)

record Summed (k : ℕ) (s : Select) (u : Sums) : Type 0 where
  upper : bound_of u.info ≡ bound (expr_class k root s.test)
  values_are : u.values ≡ capped (size (expr_data s.test))
  classes_are : u.classes ≡ capped (size (as_tree (expr_class k root s.test)))
  pairs_are : u.pairs ≡ capped (size_pairs (pairs_of k s.values))

sums_counted : (k : ℕ) (s : Select) (u : Sums) → u ≡ sums_of k s → Summed k s u
unfolding sums_of
sums_counted k s u e =
    record {
      upper = ap (λ (x : Sums). bound_of x.info) e ∙ ap bound_of (sym (info_of_class k root s.test)) ∙ bound_info (expr_class k root s.test);
      values_are = ap (λ (x : Sums). x.values) e ∙ ap capped (sym (size_data s.test));
      classes_are = ap (λ (x : Sums). x.classes) e ∙ ap capped (sym (size_class k root s.test));
      pairs_are = ap (λ (x : Sums). x.pairs) e ∙ ap capped (sym (pairs_size_lem k s.values));
    }

-- SELECT's records, in order
select_bytes : (k q : ℕ) (s : Select)
    → encode_select (translated k q s)
    ≡ rec_bytes 13 0 (length s.from) (length s.values) 0 ++ (table_recs (nums s.from)
    ++ (flat (table_tests q 0 s.from) ++ (flat (test q (expr_class k root s.test)) ++ (encode (expr_data s.test) ++ encode_pairs (pairs_of k s.values)))))
unfolding encode_select translated
select_bytes k q s =
    ap₂ (λ (m n : ℕ). rec_bytes 13 0 m n 0 ++ (table_recs (nums s.from) ++ (encode (conj (table_tests q 0 s.from ++ test q (expr_class k root s.test)) (expr_data s.test)) ++ encode_pairs (pairs_of k s.values))))
    (nums_number s.from) (pairs_number k s.values)
    ∙ ap (λ (l : List ℕ). rec_bytes 13 0 (length s.from) (length s.values) 0 ++ (table_recs (nums s.from) ++ l))
    (ap (λ (l : List ℕ). l ++ encode_pairs (pairs_of k s.values))
    (conj_bytes (table_tests q 0 s.from ++ test q (expr_class k root s.test)) (expr_data s.test) ∙ ap (λ (l : List ℕ). l ++ encode (expr_data s.test)) (flat_append (table_tests q 0 s.from) (test q (expr_class k root s.test))))
    ∙ append_assoc (flat (table_tests q 0 s.from) ++ flat (test q (expr_class k root s.test))) (encode (expr_data s.test)) _
    ∙ append_assoc (flat (table_tests q 0 s.from)) (flat (test q (expr_class k root s.test))) _)

-- the root is SELECT
pub root_there : (c ss v : List ℕ) (f : Files) (w : Viewed c ss v f) → (a : ℕ) × (b : ℕ) × (node_at v 0 ≡ Sel a b)
root_there c ss v f w = let t = taken v refl w.given.taken in (t.tables, t.values, t.root)

pub root_long : (c ss v : List ℕ) (f : Files) (w : Viewed c ss v f) → 8 + 8 * 0 + 8 ≤ length v
root_long c ss v f w = let t = taken v refl w.given.taken in omega (arith, t.some, t.long)

pub room_head : {x : Writer} (n : ℕ) → Fits (header drt n) x → x.at + 8 ≤ length x.out.now
room_head n r = omega (arith, r.within, length_header drt n refl)

module _ (c ss v : List ℕ) (f : Files) (w : Viewed c ss v f) (tables values : ℕ) (g : node_at v 0 ≡ Sel tables values) where
  abbrev cat : List Table
  cat = tables_from c f.nc f.nc 0

  view : Taken v
  view = taken v refl w.given.taken

  count_is : f.n ≡ count_at v
  count_is = taken_count v refl w.given.taken

  sel_tables : Sel view.tables view.values ≡ Sel tables values → view.tables ≡ tables
  sel_tables e = cc

  sel_values : Sel view.tables view.values ≡ Sel tables values → view.values ≡ values
  sel_values e = cc

  tables_are : view.tables ≡ tables
  tables_are = sel_tables (sym view.root ∙ g)

  values_are : view.values ≡ values
  values_are = sel_values (sym view.root ∙ g)

  parts : InBlock v f.n (parse_value v f.n 15) tables values 1 view.block f.n
  parts = parts_as v view f.n tables values count_is tables_are values_are

  pub some_tables : 1 ≤ tables
  some_tables = omega (arith, tables_are, view.some_tables)

  pub few_tables : tables ≤ 4
  few_tables = omega (arith, tables_are, view.few_tables)

  lent : Lent c ss v f
  lent =
      record {
        cat_long = w.given.cat_long;
        cat_few = w.given.cat_few;
        starts = w.given.starts;
        view_long = omega (arith, view.long, count_is);
        view_few = omega (arith, view.few, count_is);
      }

  by_block : (P : Parsed Block) (b : Block) (end : ℕ) → P ≡ ok b end → resolved_by cat P ≡ resolve_view cat b
  unfolding resolved_by
  by_block P b end e = ap (resolved_by cat) e

  is_selected : (ts : List Ty) × (resolved_by cat (parse_view v) ≡ select (select_at c v f) ts)
  unfolding select_at
  is_selected = is_select f.k w.sums (resolved_by cat (parse_view v)) w.fine

  view_is : ViewGood cat view.block (select_at c v f) is_selected.0
  view_is = view_good cat view.block (select_at c v f) is_selected.0 (sym (by_block (parse_view v) view.block _ view.whole) ∙ is_selected.1)

  from_is : tables_named cat (names_at v 1 tables) ≡ all (select_at c v f).from
  from_is = ap (tables_named cat) (sym parts.names) ∙ view_is.there

  pub root_few : 8 + 8 * (1 + tables) ≤ length v
  root_few =
      let h = (here_ok v f.n 15 (1 + tables) (was_read parts.first)).here in
      let l = lent.view_long in
      omega arith

  refs_are : refs_at c f.nc v 1 tables ≡ (select_at c v f).from
  unfolding refs_at
  refs_are = refs_of_lem (tables_named cat (names_at v 1 tables)) (select_at c v f).from from_is

  pub root_tabled : Tabled c f.nc ss f.tables v 1 tables
  unfolding refs_at
  root_tabled =
      record {
        cat_long = w.given.cat_long;
        starts = w.given.starts;
        view_long = root_few;
        few = few_tables;
        found = from_is ∙ ap all (sym refs_are);
      }

  module _ (o : Scope) (p : fine o ≡ or_no_table (opened_by ss (tables_named (tables_from c f.nc f.nc 0) (names_at v 1 tables)))) where
    pub entry : BlockOpened c f.nc (tables_named (tables_from c f.nc f.nc 0) (names_at v 1 tables)) o
    entry = block_opened c f.nc f.tables ss v 1 tables o w.given.starts w.given.cat_few (some_tables, few_tables) (entry_made _ o p)

    scopes_are : scopes_of c f.nc (replicate 16 o) 1 ≡ opened (select_at c v f).from ∷ []
    unfolding scopes_of
    scopes_are = ap (λ (s : Open). s ∷ []) (entry.opens ∙ ap opened (refs_of_lem _ _ from_is))

    infos_are : infos_of (replicate 16 o) 1 ≡ Fixed 0 ∷ []
    unfolding infos_of
    infos_are = ap (λ (i : Info). i ∷ []) entry.known

    narrow : (j : ℕ) → j < 1 → Narrow (type_in (get_or (replicate 16 o) j blank))
    narrow zero l = narrow_entry o entry.untyped
    narrow (suc j) l = absurd (omega arith)

    value_at : (m : ℕ) (e : Exp) (k : ℕ) (x : Expr) (ty : Ty) → parse_value v f.n 15 m ≡ ok e k → resolve cat (opened (select_at c v f).from ∷ []) e ≡ good x ty
        → Is c ss v f (replicate 16 o) 1 15 m x ty
    value_at m e k x ty h r =
        accept c ss v f (replicate 16 o) 1 15 m
        (record { lent = lent; sized = refl; not_many = omega arith; is_read = was_read h; here = (here_ok v f.n 15 m (was_read h)).here; left = omega arith; narrow = narrow })
        h (ap (λ (Γ : List Open). resolve cat Γ e) scopes_are ∙ r)

    test_is : Is c ss v f (replicate 16 o) 1 15 (1 + tables) (select_at c v f).test T.Boolean
    test_is = value_at (1 + tables) _ _ _ _ parts.first view_is.test

    pub test_there : Accepted c ss v f (replicate 16 o) 1 15 (1 + tables)
    test_there = test_is.accepted

    class_root : (m : ℕ) (x : Expr) → expr_at c v f (replicate 16 o) 1 15 m ≡ x → class_at c v f (replicate 16 o) 1 15 m ≡ expr_class f.k root x
    class_root m x e = class_of_lem c v f (replicate 16 o) 1 15 m x e ∙ ap (λ (is : List Info). expr_class f.k is x) infos_are

    data_root : (m : ℕ) (x : Expr) → expr_at c v f (replicate 16 o) 1 15 m ≡ x → data_at c v f (replicate 16 o) 1 15 m ≡ expr_data x
    unfolding data_at
    data_root m x e = ap expr_data e

    next_root : (m : ℕ) (e : Exp) (k : ℕ) → parse_value v f.n 15 m ≡ ok e k → next_at v f 15 m ≡ k
    unfolding next_at next_of
    next_root m e k h = ap next_of h

    -- the values, one after the other
    record Row (count m : ℕ) (xs : List Expr) : Type 0 where
      all_there : Accepts c ss v f (replicate 16 o) count m
      bytes : pair_bytes c v f (replicate 16 o) count m ≡ encode_pairs (pairs_of f.k xs)
      exprs : exprs_at c v f (replicate 16 o) count m ≡ xs
      number : length xs ≡ count

    no_row_lem : (m : ℕ) → Row 0 m []
    unfolding Accepts pair_bytes encode_pairs exprs_at
    no_row_lem m = record { all_there = tt; bytes = refl; exprs = refl; number = refl }

    one_row : (i m : ℕ) (x : Expr) (xs : List Expr) (ty : Ty) → Is c ss v f (replicate 16 o) 1 15 m x ty → Row i (next_at v f 15 m) xs → Row (suc i) m (x ∷ xs)
    unfolding Accepts pair_bytes encode_pairs exprs_at
    one_row i m x xs ty h r =
        record {
          all_there = (h.accepted, r.all_there);
          bytes = ap₂ (λ (a b : List ℕ). a ++ (b ++ pair_bytes c v f (replicate 16 o) i (next_at v f 15 m)))
              (ap encode (data_root m x h.expr_as)) (ap (λ (z : Class). encode (as_tree z)) (class_root m x h.expr_as))
              ∙ ap (λ (l : List ℕ). encode (expr_data x) ++ (encode (as_tree (expr_class f.k root x)) ++ l)) r.bytes;
          exprs = ap₂ (λ (y : Expr) (ys : List Expr). y ∷ ys) h.expr_as r.exprs;
          number = ap suc r.number;
        }

    ok_list : {es fs : List Exp} {a b : ℕ} → ok es a ≡ ok fs b → es ≡ fs
    ok_list e = cc

    none_goods : (xs : List Expr) (us : List Ty) → resolve_all cat (opened (select_at c v f).from ∷ []) [] ≡ goods xs us → [] ≡ xs
    unfolding resolve_all
    none_goods xs us e = cc

    row : (count m : ℕ) (es : List Exp) (end : ℕ) (xs : List Expr) (us : List Ty) → many (parse_value v f.n 15) count m ≡ ok es end
        → resolve_all cat (opened (select_at c v f).from ∷ []) es ≡ goods xs us → Row count m xs
    row zero m es end xs us h r =
        let z : [] ≡ es = ok_list (sym (none_ok (parse_value v f.n 15) m) ∙ h) in
        subst (Row 0 m) (none_goods xs us (ap (resolve_all cat (opened (select_at c v f).from ∷ [])) z ∙ r)) (no_row_lem m)
    row (suc i) m es end xs us h r =
        let k = more_ok (parse_value v f.n 15) (suc i) m (omega arith) (was_read h) in
        let z : es ≡ k.head ∷ k.tail = ok_list (sym h ∙ k.whole) in
        let a = all_good cat (opened (select_at c v f).from ∷ []) k.head k.tail xs us (ap (resolve_all cat (opened (select_at c v f).from ∷ [])) (sym z) ∙ r) in
        let n : suc i - 1 ≡ i = omega arith in
        let rest : many (parse_value v f.n 15) i (next_at v f 15 m) ≡ ok k.tail k.end
        = ap₂ (many (parse_value v f.n 15)) (sym n) (next_root m _ _ k.first) ∙ k.rest in
        subst (Row (suc i) m) (sym a.is) (one_row i m a.x a.ys a.t (value_at m _ _ _ _ k.first a.first) (row i (next_at v f 15 m) k.tail k.end a.ys a.us rest a.others))

    values_row : Row values (next_at v f 15 (1 + tables)) (select_at c v f).values
    values_row = row values (next_at v f 15 (1 + tables)) _ _ _ _ (ap (many (parse_value v f.n 15) values) (next_root (1 + tables) _ _ parts.first) ∙ parts.rest) view_is.values

    pub values_there : {m : ℕ} → m ≡ next_at v f 15 (1 + tables) → Accepts c ss v f (replicate 16 o) values m
    values_there {m} e = subst (λ (n : ℕ). Accepts c ss v f (replicate 16 o) values n) (sym e) values_row.all_there

    own_tables : tables_in (open_of c f.nc o) ≡ map (λ r. r.table) (select_at c v f).from
    unfolding tables_in
    own_tables = ap tables_in (entry.opens ∙ ap opened (refs_of_lem _ _ from_is))

    from_number : length (select_at c v f).from ≡ tables
    from_number = names_length cat v 1 tables (select_at c v f).from from_is

    -- what the walk left of the where, and of the values from record m on
    module _ (ws es : List ℕ) (l : LeftView c v f ws es) where
      view_left : LeftAll f.k (infos_of (replicate 16 o) 1) ws es 0 (expr_at c v f (replicate 16 o) 1 15 (1 + tables) ∷ exprs_at c v f (replicate 16 o) values (next_at v f 15 (1 + tables))) (1 + tables)
      unfolding LeftView
      view_left = rw (infos_are, test_is.expr_as, values_row.exprs, ← from_number) l

      pub test_left : Left f.k (infos_of (replicate 16 o) 1) ws es 0 (expr_at c v f (replicate 16 o) 1 15 (1 + tables)) (1 + tables)
      unfolding LeftAll
      test_left = view_left.0

      pub values_left : {m : ℕ} → m ≡ next_at v f 15 (1 + tables) → LeftAll f.k (infos_of (replicate 16 o) 1) ws es 1 (exprs_at c v f (replicate 16 o) values m) m
      unfolding LeftAll
      values_left e = rw e (rw (noted_long c ss v f (replicate 16 o) 1 15 (1 + tables) test_there) at view_left.1)

    root_tests : (q : ℕ) → test_bytes q (classes_in c f.nc o) (rows_in c f.nc o) 0 tables ≡ flat (table_tests q 0 (select_at c v f).from)
    root_tests q =
        ap (test_bytes q (classes_in c f.nc o) (rows_in c f.nc o) 0) (sym from_number)
        ∙ tests_are q (classes_in c f.nc o) (rows_in c f.nc o) 0 (select_at c v f).from
        (ap classes_of own_tables ∙ classes_of_lem (select_at c v f).from) (ap rows_of own_tables ∙ rows_of_lem (select_at c v f).from)

    -- THE FILE, in the order in which it is written
    pub file_bytes : (q count : ℕ) {m : ℕ} → count ≡ size_select (tree_at c v f q) → m ≡ next_at v f 15 (1 + tables)
        → tree_file (tree_at c v f q)
        ≡ header drt count ++ (rec_bytes 13 0 tables values 0 ++ (table_recs (nums (refs_at c f.nc v 1 tables))
        ++ (test_bytes q (classes_in c f.nc o) (rows_in c f.nc o) 0 tables
        ++ (flat (test q (class_at c v f (replicate 16 o) 1 15 (1 + tables)))
        ++ (encode (data_at c v f (replicate 16 o) 1 15 (1 + tables)) ++ pair_bytes c v f (replicate 16 o) values m)))))
    unfolding tree_file tree_at
    file_bytes q count {m} e h =
        ap (λ (n : ℕ). header drt n ++ encode_select (translated f.k q (select_at c v f))) (sym e)
        ∙ ap (λ (l : List ℕ). header drt count ++ l)
        (select_bytes f.k q (select_at c v f)
        ∙ ap₂ (λ (a b : ℕ). rec_bytes 13 0 a b 0 ++ (table_recs (nums (select_at c v f).from) ++ (flat (table_tests q 0 (select_at c v f).from) ++ (flat (test q (expr_class f.k root (select_at c v f).test)) ++ (encode (expr_data (select_at c v f).test) ++ encode_pairs (pairs_of f.k (select_at c v f).values))))))
        from_number values_row.number
        ∙ ap₂ (λ (a : List TabRef) (b : List ℕ). rec_bytes 13 0 tables values 0 ++ (table_recs (nums a) ++ (b ++ (flat (test q (expr_class f.k root (select_at c v f).test)) ++ (encode (expr_data (select_at c v f).test) ++ encode_pairs (pairs_of f.k (select_at c v f).values))))))
        (sym refs_are) (sym (root_tests q))
        ∙ ap (λ (l : List ℕ). rec_bytes 13 0 tables values 0 ++ (table_recs (nums (refs_at c f.nc v 1 tables)) ++ (test_bytes q (classes_in c f.nc o) (rows_in c f.nc o) 0 tables ++ l)))
        (ap₂ (λ (a : Class) (b : Tree). flat (test q a) ++ (encode b ++ encode_pairs (pairs_of f.k (select_at c v f).values)))
        (sym (class_root (1 + tables) _ test_is.expr_as)) (sym (data_root (1 + tables) _ test_is.expr_as))
        ∙ ap (λ (l : List ℕ). flat (test q (class_at c v f (replicate 16 o) 1 15 (1 + tables))) ++ (encode (data_at c v f (replicate 16 o) 1 15 (1 + tables)) ++ l))
        (sym values_row.bytes ∙ ap (pair_bytes c v f (replicate 16 o) values) (sym h))))

    root_sizes : (q : ℕ) → test_size q (classes_in c f.nc o) (rows_in c f.nc o) 0 tables ≡ flat_size (table_tests q 0 (select_at c v f).from)
    root_sizes q =
        ap (test_size q (classes_in c f.nc o) (rows_in c f.nc o) 0) (sym from_number)
        ∙ tests_sized q (classes_in c f.nc o) (rows_in c f.nc o) 0 (select_at c v f).from
        (ap classes_of own_tables ∙ classes_of_lem (select_at c v f).from) (ap rows_of own_tables ∙ rows_of_lem (select_at c v f).from)

    tree_size : (q : ℕ) → size_select (tree_at c v f q)
        ≡ 1 + (tables + (test_size q (classes_in c f.nc o) (rows_in c f.nc o) 0 tables
        + (flat_size (test q (expr_class f.k root (select_at c v f).test)) + (size (expr_data (select_at c v f).test) + size_pairs (pairs_of f.k (select_at c v f).values)))))
    unfolding tree_at
    tree_size q = omega (arith, select_size f.k q (select_at c v f), root_sizes q, from_number)

    -- HOW MANY RECORDS, as they are counted
    pub size_counted : (q a b z i j k r : ℕ) (u : Sums) → u ≡ sums_of f.k (select_at c v f)
        → a ≡ capped (test_size q (classes_in c f.nc o) (rows_in c f.nc o) 0 tables)
        → z ≡ bound_of u.info → b ≡ cond (dominatesb q z) 0 (capped (3 + u.classes))
        → i ≡ capped (1 + tables + a) → j ≡ capped (b + u.values) → k ≡ capped (j + u.pairs) → r ≡ capped (i + k) → r ≡ capped (size_select (tree_at c v f q))
    size_counted q a b z i j k r u e g y h u1 u2 u3 u4 =
        let w = sums_counted f.k (select_at c v f) u e in
        cap_all tables a b u.values u.pairs i j k _ _ _ _ g (test_counted q _ (y ∙ w.upper) w.classes_are h) w.values_are w.pairs_are u1 u2 u3 u4
        ∙ ap capped (sym (tree_size q))
