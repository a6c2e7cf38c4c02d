-- What Translate writes stands and runs: the tree of an accepted view fits its records, opens at most 15 scopes in SELECT's own, and stands in its file.
-- Assumes nothing.
use Prim.Native.Nat.{ℕ, zero, suc, ◌+◌, ◌*◌, ◌<◌, ◌≤◌}
use mathlib.Core.Path.{◌≡◌, refl, ap, ◌∙◌}
use mathlib.Core.Bool.{Bool, true, false, cond}
use mathlib.Core.List.{List, [], ◌∷◌, ◌++◌, map, append_assoc}
use native.Mathlib.Omega.{arith}
use lib.ListN.{length, drop, length-append, length-map}
use Rattle.tree.proofs.Sizes.{length_file}
use lib.Seq.{drop_at}
use Rattle.word.specs.Header.{drt, header, count_at}
use Rattle.word.proofs.Laws.{length_header, header_count}
use Rattle.class.specs.Class.{dominatesb}
use Rattle.class.specs.Info.{bound_of}
use Rattle.cell.specs.declared.Type.{«Type» as Ty}
use Rattle.cell.specs.declared.Type.TheVariants as T
use Rattle.catalogue.specs.Fault.{check_of}
use Rattle.catalogue.specs.Tables.{Table, TabRef, catalogue_of}
use Rattle.word.specs.Refusal.{fine}
use Rattle.store.specs.Rows.{All}
use Rattle.view.specs.Ast.{Exp, Block, ok}
use Rattle.view.specs.Parse.{parse_view}
use Rattle.scope.specs.Scopes.{Open}
use Rattle.scope.specs.Blocks.{opened}
use Rattle.resolve.specs.Expr.{Expr, Select}
use Rattle.resolve.specs.Resolve.{goods, resolve_all, select, resolve_view}
use Rattle.resolve.proofs.Inversion.{all_good, view_good}
use Rattle.tree.specs.Tree.{Tree, SelectTree, tree_dom, tree_row_class, tree_class, size, size_select, table_recs, encode, encode_pairs, encode_select, tree_file}
use Rattle.tree.specs.Trans.{expr_data, expr_class, Class, fixed, tree, as_tree, bound, by_info}
use Rattle.tree.specs.Select.{test, table_tests, conj, root, translated}
use Rattle.run.specs.Stands.{Fits, scopes, PairsStand, SelectStands, PairsFit, SelectFits, PairsShallow, SelectShallow}
use Rattle.run.proofs.Encodes.{From, tables_on, tables_stand, head, step, stand}
use Rattle.reading.specs.Demands.{Bytes}
use Rattle.reading.proofs.Lists.{all_append}
use Rattle.reading.proofs.Files.{view_consts}
use Rattle.reading.proofs.WellTyped.{TablesRule, ScopesRule, ConstsOk, tables_rule, catalogue_rule}
use Rattle.filter.proofs.Formed.{Formed, nest, view_formed}
use Rattle.filter.proofs.Fitting.{TableSmall, TabsFit, Sound, deep, data_fits, data_scopes, ClassFits, class_const, tree_fits, by_fits, Words, class_fits}
use Rattle.filter.proofs.Sound.{ScopeSmall, catalogue_small, named_fit, opened_small, sound}

-- ---- an accepted view's SELECT is sound

-- a value that is sound and opens at most 14 scopes
abbrev pub ValueSound : Expr → Type 0
ValueSound x = Sound x × (deep x < 15)

pub record SelectSound (s : Select) : Type 0 where
  pub tables : TabsFit s.from
  pub test : ValueSound s.test
  pub values : All ValueSound s.values

values_sound : (cat : List Table) → TablesRule cat → All TableSmall cat → (Γ : List Open) → ScopesRule Γ → All ScopeSmall Γ →
    (es : List Exp) → All ConstsOk es → All Formed es → All (λ e. nest e < 15) es → (xs : List Expr) (ts : List Ty) →
    resolve_all cat Γ es ≡ goods xs ts → All ValueSound xs
unfolding resolve_all
values_sound cat r m Γ g s [] o h l xs ts e = let p : xs ≡ [] = cc in rw p tt
values_sound cat r m Γ g s (a ∷ es) o h l xs ts e =
    let w = all_good cat Γ a es xs ts e in
    let (i, j) = sound cat r m a o.0 h.0 Γ g s w.x w.t w.first in
    let k : deep w.x < 15 = omega (arith, j, l.0) in
    let n = values_sound cat r m Γ g s es o.1 h.1 l.1 w.ys w.us w.others in
    rw w.is ((i, k), n)

module _ (c v : List ℕ) (tables records : ℕ) (b : Block) (sel : Select) (tys : List Ty) (cat_bytes : Bytes c) (view_bytes : Bytes v)
    (catalogue_fine : check_of c ≡ fine tables) (view_fine : parse_view v ≡ ok b records) (view_resolved : resolve_view (catalogue_of c) b ≡ select sel tys) where
  pub view_sound : SelectSound sel
  view_sound =
      let r = catalogue_rule c tables catalogue_fine in
      let m = catalogue_small c tables cat_bytes catalogue_fine in
      let o = view_consts v b records view_bytes view_fine in
      let f = view_formed v b records view_bytes view_fine in
      let g = view_good (catalogue_of c) b sel tys view_resolved in
      let t = named_fit (catalogue_of c) b.tables sel.from m g.there f.some f.few in
      let u = tables_rule (catalogue_of c) b.tables sel.from r g.there in
      let w = opened_small sel.from t.small in
      let (i, j) = sound (catalogue_of c) r m b.test o.0 f.test (opened sel.from ∷ []) (u, tt) (w, tt) sel.test T.Boolean g.test in
      record {
        tables = t;
        test = (i, omega (arith, j, f.test_nest));
        values = values_sound (catalogue_of c) r m (opened sel.from ∷ []) (u, tt) (w, tt) b.values o.1 f.values f.values_nest sel.values tys g.values;
      }

-- ---- the tree of a sound SELECT fits, and is shallow

-- a tree that fits and opens at most d scopes
abbrev TreeFits : ℕ → Tree → Type 0
TreeFits d t = Fits t × (scopes t ≤ d)

test_fits : (q : ℕ) → q < 65536 → (d : ℕ) (i : Class) → ClassFits d i → All (TreeFits d) (test q i)
unfolding test Fits scopes
test_fits q l d i h = go (dominatesb q (bound i))
  where
    go : (z : Bool) → All (TreeFits d) (cond z [] (tree_dom (tree_class q) (as_tree i) ∷ []))
    go true = tt
    go false = let (a, b, c) = tree_fits d i h in (((class_const q l, a), omega arith), tt)

tables_fit : (q : ℕ) → q < 65536 → (d n : ℕ) (ts : List TabRef) → All (λ t. TableSmall t.table) ts → All (TreeFits d) (table_tests q n ts)
unfolding table_tests Fits scopes
tables_fit q l d n [] h = tt
tables_fit q l d n (t ∷ ts) h =
    all_append (TreeFits d) (test q (fixed t.table.tclass)) (test q (by_info t.table.row (tree_row_class 0 n)) ++ table_tests q (suc n) ts)
    (test_fits q l d (fixed t.table.tclass) h.0.class_small)
    (all_append (TreeFits d) (test q (by_info t.table.row (tree_row_class 0 n))) (table_tests q (suc n) ts)
    (test_fits q l d (by_info t.table.row (tree_row_class 0 n)) (by_fits d t.table.row (tree_row_class 0 n) h.0.row_small tt (omega arith)))
    (tables_fit q l d (suc n) ts h.1))

conj_fits : (d : ℕ) (ts : List Tree) (x : Tree) → All (TreeFits d) ts → TreeFits d x → TreeFits d (conj ts x)
unfolding conj Fits scopes
conj_fits d [] x h g = g
conj_fits d (t ∷ ts) x h g =
    let (i, j) = conj_fits d ts x h.1 g in
    let (a, b) = h.0 in
    ((a, i, omega arith), omega arith)

-- the only open scope is SELECT's own block
pub root_words : Words root
unfolding bound_of
root_words zero = omega arith
root_words (suc a) = omega arith

module _ (k q : ℕ) (k_small : k < 65536) (q_small : q < 65536) where
  value_fits : (x : Expr) → ValueSound x → TreeFits 14 (expr_data x) × TreeFits 14 (as_tree (expr_class k root x)) × ClassFits 14 (expr_class k root x)
  value_fits x (h, l) =
      let i = class_fits k k_small x h root root_words in
      let (a, b, c) = tree_fits (deep x) (expr_class k root x) i in
      ((data_fits x h, omega (arith, data_scopes x)), (a, omega arith), more (expr_class k root x) i)
    where
      more : (i : Class) → ClassFits (deep x) i → ClassFits 14 i
      more (fixed n) h = h
      more (tree t n) (f, s, m) = (f, omega arith, m)

  pairs_fit : (xs : List Expr) → All ValueSound xs → PairsFit (map (λ v. (expr_data v, as_tree (expr_class k root v))) xs)
  unfolding PairsFit
  pairs_fit [] h = tt
  pairs_fit (x ∷ xs) h = let (a, b, c) = value_fits x h.0 in (a.0, b.0, pairs_fit xs h.1)

  pairs_shallow : (xs : List Expr) → All ValueSound xs → PairsShallow (map (λ v. (expr_data v, as_tree (expr_class k root v))) xs)
  unfolding PairsShallow
  pairs_shallow [] h = tt
  pairs_shallow (x ∷ xs) h = let (a, b, c) = value_fits x h.0 in (omega (arith, a.1), omega (arith, b.1), pairs_shallow xs h.1)

  where_fits : (s : Select) → SelectSound s → TreeFits 14 (translated k q s).test
  unfolding translated
  where_fits s h =
      let (a, b, c) = value_fits s.test h.test in
      conj_fits 14 (table_tests q 0 s.from ++ test q (expr_class k root s.test)) (expr_data s.test)
      (all_append (TreeFits 14) (table_tests q 0 s.from) (test q (expr_class k root s.test)) (tables_fit q q_small 14 0 s.from h.tables.small) (test_fits q q_small 14 (expr_class k root s.test) c))
      a

  -- IT FITS
  pub select_fits : (s : Select) → SelectSound s → size_select (translated k q s) ≤ 8190 → SelectFits (translated k q s)
  unfolding translated
  select_fits s h l =
      let n = length-map s.from (λ t. t.num) in
      record {
        some = rw n h.tables.some;
        few = rw n h.tables.few;
        test = (where_fits s h).0;
        pairs = pairs_fit s.values h.values;
        short = l;
      }

  -- AND IS SHALLOW
  pub select_shallow : (s : Select) → SelectSound s → SelectShallow (translated k q s)
  unfolding translated
  select_shallow s h = record { test = omega (arith, (where_fits s h).1); pairs = pairs_shallow s.values h.values }

-- ---- a tree stands in its file

pairs_stand : (ps : List (Tree × Tree)) (s rest : List ℕ) (i : ℕ) → From s i (encode_pairs ps ++ rest) → PairsFit ps → PairsStand ps s i
unfolding encode_pairs PairsStand PairsFit
pairs_stand [] s rest i e h = tt
pairs_stand ((x, y) ∷ ps) s rest i e (f, g, h) =
    let (a, b) = step s i x (encode y ++ encode_pairs ps) rest e in
    let (c, d) = step s (i + size x) y (encode_pairs ps) rest b in
    (stand x s _ i a f, stand y s _ (i + size x) c g, pairs_stand ps s rest (i + size x + size y) d h)

file_from : (t : SelectTree) (rest : List ℕ) → From (tree_file t ++ rest) 0 (encode_select t ++ rest)
unfolding tree_file
file_from t rest =
    ap (λ (l : List ℕ). drop 8 l) (append_assoc (header drt (size_select t)) (encode_select t) rest) ∙
    drop_at (header drt (size_select t)) (encode_select t ++ rest) 8 (length_header drt (size_select t) refl)

file_inside : (t : SelectTree) (rest : List ℕ) → 8 + 8 * size_select t ≤ length (tree_file t ++ rest)
file_inside t rest = omega (arith, length-append (tree_file t) rest, length_file t)

-- WHAT IS WRITTEN STANDS, whatever follows it
pub select_stands : (t : SelectTree) (rest : List ℕ) → SelectFits t → SelectStands t (tree_file t ++ rest)
unfolding encode_select tree_file
select_stands t rest h =
    let s = tree_file t ++ rest in
    let xs = encode t.test ++ encode_pairs t.pairs in
    let (r, f) = head s 0 13 0 (length t.tabs) (length t.pairs) 0 (table_recs t.tabs ++ xs) rest (file_from t rest) in
    let g = f ∙ append_assoc (table_recs t.tabs) xs rest in
    let w = tables_on s _ 1 t.tabs g in
    let (a, b) = step s (1 + length t.tabs) t.test (encode_pairs t.pairs) rest w in
    record {
      head = r;
      tables = tables_stand t.tabs s _ 1 g;
      some = h.some;
      few = h.few;
      test = stand t.test s _ (1 + length t.tabs) a h.test;
      pairs = pairs_stand t.pairs s rest (1 + length t.tabs + size t.test) b h.pairs;
      count = ap (λ (l : List ℕ). count_at l) (append_assoc (header drt (size_select t)) (encode_select t) rest) ∙ header_count drt (size_select t) (encode_select t ++ rest) refl;
      inside = file_inside t rest;
      short = h.short;
    }
