-- A refusal's number is never 0: number 0 says that the files were accepted.
-- Assumes nothing.
use Prim.Native.Nat.{ℕ, zero, suc, ◌+◌, ◌*◌}
use mathlib.Core.Path.{◌≡◌, refl}
use mathlib.Core.Bool.{Bool, true, false, cond, ◌&&◌}
use mathlib.Core.List.{List, [], ◌∷◌}
use native.Mathlib.Omega.{arith}
use lib.Dec.{eqb, ltb, leb}
use lib.ListN.{length}
use Rattle.word.specs.Bytes.{within}
use Rattle.word.specs.Refusal.{Checked, fine, refusal}
use Rattle.word.specs.Refusal as checked
use Rattle.word.specs.Header.{drc, drq, drs, headed, count_at}
use Rattle.cell.specs.Res.{Res, stuck, done, or_else}
use Rattle.cell.specs.Types.{kind_of, binop_type, limb_type}
use Rattle.cell.specs.declared.Type.{«Type» as Ty}
use Rattle.catalogue.specs.Fault as fault
use Rattle.catalogue.specs.Tables.{Table, TabRef, catalogue_of}
use Rattle.catalogue.proofs.Meaning.{lowest_refused}
use Rattle.store.specs.Layout as layout
use Rattle.store.specs.Rows.{store_of}
use Rattle.view.specs.Ast.{TabName, Exp, Block, first_of, Parsed, ok, refused, and_then}
use Rattle.view.specs.Ast as ast
use Rattle.view.specs.Record.{node_at, slot_of}
use Rattle.view.specs.Parse.{enter_node, enter, many, name_of, parse_table, parse_block, parse_node, parse_value, root_node, parse_root, parse_view}
use Rattle.view.specs.declared.Node.{Node}
use Rattle.view.specs.declared.Node.TheVariants.{Const, Binop, Not, If, Exists, Single, Table as TableNode, Select as SelectNode, Col, Classof, Let, Bad}
use Rattle.scope.specs.Scopes.{Open, local, Hit, column, bound, Only, none, one, more, find}
use Rattle.scope.specs.Blocks.{Tabs, all, missing, tables_named, opened}
use Rattle.resolve.specs.Expr.{Expr}
use Rattle.resolve.specs.Totals.{pick_type}
use Rattle.resolve.specs.Resolve as names
use Rattle.resolve.specs.Resolve.{Out, good, bad, then, col_out, class_out, on_tabs, ruled, need_bool, resolve, Outs, goods, bads, also_out, resolve_all, Resolved, with_values, with_test, with_tabs, resolve_view}
use Rattle.tree.specs.Tree.{SelectTree, size_select}
use Rattle.tree.specs.Select.{translated}
use Rattle.run.specs.Answer.{Shown, run_select, answer_file}
use Rattle.filter.specs.Jobs.{resolved_by, view_by, tree_fits, tree_of, answer_fits, answer_of, translate, translate_over, answer}

abbrev Some : ℕ → Type 0
Some n = n ≡ 0 → ⊥

some : (n : ℕ) → Some (suc n)
some n e = omega arith

-- ---- the view's structure

abbrev Read : {A : Type 0} → Parsed A → Type 0
Read (ok a next) = Unit {0}
Read (refused number place) = Some number

read_then : {A B : Type 0} (P : Parsed A) (f : A → ℕ → Parsed B) → Read P → ((a : A) (next : ℕ) → Read (f a next)) → Read (and_then P f)
unfolding and_then
read_then (ok a next) f h g = g a next
read_then (refused number place) f h g = h

read_cond : {A : Type 0} (z : Bool) (P Q : Parsed A) → Read P → Read Q → Read (cond z P Q)
read_cond true P Q h g = h
read_cond false P Q h g = g

read_enter : (v : List ℕ) (n slot at : ℕ) → Read (enter v n slot at)
unfolding enter enter_node
read_enter v n slot at =
    read_cond (ltb at n) (enter_node slot at (node_at v at)) (refused 4 n)
    (read_cond (eqb (slot_of (node_at v at)) 0) (refused 3 at) (cond (eqb (slot_of (node_at v at)) slot) (ok (node_at v at) (at + 1)) (refused 4 at)) (some 2)
    (read_cond (eqb (slot_of (node_at v at)) slot) (ok (node_at v at) (at + 1)) (refused 4 at) tt (some 3))) (some 3)

read_many : {A : Type 0} (p : ℕ → Parsed A) → ((at : ℕ) → Read (p at)) → (count at : ℕ) → Read (many p count at)
unfolding many
read_many p h zero at = tt
read_many p h (suc count) at = read_then (p at) _ (h at) (λ x next. read_then (many p count next) _ (read_many p h count next) (λ xs end. tt))

read_table : (v : List ℕ) (n d at : ℕ) → Read (parse_table v n d at)
unfolding parse_table
read_table v n d at =
    read_then (enter v n 2 at) _ (read_enter v n 2 at) (λ node next.
    read_cond (eqb d 0) (refused 5 at) (ok (record { at = at; name = name_of node }) next) (some 4) tt)

module _ (v : List ℕ) (n d : ℕ) (value : ℕ → Parsed Exp) (h : (at : ℕ) → Read (value at)) where
  read_block : (tables values at : ℕ) → Read (parse_block v n d value tables values at)
  unfolding parse_block
  read_block tables values at =
      read_then (many (parse_table v n d) tables at) _ (read_many (parse_table v n d) (read_table v n d) tables at) (λ ts a.
      read_then (value a) _ (h a) (λ w b.
      read_then (many value values b) _ (read_many value h values b) (λ vs e. tt)))

  read_node : (at : ℕ) (nd : Node) → Read (parse_node v n d value at nd)
  unfolding parse_node
  read_node at (Const t x) = tt
  read_node at (Binop op) = read_then (value (at + 1)) _ (h (at + 1)) (λ l a. read_then (value a) _ (h a) (λ r b. tt))
  read_node at Not = read_then (value (at + 1)) _ (h (at + 1)) (λ e a. tt)
  read_node at If =
      read_then (value (at + 1)) _ (h (at + 1)) (λ c a. read_then (value a) _ (h a) (λ l b. read_then (value b) _ (h b) (λ r e. tt)))
  read_node at (Exists tables q) = read_then (parse_block v n d value tables 0 (at + 1)) _ (read_block tables 0 (at + 1)) (λ b next. tt)
  read_node at (Single tables q) = read_then (parse_block v n d value tables 1 (at + 1)) _ (read_block tables 1 (at + 1)) (λ b next. tt)
  read_node at (TableNode name) = some 3
  read_node at (SelectNode tables values) = some 3
  read_node at (Col name q) = tt
  read_node at (Classof name q) = tt
  read_node at (Let name) = read_then (value (at + 1)) _ (h (at + 1)) (λ e a. read_then (value a) _ (h a) (λ b c. tt))
  read_node at Bad = some 2

read_value : (v : List ℕ) (n d at : ℕ) → Read (parse_value v n d at)
unfolding parse_value
read_value v n zero at = read_then (enter v n 1 at) _ (read_enter v n 1 at) (λ node next. some 4)
read_value v n (suc d) at =
    read_then (enter v n 1 at) _ (read_enter v n 1 at) (λ node next. read_node v n d (parse_value v n d) (read_value v n d) at node)

read_root : (v : List ℕ) (n : ℕ) (nd : Node) → Read (root_node v n nd)
unfolding root_node
read_root v n (Const t x) = some 3
read_root v n (Binop op) = some 3
read_root v n Not = some 3
read_root v n If = some 3
read_root v n (Exists tables q) = some 3
read_root v n (Single tables q) = some 3
read_root v n (TableNode name) = some 3
read_root v n (SelectNode tables values) = read_block v n 15 (parse_value v n 15) (read_value v n 15) tables values 1
read_root v n (Col name q) = some 3
read_root v n (Classof name q) = some 3
read_root v n (Let name) = some 3
read_root v n Bad = some 3

read_view : (v : List ℕ) → Read (parse_view v)
unfolding parse_view parse_root
read_view v =
    read_cond (headed drq v) (cond (within 1 1024 (count_at v) && eqb (length v) (8 + 8 * count_at v)) (parse_root v (count_at v)) (refused 2 0)) (refused 1 0)
    (read_cond (within 1 1024 (count_at v) && eqb (length v) (8 + 8 * count_at v)) (parse_root v (count_at v)) (refused 2 0)
    (read_then (enter v (count_at v) 3 0) _ (read_enter v (count_at v) 3 0) (λ node next.
    read_then (root_node v (count_at v) node) _ (read_root v (count_at v) node) (λ b end.
    read_cond (eqb end (count_at v)) (ok b end) (refused 4 end) tt (some 3)))) (some 1)) (some 0)

-- ---- names and types

abbrev Found : Out → Type 0
Found (good x t) = Unit {0}
Found (bad number place) = Some number

found_then : (o : Out) (f : Expr → Ty → Out) → Found o → ((x : Expr) (t : Ty) → Found (f x t)) → Found (then o f)
unfolding then
found_then (good x t) f h g = g x t
found_then (bad number place) f h g = h

found_tabs : (ts : Tabs) (f : List TabRef → Out) → ((us : List TabRef) → Found (f us)) → Found (on_tabs ts f)
unfolding on_tabs
found_tabs (all us) f g = g us
found_tabs (missing p) f g = some 5

found_ruled : (at : ℕ) (r : Res Ty) (f : Ty → Out) → ((t : Ty) → Found (f t)) → Found (ruled at r f)
unfolding ruled
found_ruled at stuck f g = some 8
found_ruled at (done t) f g = g t

found_bool : (at : ℕ) (t : Ty) (o : Out) → Found o → Found (need_bool at t o)
unfolding need_bool
found_bool at t o h = go (eqb (kind_of t) 1)
  where
    go : (z : Bool) → Found (cond z o (bad 9 at))
    go true = h
    go false = some 8

found_col : (at : ℕ) (o : Only Hit) → Found (col_out at o)
unfolding col_out
found_col at none = some 6
found_col at (one (column a b c t k)) = tt
found_col at (one (bound a t)) = tt
found_col at more = some 7

found_class : (at : ℕ) (o : Only Hit) → Found (class_out at o)
unfolding class_out
found_class at none = some 6
found_class at (one (column a b c t k)) = tt
found_class at (one (bound a t)) = some 6
found_class at more = some 7

found : (cat : List Table) (Γ : List Open) (e : Exp) → Found (resolve cat Γ e)
unfolding resolve
found cat Γ (ast.Exp.const at t v) = tt
found cat Γ (ast.Exp.binop at op l r) =
    found_then (resolve cat Γ l) _ (found cat Γ l) (λ x s.
    found_then (resolve cat Γ r) _ (found cat Γ r) (λ y t. found_ruled at (binop_type op s t) _ (λ u. tt)))
found cat Γ (ast.Exp.neg at e) = found_then (resolve cat Γ e) _ (found cat Γ e) (λ x t. found_bool at t _ tt)
found cat Γ (ast.Exp.if at c l r) =
    found_then (resolve cat Γ c) _ (found cat Γ c) (λ x s.
    found_then (resolve cat Γ l) _ (found cat Γ l) (λ y t.
    found_then (resolve cat Γ r) _ (found cat Γ r) (λ z u. found_bool at s _ (found_ruled at (limb_type t u) _ (λ w. tt)))))
found cat Γ (ast.Exp.exists at q ns w) =
    found_tabs (tables_named cat ns) _ (λ ts.
    found_then (resolve cat (opened ts ∷ Γ) w) _ (found cat (opened ts ∷ Γ) w) (λ x t. found_bool at t _ tt))
found cat Γ (ast.Exp.single at q ns w v) =
    found_tabs (tables_named cat ns) _ (λ ts.
    found_then (resolve cat (opened ts ∷ Γ) w) _ (found cat (opened ts ∷ Γ) w) (λ x s.
    found_then (resolve cat (opened ts ∷ Γ) v) _ (found cat (opened ts ∷ Γ) v) (λ y t. found_bool at s _ (found_ruled at (pick_type q t) _ (λ u. tt)))))
found cat Γ (ast.Exp.col at name q) = found_col at (find name q 0 Γ)
found cat Γ (ast.Exp.classof at name q) = found_class at (find name q 0 Γ)
found cat Γ (ast.Exp.letin at name v b) =
    found_then (resolve cat Γ v) _ (found cat Γ v) (λ x s.
    found_then (resolve cat (local name s ∷ Γ) b) _ (found cat (local name s ∷ Γ) b) (λ y t. tt))

abbrev FoundAll : Outs → Type 0
FoundAll (goods xs ts) = Unit {0}
FoundAll (bads number place) = Some number

found_also : (o : Out) (rest : Outs) → Found o → FoundAll rest → FoundAll (also_out o rest)
unfolding also_out
found_also (good x t) (goods xs ts) h g = tt
found_also (good x t) (bads number place) h g = g
found_also (bad number place) rest h g = h

found_all : (cat : List Table) (Γ : List Open) (es : List Exp) → FoundAll (resolve_all cat Γ es)
unfolding resolve_all
found_all cat Γ [] = tt
found_all cat Γ (e ∷ es) = found_also (resolve cat Γ e) (resolve_all cat Γ es) (found cat Γ e) (found_all cat Γ es)

abbrev Named : Resolved → Type 0
Named (names.select s ts) = Unit {0}
Named (names.refused number place) = Some number

named_values : (ts : List TabRef) (x : Expr) (s : Ty) (vs : Outs) → FoundAll vs → Named (with_values ts x s vs)
unfolding with_values
named_values ts x s (goods ys tys) h = go (eqb (kind_of s) 1)
  where
    go : (z : Bool) → Named (cond z (names.select (record { from = ts; test = x; values = ys }) tys) (names.refused 9 0))
    go true = tt
    go false = some 8
named_values ts x s (bads number place) h = h

named_test : (ts : List TabRef) (o : Out) (vs : Outs) → Found o → FoundAll vs → Named (with_test ts o vs)
unfolding with_test
named_test ts (good x s) vs h g = named_values ts x s vs g
named_test ts (bad number place) vs h g = h

named_tabs : (cat : List Table) (b : Block) (ts : Tabs) → Named (with_tabs cat b ts)
unfolding with_tabs
named_tabs cat b (all ts) = named_test ts (resolve cat (opened ts ∷ []) b.test) (resolve_all cat (opened ts ∷ []) b.values) (found cat (opened ts ∷ []) b.test) (found_all cat (opened ts ∷ []) b.values)
named_tabs cat b (missing p) = some 5

named_view : (cat : List Table) (b : Block) → Named (resolve_view cat b)
unfolding resolve_view
named_view cat b = named_tabs cat b (tables_named cat b.tables)

-- ---- the jobs

abbrev pub Numbered : {A : Type 0} → Checked A → Type 0
Numbered (fine a) = Unit {0}
Numbered (refusal number place) = number ≡ 0 → ⊥

numbered_then : {A B : Type 0} (x : Checked A) (f : A → Checked B) → Numbered x → ((a : A) → Numbered (f a)) → Numbered (checked.and_then x f)
numbered_then (fine a) f h g = g a
numbered_then (refusal number place) f h g = h

numbered_cond : {A : Type 0} (z : Bool) (x y : Checked A) → Numbered x → Numbered y → Numbered (cond z x y)
numbered_cond true x y h g = h
numbered_cond false x y h g = g

by_names : (x : Resolved) → Named x → Numbered (resolved_by x)
unfolding resolved_by
by_names (names.select s ts) h = tt
by_names (names.refused number place) h = h

by_view : (cat : List Table) (P : Parsed Block) → Read P → Numbered (view_by cat P)
unfolding view_by
by_view cat (ok b next) h = by_names (resolve_view cat b) (named_view cat b)
by_view cat (refused number place) h = h

by_lowest : (c : List ℕ) (n : ℕ) (r : Checked ℕ) → fault.lowest c n n 0 ≡ r → Numbered r
by_lowest c n (fine t) e = tt
by_lowest c n (refusal f p) e = (lowest_refused c n n 0 f p e).some_fault

by_catalogue : (c : List ℕ) → Numbered (fault.check_of c)
unfolding fault.check_of
by_catalogue c = go (headed drc c) (within 1 2080 (count_at c) && eqb (length c) (8 + 8 * count_at c))
  where
    go : (a b : Bool) → Numbered (cond a (cond b (fault.lowest c (count_at c) (count_at c) 0) (refusal 22 0)) (refusal 21 0))
    go true true = by_lowest c (count_at c) (fault.lowest c (count_at c) (count_at c) 0) refl
    go true false = some 21
    go false b = some 20

by_store : (c : List ℕ) (n t : ℕ) (s : List ℕ) → Numbered (layout.check_of c n t s)
unfolding layout.check_of layout.verdict_by
by_store c n t s =
    go (headed drs s) ((leb (length s) 65528 && eqb (count_at s) t) && eqb (layout.end_from c n s n 0 8) (length s)) (eqb (layout.fault_from c n s n 0 8) 0)
  where
    go : (a b d : Bool) → Numbered (cond a (cond b (cond d (fine (tt {0})) (refusal 33 (layout.fault_from c n s n 0 8))) (refusal 32 0)) (refusal 31 0))
    go true true true = tt
    go true true false = some 32
    go true false d = some 31
    go false b d = some 30

module _ (c v : List ℕ) (k q : ℕ) (room : ℕ) where
  by_fits : (t : SelectTree) → Numbered (tree_fits room t)
  unfolding tree_fits
  by_fits t = numbered_cond (leb (size_select t) 8190 && leb (8 + 8 * size_select t) room) (fine t) (refusal 10 0) tt (some 9)

  by_tree : Numbered (tree_of c v k q room)
  unfolding tree_of
  by_tree =
      numbered_then (view_by (catalogue_of c) (parse_view v)) (λ s. tree_fits room (translated k q s)) (by_view (catalogue_of c) (parse_view v) (read_view v))
      (λ s. by_fits (translated k q s))

  by_rows : (space : ℕ) (rs : List (List Shown)) → Numbered (answer_fits space rs)
  unfolding answer_fits
  by_rows space rs = numbered_cond (leb (length rs) 65535 && leb (length (answer_file rs)) space) (fine rs) (refusal 41 0) tt (some 40)

  -- TRANSLATE
  pub translate_numbered : Numbered (translate c v k q room)
  unfolding translate
  translate_numbered = numbered_then (fault.check_of c) _ (by_catalogue c) (λ t. by_tree)

  -- ANSWER
  pub answer_numbered : (s : List ℕ) (space : ℕ) → Numbered (answer c v k q s room space)
  unfolding answer translate_over answer_of
  answer_numbered s space =
      numbered_then (translate_over c v k q s room) _
      (numbered_then (fault.check_of c) _ (by_catalogue c) (λ t.
      numbered_then (layout.check_of c (count_at c) t s) _ (by_store c (count_at c) t s) (λ _. by_tree)))
      (λ t. by_rows space (or_else [] (run_select (store_of c s) q t)))
