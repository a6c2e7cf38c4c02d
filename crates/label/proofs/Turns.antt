-- The class writer, one law for each place of its code: what is accepted there, and the bytes of a class from those of its parts.
-- Assumes nothing.
use Prim.Native.Nat.{ℕ, suc, ◌+◌, ◌-◌, ◌≤◌}
use mathlib.Core.Path.{◌≡◌, refl, sym, ap, ap₂, subst, ◌∙◌}
use mathlib.Core.List.{List, [], ◌∷◌, ◌++◌, map}
use native.Mathlib.Omega.{arith}
use lib.ListN.{length, set}
use Rattle.word.specs.Refusal.{fine}
use Rattle.word.specs.Record.{rec_bytes}
use Rattle.class.specs.Class.{lub_all}
use Rattle.class.specs.Info.{join_i, choice_i}
use Rattle.class.specs.declared.Info.{Info}
use Rattle.class.specs.declared.Info.TheVariants.{Fixed, Bound}
use Rattle.cell.specs.declared.Type.{«Type» as Ty}
use Rattle.cell.specs.declared.Value.{Value}
use Rattle.catalogue.specs.Tables.{TabRef, tables_from}
use Rattle.view.specs.Record.{node_at}
use Rattle.view.specs.Parse.{names_at}
use Rattle.view.specs.declared.Fold.{Fold}
use Rattle.view.specs.declared.Pick.{Pick}
use Rattle.view.specs.declared.Node.{Node}
use Rattle.view.specs.declared.Node.TheVariants.{Const, Binop, Not, If, Let, Col, Classof}
use Rattle.scope.specs.Scopes.{find}
use Rattle.scope.specs.Table.{scopes_of, infos_of, found_of, open_of}
use Rattle.scope.specs.Blocks.{tables_named}
use Rattle.scope.specs.Entry.{count_in, local_scope, opened_by, tables_in, rows_of, classes_of}
use Rattle.scope.specs.declared.Scope.{Scope}
use Rattle.scope.specs.declared.Found.{Found}
use Rattle.resolve.specs.Infos.{table_class}
use Rattle.resolve.specs.Claims.{or_no_table, block_node}
use Rattle.resolve.specs.declared.Asked.{Asked}
use Rattle.resolve.specs.declared.Asked.TheVariants as ask
use Rattle.resolve.specs.declared.Files.{Files}
use Rattle.tree.specs.Tree.{Tree, encode, table_recs}
use Rattle.tree.specs.Trans.{Class, fixed, as_tree, info_of, nums, join, join_all, choice, let_class, row_classes, block_class}
use Rattle.tree.specs.Claims.{type_at, info_at, data_at, next_at, refs_at, Accepted}
use Rattle.tree.proofs.Infos.{join_info, choice_info, let_info}
use Rattle.tree.proofs.Accepted.{LetIs, BlockIs, const_is, col_is, classof_is, not_is, binop_is, if_is, let_is, block_is, exists_is, single_is}
use Rattle.label.specs.Claims.{class_at, IsTree, IsBinop}
use Rattle.label.specs.Found.{cell_tree, row_tree}
use Rattle.tree.specs.Levels.{Told}
use Rattle.tree.specs.declared.Part.{Part}
use Rattle.label.specs.Rows.{rows_to, rows_in, all_rows, Rowed, Valued, at_where, at_kept, at_valued, at_row}
use Rattle.label.proofs.Joins.{class_bytes, fixed_bytes, join_turned, join_open, choice_open, let_fixed, let_open, block_bytes}
use Rattle.label.proofs.FromLeft.{rows_where, rows_value}
use Rattle.label.proofs.Parts.{class_known, const_class, not_class, binop_class, if_class, let_class_lem, exists_class, single_class, col_bytes, classof_bytes}

fixed_bound : {A : Type 0} {a b : ℕ} → Fixed a ≡ Bound b → A
fixed_bound e = absurd (let z : ◌≡◌ {A = ℕ} 0 1 = cc in omega arith)

-- ---- what is known of a class, and its bytes

module _ (i : Class) {h : Info} (k : h ≡ info_of i) where
  pub known_fixed : {a : ℕ} → h ≡ Fixed a → encode (as_tree i) ≡ rec_bytes 6 0 a 0 0
  known_fixed {a} g = fixed_bytes i a (sym k ∙ g)

  pub known_tree : {b : ℕ} → h ≡ Bound b → IsTree i
  known_tree {b} g = record { upper = b; is = sym k ∙ g }

module _ {c v : List ℕ} {f : Files} {t : List Scope} {deep d at : ℕ} {x : Part} (k : Told c v f t deep d at x) where
  pub told_fixed : {a : ℕ} → x.info ≡ Fixed a → encode (as_tree (class_at c v f t deep d at)) ≡ rec_bytes 6 0 a 0 0
  told_fixed g = known_fixed (class_at c v f t deep d at) (class_known k) g

  pub told_tree : {b : ℕ} → x.info ≡ Bound b → IsTree (class_at c v f t deep d at)
  told_tree g = known_tree (class_at c v f t deep d at) (class_known k) g

-- a choice of two, by what is known of both
module _ {c v : List ℕ} {f : Files} {t : List Scope} {deep d : ℕ} {x y : ℕ} {a b : Part} (e : Tree) (k : Told c v f t deep d x a) (l : Told c v f t deep d y b)
    {h : Info} (i : h ≡ choice_i a.info b.info) where
  chosen_info : info_of (choice e (class_at c v f t deep d x) (class_at c v f t deep d y)) ≡ h
  chosen_info = choice_info e (class_at c v f t deep d x) (class_at c v f t deep d y) ∙ sym (i ∙ ap₂ choice_i (class_known k) (class_known l))

  pub choice_fixed : {n : ℕ} → h ≡ Fixed n → encode (as_tree (choice e (class_at c v f t deep d x) (class_at c v f t deep d y))) ≡ rec_bytes 6 0 n 0 0
  choice_fixed {n} g = fixed_bytes _ n (chosen_info ∙ g)

  pub choice_tree : {n : ℕ} → h ≡ Bound n → encode (as_tree (choice e (class_at c v f t deep d x) (class_at c v f t deep d y)))
      ≡ rec_bytes 9 0 0 0 0 ++ (encode e ++ (encode (as_tree (class_at c v f t deep d x)) ++ encode (as_tree (class_at c v f t deep d y))))
  choice_tree {n} g = choice_open e (class_at c v f t deep d x) (class_at c v f t deep d y) n (chosen_info ∙ g)

zero_info : info_of (fixed 0) ≡ Fixed 0
unfolding info_of
zero_info = refl

zero_bytes : encode (as_tree (fixed 0)) ≡ rec_bytes 6 0 0 0 0
unfolding as_tree
zero_bytes = class_bytes 0

-- the choice of a value's class and 0
module _ {c v : List ℕ} {f : Files} {t : List Scope} {deep d x : ℕ} {a : Part} (w : ℕ) (k : Told c v f t deep d x a) {h : Info} (i : h ≡ choice_i a.info (Fixed 0)) where
  pub kept_info : info_of (at_kept c v f t deep d w x) ≡ h
  unfolding at_kept
  kept_info = choice_info (data_at c v f t deep d w) (class_at c v f t deep d x) (fixed 0) ∙ sym (i ∙ ap₂ choice_i (class_known k) (sym zero_info))

  pub kept_fixed : {n : ℕ} → h ≡ Fixed n → encode (as_tree (at_kept c v f t deep d w x)) ≡ rec_bytes 6 0 n 0 0
  kept_fixed {n} g = fixed_bytes _ n (kept_info ∙ g)

  pub kept_tree : {n : ℕ} → h ≡ Bound n → encode (as_tree (at_kept c v f t deep d w x))
      ≡ rec_bytes 9 0 0 0 0 ++ (encode (data_at c v f t deep d w) ++ (encode (as_tree (class_at c v f t deep d x)) ++ rec_bytes 6 0 0 0 0))
  unfolding at_kept
  kept_tree {n} g =
      choice_open (data_at c v f t deep d w) (class_at c v f t deep d x) (fixed 0) n (choice_info (data_at c v f t deep d w) (class_at c v f t deep d x) (fixed 0) ∙ sym (i ∙ ap₂ choice_i (class_known k) (sym zero_info)) ∙ g)
      ∙ ap (λ (l : List ℕ). rec_bytes 9 0 0 0 0 ++ (encode (data_at c v f t deep d w) ++ (encode (as_tree (class_at c v f t deep d x)) ++ l))) zero_bytes

-- a join of two, by what is known of both
module _ (i j : Class) {x y h : Info} (p : x ≡ info_of i) (q : y ≡ info_of j) (e : h ≡ join_i x y) where
  joined_info : info_of (join i j) ≡ h
  joined_info = join_info i j ∙ sym (e ∙ ap₂ join_i p q)

  pub joined_fixed : {n : ℕ} → h ≡ Fixed n → encode (as_tree (join i j)) ≡ rec_bytes 6 0 n 0 0
  joined_fixed {n} g = fixed_bytes (join i j) n (joined_info ∙ g)

  pub joined_turned : {n a : ℕ} → h ≡ Bound n → x ≡ Fixed a → encode (as_tree (join i j)) ≡ rec_bytes 25 0 0 0 0 ++ (encode (as_tree j) ++ encode (as_tree i))
  joined_turned {n} {a} g k = join_turned i j a n (sym p ∙ k) (joined_info ∙ g)

  pub joined_open : {a : ℕ} → x ≡ Bound a → encode (as_tree (join i j)) ≡ rec_bytes 25 0 0 0 0 ++ (encode (as_tree i) ++ encode (as_tree j))
  joined_open {a} k = join_open i j a (sym p ∙ k)

rows_number : (ts : List TabRef) → length (map (λ r. r.table.row) ts) ≡ length ts
rows_number [] = refl
rows_number (r ∷ rs) = ap suc (rows_number rs)

nums_number : (ts : List TabRef) → length (nums ts) ≡ length ts
nums_number [] = refl
nums_number (r ∷ rs) = ap suc (nums_number rs)

-- what is read at a row, by what is asked
module _ {a : Asked} (c v : List ℕ) (f : Files) (t : List Scope) (deep d at : ℕ) (s : Scope) where
  pub asked_rows : {q : Fold} → a ≡ ask.Rows q → encode (as_tree (at_row a c v f t deep d at s)) ≡ encode (as_tree (at_where c v f t deep d at s))
  unfolding at_row
  asked_rows e = ap (λ (b : Asked). encode (as_tree (at_row b c v f t deep d at s))) e

  pub asked_value : {g : Pick} → a ≡ ask.Values g → encode (as_tree (at_row a c v f t deep d at s)) ≡ encode (as_tree (at_valued c v f t deep d at s))
  unfolding at_row
  asked_value e = ap (λ (b : Asked). encode (as_tree (at_row b c v f t deep d at s))) e

-- what is read at a row
module _ (c v : List ℕ) (f : Files) (t : List Scope) (deep d at : ℕ) (s : Scope) where
  where_is : at_where c v f t deep d at s ≡ join (all_rows c f.nc s) (class_at c v f t deep d at)
  unfolding at_where
  where_is = refl

  valued_is : (m : ℕ) → m ≡ next_at v f d at → at_valued c v f t deep d at s ≡ join (at_where c v f t deep d at s) (at_kept c v f t deep d at m)
  unfolding at_valued
  valued_is m e = ap (λ (l : ℕ). join (at_where c v f t deep d at s) (at_kept c v f t deep d at l)) (sym e)

  -- the row classes up to the last table j, and the where
  module _ {j : ℕ} (l : (j ≡ count_in s - 1) × (j ≤ 4)) {x : Part} (k : Told c v f t deep d at x) {i : Info} (p : i ≡ info_of (rows_to (rows_in c f.nc s) j)) {h : Info} (e : h ≡ join_i i x.info) where
    all_is : i ≡ info_of (all_rows c f.nc s)
    all_is = p ∙ ap (λ (n : ℕ). info_of (rows_to (rows_in c f.nc s) n)) l.0

    last_is : encode (as_tree (all_rows c f.nc s)) ≡ encode (as_tree (rows_to (rows_in c f.nc s) j))
    last_is = ap (λ (n : ℕ). encode (as_tree (rows_to (rows_in c f.nc s) n))) (sym l.0)

    where_info : h ≡ info_of (at_where c v f t deep d at s)
    where_info = sym (ap info_of where_is ∙ joined_info _ _ all_is (class_known k) e)

    pub where_fixed : {n : ℕ} → h ≡ Fixed n → encode (as_tree (at_where c v f t deep d at s)) ≡ rec_bytes 6 0 n 0 0
    where_fixed g = ap (λ (z : Class). encode (as_tree z)) where_is ∙ joined_fixed _ _ all_is (class_known k) e g

    pub where_turned : {n a : ℕ} → h ≡ Bound n → i ≡ Fixed a → encode (as_tree (at_where c v f t deep d at s))
        ≡ rec_bytes 25 0 0 0 0 ++ (encode (as_tree (class_at c v f t deep d at)) ++ encode (as_tree (rows_to (rows_in c f.nc s) j)))
    where_turned g q =
        ap (λ (z : Class). encode (as_tree z)) where_is ∙ joined_turned _ _ all_is (class_known k) e g q
        ∙ ap (λ (z : List ℕ). rec_bytes 25 0 0 0 0 ++ (encode (as_tree (class_at c v f t deep d at)) ++ z)) last_is

    pub where_open : {a : ℕ} → i ≡ Bound a → encode (as_tree (at_where c v f t deep d at s))
        ≡ rec_bytes 25 0 0 0 0 ++ (encode (as_tree (rows_to (rows_in c f.nc s) j)) ++ encode (as_tree (class_at c v f t deep d at)))
    where_open q =
        ap (λ (z : Class). encode (as_tree z)) where_is ∙ joined_open _ _ all_is (class_known k) e q
        ∙ ap (λ (z : List ℕ). rec_bytes 25 0 0 0 0 ++ (z ++ encode (as_tree (class_at c v f t deep d at)))) last_is

    -- and the choice of the value's class and 0
    module _ {y : Part} (q : Told c v f t deep d x.next y) {w : Info} (r : w ≡ choice_i y.info (Fixed 0)) {z : Info} (u : z ≡ join_i h w) where
      row_as : at_valued c v f t deep d at s ≡ join (at_where c v f t deep d at s) (at_kept c v f t deep d at x.next)
      row_as = valued_is x.next k.next_is

      pub row_fixed : {n : ℕ} → z ≡ Fixed n → encode (as_tree (at_valued c v f t deep d at s)) ≡ rec_bytes 6 0 n 0 0
      row_fixed g = ap (λ (b : Class). encode (as_tree b)) row_as ∙ joined_fixed _ _ where_info (sym (kept_info at q r)) u g

      pub row_turned : {n a : ℕ} → z ≡ Bound n → h ≡ Fixed a → encode (as_tree (at_valued c v f t deep d at s))
          ≡ rec_bytes 25 0 0 0 0 ++ (encode (as_tree (at_kept c v f t deep d at x.next)) ++ encode (as_tree (at_where c v f t deep d at s)))
      row_turned g m = ap (λ (b : Class). encode (as_tree b)) row_as ∙ joined_turned _ _ where_info (sym (kept_info at q r)) u g m

      pub row_open : {a : ℕ} → h ≡ Bound a → encode (as_tree (at_valued c v f t deep d at s))
          ≡ rec_bytes 25 0 0 0 0 ++ (encode (as_tree (at_where c v f t deep d at s)) ++ encode (as_tree (at_kept c v f t deep d at x.next)))
      row_open m = ap (λ (b : Class). encode (as_tree b)) row_as ∙ joined_open _ _ where_info (sym (kept_info at q r)) u m

-- the value of a block that has one, where the code holds it
pub value_there : {c ss v : List ℕ} {f : Files} {t : List Scope} {deep d at : ℕ} {x : Part} → Accepted c ss v f t deep d (next_at v f d at) → Told c v f t deep d at x → Accepted c ss v f t deep d x.next
value_there {c} {ss} {v} {f} {t} {deep} {d} {at} {x} w k = subst (λ (m : ℕ). Accepted c ss v f t deep d m) (sym k.next_is) w

-- ---- BY KIND, at an accepted value
module _ {c ss v : List ℕ} {f : Files} {t : List Scope} {deep d at : ℕ} (w : Accepted c ss v f t deep d at) where
  module _ {nd : Node} (e : nd ≡ node_at v at) where
    pub no_const : {s : Ty} {x : Value} → IsTree (class_at c v f t deep d at) → nd ≡ Const s x → ⊥
    no_const {s} {x} b g = fixed_bound (sym (const_class c v f t deep d at s x (const_is c ss v f t deep d at w nd e g).0) ∙ b.is)

    pub operand_there : nd ≡ Not → Accepted c ss v f t deep (d - 1) (at + 1)
    operand_there g = (not_is c ss v f t deep d at w nd e g).operand

    pub operand_bytes : nd ≡ Not → encode (as_tree (class_at c v f t deep d at)) ≡ encode (as_tree (class_at c v f t deep (d - 1) (at + 1)))
    operand_bytes g = ap (λ (z : Class). encode (as_tree z)) (not_class c v f t deep d at (not_is c ss v f t deep d at w nd e g).is)

    pub binop_here : {op : ℕ} → nd ≡ Binop op → IsBinop v at
    binop_here {op} g = record { op = op; is = sym e ∙ g }

    pub cell_bytes : {name q : ℕ} {h : Found} → IsTree (class_at c v f t deep d at) → nd ≡ Col name q → h ≡ found_of (infos_of t deep) (find name q 0 (scopes_of c f.nc t deep))
        → encode (as_tree (class_at c v f t deep d at)) ≡ encode (cell_tree h)
    cell_bytes {name} {q} {h} b g p = col_bytes c v f t deep d at b name q h p (col_is c ss v f t deep d at w nd e g).0

    pub row_bytes : {name q : ℕ} {h : Found} → IsTree (class_at c v f t deep d at) → nd ≡ Classof name q → h ≡ found_of (infos_of t deep) (find name q 0 (scopes_of c f.nc t deep))
        → encode (as_tree (class_at c v f t deep d at)) ≡ encode (row_tree h)
    row_bytes {name} {q} {h} b g p = classof_bytes c v f t deep d at b name q h p (classof_is c ss v f t deep d at w nd e g).0

  -- BINOP
  module _ (g : IsBinop v at) where
    pub left_there : Accepted c ss v f t deep (d - 1) (at + 1)
    left_there = (binop_is c ss v f t deep d at w _ refl g.op _ g.is refl).left

    module _ {x : Part} (k : Told c v f t deep (d - 1) (at + 1) x) where
      pub right_there : Accepted c ss v f t deep (d - 1) x.next
      right_there = (binop_is c ss v f t deep d at w _ refl g.op x.next g.is k.next_is).right

      binop_join : class_at c v f t deep d at ≡ join (class_at c v f t deep (d - 1) (at + 1)) (class_at c v f t deep (d - 1) x.next)
      binop_join = binop_class c v f t deep d at g.op _ x.next (binop_is c ss v f t deep d at w _ refl g.op x.next g.is k.next_is).is

      pub binop_turned : {a : ℕ} → IsTree (class_at c v f t deep d at) → x.info ≡ Fixed a → encode (as_tree (class_at c v f t deep d at))
          ≡ rec_bytes 25 0 0 0 0 ++ (encode (as_tree (class_at c v f t deep (d - 1) x.next)) ++ encode (as_tree (class_at c v f t deep (d - 1) (at + 1))))
      binop_turned {a} b i =
          ap (λ (z : Class). encode (as_tree z)) binop_join ∙ join_turned _ _ a b.upper (sym (class_known k) ∙ i) (ap info_of (sym binop_join) ∙ b.is)

      pub binop_open : {a : ℕ} → x.info ≡ Bound a → encode (as_tree (class_at c v f t deep d at))
          ≡ rec_bytes 25 0 0 0 0 ++ (encode (as_tree (class_at c v f t deep (d - 1) (at + 1))) ++ encode (as_tree (class_at c v f t deep (d - 1) x.next)))
      binop_open {a} i = ap (λ (z : Class). encode (as_tree z)) binop_join ∙ join_open _ _ a (sym (class_known k) ∙ i)

  -- IF
  module _ (g : node_at v at ≡ If) where
    pub test_there : Accepted c ss v f t deep (d - 1) (at + 1)
    test_there = (if_is c ss v f t deep d at w _ refl _ _ g refl refl).test

    module _ {x : Part} (k : Told c v f t deep (d - 1) (at + 1) x) where
      pub yes_there : Accepted c ss v f t deep (d - 1) x.next
      yes_there = (if_is c ss v f t deep d at w _ refl x.next _ g k.next_is refl).yes

      module _ {y : Part} (l : Told c v f t deep (d - 1) x.next y) where
        pub no_there : Accepted c ss v f t deep (d - 1) y.next
        no_there = (if_is c ss v f t deep d at w _ refl x.next y.next g k.next_is l.next_is).no

        abbrev limbs : Class
        limbs = choice (data_at c v f t deep (d - 1) (at + 1)) (class_at c v f t deep (d - 1) x.next) (class_at c v f t deep (d - 1) y.next)

        if_join : class_at c v f t deep d at ≡ join (class_at c v f t deep (d - 1) (at + 1)) limbs
        if_join = if_class c v f t deep d at x.next y.next _ _ _ (if_is c ss v f t deep d at w _ refl x.next y.next g k.next_is l.next_is).is

        pub if_turned : {a : ℕ} → IsTree (class_at c v f t deep d at) → x.info ≡ Fixed a → encode (as_tree (class_at c v f t deep d at))
            ≡ rec_bytes 25 0 0 0 0 ++ (encode (as_tree (choice (data_at c v f t deep (d - 1) (at + 1)) (class_at c v f t deep (d - 1) x.next) (class_at c v f t deep (d - 1) y.next))) ++ encode (as_tree (class_at c v f t deep (d - 1) (at + 1))))
        if_turned {a} b i = ap (λ (z : Class). encode (as_tree z)) if_join ∙ join_turned _ _ a b.upper (sym (class_known k) ∙ i) (ap info_of (sym if_join) ∙ b.is)

        pub if_open : {a : ℕ} → x.info ≡ Bound a → encode (as_tree (class_at c v f t deep d at))
            ≡ rec_bytes 25 0 0 0 0 ++ (encode (as_tree (class_at c v f t deep (d - 1) (at + 1))) ++ encode (as_tree (choice (data_at c v f t deep (d - 1) (at + 1)) (class_at c v f t deep (d - 1) x.next) (class_at c v f t deep (d - 1) y.next))))
        if_open {a} i = ap (λ (z : Class). encode (as_tree z)) if_join ∙ join_open _ _ a (sym (class_known k) ∙ i)

  -- LET
  module _ {name : ℕ} (g : node_at v at ≡ Let name) where
    pub own_there : Accepted c ss v f t deep (d - 1) (at + 1)
    own_there = (let_is c ss v f t deep d at w _ refl name _ (local_scope name (type_at c v f t deep (d - 1) (at + 1)) (info_at c v f t deep (d - 1) (at + 1))) _ g refl refl refl).value

    module _ {x : Part} (k : Told c v f t deep (d - 1) (at + 1) x) {s : Scope} (p : s ≡ local_scope name x.ty x.info) {u : List Scope} (q : u ≡ set t deep s) where
      bound_there : LetIs c ss v f t u deep d at x.next
      bound_there = let_is c ss v f t deep d at w _ refl name x.next s u g k.next_is (p ∙ ap₂ (local_scope name) k.ty_is (k.info_is)) q

      pub body_there : Accepted c ss v f u (deep + 1) (d - 1) x.next
      body_there = bound_there.body

      let_join : class_at c v f t deep d at ≡ let_class (data_at c v f t deep (d - 1) (at + 1)) (class_at c v f t deep (d - 1) (at + 1)) (class_at c v f u (deep + 1) (d - 1) x.next)
      let_join = let_class_lem c v f t deep d at u x.next bound_there.is bound_there.infos

      body_open : (b : IsTree (class_at c v f t deep d at)) → info_of (class_at c v f u (deep + 1) (d - 1) x.next) ≡ Bound b.upper
      body_open b = sym (let_info _ _ _) ∙ ap info_of (sym let_join) ∙ b.is

      pub bind_bytes : {a : ℕ} → IsTree (class_at c v f t deep d at) → x.info ≡ Fixed a → encode (as_tree (class_at c v f t deep d at))
          ≡ rec_bytes 23 0 0 0 0 ++ (encode (data_at c v f t deep (d - 1) (at + 1)) ++ encode (as_tree (class_at c v f u (deep + 1) (d - 1) x.next)))
      bind_bytes {a} b i = ap (λ (z : Class). encode (as_tree z)) let_join ∙ let_fixed _ _ _ a b.upper (sym (class_known k) ∙ i) (body_open b)

      pub bindc_bytes : {a : ℕ} → IsTree (class_at c v f t deep d at) → x.info ≡ Bound a → encode (as_tree (class_at c v f t deep d at))
          ≡ rec_bytes 24 0 0 0 0 ++ (encode (as_tree (class_at c v f t deep (d - 1) (at + 1))) ++ (encode (data_at c v f t deep (d - 1) (at + 1)) ++ encode (as_tree (class_at c v f u (deep + 1) (d - 1) x.next))))
      bindc_bytes {a} b i = ap (λ (z : Class). encode (as_tree z)) let_join ∙ let_open _ _ _ a b.upper (sym (class_known k) ∙ i) (body_open b)

  -- A BLOCK, by what is asked of it
  module _ (asked : Asked) (count : ℕ) (g : node_at v at ≡ block_node asked count) {o : Scope}
      (p : fine o ≡ or_no_table (opened_by ss (tables_named (tables_from c f.nc f.nc 0) (names_at v (at + 1) count)))) {u : List Scope} (q : u ≡ set t deep o) where
    pub opened_there : BlockIs c ss v f t u deep d at count o
    opened_there = block_is c ss v f t deep d at w asked count g o p u q

    abbrev refs : List TabRef
    refs = refs_at c f.nc v (at + 1) count

    own_tables : tables_in (open_of c f.nc o) ≡ map (λ r. r.table) (refs_at c f.nc v (at + 1) count)
    unfolding tables_in refs_at
    own_tables = ap tables_in opened_there.entry.opens

    refs_count : count_in o ≡ length (refs_at c f.nc v (at + 1) count)
    unfolding refs_at
    refs_count = opened_there.entry.counted

    map_twice : (ts : List TabRef) → map (λ x. x.row) (map (λ r. r.table) ts) ≡ map (λ r. r.table.row) ts
    map_twice [] = refl
    map_twice (r ∷ rs) = ap (λ (xs : List Info). r.table.row ∷ xs) (map_twice rs)

    map_classes : (ts : List TabRef) → map (λ x. x.tclass) (map (λ r. r.table) ts) ≡ map (λ r. r.table.tclass) ts
    map_classes [] = refl
    map_classes (r ∷ rs) = ap (λ (xs : List ℕ). r.table.tclass ∷ xs) (map_classes rs)

    rows_are : rows_in c f.nc o ≡ map (λ r. r.table.row) (refs_at c f.nc v (at + 1) count)
    rows_are = ap rows_of own_tables ∙ map_twice (refs_at c f.nc v (at + 1) count)

    pub rowed : Rowed c f.nc o
    rowed =
        let b = opened_there in
        let n = refs_count in
        let m = b.counted in
        let k = b.some in
        let l = b.tabled.few in
        record {
          long = w.ready.lent.cat_long;
          among = b.entry.among;
          some = omega arith;
          few = omega arith;
          counted = n ∙ sym (ap length rows_are ∙ rows_number (refs_at c f.nc v (at + 1) count));
        }

    pub value_of : Valued asked c ss v f u (deep + 1) (d - 1) (at + 1 + count)
    value_of = record { value = λ h e. (single_is c ss v f t deep d at w asked count g o p u q h _ e refl).value }

    inside : join_all (row_classes 0 refs ++ (class_at c v f u (deep + 1) (d - 1) (at + 1 + count) ∷ [])) ≡ at_where c v f u (deep + 1) (d - 1) (at + 1 + count) o
    unfolding at_where
    inside = rows_where (rows_in c f.nc o) refs rows_are (count_in o) refs_count rowed.some _

    inside_value : join_all (row_classes 0 refs ++ (class_at c v f u (deep + 1) (d - 1) (at + 1 + count) ∷ choice (data_at c v f u (deep + 1) (d - 1) (at + 1 + count)) (class_at c v f u (deep + 1) (d - 1) (next_at v f (d - 1) (at + 1 + count))) (fixed 0) ∷ []))
        ≡ at_valued c v f u (deep + 1) (d - 1) (at + 1 + count) o
    unfolding at_valued at_where at_kept
    inside_value = rows_value (rows_in c f.nc o) refs rows_are (count_in o) refs_count rowed.some _ _

    exists_block : (h : Fold) → asked ≡ ask.Rows h → class_at c v f t deep d at ≡ block_class refs (class_at c v f u (deep + 1) (d - 1) (at + 1 + count) ∷ [])
    exists_block h e = exists_class c v f t deep d at u (at + 1 + count) h refs (exists_is c ss v f t deep d at w asked count g o p u q h e).is opened_there.infos

    single_block : (h : Pick) → asked ≡ ask.Values h → class_at c v f t deep d at
        ≡ block_class refs (class_at c v f u (deep + 1) (d - 1) (at + 1 + count) ∷ choice (data_at c v f u (deep + 1) (d - 1) (at + 1 + count)) (class_at c v f u (deep + 1) (d - 1) (next_at v f (d - 1) (at + 1 + count))) (fixed 0) ∷ [])
    single_block h e = single_class c v f t deep d at u (at + 1 + count) _ h refs (single_is c ss v f t deep d at w asked count g o p u q h _ e refl).is opened_there.infos

    -- the block's class, by what is read at a row
    record AsBlock : Type 0 where
      us : List Class
      whole : class_at c v f t deep d at ≡ block_class refs us
      row : join_all (row_classes 0 refs ++ us) ≡ at_row asked c v f u (deep + 1) (d - 1) (at + 1 + count) o

    as_block : (s : Asked) → asked ≡ s → AsBlock
    unfolding at_row
    as_block (ask.Rows h) e = record { us = _; whole = exists_block h e; row = inside ∙ ap (λ (z : Asked). at_row z c v f u (deep + 1) (d - 1) (at + 1 + count) o) (sym e) }
    as_block (ask.Values h) e =
        record {
          us = _;
          whole = single_block h e;
          row = inside_value ∙ ap (λ (z : Asked). at_row z c v f u (deep + 1) (d - 1) (at + 1 + count) o) (sym e);
        }

    pub aggregate_bytes : {k : ℕ} → k ≡ lub_all (classes_of (tables_in (open_of c f.nc o))) → encode (as_tree (class_at c v f t deep d at))
        ≡ rec_bytes 25 0 0 0 0 ++ (rec_bytes 27 0 count 0 0 ++ (table_recs (nums (refs_at c f.nc v (at + 1) count))
        ++ (encode (as_tree (at_row asked c v f u (deep + 1) (d - 1) (at + 1 + count) o)) ++ rec_bytes 6 0 k 0 0)))
    aggregate_bytes {k} e =
        let b = as_block asked refl in
        let n : length (nums refs) ≡ count = nums_number refs ∙ opened_there.counted in
        let m : table_class refs ≡ k = sym (e ∙ ap lub_all (ap classes_of own_tables ∙ map_classes refs)) in
        ap (λ (z : Class). encode (as_tree z)) b.whole
        ∙ block_bytes refs b.us
        ∙ ap₂ (λ (x y : ℕ). rec_bytes 25 0 0 0 0 ++ (rec_bytes 27 0 x 0 0 ++ (table_recs (nums refs) ++ (encode (as_tree (join_all (row_classes 0 refs ++ b.us))) ++ rec_bytes 6 0 y 0 0)))) n m
        ∙ ap (λ (z : Class). rec_bytes 25 0 0 0 0 ++ (rec_bytes 27 0 count 0 0 ++ (table_recs (nums refs) ++ (encode (as_tree z) ++ rec_bytes 6 0 k 0 0))))
        b.row
