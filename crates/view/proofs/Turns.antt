-- One law for each place of the walk: its premises are what the code has found there, its conclusion is what is asked there. For `search turns`.
-- Assumes nothing.
use Prim.Native.Nat.{ℕ, ◌+◌, ◌-◌, ◌*◌, ◌<◌, ◌≤◌}
use mathlib.Core.Path.{◌≡◌, sym, ap, ◌∙◌}
use mathlib.Core.Bool.{Bool, true, false, ◌&&◌}
use mathlib.Core.List.{List}
use native.Mathlib.Omega.{arith}
use lib.ListN.{length}
use lib.Dec.{eqb}
use borrow.Author.Rules.{rules}
use borrow.Author.Tests.{eq-eqb, ne_eqb, lt-ltb, le-ltb, eqb-true}
use Rattle.std.specs.Prelude.{Option, Some, None}
use Rattle.word.specs.Bytes.{within}
use Rattle.word.specs.Header.{drq, headed, count_at}
use Rattle.word.specs.Record.{Record, rec_at}
use Rattle.word.specs.Refusal.{Checked, fine, refusal}
use Rattle.word.proofs.Laws.{headed_long}
use Rattle.view.specs.Ast.{Exp, Parsed, and_then, ok}
use Rattle.view.specs.Record.{node_of, node_at, slot_of, shape_of, in_rule}
use Rattle.view.specs.Parse.{enter, many, parse_table, parse_block, parse_value, parse_root, parse_view, peek_of, place_of, check_of}
use Rattle.view.specs.declared.Shape.{Shape}
use Rattle.view.specs.declared.Shape.TheVariants.{Values, Block}
use Rattle.view.specs.declared.Node.{Node}
use Rattle.view.specs.declared.Node.TheVariants.{Table, Select}
use Rattle.view.proofs.Laws.{and_right, place_fine, place_refusal, to_refusal, peek_refused, peek_found, enter_here, enter_elsewhere, value_refused, value_deep, value_node, many_turn, many_stop, many_end, tables_refused, where_refused, where_next, root_refused, root_block_refused, root_end, root_more}
use Rattle.view.proofs.Rules.{out_of_rule, rule_slot}
use Rattle.view.proofs.Shapes.{is_value, no_value, slot_table, slot_select, after, shape_place}

-- the node at a reader's place
module _ (v : List ℕ) (n at : ℕ) where
  pub peek_early : n ≤ at → refusal 4 n ≡ peek_of v n at
  unfolding peek_of
  peek_early h = rw (le-ltb at n h)

  module _ {r : Record} {i : ℕ} (h : at < n) (d : i ≡ at) (e : r ≡ rec_at v i) where
    pub peek_bad : in_rule r ≡ false → refusal 3 at ≡ peek_of v n at
    unfolding peek_of slot_of node_at
    peek_bad f = rw (lt-ltb at n h, ← d, ← e, ← out_of_rule r f)

    pub peek_here : {nd : Node} → in_rule r ≡ true → nd ≡ node_of r → fine nd ≡ peek_of v n at
    unfolding peek_of node_at
    peek_here f g = rw (lt-ltb at n h, ← d, ← e, rule_slot r f, g)

  -- the record of a node stands in the view
  pub stands : {nd : Node} → fine nd ≡ peek_of v n at → at < n
  stands e = (peek_found v n at e).0

pub ruleset peeks = (peek_early, peek_bad, peek_here, stands, rules)

-- a TABLE record
module _ (v : List ℕ) (n d at : ℕ) where
  pub table_refused : {k p : ℕ} → refusal k p ≡ peek_of v n at → refusal k p ≡ place_of (parse_table v n d at)
  unfolding parse_table and_then
  table_refused e = to_refusal (rw (peek_refused v n at 2 e))

  module _ {nd : Node} (e : fine nd ≡ peek_of v n at) where
    pub table_elsewhere : ((name : ℕ) → nd ≡ Table name → ⊥) → refusal 4 at ≡ place_of (parse_table v n d at)
    unfolding parse_table and_then
    table_elsewhere f = to_refusal (rw (enter_elsewhere v n at e 2 (λ z. let (name, g) = slot_table nd z in f name g)))

    module _ {name : ℕ} (f : nd ≡ Table name) where
      table_entered : enter v n 2 at ≡ ok nd (at + 1)
      unfolding slot_of
      table_entered = enter_here v n at e 2 (ap slot_of f)

      pub table_deep : d ≡ 0 → refusal 5 at ≡ place_of (parse_table v n d at)
      unfolding parse_table and_then place_of
      table_deep z = rw (table_entered, eq-eqb d 0 z)

      pub table_read : {m : ℕ} → (d ≡ 0 → ⊥) → m ≡ at + 1 → fine m ≡ place_of (parse_table v n d at)
      unfolding parse_table and_then place_of
      table_read z j = rw (table_entered, ne_eqb d 0 z, j)

pub ruleset tabling = (table_refused, table_elsewhere, table_deep, table_read, stands, rules)

-- so many in a row: X is the answer that the contract states
module _ {A : Type 0} (p : ℕ → Parsed A) (c i m : ℕ) {X : Checked ℕ} where
  pub many_not : {k q : ℕ} → X ≡ place_of (many p (c - i) m) → i < c → refusal k q ≡ place_of (p m) → refusal k q ≡ X
  many_not e z f = sym (e ∙ many_stop p c i m z (place_refusal _ f))

  pub many_again : {k : ℕ} → X ≡ place_of (many p (c - i) m) → i < c → fine k ≡ place_of (p m) → X ≡ place_of (many p (c - (i + 1)) k)
  many_again e z f = e ∙ many_turn p c i m z (place_fine _ f).1

  pub many_done : X ≡ place_of (many p (c - i) m) → c ≤ i → fine m ≡ X
  many_done e z = sym (e ∙ many_end p c i m z)

pub many_begin : {A : Type 0} (p : ℕ → Parsed A) (c m : ℕ) → place_of (many p c m) ≡ place_of (many p (c - 0) m)
many_begin p c m = let h : c - 0 ≡ c = omega arith in rw h

pub ruleset repeats = (many_not, many_again, many_done, many_begin, rules)

-- a value
module _ (v : List ℕ) (n d at : ℕ) where
  pub value_not : {k p : ℕ} → refusal k p ≡ peek_of v n at → refusal k p ≡ place_of (parse_value v n d at)
  value_not e = to_refusal (value_refused v n d at (peek_refused v n at 1 e))

  module _ {nd : Node} {o : Option Shape} (e : fine nd ≡ peek_of v n at) (f : o ≡ shape_of nd) where
    pub value_elsewhere : o ≡ None → refusal 4 at ≡ place_of (parse_value v n d at)
    value_elsewhere g = to_refusal (value_refused v n d at (enter_elsewhere v n at e 1 (no_value nd (sym g ∙ f))))

    module _ {s : Shape} (g : o ≡ Some s) where
      value_entered : enter v n 1 at ≡ ok nd (at + 1)
      value_entered = enter_here v n at e 1 (is_value nd (sym g ∙ f))

      pub value_too_deep : d ≡ 0 → refusal 5 at ≡ place_of (parse_value v n d at)
      value_too_deep z = to_refusal (value_deep v n d at z value_entered)

      found : (d ≡ 0 → ⊥) → place_of (parse_value v n d at) ≡ after v n (d - 1) (parse_value v n (d - 1)) at (Some s)
      found z =
          ap place_of (value_node v n d at z value_entered) ∙ shape_place v n (d - 1) (parse_value v n (d - 1)) at nd (peek_found v n at e).2
          ∙ ap (after v n (d - 1) (parse_value v n (d - 1)) at) (sym f ∙ g)

      -- m is the number of the next record
      module _ {m : ℕ} {X : Checked ℕ} (z : d ≡ 0 → ⊥) (j : m ≡ at + 1) where
        pub value_values : {count : ℕ} → s ≡ Values count → X ≡ place_of (many (parse_value v n (d - 1)) count m) → X ≡ place_of (parse_value v n d at)
        unfolding after
        value_values h i = i ∙ sym (rw j (rw h at (found z)))

        pub value_block : {a k : ℕ} → s ≡ Block a k → X ≡ place_of (parse_block v n (d - 1) (parse_value v n (d - 1)) a k m) → X ≡ place_of (parse_value v n d at)
        unfolding after
        value_block h i = i ∙ sym (rw j (rw h at (found z)))

-- a block
module _ (v : List ℕ) (n d : ℕ) (p : ℕ → Parsed Exp) (nt nv at : ℕ) where
  pub block_not : {k q : ℕ} → refusal k q ≡ place_of (many (parse_table v n d) nt at) → refusal k q ≡ place_of (parse_block v n d p nt nv at)
  block_not e = to_refusal (tables_refused v n d p nt nv at (place_refusal _ e))

  module _ {m : ℕ} (e : fine m ≡ place_of (many (parse_table v n d) nt at)) where
    pub block_where_not : {k q : ℕ} → refusal k q ≡ place_of (p m) → refusal k q ≡ place_of (parse_block v n d p nt nv at)
    block_where_not f = to_refusal (where_refused v n d p nt nv at (place_fine _ e).1 (place_refusal _ f))

    pub block_values : {l : ℕ} {X : Checked ℕ} → fine l ≡ place_of (p m) → X ≡ place_of (many p nv l) → X ≡ place_of (parse_block v n d p nt nv at)
    block_values f g = g ∙ sym (where_next v n d p nt nv at (place_fine _ e).1 (place_fine _ f).1)

pub ruleset turns = (value_not, value_elsewhere, value_too_deep, value_values, value_block, block_not, block_where_not, block_values, stands, rules)

-- the root
module _ (v : List ℕ) (n : ℕ) {at : ℕ} (z : at ≡ 0) where
  pub root_not : {k p : ℕ} → refusal k p ≡ peek_of v n at → refusal k p ≡ place_of (parse_root v n)
  root_not e = sym (root_refused v n (peek_refused v n 0 3 (rw z at e)))

  module _ {nd : Node} (e : fine nd ≡ peek_of v n at) where
    pub root_other : ((a b : ℕ) → nd ≡ Select a b → ⊥) → refusal 4 0 ≡ place_of (parse_root v n)
    root_other f = sym (root_refused v n (enter_elsewhere v n 0 (rw z at e) 3 (λ g. let (a, b, h) = slot_select nd g in f a b h)))

    module _ {a b l : ℕ} (f : nd ≡ Select a b) (j : l ≡ at + 1) where
      root_entered : enter v n 3 0 ≡ ok (Select a b) 1
      unfolding slot_of
      root_entered = rw (← f) (enter_here v n 0 (rw z at e) 3 (ap slot_of f))

      pub root_block_not : {k p : ℕ} → refusal k p ≡ place_of (parse_block v n 15 (parse_value v n 15) a b l) → refusal k p ≡ place_of (parse_root v n)
      root_block_not h = sym (root_block_refused v n a b root_entered (place_refusal _ (rw (j, z) at h)))

      module _ {m : ℕ} (h : fine m ≡ place_of (parse_block v n 15 (parse_value v n 15) a b l)) where
        pub root_done : m ≡ n → fine m ≡ place_of (parse_root v n)
        root_done i = sym (root_end v n a b root_entered (place_fine _ (rw (j, z) at h)).1 i)

        pub root_over : (m ≡ n → ⊥) → refusal 4 m ≡ place_of (parse_root v n)
        root_over i = sym (root_more v n a b root_entered (place_fine _ (rw (j, z) at h)).1 i)

pub ruleset rooting = (root_not, root_other, root_block_not, root_done, root_over, stands, rules)

-- the check
module _ (v : List ℕ) {o : Bool} (e : o ≡ headed drq v) where
  pub check_headless : o ≡ false → refusal 1 0 ≡ check_of v
  unfolding check_of parse_view place_of
  check_headless t = rw (← e, t)

  module _ (t : o ≡ true) where
    pub check_long : 8 ≤ length v
    check_long = headed_long drq v (sym e ∙ t)

    module _ {n : ℕ} (c : n ≡ count_at v) where
      pub check_count : (within 1 1024 n && eqb (length v) (8 + 8 * n)) ≡ false → refusal 2 0 ≡ check_of v
      unfolding check_of parse_view place_of
      check_count f = rw (← e, t, ← c, f)

      module _ (f : (within 1 1024 n && eqb (length v) (8 + 8 * n)) ≡ true) where
        check_root : check_of v ≡ place_of (parse_root v n)
        unfolding check_of parse_view
        check_root = rw (← e, t, ← c, f)

        pub check_room : 8 + 8 * n ≤ length v
        check_room = let h : length v ≡ 8 + 8 * n = eqb-true _ _ (and_right (within 1 1024 n) _ f) in omega arith

        pub check_done : {X : Checked ℕ} → X ≡ place_of (parse_root v n) → X ≡ check_of v
        check_done g = g ∙ sym check_root

pub ruleset checking = (check_headless, check_long, check_count, check_room, check_done, rules)
