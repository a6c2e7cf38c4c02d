-- A pass over a value that was read: each child was read too, and where the value ends. One law for each place, for `search children`.
-- nd is the node that the pass took from record `at`; m, l, k are the places that it holds after its children. Assumes nothing.
use Prim.Native.Nat.{ℕ, ◌+◌, ◌-◌, ◌≤◌}
use mathlib.Core.Path.{◌≡◌, sym}
use mathlib.Core.List.{List}
use Rattle.cell.specs.declared.Type.{«Type» as Ty}
use Rattle.cell.specs.declared.Value.{Value}
use Rattle.view.specs.Ast.{next_of, WasRead}
use Rattle.view.specs.Record.{node_at}
use Rattle.view.specs.Parse.{parse_value}
use Rattle.view.specs.declared.Node.{Node}
use Rattle.view.specs.declared.Fold.{Fold}
use Rattle.view.specs.declared.Pick.{Pick}
use Rattle.view.specs.declared.Node.TheVariants.{Const, Binop, Not, If, Exists, Single, Col, Classof, Let}
use Rattle.view.proofs.Read.{next_is, const_read, col_read, classof_read, not_read, binop_read, let_read, if_read, exists_read, exists_listed, single_read, single_listed, one_first, two_first, two_second, three_first, three_second, three_third, one_next, two_next, three_next}

module _ (v : List ℕ) (n d at : ℕ) {nd : Node} (w : WasRead (parse_value v n d at)) (e : nd ≡ node_at v at) where
  -- constants and names end after their own record
  pub const_end : {t : Ty} {x : Value} → nd ≡ Const t x → at + 1 ≡ next_of (parse_value v n d at)
  const_end f = sym (next_is (const_read v n d at w e f))

  pub col_end : {name q : ℕ} → nd ≡ Col name q → at + 1 ≡ next_of (parse_value v n d at)
  col_end f = sym (next_is (col_read v n d at w e f))

  pub classof_end : {name q : ℕ} → nd ≡ Classof name q → at + 1 ≡ next_of (parse_value v n d at)
  classof_end f = sym (next_is (classof_read v n d at w e f))

  -- NOT
  pub not_child : nd ≡ Not → WasRead (parse_value v n (d - 1) (at + 1))
  not_child f = one_first _ _ _ (not_read v n d at w e f)

  pub not_end : {m : ℕ} → nd ≡ Not → m ≡ next_of (parse_value v n (d - 1) (at + 1)) → m ≡ next_of (parse_value v n d at)
  not_end f g = one_next _ _ _ (not_read v n d at w e f) g

  -- BINOP
  pub binop_left : {op : ℕ} → nd ≡ Binop op → WasRead (parse_value v n (d - 1) (at + 1))
  binop_left f = two_first _ _ _ (binop_read v n d at w e f)

  pub binop_right : {op m : ℕ} → nd ≡ Binop op → m ≡ next_of (parse_value v n (d - 1) (at + 1)) → WasRead (parse_value v n (d - 1) m)
  binop_right f g = two_second _ _ _ (binop_read v n d at w e f) g

  pub binop_end : {op m l : ℕ} → nd ≡ Binop op → m ≡ next_of (parse_value v n (d - 1) (at + 1)) → l ≡ next_of (parse_value v n (d - 1) m) → l ≡ next_of (parse_value v n d at)
  binop_end f g h = two_next _ _ _ (binop_read v n d at w e f) g h

  -- LET
  pub let_value : {name : ℕ} → nd ≡ Let name → WasRead (parse_value v n (d - 1) (at + 1))
  let_value f = two_first _ _ _ (let_read v n d at w e f)

  pub let_body : {name m : ℕ} → nd ≡ Let name → m ≡ next_of (parse_value v n (d - 1) (at + 1)) → WasRead (parse_value v n (d - 1) m)
  let_body f g = two_second _ _ _ (let_read v n d at w e f) g

  pub let_end : {name m l : ℕ} → nd ≡ Let name → m ≡ next_of (parse_value v n (d - 1) (at + 1)) → l ≡ next_of (parse_value v n (d - 1) m) → l ≡ next_of (parse_value v n d at)
  let_end f g h = two_next _ _ _ (let_read v n d at w e f) g h

  -- IF
  pub if_test : nd ≡ If → WasRead (parse_value v n (d - 1) (at + 1))
  if_test f = three_first _ _ _ (if_read v n d at w e f)

  pub if_then : {m : ℕ} → nd ≡ If → m ≡ next_of (parse_value v n (d - 1) (at + 1)) → WasRead (parse_value v n (d - 1) m)
  if_then f g = three_second _ _ _ (if_read v n d at w e f) g

  pub if_else : {m l : ℕ} → nd ≡ If → m ≡ next_of (parse_value v n (d - 1) (at + 1)) → l ≡ next_of (parse_value v n (d - 1) m) → WasRead (parse_value v n (d - 1) l)
  if_else f g h = three_third _ _ _ (if_read v n d at w e f) g h

  pub if_end : {m l k : ℕ} → nd ≡ If → m ≡ next_of (parse_value v n (d - 1) (at + 1)) → l ≡ next_of (parse_value v n (d - 1) m) → k ≡ next_of (parse_value v n (d - 1) l) → k ≡ next_of (parse_value v n d at)
  if_end f g h i = three_next _ _ _ (if_read v n d at w e f) g h i

  -- EXISTS and VALUE: after the TABLE records
  pub exists_within : {a : ℕ} {q : Fold} → nd ≡ Exists a q → at + 1 + a ≤ n
  exists_within f = (exists_listed v n d at w e f).within

  pub exists_child : {a : ℕ} {q : Fold} → nd ≡ Exists a q → WasRead (parse_value v n (d - 1) (at + 1 + a))
  exists_child f = one_first _ _ _ (exists_read v n d at w e f)

  pub exists_end : {a m : ℕ} {q : Fold} → nd ≡ Exists a q → m ≡ next_of (parse_value v n (d - 1) (at + 1 + a)) → m ≡ next_of (parse_value v n d at)
  exists_end f g = one_next _ _ _ (exists_read v n d at w e f) g

  pub single_within : {a : ℕ} {q : Pick} → nd ≡ Single a q → at + 1 + a ≤ n
  single_within f = (single_listed v n d at w e f).within

  pub single_test : {a : ℕ} {q : Pick} → nd ≡ Single a q → WasRead (parse_value v n (d - 1) (at + 1 + a))
  single_test f = two_first _ _ _ (single_read v n d at w e f)

  pub single_value : {a m : ℕ} {q : Pick} → nd ≡ Single a q → m ≡ next_of (parse_value v n (d - 1) (at + 1 + a)) → WasRead (parse_value v n (d - 1) m)
  single_value f g = two_second _ _ _ (single_read v n d at w e f) g

  pub single_end : {a m l : ℕ} {q : Pick} → nd ≡ Single a q → m ≡ next_of (parse_value v n (d - 1) (at + 1 + a)) → l ≡ next_of (parse_value v n (d - 1) m) → l ≡ next_of (parse_value v n d at)
  single_end f g h = two_next _ _ _ (single_read v n d at w e f) g h

pub ruleset children = (const_end, col_end, classof_end, not_child, not_end, binop_left, binop_right, binop_end, let_value, let_body, let_end, if_test, if_then, if_else, if_end, exists_within, exists_child, exists_end, single_within, single_test, single_value, single_end)
