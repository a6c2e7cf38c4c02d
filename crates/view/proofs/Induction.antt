-- An induction over the values that were read, one case for each kind; and where a value ends.
-- Assumes nothing.
use Prim.Native.Nat.{ℕ, zero, suc, ◌+◌, ◌-◌, ◌<◌, ◌≤◌}
use mathlib.Core.Path.{◌≡◌, refl, sym, ap, ◌∙◌}
use mathlib.Core.List.{List, [], ◌∷◌}
use native.Mathlib.Omega.{arith}
use Rattle.cell.specs.declared.Type.{«Type» as Ty}
use Rattle.cell.specs.declared.Value.{Value}
use Rattle.view.specs.Ast.{Exp, Parsed, ok}
use Rattle.view.specs.Ast as ast
use Rattle.view.specs.Record.{node_at}
use Rattle.view.specs.Parse.{many, names_at, parse_value}
use Rattle.view.specs.declared.Node.{Node}
use Rattle.view.specs.declared.Fold.{Fold}
use Rattle.view.specs.declared.Pick.{Pick}
use Rattle.view.specs.declared.Node.TheVariants.{Const, Binop, Not, If, Exists, Single, Table, Select, Col, Classof, Let, Bad}
use Rattle.view.proofs.Read.{was_read, here_ok, none_ok, more_ok, Listed, const_read, col_read, classof_read, not_read, binop_read, let_read, if_read, exists_read, exists_listed, single_read, single_listed, no_table, no_select, no_bad}

-- a parser reads one thing
same_read : {A : Type 0} {P : Parsed A} {a b : A} {j k : ℕ} (Q : A → ℕ → Type 0) → P ≡ ok a j → P ≡ ok b k → Q a j → Q b k
same_read {A} {P} {a} {b} {j} {k} Q e f q = let x : a ≡ b = cc in let y : j ≡ k = cc in rw (← x, ← y) q

-- C d at e k: of the value e, read at record `at` with d levels left, which ends before record k
module _ (v : List ℕ) (n : ℕ) (C : ℕ → ℕ → Exp → ℕ → Type 0)
    (on_const : (d at : ℕ) (t : Ty) (x : Value) → 0 < d → at < n → node_at v at ≡ Const t x → C d at (ast.Exp.const at t x) (at + 1))
    (on_col : (d at name q : ℕ) → 0 < d → at < n → node_at v at ≡ Col name q → C d at (ast.Exp.col at name q) (at + 1))
    (on_classof : (d at name q : ℕ) → 0 < d → at < n → node_at v at ≡ Classof name q → C d at (ast.Exp.classof at name q) (at + 1))
    (on_not : (d at : ℕ) (e : Exp) (k : ℕ) → 0 < d → at < n → node_at v at ≡ Not → C (d - 1) (at + 1) e k → C d at (ast.Exp.neg at e) k)
    (on_binop : (d at op : ℕ) (l r : Exp) (m k : ℕ) → 0 < d → at < n → node_at v at ≡ Binop op → C (d - 1) (at + 1) l m → C (d - 1) m r k → C d at (ast.Exp.binop at op l r) k)
    (on_let : (d at name : ℕ) (e b : Exp) (m k : ℕ) → 0 < d → at < n → node_at v at ≡ Let name → C (d - 1) (at + 1) e m → C (d - 1) m b k → C d at (ast.Exp.letin at name e b) k)
    (on_if : (d at : ℕ) (c l r : Exp) (m j k : ℕ) → 0 < d → at < n → node_at v at ≡ If → C (d - 1) (at + 1) c m → C (d - 1) m l j → C (d - 1) j r k → C d at (ast.Exp.if at c l r) k)
    (on_exists : (d at a : ℕ) (q : Fold) (w : Exp) (k : ℕ) → 0 < d → at < n → node_at v at ≡ Exists a q → Listed v n (at + 1) a → C (d - 1) (at + 1 + a) w k → C d at (ast.Exp.exists at q (names_at v (at + 1) a) w) k)
    (on_single : (d at a : ℕ) (q : Pick) (w e : Exp) (m k : ℕ) → 0 < d → at < n → node_at v at ≡ Single a q → Listed v n (at + 1) a → C (d - 1) (at + 1 + a) w m → C (d - 1) m e k → C d at (ast.Exp.single at q (names_at v (at + 1) a) w e) k) where
  step : (d at : ℕ) (e : Exp) (k : ℕ) (h : parse_value v n d at ≡ ok e k) → ((i : ℕ) (f : Exp) (j : ℕ) → parse_value v n (d - 1) i ≡ ok f j → C (d - 1) i f j)
      → 0 < d → at < n → (nd : Node) → nd ≡ node_at v at → C d at e k
  step d at e k h ih z l (Const t x) g = same_read (C d at) (const_read v n d at (was_read h) g refl) h (on_const d at t x z l (sym g))
  step d at e k h ih z l (Col name q) g = same_read (C d at) (col_read v n d at (was_read h) g refl) h (on_col d at name q z l (sym g))
  step d at e k h ih z l (Classof name q) g = same_read (C d at) (classof_read v n d at (was_read h) g refl) h (on_classof d at name q z l (sym g))
  step d at e k h ih z l Not g =
      let s = not_read v n d at (was_read h) g refl in
      same_read (C d at) s.whole h (on_not d at s.x s.end z l (sym g) (ih _ _ _ s.first))
  step d at e k h ih z l (Binop op) g =
      let s = binop_read v n d at (was_read h) g refl in
      same_read (C d at) s.whole h (on_binop d at op s.x s.y s.mid s.end z l (sym g) (ih _ _ _ s.first) (ih _ _ _ s.second))
  step d at e k h ih z l (Let name) g =
      let s = let_read v n d at (was_read h) g refl in
      same_read (C d at) s.whole h (on_let d at name s.x s.y s.mid s.end z l (sym g) (ih _ _ _ s.first) (ih _ _ _ s.second))
  step d at e k h ih z l If g =
      let s = if_read v n d at (was_read h) g refl in
      same_read (C d at) s.whole h (on_if d at s.x s.y s.z s.mid s.late s.end z l (sym g) (ih _ _ _ s.first) (ih _ _ _ s.second) (ih _ _ _ s.third))
  step d at e k h ih z l (Exists a q) g =
      let s = exists_read v n d at (was_read h) g refl in
      same_read (C d at) s.whole h (on_exists d at a q s.x s.end z l (sym g) (exists_listed v n d at (was_read h) g refl) (ih _ _ _ s.first))
  step d at e k h ih z l (Single a q) g =
      let s = single_read v n d at (was_read h) g refl in
      same_read (C d at) s.whole h (on_single d at a q s.x s.y s.mid s.end z l (sym g) (single_listed v n d at (was_read h) g refl) (ih _ _ _ s.first) (ih _ _ _ s.second))
  step d at e k h ih z l (Table a) g = absurd (no_table v n d at (was_read h) g refl)
  step d at e k h ih z l (Select a b) g = absurd (no_select v n d at (was_read h) g refl)
  step d at e k h ih z l Bad g = absurd (no_bad v n d at (was_read h) g refl)

  -- WHAT HOLDS OF EVERY VALUE THAT WAS READ
  pub parse_ind : (d at : ℕ) {e : Exp} {k : ℕ} → parse_value v n d at ≡ ok e k → C d at e k
  parse_ind zero at h = absurd (let s = (here_ok v n 0 at (was_read h)).left in omega arith)
  parse_ind (suc d) at {e} {k} h =
      let z : suc d - 1 ≡ d = omega arith in
      let ih : (i : ℕ) (f : Exp) (j : ℕ) → parse_value v n (suc d - 1) i ≡ ok f j → C (suc d - 1) i f j = rw z (λ i f j g. parse_ind d i g) in
      let s = here_ok v n (suc d) at (was_read h) in
      step (suc d) at e k h ih s.left s.here (node_at v at) refl

-- a value takes at least its own record, and ends within the view
pub value_ends : (v : List ℕ) (n d at : ℕ) {e : Exp} {k : ℕ} → parse_value v n d at ≡ ok e k → (at < k) × (k ≤ n)
value_ends v n d at h =
    parse_ind v n (λ d i f j. (i < j) × (j ≤ n))
    (λ d i t x z l e. omega arith)
    (λ d i name q z l e. omega arith)
    (λ d i name q z l e. omega arith)
    (λ d i f j z l e a. omega arith)
    (λ d i op f g m j z l e a b. omega arith)
    (λ d i name f g m j z l e a b. omega arith)
    (λ d i f g h m o j z l e a b c. omega arith)
    (λ d i t q f j z l e u a. omega arith)
    (λ d i t q f g m j z l e u a b. omega arith)
    d at h

-- so do several in a row
pub values_end : (v : List ℕ) (n d c at : ℕ) {es : List Exp} {k : ℕ} → at ≤ n → many (parse_value v n d) c at ≡ ok es k → (at + c ≤ k) × (k ≤ n)
values_end v n d zero at {es} {k} l h = let z : ok [] at ≡ ok es k = sym (none_ok (parse_value v n d) at) ∙ h in let q : at ≡ k = cc in omega arith
values_end v n d (suc c) at {es} {k} l h =
    let m = more_ok (parse_value v n d) (suc c) at (omega arith) (was_read h) in
    let z : suc c - 1 ≡ c = omega arith in
    let f = value_ends v n d at m.first in
    let r = values_end v n d c m.mid (omega arith) (ap (λ (i : ℕ). many (parse_value v n d) i m.mid) (sym z) ∙ m.rest) in
    let q : ok (m.head ∷ m.tail) m.end ≡ ok es k = sym m.whole ∙ h in
    let e : m.end ≡ k = cc in
    omega arith
