-- The walk: one law for each place of its code. Its premises are what the code has found there.
-- Assumes nothing.
use Prim.Native.Nat.{ℕ, ◌+◌, ◌-◌, ◌<◌, ◌≤◌}
use mathlib.Core.Path.{◌≡◌, sym, ap, ◌∙◌}
use mathlib.Core.Logic.{◌⊎◌, inl, inr}
use mathlib.Core.List.{List}
use native.Mathlib.Omega.{arith}
use lib.ListN.{length, get_or}
use Rattle.word.specs.Refusal.{Checked, fine, refusal}
use Rattle.class.specs.declared.Info.{Info}
use Rattle.class.specs.declared.Info.TheVariants.{Fixed}
use Rattle.cell.specs.declared.Type.{«Type» as Ty}
use Rattle.cell.specs.declared.Value.{Value}
use Rattle.catalogue.specs.Tables.{Table}
use Rattle.view.specs.Ast.{Exp, Parsed, ok, WasRead}
use Rattle.view.specs.Ast as ast
use Rattle.view.specs.Record.{node_at}
use Rattle.view.specs.Parse.{parse_value}
use Rattle.view.specs.declared.Node.{Node}
use Rattle.view.specs.declared.Node.TheVariants.{Const, Binop, Not, If, Table as Tab, Select, Col, Classof, Bad}
use Rattle.view.proofs.Read as read
use Rattle.view.proofs.Read.{Two, Three, here_ok, was_read}
use Rattle.scope.specs.Scopes.{Open, find}
use Rattle.scope.specs.Table.{blank, scopes_of, infos_of, found_of}
use Rattle.scope.specs.Entry.{type_in}
use Rattle.scope.specs.declared.Scope.{Scope}
use Rattle.scope.specs.declared.Found.{Found}
use Rattle.resolve.specs.Typed.{known_of, typed_by}
use Rattle.resolve.specs.Steps.{leaf_k, two_t, not_t, if_t, col_t, class_t}
use Rattle.resolve.specs.Claims.{Narrow, Ready, answer_at}
use Rattle.resolve.specs.declared.Files.{Files}
use Rattle.resolve.specs.declared.Known.{Known}
use Rattle.resolve.proofs.Inversion.{typed_known}
use Rattle.resolve.proofs.Equations.{then_t, const_step, col_step, classof_step, not_step, binop_step, if_step}

-- a chain, by what its first link answered
pub then_is : (l : Checked Known) (x : Known) (g : Known → Checked Known) → l ≡ fine x → then_t l g ≡ g x
unfolding then_t
then_is l x g e = rw e

pub then_refused : (l : Checked Known) (i p : ℕ) (g : Known → Checked Known) → l ≡ refusal i p → then_t l g ≡ refusal i p
unfolding then_t
then_refused l i p g e = rw e

-- a child's answer tells where the next child stands
pub after : (k : ℕ) (cat : List Table) (Γ : List Open) (is : List Info) (P : Parsed Exp) {e : Exp} {mid : ℕ} {x : Known}
    → P ≡ ok e mid → typed_by k cat Γ is P ≡ fine x → mid ≡ x.next
unfolding known_of
after k cat Γ is P {e} {mid} {x} f g = sym (ap (λ (h : Known). h.next) (typed_known k cat Γ is P e mid x f g).known)

module _ (c ss v : List ℕ) (f : Files) where
  -- a child, in the same scopes or in one more
  pub child : (t u : List Scope) (deep deep2 d at m : ℕ) → Ready c ss v f t deep d at → length u ≡ 16 → deep2 ≤ deep + 1
      → WasRead (parse_value v f.n (d - 1) m) → ((j : ℕ) → j < deep2 → Narrow (type_in (get_or u j blank))) → Ready c ss v f u deep2 (d - 1) m
  child t u deep deep2 d at m w e l r s =
      let h = here_ok v f.n (d - 1) m r in
      record { lent = w.lent; sized = e; not_many = omega arith; is_read = r; here = h.here; left = h.left; narrow = s }

  module _ (t : List Scope) (deep d at : ℕ) (nd : Node) (w : Ready c ss v f t deep d at) (e : nd ≡ node_at v at) where
    same : (m : ℕ) → WasRead (parse_value v f.n (d - 1) m) → Ready c ss v f t deep (d - 1) m
    same m r = child t t deep deep d at m w w.sized (omega arith) r w.narrow

    pub t_const : (ty : Ty) (x : Value) (r : Known) → nd ≡ Const ty x → r ≡ leaf_k ty (Fixed f.k) (at + 1) → fine r ≡ answer_at c v f t deep d at
    t_const ty x r g h = ap fine h ∙ sym (const_step f.k _ _ _ (parse_value v f.n (d - 1)) at _ ty x (read.const_read v f.n d at w.is_read e g))

    pub t_col : (name q : ℕ) (h : Found) (r : Checked Known) → nd ≡ Col name q
        → h ≡ found_of (infos_of t deep) (find name q 0 (scopes_of c f.nc t deep)) → r ≡ col_t at h → r ≡ answer_at c v f t deep d at
    t_col name q h r g i j =
        j ∙ ap (col_t at) i ∙ sym (col_step f.k _ _ _ (parse_value v f.n (d - 1)) at _ name q (read.col_read v f.n d at w.is_read e g))

    pub t_classof : (name q : ℕ) (h : Found) (r : Checked Known) → nd ≡ Classof name q
        → h ≡ found_of (infos_of t deep) (find name q 0 (scopes_of c f.nc t deep)) → r ≡ class_t at h → r ≡ answer_at c v f t deep d at
    t_classof name q h r g i j =
        j ∙ ap (class_t at) i ∙ sym (classof_step f.k _ _ _ (parse_value v f.n (d - 1)) at _ name q (read.classof_read v f.n d at w.is_read e g))

    -- no other node stands here
    t_table : (name i p : ℕ) → nd ≡ Tab name → refusal i p ≡ answer_at c v f t deep d at
    t_table name i p g = absurd (read.no_table v f.n d at w.is_read e g)

    t_select : (a b i p : ℕ) → nd ≡ Select a b → refusal i p ≡ answer_at c v f t deep d at
    t_select a b i p g = absurd (read.no_select v f.n d at w.is_read e g)

    pub t_none : (i p : ℕ) → ((x : ℕ) × (nd ≡ Tab x)) ⊎ ((x : ℕ) × (y : ℕ) × (nd ≡ Select x y)) → refusal i p ≡ answer_at c v f t deep d at
    t_none i p (inl h) = t_table h.0 i p h.1
    t_none i p (inr h) = t_select h.0 h.1 i p h.2

    pub t_bad : (i p : ℕ) → nd ≡ Bad → refusal i p ≡ answer_at c v f t deep d at
    t_bad i p g = absurd (read.no_bad v f.n d at w.is_read e g)

    -- NOT
    pub not_ready : nd ≡ Not → Ready c ss v f t deep (d - 1) (at + 1)
    not_ready g = same (at + 1) (was_read (read.not_read v f.n d at w.is_read e g).first)

    module _ (g : nd ≡ Not) (l : Checked Known) (a : l ≡ answer_at c v f t deep (d - 1) (at + 1)) where
      not_whole : answer_at c v f t deep d at ≡ then_t l (not_t at)
      not_whole = not_step f.k _ _ _ _ at _ (read.not_read v f.n d at w.is_read e g) ∙ ap (λ (z : Checked Known). then_t z (not_t at)) (sym a)

      pub not_refused : (i p : ℕ) → l ≡ refusal i p → refusal i p ≡ answer_at c v f t deep d at
      not_refused i p b = sym (not_whole ∙ then_refused l i p _ b)

      pub not_done : (x : Known) (r : Checked Known) → l ≡ fine x → r ≡ not_t at x → r ≡ answer_at c v f t deep d at
      not_done x r b h = h ∙ sym (not_whole ∙ then_is l x _ b)

    -- BINOP
    pub left_ready : (op : ℕ) → nd ≡ Binop op → Ready c ss v f t deep (d - 1) (at + 1)
    left_ready op g = same (at + 1) (was_read (read.binop_read v f.n d at w.is_read e g).first)

    module _ (op : ℕ) (g : nd ≡ Binop op) (l : Checked Known) (a : l ≡ answer_at c v f t deep (d - 1) (at + 1)) where
      two_binop : Two (parse_value v f.n (d - 1)) (at + 1) (parse_value v f.n d at) (ast.Exp.binop at op)
      two_binop = read.binop_read v f.n d at w.is_read e g

      two_whole : answer_at c v f t deep d at ≡ then_t l (λ x. then_t (answer_at c v f t deep (d - 1) x.next) (two_t at op x))
      two_whole =
          binop_step f.k _ _ _ _ at _ op two_binop
          ∙ ap (λ (z : Checked Known). then_t z (λ x. then_t (answer_at c v f t deep (d - 1) x.next) (two_t at op x))) (sym a)

      pub left_refused : (i p : ℕ) → l ≡ refusal i p → refusal i p ≡ answer_at c v f t deep d at
      left_refused i p b = sym (two_whole ∙ then_refused l i p _ b)

      module _ (x : Known) (b : l ≡ fine x) where
        pub right_ready : Ready c ss v f t deep (d - 1) x.next
        right_ready = same x.next (rw (after _ _ _ _ _ two_binop.first (sym a ∙ b)) at (was_read two_binop.second))

        right_whole : answer_at c v f t deep d at ≡ then_t (answer_at c v f t deep (d - 1) x.next) (two_t at op x)
        right_whole = two_whole ∙ then_is l x _ b

        module _ (r : Checked Known) (h : r ≡ answer_at c v f t deep (d - 1) x.next) where
          pub right_refused : (i p : ℕ) → r ≡ refusal i p → refusal i p ≡ answer_at c v f t deep d at
          right_refused i p j = sym (right_whole ∙ then_refused _ i p _ (sym h ∙ j))

          pub binop_done : (y : Known) (s : Checked Known) → r ≡ fine y → s ≡ two_t at op x y → s ≡ answer_at c v f t deep d at
          binop_done y s j m = m ∙ sym (right_whole ∙ then_is _ y _ (sym h ∙ j))

    -- IF
    pub if_ready : nd ≡ If → Ready c ss v f t deep (d - 1) (at + 1)
    if_ready g = same (at + 1) (was_read (read.if_read v f.n d at w.is_read e g).first)

    module _ (g : nd ≡ If) (l : Checked Known) (a : l ≡ answer_at c v f t deep (d - 1) (at + 1)) where
      three_if : Three (parse_value v f.n (d - 1)) (at + 1) (parse_value v f.n d at) (ast.Exp.if at)
      three_if = read.if_read v f.n d at w.is_read e g

      if_whole : answer_at c v f t deep d at
          ≡ then_t l (λ x. then_t (answer_at c v f t deep (d - 1) x.next) (λ y. then_t (answer_at c v f t deep (d - 1) y.next) (if_t at x y)))
      if_whole =
          if_step f.k _ _ _ _ at _ three_if
          ∙ ap (λ (z : Checked Known). then_t z (λ x. then_t (answer_at c v f t deep (d - 1) x.next) (λ y. then_t (answer_at c v f t deep (d - 1) y.next) (if_t at x y)))) (sym a)

      pub if_refused : (i p : ℕ) → l ≡ refusal i p → refusal i p ≡ answer_at c v f t deep d at
      if_refused i p b = sym (if_whole ∙ then_refused l i p _ b)

      module _ (x : Known) (b : l ≡ fine x) where
        second_at : parse_value v f.n (d - 1) x.next ≡ ok three_if.y three_if.late
        second_at = rw (after _ _ _ _ _ three_if.first (sym a ∙ b)) at three_if.second

        pub second_ready : Ready c ss v f t deep (d - 1) x.next
        second_ready = same x.next (was_read second_at)

        second_whole : answer_at c v f t deep d at ≡ then_t (answer_at c v f t deep (d - 1) x.next) (λ y. then_t (answer_at c v f t deep (d - 1) y.next) (if_t at x y))
        second_whole = if_whole ∙ then_is l x _ b

        module _ (r : Checked Known) (h : r ≡ answer_at c v f t deep (d - 1) x.next) where
          pub second_refused : (i p : ℕ) → r ≡ refusal i p → refusal i p ≡ answer_at c v f t deep d at
          second_refused i p j = sym (second_whole ∙ then_refused _ i p _ (sym h ∙ j))

          module _ (y : Known) (j : r ≡ fine y) where
            pub third_ready : Ready c ss v f t deep (d - 1) y.next
            third_ready = same y.next (rw (after _ _ _ _ _ second_at (sym h ∙ j)) at (was_read three_if.third))

            third_whole : answer_at c v f t deep d at ≡ then_t (answer_at c v f t deep (d - 1) y.next) (if_t at x y)
            third_whole = second_whole ∙ then_is _ y _ (sym h ∙ j)

            module _ (s : Checked Known) (o : s ≡ answer_at c v f t deep (d - 1) y.next) where
              pub third_refused : (i p : ℕ) → s ≡ refusal i p → refusal i p ≡ answer_at c v f t deep d at
              third_refused i p q = sym (third_whole ∙ then_refused _ i p _ (sym o ∙ q))

              pub if_done : (z : Known) (u : Checked Known) → s ≡ fine z → u ≡ if_t at x y z → u ≡ answer_at c v f t deep d at
              if_done z u q m = m ∙ sym (third_whole ∙ then_is _ z _ (sym o ∙ q))
