-- The walk's answer on an accepted value: it isn't refused, and what is known is its type, its class's information, its sizes and the record after it.
-- Assumes nothing.
use Prim.Native.Nat.{ℕ}
use mathlib.Core.Path.{◌≡◌, sym, ap, ◌∙◌}
use mathlib.Core.List.{List}
use native.Mathlib.Omega.{arith}
use Rattle.word.specs.Refusal.{Checked, fine, refusal}
use Rattle.view.specs.Ast.{ok, next_of}
use Rattle.view.specs.Parse.{parse_value}
use Rattle.view.proofs.Read.{next_is}
use Rattle.scope.specs.Table.{infos_of}
use Rattle.scope.specs.declared.Scope.{Scope}
use Rattle.resolve.specs.Sizes.{size_d, weigh, capped}
use Rattle.resolve.specs.Typed.{known_of}
use Rattle.resolve.specs.Claims.{answer_at}
use Rattle.resolve.specs.declared.Files.{Files}
use Rattle.resolve.specs.declared.Known.{Known}
use Rattle.resolve.proofs.Inversion.{typed_good}
use Rattle.tree.specs.Levels.{Told}
use Rattle.tree.specs.Claims.{expr_at, type_at, info_at, next_at, Accepted}
use Rattle.tree.proofs.Resolved.{out_is}

-- what is known of an accepted value
pub record KnownIs (c v : List ℕ) (f : Files) (t : List Scope) (deep d at : ℕ) (x : Known) : Type 0 where
  pub type_is : x.ty ≡ type_at c v f t deep d at
  pub info_is : x.info ≡ info_at c v f t deep d at
  pub next_is : x.next ≡ next_at v f d at
  pub values_are : x.values ≡ capped (size_d (expr_at c v f t deep d at))
  pub classes_are : x.classes ≡ capped (weigh f.k (infos_of t deep) (expr_at c v f t deep d at)).size

module _ (c ss v : List ℕ) (f : Files) (t : List Scope) (deep d at : ℕ) (w : Accepted c ss v f t deep d at) where
  pub answer_is : answer_at c v f t deep d at ≡ fine (known_of f.k (infos_of t deep) (next_at v f d at) (expr_at c v f t deep d at) (type_at c v f t deep d at))
  unfolding next_at
  answer_is =
      let h = w.ready.is_read.is in
      typed_good f.k _ _ (infos_of t deep) _ _ (next_of (parse_value v f.n d at)) _ _ (h ∙ ap (ok w.ready.is_read.tree) (sym (next_is h))) (sym (out_is c v f t deep d at h) ∙ w.resolved)

  module _ (l : Checked Known) (a : l ≡ answer_at c v f t deep d at) where
    pub not_refused : {i p : ℕ} → l ≡ refusal i p → ⊥
    not_refused {i} {p} b =
        let e : refusal i p ≡ fine (known_of f.k (infos_of t deep) (next_at v f d at) (expr_at c v f t deep d at) (type_at c v f t deep d at)) = sym b ∙ a ∙ answer_is in
        let z : ◌≡◌ {A = ℕ} 0 1 = cc in omega arith

    known_by_lem : {x : Known} → l ≡ fine x → x ≡ known_of f.k (infos_of t deep) (next_at v f d at) (expr_at c v f t deep d at) (type_at c v f t deep d at)
    known_by_lem {x} b =
        let e : fine x ≡ fine (known_of f.k (infos_of t deep) (next_at v f d at) (expr_at c v f t deep d at) (type_at c v f t deep d at)) = sym b ∙ a ∙ answer_is in
        cc

    pub known_is : {x : Known} → l ≡ fine x → KnownIs c v f t deep d at x
    unfolding known_of info_at
    known_is {x} b =
        let e = known_by_lem b in
        record {
          type_is = ap (λ (h : Known). h.ty) e;
          info_is = ap (λ (h : Known). h.info) e;
          next_is = ap (λ (h : Known). h.next) e;
          values_are = ap (λ (h : Known). h.values) e;
          classes_are = ap (λ (h : Known). h.classes) e;
        }

    -- as the code holds it
    pub told_of : {x : Known} → l ≡ fine x → Told c v f t deep d at (record { ty = x.ty; info = x.info; next = x.next })
    told_of b = let k = known_is b in record { ty_is = k.type_is; info_is = k.info_is; next_is = k.next_is }
