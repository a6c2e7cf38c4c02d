-- Laws of what is known of a class: the test is the rule, a join and a choice keep what is known, and a bound covers its class.
-- Assumes nothing.
use Prim.Native.Nat.{ℕ, ◌<◌}
use mathlib.Core.Path.{◌≡◌, refl, sym, ap, ◌∙◌, subst}
use mathlib.Core.Bool.{Bool, true, false, cond}
use mathlib.Core.List.{List, [], ◌∷◌, map}
use mathlib.Core.Logic.{◌↔◌}
use lib.Dec.{T, eqb}
use borrow.Author.Tests.{eq-eqb, ne_eqb, eqb-true}
use Rattle.class.specs.Class.{Dominates, lub_of, lub_from}
use Rattle.class.specs.Info.{info_by, bound_of, InfoOk, info_test, join_i, joins_i, same_i, choice_i}
use Rattle.class.specs.declared.Info.{Info}
use Rattle.class.specs.declared.Info.TheVariants.{Fixed, Bound}
use Rattle.class.proofs.Laws.{dom_refl, dom_trans, dom_of, dom_yes, lub_left, lub_right, lub_least, lub_idem, lub_fits}

-- ---- the test is the rule

pub ok_of : (i : Info) (c : ℕ) → info_test i c ≡ true → InfoOk i c
unfolding info_test
ok_of (Fixed k) c e = eqb-true c k e
ok_of (Bound b) c e = dom_of b c e

pub ok_yes : (i : Info) (c : ℕ) → InfoOk i c → info_test i c ≡ true
unfolding info_test
ok_yes (Fixed k) c h = eq-eqb c k h
ok_yes (Bound b) c h = dom_yes b c h

pub info_ok : (i : Info) (c : ℕ) → info_test i c ≡ true ↔ InfoOk i c
info_ok i c = (ok_of i c, ok_yes i c)

-- ---- the op says which

pub info_by_fixed : {op : ℕ} (b : ℕ) → op ≡ 0 → info_by op b ≡ Fixed b
unfolding info_by
info_by_fixed {op} b e = rw (eq-eqb op 0 e)

pub info_by_bound : {op : ℕ} (b : ℕ) → (op ≡ 0 → ⊥) → info_by op b ≡ Bound b
unfolding info_by
info_by_bound {op} b h = rw (ne_eqb op 0 h)

pub bound_by : (op b : ℕ) → bound_of (info_by op b) ≡ b
unfolding info_by bound_of
bound_by op b = go (eqb op 0)
  where
    go : (t : Bool) → bound_of (cond t (Fixed b) (Bound b)) ≡ b
    go true = refl
    go false = refl

-- ---- the bound

pub bound_covers : (i : Info) (c : ℕ) → InfoOk i c → Dominates (bound_of i) c
unfolding bound_of
bound_covers (Fixed k) c h = subst (Dominates k) (sym h) (dom_refl k)
bound_covers (Bound b) c h = h

pub join_bound : (i j : Info) → bound_of (join_i i j) ≡ lub_of (bound_of i) (bound_of j)
unfolding bound_of join_i
join_bound (Fixed a) (Fixed b) = refl
join_bound (Fixed a) (Bound b) = refl
join_bound (Bound a) (Fixed b) = refl
join_bound (Bound a) (Bound b) = refl

pub choice_bound : (i j : Info) → bound_of (choice_i i j) ≡ lub_of (bound_of i) (bound_of j)
unfolding bound_of choice_i same_i
choice_bound (Fixed a) (Fixed b) = go (eqb a b) refl
  where
    go : (t : Bool) → eqb a b ≡ t → bound_of (cond t (Fixed a) (Bound (lub_of a b))) ≡ lub_of a b
    go true e = sym (ap (lub_of a) (sym (eqb-true a b e)) ∙ lub_idem a)
    go false e = refl
choice_bound (Fixed a) (Bound b) = refl
choice_bound (Bound a) (Fixed b) = refl
choice_bound (Bound a) (Bound b) = refl

-- ---- joins and choices keep what is known

-- what dominates each of two dominates the lub of what they dominate
pub lub_covers : (x y a b : ℕ) → Dominates x a → Dominates y b → Dominates (lub_of x y) (lub_of a b)
lub_covers x y a b p q =
    lub_least a b (lub_of x y) (dom_trans _ x a (lub_left x y) p) (dom_trans _ y b (lub_right x y) q)

pub join_keeps : (i j : Info) (a b : ℕ) → InfoOk i a → InfoOk j b → InfoOk (join_i i j) (lub_of a b)
unfolding join_i
join_keeps (Fixed x) (Fixed y) a b p q = rw (p, q)
join_keeps (Fixed x) (Bound y) a b p q = lub_covers x y a b (subst (Dominates x) (sym p) (dom_refl x)) q
join_keeps (Bound x) (Fixed y) a b p q = lub_covers x y a b p (subst (Dominates y) (sym q) (dom_refl y))
join_keeps (Bound x) (Bound y) a b p q = lub_covers x y a b p q

-- where a choice is not fixed, its bound covers what either bound covers
pub wide_left : (i j : Info) (c : ℕ) → InfoOk i c → Dominates (lub_of (bound_of i) (bound_of j)) c
wide_left i j c h = dom_trans _ (bound_of i) c (lub_left (bound_of i) (bound_of j)) (bound_covers i c h)

pub wide_right : (i j : Info) (c : ℕ) → InfoOk j c → Dominates (lub_of (bound_of i) (bound_of j)) c
wide_right i j c h = dom_trans _ (bound_of j) c (lub_right (bound_of i) (bound_of j)) (bound_covers j c h)

same_ok : (i j : Info) (c : ℕ) → same_i i j ≡ true → InfoOk j c → InfoOk i c
unfolding same_i
same_ok (Fixed a) (Fixed b) c e h = h ∙ sym (eqb-true a b e)
same_ok (Fixed a) (Bound b) c e h = absurd (subst (λ (t : Bool). T t) (sym e) tt)
same_ok (Bound a) (Fixed b) c e h = absurd (subst (λ (t : Bool). T t) (sym e) tt)
same_ok (Bound a) (Bound b) c e h = absurd (subst (λ (t : Bool). T t) (sym e) tt)

pub choice_keeps_left : (i j : Info) (c : ℕ) → InfoOk i c → InfoOk (choice_i i j) c
unfolding choice_i
choice_keeps_left i j c h = go (same_i i j)
  where
    go : (t : Bool) → InfoOk (cond t i (Bound (lub_of (bound_of i) (bound_of j)))) c
    go true = h
    go false = wide_left i j c h

pub choice_keeps_right : (i j : Info) (c : ℕ) → InfoOk j c → InfoOk (choice_i i j) c
unfolding choice_i
choice_keeps_right i j c h = go (same_i i j) refl
  where
    go : (t : Bool) → same_i i j ≡ t → InfoOk (cond t i (Bound (lub_of (bound_of i) (bound_of j)))) c
    go true e = same_ok i j c e h
    go false e = wide_right i j c h

-- several joined from the left: the bound, and what is known
pub joins_bound : (i : Info) (is : List Info) → bound_of (joins_i i is) ≡ lub_from (bound_of i) (map bound_of is)
unfolding joins_i
joins_bound i [] = refl
joins_bound i (j ∷ js) = joins_bound (join_i i j) js ∙ ap (λ (k : ℕ). lub_from k (map bound_of js)) (join_bound i j)

-- ---- 16 bits

pub join_fits : (i j : Info) → bound_of i < 65536 → bound_of j < 65536 → bound_of (join_i i j) < 65536
join_fits i j p q = rw (join_bound i j) (lub_fits (bound_of i) (bound_of j) p q)

pub choice_fits : (i j : Info) → bound_of i < 65536 → bound_of j < 65536 → bound_of (choice_i i j) < 65536
choice_fits i j p q = rw (choice_bound i j) (lub_fits (bound_of i) (bound_of j) p q)
