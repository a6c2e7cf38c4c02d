-- What is known of a value and of a class, from what is known of the parts: one law for each method that adds sizes.
-- Assumes nothing.
use Prim.Native.Nat.{ℕ, ◌+◌}
use mathlib.Core.Path.{◌≡◌, refl, sym, ap, ◌∙◌}
use mathlib.Core.Bool.{Bool, true, false, not}
use native.Mathlib.Omega.{arith}
use borrow.Author.Rules.{rules}
use Rattle.word.specs.Refusal.{fine}
use Rattle.class.specs.Info.{join_i, choice_i}
use Rattle.class.specs.declared.Info.{Info}
use Rattle.cell.specs.Res.{option_of}
use Rattle.cell.specs.Types.{limb_type, same_type}
use Rattle.cell.specs.declared.Type.{«Type» as Ty}
use Rattle.cell.specs.declared.Type.TheVariants as T
use Rattle.cell.proofs.Equal.{type_eqb, same_eq, boolean_eq}
use Rattle.cell.proofs.Options.{some_is}
use Rattle.std.specs.Prelude.{Some}
use Rattle.resolve.specs.Sizes.{weighed, join_w, choice_w, bind_size, let_w, capped}
use Rattle.resolve.specs.Steps.{class_of, stopped, known_by, leaf_k, two_k, not_k, brought_k, if_k, let_k, ruled_t, bool_t, if_t}
use Rattle.resolve.specs.declared.Weighed.{Weighed}
use Rattle.resolve.specs.declared.Known.{Known}
use Rattle.resolve.proofs.Weights.{Alike, alike_refl, alike_trans, weighed_alike, join_alike, known_alike}

-- SIZES.
pub stopped_alike : (x y : Weighed) → Alike x y → stopped x ≡ stopped y
unfolding stopped
stopped_alike x y e = λ j. record { info = e.info j; size = e.size j }

-- what is stopped is alike
pub alike_stopped : (x y : Weighed) → x ≡ stopped y → Alike x y
unfolding stopped
alike_stopped x y e = record { info = ap (λ (w : Weighed). w.info) e; size = ap (λ (w : Weighed). capped w.size) e ∙ (omega arith) }

module _ (x y : Weighed) (p q : ℕ) (a : p ≡ capped (x.size + y.size)) where
  pub joined_is : (j : Info) (r : Weighed) → j ≡ join_i x.info y.info → q ≡ capped (1 + p) → r ≡ stopped (weighed j q) → r ≡ stopped (join_w x y)
  unfolding join_w
  joined_is j r e b f = f ∙ stopped_alike (weighed j q) _ (weighed_alike j (join_i x.info y.info) q (1 + (x.size + y.size)) e (omega arith))

  pub chosen_is : (d s : ℕ) (j : Info) (r : Weighed) → j ≡ choice_i x.info y.info → q ≡ capped (d + p) → s ≡ capped (1 + q) → r ≡ stopped (weighed j s)
      → r ≡ stopped (choice_w d x y)
  unfolding choice_w
  chosen_is d s j r e b c f =
      f ∙ stopped_alike (weighed j s) _ (weighed_alike j (choice_i x.info y.info) s (1 + (d + (x.size + y.size))) e (omega arith))

pub bound_is : (d p : ℕ) (x y r : Weighed) → p ≡ capped (bind_size x.info x.size d y.size) → r ≡ stopped (weighed y.info p) → r ≡ stopped (let_w d x y)
unfolding let_w
bound_is d p x y r e f =
    f ∙ stopped_alike (weighed y.info p) _ (weighed_alike y.info y.info p (bind_size x.info x.size d y.size) refl (omega arith))

-- WHAT IS KNOWN.
pub leaf_is : (t : Ty) (i : Info) (next : ℕ) (w : Weighed) (r : Known) → w ≡ stopped (weighed i 1) → r ≡ known_by t next 1 w → r ≡ leaf_k t i next
unfolding leaf_k
leaf_is t i next w r e f = f ∙ known_alike t next 1 1 w (weighed i 1) refl (alike_stopped w _ e)

-- the class that is made of the classes of two values
module _ (x y : Known) (p q : Weighed) (e : p ≡ class_of x) (f : q ≡ class_of y) where
  classes_join : (w : Weighed) → w ≡ stopped (join_w p q) → Alike w (join_w (class_of x) (class_of y))
  classes_join w g = rw (← e, ← f) (alike_stopped w _ g)

  pub two_is : (t : Ty) (a b : ℕ) (w : Weighed) (r : Known)
      → a ≡ capped (x.values + y.values) → b ≡ capped (1 + a) → w ≡ stopped (join_w p q) → r ≡ known_by t y.next b w → r ≡ two_k t x y
  unfolding two_k
  two_is t a b w r g h j l = l ∙ known_alike t y.next b (1 + (x.values + y.values)) w _ (omega arith) (classes_join w j)

  pub let_is : (a b : ℕ) (w : Weighed) (r : Known)
      → a ≡ capped (x.values + y.values) → b ≡ capped (1 + a) → w ≡ stopped (let_w x.values p q) → r ≡ known_by y.ty y.next b w → r ≡ let_k x y
  unfolding let_k
  let_is a b w r g h j l =
      l ∙ known_alike y.ty y.next b (1 + (x.values + y.values)) w _ (omega arith) (rw (← e, ← f) (alike_stopped w _ j))

  pub if_is : (t : Ty) (c : Known) (a b d : ℕ) (u v w : Weighed) (r : Known)
      → a ≡ capped (x.values + y.values) → b ≡ capped (c.values + a) → d ≡ capped (1 + b)
      → u ≡ stopped (choice_w c.values p q) → v ≡ class_of c → w ≡ stopped (join_w v u) → r ≡ known_by t y.next d w → r ≡ if_k t c x y
  unfolding if_k
  if_is t c a b d u v w r g h j l m o k =
      k ∙ known_alike t y.next d (1 + (c.values + (x.values + y.values))) w _ (omega arith)
      (alike_trans w (join_w (class_of c) u) _ (rw (← m) (alike_stopped w _ o))
      (join_alike (class_of c) (class_of c) u _ (alike_refl _) (rw (← e, ← f) (alike_stopped u _ l))))

pub not_is : (x : Known) (a : ℕ) (w : Weighed) (r : Known) → a ≡ capped (1 + x.values) → w ≡ class_of x → r ≡ known_by T.Boolean x.next a w → r ≡ not_k x
unfolding not_k
not_is x a w r e f g = g ∙ known_alike T.Boolean x.next a (1 + x.values) w (class_of x) (omega arith) (rw f (alike_refl _))

module _ (t : Ty) (x : Known) (w : Weighed) (r : Known) (b : Bool) (e : b ≡ type_eqb x.ty t) (f : w ≡ class_of x) where
  same : b ≡ same_type x.ty t
  same = e ∙ sym (same_eq x.ty t)

  pub brought_same : b ≡ true → r ≡ known_by t x.next x.values w → r ≡ brought_k t x
  unfolding brought_k
  brought_same g h = rw (← same, g) (h ∙ ap (known_by t x.next x.values) f)

  pub brought_other : (a : ℕ) → b ≡ false → a ≡ capped (1 + x.values) → r ≡ known_by t x.next a w → r ≡ brought_k t x
  unfolding brought_k
  brought_other a g j h = rw (← same, g) (h ∙ known_alike t x.next a (1 + x.values) w (class_of x) (omega arith) (rw f (alike_refl _)))

-- IF that keeps the rules
pub if_ruled : (at : ℕ) (x y z p q r : Known) (u : Ty) (other : Bool) → other ≡ not (type_eqb x.ty T.Boolean) → other ≡ false → option_of (limb_type y.ty z.ty) ≡ Some u
    → p ≡ brought_k u y → q ≡ brought_k u z → r ≡ if_k u x p q → fine r ≡ if_t at x y z
unfolding if_t bool_t ruled_t
if_ruled at x y z p q r u other n e f a b c = rw (boolean_eq x.ty, same (type_eqb x.ty T.Boolean) (sym n ∙ e), some_is (limb_type y.ty z.ty) (sym f), ← a, ← b, c)
  where
    same : (b : Bool) → not b ≡ false → b ≡ true
    same true h = refl
    same false h = sym h

pub ruleset sizes = (joined_is, chosen_is, bound_is, rules)

pub ruleset knowns = (leaf_is, two_is, let_is, if_is, not_is, brought_same, brought_other, rules)
