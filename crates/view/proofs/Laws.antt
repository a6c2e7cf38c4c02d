-- What the parser said, by the place or the refusal that it said; and what it says of a value, a block and the root, by their parts.
-- Assumes nothing.
use Prim.Native.Nat.{ℕ, zero, suc, ◌+◌, ◌-◌, ◌<◌, ◌≤◌}
use mathlib.Core.Path.{◌≡◌, refl, sym, ap, ◌∙◌}
use mathlib.Core.Bool.{Bool, true, false, cond, ◌&&◌}
use mathlib.Core.List.{List, ◌∷◌}
use native.Mathlib.Omega.{arith}
use lib.Dec.{eqb, ltb}
use borrow.Author.Tests.{ltb-true, ltb-false, eqb-true, eqb-false, eq-eqb, ne_eqb, lt-ltb, le-ltb}
use Rattle.word.specs.Refusal.{Checked, fine, refusal}
use Rattle.view.specs.Ast.{TabName, Exp, Block, Parsed, ok, refused, and_then}
use Rattle.view.specs.Record.{node_at, slot_of}
use Rattle.view.specs.Parse.{enter_node, enter, many, parse_table, parse_block, parse_node, parse_value, root_node, parse_root, peek_of, place_of}
use Rattle.view.specs.declared.Node.{Node}
use Rattle.view.specs.declared.Node.TheVariants.{Select}

-- a refusal is no ok
pub refused_ok : {A : Type 0} {C : Type 0} {i j k : ℕ} {a : A} → refused i j ≡ ok a k → C
refused_ok e = absurd (let h : ◌≡◌ {A = ℕ} 0 1 = cc in omega arith)

-- two tests at once
pub and_left : (a b : Bool) → (a && b) ≡ true → a ≡ true
and_left true b e = refl
and_left false b e = e

pub and_right : (a b : Bool) → (a && b) ≡ true → b ≡ true
and_right true b e = e
and_right false b e = absurd (let h : ◌≡◌ {A = ℕ} 0 1 = cc in omega arith)

-- a number that is none of the next ones lies above them
pub above : (k n : ℕ) → k ≤ n → (n ≡ k → ⊥) → k + 1 ≤ n
above k n h f = omega arith

-- the parser's answer, by what it says but for the tree
pub place_fine : {A : Type 0} (P : Parsed A) {m : ℕ} → fine m ≡ place_of P → (a : A) × (P ≡ ok a m)
unfolding place_of
place_fine (ok a k) {m} e = (a, ap (ok a) (let h : k ≡ m = cc in h))
place_fine (refused i j) e = absurd (let h : ◌≡◌ {A = ℕ} 0 1 = cc in omega arith)

pub place_refusal : {A : Type 0} (P : Parsed A) {k p : ℕ} → refusal k p ≡ place_of P → P ≡ refused k p
unfolding place_of
place_refusal (ok a j) e = absurd (let h : ◌≡◌ {A = ℕ} 0 1 = cc in omega arith)
place_refusal (refused i j) {k} {p} e = let h : i ≡ k = cc in let g : j ≡ p = cc in cc

pub to_refusal : {A : Type 0} {P : Parsed A} {k p : ℕ} → P ≡ refused k p → refusal k p ≡ place_of P
unfolding place_of
to_refusal e = rw e

-- what an answer ok tells of the parts
pub cond_refused : {A : Type 0} (b : Bool) (i j : ℕ) {P : Parsed A} {k : ℕ} {a : A} → cond b P (refused i j) ≡ ok a k → (b ≡ true) × (P ≡ ok a k)
cond_refused true i j e = (refl, e)
cond_refused false i j e = refused_ok e

pub refused_cond : {A : Type 0} (b : Bool) (i j : ℕ) {P : Parsed A} {k : ℕ} {a : A} → cond b (refused i j) P ≡ ok a k → (b ≡ false) × (P ≡ ok a k)
refused_cond true i j e = refused_ok e
refused_cond false i j e = (refl, e)

pub then_ok : {A B : Type 0} (P : Parsed A) (f : A → ℕ → Parsed B) {b : B} {k : ℕ} → and_then P f ≡ ok b k → (a : A) × (m : ℕ) × (P ≡ ok a m) × (f a m ≡ ok b k)
unfolding and_then
then_ok (ok a m) f e = (a, m, refl, e)
then_ok (refused i j) f e = refused_ok e

-- the same, for results that stay variables
pub then_elim : {A B G : Type 0} (P : Parsed A) (f : A → ℕ → Parsed B) {b : B} {k : ℕ} → and_then P f ≡ ok b k → ((a : A) (m : ℕ) → P ≡ ok a m → f a m ≡ ok b k → G) → G
unfolding and_then
then_elim (ok a m) f e g = g a m refl e
then_elim (refused i j) f e g = refused_ok e

-- a record that may stand in its slot
pub enter_ok : (v : List ℕ) (n slot at : ℕ) {node : Node} {k : ℕ} → enter v n slot at ≡ ok node k → (at < n) × (node_at v at ≡ node) × (slot_of node ≡ slot) × (k ≡ at + 1)
unfolding enter enter_node
enter_ok v n slot at {node} {k} e =
    let s = cond_refused (ltb at n) 4 n e in
    let t = refused_cond (eqb (slot_of (node_at v at)) 0) 3 at s.1 in
    let u = cond_refused (eqb (slot_of (node_at v at)) slot) 4 at t.1 in
    let h : node_at v at ≡ node = cc in
    (ltb-true _ _ s.0, h, rw h at (eqb-true (slot_of (node_at v at)) slot u.0), (cc))

-- the same, by the node that was found at the place, if any
module _ (v : List ℕ) (n at : ℕ) where
  peek_elim : {G : Type 0} {X : Checked Node} → X ≡ peek_of v n at
      → (n ≤ at → X ≡ refusal 4 n → G)
      → (at < n → slot_of (node_at v at) ≡ 0 → X ≡ refusal 3 at → G)
      → (at < n → (slot_of (node_at v at) ≡ 0 → ⊥) → X ≡ fine (node_at v at) → G) → G
  unfolding peek_of
  peek_elim {G} {X} e early bad good = by (ltb at n) refl e
    where
      by : (b : Bool) → ltb at n ≡ b → X ≡ cond b (cond (eqb (slot_of (node_at v at)) 0) (refusal 3 at) (fine (node_at v at))) (refusal 4 n) → G
      by false l h = early (ltb-false at n l) h
      by true l h = by_slot (eqb (slot_of (node_at v at)) 0) refl h
        where
          by_slot : (b : Bool) → eqb (slot_of (node_at v at)) 0 ≡ b → X ≡ cond b (refusal 3 at) (fine (node_at v at)) → G
          by_slot true z g = bad (ltb-true at n l) (eqb-true _ 0 z) g
          by_slot false z g = good (ltb-true at n l) (eqb-false _ 0 z) g

  -- no node: no slot can be entered
  pub peek_refused : {k p : ℕ} (slot : ℕ) → refusal k p ≡ peek_of v n at → enter v n slot at ≡ refused k p
  unfolding enter enter_node
  peek_refused {k} {p} slot e =
      peek_elim e
      (λ l h. let a : k ≡ 4 = cc in let b : p ≡ n = cc in rw (a, b, le-ltb at n l))
      (λ l z h. let a : k ≡ 3 = cc in let b : p ≡ at = cc in rw (a, b, lt-ltb at n l, z))
      (λ l z h. absurd (let f : ◌≡◌ {A = ℕ} 0 1 = cc in omega arith))

  -- a node
  pub peek_found : {nd : Node} → fine nd ≡ peek_of v n at → (at < n) × (node_at v at ≡ nd) × (slot_of nd ≡ 0 → ⊥)
  peek_found {nd} e =
      peek_elim e
      (λ l h. absurd (let f : ◌≡◌ {A = ℕ} 0 1 = cc in omega arith))
      (λ l z h. absurd (let f : ◌≡◌ {A = ℕ} 0 1 = cc in omega arith))
      (λ l z h. let f : node_at v at ≡ nd = cc in (l, f, rw f at z))

  module _ {nd : Node} (e : fine nd ≡ peek_of v n at) where
    pub enter_here : (slot : ℕ) → slot_of nd ≡ slot → enter v n slot at ≡ ok nd (at + 1)
    unfolding enter enter_node
    enter_here slot f = let (l, g, z) = peek_found e in rw (lt-ltb at n l, g, ne_eqb (slot_of nd) 0 z, eq-eqb (slot_of nd) slot f)

    pub enter_elsewhere : (slot : ℕ) → (slot_of nd ≡ slot → ⊥) → enter v n slot at ≡ refused 4 at
    unfolding enter enter_node
    enter_elsewhere slot f = let (l, g, z) = peek_found e in rw (lt-ltb at n l, g, ne_eqb (slot_of nd) 0 z, ne_eqb (slot_of nd) slot f)

-- a value, by the answer of enter
pub value_refused : (v : List ℕ) (n d at : ℕ) {k p : ℕ} → enter v n 1 at ≡ refused k p → parse_value v n d at ≡ refused k p
unfolding parse_value and_then
value_refused v n zero at e = rw e
value_refused v n (suc d) at e = rw e

pub value_deep : (v : List ℕ) (n d at : ℕ) {node : Node} {k : ℕ} → d ≡ 0 → enter v n 1 at ≡ ok node k → parse_value v n d at ≡ refused 5 at
unfolding parse_value and_then
value_deep v n zero at z e = rw e
value_deep v n (suc d) at z e = absurd (omega arith)

pub value_node : (v : List ℕ) (n d at : ℕ) {node : Node} {k : ℕ} → (d ≡ 0 → ⊥) → enter v n 1 at ≡ ok node k → parse_value v n d at ≡ parse_node v n (d - 1) (parse_value v n (d - 1)) at node
unfolding parse_value and_then
value_node v n zero at z e = absurd (z refl)
value_node v n (suc d) at z e = let h : suc d - 1 ≡ d = omega arith in rw (e, h)

-- what is made of what was read does not show in the place
pub place_map : {A B : Type 0} (P : Parsed A) (f : A → B) → place_of (and_then P (λ a k. ok (f a) k)) ≡ place_of P
unfolding place_of and_then
place_map (ok a k) f = refl
place_map (refused i j) f = refl

place_cong : {A B C : Type 0} (P : Parsed A) (f : A → ℕ → Parsed B) (g : A → ℕ → Parsed C) → ((a : A) (k : ℕ) → place_of (f a k) ≡ place_of (g a k)) → place_of (and_then P f) ≡ place_of (and_then P g)
unfolding place_of and_then
place_cong (ok a k) f g h = h a k
place_cong (refused i j) f g h = refl

-- one, two and three children are so many values in a row
module _ (p : ℕ → Parsed Exp) where
  pub one_place : (at : ℕ) (f : Exp → Exp) → place_of (and_then (p at) (λ x a. ok (f x) a)) ≡ place_of (many p 1 at)
  unfolding many
  one_place at f = place_cong (p at) _ _ (λ x a. (unfold place_of and_then in refl))

  pub two_place : (at : ℕ) (f : Exp → Exp → Exp) → place_of (and_then (p at) (λ x a. and_then (p a) (λ y b. ok (f x y) b))) ≡ place_of (many p 2 at)
  unfolding many
  two_place at f = place_cong (p at) _ (λ x a. and_then (many p 1 a) (λ xs b. ok (x ∷ xs) b)) (λ x a. one_place a (f x) ∙ sym (place_map (many p 1 a) (λ xs. x ∷ xs)))

  pub three_place : (at : ℕ) (f : Exp → Exp → Exp → Exp) → place_of (and_then (p at) (λ x a. and_then (p a) (λ y b. and_then (p b) (λ z c. ok (f x y z) c)))) ≡ place_of (many p 3 at)
  unfolding many
  three_place at f = place_cong (p at) _ (λ x a. and_then (many p 2 a) (λ xs b. ok (x ∷ xs) b)) (λ x a. two_place a (f x) ∙ sym (place_map (many p 2 a) (λ xs. x ∷ xs)))

-- so many in a row, as the loops count
module _ {A : Type 0} (p : ℕ → Parsed A) where
  many_refused : (c at : ℕ) {i j : ℕ} → 0 < c → p at ≡ refused i j → many p c at ≡ refused i j
  unfolding many and_then
  many_refused zero at z e = absurd (omega arith)
  many_refused (suc c) at z e = rw e

  many_next : (c at : ℕ) {a : A} {m : ℕ} → 0 < c → p at ≡ ok a m → many p c at ≡ and_then (many p (c - 1) m) (λ xs k. ok (a ∷ xs) k)
  unfolding many and_then
  many_next zero at z e = absurd (omega arith)
  many_next (suc c) at z e = let h : suc c - 1 ≡ c = omega arith in rw (e, h)

  pub many_turn : (c i at : ℕ) {a : A} {m : ℕ} → i < c → p at ≡ ok a m → place_of (many p (c - i) at) ≡ place_of (many p (c - (i + 1)) m)
  many_turn c i at {a} {m} z e =
      let h : c - (i + 1) ≡ c - i - 1 = omega arith in
      rw h (ap place_of (many_next (c - i) at (omega arith) e) ∙ place_map (many p (c - i - 1) m) (λ xs. a ∷ xs))

  pub many_stop : (c i at : ℕ) {j k : ℕ} → i < c → p at ≡ refused j k → place_of (many p (c - i) at) ≡ refusal j k
  unfolding place_of
  many_stop c i at z e = rw (many_refused (c - i) at (omega arith) e)

  pub many_end : (c i at : ℕ) → c ≤ i → place_of (many p (c - i) at) ≡ fine at
  unfolding place_of many
  many_end c i at z = let h : c - i ≡ 0 = omega arith in rw h

-- a block, by its parts
module _ (v : List ℕ) (n d : ℕ) (p : ℕ → Parsed Exp) (nt nv at : ℕ) where
  pub tables_refused : {i j : ℕ} → many (parse_table v n d) nt at ≡ refused i j → parse_block v n d p nt nv at ≡ refused i j
  unfolding parse_block and_then
  tables_refused e = rw e

  pub where_refused : {ts : List TabName} {a i j : ℕ} → many (parse_table v n d) nt at ≡ ok ts a → p a ≡ refused i j → parse_block v n d p nt nv at ≡ refused i j
  unfolding parse_block and_then
  where_refused e f = rw (e, f)

  pub where_next : {ts : List TabName} {w : Exp} {a b : ℕ} → many (parse_table v n d) nt at ≡ ok ts a → p a ≡ ok w b → place_of (parse_block v n d p nt nv at) ≡ place_of (many p nv b)
  unfolding parse_block and_then
  where_next {ts} {w} {a} {b} e f = rw (e, f) (place_map (many p nv b) (λ vs. record { tables = ts; test = w; values = vs }))

-- the root, by the answers of enter and block
module _ (v : List ℕ) (n : ℕ) where
  pub root_refused : {k p : ℕ} → enter v n 3 0 ≡ refused k p → place_of (parse_root v n) ≡ refusal k p
  unfolding parse_root and_then place_of
  root_refused e = rw e

  pub root_block_refused : (a b : ℕ) {m k p : ℕ} → enter v n 3 0 ≡ ok (Select a b) m → parse_block v n 15 (parse_value v n 15) a b 1 ≡ refused k p → place_of (parse_root v n) ≡ refusal k p
  unfolding parse_root root_node and_then place_of
  root_block_refused a b e f = rw (e, f)

  pub root_end : (a b : ℕ) {m k : ℕ} {t : Block} → enter v n 3 0 ≡ ok (Select a b) m → parse_block v n 15 (parse_value v n 15) a b 1 ≡ ok t k → k ≡ n → place_of (parse_root v n) ≡ fine k
  unfolding parse_root root_node and_then place_of
  root_end a b {m} {k} e f g = rw (e, f, eq-eqb k n g)

  pub root_more : (a b : ℕ) {m k : ℕ} {t : Block} → enter v n 3 0 ≡ ok (Select a b) m → parse_block v n 15 (parse_value v n 15) a b 1 ≡ ok t k → (k ≡ n → ⊥) → place_of (parse_root v n) ≡ refusal 4 k
  unfolding parse_root root_node and_then place_of
  root_more a b {m} {k} e f g = rw (e, f, ne_eqb k n g)
