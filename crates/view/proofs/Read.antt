-- What the parser's ok tells a later pass: of a value, by its node, where its children were read; of a block; of so many in a row.
-- Assumes nothing.
use Prim.Native.Nat.{ℕ, zero, suc, ◌+◌, ◌-◌, ◌<◌, ◌≤◌}
use mathlib.Core.Path.{◌≡◌, refl, sym, ap, ◌∙◌}
use mathlib.Core.List.{List, [], ◌∷◌}
use native.Mathlib.Omega.{arith}
use lib.Dec.{eqb}
use borrow.Author.Tests.{eqb-false}
use Rattle.word.specs.Record.{a_at}
use Rattle.cell.specs.declared.Type.{«Type» as Ty}
use Rattle.cell.specs.declared.Value.{Value}
use Rattle.view.specs.Ast.{TabName, Exp, Block, first_of, Parsed, ok, and_then, next_of, WasRead}
use Rattle.view.specs.Ast as ast
use Rattle.view.specs.Record.{node_at, slot_of}
use Rattle.view.specs.Parse.{enter, many, name_of, names_at, parse_table, parse_block, parse_node, parse_value}
use Rattle.view.specs.declared.Node.{Node}
use Rattle.view.specs.declared.Fold.{Fold}
use Rattle.view.specs.declared.Pick.{Pick}
use Rattle.view.specs.declared.Node.TheVariants.{Const, Binop, Not, If, Exists, Single, Table, Select, Col, Classof, Let, Bad}
use Rattle.view.proofs.Laws.{refused_ok, then_ok, then_elim, refused_cond, enter_ok}
use Rattle.view.proofs.Says.{table_name}

-- ---- what was read

-- from an equation, and on to the next record
pub was_read : {A : Type 0} {P : Parsed A} {a : A} {k : ℕ} → P ≡ ok a k → WasRead P
was_read {A} {P} {a} {k} e = record { tree = a; end = k; is = e }

pub next_is : {A : Type 0} {P : Parsed A} {a : A} {k : ℕ} → P ≡ ok a k → next_of P ≡ k
unfolding next_of
next_is e = rw e

-- a value that was read: levels are left, its record is there and may be a value's
pub record Here (v : List ℕ) (n d at : ℕ) : Type 0 where
  pub left : 0 < d
  pub here : at < n
  pub slot : slot_of (node_at v at) ≡ 1
  pub node : parse_value v n d at ≡ parse_node v n (d - 1) (parse_value v n (d - 1)) at (node_at v at)

pub here_ok : (v : List ℕ) (n d at : ℕ) → WasRead (parse_value v n d at) → Here v n d at
unfolding parse_value and_then
here_ok v n zero at w = refused_ok (then_ok (enter v n 1 at) _ w.is).3
here_ok v n (suc d) at w =
    let s = then_ok (enter v n 1 at) _ w.is in
    let g = enter_ok v n 1 at s.2 in
    let z : suc d - 1 ≡ d = omega arith in
    record { left = omega arith; here = g.0; slot = rw g.1 g.2; node = rw (z, s.2, g.1) }

-- ---- one, two, three children in a row

module _ (p : ℕ → Parsed Exp) (at : ℕ) (P : Parsed Exp) where
  pub record One (f : Exp → Exp) : Type 0 where
    pub x : Exp
    pub end : ℕ
    pub first : p at ≡ ok x end
    pub whole : P ≡ ok (f x) end

  pub record Two (f : Exp → Exp → Exp) : Type 0 where
    pub x : Exp
    pub y : Exp
    pub mid : ℕ
    pub end : ℕ
    pub first : p at ≡ ok x mid
    pub second : p mid ≡ ok y end
    pub whole : P ≡ ok (f x y) end

  pub record Three (f : Exp → Exp → Exp → Exp) : Type 0 where
    pub x : Exp
    pub y : Exp
    pub z : Exp
    pub mid : ℕ
    pub late : ℕ
    pub end : ℕ
    pub first : p at ≡ ok x mid
    pub second : p mid ≡ ok y late
    pub third : p late ≡ ok z end
    pub whole : P ≡ ok (f x y z) end

  one_ok : (f : Exp → Exp) → P ≡ and_then (p at) (λ x a. ok (f x) a) → WasRead P → One f
  one_ok f e w =
      let s = then_ok (p at) _ (sym e ∙ w.is) in
      record { x = s.0; end = s.1; first = s.2; whole = w.is ∙ sym s.3 }

  two_ok : (f : Exp → Exp → Exp) → P ≡ and_then (p at) (λ x a. and_then (p a) (λ y b. ok (f x y) b)) → WasRead P → Two f
  two_ok f e w =
      let s = then_ok (p at) _ (sym e ∙ w.is) in
      let t = then_ok (p s.1) _ s.3 in
      record { x = s.0; y = t.0; mid = s.1; end = t.1; first = s.2; second = t.2; whole = w.is ∙ sym t.3 }

  three_ok : (f : Exp → Exp → Exp → Exp) → P ≡ and_then (p at) (λ x a. and_then (p a) (λ y b. and_then (p b) (λ z c. ok (f x y z) c))) → WasRead P → Three f
  three_ok f e w =
      let s = then_ok (p at) _ (sym e ∙ w.is) in
      let t = then_ok (p s.1) _ s.3 in
      let u = then_ok (p t.1) _ t.3 in
      record { x = s.0; y = t.0; z = u.0; mid = s.1; late = t.1; end = u.1; first = s.2; second = t.2; third = u.2; whole = w.is ∙ sym u.3 }

  -- each child was read, where the one before it ends
  pub one_first : {f : Exp → Exp} → One f → WasRead (p at)
  one_first h = was_read h.first

  pub two_first : {f : Exp → Exp → Exp} → Two f → WasRead (p at)
  two_first h = was_read h.first

  pub two_second : {f : Exp → Exp → Exp} {m : ℕ} → Two f → m ≡ next_of (p at) → WasRead (p m)
  two_second h e = let g = e ∙ next_is h.first in rw g (was_read h.second)

  pub three_first : {f : Exp → Exp → Exp → Exp} → Three f → WasRead (p at)
  three_first h = was_read h.first

  pub three_second : {f : Exp → Exp → Exp → Exp} {m : ℕ} → Three f → m ≡ next_of (p at) → WasRead (p m)
  three_second h e = let g = e ∙ next_is h.first in rw g (was_read h.second)

  pub three_third : {f : Exp → Exp → Exp → Exp} {m l : ℕ} → Three f → m ≡ next_of (p at) → l ≡ next_of (p m) → WasRead (p l)
  three_third {f} {m} {l} h e i =
      let g : m ≡ h.mid = e ∙ next_is h.first in
      let j : l ≡ h.late = i ∙ ap (λ (k : ℕ). next_of (p k)) g ∙ next_is h.second in
      rw j (was_read h.third)

  -- the whole ends where its last child does
  pub one_next : {f : Exp → Exp} {m : ℕ} → One f → m ≡ next_of (p at) → m ≡ next_of P
  one_next h e = e ∙ next_is h.first ∙ sym (next_is h.whole)

  pub two_next : {f : Exp → Exp → Exp} {m l : ℕ} → Two f → m ≡ next_of (p at) → l ≡ next_of (p m) → l ≡ next_of P
  two_next {f} {m} {l} h e i =
      let g : m ≡ h.mid = e ∙ next_is h.first in
      i ∙ ap (λ (k : ℕ). next_of (p k)) g ∙ next_is h.second ∙ sym (next_is h.whole)

  pub three_next : {f : Exp → Exp → Exp → Exp} {m l k : ℕ} → Three f → m ≡ next_of (p at) → l ≡ next_of (p m) → k ≡ next_of (p l) → k ≡ next_of P
  three_next {f} {m} {l} {k} h e i j =
      let g : m ≡ h.mid = e ∙ next_is h.first in
      let o : l ≡ h.late = i ∙ ap (λ (x : ℕ). next_of (p x)) g ∙ next_is h.second in
      j ∙ ap (λ (x : ℕ). next_of (p x)) o ∙ next_is h.third ∙ sym (next_is h.whole)

-- ---- so many in a row

pub record More {A : Type 0} (p : ℕ → Parsed A) (c at : ℕ) : Type 0 where
  pub head : A
  pub mid : ℕ
  pub tail : List A
  pub end : ℕ
  pub first : p at ≡ ok head mid
  pub rest : many p (c - 1) mid ≡ ok tail end
  pub whole : many p c at ≡ ok (head ∷ tail) end

pub none_ok : {A : Type 0} (p : ℕ → Parsed A) (at : ℕ) → many p 0 at ≡ ok [] at
unfolding many
none_ok p at = refl

pub more_ok : {A : Type 0} (p : ℕ → Parsed A) (c at : ℕ) → 0 < c → WasRead (many p c at) → More p c at
unfolding many
more_ok p zero at z w = absurd (omega arith)
more_ok p (suc c) at z w =
    let s = then_ok (p at) _ w.is in
    let t = then_ok (many p c s.1) _ s.3 in
    let h : suc c - 1 ≡ c = omega arith in
    record { head = s.0; mid = s.1; tail = t.0; end = t.1; first = s.2; rest = rw h t.2; whole = w.is ∙ sym t.3 }

-- as a loop goes: c in all, i gone, the next at m
pub more_begin : {A : Type 0} (p : ℕ → Parsed A) (c m : ℕ) → WasRead (many p c m) → WasRead (many p (c - 0) m)
more_begin p c m w = let h : c - 0 ≡ c = omega arith in rw h w

module _ {A : Type 0} (p : ℕ → Parsed A) (c i m : ℕ) (w : WasRead (many p (c - i) m)) (z : i < c) where
  pub more_first : WasRead (p m)
  more_first = was_read (more_ok p (c - i) m (omega arith) w).first

  pub more_rest : {k : ℕ} → k ≡ next_of (p m) → WasRead (many p (c - (i + 1)) k)
  more_rest {k} e =
      let h = more_ok p (c - i) m (omega arith) w in
      let g : c - (i + 1) ≡ c - i - 1 = omega arith in
      rw (g, e ∙ next_is h.first) (was_read h.rest)

-- ---- a block's tables

-- c records from `at` on are TABLEs
pub record Listed (v : List ℕ) (n at c : ℕ) : Type 0 where
  pub within : at + c ≤ n
  pub each : (i : ℕ) → i < c → node_at v (at + i) ≡ Table (name_of (node_at v (at + i)))

slot_table : (nd : Node) → slot_of nd ≡ 2 → nd ≡ Table (name_of nd)
unfolding slot_of name_of
slot_table (Const t x) e = absurd (omega arith)
slot_table (Binop op) e = absurd (omega arith)
slot_table Not e = absurd (omega arith)
slot_table If e = absurd (omega arith)
slot_table (Exists a f) e = absurd (omega arith)
slot_table (Single a g) e = absurd (omega arith)
slot_table (Table name) e = refl
slot_table (Select a b) e = absurd (omega arith)
slot_table (Col name q) e = absurd (omega arith)
slot_table (Classof name q) e = absurd (omega arith)
slot_table (Let name) e = absurd (omega arith)
slot_table Bad e = absurd (omega arith)

record OneTable (v : List ℕ) (n d at : ℕ) (t : TabName) (k : ℕ) : Type 0 where
  deep : 0 < d
  here : at < n
  node : node_at v at ≡ Table (name_of (node_at v at))
  name_is : t ≡ record { at = at; name = name_of (node_at v at) }
  next : k ≡ at + 1

table_ok : (v : List ℕ) (n d at : ℕ) {t : TabName} {k : ℕ} → parse_table v n d at ≡ ok t k → OneTable v n d at t k
unfolding parse_table
table_ok v n d at {t} {k} h =
    let s = then_ok (enter v n 2 at) _ h in
    let g = enter_ok v n 2 at s.2 in
    let c = refused_cond (eqb d 0) 5 at s.3 in
    let z : d ≡ 0 → ⊥ = eqb-false d 0 c.0 in
    let x : record { at = at; name = name_of s.0 } ≡ t = cc in
    let y : s.1 ≡ k = cc in
    record {
      deep = omega arith;
      here = g.0;
      node = slot_table (node_at v at) (rw g.1 g.2);
      name_is = sym x ∙ ap (λ (nd : Node). record { at = at; name = name_of nd }) (sym g.1);
      next = sym y ∙ g.3;
    }

pub record Names (v : List ℕ) (n d c at : ℕ) (ts : List TabName) (k : ℕ) : Type 0 where
  pub names : ts ≡ names_at v at c
  pub next : k ≡ at + c
  pub listed : at ≤ n → Listed v n at c
  pub deep : 0 < c → 0 < d

pub names_ok : (v : List ℕ) (n d c at : ℕ) {ts : List TabName} {k : ℕ} → many (parse_table v n d) c at ≡ ok ts k → Names v n d c at ts k
unfolding many names_at
names_ok v n d zero at {ts} {k} h =
    let x : at ≡ k = cc in
    record { names = (cc); next = omega arith; listed = λ z. record { within = omega arith; each = λ i l. absurd (omega arith) }; deep = λ z. absurd (omega arith) }
names_ok v n d (suc c) at {ts} {k} h =
    let s = then_ok (parse_table v n d at) _ h in
    let t = then_ok (many (parse_table v n d) c s.1) _ s.3 in
    let o = table_ok v n d at s.2 in
    let g = names_ok v n d c (at + 1) (ap (many (parse_table v n d) c) (sym o.next) ∙ t.2) in
    let l = g.listed (omega arith) in
    let x : s.0 ∷ t.0 ≡ ts = cc in
    let y : t.1 ≡ k = cc in
    record {
      names = sym x ∙ ap (λ (u : TabName). u ∷ t.0) o.name_is ∙ ap (λ (us : List TabName). record { at = at; name = name_of (node_at v at) } ∷ us) g.names;
      next = omega (arith, g.next);
      listed = λ z. record { within = omega (arith, l.within); each = each o.node l.each };
      deep = λ z. o.deep;
    }
  where
    each : node_at v at ≡ Table (name_of (node_at v at)) → ((i : ℕ) → i < c → node_at v (at + 1 + i) ≡ Table (name_of (node_at v (at + 1 + i)))) → (i : ℕ) → i < suc c → node_at v (at + i) ≡ Table (name_of (node_at v (at + i)))
    each e f zero z = let q : at + 0 ≡ at = omega arith in rw q e
    each e f (suc i) z = let q : at + suc i ≡ at + 1 + i = omega arith in rw q (f i (omega arith))

-- the names one by one, as a loop goes
pub names_none : (v : List ℕ) (at : ℕ) → names_at v at 0 ≡ []
unfolding names_at
names_none v at = refl

pub names_more : (v : List ℕ) (at c : ℕ) → 0 < c → names_at v at c ≡ record { at = at; name = name_of (node_at v at) } ∷ names_at v (at + 1) (c - 1)
unfolding names_at
names_more v at zero z = absurd (omega arith)
names_more v at (suc c) z = let h : suc c - 1 ≡ c = omega arith in rw h

-- a TABLE's name is its field a
pub listed_name : (v : List ℕ) (n at c i : ℕ) → Listed v n at c → i < c → name_of (node_at v (at + i)) ≡ a_at v (at + i)
listed_name v n at c i l z = (table_name v (at + i) refl (l.each i z)).1

-- ---- a block: its where after its tables, then its values

pub record InBlock (v : List ℕ) (n : ℕ) (p : ℕ → Parsed Exp) (nt nv at : ℕ) (b : Block) (end : ℕ) : Type 0 where
  pub mid : ℕ
  pub names : b.tables ≡ names_at v at nt
  pub listed : at ≤ n → Listed v n at nt
  pub first : p (at + nt) ≡ ok b.test mid
  pub rest : many p nv mid ≡ ok b.values end

pub block_ok : (v : List ℕ) (n d : ℕ) (p : ℕ → Parsed Exp) (nt nv at : ℕ) {b : Block} {end : ℕ} → parse_block v n d p nt nv at ≡ ok b end → InBlock v n p nt nv at b end
unfolding parse_block
block_ok v n d p nt nv at {b} {end} h =
    let s = then_ok (many (parse_table v n d) nt at) _ h in
    let t = then_ok (p s.1) _ s.3 in
    let u = then_ok (many p nv t.1) _ t.3 in
    let g = names_ok v n d nt at s.2 in
    let r : record { tables = s.0; test = t.0; values = u.0 } ≡ b = cc in
    let x : s.0 ≡ b.tables = ap (λ (c : Block). c.tables) r in
    let y : t.0 ≡ b.test = ap (λ (c : Block). c.test) r in
    let z : u.0 ≡ b.values = ap (λ (c : Block). c.values) r in
    let q : u.1 ≡ end = cc in
    record { mid = t.1; names = sym x ∙ g.names; listed = g.listed; first = ap p (sym g.next) ∙ t.2 ∙ ap (λ (w : Exp). ok w t.1) y; rest = u.2 ∙ ap (λ (ws : List Exp). ok ws u.1) z ∙ ap (ok b.values) q }

-- its where, its values and its tables, as a pass goes through them
module _ (v : List ℕ) (n d : ℕ) (p : ℕ → Parsed Exp) (nt nv at : ℕ) (w : WasRead (parse_block v n d p nt nv at)) where
  pub block_test : WasRead (p (at + nt))
  block_test = was_read (block_ok v n d p nt nv at w.is).first

  pub block_values : {m : ℕ} → m ≡ next_of (p (at + nt)) → WasRead (many p nv m)
  block_values e = let h = block_ok v n d p nt nv at w.is in let g = e ∙ next_is h.first in rw g (was_read h.rest)

  pub block_tables : at ≤ n → Listed v n at nt
  block_tables = (block_ok v n d p nt nv at w.is).listed

-- EXISTS and VALUE, by their block
module _ (v : List ℕ) (n d : ℕ) (p : ℕ → Parsed Exp) (a at : ℕ) (P : Parsed Exp) where
  exists_parts : {q : Fold} (b : Block) (k : ℕ) → InBlock v n p a 0 (at + 1) b k → P ≡ ok (ast.Exp.exists at q b.tables b.test) k
      → One p (at + 1 + a) P (ast.Exp.exists at q (names_at v (at + 1) a))
  exists_parts {q} b k h e =
      let g : ok [] h.mid ≡ ok b.values k = sym (none_ok p h.mid) ∙ h.rest in
      let m : h.mid ≡ k = cc in
      record { x = b.test; end = k; first = h.first ∙ ap (ok b.test) m; whole = e ∙ ap (λ (ts : List TabName). ok (ast.Exp.exists at q ts b.test) k) h.names }

  single_parts : {q : Pick} (b : Block) (k : ℕ) → InBlock v n p a 1 (at + 1) b k → P ≡ ok (ast.Exp.single at q b.tables b.test (first_of b.values)) k
      → Two p (at + 1 + a) P (ast.Exp.single at q (names_at v (at + 1) a))
  unfolding first_of
  single_parts {q} b k h e =
      let o = more_ok p 1 h.mid (omega arith) (was_read h.rest) in
      let f : ok (o.head ∷ o.tail) o.end ≡ ok b.values k = sym o.whole ∙ h.rest in
      let g : ok [] o.mid ≡ ok o.tail o.end = sym (none_ok p o.mid) ∙ o.rest in
      let m : o.mid ≡ k = cc in
      let vs : b.values ≡ o.head ∷ o.tail = cc in
      record {
        x = b.test;
        y = o.head;
        mid = h.mid;
        end = k;
        first = h.first;
        second = o.first ∙ ap (ok o.head) m;
        whole = e ∙ ap (λ (ts : List TabName). ok (ast.Exp.single at q ts b.test (first_of b.values)) k) h.names
            ∙ ap (λ (es : List Exp). ok (ast.Exp.single at q (names_at v (at + 1) a) b.test (first_of es)) k) vs;
      }

  exists_ok : {q : Fold} → P ≡ and_then (parse_block v n d p a 0 (at + 1)) (λ b next. ok (ast.Exp.exists at q b.tables b.test) next) → WasRead P
      → One p (at + 1 + a) P (ast.Exp.exists at q (names_at v (at + 1) a))
  exists_ok e w = then_elim (parse_block v n d p a 0 (at + 1)) _ (sym e ∙ w.is) (λ b k f g. exists_parts b k (block_ok v n d p a 0 (at + 1) f) (w.is ∙ sym g))

  single_ok : {q : Pick} → P ≡ and_then (parse_block v n d p a 1 (at + 1)) (λ b next. ok (ast.Exp.single at q b.tables b.test (first_of b.values)) next) → WasRead P
      → Two p (at + 1 + a) P (ast.Exp.single at q (names_at v (at + 1) a))
  single_ok e w = then_elim (parse_block v n d p a 1 (at + 1)) _ (sym e ∙ w.is) (λ b k f g. single_parts b k (block_ok v n d p a 1 (at + 1) f) (w.is ∙ sym g))

  block_listed : (nv : ℕ) (f : Block → ℕ → Parsed Exp) → at < n → P ≡ and_then (parse_block v n d p a nv (at + 1)) f → WasRead P → Listed v n (at + 1) a
  block_listed nv f l e w = then_elim (parse_block v n d p a nv (at + 1)) f (sym e ∙ w.is) (λ b k g h. (block_ok v n d p a nv (at + 1) g).listed (omega arith))

-- ---- A VALUE THAT WAS READ, BY ITS NODE. nd is the node that the pass took from the record

module _ (v : List ℕ) (n d at : ℕ) (w : WasRead (parse_value v n d at)) {nd : Node} (e : nd ≡ node_at v at) where
  abbrev p : ℕ → Parsed Exp
  p = parse_value v n (d - 1)

  pub value_is : {md : Node} → nd ≡ md → parse_value v n d at ≡ parse_node v n (d - 1) (parse_value v n (d - 1)) at md
  value_is f = (here_ok v n d at w).node ∙ ap (parse_node v n (d - 1) p at) (sym e ∙ f)

  pub const_read : {t : Ty} {x : Value} → nd ≡ Const t x → parse_value v n d at ≡ ok (ast.Exp.const at t x) (at + 1)
  unfolding parse_node
  const_read f = value_is f

  pub col_read : {name q : ℕ} → nd ≡ Col name q → parse_value v n d at ≡ ok (ast.Exp.col at name q) (at + 1)
  unfolding parse_node
  col_read f = value_is f

  pub classof_read : {name q : ℕ} → nd ≡ Classof name q → parse_value v n d at ≡ ok (ast.Exp.classof at name q) (at + 1)
  unfolding parse_node
  classof_read f = value_is f

  pub not_read : nd ≡ Not → One (parse_value v n (d - 1)) (at + 1) (parse_value v n d at) (ast.Exp.neg at)
  unfolding parse_node
  not_read f = one_ok _ _ _ _ (value_is f) w

  pub binop_read : {op : ℕ} → nd ≡ Binop op → Two (parse_value v n (d - 1)) (at + 1) (parse_value v n d at) (ast.Exp.binop at op)
  unfolding parse_node
  binop_read f = two_ok _ _ _ _ (value_is f) w

  pub let_read : {name : ℕ} → nd ≡ Let name → Two (parse_value v n (d - 1)) (at + 1) (parse_value v n d at) (ast.Exp.letin at name)
  unfolding parse_node
  let_read f = two_ok _ _ _ _ (value_is f) w

  pub if_read : nd ≡ If → Three (parse_value v n (d - 1)) (at + 1) (parse_value v n d at) (ast.Exp.if at)
  unfolding parse_node
  if_read f = three_ok _ _ _ _ (value_is f) w

  -- EXISTS and VALUE: the TABLE records, then the where, then VALUE's value
  pub exists_read : {a : ℕ} {q : Fold} → nd ≡ Exists a q → One (parse_value v n (d - 1)) (at + 1 + a) (parse_value v n d at) (ast.Exp.exists at q (names_at v (at + 1) a))
  unfolding parse_node
  exists_read f = exists_ok v n (d - 1) p _ at _ (value_is f) w

  pub exists_listed : {a : ℕ} {q : Fold} → nd ≡ Exists a q → Listed v n (at + 1) a
  unfolding parse_node
  exists_listed f = block_listed v n (d - 1) p _ at _ 0 _ (here_ok v n d at w).here (value_is f) w

  pub single_read : {a : ℕ} {q : Pick} → nd ≡ Single a q → Two (parse_value v n (d - 1)) (at + 1 + a) (parse_value v n d at) (ast.Exp.single at q (names_at v (at + 1) a))
  unfolding parse_node
  single_read f = single_ok v n (d - 1) p _ at _ (value_is f) w

  pub single_listed : {a : ℕ} {q : Pick} → nd ≡ Single a q → Listed v n (at + 1) a
  unfolding parse_node
  single_listed f = block_listed v n (d - 1) p _ at _ 1 _ (here_ok v n d at w).here (value_is f) w

  -- no other node is a value's
  pub no_value : {md : Node} → nd ≡ md → (slot_of md ≡ 1 → ⊥) → ⊥
  no_value f g = g (ap slot_of (sym f ∙ e) ∙ (here_ok v n d at w).slot)

  pub no_table : {a : ℕ} → nd ≡ Table a → ⊥
  unfolding slot_of
  no_table f = no_value f (omega arith)

  pub no_select : {a b : ℕ} → nd ≡ Select a b → ⊥
  unfolding slot_of
  no_select f = no_value f (omega arith)

  pub no_bad : nd ≡ Bad → ⊥
  unfolding slot_of
  no_bad f = no_value f (omega arith)
