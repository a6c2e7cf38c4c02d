-- What an accepted value tells of its parts, one law for each kind: they are accepted, its expression is made of theirs, and it ends where its last part does.
-- nd is the node that a pass took from record `at`; m and l are the places that it holds after the first and the second part. Assumes nothing.
use Prim.Native.Nat.{ℕ, ◌+◌, ◌-◌, ◌<◌, ◌≤◌}
use mathlib.Core.Path.{◌≡◌, refl, sym, ap, ap₂, ◌∙◌, subst}
use mathlib.Core.List.{List, ◌∷◌}
use native.Mathlib.Omega.{arith}
use lib.ListN.{length, set}
use Rattle.word.specs.Refusal.{fine}
use Rattle.class.specs.declared.Info.TheVariants.{Fixed}
use Rattle.cell.specs.Res.{done}
use Rattle.cell.specs.Types.{digits_of, binop_type}
use Rattle.cell.specs.declared.Type.{«Type» as Ty}
use Rattle.cell.specs.declared.Value.{Value}
use Rattle.catalogue.specs.Tables.{TabRef, tables_from}
use Rattle.view.specs.Ast.{Exp, ok}
use Rattle.view.specs.Record.{node_at}
use Rattle.view.specs.Parse.{names_at, parse_value}
use Rattle.view.specs.declared.Fold.{Fold}
use Rattle.view.specs.declared.Pick.{Pick}
use Rattle.view.specs.declared.Node.{Node}
use Rattle.view.specs.declared.Node.TheVariants.{Const, Binop, Not, If, Exists, Single, Table as Tab, Select, Col, Classof, Let, Bad}
use Rattle.view.proofs.Read as read
use Rattle.view.proofs.Read.{was_read, next_is}
use Rattle.view.proofs.Says.{exists_few, single_few}
use Rattle.scope.specs.Scopes.{Open, local, find}
use Rattle.scope.specs.Table.{scopes_of, infos_of}
use Rattle.scope.specs.Blocks.{Tabs, all, tables_named, refs_of, opened}
use Rattle.scope.specs.Entry.{type_in, local_scope, opened_by}
use Rattle.scope.specs.declared.Scope.{Scope}
use Rattle.scope.proofs.Locals.{local_type}
use Rattle.scope.proofs.Pushes.{push_long, local_scopes, local_infos, block_scopes, block_infos}
use Rattle.scope.proofs.Named.{BlockOpened, block_opened, block_fine, names_length}
use Rattle.resolve.specs.Expr.{Expr}
use Rattle.resolve.specs.Expr as expr
use Rattle.resolve.specs.Totals.{fold_type}
use Rattle.resolve.specs.Resolve.{good, brought, resolve}
use Rattle.resolve.specs.Claims.{or_no_table, Ready, block_node, Narrow, Tabled}
use Rattle.resolve.specs.declared.Asked.{Asked}
use Rattle.resolve.specs.declared.Asked.TheVariants as ask
use Rattle.resolve.specs.declared.Files.{Files}
use Rattle.resolve.proofs.Entries.{entry_made}
use Rattle.resolve.proofs.Inversion.{ColGood, ClassGood, pick_same, const_good, bin_good, neg_good, if_good, exists_good, single_good, let_good, col_good, classof_good}
use Rattle.resolve.proofs.Turns.{child}
use Rattle.resolve.proofs.Narrow.{narrow_entry, narrow_push}
use Rattle.tree.specs.Claims.{out_at, expr_at, type_at, info_at, next_at, Accepted, refs_at}
use Rattle.tree.proofs.Resolved.{out_is, expr_is, type_is}
use Rattle.tree.proofs.Narrow.{narrow_type}

-- a value that was read and resolved is accepted, and this is its expression and its type
pub record Is (c ss v : List ℕ) (f : Files) (t : List Scope) (deep d at : ℕ) (x : Expr) (s : Ty) : Type 0 where
  pub accepted : Accepted c ss v f t deep d at
  pub expr_as : expr_at c v f t deep d at ≡ x
  pub type_as : type_at c v f t deep d at ≡ s

pub accept : (c ss v : List ℕ) (f : Files) (t : List Scope) (deep d at : ℕ) → Ready c ss v f t deep d at
    → {e : Exp} {k : ℕ} → parse_value v f.n d at ≡ ok e k → {x : Expr} {s : Ty}
    → resolve (tables_from c f.nc f.nc 0) (scopes_of c f.nc t deep) e ≡ good x s → Is c ss v f t deep d at x s
accept c ss v f t deep d at r h {x} {s} g =
    let o : out_at c v f t deep d at ≡ good x s = out_is c v f t deep d at h ∙ g in
    let p = expr_is c v f t deep d at o in
    let q = type_is c v f t deep d at o in
    record { accepted = record { ready = r; resolved = o ∙ sym (ap₂ good p q) }; expr_as = p; type_as = q }

-- ---- the parts, by kind

pub record NotIs (c ss v : List ℕ) (f : Files) (t : List Scope) (deep d at : ℕ) : Type 0 where
  pub operand : Accepted c ss v f t deep (d - 1) (at + 1)
  pub is : expr_at c v f t deep d at ≡ expr.Expr.neg (expr_at c v f t deep (d - 1) (at + 1))
  pub next : next_at v f (d - 1) (at + 1) ≡ next_at v f d at
  pub type_as : type_at c v f t deep (d - 1) (at + 1) ≡ type_at c v f t deep d at

pub record BinopIs (c ss v : List ℕ) (f : Files) (t : List Scope) (deep d at op m : ℕ) : Type 0 where
  pub left : Accepted c ss v f t deep (d - 1) (at + 1)
  pub right : Accepted c ss v f t deep (d - 1) m
  pub is : expr_at c v f t deep d at
      ≡ expr.Expr.bin op (digits_of (type_at c v f t deep d at)) (expr_at c v f t deep (d - 1) (at + 1)) (expr_at c v f t deep (d - 1) m)
  pub next : next_at v f (d - 1) m ≡ next_at v f d at
  pub rule : binop_type op (type_at c v f t deep (d - 1) (at + 1)) (type_at c v f t deep (d - 1) m) ≡ done (type_at c v f t deep d at)

pub record IfIs (c ss v : List ℕ) (f : Files) (t : List Scope) (deep d at m l : ℕ) : Type 0 where
  pub test : Accepted c ss v f t deep (d - 1) (at + 1)
  pub yes : Accepted c ss v f t deep (d - 1) m
  pub no : Accepted c ss v f t deep (d - 1) l
  pub is : expr_at c v f t deep d at
      ≡ expr.Expr.if (expr_at c v f t deep (d - 1) (at + 1))
      (brought (type_at c v f t deep (d - 1) m) (type_at c v f t deep d at) (expr_at c v f t deep (d - 1) m))
      (brought (type_at c v f t deep (d - 1) l) (type_at c v f t deep d at) (expr_at c v f t deep (d - 1) l))
  pub next : next_at v f (d - 1) l ≡ next_at v f d at

-- u is the table with the local open
pub record LetIs (c ss v : List ℕ) (f : Files) (t u : List Scope) (deep d at m : ℕ) : Type 0 where
  pub value : Accepted c ss v f t deep (d - 1) (at + 1)
  pub body : Accepted c ss v f u (deep + 1) (d - 1) m
  pub is : expr_at c v f t deep d at ≡ expr.Expr.letin (expr_at c v f t deep (d - 1) (at + 1)) (expr_at c v f u (deep + 1) (d - 1) m)
  pub next : next_at v f (d - 1) m ≡ next_at v f d at
  pub infos : infos_of u (deep + 1) ≡ info_at c v f t deep (d - 1) (at + 1) ∷ infos_of t deep
  pub type_as : type_at c v f u (deep + 1) (d - 1) m ≡ type_at c v f t deep d at

-- a block: s is its entry, u the table with its scope open
pub record BlockIs (c ss v : List ℕ) (f : Files) (t u : List Scope) (deep d at count : ℕ) (s : Scope) : Type 0 where
  pub tabled : Tabled c f.nc ss f.tables v (at + 1) count
  pub some : 1 ≤ count
  pub counted : length (refs_at c f.nc v (at + 1) count) ≡ count
  pub entry : BlockOpened c f.nc (tables_named (tables_from c f.nc f.nc 0) (names_at v (at + 1) count)) s
  pub test : Accepted c ss v f u (deep + 1) (d - 1) (at + 1 + count)
  pub infos : infos_of u (deep + 1) ≡ Fixed 0 ∷ infos_of t deep

pub record ExistsIs (c ss v : List ℕ) (f : Files) (t u : List Scope) (deep d at count : ℕ) (h : Fold) (s : Scope) : Type 0 where
  pub block : BlockIs c ss v f t u deep d at count s
  pub is : expr_at c v f t deep d at ≡ expr.Expr.exists h (refs_at c f.nc v (at + 1) count) (expr_at c v f u (deep + 1) (d - 1) (at + 1 + count))
  pub next : next_at v f (d - 1) (at + 1 + count) ≡ next_at v f d at
  pub type_as : fold_type h ≡ type_at c v f t deep d at

pub record SingleIs (c ss v : List ℕ) (f : Files) (t u : List Scope) (deep d at count m : ℕ) (h : Pick) (s : Scope) : Type 0 where
  pub block : BlockIs c ss v f t u deep d at count s
  pub value : Accepted c ss v f u (deep + 1) (d - 1) m
  pub is : expr_at c v f t deep d at
      ≡ expr.Expr.single h (refs_at c f.nc v (at + 1) count) (expr_at c v f u (deep + 1) (d - 1) (at + 1 + count)) (expr_at c v f u (deep + 1) (d - 1) m)
  pub next : next_at v f (d - 1) m ≡ next_at v f d at
  pub type_as : type_at c v f u (deep + 1) (d - 1) m ≡ type_at c v f t deep d at

module _ (c ss v : List ℕ) (f : Files) (t : List Scope) (deep d at : ℕ) (w : Accepted c ss v f t deep d at) where
  -- the rules' answer on what was read
  whole : {e : Exp} {k : ℕ} → parse_value v f.n d at ≡ ok e k
      → resolve (tables_from c f.nc f.nc 0) (scopes_of c f.nc t deep) e ≡ good (expr_at c v f t deep d at) (type_at c v f t deep d at)
  whole h = sym (out_is c v f t deep d at h) ∙ w.resolved

  -- a part in the same scopes, and one in a scope more
  same : (m : ℕ) {e : Exp} {k : ℕ} {x : Expr} {s : Ty} → parse_value v f.n (d - 1) m ≡ ok e k
      → resolve (tables_from c f.nc f.nc 0) (scopes_of c f.nc t deep) e ≡ good x s → Is c ss v f t deep (d - 1) m x s
  same m h g = accept c ss v f t deep (d - 1) m (child c ss v f t t deep deep d at m w.ready w.ready.sized (omega arith) (was_read h) w.ready.narrow) h g

  inner : (m : ℕ) (u : List Scope) (s : Scope) → u ≡ set t deep s → Narrow (type_in s) → (Γ : List Open) → scopes_of c f.nc u (deep + 1) ≡ Γ
      → {e : Exp} {k : ℕ} {x : Expr} {r : Ty} → parse_value v f.n (d - 1) m ≡ ok e k
      → resolve (tables_from c f.nc f.nc 0) Γ e ≡ good x r → Is c ss v f u (deep + 1) (d - 1) m x r
  inner m u s p n Γ q {e} h g =
      let l : deep < length t = (let y = w.ready.left in let z = w.ready.not_many in omega (arith, w.ready.sized)) in
      accept c ss v f u (deep + 1) (d - 1) m
      (child c ss v f t u deep (deep + 1) d at m w.ready (push_long c f.nc t u deep s p w.ready.sized) (omega arith) (was_read h) (narrow_push t u deep s p l n w.ready.narrow))
      h (ap (λ (Δ : List Open). resolve (tables_from c f.nc f.nc 0) Δ e) q ∙ g)

  module _ (nd : Node) (e : nd ≡ node_at v at) where
    -- no other node is a value's
    pub no_table : {a : ℕ} → nd ≡ Tab a → ⊥
    no_table g = read.no_table v f.n d at w.ready.is_read e g

    pub no_select : {a b : ℕ} → nd ≡ Select a b → ⊥
    no_select g = read.no_select v f.n d at w.ready.is_read e g

    pub no_bad : nd ≡ Bad → ⊥
    no_bad g = read.no_bad v f.n d at w.ready.is_read e g

    -- it is one of these nine
    pub no_other : ((s : Ty) (x : Value) → nd ≡ Const s x → ⊥) → ((op : ℕ) → nd ≡ Binop op → ⊥) → (nd ≡ Not → ⊥) → (nd ≡ If → ⊥)
        → ((a : ℕ) (y : Fold) → nd ≡ Exists a y → ⊥) → ((a : ℕ) (y : Pick) → nd ≡ Single a y → ⊥) → ((name q : ℕ) → nd ≡ Col name q → ⊥) → ((name q : ℕ) → nd ≡ Classof name q → ⊥)
        → ((name : ℕ) → nd ≡ Let name → ⊥) → ⊥
    no_other c₁ b₁ n₁ i₁ e₁ s₁ l₁ k₁ t₁ = go nd refl
      where
        go : (x : Node) → nd ≡ x → ⊥
        go (Const s x) g = c₁ s x g
        go (Binop op) g = b₁ op g
        go Not g = n₁ g
        go If g = i₁ g
        go (Exists a y) g = e₁ a y g
        go (Single a y) g = s₁ a y g
        go (Tab a) g = no_table g
        go (Select a b) g = no_select g
        go (Col name q) g = l₁ name q g
        go (Classof name q) g = k₁ name q g
        go (Let name) g = t₁ name g
        go Bad g = no_bad g

    -- constants and names end after their own record
    pub const_is : {s : Ty} {x : Value} → nd ≡ Const s x → (expr_at c v f t deep d at ≡ expr.Expr.const s x) × (at + 1 ≡ next_at v f d at)
    unfolding next_at
    const_is {s} {x} g =
        let h = read.const_read v f.n d at w.ready.is_read e g in
        let b = const_good (tables_from c f.nc f.nc 0) (scopes_of c f.nc t deep) _ _ at s x (whole h) in
        (b.is ∙ ap (λ (r : Ty). expr.Expr.const r x) b.type_is, sym (next_is h))

    pub const_type : {s : Ty} {x : Value} → nd ≡ Const s x → s ≡ type_at c v f t deep d at
    const_type {s} {x} g =
        let h = read.const_read v f.n d at w.ready.is_read e g in
        sym (const_good (tables_from c f.nc f.nc 0) (scopes_of c f.nc t deep) _ _ at s x (whole h)).type_is

    pub col_is : {name q : ℕ} → nd ≡ Col name q
        → ColGood (find name q 0 (scopes_of c f.nc t deep)) (expr_at c v f t deep d at) (type_at c v f t deep d at) × (at + 1 ≡ next_at v f d at)
    unfolding next_at
    col_is {name} {q} g =
        let h = read.col_read v f.n d at w.ready.is_read e g in
        (col_good (tables_from c f.nc f.nc 0) (scopes_of c f.nc t deep) _ _ at name q (whole h), sym (next_is h))

    pub classof_is : {name q : ℕ} → nd ≡ Classof name q
        → ClassGood (find name q 0 (scopes_of c f.nc t deep)) (expr_at c v f t deep d at) (type_at c v f t deep d at) × (at + 1 ≡ next_at v f d at)
    unfolding next_at
    classof_is {name} {q} g =
        let h = read.classof_read v f.n d at w.ready.is_read e g in
        (classof_good (tables_from c f.nc f.nc 0) (scopes_of c f.nc t deep) _ _ at name q (whole h), sym (next_is h))

    pub not_is : nd ≡ Not → NotIs c ss v f t deep d at
    unfolding next_at
    not_is g =
        let h = read.not_read v f.n d at w.ready.is_read e g in
        let b = neg_good (tables_from c f.nc f.nc 0) (scopes_of c f.nc t deep) _ _ at h.x (whole h.whole) in
        let l = same (at + 1) h.first b.operand in
        record { operand = l.accepted; is = b.is ∙ ap expr.Expr.neg (sym l.expr_as); next = next_is h.first ∙ sym (next_is h.whole); type_as = l.type_as ∙ sym b.type_is }

    pub binop_is : (op m : ℕ) → nd ≡ Binop op → m ≡ next_at v f (d - 1) (at + 1) → BinopIs c ss v f t deep d at op m
    unfolding next_at
    binop_is op m g n =
        let h = read.binop_read v f.n d at w.ready.is_read e g in
        let p : parse_value v f.n (d - 1) m ≡ ok h.y h.end = ap (parse_value v f.n (d - 1)) (n ∙ next_is h.first) ∙ h.second in
        let b = bin_good (tables_from c f.nc f.nc 0) (scopes_of c f.nc t deep) _ _ at op h.x h.y (whole h.whole) in
        let l = same (at + 1) h.first b.left in
        let r = same m p b.right in
        record {
          left = l.accepted;
          right = r.accepted;
          is = b.is ∙ ap₂ (expr.Expr.bin op (digits_of (type_at c v f t deep d at))) (sym l.expr_as) (sym r.expr_as);
          next = next_is p ∙ sym (next_is h.whole);
          rule = ap₂ (binop_type op) l.type_as r.type_as ∙ b.rule;
        }

    pub if_is : (m l : ℕ) → nd ≡ If → m ≡ next_at v f (d - 1) (at + 1) → l ≡ next_at v f (d - 1) m → IfIs c ss v f t deep d at m l
    unfolding next_at
    if_is m l g n o =
        let h = read.if_read v f.n d at w.ready.is_read e g in
        let p : parse_value v f.n (d - 1) m ≡ ok h.y h.late = ap (parse_value v f.n (d - 1)) (n ∙ next_is h.first) ∙ h.second in
        let q : parse_value v f.n (d - 1) l ≡ ok h.z h.end = ap (parse_value v f.n (d - 1)) (o ∙ next_is p) ∙ h.third in
        let b = if_good (tables_from c f.nc f.nc 0) (scopes_of c f.nc t deep) _ _ at h.x h.y h.z (whole h.whole) in
        let x = same (at + 1) h.first b.condition in
        let y = same m p b.left in
        let z = same l q b.right in
        record {
          test = x.accepted;
          yes = y.accepted;
          no = z.accepted;
          is = b.is ∙ rw (x.expr_as, y.expr_as, y.type_as, z.expr_as, z.type_as);
          next = next_is q ∙ sym (next_is h.whole);
        }

    pub let_is : (name m : ℕ) (s : Scope) (u : List Scope) → nd ≡ Let name → m ≡ next_at v f (d - 1) (at + 1)
        → s ≡ local_scope name (type_at c v f t deep (d - 1) (at + 1)) (info_at c v f t deep (d - 1) (at + 1)) → u ≡ set t deep s → LetIs c ss v f t u deep d at m
    unfolding next_at
    let_is name m s u g n p q =
        let h = read.let_read v f.n d at w.ready.is_read e g in
        let k : parse_value v f.n (d - 1) m ≡ ok h.y h.end = ap (parse_value v f.n (d - 1)) (n ∙ next_is h.first) ∙ h.second in
        let b = let_good (tables_from c f.nc f.nc 0) (scopes_of c f.nc t deep) _ _ at name h.x h.y (whole h.whole) in
        let x = same (at + 1) h.first b.value in
        let l : deep < 16 = omega (arith, w.ready.left, w.ready.not_many) in
        let r : type_in s ≡ type_at c v f t deep (d - 1) (at + 1) = ap type_in p ∙ local_type name _ _ in
        let y = inner m u s q (subst Narrow (sym r) (narrow_type c ss v f t deep (d - 1) (at + 1) x.accepted)) _
        (local_scopes c f.nc t u deep s q l w.ready.sized name _ _ p ∙ ap (λ (o : Ty). local name o ∷ scopes_of c f.nc t deep) x.type_as) k b.body in
        record {
          value = x.accepted;
          body = y.accepted;
          is = b.is ∙ ap₂ expr.Expr.letin (sym x.expr_as) (sym y.expr_as);
          next = next_is k ∙ sym (next_is h.whole);
          infos = local_infos c f.nc t u deep s q l w.ready.sized name _ _ p;
          type_as = y.type_as;
        }

  -- a block's node
  module _ (asked : Asked) (count : ℕ) (g : node_at v at ≡ block_node asked count) where
    exists_node : (h : Fold) → asked ≡ ask.Rows h → node_at v at ≡ Exists count h
    unfolding block_node
    exists_node h e = g ∙ rw e

    single_node : (h : Pick) → asked ≡ ask.Values h → node_at v at ≡ Single count h
    unfolding block_node
    single_node h e = g ∙ rw e

    few : (b : Asked) → asked ≡ b → (1 ≤ count) × (count ≤ 4)
    few (ask.Rows h) e = exists_few v at refl (exists_node h e)
    few (ask.Values h) e = single_few v at refl (single_node h e)

    within : (b : Asked) → asked ≡ b → at + 1 + count ≤ f.n
    within (ask.Rows h) e = (read.exists_listed v f.n d at w.ready.is_read refl (exists_node h e)).within
    within (ask.Values h) e = (read.single_listed v f.n d at w.ready.is_read refl (single_node h e)).within

    refs_are : (ts : List TabRef) → tables_named (tables_from c f.nc f.nc 0) (names_at v (at + 1) count) ≡ all ts → refs_at c f.nc v (at + 1) count ≡ ts
    unfolding refs_at refs_of
    refs_are ts h = rw h

    tabled_by : (ts : List TabRef) → tables_named (tables_from c f.nc f.nc 0) (names_at v (at + 1) count) ≡ all ts → Tabled c f.nc ss f.tables v (at + 1) count
    unfolding refs_at
    tabled_by ts h =
        let n = within asked refl in
        record {
          cat_long = w.ready.lent.cat_long;
          starts = w.ready.lent.starts;
          view_long = omega (arith, w.ready.lent.view_long);
          few = (few asked refl).1;
          found = h ∙ ap all (sym (refs_are ts h));
        }

    -- its tables are there
    pub block_tabled : Tabled c f.nc ss f.tables v (at + 1) count
    block_tabled = go asked refl
      where
        go : (b : Asked) → asked ≡ b → Tabled c f.nc ss f.tables v (at + 1) count
        go (ask.Rows z) e =
            let h = read.exists_read v f.n d at w.ready.is_read refl (exists_node z e) in
            let b = exists_good (tables_from c f.nc f.nc 0) (scopes_of c f.nc t deep) _ _ at z _ h.x (whole h.whole) in
            tabled_by b.tabs b.there
        go (ask.Values z) e =
            let h = read.single_read v f.n d at w.ready.is_read refl (single_node z e) in
            let b = single_good (tables_from c f.nc f.nc 0) (scopes_of c f.nc t deep) _ _ at z _ h.x h.y (whole h.whole) in
            tabled_by b.tabs b.there

    pub block_some : 1 ≤ count
    block_some = (few asked refl).0

    -- its entry
    pub block_entry : (o : Scope) × (fine o ≡ or_no_table (opened_by ss (tables_named (tables_from c f.nc f.nc 0) (names_at v (at + 1) count))))
    block_entry = (_, sym (ap or_no_table (block_fine c f.nc f.tables ss v (at + 1) count _ _ block_tabled.found refl)))

    -- o is its entry, u the table with its scope open
    module _ (o : Scope) (p : fine o ≡ or_no_table (opened_by ss (tables_named (tables_from c f.nc f.nc 0) (names_at v (at + 1) count)))) (u : List Scope) (q : u ≡ set t deep o) where
      -- a part in the block's scope
      part : (ts : List TabRef) → tables_named (tables_from c f.nc f.nc 0) (names_at v (at + 1) count) ≡ all ts → (m : ℕ) {x : Exp} {k : ℕ} {y : Expr} {r : Ty}
          → parse_value v f.n (d - 1) m ≡ ok x k → resolve (tables_from c f.nc f.nc 0) (opened ts ∷ scopes_of c f.nc t deep) x ≡ good y r → Is c ss v f u (deep + 1) (d - 1) m y r
      unfolding refs_of
      part ts h m i j =
          let l : deep < 16 = omega (arith, w.ready.left, w.ready.not_many) in
          let b = block_opened c f.nc f.tables ss v (at + 1) count o w.ready.lent.starts w.ready.lent.cat_few (few asked refl) (entry_made _ o p) in
          inner m u o q (narrow_entry o b.untyped) _
          (block_scopes c f.nc t u deep o q l w.ready.sized _ b ∙ ap (λ (z : Tabs). opened (refs_of z) ∷ scopes_of c f.nc t deep) h) i j

      made : (ts : List TabRef) → tables_named (tables_from c f.nc f.nc 0) (names_at v (at + 1) count) ≡ all ts → Accepted c ss v f u (deep + 1) (d - 1) (at + 1 + count)
          → BlockIs c ss v f t u deep d at count o
      unfolding refs_at
      made ts h a =
          let l : deep < 16 = omega (arith, w.ready.left, w.ready.not_many) in
          let b = block_opened c f.nc f.tables ss v (at + 1) count o w.ready.lent.starts w.ready.lent.cat_few (few asked refl) (entry_made _ o p) in
          record {
            tabled = tabled_by ts h;
            some = (few asked refl).0;
            counted = ap length (refs_are ts h) ∙ names_length _ v (at + 1) count ts h;
            entry = b;
            test = a;
            infos = block_infos c f.nc t u deep o q l w.ready.sized _ b;
          }

      pub exists_is : (z : Fold) → asked ≡ ask.Rows z → ExistsIs c ss v f t u deep d at count z o
      unfolding next_at
      exists_is z e =
          let h = read.exists_read v f.n d at w.ready.is_read refl (exists_node z e) in
          let b = exists_good (tables_from c f.nc f.nc 0) (scopes_of c f.nc t deep) _ _ at z _ h.x (whole h.whole) in
          let x = part b.tabs b.there (at + 1 + count) h.first b.test in
          record {
            block = made b.tabs b.there x.accepted;
            is = b.is ∙ ap₂ (expr.Expr.exists z) (sym (refs_are b.tabs b.there)) (sym x.expr_as);
            next = next_is h.first ∙ sym (next_is h.whole);
            type_as = sym b.type_is;
          }

      pub single_is : (z : Pick) (m : ℕ) → asked ≡ ask.Values z → m ≡ next_at v f (d - 1) (at + 1 + count) → SingleIs c ss v f t u deep d at count m z o
      unfolding next_at
      single_is z m e n =
          let h = read.single_read v f.n d at w.ready.is_read refl (single_node z e) in
          let k : parse_value v f.n (d - 1) m ≡ ok h.y h.end = ap (parse_value v f.n (d - 1)) (n ∙ next_is h.first) ∙ h.second in
          let b = single_good (tables_from c f.nc f.nc 0) (scopes_of c f.nc t deep) _ _ at z _ h.x h.y (whole h.whole) in
          let x = part b.tabs b.there (at + 1 + count) h.first b.test in
          let y = part b.tabs b.there m k b.value in
          record {
            block = made b.tabs b.there x.accepted;
            value = y.accepted;
            is = b.is ∙ rw (refs_are b.tabs b.there, x.expr_as, y.expr_as);
            next = next_is k ∙ sym (next_is h.whole);
            type_as = y.type_as ∙ pick_same z _ _ b.rule;
          }

      pub block_is : BlockIs c ss v f t u deep d at count o
      block_is = go asked refl
        where
          go : (b : Asked) → asked ≡ b → BlockIs c ss v f t u deep d at count o
          go (ask.Rows h) e = (exists_is h e).block
          go (ask.Values h) e = (single_is h _ e refl).block
