-- Types are in rule: over a catalogue and open scopes whose types are in rule, and constants that are of their types, so is the type of whatever is resolved.
-- Assumes nothing.
use Prim.Native.Nat.{ℕ, zero, suc, ◌+◌, ◌<◌}
use mathlib.Core.Path.{◌≡◌, refl, sym, subst}
use mathlib.Core.Bool.{Bool, true, false, cond, ◌&&◌, ◌||◌}
use mathlib.Core.List.{List, [], ◌∷◌, ◌++◌, map}
use native.Mathlib.Omega.{arith}
use lib.Dec.{eqb}
use lib.ListN.{get_or}
use Rattle.cell.specs.Res.{Res, stuck, done, nth}
use Rattle.cell.specs.Types.{in_rule}
use Rattle.cell.specs.Values.{HasTy}
use Rattle.cell.specs.declared.Type.{«Type» as Ty}
use Rattle.cell.proofs.Typing.{digits_in_rule, binop_in_rule, limb_in_rule}
use Rattle.catalogue.specs.Fault.{check_of}
use Rattle.catalogue.specs.Tables.{Table, Column, TabRef, table_named, catalogue_of}
use Rattle.word.specs.Refusal.{fine}
use Rattle.catalogue.proofs.Meaning.{accepted}
use Rattle.catalogue.proofs.Listed.{named_is, table_stands, column_stands, column_in_rule}
use Rattle.view.specs.Ast.{TabName, Exp, ok}
use Rattle.view.specs.Ast as ast
use Rattle.view.specs.Record.{node_at}
use Rattle.view.specs.Parse.{parse_value}
use Rattle.view.specs.declared.Fold.{Fold}
use Rattle.view.specs.declared.Fold.TheVariants as fold
use Rattle.view.specs.declared.Node.TheVariants.{Exists}
use Rattle.view.proofs.Constants.{typed_at, ruled_at}
use Rattle.view.proofs.Induction.{parse_ind}
use Rattle.view.proofs.Says.{exists_digits}
use Rattle.scope.specs.Scopes.{Open, block, local, Hit, column, bound, Only, one, only_of, in_cols, in_table, in_tabs, in_scope, nearest, find}
use Rattle.scope.specs.Blocks.{Tabs, all, missing, before, found_at, tables_named, opened}
use Rattle.resolve.specs.Expr.{Expr}
use Rattle.resolve.specs.Totals.{fold_type}
use Rattle.resolve.specs.Resolve.{good, resolve}
use Rattle.resolve.proofs.Inversion.{const_good, bin_good, neg_good, if_good, exists_good, single_good, pick_same, let_good, ColGood, of_column, of_local, col_good, classof_good}

-- ---- types in rule: of columns, tables, open scopes, matches

abbrev pub ColumnsRule : List Column → Type 0
ColumnsRule [] = Unit {0}
ColumnsRule (k ∷ ks) = (in_rule k.ty ≡ true) × ColumnsRule ks

abbrev pub TablesRule : List Table → Type 0
TablesRule [] = Unit {0}
TablesRule (t ∷ ts) = ColumnsRule t.cols × TablesRule ts

abbrev pub ScopeRule : Open → Type 0
ScopeRule (block ts) = TablesRule ts
ScopeRule (local m t) = in_rule t ≡ true

abbrev pub ScopesRule : List Open → Type 0
ScopesRule [] = Unit {0}
ScopesRule (s ∷ Γ) = ScopeRule s × ScopesRule Γ

abbrev HitRule : Hit → Type 0
HitRule (column a b c t k) = in_rule k.ty ≡ true
HitRule (bound a t) = in_rule t ≡ true

abbrev HitsRule : List Hit → Type 0
HitsRule [] = Unit {0}
HitsRule (h ∷ hs) = HitRule h × HitsRule hs

-- every constant of a value is of its type, which is in rule, and so is the type of each EXISTS and COUNT
unfoldable pub ConstsOk : Exp → Type 0
ConstsOk (ast.Exp.const at t v) = HasTy t v × (in_rule t ≡ true)
ConstsOk (ast.Exp.binop at op l r) = ConstsOk l × ConstsOk r
ConstsOk (ast.Exp.neg at e) = ConstsOk e
ConstsOk (ast.Exp.if at c l r) = ConstsOk c × ConstsOk l × ConstsOk r
ConstsOk (ast.Exp.exists at f names w) = (in_rule (fold_type f) ≡ true) × ConstsOk w
ConstsOk (ast.Exp.single at p names w v) = ConstsOk w × ConstsOk v
ConstsOk (ast.Exp.col at name q) = Unit {0}
ConstsOk (ast.Exp.classof at name q) = Unit {0}
ConstsOk (ast.Exp.letin at name v b) = ConstsOk v × ConstsOk b

-- ---- what a name finds is in rule

hits_append : (xs ys : List Hit) → HitsRule xs → HitsRule ys → HitsRule (xs ++ ys)
hits_append [] ys h k = k
hits_append (x ∷ xs) ys h k = (h.0, hits_append xs ys h.1 k)

hits_cond : (z : Bool) (xs : List Hit) → HitsRule xs → HitsRule (cond z xs [])
hits_cond true xs h = h
hits_cond false xs h = tt

cols_hits : (name a b : ℕ) (t : Table) (c : ℕ) (ks : List Column) → ColumnsRule ks → HitsRule (in_cols name a b t c ks)
unfolding in_cols
cols_hits name a b t c [] h = tt
cols_hits name a b t c (k ∷ ks) h =
    hits_append (cond (eqb k.cname name) (column a b c t k ∷ []) []) (in_cols name a b t (c + 1) ks)
    (hits_cond (eqb k.cname name) (column a b c t k ∷ []) (h.0, tt))
    (cols_hits name a b t (c + 1) ks h.1)

tabs_hits : (name q a b : ℕ) (ts : List Table) → TablesRule ts → HitsRule (in_tabs name q a b ts)
unfolding in_tabs in_table
tabs_hits name q a b [] h = tt
tabs_hits name q a b (t ∷ ts) h =
    hits_append (in_table name q a b t) (in_tabs name q a (b + 1) ts)
    (hits_cond (eqb q 0 || eqb t.tname q) (in_cols name a b t 0 t.cols) (cols_hits name a b t 0 t.cols h.0))
    (tabs_hits name q a (b + 1) ts h.1)

scope_hits : (name q a : ℕ) (s : Open) → ScopeRule s → HitsRule (in_scope name q a s)
unfolding in_scope
scope_hits name q a (block ts) h = tabs_hits name q a 0 ts h
scope_hits name q a (local m t) h = hits_cond (eqb q 0 && eqb m name) (bound a t ∷ []) (h, tt)

nearest_rule : (hs : List Hit) (o : Only Hit) (h : Hit) → HitsRule hs → (o ≡ one h → HitRule h) → nearest (only_of hs) o ≡ one h → HitRule h
unfolding nearest only_of
nearest_rule [] o h p k e = k e
nearest_rule (g ∷ []) o h p k e = let q : g ≡ h = cc in subst HitRule q p.0
nearest_rule (g ∷ (f ∷ hs)) o h p k e = let z : ◌≡◌ {A = ℕ} 0 1 = cc in absurd (omega arith)

found_rule : (name q a : ℕ) (Γ : List Open) (h : Hit) → ScopesRule Γ → find name q a Γ ≡ one h → HitRule h
unfolding find
found_rule name q a [] h r e = let z : ◌≡◌ {A = ℕ} 0 1 = cc in absurd (omega arith)
found_rule name q a (s ∷ Γ) h r e =
    nearest_rule (in_scope name q a s) (find name q (a + 1) Γ) h (scope_hits name q a s r.0) (found_rule name q (a + 1) Γ h r.1) e

-- ---- the tables of a block are the catalogue's

tables_at : (ts : List Table) (j : ℕ) (t : Table) → TablesRule ts → nth ts j ≡ done t → ColumnsRule t.cols
unfolding nth
tables_at [] j t r e = let z : ◌≡◌ {A = ℕ} 0 1 = cc in absurd (omega arith)
tables_at (u ∷ ts) zero t r e = let p : t ≡ u = cc in rw p r.0
tables_at (u ∷ ts) (suc j) t r e = tables_at ts j t r.1 e

-- the first table's name is found, and so are the others
pub named_elim : {G : Type 0} (cat : List Table) (x : TabName) (xs : List TabName) (ts : List TabRef) → tables_named cat (x ∷ xs) ≡ all ts →
    ((t : TabRef) (us : List TabRef) → table_named x.name cat ≡ done t → tables_named cat xs ≡ all us → ts ≡ t ∷ us → G) → G
unfolding tables_named found_at before
named_elim {G} cat x xs ts e k = go (table_named x.name cat) (tables_named cat xs) refl refl e
  where
    go : (o : Res TabRef) (rest : Tabs) → table_named x.name cat ≡ o → tables_named cat xs ≡ rest → found_at x.at o rest ≡ all ts → G
    go stuck rest f g e = let z : ◌≡◌ {A = ℕ} 0 1 = cc in absurd (omega arith)
    go (done t) (all us) f g e = k t us f g (cc)
    go (done t) (missing p) f g e = let z : ◌≡◌ {A = ℕ} 0 1 = cc in absurd (omega arith)

pub tables_rule : (cat : List Table) (names : List TabName) (ts : List TabRef) → TablesRule cat → tables_named cat names ≡ all ts →
    TablesRule (map (λ t. t.table) ts)
unfolding tables_named
tables_rule cat [] ts r e = let p : ts ≡ [] = cc in rw p tt
tables_rule cat (x ∷ xs) ts r e =
    named_elim cat x xs ts e λ t us f g p.
    rw p (tables_at cat t.num t.table r (named_is x.name cat t f).0, tables_rule cat xs us r g)

-- ---- THE LAW

pub well_typed : (cat : List Table) → TablesRule cat → (e : Exp) → ConstsOk e → (Γ : List Open) → ScopesRule Γ → (X : Expr) (U : Ty) →
    resolve cat Γ e ≡ good X U → in_rule U ≡ true
unfolding ConstsOk in_rule
well_typed cat r (ast.Exp.const at t v) h Γ g X U e = rw (const_good cat Γ X U at t v e).type_is h.1
well_typed cat r (ast.Exp.binop at op a b) h Γ g X U e =
    let w = bin_good cat Γ X U at op a b e in
    binop_in_rule op w.s w.u U w.rule (well_typed cat r a h.0 Γ g w.y w.s w.left) (well_typed cat r b h.1 Γ g w.z w.u w.right)
well_typed cat r (ast.Exp.neg at a) h Γ g X U e = rw (neg_good cat Γ X U at a e).type_is
well_typed cat r (ast.Exp.if at c a b) h Γ g X U e =
    let w = if_good cat Γ X U at c a b e in
    limb_in_rule w.s w.u U w.rule (well_typed cat r a h.1 Γ g w.y w.s w.left) (well_typed cat r b h.2 Γ g w.z w.u w.right)
well_typed cat r (ast.Exp.exists at f names a) h Γ g X U e = rw (exists_good cat Γ X U at f names a e).type_is h.0
well_typed cat r (ast.Exp.single at p names a v) h Γ g X U e =
    let w = single_good cat Γ X U at p names a v e in
    rw (← pick_same p w.s U w.rule)
    (well_typed cat r v h.1 (opened w.tabs ∷ Γ) (tables_rule cat names w.tabs r w.there, g) w.z w.s w.value)
well_typed cat r (ast.Exp.col at name q) h Γ g X U e = go (col_good cat Γ X U at name q e)
  where
    go : ColGood (find name q 0 Γ) X U → in_rule U ≡ true
    go (of_column a b c t j f p k) = rw k (found_rule name q 0 Γ (column a b c t j) g f)
    go (of_local a f p) = found_rule name q 0 Γ (bound a U) g f
well_typed cat r (ast.Exp.classof at name q) h Γ g X U e = rw (classof_good cat Γ X U at name q e).type_is
well_typed cat r (ast.Exp.letin at name v b) h Γ g X U e =
    let w = let_good cat Γ X U at name v b e in
    well_typed cat r b h.1 (local name w.s ∷ Γ) (well_typed cat r v h.0 Γ g w.y w.s w.value, g) w.z U w.body

-- ---- what accepted files say keeps these rules

columns_all : (ks : List Column) → ((j : ℕ) (k : Column) → nth ks j ≡ done k → in_rule k.ty ≡ true) → ColumnsRule ks
unfolding nth
columns_all [] h = tt
columns_all (k ∷ ks) h = (h 0 k refl, columns_all ks (λ j. h (suc j)))

tables_all : (ts : List Table) → ((j : ℕ) (t : Table) → nth ts j ≡ done t → ColumnsRule t.cols) → TablesRule ts
unfolding nth
tables_all [] h = tt
tables_all (t ∷ ts) h = (h 0 t refl, tables_all ts (λ j. h (suc j)))

-- an accepted catalogue's types are in rule
pub catalogue_rule : (c : List ℕ) (tables : ℕ) → check_of c ≡ fine tables → TablesRule (catalogue_of c)
catalogue_rule c tables e =
    let a = accepted c tables e in
    tables_all (catalogue_of c) (λ j t f.
    columns_all t.cols (λ i k g. column_in_rule c k (column_stands c tables a t (table_stands c tables a j t f) i k g)))

-- a COUNT that was read has 1 to 9 digits
fold_ruled : (v : List ℕ) (at a : ℕ) (f : Fold) → node_at v at ≡ Exists a f → in_rule (fold_type f) ≡ true
unfolding in_rule fold_type
fold_ruled v at a fold.Any e = refl
fold_ruled v at a (fold.Count p) e = let (h, k) = exists_digits v at (sym e) refl in digits_in_rule p 0 h k (omega arith) (omega arith)

-- the constants of a value that was read are of their types
pub value_consts : (v : List ℕ) → ((i : ℕ) → get_or v i 0 < 256) → (n d at : ℕ) {e : Exp} {k : ℕ} → parse_value v n d at ≡ ok e k → ConstsOk e
unfolding ConstsOk
value_consts v h n =
    parse_ind v n (λ d at e k. ConstsOk e)
    (λ d at t x z l g. (typed_at v at (sym g) refl h, ruled_at v at (sym g) refl))
    (λ d at name q z l g. tt)
    (λ d at name q z l g. tt)
    (λ d at e k z l g p. p)
    (λ d at op a b m k z l g p q. (p, q))
    (λ d at name a b m k z l g p q. (p, q))
    (λ d at c a b m j k z l g p q r. (p, q, r))
    (λ d at a f w k z l g i p. (fold_ruled v at a f g, p))
    (λ d at a f w e m k z l g i p q. (p, q))
