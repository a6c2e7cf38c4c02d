-- The root's block and the whole view: one law for each place of the code.
-- Assumes nothing.
use Prim.Native.Nat.{ℕ, zero, suc, ◌+◌, ◌-◌, ◌*◌, ◌<◌, ◌≤◌}
use mathlib.Core.Path.{◌≡◌, refl, sym, ap, subst, ◌∙◌}
use mathlib.Core.Bool.{Bool, true, false, not, cond}
use mathlib.Core.List.{List, [], ◌∷◌}
use native.Mathlib.Omega.{arith}
use borrow.Author.Rules.{rules}
use lib.Dec.{eqb}
use lib.ListN.{length, get_or, replicate}
use Rattle.word.specs.Header.{count_at}
use Rattle.word.specs.Refusal.{Checked, fine, refusal}
use Rattle.class.specs.declared.Info.{Info}
use Rattle.class.specs.declared.Info.TheVariants.{Fixed}
use Rattle.cell.specs.Types.{kind_of}
use Rattle.cell.specs.declared.Type.{«Type» as Ty}
use Rattle.cell.specs.declared.Type.TheVariants as T
use Rattle.cell.proofs.Equal.{type_eqb, boolean_eq}
use Rattle.catalogue.specs.Tables.{Table, TabRef, tables_from}
use Rattle.view.specs.Ast.{TabName, Exp, Block, Parsed, ok}
use Rattle.view.specs.Record.{node_at}
use Rattle.view.specs.Parse.{many, names_at, parse_block, parse_value, parse_view}
use Rattle.view.specs.declared.Node.{Node}
use Rattle.view.specs.declared.Node.TheVariants.{Select as SelectNode}
use Rattle.view.proofs.Read.{InBlock, block_ok, here_ok, was_read, more_ok, none_ok}
use Rattle.view.proofs.Says.{select_few}
use Rattle.view.proofs.Whole.{Taken, taken, taken_count, select_read}
use Rattle.scope.specs.Scopes.{Open}
use Rattle.scope.specs.Table.{blank, scopes_of, infos_of}
use Rattle.scope.specs.Blocks.{Tabs, tables_named, refs_of, opened}
use Rattle.scope.specs.Entry.{opened_by, type_in}
use Rattle.scope.specs.declared.Scope.{Scope}
use Rattle.scope.proofs.Named.{BlockOpened, block_missing, block_opened}
use Rattle.resolve.specs.Expr.{Expr}
use Rattle.resolve.specs.Resolve.{Out, good, bad, resolve, Outs, goods, bads, also_out, resolve_all, select, refused as denied, with_values, with_test, with_tabs, resolve_view}
use Rattle.resolve.specs.Notes.{NotedView, EndedView}
use Rattle.resolve.specs.Infos.{class_info}
use Rattle.resolve.specs.Sizes.{size_d, weigh, capped, pairs_size, sums_of}
use Rattle.resolve.specs.Typed.{known_of}
use Rattle.resolve.specs.Claims.{or_no_table, Narrow, Ready, answer_at, Accepted, Rooted, Several, resolved_by, resolved_all, verdict_of, verdict_all}
use Rattle.resolve.specs.declared.Files.{Files}
use Rattle.resolve.specs.declared.Known.{Known}
use Rattle.resolve.specs.declared.Sums.{Sums}
use Rattle.resolve.proofs.Entries.{entry_made, entry_missing}
use Rattle.resolve.proofs.Inversion.{GoodAt, typed_known, typed_refused}
use Rattle.resolve.proofs.Narrow.{narrow_entry}
use Rattle.resolve.proofs.Turns.{after}
use Rattle.resolve.proofs.Weights.{plus_capped}
use Rattle.resolve.proofs.Scoped.{not_true, not_false}

-- SEVERAL VALUES
-- n records were counted before the rest
pub besides : ℕ → Checked ℕ → Checked ℕ
besides n (fine m) = fine (capped (n + m))
besides n (refusal i p) = refusal i p

none_besides : (r : Checked ℕ) (k : ℕ) (is : List Info) (o : Outs) → r ≡ verdict_all k is o → r ≡ besides 0 (verdict_all k is o)
unfolding verdict_all besides
none_besides r k is (goods xs ts) e = let z : capped (pairs_size k is xs) ≡ capped (0 + capped (pairs_size k is xs)) = omega arith in e ∙ ap fine z
none_besides r k is (bads i p) e = e

all_besides : (n : ℕ) (k : ℕ) (is : List Info) (ts : List Ty) → n ≤ 8191 → besides n (verdict_all k is (goods [] ts)) ≡ fine n
unfolding verdict_all besides pairs_size
all_besides n k is ts l = let z : capped (n + capped 0) ≡ n = omega arith in ap fine z

also_bad : (n k : ℕ) (is : List Info) (o : Out) (rest : Outs) (i p : ℕ) → o ≡ bad i p → besides n (verdict_all k is (also_out o rest)) ≡ refusal i p
unfolding also_out verdict_all besides
also_bad n k is o rest i p e = rw e

again : (n : ℕ) → capped (capped n) ≡ capped n
again n = omega arith

summed : (a b r m n : ℕ) → r ≡ capped (a + b) → capped a ≡ capped m → capped b ≡ capped n → capped r ≡ capped (m + n)
summed a b r m n e g h = ap capped e ∙ again (a + b) ∙ plus_capped a m b n g h

counted_more : (n d w s p r : ℕ) → p ≡ capped (capped d + capped w) → r ≡ capped (n + p) → capped (n + capped (d + (w + s))) ≡ capped (r + capped s)
counted_more n d w s p r e g =
    let z : n + (d + (w + s)) ≡ n + (d + w) + s = omega arith in
    plus_capped n n (capped (d + (w + s))) (d + (w + s)) refl (again (d + (w + s)))
    ∙ ap capped z
    ∙ plus_capped (n + (d + w)) r s (capped s) (sym (summed n p r n (d + w) g refl (summed (capped d) (capped w) p d w e (again d) (again w)))) (sym (again s))

also_good : (n k : ℕ) (is : List Info) (o : Out) (rest : Outs) (x : Expr) (t : Ty) (p r : ℕ) → o ≡ good x t → p ≡ capped (capped (size_d x) + capped (weigh k is x).size) → r ≡ capped (n + p)
    → besides n (verdict_all k is (also_out o rest)) ≡ besides r (verdict_all k is rest)
also_good n k is o (goods xs ts) x t p r e g h =
    unfold also_out verdict_all besides pairs_size in
    rw e (ap fine (counted_more n (size_d x) (weigh k is x).size (pairs_size k is xs) p r g h))
also_good n k is o (bads i q) x t p r e g h = unfold also_out verdict_all besides in rw e

module _ (c ss v : List ℕ) (f : Files) (t : List Scope) where
  abbrev p : ℕ → Parsed Exp
  p = parse_value v f.n 15

  -- what the values from record `at` on come to
  abbrev pub values_from : ℕ → ℕ → Checked ℕ
  values_from count at = verdict_all f.k (infos_of t 1) (resolved_all (tables_from c f.nc f.nc 0) (scopes_of c f.nc t 1) (many (parse_value v f.n 15) count at))

  -- j of them are walked and take n records, the next stands at m
  pub record Left (count at j m n : ℕ) : Type 0 where
    pub several : Several c ss v f t (count - j) m
    pub small : n ≤ 8191
    pub same : values_from count at ≡ besides n (values_from (count - j) m)

  pub left_begin : (count at : ℕ) → Several c ss v f t count at → Left count at 0 at 0
  left_begin count at w =
      let h : count - 0 ≡ count = omega arith in
      record { several = rw h w; small = omega arith; same = rw h (none_besides _ f.k (infos_of t 1) _ refl) }

  module _ (count at j m n : ℕ) (w : Left count at j m n) where
    pub left_done : count ≤ j → fine n ≡ values_from count at
    unfolding resolved_all resolve_all
    left_done l = let h : count - j ≡ 0 = omega arith in sym (w.same ∙ rw (h, none_ok p m) (all_besides n f.k (infos_of t 1) [] w.small))

    module _ (l : j < count) where
      pub left_ready : Ready c ss v f t 1 15 m
      left_ready =
          let h = more_ok p (count - j) m (omega arith) w.several.is_read in
          let r = was_read h.first in
          let g = here_ok v f.n 15 m r in
          record { lent = w.several.lent; sized = w.several.sized; not_many = omega arith; is_read = r; here = g.here; left = omega arith; narrow = w.several.narrow }

      module _ (r : Checked Known) (e : r ≡ answer_at c v f t 1 15 m) where
        pub left_refused : (i q : ℕ) → r ≡ refusal i q → refusal i q ≡ values_from count at
        unfolding resolved_all resolve_all
        left_refused i q g =
            let h = more_ok p (count - j) m (omega arith) w.several.is_read in
            sym (w.same ∙ rw h.whole (also_bad n f.k (infos_of t 1) _ _ i q (typed_refused f.k _ _ (infos_of t 1) _ h.head h.mid i q h.first (sym e ∙ g))))

        pub left_again : (x : Known) (a b : ℕ) → r ≡ fine x → a ≡ capped (x.values + x.classes) → b ≡ capped (n + a) → Left count at (j + 1) x.next b
        unfolding resolved_all resolve_all known_of
        left_again x a b g ea eb =
            let h = more_ok p (count - j) m (omega arith) w.several.is_read in
            let k = typed_known f.k _ _ (infos_of t 1) _ h.head h.mid x h.first (sym e ∙ g) in
            let to : h.mid ≡ x.next = after f.k _ _ (infos_of t 1) _ h.first (sym e ∙ g) in
            let z : count - j - 1 ≡ count - (j + 1) = omega arith in
            let rest : many p (count - (j + 1)) x.next ≡ ok h.tail h.end = rw (z, to) at h.rest in
            let two : a ≡ capped (capped (size_d k.x) + capped (weigh f.k (infos_of t 1) k.x).size) = ea ∙ ap (λ (y : Known). capped (y.values + y.classes)) k.known in
            record {
              several = record { lent = w.several.lent; sized = w.several.sized; is_read = was_read rest; narrow = w.several.narrow };
              small = omega (arith, eb);
              same = w.same ∙ rw (h.whole, rest) (also_good n f.k (infos_of t 1) _ _ k.x k.t a b k.resolved two eb);
            }

read_view : (cat : List Table) (P : Parsed Block) (b : Block) (end : ℕ) → P ≡ ok b end → resolved_by cat P ≡ with_tabs cat b (tables_named cat b.tables)
unfolding resolved_by resolve_view
read_view cat P b end e = rw e

-- THE ROOT, by its tables, its where and its values
test_bad : (k : ℕ) (ts : List TabRef) (o : Out) (vs : Outs) (i q : ℕ) → o ≡ bad i q → verdict_of k (with_test ts o vs) ≡ refusal i q
unfolding with_test verdict_of
test_bad k ts o vs i q e = rw e

values_bad : (k : ℕ) (is : List Info) (ts : List TabRef) (o : Out) (vs : Outs) (x : Expr) (s : Ty) (i q : ℕ) → o ≡ good x s → verdict_all k is vs ≡ refusal i q
    → verdict_of k (with_test ts o vs) ≡ refusal i q
values_bad k is ts o (goods xs us) x s i q e g = absurd (unfold verdict_all in let z : ◌≡◌ {A = ℕ} 0 1 = cc in omega arith)
values_bad k is ts o (bads j r) x s i q e g = unfold with_test with_values verdict_of verdict_all in let a : j ≡ i = cc in let b : r ≡ q = cc in rw (e, a, b)

-- what the walk knows of the where, and the count of the values' records
abbrev pub fine_by : Known → ℕ → Checked Sums
fine_by x n = fine (record { info = x.info; values = x.values; classes = x.classes; pairs = n })

where_judged : (k next : ℕ) (is : List Info) (ts : List TabRef) (o : Out) (vs : Outs) (x : Expr) (s : Ty) (n : ℕ) → is ≡ Fixed 0 ∷ [] → o ≡ good x s → verdict_all k is vs ≡ fine n
    → verdict_of k (with_test ts o vs) ≡ cond (eqb (kind_of s) 1) (fine_by (known_of k is next x s) n) (refusal 9 0)
where_judged k next is ts o (bads j r) x s n m e g = absurd (unfold verdict_all in let z : ◌≡◌ {A = ℕ} 0 1 = cc in omega arith)
where_judged k next is ts o (goods xs us) x s n m e g = unfold with_test with_values in rw e (go (eqb (kind_of s) 1))
  where
    sum : capped (pairs_size k (Fixed 0 ∷ []) xs) ≡ n
    sum = unfold verdict_all in ap (λ (l : List Info). capped (pairs_size k l xs)) (sym m) ∙ (let h : capped (pairs_size k is xs) ≡ n = cc in h)

    sums : fine (sums_of k (record { from = ts; test = x; values = xs })) ≡ fine_by (known_of k is next x s) n
    sums = unfold sums_of known_of in
        ap (λ (p : ℕ). fine (record { info = class_info k (Fixed 0 ∷ []) x; values = capped (size_d x); classes = capped (weigh k (Fixed 0 ∷ []) x).size; pairs = p })) sum
        ∙ ap (λ (l : List Info). fine (record { info = class_info k l x; values = capped (size_d x); classes = capped (weigh k l x).size; pairs = n })) (sym m)

    go : (b : Bool) → verdict_of k (cond b (select (record { from = ts; test = x; values = xs }) us) (denied 9 0)) ≡ cond b (fine_by (known_of k is next x s) n) (refusal 9 0)
    go true = unfold verdict_of in sums
    go false = unfold verdict_of in refl

module _ (c ss v : List ℕ) (f : Files) (tables count : ℕ) (w : Rooted c ss v f tables count) where
  abbrev cat : List Table
  cat = tables_from c f.nc f.nc 0

  abbrev b : Block
  b = w.is_read.tree

  abbrev root_answer : Checked Sums
  root_answer = verdict_of f.k (resolved_by (tables_from c f.nc f.nc 0) (parse_block v f.n 15 (parse_value v f.n 15) tables count 1))

  pub parts : InBlock v f.n (parse_value v f.n 15) tables count 1 w.is_read.tree w.is_read.end
  parts = block_ok v f.n 15 (parse_value v f.n 15) tables count 1 w.is_read.is

  abbrev tabs : Tabs
  tabs = tables_named (tables_from c f.nc f.nc 0) (names_at v 1 tables)

  out_tables : resolved_by cat (parse_block v f.n 15 (parse_value v f.n 15) tables count 1) ≡ with_tabs cat b tabs
  out_tables = read_view cat _ b w.is_read.end w.is_read.is ∙ ap (λ (xs : List TabName). with_tabs cat b (tables_named cat xs)) parts.names

  by_tables : root_answer ≡ verdict_of f.k (with_tabs cat b tabs)
  by_tables = ap (verdict_of f.k) out_tables

  where_here : 1 + tables < f.n
  where_here = (here_ok v f.n 15 (1 + tables) (was_read parts.first)).here

  pub root_room : 8 + 8 * (1 + tables) ≤ length v
  root_room = let h = where_here in omega arith

  pub root_6 : (i k : ℕ) → refusal i k ≡ or_no_table (opened_by ss (tables_named (tables_from c f.nc f.nc 0) (names_at v 1 tables)))
      → refusal i k ≡ verdict_of f.k (resolved_by (tables_from c f.nc f.nc 0) (parse_block v f.n 15 (parse_value v f.n 15) tables count 1))
  unfolding with_tabs verdict_of
  root_6 i k q =
      let m = entry_missing _ i k q in
      ap (λ (z : ℕ). refusal z k) m.0 ∙ sym (by_tables ∙ rw (block_missing c f.nc f.tables ss v 1 tables k m.1).0)

  module _ (own : Scope) (q : fine own ≡ or_no_table (opened_by ss (tables_named (tables_from c f.nc f.nc 0) (names_at v 1 tables)))) where
    pub there : BlockOpened c f.nc (tables_named (tables_from c f.nc f.nc 0) (names_at v 1 tables)) own
    there = block_opened c f.nc f.tables ss v 1 tables own w.lent.starts w.lent.cat_few (w.some_tables, w.few_tables) (entry_made _ own q)

    abbrev t : List Scope
    t = replicate 16 own

    root_narrow : (j : ℕ) → j < 1 → Narrow (type_in (get_or (replicate 16 own) j blank))
    root_narrow zero l = narrow_entry own there.untyped
    root_narrow (suc j) l = absurd (omega arith)

    pub root_ready : Ready c ss v f (replicate 16 own) 1 15 (1 + tables)
    root_ready = record { lent = w.lent; sized = refl; not_many = omega arith; is_read = was_read parts.first; here = where_here; left = omega arith; narrow = root_narrow }

    root_scopes : scopes_of c f.nc (replicate 16 own) 1 ≡ opened (refs_of tabs) ∷ []
    unfolding scopes_of
    root_scopes = ap (λ (s : Open). s ∷ []) there.opens

    pub root_infos : infos_of (replicate 16 own) 1 ≡ Fixed 0 ∷ []
    unfolding infos_of
    root_infos = ap (λ (i : Info). i ∷ []) there.known

    abbrev outs : Outs
    outs = resolve_all (tables_from c f.nc f.nc 0) (scopes_of c f.nc (replicate 16 own) 1) w.is_read.tree.values

    -- what the root resolves to, by its parts
    pub out_parts : resolved_by (tables_from c f.nc f.nc 0) (parse_block v f.n 15 (parse_value v f.n 15) tables count 1)
        ≡ with_test (refs_of (tables_named (tables_from c f.nc f.nc 0) (names_at v 1 tables)))
        (resolve (tables_from c f.nc f.nc 0) (scopes_of c f.nc (replicate 16 own) 1) w.is_read.tree.test)
        (resolve_all (tables_from c f.nc f.nc 0) (scopes_of c f.nc (replicate 16 own) 1) w.is_read.tree.values)
    unfolding with_tabs
    out_parts =
        out_tables ∙ ap (with_tabs cat b) there.found
        ∙ ap (λ (Γ : List Open). with_test (refs_of tabs) (resolve cat Γ b.test) (resolve_all cat Γ b.values)) (sym root_scopes)

    by_parts : root_answer ≡ verdict_of f.k (with_test (refs_of tabs) (resolve cat (scopes_of c f.nc (replicate 16 own) 1) b.test) outs)
    by_parts = ap (verdict_of f.k) out_parts

    module _ (l : Checked Known) (a : l ≡ answer_at c v f (replicate 16 own) 1 15 (1 + tables)) where
      pub root_refused : (i k : ℕ) → l ≡ refusal i k → refusal i k
          ≡ verdict_of f.k (resolved_by (tables_from c f.nc f.nc 0) (parse_block v f.n 15 (parse_value v f.n 15) tables count 1))
      root_refused i k g =
          sym (by_parts ∙ test_bad f.k _ _ _ i k (typed_refused f.k cat _ (infos_of t 1) _ b.test parts.mid i k parts.first (sym a ∙ g)))

      module _ (x : Known) (g : l ≡ fine x) where
        known : GoodAt f.k cat (scopes_of c f.nc t 1) (infos_of t 1) b.test parts.mid x
        known = typed_known f.k cat _ (infos_of t 1) _ b.test parts.mid x parts.first (sym a ∙ g)

        type_is : x.ty ≡ known.t
        unfolding known_of
        type_is = ap (λ (h : Known). h.ty) known.known

        pub values_at : many (parse_value v f.n 15) count x.next ≡ ok b.values w.is_read.end
        values_at = rw (after f.k cat _ (infos_of t 1) _ parts.first (sym a ∙ g)) at parts.rest

        pub values_ready : Several c ss v f (replicate 16 own) count x.next
        values_ready = record { lent = w.lent; sized = refl; is_read = was_read values_at; narrow = root_narrow }

        module _ (r : Checked ℕ) (h : r ≡ verdict_all f.k (infos_of (replicate 16 own) 1) (resolved_all (tables_from c f.nc f.nc 0) (scopes_of c f.nc (replicate 16 own) 1) (many (parse_value v f.n 15) count x.next))) where
          outs_are : r ≡ verdict_all f.k (infos_of (replicate 16 own) 1) outs
          unfolding resolved_all
          outs_are = h ∙ rw values_at

          pub values_refused : (i k : ℕ) → r ≡ refusal i k → refusal i k
              ≡ verdict_of f.k (resolved_by (tables_from c f.nc f.nc 0) (parse_block v f.n 15 (parse_value v f.n 15) tables count 1))
          values_refused i k j = sym (by_parts ∙ values_bad f.k (infos_of t 1) _ _ outs known.x known.t i k known.resolved (sym outs_are ∙ j))

          module _ (n : ℕ) (j : r ≡ fine n) (other : Bool) (m : other ≡ not (type_eqb x.ty T.Boolean)) where
            judged : root_answer ≡ cond (eqb (kind_of known.t) 1) (fine_by x n) (refusal 9 0)
            judged =
                by_parts
                ∙ where_judged f.k parts.mid (infos_of t 1) _ _ outs known.x known.t n root_infos known.resolved (sym outs_are ∙ j)
                ∙ ap (λ (y : Known). cond (eqb (kind_of known.t) 1) (fine_by y n) (refusal 9 0)) (sym known.known)

            pub root_fine : other ≡ false → fine (record { info = x.info; values = x.values; classes = x.classes; pairs = n })
                ≡ verdict_of f.k (resolved_by (tables_from c f.nc f.nc 0) (parse_block v f.n 15 (parse_value v f.n 15) tables count 1))
            root_fine e = sym (judged ∙ rw (boolean_eq known.t, ← type_is, not_false (type_eqb x.ty T.Boolean) (sym m ∙ e)))

            pub root_9 : other ≡ true → refusal 9 0
                ≡ verdict_of f.k (resolved_by (tables_from c f.nc f.nc 0) (parse_block v f.n 15 (parse_value v f.n 15) tables count 1))
            root_9 e = sym (judged ∙ rw (boolean_eq known.t, ← type_is, not_true (type_eqb x.ty T.Boolean) (sym m ∙ e)))

-- THE WHOLE VIEW
module _ (c ss v : List ℕ) (f : Files) (w : Accepted c ss v f) where
  pub whole_taken : Taken v
  whole_taken = taken v refl w.taken

  count_is : f.n ≡ count_at v
  count_is = taken_count v refl w.taken

  pub whole_room : 8 + 8 * 0 + 8 ≤ length v
  whole_room = let h = whole_taken.long in let g = whole_taken.some in omega arith

  -- the root is SELECT
  pub whole_select : (nd : Node) → nd ≡ node_at v 0 → nd ≡ SelectNode whole_taken.tables whole_taken.values
  whole_select nd e = e ∙ whole_taken.root

  module _ (nd : Node) (e : nd ≡ node_at v 0) (a b : ℕ) (g : nd ≡ SelectNode a b) where
    pub whole_rooted : Rooted c ss v f a b
    whole_rooted =
        let h = whole_taken.long in
        let k = whole_taken.few in
        let m = select_few v 0 e g in
        let n = count_is in
        record {
          lent = record { cat_long = w.cat_long; cat_few = w.cat_few; starts = w.starts; view_long = omega arith; view_few = omega arith };
          some_tables = m.0;
          few_tables = m.1;
          is_read = select_read v whole_taken e count_is g;
        }

    -- the root's block is the whole view
    whole_parsed : parse_block v f.n 15 (parse_value v f.n 15) a b 1 ≡ parse_view v
    whole_parsed =
        let s : SelectNode whole_taken.tables whole_taken.values ≡ SelectNode a b = sym whole_taken.root ∙ sym e ∙ g in
        let x : whole_taken.tables ≡ a = cc in
        let y : whole_taken.values ≡ b = cc in
        let n = count_is in
        rw (n, ← x, ← y) (whole_taken.read ∙ sym whole_taken.whole)

    pub whole_done : (r : Checked Sums) (o o' s s' : List ℕ) → r ≡ verdict_of f.k (resolved_by (tables_from c f.nc f.nc 0) (parse_block v f.n 15 (parse_value v f.n 15) a b 1))
        → NotedView (resolved_by (tables_from c f.nc f.nc 0) (parse_block v f.n 15 (parse_value v f.n 15) a b 1)) o o'
        → EndedView f.k (resolved_by (tables_from c f.nc f.nc 0) (parse_block v f.n 15 (parse_value v f.n 15) a b 1)) s s'
        → (r ≡ verdict_of f.k (resolved_by (tables_from c f.nc f.nc 0) (parse_view v)))
        × (NotedView (resolved_by (tables_from c f.nc f.nc 0) (parse_view v)) o o' × EndedView f.k (resolved_by (tables_from c f.nc f.nc 0) (parse_view v)) s s')
    whole_done r o o' s s' h k l = let z = whole_parsed in (
      h ∙ ap (λ (P : Parsed Block). verdict_of f.k (resolved_by (tables_from c f.nc f.nc 0) P)) z,
      (
        subst (λ (P : Parsed Block). NotedView (resolved_by (tables_from c f.nc f.nc 0) P) o o') z k,
        subst (λ (P : Parsed Block). EndedView f.k (resolved_by (tables_from c f.nc f.nc 0) P) s s') z l,
      ),
    )

pub ruleset wholes = (whole_room, whole_rooted, rules)
