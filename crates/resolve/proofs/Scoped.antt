-- The walk where a scope opens, LET and the blocks: one law for each place of its code.
-- Assumes nothing.
use Prim.Native.Nat.{ℕ, ◌+◌, ◌-◌, ◌*◌, ◌<◌, ◌≤◌}
use mathlib.Core.Path.{◌≡◌, refl, sym, ap, ◌∙◌}
use mathlib.Core.Bool.{Bool, true, false, not}
use mathlib.Core.List.{List, ◌∷◌, map}
use native.Mathlib.Omega.{arith}
use lib.ListN.{length, get_or, set, length-set}
use lib.Seq.{set-set, set-get_or}
use Rattle.std.specs.Prelude.{Result, Ok, Err}
use Rattle.std.specs.Result.{IsErrAnd}
use Rattle.word.specs.Refusal.{Checked, fine, refusal, said, number_of}
use Rattle.word.specs.declared.refusal.Refusal.{Refusal}
use Rattle.class.specs.declared.Info.TheVariants.{Fixed}
use Rattle.catalogue.specs.Tables.{Table, tables_from}
use Rattle.view.specs.Ast.{Exp, WasRead}
use Rattle.view.specs.Ast as ast
use Rattle.view.specs.Record.{node_at}
use Rattle.view.specs.Parse.{names_at, parse_value}
use Rattle.view.specs.declared.Fold.{Fold}
use Rattle.view.specs.declared.Pick.{Pick}
use Rattle.view.specs.declared.Node.{Node}
use Rattle.view.specs.declared.Node.TheVariants.{Exists, Single, Let}
use Rattle.view.proofs.Read as read
use Rattle.view.proofs.Read.{One, Two, Listed, was_read}
use Rattle.view.proofs.Says.{exists_few, single_few}
use Rattle.scope.specs.Scopes.{local}
use Rattle.scope.specs.Table.{open_of, scopes_of, infos_of}
use Rattle.scope.specs.Blocks.{Tabs, missing, tables_named, refs_of, opened}
use Rattle.scope.specs.Entry.{local_scope, opened_by, tables_in, type_in}
use Rattle.scope.specs.declared.Scope.{Scope}
use Rattle.scope.proofs.Pushes as push
use Rattle.scope.proofs.Named.{BlockOpened, block_missing, block_opened, names_length}
use Rattle.resolve.specs.Typed.{known_of, typed_by}
use Rattle.resolve.specs.Steps.{let_k, refs_to, exists_t, single_t}
use Rattle.resolve.specs.Claims.{or_no_table, Narrow, Ready, Opening, Tabled, answer_at, block_node}
use Rattle.resolve.specs.declared.Asked.{Asked}
use Rattle.resolve.specs.declared.Asked.TheVariants as ask
use Rattle.resolve.specs.declared.Files.{Files}
use Rattle.resolve.specs.declared.Known.{Known}
use Rattle.resolve.proofs.Entries.{entry_made, entry_missing}
use Rattle.resolve.proofs.Inversion.{typed_known}
use Rattle.resolve.proofs.Narrow.{narrow_push, narrow_entry, narrow_local, narrow_type}
use Rattle.resolve.proofs.Equations.{then_t, let_step, exists_step, exists_missing, single_step, single_missing}
use Rattle.resolve.proofs.Tables.{own_exists, own_single}
use Rattle.resolve.proofs.Turns.{then_is, then_refused, after, child}

pub not_true : (b : Bool) → not b ≡ true → b ≡ false
not_true true e = sym e
not_true false e = refl

pub not_false : (b : Bool) → not b ≡ false → b ≡ true
not_false true e = refl
not_false false e = sym e

-- the node of a block or of LET, as the walk has found it
pub exists_node : (v : List ℕ) (at a : ℕ) (q : Fold) (nd : Node) → nd ≡ node_at v at → nd ≡ Exists a q → node_at v at ≡ block_node (ask.Rows q) a
unfolding block_node
exists_node v at a q nd e g = sym e ∙ g

pub single_node : (v : List ℕ) (at a : ℕ) (q : Pick) (nd : Node) → nd ≡ node_at v at → nd ≡ Single a q → node_at v at ≡ block_node (ask.Values q) a
unfolding block_node
single_node v at a q nd e g = sym e ∙ g

-- an entry at the scope that was opened, put back
pub closed : {A : Type 0} (h₀ h₁ : List A) (d : ℕ) (w x : A) → h₁ ≡ set h₀ d w → set h₁ d (get_or h₀ d x) ≡ h₀
closed h₀ h₁ d w x e = ap (λ (l : List _). set l d (get_or h₀ d x)) e ∙ set-set h₀ d w (get_or h₀ d x) ∙ set-get_or h₀ d x

-- what `?` returns says what the refusal says
pub passed : {A : Type 0} (e : Refusal) (r : Result A Refusal) → IsErrAnd r (λ y. y ≡ e) → said r ≡ refusal (number_of e.reason) e.place
passed e (Ok x) h = absurd h
passed e (Err y) h = ap (λ (z : Refusal). refusal (number_of z.reason) z.place) h

module _ (c ss v : List ℕ) (f : Files) where
  abbrev cat : List Table
  cat = tables_from c f.nc f.nc 0

  -- one more scope open
  module _ (t : List Scope) (deep d at : ℕ) (w : Ready c ss v f t deep d at) (s : Scope) (u : List Scope) (e : u ≡ set t deep s) where
    inner : (m : ℕ) → WasRead (parse_value v f.n (d - 1) m) → Narrow (type_in s) → Ready c ss v f u (deep + 1) (d - 1) m
    inner m r h =
        let l : deep < length t = omega arith in
        child c ss v f t u deep (deep + 1) d at m w (rw e (simp length-set w.sized)) (omega arith) r (narrow_push t u deep s e l h w.narrow)

  pub push_room : (t : List Scope) (deep d at : ℕ) → Ready c ss v f t deep d at → deep < 16
  push_room t deep d at w = omega arith

  -- LET
  module _ (t : List Scope) (deep d at : ℕ) (w : Ready c ss v f t deep d at) (name : ℕ) (g : node_at v at ≡ Let name) where
    two_let : Two (parse_value v f.n (d - 1)) (at + 1) (parse_value v f.n d at) (ast.Exp.letin at name)
    two_let = read.let_read v f.n d at w.is_read refl g

    pub let_ready : Ready c ss v f t deep (d - 1) (at + 1)
    let_ready = child c ss v f t t deep deep d at (at + 1) w w.sized (omega arith) (was_read two_let.first) w.narrow

    abbrev bodied : Known → Checked Known
    bodied x =
        then_t (typed_by f.k (tables_from c f.nc f.nc 0) (local name x.ty ∷ scopes_of c f.nc t deep) (x.info ∷ infos_of t deep) (parse_value v f.n (d - 1) x.next))
        (λ y. fine (let_k x y))

    let_whole : answer_at c v f t deep d at ≡ then_t (answer_at c v f t deep (d - 1) (at + 1)) bodied
    let_whole = let_step f.k _ _ _ _ at _ name two_let

    pub let_refused : (l : Checked Known) → l ≡ answer_at c v f t deep (d - 1) (at + 1) → (i p : ℕ) → l ≡ refusal i p → refusal i p ≡ answer_at c v f t deep d at
    let_refused l a i p b = sym (let_whole ∙ then_refused _ i p _ (sym a ∙ b))

    module _ (x : Known) (b : answer_at c v f t deep (d - 1) (at + 1) ≡ fine x) (s : Scope) (u : List Scope) (p : s ≡ local_scope name x.ty x.info) (q : u ≡ set t deep s) where
      body_narrow : Narrow x.ty
      unfolding known_of
      body_narrow =
          let k = typed_known f.k cat (scopes_of c f.nc t deep) (infos_of t deep) _ two_let.x two_let.mid x two_let.first b in
          let y : x.ty ≡ k.t = ap (λ (h : Known). h.ty) k.known in
          rw y (narrow_type c f.nc v f.n t deep (d - 1) (at + 1) two_let.x two_let.mid k.x k.t w.narrow two_let.first k.resolved)

      pub body_ready : Ready c ss v f u (deep + 1) (d - 1) x.next
      body_ready =
          inner t deep d at w s u q x.next (rw (after _ _ _ _ _ two_let.first b) at (was_read two_let.second))
          (narrow_local name x.ty x.info s p body_narrow)

      pub body_scopes : scopes_of c f.nc u (deep + 1) ≡ local name x.ty ∷ scopes_of c f.nc t deep
      body_scopes = push.local_scopes c f.nc t u deep s q (push_room t deep d at w) w.sized name x.ty x.info p

      body_infos : infos_of u (deep + 1) ≡ x.info ∷ infos_of t deep
      body_infos = push.local_infos c f.nc t u deep s q (push_room t deep d at w) w.sized name x.ty x.info p

      body_whole : answer_at c v f t deep d at ≡ then_t (answer_at c v f u (deep + 1) (d - 1) x.next) (λ y. fine (let_k x y))
      body_whole = let_whole ∙ then_is _ x bodied b ∙ rw (← body_scopes, ← body_infos)

      module _ (r : Checked Known) (h : r ≡ answer_at c v f u (deep + 1) (d - 1) x.next) where
        pub body_refused : (i k : ℕ) → r ≡ refusal i k → refusal i k ≡ answer_at c v f t deep d at
        body_refused i k j = sym (body_whole ∙ then_refused _ i k _ (sym h ∙ j))

        pub let_done : (y z : Known) → r ≡ fine y → z ≡ let_k x y → fine z ≡ answer_at c v f t deep d at
        let_done y z j m = ap fine m ∙ sym (body_whole ∙ then_is _ y _ (sym h ∙ j))

  -- a block's node
  module _ (t : List Scope) (deep d at : ℕ) (w : Ready c ss v f t deep d at) (asked : Asked) (count : ℕ) (g : node_at v at ≡ block_node asked count) where
    exists_here : (q : Fold) → asked ≡ ask.Rows q → node_at v at ≡ Exists count q
    unfolding block_node
    exists_here q e = g ∙ rw e

    single_here : (q : Pick) → asked ≡ ask.Values q → node_at v at ≡ Single count q
    unfolding block_node
    single_here q e = g ∙ rw e

    few : (b : Asked) → asked ≡ b → (1 ≤ count) × (count ≤ 4)
    few (ask.Rows q) e = exists_few v at refl (exists_here q e)
    few (ask.Values q) e = single_few v at refl (single_here q e)

    listed : (b : Asked) → asked ≡ b → Listed v f.n (at + 1) count
    listed (ask.Rows q) e = read.exists_listed v f.n d at w.is_read refl (exists_here q e)
    listed (ask.Values q) e = read.single_listed v f.n d at w.is_read refl (single_here q e)

    where_read : (b : Asked) → asked ≡ b → WasRead (parse_value v f.n (d - 1) (at + 1 + count))
    where_read (ask.Rows q) e = was_read (read.exists_read v f.n d at w.is_read refl (exists_here q e)).first
    where_read (ask.Values q) e = was_read (read.single_read v f.n d at w.is_read refl (single_here q e)).first

    pub block_room : 8 + 8 * (at + 1 + count) ≤ length v
    block_room = let h = (listed asked refl).within in omega arith

    pub block_next : at + 1 + count ≤ 1024
    block_next = let h = (listed asked refl).within in omega arith

    pub block_few : count ≤ 4
    block_few = (few asked refl).1

    abbrev tabs : Tabs
    tabs = tables_named (tables_from c f.nc f.nc 0) (names_at v (at + 1) count)

    pub exists_one : (q : Fold) → asked ≡ ask.Rows q → One (parse_value v f.n (d - 1)) (at + 1 + count) (parse_value v f.n d at) (ast.Exp.exists at q (names_at v (at + 1) count))
    exists_one q e = read.exists_read v f.n d at w.is_read refl (exists_here q e)

    pub single_two : (q : Pick) → asked ≡ ask.Values q → Two (parse_value v f.n (d - 1)) (at + 1 + count) (parse_value v f.n d at) (ast.Exp.single at q (names_at v (at + 1) count))
    single_two q e = read.single_read v f.n d at w.is_read refl (single_here q e)

    -- a table that is missing
    pub block_6 : (i k : ℕ) → refusal i k ≡ or_no_table (opened_by ss (tables_named (tables_from c f.nc f.nc 0) (names_at v (at + 1) count))) → refusal i k ≡ answer_at c v f t deep d at
    block_6 i k p = ap (λ (z : ℕ). refusal z k) (entry_missing _ i k p).0 ∙ go asked refl
      where
        m : tables_named (tables_from c f.nc f.nc 0) (names_at v (at + 1) count) ≡ missing k
        m = (block_missing c f.nc f.tables ss v (at + 1) count k (entry_missing _ i k p).1).0

        go : (b : Asked) → asked ≡ b → refusal 6 k ≡ answer_at c v f t deep d at
        go (ask.Rows q) e = sym (exists_missing f.k cat _ _ _ at _ (at + 1 + count) _ q k (exists_one q e) m)
        go (ask.Values q) e = sym (single_missing f.k cat _ _ _ at _ (at + 1 + count) _ q k (single_two q e) m)

    module _ (own : Scope) (p : fine own ≡ or_no_table (opened_by ss (tables_named (tables_from c f.nc f.nc 0) (names_at v (at + 1) count)))) where
      pub there : BlockOpened c f.nc (tables_named (tables_from c f.nc f.nc 0) (names_at v (at + 1) count)) own
      there = block_opened c f.nc f.tables ss v (at + 1) count own w.lent.starts w.lent.cat_few (few asked refl) (entry_made _ own p)

      pub block_opening : Opening c f.nc own
      block_opening =
          let h = names_length cat v (at + 1) count (refs_of tabs) there.found in
          let k = (few asked refl).0 in
          record { long = w.lent.cat_long; among = there.among; some = rw (there.counted, h) k }

      pub block_tabled : Tabled c f.nc ss f.tables v (at + 1) count
      block_tabled = record { cat_long = w.lent.cat_long; starts = w.lent.starts; view_long = block_room; few = block_few; found = there.found }

      module _ (u : List Scope) (q : u ≡ set t deep own) where
        pub where_ready : Ready c ss v f u (deep + 1) (d - 1) (at + 1 + count)
        where_ready = inner t deep d at w own u q (at + 1 + count) (where_read asked refl) (narrow_entry own there.untyped)

        pub block_scopes : scopes_of c f.nc u (deep + 1) ≡ opened (refs_of tabs) ∷ scopes_of c f.nc t deep
        block_scopes = push.block_scopes c f.nc t u deep own q (push_room t deep d at w) w.sized tabs there

        block_infos : infos_of u (deep + 1) ≡ Fixed 0 ∷ infos_of t deep
        block_infos = push.block_infos c f.nc t u deep own q (push_room t deep d at w) w.sized tabs there

        own_tables : tables_in (open_of c f.nc own) ≡ map (λ r. r.table) (refs_of tabs)
        unfolding tables_in
        own_tables = ap tables_in there.opens

        exists_whole : (h : Fold) → asked ≡ ask.Rows h → answer_at c v f t deep d at ≡ then_t (answer_at c v f u (deep + 1) (d - 1) (at + 1 + count)) (exists_t at h (refs_of tabs))
        exists_whole h e = exists_step f.k cat _ _ _ at _ (at + 1 + count) _ h (refs_of tabs) (exists_one h e) there.found ∙ rw (← block_scopes, ← block_infos)

        single_whole : (h : Pick) → asked ≡ ask.Values h
            → answer_at c v f t deep d at ≡ then_t (answer_at c v f u (deep + 1) (d - 1) (at + 1 + count)) (λ x. then_t (answer_at c v f u (deep + 1) (d - 1) x.next) (single_t at h (refs_of tabs) x))
        single_whole h e = single_step f.k cat _ _ _ at _ (at + 1 + count) _ h (refs_of tabs) (single_two h e) there.found ∙ rw (← block_scopes, ← block_infos)

        module _ (l : Checked Known) (a : l ≡ answer_at c v f u (deep + 1) (d - 1) (at + 1 + count)) where
          pub where_refused : (i k : ℕ) → l ≡ refusal i k → refusal i k ≡ answer_at c v f t deep d at
          where_refused i k b = go asked refl
            where
              go : (s : Asked) → asked ≡ s → refusal i k ≡ answer_at c v f t deep d at
              go (ask.Rows h) e = sym (exists_whole h e ∙ then_refused _ i k _ (sym a ∙ b))
              go (ask.Values h) e = sym (single_whole h e ∙ then_refused _ i k _ (sym a ∙ b))

          module _ (x : Known) (b : l ≡ fine x) where
            pub exists_done : (j : Fold) (r : Checked Known) → asked ≡ ask.Rows j → r ≡ exists_t at j (refs_to (tables_in (open_of c f.nc own))) x → r ≡ answer_at c v f t deep d at
            exists_done j r e h =
                h ∙ ap (λ (us : List Table). exists_t at j (refs_to us) x) own_tables ∙ sym (own_exists (refs_of tabs) at j x)
                ∙ sym (exists_whole j e ∙ then_is _ x _ (sym a ∙ b))

            module _ (pick : Pick) (e : asked ≡ ask.Values pick) where
              pub value_ready : Ready c ss v f u (deep + 1) (d - 1) x.next
              value_ready =
                  inner t deep d at w own u q x.next
                  (rw (after f.k cat (scopes_of c f.nc u (deep + 1)) (infos_of u (deep + 1)) _ (single_two pick e).first (sym a ∙ b)) at (was_read (single_two pick e).second))
                  (narrow_entry own there.untyped)

              value_whole : answer_at c v f t deep d at ≡ then_t (answer_at c v f u (deep + 1) (d - 1) x.next) (single_t at pick (refs_of tabs) x)
              value_whole = single_whole pick e ∙ then_is _ x _ (sym a ∙ b)

              module _ (r : Checked Known) (h : r ≡ answer_at c v f u (deep + 1) (d - 1) x.next) where
                pub value_refused : (i k : ℕ) → r ≡ refusal i k → refusal i k ≡ answer_at c v f t deep d at
                value_refused i k j = sym (value_whole ∙ then_refused _ i k _ (sym h ∙ j))

                pub single_done : (y : Known) (s : Checked Known) → r ≡ fine y → s ≡ single_t at pick (refs_to (tables_in (open_of c f.nc own))) x y → s ≡ answer_at c v f t deep d at
                single_done y s j m =
                    m ∙ ap (λ (us : List Table). single_t at pick (refs_to us) x y) own_tables ∙ sym (own_single (refs_of tabs) at pick x y)
                    ∙ sym (value_whole ∙ then_is _ y _ (sym h ∙ j))
