-- Entries made: a local's, and a block's as its tables are looked up one after the other; one law for each place of the code.
-- Assumes nothing.
use Rattle.std.specs.Prelude.{Option, Some, None, Result, Ok, Err}
use Prim.Native.Nat.{ℕ, suc, ◌+◌, ◌-◌, ◌<◌, ◌≤◌}
use mathlib.Core.Path.{◌≡◌, refl, sym, ap, ◌∙◌}
use mathlib.Core.List.{List, [], ◌∷◌}
use native.Mathlib.Omega.{arith}
use native.Mathlib.Numerals.{add-one}
use borrow.Author.Rules.{rules}
use lib.ListN.{get_or, length, set}
use Rattle.word.specs.Buffer.{put}
use Rattle.class.specs.declared.Info.TheVariants.{Fixed}
use Rattle.cell.specs.declared.Type.TheVariants.{Null}
use Rattle.catalogue.specs.Tables.{Table, TabRef, table_at, tables_from, table_named}
use Rattle.catalogue.specs.Starts.{ref_of}
use Rattle.view.specs.Record.{node_at}
use Rattle.view.specs.Parse.{name_of, names_at}
use Rattle.scope.specs.Blocks.{Tabs, all, missing, before, found_at, tables_named}
use Rattle.scope.specs.Entry.{local_scope, block_scope, places_of, opened_by}
use Rattle.scope.specs.declared.Scope.{Scope}
use Rattle.scope.specs.declared.Scope.TheVariants as S
use Rattle.scope.proofs.Named.{block_entry}

-- a block of which j tables are looked up, their records in ws; what is left of its tables
unfoldable pub open_from : List ℕ → List ℕ → ℕ → Tabs → Result Scope ℕ
open_from ss ws j (all ts) = Ok (block_scope (put ws j (places_of ss ts)) (j + length ts))
open_from ss ws j (missing p) = Err p

-- a block of no tables
pub open_none : (cat : List Table) (ss v : List ℕ) (at count : ℕ) (s : Scope) → count ≡ 0 → s ≡ local_scope 0 Null (Fixed 0) → Ok s ≡ opened_by ss (tables_named cat (names_at v at count))
unfolding opened_by names_at tables_named put block_scope
open_none cat ss v at count s e x = rw (e, x)

module _ (c : List ℕ) (n : ℕ) (ss : List ℕ) (tables : ℕ) (v : List ℕ) (at count : ℕ) where
  unfoldable pub tabs_left : ℕ → Tabs
  tabs_left j = tables_named (tables_from c n n 0) (names_at v (at + j) (count - j))

  pub open_begin : opened_by ss (tables_named (tables_from c n n 0) (names_at v at count)) ≡ open_from ss (0 ∷ 0 ∷ 0 ∷ 0 ∷ []) 0 (tabs_left 0)
  unfolding tabs_left
  open_begin = let e : at + 0 ≡ at = omega arith in let f : count - 0 ≡ count = omega arith in rw (e, f) (go (tables_named (tables_from c n n 0) (names_at v at count)))
    where
      go : (t : Tabs) → opened_by ss t ≡ open_from ss (0 ∷ 0 ∷ 0 ∷ 0 ∷ []) 0 t
      go (all ts) = unfold opened_by open_from in let e : 0 + length ts ≡ length ts = omega arith in rw e
      go (missing p) = unfold opened_by open_from in refl

  tabs_next : (j : ℕ) → j < count → tabs_left j ≡ found_at (at + j) (table_named (name_of (node_at v (at + j))) (tables_from c n n 0)) (tabs_left (j + 1))
  unfolding tabs_left names_at tables_named
  tabs_next j h =
      let e : count - j ≡ suc (count - (j + 1)) = omega arith in
      let f : at + (j + 1) ≡ at + j + 1 = omega arith in
      rw (e, f)

  one_more : (ws : List ℕ) (j : ℕ) (t : TabRef) (r : Tabs) → open_from ss ws j (before t r) ≡ open_from ss (set ws j (get_or ss t.num 0)) (j + 1) r
  unfolding open_from before put
  one_more ws j t (all ts) = let e : j + suc (length ts) ≡ suc j + length ts = omega arith in rw (add-one j, e)
  one_more ws j t (missing p) = refl

  module _ (ws : List ℕ) (j : ℕ) (X : Result Scope ℕ) (x : X ≡ open_from ss ws j (tabs_left j)) (h : j < count) (r : Option ℕ) (g : table_named (name_of (node_at v (at + j))) (tables_from c n n 0) ≡ ref_of c n ss r) where
    pub open_missing : r ≡ None → Err (at + j) ≡ X
    unfolding found_at ref_of open_from
    open_missing e = sym (x ∙ rw (tabs_next j h, g, e))

    pub open_again : (k : ℕ) → r ≡ Some k → X ≡ open_from ss (set ws j (get_or ss k 0)) (j + 1) (tabs_left (j + 1))
    unfolding found_at ref_of
    open_again k e = x ∙ rw (tabs_next j h, g, e) (one_more ws j (record { num = k; table = table_at c n (get_or ss k 0) }) (tabs_left (j + 1)))

  -- no table is left: the entry of so many tables
  pub open_done : (ws : List ℕ) (j : ℕ) (X : Result Scope ℕ) → X ≡ open_from ss ws j (tabs_left j) → count ≤ j → j ≤ count → Ok (block_scope ws count) ≡ X
  unfolding open_from tabs_left names_at tables_named put
  open_done ws j X x h l = let e : count - j ≡ 0 = omega arith in let f : j + 0 ≡ count = omega arith in sym (x ∙ rw (e, f))

  -- of one table or more it is a block's
  pub block_done : (ws : List ℕ) (j : ℕ) (X : Result Scope ℕ) → (count ≡ 0 → ⊥) → X ≡ open_from ss ws j (tabs_left j) → count ≤ j → j ≤ count → Ok (S.Block (record { tables = ws; count = count })) ≡ X
  block_done ws j X m x h l = ap Ok (sym (block_entry ws count (omega arith))) ∙ open_done ws j X x h l

pub ruleset opens = (open_begin, open_missing, open_again, block_done, rules)
