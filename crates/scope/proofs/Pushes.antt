-- A scope opened: the table with one more entry has one more open scope, and those outside it are as they were.
-- Assumes nothing.
use Prim.Native.Nat.{ℕ, zero, suc, ◌+◌, ◌<◌, ◌≤◌}
use mathlib.Core.Path.{◌≡◌, refl, ap, ◌∙◌}
use mathlib.Core.List.{List, ◌∷◌}
use native.Mathlib.Omega.{arith}
use native.Mathlib.Numerals.{add-one}
use lib.ListN.{length, set, length-set}
use lib.Seq.{get_or-set_same, get_or-set_other}
use Rattle.class.specs.declared.Info.{Info}
use Rattle.class.specs.declared.Info.TheVariants.{Fixed}
use Rattle.cell.specs.declared.Type.{«Type» as Ty}
use Rattle.scope.specs.Scopes.{local}
use Rattle.scope.specs.Table.{open_of, blank, scopes_of, infos_of}
use Rattle.scope.specs.Blocks.{Tabs, refs_of, opened}
use Rattle.scope.specs.Entry.{local_scope, info_in}
use Rattle.scope.specs.declared.Scope.{Scope}
use Rattle.scope.proofs.Locals.{local_info, local_opens}
use Rattle.scope.proofs.Named.{BlockOpened}

-- what stands further out stays
pub scopes_set : (c : List ℕ) (n : ℕ) (t : List Scope) (k d : ℕ) (s : Scope) → k ≤ d → scopes_of c n (set t d s) k ≡ scopes_of c n t k
unfolding scopes_of
scopes_set c n t zero d s h = refl
scopes_set c n t (suc k) d s h = let e : (k ≡ d → ⊥) = omega arith in rw (get_or-set_other t d k s blank e, scopes_set c n t k d s (omega arith))

pub infos_set : (t : List Scope) (k d : ℕ) (s : Scope) → k ≤ d → infos_of (set t d s) k ≡ infos_of t k
unfolding infos_of
infos_set t zero d s h = refl
infos_set t (suc k) d s h = let e : (k ≡ d → ⊥) = omega arith in rw (get_or-set_other t d k s blank e, infos_set t k d s (omega arith))

-- a scope opened is the innermost: u is the table t with the entry s at its place d
module _ (c : List ℕ) (n : ℕ) (t u : List Scope) (d : ℕ) (s : Scope) (e : u ≡ set t d s) where
  pub push_long : length t ≡ 16 → length u ≡ 16
  push_long l = ap length e ∙ length-set t d s ∙ l

  module _ (f : d < 16) (l : length t ≡ 16) where
    pub push_scopes : scopes_of c n u (d + 1) ≡ open_of c n s ∷ scopes_of c n t d
    unfolding scopes_of
    push_scopes = rw (e, add-one d, get_or-set_same t d s blank (omega arith), scopes_set c n t d d s (omega arith))

    pub push_infos : infos_of u (d + 1) ≡ info_in s ∷ infos_of t d
    unfolding infos_of
    push_infos = rw (e, add-one d, get_or-set_same t d s blank (omega arith), infos_set t d d s (omega arith))

    -- a local's
    module _ (m : ℕ) (ty : Ty) (i : Info) (y : s ≡ local_scope m ty i) where
      pub local_scopes : scopes_of c n u (d + 1) ≡ local m ty ∷ scopes_of c n t d
      local_scopes = push_scopes ∙ rw (y, local_opens)

      pub local_infos : infos_of u (d + 1) ≡ i ∷ infos_of t d
      local_infos = push_infos ∙ rw (y, local_info)

    -- a block's
    module _ (T : Tabs) (b : BlockOpened c n T s) where
      pub block_scopes : scopes_of c n u (d + 1) ≡ opened (refs_of T) ∷ scopes_of c n t d
      block_scopes = push_scopes ∙ rw b.opens

      pub block_infos : infos_of u (d + 1) ≡ Fixed 0 ∷ infos_of t d
      block_infos = push_infos ∙ rw b.known
