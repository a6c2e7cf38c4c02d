-- What the entry of a local says.
-- Assumes nothing.
use Prim.Native.Nat.{ℕ}
use mathlib.Core.Path.{◌≡◌, refl}
use mathlib.Core.List.{List}
use Rattle.class.specs.declared.Info.{Info}
use Rattle.cell.specs.declared.Type.{«Type» as Ty}
use Rattle.scope.specs.Scopes.{local}
use Rattle.scope.specs.Table.{open_of}
use Rattle.scope.specs.Entry.{local_scope, type_in, info_in}

module _ (m : ℕ) (t : Ty) (i : Info) where
  pub local_type : type_in (local_scope m t i) ≡ t
  unfolding type_in local_scope
  local_type = refl

  pub local_info : info_in (local_scope m t i) ≡ i
  unfolding info_in local_scope
  local_info = refl

  pub local_opens : (c : List ℕ) (n : ℕ) → open_of c n (local_scope m t i) ≡ local m t
  unfolding open_of local_scope
  local_opens c n = refl
