-- The type of an accepted value is narrow, p and s below 16: crate resolve has it of any value that keeps the rules.
-- Assumes nothing.
use Prim.Native.Nat.{ℕ}
use mathlib.Core.Path.{sym, ◌∙◌}
use mathlib.Core.List.{List}
use Rattle.scope.specs.declared.Scope.{Scope}
use Rattle.resolve.specs.declared.Files.{Files}
use Rattle.resolve.specs.Claims.{Narrow}
use Rattle.resolve.proofs.Narrow as own
use Rattle.tree.specs.Claims.{expr_at, type_at, Accepted}
use Rattle.tree.proofs.Resolved.{out_is}

pub narrow_type : (c ss v : List ℕ) (f : Files) (t : List Scope) (deep d at : ℕ) → Accepted c ss v f t deep d at → Narrow (type_at c v f t deep d at)
narrow_type c ss v f t deep d at w =
    let r = w.ready.is_read.is in
    own.narrow_type c f.nc v f.n t deep d at _ _ (expr_at c v f t deep d at) (type_at c v f t deep d at) w.ready.narrow r
    (sym (out_is c v f t deep d at r) ∙ w.resolved)
