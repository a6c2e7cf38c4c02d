-- A block's entry, or the refusal where a table is missing: what either says of the entry that the block's tables make.
-- Assumes nothing.
use Prim.Native.Nat.{ℕ, ◌+◌, ◌<◌, ◌≤◌}
use mathlib.Core.Path.{◌≡◌, ap}
use mathlib.Core.List.{List}
use native.Mathlib.Omega.{arith}
use Rattle.std.specs.Prelude.{Result, Ok, Err}
use Rattle.word.specs.Refusal.{fine, refusal}
use Rattle.catalogue.specs.Tables.{tables_from}
use Rattle.view.specs.Parse.{names_at}
use Rattle.scope.specs.Blocks.{tables_named}
use Rattle.scope.specs.Entry.{opened_by}
use Rattle.scope.specs.declared.Scope.{Scope}
use Rattle.scope.proofs.Named.{block_missing}
use Rattle.resolve.specs.Claims.{or_no_table}

-- an entry is the one that the tables make, and a refusal is 6 at the record of the missing one
pub entry_made : (r : Result Scope ℕ) (s : Scope) → fine s ≡ or_no_table r → Ok s ≡ r
entry_made (Ok u) s e = let z : s ≡ u = cc in ap Ok z
entry_made (Err p) s e = absurd (let z : ◌≡◌ {A = ℕ} 0 1 = cc in omega arith)

pub entry_missing : (r : Result Scope ℕ) (k p : ℕ) → refusal k p ≡ or_no_table r → (k ≡ 6) × (Err p ≡ r)
entry_missing (Ok u) k p e = absurd (let z : ◌≡◌ {A = ℕ} 0 1 = cc in omega arith)
entry_missing (Err q) k p e = let y : k ≡ 6 = cc in let z : p ≡ q = cc in (y, ap Err z)

-- that record is one of the block's
pub place_low : (c : List ℕ) (n : ℕ) (ss v : List ℕ) (at count p : ℕ) → at + count ≤ 65536 → Err p ≡ opened_by ss (tables_named (tables_from c n n 0) (names_at v at count)) → p < 65536
place_low c n ss v at count p l e = let h = (block_missing c n 0 ss v at count p e).1 in omega arith
