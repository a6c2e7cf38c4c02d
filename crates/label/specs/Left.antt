-- What the walk of names and types left for SELECT's writer: a note for each record of its where and its values, and an end for each of these.
-- Assumes nothing.
use Rattle.std.specs.Prelude.{ℕ, zero, suc, ◌+◌, ◌/◌, ◌%◌, ◌<◌, ◌≤◌, ◌≡◌, List, [], ◌∷◌, length, get_or}
use Rattle.class.specs.Info.{info_by}
use Rattle.class.specs.declared.Info.{Info}
use Rattle.scope.specs.declared.Scope.{Scope}
use Rattle.resolve.specs.Expr.{Expr}
use Rattle.resolve.specs.Notes.{notes_of}
use Rattle.resolve.specs.declared.Files.{Files}
use Rattle.tree.specs.Trans.{expr_class, info_of}
use Rattle.tree.specs.Select.{root}
use Rattle.tree.specs.Noted.{notes_in}
use Rattle.tree.specs.Claims.{expr_at, next_at}
use Rattle.label.specs.Whole.{select_at}

-- an end, one number: the record after a value, and what is known of its class
unfoldable pub end_in : ℕ → ℕ
end_in w = w % 65536

unfoldable pub known_in : ℕ → Info
known_in w = info_by (w / 4294967296 % 256) (w / 65536 % 65536)

-- a value x from record `at` on: its notes stand in ws at its records, and its end is word j of es; k and is are as for its class
pub record Left (k : ℕ) (is : List Info) (ws es : List ℕ) (j : ℕ) (x : Expr) (at : ℕ) : Type 0 where
  pub notes_long : at + length (notes_of x) ≤ length ws
  pub ends_long : j < length es
  pub notes_are : notes_in ws at (at + length (notes_of x)) ≡ notes_of x
  pub end_is : end_in (get_or es j 0) ≡ at + length (notes_of x)
  pub known_is : known_in (get_or es j 0) ≡ info_of (expr_class k is x)

-- the same of several values, each after the last
unfoldable pub LeftAll : ℕ → List Info → List ℕ → List ℕ → ℕ → List Expr → ℕ → Type 0
LeftAll k is ws es j [] at = Unit {0}
LeftAll k is ws es j (x ∷ xs) at = Left k is ws es j x at × LeftAll k is ws es (suc j) xs (at + length (notes_of x))

-- so many values in a row, in the scope of SELECT's block
unfoldable pub exprs_at : List ℕ → List ℕ → Files → List Scope → ℕ → ℕ → List Expr
exprs_at c v f t zero m = []
exprs_at c v f t (suc i) m = expr_at c v f t 1 15 m ∷ exprs_at c v f t i (next_at v f 15 m)

-- A VIEW'S NOTES AND ENDS: of its where, which stands after the tables, then of each of its values
unfoldable pub LeftView : List ℕ → List ℕ → Files → List ℕ → List ℕ → Type 0
LeftView c v f ws es = LeftAll f.k root ws es 0 ((select_at c v f).test ∷ (select_at c v f).values) (1 + length (select_at c v f).from)
