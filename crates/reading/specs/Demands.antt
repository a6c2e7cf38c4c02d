-- What is promised of every accepted catalogue, view and store, for every class k of the view's constants and every clearance q:
-- the run of the tree against the reading rules, names as written. Assumes nothing.
use Rattle.std.specs.Prelude.{ℕ, ◌<◌, ◌≡◌, Bool, List, [], ◌∷◌, get_or}
use Rattle.word.specs.Header.{count_at}
use Rattle.word.specs.Refusal.{fine}
use Rattle.class.specs.Class.{Dominates}
use Rattle.cell.specs.Res.{done}
use Rattle.cell.specs.Values.{HasTy}
use Rattle.cell.specs.Apply.{as_cond}
use Rattle.cell.specs.declared.Type.{«Type» as Ty}
use Rattle.cell.specs.declared.Value.{Value}
use Rattle.cell.specs.declared.Value.TheVariants as X
use Rattle.catalogue.specs.Fault as fault
use Rattle.catalogue.specs.Tables.{Table, TabRef, catalogue_of}
use Rattle.store.specs.Layout as layout
use Rattle.store.specs.Rows.{Row, All, All2}
use Rattle.view.specs.Ast.{Exp, Block, ok}
use Rattle.view.specs.Parse.{parse_view}
use Rattle.resolve.specs.Expr.{Expr, Select}
use Rattle.resolve.specs.Resolve.{select, resolve_view}
use Rattle.tree.specs.Tree.{Tree, SelectTree}
use Rattle.tree.specs.Select.{translated, declared_bound}
use Rattle.run.specs.Run.{rows, run, rows_for}
use Rattle.run.specs.Answer.{run_select}
use Rattle.reading.specs.Reading as reading
use Rattle.reading.specs.Reading.{tabs_in, rows_over, reads, answer_by_reading}

-- a slice of bytes: each is below 256 (past the end counts as 0)
abbrev pub Bytes : List ℕ → Type 0
Bytes s = (i : ℕ) → get_or s i 0 < 256

-- THE FILES ARE ACCEPTED: the catalogue c, with so many tables; the view v, whose tree is b, of so many records, resolved to SELECT and the
-- declared types of its columns; the store s
pub record Accepted (c v s : List ℕ) (tables : ℕ) (b : Block) (records : ℕ) (sel : Select) (tys : List Ty) : Type 0 where
  pub catalogue_fine : fault.check_of c ≡ fine tables
  pub view_fine : parse_view v ≡ ok b records
  pub view_resolved : resolve_view (catalogue_of c) b ≡ select sel tys
  pub store_fine : layout.check_of c (count_at c) tables s ≡ fine tt
  pub view_bytes : Bytes v
  pub store_bytes : Bytes s

-- the product of SELECT's tables, by the plain reading
abbrev pub product_of : List Table → List (List Row) → Block → List (List Row)
product_of cat st b = rows_over st (tabs_in cat b.tables)

-- a pair of data and class, at one row of the product: its run is a value, and a class
pub record PairRuns (st : List (List Row)) (rs : List Row) (p : Tree × Tree) : Type 0 where
  pub value : Value
  pub class : ℕ
  pub data_runs : run st p.0 (rows rs ∷ []) ≡ done value
  pub class_runs : run st p.1 (rows rs ∷ []) ≡ done (X.Class class)

-- one row of the product: the where's run is a value that decides, and so with each pair
pub record RowRuns (st : List (List Row)) (tr : SelectTree) (rs : List Row) : Type 0 where
  pub test : Value
  pub verdict : Bool
  pub test_runs : run st tr.test (rows rs ∷ []) ≡ done test
  pub test_decides : as_cond test ≡ done verdict
  pub pairs_run : All (PairRuns st rs) tr.pairs

-- THE RUN ENDS, and isn't stuck: the rows are those of the product, and each runs
pub record RunsToItsEnd (cat : List Table) (st : List (List Row)) (b : Block) (tr : SelectTree) : Type 0 where
  pub rows_are : rows_for st tr.tabs ≡ done (product_of cat st b)
  pub each_row : All (RowRuns st tr) (product_of cat st b)

-- whatever the run of a pair's data gives is null or of the type
abbrev pub DataIs : List (List Row) → List Row → Ty → Tree × Tree → Type 0
DataIs st rs t p = (v : Value) → run st p.0 (rows rs ∷ []) ≡ done v → HasTy t v

-- EACH VALUE is null or of its column's declared type
pub record OfDeclaredType (cat : List Table) (st : List (List Row)) (b : Block) (tr : SelectTree) (tys : List Ty) : Type 0 where
  pub each_row : All (λ rs. All2 (DataIs st rs) tys tr.pairs) (product_of cat st b)

-- c dominates each class of the list, and whatever dominates each dominates c
pub record Least (c : ℕ) (xs : List ℕ) : Type 0 where
  pub dominates_each : All (Dominates c) xs
  pub least : (d : ℕ) → All (Dominates d) xs → Dominates d c

-- whatever class the run of a pair's class gives is the least that dominates all that the value read
abbrev pub ClassIs : List Table → ℕ → List (List Row) → List TabRef → List Row → Exp → Tree × Tree → Type 0
ClassIs cat k st ts rs e p =
    (c : ℕ) → run st p.1 (rows rs ∷ []) ≡ done (X.Class c) → Least c (reads cat k st (reading.rows ts rs ∷ []) e)

-- EACH CLASS is exactly that of what was read
pub record ExactlyWhatWasRead (cat : List Table) (k : ℕ) (st : List (List Row)) (b : Block) (tr : SelectTree) : Type 0 where
  pub each_row : All (λ rs. All2 (ClassIs cat k st (tabs_in cat b.tables) rs) b.values tr.pairs) (product_of cat st b)

-- whatever class the run of a pair's class gives, the column's declared bound dominates it
abbrev pub BoundIs : ℕ → List (List Row) → List Row → Expr → Tree × Tree → Type 0
BoundIs k st rs x p = (c : ℕ) → run st p.1 (rows rs ∷ []) ≡ done (X.Class c) → Dominates (declared_bound k x) c

-- EACH BOUND dominates its column's classes
pub record BoundDominates (cat : List Table) (k : ℕ) (st : List (List Row)) (b : Block) (tr : SelectTree) (xs : List Expr) : Type 0 where
  pub each_row : All (λ rs. All2 (BoundIs k st rs) xs tr.pairs) (product_of cat st b)

-- what is promised of a view over a catalogue's tables and their rows, for k and q
pub record Promise (cat : List Table) (st : List (List Row)) (b : Block) (sel : Select) (tys : List Ty) (k q : ℕ) : Type 0 where
  pub runs_to_its_end : RunsToItsEnd cat st b (translated k q sel)
  pub of_declared_type : OfDeclaredType cat st b (translated k q sel) tys
  pub exactly_what_was_read : ExactlyWhatWasRead cat k st b (translated k q sel)
  pub bound_dominates : BoundDominates cat k st b (translated k q sel) sel.values
  pub answer_by_reading_lem : run_select st q (translated k q sel) ≡ done (answer_by_reading cat k st q b)
