-- The two public jobs as total functions: from the inputs to number, place, count, and what each lent buffer holds afterwards.
-- Order: catalogue, store (Answer only), view, 10, 41. Assumes nothing.
use Rattle.std.specs.Prelude.{ℕ, ◌+◌, ◌*◌, ◌≡◌, cond, ◌&&◌, List, [], ◌++◌, length, drop, leb}
use Rattle.word.specs.Header.{count_at}
use Rattle.word.specs.Refusal.{Checked, fine, refusal, and_then}
use Rattle.cell.specs.Res.{or_else}
use Rattle.catalogue.specs.Tables.{Table, catalogue_of}
use Rattle.catalogue.specs.Fault as fault
use Rattle.store.specs.Rows.{store_of}
use Rattle.store.specs.Layout as layout
use Rattle.view.specs.Ast.{Block, Parsed, ok, refused}
use Rattle.view.specs.Parse.{parse_view}
use Rattle.resolve.specs.Expr.{Select}
use Rattle.resolve.specs.Resolve as resolve
use Rattle.tree.specs.Tree.{SelectTree, size_select, tree_file}
use Rattle.tree.specs.Select.{translated}
use Rattle.run.specs.Answer.{Shown, run_select, answer_file}

-- view: its structure, then its names and types
unfoldable pub resolved_by : resolve.Resolved → Checked Select
resolved_by (resolve.select s tys) = fine s
resolved_by (resolve.refused number place) = refusal number place

unfoldable pub view_by : List Table → Parsed Block → Checked Select
view_by cat (ok b next) = resolved_by (resolve.resolve_view cat b)
view_by cat (refused number place) = refusal number place

-- 10: the tree needs more records than 8,190 or than the buffer of so many bytes holds
unfoldable pub tree_fits : ℕ → SelectTree → Checked SelectTree
tree_fits room t = cond (leb (size_select t) 8190 && leb (8 + 8 * size_select t) room) (fine t) (refusal 10 0)

unfoldable pub tree_of : List ℕ → List ℕ → ℕ → ℕ → ℕ → Checked SelectTree
tree_of c v k q room = and_then (view_by (catalogue_of c) (parse_view v)) (λ s. tree_fits room (translated k q s))

-- 41: the answer doesn't fit its buffer of so many bytes, or has more than 65,535 rows
unfoldable pub answer_fits : ℕ → List (List Shown) → Checked (List (List Shown))
answer_fits room rs = cond (leb (length rs) 65535 && leb (length (answer_file rs)) room) (fine rs) (refusal 41 0)

unfoldable pub answer_of : List ℕ → List ℕ → ℕ → SelectTree → ℕ → Checked (List (List Shown))
answer_of c s q t room = answer_fits room (or_else [] (run_select (store_of c s) q t))

-- bytes written from a buffer's start; no other byte changes
unfoldable pub over : List ℕ → List ℕ → List ℕ
over xs o = xs ++ drop (length xs) o

-- the count of what was found, or the refusal
unfoldable pub result_by : {A : Type 0} → (A → ℕ) → Checked A → Checked ℕ
result_by count (fine a) = fine (count a)
result_by count (refusal number place) = refusal number place

unfoldable pub held_by : {A : Type 0} → (A → List ℕ) → Checked A → List ℕ → List ℕ
held_by file (fine a) o = over (file a) o
held_by file (refusal number place) o = o

-- TRANSLATE: catalogue c, view v, class k of the constants, clearance q, a tree buffer of so many bytes
unfoldable pub translate : List ℕ → List ℕ → ℕ → ℕ → ℕ → Checked SelectTree
translate c v k q room = and_then (fault.check_of c) (λ t. tree_of c v k q room)

-- the result, and the tree buffer o afterwards
pub record Translated (c v : List ℕ) (k q : ℕ) (o o' : List ℕ) (r : Checked ℕ) : Type 0 where
  pub says : r ≡ result_by size_select (translate c v k q (length o))
  pub holds : o' ≡ held_by tree_file (translate c v k q (length o)) o

-- ANSWER: the same with a store s. Up to the tree:
unfoldable pub translate_over : List ℕ → List ℕ → ℕ → ℕ → List ℕ → ℕ → Checked SelectTree
translate_over c v k q s room =
    and_then (fault.check_of c) (λ t.
    and_then (layout.check_of c (count_at c) t s) (λ _.
    tree_of c v k q room))

-- and then the answer, in a buffer of so many bytes
unfoldable pub answer : List ℕ → List ℕ → ℕ → ℕ → List ℕ → ℕ → ℕ → Checked (List (List Shown))
answer c v k q s room space = and_then (translate_over c v k q s room) (λ t. answer_of c s q t space)

-- the result, the tree buffer o and the answer buffer p afterwards; 41 alone leaves the tree in its buffer
pub record Answered (c v : List ℕ) (k q : ℕ) (s o p o' p' : List ℕ) (r : Checked ℕ) : Type 0 where
  pub says : r ≡ result_by length (answer c v k q s (length o) (length p))
  pub tree : o' ≡ held_by tree_file (translate_over c v k q s (length o)) o
  pub holds : p' ≡ held_by answer_file (answer c v k q s (length o) (length p)) p
