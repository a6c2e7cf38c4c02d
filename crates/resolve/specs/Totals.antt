-- The types of blocks: of EXISTS and COUNT by what they give of the kept rows, of VALUE, MAX and MIN by their value's type.
-- Assumes nothing.
use Rattle.std.specs.Prelude.{cond, ◌&&◌, leb}
use Rattle.cell.specs.Res.{Res, stuck, done}
use Rattle.cell.specs.Types.{kind_of}
use Rattle.cell.specs.declared.Type.{«Type» as Ty}
use Rattle.cell.specs.declared.Type.TheVariants as T
use Rattle.view.specs.declared.Fold.{Fold}
use Rattle.view.specs.declared.Fold.TheVariants as fold
use Rattle.view.specs.declared.Pick.{Pick}
use Rattle.view.specs.declared.Pick.TheVariants as pick

unfoldable pub fold_type : Fold → Ty
fold_type fold.Any = T.Boolean
fold_type (fold.Count p) = T.Fixed p 0

-- MAX and MIN: fixed, time or interval
unfoldable pub ordered_type : Ty → Res Ty
ordered_type t = cond (leb 2 (kind_of t) && leb (kind_of t) 4) (done t) stuck

unfoldable pub pick_type : Pick → Ty → Res Ty
pick_type pick.Only t = done t
pick_type pick.Greatest t = ordered_type t
pick_type pick.Least t = ordered_type t
