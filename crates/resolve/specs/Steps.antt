-- What is known of a value from what is known of its parts, one definition for each kind of node. Wherever sizes are added they stop just above 8,190.
-- Assumes nothing.
use Rattle.std.specs.Prelude.{ℕ, ◌+◌, cond, List, [], ◌∷◌, map, length, eqb}
use Rattle.word.specs.Refusal.{Checked, fine, refusal}
use Rattle.class.specs.Info.{bound_of}
use Rattle.class.specs.declared.Info.{Info}
use Rattle.class.specs.declared.Info.TheVariants.{Fixed, Bound}
use Rattle.cell.specs.Res.{Res, stuck, done}
use Rattle.cell.specs.Types.{kind_of, binop_type, limb_type, same_type}
use Rattle.cell.specs.declared.Type.{«Type» as Ty}
use Rattle.cell.specs.declared.Type.TheVariants as T
use Rattle.catalogue.specs.Tables.{Table, TabRef}
use Rattle.view.specs.declared.Fold.{Fold}
use Rattle.view.specs.declared.Pick.{Pick}
use Rattle.scope.specs.declared.Found.{Found}
use Rattle.scope.specs.declared.Found.TheVariants as F
use Rattle.resolve.specs.Totals.{fold_type, pick_type}
use Rattle.resolve.specs.Sizes.{capped, weighed, join_w, choice_w, let_w, block_w}
use Rattle.resolve.specs.declared.Weighed.{Weighed}
use Rattle.resolve.specs.declared.Known.{Known}

-- what is known of a value's class
unfoldable pub class_of : Known → Weighed
class_of x = record { info = x.info; size = x.classes }

-- a class whose size is stopped
unfoldable pub stopped : Weighed → Weighed
stopped w = record { info = w.info; size = capped w.size }

-- a value of this type, before this record, whose data takes so many records, with this class
unfoldable pub known_by : Ty → ℕ → ℕ → Weighed → Known
known_by t next n w = record { ty = t; info = w.info; next = next; values = capped n; classes = capped w.size }

-- a constant or a reference: one record
unfoldable pub leaf_k : Ty → Info → ℕ → Known
leaf_k t i next = known_by t next 1 (weighed i 1)

unfoldable pub two_k : Ty → Known → Known → Known
two_k t x y = known_by t y.next (1 + (x.values + y.values)) (join_w (class_of x) (class_of y))

unfoldable pub not_k : Known → Known
not_k x = known_by T.Boolean x.next (1 + x.values) (class_of x)

-- a limb brought to a type: CONV is one record more
unfoldable pub brought_k : Ty → Known → Known
brought_k t x = known_by t x.next (cond (same_type x.ty t) x.values (1 + x.values)) (class_of x)

unfoldable pub if_k : Ty → Known → Known → Known → Known
if_k t c x y =
    known_by t y.next (1 + (c.values + (x.values + y.values)))
    (join_w (class_of c) (choice_w c.values (class_of x) (class_of y)))

unfoldable pub let_k : Known → Known → Known
let_k x y = known_by y.ty y.next (1 + (x.values + y.values)) (let_w x.values (class_of x) (class_of y))

unfoldable pub exists_k : Fold → List TabRef → Known → Known
exists_k f ts x = known_by (fold_type f) x.next (1 + (length ts + x.values)) (block_w ts (class_of x ∷ []))

unfoldable pub single_k : Ty → List TabRef → Known → Known → Known
single_k t ts x y =
    known_by t y.next (1 + (length ts + (x.values + y.values)))
    (block_w ts (class_of x ∷ choice_w x.values (class_of y) (weighed (Fixed 0) 1) ∷ []))

-- AGG over what is read at one row, of m tables, joined with the tables' class
unfoldable pub agg_w : ℕ → ℕ → Weighed → Weighed
agg_w m k w = join_w (weighed (Bound (bound_of w.info)) (1 + (m + w.size))) (weighed (Fixed k) 1)

-- a block's tables as the walk knows them: their numbers don't matter to what is known
unfoldable pub refs_to : List Table → List TabRef
refs_to us = map (λ u. record { num = 0; table = u }) us

-- a type rule, and a condition: 9 at the record where it is broken
unfoldable pub ruled_t : ℕ → Res Ty → (Ty → Known) → Checked Known
ruled_t at stuck f = refusal 9 at
ruled_t at (done t) f = fine (f t)

unfoldable pub bool_t : ℕ → Ty → Checked Known → Checked Known
bool_t at t r = cond (eqb (kind_of t) 1) r (refusal 9 at)

-- THE ANSWERS at a record, by its kind
unfoldable pub two_t : ℕ → ℕ → Known → Known → Checked Known
two_t at op x y = ruled_t at (binop_type op x.ty y.ty) (λ t. two_k t x y)

unfoldable pub not_t : ℕ → Known → Checked Known
not_t at x = bool_t at x.ty (fine (not_k x))

unfoldable pub if_t : ℕ → Known → Known → Known → Checked Known
if_t at c x y = bool_t at c.ty (ruled_t at (limb_type x.ty y.ty) (λ t. if_k t c (brought_k t x) (brought_k t y)))

unfoldable pub exists_t : ℕ → Fold → List TabRef → Known → Checked Known
exists_t at f ts x = bool_t at x.ty (fine (exists_k f ts x))

unfoldable pub single_t : ℕ → Pick → List TabRef → Known → Known → Checked Known
single_t at g ts x y = bool_t at x.ty (ruled_t at (pick_type g y.ty) (λ t. single_k t ts x y))

-- COL: a column or a local; none is 7, more is 8
unfoldable pub col_t : ℕ → Found → Checked Known
col_t at (F.Column a b c t i r) = fine (leaf_k t i (at + 1))
col_t at (F.Local a t i) = fine (leaf_k t i (at + 1))
col_t at F.None = refusal 7 at
col_t at F.Ambiguous = refusal 8 at

-- CLASSOF: a local counts as no column
unfoldable pub class_t : ℕ → Found → Checked Known
class_t at (F.Column a b c t i r) = fine (leaf_k T.Class r (at + 1))
class_t at (F.Local a t i) = refusal 7 at
class_t at F.None = refusal 7 at
class_t at F.Ambiguous = refusal 8 at
