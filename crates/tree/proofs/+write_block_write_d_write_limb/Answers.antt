-- `tree::write_d`, `tree::write_limb` and `tree::write_block` meet their contracts: one law for each place of the code; the depth left is the measure.
-- Assumes nothing.
use borrow.Author.Rules.{rules}
use native.Mathlib.Omega.{arith}
use Prim.Native.Nat.{ℕ}
use mathlib.Core.Path.{◌≡◌, refl, ◌∙◌}
use mathlib.Core.List.{List}
use Rattle.view.proofs.Read.{here_ok}
use Rattle.resolve.proofs.Scoped.{exists_node, single_node, block_next}
use Rattle.scope.specs.declared.Scope.{Scope}
use Rattle.resolve.specs.declared.Files.{Files}
use Rattle.tree.specs.declared.Part.{Part}
use Rattle.tree.specs.Claims.{type_at, info_at, next_at}
use Rattle.tree.specs.Levels.{Told}
use Rattle.tree.proofs.Accepted.{no_other, block_tabled, block_some}
use Rattle.tree.proofs.Writers.{writes_as, fits_tree}
use Rattle.tree.proofs.Leaves.{op_small, type_or}
use Rattle.tree.proofs.Turns.{conv_asks, limb_asks, limb_done, const_asks, const_done, col_done, class_done, not_asks, not_done, left_asks, right_asks, binop_asks, binop_done, test_asks, yes_asks, no_asks, if_done, value_asks, body_asks, let_done, block_asks, tables_ask, where_asks, exists_done, single_asks, single_done}
use Rattle.tree.proofs.+write_block_write_d_write_limb.Goals as goal

-- the clauses of what was told and written
parts : {c v : List ℕ} {f : Files} {t : List Scope} {deep d at : ℕ} {r : Part} {B : Type 0}
    → (r.next ≡ next_at v f d at) × (B × ((r.ty ≡ type_at c v f t deep d at) × (r.info ≡ info_at c v f t deep d at))) → record { told : Told c v f t deep d at r; wrote : B }
parts p = record { told = record { ty_is = p.1.1.0; info_is = p.1.1.1; next_is = p.0 }; wrote = p.1.0 }

pub write_block-block_scope-s-requires : goal.write_block-block_scope-s-requires
write_block-block_scope-s-requires t c = record { tabled = block_tabled _ _ _ _ _ _ _ _ c.requires.accepted _ _ c.requires.block; some = block_some _ _ _ _ _ _ _ _ c.requires.accepted _ _ c.requires.block }

pub write_block-block-requires : goal.write_block-block-requires
write_block-block-requires t c = op_small _ _ _ _ c.requires.block

pub write_block-put-requires : goal.write_block-put-requires
write_block-put-requires t c = fits_tree _ c.requires.room

pub write_block-table_recs-requires : goal.write_block-table_recs-requires
write_block-table_recs-requires t c = let p = tables_ask _ _ _ _ _ _ _ _ c.requires.accepted c.requires.room _ _ c.requires.block _ c.block_scope-s.ensures _ c.pushed-scopes.ensures c.block.ensures c.put.ensures.bytes in record { tabled = p.0; room = p.1 }

pub write_block-overflow_add-first-2 : goal.write_block-overflow_add-first-2
write_block-overflow_add-first-2 t c = let h = block_next _ _ _ _ _ _ _ _ c.requires.accepted.ready _ _ c.requires.block in omega arith

pub write_block-write_d-x-requires : goal.write_block-write_d-x-requires
write_block-write_d-x-requires t c = (omega (arith, c.decreases, c.requires.accepted.ready.left), where_asks _ _ _ _ _ _ _ _ c.requires.accepted c.requires.room _ _ c.requires.block _ c.block_scope-s.ensures _ c.pushed-scopes.ensures c.block.ensures c.put.ensures.bytes c.table_recs.ensures)

pub write_block-exists_info-requires : goal.write_block-exists_info-requires
write_block-exists_info-requires t c = block_asks _ _ _ _ _ _ _ _ c.requires.accepted c.requires.room _ _ c.requires.block _ c.block_scope-s.ensures _ c.pushed-scopes.ensures c.block.ensures c.put.ensures.bytes

pub write_block-write_d-y-requires : goal.write_block-write_d-y-requires
write_block-write_d-y-requires t c = (omega (arith, c.decreases, c.requires.accepted.ready.left), single_asks _ _ _ _ _ _ _ _ c.requires.accepted c.requires.room _ _ c.requires.block _ c.block_scope-s.ensures _ c.pushed-scopes.ensures c.block.ensures c.put.ensures.bytes c.table_recs.ensures c.write_d-x.result c.write_d-x.ensures.told.next_is c.write_d-x.ensures.wrote c.in-Values.is)

pub write_block-single_info-requires : goal.write_block-single_info-requires
write_block-single_info-requires t c = block_asks _ _ _ _ _ _ _ _ c.requires.accepted c.requires.room _ _ c.requires.block _ c.block_scope-s.ensures _ c.pushed-scopes.ensures c.block.ensures c.put.ensures.bytes

pub write_block-returns-in-Rows : goal.write_block-returns-in-Rows
write_block-returns-in-Rows t c = parts (exists_done _ _ _ _ _ _ _ _ c.requires.accepted c.requires.room _ _ c.requires.block _ c.block_scope-s.ensures _ c.pushed-scopes.ensures c.block.ensures c.put.ensures.bytes c.table_recs.ensures c.write_d-x.result c.write_d-x.ensures.told.next_is c.write_d-x.ensures.wrote c.in-Rows.is c.fold_type.ensures c.write_d-x.ensures.told.info_is c.exists_info.ensures)

pub write_block-returns-in-Values : goal.write_block-returns-in-Values
write_block-returns-in-Values t c = parts (single_done _ _ _ _ _ _ _ _ c.requires.accepted c.requires.room _ _ c.requires.block _ c.block_scope-s.ensures _ c.pushed-scopes.ensures c.block.ensures c.put.ensures.bytes c.table_recs.ensures c.write_d-x.result c.write_d-x.ensures.told.next_is c.write_d-x.ensures.wrote c.in-Values.is c.write_d-y.ensures.told.next_is c.write_d-y.ensures.wrote c.write_d-y.ensures.told.ty_is c.write_d-x.ensures.told.info_is c.write_d-y.ensures.told.info_is c.single_info.ensures)

pub write_d-sound_at-requires : goal.write_d-sound_at-requires
write_d-sound_at-requires t c = record { i_in_bounds = search rules; i_value = (here_ok _ _ _ _ c.requires.accepted.ready.is_read).slot }

pub write_d-constant-requires : goal.write_d-constant-requires
write_d-constant-requires t c = record { at_in_bounds = search rules; constant = (const_asks _ _ _ _ _ _ _ _ c.requires.accepted _ c.sound_at.ensures c.requires.room c.in-Const.is).0 }

pub write_d-put-requires : goal.write_d-put-requires
write_d-put-requires t c = fits_tree _ c.requires.room

pub write_d-write_d-x-requires : goal.write_d-write_d-x-requires
write_d-write_d-x-requires t c = (omega (arith, c.decreases, c.requires.accepted.ready.left), left_asks _ _ _ _ _ _ _ _ c.requires.accepted _ c.sound_at.ensures c.requires.room c.in-Binop.is)

pub write_d-write_d-y-requires : goal.write_d-write_d-y-requires
write_d-write_d-y-requires t c = (omega (arith, c.decreases, c.requires.accepted.ready.left), right_asks _ _ _ _ _ _ _ _ c.requires.accepted _ c.sound_at.ensures c.requires.room c.in-Binop.is c.write_d-x.result c.write_d-x.ensures.told.next_is c.write_d-x.ensures.wrote)

pub write_d-put_record-requires : goal.write_d-put_record-requires
write_d-put_record-requires t c = binop_asks _ _ _ _ _ _ _ _ c.requires.accepted _ c.sound_at.ensures c.requires.room c.in-Binop.is c.write_d-x.result c.write_d-x.ensures.told.next_is c.write_d-x.ensures.wrote c.write_d-y.result c.write_d-y.ensures.told.next_is c.write_d-y.ensures.wrote

pub write_d-put-requires-in-Not : goal.write_d-put-requires-in-Not
write_d-put-requires-in-Not t c = fits_tree _ c.requires.room

pub write_d-write_d-requires : goal.write_d-write_d-requires
write_d-write_d-requires t c = (omega (arith, c.decreases, c.requires.accepted.ready.left), not_asks _ _ _ _ _ _ _ _ c.requires.accepted _ c.sound_at.ensures c.requires.room c.in-Not.is c.put-in-Not.ensures.bytes)

pub write_d-put-requires-in-If : goal.write_d-put-requires-in-If
write_d-put-requires-in-If t c = fits_tree _ c.requires.room

pub write_d-write_d-x-requires-in-If : goal.write_d-write_d-x-requires-in-If
write_d-write_d-x-requires-in-If t c = (omega (arith, c.decreases, c.requires.accepted.ready.left), test_asks _ _ _ _ _ _ _ _ c.requires.accepted _ c.sound_at.ensures c.requires.room c.in-If.is c.known_at-ty.ensures.ty_is c.put-in-If.ensures.bytes)

pub write_d-write_limb-y-requires : goal.write_d-write_limb-y-requires
write_d-write_limb-y-requires t c = (omega (arith, c.decreases, c.requires.accepted.ready.left), yes_asks _ _ _ _ _ _ _ _ c.requires.accepted _ c.sound_at.ensures c.requires.room c.in-If.is c.known_at-ty.ensures.ty_is c.put-in-If.ensures.bytes c.write_d-x-in-If.result c.write_d-x-in-If.ensures.told.next_is c.write_d-x-in-If.ensures.wrote)

pub write_d-write_limb-z-requires : goal.write_d-write_limb-z-requires
write_d-write_limb-z-requires t c = (omega (arith, c.decreases, c.requires.accepted.ready.left), no_asks _ _ _ _ _ _ _ _ c.requires.accepted _ c.sound_at.ensures c.requires.room c.in-If.is c.known_at-ty.ensures.ty_is c.put-in-If.ensures.bytes c.write_d-x-in-If.result c.write_d-x-in-If.ensures.told.next_is c.write_d-x-in-If.ensures.wrote c.write_limb-y.result c.write_limb-y.ensures.told.next_is c.write_limb-y.ensures.wrote)

pub write_d-write_block-requires : goal.write_d-write_block-requires
write_d-write_block-requires t c = (omega (arith, c.decreases), (c.requires.accepted, (exists_node _ _ _ _ _ c.sound_at.ensures c.in-Exists.is, c.requires.room)))

pub write_d-write_block-requires-in-Single : goal.write_d-write_block-requires-in-Single
write_d-write_block-requires-in-Single t c = (omega (arith, c.decreases), (c.requires.accepted, (single_node _ _ _ _ _ c.sound_at.ensures c.in-Single.is, c.requires.room)))

pub write_d-put-requires-in-Col : goal.write_d-put-requires-in-Col
write_d-put-requires-in-Col t c = fits_tree _ c.requires.room

pub write_d-put-requires-in-Classof : goal.write_d-put-requires-in-Classof
write_d-put-requires-in-Classof t c = fits_tree _ c.requires.room

pub write_d-put-requires-in-Let : goal.write_d-put-requires-in-Let
write_d-put-requires-in-Let t c = fits_tree _ c.requires.room

pub write_d-write_d-x-requires-in-Let : goal.write_d-write_d-x-requires-in-Let
write_d-write_d-x-requires-in-Let t c = (omega (arith, c.decreases, c.requires.accepted.ready.left), value_asks _ _ _ _ _ _ _ _ c.requires.accepted _ c.sound_at.ensures c.requires.room c.in-Let.is c.put-in-Let.ensures.bytes)

pub write_d-write_d-requires-in-Let : goal.write_d-write_d-requires-in-Let
write_d-write_d-requires-in-Let t c = (omega (arith, c.decreases, c.requires.accepted.ready.left), body_asks _ _ _ _ _ _ _ _ c.requires.accepted _ c.sound_at.ensures c.requires.room c.in-Let.is c.put-in-Let.ensures.bytes c.write_d-x-in-Let.result c.write_d-x-in-Let.ensures.told.next_is c.write_d-x-in-Let.ensures.wrote c.write_d-x-in-Let.ensures.told.ty_is c.write_d-x-in-Let.ensures.told.info_is _ _ c.local_scope-s.ensures c.pushed-scopes.ensures)

pub write_d-returns-in-Const : goal.write_d-returns-in-Const
write_d-returns-in-Const t c = parts (const_done _ _ _ _ _ _ _ _ c.requires.accepted _ c.sound_at.ensures c.requires.room c.in-Const.is (writes_as c.constant.ensures c.put.ensures.bytes))

pub write_d-returns-in-Binop : goal.write_d-returns-in-Binop
write_d-returns-in-Binop t c = parts (binop_done _ _ _ _ _ _ _ _ c.requires.accepted _ c.sound_at.ensures c.requires.room c.in-Binop.is c.write_d-x.result c.write_d-x.ensures.told.next_is c.write_d-x.ensures.wrote c.write_d-y.result c.write_d-y.ensures.told.next_is c.write_d-y.ensures.wrote c.write_d-x.ensures.told.ty_is c.write_d-y.ensures.told.ty_is (type_or _ c.binop.ensures c.unwrap_or-ty.ensures) (c.from-digits.ensures ∙ c.digits.ensures) c.put_record.ensures refl refl c.write_d-x.ensures.told.info_is c.write_d-y.ensures.told.info_is c.join.ensures)

pub write_d-returns-in-Not : goal.write_d-returns-in-Not
write_d-returns-in-Not t c = parts (not_done _ _ _ _ _ _ _ _ c.requires.accepted _ c.sound_at.ensures c.requires.room c.in-Not.is c.put-in-Not.ensures.bytes c.write_d.ensures.told.next_is c.write_d.ensures.wrote c.write_d.ensures.told.ty_is c.write_d.ensures.told.info_is)

pub write_d-returns-in-If : goal.write_d-returns-in-If
write_d-returns-in-If t c = parts (if_done _ _ _ _ _ _ _ _ c.requires.accepted _ c.sound_at.ensures c.requires.room c.in-If.is c.known_at-ty.ensures.ty_is c.put-in-If.ensures.bytes c.write_d-x-in-If.result c.write_d-x-in-If.ensures.told.next_is c.write_d-x-in-If.ensures.wrote c.write_limb-y.result c.write_limb-y.ensures.told.next_is c.write_limb-y.ensures.wrote c.write_limb-z.result c.write_limb-z.ensures.told.next_is c.write_limb-z.ensures.wrote c.write_d-x-in-If.ensures.told.info_is c.write_limb-y.ensures.told.info_is c.write_limb-z.ensures.told.info_is c.choose.ensures c.join-in-If.ensures)

pub write_d-returns-in-Col : goal.write_d-returns-in-Col
write_d-returns-in-Col t c = parts (col_done _ _ _ _ _ _ _ _ c.requires.accepted _ c.sound_at.ensures c.requires.room c.in-Col.is _ c.find-h.ensures (writes_as c.column.ensures c.put-in-Col.ensures.bytes) c.found_type.ensures c.found_info.ensures)

pub write_d-returns-in-Classof : goal.write_d-returns-in-Classof
write_d-returns-in-Classof t c = parts (class_done _ _ _ _ _ _ _ _ c.requires.accepted _ c.sound_at.ensures c.requires.room c.in-Classof.is _ c.find-h-in-Classof.ensures (writes_as c.cell_class.ensures c.put-in-Classof.ensures.bytes) c.row_info.ensures)

pub write_d-returns-in-Let : goal.write_d-returns-in-Let
write_d-returns-in-Let t c = parts (let_done _ _ _ _ _ _ _ _ c.requires.accepted _ c.sound_at.ensures c.requires.room c.in-Let.is c.put-in-Let.ensures.bytes c.write_d-x-in-Let.result c.write_d-x-in-Let.ensures.told.next_is c.write_d-x-in-Let.ensures.wrote c.write_d-x-in-Let.ensures.told.ty_is c.write_d-x-in-Let.ensures.told.info_is _ _ c.local_scope-s.ensures c.pushed-scopes.ensures c.write_d-in-Let.ensures.told.next_is c.write_d-in-Let.ensures.wrote c.write_d-in-Let.ensures.told.ty_is c.write_d-in-Let.ensures.told.info_is)

pub write_d-returns-in_default : goal.write_d-returns-in_default
write_d-returns-in_default t c =
    parts (absurd (no_other _ _ _ _ _ _ _ _ c.requires.accepted _ c.sound_at.ensures c.in_default.not-Const c.in_default.not-Binop c.in_default.not-Not c.in_default.not-If c.in_default.not-Exists c.in_default.not-Single c.in_default.not-Col c.in_default.not-Classof c.in_default.not-Let))

pub write_limb-put_conv-requires : goal.write_limb-put_conv-requires
write_limb-put_conv-requires t c = record { narrow = c.requires.narrow; room = conv_asks _ _ _ _ _ _ _ _ c.requires.accepted _ _ c.known_at-own.ensures.ty_is c.requires.room }

pub write_limb-write_d-requires : goal.write_limb-write_d-requires
write_limb-write_d-requires t c = (omega (arith, c.decreases), limb_asks _ _ _ _ _ _ _ _ c.requires.accepted _ _ c.known_at-own.ensures.ty_is c.requires.room c.put_conv.ensures)

pub write_limb-returns : goal.write_limb-returns
write_limb-returns t c = parts (limb_done _ _ _ _ _ _ _ _ c.requires.accepted _ _ c.known_at-own.ensures.ty_is c.requires.room c.put_conv.ensures c.write_d.ensures.told.next_is c.write_d.ensures.wrote c.write_d.ensures.told.ty_is c.write_d.ensures.told.info_is)
