-- The class writer's cycle meets its contracts: one law for each place of the code.
-- Assumes nothing.
use borrow.Author.Rules.{rules}
use native.Mathlib.Omega.{arith}
use mathlib.Core.Path.{sym, ◌∙◌}
use Rattle.word.proofs.Writing.{writes_then}
use Rattle.resolve.proofs.Scoped.{exists_node, single_node, block_next}
use Rattle.tree.proofs.Accepted.{no_other, block_tabled, block_some}
use Rattle.tree.proofs.Writers.{writes_as, fits_as, fits_front, fits_after, fits_record, fits_tree}
use Rattle.label.proofs.Turns.{told_fixed, told_tree, choice_fixed, choice_tree, kept_fixed, kept_tree, asked_rows, asked_value, where_fixed, where_turned, where_open, row_fixed, row_turned, row_open, value_there, no_const, operand_there, operand_bytes, binop_here, cell_bytes, row_bytes, left_there, right_there, binop_turned, binop_open, test_there, yes_there, no_there, if_turned, if_open, own_there, body_there, bind_bytes, bindc_bytes, opened_there, rowed, value_of, aggregate_bytes}
use Rattle.label.proofs.+write_class.Goals as goal

pub write_c-known_at-requires : goal.write_c-known_at-requires
write_c-known_at-requires t c = c.requires.accepted

pub write_c-put-requires : goal.write_c-put-requires
write_c-put-requires t c = fits_record _ _ _ _ _ (fits_as (told_fixed c.known_at.ensures c.in-Fixed.is) c.requires.room)

pub write_c-write_open-requires : goal.write_c-write_open-requires
write_c-write_open-requires t c = ((let z = c.decreases in omega arith), (c.requires.accepted, (told_tree c.known_at.ensures c.in-Bound.is, c.requires.room)))

pub write_c-returns-in-Fixed : goal.write_c-returns-in-Fixed
write_c-returns-in-Fixed t c = writes_as (sym (told_fixed c.known_at.ensures c.in-Fixed.is)) c.put.ensures.bytes

pub write_c-returns-in-Bound : goal.write_c-returns-in-Bound
write_c-returns-in-Bound t c = c.write_open.ensures

pub write_open-write_binop-requires : goal.write_open-write_binop-requires
write_open-write_binop-requires t c = ((let z = c.decreases in omega arith), (c.requires.accepted, (c.requires.tree, (binop_here c.requires.accepted c.node_at.ensures c.in-Binop.is, c.requires.room))))

pub write_open-write_c-requires : goal.write_open-write_c-requires
write_open-write_c-requires t c = ((let z = c.decreases in let l = c.requires.accepted.ready.left in omega arith), (operand_there c.requires.accepted c.node_at.ensures c.in-Not.is, fits_as (operand_bytes c.requires.accepted c.node_at.ensures c.in-Not.is) c.requires.room))

pub write_open-write_if-requires : goal.write_open-write_if-requires
write_open-write_if-requires t c = ((let z = c.decreases in omega arith), (c.requires.accepted, (c.requires.tree, (sym c.node_at.ensures ∙ c.in-If.is, c.requires.room))))

pub write_open-write_block-requires : goal.write_open-write_block-requires
write_open-write_block-requires t c = ((let z = c.decreases in omega arith), (c.requires.accepted, (exists_node _ _ _ _ _ c.node_at.ensures c.in-Exists.is, c.requires.room)))

pub write_open-write_block-requires-in-Single : goal.write_open-write_block-requires-in-Single
write_open-write_block-requires-in-Single t c = ((let z = c.decreases in omega arith), (c.requires.accepted, (single_node _ _ _ _ _ c.node_at.ensures c.in-Single.is, c.requires.room)))

pub write_open-put-requires : goal.write_open-put-requires
write_open-put-requires t c = fits_tree _ c.requires.room

pub write_open-put-requires-in-Classof : goal.write_open-put-requires-in-Classof
write_open-put-requires-in-Classof t c = fits_tree _ c.requires.room

pub write_open-write_let-requires : goal.write_open-write_let-requires
write_open-write_let-requires t c = ((let z = c.decreases in omega arith), (c.requires.accepted, (c.requires.tree, (sym c.node_at.ensures ∙ c.in-Let.is, c.requires.room))))

pub write_open-returns-in-Binop : goal.write_open-returns-in-Binop
write_open-returns-in-Binop t c = c.write_binop.ensures

pub write_open-returns-in-Not : goal.write_open-returns-in-Not
write_open-returns-in-Not t c = writes_as (sym (operand_bytes c.requires.accepted c.node_at.ensures c.in-Not.is)) c.write_c.ensures

pub write_open-returns-in-If : goal.write_open-returns-in-If
write_open-returns-in-If t c = c.write_if.ensures

pub write_open-returns-in-Exists : goal.write_open-returns-in-Exists
write_open-returns-in-Exists t c = c.write_block.ensures

pub write_open-returns-in-Single : goal.write_open-returns-in-Single
write_open-returns-in-Single t c = c.write_block-in-Single.ensures

pub write_open-returns-in-Col : goal.write_open-returns-in-Col
write_open-returns-in-Col t c = writes_as (c.cell_record.ensures ∙ sym (cell_bytes c.requires.accepted c.node_at.ensures c.requires.tree c.in-Col.is c.find-h.ensures)) c.put.ensures.bytes

pub write_open-returns-in-Classof : goal.write_open-returns-in-Classof
write_open-returns-in-Classof t c = writes_as (c.row_record.ensures ∙ sym (row_bytes c.requires.accepted c.node_at.ensures c.requires.tree c.in-Classof.is c.find-h-in-Classof.ensures)) c.put-in-Classof.ensures.bytes

pub write_open-returns-in-Let : goal.write_open-returns-in-Let
write_open-returns-in-Let t c = c.write_let.ensures

pub write_open-returns-in_default : goal.write_open-returns-in_default
write_open-returns-in_default t c = absurd (no_other _ _ _ _ _ _ _ _ c.requires.accepted _ c.node_at.ensures (λ s x g. no_const c.requires.accepted c.node_at.ensures c.requires.tree g) c.in_default.not-Binop c.in_default.not-Not c.in_default.not-If c.in_default.not-Exists c.in_default.not-Single c.in_default.not-Col c.in_default.not-Classof c.in_default.not-Let)

pub write_binop-known_at-x-requires : goal.write_binop-known_at-x-requires
write_binop-known_at-x-requires t c = left_there c.requires.accepted c.requires.kind

pub write_binop-write_lub-requires : goal.write_binop-write_lub-requires
write_binop-write_lub-requires t c = ((let z = c.decreases in let l = c.requires.accepted.ready.left in omega arith), (right_there c.requires.accepted c.requires.kind c.known_at-x.ensures, (left_there c.requires.accepted c.requires.kind, fits_as (binop_turned c.requires.accepted c.requires.kind c.known_at-x.ensures c.requires.tree c.in-Fixed.is) c.requires.room)))

pub write_binop-write_lub-requires-in-Bound : goal.write_binop-write_lub-requires-in-Bound
write_binop-write_lub-requires-in-Bound t c = ((let z = c.decreases in let l = c.requires.accepted.ready.left in omega arith), (left_there c.requires.accepted c.requires.kind, (right_there c.requires.accepted c.requires.kind c.known_at-x.ensures, fits_as (binop_open c.requires.accepted c.requires.kind c.known_at-x.ensures c.in-Bound.is) c.requires.room)))

pub write_binop-returns-in-Fixed : goal.write_binop-returns-in-Fixed
write_binop-returns-in-Fixed t c = writes_as (sym (binop_turned c.requires.accepted c.requires.kind c.known_at-x.ensures c.requires.tree c.in-Fixed.is)) c.write_lub.ensures

pub write_binop-returns-in-Bound : goal.write_binop-returns-in-Bound
write_binop-returns-in-Bound t c = writes_as (sym (binop_open c.requires.accepted c.requires.kind c.known_at-x.ensures c.in-Bound.is)) c.write_lub-in-Bound.ensures

pub write_lub-put-requires : goal.write_lub-put-requires
write_lub-put-requires t c = fits_record _ _ _ _ _ (fits_front _ c.requires.room)

pub write_lub-write_c-requires : goal.write_lub-write_c-requires
write_lub-write_c-requires t c = ((let z = c.decreases in omega arith), (c.requires.accepted_first, (fits_front _ (fits_after c.put.ensures.bytes c.requires.room))))

pub write_lub-write_c-requires-2 : goal.write_lub-write_c-requires-2
write_lub-write_c-requires-2 t c = ((let z = c.decreases in omega arith), (c.requires.accepted_second, (fits_after c.write_c.ensures (fits_after c.put.ensures.bytes c.requires.room))))

pub write_lub-returns : goal.write_lub-returns
write_lub-returns t c = (writes_then c.put.ensures.bytes (writes_then c.write_c.ensures c.write_c-2.ensures))

pub write_if-known_at-c-requires : goal.write_if-known_at-c-requires
write_if-known_at-c-requires t c = test_there c.requires.accepted c.requires.kind

pub write_if-known_at-x-requires : goal.write_if-known_at-x-requires
write_if-known_at-x-requires t c = yes_there c.requires.accepted c.requires.kind c.known_at-c.ensures

pub write_if-put-requires : goal.write_if-put-requires
write_if-put-requires t c = fits_tree _ c.requires.room

pub write_if-write_choice-requires : goal.write_if-write_choice-requires
write_if-write_choice-requires t c = ((let z = c.decreases in let l = c.requires.accepted.ready.left in omega arith), (test_there c.requires.accepted c.requires.kind, (yes_there c.requires.accepted c.requires.kind c.known_at-c.ensures, (no_there c.requires.accepted c.requires.kind c.known_at-c.ensures c.known_at-x.ensures, (fits_front _ (fits_after c.put.ensures.bytes (fits_as (if_turned c.requires.accepted c.requires.kind c.known_at-c.ensures c.known_at-x.ensures c.requires.tree c.in-Fixed.is) c.requires.room)))))))

pub write_if-write_c-requires : goal.write_if-write_c-requires
write_if-write_c-requires t c = ((let z = c.decreases in let l = c.requires.accepted.ready.left in omega arith), (test_there c.requires.accepted c.requires.kind, (fits_after c.write_choice.ensures (fits_after c.put.ensures.bytes (fits_as (if_turned c.requires.accepted c.requires.kind c.known_at-c.ensures c.known_at-x.ensures c.requires.tree c.in-Fixed.is) c.requires.room)))))

pub write_if-write_c-requires-in-Bound : goal.write_if-write_c-requires-in-Bound
write_if-write_c-requires-in-Bound t c = ((let z = c.decreases in let l = c.requires.accepted.ready.left in omega arith), (test_there c.requires.accepted c.requires.kind, (fits_front _ (fits_after c.put.ensures.bytes (fits_as (if_open c.requires.accepted c.requires.kind c.known_at-c.ensures c.known_at-x.ensures c.in-Bound.is) c.requires.room)))))

pub write_if-write_choice-requires-in-Bound : goal.write_if-write_choice-requires-in-Bound
write_if-write_choice-requires-in-Bound t c = ((let z = c.decreases in let l = c.requires.accepted.ready.left in omega arith), (test_there c.requires.accepted c.requires.kind, (yes_there c.requires.accepted c.requires.kind c.known_at-c.ensures, (no_there c.requires.accepted c.requires.kind c.known_at-c.ensures c.known_at-x.ensures, (fits_after c.write_c-in-Bound.ensures (fits_after c.put.ensures.bytes (fits_as (if_open c.requires.accepted c.requires.kind c.known_at-c.ensures c.known_at-x.ensures c.in-Bound.is) c.requires.room)))))))

pub write_if-returns-in-Fixed : goal.write_if-returns-in-Fixed
write_if-returns-in-Fixed t c = writes_as (sym (if_turned c.requires.accepted c.requires.kind c.known_at-c.ensures c.known_at-x.ensures c.requires.tree c.in-Fixed.is)) (writes_then c.put.ensures.bytes (writes_then c.write_choice.ensures c.write_c.ensures))

pub write_if-returns-in-Bound : goal.write_if-returns-in-Bound
write_if-returns-in-Bound t c = writes_as (sym (if_open c.requires.accepted c.requires.kind c.known_at-c.ensures c.known_at-x.ensures c.in-Bound.is)) (writes_then c.put.ensures.bytes (writes_then c.write_c-in-Bound.ensures c.write_choice-in-Bound.ensures))

pub write_choice-known_at-a-requires : goal.write_choice-known_at-a-requires
write_choice-known_at-a-requires t c = c.requires.accepted_yes

pub write_choice-known_at-b-requires : goal.write_choice-known_at-b-requires
write_choice-known_at-b-requires t c = c.requires.accepted_no

pub write_choice-put-requires : goal.write_choice-put-requires
write_choice-put-requires t c = fits_record _ _ _ _ _ (fits_as (choice_fixed _ c.known_at-a.ensures c.known_at-b.ensures c.choose.ensures c.in-Fixed.is) c.requires.room)

pub write_choice-put-requires-in-Bound : goal.write_choice-put-requires-in-Bound
write_choice-put-requires-in-Bound t c = fits_tree _ c.requires.room

pub write_choice-write_d-requires : goal.write_choice-write_d-requires
write_choice-write_d-requires t c = record { accepted = c.requires.accepted_test; room = (fits_front _ (fits_after c.put-in-Bound.ensures.bytes (fits_as (choice_tree _ c.known_at-a.ensures c.known_at-b.ensures c.choose.ensures c.in-Bound.is) c.requires.room))) }

pub write_choice-write_c-requires : goal.write_choice-write_c-requires
write_choice-write_c-requires t c = ((let z = c.decreases in omega arith), (c.requires.accepted_yes, (fits_front _ (fits_after c.write_d.ensures.wrote (fits_after c.put-in-Bound.ensures.bytes (fits_as (choice_tree _ c.known_at-a.ensures c.known_at-b.ensures c.choose.ensures c.in-Bound.is) c.requires.room))))))

pub write_choice-write_c-requires-in-Bound : goal.write_choice-write_c-requires-in-Bound
write_choice-write_c-requires-in-Bound t c = ((let z = c.decreases in omega arith), (c.requires.accepted_no, (fits_after c.write_c.ensures (fits_after c.write_d.ensures.wrote (fits_after c.put-in-Bound.ensures.bytes (fits_as (choice_tree _ c.known_at-a.ensures c.known_at-b.ensures c.choose.ensures c.in-Bound.is) c.requires.room))))))

pub write_choice-returns-in-Fixed : goal.write_choice-returns-in-Fixed
write_choice-returns-in-Fixed t c = writes_as (sym (choice_fixed _ c.known_at-a.ensures c.known_at-b.ensures c.choose.ensures c.in-Fixed.is)) c.put.ensures.bytes

pub write_choice-returns-in-Bound : goal.write_choice-returns-in-Bound
write_choice-returns-in-Bound t c = writes_as (sym (choice_tree _ c.known_at-a.ensures c.known_at-b.ensures c.choose.ensures c.in-Bound.is)) (writes_then c.put-in-Bound.ensures.bytes (writes_then c.write_d.ensures.wrote (writes_then c.write_c.ensures c.write_c-in-Bound.ensures)))

pub write_let-known_at-x-requires : goal.write_let-known_at-x-requires
write_let-known_at-x-requires t c = own_there c.requires.accepted c.requires.kind

pub write_let-put-requires : goal.write_let-put-requires
write_let-put-requires t c = fits_tree _ c.requires.room

pub write_let-put-requires-in-Bound : goal.write_let-put-requires-in-Bound
write_let-put-requires-in-Bound t c = fits_tree _ c.requires.room

pub write_let-write_d-requires : goal.write_let-write_d-requires
write_let-write_d-requires t c = record { accepted = own_there c.requires.accepted c.requires.kind; room = (fits_front _ (fits_after c.put.ensures.bytes (fits_as (bind_bytes c.requires.accepted c.requires.kind c.known_at-x.ensures c.local_scope-s.ensures c.pushed-scopes.ensures c.requires.tree c.in-Fixed.is) c.requires.room))) }

pub write_let-write_c-requires : goal.write_let-write_c-requires
write_let-write_c-requires t c = ((let z = c.decreases in let l = c.requires.accepted.ready.left in omega arith), (body_there c.requires.accepted c.requires.kind c.known_at-x.ensures c.local_scope-s.ensures c.pushed-scopes.ensures, (fits_after c.write_d.ensures.wrote (fits_after c.put.ensures.bytes (fits_as (bind_bytes c.requires.accepted c.requires.kind c.known_at-x.ensures c.local_scope-s.ensures c.pushed-scopes.ensures c.requires.tree c.in-Fixed.is) c.requires.room)))))

pub write_let-write_c-requires-in-Bound : goal.write_let-write_c-requires-in-Bound
write_let-write_c-requires-in-Bound t c = ((let z = c.decreases in let l = c.requires.accepted.ready.left in omega arith), (own_there c.requires.accepted c.requires.kind, (fits_front _ (fits_after c.put-in-Bound.ensures.bytes (fits_as (bindc_bytes c.requires.accepted c.requires.kind c.known_at-x.ensures c.local_scope-s.ensures c.pushed-scopes.ensures c.requires.tree c.in-Bound.is) c.requires.room)))))

pub write_let-write_d-requires-in-Bound : goal.write_let-write_d-requires-in-Bound
write_let-write_d-requires-in-Bound t c = record { accepted = own_there c.requires.accepted c.requires.kind; room = (fits_front _ (fits_after c.write_c-in-Bound.ensures (fits_after c.put-in-Bound.ensures.bytes (fits_as (bindc_bytes c.requires.accepted c.requires.kind c.known_at-x.ensures c.local_scope-s.ensures c.pushed-scopes.ensures c.requires.tree c.in-Bound.is) c.requires.room)))) }

pub write_let-write_c-requires-in-Bound-2 : goal.write_let-write_c-requires-in-Bound-2
write_let-write_c-requires-in-Bound-2 t c = ((let z = c.decreases in let l = c.requires.accepted.ready.left in omega arith), (body_there c.requires.accepted c.requires.kind c.known_at-x.ensures c.local_scope-s.ensures c.pushed-scopes.ensures, (fits_after c.write_d-in-Bound.ensures.wrote (fits_after c.write_c-in-Bound.ensures (fits_after c.put-in-Bound.ensures.bytes (fits_as (bindc_bytes c.requires.accepted c.requires.kind c.known_at-x.ensures c.local_scope-s.ensures c.pushed-scopes.ensures c.requires.tree c.in-Bound.is) c.requires.room))))))

pub write_let-returns-in-Fixed : goal.write_let-returns-in-Fixed
write_let-returns-in-Fixed t c = writes_as (sym (bind_bytes c.requires.accepted c.requires.kind c.known_at-x.ensures c.local_scope-s.ensures c.pushed-scopes.ensures c.requires.tree c.in-Fixed.is)) (writes_then c.put.ensures.bytes (writes_then c.write_d.ensures.wrote c.write_c.ensures))

pub write_let-returns-in-Bound : goal.write_let-returns-in-Bound
write_let-returns-in-Bound t c = writes_as (sym (bindc_bytes c.requires.accepted c.requires.kind c.known_at-x.ensures c.local_scope-s.ensures c.pushed-scopes.ensures c.requires.tree c.in-Bound.is)) (writes_then c.put-in-Bound.ensures.bytes (writes_then c.write_c-in-Bound.ensures (writes_then c.write_d-in-Bound.ensures.wrote c.write_c-in-Bound-2.ensures)))

pub write_block-block_scope-s-requires : goal.write_block-block_scope-s-requires
write_block-block_scope-s-requires t c = record { tabled = block_tabled _ _ _ _ _ _ _ _ c.requires.accepted _ _ c.requires.block; some = block_some _ _ _ _ _ _ _ _ c.requires.accepted _ _ c.requires.block }

pub write_block-block_class-k-requires : goal.write_block-block_class-k-requires
write_block-block_class-k-requires t c = record { n_in_bounds = search rules; among = (opened_there c.requires.accepted _ _ c.requires.block c.block_scope-s.ensures c.pushed-scopes.ensures).entry.among }

pub write_block-overflow_add-test : goal.write_block-overflow_add-test
write_block-overflow_add-test t c = let h = block_next _ _ _ _ _ _ _ _ c.requires.accepted.ready _ _ c.requires.block in omega arith

pub write_block-put-requires : goal.write_block-put-requires
write_block-put-requires t c = fits_tree _ c.requires.room

pub write_block-put-requires-2 : goal.write_block-put-requires-2
write_block-put-requires-2 t c = fits_record _ _ _ _ _ (fits_front _ (fits_after c.put.ensures.bytes (fits_as (aggregate_bytes c.requires.accepted _ _ c.requires.block c.block_scope-s.ensures c.pushed-scopes.ensures c.block_class-k.ensures) c.requires.room)))

pub write_block-table_recs-requires : goal.write_block-table_recs-requires
write_block-table_recs-requires t c = record { tabled = (opened_there c.requires.accepted _ _ c.requires.block c.block_scope-s.ensures c.pushed-scopes.ensures).tabled; room = (fits_front _ (fits_after c.put-2.ensures.bytes (fits_after c.put.ensures.bytes (fits_as (aggregate_bytes c.requires.accepted _ _ c.requires.block c.block_scope-s.ensures c.pushed-scopes.ensures c.block_class-k.ensures) c.requires.room)))) }

pub write_block-write_at_row-requires : goal.write_block-write_at_row-requires
write_block-write_at_row-requires t c = ((let z = c.decreases in let l = c.requires.accepted.ready.left in omega arith), ((opened_there c.requires.accepted _ _ c.requires.block c.block_scope-s.ensures c.pushed-scopes.ensures).test, (rowed c.requires.accepted _ _ c.requires.block c.block_scope-s.ensures c.pushed-scopes.ensures, (value_of c.requires.accepted _ _ c.requires.block c.block_scope-s.ensures c.pushed-scopes.ensures, (fits_front _ (fits_after c.table_recs.ensures (fits_after c.put-2.ensures.bytes (fits_after c.put.ensures.bytes (fits_as (aggregate_bytes c.requires.accepted _ _ c.requires.block c.block_scope-s.ensures c.pushed-scopes.ensures c.block_class-k.ensures) c.requires.room)))))))))

pub write_block-put-requires-3 : goal.write_block-put-requires-3
write_block-put-requires-3 t c = fits_record _ _ _ _ _ (fits_after c.write_at_row.ensures (fits_after c.table_recs.ensures (fits_after c.put-2.ensures.bytes (fits_after c.put.ensures.bytes (fits_as (aggregate_bytes c.requires.accepted _ _ c.requires.block c.block_scope-s.ensures c.pushed-scopes.ensures c.block_class-k.ensures) c.requires.room)))))

pub write_block-returns : goal.write_block-returns
write_block-returns t c = writes_as (sym (aggregate_bytes c.requires.accepted _ _ c.requires.block c.block_scope-s.ensures c.pushed-scopes.ensures c.block_class-k.ensures)) (writes_then c.put.ensures.bytes (writes_then c.put-2.ensures.bytes (writes_then c.table_recs.ensures (writes_then c.write_at_row.ensures c.put-3.ensures.bytes))))

pub write_at_row-write_where-requires : goal.write_at_row-write_where-requires
write_at_row-write_where-requires t c = ((let z = c.decreases in omega arith), (c.requires.accepted, (c.requires.rowed, fits_as (asked_rows _ _ _ _ _ _ _ _ c.in-Rows.is) c.requires.room)))

pub write_at_row-write_valued-requires : goal.write_at_row-write_valued-requires
write_at_row-write_valued-requires t c = ((let z = c.decreases in omega arith), (c.requires.accepted, (c.requires.rowed, (c.requires.valued.value _ c.in-Values.is, fits_as (asked_value _ _ _ _ _ _ _ _ c.in-Values.is) c.requires.room))))

pub write_at_row-returns-in-Rows : goal.write_at_row-returns-in-Rows
write_at_row-returns-in-Rows t c = writes_as (sym (asked_rows _ _ _ _ _ _ _ _ c.in-Rows.is)) c.write_where.ensures

pub write_at_row-returns-in-Values : goal.write_at_row-returns-in-Values
write_at_row-returns-in-Values t c = writes_as (sym (asked_value _ _ _ _ _ _ _ _ c.in-Values.is)) c.write_valued.ensures

pub write_valued-known_at-x-requires : goal.write_valued-known_at-x-requires
write_valued-known_at-x-requires t c = c.requires.accepted

pub write_valued-known_at-y-requires : goal.write_valued-known_at-y-requires
write_valued-known_at-y-requires t c = value_there c.requires.value c.known_at-x.ensures

pub write_valued-last_of-requires : goal.write_valued-last_of-requires
write_valued-last_of-requires t c = (c.requires.rowed.some, c.requires.rowed.few)

pub write_valued-info-rows-requires : goal.write_valued-info-rows-requires
write_valued-info-rows-requires t c = (c.requires.rowed.long, c.requires.rowed.among)

pub write_valued-put-requires : goal.write_valued-put-requires
write_valued-put-requires t c = fits_record _ _ _ _ _ (fits_as (row_fixed _ _ _ _ _ _ _ _ c.last_of.ensures c.known_at-x.ensures c.info-rows.ensures c.join-i.ensures c.known_at-y.ensures c.choose.ensures c.join-h.ensures c.in-Fixed.is) c.requires.room)

pub write_valued-put-requires-in-Bound : goal.write_valued-put-requires-in-Bound
write_valued-put-requires-in-Bound t c = fits_tree _ c.requires.room

pub write_valued-write_kept-requires : goal.write_valued-write_kept-requires
write_valued-write_kept-requires t c = ((let z = c.decreases in omega arith), (c.requires.accepted, (value_there c.requires.value c.known_at-x.ensures, (fits_front _ (fits_after c.put-in-Bound.ensures.bytes (fits_as (row_turned _ _ _ _ _ _ _ _ c.last_of.ensures c.known_at-x.ensures c.info-rows.ensures c.join-i.ensures c.known_at-y.ensures c.choose.ensures c.join-h.ensures c.in-Bound.is c.in-Fixed-i.is) c.requires.room))))))

pub write_valued-write_where-requires : goal.write_valued-write_where-requires
write_valued-write_where-requires t c = ((let z = c.decreases in omega arith), (c.requires.accepted, (c.requires.rowed, (fits_after c.write_kept.ensures (fits_after c.put-in-Bound.ensures.bytes (fits_as (row_turned _ _ _ _ _ _ _ _ c.last_of.ensures c.known_at-x.ensures c.info-rows.ensures c.join-i.ensures c.known_at-y.ensures c.choose.ensures c.join-h.ensures c.in-Bound.is c.in-Fixed-i.is) c.requires.room))))))

pub write_valued-write_where-requires-in-Bound-i : goal.write_valued-write_where-requires-in-Bound-i
write_valued-write_where-requires-in-Bound-i t c = ((let z = c.decreases in omega arith), (c.requires.accepted, (c.requires.rowed, (fits_front _ (fits_after c.put-in-Bound.ensures.bytes (fits_as (row_open _ _ _ _ _ _ _ _ c.last_of.ensures c.known_at-x.ensures c.info-rows.ensures c.join-i.ensures c.known_at-y.ensures c.choose.ensures c.join-h.ensures c.in-Bound-i.is) c.requires.room))))))

pub write_valued-write_kept-requires-in-Bound-i : goal.write_valued-write_kept-requires-in-Bound-i
write_valued-write_kept-requires-in-Bound-i t c = ((let z = c.decreases in omega arith), (c.requires.accepted, (value_there c.requires.value c.known_at-x.ensures, (fits_after c.write_where-in-Bound-i.ensures (fits_after c.put-in-Bound.ensures.bytes (fits_as (row_open _ _ _ _ _ _ _ _ c.last_of.ensures c.known_at-x.ensures c.info-rows.ensures c.join-i.ensures c.known_at-y.ensures c.choose.ensures c.join-h.ensures c.in-Bound-i.is) c.requires.room))))))

pub write_valued-returns-in-Fixed : goal.write_valued-returns-in-Fixed
write_valued-returns-in-Fixed t c = writes_as (sym (row_fixed _ _ _ _ _ _ _ _ c.last_of.ensures c.known_at-x.ensures c.info-rows.ensures c.join-i.ensures c.known_at-y.ensures c.choose.ensures c.join-h.ensures c.in-Fixed.is)) c.put.ensures.bytes

pub write_valued-returns-in-Fixed-i : goal.write_valued-returns-in-Fixed-i
write_valued-returns-in-Fixed-i t c = writes_as (sym (row_turned _ _ _ _ _ _ _ _ c.last_of.ensures c.known_at-x.ensures c.info-rows.ensures c.join-i.ensures c.known_at-y.ensures c.choose.ensures c.join-h.ensures c.in-Bound.is c.in-Fixed-i.is)) (writes_then c.put-in-Bound.ensures.bytes (writes_then c.write_kept.ensures c.write_where.ensures))

pub write_valued-returns-in-Bound-i : goal.write_valued-returns-in-Bound-i
write_valued-returns-in-Bound-i t c = writes_as (sym (row_open _ _ _ _ _ _ _ _ c.last_of.ensures c.known_at-x.ensures c.info-rows.ensures c.join-i.ensures c.known_at-y.ensures c.choose.ensures c.join-h.ensures c.in-Bound-i.is)) (writes_then c.put-in-Bound.ensures.bytes (writes_then c.write_where-in-Bound-i.ensures c.write_kept-in-Bound-i.ensures))

pub write_where-known_at-x-requires : goal.write_where-known_at-x-requires
write_where-known_at-x-requires t c = c.requires.accepted

pub write_where-last_of-last-requires : goal.write_where-last_of-last-requires
write_where-last_of-last-requires t c = (c.requires.rowed.some, c.requires.rowed.few)

pub write_where-info-i-requires : goal.write_where-info-i-requires
write_where-info-i-requires t c = (c.requires.rowed.long, c.requires.rowed.among)

pub write_where-put-requires : goal.write_where-put-requires
write_where-put-requires t c = fits_record _ _ _ _ _ (fits_as (where_fixed _ _ _ _ _ _ _ _ c.last_of-last.ensures c.known_at-x.ensures c.info-i.ensures c.join-h.ensures c.in-Fixed.is) c.requires.room)

pub write_where-put-requires-in-Bound : goal.write_where-put-requires-in-Bound
write_where-put-requires-in-Bound t c = fits_tree _ c.requires.room

pub write_where-write_c-requires : goal.write_where-write_c-requires
write_where-write_c-requires t c = ((let z = c.decreases in omega arith), (c.requires.accepted, (fits_front _ (fits_after c.put-in-Bound.ensures.bytes (fits_as (where_turned _ _ _ _ _ _ _ _ c.last_of-last.ensures c.known_at-x.ensures c.info-i.ensures c.join-h.ensures c.in-Bound.is c.in-Fixed-i.is) c.requires.room)))))

pub write_where-write-requires : goal.write_where-write-requires
write_where-write-requires t c = record { among = (c.requires.rowed.long, c.requires.rowed.among, c.last_of-last.ensures.1); room = (fits_after c.write_c.ensures (fits_after c.put-in-Bound.ensures.bytes (fits_as (where_turned _ _ _ _ _ _ _ _ c.last_of-last.ensures c.known_at-x.ensures c.info-i.ensures c.join-h.ensures c.in-Bound.is c.in-Fixed-i.is) c.requires.room))) }

pub write_where-write-requires-in-Bound-i : goal.write_where-write-requires-in-Bound-i
write_where-write-requires-in-Bound-i t c = record { among = (c.requires.rowed.long, c.requires.rowed.among, c.last_of-last.ensures.1); room = (fits_front _ (fits_after c.put-in-Bound.ensures.bytes (fits_as (where_open _ _ _ _ _ _ _ _ c.last_of-last.ensures c.known_at-x.ensures c.info-i.ensures c.join-h.ensures c.in-Bound-i.is) c.requires.room))) }

pub write_where-write_c-requires-in-Bound-i : goal.write_where-write_c-requires-in-Bound-i
write_where-write_c-requires-in-Bound-i t c = ((let z = c.decreases in omega arith), (c.requires.accepted, (fits_after c.write-in-Bound-i.ensures (fits_after c.put-in-Bound.ensures.bytes (fits_as (where_open _ _ _ _ _ _ _ _ c.last_of-last.ensures c.known_at-x.ensures c.info-i.ensures c.join-h.ensures c.in-Bound-i.is) c.requires.room)))))

pub write_where-returns-in-Fixed : goal.write_where-returns-in-Fixed
write_where-returns-in-Fixed t c = writes_as (sym (where_fixed _ _ _ _ _ _ _ _ c.last_of-last.ensures c.known_at-x.ensures c.info-i.ensures c.join-h.ensures c.in-Fixed.is)) c.put.ensures.bytes

pub write_where-returns-in-Fixed-i : goal.write_where-returns-in-Fixed-i
write_where-returns-in-Fixed-i t c = writes_as (sym (where_turned _ _ _ _ _ _ _ _ c.last_of-last.ensures c.known_at-x.ensures c.info-i.ensures c.join-h.ensures c.in-Bound.is c.in-Fixed-i.is)) (writes_then c.put-in-Bound.ensures.bytes (writes_then c.write_c.ensures c.write.ensures))

pub write_where-returns-in-Bound-i : goal.write_where-returns-in-Bound-i
write_where-returns-in-Bound-i t c = writes_as (sym (where_open _ _ _ _ _ _ _ _ c.last_of-last.ensures c.known_at-x.ensures c.info-i.ensures c.join-h.ensures c.in-Bound-i.is)) (writes_then c.put-in-Bound.ensures.bytes (writes_then c.write-in-Bound-i.ensures c.write_c-in-Bound-i.ensures))

pub write_kept-known_at-a-requires : goal.write_kept-known_at-a-requires
write_kept-known_at-a-requires t c = c.requires.accepted_value

pub write_kept-put-requires : goal.write_kept-put-requires
write_kept-put-requires t c = fits_record _ _ _ _ _ (fits_as (kept_fixed _ c.known_at-a.ensures c.choose.ensures c.in-Fixed.is) c.requires.room)

pub write_kept-put-requires-in-Bound : goal.write_kept-put-requires-in-Bound
write_kept-put-requires-in-Bound t c = fits_tree _ c.requires.room

pub write_kept-write_d-requires : goal.write_kept-write_d-requires
write_kept-write_d-requires t c = record { accepted = c.requires.accepted_test; room = (fits_front _ (fits_after c.put-in-Bound.ensures.bytes (fits_as (kept_tree _ c.known_at-a.ensures c.choose.ensures c.in-Bound.is) c.requires.room))) }

pub write_kept-write_c-requires : goal.write_kept-write_c-requires
write_kept-write_c-requires t c = ((let z = c.decreases in omega arith), (c.requires.accepted_value, (fits_front _ (fits_after c.write_d.ensures.wrote (fits_after c.put-in-Bound.ensures.bytes (fits_as (kept_tree _ c.known_at-a.ensures c.choose.ensures c.in-Bound.is) c.requires.room))))))

pub write_kept-put-requires-in-Bound-2 : goal.write_kept-put-requires-in-Bound-2
write_kept-put-requires-in-Bound-2 t c = fits_record _ _ _ _ _ (fits_after c.write_c.ensures (fits_after c.write_d.ensures.wrote (fits_after c.put-in-Bound.ensures.bytes (fits_as (kept_tree _ c.known_at-a.ensures c.choose.ensures c.in-Bound.is) c.requires.room))))

pub write_kept-returns-in-Fixed : goal.write_kept-returns-in-Fixed
write_kept-returns-in-Fixed t c = writes_as (sym (kept_fixed _ c.known_at-a.ensures c.choose.ensures c.in-Fixed.is)) c.put.ensures.bytes

pub write_kept-returns-in-Bound : goal.write_kept-returns-in-Bound
write_kept-returns-in-Bound t c = writes_as (sym (kept_tree _ c.known_at-a.ensures c.choose.ensures c.in-Bound.is)) (writes_then c.put-in-Bound.ensures.bytes (writes_then c.write_d.ensures.wrote (writes_then c.write_c.ensures c.put-in-Bound-2.ensures.bytes)))
