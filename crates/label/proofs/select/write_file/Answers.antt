-- `select::write_file` meets its contract: the root of an accepted view is SELECT; header, SELECT, tables, tests, where, pairs.
-- Assumes nothing.
use borrow.Author.Rules.{rules}
use mathlib.Core.Path.{refl, sym, ◌∙◌}
use Rattle.word.proofs.Writing.{writes_then}
use Rattle.tree.proofs.Writers.{writes_as, fits_as, fits_front, fits_after, fits_record}
use Rattle.label.proofs.Left.{left_known, left_end, left_noting, left_asks, left_done}
use Rattle.label.proofs.Roots.{room_head, root_there, root_long, some_tables, few_tables, root_tabled, entry, test_there, test_left, values_there, values_left, file_bytes}
use Rattle.label.proofs.select.write_file.Goals as goal

pub node_at-requires : goal.node_at-requires
node_at-requires c = root_long _ _ _ _ c.requires.viewed

pub returns-in_default : goal.returns-in_default
returns-in_default c = let h = c.node_at.ensures ∙ (root_there _ _ _ _ c.requires.viewed).2 in absurd (c.in_default.not-Select _ _ h)

pub block_scope-s-requires : goal.block_scope-s-requires
block_scope-s-requires c = record { tabled = root_tabled _ _ _ _ c.requires.viewed _ _ (sym c.node_at.ensures ∙ c.in-Select.is); some = some_tables _ _ _ _ c.requires.viewed _ _ (sym c.node_at.ensures ∙ c.in-Select.is) }

pub header-requires : goal.header-requires
header-requires c = record { four = refl; room = room_head _ (fits_front _ (fits_as (file_bytes _ _ _ _ c.requires.viewed _ _ (sym c.node_at.ensures ∙ c.in-Select.is) _ c.block_scope-s.ensures _ _ c.requires.count_value refl) c.requires.room)) }

pub put-requires : goal.put-requires
put-requires c = fits_record _ _ _ _ _ (fits_front _ (fits_after c.header.ensures.bytes (fits_as (file_bytes _ _ _ _ c.requires.viewed _ _ (sym c.node_at.ensures ∙ c.in-Select.is) _ c.block_scope-s.ensures _ _ c.requires.count_value refl) c.requires.room)))

pub table_recs-requires : goal.table_recs-requires
table_recs-requires c = record { tabled = root_tabled _ _ _ _ c.requires.viewed _ _ (sym c.node_at.ensures ∙ c.in-Select.is); room = (fits_front _ (fits_after c.put.ensures.bytes (fits_after c.header.ensures.bytes (fits_as (file_bytes _ _ _ _ c.requires.viewed _ _ (sym c.node_at.ensures ∙ c.in-Select.is) _ c.block_scope-s.ensures _ _ c.requires.count_value refl) c.requires.room)))) }

pub write_tests-requires : goal.write_tests-requires
write_tests-requires c = record { among = (c.requires.viewed.given.cat_long, (entry _ _ _ _ c.requires.viewed _ _ (sym c.node_at.ensures ∙ c.in-Select.is) _ c.block_scope-s.ensures).among, few_tables _ _ _ _ c.requires.viewed _ _ (sym c.node_at.ensures ∙ c.in-Select.is)); room = (fits_front _ (fits_after c.table_recs.ensures (fits_after c.put.ensures.bytes (fits_after c.header.ensures.bytes (fits_as (file_bytes _ _ _ _ c.requires.viewed _ _ (sym c.node_at.ensures ∙ c.in-Select.is) _ c.block_scope-s.ensures _ _ c.requires.count_value refl) c.requires.room))))) }

pub bounds-ends-0 : goal.bounds-ends-0
bounds-ends-0 c = let h = (test_left _ _ _ _ c.requires.viewed _ _ (sym c.node_at.ensures ∙ c.in-Select.is) _ c.block_scope-s.ensures _ _ c.requires.left_view).ends_long in search rules

pub write_where_test-requires : goal.write_where_test-requires
write_where_test-requires c = record { accepted = (test_there _ _ _ _ c.requires.viewed _ _ (sym c.node_at.ensures ∙ c.in-Select.is) _ c.block_scope-s.ensures); known = left_known _ _ _ _ _ _ _ _ (test_left _ _ _ _ c.requires.viewed _ _ (sym c.node_at.ensures ∙ c.in-Select.is) _ c.block_scope-s.ensures _ _ c.requires.left_view) c.known_in.ensures; room = (fits_front _ (fits_after c.write_tests.ensures (fits_after c.table_recs.ensures (fits_after c.put.ensures.bytes (fits_after c.header.ensures.bytes (fits_as (file_bytes _ _ _ _ c.requires.viewed _ _ (sym c.node_at.ensures ∙ c.in-Select.is) _ c.block_scope-s.ensures _ _ c.requires.count_value refl) c.requires.room)))))) }

pub write_noted-requires : goal.write_noted-requires
write_noted-requires c = record { noting = left_noting _ _ _ _ _ _ _ _ _ (test_there _ _ _ _ c.requires.viewed _ _ (sym c.node_at.ensures ∙ c.in-Select.is) _ c.block_scope-s.ensures) (test_left _ _ _ _ c.requires.viewed _ _ (sym c.node_at.ensures ∙ c.in-Select.is) _ c.block_scope-s.ensures _ _ c.requires.left_view) c.end_in-first.ensures; room = left_asks _ _ _ _ _ _ _ _ _ (test_there _ _ _ _ c.requires.viewed _ _ (sym c.node_at.ensures ∙ c.in-Select.is) _ c.block_scope-s.ensures) (test_left _ _ _ _ c.requires.viewed _ _ (sym c.node_at.ensures ∙ c.in-Select.is) _ c.block_scope-s.ensures _ _ c.requires.left_view) c.end_in-first.ensures (fits_front _ (fits_after c.write_where_test.ensures (fits_after c.write_tests.ensures (fits_after c.table_recs.ensures (fits_after c.put.ensures.bytes (fits_after c.header.ensures.bytes (fits_as (file_bytes _ _ _ _ c.requires.viewed _ _ (sym c.node_at.ensures ∙ c.in-Select.is) _ c.block_scope-s.ensures _ _ c.requires.count_value refl) c.requires.room))))))) }

pub write_pairs-requires : goal.write_pairs-requires
write_pairs-requires c = record { root = (refl, refl); accepts = values_there _ _ _ _ c.requires.viewed _ _ (sym c.node_at.ensures ∙ c.in-Select.is) _ c.block_scope-s.ensures (left_end _ _ _ _ _ _ _ _ _ (test_there _ _ _ _ c.requires.viewed _ _ (sym c.node_at.ensures ∙ c.in-Select.is) _ c.block_scope-s.ensures) (test_left _ _ _ _ c.requires.viewed _ _ (sym c.node_at.ensures ∙ c.in-Select.is) _ c.block_scope-s.ensures _ _ c.requires.left_view) c.end_in-first.ensures); left_all = values_left _ _ _ _ c.requires.viewed _ _ (sym c.node_at.ensures ∙ c.in-Select.is) _ c.block_scope-s.ensures _ _ c.requires.left_view (left_end _ _ _ _ _ _ _ _ _ (test_there _ _ _ _ c.requires.viewed _ _ (sym c.node_at.ensures ∙ c.in-Select.is) _ c.block_scope-s.ensures) (test_left _ _ _ _ c.requires.viewed _ _ (sym c.node_at.ensures ∙ c.in-Select.is) _ c.block_scope-s.ensures _ _ c.requires.left_view) c.end_in-first.ensures); room = (fits_after (left_done _ _ _ _ _ _ _ _ _ (test_there _ _ _ _ c.requires.viewed _ _ (sym c.node_at.ensures ∙ c.in-Select.is) _ c.block_scope-s.ensures) (test_left _ _ _ _ c.requires.viewed _ _ (sym c.node_at.ensures ∙ c.in-Select.is) _ c.block_scope-s.ensures _ _ c.requires.left_view) c.end_in-first.ensures c.write_noted.ensures) (fits_after c.write_where_test.ensures (fits_after c.write_tests.ensures (fits_after c.table_recs.ensures (fits_after c.put.ensures.bytes (fits_after c.header.ensures.bytes (fits_as (file_bytes _ _ _ _ c.requires.viewed _ _ (sym c.node_at.ensures ∙ c.in-Select.is) _ c.block_scope-s.ensures _ _ c.requires.count_value (left_end _ _ _ _ _ _ _ _ _ (test_there _ _ _ _ c.requires.viewed _ _ (sym c.node_at.ensures ∙ c.in-Select.is) _ c.block_scope-s.ensures) (test_left _ _ _ _ c.requires.viewed _ _ (sym c.node_at.ensures ∙ c.in-Select.is) _ c.block_scope-s.ensures _ _ c.requires.left_view) c.end_in-first.ensures)) c.requires.room))))))) }

pub returns : goal.returns
returns c = writes_as (sym (file_bytes _ _ _ _ c.requires.viewed _ _ (sym c.node_at.ensures ∙ c.in-Select.is) _ c.block_scope-s.ensures _ _ c.requires.count_value (left_end _ _ _ _ _ _ _ _ _ (test_there _ _ _ _ c.requires.viewed _ _ (sym c.node_at.ensures ∙ c.in-Select.is) _ c.block_scope-s.ensures) (test_left _ _ _ _ c.requires.viewed _ _ (sym c.node_at.ensures ∙ c.in-Select.is) _ c.block_scope-s.ensures _ _ c.requires.left_view) c.end_in-first.ensures))) (writes_then c.header.ensures.bytes (writes_then c.put.ensures.bytes (writes_then c.table_recs.ensures (writes_then c.write_tests.ensures (writes_then c.write_where_test.ensures (writes_then (left_done _ _ _ _ _ _ _ _ _ (test_there _ _ _ _ c.requires.viewed _ _ (sym c.node_at.ensures ∙ c.in-Select.is) _ c.block_scope-s.ensures) (test_left _ _ _ _ c.requires.viewed _ _ (sym c.node_at.ensures ∙ c.in-Select.is) _ c.block_scope-s.ensures _ _ c.requires.left_view) c.end_in-first.ensures c.write_noted.ensures) c.write_pairs.ensures))))))
