-- `lines::line_end` meets its contract: the position is the first line end's, or there is none.
-- Assumes nothing.
use Rattle.std.proofs.Common.{rules, tests, eqb, refl, arith}
use Rattle.std.proofs.lemmas.Iterator.{YieldsList-from_slice}
use Rattle.std.proofs.lemmas.Iterator.Search.{position_from_yields_List}
use Rattle.lines.proofs.Laws.{end_found}
use Rattle.lines.proofs.line_end.Goals as goal

pub returns-in-Some : goal.returns-in-Some
returns-in-Some c =
    let found = position_from_yields_List (λ b. eqb b 10) _ _ _ c.position.ensures.ran (YieldsList-from_slice _ c.iter.ensures.rest) (λ x b q k. search (rules, tests)) in
    let here = rw c.in-Some.is at (end_found c.args.text.now c.args.at c.position.result c.requires _ refl found) in
    record { value = here.0; after = omega arith; inside = omega (arith, here.1) }

pub returns-in-None : goal.returns-in-None
returns-in-None c =
    let found = position_from_yields_List (λ b. eqb b 10) _ _ _ c.position.ensures.ran (YieldsList-from_slice _ c.iter.ensures.rest) (λ x b q k. search (rules, tests)) in
    let here = rw c.in-None.is at (end_found c.args.text.now c.args.at c.position.result c.requires _ refl found) in
    record { value = here; after = omega arith; inside = omega arith }
