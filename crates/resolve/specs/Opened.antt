-- The tables of a block that is open, and as the walk knows them.
-- Assumes nothing.
use Rattle.std.specs.Prelude.{List}
use Rattle.catalogue.specs.Tables.{Table, TabRef}
use Rattle.scope.specs.Table.{open_of}
use Rattle.scope.specs.Entry.{tables_in}
use Rattle.resolve.specs.Steps.{refs_to}
use Rattle.resolve.specs.declared.blocks.Opened.{Opened}

abbrev pub tables_of : Opened → List Table
tables_of o = tables_in (open_of o.cat.now o.nc o.own)

abbrev pub refs_of : Opened → List TabRef
refs_of o = refs_to (tables_in (open_of o.cat.now o.nc o.own))
