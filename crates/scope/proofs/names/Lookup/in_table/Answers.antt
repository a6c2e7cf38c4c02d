-- `scope::names::Lookup::in_table` meets its contract: past the last record, a table that the name can't mean, no column, one, or a second one too.
-- Assumes nothing.
use mathlib.Core.Path.{sym, ◌∙◌}
use Rattle.scope.proofs.Columns.{table_out, table_no, table_yes, column_none, column_one, column_more}
use Rattle.scope.proofs.names.Lookup.in_table.Goals as goal

pub returns-then-self-t : goal.returns-then-self-t
returns-then-self-t c = table_out _ _ _ _ _ c.if-self-t.true

pub returns-then-not-may_mean : goal.returns-then-not-may_mean
returns-then-not-may_mean c = table_no _ _ _ _ _ (sym c.may_mean.ensures ∙ c.if-not-may_mean.true)

pub returns-in_default : goal.returns-in_default
returns-in_default c = table_yes _ _ _ _ _ _ (sym c.may_mean.ensures ∙ c.if-not-may_mean.false) (column_none _ _ _ _ _ c.first_named.ensures c.in_default.is)

pub returns-in-Some-first_named : goal.returns-in-Some-first_named
returns-in-Some-first_named c =
    table_yes _ _ _ _ _ _ (sym c.may_mean.ensures ∙ c.if-not-may_mean.false) (column_more _ _ _ _ _ c.first_named.ensures _ c.in-Some.is _ c.first_named-2.ensures _ c.in-Some-first_named.is)

pub returns-in-None : goal.returns-in-None
returns-in-None c = table_yes _ _ _ _ _ _ (sym c.may_mean.ensures ∙ c.if-not-may_mean.false) (column_one _ _ _ _ _ c.first_named.ensures _ c.in-Some.is _ c.first_named-2.ensures c.in-None.is)
