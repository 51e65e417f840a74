use Rattle.std.proofs.Common.{sym, ◌∙◌}
use Rattle.query_text.proofs.Reading.{begins_filter, first_read, first_spelled, no_filters_in, none_bad, some_units}
use Rattle.query_text.proofs.read.first_filter.Goals as goal

pub filter_at-requires-clause-inside : goal.filter_at-requires-clause-inside
filter_at-requires-clause-inside c = some_units _ (sym c.is_empty.ensures ∙ c.if-is_empty.false)

pub filter_at-requires-clause-mark : goal.filter_at-requires-clause-mark
filter_at-requires-clause-mark c = begins_filter _ c.requires (some_units _ (sym c.is_empty.ensures ∙ c.if-is_empty.false))

pub unreachable-requires : goal.unreachable-requires
unreachable-requires c = none_bad c.args.units.now c.requires c.filter_at.result _ c.in-Err.is c.filter_at.ensures

pub returns-then-is_empty-clause-first : goal.returns-then-is_empty-clause-first
returns-then-is_empty-clause-first c = no_filters_in _ (sym c.is_empty.ensures ∙ c.if-is_empty.true)

pub returns-clause-first : goal.returns-clause-first
returns-clause-first c = first_read c.args.units.now c.requires c.filter_at.result _ c.in-Ok.is c.filter_at.ensures

pub returns-clause-spelled : goal.returns-clause-spelled
returns-clause-spelled c = first_spelled c.args.units.now c.requires c.filter_at.result _ c.in-Ok.is c.filter_at.ensures
