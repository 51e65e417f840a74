use Rattle.std.proofs.Common.{◌≡◌, ◌++◌, drop, map}
use Rattle.std.specs.Prelude.{filter, codes}
use Rattle.markup_rules.specs.Elements.{is_named}
use Rattle.markup_rules.specs.Rows.{value_of}
use Rattle.widget_form.proofs.judge.list_ids.Given as goal

abbrev pub invariant-attrs : goal.invariant-attrs
invariant-attrs l = l.found.items ++ map value_of (filter (is_named (codes "id")) (drop l.attr-index l.attrs)) ≡ l.initial.found.items ++ map value_of (filter (is_named (codes "id")) l.attrs)
