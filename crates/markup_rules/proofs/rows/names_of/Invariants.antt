use Rattle.std.proofs.Common.{◌≡◌, take, map}
use Rattle.markup_rules.specs.Rows.{name_of}
use Rattle.markup_rules.proofs.rows.names_of.Given as goal

abbrev pub invariant-attrs : goal.invariant-attrs
invariant-attrs l = l.names.items ≡ map name_of (take l.attr-index l.attrs)
