use Rattle.std.proofs.Common.{◌≡◌, drop}
use Rattle.markup_rules.specs.Elements.{first_named}
use Rattle.markup_rules.proofs.items.first_named.Given as goal

abbrev pub invariant-attrs : goal.invariant-attrs
invariant-attrs l = first_named l.word l.attrs ≡ first_named l.word (drop l.attr-index l.attrs)
