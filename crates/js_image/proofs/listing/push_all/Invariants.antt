use Rattle.std.proofs.Common.{◌≡◌, ◌++◌, filter, take, not}
use Rattle.widget_meaning.specs.Properties.{is_listed}
use Rattle.js_image.proofs.listing.push_all.Given as goal

abbrev pub invariant-loop-name : goal.invariant-loop-name
invariant-loop-name l = l.names.items ≡ l.initial.names.items ++ filter (λ y. not (is_listed l.initial.names.items y)) (take l.name-index l.own.items)
