use Rattle.std.proofs.Common.{◌≡◌, map, take, get_or}
use Rattle.page_check.proofs.contents.places_of.Given as goal

abbrev pub invariant-libs : goal.invariant-libs
invariant-libs l = l.all.items ≡ map (λ lib. get_or l.places lib 0) (take l.lib-index l.libs)
