use Rattle.std.proofs.Common.{◌≡◌, ℕ, List, [], drop}
use Rattle.std.specs.BTreeSet.{contains}
use Rattle.std.specs.Ordering.{nat_cmp}
use Rattle.std.specs.Cmp.Lexicographic.{slice_cmp}
use Rattle.widget_meaning.specs.Properties.{is_listed}
use Rattle.widget_meaning.specs.Scopes.{distinct}
use Rattle.js_names.proofs.gathering.each_once.Given as goal

abbrev pub invariant-list : goal.invariant-list
invariant-list l = record {
  known : (t : List ℕ) → contains (slice_cmp nat_cmp) l.seen t ≡ is_listed l.names.items t;
  rest : distinct l.names.items (drop l.name-index l.list) ≡ distinct [] l.list;
}
