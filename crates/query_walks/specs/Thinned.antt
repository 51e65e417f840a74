-- Filters that are left out.
use Rattle.std.specs.Prelude.{◌≡◌, ℕ, ◌<◌, ◌≤◌, ◌-◌, ◌/◌, Bool, true, false, not, List, [], ◌∷◌, ◌++◌, length, min, nat_lt, if◌then◌else◌, Option}
use Rattle.std.specs.List.{list_any}
use Rattle.std.specs.Str.{bytes_eq}
use Rattle.query_grammar.specs.declared.query.Filter.TheVariants as on_node
use Rattle.query_grammar.specs.declared.query.ListFilter.TheVariants as on_list
use Rattle.query_grammar.specs.declared.query.StepFilter.{StepFilter}
use Rattle.query_grammar.specs.declared.query.StepFilter.TheVariants as kind
use Rattle.query_grammar.specs.Filters.{Look}
use Rattle.query_grammar.specs.Finds.{filtered, all_filtered}
use Rattle.query_grammar.specs.Spelled.{filters_of, AreFilters}

-- filters keep the same nodes as others, of every list of at most so many
abbrev pub KeepSame : ℕ → List StepFilter → List StepFilter → Type 0
KeepSame most fs gs = (look : ℕ → Look) (focus : Option ℕ) (ns : List ℕ) → length ns ≤ most → all_filtered look focus gs ns ≡ all_filtered look focus fs ns

-- how many nodes a filter leaves at most, of at most so many
abbrev pub most_left : StepFilter → ℕ → ℕ
most_left (kind.Node f) most = most
most_left (kind.List on_list.First) most = min most 1
most_left (kind.List on_list.Rest) most = most - 1
most_left (kind.List on_list.Even) most = most - most / 2
most_left (kind.List on_list.Odd) most = most / 2

-- whether a filter keeps all that it left, where these are at most so many
abbrev pub keeps_again : StepFilter → ℕ → Bool
keeps_again (kind.Node f) most = true
keeps_again (kind.List on_list.First) most = not (nat_lt 1 most)
keeps_again (kind.List on_list.Rest) most = false
keeps_again (kind.List on_list.Even) most = not (nat_lt 1 most)
keeps_again (kind.List on_list.Odd) most = false

-- the filters of the units that are left keep of what a filter leaves, where that is at most so many, the same nodes as all filters of the units
pub record LeavesSame (us : List ℕ) (f : StepFilter) (most : ℕ) (left : List ℕ) : Type 0 where
  pub filters : AreFilters left
  pub fewer : length left < length us
  pub same : (look : ℕ → Look) (focus : Option ℕ) (ns : List ℕ) → length (filtered look focus f ns) ≤ most → all_filtered look focus (filters_of left) (filtered look focus f ns) ≡ all_filtered look focus (filters_of us) ns

-- whether a filter is to be tried: one on a class if the word is new, another one on nodes if the units that spell it are, and one that keeps the first node if there may be others
abbrev pub is_tried : StepFilter → ℕ → List (List ℕ) → List (List ℕ) → List ℕ → Bool
is_tried (kind.Node (on_node.Class w)) most classes seen us = not (list_any (bytes_eq w) classes)
is_tried (kind.Node f) most classes seen us = not (list_any (bytes_eq us) seen)
is_tried (kind.List on_list.First) most classes seen us = nat_lt 1 most
is_tried (kind.List on_list.Rest) most classes seen us = true
is_tried (kind.List on_list.Even) most classes seen us = nat_lt 1 most
is_tried (kind.List on_list.Odd) most classes seen us = true

-- the words of the filters on classes that were seen, with that of one more filter
abbrev pub classes_after : StepFilter → List (List ℕ) → List (List ℕ)
classes_after (kind.Node (on_node.Class w)) classes = if list_any (bytes_eq w) classes then classes else classes ++ w ∷ []
classes_after _ classes = classes

-- the units of the other filters on nodes that were seen, with those of one more filter
abbrev pub seen_after : StepFilter → List (List ℕ) → List ℕ → List (List ℕ)
seen_after (kind.Node (on_node.Class w)) seen us = seen
seen_after (kind.Node f) seen us = if list_any (bytes_eq us) seen then seen else seen ++ us ∷ []
seen_after (kind.List f) seen us = seen
