-- Finds: the nodes that a walk by the steps of a query reaches, in document order and without repeats.
-- A node is a number.
use Rattle.std.specs.Prelude.{ℕ, ◌%◌, List, [], ◌∷◌, drop, take, map, Bool, ◌&&◌, ◌==◌, if◌then◌else◌, codes, nat_eq, Option, Some, None, option_to_list}
use Rattle.std.specs.List.{filter, flat_map, list_any, enumerate_from}
use Rattle.query_grammar.specs.declared.query.Filter.{Filter}
use Rattle.query_grammar.specs.declared.query.Hunter.{Hunter}
use Rattle.query_grammar.specs.declared.query.Hunter.TheVariants as hunter
use Rattle.query_grammar.specs.declared.query.ListFilter.{ListFilter}
use Rattle.query_grammar.specs.declared.query.ListFilter.TheVariants as on_list
use Rattle.query_grammar.specs.declared.query.StepFilter.{StepFilter}
use Rattle.query_grammar.specs.declared.query.StepFilter.TheVariants as kind
use Rattle.query_grammar.specs.Steps.{Step}
use Rattle.query_grammar.specs.Filters as node
use Rattle.query_grammar.specs.Filters.{Look, is_equal, keeps}

-- ## What a query sees of a page

-- the nodes and how they hang together
pub record Links : Type 0 where
  pub look : ℕ → Look
  pub children : ℕ → List ℕ
  -- all nodes below, in document order
  pub below : ℕ → List ℕ
  -- the node under which a node has siblings; a top has none
  pub parent : ℕ → Option ℕ

-- the nodes, all those of the widget in document order, and the one that has the focus
pub record Sight : Type 0 where
  pub links : Links
  pub document : List ℕ
  pub focus : Option ℕ

-- whether a number is among these
abbrev pub has_number : List ℕ → ℕ → Bool
has_number ns n = list_any (nat_eq n) ns

-- ## What a hunter finds from a start

-- no text
abbrev pub is_element : (ℕ → Look) → ℕ → Bool
is_element look n = node.is_element (look n)

-- an element with a tag
abbrev pub is_tagged : (ℕ → Look) → List ℕ → ℕ → Bool
is_tagged look tag n = is_element look n && node.has_tag (look n) tag

-- an element with an `id`
abbrev pub has_id : (ℕ → Look) → List ℕ → ℕ → Bool
has_id look w n = is_element look n && is_equal ((look n).attribute (codes "id")) w

-- what stands behind a number
abbrev pub after_number : ℕ → List ℕ → List ℕ
after_number n [] = []
after_number n (m ∷ ms) = if m == n then ms else after_number n ms

-- the next element among the children of a parent, if there is one
abbrev pub element_behind : Links → Option ℕ → ℕ → List ℕ
element_behind p None n = []
element_behind p (Some m) n = take 1 (filter (is_element p.look) (after_number n (p.children m)))

-- the next element among the siblings
abbrev pub next_element : Links → ℕ → List ℕ
next_element p n = element_behind p (p.parent n) n

-- what a hunter finds from a start
abbrev pub hunted : Links → Hunter → ℕ → List ℕ
hunted p (hunter.Tag tag) n = filter (is_tagged p.look tag) (p.below n)
hunted p (hunter.Id w) n = filter (has_id p.look w) (p.below n)
hunted p (hunter.Child tag) n = filter (is_tagged p.look tag) (p.children n)
hunted p (hunter.Next tag) n = filter (is_tagged p.look tag) (next_element p n)
hunted p hunter.Children n = filter (is_element p.look) (p.children n)
hunted p hunter.All n = filter (is_element p.look) (p.below n)

-- ## What a step keeps

-- those of a document that are among these nodes, in its order
abbrev pub in_order : List ℕ → List ℕ → List ℕ
in_order document ns = filter (has_number ns) document

-- whether a node has the focus
abbrev pub has_focus : Option ℕ → ℕ → Bool
has_focus focus n = has_number (option_to_list focus) n

-- whether a filter keeps a node
abbrev pub passes : (ℕ → Look) → Option ℕ → Filter → ℕ → Bool
passes look focus f n = keeps f (look n) (has_focus focus n)

-- the nodes at even places, from 0, or at odd ones
abbrev pub at_places : ℕ → List ℕ → List ℕ
at_places r ns = map (λ p. p.1) (filter (λ p. p.0 % 2 == r) (enumerate_from 0 ns))

-- a filter on the list
abbrev pub sifted : ListFilter → List ℕ → List ℕ
sifted on_list.First ns = take 1 ns
sifted on_list.Rest ns = drop 1 ns
sifted on_list.Even ns = at_places 0 ns
sifted on_list.Odd ns = at_places 1 ns

-- one filter
abbrev pub filtered : (ℕ → Look) → Option ℕ → StepFilter → List ℕ → List ℕ
filtered look focus (kind.Node f) ns = filter (passes look focus f) ns
filtered look focus (kind.List f) ns = sifted f ns

-- filters one after the other, each on the list so far
abbrev pub all_filtered : (ℕ → Look) → Option ℕ → List StepFilter → List ℕ → List ℕ
all_filtered look focus [] ns = ns
all_filtered look focus (f ∷ fs) ns = all_filtered look focus fs (filtered look focus f ns)

-- what a query finds from nodes: the result of a step is the starts of the next
abbrev pub finds : Sight → List ℕ → List Step → List ℕ
finds s ns [] = ns
finds s ns (q ∷ qs) = finds s (all_filtered s.links.look s.focus q.filters (in_order s.document (flat_map (hunted s.links q.hunter) ns))) qs
