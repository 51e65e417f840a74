-- What queries find on a page.
use Rattle.std.specs.Prelude.{◌≡◌, ℕ, List, Bool, true, Option}
use Rattle.code_units.specs.declared.owner.Owner.{Owner}
use Rattle.page_tree.specs.declared.page.Page.{Page}
use Rattle.page_tree.specs.Documents.{below, parent_within, document}
use Rattle.page_tree.specs.Entries.{Entry, at}
use Rattle.page_tree.specs.Pages.{nodes, root}
use Rattle.query_grammar.specs.declared.query.Hunter.{Hunter}
use Rattle.query_grammar.specs.declared.query.StepFilter.{StepFilter}
use Rattle.query_grammar.specs.Steps.{Step}
use Rattle.query_grammar.specs.Finds as query
use Rattle.query_grammar.specs.Finds.{Links, Sight, has_number}
use Rattle.query_walks.specs.Nodes.{look}

-- ## The links of a page

-- what a hunter sees of the page of a widget with this root
abbrev pub links : List Entry → Option ℕ → Links
links k r = record { look = look k; children = λ n. (at k n).children; below = below k; parent = parent_within k r }

-- an element with a tag
abbrev pub is_tagged : List Entry → List ℕ → ℕ → Bool
is_tagged k tag n = query.is_tagged (look k) tag n

-- an element with an `id`
abbrev pub has_id : List Entry → List ℕ → ℕ → Bool
has_id k w n = query.has_id (look k) w n

-- what a hunter finds from a start
abbrev pub hunted : List Entry → Option ℕ → Hunter → ℕ → List ℕ
hunted k r h n = query.hunted (links k r) h n

-- ## Document order

-- those that are among these nodes, in document order
abbrev pub in_order : List Entry → Option ℕ → Owner → List ℕ → List ℕ
in_order k r o ns = query.in_order (document k r o) ns

-- ## What a query finds

-- one filter
abbrev pub filtered : List Entry → Option ℕ → StepFilter → List ℕ → List ℕ
filtered k focus f ns = query.filtered (look k) focus f ns

-- filters one after the other
abbrev pub all_filtered : List Entry → Option ℕ → List StepFilter → List ℕ → List ℕ
all_filtered k focus fs ns = query.all_filtered (look k) focus fs ns

-- what a query sees of the page of an owner
abbrev pub sight : Page → Owner → Option ℕ → Sight
sight p o focus = record { links = links (nodes p) (root p o); document = document (nodes p) (root p o) o; focus = focus }

-- what a query finds from nodes of an owner
abbrev pub finds : Page → Owner → Option ℕ → List ℕ → List Step → List ℕ
finds p o focus ns q = query.finds (sight p o focus) ns q

-- the nodes are the owner's
abbrev pub AreOwned : Page → Owner → List ℕ → Type 0
AreOwned p o ns = (n : ℕ) → has_number ns n ≡ true → (at (nodes p) n).owner ≡ o
