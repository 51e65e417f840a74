-- What a host asks of a page that it loads, and of what a swap brings.
use Rattle.std.specs.Prelude.{◌≡◌, ◌<◌, ◌≤◌, ◌^◌, ℕ, Bool, List, [], ◌∷◌, All, map, length, nat_eq, ◌&&◌, sum_by, slice_get, Some}
use Rattle.std.specs.List.{IsDistinct, flat_map, range_with_len}
use Rattle.std.specs.Str.{bytes_eq}
use Rattle.js_tree.specs.Trees.{program_of}
use Rattle.plain_tree.specs.declared.plain.Plain.{Plain}
use Rattle.plain_tree.specs.Trees.{PlainTrees, End, size, height}
use Rattle.plain_tree.specs.Plains.{unplaced}
use Rattle.adsafe_rules.specs.declared.accepted.Accepted.{Accepted}
use Rattle.adsafe_rules.specs.declared.scope.Scope.TheVariants as scope
use Rattle.adsafe_rules.specs.Accepts.{tree_of}
use Rattle.adsafe_rules.specs.Program.{IsClean}
use Rattle.page_plan.specs.declared.Piece.{Piece}
use Rattle.page_plan.specs.declared.SlotContent.{SlotContent}
use Rattle.page_plan.specs.declared.SlotContent.TheVariants as slot
use Rattle.page_plan.specs.declared.SlotSpec.{SlotSpec}
use Rattle.page_plan.specs.declared.PageSpec.{PageSpec}
use Rattle.page_plan.specs.Pages.{PagePiece, Trees, Place, piece_of}

-- ## Numbers

-- the slots that a page may have
abbrev pub most_slots : ℕ
most_slots = 16

-- the fuel that a turn may have
abbrev pub most_fuel : ℕ
most_fuel = 1000000

-- how many nodes of a tree may stand one above the other: a node has at most 200 above it
abbrev pub most_high : ℕ
most_high = 201

-- the nodes that a widget may begin with
abbrev pub most_of_widget : ℕ
most_of_widget = 16384

-- the nodes that the markup of a page may have
abbrev pub most_of_page : ℕ
most_of_page = 262144

-- the channels that a page may have
abbrev pub most_channels : ℕ
most_channels = 64

-- ## Slots

-- a widget for a slot of this name, on a page with so many libraries
pub record IsLoadableWidget (many : ℕ) (name : List ℕ) (body : Plain) (places : List ℕ) (script : Accepted) : Type 0 where
  -- no node of its tree has too many above it
  pub low : height (unplaced body) ≤ most_high
  -- its tree has few enough nodes
  pub few : size (unplaced body) ≤ most_of_widget
  -- each library that it names is one of the page
  pub there : All (λ place. place < many) places
  -- its scripts can be numbered
  pub numbered : length places < 2 ^ 31
  -- its last script breaks no rule as the `ADSAFE.go` script of the slot
  pub clean : IsClean (program_of (tree_of script)) (scope.Go name)

-- a content for a slot of this name, on a page with so many libraries: of a swap, or of the page itself
abbrev pub IsSwapLoadable : ℕ → List ℕ → SlotContent → Type 0
IsSwapLoadable many name (slot.Runs body places script) = IsLoadableWidget many name body places.items script
IsSwapLoadable many name slot.Refused = Unit {0}

-- a slot of a page with so many libraries
pub record IsLoadableSlot (many : ℕ) (s : SlotSpec) : Type 0 where
  -- a turn has some fuel
  pub some : 1 ≤ s.fuel
  -- and not too much
  pub fuel : s.fuel ≤ most_fuel
  -- its content
  pub content : IsSwapLoadable many s.name s.content

-- what swaps bring, in order, each into the slot of its number, where slots have these names
pub data AreLoadableSwaps (many : ℕ) (names : List (List ℕ)) : List ℕ → List SlotContent → Type 0 where
  none : AreLoadableSwaps many names [] []
  more : {to : ℕ} {name : List ℕ} {content : SlotContent} {tos : List ℕ} {contents : List SlotContent} → slice_get names to ≡ Some name → IsSwapLoadable many name content → AreLoadableSwaps many names tos contents → AreLoadableSwaps many names (to ∷ tos) (content ∷ contents)

-- ## Pieces

-- the trees of a piece
abbrev pub trees_in : PagePiece → PlainTrees
trees_in (Trees trees) = trees
trees_in (Place number) = End

-- the number of a piece that is the place of a slot
abbrev pub numbers_in : PagePiece → List ℕ
numbers_in (Trees trees) = []
numbers_in (Place number) = number ∷ []

-- the pieces of a page with so many slots
pub record AreLoadablePieces (slots : ℕ) (pieces : List Piece) : Type 0 where
  -- each slot stands once among them, in order
  pub placed : flat_map (λ piece. numbers_in (piece_of piece)) pieces ≡ range_with_len 0 slots
  -- no node of the markup has too many above it
  pub low : All (λ piece. height (trees_in (piece_of piece)) ≤ most_high) pieces
  -- the markup has few enough nodes together
  pub few : sum_by (λ piece. size (trees_in (piece_of piece))) pieces ≤ most_of_page

-- ## Channels

-- two pairs are one channel
abbrev pub same_channel : ℕ × ℕ → ℕ × ℕ → Bool
same_channel a b = nat_eq a.0 b.0 && nat_eq a.1 b.1

-- a channel of a page with so many slots: from one of them to another
pub record IsLoadableChannel (slots : ℕ) (channel : ℕ × ℕ) : Type 0 where
  pub from : channel.0 < slots
  pub to : channel.1 < slots
  pub apart : ¬ (channel.0 ≡ channel.1)

-- the channels of a page with so many slots
pub record AreLoadableChannels (slots : ℕ) (channels : List (ℕ × ℕ)) : Type 0 where
  -- not too many
  pub few : length channels ≤ most_channels
  -- no two the same
  pub distinct : IsDistinct same_channel channels
  -- each between two slots
  pub each : All (IsLoadableChannel slots) channels

-- ## Pages

-- the names of the slots
abbrev pub names_of : PageSpec → List (List ℕ)
names_of spec = map (λ (s : SlotSpec). s.name) spec.slots.items

-- a page that a host may load
pub record IsLoadable (spec : PageSpec) : Type 0 where
  -- few enough slots
  pub few : length spec.slots.items ≤ most_slots
  -- no two of one name
  pub distinct : IsDistinct bytes_eq (names_of spec)
  -- each with its fuel and its content
  pub slots : All (IsLoadableSlot (length spec.libs.items)) spec.slots.items
  -- each library breaks no rule as a library
  pub libs : All (λ a. IsClean (program_of (tree_of a)) scope.Lib) spec.libs.items
  -- what stands between the slots
  pub pieces : AreLoadablePieces (length spec.slots.items) spec.pieces.items
  -- the channels
  pub channels : AreLoadableChannels (length spec.slots.items) spec.channels.items
