-- What stands under `body`: the nodes of the host's own markup, and in each slot one node; and how such a node is exchanged.
use Rattle.std.specs.Prelude.{◌≡◌, ◌≢◌, ℕ, ◌<◌, ◌≤◌, List, [], ◌∷◌, Bool, true, false, if◌then◌else◌, length, map, nat_eq, slice_get, slice_index_or, option_to_list, Option, Some, None}
use Rattle.std.specs.List.{flat_map}
use Rattle.std.specs.Option.{option_map}
use Rattle.code_units.specs.declared.owner.Owner.TheVariants as owner
use Rattle.page_nodes.specs.Adds.{Older}
use Rattle.page_nodes.specs.Entries.{at, body, tree}
use Rattle.page_nodes.specs.Owners.{same_owner}
use Rattle.page_tree.specs.declared.page.Page.{Page}
use Rattle.page_tree.specs.Pages.{nodes, root}
use Rattle.page_image.specs.Image.{forest, number, own, owns, root_of}
use Rattle.page_image.specs.Stays.{HostStays, KeepsNodes, OthersStay}
use Rattle.page_plan.specs.Pages.{PagePiece, Place, Trees}
use Rattle.page_build.specs.Layout.{IsLaidOut, IsLot, Lot, Spot, each_tree, lot_of}

-- ## One node

-- A node that stands under `body`.
pub record IsStanding (p : Page) (n : ℕ) : Type 0 where
  pub is_in : n < length (nodes p)
  pub under : (at (nodes p) n).parent ≡ Some body

-- a node is the host's, or the root of its owner
abbrev pub IsHostOrRoot : Page → ℕ → Type 0
IsHostOrRoot p n = same_owner (at (nodes p) n).owner owner.Host ≡ false → root p (at (nodes p) n).owner ≡ Some n

-- A tree that stands under nothing and may come under `body`: one of the host, or the root of its owner.
pub record IsSpare (p : Page) (n : ℕ) : Type 0 where
  pub is_in : n < length (nodes p)
  pub below : n ≢ body
  pub top : (at (nodes p) n).parent ≡ None
  pub only : IsHostOrRoot p n

-- children with one in the place of another
abbrev pub exchanged : ℕ → ℕ → List ℕ → List ℕ
exchanged n m ns = map (λ x. if nat_eq x n then m else x) ns

-- A spare tree comes in the place of a node under `body`, which then stands under nothing. Nothing else changes.
pub record Exchanges (p q : Page) (n m : ℕ) : Type 0 where
  pub made : length (nodes q) ≡ length (nodes p)
  pub owners : (x : ℕ) → (at (nodes q) x).owner ≡ (at (nodes p) x).owner
  pub label : (at (nodes q) body).label ≡ (at (nodes p) body).label
  pub children : (at (nodes q) body).children ≡ exchanged n m (at (nodes p) body).children
  pub parents : (x : ℕ) → (at (nodes q) x).parent ≡ (if nat_eq x n then None else (if nat_eq x m then Some body else (at (nodes p) x).parent))
  pub trees : (x : ℕ) → x ≢ body → tree (nodes q) x ≡ tree (nodes p) x

-- ## A tree comes that stands under nothing

-- A tree of a widget may come, whose root it then is. All older nodes stay as they are, and what the host and all other widgets have of the page.
pub record Joins (w : ℕ) (p q : Page) : Type 0 where
  pub older : Older (nodes p) (nodes q)
  pub owners : (v n : ℕ) → owns p v n ≡ true → owns q v n ≡ true
  pub numbers : (v n : ℕ) → owns p v n ≡ true → number q v n ≡ number p v n
  pub others : (v : ℕ) → v ≢ w → own q v ≡ own p v
  pub trees : OthersStay p q w
  pub roots : (v : ℕ) → v < 32 → v ≢ w → root_of q v ≡ root_of p v
  pub host : HostStays p q

-- A tree of the host may come. All older nodes stay as they are, and what all widgets have of the page.
pub record HostJoins (p q : Page) : Type 0 where
  pub older : Older (nodes p) (nodes q)
  pub kept : KeepsNodes p q
  pub trees : (v : ℕ) → v < 32 → forest q v ≡ forest p v

-- Nothing comes: all nodes stay as they are, and the roots.
pub record IsSamePage (p q : Page) : Type 0 where
  pub same : nodes q ≡ nodes p
  pub roots : (v : ℕ) → v < 32 → root_of q v ≡ root_of p v

-- ## All of them

-- a child of `body`: a node of the host's own markup, or what stands in the slot with a number
pub data Child : Type 0 where
  Fixed : ℕ → Child
  InSlot : ℕ → Child

-- the children, where these nodes stand in the slots
abbrev pub filled : List Child → List ℕ → List ℕ
filled [] spots = []
filled (Fixed n ∷ cs) spots = n ∷ filled cs spots
filled (InSlot w ∷ cs) spots = slice_index_or spots w body ∷ filled cs spots

-- whether a slot is among them
abbrev pub has_slot : ℕ → List Child → Bool
has_slot w [] = false
has_slot w (Fixed n ∷ cs) = has_slot w cs
has_slot w (InSlot u ∷ cs) = if nat_eq u w then true else has_slot w cs

-- each of so many slots is
abbrev pub HasSlots : ℕ → List Child → Type 0
HasSlots many cs = (w : ℕ) → w < many → has_slot w cs ≡ true

-- These nodes stand in the slots of a page.
pub record AreSpots (p : Page) (spots : List ℕ) : Type 0 where
  pub children : List Child
  pub slots : HasSlots (length spots) children
  pub are : (at (nodes p) body).children ≡ filled children spots

-- ## What stays

-- What the host has of a page stays, but that in its slots other nodes may stand: these before, and as many after. The children of `body` are else the same, in the same order, and so are the trees of the host's other nodes; a node that comes is none of its.
pub record HostPasses (p q : Page) (old new : List ℕ) : Type 0 where
  pub slots : length new ≡ length old
  pub made : length (nodes p) ≤ length (nodes q)
  pub owners : (n : ℕ) → n < length (nodes p) → (at (nodes q) n).owner ≡ (at (nodes p) n).owner
  pub label : (at (nodes q) body).label ≡ (at (nodes p) body).label
  pub order : (cs : List Child) → HasSlots (length old) cs → (at (nodes p) body).children ≡ filled cs old → (at (nodes q) body).children ≡ filled cs new
  pub trees : (n : ℕ) → n < length (nodes p) → n ≢ body → (at (nodes p) n).owner ≡ owner.Host → tree (nodes q) n ≡ tree (nodes p) n
  pub none_comes : (n : ℕ) → n < length (nodes q) → (at (nodes q) n).owner ≡ owner.Host → n < length (nodes p)

-- What stays of a page, whichever slot is picked: that, the owner and the number of each node, and the roots.
pub record PagePasses (p q : Page) (old new : List ℕ) : Type 0 where
  pub host : HostPasses p q old new
  pub owners : (v n : ℕ) → owns p v n ≡ true → owns q v n ≡ true
  pub numbers : (v n : ℕ) → owns p v n ≡ true → number q v n ≡ number p v n
  pub roots : (v : ℕ) → v < 32 → root_of q v ≡ root_of p v

-- ## A page of pieces

-- what a piece is, where these nodes stand in the slots
abbrev pub piece_spots : List ℕ → PagePiece → List Lot
piece_spots spots (Trees own) = each_tree own
piece_spots spots (Place w) = option_to_list (option_map Spot (slice_get spots w))

-- the page shows these pieces in order, and in its slots these nodes
abbrev pub IsLaidBy : Page → List ℕ → List PagePiece → Type 0
IsLaidBy p spots pieces = IsLaidOut p (flat_map (piece_spots spots) pieces)

-- nodes are what is to stand in slots of these names: the roots of these widgets, and where there is none an empty `div`
abbrev pub AreLotsOf : Page → List (List ℕ) → List (Option ℕ) → List ℕ → Type 0
AreLotsOf p [] [] [] = Unit {0}
AreLotsOf p (name ∷ names) (home ∷ homes) (n ∷ ns) = IsLot p (lot_of name home) n × AreLotsOf p names homes ns
AreLotsOf p _ _ _ = ⊥

-- whether a slot stands among them
abbrev pub has_place : ℕ → List PagePiece → Bool
has_place w [] = false
has_place w (Trees own ∷ pieces) = has_place w pieces
has_place w (Place u ∷ pieces) = if nat_eq u w then true else has_place w pieces

-- each of so many slots stands among these pieces
abbrev pub HavePlaces : ℕ → List PagePiece → Type 0
HavePlaces many pieces = (w : ℕ) → w < many → has_place w pieces ≡ true
