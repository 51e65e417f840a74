-- Two pages that a query sees alike, but for the numbers of the nodes.
use Rattle.std.specs.Prelude.{◌≡◌, ℕ, List, true, map, Option, Some, None}
use Rattle.query_grammar.specs.Finds.{Sight, has_number, has_focus}

-- the nodes are all of the document
abbrev pub Stand : Sight → List ℕ → Type 0
Stand s ns = (n : ℕ) → has_number ns n ≡ true → has_number s.document n ≡ true

-- another number, if there is one
abbrev pub renumbered : (ℕ → ℕ) → Option ℕ → Option ℕ
renumbered f None = None
renumbered f (Some n) = Some (f n)

-- What stands at a node of the one page stands at the node of the other that f gives.
pub record AreAlike (s t : Sight) (f : ℕ → ℕ) (n : ℕ) : Type 0 where
  pub tag : (t.links.look (f n)).tag ≡ (s.links.look n).tag
  pub attributes : (name : List ℕ) → (t.links.look (f n)).attribute name ≡ (s.links.look n).attribute name
  pub children : t.links.children (f n) ≡ map f (s.links.children n)
  pub below : t.links.below (f n) ≡ map f (s.links.below n)
  pub parent : t.links.parent (f n) ≡ renumbered f (s.links.parent n)
  pub focus : has_focus t.focus (f n) ≡ has_focus s.focus n

-- The links of a document stay in it.
pub record IsWhole (s : Sight) : Type 0 where
  pub children : (n : ℕ) → has_number s.document n ≡ true → Stand s (s.links.children n)
  pub below : (n : ℕ) → has_number s.document n ≡ true → Stand s (s.links.below n)
  pub parent : (n m : ℕ) → has_number s.document n ≡ true → s.links.parent n ≡ Some m → has_number s.document m ≡ true

-- The document of t is that of s with the numbers that f gives, no two the same; and its nodes are alike.
pub record Renumbers (s t : Sight) (f : ℕ → ℕ) : Type 0 where
  pub document : t.document ≡ map f s.document
  pub distinct : (n m : ℕ) → has_number s.document n ≡ true → has_number s.document m ≡ true → f n ≡ f m → n ≡ m
  pub alike : (n : ℕ) → has_number s.document n ≡ true → AreAlike s t f n
