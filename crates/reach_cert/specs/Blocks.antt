-- What is known of blocks that were read, one after the other.
use Rattle.std.specs.Prelude.{◌≡◌, ℕ, List, [], ◌∷◌, ◌++◌, map}
use Rattle.std.specs.Borrow.{Bor}
use Rattle.reach_cert.specs.Certs.{Slot}
use Rattle.reach_cert.specs.Machine.{Between, Inside, goes, Ahead, Later, Fewer}
use Rattle.reach_cert.specs.Shape.{slot_name}

-- the bytes of slices
abbrev pub words_of : List (Bor (List ℕ)) → List (List ℕ)
words_of slices = map (λ s. s.now) slices

-- the lines of a widget were read that stand behind the one with its name
pub record IsWidget (name : List ℕ) (old new : Ahead) (slot : Slot) : Type 0 where
  pub named : slot_name slot ≡ name
  pub read : (slots : List Slot) → goes (Inside slots name []) old.lines ≡ goes (Between (slots ++ slot ∷ [])) new.lines
  pub later : Later old new

-- a block was read behind those of some names, to which its own was added
pub record IsBlock (names after : List (List ℕ)) (old new : Ahead) (slot : Slot) : Type 0 where
  pub after_is : after ≡ names ++ slot_name slot ∷ []
  pub read : (slots : List Slot) → names ≡ map slot_name slots → goes (Between slots) old.lines ≡ goes (Between (slots ++ slot ∷ [])) new.lines
  pub fewer : Fewer old new

-- the first blocks were read, which have these names
pub record AreBlocks (names : List (List ℕ)) (old new : Ahead) (slots : List Slot) : Type 0 where
  pub names_are : names ≡ map slot_name slots
  pub read : goes (Between []) old.lines ≡ goes (Between slots) new.lines
  pub later : Later old new
