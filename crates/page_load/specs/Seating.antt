-- A life that is ready comes into its place.
use Rattle.std.specs.Prelude.{◌≡◌, ℕ, ◌≤◌, ◌^◌, List, None, Some, length, slice_set}
use Rattle.plain_tree.specs.Trees.{PlainTrees}
use Rattle.page_tree.specs.Pages.{nodes}
use Rattle.page_image.specs.Image.{root_of}
use Rattle.page_build.specs.Homes.{IsHome}
use Rattle.page_build.specs.Layout.{IsLot, lot_of}
use Rattle.page_build.specs.Standing.{IsSpare}
use Rattle.slot_picks.specs.declared.lives.Lives.{Lives}
use Rattle.slot_picks.specs.declared.lives.Place.{Place}
use Rattle.slot_picks.specs.Places.{seen_at}
use Rattle.slot_picks.specs.Lives.{FewLives, FineLives, seens_of}
use Rattle.page_load.specs.declared.codes.Scripts.{Scripts}
use Rattle.page_load.specs.Lives.{IsBegun, IsIn, IsReady, IsUnborn}

-- What is so of the place of a life that came: its tree stands under nothing and was not there before, all lives are sound, and no other is seen otherwise.
pub record Seats (v : ℕ) (b : Place) (c d : Lives) : Type 0 where
  pub places : d.places.items ≡ slice_set c.places.items v b
  pub spare : IsSpare d.shared.page b.root
  pub fresh : length (nodes c.shared.page) ≤ b.root
  pub fine : FineLives d
  pub few : (n : ℕ) → 2 ^ 31 ≤ n → FewLives n c → FewLives n d
  pub seens : seens_of d ≡ slice_set (seens_of c) v (seen_at d.shared v b)

-- A life that is ready begins, and this tree is its widget's.
pub record SeatsLife (v : ℕ) (tree : PlainTrees) (a : Place) (c d : Lives) : Type 0 where
  pub place : Place
  pub seats : Seats v place c d
  pub slot : (to : ℕ) → IsIn to a → IsIn to place
  pub home : IsHome d.shared.page v tree
  pub root : root_of d.shared.page v ≡ Some place.root
  pub begun : (fuel : ℕ) (s : Scripts) → IsReady v fuel s a → IsBegun d.shared v fuel s place

-- The place of a refused life has an empty `div`.
pub record SeatsDiv (v to : ℕ) (name : List ℕ) (c d : Lives) : Type 0 where
  pub place : Place
  pub seats : Seats v place c d
  pub slot : IsIn to place
  pub unborn : IsUnborn place
  pub lot : IsLot d.shared.page (lot_of name None) place.root
