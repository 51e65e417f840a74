use Rattle.std.proofs.Common.{◌≡◌, ◌<◌, ◌++◌, ℕ, List, take}
use Rattle.plain_tree.specs.Plains.{unplaced_all}
use Rattle.plain_tree.specs.Trees.{PlainTrees}
use Rattle.js_tree.specs.Forest.{Forest}
use Rattle.js_image.specs.Held.{IsConfined}
use Rattle.object_store.specs.Owned.{owned}
use Rattle.page_build.specs.Homes.{HaveRaws, IsAway, IsHome}
use Rattle.page_build.specs.Layout.{IsLaidOut, IsLot, Lot, each_tree}
use Rattle.page_build.specs.Standing.{IsStanding}
use Rattle.page_load.proofs.laying.lay_markup.Given as goal

abbrev pub invariant-trees : goal.invariant-trees
invariant-trees l = record {
  away : (v : ℕ) → v < 32 → IsAway l.initial.page v → IsAway l.page v;
  home : (v : ℕ) (tree : PlainTrees) → v < 32 → IsHome l.initial.page v tree → IsHome l.page v tree;
  raws : HaveRaws l.initial.store l.initial.page → HaveRaws l.store l.page;
  kept : (lot : Lot) (n : ℕ) → IsLot l.initial.page lot n → IsLot l.page lot n;
  standing : (n : ℕ) → IsStanding l.initial.page n → IsStanding l.page n;
  same : (v : ℕ) → owned v l.store ≡ owned v l.initial.store;
  confined : (fs : List Forest) (v : ℕ) → IsConfined fs v l.initial.store → IsConfined fs v l.store;
  lots : (lots : List Lot) → IsLaidOut l.initial.page lots → IsLaidOut l.page (lots ++ each_tree (unplaced_all (take l.tree-index l.content)));
}
