-- The slots of a page, with the trees of their scripts.
use Rattle.std.specs.Prelude.{◌≡◌, ℕ, List, [], ◌∷◌, Option, None, Some, map, slice_get}
use Rattle.js_tree.specs.declared.tree.Tree.{Tree}
use Rattle.adsafe_rules.specs.declared.accepted.Accepted.{Accepted}
use Rattle.adsafe_rules.specs.Accepts.{tree_of}
use Rattle.js_names.specs.declared.code.Code.{Code}
use Rattle.js_names.specs.Code.{tree_in}
use Rattle.page_plan.specs.declared.SlotContent.{SlotContent}
use Rattle.page_plan.specs.declared.SlotContent.TheVariants as slot
use Rattle.page_plan.specs.declared.SlotSpec.{SlotSpec}
use Rattle.page_load.specs.declared.codes.Scripts.{Scripts}
use Rattle.page_load.specs.declared.codes.Start.{Start}

-- The scripts of a widget, over the trees of the libraries of its page.
pub record AreScriptsAt (ts : List Tree) (places : List ℕ) (script : Accepted) (s : Scripts) : Type 0 where
  pub libs : map (λ (c : Code). Some (tree_in c)) s.libs.items ≡ map (slice_get ts) places
  pub last : tree_in s.script ≡ tree_of script

-- the scripts of a slot; none of one that was refused
abbrev pub AreScripts : List Tree → SlotContent → Option Scripts → Type 0
AreScripts ts (slot.Runs body places script) (Some s) = AreScriptsAt ts places.items script s
AreScripts ts slot.Refused None = Unit {0}
AreScripts ts content scripts = ⊥

-- A slot with its scripts.
pub record IsStart (ts : List Tree) (slot : SlotSpec) (start : Start) : Type 0 where
  pub fuel : start.fuel ≡ slot.fuel
  pub scripts : AreScripts ts slot.content start.scripts

-- so it is with each slot, in order
abbrev pub AreStarts : List Tree → List SlotSpec → List Start → Type 0
AreStarts ts [] [] = Unit {0}
AreStarts ts (s ∷ ss) (a ∷ all) = IsStart ts s a × AreStarts ts ss all
AreStarts ts ss all = ⊥
