-- What a widget has is ordinary: texts of 16-bit units, and numbers within the numbers. So the laws of JSON hold of its
-- states.
use Rattle.std.specs.Prelude.{◌≡◌, ℕ, ◌+◌, ◌≤◌, List, []}
use Rattle.std.specs.List.{AllByRecursion}
use Rattle.plain_tree.specs.Trees.{size, height}
use Rattle.widget_meaning.specs.Limits.{max_nesting, max_node_depth}
use Rattle.widget_meaning.specs.Values.{Value}
use Rattle.widget_meaning.specs.OwnState.{OwnState, State, cell_at}
use Rattle.widget_meaning.specs.Plan.{Job}
use Rattle.widget_meaning.specs.Meaning.{meaning}
use Rattle.widget_meaning.specs.Items.{Item}
use Rattle.widget_meaning.specs.Alone.{Content, alone, alone_from}
use Rattle.widget_meaning.specs.JsonTexts.{Wrote, value_text}
use Rattle.widget_meaning.specs.JsonLaws.{AreOrdinary, Back}
use Rattle.widget_meaning.specs.JsonBack.{HasWholeNames, Returns}
use Rattle.meaning_laws.specs.Texts.{ContentHasTexts, ItemHasTexts}
use Rattle.meaning_laws.specs.There.{HasOrdinaryValues, ValueIs, JobIs, OfEnd, told_sizes}

-- so it is after each job, and of what the job ends with; and at any time, where the scripts, the subtree and the events
-- that the widget is given have texts. Then the names of each object and their values are ordinary, as the laws of JSON
-- ask of a state
pub record OrdinaryLaws : Type 0 where
  pub jobs : (j : Job) (s : State) (g : ℕ) → HasOrdinaryValues s.own → JobIs (told_sizes s.own) j
      → HasOrdinaryValues (meaning j s g).state.own
  pub ends : (j : Job) (s : State) (g : ℕ) → HasOrdinaryValues s.own → JobIs (told_sizes s.own) j
      → OfEnd (told_sizes (meaning j s g).state.own) (meaning j s g).how
  pub kept : (o : OwnState) (is : List Item) → HasOrdinaryValues o → AllByRecursion ItemHasTexts is
      → HasOrdinaryValues (alone_from o is)
  pub whole : (w : Content) (grant : ℕ) (is : List Item) → 1 ≤ size w.root → height w.root ≤ max_node_depth + 1
      → ContentHasTexts w → AllByRecursion ItemHasTexts is → HasOrdinaryValues (alone w grant is)
  pub ordinary : (s : State) (n : ℕ) → HasOrdinaryValues s.own → AreOrdinary (cell_at s n).pairs

-- ## JSON

-- in such a state each value that it may hold, and that `toJson` writes, has a tree, and the text is read back as it; and
-- where no name has a lone surrogate, which no state promises, `fromJson` of the text gives objects of the same tree
pub record JsonStateLaws : Type 0 where
  pub written : (s : State) (v : Value) (t : List ℕ) → HasOrdinaryValues s.own → ValueIs (told_sizes s.own) v
      → value_text max_nesting s v [] ≡ Wrote t → Back s v t
  pub returns : (s : State) (v : Value) (t : List ℕ) → HasOrdinaryValues s.own → ValueIs (told_sizes s.own) v
      → ((n : ℕ) → HasWholeNames (cell_at s n).pairs)
      → value_text max_nesting s v [] ≡ Wrote t → Returns s v t
