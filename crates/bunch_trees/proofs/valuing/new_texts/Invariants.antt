use Rattle.std.proofs.Common.{◌≡◌, ◌≤◌, take}
use Rattle.std.specs.List.{count_by}
use Rattle.widget_meaning.specs.BunchWrites.{has_new_text}
use Rattle.widget_meaning.specs.OwnState.{State}
use Rattle.page_image.specs.Image.{forest, number}
use Rattle.bunch_trees.proofs.valuing.new_texts.Given as goal

-- those of the nodes before
abbrev pub invariant-each : goal.invariant-each
invariant-each l = (l.many ≤ l.node-index) × ((s : State) → s.own.forest ≡ forest l.page l.w.index → l.many ≡ count_by (λ n. has_new_text s l.text (number l.page l.w.index n)) (take l.node-index l.nodes))
