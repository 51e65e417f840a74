use Rattle.std.proofs.Common.{◌≡◌, drop}
use Rattle.serde_json.specs.View.{items_view, members_view}
use Rattle.json_text.specs.Weights.{items_weight, members_weight, plus}
use Rattle.json_text.proofs.weighing.+weighing.Given as goal

abbrev pub invariant-weigh_items-loop-item : goal.invariant-weigh_items-loop-item
invariant-weigh_items-loop-item l = plus l.sum (items_weight (items_view (drop l.item-index l.item-items))) ≡ plus l.initial.sum (items_weight (items_view l.item-items))

abbrev pub invariant-weigh_members-loop-key : goal.invariant-weigh_members-loop-key
invariant-weigh_members-loop-key l = plus l.sum (members_weight (members_view l.key-iterator)) ≡ plus l.initial.sum (members_weight (members_view l.members.entries))
