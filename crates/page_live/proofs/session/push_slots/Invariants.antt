use Rattle.std.proofs.Common.{◌≡◌, ◌++◌, map, take}
use Rattle.std.specs.List.{flat_map}
use Rattle.live_text.specs.Answer.{shown, slot_text}
use Rattle.page_live.proofs.session.push_slots.Given as goal

abbrev pub invariant-entries : goal.invariant-entries
invariant-entries l = l.out.items ≡ l.initial.out.items ++ flat_map slot_text (map shown (take l.entry-index l.entries))
