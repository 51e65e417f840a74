use Rattle.std.proofs.Common.{◌≡◌, ◌++◌, take}
use Rattle.std.specs.List.{flat_map}
use Rattle.live_text.specs.Answer.{shown, next_entry}
use Rattle.live_text.proofs.answer.push_rest.Given as goal

abbrev pub invariant-entries : goal.invariant-entries
invariant-entries l = l.out.items ≡ l.fn.out.items ++ flat_map (λ e. next_entry (shown e.now)) (take l.entry-index l.entries)
