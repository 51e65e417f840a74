use Rattle.std.proofs.Common.{◌≡◌, ◌++◌, sym, subst}
use Rattle.std.specs.Prelude.{OnOk}
use Rattle.std.specs.List.{flat_map}
use Rattle.live_text.specs.Answer.{shown, entry_text, next_entry}
use Rattle.trace_text.proofs.Parts.{both_parts}
use Rattle.live_text.proofs.Texts.{entries_parts}
use Rattle.live_text.proofs.answer.push_entries.Goals as goal

pub returns : goal.returns
returns c =
    let first = c.in-Some.first.now in
    let rest = c.in-Some.rest.now in
    let old = c.args.out.now.items in
    let new = c.push_rest.new.out.items in
    subst (λ text. OnOk c.push_rest.result (new ≡ old ++ text)) (sym (entries_parts c.args.entries.now rest first c.in-Some.ensures.cases.0))
    (both_parts old c.push_entry.new.out.items new (entry_text (shown first.now)) (flat_map (λ e. next_entry (shown e.now)) rest) c.push_rest.result c.in_ok-push_entry.ensures c.push_rest.ensures)
