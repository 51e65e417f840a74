use Rattle.std.proofs.Common.{◌∙◌, sym}
use Rattle.std.proofs.lemmas.Iterator.{YieldsList-from_chars}
use Rattle.std.proofs.lemmas.Iterator.Consumers.{YieldsList-end}
use Rattle.std.proofs.lemmas.List.{map-id}
use Rattle.code_units.proofs.Utf8Laws.{units_of-read}
use Rattle.markup_steps.proofs.Raw.{ascii_units}
use Rattle.markup_steps.proofs.script.push_text.Goals as goal

pub returns-then-is_ascii : goal.returns-then-is_ascii
returns-then-is_ascii c = ascii_units c.push_ascii.result c.args.units.now.items c.push_ascii.new.units.items c.args.text.now c.as_bytes.result.now c.if-is_ascii.ensures.cases c.as_bytes.ensures.value c.push_ascii.ensures

pub returns : goal.returns
returns c =
    let read = YieldsList-end (YieldsList-from_chars c.args.text.now c.utf8.text cc) c.loop-c.yielded _ c.loop-c.yielded_by _ _ c.in-None.is c.next.ensures.steps in
    units_of-read c.args.text.now c.loop-c.yielded c.loop-c.units.items c.args.units.now.items (sym (map-id c.loop-c.yielded) ∙ read.0) c.loop-c.invariant
