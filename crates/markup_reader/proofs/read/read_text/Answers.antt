use Rattle.std.proofs.Common.{◌+◌, ◌∙◌, arith, subst, sym}
use Rattle.std.proofs.lemmas.Grind.{common_steps}
use Rattle.markup_steps.specs.States.{state_of}
use Rattle.markup_reader.proofs.Reading.{Left, one_more, run_more, run_less, no_more, all_read, inside}
use Rattle.markup_reader.proofs.read.read_text.Goals as goal

pub take-requires : goal.take-requires
take-requires c = let h = inside c.args.text.now c.reading.left.rest.now c.next.new.self.rest.now (state_of c.reading.reader) c.reading.at c.in-Some.c c.reading.invariant c.in-Some.ensures.steps.0 in grind (arith, common_steps, h)

pub reading-preserved : goal.reading-preserved
reading-preserved c =
    let m = c.reading.at + c.len_utf8-at.result in
    let one = subst (λ n. Left c.args.text.now c.next.new.self.rest.now (state_of c.take.new.self) (c.reading.at + n)) (sym c.len_utf8-at.ensures.value)
    (one_more c.args.text.now c.reading.left.rest.now c.next.new.self.rest.now (state_of c.reading.reader) (state_of c.take.new.self) c.reading.at c.in-Some.c c.reading.invariant c.in-Some.ensures.steps.0 c.in-Ok.ensures) in
    run_more c.args.text.now c.next.new.self.rest.now c.as_str-rest.result.now c.chars-left-in-Some.result.rest.now (state_of c.take.new.self) (state_of c.take_raw.new.self) m c.in_ok-run.run' one c.as_str-rest.ensures c.in_ok-run.ensures.boundary (c.in_ok-run.ensures.read m) (c.chars-left-in-Some.ensures.rest ∙ c.range_from.ensures.value)

pub reading-smaller : goal.reading-smaller
reading-smaller c = run_less c.reading.left.rest.now c.next.new.self.rest.now c.as_str-rest.result.now c.chars-left-in-Some.result.rest.now c.in-Some.c c.in_ok-run.run' c.in-Some.ensures.steps.0 c.as_str-rest.ensures (c.chars-left-in-Some.ensures.rest ∙ c.range_from.ensures.value)

pub returns-in-Err-Bad : goal.returns-in-Err-Bad
returns-in-Err-Bad c =
    no_more c.args.text.now c.reading.left.rest.now c.next.new.self.rest.now (state_of c.reading.reader) c.reading.at c.in-Some.c c.reading.invariant c.in-Some.ensures.steps.0 (c.in-Err-Bad.ensures c.in-Err-Bad.field-0-is)

pub returns : goal.returns
returns c = all_read c.args.text.now c.reading.left.rest.now (state_of c.reading.reader) c.reading.at c.reading.invariant c.in_default.ensures.steps.0.0
