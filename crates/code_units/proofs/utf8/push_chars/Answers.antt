use Rattle.std.proofs.Common.{◌∙◌, ◌++◌, ◌+◌, ap, sym, arith, drop, append_assoc}
use Rattle.std.specs.Char.Escape.{encode_utf16}
use Rattle.std.specs.Char.{len_utf8}
use Rattle.std.proofs.lemmas.Str.{IsCharBoundary-from_drop}
use Rattle.code_units.specs.Utf8.{units_of}
use Rattle.code_units.proofs.AsciiRuns.{char_pushed}
use Rattle.code_units.proofs.utf8.push_chars.Goals as goal

pub range_from-requires : goal.range_from-requires
range_from-requires c = λ _. IsCharBoundary-from_drop c.args.text.now c.loop-at.at c.loop-at.invariant.within c.loop-at.invariant.place

pub loop-at-preserved : goal.loop-at-preserved
loop-at-preserved c =
    let text = c.args.text.now in
    let at = c.loop-at.at in
    let char = c.in-Some.c in
    let one = char_pushed text _ at char c.loop-at.invariant.within c.loop-at.invariant.place (sym (c.chars.ensures.rest ∙ c.range_from.ensures.value) ∙ c.in-Some.ensures.steps.0) in
    rw c.len_utf8-at.ensures.value (record {
      order = omega (arith, one.later, c.loop-at.invariant.order);
      within = one.within;
      place = one.place;
      whole = ap (λ us. us ++ units_of (drop (at + len_utf8 char) text)) c.in_ok-push_char.ensures.ok
          ∙ append_assoc c.loop-at.units.items (encode_utf16 char) (units_of (drop (at + len_utf8 char) text))
          ∙ ap (λ us. c.loop-at.units.items ++ us) (sym one.units)
          ∙ c.loop-at.invariant.whole;
    })
