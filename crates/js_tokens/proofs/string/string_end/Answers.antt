use Rattle.std.proofs.Common.{◌≡◌, false, sym}
use Rattle.std.proofs.lemmas.Bool.{ne_eqb}
use Rattle.js_tokens.specs.Characters.{is_line_end}
use Rattle.js_tokens.proofs.Loops.{string_more}
use Rattle.js_tokens.proofs.string.string_end.Goals as goal

pub string-preserved : goal.string-preserved
string-preserved c =
    let in_line : is_line_end c.in-Some.c ≡ false = sym c.if-is_line_end.ensures in
    rw c.noted-bad.ensures (string_more _ _ _ c.in-Some.c _ c.in-Some.next _ _ c.in-Some.ensures.here c.in-Some.ensures.later (ne_eqb _ _ c.if-c-quote.false) in_line c.if-c-ne92.false c.in-Some-pair_end.ensures c.string.invariant)
