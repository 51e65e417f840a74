use Rattle.std.proofs.Common.{arith, ◌++◌, ◌∙◌, ap, append_assoc, encode_utf8}
use Rattle.code_units.proofs.LossyChars.{utf8_of-step}
use Rattle.code_units.proofs.utf8.push_code_points.Goals as goal

pub loop-at-preserved : goal.loop-at-preserved
loop-at-preserved c =
    let more = c.in_ok-push_code_point.ensures.ok in
    let made = c.loop-at.invariant.front in
    record {
      order = omega (arith, c.loop-at.invariant.order, c.char_at-c.ensures.next.0);
      within = c.char_at-c.ensures.next.1;
      whole = utf8_of-step c.loop-at.out.items _ _ _ _ c.char_at-c.result.0 c.loop-at.invariant.whole more c.char_at-c.ensures.first;
      front = (made.0 ++ encode_utf8 c.char_at-c.result.0, more ∙ ap (λ xs. xs ++ encode_utf8 c.char_at-c.result.0) made.1 ∙ append_assoc c.args.out.now.items made.0 (encode_utf8 c.char_at-c.result.0));
    }
