use Rattle.std.proofs.lemmas.List.{get_or_default}
use Rattle.js_cursor.proofs.Kept.{texts_more}
use Rattle.js_cursor.proofs.texts.texts_of.Goals as goal

pub loop-token-preserved : goal.loop-token-preserved
loop-token-preserved c =
    let adds = c.in_ok-place.ensures in
    rw c.in_ok-push.ensures.items (texts_more c.args.bytes.now c.args.tokens.now c.loop-token.token-index _ c.loop-token-test.true (get_or_default c.args.tokens.now c.loop-token.token-index _ _ c.loop-token-test.true) _ _ c.loop-token.invariant c.in_ok-place.place _ adds)
