use Rattle.std.proofs.Common.{ℕ, ◌+◌, ◌<◌, List, get_or, length, subst, sym}
use Rattle.js_tokens.specs.Cursor.{IsNext}
use Rattle.js_tokens.proofs.Cursors.{past_ascii}
use Rattle.js_tokens.proofs.cursor.char_at.Goals as goal

pub returns-then-bytes-at-lt128 : goal.returns-then-bytes-at-lt128
returns-then-bytes-at-lt128 c =
    let same = c.as_bytes-bytes.ensures.value in
    rw c.from.ensures (subst (λ (l : List ℕ). IsNext c.args.text.now c.args.at (get_or l c.args.at 0) (c.args.at + 1)) (sym same)
    (past_ascii c.args.text.now c.args.at c.requires (subst (λ (l : List ℕ). c.args.at < length l) same c.if-at-bytes.true) (subst (λ (l : List ℕ). get_or l c.args.at 0 < 128) same c.if-bytes-at-lt128.true)))
