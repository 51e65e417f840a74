use Rattle.std.proofs.Common.{◌≡◌, ◌<◌, ℕ, List, IfOk, length, sym, subst, arith}
use Rattle.text_methods.proofs.PieceLists.{no_separator, some_separator}
use Rattle.text_methods.proofs.splitting.pieces.Goals as goal

pub returns-then-text_len-eq0 : goal.returns-then-text_len-eq0
returns-then-text_len-eq0 c =
    let none : length c.args.x ≡ 0 = omega (arith, c.text_len.ensures.exact, c.if-text_len-eq0.true) in
    subst (λ (l : List (List ℕ)). IfOk c.one_by_one.result (λ p. p.items ≡ l)) (sym (no_separator c.args.x c.args.t.now none)) c.one_by_one.ensures

pub returns : goal.returns
returns c =
    let some : 0 < length c.args.x = omega (arith, c.text_len.ensures.exact, c.if-text_len-eq0.false) in
    subst (λ (l : List (List ℕ)). IfOk c.pieces_between.result (λ p. p.items ≡ l)) (sym (some_separator c.args.x c.args.t.now some)) c.pieces_between.ensures
