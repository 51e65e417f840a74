use Rattle.std.proofs.Common.{true, false, arith}
use Rattle.js_tokens.proofs.Names.{word_found}
use Rattle.js_tokens.proofs.piece.word_piece.Goals as goal

pub returns-then-is_reserved : goal.returns-then-is_reserved
returns-then-is_reserved c =
    let e = c.run_end-end.ensures in
    (word_found c.args.text.now c.as_bytes.result.now c.args.at c.args.first c.args.next c.run_end-end.result true c.requires.place c.requires.first c.requires.letter e c.as_bytes.ensures.value c.if-is_reserved.ensures, omega (arith, e.later, c.requires.first.later), e.place)

pub returns-else-is_reserved : goal.returns-else-is_reserved
returns-else-is_reserved c =
    let e = c.run_end-end.ensures in
    (word_found c.args.text.now c.as_bytes.result.now c.args.at c.args.first c.args.next c.run_end-end.result false c.requires.place c.requires.first c.requires.letter e c.as_bytes.ensures.value c.if-is_reserved.ensures, omega (arith, e.later, c.requires.first.later), e.place)
