use Rattle.js_tokens.proofs.Lies.{token_range}
use Rattle.js_cursor.proofs.Kept.{adds_spelled}
use Rattle.js_cursor.proofs.texts.place_of.Goals as goal

pub slice_bounds-spelling-count : goal.slice_bounds-spelling-count
slice_bounds-spelling-count c = (token_range _ _ c.requires).0

pub slice_bounds-spelling-start : goal.slice_bounds-spelling-start
slice_bounds-spelling-start c = (token_range _ _ c.requires).0

pub slice_bounds-spelling-end : goal.slice_bounds-spelling-end
slice_bounds-spelling-end c = (token_range _ _ c.requires).1

pub returns-then-is_kept : goal.returns-then-is_kept
returns-then-is_kept c = adds_spelled c.args.bytes.now c.args.token.now _ _ c.in-Some.found c.deref.ensures.value (c.is_shared.ensures c.if-not-is_shared.false) (c.is_kept.ensures c.if-is_kept.true)
