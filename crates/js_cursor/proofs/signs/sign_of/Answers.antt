use Rattle.js_tokens.proofs.Lies.{token_range}
use Rattle.js_cursor.proofs.signs.sign_of.Goals as goal

pub slice_bounds-spelling-count : goal.slice_bounds-spelling-count
slice_bounds-spelling-count c = (token_range _ _ c.requires).0

pub slice_bounds-spelling-start : goal.slice_bounds-spelling-start
slice_bounds-spelling-start c = (token_range _ _ c.requires).0

pub slice_bounds-spelling-end : goal.slice_bounds-spelling-end
slice_bounds-spelling-end c = (token_range _ _ c.requires).1
