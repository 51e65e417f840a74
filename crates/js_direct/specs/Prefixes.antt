-- Prefix operators that need no more than a primitive.
use Rattle.std.specs.Prelude.{Bool, true, false}
use Rattle.js_tree.specs.declared.nodes.UnOp.{UnOp}
use Rattle.js_tree.specs.declared.nodes.UnOp.TheVariants as un

-- `!`, `+` and `-`
abbrev pub is_plain_prefix : UnOp → Bool
is_plain_prefix un.Not = true
is_plain_prefix un.Plus = true
is_plain_prefix un.Minus = true
is_plain_prefix _ = false
