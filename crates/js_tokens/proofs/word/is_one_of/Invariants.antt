use Rattle.std.proofs.Common.{◌≡◌, take, false}
use Rattle.std.specs.List.{list_any}
use Rattle.std.specs.Str.{bytes_eq}
use Rattle.js_tokens.proofs.word.is_one_of.Given as goal

abbrev pub invariant-words : goal.invariant-words
invariant-words g l = list_any (bytes_eq l.word) (take l.w-index l.words) ≡ false
