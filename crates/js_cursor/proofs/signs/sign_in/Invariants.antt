use Rattle.std.proofs.Common.{◌≡◌, map, drop}
use Rattle.js_cursor.specs.Signs.{look_up}
use Rattle.js_cursor.proofs.signs.sign_in.Given as goal

abbrev pub invariant-loop-word : goal.invariant-loop-word
invariant-loop-word l = look_up (map (λ row. (row.0.now, row.1)) l.table) l.spelling ≡ look_up (map (λ row. (row.0.now, row.1)) (drop l.word-index l.table)) l.spelling
