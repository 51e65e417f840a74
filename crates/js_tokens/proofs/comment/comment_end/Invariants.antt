use Rattle.std.proofs.Common.{◌≡◌, ◌≤◌, ◌+◌, ◌-◌, length}
use Rattle.js_tokens.specs.Cursor.{from, IsPlace}
use Rattle.js_tokens.specs.Scan.{after_comment}
use Rattle.js_tokens.proofs.comment.comment_end.Given as goal

abbrev pub invariant-comment : goal.invariant-comment
invariant-comment l = record {
  later : l.at ≤ l.place;
  place : IsPlace l.text l.place;
  same : after_comment (from l.text l.at) ≡ after_comment (from l.text l.place);
}

abbrev pub decreases-comment : goal.decreases-comment
decreases-comment l = length l.text + 1 - l.place
