use Rattle.js_cursor.proofs.Listed.{labels_more}
use Rattle.js_cursor.proofs.names.labels.Goals as goal

pub labels-preserved : goal.labels-preserved
labels-preserved c = rw c.in_ok-push.ensures.items (labels_more _ _ _ _ c.labels.invariant c.if-is_label.ensures.which.0 c.if-is_label.ensures.which.1 c.if-is_label.ensures.which.2)
