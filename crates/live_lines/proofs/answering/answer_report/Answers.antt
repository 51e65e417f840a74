use Rattle.std.proofs.Common.{List, ℕ, ap, ◌∙◌, ◌++◌}
use Rattle.live_lines.proofs.Replying.{reports_on}
use Rattle.live_lines.proofs.answering.answer_report.Goals as goal

pub returns : goal.returns
returns c = (
  c.in_ok-bytes.bytes.items,
  c.in_ok-extend_from_slice.ensures.items ∙ ap (λ (xs : List ℕ). c.args.out.now.items ++ xs) c.deref.ensures.value,
  reports_on c.args.session.now.page c.in_ok-bytes.bytes.items c.in_ok-bytes.ensures.live c.in_ok-bytes.ensures.replayed,
)
