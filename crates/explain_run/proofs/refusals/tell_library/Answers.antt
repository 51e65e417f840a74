use Rattle.std.proofs.Common.{◌++◌, ap, ◌∙◌}
use Rattle.explain_run.specs.Text.{last_line}
use Rattle.explain_run.proofs.refusals.tell_library.Goals as goal

pub returns : goal.returns
returns c =
    let a = c.in_ok-refused.ensures in
    record {
      text = a.text;
      is = a.is;
      whole = c.in_ok-push_last.ensures ∙ ap (λ t. t ++ last_line c.in_ok-refused.refused) (a.whole ∙ ap (λ o. o ++ a.text) c.new-bytes.ensures.items);
    }
