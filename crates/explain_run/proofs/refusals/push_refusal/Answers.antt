use Rattle.std.proofs.Common.{◌++◌, refl, ap, ◌∙◌, append_assoc}
use Rattle.explain_run.specs.Text.{head}
use Rattle.explain_run.proofs.refusals.push_refusal.Goals as goal

pub returns : goal.returns
returns c =
    let front = head c.args.file.now c.args.rule c.args.at in
    let rest = c.in_ok-rest.rest.items in
    record {
      text = front ++ rest;
      is = record { rest = rest; is = refl };
      whole = c.in_ok-extend_from_slice.ensures.items ∙ ap (λ r. c.push_head.new.out.items ++ r) c.deref.ensures.value ∙ ap (λ o. o ++ rest) c.in_ok-push_head.ensures ∙ append_assoc c.args.out.now.items front rest;
    }
