use Rattle.std.proofs.Common.{◌++◌, ◌∙◌, ap, sym}
use Rattle.json.proofs.Printed.Strings.{escape_byte_plain}
use Rattle.json_text.proofs.quoting.push_escaped.Goals as goal

pub returns-then-is_plain : goal.returns-then-is_plain
returns-then-is_plain c =
    let h = c.is_plain.ensures c.if-is_plain.true in
    c.in_ok-push.ensures.items ∙ ap (λ l. c.args.out.now.items ++ l) (sym (escape_byte_plain c.args.unit h.0 h.1 h.2))
