use Rattle.std.proofs.Common.{◌++◌, ◌∙◌, arith, append_assoc, ap, drop, sym}
use Rattle.std.proofs.lemmas.Result.{IfOk-weaker}
use Rattle.json_text.specs.Names.{inside}
use Rattle.json_text.proofs.Quoted.{inside_end}
use Rattle.json_text.proofs.Written.{too_long, write_last}
use Rattle.json_text.proofs.quoting.push_inside.Goals as goal

pub returns-then-is_too_long : goal.returns-then-is_too_long
returns-then-is_too_long c =
    let l = c.units in
    let close = c.args.close.now in
    let long = c.is_too_long.ensures c.if-is_too_long.true in
    too_long c.args.out.now.items (inside c.args.units.now ++ close) l.out.items (inside (drop l.at c.args.units.now) ++ close)
    (sym (append_assoc l.out.items (inside (drop l.at c.args.units.now)) close) ∙ ap (λ t. t ++ close) l.invariant ∙ append_assoc c.args.out.now.items (inside c.args.units.now) close) (omega (arith, long))

pub returns : goal.returns
returns c = IfOk-weaker c.push_word.result _ _ (λ p h.
    h ∙ write_last c.args.out.now.items (inside c.args.units.now) c.units.out.items (inside (drop c.units.at c.args.units.now)) c.args.close.now c.units.invariant (inside_end c.args.units.now c.units.at (omega (arith, c.units-test.false)))) c.push_word.ensures
