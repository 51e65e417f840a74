use Rattle.std.proofs.Common.{◌≡◌, ◌∙◌, ℕ, ◌+◌, ap, length}
use Rattle.js_flow.specs.declared.frame.Argument.{Argument}
use Rattle.js_direct.proofs.Arguing.{waits_for}
use Rattle.js_direct.proofs.calls.wait_argument.Goals as goal

pub returns : goal.returns
returns c =
    let n = length c.args.args.now.items + 1 in
    let a : Argument = record { of = c.args.of.now; args = c.args.args.now; call = c.args.id; next = n; place = c.args.place.now } in
    let next : c.in-Some.next ≡ n = c.in-Some.ensures.1 ∙ ap (λ (k : ℕ). k + 1) (c.len.ensures.value ∙ ap (λ l. length l.items) c.replace-args.ensures.value) in
    let same : c.in_ok-new.field-0.value ≡ a = c.in_ok-new.ensures.ok ∙ (λ i. record { of = c.replace-of.ensures.value i; args = c.replace-args.ensures.value i; call = c.args.id; next = next i; place = c.args.place.now }) in
    waits_for c.wait.result c.args.run.now c.wait.new.run c.in_ok-new.field-0 a same c.wait.ensures.left c.wait.ensures.waits c.wait.ensures.next c.wait.ensures.units
