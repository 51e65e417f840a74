use Rattle.std.proofs.Common.{◌≡◌, suc, ◌+◌, ap, subst, arith}
use Rattle.json.specs.Json.{no_items}
use Rattle.json.specs.Find.{NextItem}
use Rattle.json_lengths.specs.Lengths.{items_length}
use Rattle.json_lengths.proofs.counting.count.Goals as goal

pub items-init : goal.items-init
items-init c js is = (js, is, omega arith)

pub items-preserved : goal.items-preserved
items-preserved c js is =
    let now = c.items.invariant js is in
    let turn = c.in-Some.ensures.value now.0 now.1 in
    let count = now.2 in
    let more : items_length now.0 ≡ suc (items_length turn.1) = ap items_length turn.2 in
    let one : c.in_ok-length.length ≡ c.items.length + 1 = grind arith in
    (turn.1, turn.4, omega arith)

pub returns : goal.returns
returns c js is =
    let now = c.items.invariant js is in
    let done : now.0 ≡ no_items = subst (λ r. NextItem c.items.items r c.next.new.self) c.in_default.is c.next.ensures.value now.0 now.1 in
    let count = now.2 in
    let none : items_length now.0 ≡ 0 = ap items_length done in
    omega arith
