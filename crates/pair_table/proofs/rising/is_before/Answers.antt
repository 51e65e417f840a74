use Rattle.std.proofs.Common.{◌∙◌, ℕ, Some, ap, arith, sym}
use Rattle.pair_table.proofs.Places.{same_number}
use Rattle.pair_table.proofs.Rises.{false_true, key_get, not_same, some_same}
use Rattle.pair_table.proofs.rising.is_before.Goals as goal

pub returns-then-place-upto-clause-yes : goal.returns-then-place-upto-clause-yes
returns-then-place-upto-clause-yes g c = λ same.
    let es = c.args.list.now.items in
    let r = c.index.result.now in
    key_get es c.args.place r (omega (arith, c.if-place-upto.true, c.requires))
    ∙ ap (λ m. Some m) (ap (λ (e : ℕ × g.row.V.Denot). e.0) (sym c.index.ensures) ∙ same_number r.0 c.args.n same)

pub returns-then-place-upto-clause-no : goal.returns-then-place-upto-clause-no
returns-then-place-upto-clause-no g c = λ differs lt at.
    let es = c.args.list.now.items in
    let r = c.index.result.now in
    not_same r.0 c.args.n differs
    (ap (λ (e : ℕ × g.row.V.Denot). e.0) c.index.ensures ∙ some_same _ c.args.n (sym (key_get es c.args.place r (omega (arith, c.if-place-upto.true, c.requires))) ∙ at))

pub returns-else-place-upto-clause-yes : goal.returns-else-place-upto-clause-yes
returns-else-place-upto-clause-yes g c = λ same. absurd (false_true same)

pub returns-else-place-upto-clause-no : goal.returns-else-place-upto-clause-no
returns-else-place-upto-clause-no g c = λ differs lt at. absurd (omega (arith, lt, c.if-place-upto.false))
