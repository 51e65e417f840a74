use Rattle.std.proofs.Common.{◌≡◌, ℕ, ◌<◌, arith, ap, nat_lt, true}
use Rattle.std.proofs.lemmas.Bool.Decides.{nat_tests}
use Rattle.pair_table.specs.Pairs.{Pairs}
use Rattle.pair_table.specs.Storage.{pairs_in}
use Rattle.pair_table.specs.declared.table.Storage.{Storage}
use Rattle.pair_table.proofs.table.outgrows.Goals as goal

less : (m n : ℕ) → nat_lt m n ≡ true → m < n
less m n e = grind (arith, nat_tests, e)

pub returns-then-len-gt-MOST_FEW-clause-full : goal.returns-then-len-gt-MOST_FEW-clause-full
returns-then-len-gt-MOST_FEW-clause-full g c = λ is some.
    let few = ap (λ (s : Storage g.row.V.Denot). (pairs_in s).spare) c.in-Few.is in
    omega (arith, few, c.len-len.ensures.room, c.len-len.ensures.len, c.if-len-gt-MOST_FEW.true, some)

pub returns-else-len-gt-MOST_FEW-clause-full : goal.returns-else-len-gt-MOST_FEW-clause-full
returns-else-len-gt-MOST_FEW-clause-full g c = λ is some.
    let few = ap (λ (s : Storage g.row.V.Denot). (pairs_in s).spare) c.in-Few.is in
    omega (arith, few, c.len-len.ensures.room, c.len-len.ensures.len, less _ _ is)

pub returns-then-others-gt-MOST_FEW-clause-full : goal.returns-then-others-gt-MOST_FEW-clause-full
returns-then-others-gt-MOST_FEW-clause-full g c = λ is some.
    let rising = ap (λ (s : Storage g.row.V.Denot). (pairs_in s).spare) c.in-Rising.is in
    omega (arith, rising, ap (λ (p : Pairs g.row.V.Denot). p.spare) c.deref.ensures, c.others-others.ensures, c.if-others-gt-MOST_FEW.true, some)

pub returns-else-others-gt-MOST_FEW-clause-full : goal.returns-else-others-gt-MOST_FEW-clause-full
returns-else-others-gt-MOST_FEW-clause-full g c = λ is some.
    let rising = ap (λ (s : Storage g.row.V.Denot). (pairs_in s).spare) c.in-Rising.is in
    omega (arith, rising, ap (λ (p : Pairs g.row.V.Denot). p.spare) c.deref.ensures, c.others-others.ensures, less _ _ is)
