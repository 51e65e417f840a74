use Rattle.std.proofs.Common.{◌+◌, ◌-◌, ◌<◌, get_or, arith}
use Rattle.text_search.specs.Borders.{IsBorder}
use Rattle.text_search.proofs.Shifts.{found, joined, moved, none_past}
use Rattle.text_search.proofs.Standing.{differs}
use Rattle.text_search.proofs.finding.first_from.Goals as goal

pub loop-agreed-preserved-then-agreed-eq0 : goal.loop-agreed-preserved-then-agreed-eq0
loop-agreed-preserved-then-agreed-eq0 c =
    record {
      onward = omega arith;
      whole = omega arith;
      within = omega arith;
      agrees = λ j lt. absurd (omega (arith, lt, c.if-agreed-eq0.true));
      none = joined c.args.x.now c.args.t.now c.args.from c.loop-agreed.place (c.loop-agreed.place + 1) c.loop-agreed.invariant.none
          (differs c.args.t.now c.args.x.now c.loop-agreed.place c.loop-agreed.agreed c.loop-agreed-test.true c.if-x-agreed.false)
          (λ k more fewer. absurd (omega (arith, more, fewer)));
    }

pub loop-agreed-preserved : goal.loop-agreed-preserved
loop-agreed-preserved c =
    let x = c.args.x.now in let t = c.args.t.now in let p = c.loop-agreed.place in let q = c.loop-agreed.agreed in
    let b = get_or c.args.borders.now (q - 1) 0 in
    let border : IsBorder x q b = c.requires.borders q (omega (arith, c.if-agreed-eq0.false)) (omega (arith, c.loop-agreed-test.true, c.requires.all)) in
    let less : b < q = border.shorter in
    record {
      onward = omega arith;
      whole = omega (arith, less);
      within = omega (arith, less);
      agrees = moved x t p q b c.loop-agreed.invariant.agrees border;
      none = joined x t c.args.from p (p + (q - b)) c.loop-agreed.invariant.none
          (differs t x p q c.loop-agreed-test.true c.if-x-agreed.false)
          (none_past x t p q b c.loop-agreed.invariant.agrees border (omega arith));
    }

pub returns : goal.returns
returns c =
    (c.loop-agreed.invariant.onward, found c.args.x.now c.args.t.now c.loop-agreed.place c.loop-agreed.agreed c.loop-agreed-test.false c.loop-agreed.invariant.whole c.loop-agreed.invariant.within c.loop-agreed.invariant.agrees, c.loop-agreed.invariant.none)
