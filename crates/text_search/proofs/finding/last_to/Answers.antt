use Rattle.std.proofs.Common.{◌+◌, ◌-◌, ◌<◌, length, get_or, arith}
use Rattle.text_search.specs.Borders.{Agrees, IsBorder}
use Rattle.text_search.proofs.Shifts.{last_found, moved, none_past}
use Rattle.text_search.proofs.Standing.{agrees_where}
use Rattle.text_search.proofs.finding.last_to.Goals as goal

pub returns-then-next-to : goal.returns-then-next-to
returns-then-next-to c =
    last_found c.args.t.now c.args.x.now c.args.to c.loop-next.place c.in-Some.next c.loop-next.last c.if-next-to.true c.loop-next.invariant.last c.in-Some.ensures.2

pub loop-next-preserved : goal.loop-next-preserved
loop-next-preserved c =
    let x = c.args.x.now in let t = c.args.t.now in let p = c.in-Some.next in let m = length x in
    let b = get_or c.args.borders.now (m - 1) 0 in
    let border : IsBorder x m b = c.requires.borders m c.requires.some (omega (arith, c.requires.all)) in
    let agrees : Agrees x t p m = agrees_where t x p c.in-Some.ensures.1.here in
    let less : b < m = border.shorter in
    record {
      whole = omega (arith, less);
      within = omega (arith, less, c.in-Some.ensures.1.within);
      agrees = moved x t p m b agrees border;
      last = (c.if-next-to.false, c.in-Some.ensures.1, none_past x t p m b agrees border (omega arith));
    }

pub returns : goal.returns
returns c =
    last_found c.args.t.now c.args.x.now c.args.to c.loop-next.place (length c.args.t.now + 1) c.loop-next.last (omega (arith, c.requires.inside)) c.loop-next.invariant.last c.in_default.ensures
