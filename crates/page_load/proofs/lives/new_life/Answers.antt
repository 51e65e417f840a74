use Rattle.std.proofs.Common.{refl}
use Rattle.page_load.proofs.lives.new_life.Goals as goal

pub returns-clause-new : goal.returns-clause-new
returns-clause-new c =
    let r = c.no_records-records.ensures in
    record {
      accepted = refl;
      granted = refl;
      blank = c.in_ok-widget.ensures;
      new = record { uncaught = r.uncaught; turns = r.turns; spent = r.spent; missed = r.missed; gone = r.gone; stop = r.stop; rests = refl };
    }
