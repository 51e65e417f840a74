use Rattle.std.proofs.Common.{[], map, refl, ◌∙◌}
use Rattle.reach_cert.specs.Certs.{row_of}
use Rattle.reach_cert.specs.Machine.{Inside}
use Rattle.reach_cert.proofs.Steps.{later_both, fewer_later, carried, if_err}
use Rattle.reach_cert.proofs.reading.read_shown.Goals as goal

pub returns-in_err-cells-clause-fault : goal.returns-in_err-cells-clause-fault
returns-in_err-cells-clause-fault c = if_err _ _ _ c.from_residual.ensures.1 c.in_err-cells.ensures.fault

pub returns-in_err-held-clause-fault : goal.returns-in_err-held-clause-fault
returns-in_err-held-clause-fault c =
    if_err _ _ _ c.from_residual-in_err-held.ensures.1
    (λ slots. carried (Inside slots c.args.name []) (Inside slots c.args.name (map row_of c.in_ok-cells.cells.items)) c.args.lines.now c.read_cells.new.lines (c.in_ok-cells.ensures.read slots) _ c.in_ok-cells.ensures.later
    (c.in_err-held.ensures.fault slots c.args.name (map row_of c.in_ok-cells.cells.items) c.in_ok-cells.ensures.none))

pub returns-clause-widget : goal.returns-clause-widget
returns-clause-widget c =
    record {
      named = refl;
      read = λ slots. c.in_ok-cells.ensures.read slots ∙ c.in_ok-held.ensures.read slots c.args.name (map row_of c.in_ok-cells.cells.items) c.in_ok-cells.ensures.none;
      later = later_both _ _ _ c.in_ok-cells.ensures.later (fewer_later _ _ c.in_ok-held.ensures.later);
    }
