use Rattle.std.proofs.Common.{map, sym, ap, ◌∙◌}
use Rattle.std.specs.Prelude.{option_map}
use Rattle.reach_cert.specs.declared.fault.CertFault.TheVariants as fault
use Rattle.reach_cert.specs.Certs.{row_of}
use Rattle.reach_cert.specs.Machine.{Inside, goes}
use Rattle.reach_cert.specs.Words.{cell_behind}
use Rattle.reach_cert.proofs.Steps.{later_none, later_both, fewer_later, one_read, row_taken, row_refused, none_numbered, carried}
use Rattle.reach_cert.proofs.reading.read_cells.Goals as goal

pub each-init : goal.each-init
each-init c = record { later = later_none c.args.lines.now; read = λ slots. ap (λ l. goes (Inside slots c.args.own.now (map row_of l)) c.args.lines.now.lines) (sym c.new-cells.ensures.items) }

pub each-preserved : goal.each-preserved
each-preserved c =
    let number = c.len.ensures ∙ c.each.cells.ok.0 in
    record {
      later = later_both _ _ _ c.each.invariant.later (fewer_later _ _ (one_read (cell_behind c.len.result) c.each.lines c.advance.new.self _ c.in-Some.ensures c.advance.ensures));
      read = λ slots. c.each.invariant.read slots ∙ row_taken c.args.own.now c.each.lines c.each.cells.items c.len.result _ number c.in-Some.ensures c.advance.new.self _ _ c.advance.ensures (ap (option_map row_of) (sym c.in-Some-2.is) ∙ c.in_ok-row.ensures) c.in_ok-push.ensures.items slots;
    }

pub each-smaller : goal.each-smaller
each-smaller c = (one_read (cell_behind c.len.result) c.each.lines c.advance.new.self _ c.in-Some.ensures c.advance.ensures).fewer

pub returns-in_default-2-clause-fault : goal.returns-in_default-2-clause-fault
returns-in_default-2-clause-fault c =
    let number = c.len.ensures ∙ c.each.cells.ok.0 in
    λ slots. rw c.fault.ensures (carried _ _ _ _ (c.each.invariant.read slots) (fault.BadCert c.each.lines.number) c.each.invariant.later
    (row_refused c.args.own.now c.each.lines c.each.cells.items c.len.result _ number c.in-Some.ensures (ap (option_map row_of) (sym c.in_default-2.is) ∙ c.in_ok-row.ensures) slots))

pub returns-clause-none : goal.returns-clause-none
returns-clause-none c = none_numbered c.each.lines c.each.cells.items c.len.result (c.len.ensures ∙ c.each.cells.ok.0) c.in_default.ensures
