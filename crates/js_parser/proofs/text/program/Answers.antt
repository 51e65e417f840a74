use Rattle.std.proofs.Common.{refl}
use Rattle.std.proofs.lemmas.Result.{err_from_is_err_and}
use Rattle.js_parser.proofs.Answered.{ready_first, stops_of, program_other, program_end}
use Rattle.js_parser.proofs.text.program.Goals as goal

pub statements-requires : goal.statements-requires
statements-requires c = ready_first _ _ c.requires.some c.requires.short c.requires.none

pub returns-in_err-list : goal.returns-in_err-list
returns-in_err-list c =
    let p = err_from_is_err_and c.from_residual.result c.from_residual.ensures.1 in
    rw (p.1, p.2) (stops_of _ _ c.in_err-list.ensures)

pub returns-in_default : goal.returns-in_default
returns-in_default c = program_other _ _ _ _ _ c.in_ok-list.ensures _ c.peek.ensures.here c.in_default.not-End

pub returns : goal.returns
returns c = program_end _ _ _ _ _ c.in_ok-list.ensures c.in-End.ensures.here (c.in-End.ensures.end refl)
