use Rattle.std.proofs.Common.{◌≡◌, subst}
use Rattle.reach_cert.specs.Walks.{first_leak}
use Rattle.reach_cert.proofs.Exact.{read_spells, text_of, fault_is, only_fault, only_cert, matched}
use Rattle.reach_cert.proofs.Steps.{ok_more, err_then}
use Rattle.reach_cert.proofs.judging.judge.Goals as goal

pub returns-clause-judged : goal.returns-clause-judged
returns-clause-judged c =
    let bytes = c.args.bytes.now in
    ok_more c.judge_all.result _ _ (λ leak told. (told.0, (read_spells bytes told.0 told.2).shape, text_of bytes told.0 (read_spells bytes told.0 told.2), told.1)) c.judge_all.ensures.read

pub returns-clause-back : goal.returns-clause-back
returns-clause-back c =
    let bytes = c.args.bytes.now in
    λ slots shape is.
    matched c.judge_all.result _ _ _ _
    (λ leak told. subst (λ s. leak ≡ first_leak s) (only_cert bytes slots told.0 shape is (read_spells bytes told.0 told.2)) told.1)
    (λ e refused. only_fault bytes slots e shape is refused)
    c.judge_all.ensures.read c.judge_all.ensures.fault

pub returns-clause-line : goal.returns-clause-line
returns-clause-line c = err_then c.judge_all.result _ _ (λ e refused. fault_is c.args.bytes.now e refused) c.judge_all.ensures.fault
