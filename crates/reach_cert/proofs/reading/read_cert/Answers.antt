use Rattle.reach_cert.specs.Certs.{plain}
use Rattle.reach_cert.proofs.Exact.{read_spells, text_of, lines_few, fault_is, only_fault, only_cert, matched}
use Rattle.reach_cert.proofs.Steps.{ok_more, err_then}
use Rattle.reach_cert.proofs.reading.read_cert.Goals as goal

pub returns-clause-shape : goal.returns-clause-shape
returns-clause-shape c = ok_more c.read_all.result _ _ (λ cert read. (read_spells c.args.bytes.now (plain cert) read).shape) c.read_all.ensures.read

pub returns-clause-text : goal.returns-clause-text
returns-clause-text c = ok_more c.read_all.result _ _ (λ cert read. text_of c.args.bytes.now (plain cert) (read_spells c.args.bytes.now (plain cert) read)) c.read_all.ensures.read

pub returns-clause-lines : goal.returns-clause-lines
returns-clause-lines c = ok_more c.read_all.result _ _ (λ cert read. lines_few c.args.bytes.now (plain cert) (read_spells c.args.bytes.now (plain cert) read)) c.read_all.ensures.read

pub returns-clause-back : goal.returns-clause-back
returns-clause-back c = λ slots shape is.
    matched c.read_all.result _ _ _ _
    (λ cert read. only_cert c.args.bytes.now slots (plain cert) shape is (read_spells c.args.bytes.now (plain cert) read))
    (λ e refused. only_fault c.args.bytes.now slots e shape is refused)
    c.read_all.ensures.read c.read_all.ensures.fault

pub returns-clause-line : goal.returns-clause-line
returns-clause-line c = err_then c.read_all.result _ _ (λ e refused. fault_is c.args.bytes.now e refused) c.read_all.ensures.fault
