use Rattle.std.proofs.Common.{◌++◌, ap, ◌∙◌}
use Rattle.page_play.proofs.Reporting.{audited}
use Rattle.reach_cert.specs.Certs.{cert_text, plain}
use Rattle.page_play.proofs.reports.certificate.Goals as goal

pub returns-clause-audit : goal.returns-clause-audit
returns-clause-audit c = λ spec swaps items runs files f p a.
    audited c.args.host.now (plain c.in_ok-reach.field-0) c.print_cert.new.out.items c.in_ok-reach.ensures.states (c.in_ok-print_cert.ensures.ok ∙ ap (λ l. l ++ cert_text (plain c.in_ok-reach.field-0)) c.new-bytes.ensures.items) spec swaps items runs files f p a

pub returns-clause-confined : goal.returns-clause-confined
returns-clause-confined c = (plain c.in_ok-reach.field-0, c.in_ok-print_cert.ensures.ok ∙ ap (λ l. l ++ cert_text (plain c.in_ok-reach.field-0)) c.new-bytes.ensures.items, c.in_ok-reach.ensures.confined)
