use Rattle.std.proofs.Common.{map, sym, ap, ◌∙◌}
use Rattle.reach_cert.specs.Certs.{Shown, row_of, slot_of}
use Rattle.reach_cert.specs.Walks.{slot_leaks, first_from}
use Rattle.reach_cert.proofs.confining.block_leak.Goals as goal

pub returns-in-Rows : goal.returns-in-Rows
returns-in-Rows c =
    c.shown_leak.ensures ∙ (λ i. first_from c.args.first (slot_leaks (Shown c.in-Rows.name (map row_of (c.deref.ensures.value i)) (c.deref-in-Rows.ensures.value i))))
    ∙ ap (λ b. first_from c.args.first (slot_leaks (slot_of b))) (sym c.in-Rows.is)
