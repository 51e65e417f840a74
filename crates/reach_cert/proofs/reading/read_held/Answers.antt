use Rattle.std.proofs.Common.{refl, sym, ap, ◌∙◌, codes}
use Rattle.std.specs.Prelude.{option_map}
use Rattle.reach_cert.specs.Machine.{Inside, first_text}
use Rattle.reach_cert.specs.Words.{behind}
use Rattle.reach_cert.proofs.Steps.{stopped, moved, held_taken, held_not, inside_none, one_read}
use Rattle.reach_cert.proofs.reading.read_held.Goals as goal

pub returns-in_default-clause-fault : goal.returns-in_default-clause-fault
returns-in_default-clause-fault c = λ slots name rows none.
    rw c.fault.ensures (stopped (Inside slots name rows) c.args.lines.now.number c.args.lines.now.lines refl (inside_none slots name rows (first_text c.args.lines.now.lines) none c.in_default.ensures))

pub returns-in_default-2-clause-fault : goal.returns-in_default-2-clause-fault
returns-in_default-2-clause-fault c = λ slots name rows none.
    rw c.fault-in_default-2.ensures (stopped (Inside slots name rows) c.args.lines.now.number c.args.lines.now.lines refl
    (held_not slots name rows (first_text c.args.lines.now.lines) _ none c.in-Some.ensures (ap (option_map (λ v. v.items)) (sym c.in_default-2.is) ∙ c.in_ok-held.ensures)))

pub returns-clause-read : goal.returns-clause-read
returns-clause-read c = λ slots name rows none.
    moved (Inside slots name rows) _ c.args.lines.now c.advance.new.self c.advance.ensures
    (held_taken slots name rows (first_text c.args.lines.now.lines) _ _ none c.in-Some.ensures (ap (option_map (λ v. v.items)) (sym c.in-Some-2.is) ∙ c.in_ok-held.ensures))

pub returns-clause-later : goal.returns-clause-later
returns-clause-later c = one_read (behind (codes "held")) c.args.lines.now c.advance.new.self _ c.in-Some.ensures c.advance.ensures
