use Rattle.std.proofs.Common.{ℕ, ◌+◌, ◌*◌, ◌/◌, sym, ◌∙◌, subst, arith}
use Rattle.life_laws.proofs.Begins.{advance_begins, advance_passes}
use Rattle.life_queue.specs.declared.life.Work.TheVariants as work
use Rattle.life_laws.specs.Life.{Same}
use Rattle.life_queue.specs.Lives.{life_with, own_of, works_of}
use Rattle.life_queue.proofs.Keeps.{keeps_life, same_life}
use Rattle.life_queue.proofs.Passing.{takes_becomes, takes_passed}
use Rattle.life_queue.proofs.Rests.{no_stop, on_ok, stop_there}
use Rattle.life_queue.proofs.works.take_advance.Goals as goal

pub returns-then-is_some-clause-kept : goal.returns-then-is_some-clause-kept
returns-then-is_some-clause-kept c = keeps_life c.args.id.index c.args.shared.now c.args.life.now c.args.life.now c.requires.fine.sound.holds (same_life c.args.life.now)

pub returns-then-is_some-clause-taken : goal.returns-then-is_some-clause-taken
returns-then-is_some-clause-taken c =
    let h = c.args.shared.now in
    let a = c.args.life.now in
    let stop = stop_there a.records.stop (sym c.is_some.ensures ∙ c.if-is_some.true) in
    takes_passed h h c.args.id.index (work.Advance c.args.ms) a a c.requires.rests
    (advance_passes (own_of h c.args.id.index a) c.args.ms stop.0 (works_of h c.args.id.index a) stop.1)
    c.requires.fine (omega arith) (omega arith)

pub returns-then-clock-ms-clause-kept : goal.returns-then-clock-ms-clause-kept
returns-then-clock-ms-clause-kept c = keeps_life c.args.id.index c.args.shared.now c.args.life.now c.args.life.now c.requires.fine.sound.holds (same_life c.args.life.now)

pub returns-clause-taken : goal.returns-clause-taken
returns-clause-taken c =
    let h = c.args.shared.now in
    let a = c.args.life.now in
    on_ok c.take_until.result _ _
    (λ t. takes_becomes h h c.args.id.index (work.Advance c.args.ms) _ a c.take_until.new.life
    (subst (λ (n : ℕ). Same (life_with h c.args.id.index (work.Advance c.args.ms) a) (life_with h c.args.id.index (work.Until (64 * (c.args.ms / 10 + 2)) (n + c.args.ms)) a)) (sym c.clock-clock.ensures)
    (advance_begins (own_of h c.args.id.index a) c.args.ms (works_of h c.args.id.index a) (no_stop a.records.stop (sym c.is_some.ensures ∙ c.if-is_some.false)))) t (omega arith))
    c.take_until.ensures.taken
