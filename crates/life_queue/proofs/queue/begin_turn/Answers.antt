use Rattle.std.proofs.Common.{sym, ◌∙◌, arith}
use Rattle.life_laws.proofs.Begins.{same_none}
use Rattle.life_queue.specs.Lives.{life_seen}
use Rattle.life_queue.proofs.Keeps.{keeps_both, keeps_life, keeps_queue, same_life}
use Rattle.life_queue.proofs.Queued.{begins_here, begins_none, no_turn, popped_counted, popped_fine, popped_lighter, popped_room, popped_same, popped_script}
use Rattle.life_queue.proofs.queue.begin_turn.Goals as goal

pub queue-init : goal.queue-init
queue-init c = record {
  rests = c.requires.rests;
  same = same_none (life_seen c.args.shared.now c.args.id.index c.args.life.now);
  fine = c.requires.fine;
  weighs = omega arith;
  counted = omega arith;
  kept = keeps_life c.args.id.index c.args.shared.now c.args.life.now c.args.life.now c.requires.fine.sound.holds (same_life c.args.life.now);
}

pub take_work-requires-clause-fine : goal.take_work-requires-clause-fine
take_work-requires-clause-fine c = popped_fine c.queue.shared c.args.id.index c.queue.life c.in-Some.work (record c.queue.life { queue = c.pop_front.new.self }) c.in-Some.ensures.items c.queue.invariant.rests c.queue.invariant.fine

pub take_work-requires-clause-script : goal.take_work-requires-clause-script
take_work-requires-clause-script c = popped_script c.queue.shared c.args.id.index c.queue.life c.in-Some.work (record c.queue.life { queue = c.pop_front.new.self }) c.in-Some.ensures.items c.queue.invariant.rests c.queue.invariant.fine

pub take_work-requires-clause-room : goal.take_work-requires-clause-room
take_work-requires-clause-room c =
    let room = popped_room c.queue.shared c.args.id.index c.queue.life c.in-Some.work (record c.queue.life { queue = c.pop_front.new.self }) c.in-Some.ensures.items c.queue.invariant.rests c.queue.invariant.fine in
    omega (arith, room, c.queue.invariant.fine.counts.room)

pub returns-in_err-take_work-clause-kept : goal.returns-in_err-take_work-clause-kept
returns-in_err-take_work-clause-kept c =
    keeps_both c.args.id.index c.args.shared.now c.queue.shared c.take_work.new.shared c.args.life.now (record c.queue.life { queue = c.pop_front.new.self }) c.take_work.new.life
    (keeps_queue c.args.id.index c.args.shared.now c.queue.shared c.args.life.now c.queue.life (record c.queue.life { queue = c.pop_front.new.self }) c.queue.invariant.kept) c.take_work.ensures.kept

pub returns-then-is_some-clause-kept : goal.returns-then-is_some-clause-kept
returns-then-is_some-clause-kept c =
    keeps_both c.args.id.index c.args.shared.now c.queue.shared c.take_work.new.shared c.args.life.now (record c.queue.life { queue = c.pop_front.new.self }) c.take_work.new.life
    (keeps_queue c.args.id.index c.args.shared.now c.queue.shared c.args.life.now c.queue.life (record c.queue.life { queue = c.pop_front.new.self }) c.queue.invariant.kept) c.take_work.ensures.kept

pub returns-then-is_some-clause-begun : goal.returns-then-is_some-clause-begun
returns-then-is_some-clause-begun c =
    let before = c.queue.invariant in
    begins_here c.queue.shared c.args.id.index c.queue.life c.in-Some.work (record c.queue.life { queue = c.pop_front.new.self }) c.in-Some.ensures.items before.rests before.fine c.take_work.new.shared c.take_work.new.life c.in_ok-take_work.ensures.taken
    c.args.shared.now c.args.life.now before.same before.weighs before.counted (sym c.is_some.ensures ∙ c.if-is_some.true)

pub queue-smaller : goal.queue-smaller
queue-smaller c =
    let before = c.queue.invariant in
    popped_lighter c.queue.shared c.args.id.index c.queue.life c.in-Some.work (record c.queue.life { queue = c.pop_front.new.self }) c.in-Some.ensures.items before.rests before.fine c.take_work.new.shared c.take_work.new.life c.in_ok-take_work.ensures.taken

pub queue-preserved : goal.queue-preserved
queue-preserved c =
    let h = c.queue.shared in
    let a = c.queue.life in
    let before = c.queue.invariant in
    let t = c.in_ok-take_work.ensures.taken in
    let lighter = popped_lighter h c.args.id.index a c.in-Some.work (record c.queue.life { queue = c.pop_front.new.self }) c.in-Some.ensures.items before.rests before.fine c.take_work.new.shared c.take_work.new.life t in
    let counted = popped_counted h c.args.id.index a c.in-Some.work (record c.queue.life { queue = c.pop_front.new.self }) c.in-Some.ensures.items before.rests before.fine c.take_work.new.shared c.take_work.new.life t in
    record {
      rests = no_turn c.take_work.new.life.turn (sym c.is_some.ensures ∙ c.if-is_some.false);
      same = popped_same h c.args.id.index a c.in-Some.work (record c.queue.life { queue = c.pop_front.new.self }) c.in-Some.ensures.items before.rests before.fine c.take_work.new.shared c.take_work.new.life t (life_seen c.args.shared.now c.args.id.index c.args.life.now) before.same;
      fine = t.fine;
      weighs = omega (arith, lighter, before.weighs);
      counted = omega (arith, counted, before.counted);
      kept = keeps_both c.args.id.index c.args.shared.now h c.take_work.new.shared c.args.life.now (record a { queue = c.pop_front.new.self }) c.take_work.new.life
          (keeps_queue c.args.id.index c.args.shared.now h c.args.life.now a (record a { queue = c.pop_front.new.self }) before.kept) c.take_work.ensures.kept;
    }

pub returns-clause-begun : goal.returns-clause-begun
returns-clause-begun c =
    let before = c.queue.invariant in
    begins_none c.queue.shared c.args.id.index c.queue.life (record c.queue.life { queue = c.pop_front.new.self }) c.in_default.ensures.items c.in_default.ensures.rest before.rests before.fine
    c.args.shared.now c.args.life.now before.same before.counted
