use Rattle.std.proofs.Common.{◌≡◌, ◌≤◌, None}
use Rattle.life_laws.specs.Life.{Same, weight}
use Rattle.life_queue.specs.Lives.{life_seen}
use Rattle.life_queue.specs.Fine.{FineLife, KeepsLife, tally}
use Rattle.life_queue.proofs.queue.begin_turn.Given as goal

abbrev pub invariant-queue : goal.invariant-queue
invariant-queue l = record {
  rests : l.life.turn ≡ None;
  same : Same (life_seen l.initial.shared l.id.index l.initial.life) (life_seen l.shared l.id.index l.life);
  fine : FineLife l.shared l.id.index l.life;
  weighs : weight (life_seen l.shared l.id.index l.life) ≤ weight (life_seen l.initial.shared l.id.index l.initial.life);
  counted : tally l.shared l.id.index l.life ≤ tally l.initial.shared l.id.index l.initial.life;
  kept : KeepsLife l.id.index l.initial.shared l.shared l.initial.life l.life;
}

abbrev pub decreases-queue : goal.decreases-queue
decreases-queue l = weight (life_seen l.shared l.id.index l.life)
