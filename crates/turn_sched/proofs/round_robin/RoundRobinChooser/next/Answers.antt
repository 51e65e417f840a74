use Rattle.std.proofs.Common.{◌≡◌, List, [], ◌∷◌, ◌++◌, ap, slice_index, None, sym, subst, arith, ◌∙◌}
use Rattle.std.proofs.lemmas.Grind.{common_steps}
use Rattle.std.proofs.lemmas.Option.{slice_get-get_or}
use Rattle.turn_sched.specs.declared.chooser.Ask.{Ask}
use Rattle.turn_sched.specs.Asks.{IsAsk}
use Rattle.turn_sched.specs.Turns.{TakesNext, TakeTurns, last_taken}
use Rattle.turn_sched.proofs.Chosen.{takes_next}
use Rattle.turn_sched.proofs.Kept.{turns_more, last_more}
use Rattle.turn_sched.proofs.round_robin.RoundRobinChooser.next.Goals as goal

pub invariant_of-self : goal.invariant_of-self
invariant_of-self c =
    let ask : Ask = record { ready = c.flags_of.result; taken = slice_index c.args.ready.now c.next_after-at.result } in
    let asked : IsAsk c.args.ready.now c.next_after-at.result ask = record { flags = c.flags_of.ensures; taken = slice_get-get_or c.args.ready.now c.next_after-at.result 0 c.next_after-at.ensures.within } in
    let takes : TakesNext c.self.inside.last ask = takes_next c.self.inside.last c.args.ready.now c.next_after-at.result ask c.requires.rising c.requires.below c.next_after-at.ensures.value asked in
    let pushed : c.push.new.self.items ≡ c.self.inside.asks.items ++ ask ∷ [] = grind (arith, common_steps, c.push.ensures.items) in
    let goes_on : TakesNext (last_taken None c.self.inside.asks.items) ask = subst (λ last. TakesNext last ask) (c.self.invariant.1 c.if-self-gt0.true) takes in (
      subst (λ (asks : List Ask). TakeTurns None asks) (sym pushed) (turns_more None c.self.inside.asks.items ask c.self.invariant.0 goes_on),
      λ room. sym (ap (last_taken None) pushed ∙ last_more None c.self.inside.asks.items ask),
      omega (arith, c.self.invariant.2, c.push.ensures.len, c.push.ensures.capacity, c.push.ensures.upper_bound),
    )

pub returns-then-is_ok-clause-last : goal.returns-then-is_ok-clause-last
returns-then-is_ok-clause-last c = sym (slice_get-get_or c.args.ready.now c.next_after-at.result 0 c.next_after-at.ensures.within)

pub returns-then-is_ok-clause-kept : goal.returns-then-is_ok-clause-kept
returns-then-is_ok-clause-kept c = λ some. record {
  ask = record { ready = c.flags_of.result; taken = slice_index c.args.ready.now c.next_after-at.result };
  asked = record { flags = c.flags_of.ensures; taken = slice_get-get_or c.args.ready.now c.next_after-at.result 0 c.next_after-at.ensures.within };
  kept = grind (arith, common_steps, c.push.ensures.items, c.self.view_is);
}

pub returns-else-self-gt0-clause-last : goal.returns-else-self-gt0-clause-last
returns-else-self-gt0-clause-last c = sym (slice_get-get_or c.args.ready.now c.next_after-at.result 0 c.next_after-at.ensures.within)

pub returns-then-is_ok-clause-last_kept : goal.returns-then-is_ok-clause-last_kept
returns-then-is_ok-clause-last_kept c = λ some.
    let ask : Ask = record { ready = c.flags_of.result; taken = slice_index c.args.ready.now c.next_after-at.result } in
    let pushed : c.push.new.self.items ≡ c.self.inside.asks.items ++ ask ∷ [] = grind (arith, common_steps, c.push.ensures.items) in
    sym (ap (last_taken None) pushed ∙ last_more None c.self.inside.asks.items ask)
