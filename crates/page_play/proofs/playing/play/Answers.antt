use Rattle.std.proofs.Common.{◌≡◌, ◌+◌, List, [], ◌∷◌, ◌++◌, None, length, map, drop, take, refl, ap, sym, subst, ◌∙◌, arith}
use Rattle.std.proofs.lemmas.Iterator.Adapters.{YieldsList-from_vec}
use Rattle.std.proofs.lemmas.Iterator.Consumers.{YieldsList-turn, YieldsList-end, YieldsList-so_far}
use Rattle.std.proofs.lemmas.List.{length-map, map-append}
use Rattle.trace_reader.specs.declared.item.TraceItem.{TraceItem}
use Rattle.trace_reader.specs.Said.{Said, said}
use Rattle.turn_sched.specs.Turns.{RoundState, TakeTurns}
use Rattle.slot_lives.specs.Lives.{swaps_in}
use Rattle.widget_host.specs.Rounds.{PassesRounds}
use Rattle.page_play.specs.Played.{begun_in, ended_in}
use Rattle.page_play.specs.Playing.{Plays}
use Rattle.page_play.proofs.Given.{plays_loaded}
use Rattle.page_play.proofs.Giving.{may_give, same_items, whole_swaps}
use Rattle.page_play.proofs.Ended.{has_played, has_settled}
use Rattle.page_play.proofs.playing.play.Goals as goal

pub items-init : goal.items-init
items-init c =
    let loads = c.in_ok-host.ensures in
    record {
      plays = plays_loaded c.args.spec c.args.swaps.items c.in_ok-host.host loads (c.loaded_lives.ensures.last c.args.spec c.in_ok-host.host loads) (c.loaded_lives.ensures.ended c.args.spec c.in_ok-host.host loads);
      left = c.from_vec-left.ensures.items;
    }

pub give-requires-clause-housed : goal.give-requires-clause-housed
give-requires-clause-housed c = c.items.invariant.plays.housed

pub give-requires-clause-unmarked : goal.give-requires-clause-unmarked
give-requires-clause-unmarked c = c.items.invariant.plays.unmarked

pub give-requires-clause-room : goal.give-requires-clause-room
give-requires-clause-room c =
    let gives = c.into_iter-item-iterator.ensures.into_iter_gives in
    let t = YieldsList-turn (YieldsList-from_vec c.args.items.items gives.0 (gives.1 ∙ c.args.items.ok.0)) c.items.yielded c.items.item-iterator c.items.yielded_by c.next.result c.next.new.self c.in-Some.item c.in-Some.is c.next.ensures.steps in
    omega (arith, c.items.invariant.plays.given, length-map c.items.yielded said, t.0, c.requires.few)

pub give-requires-clause-may : goal.give-requires-clause-may
give-requires-clause-may c =
    let gives = c.into_iter-item-iterator.ensures.into_iter_gives in
    let from = YieldsList-from_vec c.args.items.items gives.0 (gives.1 ∙ c.args.items.ok.0) in
    let t = YieldsList-turn from c.items.yielded c.items.item-iterator c.items.yielded_by c.next.result c.next.new.self c.in-Some.item c.in-Some.is c.next.ensures.steps in
    let front = same_items c.items.yielded (take (length c.items.yielded) c.args.items.items) (YieldsList-so_far from c.items.yielded c.items.item-iterator c.items.yielded_by) in
    may_give c.args.spec c.args.swaps.items c.args.items.items c.items.yielded c.items.left.items c.items.host c.requires.each c.requires.swaps c.requires.few_swaps front c.items.invariant.plays c.items.invariant.left c.in-Some.item t.0 t.1

pub items-preserved : goal.items-preserved
items-preserved c =
    let inv = c.items.invariant in
    let e = c.in_ok-give.ensures in
    let more : map said c.items.yielded ++ said c.in-Some.item ∷ [] ≡ map said (c.items.yielded ++ c.in-Some.item ∷ []) = sym (map-append said c.items.yielded (c.in-Some.item ∷ [])) in
    record {
      plays = subst (λ (its : List Said). Plays c.args.spec c.args.swaps.items its c.give.new.host) more (e.gives c.args.spec c.args.swaps.items (map said c.items.yielded) inv.left inv.plays);
      left = e.left c.args.swaps.items (map said c.items.yielded) inv.left ∙ ap (λ (its : List Said). drop (swaps_in its) c.args.swaps.items) more;
    }

pub rounds-requires-clause-housed : goal.rounds-requires-clause-housed
rounds-requires-clause-housed c = c.items.invariant.plays.housed

pub returns-clause-played : goal.returns-clause-played
returns-clause-played c =
    let gives = c.into_iter-item-iterator.ensures.into_iter_gives in
    let t = YieldsList-end (YieldsList-from_vec c.args.items.items gives.0 (gives.1 ∙ c.args.items.ok.0)) c.items.yielded c.items.item-iterator c.items.yielded_by c.next.result c.next.new.self c.in-None.is c.next.ensures.steps in
    let whole : c.items.yielded ≡ c.args.items.items = same_items c.items.yielded c.args.items.items t.0 in
    let its = map said c.args.items.items in
    let p = subst (λ (xs : List TraceItem). Plays c.args.spec c.args.swaps.items (map said xs) c.items.host) whole c.items.invariant.plays in
    let e = c.in_ok-rounds.ensures in
    let r = e.rounds (begun_in c.args.spec c.args.swaps.items its) p.lasts in
    has_played c.args.spec c.args.swaps.items its c.items.host c.rounds.new.self p e.chains e.stays r.0 r.1 r.3 (e.retired (ended_in c.args.spec c.args.swaps.items its) p.ended) e.given e.quiet e.housed e.unmarked

pub returns-clause-settled : goal.returns-clause-settled
returns-clause-settled c =
    let gives = c.into_iter-item-iterator.ensures.into_iter_gives in
    let t = YieldsList-end (YieldsList-from_vec c.args.items.items gives.0 (gives.1 ∙ c.args.items.ok.0)) c.items.yielded c.items.item-iterator c.items.yielded_by c.next.result c.next.new.self c.in-None.is c.next.ensures.steps in
    let whole : c.items.yielded ≡ c.args.items.items = same_items c.items.yielded c.args.items.items t.0 in
    let its = map said c.args.items.items in
    let p = subst (λ (xs : List TraceItem). Plays c.args.spec c.args.swaps.items (map said xs) c.items.host) whole c.items.invariant.plays in
    let e = c.in_ok-rounds.ensures in
    has_settled c.args.spec c.args.swaps.items its c.items.host c.rounds.new.self p e.chains e.stays c.args.slice _ _ _ _ (whole_swaps c.args.spec its c.args.swaps.items c.requires.swaps) c.requires.loadable.few
    e.settled (ap (λ (s : RoundState). s.asks) c.in_ok-chooser.ensures) (ap (λ (s : RoundState). s.room) c.in_ok-chooser.ensures) (subst (TakeTurns None) c.asks.ensures.value c.asks.ensures.turns)
    (subst (PassesRounds c.args.slice c.items.host) (sym (e.passes.is refl)) e.passes.passes) e.given e.quiet e.housed e.unmarked
