use Rattle.std.proofs.Common.{[], ◌∷◌, ◌++◌}
use Rattle.page_play.specs.Given.{with_item}
use Rattle.page_play.specs.Settled.{said_of}
use Rattle.page_live.specs.Living.{takes_item}
use Rattle.page_live.proofs.Stirred.{stirred_item, was_ended}
use Rattle.page_live.proofs.Rested.{rested}
use Rattle.page_live.proofs.hosting.give_item.Goals as goal

pub returns : goal.returns
returns c = λ spec swaps items l.
    let i = c.args.item in
    let old = c.args.host.now in
    let mid = c.give.new.self in
    let new = c.rounds.new.self in
    let g = c.in_ok-give.ensures.gives in
    let laws = c.given_lives.ensures in
    let was = was_ended spec swaps items old l in
    let fed = laws.last i old mid l.fed c.requires.housed c.requires.unmarked c.requires.shape g l.taken in
    let gone = laws.ended i old mid was.es c.requires.housed c.requires.unmarked c.requires.shape g was.are in
    let st = stirred_item spec swaps items old l i mid g fed gone in
    let e = c.in_ok-rounds.ensures in
    let r = e.rounds (with_item i 0 l.fed) fed in
    rested spec swaps (items ++ said_of i ∷ []) mid new (with_item i 0 l.fed) was.es l.out st e.chains e.stays r.0 r.1 (λ rounds. takes_item i l.lives rounds) r.2 r.3 (e.retired was.es gone) e.given e.quiet e.housed e.unmarked
