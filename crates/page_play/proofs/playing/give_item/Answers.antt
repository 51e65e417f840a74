use Rattle.page_play.specs.Played.{begun_in, ended_in}
use Rattle.page_play.proofs.Given.{plays_item}
use Rattle.page_play.proofs.playing.give_item.Goals as goal

pub returns : goal.returns
returns c = λ spec swaps items p.
    let g = c.in_ok-give.ensures.gives in
    let i = c.args.item in
    let old = c.args.host.now in
    let new = c.give.new.self in
    let laws = c.given_lives.ensures in
    plays_item spec swaps items i old new g c.in_ok-give.ensures.housed c.in_ok-give.ensures.unmarked
    (laws.last i old new (begun_in spec swaps items) c.requires.housed c.requires.unmarked c.requires.shape g p.lasts)
    (laws.ended i old new (ended_in spec swaps items) c.requires.housed c.requires.unmarked c.requires.shape g p.ended) p
