use Rattle.page_play.specs.Played.{begun_in, ended_in}
use Rattle.page_play.proofs.Born.{housed_chains}
use Rattle.page_play.proofs.Given.{plays_swap}
use Rattle.page_play.proofs.playing.give_swap.Goals as goal

pub returns : goal.returns
returns c = λ spec swaps items file there p.
    let g = c.in_ok-give_swap.ensures.gives in
    let old = c.args.host.now in
    let new = c.give_swap.new.self in
    let laws = c.swapped_lives.ensures in
    plays_swap spec swaps items c.args.to file c.args.content old new g p c.requires.there (housed_chains old c.requires.housed c.requires.unmarked) there c.in_ok-give_swap.ensures.housed c.in_ok-give_swap.ensures.unmarked
    (laws.last spec.libs.items c.args.to c.args.content old new (begun_in spec swaps items) c.requires.housed c.requires.unmarked c.requires.there c.requires.few p.libraries g p.lasts)
    (laws.ended c.args.to c.args.content old new (begun_in spec swaps items) (ended_in spec swaps items) c.requires.housed c.requires.unmarked c.requires.there c.requires.few g p.lasts p.ended)
