use Rattle.std.proofs.Common.{◌≡◌, [], ◌∷◌, ◌++◌, Option, sym, ap, subst}
use Rattle.std.specs.Prelude.{slice_index_or}
use Rattle.trace_reader.specs.Said.{a_swap}
use Rattle.life_laws.specs.Fed.{Fed}
use Rattle.life_laws.specs.RoundLaws.{fed_at}
use Rattle.page_plan.specs.Contents.{content_of}
use Rattle.page_play.specs.Given.{begins, with_swap}
use Rattle.page_play.specs.Housed.{fuels}
use Rattle.page_live.specs.Living.{Rounds, brought_to, takes_swap}
use Rattle.page_live.proofs.Stirred.{ended_has, stirred_swap, was_ended}
use Rattle.page_live.proofs.Rested.{rested}
use Rattle.page_live.proofs.hosting.give_swap.Goals as goal

pub returns : goal.returns
returns c = λ spec swaps items file l.
    let to = c.args.to in
    let content = c.args.content in
    let old = c.args.host.now in
    let mid = c.give_swap.new.self in
    let new = c.rounds.new.self in
    let g = c.in_ok-give_swap.ensures.gives in
    let laws = c.swapped_lives.ensures in
    let was = was_ended spec swaps items old l in
    let life = begins (slice_index_or (fuels old) to 0) (content_of spec.libs.items content) in
    let same : brought_to spec to content ≡ life = ap (λ ns. begins (slice_index_or ns to 0) (content_of spec.libs.items content)) (sym l.fuels) in
    let fed = laws.last spec.libs.items to content old mid l.fed c.requires.housed c.requires.unmarked c.requires.there c.requires.few l.libraries g l.taken in
    let gone = laws.ended to content old mid l.fed was.es c.requires.housed c.requires.unmarked c.requires.there c.requires.few g l.taken was.are in
    let st = stirred_swap spec swaps items old l to file content mid g c.requires.there fed gone (ended_has spec swaps items old l to) in
    let e = c.in_ok-rounds.ensures in
    let r = e.rounds (with_swap to life 0 l.fed) fed in
    rested spec (swaps ++ content ∷ []) (items ++ a_swap to file ∷ []) mid new (with_swap to life 0 l.fed) (was.es ++ fed_at l.fed to ∷ []) (l.out ++ fed_at l.fed to ∷ []) st e.chains e.stays r.0 r.1
    (λ rounds. takes_swap to file content l.lives (subst (λ (f : Option Fed). Rounds spec (with_swap to f 0 l.fed) r.0) (sym same) rounds)) r.2 r.3 (e.retired (was.es ++ fed_at l.fed to ∷ []) gone) e.given e.quiet e.housed e.unmarked
