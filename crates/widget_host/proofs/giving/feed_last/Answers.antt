use Rattle.std.proofs.Common.{◌≡◌, ◌<◌, Some, arith, length, nat_eq, refl, slice_set, subst, sym}
use Rattle.std.specs.Prelude.{slice_get}
use Rattle.std.proofs.lemmas.Option.{slice_get_read}
use Rattle.std.proofs.lemmas.Result.{on_ok_weaker}
use Rattle.widget_host.specs.Feeding.{AreFed}
use Rattle.widget_host.proofs.Fed.{one_fed, same_set}
use Rattle.widget_host.proofs.giving.feed_last.Goals as goal

pub returns-clause-fed : goal.returns-clause-fed
returns-clause-fed c =
    let ls = c.args.places.now.items in
    let within : c.last_of-v.result < length ls = subst (λ v. v < length ls) (sym c.last_of-v.ensures) c.requires.there in
    let at : slice_get ls c.last_of-v.result ≡ Some c.index_mut.result.now = slice_get_read ls (length ls) c.last_of-v.result c.index_mut.result.now refl within c.index_mut.ensures.value in
    on_ok_weaker c.feed.result (λ f.
    subst (λ v. AreFed (nat_eq v) c.args.work 0 ls (slice_set ls c.last_of-v.result c.feed.new.place)) c.last_of-v.ensures
    (one_fed c.args.work 0 c.last_of-v.result c.last_of-v.result ls c.index_mut.result.now c.feed.new.place (omega arith) at f)) c.feed.ensures.fed

pub returns-clause-same : goal.returns-clause-same
returns-clause-same c =
    let ls = c.args.places.now.items in
    let within : c.last_of-v.result < length ls = subst (λ v. v < length ls) (sym c.last_of-v.ensures) c.requires.there in
    let at : slice_get ls c.last_of-v.result ≡ Some c.index_mut.result.now = slice_get_read ls (length ls) c.last_of-v.result c.index_mut.result.now refl within c.index_mut.ensures.value in
    same_set c.last_of-v.result ls c.index_mut.result.now c.feed.new.place at c.feed.ensures.same
