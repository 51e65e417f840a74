use Rattle.std.proofs.Common.{◌≡◌, ◌<◌, ◌∙◌, ℕ, [], Some, ap, arith, if◌then◌else◌, length, nat_eq, refl, slice_set, subst, sym}
use Rattle.std.specs.Prelude.{slice_get}
use Rattle.std.proofs.lemmas.Option.{slice_get_read}
use Rattle.std.proofs.lemmas.Result.{on_ok_weaker}
use Rattle.post_rounds.specs.Events.{values}
use Rattle.slot_picks.specs.Posting.{HaveRound}
use Rattle.slot_picks.proofs.Rounds.{alike_set, differ, one_round, set_other}
use Rattle.slot_picks.proofs.giving.give_slot.Goals as goal

pub last_of-v-requires : goal.last_of-v-requires
last_of-v-requires c = c.requires.some

pub give_place-requires-clause-kind : goal.give_place-requires-clause-kind
give_place-requires-clause-kind c = c.requires.kind

pub give_place-requires-clause-room : goal.give_place-requires-clause-room
give_place-requires-clause-room c =
    let ls = c.args.places.now.items in
    let within : c.last_of-v.result < length ls = subst (λ (v : ℕ). v < length ls) (sym c.last_of-v.ensures) c.requires.there in
    let at : slice_get ls c.last_of-v.result ≡ Some c.index_mut.result.now = slice_get_read ls (length ls) c.last_of-v.result c.index_mut.result.now refl within c.index_mut.ensures.value in
    c.requires.room c.index_mut.result.now (ap (slice_get ls) (sym c.last_of-v.ensures) ∙ at)

pub returns-clause-given : goal.returns-clause-given
returns-clause-given c =
    let ls = c.args.places.now.items in
    let vs = values c.args.events.now in
    let within : c.last_of-v.result < length ls = subst (λ (v : ℕ). v < length ls) (sym c.last_of-v.ensures) c.requires.there in
    let at : slice_get ls c.last_of-v.result ≡ Some c.index_mut.result.now = slice_get_read ls (length ls) c.last_of-v.result c.index_mut.result.now refl within c.index_mut.ensures.value in
    on_ok_weaker c.give_place.result (λ f.
    subst (λ (v : ℕ). HaveRound (λ u. if nat_eq v u then vs else []) (λ u. if nat_eq v u then c.args.taken else 0) 0 ls (slice_set ls c.last_of-v.result c.give_place.new.place)) c.last_of-v.ensures
    (one_round vs c.args.taken 0 c.last_of-v.result c.last_of-v.result ls c.index_mut.result.now c.give_place.new.place (omega arith) at f)) c.give_place.ensures.given

pub returns-clause-alike : goal.returns-clause-alike
returns-clause-alike c =
    let ls = c.args.places.now.items in
    let within : c.last_of-v.result < length ls = subst (λ (v : ℕ). v < length ls) (sym c.last_of-v.ensures) c.requires.there in
    let at : slice_get ls c.last_of-v.result ≡ Some c.index_mut.result.now = slice_get_read ls (length ls) c.last_of-v.result c.index_mut.result.now refl within c.index_mut.ensures.value in
    alike_set c.last_of-v.result ls c.index_mut.result.now c.give_place.new.place at c.give_place.ensures.alike

pub returns-clause-others : goal.returns-clause-others
returns-clause-others c = λ v ne. set_other c.last_of-v.result v c.args.places.now.items c.give_place.new.place (differ c.last_of-v.result v (ap (λ n. nat_eq n v) c.last_of-v.ensures ∙ ne))
