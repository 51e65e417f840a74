use Rattle.std.proofs.Common.{◌+◌, ◌++◌, ◌∙◌, ap, drop, take}
use Rattle.std.specs.Prelude.{slice_range}
use Rattle.widget_meaning.specs.NativeForms.{elements}
use Rattle.widget_meaning.specs.ListChanges.{spliced}
use Rattle.js_image.specs.Image.{all_seen, image}
use Rattle.native_common.proofs.Meeting.{ok_ends_same}
use Rattle.list_methods.specs.Arrays.{number}
use Rattle.list_methods.specs.Parts.{exchanged}
use Rattle.list_methods.proofs.Splices.{left_fine, left_seen, taken_fine, taken_seen}
use Rattle.list_methods.proofs.splicing.spliced.Goals as goal

pub exchange-requires-clause-taken : goal.exchange-requires-clause-taken
exchange-requires-clause-taken c = taken_fine c.args.w.index c.args.store.now.cells c.in_ok-all.all.items c.args.cut.at c.args.cut.count c.in_ok-taken.taken.items c.in_ok-all.ensures.fine (c.in_ok-taken.ensures ∙ ap (λ l. slice_range l c.args.cut.at (c.args.cut.at + c.args.cut.count)) c.deref.ensures.value)

pub exchange-requires-clause-left : goal.exchange-requires-clause-left
exchange-requires-clause-left c = left_fine c.args.w.index c.args.store.now.cells c.in_ok-all.all.items c.args.cut.at c.args.cut.count c.args.new.now c.deref-3.result.now (c.deref-3.ensures.value ∙ c.in_ok-left.ensures ∙ ap (λ l. take c.args.cut.at l ++ (c.args.new.now ++ drop (c.args.cut.at + c.args.cut.count) l)) c.deref-2.ensures.value) c.in_ok-all.ensures.fine c.requires.new

pub returns-clause-native : goal.returns-clause-native
returns-clause-native c =
    let w = c.args.w.index in
    let old = c.args.store.now in
    let n = number w old c.args.array in
    let len = c.args.array.len in
    let all = c.in_ok-all.all.items in
    ok_ends_same w old c.exchange.new.store (λ d s. spliced n (elements s n len) c.args.cut.at c.args.cut.count (all_seen w old.cells c.args.new.now) s) (λ d s. exchanged n (all_seen w old.cells c.in_ok-taken.taken.items) (all_seen w old.cells c.deref-3.result.now) s) c.exchange.result
    (λ fs r d j. exchanged n
    (taken_seen w old.cells all c.args.cut.at c.args.cut.count (elements (image fs r w old) n len) c.in_ok-taken.taken.items (c.in_ok-all.ensures.seen fs r) (c.in_ok-taken.ensures ∙ ap (λ l. slice_range l c.args.cut.at (c.args.cut.at + c.args.cut.count)) c.deref.ensures.value) j)
    (left_seen w old.cells all c.args.cut.at c.args.cut.count c.args.new.now c.deref-3.result.now (c.deref-3.ensures.value ∙ c.in_ok-left.ensures ∙ ap (λ l. take c.args.cut.at l ++ (c.args.new.now ++ drop (c.args.cut.at + c.args.cut.count) l)) c.deref-2.ensures.value) (elements (image fs r w old) n len) (c.in_ok-all.ensures.seen fs r) j)
    (image fs r w old))
    c.exchange.ensures.native
