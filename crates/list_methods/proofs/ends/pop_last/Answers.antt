use Rattle.std.proofs.Common.{[], ◌∙◌, ap, sym}
use Rattle.widget_meaning.specs.Costs.{give}
use Rattle.js_image.specs.Image.{image}
use Rattle.js_image.proofs.Grown.{fine_stays, seen_stays}
use Rattle.store_cells.specs.declared.value.Value.TheVariants as value
use Rattle.list_methods.specs.Arrays.{number}
use Rattle.list_methods.specs.Parts.{popped}
use Rattle.list_methods.proofs.Arrays.{length_seen}
use Rattle.list_methods.proofs.Fills.{popped_is}
use Rattle.list_methods.proofs.Meeting.{kept_here, value_ends}
use Rattle.list_methods.proofs.ends.pop_last.Goals as goal

pub returns-then-array-eq0-clause-native : goal.returns-then-array-eq0-clause-native
returns-then-array-eq0-clause-native c = value_ends c.args.w.index c.args.store.now c.args.store.now (λ d s. popped (number c.args.w.index c.args.store.now c.args.array) c.args.array.len s) value.Undefined (λ fs r d. ap (λ l. popped (number c.args.w.index c.args.store.now c.args.array) l (image fs r c.args.w.index c.args.store.now)) c.if-array-eq0.true) tt (λ fs. kept_here fs c.args.w.index c.args.store.now)

pub element-requires-clause-within : goal.element-requires-clause-within
element-requires-clause-within c = c.requires.array.held.0

pub returns-clause-native : goal.returns-clause-native
returns-clause-native c =
    let last = c.in_ok-last.last in
    let fine = c.in_ok-last.ensures.fine c.requires.confined.0 c.args.w.index c.requires.confined.1 c.requires.array.held in
    let grows = (c.shorten.ensures.kept []).grows in
    value_ends c.args.w.index c.args.store.now c.shorten.new.store (λ d s. popped (number c.args.w.index c.args.store.now c.args.array) c.args.array.len s) last
    (λ fs r d.
    popped_is (number c.args.w.index c.args.store.now c.args.array) c.args.array.len (image fs r c.args.w.index c.args.store.now) c.if-array-eq0.false
    ∙ (λ j. give (sym (seen_stays c.args.w.index c.args.store.now.cells c.shorten.new.store.cells grows last fine ∙ c.in_ok-last.ensures.found fs r c.args.w.index c.args.array.len c.requires.array.held (length_seen c.args.w.index c.args.store.now c.args.array c.requires.array fs r)) j) (sym (c.in_ok-shorten.ensures.done fs r) j)))
    (fine_stays c.args.w.index c.args.store.now.cells c.shorten.new.store.cells grows last fine)
    c.shorten.ensures.kept
