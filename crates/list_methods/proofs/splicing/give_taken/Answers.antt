use Rattle.std.proofs.Common.{[], ◌∙◌, ap, subst, sym}
use Rattle.store_cells.specs.declared.value.Value.TheVariants as value
use Rattle.widget_meaning.specs.Values.{Value}
use Rattle.widget_meaning.specs.OwnState.{State, cell_at, with_cell}
use Rattle.widget_meaning.specs.Plan.{Plan}
use Rattle.widget_meaning.specs.Costs.{give}
use Rattle.widget_meaning.specs.ListChanges.{with_elements}
use Rattle.js_image.specs.Image.{all_seen, image, seen}
use Rattle.js_image.specs.Held.{IsFine}
use Rattle.js_image.specs.Plans.{IsFineMade, made_plan}
use Rattle.js_image.proofs.Grown.{fine_stays, seen_stays}
use Rattle.js_image.proofs.Units.{kept_then}
use Rattle.list_methods.specs.Arrays.{number}
use Rattle.list_methods.specs.Parts.{filled_after}
use Rattle.list_methods.proofs.Arrays.{number_stays}
use Rattle.list_methods.proofs.Fills.{made_array}
use Rattle.list_methods.proofs.Lists.{all_seen_stay, all_stay}
use Rattle.list_methods.proofs.Meeting.{on_err, stop_ends, value_ends}
use Rattle.list_methods.proofs.splicing.give_taken.Goals as goal

pub returns-in-Stop-clause-native : goal.returns-in-Stop-clause-native
returns-in-Stop-clause-native c =
    let w = c.args.w.index in
    let old = c.args.store.now in
    let new = c.make_array.new.store in
    let n = number w old c.args.array in
    let ls = all_seen w old.cells c.args.left.now in
    let after : Value → State → Plan = λ v t. give v (with_cell t n (with_elements (cell_at t n) ls)) in
    stop_ends w old new (λ d s. filled_after n (all_seen w old.cells c.args.taken.items) ls s) c.in-Stop.cause
    (λ fs r d. c.in_ok-made.ensures.plan fs r after ∙ ap (λ m. made_plan w new.cells m after (image fs r w new)) c.in-Stop.is) c.make_array.ensures.kept

pub fill-requires-clause-array : goal.fill-requires-clause-array
fill-requires-clause-array c =
    let w = c.args.w.index in
    let new = c.make_array.new.store in
    made_array w c.args.store.now c.args.array c.requires.array new (all_seen w c.args.store.now.cells c.args.taken.items) (seen w new.cells (value.Ref c.in-Cell.id))
    (λ fs r k. c.in_ok-made.ensures.plan fs r k ∙ ap (λ m. made_plan w new.cells m k (image fs r w new)) c.in-Cell.is) c.make_array.ensures.kept

pub fill-requires-clause-values : goal.fill-requires-clause-values
fill-requires-clause-values c = all_stay c.args.w.index c.args.store.now.cells c.make_array.new.store.cells (c.make_array.ensures.kept []).grows c.args.left.now c.requires.left

pub returns-in_ok-fill-in-Cell-clause-native : goal.returns-in_ok-fill-in-Cell-clause-native
returns-in_ok-fill-in-Cell-clause-native c =
    let w = c.args.w.index in
    let old = c.args.store.now in
    let mid = c.make_array.new.store in
    let new = c.fill.new.store in
    let n = number w old c.args.array in
    let ls = all_seen w old.cells c.args.left.now in
    let v = value.Ref c.in-Cell.id in
    let after : Value → State → Plan = λ u t. give u (with_cell t n (with_elements (cell_at t n) ls)) in
    let held : IsFine w mid.cells v = subst (IsFineMade w mid.cells) c.in-Cell.is c.in_ok-made.ensures.fine in
    let first = (c.make_array.ensures.kept []).grows in
    let then = (c.fill.ensures.kept []).grows in
    value_ends w old new (λ d s. filled_after n (all_seen w old.cells c.args.taken.items) ls s) v
    (λ fs r d.
    c.in_ok-made.ensures.plan fs r after
    ∙ ap (λ m. made_plan w mid.cells m after (image fs r w mid)) c.in-Cell.is
    ∙ (λ j. give (sym (seen_stays w mid.cells new.cells then v held) j) (with_cell (image fs r w mid) (sym (number_stays w old mid c.args.array c.requires.array first) j) (with_elements (cell_at (image fs r w mid) (sym (number_stays w old mid c.args.array c.requires.array first) j)) (sym (all_seen_stay w old.cells mid.cells first c.args.left.now c.requires.left) j))))
    ∙ ap (give (seen w new.cells v)) (sym (c.in_ok-fill-in-Cell.ensures.done fs r)))
    (fine_stays w mid.cells new.cells then v held)
    (λ fs. kept_then fs w old mid new (c.make_array.ensures.kept fs) (c.fill.ensures.kept fs))

pub returns-in_err-fill-in-Cell-clause-memory : goal.returns-in_err-fill-in-Cell-clause-memory
returns-in_err-fill-in-Cell-clause-memory c = on_err c.from_residual-in_err-fill-in-Cell.result _ (λ fs. kept_then fs c.args.w.index c.args.store.now c.make_array.new.store c.fill.new.store (c.make_array.ensures.kept fs) (c.fill.ensures.kept fs))
