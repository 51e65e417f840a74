use Rattle.std.proofs.Common.{sym, ap, subst, arith, ◌∙◌}
use Rattle.widget_meaning.specs.Meaning.{body}
use Rattle.js_image.specs.Image.{image}
use Rattle.js_names.specs.Code.{trees_of}
use Rattle.js_flow.specs.declared.task.Control.{Control}
use Rattle.js_flow.specs.Fine.{FineControl}
use Rattle.js_flow.specs.Free.{control_free, free, job_weight}
use Rattle.js_flow.specs.Left.{all_frames}
use Rattle.js_flow.specs.Todo.{todo}
use Rattle.js_flow.specs.Views.{job_of}
use Rattle.js_flow.proofs.Stays.{frames_fine, rest_same}
use Rattle.js_steps.specs.Charges.{after_charge, starts_in_place}
use Rattle.js_steps.proofs.Settled.{fine_all, free_all, native_one, plan_all}
use Rattle.js_steps.proofs.machine.start_in_place.Goals as goal

pub begin_ids-requires-clause-ids : goal.begin_ids-requires-clause-ids
begin_ids-requires-clause-ids c = ap starts_in_place (sym c.in-Do.is) ∙ c.requires.plain

pub begin_ids-requires-clause-held : goal.begin_ids-requires-clause-held
begin_ids-requires-clause-held c =
    subst (λ (q : Control). FineControl (trees_of c.args.codes.now.items) c.args.w c.args.store.now.cells q) c.in-Do.is c.requires.held.0

pub returns-clause-plan : goal.returns-clause-plan
returns-clause-plan c = λ r.
    let w = c.args.w in
    let fs = trees_of c.args.codes.now.items in
    let old = c.args.store.now in
    let new = c.begin_ids.new.store in
    let frames = all_frames c.args.flow.now in
    plan_all fs w old.cells new.cells c.begin_ids.new.flow (image fs r w new) frames (body (job_of fs w old.cells c.in-Do.job) (image fs r w old)) c.in_ok-begin_ids-in-Do.ensures.below
    (c.in_ok-begin_ids-in-Do.ensures.plan r) (rest_same fs w old.cells new.cells c.begin_ids.ensures.kept.grows frames c.requires.held.1)
    ∙ ap (λ q. todo fs w old.cells (after_charge q) frames (image fs r w old)) (sym c.in-Do.is)

pub returns-clause-fine : goal.returns-clause-fine
returns-clause-fine c =
    let w = c.args.w in
    let fs = trees_of c.args.codes.now.items in
    let new = c.begin_ids.new.store in
    let frames = all_frames c.args.flow.now in
    fine_all fs w new.cells c.begin_ids.new.flow frames c.in_ok-begin_ids-in-Do.ensures.below c.in_ok-begin_ids-in-Do.ensures.fine
    (frames_fine fs w c.args.store.now.cells new.cells c.begin_ids.ensures.kept.grows frames c.requires.held.1)

pub returns-clause-near : goal.returns-clause-near
returns-clause-near c =
    let frames = all_frames c.args.flow.now in
    omega (arith, c.in_ok-begin_ids-in-Do.ensures.near, free_all c.begin_ids.new.flow frames c.in_ok-begin_ids-in-Do.ensures.below, ap (λ q. free (after_charge q) frames) c.in-Do.is)

pub returns-clause-native : goal.returns-clause-native
returns-clause-native c = λ x.
    let h = native_one (trees_of c.args.codes.now.items) c.args.w c.begin_ids.new.store.cells c.begin_ids.new.flow (all_frames c.args.flow.now) (job_weight c.in-Do.job) c.in_ok-begin_ids-in-Do.ensures.below
    c.in_ok-begin_ids-in-Do.ensures.fine c.in_ok-begin_ids-in-Do.ensures.near x in
    (omega (arith, h.0, ap (λ q. control_free (after_charge q)) c.in-Do.is), h.1)
