use Rattle.std.proofs.Common.{arith}
use Rattle.widget_meaning.specs.Meaning.{body}
use Rattle.js_image.specs.Image.{image}
use Rattle.js_names.specs.Code.{trees_of}
use Rattle.js_flow.specs.Left.{all_frames}
use Rattle.js_flow.specs.Views.{job_of}
use Rattle.js_flow.proofs.Stays.{frames_fine, rest_same}
use Rattle.js_steps.proofs.Settled.{fine_all, free_all, native_one, plan_all}
use Rattle.js_flow.specs.Free.{job_weight}
use Rattle.js_steps.proofs.machine.begin.Goals as goal

pub returns-clause-plan : goal.returns-clause-plan
returns-clause-plan c = λ r.
    let w = c.args.w in
    let fs = trees_of c.args.codes.now.items in
    let old = c.args.store.now in
    let new = c.begin_job.new.store in
    let frames = all_frames c.args.flow.now in
    plan_all fs w old.cells new.cells c.begin_job.new.flow (image fs r w new) frames (body (job_of fs w old.cells c.args.job) (image fs r w old)) c.in_ok-begin_job.ensures.below
    (c.in_ok-begin_job.ensures.plan r) (rest_same fs w old.cells new.cells c.begin_job.ensures.kept.grows frames c.requires.held.1)

pub returns-clause-fine : goal.returns-clause-fine
returns-clause-fine c =
    let w = c.args.w in
    let fs = trees_of c.args.codes.now.items in
    let new = c.begin_job.new.store in
    let frames = all_frames c.args.flow.now in
    fine_all fs w new.cells c.begin_job.new.flow frames c.in_ok-begin_job.ensures.below c.in_ok-begin_job.ensures.fine
    (frames_fine fs w c.args.store.now.cells new.cells c.begin_job.ensures.kept.grows frames c.requires.held.1)

pub returns-clause-near : goal.returns-clause-near
returns-clause-near c = omega (arith, c.in_ok-begin_job.ensures.near, free_all c.begin_job.new.flow (all_frames c.args.flow.now) c.in_ok-begin_job.ensures.below)

pub returns-clause-native : goal.returns-clause-native
returns-clause-native c =
    native_one (trees_of c.args.codes.now.items) c.args.w c.begin_job.new.store.cells c.begin_job.new.flow (all_frames c.args.flow.now) (job_weight c.args.job) c.in_ok-begin_job.ensures.below
    c.in_ok-begin_job.ensures.fine c.in_ok-begin_job.ensures.near
