use Rattle.std.proofs.Common.{◌-◌, List, sym, ap, ◌∙◌, subst, arith}
use Rattle.widget_meaning.specs.Plan.{and_then}
use Rattle.js_image.specs.Image.{image}
use Rattle.js_names.specs.Code.{trees_of}
use Rattle.js_flow.specs.declared.frame.Frame.{Frame}
use Rattle.js_flow.specs.declared.job.Next.{Next}
use Rattle.js_flow.specs.Fine.{FineFrames, FineNext}
use Rattle.js_flow.specs.Frames.{next_plan, rest}
use Rattle.js_flow.specs.Free.{frames_free, next_free}
use Rattle.js_flow.specs.Left.{all_frames}
use Rattle.js_flow.proofs.Stays.{frames_fine, rest_same}
use Rattle.js_direct.specs.Comes.{came}
use Rattle.js_direct.specs.Going.{end_of, how_of}
use Rattle.js_direct.proofs.Parts.{direct_fine}
use Rattle.js_direct.proofs.Reducing.{ends, starts, under}
use Rattle.js_direct.proofs.going.go.Goals as goal

pub run_next-requires-clause-held : goal.run_next-requires-clause-held
run_next-requires-clause-held c =
    let fs = trees_of c.args.codes.now.items in
    let cells = c.args.store.now.cells in
    subst (λ (n : Next). FineNext fs c.args.w cells n) (sym c.take_next-next.ensures.taken) (direct_fine fs c.args.w cells (all_frames c.args.flow.now) c.args.flow.now.next c.requires.direct c.requires.held.1)

pub returns-clause-reduces : goal.returns-clause-reduces
returns-clause-reduces c = λ r.
    let fs = trees_of c.args.codes.now.items in
    let w = c.args.w in
    let old = c.args.store.now in
    let new = c.run_next.new.store in
    let frames = all_frames c.args.flow.now in
    let next = c.take_next-next.result in
    let spent = c.args.units - c.run_next.new.run.units in
    let left = came fs w new.cells (how_of c.in_ok-how.how) (end_of c.in_ok-how.how) c.run_next.new.run (image fs r w new) in
    starts spent _ _ _ (λ i. and_then (next_plan fs w old.cells (sym c.take_next-next.ensures.taken i) (image fs r w old)) (rest fs w old.cells frames))
    (ends spent _ _ _ (under spent (next_plan fs w old.cells next (image fs r w old)) left (rest fs w old.cells frames) (c.in_ok-how.ensures.comes.reduces r))
    (ap (and_then left) (sym (rest_same fs w old.cells new.cells c.run_next.ensures.kept.grows frames c.requires.held.0))
    ∙ ((λ i. and_then left (rest fs w new.cells (all_frames (sym c.take_next-next.ensures.flow i))))
    ∙ sym (c.in_ok-put_run.ensures.plan fs w new.cells (image fs r w new)))))

pub returns-clause-fine : goal.returns-clause-fine
returns-clause-fine c =
    let fs = trees_of c.args.codes.now.items in
    let w = c.args.w in
    let new = c.run_next.new.store in
    c.in_ok-put_run.ensures.fine fs w new.cells c.in_ok-how.ensures.comes.fine
    (subst (λ (l : List Frame). FineFrames fs w new.cells l) (ap all_frames (sym c.take_next-next.ensures.flow))
    (frames_fine fs w c.args.store.now.cells new.cells c.run_next.ensures.kept.grows (all_frames c.args.flow.now) c.requires.held.0))

pub returns-clause-near : goal.returns-clause-near
returns-clause-near c =
    omega (
      arith,
      c.in_ok-how.ensures.near,
      c.in_ok-put_run.ensures.free (trees_of c.args.codes.now.items) c.args.w,
      ap (λ l. frames_free (all_frames l)) c.take_next-next.ensures.flow,
      ap next_free c.take_next-next.ensures.taken,
    )

pub returns-clause-native : goal.returns-clause-native
returns-clause-native c = c.in_ok-put_run.ensures.native (trees_of c.args.codes.now.items) c.args.w c.run_next.new.store.cells c.in_ok-how.ensures.comes.fine

pub returns-clause-left : goal.returns-clause-left
returns-clause-left c = c.in_ok-how.ensures.comes.units
