use Rattle.std.proofs.Common.{ap, sym, ◌∙◌, arith}
use Rattle.widget_meaning.specs.Values.{Normal}
use Rattle.widget_meaning.specs.OwnState.{State}
use Rattle.widget_meaning.specs.Plan.{Plan, Ret}
use Rattle.widget_meaning.specs.Properties.{put}
use Rattle.js_image.specs.Image.{image, seen}
use Rattle.js_image.specs.Plans.{put_plan}
use Rattle.list_methods.proofs.Fills.{shortened}
use Rattle.list_methods.proofs.Meeting.{kept_here}
use Rattle.store_cells.specs.declared.value.Value.TheVariants as value
use Rattle.list_methods.proofs.changing.shorten.Goals as goal

pub put-requires-clause-base : goal.put-requires-clause-base
put-requires-clause-base c = c.requires.held

pub returns-in_err-name-clause-kept : goal.returns-in_err-name-clause-kept
returns-in_err-name-clause-kept c = λ fs. kept_here fs c.args.w.index c.args.store.now

pub returns-in-Done-clause-done : goal.returns-in-Done-clause-done
returns-in-Done-clause-done c = λ fs r. shortened c.args.w.index c.args.store.now c.put.new.store c.args.array c.requires c.args.len (omega (arith, c.ranges.len)) fs r
    (let ending : State → Plan = Ret Normal in
    (λ j. put (seen c.args.w.index c.args.store.now.cells (value.Ref c.args.array.cell)) (sym c.in_ok-name.ensures j) (seen c.args.w.index c.args.store.now.cells (sym c.number_value-value.ensures j)) (image fs r c.args.w.index c.args.store.now) ending)
    ∙ c.in_ok-written.ensures.plan fs r ending
    ∙ ap (λ q. put_plan q ending (image fs r c.args.w.index c.put.new.store)) c.in-Done.is)
