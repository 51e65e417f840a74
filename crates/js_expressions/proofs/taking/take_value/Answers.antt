use Rattle.std.proofs.Common.{◌≡◌, refl}
use Rattle.std.proofs.lemmas.Result.{IfOk-weaker}
use Rattle.js_image.specs.Image.{image}
use Rattle.js_names.specs.Code.{trees_of}
use Rattle.js_flow.specs.declared.frame.FormFrame.{FormFrame}
use Rattle.js_flow.specs.declared.frame.FormFrame.TheVariants as frame
use Rattle.js_expressions.specs.Simple.{GoesOn}
use Rattle.js_expressions.proofs.taking.take_value.Goals as goal

pub returns-in_default-clause-plan : goal.returns-in_default-clause-plan
returns-in_default-clause-plan c =
    let fs = trees_of c.args.codes.now.items in
    let w = c.args.w in
    let s = c.args.store.now in
    IfOk-weaker c.go_on.result _ _ (λ n h r. h fs w s.cells (image fs r w s)) c.go_on.ensures.plan

pub returns-in_default-clause-fine : goal.returns-in_default-clause-fine
returns-in_default-clause-fine c = IfOk-weaker c.go_on.result _ _ (λ n h. h (trees_of c.args.codes.now.items) c.args.w c.args.store.now.cells c.requires.held.0 c.requires.held.1) c.go_on.ensures.fine

pub go_on-requires : goal.go_on-requires
go_on-requires c = record { simple = goes c.args.frame.now refl }
  where
    goes : (f : FormFrame) → c.args.frame.now ≡ f → GoesOn f
    goes (frame.Dot x) e = absurd (c.in_default.not-Dot x e)
    goes (frame.TargetDot x) e = absurd (c.in_default.not-TargetDot x e)
    goes (frame.Sub b) e = absurd (c.in_default.not-Sub b e)
    goes (frame.TargetSub b) e = absurd (c.in_default.not-TargetSub b e)
    goes (frame.Element a i n p) e = absurd (c.in_default.not-Element a i n p e)
    goes (frame.Property a i n p) e = absurd (c.in_default.not-Property a i n p e)
    goes (frame.Operate op v d) e = absurd (c.in_default.not-Operate op v d e)
    goes (frame.ConvertedLeft op v d) e = absurd (c.in_default.not-ConvertedLeft op v d e)
    goes (frame.ConvertedRight op v) e = absurd (c.in_default.not-ConvertedRight op v e)
    goes (frame.Prefix op p) e = absurd (c.in_default.not-Prefix op p e)
    goes (frame.ConvertedPrefix op) e = absurd (c.in_default.not-ConvertedPrefix op e)
    goes (frame.StepConverted op r p) e = absurd (c.in_default.not-StepConverted op r p e)
    goes (frame.AssignWith a) e = absurd (c.in_default.not-AssignWith a e)
    goes (frame.Write r p) e = absurd (c.in_default.not-Write r p e)
    goes _ e = tt
