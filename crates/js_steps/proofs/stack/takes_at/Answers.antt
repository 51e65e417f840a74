use Rattle.std.proofs.Common.{◌≡◌, List, [], ◌∷◌, ◌++◌, take, suc, ap, sym, ◌∙◌, take-suc, get_or}
use Rattle.js_flow.specs.declared.frame.Frame.{Frame}
use Rattle.widget_meaning.specs.Plan.{and_then}
use Rattle.js_flow.specs.Frames.{rest}
use Rattle.js_flow.specs.Views.{completion_of}
use Rattle.js_flow.proofs.Follow.{rest_last}
use Rattle.js_steps.proofs.Passing.{passed_on}
use Rattle.js_steps.proofs.stack.takes_at.Goals as goal

pub returns-clause-passed : goal.returns-clause-passed
returns-clause-passed c = λ t fs w cells s.
    let xs = c.args.frames.now.items in
    let n = c.args.at in
    let o = c.args.how.now in
    let f = c.index.result.now in
    let below : List Frame = take n xs in
    let e : f ≡ get_or xs n f = c.index.ensures in
    let more : take (suc n) xs ≡ below ++ f ∷ [] = take-suc xs n f c.requires.within ∙ ap (λ (g : Frame). below ++ g ∷ []) (sym e) in
    ap (λ p. and_then p (rest fs w cells below)) (passed_on fs w cells s o c.requires.abrupt f (sym c.is_taken.ensures ∙ t))
    ∙ sym (ap (λ (l : List Frame). rest fs w cells l (completion_of w cells o) s) more ∙ ap (λ k. k (completion_of w cells o) s) (rest_last fs w cells below f))
