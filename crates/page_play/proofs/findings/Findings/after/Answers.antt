use Rattle.std.proofs.Common.{◌<◌, length, take, ap, ◌∙◌, arith}
use Rattle.page_play.specs.Swaps.{last_swap}
use Rattle.page_play.proofs.Finding.{found_first, found_brought, brought_there}
use Rattle.page_play.proofs.findings.Findings.after.Goals as goal

pub index-requires-in-Some : goal.index-requires-in-Some
index-requires-in-Some c =
    let f = c.args.self.now in
    let less : c.in-Some.i < length f.brought.items =
    brought_there c.args.w c.args.count c.in-Some.i f.swaps.slots.items (length f.brought.items) c.last_swap.result
    (c.last_swap.ensures.value ∙ ap (λ xs. last_swap c.args.w (take c.args.count xs)) c.deref.ensures.value) c.in-Some.is c.requires.even.brought in
    omega (arith, less)

pub returns-in-None : goal.returns-in-None
returns-in-None c =
    let f = c.args.self.now in
    found_first f c.args.w c.args.count c.last_swap.result (c.last_swap.ensures.value ∙ ap (λ xs. last_swap c.args.w (take c.args.count xs)) c.deref.ensures.value)
    c.index.result.now c.in-None.is (omega (arith, c.requires.slot, c.requires.even.refusals)) c.index.ensures

pub returns-in-Some : goal.returns-in-Some
returns-in-Some c =
    let f = c.args.self.now in
    found_brought f c.args.w c.args.count c.last_swap.result (c.last_swap.ensures.value ∙ ap (λ xs. last_swap c.args.w (take c.args.count xs)) c.deref.ensures.value)
    c.in-Some.i c.index-in-Some.result.now c.in-Some.is c.requires.even.brought c.index-in-Some.ensures
