use Rattle.std.proofs.Common.{ap, sym, ◌∙◌, arith, ◌-◌, ◌+◌, eqb-true}
use Rattle.std.proofs.lemmas.Bool.{eqb-false}
use Rattle.page_tree.specs.Pages.{nodes}
use Rattle.event_loop.specs.Deliveries.{nearest, most}
use Rattle.event_loop.proofs.Ways.{near_step, near_found, near_out, empty, most_is}
use Rattle.event_loop.proofs.around.Loop.nearest.Goals as goal

pub returns-then-not-is_empty : goal.returns-then-not-is_empty
returns-then-not-is_empty c =
    sym (near_found (nodes c.args.page.now) c.args.root c.args.self.now c.args.kind.now (most - c.up.counter) (most - (c.up.counter + 1)) c.in-Some.here (omega (arith, most_is, c.up-test.true)) c.in_ok-functions.functions.items c.in_ok-functions.ensures (λ e. eqb-false _ _ (sym c.is_empty.ensures ∙ c.if-not-is_empty.true) (omega (arith, e, c.in_ok-functions.functions.ok.0))))
    ∙ ap (λ o. nearest (most - c.up.counter) (nodes c.args.page.now) c.args.root c.args.self.now o c.args.kind.now) (sym c.in-Some.is)
    ∙ c.up.invariant.same

pub up-preserved : goal.up-preserved
up-preserved c = record {
  same =
      ap (λ o. nearest (most - (c.up.counter + 1)) (nodes c.args.page.now) c.args.root c.args.self.now o c.args.kind.now) c.parent_within-place.ensures.parent
      ∙ sym (near_step (nodes c.args.page.now) c.args.root c.args.self.now c.args.kind.now (most - c.up.counter) (most - (c.up.counter + 1)) c.in-Some.here (omega (arith, most_is, c.up-test.true)) (sym c.in_ok-functions.ensures ∙ empty c.in_ok-functions.functions.items (omega (arith, c.in_ok-functions.functions.ok.0, eqb-true _ _ (sym c.is_empty.ensures ∙ c.if-not-is_empty.false)))))
      ∙ ap (λ o. nearest (most - c.up.counter) (nodes c.args.page.now) c.args.root c.args.self.now o c.args.kind.now) (sym c.in-Some.is)
      ∙ c.up.invariant.same;
  is_in = c.parent_within-place.ensures.is_in;
}

pub returns : goal.returns
returns c = sym (near_out (nodes c.args.page.now) c.args.root c.args.self.now c.args.kind.now (most - c.up.counter) c.up.place (omega (arith, most_is, c.up-test.false))) ∙ c.up.invariant.same
