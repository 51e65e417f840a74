use Rattle.std.proofs.Common.{[], refl, ◌∙◌, arith}
use Rattle.js_image.proofs.Grown.{kept_same}
use Rattle.js_image.proofs.Units.{kept_then}
use Rattle.native_image.proofs.Added.{more_cells}
use Rattle.native_image.proofs.growing.add_cells.Goals as goal

pub each-init : goal.each-init
each-init c = record {
  there = λ n le lt. absurd (omega (arith, le, lt));
  same = λ v. refl;
  kept = λ fs w. kept_same fs w c.args.store.now c.args.store.now refl;
}

pub each-preserved : goal.each-preserved
each-preserved c = record {
  there = more_cells 0 c.each.store.cells c.add_cell.new.store.cells c.args.first c.each.node (c.add_cell.ensures.kept [] 0).grows c.each.invariant.there c.in_ok-add_cell.ensures.there;
  same = λ v. c.add_cell.ensures.same v ∙ c.each.invariant.same v;
  kept = λ fs w. kept_then fs w c.args.store.now c.each.store c.add_cell.new.store (c.each.invariant.kept fs w) (c.add_cell.ensures.kept fs w);
}

pub returns-in_err-add_cell-clause-same : goal.returns-in_err-add_cell-clause-same
returns-in_err-add_cell-clause-same c = λ v. c.add_cell.ensures.same v ∙ c.each.invariant.same v

pub returns-in_err-add_cell-clause-kept : goal.returns-in_err-add_cell-clause-kept
returns-in_err-add_cell-clause-kept c = λ fs w. kept_then fs w c.args.store.now c.each.store c.add_cell.new.store (c.each.invariant.kept fs w) (c.add_cell.ensures.kept fs w)
