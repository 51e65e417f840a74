use Rattle.std.proofs.Common.{[], refl, sym, ap, ◌∙◌}
use Rattle.std.specs.Prelude.{slice_range}
use Rattle.std.proofs.lemmas.Result.{err_from_is_err_and}
use Rattle.style_text.specs.Machine.{Next, goes}
use Rattle.style_text.specs.Used.{marks_of}
use Rattle.style_text.proofs.Complete.{next_blanks}
use Rattle.style_text.proofs.Reading.{pair_is, refused_property, refused_value, style_fault, fault_only, read_is_style, read_only}
use Rattle.style_text.proofs.read.read_units.Goals as goal

pub pairs-init : goal.pairs-init
pairs-init c =
    record {
      inside = c.blanks_end-at.ensures.inside;
      first = c.blanks_end-at.ensures.all;
      marks = c.none_used-used.ensures ∙ ap marks_of (sym c.new-pairs.ensures.items);
      read = next_blanks [] c.blanks_end-at.ensures.blanks ∙ ap (λ ps. goes c.args.units.now (Next ps) c.blanks_end-at.result) (sym c.new-pairs.ensures.items);
    }

pub pairs-preserved : goal.pairs-preserved
pairs-preserved c =
    let us = c.args.units.now in
    let p = c.in_ok-end.ensures c.pairs.pairs.items c.pairs.invariant.marks in
    let w = c.in_ok-stop.ensures in
    let e = pair_is us c.pairs.pairs.items c.push.new.self.items _ _ (slice_range us c.pairs.at c.in_ok-end.end) (slice_range us c.in_ok-end.start c.in_ok-stop.stop) c.in_ok-push.ensures.items c.in_ok-property.ensures c.in_ok-value.ensures in
    record {
      inside = w.inside;
      first = w.blanks;
      marks = c.mark.ensures c.pairs.pairs.items (slice_range us c.in_ok-end.start c.in_ok-stop.stop) c.pairs.invariant.marks ∙ ap marks_of (sym e);
      read = c.pairs.invariant.read ∙ p.goes_on ∙ w.goes_on c.pairs.pairs.items (slice_range us c.pairs.at c.in_ok-end.end) ∙ ap (λ l. goes us (Next l) c.in_ok-stop.next) (sym e);
    }

pub returns-in_err-end-clause-place : goal.returns-in_err-end-clause-place
returns-in_err-end-clause-place c =
    let p = err_from_is_err_and c.from_residual.result c.from_residual.ensures.1 in
    rw (p.1, p.2) (style_fault _ _ (refused_property _ _ _ _ _ refl (c.in_err-end.ensures _ c.pairs.invariant.marks) c.pairs.invariant.read))

pub returns-in_err-end-clause-only : goal.returns-in_err-end-clause-only
returns-in_err-end-clause-only c =
    let p = err_from_is_err_and c.from_residual.result c.from_residual.ensures.1 in
    rw (p.1, p.2) (fault_only _ _ (refused_property _ _ _ _ _ refl (c.in_err-end.ensures _ c.pairs.invariant.marks) c.pairs.invariant.read))

pub returns-in_err-stop-clause-place : goal.returns-in_err-stop-clause-place
returns-in_err-stop-clause-place c =
    let p = err_from_is_err_and c.from_residual-in_err-stop.result c.from_residual-in_err-stop.ensures.1 in
    rw (p.1, p.2) (style_fault _ _ (refused_value _ _ _ _ _ _ _ refl (c.in_ok-end.ensures _ c.pairs.invariant.marks) c.in_err-stop.ensures c.pairs.invariant.read))

pub returns-in_err-stop-clause-only : goal.returns-in_err-stop-clause-only
returns-in_err-stop-clause-only c =
    let p = err_from_is_err_and c.from_residual-in_err-stop.result c.from_residual-in_err-stop.ensures.1 in
    rw (p.1, p.2) (fault_only _ _ (refused_value _ _ _ _ _ _ _ refl (c.in_ok-end.ensures _ c.pairs.invariant.marks) c.in_err-stop.ensures c.pairs.invariant.read))

pub returns-clause-style : goal.returns-clause-style
returns-clause-style c = read_is_style _ _ _ c.pairs-test.false c.pairs.invariant.read

pub returns-clause-only : goal.returns-clause-only
returns-clause-only c = read_only _ _ _ c.pairs-test.false c.pairs.invariant.read
