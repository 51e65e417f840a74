use Rattle.std.proofs.Common.{arith, ◌∙◌, sym, ◌<◌, length, eq-eqb, ne_eqb, length-take}
use Rattle.std.proofs.lemmas.List.{get_or-take}
use Rattle.code_units.proofs.PlacesMore.{later_than, line_none, column_none, line_more_yes, line_more_no, column_more_yes, column_more_no}
use Rattle.code_units.proofs.place.place_of.Goals as goal
use Rattle.code_units.proofs.place.place_of.Goals.{then-byte-eq10, else-byte-eq10}

pub loop-byte-init : goal.loop-byte-init
loop-byte-init c = record {
  line = line_none _;
  column = column_none _;
  line_small = omega arith;
  column_small = omega arith;
}

pub loop-byte-preserved : goal.loop-byte-preserved
loop-byte-preserved c =
    let i = c.loop-byte.byte-index in
    let bytes = c.args.bytes.now in
    let before : i < c.args.offset = omega (arith, length-take c.args.offset bytes) in
    let within : i < length bytes = omega arith in
    elim c.if-byte-eq10.branch [
      | then-byte-eq10 w ↦
          (let is = eq-eqb _ _ (sym (get_or-take c.args.offset bytes i 0 before) ∙ w.if-byte-eq10.true) in
          record {
            line = omega (arith, line_more_yes bytes i within is);
            column = w.column-is ∙ column_more_yes bytes i within is;
            line_small = omega arith;
            column_small = omega arith;
          })
      | else-byte-eq10 w ↦
          (let no = ne_eqb _ _ (λ e. w.if-byte-eq10.false (get_or-take c.args.offset bytes i 0 before ∙ e)) in
          record {
            line = omega (arith, line_more_no bytes i within no);
            column = omega (arith, column_more_no bytes i within no);
            line_small = omega arith;
            column_small = omega arith;
          })
    ]

pub returns-clause-order : goal.returns-clause-order
returns-clause-order c = λ k before. later_than c.args.bytes.now k c.args.offset c.loop-byte.byte-index _ _ before c.requires.within (omega (arith, length-take c.args.offset c.args.bytes.now)) c.loop-byte.invariant.line c.loop-byte.invariant.column
