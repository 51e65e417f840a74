use Rattle.std.proofs.Common.{arith, refl}
use Rattle.js_image.proofs.Grown.{kept_same}
use Rattle.native_image.proofs.Added.{keeps_grown, so_many, sound_grown}
use Rattle.native_image.proofs.Keeping.{keeps_paged}
use Rattle.native_image.proofs.growing.copy_tree.Goals as goal

pub overflow_sub-many : goal.overflow_sub-many
overflow_sub-many c =
    omega (
      arith,
      c.made-before.ensures.exact,
      c.made.ensures.exact,
      so_many c.args.w.index c.args.page.now c.copy_plain.new.page c.in_ok-id.id _ _ c.in_ok-id.ensures.grown,
    )

pub returns-clause-sound : goal.returns-clause-sound
returns-clause-sound c =
    sound_grown c.args.w.index c.args.w.small c.args.store.now c.add_cells.new.store c.args.page.now c.copy_plain.new.page c.in_ok-id.id _ _ c.in_ok-id.ensures.grown (λ fs. c.add_cells.ensures.kept fs c.args.w.index)
    (λ n le lt.
    c.in_ok-add_cells.ensures.there n le
    (omega (
      arith,
      lt,
      c.made-before.ensures.exact,
      c.made.ensures.exact,
      so_many c.args.w.index c.args.page.now c.copy_plain.new.page c.in_ok-id.id _ _ c.in_ok-id.ensures.grown,
    )))

pub returns-clause-kept : goal.returns-clause-kept
returns-clause-kept c = keeps_grown c.args.w.index c.args.w.small c.args.store.now c.add_cells.new.store c.args.page.now c.copy_plain.new.page c.in_ok-id.id _ _ c.in_ok-id.ensures.grown (λ fs. c.add_cells.ensures.kept fs c.args.w.index)

pub returns-in_err-add_cells-clause-kept : goal.returns-in_err-add_cells-clause-kept
returns-in_err-add_cells-clause-kept c = keeps_grown c.args.w.index c.args.w.small c.args.store.now c.add_cells.new.store c.args.page.now c.copy_plain.new.page c.in_ok-id.id _ _ c.in_ok-id.ensures.grown (λ fs. c.add_cells.ensures.kept fs c.args.w.index)

pub returns-clause-store : goal.returns-clause-store
returns-clause-store c = λ fs. c.add_cells.ensures.kept fs c.args.w.index

pub returns-in_err-add_cells-clause-store : goal.returns-in_err-add_cells-clause-store
returns-in_err-add_cells-clause-store c = λ fs. c.add_cells.ensures.kept fs c.args.w.index

pub returns-in_err-id-clause-store : goal.returns-in_err-id-clause-store
returns-in_err-id-clause-store c = λ fs. kept_same fs c.args.w.index c.args.store.now c.args.store.now refl

pub returns-in_err-id-clause-kept : goal.returns-in_err-id-clause-kept
returns-in_err-id-clause-kept c = λ l holds.
    keeps_paged c.args.w.index c.args.w.small c.args.store.now c.args.store.now c.args.page.now c.copy_plain.new.page l holds (λ fs. kept_same fs c.args.w.index c.args.store.now c.args.store.now refl) c.in_err-id.ensures.kept c.in_err-id.ensures.others c.in_err-id.ensures.host
