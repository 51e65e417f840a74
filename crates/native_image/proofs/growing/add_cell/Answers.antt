use Rattle.std.proofs.Common.{ap, refl}
use Rattle.std.specs.Prelude.{is_some}
use Rattle.js_image.proofs.Grown.{kept_same}
use Rattle.native_image.proofs.Added.{raw_kept}
use Rattle.native_image.proofs.growing.add_cell.Goals as goal

pub returns-then-node-ge-NODE_LIMIT-clause-kept : goal.returns-then-node-ge-NODE_LIMIT-clause-kept
returns-then-node-ge-NODE_LIMIT-clause-kept c = λ fs w. kept_same fs w c.args.store.now c.args.store.now refl

pub returns-in-Ok-clause-there : goal.returns-in-Ok-clause-there
returns-in-Ok-clause-there c = ap is_some c.in-Ok.ensures.found

pub returns-in-Ok-clause-kept : goal.returns-in-Ok-clause-kept
returns-in-Ok-clause-kept c = λ fs w. raw_kept fs w c.args.store.now c.add_raw.new.self c.args.node c.in-Ok.field-0 c.in-Ok.ensures.ok c.add_raw.ensures.grows c.add_raw.ensures.others

pub returns-in-Err-clause-kept : goal.returns-in-Err-clause-kept
returns-in-Err-clause-kept c = λ fs w. kept_same fs w c.args.store.now c.add_raw.new.self c.in-Err.ensures.err
