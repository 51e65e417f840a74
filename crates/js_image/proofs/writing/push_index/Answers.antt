use Rattle.std.specs.Fmt.{decimal}
use Rattle.js_image.proofs.Named.{decimal_permitted}
use Rattle.js_image.proofs.Pushes.{push_kept, pushed_at}
use Rattle.js_image.proofs.writing.push_index.Goals as goal

pub returns-in-Ok-clause-done : goal.returns-in-Ok-clause-done
returns-in-Ok-clause-done c = λ fs r. pushed_at fs r c.args.w c.args.store.now c.put_index_paid.new.self c.args.array c.args.at c.args.value c.requires.below c.requires.held c.in-Ok.ensures.ok (c.in-Ok.ensures.own c.args.w)

pub returns-in-Ok-clause-kept : goal.returns-in-Ok-clause-kept
returns-in-Ok-clause-kept c = λ fs. push_kept fs c.args.w c.args.store.now c.put_index_paid.new.self c.lawful.ensures (decimal c.args.at) c.args.value c.args.array c.requires.held c.requires.value (decimal_permitted c.args.at) c.in-Ok.ensures.ok (c.in-Ok.ensures.own c.args.w) c.in-Ok.ensures.grows c.in-Ok.ensures.others
