use Rattle.std.proofs.Common.{subst, sym}
use Rattle.code_units.specs.Permitted.{IsPermitted}
use Rattle.object_store.specs.Calls.{IsPutPaid}
use Rattle.object_store.specs.Owned.{Changed, own_put, own_value}
use Rattle.js_image.proofs.Named.{decimal_permitted}
use Rattle.js_image.proofs.Pushes.{push_kept, pushed_at}
use Rattle.js_image.proofs.writing.push_named.Goals as goal

pub returns-in-Ok-clause-done : goal.returns-in-Ok-clause-done
returns-in-Ok-clause-done c = λ fs r. pushed_at fs r c.args.w c.args.store.now c.put_paid.new.self c.args.array c.args.at c.args.value c.requires.below c.requires.held
    (subst (λ x. IsPutPaid c.args.store.now c.put_paid.new.self c.args.array x c.args.value) c.in_ok-name.ensures c.in-Ok.ensures.ok)
    (λ v. subst (λ x. Changed c.args.w c.args.store.now c.put_paid.new.self c.args.array 0 (own_put x (own_value c.args.w c.args.store.now.cells c.args.value))) c.in_ok-name.ensures (c.in-Ok.ensures.own c.args.w v))

pub returns-in-Ok-clause-kept : goal.returns-in-Ok-clause-kept
returns-in-Ok-clause-kept c = λ fs. push_kept fs c.args.w c.args.store.now c.put_paid.new.self c.lawful.ensures c.in_ok-name.name c.args.value c.args.array c.requires.held c.requires.value (subst IsPermitted (sym c.in_ok-name.ensures) (decimal_permitted c.args.at)) c.in-Ok.ensures.ok (c.in-Ok.ensures.own c.args.w) c.in-Ok.ensures.grows c.in-Ok.ensures.others
