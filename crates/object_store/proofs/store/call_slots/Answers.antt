use Rattle.std.proofs.Common.{◌≡◌, length, rules}
use Rattle.object_store.proofs.Fills.{slots_none, slots_own}
use Rattle.object_store.proofs.store.call_slots.Goals as goal

pub returns-in-None : goal.returns-in-None
returns-in-None c =
    let first = c.args.first.now in
    let len : c.len.result ≡ length first.names.now.items = search rules in
    slots_none first.names.now.items first.args.now first.own.now first.func.now c.len.result len c.in-None.is

pub returns-in-Some : goal.returns-in-Some
returns-in-Some c =
    let first = c.args.first.now in
    let len : c.len-in-Some.result ≡ length first.names.now.items = search rules in
    slots_own first.names.now.items first.args.now first.own.now first.func.now c.len-in-Some.result len _ c.in-Some.is
