use Rattle.std.proofs.Common.{◌∙◌, ◌∷◌, [], ℕ, List, ap, arith, eqb, length-append, sym}
use Rattle.std.proofs.lemmas.Iterator.Adapters.{YieldsList-from_vec}
use Rattle.std.proofs.lemmas.Iterator.Consumers.{YieldsList-so_far, YieldsList-turn}
use Rattle.indexmap.specs.IndexMap.{insert_entry}
use Rattle.pair_table.proofs.Places.{insert_last, new_number}
use Rattle.pair_table.proofs.few.insert_all.Goals as goal

pub loop-n-preserved-in-Ok : goal.loop-n-preserved-in-Ok
loop-n-preserved-in-Ok g c =
    let l = c.loop-n in
    let gives = c.into_iter-n-iterator.ensures.into_iter_gives in
    let road = YieldsList-from_vec c.args.list.items gives.0 (gives.1 ∙ c.args.list.ok.0) in
    let turn = YieldsList-turn road l.yielded l.n-iterator l.yielded_by c.next.result c.next.new.self (c.in-Some.n, c.in-Some.value) c.in-Some.is c.next.ensures.steps in
    let none = new_number c.args.list.items l.yielded (c.in-Some.n, c.in-Some.value) c.requires.distinct (YieldsList-so_far road l.yielded l.n-iterator l.yielded_by) turn in (
      c.in-Ok.ensures.entries ∙ ap (λ (es : List (ℕ × g.row.V.Denot)). insert_entry eqb es c.in-Some.n c.in-Some.value) l.invariant.0 ∙ sym (insert_last c.in-Some.n c.in-Some.value l.yielded none),
      omega (arith, l.invariant.1, c.in-Ok.ensures.spare, length-append l.yielded ((c.in-Some.n, c.in-Some.value) ∷ [])),
    )

pub loop-n-preserved-in-Ok-2 : goal.loop-n-preserved-in-Ok-2
loop-n-preserved-in-Ok-2 g c =
    let l = c.loop-n in
    let gives = c.into_iter-n-iterator.ensures.into_iter_gives in
    let road = YieldsList-from_vec c.args.list.items gives.0 (gives.1 ∙ c.args.list.ok.0) in
    let turn = YieldsList-turn road l.yielded l.n-iterator l.yielded_by c.next.result c.next.new.self (c.in-Some.n, c.in-Some.value) c.in-Some.is c.next.ensures.steps in
    let none = new_number c.args.list.items l.yielded (c.in-Some.n, c.in-Some.value) c.requires.distinct (YieldsList-so_far road l.yielded l.n-iterator l.yielded_by) turn in (
      c.in-Ok.ensures.entries ∙ ap (λ (es : List (ℕ × g.row.V.Denot)). insert_entry eqb es c.in-Some.n c.in-Some.value) l.invariant.0 ∙ sym (insert_last c.in-Some.n c.in-Some.value l.yielded none),
      omega (arith, l.invariant.1, c.in-Ok.ensures.spare, length-append l.yielded ((c.in-Some.n, c.in-Some.value) ∷ [])),
    )
