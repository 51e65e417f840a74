use Rattle.std.proofs.Common.{◌≡◌, ap, ◌∙◌, arith, length, ◌++◌, cond, eq-eqb, refl, set, reverse}
use Rattle.page_nodes.specs.Entries.{at, entries}
use Rattle.page_nodes.specs.Many.{last_ones}
use Rattle.page_nodes.proofs.AtOnce.{turned_children, hung_at_once}
use Rattle.page_nodes.proofs.many.hang_all.Goals as goal

pub returns : goal.returns
returns c =
    let k = entries c.args.rows.now.items in
    let d = entries c.hang_back.new.rows.items in
    let t = c.args.target in
    let all : (at d t).children ≡ (at k t).children ++ reverse (last_ones c.args.nodes.now) = c.hang_back.ensures.children t ∙ ap (λ b. cond b ((at k t).children ++ reverse (last_ones c.args.nodes.now)) (at k t).children) (eq-eqb t t refl) in
    hung_at_once k d _ t c.args.next c.args.nodes.now c.requires.target c.hang_back.ensures
    (c.turn_children.ensures ∙ ap (λ l. set d t (record (at d t) { children = l })) (turned_children c.args.next (last_ones c.args.nodes.now) (at k t).children c.deref.result.now (at d t).children c.place_of-place.result c.len-first.result (c.deref.ensures.value ∙ c.children_of.ensures) (omega (arith, c.len-first.ensures, ap length c.children_of-2.ensures)) all c.place_of-place.ensures.bound c.place_of-place.ensures.first c.place_of-place.ensures.found))
