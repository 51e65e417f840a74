use Rattle.std.proofs.Common.{◌∙◌, ◌++◌, ◌∷◌, [], ℕ, List, ap, arith, eqb, length, length-append, subst, sym}
use Rattle.std.specs.List.{IsDistinct}
use Rattle.std.specs.Map.{keys_of, lookup}
use Rattle.pair_table.specs.Pairs.{Pairs}
use Rattle.pair_table.proofs.Places.{distinct_push, insert_last}
use Rattle.pair_table.proofs.few.FewPairs.push.Goals as goal

pub invariant_of-self-2 : goal.invariant_of-self-2
invariant_of-self-2 g c =
    let es = c.self.inside.list.items in
    let none = ap (λ (p : Pairs g.row.V.Denot). lookup (eqb c.args.n) p.entries) c.self.view_is ∙ c.requires in
    subst (λ (l : List (ℕ × g.row.V.Denot)). IsDistinct eqb (keys_of l)) (sym (c.push_reserved.ensures.items ∙ ap (λ (l : List (ℕ × g.row.V.Denot)). l ++ (c.args.n, c.args.value) ∷ []) c.in_ok-make_room.ensures.items)) (distinct_push c.args.n c.args.value es c.self.invariant none)

pub returns-clause-entries : goal.returns-clause-entries
returns-clause-entries g c =
    c.push_reserved.ensures.items
    ∙ ap (λ (l : List (ℕ × g.row.V.Denot)). l ++ (c.args.n, c.args.value) ∷ []) (c.in_ok-make_room.ensures.items ∙ ap (λ (p : Pairs g.row.V.Denot). p.entries) c.self.view_is)
    ∙ insert_last c.args.n c.args.value c.args.self.now.entries c.requires

pub returns-clause-spare : goal.returns-clause-spare
returns-clause-spare g c =
    let was = ap (λ (p : Pairs g.row.V.Denot). p.spare) c.self.view_is in
    let long = ap length c.push_reserved.ensures.items ∙ length-append c.make_room.new.list.items ((c.args.n, c.args.value) ∷ []) in
    let same = ap length c.in_ok-make_room.ensures.items in
    omega (arith, was, long, same, c.in_ok-make_room.ensures.capacity, c.push_reserved.ensures.capacity)
