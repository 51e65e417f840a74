use Rattle.std.proofs.Common.{◌∙◌, ◌++◌, ◌∷◌, [], ap, sym}
use Rattle.store_cells.specs.First.{own_value}
use Rattle.store_cells.specs.Numbered.{named}
use Rattle.store_table.proofs.Scoped.{named_one}
use Rattle.store_table.proofs.scopes.list_with_own.Goals as goal

pub returns-in_ok-share-in-Some-clause-done : goal.returns-in_ok-share-in-Some-clause-done
returns-in_ok-share-in-Some-clause-done c =
    let n = c.in_ok-n-in-Some.n in
    let v = c.in_ok-share-in-Some.field-0 in
    let f = c.args.func.now in
    let es = c.args.list.items in
    let ps = named c.args.table.now es in
    let push = c.push_reserved.ensures.items ∙ ap (λ l. l ++ (n, v) ∷ []) c.reserve.ensures.items in
    named_one c.args.table.now c.number_of.new.names c.in-Some.name n c.in_ok-n-in-Some.ensures.new es c.push_reserved.new.self.items v c.requires.known push
    ∙ ap (λ x. ps ++ (c.in-Some.name, x) ∷ []) c.in_ok-share-in-Some.ensures
    ∙ ap (λ o. ps ++ own_value o f) (sym c.in-Some.is)
