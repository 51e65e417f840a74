use Rattle.std.proofs.Common.{◌≡◌, sym, ◌∙◌, ap, []}
use Rattle.std.specs.Prelude.{option_copied}
use Rattle.query_walks.specs.Finds.{finds}
use Rattle.query_walks.proofs.Members.{first_has, no_first, finds_none}
use Rattle.query_lang.proofs.finder.find.Goals as goal

pub owner-requires : goal.owner-requires
owner-requires c = c.requires c.in-Some.first.now (first_has c.args.starts.now c.in-Some.first.now (sym c.first.ensures.value ∙ ap option_copied c.in-Some.is))

pub returns-in-None : goal.returns-in-None
returns-in-None c =
    let none : c.args.starts.now ≡ [] = no_first c.args.starts.now (sym c.first.ensures.value ∙ ap option_copied c.in-None.is) in
    λ o owned. c.new.ensures.items ∙ sym (ap (λ l. finds c.args.page.now o c.args.focus l c.args.query.now) none ∙ finds_none c.args.page.now o c.args.focus c.args.query.now)
