use Rattle.std.proofs.Common.{◌≡◌, ℕ, true, map, sym, ap, ◌∙◌}
use Rattle.code_units.specs.declared.owner.Owner.TheVariants as owner
use Rattle.query_grammar.specs.Finds.{has_number}
use Rattle.query_lang.specs.Finds as found
use Rattle.widget_meaning.specs.Queries.{finds}
use Rattle.page_image.specs.Image.{owns, number}
use Rattle.page_image.proofs.Pages.{is_node, is_widget}
use Rattle.page_image.proofs.Results.{if_ok_then}
use Rattle.bunch_read.proofs.Seen.{are_owned, finds_image, found_image}
use Rattle.bunch_read.proofs.queries.find.Goals as goal

pub find-requires : goal.find-requires
find-requires c = λ n h. is_node c.args.page.now c.args.widget n (c.requires.starts n h)

pub returns-clause-image : goal.returns-clause-image
returns-clause-image c =
    let p = c.args.page.now in
    let w = c.args.widget in
    λ s there seen. if_ok_then c.find.result (λ list. list.items ≡ found.finds p (owner.Widget w) c.args.focus c.args.starts.now c.args.query.now) (λ list. map (number p w) list.items ≡ finds s (map (number p w) c.args.starts.now) c.args.query.now)
    (λ list e. ap (map (number p w)) e ∙ sym (finds_image p w s c.args.focus c.args.starts.now c.args.query.now (is_widget w c.requires.widget) c.requires.starts c.requires.focus there seen))
    (c.find.ensures (owner.Widget w) (are_owned p w c.args.starts.now c.requires.starts))

pub returns-clause-own : goal.returns-clause-own
returns-clause-own c =
    let p = c.args.page.now in
    let w = c.args.widget in
    if_ok_then c.find.result (λ list. list.items ≡ found.finds p (owner.Widget w) c.args.focus c.args.starts.now c.args.query.now) (λ list. (n : ℕ) → has_number list.items n ≡ true → owns p w n ≡ true)
    (λ list e n h. found_image p w c.args.focus c.args.starts.now c.args.query.now (is_widget w c.requires.widget) c.requires.starts n (sym (ap (λ l. has_number l n) e) ∙ h))
    (c.find.ensures (owner.Widget w) (are_owned p w c.args.starts.now c.requires.starts))
