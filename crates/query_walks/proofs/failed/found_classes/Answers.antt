use Rattle.std.proofs.Common.{◌≡◌, ◌∙◌, sym, ap, subst, ℕ, List, Option, Some, IfOk, false, length, replicate, map}
use Rattle.std.specs.Prelude.{option_copied}
use Rattle.query_grammar.specs.Filters.{is_among}
use Rattle.query_walks.proofs.Found.{none_has}
use Rattle.query_walks.proofs.failed.found_classes.Goals as goal

pub returns-in-Some : goal.returns-in-Some
returns-in-Some c = subst (λ (o : Option (List ℕ)). IfOk c.found_words.result (λ found. found.items ≡ map (is_among o) c.args.wanted.now.keys))
    (ap Some c.units.ensures ∙ sym (ap option_copied c.in-Some.is) ∙ c.attr_of_word.ensures) c.found_words.ensures

pub returns-in_ok-vec-in-None : goal.returns-in_ok-vec-in-None
returns-in_ok-vec-in-None c =
    let ks = c.args.wanted.now.keys in
    c.in_ok-vec-in-None.ensures.items_if_clones_equal (λ y h. h) ∙ ap (λ n. replicate n false) c.len.ensures.len
    ∙ subst (λ (o : Option (List ℕ)). replicate (length ks) false ≡ map (is_among o) ks) (sym (ap option_copied c.in-None.is) ∙ c.attr_of_word.ensures) (none_has ks)
