-- Texts that may stand in a page so far, and where they stop.
use Rattle.std.proofs.Common.{◌≡◌, ℕ, zero, suc, ◌+◌, ◌<◌, ◌≤◌, List, [], ◌∷◌, ◌++◌, length, take, get_or, Option, Some, None, sum_by, inl, inr, refl, sym, ap, subst, ◌∙◌, arith}
use Rattle.std.proofs.lemmas.Grind.{common_steps}
use Rattle.std.proofs.lemmas.Bool.{cases_lt}
use Rattle.std.proofs.lemmas.List.{take_more, take-take}
use Rattle.std.proofs.lemmas.List.Sums.{sum_by-cons, sum_by_push}
use Rattle.markup_grammar.proofs.Answers.{one_reading}
use Rattle.plain_tree.specs.Trees.{Trees, size}
use Rattle.plain_tree.specs.Plains.{Places}
use Rattle.json_shapes.specs.Each.{Each, none_left, one_each}
use Rattle.json_shapes.proofs.EachLemmas.{each_more}
use Rattle.manifest_reader.specs.Page.{node_limit}
use Rattle.manifest_reader.specs.Html.{IsHtmlOf, AreHtml, IsLongestHtml}

-- the first i texts may stand in a page, and so many nodes more
pub record HtmlSoFar (texts : List (Option (List ℕ))) (i room : ℕ) : Type 0 where
  pub trees : List (Trees Places)
  pub each : Each IsHtmlOf (take i texts) trees
  pub nodes : sum_by size trees + room ≡ node_limit

pub no_html_yet : (texts : List (Option (List ℕ))) → HtmlSoFar texts 0 node_limit
no_html_yet texts = record { trees = []; each = none_left; nodes = refl }

-- one text more
pub html_more : (texts : List (Option (List ℕ))) (i : ℕ) (t : Option (List ℕ)) (room left : ℕ) (here : Trees Places) → i < length texts → t ≡ get_or texts i t → HtmlSoFar texts i room → IsHtmlOf t here → left + size here ≡ room → HtmlSoFar texts (i + 1) left
html_more texts i t room left here within is so_far reads rest =
    let more : take (i + 1) texts ≡ take i texts ++ t ∷ [] = take_more texts i t within ∙ ap (λ w. take i texts ++ w ∷ []) (sym is) in
    let sum = sum_by_push size so_far.trees here in
    let before = so_far.nodes in
    record {
      trees = so_far.trees ++ here ∷ [];
      each = subst (λ ts. Each IsHtmlOf ts (so_far.trees ++ here ∷ [])) (sym more) (each_more IsHtmlOf (take i texts) so_far.trees t here so_far.each reads);
      nodes = omega arith;
    }

one_tree : (t : Option (List ℕ)) (a b : Trees Places) → IsHtmlOf t a → IsHtmlOf t b → a ≡ b
one_tree None a b left right = left ∙ sym right
one_tree (Some text) a b left right = one_reading text a b left.spells right.spells

-- more nodes than there is room for
over : (texts : List (Option (List ℕ))) (i : ℕ) (t : Option (List ℕ)) (room : ℕ) (mine theirs : List (Trees Places)) → i < length texts → t ≡ get_or texts i t → Each IsHtmlOf (take i texts) mine → Each IsHtmlOf texts theirs → ((trees : Trees Places) → IsHtmlOf t trees → room < size trees) → sum_by size mine + room < sum_by size theirs
over [] i t room mine theirs within is each all bad = absurd (omega arith)
over (x ∷ xs) i t room mine [] within is each all bad = elim all [ ]
over (x ∷ xs) zero t room (a ∷ mine) (b ∷ theirs) within is each all bad = elim each [ ]
over (x ∷ xs) zero t room [] (b ∷ theirs) within is none_left (one_each first rest) bad =
    let more = bad b (subst (λ o. IsHtmlOf o b) (sym is) first) in
    let sum = sum_by-cons size b theirs in
    omega arith
over (x ∷ xs) (suc i) t room [] (b ∷ theirs) within is each all bad = elim each [ ]
over (x ∷ xs) (suc i) t room (a ∷ mine) (b ∷ theirs) within is (one_each here later) (one_each first rest) bad =
    let same = ap size (one_tree x a b here first) in
    let more = over xs i t room mine theirs (omega arith) is later rest bad in
    let left = sum_by-cons size a mine in
    let right = sum_by-cons size b theirs in
    omega arith

pub html_so_far : (texts : List (Option (List ℕ))) (i room : ℕ) → HtmlSoFar texts i room → AreHtml (take i texts)
html_so_far texts i room so_far =
    let nodes = so_far.nodes in
    record { trees = so_far.trees; each = so_far.each; nodes = omega arith }

-- they stop at a text that may not stand there
pub html_stops : (texts : List (Option (List ℕ))) (i : ℕ) (t : Option (List ℕ)) (room : ℕ) → i < length texts → t ≡ get_or texts i t → HtmlSoFar texts i room → ((trees : Trees Places) → IsHtmlOf t trees → room < size trees) → IsLongestHtml texts i
html_stops texts i t room within is so_far bad =
    record {
      within = omega arith;
      good = html_so_far texts i room so_far;
      longest = λ m fits good. elim (cases_lt i m) as (λ _. m ≤ i) [
        | inl lt ↦ (
            let long : i < length (take m texts) = grind (arith, common_steps) in
            let same : get_or (take m texts) i t ≡ get_or texts i t = grind (arith, common_steps) in
            let front : take i (take m texts) ≡ take i texts = take-take i m texts (omega arith) in
            let nodes = so_far.nodes in
            let few = good.nodes in
            let more = over (take m texts) i t room so_far.trees good.trees long (is ∙ sym same) (subst (λ ts. Each IsHtmlOf ts so_far.trees) (sym front) so_far.each) good.each bad in
            absurd (omega arith))
        | inr ge ↦ ge
      ];
    }

-- all of them may
pub html_whole : (texts : List (Option (List ℕ))) (i room : ℕ) → length texts ≤ i → i ≤ length texts → HtmlSoFar texts i room → IsLongestHtml texts i
html_whole texts i room whole within so_far =
    record { within = within; good = html_so_far texts i room so_far; longest = λ m fits good. omega arith }
