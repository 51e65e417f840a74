-- How high the trees of a text are, and how many nodes a widget begins with.
use Rattle.std.proofs.Common.{◌≡◌, ℕ, ◌+◌, ◌<◌, ◌≤◌, List, [], ◌∷◌, Bool, true, false, nat_lt, refl, ap, arith, if◌then◌else◌, inl, inr}
use Rattle.std.proofs.lemmas.Bool.Decides.{nat_tests}
use Rattle.std.specs.Prelude.{max}
use Rattle.first_breach.specs.Breaches.{IsClean, Each}
use Rattle.first_breach.specs.Lists as lists
use Rattle.markup_grammar.specs.Signs.{Char}
use Rattle.markup_grammar.specs.Markup.{MarkupSpells}
use Rattle.markup_grammar.specs.Grammar.{limit, Thing, Content, Closed, Element, Spells}
use Rattle.markup_grammar.specs.Grammar.Spells.{no_text, and_text, nothing, and_element, void_element, void_slash, script, element}
use Rattle.plain_tree.specs.declared.plain.Plain.{Plain}
use Rattle.plain_tree.specs.Trees.{Trees, End, Node, TextOf, ElementOf, beside, unmarked, size, height}
use Rattle.plain_tree.specs.Plains.{Places, placed, unplaced, text_node}
use Rattle.markup_rules.specs.Elements as rules
use Rattle.markup_rules.specs.Elements.{roots, body_of, before_scripts, is_div, is_script}
use Rattle.markup_rules.specs.Rows.{RootRows, IsGood, node_limit}
use Rattle.page_plan.specs.Loadable.{most_high, most_of_widget}

-- ## Heights

height_both : {M : Type 0} (a b : Trees M) → height (beside a b) ≡ max (height a) (height b)
height_both End b = omega arith
height_both (Node m l ks ts) b = omega (arith, height_both ts b)

pub height_unmarked : {M : Type 0} (ts : Trees M) → height (unmarked ts) ≡ height ts
height_unmarked End = refl
height_unmarked (Node m l ks ts) = omega (arith, height_unmarked ks, height_unmarked ts)

pub size_unmarked : {M : Type 0} (ts : Trees M) → size (unmarked ts) ≡ size ts
size_unmarked End = refl
size_unmarked (Node m l ks ts) = omega (arith, size_unmarked ks, size_unmarked ts)

below : (d : ℕ) → nat_lt d limit ≡ true → d < 200
unfolding limit
below d few = grind (arith, nat_tests)

-- below so many elements, with those above it
abbrev Low : Thing → Type 0
Low (Content d ts) = d ≤ 200 → height ts + d ≤ 201
Low (Closed d ts) = d ≤ 200 → height ts + d ≤ 201
Low (Element d ts) = height ts + d ≤ 201

low : {t : Thing} {cs rest : List Char} → Spells t cs rest → Low t
low (no_text s) = low s
low (and_text {ts = ts} {us = us} {at = at} s t) = λ within. omega (arith, height_both ts (text_node us at), low s within)
low nothing = λ within. omega (arith, within)
low (and_element {ts = ts} {e = e} c s) = λ within. omega (arith, height_both ts e, low c within, low s)
low (void_element {d = d} few h void) = omega (arith, below d few)
low (void_slash {d = d} few h void) = omega (arith, below d few)
low (script {d = d} few h void is raw w) = omega (arith, below d few)
low (element {d = d} {ts = ts} few h void is c w bs) = omega (arith, below d few, low c (below d few))

-- the trees of a text
pub spelled_low : (bytes : List ℕ) (ts : Trees Places) → MarkupSpells bytes ts → height ts ≤ most_high
spelled_low bytes ts spelled = omega (arith, low spelled.1 (omega arith))

-- ## The body of a widget

front_low : (ts : Trees Places) → height (before_scripts ts) ≤ height ts
front_low End = omega arith
front_low (Node m (TextOf us) ks ts) = omega (arith, front_low ts)
front_low (Node m (ElementOf tag attrs) ks ts) = by (is_script tag) (front_low ts)
  where
    by : (b : Bool) → height (before_scripts ts) ≤ height ts → height (if b then End else Node m (ElementOf tag attrs) ks (before_scripts ts)) ≤ height (Node m (ElementOf tag attrs) ks ts)
    by true rest = omega arith
    by false rest = omega (arith, rest)

body_low : (ts : Trees Places) → height (body_of ts) ≤ height ts
body_low End = omega arith
body_low (Node m (TextOf us) ks ts) = omega (arith, body_low ts)
body_low (Node m (ElementOf tag attrs) ks ts) = by (is_div tag) (front_low ks) (body_low ts)
  where
    by : (b : Bool) → height (before_scripts ks) ≤ height ks → height (body_of ts) ≤ height ts → height (if b then Node m (ElementOf tag attrs) (before_scripts ks) End else body_of ts) ≤ height (Node m (ElementOf tag attrs) ks ts)
    by true front rest = omega (arith, front)
    by false front rest = omega (arith, rest)

-- a root that breaks no rule has few nodes before its scripts
root_few : (name : List ℕ) (root : rules.Element) → IsClean (Each (RootRows name) (root ∷ [])) → size (before_scripts root.kids) + 1 ≤ node_limit
root_few name root clean = by (nat_lt node_limit (size (before_scripts root.kids) + 1)) refl
  where
    by : (b : Bool) → nat_lt node_limit (size (before_scripts root.kids) + 1) ≡ b → size (before_scripts root.kids) + 1 ≤ node_limit
    by true is = absurd (clean 12 root.at (record { item = root; is_in = lists.here; broken = inr (inr (inr (record { passed = is; broken = record { same_rule = refl; same_place = refl } }))) }))
    by false is = grind (arith, nat_tests)

body_few : (name : List ℕ) (ts : Trees Places) → IsClean (Each (RootRows name) (roots ts)) → size (body_of ts) ≤ node_limit
body_few name End clean = omega arith
body_few name (Node m (TextOf us) ks ts) clean = body_few name ts clean
body_few name (Node m (ElementOf tag attrs) ks ts) clean = by (is_div tag) (body_few name ts) clean
  where
    by : (b : Bool) → (IsClean (Each (RootRows name) (roots ts)) → size (body_of ts) ≤ node_limit) → IsClean (Each (RootRows name) (if b then rules.element m tag attrs ks ∷ [] else roots ts)) → size (if b then Node m (ElementOf tag attrs) (before_scripts ks) End else body_of ts) ≤ node_limit
    by true rest all = omega (arith, root_few name (rules.element m tag attrs ks) all)
    by false rest all = rest all

module _ (name : List ℕ) (keys : List (List ℕ)) (bytes : List ℕ) (file : Trees Places) (body : Plain) (is : placed body ≡ body_of file) where
  pub widget_low : MarkupSpells bytes file → height (unplaced body) ≤ most_high
  widget_low spelled = omega (arith, height_unmarked (placed body), ap height is, body_low file, spelled_low bytes file spelled)

  pub widget_few : IsGood name keys file → size (unplaced body) ≤ most_of_widget
  widget_few good = omega (arith, size_unmarked (placed body), ap size is, body_few name file (λ r p broken. good r p (inr (inl broken))))
