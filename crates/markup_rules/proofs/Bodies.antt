-- What stands before the scripts of a root, and how much it is.
use Rattle.std.proofs.Common.{◌≡◌, ℕ, ◌+◌, ◌<◌, ◌≤◌, Bool, true, false, List, [], ◌∷◌, refl, sym, ap, ◌∙◌, subst, cond, length, get_or, drop, take, map, arith}
use Rattle.std.specs.Prelude.{MatchBool, nat_lt}
use Rattle.std.proofs.lemmas.Bool.Decides.{Decides-ltb}
use Rattle.std.proofs.lemmas.List.{at_drop_more, at_drop_all}
use Rattle.plain_tree.specs.declared.plain.Plain.{Plain}
use Rattle.plain_tree.specs.Trees.{Trees, ElementOf, End, Node, beside, size}
use Rattle.plain_tree.specs.Plains.{Places, placed, placed_all, element_node, places_of, attribute_of}
use Rattle.markup_rules.specs.declared.part.Part.{Part}
use Rattle.markup_rules.specs.Elements.{body_of, Element, is_div, is_script, before_scripts}
use Rattle.markup_rules.specs.Parts.{IsText, IsElement, StaysInBody, EndsBody}
use Rattle.markup_rules.proofs.Nodes.{size_beside}
use Rattle.std.specs.List.{take-map}
use Rattle.markup_rules.specs.Rows.{before_last}
use Rattle.markup_rules.specs.Parts.{element_of}
use Rattle.std.proofs.Common.{◌-◌, suc}

-- ## Bodies

body_here : (p : Part) (t ts : Trees Places) (b : Bool) → IsElement p t → is_div p.tag.now ≡ b → body_of (beside t ts) ≡ cond b (element_node p.tag.now p.attrs.now (before_scripts (placed_all p.children.now)) p.at) (body_of ts)
body_here p t ts b e is = subst (λ x. body_of (beside x ts) ≡ cond b (element_node p.tag.now p.attrs.now (before_scripts (placed_all p.children.now)) p.at) (body_of ts)) (sym e)
    (ap (λ c. cond c (element_node p.tag.now p.attrs.now (before_scripts (placed_all p.children.now)) p.at) (body_of ts)) is)

pub body_pass : (p : Part) (b : Bool) (xs : List Plain) (i : ℕ) (x : Plain) → i < length xs → x ≡ get_or xs i x → IsElement p (placed x) → is_div p.tag.now ≡ b → body_of (placed_all (drop i xs)) ≡ cond b (element_node p.tag.now p.attrs.now (before_scripts (placed_all p.children.now)) p.at) (body_of (placed_all (drop (i + 1) xs)))
body_pass p b xs i x lt ex e is =
    let rest = placed_all (drop (i + 1) xs) in
    ap body_of (at_drop_more placed_all xs i x lt ∙ ap (λ y. beside (placed y) rest) (sym ex)) ∙ body_here p (placed x) rest b e is

-- ## What stands before the scripts

pub stays_text : (t : Trees Places) → IsText t → StaysInBody t
stays_text t h = subst StaysInBody (sym h.same) (λ ts. refl)

pub stays_or_ends : (r : Bool) (p : Part) (t : Trees Places) → IsElement p t → r ≡ is_script p.tag.now → MatchBool r (EndsBody t) (StaysInBody t)
stays_or_ends true p t e is = subst EndsBody (sym e) (λ ts. ap (λ b. cond b End (Node (record { at = p.at; attrs = map places_of p.attrs.now }) (ElementOf p.tag.now (map attribute_of p.attrs.now)) (placed_all p.children.now) (before_scripts ts))) (sym is))
stays_or_ends false p t e is = subst StaysInBody (sym e) (λ ts. ap (λ b. cond b End (Node (record { at = p.at; attrs = map places_of p.attrs.now }) (ElementOf p.tag.now (map attribute_of p.attrs.now)) (placed_all p.children.now) (before_scripts ts))) (sym is))

pub before_at : (xs : List Plain) (i : ℕ) (x : Plain) → i < length xs → x ≡ get_or xs i x → before_scripts (placed_all (drop i xs)) ≡ before_scripts (beside (placed x) (placed_all (drop (i + 1) xs)))
before_at xs i x lt ex = ap before_scripts (at_drop_more placed_all xs i x lt ∙ ap (λ y. beside (placed y) (placed_all (drop (i + 1) xs))) (sym ex))

-- ## How many nodes

pub room_more : (xs : List Plain) (i : ℕ) (x : Plain) (left rest : ℕ) → i < length xs → x ≡ get_or xs i x → StaysInBody (placed x) → rest + size (placed x) ≡ left → left + size (before_scripts (placed_all xs)) ≡ 16383 + size (before_scripts (placed_all (drop i xs))) → rest + size (before_scripts (placed_all xs)) ≡ 16383 + size (before_scripts (placed_all (drop (i + 1) xs)))
room_more xs i x left rest lt ex stays sum inv =
    let e = ap size (before_at xs i x lt ex ∙ stays (placed_all (drop (i + 1) xs))) ∙ size_beside (placed x) (before_scripts (placed_all (drop (i + 1) xs))) in
    omega (arith, e, sum, inv)

pub room_ends : (xs : List Plain) (i : ℕ) (x : Plain) (left : ℕ) → i < length xs → x ≡ get_or xs i x → EndsBody (placed x) → left + size (before_scripts (placed_all xs)) ≡ 16383 + size (before_scripts (placed_all (drop i xs))) → size (before_scripts (placed_all xs)) + 1 ≤ 16384
room_ends xs i x left lt ex ends inv =
    let e = ap size (before_at xs i x lt ex ∙ ends (placed_all (drop (i + 1) xs))) in
    omega (arith, e, inv)

pub room_all : (xs : List Plain) (i left : ℕ) → length xs ≤ i → left + size (before_scripts (placed_all xs)) ≡ 16383 + size (before_scripts (placed_all (drop i xs))) → size (before_scripts (placed_all xs)) + 1 ≤ 16384
room_all xs i left le inv = let e = at_drop_all (λ l. size (before_scripts (placed_all l))) xs i le in omega (arith, e, inv)

pub room_short : (xs : List Plain) (i : ℕ) (x : Plain) (left : ℕ) → i < length xs → x ≡ get_or xs i x → StaysInBody (placed x) → left < size (placed x) → left + size (before_scripts (placed_all xs)) ≡ 16383 + size (before_scripts (placed_all (drop i xs))) → 16384 < size (before_scripts (placed_all xs)) + 1
room_short xs i x left lt ex stays less inv =
    let e = ap size (before_at xs i x lt ex ∙ stays (placed_all (drop (i + 1) xs))) ∙ size_beside (placed x) (before_scripts (placed_all (drop (i + 1) xs))) in
    omega (arith, e, less, inv)

pub is_more : (n : ℕ) → 16384 < n → true ≡ nat_lt 16384 n
is_more n lt = sym ((Decides-ltb 16384 n).1 lt)

pub is_no_more : (n : ℕ) → n ≤ 16384 → false ≡ nat_lt 16384 n
is_no_more n le = by (nat_lt 16384 n) refl
  where
    by : (b : Bool) → nat_lt 16384 n ≡ b → false ≡ b
    by false e = refl
    by true e = absurd (omega (arith, le, (Decides-ltb 16384 n).0 e))

-- ## Scripts

length_mapped : {A B : Type 0} (f : A → B) (xs : List A) → length (map f xs) ≡ length xs
length_mapped f [] = refl
length_mapped f (x ∷ xs) = ap suc (length_mapped f xs)

-- the scripts before the last
pub early_scripts : (xs : List Part) (list : List Element) (n : ℕ) → map element_of xs ≡ list → n ≡ length xs - 1 → map element_of (take n xs) ≡ before_last list
early_scripts xs list n e en =
    ap (λ k. map element_of (take k xs)) en ∙ sym (take-map element_of (length xs - 1) xs) ∙ ap (λ k. take (k - 1) (map element_of xs)) (sym (length_mapped element_of xs)) ∙ ap before_last e
