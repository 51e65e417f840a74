-- The laws of exact refusals, and those on printed pairs, of styles.
use Rattle.std.proofs.Common.{◌≡◌, ℕ, ◌+◌, List, [], ◌∷◌, ◌++◌, true, refl, ap, sym, ◌∙◌, subst, length, append_assoc, append-nil}
use Rattle.std.specs.Prelude.{codes}
use Rattle.std.specs.List.{list_all}
use Rattle.exact_refusals.specs.Judge.{Refused}
use Rattle.exact_refusals.proofs.Plain as plain
use Rattle.style_text.specs.Styles.{Pair, is_pair, is_once, is_listed, is_value, print_style, here, behind, SpellsPair, parts, SpellsPairs, empty, single, several, StyleSpells, BadStylePlace}
use Rattle.style_text.specs.Machine.{step, done, begin}
use Rattle.style_text.proofs.Words.{and_parts, and_made}
use Rattle.style_text.proofs.Complete.{go, complete}
use Rattle.style_text.proofs.Sound.{sound, closable, blank_pairs}

pub one_style : (us : List ℕ) (ps qs : List Pair) → StyleSpells us ps → StyleSpells us qs → ps ≡ qs
one_style = plain.one_tree step done begin StyleSpells complete sound

pub refused_is : (us : List ℕ) (left at : ℕ) → go begin us ≡ Refused left → at + left ≡ length us → BadStylePlace us at
refused_is = plain.refused_is step done begin StyleSpells complete sound closable

pub one_place : (us : List ℕ) (at other : ℕ) → BadStylePlace us at → BadStylePlace us other → at ≡ other
one_place us = plain.one_place StyleSpells us

pub no_style : (us : List ℕ) (at : ℕ) (ps : List Pair) → BadStylePlace us at → StyleSpells us ps → ⊥
no_style us = plain.no_tree StyleSpells us

-- ## What is read is spelled

pair_spelled : {n v us rest : List ℕ} → SpellsPair n v us rest → is_pair (n, v) ≡ true
pair_spelled (parts {property = n} {value = v} before listed between colon value after) = and_made (is_listed n) (is_value v) listed value

pairs_spelled : {us : List ℕ} {ps : List Pair} → SpellsPairs us ps → list_all is_pair ps ≡ true
pairs_spelled (empty b) = refl
pairs_spelled (single {property = n} {value = v} h) = and_made (is_pair (n, v)) true (pair_spelled h) refl
pairs_spelled (several {property = n} {value = v} {pairs = ps} h others) = and_made (is_pair (n, v)) (list_all is_pair ps) (pair_spelled h) (pairs_spelled others)

pub style_spelled : (us : List ℕ) (ps : List Pair) → StyleSpells us ps → (list_all is_pair ps ≡ true) × (is_once ps ≡ true)
style_spelled us ps h = (pairs_spelled h.spelled, h.once)

-- ## What is printed is read

printed_pair : (n v rest : List ℕ) → is_listed n ≡ true → is_value v ≡ true → SpellsPair n v ((n ++ codes ": ") ++ (v ++ rest)) rest
printed_pair n v rest listed value =
    subst (λ l. SpellsPair n v l rest) (sym (append_assoc n (codes ": ") (v ++ rest))) (parts here listed here (behind refl here) value here)

printed_pairs : (ps : List Pair) → list_all is_pair ps ≡ true → SpellsPairs (print_style ps) ps
unfolding print_style
printed_pairs [] h = empty here
printed_pairs (p ∷ []) h =
    let spelled = and_parts (is_listed p.0) (is_value p.1) (and_parts (is_pair p) true h).0 in
    single (subst (λ l. SpellsPair p.0 p.1 ((p.0 ++ codes ": ") ++ l) []) (append-nil p.1) (printed_pair p.0 p.1 [] (spelled.0) (spelled.1)))
printed_pairs (p ∷ q ∷ ps) h =
    let parted = and_parts (is_pair p) (list_all is_pair (q ∷ ps)) h in
    let spelled = and_parts (is_listed p.0) (is_value p.1) (parted.0) in
    let others = blank_pairs 32 refl (printed_pairs (q ∷ ps) (parted.1)) in
    let tail = print_style (q ∷ ps) in
    let front = p.0 ++ codes ": " in
    let whole : front ++ (p.1 ++ codes "; " ++ tail) ≡ front ++ p.1 ++ codes "; " ++ tail = sym (append_assoc (front ++ p.1) (codes "; ") tail ∙ append_assoc front p.1 (codes "; " ++ tail) ∙ ap (λ l. front ++ l) (sym (append_assoc p.1 (codes "; ") tail))) in
    let first = subst (λ l. SpellsPair p.0 p.1 (front ++ l) (codes ";" ++ codes " " ++ tail)) (sym (append_assoc p.1 (codes "; ") tail)) (printed_pair p.0 p.1 (codes "; " ++ tail) (spelled.0) (spelled.1)) in
    several (subst (λ l. SpellsPair p.0 p.1 l (codes "; " ++ tail)) whole first) others

pub printed_style : (ps : List Pair) → list_all is_pair ps ≡ true → is_once ps ≡ true → StyleSpells (print_style ps) ps
printed_style ps h once = record { spelled = printed_pairs ps h; once = once }
