-- The printed form of styles.
use Rattle.std.proofs.Common.{◌≡◌, ℕ, List, [], true, refl, ap, subst, sym}
use Rattle.std.specs.List.{list_all}
use Rattle.exact_refusals.specs.Judge.{Outcome, Read}
use Rattle.page_output.specs.Printing.{IsStyleForm, Prints}
use Rattle.plain_tree.specs.Trees.{PlainTrees}
use Rattle.style_text.specs.Styles.{Pair, StyleSpells, is_pair, is_once, print_style}
use Rattle.style_text.specs.Machine.{begin}
use Rattle.style_text.proofs.Complete.{go, complete}
use Rattle.style_text.proofs.Sound.{sound}
use Rattle.style_text.proofs.Exact.{printed_style}
use Rattle.slot_lives.specs.Reading.{IsReadable, ReadsAs}
use Rattle.slot_lives.proofs.Law.{printed_is_read}

-- the pairs that were read, printed; or the text as it stands
shown : List ℕ → Outcome (List Pair) → List ℕ
shown us (Read pairs) = print_style pairs
shown us _ = us

form : List ℕ → List ℕ
form us = shown us (go begin us)

form_spelled : (us : List ℕ) (pairs : List Pair) → StyleSpells us pairs → form us ≡ print_style pairs
unfolding form shown
form_spelled us pairs s = ap (shown us) (complete us pairs s)

form_other : (us : List ℕ) → ((pairs : List Pair) → StyleSpells us pairs → ⊥) → form us ≡ us
unfolding form shown
form_other us none = of (go begin us) refl
  where
    of : (o : Outcome (List Pair)) → go begin us ≡ o → shown us o ≡ us
    of (Read pairs) e = absurd (none pairs (sound us pairs e))
    of _ e = refl

pub has_form : (style : List ℕ → List ℕ) × IsStyleForm style
has_form = (form, record { spelled = form_spelled; other = form_other })

pub printed_stays : (style : List ℕ → List ℕ) → IsStyleForm style → (pairs : List Pair) → list_all is_pair pairs ≡ true → is_once pairs ≡ true → style (print_style pairs) ≡ print_style pairs
printed_stays style f pairs each once = f.spelled (print_style pairs) pairs (printed_style pairs each once)

pub output_is_read : (trees : PlainTrees) (bytes : List ℕ) → ((style : List ℕ → List ℕ) → IsStyleForm style → IsReadable style trees) → Prints trees [] bytes → ReadsAs bytes trees
output_is_read trees bytes r p = subst (λ l. ReadsAs l trees) (sym (p (has_form.0) (has_form.1))) (printed_is_read (has_form.0) trees (r (has_form.0) (has_form.1)))
