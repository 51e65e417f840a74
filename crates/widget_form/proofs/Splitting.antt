-- The parts of a file, put together.
use Rattle.std.proofs.Common.{◌≡◌, ℕ, zero, suc, ◌+◌, ◌-◌, true, false, List, [], ◌∷◌, refl, sym, ap, ◌∙◌, subst, Option, Some, None, length, map, arith, slice_get, true≢false}
use Rattle.std.specs.Prelude.{filter, ◌↔◌, IsTrue, option_map, filter_map}
use Rattle.std.specs.List.{flat_map, last_or, list_all}
use Rattle.std.proofs.lemmas.List.{append-nil}
use Rattle.std.proofs.lemmas.Option.{slice_get_within}
use Rattle.first_breach.specs.declared.Breach.{Breach}
use Rattle.first_breach.specs.Breaches.{Nothing, Each}
use Rattle.first_breach.specs.Narrowing.{Narrows}
use Rattle.first_breach.proofs.Narrowing.{clean_of, first_of}
use Rattle.plain_tree.specs.declared.plain.Plain.{Plain}
use Rattle.plain_tree.specs.Trees.{Trees}
use Rattle.plain_tree.specs.Plains.{Places, placed_all}
use Rattle.markup_rules.specs.declared.part.Part.{Part}
use Rattle.markup_rules.specs.Elements.{Element, elements, roots, scripts, tops, is_script_element}
use Rattle.markup_rules.specs.Parts.{element_of}
use Rattle.markup_rules.specs.Rows.{Breaks, MarkupRows, is_free, IsHostMarkup}
use Rattle.widget_form.specs.declared.file.Scripts.{Scripts}
use Rattle.widget_form.specs.Forms.{root_scripts, span_of, source, first_of_several, HasScripts}

-- the scripts of the root are those of the file
pub scripts_found : (file : Trees Places) (p : Part) (list : List Element) → roots file ≡ element_of p ∷ [] → list ≡ filter is_script_element (tops (placed_all p.children.now)) → list ≡ root_scripts file
scripts_found file p list er el = el ∙ sym (append-nil (scripts (element_of p))) ∙ ap (λ l. flat_map scripts l) (sym er)

pub no_scripts : (file : Trees Places) → roots file ≡ [] → root_scripts file ≡ []
no_scripts file er = ap (λ l. flat_map scripts l) er

-- the last of a list
last_at : {A B : Type 0} (f : A → B) (d : Option B) (xs : List A) (k : ℕ) (x : A) → k + 1 ≡ length xs → slice_get xs k ≡ Some x → last_or d (map f xs) ≡ Some (f x)
last_at f d [] k x e h = absurd (omega (arith, e))
last_at f d (y ∷ []) zero x e h = ap (option_map f) h
last_at f d (y ∷ []) (suc k) x e h = absurd (omega (arith, e))
last_at f d (y ∷ z ∷ rest) zero x e h = absurd (omega (arith, e))
last_at f d (y ∷ z ∷ rest) (suc k) x e h = last_at f (Some (f y)) (z ∷ rest) k x (omega (arith, e)) h

-- ## Markup of the page

pub host_clean : (file : Trees Places) (list : List Element) → list ≡ elements file → true ≡ list_all is_free list → Narrows (Each MarkupRows list) None Nothing None → IsTrue true ↔ IsHostMarkup file
host_clean file list e free n =
    let m : Narrows (Each MarkupRows (elements file)) None Nothing None = subst (λ l. Narrows (Each MarkupRows l) None Nothing None) e n in
    ((λ _. record { clean = clean_of (Each MarkupRows (elements file)) m; free = ap (list_all is_free) (sym e) ∙ sym free }), (λ _. refl))

pub host_broken : (file : Trees Places) (list : List Element) (b : Breach) → list ≡ elements file → Narrows (Each MarkupRows list) None Nothing (Some b) → IsTrue false ↔ IsHostMarkup file
host_broken file list b e n =
    let m : Narrows (Each MarkupRows (elements file)) None Nothing (Some b) = subst (λ l. Narrows (Each MarkupRows l) None Nothing (Some b)) e n in
    ((λ h. absurd (true≢false (sym h))), (λ h. absurd (h.clean b.rule b.at (first_of (Each MarkupRows (elements file)) b m).broken)))

-- ## The form

pub has_scripts : (list : List Element) (xs x1 x2 x3 : List Part) (last : Part) (parts : Scripts) → map element_of xs ≡ list → x1 ≡ xs → x2 ≡ xs → x3 ≡ xs → Some last ≡ slice_get x1 (length x1 - 1) → parts.script ≡ span_of (element_of last) → parts.id_script ≡ option_map span_of (first_of_several (map element_of x2)) → parts.libs.items ≡ filter_map source (map element_of x3) → HasScripts list parts
has_scripts list xs x1 x2 x3 last parts e d1 d2 d3 h es ei eb = record {
  id_script = ei ∙ ap (λ l. option_map span_of (first_of_several l)) (ap (map element_of) d2 ∙ e);
  libs = eb ∙ ap (filter_map source) (ap (map element_of) d3 ∙ e);
  script = ap Some es ∙ sym (ap (option_map span_of) (ap (last_or None) (sym e ∙ ap (map element_of) (sym d1)) ∙ last_at element_of None x1 (length x1 - 1) last (omega (arith, slice_get_within x1 (length x1 - 1) last (sym h))) (sym h)));
}

-- what was judged
pub judged : (name : List ℕ) (libs : List (List ℕ)) (xs ys : List Plain) (o p : Option Breach) → xs ≡ ys → o ≡ p → Narrows (Breaks name libs (placed_all xs)) None Nothing o → Narrows (Breaks name libs (placed_all ys)) None Nothing p
judged name libs xs ys o p e f n = subst (λ q. Narrows (Breaks name libs (placed_all ys)) None Nothing q) f (subst (λ l. Narrows (Breaks name libs (placed_all l)) None Nothing o) e n)
