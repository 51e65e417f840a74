-- A set of the names that were seen.
use Rattle.std.proofs.Common.{◌≡◌, ℕ, ◌<◌, ◌+◌, Bool, true, false, ◌||◌, not, List, [], ◌∷◌, ◌++◌, refl, sym, ap, ◌∙◌, cond, length, get_or, drop}
use Rattle.std.specs.Str.{bytes_eq}
use Rattle.std.specs.Ordering.{nat_cmp, is_eq}
use Rattle.std.specs.Cmp.Lexicographic.{slice_cmp}
use Rattle.std.proofs.lemmas.Map.Text.{is_eq-slice_cmp}
use Rattle.std.proofs.lemmas.List.{at_drop_more}
use Rattle.widget_meaning.specs.Properties.{is_listed, listed}
use Rattle.widget_meaning.specs.Scopes.{distinct}
use Rattle.js_names.specs.Names.{if_new}
use Rattle.js_names.proofs.Listed.{eq_turned, one_more}

-- a name is put behind those that were seen, where it is new
pub put : (names more : List (List ℕ)) (x copy : List ℕ) (is_new old : Bool) → more ≡ names ++ if_new is_new x → is_new ≡ not old → old ≡ is_listed names copy → copy ≡ x → more ≡ listed names (x ∷ [])
put names more x copy is_new old m e h same =
    m ∙ ap (λ b. names ++ if_new b x) (e ∙ ap not (h ∙ ap (is_listed names) same)) ∙ by (is_listed names x)
  where
    by : (l : Bool) → names ++ if_new (not l) x ≡ names ++ cond (not l) (x ∷ []) []
    by true = refl
    by false = refl

seen_by : (o b : Bool) → cond b true o ≡ (o || b)
seen_by true true = refl
seen_by true false = refl
seen_by false true = refl
seen_by false false = refl

-- and the set has it
pub seen_more : (names more : List (List ℕ)) (x copy t : List ℕ) (old new : Bool) → more ≡ listed names (x ∷ []) → copy ≡ x → old ≡ is_listed names t → new ≡ cond (is_eq (slice_cmp nat_cmp copy t)) true old → new ≡ is_listed more t
seen_more names more x copy t old new m same h e =
    e ∙ (λ i. cond (is_eq-slice_cmp copy t i) true (h i)) ∙ seen_by (is_listed names t) (bytes_eq copy t)
    ∙ ap (λ b. is_listed names t || b) (ap (λ c. bytes_eq c t) same ∙ eq_turned x t)
    ∙ sym (one_more names x t) ∙ ap (λ l. is_listed l t) (sym m)

-- and what is left is one name less
pub rest_less : (names more list : List (List ℕ)) (i : ℕ) (x : List ℕ) → i < length list → x ≡ get_or list i x → more ≡ listed names (x ∷ []) → distinct names (drop i list) ≡ distinct [] list → distinct more (drop (i + 1) list) ≡ distinct [] list
rest_less names more list i x lt is m h =
    ap (λ l. distinct l (drop (i + 1) list)) m
    ∙ ap (distinct names) (ap (λ y. y ∷ drop (i + 1) list) is ∙ sym (at_drop_more (λ l. l) list i x lt))
    ∙ h
