-- Keywords and their first units.
use Rattle.std.proofs.Common.{◌≡◌, ℕ, inl, inr, List, [], ◌∷◌, ◌++◌, Bool, true, false, ◌||◌, Option, Some, None, refl, sym, ◌∙◌, subst, arith}
use Rattle.std.specs.Prelude.{nat_eq}
use Rattle.std.specs.List.{list_any}
use Rattle.std.specs.Str.{bytes_eq}
use Rattle.std.proofs.lemmas.Slice.Eq.{bytes_eq-Decides}
use Rattle.std.proofs.lemmas.Bool.Decides.{nat_tests}
use Rattle.query_grammar.specs.declared.query.StepFilter.{StepFilter}
use Rattle.query_grammar.specs.Queries.{IsKeyword, key_checked, key_unchecked, key_enabled, key_disabled, key_focus, key_first, key_rest, key_even, key_odd}
use Rattle.code_units.specs.Words.{begins_with}
use Rattle.query_grammar.specs.Machine.{keywords, keyword_of, look_up, fits}
use Rattle.query_grammar.proofs.Truths.{and_parts, and_made, or_left, or_right, branch, none_some, same_some}

abbrev Row : Type 0
Row = List ℕ × StepFilter

-- each keyword is in the table
pub keyword_listed : (w : List ℕ) (f : StepFilter) → IsKeyword w f → keyword_of w ≡ Some f
unfolding keyword_of keywords
keyword_listed w f key_checked = refl
keyword_listed w f key_unchecked = refl
keyword_listed w f key_enabled = refl
keyword_listed w f key_disabled = refl
keyword_listed w f key_focus = refl
keyword_listed w f key_first = refl
keyword_listed w f key_rest = refl
keyword_listed w f key_even = refl
keyword_listed w f key_odd = refl

-- no keyword is the front of another
pub keyword_alone : (w : List ℕ) (f : StepFilter) (u : ℕ) (us : List ℕ) → IsKeyword w f → keyword_of (w ++ u ∷ us) ≡ None
unfolding keyword_of keywords
keyword_alone w f u us key_checked = refl
keyword_alone w f u us key_unchecked = refl
keyword_alone w f u us key_enabled = refl
keyword_alone w f u us key_disabled = refl
keyword_alone w f u us key_focus = refl
keyword_alone w f u us key_first = refl
keyword_alone w f u us key_rest = refl
keyword_alone w f u us key_even = refl
keyword_alone w f u us key_odd = refl

-- what holds of each row
abbrev AllRows : (List ℕ → StepFilter → Type 0) → List Row → Type 0
AllRows P [] = Unit {0}
AllRows P (row ∷ rows) = P row.0 row.1 × AllRows P rows

look_up_is : (P : List ℕ → StepFilter → Type 0) (rows : List Row) (w : List ℕ) (f : StepFilter) → look_up rows w ≡ Some f → AllRows P rows → P w f
look_up_is P [] w f h all = absurd (none_some f h)
look_up_is P (row ∷ rows) w f h all =
    elim (branch (bytes_eq w row.0) _ _ f h) [
      | inl (e, g) ↦
          (let word : row.0 ≡ w = sym ((bytes_eq-Decides w row.0).0 e) in
          let filter : row.1 ≡ f = same_some row.1 f g in
          subst (λ x. P x f) word (subst (λ x. P row.0 x) filter (all.0)))
      | inr (e, g) ↦ look_up_is P rows w f g (all.1)
    ]

-- what is in the table is a keyword
pub keyword_is : (w : List ℕ) (f : StepFilter) → keyword_of w ≡ Some f → IsKeyword w f
unfolding keyword_of keywords
keyword_is w f h = look_up_is IsKeyword keywords w f h (key_checked, (key_unchecked, (key_enabled, (key_disabled, (key_focus, (key_first, (key_rest, (key_even, (key_odd, tt)))))))))

-- ## Fronts

begins_front : (front more : List ℕ) → begins_with (front ++ more) front ≡ true
begins_front [] more = refl
begins_front (u ∷ front) more = and_made (nat_eq u u) _ (grind (arith, nat_tests)) (begins_front front more)

behind_front : (word front : List ℕ) → begins_with word front ≡ true → (more : List ℕ) × (word ≡ front ++ more)
behind_front word [] h = (word, refl)
behind_front [] (u ∷ us) h = cc
behind_front (c ∷ word) (u ∷ us) h =
    let p = and_parts (nat_eq u c) (begins_with word us) h in
    let same : u ≡ c = grind (arith, nat_tests) in
    let rest = behind_front word us (p.1) in
    (rest.0, λ i. sym same i ∷ rest.1 i)

rows_fit : (rows : List Row) (front more : List ℕ) (f : StepFilter) → look_up rows (front ++ more) ≡ Some f → list_any (λ row. begins_with row.0 front) rows ≡ true
rows_fit [] front more f h = absurd (none_some f h)
rows_fit (row ∷ rows) front more f h =
    elim (branch (bytes_eq (front ++ more) row.0) _ _ f h) [
      | inl (e, g) ↦
          (let word : front ++ more ≡ row.0 = (bytes_eq-Decides (front ++ more) row.0).0 e in
          or_left (begins_with row.0 front) _ (subst (λ w. begins_with w front ≡ true) word (begins_front front more)))
      | inr (e, g) ↦ or_right (begins_with row.0 front) _ (rows_fit rows front more f g)
    ]

pub front_fits : (front more : List ℕ) (f : StepFilter) → keyword_of (front ++ more) ≡ Some f → fits front ≡ true
unfolding keyword_of fits
front_fits front more f h = rows_fit keywords front more f h

-- a proper front is no keyword
pub front_none : (front : List ℕ) (u : ℕ) (us : List ℕ) (f : StepFilter) → keyword_of (front ++ u ∷ us) ≡ Some f → keyword_of front ≡ None
front_none front u us f h = by_row (keyword_of front) refl
  where
    by_row : (r : Option StepFilter) → keyword_of front ≡ r → keyword_of front ≡ None
    by_row None e = e
    by_row (Some g) e = let none = keyword_alone front g u us (keyword_is front g e) in absurd (none_some f (sym none ∙ h))

some_row : (rows : List Row) (front : List ℕ) → list_any (λ row. begins_with row.0 front) rows ≡ true → (P : List ℕ → StepFilter → Type 0) → AllRows P rows → (w : List ℕ) × (f : StepFilter) × (begins_with w front ≡ true) × P w f
some_row [] front h P all = cc
some_row (row ∷ rows) front h P all = by_first (begins_with row.0 front) refl h (λ g. some_row rows front g P (all.1))
  where
    by_first : (b : Bool) → begins_with row.0 front ≡ b → (b || list_any (λ r. begins_with r.0 front) rows) ≡ true → (list_any (λ r. begins_with r.0 front) rows ≡ true → (w : List ℕ) × (f : StepFilter) × (begins_with w front ≡ true) × P w f) → (w : List ℕ) × (f : StepFilter) × (begins_with w front ≡ true) × P w f
    by_first true e g later = (row.0, row.1, e, all.0)
    by_first false e g later = later g

-- a front that fits is the front of a keyword
pub fits_keyword : (front : List ℕ) → fits front ≡ true → (more : List ℕ) × (f : StepFilter) × (keyword_of (front ++ more) ≡ Some f)
unfolding fits keywords
fits_keyword front h =
    let r = some_row keywords front h IsKeyword (key_checked, (key_unchecked, (key_enabled, (key_disabled, (key_focus, (key_first, (key_rest, (key_even, (key_odd, tt))))))))) in
    let rest = behind_front (r.0) front (r.2) in
    (rest.0, r.1, subst (λ w. keyword_of w ≡ Some (r.1)) (rest.1) (keyword_listed (r.0) (r.1) (r.3)))

pub nothing_fits : (fits [] ≡ true) × (keyword_of [] ≡ None)
unfolding fits keyword_of keywords
nothing_fits = (refl, refl)
