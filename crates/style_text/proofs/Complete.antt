-- The machine takes each style.
use Rattle.std.proofs.Common.{◌≡◌, ℕ, ◌⊎◌, inl, inr, List, [], ◌∷◌, ◌++◌, Bool, true, false, Option, Some, refl, ap, sym, ◌∙◌, subst, append_assoc, append-nil}
use Rattle.std.specs.Prelude.{◌==◌}
use Rattle.std.specs.Str.{byte}
use Rattle.exact_refusals.specs.Judge.{Outcome, Read}
use Rattle.exact_refusals.specs.Plain.{outcome}
use Rattle.exact_refusals.proofs.Plain as plain
use Rattle.style_text.specs.Styles.{Pair, is_blank, is_used, is_once, is_value, Blanks, here, behind, SpellsPair, parts, SpellsPairs, empty, single, several, StyleSpells}
use Rattle.style_text.specs.Machine.{State, Next, Name, Colon, Start, Value, After, is_free, fits, step, done, begin}
use Rattle.style_text.proofs.Names.{no_listed, free_parts, free_made, free_fits, blank_ends, colon_ends, fits_no_blank, once_apart}
use Rattle.style_text.proofs.Values.{value_parts, no_value, same_number, value_front, value_first, blank_no_value, semicolon_no_value, space_no_value}

abbrev pub go : State → List ℕ → Outcome (List Pair)
go st us = outcome step done st us

abbrev Step : Type 0
Step = Option State

taken : (st next : State) (u : ℕ) (us : List ℕ) → step st u ≡ Some next → go st (u ∷ us) ≡ go next us
taken = plain.taken step done

-- blanks where blanks may stand
blanks_stay : (st : State) {us rest : List ℕ} → ((u : ℕ) → is_blank u ≡ true → step st u ≡ Some st) → Blanks us rest → go st us ≡ go st rest
blanks_stay st stays here = refl
blanks_stay st stays (behind {u = u} {us = us} b more) = taken st st u us (stays u b) ∙ blanks_stay st stays more

module _ (ps : List Pair) where
  pub next_blanks : {us rest : List ℕ} → Blanks us rest → go (Next ps) us ≡ go (Next ps) rest
  next_blanks = blanks_stay (Next ps) (λ u b. rw b refl)

  pub after_blanks : {us rest : List ℕ} → Blanks us rest → go (After ps) us ≡ go (After ps) rest
  after_blanks = blanks_stay (After ps) (λ u b. rw b refl)

  pub colon_blanks : (n : List ℕ) {us rest : List ℕ} → Blanks us rest → go (Colon ps n) us ≡ go (Colon ps n) rest
  colon_blanks n = blanks_stay (Colon ps n) (λ u b. rw b refl)

  pub start_blanks : (n : List ℕ) {us rest : List ℕ} → Blanks us rest → go (Start ps n) us ≡ go (Start ps n) rest
  start_blanks n = blanks_stay (Start ps n) (λ u b. rw b refl)

  -- ## A property

  pub name_step : (front : List ℕ) (u : ℕ) (us : List ℕ) → fits ps (front ++ u ∷ []) ≡ true → go (Name ps front) (u ∷ us) ≡ go (Name ps (front ++ u ∷ [])) us
  name_step front u us h = taken (Name ps front) (Name ps (front ++ u ∷ [])) u us (rw h refl)

  pub first_step : (u : ℕ) (us : List ℕ) → fits ps (u ∷ []) ≡ true → go (Next ps) (u ∷ us) ≡ go (Name ps (u ∷ [])) us
  first_step u us h = taken (Next ps) (Name ps (u ∷ [])) u us (rw (fits_no_blank ps u h, h) refl)

  pub name_goes : (front more us : List ℕ) → is_free ps (front ++ more) ≡ true → go (Name ps front) (more ++ us) ≡ go (Name ps (front ++ more)) us
  name_goes front [] us h = ap (λ f. go (Name ps f) us) (sym (append-nil front))
  name_goes front (u ∷ more) us h =
      let whole : front ++ u ∷ more ≡ (front ++ u ∷ []) ++ more = sym (append_assoc front (u ∷ []) more) in
      let free = subst (λ l. is_free ps l ≡ true) whole h in
      name_step front u (more ++ us) (free_fits ps (front ++ u ∷ []) more free) ∙ name_goes (front ++ u ∷ []) more us free ∙ ap (λ f. go (Name ps f) us) (sym whole)

  pub property_goes : (n us : List ℕ) → is_free ps n ≡ true → go (Next ps) (n ++ us) ≡ go (Name ps n) us
  property_goes [] us h = let p = free_parts ps [] h in let none = no_listed in cc
  property_goes (u ∷ n) us h = first_step u (n ++ us) (free_fits ps (u ∷ []) n h) ∙ name_goes (u ∷ []) n us h

  -- a colon behind a property
  pub colon_step : (n us : List ℕ) → is_free ps n ≡ true → go (Name ps n) (byte ":" ∷ us) ≡ go (Start ps n) us
  colon_step n us h = taken (Name ps n) (Start ps n) (byte ":") us (rw (colon_ends ps n, h) refl)

  pub colon_goes : (n : List ℕ) {vs ws : List ℕ} → is_free ps n ≡ true → Blanks vs (byte ":" ∷ ws) → go (Name ps n) vs ≡ go (Start ps n) ws
  colon_goes n {ws = ws} h here = colon_step n ws h
  colon_goes n {ws = ws} h (behind {u = u} {us = us} b more) =
      taken (Name ps n) (Colon ps n) u us (rw (blank_ends ps n u b, h, b) refl) ∙ colon_blanks n more ∙ taken (Colon ps n) (Start ps n) (byte ":") ws refl

  -- ## A value

  pub value_step : (n v gap : List ℕ) (u : ℕ) (us : List ℕ) → is_value (v ++ gap ++ u ∷ []) ≡ true → go (Value ps n v gap) (u ∷ us) ≡ go (Value ps n (v ++ gap ++ u ∷ []) []) us
  value_step n v gap u us h = taken (Value ps n v gap) (Value ps n (v ++ gap ++ u ∷ []) []) u us (rw h refl)

  pub space_step : (n v gap us : List ℕ) → go (Value ps n v gap) (32 ∷ us) ≡ go (Value ps n v (gap ++ 32 ∷ [])) us
  space_step n v gap us = taken (Value ps n v gap) (Value ps n v (gap ++ 32 ∷ [])) 32 us (rw (space_no_value (v ++ gap)) refl)

  pub start_step : (n : List ℕ) (u : ℕ) (us : List ℕ) → is_value (u ∷ []) ≡ true → go (Start ps n) (u ∷ us) ≡ go (Value ps n (u ∷ []) []) us
  start_step n u us h = taken (Start ps n) (Value ps n (u ∷ []) []) u us (rw (value_first u h, h) refl)

  -- what a value comes to
  abbrev Comes : List ℕ → List ℕ → List ℕ → ℕ → List ℕ → List ℕ → Type 0
  Comes n v gap u more us = is_value (v ++ gap ++ u ∷ more) ≡ true → go (Value ps n v gap) (u ∷ more ++ us) ≡ go (Value ps n (v ++ gap ++ u ∷ more) []) us

  value_next : (n v gap : List ℕ) (u w : ℕ) (more us : List ℕ) → ((x y : List ℕ) → Comes n x y w more us) → (b : Bool) → (u == 32) ≡ b → Comes n v gap u (w ∷ more) us
  value_next n v gap u w more us later false e h =
      let front = v ++ gap ++ u ∷ [] in
      let whole : v ++ gap ++ u ∷ w ∷ more ≡ front ++ w ∷ more = sym (append_assoc (v ++ gap) (u ∷ []) (w ∷ more)) in
      let value = subst (λ l. is_value l ≡ true) whole h in
      let none : front ++ [] ≡ front = append-nil front in
      let rest = later front [] (subst (λ l. is_value (l ++ w ∷ more) ≡ true) (sym none) value) in
      value_step n v gap u (w ∷ more ++ us) (value_front (v ++ gap) u (w ∷ more) e value) ∙ rest ∙ ap (λ l. go (Value ps n l []) us) (ap (λ l. l ++ w ∷ more) none ∙ sym whole)
  value_next n v gap u w more us later true e h =
      let same : u ≡ 32 = same_number u 32 e in
      let whole : v ++ gap ++ u ∷ w ∷ more ≡ v ++ (gap ++ u ∷ []) ++ w ∷ more = sym (append_assoc (v ++ gap) (u ∷ []) (w ∷ more)) ∙ ap (λ l. l ++ w ∷ more) (append_assoc v gap (u ∷ [])) in
      let space : go (Value ps n v gap) (u ∷ w ∷ more ++ us) ≡ go (Value ps n v (gap ++ u ∷ [])) (w ∷ more ++ us) = subst (λ x. go (Value ps n v gap) (x ∷ w ∷ more ++ us) ≡ go (Value ps n v (gap ++ x ∷ [])) (w ∷ more ++ us)) (sym same) (space_step n v gap (w ∷ more ++ us)) in
      space ∙ later v (gap ++ u ∷ []) (subst (λ l. is_value l ≡ true) whole h) ∙ ap (λ l. go (Value ps n l []) us) (sym whole)

  value_goes : (more : List ℕ) (n v gap : List ℕ) (u : ℕ) (us : List ℕ) → Comes n v gap u more us
  value_goes [] n v gap u us h = value_step n v gap u us h
  value_goes (w ∷ more) n v gap u us h = value_next n v gap u w more us (λ x y. value_goes more n x y w us) (u == 32) refl h

  pub read_value : (n v us : List ℕ) → is_value v ≡ true → go (Start ps n) (v ++ us) ≡ go (Value ps n v []) us
  read_value n [] us h = let none = no_value in cc
  read_value n (u ∷ []) us h = start_step n u us h
  read_value n (u ∷ w ∷ more) us h =
      let p = value_parts (u ∷ w ∷ more) h in
      start_step n u (w ∷ more ++ us) (value_front [] u (w ∷ more) p.start h) ∙ value_goes more n (u ∷ []) [] w us h

  -- ## The end of a pair

  -- what may stand behind a pair
  abbrev pub IsEnd : List ℕ → Type 0
  IsEnd rest = (rest ≡ []) ⊎ ((vs : List ℕ) × (rest ≡ byte ";" ∷ vs))

  ends_here : (n v gap : List ℕ) (rest : List ℕ) → IsEnd rest → go (Value ps n v gap) rest ≡ go (After (ps ++ (n, v) ∷ [])) rest
  ends_here n v gap rest (inl e) = subst (λ l. go (Value ps n v gap) l ≡ go (After (ps ++ (n, v) ∷ [])) l) (sym e) refl
  ends_here n v gap rest (inr (vs, e)) =
      let done_with = ps ++ (n, v) ∷ [] in
      subst (λ l. go (Value ps n v gap) l ≡ go (After done_with) l) (sym e)
      (taken (Value ps n v gap) (Next done_with) (byte ";") vs (rw (semicolon_no_value (v ++ gap)) refl) ∙ sym (taken (After done_with) (Next done_with) (byte ";") vs refl))

  blank_ends_value : (n v gap : List ℕ) (u : ℕ) (us rest : List ℕ) → (b : Bool) → (u == 32) ≡ b → is_blank u ≡ true → Blanks us rest → (go (Value ps n v (gap ++ u ∷ [])) us ≡ go (After (ps ++ (n, v) ∷ [])) rest) → go (Value ps n v gap) (u ∷ us) ≡ go (After (ps ++ (n, v) ∷ [])) rest
  blank_ends_value n v gap u us rest true e blank more later =
      let same : u ≡ 32 = same_number u 32 e in
      subst (λ x. go (Value ps n v gap) (x ∷ us) ≡ go (Value ps n v (gap ++ x ∷ [])) us) (sym same) (space_step n v gap us) ∙ later
  blank_ends_value n v gap u us rest false e blank more later =
      let done_with = ps ++ (n, v) ∷ [] in
      taken (Value ps n v gap) (After done_with) u us (rw (blank_no_value (v ++ gap) u blank, blank, e) refl) ∙ blanks_stay (After done_with) (λ x b. rw b refl) more

  pub pair_ends : (n v gap : List ℕ) {us rest : List ℕ} → IsEnd rest → Blanks us rest → go (Value ps n v gap) us ≡ go (After (ps ++ (n, v) ∷ [])) rest
  pair_ends n v gap {rest = rest} e here = ends_here n v gap rest e
  pair_ends n v gap {rest = rest} e (behind {u = u} {us = us} blank more) = blank_ends_value n v gap u us rest (u == 32) refl blank more (pair_ends n v (gap ++ u ∷ []) e more)

  -- ## A pair

  pub pair_goes : (n v : List ℕ) {us rest : List ℕ} → is_used ps n ≡ false → IsEnd rest → SpellsPair n v us rest → go (Next ps) us ≡ go (After (ps ++ (n, v) ∷ [])) rest
  pair_goes n v unused e (parts {vs = vs} {ws = ws} {xs = xs} before listed between behind_colon value after) =
      let free = free_made ps n listed unused in
      next_blanks before ∙ property_goes n vs free ∙ colon_goes n free between ∙ start_blanks n behind_colon ∙ read_value n v xs value ∙ pair_ends n v [] e after

-- ## Pairs

pairs_go : (qs ps : List Pair) (us : List ℕ) → is_once (ps ++ qs) ≡ true → SpellsPairs us qs → go (Next ps) us ≡ Read (ps ++ qs)
pairs_go qs ps us once (empty blanks) = next_blanks ps blanks ∙ ap Read (sym (append-nil ps))
pairs_go qs ps us once (single {property = n} {value = v} spelled) = pair_goes ps n v (once_apart ps (n, v) [] once) (inl refl) spelled
pairs_go qs ps us once (several {property = n} {value = v} {rest = rest} {pairs = more} spelled others) =
    let done_with = ps ++ (n, v) ∷ [] in
    let whole : done_with ++ more ≡ ps ++ (n, v) ∷ more = append_assoc ps ((n, v) ∷ []) more in
    pair_goes ps n v (once_apart ps (n, v) more once) (inr (rest, refl)) spelled ∙ taken (After done_with) (Next done_with) (byte ";") rest refl
    ∙ pairs_go more done_with rest (subst (λ l. is_once l ≡ true) (sym whole) once) others ∙ ap Read whole

-- the machine reads each style
pub complete : (us : List ℕ) (pairs : List Pair) → StyleSpells us pairs → go begin us ≡ Read pairs
complete us pairs h = pairs_go pairs [] us h.once h.spelled
