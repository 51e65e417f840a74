-- What the machine takes is a style.
use Rattle.std.proofs.Common.{◌≡◌, ℕ, ◌⊎◌, inl, inr, List, [], ◌∷◌, ◌++◌, Bool, true, false, Option, Some, None, refl, ap, sym, ◌∙◌, subst, append_assoc, append-nil, if◌then◌else◌}
use Rattle.std.specs.Prelude.{◌==◌}
use Rattle.std.specs.Str.{byte}
use Rattle.exact_refusals.specs.Judge.{Read}
use Rattle.exact_refusals.specs.Plain.{Closes, EachCloses}
use Rattle.exact_refusals.proofs.Plain as plain
use Rattle.style_text.specs.Styles.{Pair, is_blank, is_listed, is_used, is_once, is_value, Blanks, here, behind, SpellsPair, parts, SpellsPairs, empty, single, several, StyleSpells}
use Rattle.style_text.specs.Machine.{State, Next, Name, Colon, Start, Value, After, is_free, fits, after_name, after_pair, step, done, begin}
use Rattle.style_text.proofs.Names.{free_parts, fits_free, once_more}
use Rattle.style_text.proofs.Values.{same_number}
use Rattle.style_text.proofs.Complete.{go, colon_step, start_step, name_goes}

-- ## What a step was

-- which branch was taken
if_some : (b : Bool) (x y : Option State) (next : State) → (if b then x else y) ≡ Some next → ((b ≡ true) × (x ≡ Some next)) ⊎ ((b ≡ false) × (y ≡ Some next))
if_some true x y next h = inl (refl, h)
if_some false x y next h = inr (refl, h)

none_some : (next : State) → ◌≡◌ {A = Option State} None (Some next) → ⊥
none_some next h = cc

same_state : (st next : State) → ◌≡◌ {A = Option State} (Some st) (Some next) → st ≡ next
same_state st next h = cc

-- a property goes on
after_name_was : (P : State → Type 0) (ps : List Pair) (n : List ℕ) (u : ℕ) (next : State) → after_name ps n u ≡ Some next → (is_blank u ≡ true → P (Colon ps n)) → (u ≡ byte ":" → P (Start ps n)) → P next
after_name_was P ps n u next h blank colon =
    elim (if_some (is_blank u) _ _ next h) [
      | inl (b, e) ↦ subst P (same_state _ _ e) (blank b)
      | inr (b, e) ↦ elim (if_some (u == byte ":") _ _ next e) [ inl (c, f) ↦ subst P (same_state _ _ f) (colon (same_number u (byte ":") c)) | inr (c, f) ↦ absurd (none_some next f) ]
    ]

after_pair_was : (P : State → Type 0) (ps : List Pair) (u : ℕ) (next : State) → after_pair ps u ≡ Some next → (is_blank u ≡ true → P (After ps)) → (u ≡ byte ";" → P (Next ps)) → P next
after_pair_was P ps u next h blank semicolon =
    elim (if_some (is_blank u) _ _ next h) [
      | inl (b, e) ↦ subst P (same_state _ _ e) (blank b)
      | inr (b, e) ↦ elim (if_some (u == byte ";") _ _ next e) [ inl (c, f) ↦ subst P (same_state _ _ f) (semicolon (same_number u (byte ";") c)) | inr (c, f) ↦ absurd (none_some next f) ]
    ]

-- each step, by its state
module _ (P : State → Type 0) (ps : List Pair) (u : ℕ) (next : State) where
  next_was : step (Next ps) u ≡ Some next → (is_blank u ≡ true → P (Next ps)) → (fits ps (u ∷ []) ≡ true → P (Name ps (u ∷ []))) → P next
  next_was h blank name =
      elim (if_some (is_blank u) _ _ next h) [
        | inl (b, e) ↦ subst P (same_state _ _ e) (blank b)
        | inr (b, e) ↦ elim (if_some (fits ps (u ∷ [])) _ _ next e) [ inl (c, f) ↦ subst P (same_state _ _ f) (name c) | inr (c, f) ↦ absurd (none_some next f) ]
      ]

  name_was : (f : List ℕ) → step (Name ps f) u ≡ Some next → (fits ps (f ++ u ∷ []) ≡ true → P (Name ps (f ++ u ∷ []))) → (is_free ps f ≡ true → is_blank u ≡ true → P (Colon ps f)) → (is_free ps f ≡ true → u ≡ byte ":" → P (Start ps f)) → P next
  name_was f h name blank colon =
      elim (if_some (fits ps (f ++ u ∷ [])) _ _ next h) [
        | inl (c, e) ↦ subst P (same_state _ _ e) (name c)
        | inr (c, e) ↦ elim (if_some (is_free ps f) _ _ next e) [ inl (d, g) ↦ after_name_was P ps f u next g (blank d) (colon d) | inr (d, g) ↦ absurd (none_some next g) ]
      ]

  start_was : (n : List ℕ) → step (Start ps n) u ≡ Some next → (is_blank u ≡ true → P (Start ps n)) → (is_value (u ∷ []) ≡ true → P (Value ps n (u ∷ []) [])) → P next
  start_was n h blank value =
      elim (if_some (is_blank u) _ _ next h) [
        | inl (b, e) ↦ subst P (same_state _ _ e) (blank b)
        | inr (b, e) ↦ elim (if_some (is_value (u ∷ [])) _ _ next e) [ inl (c, f) ↦ subst P (same_state _ _ f) (value c) | inr (c, f) ↦ absurd (none_some next f) ]
      ]

  value_was : (n v gap : List ℕ) → step (Value ps n v gap) u ≡ Some next → (is_value (v ++ gap ++ u ∷ []) ≡ true → P (Value ps n (v ++ gap ++ u ∷ []) [])) → (u ≡ 32 → P (Value ps n v (gap ++ u ∷ []))) → (is_blank u ≡ true → P (After (ps ++ (n, v) ∷ []))) → (u ≡ byte ";" → P (Next (ps ++ (n, v) ∷ []))) → P next
  value_was n v gap h value space blank semicolon =
      elim (if_some (is_value (v ++ gap ++ u ∷ [])) _ _ next h) [
        | inl (c, e) ↦ subst P (same_state _ _ e) (value c)
        | inr (c, e) ↦ elim (if_some (u == 32) _ _ next e) [ inl (d, g) ↦ subst P (same_state _ _ g) (space (same_number u 32 d)) | inr (d, g) ↦ after_pair_was P (ps ++ (n, v) ∷ []) u next g blank semicolon ]
      ]

-- ## The states that arise

abbrev AllBlank : List ℕ → Type 0
AllBlank us = (rest : List ℕ) → Blanks (us ++ rest) rest

abbrev Arises : State → Type 0
Arises (Next ps) = is_once ps ≡ true
Arises (Name ps f) = (is_once ps ≡ true) × (fits ps f ≡ true)
Arises (Colon ps n) = (is_once ps ≡ true) × (is_used ps n ≡ false)
Arises (Start ps n) = (is_once ps ≡ true) × (is_used ps n ≡ false)
Arises (Value ps n v gap) = (is_once ps ≡ true) × (is_used ps n ≡ false) × (is_value v ≡ true) × AllBlank gap
Arises (After ps) = is_once ps ≡ true

pub joined : {us vs ws : List ℕ} → Blanks us vs → Blanks vs ws → Blanks us ws
joined here g = g
joined (behind c h) g = behind c (joined h g)

no_blanks : AllBlank []
no_blanks rest = here

one_more_blank : (gap : List ℕ) (u : ℕ) → is_blank u ≡ true → AllBlank gap → AllBlank (gap ++ u ∷ [])
one_more_blank gap u b all rest = subst (λ l. Blanks l rest) (sym (append_assoc gap (u ∷ []) rest)) (joined (all (u ∷ rest)) (behind b here))

kept : (st next : State) (u : ℕ) → step st u ≡ Some next → Arises st → Arises next
kept (Next ps) next u h a = next_was Arises ps u next h (λ b. a) (λ f. (a, f))
kept (Name ps f) next u h a = name_was Arises ps u next f h (λ g. (a.0, g)) (λ free b. (a.0, (free_parts ps f free).1)) (λ free c. (a.0, (free_parts ps f free).1))
kept (Colon ps n) next u h a = after_name_was Arises ps n u next h (λ b. a) (λ c. a)
kept (Start ps n) next u h a = start_was Arises ps u next n h (λ b. a) (λ v. (a.0, a.1, v, no_blanks))
kept (Value ps n v gap) next u h a =
    let more : is_once (ps ++ (n, v) ∷ []) ≡ true = once_more ps n v (a.0) (a.1) in
    value_was Arises ps u next n v gap h
    (λ g. (a.0, a.1, g, no_blanks))
    (λ e. (a.0, a.1, a.2, one_more_blank gap u (subst (λ x. is_blank x ≡ true) (sym e) refl) (a.3)))
    (λ b. more) (λ e. more)
kept (After ps) next u h a = after_pair_was Arises ps u next h (λ b. a) (λ c. a)

-- ## Each state closes

zero_is_value : is_value (48 ∷ []) ≡ true
unfolding is_value
zero_is_value = refl

start_closes : (ps : List Pair) (n : List ℕ) → Closes step done (Start ps n)
start_closes ps n = (48 ∷ [], ps ++ (n, 48 ∷ []) ∷ [], start_step ps n 48 [] zero_is_value)

closes : (st : State) → Arises st → Closes step done st
closes (Next ps) a = ([], ps, refl)
closes (Name ps f) a =
    let rest = fits_free ps f (a.1) in
    let n = f ++ rest.0 in
    let end = start_closes ps n in
    (rest.0 ++ byte ":" ∷ end.0, end.1, name_goes ps f (rest.0) (byte ":" ∷ end.0) (rest.1) ∙ colon_step ps n (end.0) (rest.1) ∙ end.2)
closes (Colon ps n) a = let end = start_closes ps n in (byte ":" ∷ end.0, end.1, plain.taken step done (Colon ps n) (Start ps n) (byte ":") (end.0) refl ∙ end.2)
closes (Start ps n) a = start_closes ps n
closes (Value ps n v gap) a = ([], ps ++ (n, v) ∷ [], refl)
closes (After ps) a = ([], ps, refl)

pub closable : EachCloses step done begin
closable = plain.each_closes step done begin Arises refl kept closes

-- ## What stands behind

-- the pairs of the units, behind those before
record Pairs (ps : List Pair) (us : List ℕ) (all : List Pair) : Type 0 where
  more : List Pair
  whole : all ≡ ps ++ more
  spelled : SpellsPairs us more
  once : is_once all ≡ true

-- the end, or a semicolon and further pairs
abbrev Tail : List Pair → List ℕ → List Pair → Type 0
Tail ps rest all = ((rest ≡ []) × (all ≡ ps) × (is_once all ≡ true)) ⊎ ((us : List ℕ) × (rest ≡ byte ";" ∷ us) × Pairs ps us all)

record BehindPair (ps : List Pair) (us : List ℕ) (all : List Pair) : Type 0 where
  rest : List ℕ
  blanks : Blanks us rest
  tail : Tail ps rest all

-- a value, which some units begin
record BehindValue (ps : List Pair) (n front us : List ℕ) (all : List Pair) : Type 0 where
  more : List ℕ
  others : List ℕ
  split : us ≡ more ++ others
  value : is_value (front ++ more) ≡ true
  behind_pair : BehindPair (ps ++ (n, front ++ more) ∷ []) others all

record BehindStart (ps : List Pair) (n us : List ℕ) (all : List Pair) : Type 0 where
  units : List ℕ
  blanks : Blanks us units
  behind_value : BehindValue ps n [] units all

record BehindColon (ps : List Pair) (n us : List ℕ) (all : List Pair) : Type 0 where
  units : List ℕ
  blanks : Blanks us (byte ":" ∷ units)
  start : BehindStart ps n units all

record BehindName (ps : List Pair) (front us : List ℕ) (all : List Pair) : Type 0 where
  more : List ℕ
  others : List ℕ
  split : us ≡ more ++ others
  free : is_free ps (front ++ more) ≡ true
  colon : BehindColon ps (front ++ more) others all

abbrev Follows : State → List ℕ → List Pair → Type 0
Follows (Next ps) us all = Pairs ps us all
Follows (Name ps f) us all = BehindName ps f us all
Follows (Colon ps n) us all = BehindColon ps n us all
Follows (Start ps n) us all = BehindStart ps n us all
Follows (Value ps n v gap) us all = BehindValue ps n v (gap ++ us) all
Follows (After ps) us all = BehindPair ps us all

-- ## Each step, backwards

blank_pair : {n v us rest : List ℕ} (u : ℕ) → is_blank u ≡ true → SpellsPair n v us rest → SpellsPair n v (u ∷ us) rest
blank_pair u b (parts before listed between colon value after) = parts (behind b before) listed between colon value after

pub blank_pairs : {us : List ℕ} {qs : List Pair} (u : ℕ) → is_blank u ≡ true → SpellsPairs us qs → SpellsPairs (u ∷ us) qs
blank_pairs u b (empty h) = empty (behind b h)
blank_pairs u b (single h) = single (blank_pair u b h)
blank_pairs u b (several h others) = several (blank_pair u b h) others

-- a whole pair and what stands behind it
module _ (ps : List Pair) (n : List ℕ) (us : List ℕ) (all : List Pair) where
  pair_and : (v : List ℕ) (rest : List ℕ) → SpellsPair n v us rest → Tail (ps ++ (n, v) ∷ []) rest all → Pairs ps us all
  pair_and v rest spelled (inl (e, whole, once)) = record { more = (n, v) ∷ []; whole = whole; spelled = single (subst (λ r. SpellsPair n v us r) e spelled); once = once }
  pair_and v rest spelled (inr (vs, e, others)) =
      record {
        more = (n, v) ∷ others.more;
        whole = others.whole ∙ append_assoc ps ((n, v) ∷ []) others.more;
        spelled = several (subst (λ r. SpellsPair n v us r) e spelled) others.spelled;
        once = others.once;
      }

  whole_pair : (vs : List ℕ) → us ≡ n ++ vs → is_listed n ≡ true → BehindColon ps n vs all → Pairs ps us all
  whole_pair vs split listed c =
      let s = c.start in
      let v = s.behind_value in
      let p = v.behind_pair in
      pair_and v.more p.rest
      (parts (subst (λ l. Blanks us l) split here) listed c.blanks (subst (λ l. Blanks c.units l) v.split s.blanks) v.value p.blanks) p.tail

module _ (ps : List Pair) (u : ℕ) (us : List ℕ) (all : List Pair) where
  name_first : BehindName ps (u ∷ []) us all → Pairs ps (u ∷ us) all
  name_first f = whole_pair ps (u ∷ f.more) (u ∷ us) all f.others (ap (λ l. u ∷ l) f.split) (free_parts ps (u ∷ f.more) f.free).0 f.colon

  name_more : (g : List ℕ) → BehindName ps (g ++ u ∷ []) us all → BehindName ps g (u ∷ us) all
  name_more g f =
      let whole : (g ++ u ∷ []) ++ f.more ≡ g ++ u ∷ f.more = append_assoc g (u ∷ []) f.more in
      record {
        more = u ∷ f.more;
        others = f.others;
        split = ap (λ l. u ∷ l) f.split;
        free = subst (λ n. is_free ps n ≡ true) whole f.free;
        colon = subst (λ n. BehindColon ps n f.others all) whole f.colon;
      }

  name_whole : (n : List ℕ) → is_free ps n ≡ true → BehindColon ps n (u ∷ us) all → BehindName ps n (u ∷ us) all
  name_whole n free c =
      let whole : n ≡ n ++ [] = sym (append-nil n) in
      record { more = []; others = u ∷ us; split = refl; free = subst (λ m. is_free ps m ≡ true) whole free; colon = subst (λ m. BehindColon ps m (u ∷ us) all) whole c }

  colon_more : (n : List ℕ) → is_blank u ≡ true → BehindColon ps n us all → BehindColon ps n (u ∷ us) all
  colon_more n b f = record { units = f.units; blanks = behind b f.blanks; start = f.start }

  colon_here : (n : List ℕ) → u ≡ byte ":" → BehindStart ps n us all → BehindColon ps n (u ∷ us) all
  colon_here n e f = record { units = us; blanks = subst (λ x. Blanks (u ∷ us) (x ∷ us)) e here; start = f }

  start_more : (n : List ℕ) → is_blank u ≡ true → BehindStart ps n us all → BehindStart ps n (u ∷ us) all
  start_more n b f = record { units = f.units; blanks = behind b f.blanks; behind_value = f.behind_value }

  start_here : (n : List ℕ) → BehindValue ps n (u ∷ []) us all → BehindStart ps n (u ∷ us) all
  start_here n f =
      record {
        units = u ∷ us;
        blanks = here;
        behind_value = record { more = u ∷ f.more; others = f.others; split = ap (λ l. u ∷ l) f.split; value = f.value; behind_pair = f.behind_pair };
      }

  value_more : (n v gap : List ℕ) → BehindValue ps n (v ++ gap ++ u ∷ []) us all → BehindValue ps n v (gap ++ u ∷ us) all
  value_more n v gap f =
      let whole : (v ++ gap ++ u ∷ []) ++ f.more ≡ v ++ (gap ++ u ∷ f.more) = append_assoc (v ++ gap) (u ∷ []) f.more ∙ append_assoc v gap (u ∷ f.more) in
      record {
        more = gap ++ u ∷ f.more;
        others = f.others;
        split = ap (λ l. gap ++ u ∷ l) f.split ∙ sym (append_assoc gap (u ∷ f.more) f.others);
        value = subst (λ l. is_value l ≡ true) whole f.value;
        behind_pair = subst (λ l. BehindPair (ps ++ (n, l) ∷ []) f.others all) whole f.behind_pair;
      }

  value_whole : (n v gap : List ℕ) → is_value v ≡ true → BehindPair (ps ++ (n, v) ∷ []) (gap ++ u ∷ us) all → BehindValue ps n v (gap ++ u ∷ us) all
  value_whole n v gap value f =
      let whole : v ≡ v ++ [] = sym (append-nil v) in
      record {
        more = [];
        others = gap ++ u ∷ us;
        split = refl;
        value = subst (λ l. is_value l ≡ true) whole value;
        behind_pair = subst (λ l. BehindPair (ps ++ (n, l) ∷ []) (gap ++ u ∷ us) all) whole f;
      }

  pair_blank : (gap : List ℕ) → AllBlank gap → is_blank u ≡ true → BehindPair ps us all → BehindPair ps (gap ++ u ∷ us) all
  pair_blank gap blank b f = record { rest = f.rest; blanks = joined (blank (u ∷ us)) (behind b f.blanks); tail = f.tail }

  pair_semicolon : (gap : List ℕ) → AllBlank gap → u ≡ byte ";" → Pairs ps us all → BehindPair ps (gap ++ u ∷ us) all
  pair_semicolon gap blank e f = record { rest = byte ";" ∷ us; blanks = subst (λ x. Blanks (gap ++ u ∷ us) (x ∷ us)) e (blank (u ∷ us)); tail = inr (us, refl, f) }

step_back : (st next : State) (u : ℕ) (us : List ℕ) (all : List Pair) → step st u ≡ Some next → Arises st → Follows next us all → Follows st (u ∷ us) all
step_back (Next ps) next u us all h a =
    next_was (λ x. Follows x us all → Pairs ps (u ∷ us) all) ps u next h
    (λ b f. record { more = f.more; whole = f.whole; spelled = blank_pairs u b f.spelled; once = f.once })
    (λ c. name_first ps u us all)
step_back (Name ps g) next u us all h a =
    name_was (λ x. Follows x us all → BehindName ps g (u ∷ us) all) ps u next g h
    (λ c. name_more ps u us all g)
    (λ free b f. name_whole ps u us all g free (colon_more ps u us all g b f))
    (λ free e f. name_whole ps u us all g free (colon_here ps u us all g e f))
step_back (Colon ps n) next u us all h a = after_name_was (λ x. Follows x us all → BehindColon ps n (u ∷ us) all) ps n u next h (colon_more ps u us all n) (colon_here ps u us all n)
step_back (Start ps n) next u us all h a =
    start_was (λ x. Follows x us all → BehindStart ps n (u ∷ us) all) ps u next n h (start_more ps u us all n) (λ c. start_here ps u us all n)
step_back (Value ps n v gap) next u us all h a =
    let done_with = ps ++ (n, v) ∷ [] in
    value_was (λ x. Follows x us all → BehindValue ps n v (gap ++ u ∷ us) all) ps u next n v gap h
    (λ c. value_more ps u us all n v gap)
    (λ e. subst (λ l. BehindValue ps n v l all) (append_assoc gap (u ∷ []) us))
    (λ b f. value_whole ps u us all n v gap (a.2) (pair_blank done_with u us all gap (a.3) b f))
    (λ e f. value_whole ps u us all n v gap (a.2) (pair_semicolon done_with u us all gap (a.3) e f))
step_back (After ps) next u us all h a =
    after_pair_was (λ x. Follows x us all → BehindPair ps (u ∷ us) all) ps u next h (pair_blank ps u us all [] no_blanks) (pair_semicolon ps u us all [] no_blanks)

same_pairs : (ps qs : List Pair) → ◌≡◌ {A = Option (List Pair)} (Some ps) (Some qs) → qs ≡ ps
same_pairs ps qs h = cc

no_pairs : (qs : List Pair) → ◌≡◌ {A = Option (List Pair)} None (Some qs) → ⊥
no_pairs qs h = cc

end_pair : (ps all : List Pair) → all ≡ ps → is_once ps ≡ true → (gap : List ℕ) → AllBlank gap → BehindPair ps (gap ++ []) all
end_pair ps all e once gap blank = record { rest = []; blanks = blank []; tail = inl (refl, e, subst (λ l. is_once l ≡ true) (sym e) once) }

end_back : (st : State) (all : List Pair) → done st ≡ Some all → Arises st → Follows st [] all
end_back (Next ps) all h a =
    let e = same_pairs ps all h in
    record { more = []; whole = e ∙ sym (append-nil ps); spelled = empty here; once = subst (λ l. is_once l ≡ true) (sym e) a }
end_back (Name ps f) all h a = absurd (no_pairs all h)
end_back (Colon ps n) all h a = absurd (no_pairs all h)
end_back (Start ps n) all h a = absurd (no_pairs all h)
end_back (Value ps n v gap) all h a =
    let done_with = ps ++ (n, v) ∷ [] in
    let whole : v ≡ v ++ [] = sym (append-nil v) in
    record {
      more = [];
      others = gap ++ [];
      split = refl;
      value = subst (λ l. is_value l ≡ true) whole (a.2);
      behind_pair = subst (λ l. BehindPair (ps ++ (n, l) ∷ []) (gap ++ []) all) whole (end_pair done_with all (same_pairs done_with all h) (once_more ps n v (a.0) (a.1)) gap (a.3));
    }
end_back (After ps) all h a = end_pair ps all (same_pairs ps all h) a [] no_blanks

follows : (us : List ℕ) (st : State) (all : List Pair) → go st us ≡ Read all → Arises st → Follows st us all
follows [] st all h a = end_back st all (plain.was_done step done st all h) a
follows (u ∷ us) st all h a =
    let t = plain.was_taken step done st u us all h in
    step_back st (t.0) u us all (t.1) a (follows us (t.0) all (t.2) (kept st (t.0) u (t.1) a))

-- what the machine reads is a style
pub sound : (us : List ℕ) (pairs : List Pair) → go begin us ≡ Read pairs → StyleSpells us pairs
sound us pairs h =
    let f = follows us begin pairs h refl in
    record { spelled = subst (λ q. SpellsPairs us q) (sym f.whole) f.spelled; once = f.once }
