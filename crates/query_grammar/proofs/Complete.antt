-- The machine takes each query.
use Rattle.std.proofs.Common.{◌≡◌, ℕ, ◌≤◌, List, [], ◌∷◌, ◌++◌, Bool, true, false, ◌||◌, Some, refl, ap, sym, ◌∙◌, subst, append_assoc, append-nil, length, length-append, arith}
use Rattle.std.specs.Prelude.{◌==◌, nat_lt}
use Rattle.std.specs.Str.{byte}
use Rattle.std.proofs.lemmas.Bool.Decides.{nat_tests}
use Rattle.exact_refusals.specs.Judge.{Outcome, Read, ended}
use Rattle.exact_refusals.specs.Plain.{outcome}
use Rattle.exact_refusals.proofs.Plain as plain
use Rattle.query_grammar.specs.declared.query.Hunter.{Hunter}
use Rattle.query_grammar.specs.declared.query.Hunter.TheVariants as hunter
use Rattle.query_grammar.specs.declared.query.Filter.TheVariants as filter
use Rattle.query_grammar.specs.declared.query.StepFilter.{StepFilter}
use Rattle.query_grammar.specs.declared.query.StepFilter.TheVariants as kind
use Rattle.query_grammar.specs.Steps.{Step}
use Rattle.query_grammar.specs.Queries.{is_lower, is_mark, in_word, in_value, goes_on, Run, run_ends, run_more, Word, a_word, Name, a_name, Spaces, here, behind, SpellsHunter, by_tag, by_id, by_child, by_next, by_children, by_all, SpellsFilter, by_class, by_name, by_type, by_presence, by_value, by_keyword, SpellsFilters, no_filter, one_filter, SpellsStep, a_step, SpellsSteps, no_step, one_step, QuerySpells}
use Rattle.query_grammar.specs.Machine.{Role, ForTag, ForId, ForChild, ForNext, FilterRole, ForClass, ForName, ForKind, State, Between, Hunt, HuntWord, Inside, Sift, SiftWord, Attribute, AttributeWord, AttributeValue, Keyword, with, found, sifted, goes_in, keyword_of, keyword_or, between, inside, step, some_steps, done, begin}
use Rattle.query_grammar.proofs.Truths.{same_number, both_ways, none_some}
use Rattle.query_grammar.proofs.Keywords.{keyword_listed, front_fits, front_none, nothing_fits}

abbrev pub go : State → List ℕ → Outcome (List Step)
go st us = outcome step done st us

pub taken : (st next_st : State) (u : ℕ) (us : List ℕ) → step st u ≡ Some next_st → go st (u ∷ us) ≡ go next_st us
taken = plain.taken step done

-- ## Runs and spaces

pub run_stops : {p : ℕ → Bool} {us run rest : List ℕ} → Run p us run rest → goes_on p rest ≡ false
run_stops (run_ends h) = h
run_stops (run_more h more) = run_stops more

-- a run of units, where each goes on with the word so far
run_goes : (p : ℕ → Bool) (S : List ℕ → State) → ((w : List ℕ) (u : ℕ) → p u ≡ true → step (S w) u ≡ Some (S (w ++ u ∷ []))) → (w : List ℕ) {us run rest : List ℕ} → Run p us run rest → go (S w) us ≡ go (S (w ++ run)) rest
run_goes p S on w {rest = rest} (run_ends h) = ap (λ l. go (S l) rest) (sym (append-nil w))
run_goes p S on w {rest = rest} (run_more {u = u} {us = us} {run = run} h more) =
    taken (S w) (S (w ++ u ∷ [])) u us (on w u h) ∙ run_goes p S on (w ++ u ∷ []) more ∙ ap (λ l. go (S l) rest) (append_assoc w (u ∷ []) run)

spaces_stay : (st : State) → step st (byte " ") ≡ Some st → {us rest : List ℕ} → Spaces us rest → go st us ≡ go st rest
spaces_stay st stays here = refl
spaces_stay st stays (behind {us = us} more) = taken st st (byte " ") us stays ∙ spaces_stay st stays more

pub between_spaces : (qs : List Step) {us rest : List ℕ} → Spaces us rest → go (Between qs) us ≡ go (Between qs) rest
between_spaces qs = spaces_stay (Between qs) refl

-- ## What may stand behind a step

or_none : (a b : Bool) → (a || b) ≡ false → (a ≡ false) × (b ≡ false)
or_none true b e = cc
or_none false b e = (refl, e)

pub some_with : (qs : List Step) (h : Hunter) (fs : List StepFilter) → some_steps (with qs h fs) ≡ Some (with qs h fs)
some_with [] h fs = refl
some_with (q ∷ qs) h fs = refl

inside_between : (qs : List Step) (h : Hunter) (fs : List StepFilter) (u : ℕ) → is_mark u ≡ false → inside qs h fs u ≡ between (with qs h fs) u
inside_between qs h fs u e =
    let a = or_none (u == byte "." || u == byte "&" || u == byte "_" || u == byte "[") (u == byte ":") e in
    let b = or_none (u == byte "." || u == byte "&" || u == byte "_") (u == byte "[") (a.0) in
    let c = or_none (u == byte "." || u == byte "&") (u == byte "_") (b.0) in
    let d = or_none (u == byte ".") (u == byte "&") (c.0) in
    rw (d.0, d.1, c.1, b.1, a.1) refl

-- behind a step that gets no further filter
pub step_ends : (qs : List Step) (h : Hunter) (fs : List StepFilter) (us : List ℕ) → goes_on is_mark us ≡ false → go (Inside qs h fs) us ≡ go (Between (with qs h fs)) us
step_ends qs h fs [] e = sym (ap ended (some_with qs h fs))
step_ends qs h fs (u ∷ us) e = plain.same_step step done (Inside qs h fs) (Between (with qs h fs)) u us (inside_between qs h fs u e)

-- ## Hunters

-- a letter is no mark and no space
no_number : (u n : ℕ) → is_lower u ≡ true → is_lower n ≡ false → (u == n) ≡ false
no_number u n h e = by_test (u == n) refl
  where
    by_test : (t : Bool) → (u == n) ≡ t → (u == n) ≡ false
    by_test false f = f
    by_test true f = absurd (both_ways (is_lower u) h (subst (λ x. is_lower x ≡ false) (sym (same_number u n f)) e))

lower_plain : (u : ℕ) → is_lower u ≡ true → is_mark u ≡ false
lower_plain u h =
    let a = no_number u (byte ".") h refl in
    let b = no_number u (byte "&") h refl in
    let c = no_number u (byte "_") h refl in
    let d = no_number u (byte "[") h refl in
    let e = no_number u (byte ":") h refl in
    rw (a, b, c, d, e) refl

-- the word of a hunter is read, and no unit goes on with it
word_ends : (role : Role) (qs : List Step) (w rest : List ℕ) → goes_on (goes_in role) rest ≡ false → go (HuntWord role qs w) rest ≡ go (Inside qs (found role w) []) rest
word_ends role qs w [] e = refl
word_ends role qs w (u ∷ us) e = plain.same_step step done (HuntWord role qs w) (Inside qs (found role w) []) u us (rw e refl)

pub word_goes : (role : Role) (qs : List Step) (w : List ℕ) {us run rest : List ℕ} → Run (goes_in role) us run rest → go (HuntWord role qs w) us ≡ go (Inside qs (found role (w ++ run)) []) rest
word_goes role qs w {run = run} {rest = rest} h = run_goes (goes_in role) (λ x. HuntWord role qs x) (λ x u e. rw e refl) w h ∙ word_ends role qs (w ++ run) rest (run_stops h)

abbrev HasRoom : List Step → Type 0
HasRoom qs = nat_lt (length qs) 32 ≡ true

module _ (qs : List Step) (room : nat_lt (length qs) 32 ≡ true) where
  pub first_letter : (u : ℕ) (us : List ℕ) → is_lower u ≡ true → go (Between qs) (u ∷ us) ≡ go (HuntWord ForTag qs (u ∷ [])) us
  first_letter u us h = taken (Between qs) (HuntWord ForTag qs (u ∷ [])) u us (rw (no_number u (byte " ") h refl, room, h) refl)

  pub child_letter : (u : ℕ) (us : List ℕ) → is_lower u ≡ true → go (Hunt ForChild qs) (u ∷ us) ≡ go (HuntWord ForChild qs (u ∷ [])) us
  child_letter u us h = taken (Hunt ForChild qs) (HuntWord ForChild qs (u ∷ [])) u us (rw (no_number u (byte " ") h refl, h) refl)

  pub next_letter : (u : ℕ) (us : List ℕ) → is_lower u ≡ true → go (Hunt ForNext qs) (u ∷ us) ≡ go (HuntWord ForNext qs (u ∷ [])) us
  next_letter u us h = taken (Hunt ForNext qs) (HuntWord ForNext qs (u ∷ [])) u us (rw (no_number u (byte " ") h refl, h) refl)

  pub id_letter : (u : ℕ) (us : List ℕ) → in_word u ≡ true → go (Hunt ForId qs) (u ∷ us) ≡ go (HuntWord ForId qs (u ∷ [])) us
  id_letter u us h = taken (Hunt ForId qs) (HuntWord ForId qs (u ∷ [])) u us (rw h refl)

  pub tag_goes : {us w rest : List ℕ} → Name us w rest → go (Between qs) us ≡ go (Inside qs (hunter.Tag w) []) rest
  tag_goes (a_name {u = u} {us = us} h run) = first_letter u us h ∙ word_goes ForTag qs (u ∷ []) run

  pub id_goes : {us w rest : List ℕ} → Word us w rest → go (Hunt ForId qs) us ≡ go (Inside qs (hunter.Id w) []) rest
  id_goes (a_word {u = u} {us = us} h run) = id_letter u us h ∙ word_goes ForId qs (u ∷ []) run

  pub child_goes : {us w rest : List ℕ} → Name us w rest → go (Hunt ForChild qs) us ≡ go (Inside qs (hunter.Child w) []) rest
  child_goes (a_name {u = u} {us = us} h run) = child_letter u us h ∙ word_goes ForChild qs (u ∷ []) run

  pub next_goes : {us w rest : List ℕ} → Name us w rest → go (Hunt ForNext qs) us ≡ go (Inside qs (hunter.Next w) []) rest
  next_goes (a_name {u = u} {us = us} h run) = next_letter u us h ∙ word_goes ForNext qs (u ∷ []) run

  pub child_spaces : {us rest : List ℕ} → Spaces us rest → go (Hunt ForChild qs) us ≡ go (Hunt ForChild qs) rest
  child_spaces = spaces_stay (Hunt ForChild qs) refl

  pub next_spaces : {us rest : List ℕ} → Spaces us rest → go (Hunt ForNext qs) us ≡ go (Hunt ForNext qs) rest
  next_spaces = spaces_stay (Hunt ForNext qs) refl

  pub id_mark : (us : List ℕ) → go (Between qs) (byte "#" ∷ us) ≡ go (Hunt ForId qs) us
  id_mark us = taken (Between qs) (Hunt ForId qs) (byte "#") us (rw room refl)

  pub child_mark : (us : List ℕ) → go (Between qs) (byte ">" ∷ us) ≡ go (Hunt ForChild qs) us
  child_mark us = taken (Between qs) (Hunt ForChild qs) (byte ">") us (rw room refl)

  pub next_mark : (us : List ℕ) → go (Between qs) (byte "+" ∷ us) ≡ go (Hunt ForNext qs) us
  next_mark us = taken (Between qs) (Hunt ForNext qs) (byte "+") us (rw room refl)

  pub children_mark : (us : List ℕ) → go (Between qs) (byte "/" ∷ us) ≡ go (Inside qs hunter.Children []) us
  children_mark us = taken (Between qs) (Inside qs hunter.Children []) (byte "/") us (rw room refl)

  pub all_mark : (us : List ℕ) → go (Between qs) (byte "*" ∷ us) ≡ go (Inside qs hunter.All []) us
  all_mark us = taken (Between qs) (Inside qs hunter.All []) (byte "*") us (rw room refl)

  pub hunter_goes : {h : Hunter} {us rest : List ℕ} → SpellsHunter h us rest → go (Between qs) us ≡ go (Inside qs h []) rest
  hunter_goes (by_tag name) = tag_goes name
  hunter_goes (by_id {us = us} word) = id_mark us ∙ id_goes word
  hunter_goes (by_child {us = us} spaces name) = child_mark us ∙ child_spaces spaces ∙ child_goes name
  hunter_goes (by_next {us = us} spaces name) = next_mark us ∙ next_spaces spaces ∙ next_goes name
  hunter_goes (by_children {rest = rest}) = children_mark rest
  hunter_goes (by_all {rest = rest}) = all_mark rest

-- ## Filters

module _ (qs : List Step) (h : Hunter) where
  sift_ends : (role : FilterRole) (fs : List StepFilter) (w rest : List ℕ) → goes_on in_word rest ≡ false → go (SiftWord role qs h fs w) rest ≡ go (Inside qs h (fs ++ sifted role w ∷ [])) rest
  sift_ends role fs w [] e = refl
  sift_ends role fs w (u ∷ us) e = plain.same_step step done (SiftWord role qs h fs w) (Inside qs h (fs ++ sifted role w ∷ [])) u us (rw e refl)

  pub sift_goes : (role : FilterRole) (fs : List StepFilter) {us w rest : List ℕ} → Word us w rest → go (Sift role qs h fs) us ≡ go (Inside qs h (fs ++ sifted role w ∷ [])) rest
  sift_goes role fs {rest = rest} (a_word {u = u} {us = us} {run = run} e r) =
      taken (Sift role qs h fs) (SiftWord role qs h fs (u ∷ [])) u us (rw e refl)
      ∙ run_goes in_word (λ x. SiftWord role qs h fs x) (λ x v f. rw f refl) (u ∷ []) r ∙ sift_ends role fs (u ∷ run) rest (run_stops r)

  pub attribute_goes : (fs : List StepFilter) {us w rest : List ℕ} → Word us w rest → go (Attribute qs h fs) us ≡ go (AttributeWord qs h fs w) rest
  attribute_goes fs (a_word {u = u} {us = us} e r) =
      taken (Attribute qs h fs) (AttributeWord qs h fs (u ∷ [])) u us (rw e refl) ∙ run_goes in_word (λ x. AttributeWord qs h fs x) (λ x v f. rw f refl) (u ∷ []) r

  pub value_on : (fs : List StepFilter) (w : List ℕ) {us v rest : List ℕ} → Run in_value us v rest → go (AttributeValue qs h fs w []) us ≡ go (AttributeValue qs h fs w v) rest
  value_on fs w r = run_goes in_value (λ x. AttributeValue qs h fs w x) (λ x u f. rw f refl) [] r

  pub value_goes : (fs : List StepFilter) (w : List ℕ) {us v rest : List ℕ} → Run in_value us v (byte "]" ∷ rest) → go (AttributeValue qs h fs w []) us ≡ go (Inside qs h (fs ++ kind.Node (filter.Equals w v) ∷ [])) rest
  value_goes fs w {v = v} {rest = rest} r =
      run_goes in_value (λ x. AttributeValue qs h fs w x) (λ x u f. rw f refl) [] r
      ∙ taken (AttributeValue qs h fs w v) (Inside qs h (fs ++ kind.Node (filter.Equals w v) ∷ [])) (byte "]") rest refl

  pub keyword_goes : (fs : List StepFilter) (f : StepFilter) (more front : List ℕ) (u : ℕ) (us : List ℕ) → keyword_of (front ++ u ∷ more) ≡ Some f → go (Keyword qs h fs front) (u ∷ more ++ us) ≡ go (Inside qs h (fs ++ f ∷ [])) us
  keyword_goes fs f [] front u us e = taken (Keyword qs h fs front) (Inside qs h (fs ++ f ∷ [])) u us (ap (keyword_or qs h fs (front ++ u ∷ [])) e)
  keyword_goes fs f (v ∷ more) front u us e =
      let whole : front ++ u ∷ v ∷ more ≡ (front ++ u ∷ []) ++ v ∷ more = sym (append_assoc front (u ∷ []) (v ∷ more)) in
      let word = subst (λ l. keyword_of l ≡ Some f) whole e in
      let none = front_none (front ++ u ∷ []) v more f word in
      let fit = front_fits (front ++ u ∷ []) (v ∷ more) f word in
      let on : step (Keyword qs h fs front) u ≡ Some (Keyword qs h fs (front ++ u ∷ [])) = ap (keyword_or qs h fs (front ++ u ∷ [])) none ∙ rw fit refl in
      taken (Keyword qs h fs front) (Keyword qs h fs (front ++ u ∷ [])) u (v ∷ more ++ us) on ∙ keyword_goes fs f more (front ++ u ∷ []) v us word

  pub filter_goes : (fs : List StepFilter) {f : StepFilter} {us rest : List ℕ} → SpellsFilter f us rest → go (Inside qs h fs) us ≡ go (Inside qs h (fs ++ f ∷ [])) rest
  filter_goes fs (by_class {us = us} w) = taken (Inside qs h fs) (Sift ForClass qs h fs) (byte ".") us refl ∙ sift_goes ForClass fs w
  filter_goes fs (by_name {us = us} w) = taken (Inside qs h fs) (Sift ForName qs h fs) (byte "&") us refl ∙ sift_goes ForName fs w
  filter_goes fs (by_type {us = us} w) = taken (Inside qs h fs) (Sift ForKind qs h fs) (byte "_") us refl ∙ sift_goes ForKind fs w
  filter_goes fs (by_presence {us = us} {w = w} {rest = rest} word) =
      taken (Inside qs h fs) (Attribute qs h fs) (byte "[") us refl ∙ attribute_goes fs word ∙ taken (AttributeWord qs h fs w) (Inside qs h (fs ++ kind.Node (filter.Has w) ∷ [])) (byte "]") rest refl
  filter_goes fs (by_value {us = us} {vs = vs} {w = w} word value) =
      taken (Inside qs h fs) (Attribute qs h fs) (byte "[") us refl ∙ attribute_goes fs word ∙ taken (AttributeWord qs h fs w) (AttributeValue qs h fs w []) (byte "=") vs refl ∙ value_goes fs w value
  filter_goes fs (by_keyword {w = w} {rest = rest} {f = f} key) = taken (Inside qs h fs) (Keyword qs h fs []) (byte ":") (w ++ rest) refl ∙ from_colon w (keyword_listed w f key)
    where
      from_colon : (w : List ℕ) → keyword_of w ≡ Some f → go (Keyword qs h fs []) (w ++ rest) ≡ go (Inside qs h (fs ++ f ∷ [])) rest
      from_colon [] e = absurd (none_some f (sym nothing_fits.1 ∙ e))
      from_colon (u ∷ w) e = keyword_goes fs f w [] u rest e

  pub filters_go : (fs : List StepFilter) {gs : List StepFilter} {us rest : List ℕ} → SpellsFilters gs us rest → go (Inside qs h fs) us ≡ go (Inside qs h (fs ++ gs)) rest
  filters_go fs {rest = rest} no_filter = ap (λ l. go (Inside qs h l) rest) (sym (append-nil fs))
  filters_go fs {rest = rest} (one_filter {f = f} {fs = gs} one others) = filter_goes fs one ∙ filters_go (fs ++ f ∷ []) others ∙ ap (λ l. go (Inside qs h l) rest) (append_assoc fs (f ∷ []) gs)

-- ## Steps

hunter_first : {h : Hunter} {us rest : List ℕ} → SpellsHunter h us rest → goes_on is_mark us ≡ false
hunter_first (by_tag (a_name {u = u} h run)) = lower_plain u h
hunter_first (by_id word) = refl
hunter_first (by_child spaces name) = refl
hunter_first (by_next spaces name) = refl
hunter_first by_children = refl
hunter_first by_all = refl

step_first : {q : Step} {us rest : List ℕ} → SpellsStep q us rest → goes_on is_mark us ≡ false
step_first (a_step h fs) = hunter_first h

steps_first : {us : List ℕ} {qs : List Step} → SpellsSteps us qs → goes_on is_mark us ≡ false
steps_first (no_step here) = refl
steps_first (no_step (behind more)) = refl
steps_first (one_step here one others) = step_first one
steps_first (one_step (behind more) one others) = refl

step_goes : (qs : List Step) {q : Step} {us rest : List ℕ} → nat_lt (length qs) 32 ≡ true → SpellsStep q us rest → goes_on is_mark rest ≡ false → go (Between qs) us ≡ go (Between (qs ++ q ∷ [])) rest
step_goes qs {rest = rest} room (a_step {h = h} {fs = fs} one filters) e = hunter_goes qs room one ∙ filters_go qs h [] filters ∙ step_ends qs h fs rest e

steps_go : (more qs : List Step) (us : List ℕ) → length (qs ++ more) ≤ 32 → SpellsSteps us more → go (Between qs) us ≡ ended (some_steps (qs ++ more))
steps_go more qs us few (no_step spaces) = between_spaces qs spaces ∙ ap (λ l. ended (some_steps l)) (sym (append-nil qs))
steps_go more qs us few (one_step {q = q} {qs = others} {ws = ws} spaces one rest) =
    let whole : (qs ++ q ∷ []) ++ others ≡ qs ++ q ∷ others = append_assoc qs (q ∷ []) others in
    let room : nat_lt (length qs) 32 ≡ true = grind (arith, nat_tests, few, length-append qs (q ∷ others)) in
    between_spaces qs spaces ∙ step_goes qs room one (steps_first rest) ∙ steps_go others (qs ++ q ∷ []) ws (subst (λ l. length l ≤ 32) (sym whole) few) rest ∙ ap (λ l. ended (some_steps l)) whole

some_read : (qs : List Step) → (qs ≡ [] → ⊥) → ended (some_steps qs) ≡ Read qs
some_read [] h = absurd (h refl)
some_read (q ∷ qs) h = refl

-- the machine reads each query
pub complete : (us : List ℕ) (steps : List Step) → QuerySpells us steps → go begin us ≡ Read steps
complete us steps h = steps_go steps [] us h.few h.spelled ∙ some_read steps h.some
