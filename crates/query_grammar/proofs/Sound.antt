-- What the machine takes is a query.
use Rattle.std.proofs.Common.{◌≡◌, ◌≢◌, ℕ, ◌<◌, ◌≤◌, ◌⊎◌, inl, inr, List, [], ◌∷◌, ◌++◌, Bool, true, false, ◌&&◌, Option, Some, None, refl, ap, sym, ◌∙◌, subst, append_assoc, append-nil, length, length-append, arith, if◌then◌else◌}
use Rattle.std.specs.Prelude.{◌==◌, nat_lt}
use Rattle.std.specs.Str.{byte}
use Rattle.std.proofs.lemmas.Bool.Decides.{nat_tests}
use Rattle.exact_refusals.specs.Judge.{Read}
use Rattle.exact_refusals.specs.Plain.{Closes, EachCloses}
use Rattle.exact_refusals.proofs.Plain as plain
use Rattle.query_grammar.specs.declared.query.Hunter.{Hunter}
use Rattle.query_grammar.specs.declared.query.Hunter.TheVariants as hunter
use Rattle.query_grammar.specs.declared.query.Filter.TheVariants as filter
use Rattle.query_grammar.specs.declared.query.StepFilter.{StepFilter}
use Rattle.query_grammar.specs.declared.query.StepFilter.TheVariants as kind
use Rattle.query_grammar.specs.Steps.{Step}
use Rattle.query_grammar.specs.Queries.{is_lower, in_word, in_value, Run, run_ends, run_more, Word, a_word, Name, a_name, Spaces, here, behind, SpellsHunter, by_tag, by_id, by_child, by_next, by_children, by_all, SpellsFilter, by_class, by_name, by_type, by_presence, by_value, by_keyword, SpellsFilters, no_filter, one_filter, a_step, SpellsSteps, no_step, one_step, QuerySpells, IsKeyword}
use Rattle.query_grammar.specs.Machine.{Role, ForTag, ForId, ForChild, ForNext, ForClass, ForName, ForKind, State, Between, Hunt, HuntWord, Inside, Sift, SiftWord, Attribute, AttributeWord, AttributeValue, Keyword, with, found, sifted, begins_word, goes_in, may_wait, keyword_of, keyword_or, fits, hunts, between, inside, step, some_steps, done, begin}
use Rattle.query_grammar.proofs.Truths.{and_parts, same_number, both_ways, branch, none_some, same_some, not_false}
use Rattle.query_grammar.proofs.Keywords.{keyword_is, fits_keyword, nothing_fits}
use Rattle.query_grammar.proofs.Complete.{go, some_with, keyword_goes}

-- ## What a step of the machine was

abbrev Room : List Step → Type 0
Room qs = nat_lt (length qs) 32 ≡ true

module _ (P : State → Type 0) (u : ℕ) (next : State) where
  -- one branch: a test, and the state that comes of it
  one : (b : Bool) (st : State) (other : Option State) → (if b then Some st else other) ≡ Some next → (b ≡ true → P st) → (other ≡ Some next → P next) → P next
  one b st other h yes_case no_case = elim (branch b (Some st) other next h) [ inl (e, g) ↦ subst P (same_some st next g) (yes_case e) | inr (e, g) ↦ no_case g ]

  -- the same, where it matters that the test failed
  tested : (b : Bool) (st : State) (other : Option State) → (if b then Some st else other) ≡ Some next → (b ≡ true → P st) → (b ≡ false → other ≡ Some next → P next) → P next
  tested b st other h yes_case no_case = elim (branch b (Some st) other next h) [ inl (e, g) ↦ subst P (same_some st next g) (yes_case e) | inr (e, g) ↦ no_case e g ]

  mark : (n : ℕ) (st : State) (other : Option State) → (if u == n then Some st else other) ≡ Some next → (u ≡ n → P st) → (other ≡ Some next → P next) → P next
  mark n st other h yes_case no_case = one (u == n) st other h (λ e. yes_case (same_number u n e)) no_case

  hunts_was : (qs : List Step) → hunts qs u ≡ Some next → (Room qs → is_lower u ≡ true → P (HuntWord ForTag qs (u ∷ []))) → (Room qs → u ≡ byte "#" → P (Hunt ForId qs)) → (Room qs → u ≡ byte ">" → P (Hunt ForChild qs)) → (Room qs → u ≡ byte "+" → P (Hunt ForNext qs)) → (Room qs → u ≡ byte "/" → P (Inside qs hunter.Children [])) → (Room qs → u ≡ byte "*" → P (Inside qs hunter.All [])) → P next
  hunts_was qs h tag id child sibling children all =
      elim (branch (nat_lt (length qs) 32) _ _ next h) [
        | inr (e, g) ↦ absurd (none_some next g)
        | inl (room, g) ↦
            one (is_lower u) _ _ g (tag room) (λ g1. mark (byte "#") _ _ g1 (id room) (λ g2. mark (byte ">") _ _ g2 (child room) (λ g3. mark (byte "+") _ _ g3 (sibling room)
            (λ g4. mark (byte "/") _ _ g4 (children room) (λ g5. mark (byte "*") _ _ g5 (all room) (λ g6. absurd (none_some next g6)))))))
      ]

  inside_was : (qs : List Step) (h : Hunter) (fs : List StepFilter) → inside qs h fs u ≡ Some next → (u ≡ byte "." → P (Sift ForClass qs h fs)) → (u ≡ byte "&" → P (Sift ForName qs h fs)) → (u ≡ byte "_" → P (Sift ForKind qs h fs)) → (u ≡ byte "[" → P (Attribute qs h fs)) → (u ≡ byte ":" → P (Keyword qs h fs [])) → (between (with qs h fs) u ≡ Some next → P next) → P next
  inside_was qs h fs e class name type attribute colon other =
      mark (byte ".") _ _ e class (λ g1. mark (byte "&") _ _ g1 name (λ g2. mark (byte "_") _ _ g2 type (λ g3. mark (byte "[") _ _ g3 attribute (λ g4. mark (byte ":") _ _ g4 colon other))))

-- ## What stands behind

-- the steps of the units, behind those before
record Steps (qs : List Step) (us : List ℕ) (all : List Step) : Type 0 where
  more : List Step
  whole : all ≡ qs ++ more
  spelled : SpellsSteps us more
  some : all ≢ []
  few : length all ≤ 32

-- further filters of a step, and what stands behind it
record BehindStep (qs : List Step) (h : Hunter) (fs : List StepFilter) (us : List ℕ) (all : List Step) : Type 0 where
  filters : List StepFilter
  others : List ℕ
  spelled : SpellsFilters filters us others
  steps : Steps (with qs h (fs ++ filters)) others all

-- the rest of a word, and what stands behind its hunter
record BehindWord (role : Role) (qs : List Step) (w us : List ℕ) (all : List Step) : Type 0 where
  run : List ℕ
  others : List ℕ
  reads : Run (goes_in role) us run others
  then_step : BehindStep qs (found role (w ++ run)) [] others all

-- the first unit of the word of a hunter, and its further ones
abbrev IsWordOf : Role → List ℕ → List ℕ → List ℕ → Type 0
IsWordOf ForId us w rest = Word us w rest
IsWordOf _ us w rest = Name us w rest

record BehindHunt (role : Role) (qs : List Step) (us : List ℕ) (all : List Step) : Type 0 where
  units : List ℕ
  word : List ℕ
  others : List ℕ
  spaces : Spaces us units
  waits : (may_wait role ≡ false) → us ≡ units
  spelled : IsWordOf role units word others
  then_step : BehindStep qs (found role word) [] others all

record BehindSift (qs : List Step) (h : Hunter) (make : List ℕ → StepFilter) (fs : List StepFilter) (us : List ℕ) (all : List Step) : Type 0 where
  word : List ℕ
  others : List ℕ
  spelled : Word us word others
  then_step : BehindStep qs h (fs ++ make word ∷ []) others all

record BehindSiftWord (qs : List Step) (h : Hunter) (make : List ℕ → StepFilter) (fs : List StepFilter) (w us : List ℕ) (all : List Step) : Type 0 where
  run : List ℕ
  others : List ℕ
  reads : Run in_word us run others
  then_step : BehindStep qs h (fs ++ make (w ++ run) ∷ []) others all

record BehindValue (qs : List Step) (h : Hunter) (fs : List StepFilter) (w v us : List ℕ) (all : List Step) : Type 0 where
  run : List ℕ
  others : List ℕ
  reads : Run in_value us run (byte "]" ∷ others)
  then_step : BehindStep qs h (fs ++ kind.Node (filter.Equals w (v ++ run)) ∷ []) others all

-- the end of an attribute's name
abbrev Closing : List Step → Hunter → List StepFilter → List ℕ → List ℕ → List Step → Type 0
Closing qs h fs w us all = ((rest : List ℕ) × (us ≡ byte "]" ∷ rest) × BehindStep qs h (fs ++ kind.Node (filter.Has w) ∷ []) rest all) ⊎ ((rest : List ℕ) × (us ≡ byte "=" ∷ rest) × BehindValue qs h fs w [] rest all)

record BehindAttributeWord (qs : List Step) (h : Hunter) (fs : List StepFilter) (w us : List ℕ) (all : List Step) : Type 0 where
  run : List ℕ
  others : List ℕ
  reads : Run in_word us run others
  closing : Closing qs h fs (w ++ run) others all

record BehindAttribute (qs : List Step) (h : Hunter) (fs : List StepFilter) (us : List ℕ) (all : List Step) : Type 0 where
  word : List ℕ
  others : List ℕ
  spelled : Word us word others
  closing : Closing qs h fs word others all

record BehindKeyword (qs : List Step) (h : Hunter) (fs : List StepFilter) (front us : List ℕ) (all : List Step) : Type 0 where
  more : List ℕ
  others : List ℕ
  filter_is : StepFilter
  split : us ≡ more ++ others
  key : IsKeyword (front ++ more) filter_is
  then_step : BehindStep qs h (fs ++ filter_is ∷ []) others all

abbrev Follows : State → List ℕ → List Step → Type 0
Follows (Between qs) us all = Steps qs us all
Follows (Hunt role qs) us all = BehindHunt role qs us all
Follows (HuntWord role qs w) us all = BehindWord role qs w us all
Follows (Inside qs h fs) us all = BehindStep qs h fs us all
Follows (Sift role qs h fs) us all = BehindSift qs h (sifted role) fs us all
Follows (SiftWord role qs h fs w) us all = BehindSiftWord qs h (sifted role) fs w us all
Follows (Attribute qs h fs) us all = BehindAttribute qs h fs us all
Follows (AttributeWord qs h fs w) us all = BehindAttributeWord qs h fs w us all
Follows (AttributeValue qs h fs w v) us all = BehindValue qs h fs w v us all
Follows (Keyword qs h fs front) us all = BehindKeyword qs h fs front us all

-- the steps before are at most 32, those before a step fewer
abbrev Arises : State → Type 0
Arises (Between qs) = length qs ≤ 32
Arises (Hunt role qs) = length qs < 32
Arises (HuntWord role qs w) = length qs < 32
Arises (Inside qs h fs) = length qs < 32
Arises (Sift role qs h fs) = length qs < 32
Arises (SiftWord role qs h fs w) = length qs < 32
Arises (Attribute qs h fs) = length qs < 32
Arises (AttributeWord qs h fs w) = length qs < 32
Arises (AttributeValue qs h fs w v) = length qs < 32
Arises (Keyword qs h fs front) = (length qs < 32) × (fits front ≡ true) × (keyword_of front ≡ None)

room_is : (qs : List Step) → Room qs → length qs < 32
room_is qs h = grind (arith, nat_tests)

with_few : (qs : List Step) (h : Hunter) (fs : List StepFilter) → length qs < 32 → length (with qs h fs) ≤ 32
with_few qs h fs lt = omega (arith, length-append qs ((record { hunter = h; filters = fs }) ∷ []), lt)

between_kept : (qs : List Step) (u : ℕ) (next : State) → between qs u ≡ Some next → length qs ≤ 32 → Arises next
between_kept qs u next h few =
    mark Arises u next (byte " ") (Between qs) _ h (λ e. few)
    (λ g. hunts_was Arises u next qs g (λ r e. room_is qs r) (λ r e. room_is qs r) (λ r e. room_is qs r) (λ r e. room_is qs r) (λ r e. room_is qs r) (λ r e. room_is qs r))

inside_kept : (qs : List Step) (h : Hunter) (fs : List StepFilter) (u : ℕ) (next : State) → inside qs h fs u ≡ Some next → length qs < 32 → Arises next
inside_kept qs h fs u next e lt = inside_was Arises u next qs h fs e (λ g. lt) (λ g. lt) (λ g. lt) (λ g. lt) (λ g. (lt, nothing_fits.0, nothing_fits.1)) (λ g. between_kept (with qs h fs) u next g (with_few qs h fs lt))

keyword_kept : (qs : List Step) (h : Hunter) (fs : List StepFilter) (front : List ℕ) (r : Option StepFilter) (next : State) → keyword_of front ≡ r → keyword_or qs h fs front r ≡ Some next → length qs < 32 → Arises next
keyword_kept qs h fs front (Some f) next e g lt = subst Arises (same_some _ next g) lt
keyword_kept qs h fs front None next e g lt = one Arises 0 next (fits front) _ None g (λ fit. (lt, fit, e)) (λ n. absurd (none_some next n))

kept : (st next : State) (u : ℕ) → step st u ≡ Some next → Arises st → Arises next
kept (Between qs) next u h a = between_kept qs u next h a
kept (Hunt role qs) next u h a = one Arises u next (may_wait role && u == byte " ") _ _ h (λ e. a) (λ g. one Arises u next (begins_word role u) _ _ g (λ e. a) (λ n. absurd (none_some next n)))
kept (HuntWord role qs w) next u h a = one Arises u next (goes_in role u) _ _ h (λ e. a) (λ g. inside_kept qs (found role w) [] u next g a)
kept (Inside qs h fs) next u e a = inside_kept qs h fs u next e a
kept (Sift role qs h fs) next u e a = one Arises u next (in_word u) _ _ e (λ g. a) (λ n. absurd (none_some next n))
kept (SiftWord role qs h fs w) next u e a = one Arises u next (in_word u) _ _ e (λ g. a) (λ g. inside_kept qs h (fs ++ sifted role w ∷ []) u next g a)
kept (Attribute qs h fs) next u e a = one Arises u next (in_word u) _ _ e (λ g. a) (λ n. absurd (none_some next n))
kept (AttributeWord qs h fs w) next u e a =
    one Arises u next (in_word u) _ _ e (λ g. a) (λ g. one Arises u next (u == byte "]") _ _ g (λ e. a) (λ g2. one Arises u next (u == byte "=") _ _ g2 (λ e. a) (λ n. absurd (none_some next n))))
kept (AttributeValue qs h fs w v) next u e a = one Arises u next (in_value u) _ _ e (λ g. a) (λ g. subst Arises (same_some _ next g) a)
kept (Keyword qs h fs front) next u e a = keyword_kept qs h fs (front ++ u ∷ []) (keyword_of (front ++ u ∷ [])) next refl e (a.0)

-- ## Each step, backwards

space_front : {us : List ℕ} {qs : List Step} → SpellsSteps us qs → SpellsSteps (byte " " ∷ us) qs
space_front (no_step spaces) = no_step (behind spaces)
space_front (one_step spaces first others) = one_step (behind spaces) first others

module _ (qs : List Step) (h : Hunter) (all : List Step) where
  -- a hunter, and what stands behind it
  hunter_back : {us vs : List ℕ} → SpellsHunter h us vs → BehindStep qs h [] vs all → Steps qs us all
  hunter_back hun f =
      let rest = f.steps in
      record {
        more = (record { hunter = h; filters = f.filters }) ∷ rest.more;
        whole = rest.whole ∙ append_assoc qs ((record { hunter = h; filters = f.filters }) ∷ []) rest.more;
        spelled = one_step here (a_step hun f.spelled) rest.spelled;
        some = rest.some;
        few = rest.few;
      }

  -- a filter, and what stands behind it
  filter_back : (fs : List StepFilter) (f : StepFilter) {us vs : List ℕ} → SpellsFilter f us vs → BehindStep qs h (fs ++ f ∷ []) vs all → BehindStep qs h fs us all
  filter_back fs f spelled g =
      record { filters = f ∷ g.filters; others = g.others; spelled = one_filter spelled g.spelled; steps = subst (λ l. Steps (with qs h l) g.others all) (append_assoc fs (f ∷ []) g.filters) g.steps }

  -- no further filter
  filters_end : (fs : List StepFilter) (us : List ℕ) → Steps (with qs h fs) us all → BehindStep qs h fs us all
  filters_end fs us s = record { filters = []; others = us; spelled = no_filter; steps = subst (λ l. Steps (with qs h l) us all) (sym (append-nil fs)) s }

  sift_back : (fs : List StepFilter) (make : List ℕ → StepFilter) {us vs : List ℕ} → ((w rest : List ℕ) → Word us w rest → SpellsFilter (make w) vs rest) → BehindSift qs h make fs us all → BehindStep qs h fs vs all
  sift_back fs make spells f = filter_back fs (make f.word) (spells f.word f.others f.spelled) f.then_step

  attribute_back : (fs : List StepFilter) (us : List ℕ) → BehindAttribute qs h fs us all → BehindStep qs h fs (byte "[" ∷ us) all
  attribute_back fs us f =
      elim f.closing [
        | inl (rest, e, g) ↦ filter_back fs (kind.Node (filter.Has f.word)) (by_presence (subst (λ l. Word us f.word l) e f.spelled)) g
        | inr (rest, e, g) ↦ filter_back fs (kind.Node (filter.Equals f.word g.run)) (by_value (subst (λ l. Word us f.word l) e f.spelled) g.reads) g.then_step
      ]

  keyword_back : (fs : List StepFilter) (us : List ℕ) → BehindKeyword qs h fs [] us all → BehindStep qs h fs (byte ":" ∷ us) all
  keyword_back fs us f = filter_back fs f.filter_is (subst (λ l. SpellsFilter f.filter_is (byte ":" ∷ l) f.others) (sym f.split) (by_keyword f.key)) f.then_step

module _ (u : ℕ) (us : List ℕ) (all : List Step) where
  -- a unit that is known
  at_mark : (Q : List ℕ → Type 0) (n : ℕ) → u ≡ n → Q (n ∷ us) → Q (u ∷ us)
  at_mark Q n e q = subst (λ x. Q (x ∷ us)) (sym e) q

  id_word : (qs : List Step) (f : BehindHunt ForId qs us all) → Word us f.word f.others
  id_word qs f = subst (λ l. Word l f.word f.others) (sym (f.waits refl)) f.spelled

  between_back : (qs : List Step) (next : State) → between qs u ≡ Some next → Follows next us all → Steps qs (u ∷ us) all
  between_back qs next h =
      mark (λ x. Follows x us all → Steps qs (u ∷ us) all) u next (byte " ") (Between qs) _ h
      (λ e f. at_mark (λ l. Steps qs l all) (byte " ") e (record { more = f.more; whole = f.whole; spelled = space_front f.spelled; some = f.some; few = f.few }))
      (λ g. hunts_was (λ x. Follows x us all → Steps qs (u ∷ us) all) u next qs g
      (λ room e f. hunter_back qs (hunter.Tag (u ∷ f.run)) all (by_tag (a_name e f.reads)) f.then_step)
      (λ room e f. at_mark (λ l. Steps qs l all) (byte "#") e (hunter_back qs (hunter.Id f.word) all (by_id (id_word qs f)) f.then_step))
      (λ room e f. at_mark (λ l. Steps qs l all) (byte ">") e (hunter_back qs (hunter.Child f.word) all (by_child f.spaces f.spelled) f.then_step))
      (λ room e f. at_mark (λ l. Steps qs l all) (byte "+") e (hunter_back qs (hunter.Next f.word) all (by_next f.spaces f.spelled) f.then_step))
      (λ room e f. at_mark (λ l. Steps qs l all) (byte "/") e (hunter_back qs hunter.Children all by_children f))
      (λ room e f. at_mark (λ l. Steps qs l all) (byte "*") e (hunter_back qs hunter.All all by_all f)))

  inside_back : (qs : List Step) (h : Hunter) (fs : List StepFilter) (next : State) → inside qs h fs u ≡ Some next → Follows next us all → BehindStep qs h fs (u ∷ us) all
  inside_back qs h fs next g =
      inside_was (λ x. Follows x us all → BehindStep qs h fs (u ∷ us) all) u next qs h fs g
      (λ e f. at_mark (λ l. BehindStep qs h fs l all) (byte ".") e (sift_back qs h all fs (sifted ForClass) (λ w rest h. by_class h) f))
      (λ e f. at_mark (λ l. BehindStep qs h fs l all) (byte "&") e (sift_back qs h all fs (sifted ForName) (λ w rest h. by_name h) f))
      (λ e f. at_mark (λ l. BehindStep qs h fs l all) (byte "_") e (sift_back qs h all fs (sifted ForKind) (λ w rest h. by_type h) f))
      (λ e f. at_mark (λ l. BehindStep qs h fs l all) (byte "[") e (attribute_back qs h all fs us f))
      (λ e f. at_mark (λ l. BehindStep qs h fs l all) (byte ":") e (keyword_back qs h all fs us f))
      (λ b f. filters_end qs h all fs (u ∷ us) (between_back (with qs h fs) next b f))

  word_begun : (role : Role) {run others : List ℕ} → begins_word role u ≡ true → Run (goes_in role) us run others → IsWordOf role (u ∷ us) (u ∷ run) others
  word_begun ForTag e r = a_name e r
  word_begun ForId e r = a_word e r
  word_begun ForChild e r = a_name e r
  word_begun ForNext e r = a_name e r

  hunt_space : (role : Role) (qs : List Step) → may_wait role && u == byte " " ≡ true → BehindHunt role qs us all → BehindHunt role qs (u ∷ us) all
  hunt_space role qs e f =
      let p = and_parts (may_wait role) (u == byte " ") e in
      record {
        units = f.units;
        word = f.word;
        others = f.others;
        spaces = at_mark (λ l. Spaces l f.units) (byte " ") (same_number u (byte " ") (p.1)) (behind f.spaces);
        waits = λ never. absurd (both_ways (may_wait role) (p.0) never);
        spelled = f.spelled;
        then_step = f.then_step;
      }

  hunt_begun : (role : Role) (qs : List Step) → begins_word role u ≡ true → BehindWord role qs (u ∷ []) us all → BehindHunt role qs (u ∷ us) all
  hunt_begun role qs e f = record { units = u ∷ us; word = u ∷ f.run; others = f.others; spaces = here; waits = λ never. refl; spelled = word_begun role e f.reads; then_step = f.then_step }

  word_on : (role : Role) (qs : List Step) (w : List ℕ) → goes_in role u ≡ true → BehindWord role qs (w ++ u ∷ []) us all → BehindWord role qs w (u ∷ us) all
  word_on role qs w e f =
      record { run = u ∷ f.run; others = f.others; reads = run_more e f.reads; then_step = subst (λ l. BehindStep qs (found role l) [] f.others all) (append_assoc w (u ∷ []) f.run) f.then_step }

  sift_on : (make : List ℕ → StepFilter) (qs : List Step) (h : Hunter) (fs : List StepFilter) (w : List ℕ) → in_word u ≡ true → BehindSiftWord qs h make fs (w ++ u ∷ []) us all → BehindSiftWord qs h make fs w (u ∷ us) all
  sift_on make qs h fs w e f =
      record { run = u ∷ f.run; others = f.others; reads = run_more e f.reads; then_step = subst (λ l. BehindStep qs h (fs ++ make l ∷ []) f.others all) (append_assoc w (u ∷ []) f.run) f.then_step }

  attribute_on : (qs : List Step) (h : Hunter) (fs : List StepFilter) (w : List ℕ) → in_word u ≡ true → BehindAttributeWord qs h fs (w ++ u ∷ []) us all → BehindAttributeWord qs h fs w (u ∷ us) all
  attribute_on qs h fs w e f =
      record { run = u ∷ f.run; others = f.others; reads = run_more e f.reads; closing = subst (λ l. Closing qs h fs l f.others all) (append_assoc w (u ∷ []) f.run) f.closing }

  value_on : (qs : List Step) (h : Hunter) (fs : List StepFilter) (w v : List ℕ) → in_value u ≡ true → BehindValue qs h fs w (v ++ u ∷ []) us all → BehindValue qs h fs w v (u ∷ us) all
  value_on qs h fs w v e f =
      record { run = u ∷ f.run; others = f.others; reads = run_more e f.reads; then_step = subst (λ l. BehindStep qs h (fs ++ kind.Node (filter.Equals w l) ∷ []) f.others all) (append_assoc v (u ∷ []) f.run) f.then_step }

  keyword_on : (qs : List Step) (h : Hunter) (fs : List StepFilter) (front : List ℕ) → BehindKeyword qs h fs (front ++ u ∷ []) us all → BehindKeyword qs h fs front (u ∷ us) all
  keyword_on qs h fs front f =
      record { more = u ∷ f.more; others = f.others; filter_is = f.filter_is; split = ap (λ l. u ∷ l) f.split; key = subst (λ l. IsKeyword l f.filter_is) (append_assoc front (u ∷ []) f.more) f.key; then_step = f.then_step }

  closed : (qs : List Step) (h : Hunter) (fs : List StepFilter) (w : List ℕ) → in_word u ≡ false → Closing qs h fs w (u ∷ us) all → BehindAttributeWord qs h fs w (u ∷ us) all
  closed qs h fs w e c = record { run = []; others = u ∷ us; reads = run_ends e; closing = subst (λ l. Closing qs h fs l (u ∷ us) all) (sym (append-nil w)) c }

  value_closed : (qs : List Step) (h : Hunter) (fs : List StepFilter) (w v : List ℕ) → in_value u ≡ false → BehindStep qs h (fs ++ kind.Node (filter.Equals w v) ∷ []) us all → BehindValue qs h fs w v (u ∷ us) all
  value_closed qs h fs w v e f =
      let is = same_number u (byte "]") (not_false (u == byte "]") e) in
      record {
        run = [];
        others = us;
        reads = at_mark (λ l. Run in_value l [] (byte "]" ∷ us)) (byte "]") is (run_ends refl);
        then_step = subst (λ l. BehindStep qs h (fs ++ kind.Node (filter.Equals w l) ∷ []) us all) (sym (append-nil v)) f;
      }

  keyword_step : (qs : List Step) (h : Hunter) (fs : List StepFilter) (front : List ℕ) (r : Option StepFilter) (next : State) → keyword_of (front ++ u ∷ []) ≡ r → keyword_or qs h fs (front ++ u ∷ []) r ≡ Some next → Follows next us all → BehindKeyword qs h fs front (u ∷ us) all
  keyword_step qs h fs front (Some f) next e g =
      subst (λ x. Follows x us all → BehindKeyword qs h fs front (u ∷ us) all) (same_some _ next g)
      (λ b. record { more = u ∷ []; others = us; filter_is = f; split = refl; key = keyword_is (front ++ u ∷ []) f e; then_step = b })
  keyword_step qs h fs front None next e g =
      one (λ x. Follows x us all → BehindKeyword qs h fs front (u ∷ us) all) u next (fits (front ++ u ∷ [])) _ None g (λ fit. keyword_on qs h fs front) (λ n. absurd (none_some next n))

step_back : (st next : State) (u : ℕ) (us : List ℕ) (all : List Step) → step st u ≡ Some next → Follows next us all → Follows st (u ∷ us) all
step_back (Between qs) next u us all h = between_back u us all qs next h
step_back (Hunt role qs) next u us all h =
    one (λ x. Follows x us all → BehindHunt role qs (u ∷ us) all) u next (may_wait role && u == byte " ") _ _ h (hunt_space u us all role qs)
    (λ g. one (λ x. Follows x us all → BehindHunt role qs (u ∷ us) all) u next (begins_word role u) _ _ g (hunt_begun u us all role qs) (λ n. absurd (none_some next n)))
step_back (HuntWord role qs w) next u us all h =
    tested (λ x. Follows x us all → BehindWord role qs w (u ∷ us) all) u next (goes_in role u) _ _ h (word_on u us all role qs w)
    (λ e g f. record { run = []; others = u ∷ us; reads = run_ends e; then_step = subst (λ l. BehindStep qs (found role l) [] (u ∷ us) all) (sym (append-nil w)) (inside_back u us all qs (found role w) [] next g f) })
step_back (Inside qs h fs) next u us all g = inside_back u us all qs h fs next g
step_back (Sift role qs h fs) next u us all g =
    one (λ x. Follows x us all → BehindSift qs h (sifted role) fs (u ∷ us) all) u next (in_word u) _ _ g
    (λ e f. record { word = u ∷ f.run; others = f.others; spelled = a_word e f.reads; then_step = f.then_step }) (λ n. absurd (none_some next n))
step_back (SiftWord role qs h fs w) next u us all g =
    tested (λ x. Follows x us all → BehindSiftWord qs h (sifted role) fs w (u ∷ us) all) u next (in_word u) _ _ g (sift_on u us all (sifted role) qs h fs w)
    (λ e b f. record { run = []; others = u ∷ us; reads = run_ends e; then_step = subst (λ l. BehindStep qs h (fs ++ sifted role l ∷ []) (u ∷ us) all) (sym (append-nil w)) (inside_back u us all qs h (fs ++ sifted role w ∷ []) next b f) })
step_back (Attribute qs h fs) next u us all g =
    one (λ x. Follows x us all → BehindAttribute qs h fs (u ∷ us) all) u next (in_word u) _ _ g
    (λ e f. record { word = u ∷ f.run; others = f.others; spelled = a_word e f.reads; closing = f.closing }) (λ n. absurd (none_some next n))
step_back (AttributeWord qs h fs w) next u us all g =
    tested (λ x. Follows x us all → BehindAttributeWord qs h fs w (u ∷ us) all) u next (in_word u) _ _ g (attribute_on u us all qs h fs w)
    (λ e b. mark (λ x. Follows x us all → BehindAttributeWord qs h fs w (u ∷ us) all) u next (byte "]") _ _ b
    (λ is f. closed u us all qs h fs w e (inl (us, ap (λ x. x ∷ us) is, f)))
    (λ c. mark (λ x. Follows x us all → BehindAttributeWord qs h fs w (u ∷ us) all) u next (byte "=") _ _ c
    (λ is f. closed u us all qs h fs w e (inr (us, ap (λ x. x ∷ us) is, f))) (λ n. absurd (none_some next n))))
step_back (AttributeValue qs h fs w v) next u us all g =
    tested (λ x. Follows x us all → BehindValue qs h fs w v (u ∷ us) all) u next (in_value u) _ _ g (value_on u us all qs h fs w v)
    (λ e b. subst (λ x. Follows x us all → BehindValue qs h fs w v (u ∷ us) all) (same_some _ next b) (value_closed u us all qs h fs w v e))
step_back (Keyword qs h fs front) next u us all g = keyword_step u us all qs h fs front (keyword_of (front ++ u ∷ [])) next refl g

-- ## The end

steps_end : (qs all : List Step) → some_steps qs ≡ Some all → length qs ≤ 32 → Steps qs [] all
steps_end [] all h few = absurd (none_some all h)
steps_end (q ∷ qs) all h few =
    let same : q ∷ qs ≡ all = same_some (q ∷ qs) all h in
    record {
      more = [];
      whole = sym same ∙ sym (append-nil (q ∷ qs));
      spelled = no_step here;
      some = λ none. no_step_in (sym none ∙ sym same);
      few = subst (λ l. length l ≤ 32) same few;
    }
  where
    no_step_in : ◌≡◌ {A = List Step} [] (q ∷ qs) → ⊥
    no_step_in e = cc

with_end : (qs : List Step) (h : Hunter) (fs : List StepFilter) (all : List Step) → ◌≡◌ {A = Option (List Step)} (Some (with qs h fs)) (Some all) → length qs < 32 → BehindStep qs h fs [] all
with_end qs h fs all e lt = filters_end qs h all fs [] (steps_end (with qs h fs) all (some_with qs h fs ∙ e) (with_few qs h fs lt))

end_back : (st : State) (all : List Step) → done st ≡ Some all → Arises st → Follows st [] all
end_back (Between qs) all h a = steps_end qs all h a
end_back (Hunt role qs) all h a = absurd (none_some all h)
end_back (HuntWord role qs w) all h a = record { run = []; others = []; reads = run_ends refl; then_step = subst (λ l. BehindStep qs (found role l) [] [] all) (sym (append-nil w)) (with_end qs (found role w) [] all h a) }
end_back (Inside qs h fs) all e a = with_end qs h fs all e a
end_back (Sift role qs h fs) all e a = absurd (none_some all e)
end_back (SiftWord role qs h fs w) all e a =
    record { run = []; others = []; reads = run_ends refl; then_step = subst (λ l. BehindStep qs h (fs ++ sifted role l ∷ []) [] all) (sym (append-nil w)) (with_end qs h (fs ++ sifted role w ∷ []) all e a) }
end_back (Attribute qs h fs) all e a = absurd (none_some all e)
end_back (AttributeWord qs h fs w) all e a = absurd (none_some all e)
end_back (AttributeValue qs h fs w v) all e a = absurd (none_some all e)
end_back (Keyword qs h fs front) all e a = absurd (none_some all e)

follows : (us : List ℕ) (st : State) (all : List Step) → go st us ≡ Read all → Arises st → Follows st us all
follows [] st all h a = end_back st all (plain.was_done step done st all h) a
follows (u ∷ us) st all h a =
    let t = plain.was_taken step done st u us all h in
    step_back st (t.0) u us all (t.1) (follows us (t.0) all (t.2) (kept st (t.0) u (t.1) a))

-- what the machine reads is a query
pub sound : (us : List ℕ) (steps : List Step) → go begin us ≡ Read steps → QuerySpells us steps
sound us steps h =
    let f = follows us begin steps h (omega arith) in
    record { spelled = subst (λ q. SpellsSteps us q) (sym f.whole) f.spelled; some = f.some; few = f.few }

-- behind the filters of a step that is read alone stand its further ones
abbrev first_filters : List Step → List StepFilter
first_filters [] = []
first_filters (q ∷ qs) = q.filters

pub filters_left : (us : List ℕ) (h : Hunter) (fs gs : List StepFilter) → go (Inside [] h fs) us ≡ Read ((record { hunter = h; filters = gs }) ∷ []) → (more : List StepFilter) × (others : List ℕ) × SpellsFilters more us others × (gs ≡ fs ++ more)
filters_left us h fs gs e =
    let b = follows us (Inside [] h fs) ((record { hunter = h; filters = gs }) ∷ []) e (omega arith) in
    (b.filters, b.others, b.spelled, ap first_filters b.steps.whole)

-- ## Each state closes

between_closes : (qs : List Step) → Closes step done (Between qs)
between_closes [] = (byte "*" ∷ [], with [] hunter.All [], refl)
between_closes (q ∷ qs) = ([], q ∷ qs, refl)

hunt_closes : (role : Role) (qs : List Step) → Closes step done (Hunt role qs)
hunt_closes ForTag qs = (97 ∷ [], with qs (hunter.Tag (97 ∷ [])) [], refl)
hunt_closes ForId qs = (97 ∷ [], with qs (hunter.Id (97 ∷ [])) [], refl)
hunt_closes ForChild qs = (97 ∷ [], with qs (hunter.Child (97 ∷ [])) [], refl)
hunt_closes ForNext qs = (97 ∷ [], with qs (hunter.Next (97 ∷ [])) [], refl)

keyword_closes : (qs : List Step) (h : Hunter) (fs : List StepFilter) (front more : List ℕ) (f : StepFilter) → keyword_of (front ++ more) ≡ Some f → keyword_of front ≡ None → Closes step done (Keyword qs h fs front)
keyword_closes qs h fs front [] f e none = absurd (none_some f (sym none ∙ ap keyword_of (sym (append-nil front)) ∙ e))
keyword_closes qs h fs front (u ∷ more) f e none = (u ∷ more ++ [], with qs h (fs ++ f ∷ []), keyword_goes qs h fs f more front u [] e)

closes : (st : State) → Arises st → Closes step done st
closes (Between qs) a = between_closes qs
closes (Hunt role qs) a = hunt_closes role qs
closes (HuntWord role qs w) a = ([], with qs (found role w) [], refl)
closes (Inside qs h fs) a = ([], with qs h fs, refl)
closes (Sift role qs h fs) a = (97 ∷ [], with qs h (fs ++ sifted role (97 ∷ []) ∷ []), refl)
closes (SiftWord role qs h fs w) a = ([], with qs h (fs ++ sifted role w ∷ []), refl)
closes (Attribute qs h fs) a = (97 ∷ byte "]" ∷ [], with qs h (fs ++ kind.Node (filter.Has (97 ∷ [])) ∷ []), refl)
closes (AttributeWord qs h fs w) a = (byte "]" ∷ [], with qs h (fs ++ kind.Node (filter.Has w) ∷ []), refl)
closes (AttributeValue qs h fs w v) a = (byte "]" ∷ [], with qs h (fs ++ kind.Node (filter.Equals w v) ∷ []), refl)
closes (Keyword qs h fs front) a = let k = fits_keyword front (a.1) in keyword_closes qs h fs front (k.0) (k.1) (k.2) (a.2)

pub closable : EachCloses step done begin
closable = plain.each_closes step done begin Arises (omega arith) kept closes
