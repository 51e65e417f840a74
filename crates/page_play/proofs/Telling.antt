-- What is written of the lives of a host.
use Rattle.std.proofs.Common.{◌≡◌, ℕ, zero, suc, ◌+◌, ◌<◌, ◌≤◌, List, [], ◌∷◌, ◌++◌, length, take, get_or, All, Bool, true, false, not, Option, Some, None, refl, sym, ap, subst, ◌∙◌, arith, append_assoc, append-nil}
use Rattle.std.specs.Prelude.{slice_get, slice_index_or, is_some, string_bytes, ◌||◌}
use Rattle.std.specs.List.{list_any}
use Rattle.std.proofs.lemmas.List.{take_all}
use Rattle.std.proofs.lemmas.Option.{slice_get_read}
use Rattle.trace_text.specs.declared.line.RunText.{RunText}
use Rattle.trace_text.specs.Report.{run_members, ran_life, short_life, state_name, refused_life}
use Rattle.slot_check.specs.declared.fault.Refusal.{Refusal}
use Rattle.life_laws.specs.Life.{Seen, image}
use Rattle.life_laws.specs.Chains.{listed}
use Rattle.widget_meaning.specs.OwnState.{OwnState}
use Rattle.slot_lives.specs.Lines.{life_line, short_line, state_word}
use Rattle.widget_host.specs.declared.host.Host.{Host}
use Rattle.widget_host.specs.declared.lines.RunLine.{RunLine}
use Rattle.widget_host.specs.Given.{AreRetired, IsRetired}
use Rattle.widget_host.specs.Housed.{IsLineOf, IsShown, AreShown, accepts, chains, ends, present, seens}
use Rattle.page_play.specs.declared.findings.Findings.{Findings}
use Rattle.page_play.specs.Findings.{AreEven, Told, found_after, is_refused, lasts_from, lasts_told, ended_told_from, ended_told, line_of, lines_of}
use Rattle.page_play.specs.Told.{AreMatched, AreTold}

no_some : {A : Type 0} (x : A) → None ≡ Some x → ⊥
no_some x e = cc

some_is : {A : Type 0} (x y : A) → Some x ≡ Some y → x ≡ y
some_is x y e = cc

index_there : {A : Type 0} (xs : List A) (n : ℕ) (x d : A) → slice_get xs n ≡ Some x → slice_index_or xs n d ≡ x
index_there [] n x d at = cc
index_there (y ∷ xs) zero x d at = cc
index_there (y ∷ xs) (suc n) x d at = index_there xs n x d at

there_at : {A : Type 0} (xs : List A) (n : ℕ) → n < length xs → (x : A) × (slice_get xs n ≡ Some x)
there_at [] n less = absurd (omega (arith, less))
there_at (y ∷ xs) zero less = (y, refl)
there_at (y ∷ xs) (suc n) less = there_at xs n (omega (arith, less))

all_at : {A : Type 0} (P : A → Type 0) (xs : List A) (n : ℕ) (x : A) → All P xs → slice_get xs n ≡ Some x → P x
all_at P [] n x all at = absurd (no_some x at)
all_at P (y ∷ xs) zero x all at = subst P (some_is y x at) (all 0 y (omega arith))
all_at P (y ∷ xs) (suc n) x all at = all_at P xs n x (λ i d less. all (suc i) d (omega (arith, less))) at

-- an element that was read
pub read_at : {A : Type 0} (xs : List A) (n : ℕ) (x : A) → n < length xs → x ≡ get_or xs n x → slice_get xs n ≡ Some x
read_at xs n x less is = slice_get_read xs (length xs) n x refl less is

pub index_read : {A : Type 0} (xs : List A) (n : ℕ) (x d : A) → n < length xs → x ≡ get_or xs n x → slice_index_or xs n d ≡ x
index_read xs n x d less is = index_there xs n x d (read_at xs n x less is)

-- by any default
pub default_same : {A : Type 0} (xs : List A) (n : ℕ) (d e : A) → n < length xs → get_or xs n d ≡ get_or xs n e
default_same [] n d e less = absurd (omega (arith, less))
default_same (y ∷ xs) zero d e less = refl
default_same (y ∷ xs) (suc n) d e less = default_same xs n d e (omega (arith, less))

pub read_default : (xs ys : List ℕ) (n : ℕ) → xs ≡ ys → n < length xs → slice_get ys n ≡ Some (get_or xs n 0)
read_default xs ys n same less = ap (λ zs. slice_get zs n) (sym same) ∙ read_at xs n (get_or xs n 0) less (default_same xs n 0 (get_or xs n 0) less)

-- what holds of an element holds of it under each name
pub as_read : (P : ℕ → Type 0) (xs : List ℕ) (n a b : ℕ) → slice_get xs n ≡ Some a → slice_get xs n ≡ Some b → P a → P b
as_read P xs n a b at also p = subst P (some_is a b (sym at ∙ also)) p

-- ## Lives that are told

lasts_at_from : (f : Findings) (v w : ℕ) (names : List (List ℕ)) → w < length names → slice_get (lasts_from f v names) w ≡ Some (record { name = slice_index_or names w []; until = None; found = found_after f (v + w) (length f.swaps.slots.items) })
lasts_at_from f v w [] less = absurd (omega (arith, less))
lasts_at_from f v zero (n ∷ names) less = let e : v ≡ v + 0 = omega arith in ap (λ k. Some (record { name = n; until = None; found = found_after f k (length f.swaps.slots.items) })) e
lasts_at_from f v (suc w) (n ∷ names) less = let e : (v + 1) + w ≡ v + suc w = omega arith in lasts_at_from f (v + 1) w names (omega (arith, less)) ∙ ap (λ k. Some (record { name = slice_index_or names w []; until = None; found = found_after f k (length f.swaps.slots.items) })) e

abbrev last_told : Findings → ℕ → Told
last_told f w = record { name = slice_index_or f.names.items w []; until = None; found = found_after f w (length f.swaps.slots.items) }

lasts_at : (f : Findings) (w : ℕ) → w < length f.names.items → slice_get (lasts_told f) w ≡ Some (last_told f w)
lasts_at f w less = let e : 0 + w ≡ w = omega arith in lasts_at_from f 0 w f.names.items less ∙ ap (λ k. Some (record { name = slice_index_or f.names.items w []; until = None; found = found_after f k (length f.swaps.slots.items) })) e

lasts_length : (f : Findings) (v : ℕ) (names : List (List ℕ)) → length (lasts_from f v names) ≡ length names
lasts_length f v [] = refl
lasts_length f v (n ∷ names) = ap suc (lasts_length f (v + 1) names)

abbrev end_told : Findings → ℕ → ℕ → Told
end_told f i to = record { name = slice_index_or f.names.items to []; until = Some (slice_index_or f.swaps.positions.items i 0); found = found_after f to i }

ended_at_from : (f : Findings) (v i to : ℕ) (tos : List ℕ) → slice_get tos i ≡ Some to → slice_get (ended_told_from f v tos) i ≡ Some (end_told f (v + i) to)
ended_at_from f v i to [] at = absurd (no_some to at)
ended_at_from f v zero to (x ∷ tos) at = let e : v ≡ v + 0 = omega arith in ap (λ k. Some (end_told f k x)) e ∙ ap (λ y. Some (end_told f (v + 0) y)) (some_is x to at)
ended_at_from f v (suc i) to (x ∷ tos) at = let e : (v + 1) + i ≡ v + suc i = omega arith in ended_at_from f (v + 1) i to tos at ∙ ap (λ k. Some (end_told f k to)) e

ended_at : (f : Findings) (i to : ℕ) → slice_get f.swaps.slots.items i ≡ Some to → slice_get (ended_told f) i ≡ Some (end_told f i to)
ended_at f i to at = let e : 0 + i ≡ i = omega arith in ended_at_from f 0 i to f.swaps.slots.items at ∙ ap (λ k. Some (end_told f k to)) e

ended_length : (f : Findings) (v : ℕ) (tos : List ℕ) → length (ended_told_from f v tos) ≡ length tos
ended_length f v [] = refl
ended_length f v (x ∷ tos) = ap suc (ended_length f (v + 1) tos)

matched_length : (ts : List Told) (os : List (Option OwnState)) → AreMatched ts os → length ts ≡ length os
matched_length [] [] is = refl
matched_length [] (o ∷ os) is = absurd is
matched_length (t ∷ ts) [] is = absurd is
matched_length (t ∷ ts) (o ∷ os) is = ap suc (matched_length ts os is.1)

own_at : (ts : List Told) (os : List (Option OwnState)) (n : ℕ) (t : Told) → AreMatched ts os → slice_get ts n ≡ Some t → (o : Option OwnState) × (slice_get os n ≡ Some o) × (is_some t.found ≡ not (is_some o))
own_at [] os n t is at = absurd (no_some t at)
own_at (x ∷ ts) [] n t is at = absurd is
own_at (x ∷ ts) (o ∷ os) zero t is at = (o, refl, ap (λ (y : Told). is_some y.found) (sym (some_is x t at)) ∙ is.0)
own_at (x ∷ ts) (o ∷ os) (suc n) t is at = own_at ts os n t is.1 at

shown_at : (h : Host) (cs : List (List ℕ)) (os : List (Option OwnState)) (w : ℕ) (o : Option OwnState) → AreShown h cs os → slice_get os w ≡ Some o → IsShown h (present w cs) o
shown_at h [] [] w o is at = absurd (no_some o at)
shown_at h [] (x ∷ os) w o is at = absurd is
shown_at h (c ∷ cs) [] w o is at = absurd is
shown_at h (c ∷ cs) (x ∷ os) zero o is at = subst (IsShown h (present zero (c ∷ cs))) (some_is x o at) is.0
shown_at h (c ∷ cs) (x ∷ os) (suc w) o is at = shown_at h cs os w o is.1 at

retired_at : (h : Host) (vs : List ℕ) (os : List (Option OwnState)) (i : ℕ) (o : Option OwnState) → AreRetired h vs os → slice_get os i ≡ Some o → IsRetired h (slice_index_or vs i 0) o
retired_at h [] [] i o is at = absurd (no_some o at)
retired_at h [] (x ∷ os) i o is at = absurd is
retired_at h (v ∷ vs) [] i o is at = absurd is
retired_at h (v ∷ vs) (x ∷ os) zero o is at = subst (IsRetired h v) (some_is x o at) is.0
retired_at h (v ∷ vs) (x ∷ os) (suc i) o is at = retired_at h vs os i o is.1 at

accepted_so : (h : Host) (v : ℕ) (found : Option Refusal) (o : Option OwnState) → found ≡ None → is_some found ≡ not (is_some o) → IsShown h v o → accepts h v ≡ true
accepted_so h v found None is kind shown = absurd (let e : false ≡ true = ap is_some (sym is) ∙ kind in cc)
accepted_so h v found (Some own) is kind shown = shown.0

module _ (f : Findings) (h : Host) (owns before : List (Option OwnState)) (told : AreTold f h owns before) where
  -- the last life of a slot
  pub last_own : (w : ℕ) → w < length f.names.items → (o : Option OwnState) × (slice_get owns w ≡ Some o) × (is_some (found_after f w (length f.swaps.slots.items)) ≡ not (is_some o))
  last_own w less = own_at (lasts_told f) owns w (last_told f w) told.lasts (lasts_at f w less)

  pub last_there : (w : ℕ) → w < length f.names.items → w < length (chains h)
  last_there w less = omega (arith, less, told.slots)

  pub last_accepted : (w : ℕ) → w < length f.names.items → found_after f w (length f.swaps.slots.items) ≡ None → accepts h (present w (chains h)) ≡ true
  last_accepted w less is =
      let o = last_own w less in
      accepted_so h (present w (chains h)) (found_after f w (length f.swaps.slots.items)) o.0 is o.2 (shown_at h (chains h) owns w o.0 told.shown o.1)

  pub last_shown : (w : ℕ) (o : Option OwnState) → slice_get owns w ≡ Some o → IsShown h (present w (chains h)) o
  last_shown w o at = shown_at h (chains h) owns w o told.shown at

  pub last_kind : (w : ℕ) (o : Option OwnState) → w < length f.names.items → slice_get owns w ≡ Some o → is_some (found_after f w (length f.swaps.slots.items)) ≡ not (is_some o)
  last_kind w o less at = let r = last_own w less in r.2 ∙ ap (λ x. not (is_some x)) (some_is r.0 o (sym r.1 ∙ at))

  -- the life that a swap ended
  pub end_own : (i to : ℕ) → slice_get f.swaps.slots.items i ≡ Some to → (o : Option OwnState) × (slice_get before i ≡ Some o) × (is_some (found_after f to i) ≡ not (is_some o))
  end_own i to at = own_at (ended_told f) before i (end_told f i to) told.others (ended_at f i to at)

  pub end_retired : (i : ℕ) (o : Option OwnState) → slice_get before i ≡ Some o → IsRetired h (slice_index_or (ends h) i 0) o
  end_retired i o at = retired_at h (ends h) before i o told.ended at

  pub end_taken : (i : ℕ) → i < length f.swaps.slots.items → listed (slice_index_or (ends h) i 0) (chains h) ≡ false
  end_taken i less = let to = there_at f.swaps.slots.items i less in let o = end_own i to.0 to.1 in (end_retired i o.0 o.1).out

  pub end_accepted : (i to : ℕ) → slice_get f.swaps.slots.items i ≡ Some to → found_after f to i ≡ None → accepts h (slice_index_or (ends h) i 0) ≡ true
  end_accepted i to at is = let o = end_own i to at in accepted_so h (slice_index_or (ends h) i 0) (found_after f to i) o.0 is o.2 (end_retired i o.0 o.1).shown

  pub end_kind : (i to : ℕ) (o : Option OwnState) → slice_get f.swaps.slots.items i ≡ Some to → slice_get before i ≡ Some o → is_some (found_after f to i) ≡ not (is_some o)
  end_kind i to o at own = let r = end_own i to at in r.2 ∙ ap (λ x. not (is_some x)) (some_is r.0 o (sym r.1 ∙ own))

  pub slot_swapped : (i to : ℕ) → slice_get f.swaps.slots.items i ≡ Some to → to < length f.names.items
  slot_swapped i to at = all_at (λ x. x < length f.names.items) f.swaps.slots.items i to told.even.there at

-- ## A line

-- of a life whose file breaks a rule
pub refused_told : (name key : List ℕ) (until end : Option ℕ) (found : Option Refusal) (r : Refusal) (own : Option OwnState) (text : List ℕ) → key ≡ name → end ≡ until → found ≡ Some r → text ≡ refused_life key end (string_bytes r.file) r.rule r.at → text ≡ line_of name until found own
refused_told name key until end found r own text same so is written = rw is (written ∙ ap (λ n. refused_life n end (string_bytes r.file) r.rule r.at) same ∙ ap (λ u. refused_life name u (string_bytes r.file) r.rule r.at) so)

-- and of one that ran
pub line_told : (name key : List ℕ) (until end : Option ℕ) (found : Option Refusal) (own : Option OwnState) (text : List ℕ) (h : Host) (v : ℕ) (line : RunLine) → key ≡ name → end ≡ until → found ≡ None → is_some found ≡ not (is_some own) → IsShown h v own
    → ((s : Seen) → slice_get (seens h) v ≡ Some s → IsLineOf line (image s)) → ((o : OwnState) → IsLineOf line o → text ≡ life_line key end o) → text ≡ line_of name until found own
line_told name key until end found own text h v line same so is kind shown told written = rw is (by own (ap is_some (sym is) ∙ kind) shown) where
  by : (o : Option OwnState) → false ≡ not (is_some o) → IsShown h v o → text ≡ line_of name until None o
  by None e s = absurd (let f = e in cc)
  by (Some o) e s = written o (subst (IsLineOf line) s.1.2 (told s.1.0 s.1.1)) ∙ ap (λ n. life_line n end o) same ∙ ap (λ u. life_line name u o) so

pub life_text : (t : RunText) (own : OwnState) (name : List ℕ) (until : Option ℕ) → t.name ≡ name → t.until ≡ until → state_name t.state ≡ state_word own.stop → own.turns ≡ t.turns → own.spent ≡ t.spent → own.missed ≡ t.missed → own.gone ≡ t.gone → own.log ≡ t.log.items → own.uncaught ≡ t.uncaught.items → ran_life t ≡ life_line name until own
unfolding run_members
life_text t own name until named ended state turns spent missed gone log uncaught = cc

pub short_text : (t : RunText) (own : OwnState) (name : List ℕ) → t.name ≡ name → t.until ≡ None → state_name t.state ≡ state_word own.stop → own.turns ≡ t.turns → own.spent ≡ t.spent → own.missed ≡ t.missed → own.gone ≡ t.gone → short_life t ≡ short_line name own
unfolding run_members
short_text t own name named until state turns spent missed gone = cc

-- ## Lines one after the other

lines_step : (ts : List Told) (os : List (Option OwnState)) (n : ℕ) (t : Told) (o : Option OwnState) → slice_get ts n ≡ Some t → slice_get os n ≡ Some o → lines_of (take (n + 1) ts) (take (n + 1) os) ≡ lines_of (take n ts) (take n os) ++ line_of t.name t.until t.found o
lines_step [] os n t o at own = absurd (no_some t at)
lines_step (x ∷ ts) [] n t o at own = absurd (no_some o own)
lines_step (x ∷ ts) (y ∷ os) zero t o at own =
    append-nil (line_of x.name x.until x.found y) ∙ ap (λ (z : Told). line_of z.name z.until z.found y) (some_is x t at) ∙ ap (line_of t.name t.until t.found) (some_is y o own)
lines_step (x ∷ ts) (y ∷ os) (suc n) t o at own =
    let e : suc n + 1 ≡ suc (n + 1) = omega arith in
    ap (λ k. lines_of (take k (x ∷ ts)) (take k (y ∷ os))) e
    ∙ ap (λ l. line_of x.name x.until x.found y ++ l) (lines_step ts os n t o at own)
    ∙ sym (append_assoc (line_of x.name x.until x.found y) (lines_of (take n ts) (take n os)) (line_of t.name t.until t.found o))

lines_more : (ts : List Told) (os : List (Option OwnState)) (n : ℕ) (t : Told) (o : Option OwnState) (old mid new line : List ℕ) → slice_get ts n ≡ Some t → slice_get os n ≡ Some o → mid ≡ old ++ lines_of (take n ts) (take n os) → new ≡ mid ++ line → line ≡ line_of t.name t.until t.found o
    → new ≡ old ++ lines_of (take (n + 1) ts) (take (n + 1) os)
lines_more ts os n t o old mid new line at own before after this =
    after ∙ ap (λ m. m ++ line) before ∙ append_assoc old (lines_of (take n ts) (take n os)) line
    ∙ ap (λ l. old ++ (lines_of (take n ts) (take n os) ++ l)) this
    ∙ ap (λ l. old ++ l) (sym (lines_step ts os n t o at own))

lines_all : (ts : List Told) (os : List (Option OwnState)) (n : ℕ) (old new : List ℕ) → length ts ≤ n → length os ≤ n → new ≡ old ++ lines_of (take n ts) (take n os) → new ≡ old ++ lines_of ts os
lines_all ts os n old new past all gathered =
    gathered ∙ ap (λ x. old ++ lines_of x (take n os)) (take_all n ts past) ∙ ap (λ x. old ++ lines_of ts x) (take_all n os all)

module _ (f : Findings) (h : Host) (owns before : List (Option OwnState)) (told : AreTold f h owns before) where
  pub lasts_more : (w : ℕ) (old mid new line : List ℕ) → w < length f.names.items → mid ≡ old ++ lines_of (take w (lasts_told f)) (take w owns) → new ≡ mid ++ line
      → ((o : Option OwnState) → slice_get owns w ≡ Some o → line ≡ line_of (slice_index_or f.names.items w []) None (found_after f w (length f.swaps.slots.items)) o)
      → new ≡ old ++ lines_of (take (w + 1) (lasts_told f)) (take (w + 1) owns)
  lasts_more w old mid new line less gathered after this =
      let o = last_own f h owns before told w less in
      lines_more (lasts_told f) owns w (last_told f w) o.0 old mid new line (lasts_at f w less) o.1 gathered after (this o.0 o.1)

  pub lasts_all : (w : ℕ) (old new : List ℕ) → length f.names.items ≤ w → new ≡ old ++ lines_of (take w (lasts_told f)) (take w owns) → new ≡ old ++ lines_of (lasts_told f) owns
  lasts_all w old new past gathered =
      let many = lasts_length f 0 f.names.items in
      let even = matched_length (lasts_told f) owns told.lasts in
      lines_all (lasts_told f) owns w old new (omega (arith, past, many)) (omega (arith, past, many, even)) gathered

  pub ended_more : (i : ℕ) (old mid new line : List ℕ) → i < length f.swaps.slots.items → mid ≡ old ++ lines_of (take i (ended_told f)) (take i before) → new ≡ mid ++ line
      → ((to : ℕ) (o : Option OwnState) → slice_get f.swaps.slots.items i ≡ Some to → slice_get before i ≡ Some o → line ≡ line_of (slice_index_or f.names.items to []) (Some (slice_index_or f.swaps.positions.items i 0)) (found_after f to i) o)
      → new ≡ old ++ lines_of (take (i + 1) (ended_told f)) (take (i + 1) before)
  ended_more i old mid new line less gathered after this =
      let to = there_at f.swaps.slots.items i less in
      let o = end_own f h owns before told i to.0 to.1 in
      lines_more (ended_told f) before i (end_told f i to.0) o.0 old mid new line (ended_at f i to.0 to.1) o.1 gathered after (this to.0 o.0 to.1 o.1)

  pub ended_all : (i : ℕ) (old new : List ℕ) → length f.swaps.slots.items ≤ i → new ≡ old ++ lines_of (take i (ended_told f)) (take i before) → new ≡ old ++ lines_of (ended_told f) before
  ended_all i old new past gathered =
      let many = ended_length f 0 f.swaps.slots.items in
      let even = matched_length (ended_told f) before told.others in
      lines_all (ended_told f) before i old new (omega (arith, past, many)) (omega (arith, past, many, even)) gathered

-- ## Whether some life is refused

pub swap_of_slot : (f : Findings) (i to : ℕ) → AreEven f → slice_get f.swaps.slots.items i ≡ Some to → to < length f.names.items
swap_of_slot f i to even at = all_at (λ x. x < length f.names.items) f.swaps.slots.items i to even.there at

any_step : (ts : List Told) (n : ℕ) (t : Told) → slice_get ts n ≡ Some t → list_any is_refused (take n ts) ≡ false → is_some t.found ≡ false → list_any is_refused (take (n + 1) ts) ≡ false
any_step [] n t at so_far not_so = absurd (no_some t at)
any_step (x ∷ ts) zero t at so_far not_so = ap (λ b. b || false) (ap is_refused (some_is x t at) ∙ not_so)
any_step (x ∷ ts) (suc n) t at so_far not_so =
    let e : suc n + 1 ≡ suc (n + 1) = omega arith in
    let b = parts (is_refused x) (list_any is_refused (take n ts)) so_far in
    ap (λ k. list_any is_refused (take k (x ∷ ts))) e ∙ ap (λ c. c || list_any is_refused (take (n + 1) ts)) b.0 ∙ any_step ts n t at b.1 not_so
  where
    parts : (a b : Bool) → (a || b) ≡ false → (a ≡ false) × (b ≡ false)
    parts true b e = absurd (let f = e in cc)
    parts false b e = (refl, e)

any_here : (ts : List Told) (n : ℕ) (t : Told) → slice_get ts n ≡ Some t → is_some t.found ≡ true → list_any is_refused ts ≡ true
any_here [] n t at is = absurd (no_some t at)
any_here (x ∷ ts) zero t at is = ap (λ b. b || list_any is_refused ts) (ap is_refused (some_is x t at) ∙ is)
any_here (x ∷ ts) (suc n) t at is = ap (λ b. is_refused x || b) (any_here ts n t at is) ∙ or_true (is_refused x) where
  or_true : (b : Bool) → (b || true) ≡ true
  or_true true = refl
  or_true false = refl

module _ (f : Findings) where
  pub last_refused : (w : ℕ) → w < length f.names.items → is_some (found_after f w (length f.swaps.slots.items)) ≡ true → list_any is_refused (lasts_told f) ≡ true
  last_refused w less is = any_here (lasts_told f) w (last_told f w) (lasts_at f w less) is

  pub lasts_step : (w : ℕ) → w < length f.names.items → list_any is_refused (take w (lasts_told f)) ≡ false → is_some (found_after f w (length f.swaps.slots.items)) ≡ false → list_any is_refused (take (w + 1) (lasts_told f)) ≡ false
  lasts_step w less so_far not_so = any_step (lasts_told f) w (last_told f w) (lasts_at f w less) so_far not_so

  pub lasts_none : (w : ℕ) → length f.names.items ≤ w → list_any is_refused (take w (lasts_told f)) ≡ false → list_any is_refused (lasts_told f) ≡ false
  lasts_none w past so_far = subst (λ ts. list_any is_refused ts ≡ false) (take_all w (lasts_told f) (let many = lasts_length f 0 f.names.items in omega (arith, past, many))) so_far

  pub end_refused : (i to : ℕ) → slice_get f.swaps.slots.items i ≡ Some to → is_some (found_after f to i) ≡ true → list_any is_refused (ended_told f) ≡ true
  end_refused i to at is = any_here (ended_told f) i (end_told f i to) (ended_at f i to at) is

  pub ends_step : (i to : ℕ) → slice_get f.swaps.slots.items i ≡ Some to → list_any is_refused (take i (ended_told f)) ≡ false → is_some (found_after f to i) ≡ false → list_any is_refused (take (i + 1) (ended_told f)) ≡ false
  ends_step i to at so_far not_so = any_step (ended_told f) i (end_told f i to) (ended_at f i to at) so_far not_so

  pub ends_none : (i : ℕ) → length f.swaps.slots.items ≤ i → list_any is_refused (take i (ended_told f)) ≡ false → list_any is_refused (ended_told f) ≡ false
  ends_none i past so_far = subst (λ ts. list_any is_refused ts ≡ false) (take_all i (ended_told f) (let many = ended_length f 0 f.swaps.slots.items in omega (arith, past, many))) so_far
