-- Lives of files that were judged, with what they begin with and what is told of them.
use Rattle.std.proofs.Common.{◌≡◌, ℕ, ◌+◌, List, [], ◌∷◌, ◌++◌, map, Bool, true, false, not, Option, Some, None, refl, sym, ap, subst, ◌∙◌}
use Rattle.std.specs.Prelude.{is_some, option_map, ◌||◌, string_bytes}
use Rattle.std.specs.List.{list_any}
use Rattle.code_units.specs.Places.{place_at as place}
use Rattle.trace_text.specs.Report.{refused_life}
use Rattle.slot_check.specs.declared.fault.Refusal.{Refusal}
use Rattle.widget_meaning.specs.OwnState.{OwnState}
use Rattle.widget_meaning.specs.Alone.{Content}
use Rattle.post_rounds.specs.declared.posts.Post.{Post}
use Rattle.post_rounds.specs.News.{news}
use Rattle.life_laws.specs.Fed.{Fed, RoundsTo, ended, again, fed_on, fresh, round_from}
use Rattle.adsafe_rules.specs.declared.accepted.Accepted.{Accepted}
use Rattle.page_plan.specs.declared.SlotContent.{SlotContent}
use Rattle.page_plan.specs.Contents.{content_of}
use Rattle.page_check.specs.Runs.{SlotRun}
use Rattle.page_check.specs.Judged.{IsJudged, accepted, refused}
use Rattle.slot_lives.specs.Lives.{Life}
use Rattle.slot_lives.specs.Ends.{Begins, IsLine, life_name, end_of, some_refused, AllBegin, no_life, one_life, AreLines, no_line, one_line, AreEnded, no_end, one_end}
use Rattle.slot_lives.specs.Ends as ends
use Rattle.page_play.specs.Findings.{Told, is_refused, line_of, lines_of}
use Rattle.page_play.specs.Played.{fed_of}
use Rattle.page_play.specs.Told.{AreMatched}

-- a life of a file that was judged, what it begins with, and what is told of it
pub record Matches (l : Life SlotRun) (f : Option Fed) (t : Told) : Type 0 where
  pub name : l.runs.slot.name ≡ t.name
  pub begins : Begins l f
  pub found : is_some t.found ≡ not (is_some f)
  pub line : (own : Option OwnState) → is_some own ≡ is_some f → IsLine l own (line_of t.name t.until t.found own)

-- so it is of these, in order
pub data AllMatch : List (Life SlotRun) → List (Option Fed) → List Told → Type 0 where
  no_match : AllMatch [] [] []
  one_match : {l : Life SlotRun} {f : Option Fed} {t : Told} {ls : List (Life SlotRun)} {fs : List (Option Fed)} {ts : List Told} → Matches l f t → AllMatch ls fs ts → AllMatch (l ∷ ls) (f ∷ fs) (t ∷ ts)

-- a life and a content with the same items and the same end, of which the file of the one brings the other
pub record Alike (libs : List Accepted) (key : List ℕ) (much : ℕ) (l : Life SlotRun) (m : Life SlotContent) (found : Option Refusal) : Type 0 where
  pub name : l.runs.slot.name ≡ key
  pub fuel : l.runs.fuel ≡ much
  pub items : l.items ≡ m.items
  pub until : l.until ≡ m.until
  pub judged : IsJudged l.runs.slot (content_of libs m.runs) found

module _ (l : Life SlotRun) where
  -- by the content and what was found
  matched : (o : Option Content) (r : Option Refusal) → IsJudged l.runs.slot o r
      → Matches l (option_map (λ (c : Content). record { content = c; grant = l.runs.fuel; items = l.items; told = 0 }) o) (record { name = l.runs.slot.name; until = l.until; found = r })
  matched content refusal (accepted {content = c} has) = record {
    name = refl;
    begins = ends.accepted has;
    found = refl;
    line = λ own some. ran own some;
  }
    where
      ran : (own : Option OwnState) → is_some own ≡ true → IsLine l own (line_of l.runs.slot.name l.until None own)
      ran None some = absurd (let e = some in cc)
      ran (Some o) some = ends.ran
  matched content refusal (refused {refusal = x} is) = record {
    name = refl;
    begins = ends.broken is.first;
    found = refl;
    line = λ own some. broken own some;
  }
    where
      text : refused_life l.runs.slot.name l.until is.source.name is.rule (place is.source.bytes is.byte) ≡ refused_life l.runs.slot.name l.until (string_bytes x.file) x.rule x.at
      text =
          ap (λ f. refused_life l.runs.slot.name l.until f is.rule (place is.source.bytes is.byte)) (sym is.is.named)
          ∙ ap (λ n. refused_life l.runs.slot.name l.until (string_bytes x.file) n (place is.source.bytes is.byte)) (sym is.is.same)
          ∙ ap (refused_life l.runs.slot.name l.until (string_bytes x.file) x.rule) (sym is.is.placed)

      broken : (own : Option OwnState) → is_some own ≡ false → IsLine l own (line_of l.runs.slot.name l.until (Some x) own)
      broken None some = subst (IsLine l None) text (ends.refused is.first)
      broken (Some o) some = absurd (let e = some in cc)

-- what is alike matches
pub alike_matches : (libs : List Accepted) (name : List ℕ) (fuel : ℕ) (l : Life SlotRun) (m : Life SlotContent) (found : Option Refusal) (until : Option ℕ)
    → Alike libs name fuel l m found → l.until ≡ until → Matches l (fed_of libs fuel m) (record { name = name; until = until; found = found })
alike_matches libs name fuel l m found until a ends_so =
    subst (λ u. Matches l (fed_of libs fuel m) (record { name = name; until = u; found = found })) ends_so
    (subst (λ n. Matches l (fed_of libs fuel m) (record { name = n; until = l.until; found = found })) a.name
    (subst (λ n. Matches l (option_map (λ (c : Content). record { content = c; grant = n; items = m.items; told = 0 }) (content_of libs m.runs)) (record { name = l.runs.slot.name; until = l.until; found = found })) a.fuel
    (subst (λ is. Matches l (option_map (λ (c : Content). record { content = c; grant = l.runs.fuel; items = is; told = 0 }) (content_of libs m.runs)) (record { name = l.runs.slot.name; until = l.until; found = found })) a.items
    (matched l (content_of libs m.runs) found a.judged))))

-- ## What they come to

pub all_names : {ls : List (Life SlotRun)} {fs : List (Option Fed)} {ts : List Told} → AllMatch ls fs ts → map life_name ls ≡ map (λ (t : Told). t.name) ts
all_names no_match = refl
all_names (one_match {l = l} {t = t} {ls = ls} {ts = ts} m ms) = ap (λ n. n ∷ map life_name ls) m.name ∙ ap (λ ns. t.name ∷ ns) (all_names ms)

pub all_begin : {ls : List (Life SlotRun)} {fs : List (Option Fed)} {ts : List Told} → AllMatch ls fs ts → AllBegin ls fs
all_begin no_match = no_life
all_begin (one_match m ms) = one_life m.begins (all_begin ms)

-- an own state for each that has a widget
abbrev pub SameKind : List (Option Fed) → List (Option OwnState) → Type 0
SameKind [] [] = Unit {0}
SameKind (f ∷ fs) (o ∷ os) = (is_some o ≡ is_some f) × SameKind fs os
SameKind _ _ = ⊥

pub same_ends : (fs : List (Option Fed)) → SameKind fs (map end_of fs)
same_ends [] = tt
same_ends (f ∷ fs) = (by f, same_ends fs) where
  by : (x : Option Fed) → is_some (end_of x) ≡ is_some x
  by None = refl
  by (Some y) = refl

pub all_lines : {ls : List (Life SlotRun)} {fs : List (Option Fed)} {ts : List Told} (os : List (Option OwnState)) → AllMatch ls fs ts → SameKind fs os → AreLines ls os (lines_of ts os)
all_lines [] no_match same = no_line
all_lines (o ∷ os) no_match same = absurd same
all_lines [] (one_match m ms) same = absurd same
all_lines (o ∷ os) (one_match m ms) same = one_line (m.line o same.0) (all_lines os ms same.1)

kind_of_end : (x : Option Fed) → is_some (end_of x) ≡ is_some x
kind_of_end None = refl
kind_of_end (Some y) = refl

pub all_ended : {ls : List (Life SlotRun)} {fs : List (Option Fed)} {ts : List Told} → AllMatch ls fs ts → AreEnded ls (map end_of fs) (lines_of ts (map end_of fs))
all_ended no_match = no_end
all_ended (one_match {f = f} m ms) = one_end m.begins (m.line (end_of f) (kind_of_end f)) (all_ended ms)

pub all_matched : {ls : List (Life SlotRun)} {fs : List (Option Fed)} {ts : List Told} (os : List (Option OwnState)) → AllMatch ls fs ts → SameKind fs os → AreMatched ts os
all_matched [] no_match same = tt
all_matched (o ∷ os) no_match same = absurd same
all_matched [] (one_match m ms) same = absurd same
all_matched (o ∷ os) (one_match m ms) same = (m.found ∙ ap not (sym same.0), all_matched os ms same.1)

-- the flag of them all
any_append : {A : Type 0} (p : A → Bool) (xs ys : List A) → list_any p (xs ++ ys) ≡ (list_any p xs || list_any p ys)
any_append p [] ys = refl
any_append p (x ∷ xs) ys = by (p x) (any_append p xs ys) where
  by : (b : Bool) → list_any p (xs ++ ys) ≡ (list_any p xs || list_any p ys) → (b || list_any p (xs ++ ys)) ≡ ((b || list_any p xs) || list_any p ys)
  by true e = refl
  by false e = e

one_flag : (ts : List Told) (os : List (Option OwnState)) → AreMatched ts os → list_any is_refused ts ≡ some_refused os
one_flag [] [] is = refl
one_flag [] (o ∷ os) is = absurd is
one_flag (t ∷ ts) [] is = absurd is
one_flag (t ∷ ts) (o ∷ os) is = ap (λ b. b || list_any is_refused ts) is.0 ∙ ap (λ b. not (is_some o) || b) (one_flag ts os is.1)

pub same_flag : (ts us : List Told) (os ps : List (Option OwnState)) → AreMatched ts os → AreMatched us ps → list_any is_refused (ts ++ us) ≡ some_refused (os ++ ps)
same_flag ts us os ps a b =
    any_append is_refused ts us ∙ ap (λ x. x || list_any is_refused us) (one_flag ts os a) ∙ ap (λ x. some_refused os || x) (one_flag us ps b) ∙ sym (any_append (λ o. not (is_some o)) os ps)

-- ## Rounds

-- a round gives a life to none, and takes it from none
module _ (channels : List (ℕ × ℕ)) (names : List (List ℕ)) where
  kind_round : (posts : List (List Post)) (w : ℕ) (fs : List (Option Fed)) (os : List (Option OwnState)) → SameKind (round_from channels names posts w fs) os → SameKind fs os
  kind_round posts w [] [] same = tt
  kind_round posts w [] (o ∷ os) same = absurd same
  kind_round posts w (f ∷ fs) [] same = absurd same
  kind_round posts w (f ∷ fs) (o ∷ os) same = (same.0 ∙ by f, kind_round posts (w + 1) fs os same.1) where
    by : (x : Option Fed) → is_some (option_map (fed_on (news channels names posts w)) x) ≡ is_some x
    by None = refl
    by (Some y) = refl

  pub rounds_kind : {fs gs : List (Option Fed)} → RoundsTo channels names fs gs → SameKind fs (map end_of gs)
  rounds_kind {fs} (ended quiet) = same_ends fs
  rounds_kind {fs} {gs} (again loud rest) = kind_round (fresh fs) 0 fs (map end_of gs) (rounds_kind rest)
