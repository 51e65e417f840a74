-- A page comes to something, and has a report and a certificate.
use Rattle.std.proofs.Common.{◌≡◌, ℕ, zero, suc, ◌+◌, List, [], ◌∷◌, ◌++◌, map, take, length, Bool, true, false, if◌then◌else◌, codes, Option, Some, None, refl, sym, ap, subst, ◌∙◌}
use Rattle.std.specs.Prelude.{slice_index_or}
use Rattle.std.specs.List.{flat_map, zip}
use Rattle.std.specs.Option.{option_map}
use Rattle.std.specs.Str.{bytes_eq}
use Rattle.std.proofs.lemmas.Bool.{false≢true}
use Rattle.std.proofs.lemmas.Slice.Eq.{bytes_eq-Decides}
use Rattle.code_units.specs.Places.{place_at}
use Rattle.code_units.specs.Utf8.{utf8_of}
use Rattle.style_text.specs.Styles.{Pair, StyleSpells}
use Rattle.style_text.specs.Form.{style_form}
use Rattle.plain_tree.specs.Names.{is_void}
use Rattle.plain_tree.specs.Trees.{Attribute, TextOf, ElementOf, PlainTrees, End, Node}
use Rattle.plain_tree.specs.Print as print
use Rattle.page_output.specs.Printing.{IsStyleForm, Prints}
use Rattle.trace_text.specs.declared.line.Rule.{Rule}
use Rattle.trace_text.specs.Report.{page_line, refused_life}
use Rattle.trace_reader.specs.Said.{Said}
use Rattle.manifest_reader.specs.Page.{Part}
use Rattle.slot_check.specs.Sources.{Source, Slot}
use Rattle.slot_check.specs.Slot.{SlotFirst, IsCleanSlot}
use Rattle.widget_meaning.specs.OwnState.{OwnState}
use Rattle.post_rounds.specs.declared.posts.Post.{Post}
use Rattle.post_rounds.specs.News.{news}
use Rattle.life_laws.specs.Fed.{Fed, RoundsTo, again, ended, fed_on, fresh, round, round_from, state}
use Rattle.page_plan.specs.Pages.{page_of, roots}
use Rattle.page_check.specs.Runs.{SlotRun, pieces}
use Rattle.page_check.specs.Widgets.{HasWidget, widget}
use Rattle.reach_cert.specs.Certs.{cert_text}
use Rattle.page_play.specs.States.{cert_of_states}
use Rattle.life_split.specs.declared.items.Life.{Life as Stretch}
use Rattle.life_split.specs.Cut.{lives_of}
use Rattle.slot_lives.specs.Lives.{Life, cut_item, runs_from, life_at, last_of, last_life, swaps_in, ended_lives}
use Rattle.slot_lives.specs.Lines.{life_line}
use Rattle.slot_lives.specs.Ends.{run_name, life_name, Begins, accepted, broken, IsLine, ran, refused, end_of, AllBegin, no_life, one_life, AreLines, no_line, one_line, AreEnded, no_end, one_end, some_refused}
use Rattle.slot_lives.specs.Outcome.{all_lives, last_lives, ComeTo, Outcome, IsReport}
use Rattle.page_play.specs.Told.{IsAudit}

-- ## Printed texts

-- styles have one printed form
module _ (style other : List ℕ → List ℕ) (is : IsStyleForm style) (also : IsStyleForm other) where
  never_apart : (us : List ℕ) → (style us ≡ other us → ⊥) → ⊥
  never_apart us apart =
      let unspelled : (pairs : List Pair) → StyleSpells us pairs → ⊥ = λ pairs it. apart (is.spelled us pairs it ∙ sym (also.spelled us pairs it)) in
      apart (is.other us unspelled ∙ sym (also.other us unspelled))

  same_form : (us : List ℕ) → style us ≡ other us
  same_form us = by (bytes_eq (style us) (other us)) refl
    where
      by : (b : Bool) → bytes_eq (style us) (other us) ≡ b → style us ≡ other us
      by true e = (bytes_eq-Decides (style us) (other us)).0 e
      by false e = absurd (never_apart us (λ same. false≢true (sym e ∙ (bytes_eq-Decides (style us) (other us)).1 same)))

  same_attribute : (a : Attribute) → print.printed_attribute style a ≡ print.printed_attribute other a
  same_attribute a = ap (λ (value : List ℕ). if bytes_eq (a.0) (codes "style") then print.written_style (a.0) value else print.written (a.0) (a.1)) (same_form (a.1))

  same_attributes : (attrs : List Attribute) → flat_map (print.printed_attribute style) attrs ≡ flat_map (print.printed_attribute other) attrs
  same_attributes [] = refl
  same_attributes (a ∷ attrs) =
      ap (λ (l : List ℕ). l ++ flat_map (print.printed_attribute style) attrs) (same_attribute a)
      ∙ ap (λ (l : List ℕ). print.printed_attribute other a ++ l) (same_attributes attrs)

  same_printed : (ts : PlainTrees) → print.printed style ts ≡ print.printed other ts
  same_printed End = refl
  same_printed (Node m (TextOf us) ks ts) = ap (λ (l : List ℕ). print.printed_text us ++ l) (same_printed ts)
  same_printed (Node m (ElementOf tag attrs) ks ts) =
      ap (λ (l : List ℕ). (codes "<" ++ utf8_of tag ++ l ++ codes ">") ++ (if is_void tag then [] else print.printed style ks ++ print.closing tag) ++ print.printed style ts) (same_attributes attrs)
      ∙ ap (λ (l : List ℕ). print.opening other tag attrs ++ (if is_void tag then [] else l ++ print.closing tag) ++ print.printed style ts) (same_printed ks)
      ∙ ap (λ (l : List ℕ). print.opening other tag attrs ++ (if is_void tag then [] else print.printed other ks ++ print.closing tag) ++ l) (same_printed ts)

-- trees have a printed text
printed_text_of : IsStyleForm style_form → (ts : PlainTrees) → Prints ts [] (print.printed style_form ts)
printed_text_of form ts = λ style is. same_printed style_form style form is ts

-- ## Lives

-- a slot that breaks no rule has its widget
pub widget_there : (slot : Slot) (c : IsCleanSlot slot) → HasWidget slot (widget c.file c.programs c.script)
widget_there slot c = record { file = c.file; places = c.places; programs = c.programs; script = c.script; is = c.widget; same = refl }

-- the slot of a life breaks a rule
record BreaksOne (life : Life SlotRun) : Type 0 where
  rule : Rule
  file : Source
  at : ℕ
  first : SlotFirst life.runs.slot rule file at

-- a life without an own state is refused
abbrev IsCaused : Life SlotRun → Option Fed → Type 0
IsCaused life None = BreaksOne life
IsCaused life (Some f) = Unit {0}

abbrev AreCaused : List (Life SlotRun) → List (Option Fed) → Type 0
AreCaused [] [] = Unit {0}
AreCaused (life ∷ lives) (fed ∷ feds) = IsCaused life fed × AreCaused lives feds
AreCaused _ _ = ⊥

begun_caused : (life : Life SlotRun) (fed : Option Fed) → Begins life fed → IsCaused life fed
begun_caused life fed (accepted has) = tt
begun_caused life fed (broken {rule = r} {file = a} {at = n} first) = record { rule = r; file = a; at = n; first = first }

all_caused : (lives : List (Life SlotRun)) (feds : List (Option Fed)) → AllBegin lives feds → AreCaused lives feds
all_caused lives feds no_life = tt
all_caused lives feds (one_life {life = l} {fed = f} {lives = ls} {feds = fs} begins rest) = (begun_caused l f begins, all_caused ls fs rest)

-- so it is after rounds
module _ (channels : List (ℕ × ℕ)) (names : List (List ℕ)) where
  caused_on : (life : Life SlotRun) (values : List (List ℕ)) (fed : Option Fed) → IsCaused life fed → IsCaused life (option_map (fed_on values) fed)
  caused_on life values None cause = cause
  caused_on life values (Some f) cause = tt

  caused_round : (posts : List (List Post)) (w : ℕ) (lives : List (Life SlotRun)) (feds : List (Option Fed)) → AreCaused lives feds → AreCaused lives (round_from channels names posts w feds)
  caused_round posts w [] [] causes = tt
  caused_round posts w [] (f ∷ fs) causes = absurd causes
  caused_round posts w (l ∷ ls) [] causes = absurd causes
  caused_round posts w (l ∷ ls) (f ∷ fs) causes = (caused_on l (news channels names posts w) f causes.0, caused_round posts (w + 1) ls fs causes.1)

  caused_rounds : (lives : List (Life SlotRun)) (fs gs : List (Option Fed)) → RoundsTo channels names fs gs → AreCaused lives fs → AreCaused lives gs
  caused_rounds lives fs gs (ended quiet) causes = causes
  caused_rounds lives fs gs (again loud later) causes = caused_rounds lives (round channels names fs) gs later (caused_round (fresh fs) 0 lives fs causes)

-- lives have lines
life_line_there : (life : Life SlotRun) (fed : Option Fed) → IsCaused life fed → (line : List ℕ) × IsLine life (end_of fed) line
life_line_there life None cause = (refused_life life.runs.slot.name life.until cause.file.name cause.rule (place_at cause.file.bytes cause.at), refused cause.first)
life_line_there life (Some f) cause = (life_line life.runs.slot.name life.until (state f), ran)

life_lines_there : (lives : List (Life SlotRun)) (feds : List (Option Fed)) → AreCaused lives feds → (text : List ℕ) × AreLines lives (map end_of feds) text
life_lines_there [] [] causes = ([], no_line)
life_lines_there [] (f ∷ fs) causes = absurd causes
life_lines_there (l ∷ ls) [] causes = absurd causes
life_lines_there (l ∷ ls) (f ∷ fs) causes =
    let line = life_line_there l f causes.0 in
    let rest = life_lines_there ls fs causes.1 in
    (line.0 ++ rest.0, one_line line.1 rest.1)

-- ## Pages

-- a slot without a first broken rule breaks none
abbrev pub SlotsJudged : Type 0
SlotsJudged = (slot : Slot) → ((rule : Rule) (file : Source) (at : ℕ) → ¬ SlotFirst slot rule file at) → IsCleanSlot slot

-- rounds end
abbrev pub RoundsEnd : Type 0
RoundsEnd = (channels : List (ℕ × ℕ)) (names : List (List ℕ)) (fs : List (Option Fed)) → (gs : List (Option Fed)) × RoundsTo channels names fs gs

module _ (judged : SlotsJudged) (rounds_end : RoundsEnd) where
  begin_there : (life : Life SlotRun) → ((fed : Option Fed) → Begins life fed → ⊥) → ⊥
  begin_there life never = never _ (accepted (widget_there life.runs.slot (judged life.runs.slot (λ rule file at first. never None (broken first)))))

  begins_there : (lives : List (Life SlotRun)) → ((feds : List (Option Fed)) → AllBegin lives feds → ⊥) → ⊥
  begins_there [] never = never [] no_life
  begins_there (l ∷ ls) never = begin_there l (λ fed begins. begins_there ls (λ feds those. never (fed ∷ feds) (one_life begins those)))

  ends_there : (lives : List (Life SlotRun)) → ((ends : List (Option OwnState)) (text : List ℕ) → AreEnded lives ends text → ⊥) → ⊥
  ends_there [] never = never [] [] no_end
  ends_there (l ∷ ls) never = begin_there l (λ fed begins. ends_there ls (λ ends text those.
      let line = life_line_there l fed (begun_caused l fed begins) in
      never (end_of fed ∷ ends) (line.0 ++ text) (one_end begins line.1 those)))

  module _ (channels : List (ℕ × ℕ)) (runs : List SlotRun) (files : List Source) (items : List Said) where
    abbrev lasts : List (Life SlotRun)
    lasts = last_lives files items 0 runs

    abbrev gone : List (Life SlotRun)
    gone = ended_lives (all_lives files items 0 runs) (length items)

    outcome_of : (begun : List (Option Fed)) → AllBegin lasts begun → (before : List (Option OwnState)) (text : List ℕ) → AreEnded gone before text → (flag : Bool) × (ends : List (Option OwnState)) × (lines : List ℕ) × Outcome channels runs files items flag ends lines
    outcome_of begun begin before text are =
        let end = rounds_end channels (map life_name lasts) begun in
        let told = life_lines_there lasts end.0 (caused_rounds channels (map life_name lasts) lasts begun end.0 end.1 (all_caused lasts begun begin)) in (
          some_refused (map end_of end.0 ++ before),
          map end_of end.0,
          told.0 ++ text,
          record {
            lasts = record { begun = begun; begin = begin; fed = end.0; rounds = end.1; ends_are = refl };
            last_text = told.0;
            last_lines = told.1;
            before = before;
            ended_text = text;
            ended = are;
            flag = refl;
            text = refl;
          },
        )

    -- a page has an outcome
    outcome_there : ((flag : Bool) (ends : List (Option OwnState)) (lines : List ℕ) → Outcome channels runs files items flag ends lines → ⊥) → ⊥
    outcome_there never = begins_there lasts (λ begun begin. ends_there gone (λ before text are.
        let all = outcome_of begun begin before text are in
        never all.0 all.1 all.2 all.3))

    -- and a report, and a certificate
    pub report_there : IsStyleForm style_form → (parts : List Part) → ((flag : Bool) (bytes : List ℕ) → IsReport parts channels runs files items flag bytes → ⊥) → ⊥
    report_there form parts never = outcome_there (λ flag ends lines outcome.
        let text : List ℕ = print.printed style_form (page_of (pieces parts) (roots (map run_name runs) ends)) in
        never flag (lines ++ page_line text) (record { ends = ends; lines = lines; outcome = outcome; text = text; printed = printed_text_of form (page_of (pieces parts) (roots (map run_name runs) ends)); whole = refl }))

    pub audit_there : ((flag : Bool) (bytes : List ℕ) → IsAudit channels runs files items flag bytes → ⊥) → ⊥
    audit_there never = outcome_there (λ flag ends lines outcome.
        never flag (cert_text (cert_of_states (zip (map run_name runs) ends))) (record { ends = ends; lines = lines; outcome = outcome; whole = refl }))

-- ## Pages of slots that break no rule, without channels and other files

-- what runs in a life is what runs in the slot
over_none : {A : Type 0} (first : A) (n : ℕ) → slice_index_or [] n first ≡ first
over_none first zero = refl
over_none first (suc n) = refl

first_runs : (first : SlotRun) (items : List Said) (p : ℕ) → runs_from first [] items p ≡ first
first_runs first items zero = refl
first_runs first items (suc p) = over_none first (swaps_in (take p items))

last_runs : (first : SlotRun) (items : List Said) (w : ℕ) → (last_life first [] items w).runs ≡ first
last_runs first items w = over (lives_of (map cut_item items) w)
  where
    over : (cuts : List Stretch) → (last_of first (map (life_at first [] items w) cuts)).runs ≡ first
    over [] = refl
    over (cut ∷ []) = first_runs first items cut.from
    over (cut ∷ next ∷ more) = over (next ∷ more)

-- each slot breaks no rule
abbrev pub AreClean : List SlotRun → Type 0
AreClean [] = Unit {0}
AreClean (run ∷ runs) = IsCleanSlot run.slot × AreClean runs

-- each life has an own state
abbrev AreThere : List (Option Fed) → Type 0
AreThere [] = Unit {0}
AreThere (None ∷ fs) = ⊥
AreThere (Some f ∷ fs) = AreThere fs

clean_begins : (items : List Said) (w : ℕ) (runs : List SlotRun) → AreClean runs → (feds : List (Option Fed)) × AllBegin (last_lives [] items w runs) feds × AreThere feds
clean_begins items w [] clean = ([], no_life, tt)
clean_begins items w (run ∷ runs) clean =
    let life : Life SlotRun = last_life run [] items w in
    let here : IsCleanSlot life.runs.slot = subst (λ (r : SlotRun). IsCleanSlot r.slot) (sym (last_runs run items w)) clean.0 in
    let rest = clean_begins items (w + 1) runs clean.1 in
    let fed : Fed = record { content = widget here.file here.programs here.script; grant = life.runs.fuel; items = life.items; told = 0 } in
    (Some fed ∷ rest.0, one_life (accepted (widget_there life.runs.slot here)) rest.1, rest.2)

there_round : (channels : List (ℕ × ℕ)) (names : List (List ℕ)) (posts : List (List Post)) (w : ℕ) (feds : List (Option Fed)) → AreThere feds → AreThere (round_from channels names posts w feds)
there_round channels names posts w [] there = tt
there_round channels names posts w (None ∷ fs) there = absurd there
there_round channels names posts w (Some f ∷ fs) there = there_round channels names posts (w + 1) fs there

there_rounds : (channels : List (ℕ × ℕ)) (names : List (List ℕ)) (fs gs : List (Option Fed)) → RoundsTo channels names fs gs → AreThere fs → AreThere gs
there_rounds channels names fs gs (ended quiet) there = there
there_rounds channels names fs gs (again loud later) there = there_rounds channels names (round channels names fs) gs later (there_round channels names (fresh fs) 0 fs there)

none_refused : (feds : List (Option Fed)) → AreThere feds → some_refused (map end_of feds) ≡ false
none_refused [] there = refl
none_refused (None ∷ fs) there = absurd there
none_refused (Some f ∷ fs) there = none_refused fs there

-- they come to own states, and none is refused
pub clean_come : RoundsEnd → (items : List Said) (runs : List SlotRun) → AreClean runs → (ends : List (Option OwnState)) × ComeTo [] (last_lives [] items 0 runs) ends × (some_refused ends ≡ false)
clean_come rounds_end items runs clean =
    let begun = clean_begins items 0 runs clean in
    let names : List (List ℕ) = map life_name (last_lives [] items 0 runs) in
    let end = rounds_end [] names begun.0 in
    (map end_of end.0, record { begun = begun.0; begin = begun.1; fed = end.0; rounds = end.1; ends_are = refl }, none_refused end.0 (there_rounds [] names begun.0 end.0 end.1 begun.2))
