-- What is answered to a line.
use Rattle.std.proofs.Common.{◌≡◌, ◌≤◌, ◌<◌, ℕ, ◌+◌, List, [], ◌∷◌, ◌++◌, map, length, Option, Some, None, refl, sym, ap, subst, ◌∙◌, arith, append-nil}
use Rattle.std.specs.Prelude.{IfSome, OnOk, Result, Ok, Err, codes, position, option_and_then}
use Rattle.std.specs.Str.{bytes_eq}
use Rattle.std.proofs.lemmas.List.Quantifiers.{position-Some}
use Rattle.serde_json.specs.Data.{Data}
use Rattle.json_shapes.specs.Look.{slot_at, text_at}
use Rattle.trace_reader.specs.Items.{IsItem}
use Rattle.trace_reader.specs.declared.item.TraceItem.TheVariants as item
use Rattle.std.proofs.lemmas.List.{length_push}
use Rattle.host_io.specs.Files.{FileMap}
use Rattle.trace_reader.specs.Said.{Said, an_event, an_advance, a_swap, said}
use Rattle.trace_reader.specs.declared.item.TraceItem.{TraceItem}
use Rattle.manifest_reader.specs.Page.{Part}
use Rattle.slot_check.specs.Sources.{Source}
use Rattle.run_steps.specs.Page.{IsRead, file_limit}
use Rattle.run_steps.specs.Items.{IsFor}
use Rattle.run_steps.specs.Reading.{IsLong}
use Rattle.widget_meaning.specs.OwnState.{OwnState}
use Rattle.page_plan.specs.Pages.{PagePiece}
use Rattle.page_check.specs.Runs.{SlotRun, pieces}
use Rattle.slot_lives.specs.Ends.{end_of, run_name}
use Rattle.slot_lives.specs.Outcome.{IsReport}
use Rattle.live_text.specs.declared.request.Request.TheVariants as request
use Rattle.live_text.specs.declared.answer.Cause.{Cause}
use Rattle.live_text.specs.declared.answer.Cause.TheVariants as cause
use Rattle.live_text.specs.declared.request.Request.{Request}
use Rattle.live_text.specs.declared.request.RequestFault.TheVariants as fault
use Rattle.live_text.specs.Request.{IsRequest, IsRequestFault, ReadsRequest}
use Rattle.live_text.specs.Answer.{answer_text, refused_text, shown}
use Rattle.page_live.specs.Findings.{AreEven, found_refused}
use Rattle.page_live.specs.Settled.{said_of}
use Rattle.page_live.specs.Swaps.{swap_slots}
use Rattle.page_live.specs.HostItem.{HostItem}
use Rattle.page_live.specs.declared.page.LivePage.{LivePage}
use Rattle.page_live.specs.declared.session.Session.{Session}
use Rattle.page_live.specs.Page.{AppendsAnswer, AreRenewed, IsAlive, IsLiveReport, Lives, Shows, picked, touched_by}
use Rattle.live_lines.specs.Transcript.{State, StandsAt, Stands, Answered, ReportsOn, Answers, a_refusal, a_report, a_reply, Brings, nothing, a_file, Refuses, no_request, RefusesItem, fifth_swap, long_file, no_file, Replies, it_is_taken, it_is_refused, takes, ReadFailed, WasRead}
use Rattle.page_live.proofs.Showing.{live_comes, live_shows}
use Rattle.page_live.proofs.Taken.{no_slot}

-- ## Over files that may be told

abbrev pub Is : Type 1
Is = (parts : List Part) (pairs : List (ℕ × ℕ)) (runs : List SlotRun) → FileMap → State → List ℕ → State → Type 0

if_told : (o : Option FileMap) (P : FileMap → Type 0) → ((m : FileMap) → P m) → IfSome o P
if_told None P all = tt
if_told (Some m) P all = all m

told_more : (o : Option FileMap) (P Q : FileMap → Type 0) → ((m : FileMap) → P m → Q m) → IfSome o P → IfSome o Q
told_more None P Q more is = tt
told_more (Some m) P Q more is = more m is

-- ## A session that stands

-- nothing was done
pub answered_same : (told : Option FileMap) (is : Is) (session : Session) (from to bytes : List ℕ) → Stands session → to ≡ from ++ bytes
    → ((m : FileMap) (parts : List Part) (pairs : List (ℕ × ℕ)) (runs : List SlotRun) (s : State) → StandsAt parts pairs runs s session → is parts pairs runs m s bytes s) → Answered told is session session from to
answered_same told is session from to bytes stands appended so = record {
  stands = stands;
  one_more = omega arith;
  answer = if_told told (λ m. (parts : List Part) (pairs : List (ℕ × ℕ)) (runs : List SlotRun) (s : State) → StandsAt parts pairs runs s session
      → (bs : List ℕ) × (t : State) × (is parts pairs runs m s bs t) × (to ≡ from ++ bs) × StandsAt parts pairs runs t session)
      (λ m parts pairs runs s at. (bytes, s, so m parts pairs runs s at, appended, at));
}

-- the same said otherwise
pub answered_as : (told : Option FileMap) (a b : Is) (old new : Session) (from to : List ℕ)
    → ((m : FileMap) (parts : List Part) (pairs : List (ℕ × ℕ)) (runs : List SlotRun) (s : State) (bytes : List ℕ) (t : State) → StandsAt parts pairs runs s old → a parts pairs runs m s bytes t → b parts pairs runs m s bytes t)
    → Answered told a old new from to → Answered told b old new from to
answered_as told a b old new from to so given = record {
  stands = given.stands;
  one_more = given.one_more;
  answer = told_more told
      (λ m. (parts : List Part) (pairs : List (ℕ × ℕ)) (runs : List SlotRun) (s : State) → StandsAt parts pairs runs s old → (bs : List ℕ) × (t : State) × (a parts pairs runs m s bs t) × (to ≡ from ++ bs) × StandsAt parts pairs runs t new)
      (λ m. (parts : List Part) (pairs : List (ℕ × ℕ)) (runs : List SlotRun) (s : State) → StandsAt parts pairs runs s old → (bs : List ℕ) × (t : State) × (b parts pairs runs m s bs t) × (to ≡ from ++ bs) × StandsAt parts pairs runs t new)
      (λ m all parts pairs runs s at. (let r = all parts pairs runs s at in (r.0, r.1, so m parts pairs runs s r.0 r.1 at r.2, r.3, r.4))) given.answer;
}

pub on_three : {A E : Type 0} (r : Result A E) (P Q S T : Type 0) → (P → Q → S → T) → OnOk r P → OnOk r Q → OnOk r S → OnOk r T
on_three (Ok x) P Q S T all p q s = all p q s
on_three (Err e) P Q S T all p q s = tt

pub on_one : {A E : Type 0} (r : Result A E) (P T : Type 0) → (P → T) → OnOk r P → OnOk r T
on_one (Ok x) P T all p = all p
on_one (Err e) P T all p = tt

pub alive_of : (session : Session) → Stands session → IsAlive session.page
alive_of session s = record { parts = s.parts; pairs = s.pairs; runs = s.runs; files = s.state.files; items = s.state.items; is = s.at.lives }

-- what a session says of an item that it takes
abbrev pub SaysAnswer : Session → Session → List ℕ → List ℕ → Said → Type 0
SaysAnswer old new from to x = (ps : List PagePiece) (owns : List (Option OwnState)) → Shows new.page ps owns → AppendsAnswer new.page.findings owns (touched_by x) new.page.taken (map shown old.written.items) (map shown new.written.items) from to

-- ## Items for slots

pub event_for : (n : ℕ) (x : Said) (to : ℕ) (kind path : List ℕ) (value : Option (List ℕ)) → x ≡ an_event to kind path value → IsFor n x → to < n
event_for n x to kind path value same is = subst (IsFor n) same is

pub advance_for : (n : ℕ) (x : Said) (ms : ℕ) → x ≡ an_advance ms → IsFor n x → ms ≤ 60000
advance_for n x ms same is = subst (IsFor n) same is

pub swap_for : (n : ℕ) (x : Said) (to : ℕ) (file : List ℕ) → x ≡ a_swap to file → IsFor n x → to < n
swap_for n x to file same is = subst (IsFor n) same is

-- the file that was read
pub as_read : (told : Option FileMap) (name bytes : List ℕ) → IfSome told (λ m. m name ≡ Some bytes) → length bytes ≤ file_limit → IfSome told (λ m. IsRead m file_limit name (record { name = name; bytes = bytes }))
as_read told name bytes there within = told_more told (λ m. m name ≡ Some bytes) (λ m. IsRead m file_limit name (record { name = name; bytes = bytes })) (λ m is. record { named = refl; there = is; within = within }) there

-- the report on a page, and what a replay of its items writes
pub reports_on : (page : LivePage) (bytes : List ℕ)
    → ((parts : List Part) (pairs : List (ℕ × ℕ)) (runs : List SlotRun) (files : List Source) (items : List Said) → Lives parts pairs runs files items page → IsLiveReport parts pairs runs files items bytes)
    → ((parts : List Part) (runs : List SlotRun) (files : List Source) (items : List Said) → Lives parts [] runs files items page → IsReport parts [] runs files items (found_refused page.findings) bytes)
    → ReportsOn page bytes
reports_on page bytes live replayed = λ parts pairs runs files items l. record {
  live = live parts pairs runs files items l;
  replayed = λ none. (
    found_refused page.findings,
    subst (λ ps. IsReport parts ps runs files items (found_refused page.findings) bytes) (sym none) (replayed parts runs files items (subst (λ ps. Lives parts ps runs files items page) none l)),
  );
}

-- ## What a session holds

pub even_of : (session : Session) → Stands session → AreEven session.page.findings
even_of session s = (live_shows s.parts s.pairs s.runs s.state.files s.state.items session.page s.at.lives).told.even

pub few_names : (session : Session) → Stands session → length session.page.findings.names.items ≤ 16
few_names session s = (even_of session s).few

-- ## What was read

none_number : (n : ℕ) → None ≡ Some n → ⊥
none_number n e = cc

slot_within : (names : List (List ℕ)) (key : List ℕ) (d : Data) (to : ℕ) → slot_at key names d ≡ Some to → to < length names
slot_within names key d to is = by (text_at key d) is where
  by : (o : Option (List ℕ)) → option_and_then (λ text. position (λ name. bytes_eq name text) names) o ≡ Some to → to < length names
  by None e = absurd (none_number to e)
  by (Some text) e = (position-Some (λ name. bytes_eq name text) names to [] e).0

for_slots : (names : List (List ℕ)) (d : Data) (t : TraceItem) → IsItem 2 names d t → IsFor (length names) (said t)
for_slots names d (item.Event to event) is = slot_within names (codes "to") d to is.slot
for_slots names d (item.Advance ms) is = is.short
for_slots names d (item.Swap to file) is = slot_within names (codes "swap") d to is.1.slot

-- an item that a line asks for is for the slots
pub reads_for : (line : List ℕ) (names own : List (List ℕ)) (r : Request) (t : TraceItem) → r ≡ request.Item t → names ≡ own → ReadsRequest line names r → IsFor (length own) (said t)
reads_for line names own r t is same reads = subst (λ (ns : List (List ℕ)). IsFor (length ns) (said t)) same (for_slots names reads.value t (subst (λ q. IsRequest names reads.value q) is reads.asks))

-- a line that asks for nothing
pub no_request_of : (parts : List Part) (pairs : List (ℕ × ℕ)) (runs : List SlotRun) (line : List ℕ) (names : List (List ℕ)) → map run_name runs ≡ names → length line ≤ 1048576 → IsRequestFault line names fault.BadShape
    → Refuses parts pairs runs line cause.BadShape
no_request_of parts pairs runs line names same short is = no_request short is.1 (λ r. subst (λ ns. ¬ IsRequest ns is.0 r) (sym same) (is.2 r))

-- ## Over files that are carried on

module _ {D : Type 0} (tells : D → Option FileMap) (calm : D → Type 0) (faults : D → ℕ) where
  module _ (parts : List Part) (pairs : List (ℕ × ℕ)) (runs : List SlotRun) (m : FileMap) (s : State) (old new : Session) (at : StandsAt parts pairs runs s old) (from to : List ℕ) (d e : D) where
    -- an item was taken
    pub reply : (i : Said) (more : List Source) → Brings tells calm faults parts pairs runs m d i more e → (l : Lives parts pairs runs (s.files ++ more) (s.items ++ i ∷ []) new.page)
        → AppendsAnswer new.page.findings (map end_of l.live.fed) (touched_by i) new.page.taken (map shown old.written.items) (map shown new.written.items) from to
        → length new.written.items ≡ length new.page.findings.names.items
        → (bytes : List ℕ) × (t : State) × (Replies tells calm faults parts pairs runs m i s d bytes t e) × (to ≡ from ++ bytes) × StandsAt parts pairs runs t new
    reply i more brings l a many = (
      answer_text (length s.items + 1) (picked a.flags (map shown new.written.items)),
      record { items = s.items ++ i ∷ []; files = s.files ++ more; written = map shown new.written.items },
      it_is_taken
          (takes a.flags brings (live_comes parts pairs runs (s.files ++ more) (s.items ++ i ∷ []) new.page l)
          (subst (λ w. AreRenewed new.page.findings (map end_of l.live.fed) (touched_by i) w (map shown new.written.items) a.flags) (sym at.written) a.renewed)),
      a.appended ∙ ap (λ n. from ++ answer_text n (picked a.flags (map shown new.written.items))) (l.taken ∙ length_push s.items i),
      record { lives = l; written = refl; many = many },
    )

  -- what is answered to an item, and to a line
  abbrev RepliesTo : Said → D → D → Is
  RepliesTo x d e parts pairs runs m s bytes t = Replies tells calm faults parts pairs runs m x s d bytes t e

  abbrev AnswersTo : List ℕ → D → D → Is
  AnswersTo line d e parts pairs runs m s bytes t = Answers tells calm faults parts pairs runs m line s d bytes t e

  module _ (x : Said) (old new : Session) (from to : List ℕ) (d : D) (stands : Stands old) where
    more_taken : (parts : List Part) (pairs : List (ℕ × ℕ)) (runs : List SlotRun) (files more : List Source) (items : List Said) → Lives parts pairs runs files items old.page → Lives parts pairs runs more (items ++ x ∷ []) new.page → new.page.taken ≡ old.page.taken + 1
    more_taken parts pairs runs files more items l k = k.taken ∙ length_push items x ∙ ap (λ n. n + 1) (sym l.taken)

    -- an event or an advance
    pub answered_item : (i : HostItem) → x ≡ said_of i
        → ((parts : List Part) (pairs : List (ℕ × ℕ)) (runs : List SlotRun) (files : List Source) (items : List Said) → Lives parts pairs runs files items old.page → Lives parts pairs runs files (items ++ x ∷ []) new.page)
        → ((parts : List Part) (pairs : List (ℕ × ℕ)) (runs : List SlotRun) (files : List Source) (items : List Said) (l : Lives parts pairs runs files items new.page)
        → AppendsAnswer new.page.findings (map end_of l.live.fed) (touched_by x) new.page.taken (map shown old.written.items) (map shown new.written.items) from to)
        → length new.written.items ≡ length new.page.findings.names.items → Answered (tells d) (RepliesTo x d d) old new from to
    answered_item i same lives answer many =
        let a = stands.at in
        let k = lives stands.parts stands.pairs stands.runs stands.state.files stands.state.items a.lives in
        record {
          stands = record {
            parts = stands.parts;
            pairs = stands.pairs;
            runs = stands.runs;
            state = record { items = stands.state.items ++ x ∷ []; files = stands.state.files; written = map shown new.written.items };
            at = record { lives = k; written = refl; many = many };
          };
          one_more = let more = more_taken stands.parts stands.pairs stands.runs stands.state.files stands.state.files stands.state.items a.lives k in omega (arith, more);
          answer = if_told (tells d) (λ m. (parts : List Part) (pairs : List (ℕ × ℕ)) (runs : List SlotRun) (s : State) → StandsAt parts pairs runs s old
              → (bs : List ℕ) × (t : State) × (RepliesTo x d d parts pairs runs m s bs t) × (to ≡ from ++ bs) × StandsAt parts pairs runs t new)
              (λ m parts pairs runs s at.
              (let l = subst (λ fs. Lives parts pairs runs fs (s.items ++ x ∷ []) new.page) (sym (append-nil s.files)) (lives parts pairs runs s.files s.items at.lives) in
              reply parts pairs runs m s old new at from to d d x [] (nothing (ap (λ y. swap_slots (y ∷ [])) same ∙ no_slot i)) l (answer parts pairs runs (s.files ++ []) (s.items ++ x ∷ []) l) many));
        }

    -- a swap
    pub answered_swap : (e : D) (to_slot : ℕ) (file : List ℕ) (source : Source) → x ≡ a_swap to_slot file → IfSome (tells d) (λ m. IsRead m file_limit file source) → WasRead tells calm faults d e file
        → ((parts : List Part) (pairs : List (ℕ × ℕ)) (runs : List SlotRun) (files : List Source) (items : List Said) → Lives parts pairs runs files items old.page → Lives parts pairs runs (files ++ source ∷ []) (items ++ x ∷ []) new.page)
        → ((parts : List Part) (pairs : List (ℕ × ℕ)) (runs : List SlotRun) (files : List Source) (items : List Said) (l : Lives parts pairs runs files items new.page)
        → AppendsAnswer new.page.findings (map end_of l.live.fed) (touched_by x) new.page.taken (map shown old.written.items) (map shown new.written.items) from to)
        → length new.written.items ≡ length new.page.findings.names.items → Answered (tells d) (RepliesTo x d e) old new from to
    answered_swap e to_slot file source same read was lives answer many =
        let a = stands.at in
        let k = lives stands.parts stands.pairs stands.runs stands.state.files stands.state.items a.lives in
        record {
          stands = record {
            parts = stands.parts;
            pairs = stands.pairs;
            runs = stands.runs;
            state = record { items = stands.state.items ++ x ∷ []; files = stands.state.files ++ source ∷ []; written = map shown new.written.items };
            at = record { lives = k; written = refl; many = many };
          };
          one_more = let more = more_taken stands.parts stands.pairs stands.runs stands.state.files (stands.state.files ++ source ∷ []) stands.state.items a.lives k in omega (arith, more);
          answer = told_more (tells d) (λ m. IsRead m file_limit file source) (λ m. (parts : List Part) (pairs : List (ℕ × ℕ)) (runs : List SlotRun) (s : State) → StandsAt parts pairs runs s old
              → (bs : List ℕ) × (t : State) × (RepliesTo x d e parts pairs runs m s bs t) × (to ≡ from ++ bs) × StandsAt parts pairs runs t new)
              (λ m is parts pairs runs s at.
              (let l = lives parts pairs runs s.files s.items at.lives in
              reply parts pairs runs m s old new at from to d e x (source ∷ []) (subst (λ y. Brings tells calm faults parts pairs runs m d y (source ∷ []) e) (sym same) (a_file is was)) l (answer parts pairs runs (s.files ++ source ∷ []) (s.items ++ x ∷ []) l) many)) read;
        }

    -- it was refused
    pub answered_refusal : (e : D) (why : Cause) → to ≡ from ++ refused_text why → IfSome (tells d) (λ m. (parts : List Part) (pairs : List (ℕ × ℕ)) (runs : List SlotRun) (s : State) → StandsAt parts pairs runs s old → RefusesItem tells calm faults parts pairs runs m s.items d x why e)
        → new ≡ old → Answered (tells d) (RepliesTo x d e) old new from to
    answered_refusal e why appended refuses same = subst (λ (n : Session). Answered (tells d) (RepliesTo x d e) old n from to) (sym same) (record {
      stands = stands;
      one_more = omega arith;
      answer = told_more (tells d) (λ m. (parts : List Part) (pairs : List (ℕ × ℕ)) (runs : List SlotRun) (s : State) → StandsAt parts pairs runs s old → RefusesItem tells calm faults parts pairs runs m s.items d x why e)
          (λ m. (parts : List Part) (pairs : List (ℕ × ℕ)) (runs : List SlotRun) (s : State) → StandsAt parts pairs runs s old → (bs : List ℕ) × (t : State) × (RepliesTo x d e parts pairs runs m s bs t) × (to ≡ from ++ bs) × StandsAt parts pairs runs t old)
          (λ m all parts pairs runs s at. (refused_text why, s, it_is_refused (all parts pairs runs s at), appended, at)) refuses;
    })

  -- the answer to an item is that to its line
  pub answered_line : (line : List ℕ) (item : TraceItem) (old new : Session) (from to : List ℕ) (d e : D) → length line ≤ 1048576 → ReadsRequest line old.page.findings.names.items (request.Item item)
      → Answered (tells d) (RepliesTo (said item) d e) old new from to → Answered (tells d) (AnswersTo line d e) old new from to
  answered_line line item old new from to d e short reads given =
      answered_as (tells d) (RepliesTo (said item) d e) (AnswersTo line d e) old new from to
      (λ m parts pairs runs s bytes t at r.
      a_reply (record { item = item; asks = record { short = short; reads = subst (λ ns. ReadsRequest line ns (request.Item item)) at.lives.found.names reads }; is = refl }) r) given

  -- ## As the calls say it

  pub item_answered : (x : Said) (i : HostItem) (old new : Session) (from to : List ℕ) (d : D) → Stands old → x ≡ said_of i
      → ((parts : List Part) (pairs : List (ℕ × ℕ)) (runs : List SlotRun) (files : List Source) (items : List Said) → Lives parts pairs runs files items old.page → Lives parts pairs runs files (items ++ said_of i ∷ []) new.page)
      → SaysAnswer old new from to (said_of i) → length new.written.items ≡ length new.page.findings.names.items → Answered (tells d) (RepliesTo x d d) old new from to
  item_answered x i old new from to d stands same lives answer many =
      subst (λ y. Answered (tells d) (RepliesTo y d d) old new from to) (sym same)
      (answered_item (said_of i) old new from to d stands i refl lives (λ parts pairs runs files items l. answer (pieces parts) (map end_of l.live.fed) (live_shows parts pairs runs files items new.page l)) many)

  pub swap_answered : (to_slot : ℕ) (file : List ℕ) (source : Source) (old new : Session) (from to : List ℕ) (d e : D) → Stands old → IfSome (tells d) (λ m. IsRead m file_limit file source) → WasRead tells calm faults d e file
      → ((parts : List Part) (pairs : List (ℕ × ℕ)) (runs : List SlotRun) (files : List Source) (items : List Said) (name : List ℕ) → Lives parts pairs runs files items old.page → Lives parts pairs runs (files ++ source ∷ []) (items ++ a_swap to_slot name ∷ []) new.page)
      → ((ps : List PagePiece) (owns : List (Option OwnState)) (name : List ℕ) → Shows new.page ps owns → AppendsAnswer new.page.findings owns (touched_by (a_swap to_slot name)) new.page.taken (map shown old.written.items) (map shown new.written.items) from to)
      → length new.written.items ≡ length new.page.findings.names.items → Answered (tells d) (RepliesTo (a_swap to_slot file) d e) old new from to
  swap_answered to_slot file source old new from to d e stands read was lives answer many =
      answered_swap (a_swap to_slot file) old new from to d stands e to_slot file source refl read was (λ parts pairs runs files items l. lives parts pairs runs files items file l)
      (λ parts pairs runs files items l. answer (pieces parts) (map end_of l.live.fed) file (live_shows parts pairs runs files items new.page l)) many

  -- an answer to a swap is one to the item that it is
  pub swap_reply : {A E : Type 0} (r : Result A E) (x : Said) (to_slot : ℕ) (file : List ℕ) (old new : Session) (from to : List ℕ) (d e : D) → x ≡ a_swap to_slot file
      → OnOk r (Answered (tells d) (RepliesTo (a_swap to_slot file) d e) old new from to) → OnOk r (Answered (tells d) (RepliesTo x d e) old new from to)
  swap_reply r x to_slot file old new from to d e same is = subst (λ y. OnOk r (Answered (tells d) (RepliesTo y d e) old new from to)) (sym same) is

  -- ## Swaps that are refused

  module _ (to_slot : ℕ) (file : List ℕ) (session : Session) (from to : List ℕ) (d : D) (stands : Stands session) where
    abbrev Refused : D → FileMap → Cause → Type 0
    Refused e m why = (parts : List Part) (pairs : List (ℕ × ℕ)) (runs : List SlotRun) (s : State) → StandsAt parts pairs runs s session → RefusesItem tells calm faults parts pairs runs m s.items d (a_swap to_slot file) why e

    abbrev IsSwapAnswered : D → Type 0
    IsSwapAnswered e = Answered (tells d) (RepliesTo (a_swap to_slot file) d e) session session from to

    -- a swap too many
    pub fifth : to ≡ from ++ refused_text cause.BadShape → 4 ≤ length session.page.findings.swaps.slots.items → IsSwapAnswered d
    fifth appended many = answered_refusal (a_swap to_slot file) session session from to d stands d cause.BadShape appended
        (if_told (tells d) (λ m. Refused d m cause.BadShape) (λ m parts pairs runs s at. fifth_swap (subst (λ tos. 4 ≤ length tos) at.lives.found.swapped many))) refl

    -- one whose file is too long
    pub long : (e : D) → to ≡ from ++ refused_text cause.TooLarge → IfSome (tells d) (λ m. IsLong (m file) file_limit) → WasRead tells calm faults d e file → IsSwapAnswered e
    long e appended is was = answered_refusal (a_swap to_slot file) session session from to d stands e cause.TooLarge appended
        (told_more (tells d) (λ m. IsLong (m file) file_limit) (λ m. Refused e m cause.TooLarge) (λ m far parts pairs runs s at. long_file far was) is) refl

    -- one whose file was not read
    pub unread : (e : D) → to ≡ from ++ refused_text cause.NoFile → ReadFailed tells calm faults d e file → IsSwapAnswered e
    unread e appended failed = answered_refusal (a_swap to_slot file) session session from to d stands e cause.NoFile appended (if_told (tells d) (λ m. Refused e m cause.NoFile) (λ m parts pairs runs s at. no_file failed)) refl

  -- ## Lines that are refused, and the report

  module _ (line : List ℕ) (session : Session) (from to : List ℕ) (d : D) (stands : Stands session) where
    abbrev IsLineAnswered : Type 0
    IsLineAnswered = Answered (tells d) (AnswersTo line d d) session session from to

    pub line_refused : (why : Cause) → to ≡ from ++ refused_text why
        → ((parts : List Part) (pairs : List (ℕ × ℕ)) (runs : List SlotRun) → map run_name runs ≡ session.page.findings.names.items → Refuses parts pairs runs line why) → IsLineAnswered
    line_refused why appended refuses =
        answered_same (tells d) (AnswersTo line d d) session from to (refused_text why) stands appended
        (λ m parts pairs runs s at. a_refusal (refuses parts pairs runs (sym at.lives.found.names)))

    pub line_reported : (bytes : List ℕ) → to ≡ from ++ bytes → length line ≤ 1048576 → ReadsRequest line session.page.findings.names.items request.Report → ReportsOn session.page bytes → IsLineAnswered
    line_reported bytes appended short reads report =
        answered_same (tells d) (AnswersTo line d d) session from to bytes stands appended
        (λ m parts pairs runs s at. a_report (record { short = short; reads = subst (λ ns. ReadsRequest line ns request.Report) at.lives.found.names reads }) (report parts pairs runs s.files s.items at.lives))

    -- the report that was appended
    pub report_answered : length line ≤ 1048576 → ReadsRequest line session.page.findings.names.items request.Report
        → (bytes : List ℕ) × (to ≡ from ++ bytes) × ReportsOn session.page bytes → IsLineAnswered
    report_answered short reads is = line_reported is.0 is.1 short reads is.2
