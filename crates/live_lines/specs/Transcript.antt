-- What is answered to lines.
use Rattle.std.specs.Prelude.{◌≡◌, ℕ, ◌<◌, ◌≤◌, ◌+◌, ⊤, Bool, true, false, List, [], ◌∷◌, ◌++◌, map, length, take, Option, IfSome}
use Rattle.host_io.specs.Files.{FileMap, IsThere}
use Rattle.host_io.specs.Sink.{with_bytes}
use Rattle.serde_json.specs.Data.{Data}
use Rattle.json_shapes.specs.Json.{IsJson}
use Rattle.trace_reader.specs.Said.{Said, a_swap, said}
use Rattle.trace_reader.specs.declared.item.TraceItem.{TraceItem}
use Rattle.manifest_reader.specs.Page.{Part}
use Rattle.slot_check.specs.Sources.{Source}
use Rattle.run_steps.specs.declared.ending.Status.{Status}
use Rattle.run_steps.specs.declared.ending.Status.TheVariants as status
use Rattle.run_steps.specs.Page.{file_limit, IsRead}
use Rattle.run_steps.specs.Reading.{IsLong, ReadsFiles}
use Rattle.widget_meaning.specs.OwnState.{OwnState}
use Rattle.page_check.specs.Runs.{SlotRun}
use Rattle.slot_lives.specs.Ends.{run_name}
use Rattle.slot_lives.specs.Outcome.{IsReport}
use Rattle.live_text.specs.declared.request.Request.{Request}
use Rattle.live_text.specs.declared.request.Request.TheVariants as request
use Rattle.live_text.specs.declared.answer.Cause.{Cause}
use Rattle.live_text.specs.declared.answer.Cause.TheVariants as cause
use Rattle.live_text.specs.Request.{IsRequest, ReadsRequest}
use Rattle.live_text.specs.Answer.{Shown, answer_text, full_text, refused_text, shown}
use Rattle.page_live.specs.findings.Findings.{Findings}
use Rattle.page_live.specs.Findings.{found_refused}
use Rattle.page_live.specs.Swaps.{swap_slots}
use Rattle.page_live.specs.declared.page.LivePage.{LivePage}
use Rattle.page_live.specs.declared.session.Session.{Session}
use Rattle.page_live.specs.Page.{ComesTo, IsLiveReport, Lives, AreRenewed, picked, touched_by}

-- the bytes that a line may have
abbrev pub line_limit : ℕ
line_limit = 1048576

-- the swaps and the items that a page may take
abbrev pub most_swaps : ℕ
most_swaps = 4

abbrev pub most_items : ℕ
most_items = 4096

-- where a page stands: the items that it took, the files of the swaps among them, and what was written for its slots last
pub record State : Type 0 where
  pub items : List Said
  pub files : List Source
  pub written : List Shown

-- a session of the page of these parts, channels and slots stands there
pub record StandsAt (parts : List Part) (pairs : List (ℕ × ℕ)) (runs : List SlotRun) (s : State) (session : Session) : Type 0 where
  pub lives : Lives parts pairs runs s.files s.items session.page
  pub written : s.written ≡ map shown session.written.items
  pub many : length session.written.items ≡ length session.page.findings.names.items

-- so some session does
pub record Stands (session : Session) : Type 0 where
  pub parts : List Part
  pub pairs : List (ℕ × ℕ)
  pub runs : List SlotRun
  pub state : State
  pub at : StandsAt parts pairs runs state session

-- the status at the end, by whether the file of some life breaks a rule
abbrev pub ending : Bool → Status
ending true = status.Refused
ending false = status.Ok

-- the report on a page that has taken these items; without channels it is what a replay of them writes
pub record IsReportOn (parts : List Part) (pairs : List (ℕ × ℕ)) (runs : List SlotRun) (files : List Source) (items : List Said) (bytes : List ℕ) : Type 0 where
  pub live : IsLiveReport parts pairs runs files items bytes
  pub replayed : pairs ≡ [] → (refused : Bool) × IsReport parts pairs runs files items refused bytes

-- so it is of a page that lives, whatever it was made of
abbrev pub ReportsOn : LivePage → List ℕ → Type 0
ReportsOn page bytes = (parts : List Part) (pairs : List (ℕ × ℕ)) (runs : List SlotRun) (files : List Source) (items : List Said) → Lives parts pairs runs files items page → IsReportOn parts pairs runs files items bytes

-- ## Lines

-- of the page of these parts, channels and slots
module _ (parts : List Part) (pairs : List (ℕ × ℕ)) (runs : List SlotRun) where
  -- a line is no longer than a line may be, and asks for this
  pub record Asks (line : List ℕ) (request : Request) : Type 0 where
    pub short : length line ≤ line_limit
    pub reads : ReadsRequest line (map run_name runs) request

  -- a line asks for an item
  pub record AsksItem (line : List ℕ) (i : Said) : Type 0 where
    pub item : TraceItem
    pub asks : Asks line (request.Item item)
    pub is : i ≡ said item

  -- why a line is refused: it is too long, is no JSON, or asks for nothing
  pub data Refuses (line : List ℕ) : Cause → Type 0 where
    too_long : line_limit < length line → Refuses line cause.TooLong
    no_json : length line ≤ line_limit → ((d : Data) → ¬ IsJson line d) → Refuses line cause.NotJson
    no_request : {d : Data} → length line ≤ line_limit → IsJson line d → ((r : Request) → ¬ IsRequest (map run_name runs) d r) → Refuses line cause.BadShape

  -- how it ends where a page stands: refused, where the file of some life breaks a rule
  pub record IsEnding (s : State) (status : Status) : Type 0 where
    pub f : Findings
    pub owns : List (Option OwnState)
    pub before : List (Option OwnState)
    pub comes : ComesTo parts pairs runs s.files s.items f owns before
    pub is : status ≡ ending (found_refused f)

-- a line asks a page whose slots have these names for a swap that brings the file of this name
pub record AsksSwap (names : List (List ℕ)) (line file : List ℕ) : Type 0 where
  pub item : TraceItem
  pub to : ℕ
  pub reads : ReadsRequest line names (request.Item item)
  pub is : said item ≡ a_swap to file

-- ## Reads

-- over files by what they tell, whether they are calm, and how many reads have failed: as they were before a read of the file of this name, and behind it
module _ {D : Type 0} (told : D → Option FileMap) (calm : D → Type 0) (faults : D → ℕ) (before behind : D) (name : List ℕ) where
  -- where they were calm and had the file they are calm, and count no fault more
  abbrev pub WasRead : Type 0
  WasRead = ReadsFiles told calm faults before behind ⊥ (IsThere (told before) name)

  -- it failed: they count a fault more, and it is not that they were calm and had the file
  abbrev pub ReadFailed : Type 0
  ReadFailed = ReadsFiles told calm faults before behind ⊤ (IsThere (told before) name)

-- ## Answers

-- Of the page of these parts, channels and slots, over files that have these bytes. What the files do is carried from line to line: `d` is how they stand before, and the last of what is told is how they stand behind.
module _ {D : Type 0} (told : D → Option FileMap) (calm : D → Type 0) (faults : D → ℕ) (parts : List Part) (pairs : List (ℕ × ℕ)) (runs : List SlotRun) (m : FileMap) where
  -- why an item is refused: it is a swap too many, or one whose file is longer than a file may be, or whose file was not read, since that failed
  pub data RefusesItem (items : List Said) (d : D) : Said → Cause → D → Type 0 where
    fifth_swap : {to : ℕ} {file : List ℕ} → most_swaps ≤ length (swap_slots items) → RefusesItem items d (a_swap to file) cause.BadShape d
    long_file : {to : ℕ} {file : List ℕ} {e : D} → IsLong (m file) file_limit → WasRead told calm faults d e file → RefusesItem items d (a_swap to file) cause.TooLarge e
    no_file : {to : ℕ} {file : List ℕ} {e : D} → ReadFailed told calm faults d e file → RefusesItem items d (a_swap to file) cause.NoFile e

  -- the file that an item brings, if it is a swap; else the files stay as they stand
  pub data Brings (d : D) : Said → List Source → D → Type 0 where
    nothing : {i : Said} → swap_slots (i ∷ []) ≡ [] → Brings d i [] d
    a_file : {to : ℕ} {file : List ℕ} {source : Source} {e : D} → IsRead m file_limit file source → WasRead told calm faults d e file → Brings d (a_swap to file) (source ∷ []) e

  -- the page has taken an item more, and this is the answer
  pub data Takes (s : State) (d : D) (i : Said) : List ℕ → State → D → Type 0 where
    takes : {more : List Source} {e : D} {f : Findings} {owns before : List (Option OwnState)} {new : List Shown} (flags : List Bool) → Brings d i more e → ComesTo parts pairs runs (s.files ++ more) (s.items ++ i ∷ []) f owns before
        → AreRenewed f owns (touched_by i) s.written new flags
        → Takes s d i (answer_text (length s.items + 1) (picked flags new)) (record { items = s.items ++ i ∷ []; files = s.files ++ more; written = new }) e

  -- what is answered to an item
  pub data Replies (i : Said) (s : State) (d : D) : List ℕ → State → D → Type 0 where
    it_is_taken : {bytes : List ℕ} {t : State} {e : D} → Takes s d i bytes t e → Replies i s d bytes t e
    it_is_refused : {why : Cause} {e : D} → RefusesItem s.items d i why e → Replies i s d (refused_text why) s e

  -- what is answered to a line, and where the page stands then. A line that is refused, or that asks for the report, leaves it where it is, and the files as they stand.
  pub data Answers (line : List ℕ) (s : State) (d : D) : List ℕ → State → D → Type 0 where
    a_refusal : {why : Cause} → Refuses parts pairs runs line why → Answers line s d (refused_text why) s d
    a_report : {bytes : List ℕ} → Asks parts pairs runs line request.Report → IsReportOn parts pairs runs s.files s.items bytes → Answers line s d bytes s d
    a_reply : {i : Said} {bytes : List ℕ} {t : State} {e : D} → AsksItem parts pairs runs line i → Replies i s d bytes t e → Answers line s d bytes t e

  -- the answers to these lines, one after the other; no line is answered where the page has as many items as it may take
  pub data Serves : State → D → List (List ℕ) → List ℕ → State → D → Type 0 where
    no_line : {s : State} {d : D} → Serves s d [] [] s d
    a_line : {line : List ℕ} {lines : List (List ℕ)} {s t u : State} {d e f : D} (bytes more : List ℕ) → length s.items < most_items → Answers line s d bytes t e → Serves t e lines more u f → Serves s d (line ∷ lines) (bytes ++ more) u f

  -- What a sink holds when these lines were served, from what it held, and the status: all lines were answered, and the page may take more; or as many items were taken as a page may take, and that was written; or there was no memory, or the next line could not be read, and what was written stands; or a write failed, and a first part of what was to be written stands. The files stand behind the last line that was answered; where there was no memory, another file may have been read.
  pub data Served (s : State) (d e : D) (lines : List (List ℕ)) (from to : Option (List ℕ)) : Status → Type 0 where
    at_end : {bytes : List ℕ} {t : State} {how : Status} → Serves s d lines bytes t e → length t.items < most_items → to ≡ with_bytes from bytes → IsEnding parts pairs runs t how → Served s d e lines from to how
    full : {front : List (List ℕ)} {bytes : List ℕ} {t : State} {how : Status} (rest : List (List ℕ)) → lines ≡ front ++ rest → Serves s d front bytes t e → length t.items ≡ most_items → to ≡ with_bytes from (bytes ++ full_text) → IsEnding parts pairs runs t how → Served s d e lines from to how
    no_memory : {front : List (List ℕ)} {bytes : List ℕ} {t : State} {last : D} (rest : List (List ℕ)) → lines ≡ front ++ rest → Serves s d front bytes t last → to ≡ with_bytes from bytes → Served s d e lines from to status.Memory
    not_read : {front : List (List ℕ)} {bytes : List ℕ} {t : State} (rest : List (List ℕ)) → lines ≡ front ++ rest → Serves s d front bytes t e → to ≡ with_bytes from bytes → Served s d e lines from to status.ReadFault
    not_written : {front : List (List ℕ)} {bytes : List ℕ} {t : State} (rest : List (List ℕ)) (count : ℕ) → lines ≡ front ++ rest → Serves s d front bytes t e → count ≤ length bytes → to ≡ with_bytes from (take count bytes) → Served s d e lines from to status.WriteFault
    not_shut : {front : List (List ℕ)} {bytes : List ℕ} {t : State} (rest : List (List ℕ)) (count : ℕ) → lines ≡ front ++ rest → Serves s d front bytes t e → length t.items ≡ most_items → count ≤ length full_text → to ≡ with_bytes from (bytes ++ take count full_text) → Served s d e lines from to status.WriteFault

-- something was answered, over files that tell this: the answer was appended, and the session stands behind it
pub record Answered (told : Option FileMap) (Is : (parts : List Part) (pairs : List (ℕ × ℕ)) (runs : List SlotRun) → FileMap → State → List ℕ → State → Type 0) (old new : Session) (from to : List ℕ) : Type 0 where
  pub stands : Stands new
  pub one_more : new.page.taken ≤ old.page.taken + 1
  pub answer : IfSome told (λ m. (parts : List Part) (pairs : List (ℕ × ℕ)) (runs : List SlotRun) (s : State) → StandsAt parts pairs runs s old
      → (bytes : List ℕ) × (t : State) × (Is parts pairs runs m s bytes t) × (to ≡ from ++ bytes) × StandsAt parts pairs runs t new)

-- lines that a session answers were served, where files and lines are told
abbrev pub ServedOn : {D : Type 0} → (D → Option FileMap) → (D → Type 0) → (D → ℕ) → Option (List (List ℕ)) → Session → D → D → Option (List ℕ) → Option (List ℕ) → Status → Type 0
ServedOn told calm faults left session before behind from to how = IfSome (told before) (λ m. IfSome left (λ lines. (parts : List Part) (pairs : List (ℕ × ℕ)) (runs : List SlotRun) (s : State) → StandsAt parts pairs runs s session
    → Served told calm faults parts pairs runs m s before behind lines from to how))

-- what a sink holds when a page was closed that takes no more items
pub data Closed (f : Findings) (from to : Option (List ℕ)) : Status → Type 0 where
  shut : to ≡ with_bytes from full_text → Closed f from to (ending (found_refused f))
  no_room : to ≡ from → Closed f from to status.Memory
  cut : (count : ℕ) → count ≤ length full_text → to ≡ with_bytes from (take count full_text) → Closed f from to status.WriteFault
