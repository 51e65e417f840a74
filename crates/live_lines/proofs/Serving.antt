-- Lines are served one after the other.
use Rattle.std.proofs.Common.{◌≡◌, ◌≤◌, ◌<◌, ℕ, ◌+◌, List, [], ◌∷◌, ◌++◌, length, take, drop, map, Vec, Option, Some, None, refl, zero, suc, sym, ap, subst, ◌∙◌, arith, append-nil, append_assoc, length-append}
use Rattle.std.specs.Prelude.{IfSome, option_map}
use Rattle.std.specs.List.{slice_get}
use Rattle.std.specs.declared.alloc.Global.{Global}
use Rattle.host_io.specs.Files.{FileMap}
use Rattle.host_io.specs.Sink.{with_bytes}
use Rattle.host_io.proofs.Pieces.{with_bytes-with_bytes}
use Rattle.manifest_reader.specs.Page.{Part}
use Rattle.run_steps.specs.declared.ending.Status.{Status}
use Rattle.run_steps.specs.declared.ending.Status.TheVariants as status
use Rattle.page_check.specs.Runs.{SlotRun}
use Rattle.slot_lives.specs.Ends.{end_of}
use Rattle.live_text.specs.Answer.{full_text}
use Rattle.page_live.specs.Findings.{found_refused}
use Rattle.page_live.specs.declared.session.Session.{Session}
use Rattle.live_lines.specs.Transcript.{State, StandsAt, Answered, Answers, a_refusal, a_report, a_reply, too_long, no_json, no_request, Serves, no_line, a_line, Served, at_end, full, no_memory, not_read, not_written, not_shut, IsEnding, Closed, shut, no_room, cut, ending}
use Rattle.page_live.proofs.Showing.{live_comes}

-- ## Lines that are cut

-- what was cut to no more than it may have was not cut
uncut : (n : ℕ) (xs : List ℕ) → length (take (suc n) xs) ≤ n → take (suc n) xs ≡ xs
uncut n [] short = refl
uncut zero (x ∷ xs) short = absurd (omega (arith, short))
uncut (suc n) (x ∷ xs) short = ap (λ ys. x ∷ ys) (uncut n xs (let e : length (take (suc n) xs) ≤ n = omega (arith, short) in e))

no_longer : (n : ℕ) (xs : List ℕ) → length (take n xs) ≤ length xs
no_longer zero xs = omega arith
no_longer (suc n) [] = omega arith
no_longer (suc n) (x ∷ xs) = let e = no_longer n xs in omega (arith, e)

-- a first part that goes behind some bytes
pub take_behind : (xs ys : List ℕ) (count : ℕ) → take (length xs + count) (xs ++ ys) ≡ xs ++ take count ys
take_behind [] ys count = let e : 0 + count ≡ count = omega arith in ap (λ k. take k ys) e
take_behind (x ∷ xs) ys count =
    let e : suc (length xs) + count ≡ suc (length xs + count) = omega arith in
    ap (λ k. take k (x ∷ (xs ++ ys))) e ∙ ap (λ zs. x ∷ zs) (take_behind xs ys count)

-- of the lines that are left, one more is served
pub next_whole : (lines front rest : List (List ℕ)) (line : List ℕ) → lines ≡ front ++ rest → rest ≡ line ∷ drop 1 rest → lines ≡ (front ++ line ∷ []) ++ drop 1 rest
next_whole lines front rest line whole is = whole ∙ ap (λ r. front ++ r) is ∙ sym (append_assoc front (line ∷ []) (drop 1 rest))

module _ {D : Type 0} (tells : D → Option FileMap) (calm : D → Type 0) (faults : D → ℕ) (parts : List Part) (pairs : List (ℕ × ℕ)) (runs : List SlotRun) (m : FileMap) where
  -- what is answered to a line that was cut one byte over its limit is answered to the line
  pub answers_uncut : (line : List ℕ) (s : State) (d : D) (bytes : List ℕ) (t : State) (e : D) → Answers tells calm faults parts pairs runs m (take 1048577 line) s d bytes t e → Answers tells calm faults parts pairs runs m line s d bytes t e
  answers_uncut line s d bytes t e (a_refusal (too_long far)) = a_refusal (too_long (let e = no_longer 1048577 line in omega (arith, e, far)))
  answers_uncut line s d bytes t e (a_refusal (no_json short never)) = subst (λ l. Answers tells calm faults parts pairs runs m l s d bytes t e) (uncut 1048576 line short) (a_refusal (no_json short never))
  answers_uncut line s d bytes t e (a_refusal (no_request short json never)) = subst (λ l. Answers tells calm faults parts pairs runs m l s d bytes t e) (uncut 1048576 line short) (a_refusal (no_request short json never))
  answers_uncut line s d bytes t e (a_report asks report) = subst (λ l. Answers tells calm faults parts pairs runs m l s d bytes t e) (uncut 1048576 line asks.short) (a_report asks report)
  answers_uncut line s d bytes t e (a_reply asks reply) = subst (λ l. Answers tells calm faults parts pairs runs m l s d bytes t e) (uncut 1048576 line asks.asks.short) (a_reply asks reply)

  -- ## One line more

  pub serves_more : (s t u : State) (d e f : D) (lines : List (List ℕ)) (bytes more line : List ℕ) → Serves tells calm faults parts pairs runs m s d lines bytes t e → length t.items < 4096 → Answers tells calm faults parts pairs runs m line t e more u f
      → Serves tells calm faults parts pairs runs m s d (lines ++ line ∷ []) (bytes ++ more) u f
  serves_more s t u d e f [] bytes more line no_line few is = subst (λ bs. Serves tells calm faults parts pairs runs m s d (line ∷ []) bs u f) (append-nil more) (a_line more [] few is no_line)
  serves_more s t u d e f (first ∷ lines) bytes more line (a_line {t = v} {e = g} one others enough answer rest) few is =
      subst (λ bs. Serves tells calm faults parts pairs runs m s d (first ∷ (lines ++ line ∷ [])) bs u f) (sym (append_assoc one others more))
      (a_line one (others ++ more) enough answer (serves_more v t u g e f lines others more line rest few is))

  -- these lines are being served: of them these are left, and the session and the files stand behind the others
  pub record Going (s : State) (d e : D) (lines : List (List ℕ)) (from to : Option (List ℕ)) (left : Option (List (List ℕ))) (session : Session) : Type 0 where
    pub front : List (List ℕ)
    pub rest : List (List ℕ)
    pub bytes : List ℕ
    pub t : State
    pub whole : lines ≡ front ++ rest
    pub serves : Serves tells calm faults parts pairs runs m s d front bytes t e
    pub held : to ≡ with_bytes from bytes
    pub left_rest : left ≡ Some rest
    pub at : StandsAt parts pairs runs t session

  with_none : (o : Option (List ℕ)) → o ≡ with_bytes o []
  with_none None = refl
  with_none (Some held) = ap Some (sym (append-nil held))

  pub going_first : (s : State) (d : D) (lines : List (List ℕ)) (from : Option (List ℕ)) (session : Session) → StandsAt parts pairs runs s session → Going s d d lines from from (Some lines) session
  going_first s d lines from session at = record { front = []; rest = lines; bytes = []; t = s; whole = refl; serves = no_line; held = with_none from; left_rest = refl; at = at }

  -- ## Ends

  pub is_ending : (s : State) (session : Session) → StandsAt parts pairs runs s session → IsEnding parts pairs runs s (ending (found_refused session.page.findings))
  is_ending s session at = record {
    f = session.page.findings;
    owns = map end_of at.lives.live.fed;
    before = map end_of at.lives.live.out;
    comes = live_comes parts pairs runs s.files s.items session.page at.lives;
    is = refl;
  }

  -- all lines were answered
  pub ends_at : (s : State) (d e : D) (lines : List (List ℕ)) (from to : Option (List ℕ)) (left : Option (List (List ℕ))) (session : Session) (how : Status) → (g : Going s d e lines from to left session) → g.rest ≡ [] → length g.t.items < 4096
      → how ≡ ending (found_refused session.page.findings) → Served tells calm faults parts pairs runs m s d e lines from to how
  ends_at s d e lines from to left session how g none few is =
      at_end (subst (λ ls. Serves tells calm faults parts pairs runs m s d ls g.bytes g.t e) (sym (g.whole ∙ ap (λ r. g.front ++ r) none ∙ append-nil g.front)) g.serves) few g.held
      (subst (IsEnding parts pairs runs g.t) (sym is) (is_ending g.t session g.at))

  pub ends_unread : (s : State) (d e : D) (lines : List (List ℕ)) (from to : Option (List ℕ)) (left : Option (List (List ℕ))) (session : Session) → Going s d e lines from to left session → Served tells calm faults parts pairs runs m s d e lines from to status.ReadFault
  ends_unread s d e lines from to left session g = not_read g.rest g.whole g.serves g.held

  pub ends_small : (s : State) (d e last : D) (lines : List (List ℕ)) (from to : Option (List ℕ)) (left : Option (List (List ℕ))) (session : Session) → Going s d last lines from to left session → Served tells calm faults parts pairs runs m s d e lines from to status.Memory
  ends_small s d e last lines from to left session g = no_memory g.rest g.whole g.serves g.held

  pub ends_closed : (s : State) (d e : D) (lines : List (List ℕ)) (from to new : Option (List ℕ)) (left : Option (List (List ℕ))) (session : Session) (how : Status) → (g : Going s d e lines from to left session) → length g.t.items ≡ 4096
      → Closed session.page.findings to new how → Served tells calm faults parts pairs runs m s d e lines from new how
  ends_closed s d e lines from to new left session how g many (shut written) =
      full g.rest g.whole g.serves many (written ∙ ap (λ o. with_bytes o full_text) g.held ∙ with_bytes-with_bytes from g.bytes full_text) (is_ending g.t session g.at)
  ends_closed s d e lines from to new left session how g many (no_room same) = no_memory g.rest g.whole g.serves (same ∙ g.held)
  ends_closed s d e lines from to new left session how g many (cut count within written) = not_shut g.rest count g.whole g.serves many within
      (written ∙ ap (λ o. with_bytes o (take count full_text)) g.held ∙ with_bytes-with_bytes from g.bytes (take count full_text))

  -- the answer to a line was written in part
  pub ends_cut : (s : State) (d e f : D) (lines : List (List ℕ)) (from to new : Option (List ℕ)) (left : Option (List (List ℕ))) (session : Session) (line out : List ℕ) (count : ℕ) (g : Going s d e lines from to left session)
      → g.rest ≡ line ∷ drop 1 g.rest → length g.t.items < 4096
      → (u : State) → Answers tells calm faults parts pairs runs m line g.t e out u f → count ≤ length out → new ≡ with_bytes to (take count out) → Served tells calm faults parts pairs runs m s d f lines from new status.WriteFault
  ends_cut s d e f lines from to new left session line out count g is few u answer within written =
      not_written (drop 1 g.rest) (length g.bytes + count) (next_whole lines g.front g.rest line g.whole is) (serves_more s g.t u d e f g.front g.bytes out line g.serves few answer)
      (omega (arith, within, length-append g.bytes out))
      (written ∙ ap (λ o. with_bytes o (take count out)) g.held ∙ with_bytes-with_bytes from g.bytes (take count out) ∙ ap (λ bs. with_bytes from bs) (sym (take_behind g.bytes out count)))

-- ## Lines that are read

no_some : (line : List ℕ) → Some line ≡ None → ⊥
no_some line e = cc

some_same : (a b : List ℕ) → Some a ≡ Some b → a ≡ b
some_same a b e = cc

-- the first of some lines, as it is read
cut_first : (rest : List (List ℕ)) (line : List ℕ) → Some line ≡ option_map (take 1048577) (slice_get rest 0) → (raw : List ℕ) × (rest ≡ raw ∷ drop 1 rest) × (line ≡ take 1048577 raw)
cut_first [] line e = absurd (no_some line e)
cut_first (raw ∷ rest) line e = (raw, refl, some_same line (take 1048577 raw) e)

if_left : {A : Type 0} (left : Option A) (rest : A) (P : A → Type 0) → left ≡ Some rest → IfSome left P → P rest
if_left left rest P is given = subst (λ o. IfSome o P) is given

-- what was read, as bytes
pub none_read : (left : Option (List (List ℕ))) (next : Option (Vec ℕ Global)) → next ≡ None → IfSome left (λ lines. option_map (λ (line : Vec ℕ Global). line.items) next ≡ option_map (take 1048577) (slice_get lines 0))
    → IfSome left (λ lines. None ≡ option_map (take 1048577) (slice_get lines 0))
none_read left next same = subst (λ (o : Option (Vec ℕ Global)). IfSome left (λ lines. option_map (λ (line : Vec ℕ Global). line.items) o ≡ option_map (take 1048577) (slice_get lines 0))) same

pub some_read : (left : Option (List (List ℕ))) (next : Option (Vec ℕ Global)) (line : Vec ℕ Global) (bytes : List ℕ) → next ≡ Some line → bytes ≡ line.items
    → IfSome left (λ lines. option_map (λ (line : Vec ℕ Global). line.items) next ≡ option_map (take 1048577) (slice_get lines 0)) → IfSome left (λ lines. Some bytes ≡ option_map (take 1048577) (slice_get lines 0))
some_read left next line bytes same is = subst (λ (o : Option (List ℕ)). IfSome left (λ lines. o ≡ option_map (take 1048577) (slice_get lines 0))) (ap (option_map (λ (v : Vec ℕ Global). v.items)) same ∙ ap Some (sym is))

none_next : (rest : List (List ℕ)) → None ≡ option_map (take 1048577) (slice_get rest 0) → rest ≡ []
none_next [] is = refl
none_next (line ∷ rest) e = absurd (no_some (take 1048577 line) (sym e))

-- ## Where files and lines are told

module _ {D : Type 0} (tells : D → Option FileMap) (calm : D → Type 0) (faults : D → ℕ) where
  abbrev pub GoingOn : Option FileMap → Option (List (List ℕ)) → Session → D → D → Option (List ℕ) → Option (List ℕ) → Option (List (List ℕ)) → Session → Type 0
  GoingOn told all first d e from to left session = IfSome told (λ m. IfSome all (λ lines. (parts : List Part) (pairs : List (ℕ × ℕ)) (runs : List SlotRun) (s : State) → StandsAt parts pairs runs s first
      → Going tells calm faults parts pairs runs m s d e lines from to left session))

  pub going_on_first : (told : Option FileMap) (all : Option (List (List ℕ))) (session : Session) (d : D) (from : Option (List ℕ)) → GoingOn told all session d d from from all session
  going_on_first None all session d from = tt
  going_on_first (Some m) None session d from = tt
  going_on_first (Some m) (Some lines) session d from = λ parts pairs runs s at. going_first tells calm faults parts pairs runs m s d lines from session at

  -- so it was served
  abbrev ServedAt : Option FileMap → Option (List (List ℕ)) → Session → D → D → Option (List ℕ) → Option (List ℕ) → Status → Type 0
  ServedAt told all first d e from to how = IfSome told (λ m. IfSome all (λ lines. (parts : List Part) (pairs : List (ℕ × ℕ)) (runs : List SlotRun) (s : State) → StandsAt parts pairs runs s first
      → Served tells calm faults parts pairs runs m s d e lines from to how))

  -- what comes of what is being served
  served_on : (told : Option FileMap) (all : Option (List (List ℕ))) (first : Session) (d e f : D) (from to : Option (List ℕ)) (left : Option (List (List ℕ))) (session : Session) (new : Option (List ℕ)) (how : Status)
      → ((m : FileMap) (parts : List Part) (pairs : List (ℕ × ℕ)) (runs : List SlotRun) (s : State) (lines : List (List ℕ)) → Going tells calm faults parts pairs runs m s d e lines from to left session → Served tells calm faults parts pairs runs m s d f lines from new how)
      → GoingOn told all first d e from to left session → ServedAt told all first d f from new how
  served_on None all first d e f from to left session new how so going = tt
  served_on (Some m) None first d e f from to left session new how so going = tt
  served_on (Some m) (Some lines) first d e f from to left session new how so going = λ parts pairs runs s at. so m parts pairs runs s lines (going parts pairs runs s at)

  -- an answer that is all of some bytes
  pub line_answered : (now told : Option FileMap) (line : List ℕ) (old new : Session) (d e : D) (empty all out : List ℕ) → now ≡ told → empty ≡ [] → out ≡ all
      → Answered now (λ parts pairs runs m s bytes t. Answers tells calm faults parts pairs runs m line s d bytes t e) old new empty all → Answered told (λ parts pairs runs m s bytes t. Answers tells calm faults parts pairs runs m line s d bytes t e) old new [] out
  line_answered now told line old new d e empty all out same none is given =
      subst (λ o. Answered o (λ parts pairs runs m s bytes t. Answers tells calm faults parts pairs runs m line s d bytes t e) old new [] out) same
      (subst (λ xs. Answered now (λ parts pairs runs m s bytes t. Answers tells calm faults parts pairs runs m line s d bytes t e) old new xs out) none
      (subst (λ ys. Answered now (λ parts pairs runs m s bytes t. Answers tells calm faults parts pairs runs m line s d bytes t e) old new empty ys) (sym is) given))

  -- the line that comes next was answered, and the answer written
  pub going_on_next : (told : Option FileMap) (all : Option (List (List ℕ))) (first : Session) (d e f : D) (from to new : Option (List ℕ)) (left after : Option (List (List ℕ))) (session next : Session) (line out : List ℕ)
      → IfSome left (λ lines. Some line ≡ option_map (take 1048577) (slice_get lines 0)) → IfSome left (λ lines. after ≡ Some (drop 1 lines))
      → Answered told (λ parts pairs runs m s bytes t. Answers tells calm faults parts pairs runs m line s e bytes t f) session next [] out → session.page.taken < 4096 → new ≡ with_bytes to out
      → GoingOn told all first d e from to left session → GoingOn told all first d f from new after next
  going_on_next None all first d e f from to new left after session next line out read rest answered room written going = tt
  going_on_next (Some m) None first d e f from to new left after session next line out read rest answered room written going = tt
  going_on_next (Some m) (Some lines) first d e f from to new left after session next line out read rest answered room written going = λ parts pairs runs s at.
      (let g = going parts pairs runs s at in
      let a = answered.answer parts pairs runs g.t g.at in
      let raw = cut_first g.rest line (if_left left g.rest (λ ls. Some line ≡ option_map (take 1048577) (slice_get ls 0)) g.left_rest read) in
      let few : length g.t.items < 4096 = omega (arith, room, g.at.lives.taken) in
      let answer = answers_uncut tells calm faults parts pairs runs m raw.0 g.t e a.0 a.1 f (subst (λ l. Answers tells calm faults parts pairs runs m l g.t e a.0 a.1 f) raw.2 a.2) in
      record {
        front = g.front ++ raw.0 ∷ [];
        rest = drop 1 g.rest;
        bytes = g.bytes ++ a.0;
        t = a.1;
        whole = next_whole lines g.front g.rest raw.0 g.whole raw.1;
        serves = serves_more tells calm faults parts pairs runs m s g.t a.1 d e f g.front g.bytes a.0 raw.0 g.serves few answer;
        held = written ∙ ap (λ bs. with_bytes to bs) a.3 ∙ ap (λ o. with_bytes o a.0) g.held ∙ with_bytes-with_bytes from g.bytes a.0;
        left_rest = if_left left g.rest (λ ls. after ≡ Some (drop 1 ls)) g.left_rest rest;
        at = a.4;
      })

  -- ## How it ends, where files and lines are told

  -- there is no line left
  pub served_end : (told : Option FileMap) (all : Option (List (List ℕ))) (first : Session) (d e : D) (from to : Option (List ℕ)) (left : Option (List (List ℕ))) (session : Session) (how : Status)
      → IfSome left (λ lines. None ≡ option_map (take 1048577) (slice_get lines 0)) → session.page.taken < 4096 → how ≡ ending (found_refused session.page.findings) → GoingOn told all first d e from to left session → ServedAt told all first d e from to how
  served_end told all first d e from to left session how read room is = served_on told all first d e e from to left session to how
      (λ m parts pairs runs s lines g. ends_at tells calm faults parts pairs runs m s d e lines from to left session how g (none_next g.rest (if_left left g.rest (λ ls. None ≡ option_map (take 1048577) (slice_get ls 0)) g.left_rest read))
      (omega (arith, room, g.at.lives.taken)) is)

  pub served_unread : (told : Option FileMap) (all : Option (List (List ℕ))) (first : Session) (d e : D) (from to : Option (List ℕ)) (left : Option (List (List ℕ))) (session : Session) → GoingOn told all first d e from to left session → ServedAt told all first d e from to status.ReadFault
  served_unread told all first d e from to left session = served_on told all first d e e from to left session to status.ReadFault (λ m parts pairs runs s lines g. ends_unread tells calm faults parts pairs runs m s d e lines from to left session g)

  pub served_small : (told : Option FileMap) (all : Option (List (List ℕ))) (first : Session) (d last e : D) (from to : Option (List ℕ)) (left : Option (List (List ℕ))) (session : Session) → GoingOn told all first d last from to left session → ServedAt told all first d e from to status.Memory
  served_small told all first d last e from to left session = served_on told all first d last e from to left session to status.Memory (λ m parts pairs runs s lines g. ends_small tells calm faults parts pairs runs m s d e last lines from to left session g)

  -- it was closed, with as many items as a page may take
  pub served_closed : (told : Option FileMap) (all : Option (List (List ℕ))) (first : Session) (d e : D) (from to new : Option (List ℕ)) (left : Option (List (List ℕ))) (session : Session) (how : Status)
      → session.page.taken ≡ 4096 → Closed session.page.findings to new how → GoingOn told all first d e from to left session → ServedAt told all first d e from new how
  served_closed told all first d e from to new left session how many closed = served_on told all first d e e from to left session new how
      (λ m parts pairs runs s lines g. ends_closed tells calm faults parts pairs runs m s d e lines from to new left session how g (sym g.at.lives.taken ∙ many) closed)

  -- the answer to the line that comes next was written in part
  pub served_cut : (told : Option FileMap) (all : Option (List (List ℕ))) (first : Session) (d e f : D) (from to new : Option (List ℕ)) (left : Option (List (List ℕ))) (session next : Session) (line out : List ℕ)
      → IfSome left (λ lines. Some line ≡ option_map (take 1048577) (slice_get lines 0)) → Answered told (λ parts pairs runs m s bytes t. Answers tells calm faults parts pairs runs m line s e bytes t f) session next [] out → session.page.taken < 4096
      → ((count : ℕ) × (count ≤ length out) × (new ≡ with_bytes to (take count out))) → GoingOn told all first d e from to left session → ServedAt told all first d f from new status.WriteFault
  served_cut None all first d e f from to new left session next line out read answered room cuts going = tt
  served_cut (Some m) None first d e f from to new left session next line out read answered room cuts going = tt
  served_cut (Some m) (Some lines) first d e f from to new left session next line out read answered room cuts going = λ parts pairs runs s at.
      (let g = going parts pairs runs s at in
      let a = answered.answer parts pairs runs g.t g.at in
      let raw = cut_first g.rest line (if_left left g.rest (λ ls. Some line ≡ option_map (take 1048577) (slice_get ls 0)) g.left_rest read) in
      let few : length g.t.items < 4096 = omega (arith, room, g.at.lives.taken) in
      let answer = answers_uncut tells calm faults parts pairs runs m raw.0 g.t e a.0 a.1 f (subst (λ l. Answers tells calm faults parts pairs runs m l g.t e a.0 a.1 f) raw.2 a.2) in
      ends_cut tells calm faults parts pairs runs m s d e f lines from to new left session raw.0 a.0 cuts.0 g raw.1 few a.1 answer (subst (λ (bs : List ℕ). cuts.0 ≤ length bs) a.3 cuts.1) (cuts.2 ∙ ap (λ (bs : List ℕ). with_bytes to (take cuts.0 bs)) a.3))
