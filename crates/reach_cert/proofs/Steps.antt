-- What the reader does with one line, seen from the machine.
use Rattle.std.proofs.Common.{◌≡◌, ℕ, suc, ◌+◌, ◌<◌, ◌≤◌, Bool, true, false, List, [], ◌∷◌, ◌++◌, map, length, refl, sym, ap, ◌∙◌, subst, arith, Option, Some, None, if◌then◌else◌, nat_lt, lt-ltb, le-ltb}
use Rattle.std.specs.Prelude.{codes, not, option_and_then, ◌==◌, Result, Ok, Err, IfOk, IfErr, OnOk}
use Rattle.std.specs.Result.{IsErrAnd}
use Rattle.std.proofs.lemmas.List.{length-map, map-append}
use Rattle.std.specs.Str.{bytes_eq}
use Rattle.exact_refusals.specs.Judge as machine
use Rattle.exact_refusals.proofs.Plain as plain
use Rattle.reach_cert.specs.declared.cert.CellRow.{CellRow}
use Rattle.reach_cert.specs.declared.cert.Ref.{Ref}
use Rattle.reach_cert.specs.declared.fault.CertFault.{CertFault}
use Rattle.reach_cert.specs.declared.fault.CertFault.TheVariants as fault
use Rattle.reach_cert.specs.Certs.{Row, Slot, Refused, Shown, row_of}
use Rattle.reach_cert.specs.Machine.{State, Start, Between, Inside, Over, is_free, named, step, step_on, done, goes, Ahead, behind_first, first_text, step_first, text_is, cell_text, Later, Fewer, Refuses}
use Rattle.reach_cert.proofs.Ends.{some_count}
use Rattle.reach_cert.specs.Shape.{is_name, is_used}
use Rattle.reach_cert.specs.Words.{behind, refs_in, row_in, cell_behind}

abbrev pub ahead : ℕ → List (List ℕ) → Ahead
ahead n lines = record { number = n; lines = lines }

-- ## A line that is taken, and one that is not

pub went : (st next : State) (n : ℕ) (lines : List (List ℕ)) → step_first st lines ≡ Some next → goes st lines ≡ goes next (behind_first (ahead n lines)).lines
unfolding goes
went st next n [] e = cc
went st next n (line ∷ lines) e = plain.taken step done st next line lines e

pub one_fewer : (st next : State) (n : ℕ) (lines : List (List ℕ)) → step_first st lines ≡ Some next → Fewer (ahead n lines) (behind_first (ahead n lines))
one_fewer st next n [] e = cc
one_fewer st next n (line ∷ lines) e = record { fewer = omega arith; same = omega arith }

pub stopped : (st : State) (n : ℕ) (lines : List (List ℕ)) → done st ≡ None → step_first st lines ≡ None → Refuses st (ahead n lines) (fault.BadCert n)
unfolding goes
stopped st n [] none e = (0, ap machine.ended none, omega arith, refl)
stopped st n (line ∷ lines) none e = (suc (length lines), plain.stuck step done st line lines e, omega arith, refl)

-- behind the end no line may stand
pub over_stopped : (slots : List Slot) (n : ℕ) (lines : List (List ℕ)) → false ≡ (length lines == 0) → Refuses (Over slots) (ahead n lines) (fault.BadCert n)
unfolding goes
over_stopped slots n [] e = cc
over_stopped slots n (line ∷ lines) e = (suc (length lines), plain.stuck step done (Over slots) line lines (none (first_text (line ∷ lines))), omega arith, refl)
  where
    none : (o : Option (List ℕ)) → option_and_then (step_on (Over slots)) o ≡ None
    none None = refl
    none (Some text) = refl

pub over_read : (slots : List Slot) (lines : List (List ℕ)) → true ≡ (length lines == 0) → goes (Over slots) lines ≡ machine.Outcome.Read slots
unfolding goes
over_read slots [] e = refl
over_read slots (line ∷ lines) e = let some = some_count (length lines) in cc

-- ## Lines that were read before

module _ (st mid : State) (old new : Ahead) (goes_on : goes st old.lines ≡ goes mid new.lines) where
  pub carried : (e : CertFault) → Later old new → Refuses mid new e → Refuses st old e
  carried (fault.BadCert line) later r = (r.0, goes_on ∙ r.1, omega (arith, r.2, later.fewer), r.3 ∙ later.same)
  carried fault.Memory later r = tt

pub fewer_later : (old new : Ahead) → Fewer old new → Later old new
fewer_later old new f = record { fewer = omega (arith, f.fewer); same = f.same }

pub later_none : (a : Ahead) → Later a a
later_none a = record { fewer = omega arith; same = refl }

pub later_both : (a b c : Ahead) → Later a b → Later b c → Later a c
later_both a b c f g = record { fewer = omega (arith, f.fewer, g.fewer); same = g.same ∙ f.same }

pub fewer_then : (a b c : Ahead) → Fewer a b → Later b c → Fewer a c
fewer_then a b c f g = record { fewer = omega (arith, f.fewer, g.fewer); same = g.same ∙ f.same }

-- ## What the first line is

abbrev pub Is : List ℕ → Option (List ℕ) → Bool
Is word o = elim o [ None ↦ false | Some text ↦ bytes_eq text word ]

module _ (o : Option (List ℕ)) where
  abbrev On : State → Option State
  On st = option_and_then (step_on st) o

  abbrev Front : List ℕ → Option (List ℕ)
  Front front = option_and_then (behind front) o

pub start_taken : (o : Option (List ℕ)) → Is (codes "reach 1") o ≡ true → On o Start ≡ Some (Between [])
start_taken None e = cc
start_taken (Some text) e = rw e refl

pub start_not : (o : Option (List ℕ)) → Is (codes "reach 1") o ≡ false → On o Start ≡ None
start_not None e = refl
start_not (Some text) e = rw e refl

pub end_taken : (slots : List Slot) (o : Option (List ℕ)) → Is (codes "end") o ≡ true → On o (Between slots) ≡ Some (Over slots)
end_taken slots None e = cc
end_taken slots (Some text) e = rw e refl

pub refused_named : (slots : List Slot) (o : Option (List ℕ)) (word : List ℕ) → Is (codes "end") o ≡ false → Front o (codes "refused ") ≡ Some word → On o (Between slots) ≡ named slots word (Between (slots ++ Refused word ∷ []))
refused_named slots None word e f = cc
refused_named slots (Some text) word e f = rw (e, f) refl

pub widget_named : (slots : List Slot) (o : Option (List ℕ)) (word : List ℕ) → Is (codes "end") o ≡ false → Front o (codes "refused ") ≡ None → Front o (codes "widget ") ≡ Some word → On o (Between slots) ≡ named slots word (Inside slots word [])
widget_named slots None word e f g = cc
widget_named slots (Some text) word e f g = rw (e, f, g) refl

pub slot_none : (slots : List Slot) (o : Option (List ℕ)) → Is (codes "end") o ≡ false → Front o (codes "refused ") ≡ None → Front o (codes "widget ") ≡ None → On o (Between slots) ≡ None
slot_none slots None e f g = refl
slot_none slots (Some text) e f g = rw (e, f, g) refl

-- a name that was taken, or refused
abbrev Fresh : List Slot → List ℕ → Option (List ℕ)
Fresh slots word = if is_free slots word then Some word else None

pub fresh_is : (slots : List Slot) (word name : List ℕ) → Some name ≡ Fresh slots word → (is_free slots word ≡ true) × (name ≡ word)
fresh_is slots word name = by (is_free slots word) refl
  where
    by : (b : Bool) → is_free slots word ≡ b → Some name ≡ (if b then Some word else None) → (is_free slots word ≡ true) × (name ≡ word)
    by true is e = (is, cc)
    by false is e = cc

pub fresh_not : (slots : List Slot) (word : List ℕ) (next : State) → None ≡ Fresh slots word → named slots word next ≡ None
fresh_not slots word next = by (is_free slots word) refl
  where
    by : (b : Bool) → is_free slots word ≡ b → None ≡ (if b then Some word else None) → (if b then Some next else None) ≡ None
    by true is e = cc
    by false is e = refl

pub refused_taken : (slots : List Slot) (o : Option (List ℕ)) (word name : List ℕ) → Is (codes "end") o ≡ false → Front o (codes "refused ") ≡ Some word → Some name ≡ Fresh slots word → On o (Between slots) ≡ Some (Between (slots ++ Refused name ∷ []))
refused_taken slots o word name e f g =
    let h = fresh_is slots word name g in
    refused_named slots o word e f ∙ ap (λ b. if b then Some (Between (slots ++ Refused word ∷ [])) else None) (h.0) ∙ ap (λ w. Some (Between (slots ++ Refused w ∷ []))) (sym (h.1))

pub widget_taken : (slots : List Slot) (o : Option (List ℕ)) (word name : List ℕ) → Is (codes "end") o ≡ false → Front o (codes "refused ") ≡ None → Front o (codes "widget ") ≡ Some word → Some name ≡ Fresh slots word → On o (Between slots) ≡ Some (Inside slots name [])
widget_taken slots o word name e f g k =
    let h = fresh_is slots word name k in
    widget_named slots o word e f g ∙ ap (λ b. if b then Some (Inside slots word []) else None) (h.0) ∙ ap (λ w. Some (Inside slots w [])) (sym (h.1))

module _ (slots : List Slot) (name : List ℕ) (rows : List Row) where
  abbrev Numbered : Option (List ℕ) → Option (List ℕ)
  Numbered o = option_and_then (cell_behind (length rows)) o

  pub cell_taken : (o : Option (List ℕ)) (text : List ℕ) (row : Row) → Numbered o ≡ Some text → Some row ≡ row_in text → On o (Inside slots name rows) ≡ Some (Inside slots name (rows ++ row ∷ []))
  cell_taken None text row e f = cc
  cell_taken (Some line) text row e f = rw (e, ← f) refl

  pub cell_not : (o : Option (List ℕ)) (text : List ℕ) → Numbered o ≡ Some text → None ≡ row_in text → On o (Inside slots name rows) ≡ None
  cell_not None text e f = cc
  cell_not (Some line) text e f = rw (e, ← f) refl

  pub held_taken : (o : Option (List ℕ)) (text : List ℕ) (held : List Ref) → Numbered o ≡ None → Front o (codes "held") ≡ Some text → Some held ≡ refs_in text → On o (Inside slots name rows) ≡ Some (Between (slots ++ Shown name rows held ∷ []))
  held_taken None text held e f g = cc
  held_taken (Some line) text held e f g = rw (e, f, ← g) refl

  pub held_not : (o : Option (List ℕ)) (text : List ℕ) → Numbered o ≡ None → Front o (codes "held") ≡ Some text → None ≡ refs_in text → On o (Inside slots name rows) ≡ None
  held_not None text e f g = refl
  held_not (Some line) text e f g = rw (e, f, ← g) refl

  pub inside_none : (o : Option (List ℕ)) → Numbered o ≡ None → Front o (codes "held") ≡ None → On o (Inside slots name rows) ≡ None
  inside_none None e f = refl
  inside_none (Some line) e f = rw (e, f) refl

-- ## The reader's own

-- what holds of the error that was handed on
pub if_err : {A : Type 0} (r : Result A CertFault) (f : CertFault) (Q : CertFault → Type 0) → IsErrAnd r (λ e. e ≡ f) → Q f → IfErr r Q
if_err (Ok x) f Q h q = tt
if_err (Err e) f Q h q = subst Q (sym h) q

-- a line that was read goes away
pub one_read : (f : List ℕ → Option (List ℕ)) (old new : Ahead) (text : List ℕ) → option_and_then f (first_text old.lines) ≡ Some text → new ≡ behind_first old → Fewer old new
one_read f old new text e is = subst (Fewer old) (sym is) (by old.number old.lines e)
  where
    by : (n : ℕ) (lines : List (List ℕ)) → option_and_then f (first_text lines) ≡ Some text → Fewer (ahead n lines) (behind_first (ahead n lines))
    by n [] h = cc
    by n (line ∷ lines) h = record { fewer = omega arith; same = omega arith }

pub word_read : (word : List ℕ) (old new : Ahead) → text_is word old.lines ≡ true → new ≡ behind_first old → Fewer old new
word_read word old new e is = subst (Fewer old) (sym is) (by old.number old.lines e)
  where
    by : (n : ℕ) (lines : List (List ℕ)) → text_is word lines ≡ true → Fewer (ahead n lines) (behind_first (ahead n lines))
    by n [] h = cc
    by n (line ∷ lines) h = record { fewer = omega arith; same = omega arith }

-- the number of the line behind one that was read
pub one_on : (f : List ℕ → Option (List ℕ)) (old new : Ahead) (text : List ℕ) → option_and_then f (first_text old.lines) ≡ Some text → new ≡ behind_first old → new.number ≡ old.number + 1
one_on f old new text e is = ap (λ a. a.number) is ∙ by old.number old.lines e
  where
    by : (n : ℕ) (lines : List (List ℕ)) → option_and_then f (first_text lines) ≡ Some text → (behind_first (ahead n lines)).number ≡ n + 1
    by n [] h = cc
    by n (line ∷ lines) h = refl

pub word_on : (word : List ℕ) (old new : Ahead) → text_is word old.lines ≡ true → new ≡ behind_first old → new.number ≡ old.number + 1
word_on word old new e is = ap (λ a. a.number) is ∙ by old.number old.lines e
  where
    by : (n : ℕ) (lines : List (List ℕ)) → text_is word lines ≡ true → (behind_first (ahead n lines)).number ≡ n + 1
    by n [] h = cc
    by n (line ∷ lines) h = refl

-- the machine takes the first line
module _ (st next : State) (old new : Ahead) (is : new ≡ behind_first old) where
  pub moved : step_first st old.lines ≡ Some next → goes st old.lines ≡ goes next new.lines
  moved e = went st next old.number old.lines e ∙ ap (λ a. goes next a.lines) (sym is)

module _ (own : List ℕ) (old : Ahead) (cells : List CellRow) (number : ℕ) (text : List ℕ) (is : number ≡ length cells) (front : cell_text number old.lines ≡ Some text) where
  abbrev rows : List Row
  rows = map row_of cells

  numbered : cell_text (length (map row_of cells)) old.lines ≡ Some text
  numbered = subst (λ n. cell_text n old.lines ≡ Some text) (is ∙ sym (length-map cells row_of)) front

  pub row_taken : (new : Ahead) (row : CellRow) (after : List CellRow) → new ≡ behind_first old → Some (row_of row) ≡ row_in text → after ≡ cells ++ row ∷ [] → (slots : List Slot) → goes (Inside slots own (map row_of cells)) old.lines ≡ goes (Inside slots own (map row_of after)) new.lines
  row_taken new row after gone read pushed slots =
      moved (Inside slots own (map row_of cells)) (Inside slots own (map row_of cells ++ row_of row ∷ [])) old new gone (cell_taken slots own (map row_of cells) (first_text old.lines) text (row_of row) numbered read)
      ∙ ap (λ l. goes (Inside slots own l) new.lines) (sym (map-append row_of cells (row ∷ [])) ∙ ap (map row_of) (sym pushed))

  pub row_refused : None ≡ row_in text → (slots : List Slot) → Refuses (Inside slots own (map row_of cells)) old (fault.BadCert old.number)
  row_refused read slots = stopped (Inside slots own (map row_of cells)) old.number old.lines refl (cell_not slots own (map row_of cells) (first_text old.lines) text numbered read)

pub none_numbered : (old : Ahead) (cells : List CellRow) (number : ℕ) → number ≡ length cells → cell_text number old.lines ≡ None → cell_text (length (map row_of cells)) old.lines ≡ None
none_numbered old cells number is front = subst (λ n. cell_text n old.lines ≡ None) (is ∙ sym (length-map cells row_of)) front

-- more of a value or an error
pub ok_more : {A : Type 0} (r : Result A CertFault) (P Q : A → Type 0) → ((x : A) → P x → Q x) → IfOk r P → IfOk r Q
ok_more (Ok x) P Q f p = f x p
ok_more (Err e) P Q f p = tt

pub ok_then : {A : Type 0} (r : Result A CertFault) (P Q : Type 0) → (P → Q) → OnOk r P → OnOk r Q
ok_then (Ok x) P Q f p = f p
ok_then (Err e) P Q f p = tt

pub err_then : {A : Type 0} (r : Result A CertFault) (P Q : CertFault → Type 0) → ((e : CertFault) → P e → Q e) → IfErr r P → IfErr r Q
err_then (Ok x) P Q f p = tt
err_then (Err e) P Q f p = f e p

-- ## The head

pub head_refused : (a b : Ahead) (e : CertFault) → a ≡ b → e ≡ fault.BadCert a.number → text_is (codes "reach 1") a.lines ≡ false → Refuses Start b e
head_refused a b e same is text =
    subst (λ x. Refuses Start x e) same (subst (λ f. Refuses Start a f) (sym is) (stopped Start a.number a.lines refl (start_not (first_text a.lines) text)))

pub record Begun (a b : Ahead) : Type 0 where
  pub read : goes Start a.lines ≡ goes (Between []) b.lines
  pub place : b.number ≡ a.number + 1
  pub later : Later a b

pub head_read : (a b c : Ahead) → a ≡ b → text_is (codes "reach 1") a.lines ≡ true → c ≡ behind_first a → Begun b c
head_read a b c same text gone =
    subst (λ x. Begun x c) same
    (record { read = moved Start (Between []) a c gone (start_taken (first_text a.lines) text); place = word_on (codes "reach 1") a c text gone; later = fewer_later a c (word_read (codes "reach 1") a c text gone) })

-- ## A further slot

pub not_named : (slots : List Slot) (word : List ℕ) → is_name word ≡ false → false ≡ is_free slots word
unfolding is_free
not_named slots word e = rw e refl

pub no_room : (slots : List Slot) (word : List ℕ) → is_name word ≡ true → 16 ≤ length slots → false ≡ is_free slots word
unfolding is_free
no_room slots word e full = let room : nat_lt (length slots) 16 ≡ false = le-ltb (length slots) 16 full in rw (e, room) refl

pub room_for : (slots : List Slot) (word : List ℕ) → is_name word ≡ true → length slots < 16 → not (is_used slots word) ≡ is_free slots word
unfolding is_free
room_for slots word e few = let room : nat_lt (length slots) 16 ≡ true = lt-ltb (length slots) 16 few in rw (e, room) refl
