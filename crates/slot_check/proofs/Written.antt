-- What is written of slots.
use Rattle.std.proofs.Common.{◌≡◌, ℕ, ◌<◌, ◌≤◌, ◌+◌, List, [], ◌∷◌, ◌++◌, length, take, get_or, refl, sym, ap, subst, ◌∙◌, arith, append_assoc, append-nil, Bool, true, false, ◌||◌, None, Result, Ok, Err, IfOk, length-take}
use Rattle.std.specs.Prelude.{string_bytes}
use Rattle.std.proofs.lemmas.List.{length-map, take_more, take_all}
use Rattle.js_tree.specs.Trees.{program_of}
use Rattle.code_units.specs.declared.memory.Memory.{Memory}
use Rattle.adsafe_rules.specs.Accepts.{tree_of}
use Rattle.code_units.specs.Places.{place_at as place}
use Rattle.script_check.specs.declared.lines.JudgedText.{JudgedText}
use Rattle.trace_text.specs.Report.{accepted_slot, refused_life}
use Rattle.slot_check.specs.declared.sources.SourceFile.{SourceFile}
use Rattle.slot_check.specs.declared.fault.Refusal.{Refusal}
use Rattle.slot_check.specs.declared.fault.SlotFault.{SlotFault}
use Rattle.slot_check.specs.declared.fault.SlotFault.TheVariants as fault
use Rattle.slot_check.specs.declared.verdict.Widget.{Widget}
use Rattle.slot_check.specs.Sources.{Source, Slot}
use Rattle.slot_check.specs.Slot.{IsCleanSlot}
use Rattle.slot_check.specs.Verdicts.{source_of, sources_of, IsAcceptedWidget, IsRefused, Refuses}
use Rattle.slot_check.specs.Line.{IsSlotLine, accepted, refused, AreSlotLines, none, more, slots_over}
use Rattle.slot_check.proofs.Judging.{sources_more}
use Rattle.slot_check.proofs.Firsts.{first_once, first_not_clean}

clean_of : (slot : Slot) (widget : Widget) → IsAcceptedWidget slot widget → IsCleanSlot slot
clean_of slot widget is = record { file = is.file; places = widget.libs.items; programs = is.programs; script = program_of (tree_of widget.script); widget = is.is }

-- the line of a slot that breaks no rule
pub accepted_text : (slot : Slot) (shown : List ℕ) (widget : Widget) (r : Result JudgedText Memory) → shown ≡ slot.file.name → IsAcceptedWidget slot widget → IfOk r (λ t. t.bytes.items ≡ accepted_slot slot.name shown) → IfOk r (λ t. t.refused ≡ false) → IfOk r (λ t. IsSlotLine slot t.refused t.bytes.items)
accepted_text slot shown widget (Ok t) filed is line clean =
    let there : IsSlotLine slot false (accepted_slot slot.name slot.file.name) = accepted (clean_of slot widget is) in
    let same : accepted_slot slot.name slot.file.name ≡ t.bytes.items = ap (accepted_slot slot.name) (sym filed) ∙ sym line in
    subst (λ b. IsSlotLine slot b t.bytes.items) (sym clean) (subst (IsSlotLine slot false) same there)
accepted_text slot shown widget (Err e) filed is line clean = tt

-- the line of one that breaks a rule
pub refused_text : (slot : Slot) (f : SlotFault) (refusal : Refusal) (r : Result JudgedText Memory) → Refuses (IsRefused slot) f → f ≡ fault.Broken refusal → IfOk r (λ t. t.bytes.items ≡ refused_life slot.name None (string_bytes refusal.file) refusal.rule refusal.at) → IfOk r (λ t. t.refused ≡ true) → IfOk r (λ t. IsSlotLine slot t.refused t.bytes.items)
refused_text slot f refusal (Ok t) refuses same line clean =
    let is : IsRefused slot refusal = subst (Refuses (IsRefused slot)) same refuses in
    let there : IsSlotLine slot true (refused_life slot.name None is.source.name is.rule (place is.source.bytes is.byte)) = refused is.first in
    let same : refused_life slot.name None is.source.name is.rule (place is.source.bytes is.byte) ≡ t.bytes.items =
    ap (λ f. refused_life slot.name None f is.rule (place is.source.bytes is.byte)) (sym is.is.named)
    ∙ ap (λ n. refused_life slot.name None (string_bytes refusal.file) n (place is.source.bytes is.byte)) (sym is.is.same)
    ∙ ap (refused_life slot.name None (string_bytes refusal.file) refusal.rule) (sym is.is.placed) ∙ sym line in
    subst (λ b. IsSlotLine slot b t.bytes.items) (sym clean) (subst (IsSlotLine slot true) same there)
refused_text slot f refusal (Err e) refuses same line clean = tt

pub line_once : (s : Slot) (r q : Bool) (b c : List ℕ) → IsSlotLine s r b → IsSlotLine s q c → (r ≡ q) × (b ≡ c)
line_once s r q b c (accepted f) (accepted g) = (refl, refl)
line_once s r q b c (accepted f) (refused {rule = n} {broken = a} {at = x} p) = absurd (first_not_clean s n a x p f)
line_once s r q b c (refused {rule = n} {broken = a} {at = x} p) (accepted g) = absurd (first_not_clean s n a x p g)
line_once s r q b c (refused {rule = n} {broken = a} {at = x} p) (refused {rule = m} {broken = d} {at = y} o) =
    let same = first_once s n m a d x y p o in (
      refl,
      ap (λ k. refused_life s.name None a.name k (place a.bytes x)) same.rule
          ∙ ap (λ f. refused_life s.name None f.name m (place f.bytes x)) same.source
          ∙ ap (λ z. refused_life s.name None d.name m (place d.bytes z)) same.at,
    )

pub lines_once : (ss : List Slot) (r q : Bool) (b c : List ℕ) → AreSlotLines ss r b → AreSlotLines ss q c → (r ≡ q) × (b ≡ c)
lines_once slots r q b c none none = (refl, refl)
lines_once slots r q b c (more {slot = s} {r = r1} {line = l1} {slots = ss} {q = q1} {lines = k1} is rest) (more {r = r2} {line = l2} {q = q2} {lines = k2} also others) =
    let one = line_once s r1 r2 l1 l2 is also in
    let same = lines_once ss q1 q2 k1 k2 rest others in
    (ap (λ x. x || q1) one.0 ∙ ap (λ x. r2 || x) same.0, ap (λ x. x ++ k1) one.1 ∙ ap (λ x. l2 ++ x) same.1)

or_assoc : (a b c : Bool) → (a || (b || c)) ≡ ((a || b) || c)
or_assoc true b c = refl
or_assoc false b c = refl

or_false : (a : Bool) → (a || false) ≡ a
or_false true = refl
or_false false = refl

-- the lines of slots, and one more
push_line : (ss : List Slot) (s : Slot) (r q : Bool) (b c : List ℕ) → AreSlotLines ss r b → IsSlotLine s q c → AreSlotLines (ss ++ s ∷ []) (r || q) (b ++ c)
push_line slots s r q b c none is = subst (λ x. AreSlotLines (s ∷ []) x c) (or_false q) (subst (AreSlotLines (s ∷ []) (q || false)) (append-nil c) (more is none))
push_line slots s r q b c (more {slot = t} {r = r1} {line = l1} {slots = ts} {q = q1} {lines = k1} has rest) is =
    subst (λ x. AreSlotLines (t ∷ (ts ++ s ∷ [])) x ((l1 ++ k1) ++ c)) (or_assoc r1 q1 q)
    (subst (AreSlotLines (t ∷ (ts ++ s ∷ [])) (r1 || (q1 || q))) (sym (append_assoc l1 k1 c)) (more has (push_line ts s q1 q k1 c rest is)))

slots_push : (libs : List Source) (names : List (List ℕ)) (files : List Source) (name : List ℕ) (file : Source) → length names ≡ length files → slots_over libs (names ++ name ∷ []) (files ++ file ∷ []) ≡ slots_over libs names files ++ record { name = name; file = file; libs = libs } ∷ []
slots_push libs [] [] name file same = refl
slots_push libs [] (f ∷ fs) name file same = absurd (omega arith)
slots_push libs (n ∷ ns) [] name file same = absurd (omega arith)
slots_push libs (n ∷ ns) (f ∷ fs) name file same = ap (λ ss. record { name = n; file = f; libs = libs } ∷ ss) (slots_push libs ns fs name file (omega arith))

slots_more : (libs : List Source) (names : List (List ℕ)) (files : List SourceFile) (i : ℕ) (name : List ℕ) (file : SourceFile) → length names ≡ length files → i < length names → name ≡ get_or names i name → file ≡ get_or files i file → slots_over libs (take (i + 1) names) (sources_of (take (i + 1) files)) ≡ slots_over libs (take i names) (sources_of (take i files)) ++ record { name = name; file = source_of file; libs = libs } ∷ []
slots_more libs names files i name file same within is also =
    let here : i < length files = omega arith in
    let ns : take (i + 1) names ≡ take i names ++ name ∷ [] = take_more names i name within ∙ ap (λ n. take i names ++ n ∷ []) (sym is) in
    let fs = sources_more files i file here also in
    let even : length (take i names) ≡ length (sources_of (take i files)) = omega (arith, length-take i names, length-map (take i files) source_of, length-take i files) in
    ap (λ n. slots_over libs n (sources_of (take (i + 1) files))) ns ∙ ap (slots_over libs (take i names ++ name ∷ [])) fs ∙ slots_push libs (take i names) (sources_of (take i files)) name (source_of file) even

pub lines_more : (libs : List Source) (names : List (List ℕ)) (files : List SourceFile) (i : ℕ) (name : List ℕ) (file : SourceFile) (r q : Bool) (b c : List ℕ) → length names ≡ length files → i < length names → name ≡ get_or names i name → file ≡ get_or files i file → AreSlotLines (slots_over libs (take i names) (sources_of (take i files))) r b → IsSlotLine (record { name = name; file = source_of file; libs = libs }) q c → AreSlotLines (slots_over libs (take (i + 1) names) (sources_of (take (i + 1) files))) (r || q) (b ++ c)
lines_more libs names files i name file r q b c same within is also before this =
    subst (λ ss. AreSlotLines ss (r || q) (b ++ c)) (sym (slots_more libs names files i name file same within is also))
    (push_line (slots_over libs (take i names) (sources_of (take i files))) (record { name = name; file = source_of file; libs = libs }) r q b c before this)

pub no_lines : (bytes : List ℕ) → bytes ≡ [] → AreSlotLines [] false bytes
no_lines bytes is = subst (AreSlotLines [] false) (sym is) none

pub lines_next : (libs : List Source) (names : List (List ℕ)) (files : List SourceFile) (i : ℕ) (name : List ℕ) (file : SourceFile) (r q p : Bool) (b c d : List ℕ) → length names ≡ length files → i < length names → name ≡ get_or names i name → file ≡ get_or files i file → AreSlotLines (slots_over libs (take i names) (sources_of (take i files))) r b → IsSlotLine (record { name = name; file = source_of file; libs = libs }) q c → p ≡ (r || q) → d ≡ b ++ c → AreSlotLines (slots_over libs (take (i + 1) names) (sources_of (take (i + 1) files))) p d
lines_next libs names files i name file r q p b c d same within is also before this flag bytes =
    let whole = lines_more libs names files i name file r q b c same within is also before this in
    subst (λ x. AreSlotLines (slots_over libs (take (i + 1) names) (sources_of (take (i + 1) files))) x d) (sym flag)
    (subst (AreSlotLines (slots_over libs (take (i + 1) names) (sources_of (take (i + 1) files))) (r || q)) (sym bytes) whole)

pub lines_all : (libs : List Source) (names : List (List ℕ)) (files : List SourceFile) (i : ℕ) (r : Bool) (b : List ℕ) → length names ≡ length files → length names ≤ i → AreSlotLines (slots_over libs (take i names) (sources_of (take i files))) r b → AreSlotLines (slots_over libs names (sources_of files)) r b
lines_all libs names files i r b same past written =
    let ns = take_all i names past in
    let fs = take_all i files (omega arith) in
    subst (λ f. AreSlotLines (slots_over libs names (sources_of f)) r b) fs (subst (λ n. AreSlotLines (slots_over libs n (sources_of (take i files))) r b) ns written)
