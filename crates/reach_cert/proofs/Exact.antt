-- What a certificate that was read, and a refusal, say of the bytes.
use Rattle.std.proofs.Common.{◌≡◌, ℕ, suc, ◌+◌, ◌-◌, ◌^◌, ◌≤◌, Bool, true, false, List, [], ◌∷◌, ◌++◌, length, refl, sym, ap, ◌∙◌, subst, arith, if◌then◌else◌, lt-ltb, ◌&&◌}
use Rattle.std.specs.Prelude.{codes, Result, Ok, Err, IfOk, IfErr, MatchResult, ◌==◌}
use Rattle.std.specs.List.{list_all, flat_map, onto_first}
use Rattle.std.proofs.lemmas.Bool.Decides.{nat_tests}
use Rattle.std.proofs.lemmas.List.{length-map}
use Rattle.code_units.proofs.Signs.{and_both}
use Rattle.exact_refusals.specs.Judge as machine
use Rattle.exact_refusals.proofs.Plain as plain
use Rattle.reach_cert.specs.declared.fault.CertFault.{CertFault}
use Rattle.reach_cert.specs.declared.fault.CertFault.TheVariants as fault
use Rattle.reach_cert.specs.Certs.{Row, Slot, Refused, Shown, Line, HeldLine, EndLine, cell_lines, slot_lines, cert_lines, line_words, line_text, cert_text}
use Rattle.reach_cert.specs.Machine.{Start, step, done, goes, Refuses}
use Rattle.reach_cert.specs.Shape.{IsBadLine, is_slot, is_row, IsCert, SpellsCert, lines_of, IsCertFault}
use Rattle.reach_cert.proofs.Complete.{complete, parts}
use Rattle.reach_cert.proofs.Letters.{AllFit, is_line, line_fits}
use Rattle.reach_cert.proofs.Sound.{sound, closable, texts}
use Rattle.reach_cert.proofs.Steps.{ahead}

-- ## Lines of bytes

-- lines joined
abbrev all_bytes : List (List ℕ) → List ℕ
all_bytes lines = flat_map (λ line. line) lines

onto_bytes : (b : ℕ) (lines : List (List ℕ)) → all_bytes (onto_first b lines) ≡ b ∷ all_bytes lines
onto_bytes b [] = refl
onto_bytes b (line ∷ lines) = refl

pub bytes_back : (bytes : List ℕ) → all_bytes (lines_of bytes) ≡ bytes
bytes_back [] = refl
bytes_back (b ∷ bytes) = by (b == 10) (bytes_back bytes)
  where
    by : (c : Bool) → all_bytes (lines_of bytes) ≡ bytes → all_bytes (if c then (b ∷ []) ∷ lines_of bytes else onto_first b (lines_of bytes)) ≡ b ∷ bytes
    by true tail = ap (λ l. b ∷ l) tail
    by false tail = onto_bytes b (lines_of bytes) ∙ ap (λ l. b ∷ l) tail

-- a line of the stated shape is cut off as it is
cut_off : (words rest : List ℕ) → AllFit 32 122 words → lines_of ((words ++ codes "\n") ++ rest) ≡ (words ++ codes "\n") ∷ lines_of rest
cut_off [] rest f = refl
cut_off (b ∷ words) rest f =
    let far : 32 ≤ b = f.0.from in
    let other : (b == 10) ≡ false = grind (arith, nat_tests) in
    rw other (ap (onto_first b) (cut_off words rest (f.1)))

lines_back : (lines : List Line) → list_all is_line lines ≡ true → lines_of (flat_map line_text lines) ≡ texts lines
lines_back [] e = refl
lines_back (line ∷ lines) e =
    let both = and_both (is_line line) (list_all is_line lines) e in
    cut_off (line_words line) (flat_map line_text lines) (line_fits line (both.0)) ∙ ap (λ l. line_text line ∷ l) (lines_back lines (both.1))

texts_bytes : (lines : List Line) → all_bytes (texts lines) ≡ flat_map line_text lines
texts_bytes [] = refl
texts_bytes (line ∷ lines) = ap (λ l. line_text line ++ l) (texts_bytes lines)

-- ## Lines of the stated shape

all_both : (xs ys : List Line) → list_all is_line xs ≡ true → list_all is_line ys ≡ true → list_all is_line (xs ++ ys) ≡ true
all_both [] ys e f = f
all_both (x ∷ xs) ys e f = let both = and_both (is_line x) (list_all is_line xs) e in grind (arith, both.0, all_both xs ys (both.1) f)

cells_good : (n : ℕ) (rows : List Row) → n + length rows ≤ 2 ^ 32 → list_all is_row rows ≡ true → list_all is_line (cell_lines n rows) ≡ true
cells_good n [] few e = refl
cells_good n (row ∷ rows) few e =
    let both = and_both (is_row row) (list_all is_row rows) e in
    let small = lt-ltb n (2 ^ 32) (omega (arith, few)) in
    let rest = cells_good (suc n) rows (omega (arith, few)) (both.1) in
    (λ i. (small i && both.0 i) && rest i)

slot_good : (slot : Slot) → is_slot slot ≡ true → list_all is_line (slot_lines slot) ≡ true
slot_good (Refused name) e = (λ i. e i && true)
slot_good (Shown name rows held) e =
    let p = parts name rows held e in
    let held_line : list_all is_line (HeldLine held ∷ []) ≡ true = (λ i. p.held_good i && true) in
    let rest = all_both (cell_lines 0 rows) (HeldLine held ∷ []) (cells_good 0 rows (omega (arith, p.few)) p.rows_good) held_line in
    (λ i. p.good i && rest i)

slots_good : (slots : List Slot) → list_all is_slot slots ≡ true → list_all is_line (flat_map slot_lines slots) ≡ true
slots_good [] e = refl
slots_good (slot ∷ slots) e = let both = and_both (is_slot slot) (list_all is_slot slots) e in all_both (slot_lines slot) (flat_map slot_lines slots) (slot_good slot (both.0)) (slots_good slots (both.1))

-- ## What is read, and what is refused

pub spells : (slots : List Slot) → IsCert slots → SpellsCert (lines_of (cert_text slots)) slots
unfolding cert_text
spells slots c = record { same = lines_back (cert_lines slots) (all_both (flat_map slot_lines slots) (EndLine ∷ []) (slots_good slots c.good) refl); shape = c }

pub text_of : (bytes : List ℕ) (slots : List Slot) → SpellsCert (lines_of bytes) slots → cert_text slots ≡ bytes
unfolding cert_text
text_of bytes slots s = sym (texts_bytes (cert_lines slots)) ∙ ap all_bytes (sym s.same) ∙ bytes_back bytes

-- no more lines than bytes
onto_few : (b : ℕ) (lines : List (List ℕ)) (n : ℕ) → length lines ≤ n → length (onto_first b lines) ≤ suc n
onto_few b [] n h = omega arith
onto_few b (line ∷ lines) n h = omega (arith, h)

few_lines : (bytes : List ℕ) → length (lines_of bytes) ≤ length bytes
few_lines [] = omega arith
few_lines (b ∷ bytes) = by (b == 10) (few_lines bytes)
  where
    by : (c : Bool) → length (lines_of bytes) ≤ length bytes → length (if c then (b ∷ []) ∷ lines_of bytes else onto_first b (lines_of bytes)) ≤ suc (length bytes)
    by true tail = omega (arith, tail)
    by false tail = onto_few b (lines_of bytes) (length bytes) tail

pub read_spells : (bytes : List ℕ) (slots : List Slot) → goes Start (lines_of bytes) ≡ machine.Outcome.Read slots → SpellsCert (lines_of bytes) slots
unfolding goes
read_spells bytes slots e = sound (lines_of bytes) slots e

pub lines_few : (bytes : List ℕ) (slots : List Slot) → SpellsCert (lines_of bytes) slots → length (cert_lines slots) ≤ length bytes
lines_few bytes slots s = omega (arith, length-map (cert_lines slots) line_text, ap length s.same, few_lines bytes)

-- the refused line
pub fault_is : (bytes : List ℕ) (e : CertFault) → Refuses Start (ahead 1 (lines_of bytes)) e → IsCertFault bytes e
unfolding goes
fault_is bytes (fault.BadCert line) r =
    let at : ℕ = length (lines_of bytes) - r.0 in
    (at, omega (arith, r.2, r.3), plain.refused_is step done Start SpellsCert complete sound closable (lines_of bytes) (r.0) at (r.1) (omega (arith, r.2)))
fault_is bytes fault.Memory r = tt

pub only_fault : (bytes : List ℕ) (slots : List Slot) (e : CertFault) → IsCert slots → cert_text slots ≡ bytes → Refuses Start (ahead 1 (lines_of bytes)) e → e ≡ fault.Memory
unfolding goes
only_fault bytes slots (fault.BadCert line) c is r = absurd (refuses (r.0) (r.1))
  where
    whole : goes Start (lines_of bytes) ≡ machine.Outcome.Read slots
    whole = complete (lines_of bytes) slots (subst (λ b. SpellsCert (lines_of b) slots) is (spells slots c))

    refuses : (left : ℕ) → goes Start (lines_of bytes) ≡ machine.Outcome.Refused left → ⊥
    refuses left e = cc (whole, e)
only_fault bytes slots fault.Memory c is r = refl

pub only_cert : (bytes : List ℕ) (slots others : List Slot) → IsCert slots → cert_text slots ≡ bytes → SpellsCert (lines_of bytes) others → others ≡ slots
only_cert bytes slots others c is s = plain.one_tree step done Start SpellsCert complete sound (lines_of bytes) others slots s (subst (λ b. SpellsCert (lines_of b) slots) is (spells slots c))

-- both answers at once
pub matched : {A : Type 0} (r : Result A CertFault) (P R : A → Type 0) (Q S : CertFault → Type 0) → ((x : A) → P x → R x) → ((e : CertFault) → Q e → S e) → IfOk r P → IfErr r Q → MatchResult r R S
matched (Ok x) P R Q S f g p q = f x p
matched (Err e) P R Q S f g p q = g e q

-- ## One answer

pub same_line : (bytes : List ℕ) (line other : ℕ) → IsBadLine bytes line → IsBadLine bytes other → line ≡ other
same_line bytes line other a b = a.1 ∙ ap suc (plain.one_place SpellsCert (lines_of bytes) (a.0) (b.0) (a.2) (b.2)) ∙ sym (b.1)

pub not_both : (bytes : List ℕ) (line : ℕ) (slots : List Slot) → IsBadLine bytes line → IsCert slots → cert_text slots ≡ bytes → ⊥
not_both bytes line slots bad c is = plain.no_tree SpellsCert (lines_of bytes) (bad.0) slots (bad.2) (subst (λ b. SpellsCert (lines_of b) slots) is (spells slots c))
