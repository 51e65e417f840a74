-- The machine takes each certificate of the stated shape.
use Rattle.std.proofs.Common.{◌≡◌, ℕ, suc, ◌^◌, ◌<◌, ◌≤◌, Bool, true, false, ◌&&◌, ◌||◌, List, [], ◌∷◌, ◌++◌, length, refl, sym, ap, ◌∙◌, subst, arith, nat_lt, nat_le, lt-ltb, Some, None, append-nil, append_assoc, length-append, if◌then◌else◌}
use Rattle.std.specs.Prelude.{codes, option_map, option_and_then, not}
use Rattle.std.specs.Fmt.{decimal}
use Rattle.std.specs.List.{list_all, flat_map}
use Rattle.std.specs.Str.{bytes_eq}
use Rattle.std.proofs.lemmas.Bool.Decides.{nat_tests}
use Rattle.std.proofs.lemmas.List.Folds.{list_all-append}
use Rattle.code_units.proofs.Signs.{and_both}
use Rattle.exact_refusals.specs.Judge.{Outcome, Read}
use Rattle.exact_refusals.specs.Plain.{outcome}
use Rattle.exact_refusals.proofs.Plain as plain
use Rattle.reach_cert.specs.declared.cert.Ref.{Ref}
use Rattle.reach_cert.specs.Certs.{Row, Slot, Refused, Shown, Line, Head, RefusedLine, WidgetLine, CellLine, HeldLine, EndLine, cell_lines, slot_lines, kind_word, refs_text, line_words, line_text}
use Rattle.reach_cert.specs.Machine.{State, Start, Between, Inside, is_free, named, at_widget, at_slot, at_cell, at_held, step_on, step, done}
use Rattle.reach_cert.specs.Shape.{is_name, is_ref, is_row, is_slot, is_used, slot_name, are_distinct, IsCert, SpellsCert}
use Rattle.reach_cert.specs.Words.{behind, cell_behind}
use Rattle.reach_cert.proofs.Letters.{name_text}
use Rattle.code_units.specs.Utf8.{utf8_of}
use Rattle.reach_cert.proofs.Sound.{texts, texts_append, or_false, not_used, other_way}
use Rattle.reach_cert.proofs.Spelled.{behind_front, feed_back, refs_read, row_read, cell_read_behind}

abbrev go : State → List (List ℕ) → Outcome (List Slot)
go st lines = outcome step done st lines

-- a line whose words are taken
took : (st next : State) (line : Line) (lines : List (List ℕ)) → step_on st (line_words line) ≡ Some next → go st (line_text line ∷ lines) ≡ go next lines
took st next line lines e = plain.taken step done st next (line_text line) lines (ap (option_and_then (step_on st)) (feed_back (line_words line)) ∙ e)

-- ## Names

-- a name that comes later is another one
none_at : (slots : List Slot) (slot : Slot) (more : List Slot) (name : List ℕ) → is_used (slots ++ slot ∷ more) name ≡ false → bytes_eq (slot_name slot) name ≡ false
none_at [] slot more name e = (or_false (bytes_eq (slot_name slot) name) (is_used more name) e).0
none_at (s ∷ slots) slot more name e = none_at slots slot more name (or_false (bytes_eq (slot_name s) name) (is_used (slots ++ slot ∷ more) name) e).1

apart : (front : List Slot) (slot : Slot) (more : List Slot) → are_distinct (front ++ slot ∷ more) ≡ true → is_used front (slot_name slot) ≡ false
apart [] slot more e = refl
apart (s ∷ front) slot more e =
    let both = and_both (not (is_used (front ++ slot ∷ more) (slot_name s))) (are_distinct (front ++ slot ∷ more)) e in
    let here = other_way (slot_name slot) (slot_name s) (none_at front slot more (slot_name s) (not_used (is_used (front ++ slot ∷ more) (slot_name s)) (both.0))) in
    (λ i. here i || apart front slot more (both.1) i)

slot_is : (front : List Slot) (slot : Slot) (more : List Slot) → IsCert (front ++ slot ∷ more) → is_slot slot ≡ true
slot_is front slot more c =
    let both = and_both (list_all is_slot front) (is_slot slot && list_all is_slot more) (sym (list_all-append is_slot front (slot ∷ more)) ∙ c.good) in
    (and_both (is_slot slot) (list_all is_slot more) (both.1)).0

pub record Parts (name : List ℕ) (rows : List Row) (held : List Ref) : Type 0 where
  pub good : is_name name ≡ true
  pub few : length rows ≤ 2 ^ 32
  pub rows_good : list_all is_row rows ≡ true
  pub held_good : list_all is_ref held ≡ true

pub parts : (name : List ℕ) (rows : List Row) (held : List Ref) → is_slot (Shown name rows held) ≡ true → Parts name rows held
parts name rows held e =
    let a = and_both (is_name name && nat_le (length rows) (2 ^ 32) && list_all is_row rows) (list_all is_ref held) e in
    let b = and_both (is_name name && nat_le (length rows) (2 ^ 32)) (list_all is_row rows) (a.0) in
    let c = and_both (is_name name) (nat_le (length rows) (2 ^ 32)) (b.0) in
    record { good = c.0; few = grind (arith, nat_tests, c.1); rows_good = b.1; held_good = a.1 }

slot_named : (slot : Slot) → is_slot slot ≡ true → is_name (slot_name slot) ≡ true
slot_named (Refused name) e = e
slot_named (Shown name rows held) e = let p = parts name rows held e in p.good

may_follow : (front : List Slot) (slot : Slot) (more : List Slot) → IsCert (front ++ slot ∷ more) → is_free front (slot_name slot) ≡ true
unfolding is_free
may_follow front slot more c =
    let room : nat_lt (length front) 16 ≡ true = lt-ltb (length front) 16 (omega (arith, c.few, length-append front (slot ∷ more))) in
    let good = slot_named slot (slot_is front slot more c) in
    let unused = apart front slot more c.distinct in
    (λ i. (good i && room i) && not (unused i))

-- ## A slot

refused_goes : (slots : List Slot) (name : List ℕ) (rest : List (List ℕ)) → is_name name ≡ true → is_free slots name ≡ true → go (Between slots) (line_text (RefusedLine name) ∷ rest) ≡ go (Between (slots ++ Refused name ∷ [])) rest
refused_goes slots name rest good free =
    took (Between slots) (Between (slots ++ Refused name ∷ [])) (RefusedLine name) rest
    (ap (λ o. at_slot slots o (behind (codes "widget ") (codes "refused " ++ utf8_of name))) (behind_front (codes "refused ") (utf8_of name))
    ∙ ap (λ n. named slots n (Between (slots ++ Refused n ∷ []))) (name_text name good) ∙ ap (λ b. if b then Some (Between (slots ++ Refused name ∷ [])) else None) free)

widget_goes : (slots : List Slot) (name : List ℕ) (rest : List (List ℕ)) → is_name name ≡ true → is_free slots name ≡ true → go (Between slots) (line_text (WidgetLine name) ∷ rest) ≡ go (Inside slots name []) rest
widget_goes slots name rest good free =
    took (Between slots) (Inside slots name []) (WidgetLine name) rest
    (ap (at_widget slots) (behind_front (codes "widget ") (utf8_of name))
    ∙ ap (λ n. named slots n (Inside slots n [])) (name_text name good) ∙ ap (λ b. if b then Some (Inside slots name []) else None) free)

module _ (slots : List Slot) (name : List ℕ) where
  cell_goes : (rows : List Row) (row : Row) (rest : List (List ℕ)) → length rows < 2 ^ 32 → is_row row ≡ true → go (Inside slots name rows) (line_text (CellLine (length rows) row) ∷ rest) ≡ go (Inside slots name (rows ++ row ∷ [])) rest
  cell_goes rows row rest small good =
      let words = line_words (CellLine (length rows) row) in
      took (Inside slots name rows) (Inside slots name (rows ++ row ∷ [])) (CellLine (length rows) row) rest
      (ap (λ o. at_cell slots name rows o (behind (codes "held") words)) (cell_read_behind (length rows) (kind_word row.kind ++ refs_text row.refs) small)
      ∙ ap (option_map (λ r. Inside slots name (rows ++ r ∷ []))) (row_read row good))

  cells_go : (more rows : List Row) (rest : List (List ℕ)) → length (rows ++ more) ≤ 2 ^ 32 → list_all is_row more ≡ true → go (Inside slots name rows) (texts (cell_lines (length rows) more) ++ rest) ≡ go (Inside slots name (rows ++ more)) rest
  cells_go [] rows rest few good = ap (λ r. go (Inside slots name r) rest) (sym (append-nil rows))
  cells_go (row ∷ more) rows rest few good =
      let both = and_both (is_row row) (list_all is_row more) good in
      let whole : (rows ++ row ∷ []) ++ more ≡ rows ++ row ∷ more = append_assoc rows (row ∷ []) more in
      let count : suc (length rows) ≡ length (rows ++ row ∷ []) = omega (arith, length-append rows (row ∷ [])) in
      cell_goes rows row (texts (cell_lines (suc (length rows)) more) ++ rest) (omega (arith, few, length-append rows (row ∷ more))) (both.0)
      ∙ ap (λ n. go (Inside slots name (rows ++ row ∷ [])) (texts (cell_lines n more) ++ rest)) count
      ∙ cells_go more (rows ++ row ∷ []) rest (subst (λ l. length l ≤ 2 ^ 32) (sym whole) few) (both.1)
      ∙ ap (λ r. go (Inside slots name r) rest) whole

  no_cell : (n : ℕ) (text : List ℕ) → cell_behind n (codes "held" ++ text) ≡ None
  unfolding cell_behind
  no_cell n text = by (nat_lt n (2 ^ 32))
    where
      by : (b : Bool) → (if b then option_and_then (λ t. option_and_then (behind (codes " ")) (behind (decimal n) t)) (behind (codes "c ") (codes "held" ++ text)) else None) ≡ None
      by true = refl
      by false = refl

  held_goes : (rows : List Row) (held : List Ref) (rest : List (List ℕ)) → list_all is_ref held ≡ true → go (Inside slots name rows) (line_text (HeldLine held) ∷ rest) ≡ go (Between (slots ++ Shown name rows held ∷ [])) rest
  held_goes rows held rest good =
      took (Inside slots name rows) (Between (slots ++ Shown name rows held ∷ [])) (HeldLine held) rest
      (ap (λ o. at_cell slots name rows o (behind (codes "held") (codes "held" ++ refs_text held))) (no_cell (length rows) (refs_text held))
      ∙ ap (at_held slots name rows) (behind_front (codes "held") (refs_text held)) ∙ ap (option_map (λ h. Between (slots ++ Shown name rows h ∷ []))) (refs_read held good))

slot_goes : (slots : List Slot) (slot : Slot) (rest : List (List ℕ)) → is_slot slot ≡ true → is_free slots (slot_name slot) ≡ true → go (Between slots) (texts (slot_lines slot) ++ rest) ≡ go (Between (slots ++ slot ∷ [])) rest
slot_goes slots (Refused name) rest good free = refused_goes slots name rest good free
slot_goes slots (Shown name rows held) rest good free =
    let p = parts name rows held good in
    widget_goes slots name (texts (cell_lines 0 rows ++ HeldLine held ∷ []) ++ rest) p.good free
    ∙ ap (go (Inside slots name [])) (ap (λ l. l ++ rest) (texts_append (cell_lines 0 rows) (HeldLine held ∷ [])) ∙ append_assoc (texts (cell_lines 0 rows)) (line_text (HeldLine held) ∷ []) rest)
    ∙ cells_go slots name rows [] (line_text (HeldLine held) ∷ rest) p.few p.rows_good
    ∙ held_goes slots name rows held rest p.held_good

-- ## All

slots_go : (more slots : List Slot) → IsCert (slots ++ more) → go (Between slots) (texts (flat_map slot_lines more ++ EndLine ∷ [])) ≡ Read (slots ++ more)
slots_go [] slots c = ap Read (sym (append-nil slots))
slots_go (slot ∷ more) slots c =
    let whole : (slots ++ slot ∷ []) ++ more ≡ slots ++ slot ∷ more = append_assoc slots (slot ∷ []) more in
    let rest = flat_map slot_lines more ++ EndLine ∷ [] in
    ap (go (Between slots)) (ap texts (append_assoc (slot_lines slot) (flat_map slot_lines more) (EndLine ∷ [])) ∙ texts_append (slot_lines slot) rest)
    ∙ slot_goes slots slot (texts rest) (slot_is slots slot more c) (may_follow slots slot more c)
    ∙ slots_go more (slots ++ slot ∷ []) (subst IsCert (sym whole) c)
    ∙ ap Read whole

pub complete : (lines : List (List ℕ)) (slots : List Slot) → SpellsCert lines slots → outcome step done Start lines ≡ Read slots
complete lines slots s =
    ap (go Start) s.same ∙ took Start (Between []) Head (texts (flat_map slot_lines slots ++ EndLine ∷ [])) refl ∙ slots_go slots [] s.shape
