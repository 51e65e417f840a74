-- What the machine takes is a certificate of the stated shape.
use Rattle.std.proofs.Common.{◌≡◌, ℕ, suc, ◌+◌, ◌^◌, ◌<◌, ◌≤◌, Bool, true, false, ◌&&◌, ◌||◌, List, [], ◌∷◌, ◌++◌, map, length, refl, sym, ap, ◌∙◌, subst, arith, nat_lt, nat_le, Option, Some, None, append-nil, append_assoc, length-append, if◌then◌else◌}
use Rattle.std.specs.Prelude.{codes, option_map, not}
use Rattle.std.specs.Fmt.{decimal}
use Rattle.std.specs.List.{list_all, flat_map}
use Rattle.std.specs.Str.{bytes_eq}
use Rattle.std.proofs.lemmas.Bool.Decides.{nat_tests}
use Rattle.std.proofs.lemmas.List.Concat.{flat_map-append}
use Rattle.std.proofs.lemmas.List.Folds.{list_all-append}
use Rattle.std.proofs.lemmas.Slice.Eq.{bytes_eq-Decides}
use Rattle.code_units.proofs.Signs.{and_both}
use Rattle.exact_refusals.specs.Judge.{Read}
use Rattle.exact_refusals.specs.Plain.{outcome, Closes, EachCloses}
use Rattle.exact_refusals.proofs.Plain as plain
use Rattle.reach_cert.specs.declared.cert.Ref.{Ref}
use Rattle.reach_cert.specs.Certs.{Row, Slot, Refused, Shown, Line, Head, RefusedLine, WidgetLine, CellLine, HeldLine, EndLine, cell_lines, slot_lines, cert_lines, line_words, line_text}
use Rattle.reach_cert.specs.Machine.{State, Start, Between, Inside, Over, is_free, named, at_slot, at_cell, step_on, step, done}
use Rattle.reach_cert.specs.Shape.{is_name, is_row, is_slot, is_used, slot_name, are_distinct, IsCert, SpellsCert}
use Rattle.reach_cert.specs.Words.{behind, before_feed, refs_in, row_in, cell_behind}
use Rattle.reach_cert.proofs.Letters.{name_text}
use Rattle.reach_cert.proofs.Refs.{front_had}
use Rattle.reach_cert.proofs.Spelled.{feed_had, both_some, refs_were, row_was, cell_was_behind}

-- ## One slot more

more_used : (slots : List Slot) (slot : Slot) (name : List ℕ) → is_used slots name ≡ false → bytes_eq (slot_name slot) name ≡ false → is_used (slots ++ slot ∷ []) name ≡ false
more_used [] slot name e f = rw f refl
more_used (s ∷ slots) slot name e f = by (bytes_eq (slot_name s) name) (is_used slots name) e (more_used slots slot name)
  where
    by : (a b : Bool) → a || b ≡ false → (b ≡ false → bytes_eq (slot_name slot) name ≡ false → is_used (slots ++ slot ∷ []) name ≡ false) → a || is_used (slots ++ slot ∷ []) name ≡ false
    by true b h more = cc
    by false b h more = more h f

pub not_used : (b : Bool) → not b ≡ true → b ≡ false
not_used true e = cc
not_used false e = refl

pub or_false : (a b : Bool) → a || b ≡ false → (a ≡ false) × (b ≡ false)
or_false true b e = cc
or_false false b e = (refl, e)

pub other_way : (a b : List ℕ) → bytes_eq a b ≡ false → bytes_eq b a ≡ false
other_way a b e = by (bytes_eq b a) refl
  where
    by : (c : Bool) → bytes_eq b a ≡ c → bytes_eq b a ≡ false
    by false is = is
    by true is = let same : a ≡ b = sym ((bytes_eq-Decides b a).0 is) in let yes = (bytes_eq-Decides a b).1 same in cc

more_distinct : (slots : List Slot) (slot : Slot) → are_distinct slots ≡ true → is_used slots (slot_name slot) ≡ false → are_distinct (slots ++ slot ∷ []) ≡ true
more_distinct [] slot e f = refl
more_distinct (s ∷ slots) slot e f =
    let both = and_both (not (is_used slots (slot_name s))) (are_distinct slots) e in
    let parts = or_false (bytes_eq (slot_name s) (slot_name slot)) (is_used slots (slot_name slot)) f in
    let apart = more_used slots slot (slot_name s) (not_used _ (both.0)) (other_way (slot_name s) (slot_name slot) (parts.0)) in
    (λ i. not (apart i) && more_distinct slots slot (both.1) (parts.1) i)

pub record Free (slots : List Slot) (name : List ℕ) : Type 0 where
  pub good : is_name name ≡ true
  pub room : length slots < 16
  pub unused : is_used slots name ≡ false

pub free_is : (slots : List Slot) (name : List ℕ) → is_free slots name ≡ true → Free slots name
unfolding is_free
free_is slots name e =
    let a = and_both (is_name name && nat_lt (length slots) 16) (not (is_used slots name)) e in
    let b = and_both (is_name name) (nat_lt (length slots) 16) (a.0) in
    record { good = b.0; room = grind (arith, nat_tests, b.1); unused = not_used (is_used slots name) (a.1) }

more_cert : (slots : List Slot) (slot : Slot) → IsCert slots → Free slots (slot_name slot) → is_slot slot ≡ true → IsCert (slots ++ slot ∷ [])
more_cert slots slot c f good =
    record {
      few = omega (arith, length-append slots (slot ∷ []), f.room);
      distinct = more_distinct slots slot c.distinct f.unused;
      good = list_all-append is_slot slots (slot ∷ []) ∙ (λ i. c.good i && (good i && true));
    }

-- ## The states that arise, and the lines so far

pub record IsOpen (slots : List Slot) (name : List ℕ) (rows : List Row) : Type 0 where
  pub cert : IsCert slots
  pub free : is_free slots name ≡ true
  pub few : length rows ≤ 2 ^ 32
  pub good : list_all is_row rows ≡ true

abbrev pub Arises : State → Type 0
Arises Start = Unit {0}
Arises (Between slots) = IsCert slots
Arises (Inside slots name rows) = IsOpen slots name rows
Arises (Over slots) = IsCert slots

abbrev pub so_far : State → List Line
so_far Start = []
so_far (Between slots) = Head ∷ flat_map slot_lines slots
so_far (Inside slots name rows) = Head ∷ (flat_map slot_lines slots ++ WidgetLine name ∷ cell_lines 0 rows)
so_far (Over slots) = cert_lines slots

abbrev pub texts : List Line → List (List ℕ)
texts lines = map line_text lines

pub record Stepped (st : State) (line : List ℕ) (next : State) : Type 0 where
  pub arises : Arises next
  pub lines : texts (so_far next) ≡ texts (so_far st) ++ line ∷ []

pub texts_append : (xs ys : List Line) → texts (xs ++ ys) ≡ texts xs ++ texts ys
texts_append [] ys = refl
texts_append (x ∷ xs) ys = ap (λ l. line_text x ∷ l) (texts_append xs ys)

one_line : (xs : List Line) (x : Line) (all : List Line) (line : List ℕ) → all ≡ xs ++ x ∷ [] → line_text x ≡ line → texts all ≡ texts xs ++ line ∷ []
one_line xs x all line e f = ap texts e ∙ texts_append xs (x ∷ []) ∙ ap (λ l. texts xs ++ l ∷ []) f

slots_more : (slots : List Slot) (slot : Slot) → flat_map slot_lines (slots ++ slot ∷ []) ≡ flat_map slot_lines slots ++ slot_lines slot
slots_more slots slot = flat_map-append slot_lines slots (slot ∷ []) ∙ ap (λ l. flat_map slot_lines slots ++ l) (append-nil-line (slot_lines slot))
  where
    append-nil-line : (l : List Line) → l ++ [] ≡ l
    append-nil-line l = append-nil l

pub rows_more : (n : ℕ) (rows : List Row) (row : Row) → cell_lines n (rows ++ row ∷ []) ≡ cell_lines n rows ++ CellLine (n + length rows) row ∷ []
rows_more n [] row = let none : n + 0 ≡ n = omega arith in rw none refl
rows_more n (r ∷ rows) row =
    let place : suc n + length rows ≡ n + suc (length rows) = omega arith in
    ap (λ l. CellLine n r ∷ l) (rows_more (suc n) rows row ∙ ap (λ k. cell_lines (suc n) rows ++ CellLine k row ∷ []) place)

-- ## Each step

named_is : (slots : List Slot) (name : List ℕ) (st next : State) → named slots name st ≡ Some next → (is_free slots name ≡ true) × (st ≡ next)
named_is slots name st next = by (is_free slots name) refl
  where
    by : (b : Bool) → is_free slots name ≡ b → (if b then Some st else None) ≡ Some next → (is_free slots name ≡ true) × (st ≡ next)
    by true is e = (is, cc)
    by false is e = cc

at_start : (line text : List ℕ) (next : State) → line ≡ text ++ codes "\n" → step_on Start text ≡ Some next → Stepped Start line next
at_start line text next feed = by (bytes_eq text (codes "reach 1")) refl
  where
    by : (b : Bool) → bytes_eq text (codes "reach 1") ≡ b → (if b then Some (Between []) else None) ≡ Some next → Stepped Start line next
    by false is e = cc
    by true is e =
        let same : Between [] ≡ next = cc in
        subst (λ s. Stepped Start line s) same
        (record { arises = record { few = omega arith; distinct = refl; good = refl }; lines = ap (λ l. l ∷ []) (ap (λ l. l ++ codes "\n") (sym ((bytes_eq-Decides text (codes "reach 1")).0 is)) ∙ sym feed) })

at_refused : (slots : List Slot) (line text name : List ℕ) (next : State) → IsCert slots → line ≡ text ++ codes "\n" → behind (codes "refused ") text ≡ Some name → named slots name (Between (slots ++ Refused name ∷ [])) ≡ Some next → Stepped (Between slots) line next
at_refused slots line text name next c feed front e =
    let h = named_is slots name (Between (slots ++ Refused name ∷ [])) next e in
    let f = free_is slots name (h.0) in
    subst (λ s. Stepped (Between slots) line s) (h.1)
    (record {
      arises = more_cert slots (Refused name) c f f.good;
      lines = one_line (so_far (Between slots)) (RefusedLine name) _ line (ap (λ l. Head ∷ l) (slots_more slots (Refused name)))
          (ap (λ l. (codes "refused " ++ l) ++ codes "\n") (name_text name f.good) ∙ ap (λ l. l ++ codes "\n") (sym (front_had (codes "refused ") text name front)) ∙ sym feed);
    })

at_named : (slots : List Slot) (line text name : List ℕ) (next : State) → IsCert slots → line ≡ text ++ codes "\n" → behind (codes "widget ") text ≡ Some name → named slots name (Inside slots name []) ≡ Some next → Stepped (Between slots) line next
at_named slots line text name next c feed front e =
    let h = named_is slots name (Inside slots name []) next e in
    let f = free_is slots name (h.0) in
    subst (λ s. Stepped (Between slots) line s) (h.1)
    (record {
      arises = record { cert = c; free = h.0; few = omega arith; good = refl };
      lines = one_line (so_far (Between slots)) (WidgetLine name) _ line refl
          (ap (λ l. (codes "widget " ++ l) ++ codes "\n") (name_text name f.good) ∙ ap (λ l. l ++ codes "\n") (sym (front_had (codes "widget ") text name front)) ∙ sym feed);
    })

at_between : (slots : List Slot) (line text : List ℕ) (next : State) → IsCert slots → line ≡ text ++ codes "\n" → step_on (Between slots) text ≡ Some next → Stepped (Between slots) line next
at_between slots line text next c feed = by (bytes_eq text (codes "end")) refl (behind (codes "refused ") text) refl (behind (codes "widget ") text) refl
  where
    by : (b : Bool) → bytes_eq text (codes "end") ≡ b → (r : Option (List ℕ)) → behind (codes "refused ") text ≡ r → (w : Option (List ℕ)) → behind (codes "widget ") text ≡ w →
        (if b then Some (Over slots) else at_slot slots r w) ≡ Some next → Stepped (Between slots) line next
    by true is r hr w hw e =
        let same : Over slots ≡ next = cc in
        subst (λ s. Stepped (Between slots) line s) same
        (record { arises = c; lines = one_line (so_far (Between slots)) EndLine (cert_lines slots) line refl (ap (λ l. l ++ codes "\n") (sym ((bytes_eq-Decides text (codes "end")).0 is)) ∙ sym feed) })
    by false is (Some name) hr w hw e = at_refused slots line text name next c feed hr e
    by false is None hr (Some name) hw e = at_named slots line text name next c feed hw e
    by false is None hr None hw e = cc

at_row : (slots : List Slot) (name : List ℕ) (rows : List Row) (line text rest : List ℕ) (row : Row) → IsOpen slots name rows → line ≡ text ++ codes "\n" → cell_behind (length rows) text ≡ Some rest → row_in rest ≡ Some row → Stepped (Inside slots name rows) line (Inside slots name (rows ++ row ∷ []))
at_row slots name rows line text rest row o feed front e =
    let was = row_was rest row e in
    let cell = cell_was_behind (length rows) text rest front in
    let zero : 0 + length rows ≡ length rows = omega arith in
    let words : line_words (CellLine (length rows) row) ≡ text = ap (λ l. codes "c " ++ (decimal (length rows) ++ 32 ∷ l)) was.text_is ∙ sym (cell.0) in
    record {
      arises = record { cert = o.cert; free = o.free; few = omega (arith, length-append rows (row ∷ []), cell.1); good = list_all-append is_row rows (row ∷ []) ∙ (λ i. o.good i && (was.good i && true)) };
      lines = one_line (so_far (Inside slots name rows)) (CellLine (length rows) row) _ line
          (ap (λ l. Head ∷ (flat_map slot_lines slots ++ WidgetLine name ∷ l)) (rows_more 0 rows row ∙ ap (λ k. cell_lines 0 rows ++ CellLine k row ∷ []) zero)
          ∙ ap (λ l. Head ∷ l) (sym (append_assoc (flat_map slot_lines slots) (WidgetLine name ∷ cell_lines 0 rows) (CellLine (length rows) row ∷ []))))
          (ap (λ l. l ++ codes "\n") words ∙ sym feed);
    }

at_refs : (slots : List Slot) (name : List ℕ) (rows : List Row) (line text rest : List ℕ) (held : List Ref) → IsOpen slots name rows → line ≡ text ++ codes "\n" → behind (codes "held") text ≡ Some rest → refs_in rest ≡ Some held → Stepped (Inside slots name rows) line (Between (slots ++ Shown name rows held ∷ []))
at_refs slots name rows line text rest held o feed front e =
    let was = refs_were rest held e in
    let f = free_is slots name o.free in
    let few : nat_le (length rows) (2 ^ 32) ≡ true = let le = o.few in grind (arith, nat_tests) in
    record {
      arises = more_cert slots (Shown name rows held) o.cert f (λ i. ((f.good i && few i) && o.good i) && was.good i);
      lines = one_line (so_far (Inside slots name rows)) (HeldLine held) _ line
          (ap (λ l. Head ∷ l) (slots_more slots (Shown name rows held) ∙ sym (append_assoc (flat_map slot_lines slots) (WidgetLine name ∷ cell_lines 0 rows) (HeldLine held ∷ []))))
          (ap (λ l. (codes "held" ++ l) ++ codes "\n") was.text_is ∙ ap (λ l. l ++ codes "\n") (sym (front_had (codes "held") text rest front)) ∙ sym feed);
    }

at_inside : (slots : List Slot) (name : List ℕ) (rows : List Row) (line text : List ℕ) (next : State) → IsOpen slots name rows → line ≡ text ++ codes "\n" → step_on (Inside slots name rows) text ≡ Some next → Stepped (Inside slots name rows) line next
at_inside slots name rows line text next o feed = by (cell_behind (length rows) text) refl (behind (codes "held") text) refl
  where
    by : (c : Option (List ℕ)) → cell_behind (length rows) text ≡ c → (h : Option (List ℕ)) → behind (codes "held") text ≡ h → at_cell slots name rows c h ≡ Some next → Stepped (Inside slots name rows) line next
    by (Some rest) hc h hh e = row_by rest hc (row_in rest) refl e
      where
        row_by : (rest : List ℕ) → cell_behind (length rows) text ≡ Some rest → (r : Option Row) → row_in rest ≡ r → option_map (λ row. Inside slots name (rows ++ row ∷ [])) r ≡ Some next → Stepped (Inside slots name rows) line next
        row_by rest hc None hr e = cc
        row_by rest hc (Some row) hr e = let same : Inside slots name (rows ++ row ∷ []) ≡ next = cc in subst (λ s. Stepped (Inside slots name rows) line s) same (at_row slots name rows line text rest row o feed hc hr)
    by None hc (Some rest) hh e = refs_by rest hh (refs_in rest) refl e
      where
        refs_by : (rest : List ℕ) → behind (codes "held") text ≡ Some rest → (r : Option (List Ref)) → refs_in rest ≡ r → option_map (λ held. Between (slots ++ Shown name rows held ∷ [])) r ≡ Some next → Stepped (Inside slots name rows) line next
        refs_by rest hh None hr e = cc
        refs_by rest hh (Some held) hr e = let same : Between (slots ++ Shown name rows held ∷ []) ≡ next = cc in subst (λ s. Stepped (Inside slots name rows) line s) same (at_refs slots name rows line text rest held o feed hh hr)
    by None hc None hh e = cc

stepped_on : (st : State) (line text : List ℕ) (next : State) → Arises st → line ≡ text ++ codes "\n" → step_on st text ≡ Some next → Stepped st line next
stepped_on Start line text next a feed e = at_start line text next feed e
stepped_on (Between slots) line text next a feed e = at_between slots line text next a feed e
stepped_on (Inside slots name rows) line text next a feed e = at_inside slots name rows line text next a feed e
stepped_on (Over slots) line text next a feed e = cc

pub stepped : (st next : State) (line : List ℕ) → step st line ≡ Some next → Arises st → Stepped st line next
stepped st next line e a =
    let parts = both_some (step_on st) (before_feed line) next e in
    stepped_on st line (parts.0) next a (feed_had line (parts.0) (parts.1)) (parts.2)

-- ## All lines

end_was : (st : State) (slots : List Slot) → done st ≡ Some slots → Arises st → (texts (so_far st) ≡ texts (cert_lines slots)) × IsCert slots
end_was Start slots e a = cc
end_was (Between others) slots e a = cc
end_was (Inside others name rows) slots e a = cc
end_was (Over others) slots e a = let same : others ≡ slots = cc in (ap (λ l. texts (cert_lines l)) same, subst IsCert same a)

sound_from : (lines : List (List ℕ)) (st : State) (slots : List Slot) → outcome step done st lines ≡ Read slots → Arises st → (texts (so_far st) ++ lines ≡ texts (cert_lines slots)) × IsCert slots
sound_from [] st slots e a =
    let end = end_was st slots (plain.was_done step done st slots e) a in
    (append-nil (texts (so_far st)) ∙ end.0, end.1)
sound_from (line ∷ lines) st slots e a =
    let taken = plain.was_taken step done st line lines slots e in
    let next = stepped st (taken.0) line (taken.1) a in
    let rest = sound_from lines (taken.0) slots (taken.2) next.arises in
    (sym (append_assoc (texts (so_far st)) (line ∷ []) lines) ∙ ap (λ l. l ++ lines) (sym next.lines) ∙ rest.0, rest.1)

pub sound : (lines : List (List ℕ)) (slots : List Slot) → outcome step done Start lines ≡ Read slots → SpellsCert lines slots
sound lines slots e = let whole = sound_from lines Start slots e tt in record { same = whole.0; shape = whole.1 }

-- ## Each state can be led to an end

between_closes : (slots : List Slot) → Closes step done (Between slots)
between_closes slots = (codes "end\n" ∷ [], slots, refl)

inside_closes : (slots : List Slot) (name : List ℕ) (rows : List Row) → Closes step done (Inside slots name rows)
unfolding cell_behind refs_in
inside_closes slots name rows = (
  codes "held\n" ∷ codes "end\n" ∷ [],
  slots ++ Shown name rows [] ∷ [],
  plain.taken step done (Inside slots name rows) (Between (slots ++ Shown name rows [] ∷ [])) (codes "held\n") (codes "end\n" ∷ []) (by (nat_lt (length rows) (2 ^ 32)) refl) ∙ refl,
)
  where
    by : (b : Bool) → nat_lt (length rows) (2 ^ 32) ≡ b → step (Inside slots name rows) (codes "held\n") ≡ Some (Between (slots ++ Shown name rows [] ∷ []))
    by true is = rw is refl
    by false is = rw is refl

closes : (st : State) → Arises st → Closes step done st
closes Start a = (codes "reach 1\n" ∷ codes "end\n" ∷ [], [], refl)
closes (Between slots) a = between_closes slots
closes (Inside slots name rows) a = inside_closes slots name rows
closes (Over slots) a = ([], slots, refl)

pub closable : EachCloses step done Start
closable = plain.each_closes step done Start Arises tt (λ st next line e a. (stepped st next line e a).arises) closes
