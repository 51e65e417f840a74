-- What a judge knows as it goes on, line by line.
use Rattle.std.proofs.Common.{◌≡◌, ℕ, suc, ◌+◌, ◌-◌, ◌^◌, ◌≤◌, Bool, true, false, List, [], ◌∷◌, ◌++◌, map, length, refl, sym, ap, ◌∙◌, subst, arith, Option, Some, None, nat_lt, append-nil, length-append}
use Rattle.std.specs.Prelude.{codes, option_map}
use Rattle.std.specs.List.{flat_map}
use Rattle.std.specs.Option.{option_or}
use Rattle.std.proofs.lemmas.List.{length-map, map-append}
use Rattle.std.proofs.lemmas.List.Concat.{flat_map-append}
use Rattle.reach_cert.specs.declared.fault.CertFault.{CertFault}
use Rattle.reach_cert.specs.declared.fault.CertFault.TheVariants as fault
use Rattle.reach_cert.specs.Blocks.{IsWidget}
use Rattle.reach_cert.specs.Certs.{Row, Slot, Shown}
use Rattle.reach_cert.specs.Judged.{IsLeak, AreCells, IsHeld}
use Rattle.reach_cert.specs.Machine.{Between, Inside, Ahead, Refuses, behind_first, first_text, text_behind, cell_text}
use Rattle.reach_cert.specs.Needs.{all_needed, row_needed}
use Rattle.reach_cert.specs.Walks.{some_leaves, slot_leaks, first_from, first_leak}
use Rattle.reach_cert.specs.Words.{behind, refs_in, row_in, cell_behind}
use Rattle.reach_cert.proofs.Enough.{mapped_some, mapped_none, refs_leave, rows_leave}
use Rattle.reach_cert.proofs.Steps.{carried, stopped, moved, later_both, fewer_later, one_on, one_read, cell_taken, cell_not, held_taken, held_not, inside_none}

-- ## Cells

cells_count : (name : List ℕ) (old new : Ahead) (needs : List ℕ) → (c : AreCells name old new needs) → length needs ≡ length c.rows
cells_count name old new needs c = ap length c.needs_are ∙ length-map c.rows (row_needed name)

module _ (name : List ℕ) (old mid : Ahead) (needs : List ℕ) (number : ℕ) (text : List ℕ) (so_far : AreCells name old mid needs) (is : number ≡ length needs) (front : cell_text number mid.lines ≡ Some text) where
  numbered : cell_text (length so_far.rows) mid.lines ≡ Some text
  numbered = subst (λ n. cell_text n mid.lines ≡ Some text) (is ∙ cells_count name old mid needs so_far) front

  pub cells_more : (new : Ahead) (need : ℕ) (after : List ℕ) → new ≡ behind_first mid → Some need ≡ option_map (row_needed name) (row_in text) → after ≡ needs ++ need ∷ [] → AreCells name old new after
  cells_more new need after gone read pushed =
      let told = mapped_some (row_needed name) (row_in text) need read in
      let rows = so_far.rows in
      record {
        rows = rows ++ told.0 ∷ [];
        needs_are = pushed ∙ (λ i. so_far.needs_are i ++ told.2 i ∷ []) ∙ sym (map-append (row_needed name) rows (told.0 ∷ []));
        read = λ slots. so_far.read slots ∙ moved (Inside slots name rows) (Inside slots name (rows ++ told.0 ∷ [])) mid new gone (cell_taken slots name rows (first_text mid.lines) text (told.0) numbered (told.1));
        place = omega (arith, one_on (cell_behind number) mid new text front gone, so_far.place, ap length pushed, length-append needs (need ∷ []));
        later = later_both old mid new so_far.later (fewer_later mid new (one_read (cell_behind number) mid new text front gone));
      }

  pub cells_refused : None ≡ option_map (row_needed name) (row_in text) → (slots : List Slot) → Refuses (Inside slots name []) old (fault.BadCert mid.number)
  cells_refused read slots =
      carried (Inside slots name []) (Inside slots name so_far.rows) old mid (so_far.read slots) (fault.BadCert mid.number) so_far.later
      (stopped (Inside slots name so_far.rows) mid.number mid.lines refl (cell_not slots name so_far.rows (first_text mid.lines) text numbered (mapped_none (row_needed name) (row_in text) read)))

-- ## What a widget holds

module _ (name : List ℕ) (old : Ahead) where
  pub unheld : text_behind (codes "held") old.lines ≡ None → (slots : List Slot) (rows : List Row) → cell_text (length rows) old.lines ≡ None → Refuses (Inside slots name rows) old (fault.BadCert old.number)
  unheld e slots rows none = stopped (Inside slots name rows) old.number old.lines refl (inside_none slots name rows (first_text old.lines) none e)

  module _ (text : List ℕ) (front : text_behind (codes "held") old.lines ≡ Some text) where
    pub held_refused : None ≡ option_map (all_needed name) (refs_in text) → (slots : List Slot) (rows : List Row) → cell_text (length rows) old.lines ≡ None → Refuses (Inside slots name rows) old (fault.BadCert old.number)
    held_refused e slots rows none = stopped (Inside slots name rows) old.number old.lines refl (held_not slots name rows (first_text old.lines) text none front (mapped_none (all_needed name) (refs_in text) e))

    pub held_read : (new : Ahead) (need : ℕ) → new ≡ behind_first old → Some need ≡ option_map (all_needed name) (refs_in text) → IsHeld name old new need
    held_read new need gone e =
        let told = mapped_some (all_needed name) (refs_in text) need e in
        record {
          held = told.0;
          need_is = told.2;
          read = λ slots rows none. moved (Inside slots name rows) (Between (slots ++ Shown name rows (told.0) ∷ [])) old new gone (held_taken slots name rows (first_text old.lines) text (told.0) none front (told.1));
          place = one_on (behind (codes "held")) old new text front gone;
          fewer = one_read (behind (codes "held")) old new text front gone;
        }

-- ## The lines of a widget

module _ (name : List ℕ) (old mid : Ahead) (needs : List ℕ) (cells : AreCells name old mid needs) (none : cell_text (length needs) mid.lines ≡ None) where
  no_cell : cell_text (length cells.rows) mid.lines ≡ None
  no_cell = subst (λ n. cell_text n mid.lines ≡ None) (cells_count name old mid needs cells) none

  pub then_refused : (e : CertFault) → ((slots : List Slot) (rows : List Row) → cell_text (length rows) mid.lines ≡ None → Refuses (Inside slots name rows) mid e) → (slots : List Slot) → Refuses (Inside slots name []) old e
  then_refused e refuses slots = carried (Inside slots name []) (Inside slots name cells.rows) old mid (cells.read slots) e cells.later (refuses slots cells.rows no_cell)

  module _ (new : Ahead) (need : ℕ) (holds : IsHeld name mid new need) (all : List ℕ) (pushed : all ≡ needs ++ need ∷ []) where
    pub lines_before : length all ≤ new.number
    lines_before = omega (arith, ap length pushed, length-append needs (need ∷ []), cells.place, holds.place)

    pub shown_is : (first count : ℕ) (leak : Option ℕ) → old.number ≡ first + 1 → count ≡ length needs → new.number ≤ 2 ^ 32 → leak ≡ first_from (new.number - length all) (map (nat_lt count) all) → (slot : Slot) × IsWidget name old new slot × IsLeak first new.number (slot_leaks slot) leak
    shown_is first count leak at is small found =
        let few : count ≤ 2 ^ 32 = omega (arith, is, small, cells.place, holds.place) in
        let rows = cells.rows in
        let held = holds.held in
        let size : length all ≡ length needs + 1 = ap length pushed ∙ length-append needs (need ∷ []) in
        let place : new.number - length all ≡ suc first = omega (arith, size, cells.place, holds.place, at) in
        let tells : map (nat_lt count) all ≡ map (λ row. some_leaves name count row.refs) rows ++ some_leaves name count held ∷ [] =
        ap (map (nat_lt count)) (pushed ∙ (λ i. cells.needs_are i ++ holds.need_is i ∷ []))
        ∙ map-append (nat_lt count) (map (row_needed name) rows) (all_needed name held ∷ [])
        ∙ (λ i. sym (rows_leave name count few rows) i ++ sym (refs_leave name count few held) i ∷ []) in
        let same : count ≡ length rows = is ∙ cells_count name old mid needs cells in (
          Shown name rows held,
          record {
            named = refl;
            read = λ slots. cells.read slots ∙ holds.read slots rows no_cell;
            later = later_both old mid new cells.later (fewer_later mid new holds.fewer);
          },
          record {
            leak_is = found ∙ (λ i. first_from (place i) (tells i)) ∙ ap (λ n. first_from (suc first) (map (λ row. some_leaves name n row.refs) rows ++ some_leaves name n held ∷ [])) same;
            after_is =
                omega (
                  arith,
                  cells.place,
                  holds.place,
                  at,
                  cells_count name old mid needs cells,
                  length-map rows (λ row. some_leaves name (length rows) row.refs),
                  length-append (map (λ row. some_leaves name (length rows) row.refs) rows) (some_leaves name (length rows) held ∷ []),
                );
          },
        )

-- ## Lines and more lines

first_both : (xs ys : List Bool) (n : ℕ) → first_from n (xs ++ ys) ≡ option_or (first_from n xs) (first_from (n + length xs) ys)
first_both [] ys n = let none : n + 0 ≡ n = omega arith in ap (λ k. first_from k ys) (sym none)
first_both (true ∷ xs) ys n = refl
first_both (false ∷ xs) ys n = let place : suc n + length xs ≡ n + suc (length xs) = omega arith in first_both xs ys (suc n) ∙ ap (λ k. option_or (first_from (suc n) xs) (first_from k ys)) place

leak_more : (first mid after : ℕ) (xs ys : List Bool) (leak found : Option ℕ) → IsLeak first mid xs leak → IsLeak mid after ys found → IsLeak first after (xs ++ ys) (option_or leak found)
leak_more first mid after xs ys leak found a b =
    record {
      leak_is = (λ i. option_or (a.leak_is i) ((b.leak_is ∙ ap (λ n. first_from n ys) a.after_is) i)) ∙ sym (first_both xs ys first);
      after_is = omega (arith, a.after_is, b.after_is, length-append xs ys);
    }

-- of one slot more
pub slot_more : (first mid after : ℕ) (slots : List Slot) (slot : Slot) (leak found : Option ℕ) → IsLeak first mid (flat_map slot_leaks slots) leak → IsLeak mid after (slot_leaks slot) found → IsLeak first after (flat_map slot_leaks (slots ++ slot ∷ [])) (option_or leak found)
slot_more first mid after slots slot leak found a b =
    subst (λ l. IsLeak first after l (option_or leak found))
    (sym (flat_map-append slot_leaks slots (slot ∷ []) ∙ ap (λ l. flat_map slot_leaks slots ++ l) (append-nil (slot_leaks slot))))
    (leak_more first mid after (flat_map slot_leaks slots) (slot_leaks slot) leak found a b)

-- of all lines of a certificate
pub whole_leak : (slots : List Slot) (n : ℕ) (leak : Option ℕ) → n ≡ 2 → leak ≡ first_from n (flat_map slot_leaks slots) → leak ≡ first_leak slots
unfolding first_leak
whole_leak slots n leak at e =
    e ∙ ap (λ k. first_from k (flat_map slot_leaks slots)) at
    ∙ sym (first_both (flat_map slot_leaks slots) (false ∷ []) 2 ∙ no_more (first_from 2 (flat_map slot_leaks slots)))
  where
    no_more : (o : Option ℕ) → option_or o None ≡ o
    no_more None = refl
    no_more (Some n) = refl
