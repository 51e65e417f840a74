-- The parts of the reader, and the machine.
use Rattle.std.proofs.Common.{◌≡◌, ℕ, ◌+◌, ◌<◌, ◌≤◌, ◌⊎◌, inl, inr, List, [], ◌∷◌, ◌++◌, Bool, true, false, Some, None, refl, ap, sym, ◌∙◌, subst, append_assoc, append-nil, length, drop, get_or, arith}
use Rattle.std.specs.Prelude.{◌==◌, slice_range}
use Rattle.std.specs.Str.{byte}
use Rattle.std.proofs.lemmas.Bool.{cases_lt}
use Rattle.exact_refusals.specs.Judge.{Read, Refused}
use Rattle.exact_refusals.proofs.Plain as plain
use Rattle.style_text.specs.declared.StyleFault.{StyleFault}
use Rattle.style_text.specs.declared.StyleFault.TheVariants as fault
use Rattle.style_text.specs.Styles.{Pair, is_blank, is_value, Blanks, here, behind, StyleSpells, IsStyleFault}
use Rattle.style_text.specs.Machine.{State, Next, Name, Colon, Start, Value, After, is_free, fits, step, done, begin, goes}
use Rattle.style_text.specs.Values.{is_open}
use Rattle.style_text.specs.Reads.{blank_first, is_first, IsBlanksEnd, Refuses, IsProperty, IsValueAt, IsWhole}
use Rattle.style_text.proofs.Names.{no_listed}
use Rattle.style_text.proofs.Values.{same_number, value_open, open_space}
use Rattle.style_text.proofs.Complete.{go, complete, next_blanks, after_blanks, colon_blanks, start_blanks, name_step, colon_goes, value_step, space_step, start_step}
use Rattle.style_text.proofs.Sound.{sound, joined}
use Rattle.style_text.proofs.Exact.{refused_is}
use Rattle.style_text.proofs.Cuts.{unit_at, no_unit_at, left_at, range_more, range_none, range_some}

taken : (st next : State) (u : ℕ) (us : List ℕ) → step st u ≡ Some next → go st (u ∷ us) ≡ go next us
taken = plain.taken step done

-- ## Lists of units

no_cons : (u : ℕ) (us : List ℕ) → ◌≡◌ {A = List ℕ} [] (u ∷ us) → ⊥
no_cons u us e = cc

same_head : {u v : ℕ} {us vs : List ℕ} → u ∷ us ≡ v ∷ vs → u ≡ v
same_head e = cc

-- neither a blank nor the unit stands first
abbrev IsOther : ℕ → List ℕ → Type 0
IsOther unit [] = Unit {0}
IsOther unit (u ∷ us) = (is_blank u ≡ false) × ((u == unit) ≡ false)

other_of : (unit : ℕ) (us : List ℕ) → blank_first us ≡ false → is_first unit us ≡ false → IsOther unit us
other_of unit [] h e = tt
other_of unit (u ∷ us) h e = (h, e)

-- no colon behind a property
colon_stuck : (ps : List Pair) (n us : List ℕ) → IsOther (byte ":") us → go (Colon ps n) us ≡ Refused (length us)
colon_stuck ps n [] h = refl
colon_stuck ps n (u ∷ us) h = plain.stuck step done (Colon ps n) u us (rw (h.0, h.1) refl)

colon_refused : (ps : List Pair) (n : List ℕ) → is_free ps n ≡ true → {vs rest : List ℕ} → Blanks vs rest → IsOther (byte ":") rest → ((u : ℕ) (ws : List ℕ) → vs ≡ u ∷ ws → fits ps (n ++ u ∷ []) ≡ false) → go (Name ps n) vs ≡ Refused (length rest)
colon_refused ps n free {rest = rest} here h ends = stuck_here rest h ends
  where
    stuck_here : (rest : List ℕ) → IsOther (byte ":") rest → ((u : ℕ) (ws : List ℕ) → rest ≡ u ∷ ws → fits ps (n ++ u ∷ []) ≡ false) → go (Name ps n) rest ≡ Refused (length rest)
    stuck_here [] h ends = refl
    stuck_here (u ∷ us) h ends = plain.stuck step done (Name ps n) u us (rw (ends u us refl, free, h.0, h.1) refl)
colon_refused ps n free {rest = rest} (behind {u = u} {us = us} b more) h ends = taken (Name ps n) (Colon ps n) u us (rw (ends u us refl, free, b) refl) ∙ colon_blanks ps n more ∙ colon_stuck ps n rest h

module _ (us : List ℕ) where
  -- ## Blanks

  pub blanks_more : (at end : ℕ) → Blanks (drop at us) (drop end us) → end < length us → is_blank (get_or us end 0) ≡ true → Blanks (drop at us) (drop (end + 1) us)
  blanks_more at end h lt b = joined h (subst (λ l. Blanks l (drop (end + 1) us)) (sym (unit_at us end lt)) (behind b here))

  pub first_is : (at : ℕ) → at < length us → blank_first (drop at us) ≡ is_blank (get_or us at 0)
  first_is at lt = ap blank_first (unit_at us at lt)

  pub none_first : (at : ℕ) → length us ≤ at → blank_first (drop at us) ≡ false
  none_first at le = ap blank_first (no_unit_at us at le)

  pub blanks_done : (at end : ℕ) → at ≤ end → end ≤ length us → Blanks (drop at us) (drop end us) → blank_first (drop end us) ≡ false → IsBlanksEnd us at end
  blanks_done at end order inside blanks all = record { order = order; inside = inside; blanks = blanks; all = all }

  pub stands_is : (unit at : ℕ) → at < length us → is_first unit (drop at us) ≡ (get_or us at 0 == unit)
  stands_is unit at lt = ap (is_first unit) (unit_at us at lt)

  -- ## Refusals

  end_or : (at : ℕ) → at ≤ length us → (at ≡ length us) ⊎ (at < length us)
  end_or at le = elim (cases_lt at (length us)) [ inl lt ↦ inr lt | inr ge ↦ inl (omega (arith, le, ge)) ]

  -- the end of the units, where no style ends
  at_end : (st : State) (at : ℕ) → at ≡ length us → done st ≡ None → Refuses us st at (fault.BadStyle at)
  at_end st at e none =
      let end : drop at us ≡ [] = no_unit_at us at (omega (arith, e)) in
      (omega (arith, e), rw (end, none) refl)

  -- a unit that is not taken
  at_unit : (st : State) (at : ℕ) → at < length us → step st (get_or us at 0) ≡ None → Refuses us st at (fault.BadStyle at)
  at_unit st at lt none =
      let unit = unit_at us at lt in
      (omega (arith, lt), subst (λ l. go st l ≡ Refused (length l)) (sym unit) (plain.stuck step done st (get_or us at 0) (drop (at + 1) us) none))

  -- what is refused later is refused
  pub refused_later : (st next : State) (at then_at : ℕ) (e : StyleFault) → goes us st at ≡ goes us next then_at → Refuses us next then_at e → Refuses us st at e
  refused_later st next at then_at (fault.BadStyle place) same h = (h.0, same ∙ h.1)
  refused_later st next at then_at fault.Memory same h = h

  both_ways : (b : Bool) → b ≡ true → b ≡ false → ⊥
  both_ways b e f = cc

  -- ## A property

  pub as_name : (ps : List Pair) (at : ℕ) → at < length us → blank_first (drop at us) ≡ false → goes us (Next ps) at ≡ goes us (Name ps []) at
  as_name ps at lt no_blank =
      let u = get_or us at 0 in
      let none : is_blank u ≡ false = sym (first_is at lt) ∙ no_blank in
      let same : step (Next ps) u ≡ step (Name ps []) u = rw (none, no_listed) refl in
      subst (λ l. go (Next ps) l ≡ go (Name ps []) l) (sym (unit_at us at lt)) (plain.same_step step done (Next ps) (Name ps []) u (drop (at + 1) us) same)

  pub name_more : (ps : List Pair) (at end : ℕ) → at ≤ end → end < length us → fits ps (slice_range us at (end + 1)) ≡ true → goes us (Name ps []) at ≡ goes us (Name ps (slice_range us at end)) end → goes us (Name ps []) at ≡ goes us (Name ps (slice_range us at (end + 1))) (end + 1)
  name_more ps at end order lt fit h =
      let front = slice_range us at end in
      let u = get_or us end 0 in
      let grown : slice_range us at (end + 1) ≡ front ++ u ∷ [] = range_more us at end order lt in
      let step_on = name_step ps front u (drop (end + 1) us) (subst (λ l. fits ps l ≡ true) grown fit) in
      h ∙ ap (go (Name ps front)) (unit_at us end lt) ∙ step_on ∙ ap (λ l. go (Name ps l) (drop (end + 1) us)) (sym grown)

  module _ (ps : List Pair) (at end : ℕ) (first : blank_first (drop at us) ≡ false) (some : at < length us) (order : at ≤ end) (inside : end ≤ length us) (read : goes us (Name ps []) at ≡ goes us (Name ps (slice_range us at end)) end) (all : end < length us → fits ps (slice_range us at (end + 1)) ≡ false) where
    name : List ℕ
    name = slice_range us at end

    ended : end < length us → fits ps (slice_range us at end ++ get_or us end 0 ∷ []) ≡ false
    ended lt = subst (λ l. fits ps l ≡ false) (range_more us at end order lt) (all lt)

    from_next : goes us (Next ps) at ≡ goes us (Name ps (slice_range us at end)) end
    from_next = as_name ps at some first ∙ read

    -- it is not a free property
    pub not_free : is_free ps (slice_range us at end) ≡ false → Refuses us (Next ps) at (fault.BadStyle end)
    not_free h = refused_later (Next ps) (Name ps (slice_range us at end)) at end (fault.BadStyle end) from_next (by_end (end_or end inside))
      where
        by_end : (end ≡ length us) ⊎ (end < length us) → Refuses us (Name ps (slice_range us at end)) end (fault.BadStyle end)
        by_end (inl e) = at_end (Name ps (slice_range us at end)) end e refl
        by_end (inr lt) = at_unit (Name ps (slice_range us at end)) end lt (rw (ended lt, h) refl)

    module _ (free : is_free ps (slice_range us at end) ≡ true) (colon : ℕ) (blanks : IsBlanksEnd us end colon) where
      -- the colon stands there
      pub colon_stands : is_first (byte ":") (drop colon us) ≡ true → goes us (Next ps) at ≡ goes us (Start ps (slice_range us at end)) (colon + 1)
      colon_stands h =
          from_next ∙ elim (cases_lt colon (length us)) [
            | inl lt ↦
                (let unit = unit_at us colon lt in
                let is_colon : get_or us colon 0 ≡ byte ":" = same_number (get_or us colon 0) (byte ":") (subst (λ l. is_first (byte ":") l ≡ true) unit h) in
                let stands : drop colon us ≡ byte ":" ∷ drop (colon + 1) us = unit ∙ ap (λ x. x ∷ drop (colon + 1) us) is_colon in
                colon_goes ps (slice_range us at end) free (subst (λ l. Blanks (drop end us) l) stands blanks.blanks))
            | inr le ↦ (let none : is_first (byte ":") (drop colon us) ≡ false = ap (is_first (byte ":")) (no_unit_at us colon le) in absurd (both_ways _ h none))
          ]

      -- no colon stands there
      pub no_colon : is_first (byte ":") (drop colon us) ≡ false → Refuses us (Next ps) at (fault.BadStyle colon)
      no_colon h = (
        blanks.inside,
        from_next ∙ colon_refused ps (slice_range us at end) free blanks.blanks (other_of (byte ":") (drop colon us) blanks.all h)
            (λ u ws e. elim (end_or end inside) [
              | inl whole ↦ (let none : drop end us ≡ [] = no_unit_at us end (omega (arith, whole)) in absurd (no_cons u ws (sym none ∙ e)))
              | inr lt ↦ (let same : get_or us end 0 ∷ drop (end + 1) us ≡ u ∷ ws = sym (unit_at us end lt) ∙ e in subst (λ x. fits ps (slice_range us at end ++ x ∷ []) ≡ false) (same_head same) (ended lt))
            ]),
      )

      -- the property, and the place of its value
      pub property_is : (start : ℕ) → is_first (byte ":") (drop colon us) ≡ true → IsBlanksEnd us (colon + 1) start → IsProperty us ps at end start
      property_is start h more =
          record {
            order = order;
            later = omega (arith, blanks.order, more.order);
            inside = more.inside;
            blanks = more.all;
            goes_on = colon_stands h ∙ start_blanks ps (slice_range us at end) more.blanks;
          }

  -- ## A value

  -- a value that is read up to `place`, with spaces behind `end`
  pub record ValueSoFar (at end place : ℕ) : Type 0 where
    pub some : at < end
    pub order : end ≤ place
    pub inside : place ≤ length us
    pub value : is_value (slice_range us at end) ≡ true
    pub open_still : is_open (slice_range us at place) ≡ true
    pub whole : slice_range us at place ≡ slice_range us at end ++ slice_range us end place
    pub gap : Blanks (drop end us) (drop place us)
    pub goes_on : (ps : List Pair) (n : List ℕ) → goes us (Start ps n) at ≡ goes us (Value ps n (slice_range us at end) (slice_range us end place)) place

  module _ (at : ℕ) (first : blank_first (drop at us) ≡ false) where
    one_unit : at < length us → slice_range us at (at + 1) ≡ get_or us at 0 ∷ []
    one_unit lt = range_more us at at (omega arith) lt ∙ ap (λ l. l ++ get_or us at 0 ∷ []) (range_none us at)

    -- no value begins there
    pub no_value_end : (ps : List Pair) (n : List ℕ) → at ≡ length us → Refuses us (Start ps n) at (fault.BadStyle at)
    no_value_end ps n e = at_end (Start ps n) at e refl

    pub no_value_unit : (ps : List Pair) (n : List ℕ) → at < length us → is_value (slice_range us at (at + 1)) ≡ false → Refuses us (Start ps n) at (fault.BadStyle at)
    no_value_unit ps n lt h =
        let none = sym (first_is at lt) ∙ first in
        let value = subst (λ l. is_value l ≡ false) (one_unit lt) h in
        at_unit (Start ps n) at lt (rw (none, value) refl)

    pub value_begins : at < length us → is_value (slice_range us at (at + 1)) ≡ true → ValueSoFar at (at + 1) (at + 1)
    value_begins lt h =
        let u = get_or us at 0 in
        let value = subst (λ l. is_value l ≡ true) (one_unit lt) h in
        record {
          some = omega arith;
          order = omega arith;
          inside = omega (arith, lt);
          value = h;
          open_still = value_open _ h;
          whole = sym (ap (λ l. slice_range us at (at + 1) ++ l) (range_none us (at + 1)) ∙ append-nil (slice_range us at (at + 1)));
          gap = here;
          goes_on = λ ps n.
              ap (go (Start ps n)) (unit_at us at lt) ∙ start_step ps n u (drop (at + 1) us) value
              ∙ ap (λ l. go (Value ps n l []) (drop (at + 1) us)) (sym (one_unit lt)) ∙ ap (λ g. go (Value ps n (slice_range us at (at + 1)) g) (drop (at + 1) us)) (sym (range_none us (at + 1)));
        }

  module _ (at end place : ℕ) (so_far : ValueSoFar at end place) (lt : place < length us) where
    grown : slice_range us at (place + 1) ≡ slice_range us at end ++ slice_range us end place ++ get_or us place 0 ∷ []
    grown = range_more us at place (omega (arith, so_far.some, so_far.order)) lt ∙ ap (λ l. l ++ get_or us place 0 ∷ []) so_far.whole

    pub value_further : is_value (slice_range us at (place + 1)) ≡ true → ValueSoFar at (place + 1) (place + 1)
    value_further h =
        let u = get_or us place 0 in
        let v = slice_range us at end in
        let gap = slice_range us end place in
        record {
          some = omega (arith, so_far.some, so_far.order);
          order = omega arith;
          inside = omega (arith, lt);
          value = h;
          open_still = value_open _ h;
          whole = sym (ap (λ l. slice_range us at (place + 1) ++ l) (range_none us (place + 1)) ∙ append-nil (slice_range us at (place + 1)));
          gap = here;
          goes_on = λ ps n.
              so_far.goes_on ps n ∙ ap (go (Value ps n v gap)) (unit_at us place lt) ∙ value_step ps n v gap u (drop (place + 1) us) (subst (λ l. is_value l ≡ true) grown h)
              ∙ ap (λ l. go (Value ps n l []) (drop (place + 1) us)) (sym grown) ∙ ap (λ g. go (Value ps n (slice_range us at (place + 1)) g) (drop (place + 1) us)) (sym (range_none us (place + 1)));
        }

    pub space_further : get_or us place 0 ≡ 32 → ValueSoFar at end (place + 1)
    space_further e =
        let v = slice_range us at end in
        let gap = slice_range us end place in
        let gap_grown : slice_range us end (place + 1) ≡ gap ++ 32 ∷ [] = range_more us end place so_far.order lt ∙ ap (λ x. gap ++ x ∷ []) e in
        let all_grown : slice_range us at (place + 1) ≡ slice_range us at place ++ 32 ∷ [] = range_more us at place (omega (arith, so_far.some, so_far.order)) lt ∙ ap (λ x. slice_range us at place ++ x ∷ []) e in
        let unit : drop place us ≡ 32 ∷ drop (place + 1) us = unit_at us place lt ∙ ap (λ x. x ∷ drop (place + 1) us) e in
        record {
          some = so_far.some;
          order = omega (arith, so_far.order);
          inside = omega (arith, lt);
          value = so_far.value;
          open_still = subst (λ l. is_open l ≡ true) (sym all_grown) (open_space (slice_range us at place) (range_some us at place (omega (arith, so_far.some, so_far.order)) so_far.inside) so_far.open_still);
          whole = all_grown ∙ ap (λ l. l ++ 32 ∷ []) so_far.whole ∙ append_assoc v gap (32 ∷ []) ∙ ap (λ l. v ++ l) (sym gap_grown);
          gap = joined so_far.gap (subst (λ l. Blanks l (drop (place + 1) us)) (sym unit) (behind refl here));
          goes_on = λ ps n. so_far.goes_on ps n ∙ ap (go (Value ps n v gap)) unit ∙ space_step ps n v gap (drop (place + 1) us) ∙ ap (λ g. go (Value ps n v g) (drop (place + 1) us)) (sym gap_grown);
        }

    -- the value has ended before
    pub value_ended : is_value (slice_range us at (place + 1)) ≡ false → (get_or us place 0 == 32) ≡ false → IsValueAt us at end
    value_ended h e =
        let u = get_or us place 0 in
        let v = slice_range us at end in
        let gap = slice_range us end place in
        let none = subst (λ l. is_value l ≡ false) grown h in
        record {
          order = so_far.some;
          inside = omega (arith, so_far.order, so_far.inside);
          goes_on = λ ps n.
              (let all = ps ++ (n, v) ∷ [] in
              let same : step (Value ps n v gap) u ≡ step (After all) u = rw (none, e) refl in
              so_far.goes_on ps n
              ∙ subst (λ l. go (Value ps n v gap) l ≡ go (After all) l) (sym (unit_at us place lt)) (plain.same_step step done (Value ps n v gap) (After all) u (drop (place + 1) us) same)
              ∙ sym (after_blanks all so_far.gap));
        }

  pub value_all : (at end place : ℕ) → ValueSoFar at end place → length us ≤ place → IsValueAt us at end
  value_all at end place so_far le =
      let v = slice_range us at end in
      let gap = slice_range us end place in
      let none : drop place us ≡ [] = no_unit_at us place le in
      record {
        order = so_far.some;
        inside = omega (arith, so_far.order, so_far.inside);
        goes_on = λ ps n. (let all = ps ++ (n, v) ∷ [] in so_far.goes_on ps n ∙ subst (λ l. go (Value ps n v gap) l ≡ go (After all) l) (sym none) refl ∙ sym (after_blanks all so_far.gap));
      }

  -- ## A whole pair

  module _ (at end next : ℕ) (value : IsValueAt us at end) (blanks : IsBlanksEnd us end next) where
    pub whole_end : next ≡ length us → IsWhole us at end next
    whole_end e =
        let v = slice_range us at end in
        let none : drop next us ≡ [] = no_unit_at us next (omega (arith, e)) in
        record {
          order = value.order;
          later = blanks.order;
          inside = blanks.inside;
          blanks = blanks.all;
          goes_on = λ ps n. (let all = ps ++ (n, v) ∷ [] in value.goes_on ps n ∙ after_blanks all blanks.blanks ∙ subst (λ l. go (After all) l ≡ go (Next all) l) (sym none) refl);
        }

    pub whole_semicolon : (far : ℕ) → next < length us → is_first (byte ";") (drop next us) ≡ true → IsBlanksEnd us (next + 1) far → IsWhole us at end far
    whole_semicolon far lt h more =
        let v = slice_range us at end in
        let unit = unit_at us next lt in
        let is : get_or us next 0 ≡ byte ";" = same_number (get_or us next 0) (byte ";") (subst (λ l. is_first (byte ";") l ≡ true) unit h) in
        let stands : drop next us ≡ byte ";" ∷ drop (next + 1) us = unit ∙ ap (λ x. x ∷ drop (next + 1) us) is in
        record {
          order = value.order;
          later = omega (arith, blanks.order, more.order);
          inside = more.inside;
          blanks = more.all;
          goes_on = λ ps n.
              (let all = ps ++ (n, v) ∷ [] in
              value.goes_on ps n ∙ after_blanks all blanks.blanks ∙ ap (go (After all)) stands ∙ taken (After all) (Next all) (byte ";") (drop (next + 1) us) refl ∙ next_blanks all more.blanks);
        }

    pub no_semicolon : next < length us → is_first (byte ";") (drop next us) ≡ false → (ps : List Pair) (n : List ℕ) → Refuses us (Start ps n) at (fault.BadStyle next)
    no_semicolon lt h ps n =
        let all = ps ++ (n, slice_range us at end) ∷ [] in
        let u = get_or us next 0 in
        let blank : is_blank u ≡ false = sym (first_is next lt) ∙ blanks.all in
        let other : (u == byte ";") ≡ false = subst (λ l. is_first (byte ";") l ≡ false) (unit_at us next lt) h in
        refused_later (Start ps n) (After all) at next (fault.BadStyle next) (value.goes_on ps n ∙ after_blanks all blanks.blanks) (at_unit (After all) next lt (rw (blank, other) refl))

  -- ## A style

  pub pair_is : (ps qs : List Pair) (n v a b : List ℕ) → qs ≡ ps ++ (n, v) ∷ [] → n ≡ a → v ≡ b → qs ≡ ps ++ (a, b) ∷ []
  pair_is ps qs n v a b e en ev = cc

  -- a value that is refused behind a property
  pub refused_value : (ps qs : List Pair) (at end start : ℕ) (e : StyleFault) → qs ≡ ps → IsProperty us qs at end start → ((pairs : List Pair) (property : List ℕ) → Refuses us (Start pairs property) start e) → goes us begin 0 ≡ goes us (Next ps) at → Refuses us begin 0 e
  refused_value ps qs at end start e same p h read =
      let behind_it = subst (λ l. goes us (Next l) at ≡ goes us (Start l (slice_range us at end)) start) same p.goes_on in
      refused_later begin (Start ps (slice_range us at end)) 0 start e (read ∙ behind_it) (h ps (slice_range us at end))

  pub refused_property : (ps qs : List Pair) (at : ℕ) (e : StyleFault) → qs ≡ ps → Refuses us (Next qs) at e → goes us begin 0 ≡ goes us (Next ps) at → Refuses us begin 0 e
  refused_property ps qs at e same h read = refused_later begin (Next ps) 0 at e read (subst (λ l. Refuses us (Next l) at e) same h)

  all_read : (ps : List Pair) (at : ℕ) → length us ≤ at → goes us begin 0 ≡ goes us (Next ps) at → go begin us ≡ Read ps
  all_read ps at le h = h ∙ ap (go (Next ps)) (no_unit_at us at le)

  pub read_is_style : (ps : List Pair) (at : ℕ) → length us ≤ at → goes us begin 0 ≡ goes us (Next ps) at → StyleSpells us ps
  read_is_style ps at le h = sound us ps (all_read ps at le h)

  pub read_only : (ps : List Pair) (at : ℕ) → length us ≤ at → goes us begin 0 ≡ goes us (Next ps) at → (qs : List Pair) → StyleSpells us qs → ps ≡ qs
  read_only ps at le h qs style = let is = complete us qs style in let read = all_read ps at le h in cc

  pub style_fault : (e : StyleFault) → Refuses us begin 0 e → IsStyleFault us e
  style_fault (fault.BadStyle place) h = refused_is us (length (drop place us)) place (h.1) (left_at us place (h.0))
  style_fault fault.Memory h = tt

  pub fault_only : (e : StyleFault) → Refuses us begin 0 e → (qs : List Pair) → StyleSpells us qs → e ≡ fault.Memory
  fault_only (fault.BadStyle place) h qs style = let is = complete us qs style in let refused = h.1 in cc
  fault_only fault.Memory h qs style = refl
