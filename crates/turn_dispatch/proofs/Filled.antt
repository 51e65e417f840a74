-- An event object is filled: its Bunches stand under `target` and `that`.
use Rattle.std.proofs.Common.{◌≡◌, ℕ, ◌+◌, true, List, [], ◌∷◌, ◌++◌, length, refl, sym, ap, ◌∙◌, if◌then◌else◌, arith}
use Rattle.std.specs.Prelude.{codes, is_some, slice_index_or, slice_set}
use Rattle.widget_meaning.specs.Values.{Value, Undefined, Own, Normal}
use Rattle.widget_meaning.specs.OwnState.{Cell, Pairs, State, cell_at, lookup, new_bunch, plain_object, replaced, with_cell, with_own}
use Rattle.widget_meaning.specs.Plan.{Plan, Ret}
use Rattle.widget_meaning.specs.Costs.{cost, object_cost, pay, slots_cost, sum, with_counts}
use Rattle.widget_meaning.specs.Properties.{put, put_own}
use Rattle.widget_meaning.specs.Dispatch.{event_cost, with_event}
use Rattle.turn_dispatch.specs.Events.{born, pairs_with}

-- ## A write of a name that an object has

ret_state : (t u : State) → Ret Normal t ≡ Ret Normal u → t ≡ u
ret_state t u h = cc

pub filled_is : (s u : State) (e v : Value) (n : ℕ) (ps : Pairs) (x : List ℕ) → e ≡ Own n → cell_at s n ≡ plain_object ps → is_some (lookup ps x) ≡ true → ((k : State → Plan) → put e x v s k ≡ k u)
    → with_cell s n (plain_object (replaced ps x v)) ≡ u
filled_is s u e v n ps x is at has plan =
    ret_state (with_cell s n (plain_object (replaced ps x v))) u
    (sym (ap (λ b. if b then Ret Normal (with_cell s n (plain_object (replaced ps x v))) else pay (slots_cost 1) s (λ t. Ret Normal (with_cell t n (plain_object (ps ++ (x, v) ∷ []))))) has)
    ∙ (sym (ap (λ (c : Cell). put_own c.kind c n x v s (Ret Normal)) at)
    ∙ (sym (ap (λ o. put o x v s (Ret Normal)) is) ∙ plan (Ret Normal))))

-- ## The object behind which two more are born

at_first : (h : List Cell) (a b c d : Cell) → slice_index_or (((h ++ a ∷ []) ++ b ∷ []) ++ c ∷ []) (length h) d ≡ a
at_first [] a b c d = refl
at_first (x ∷ h) a b c d = at_first h a b c d

set_first : (h : List Cell) (a b c z : Cell) → slice_set (((h ++ a ∷ []) ++ b ∷ []) ++ c ∷ []) (length h) z ≡ ((h ++ z ∷ []) ++ b ∷ []) ++ c ∷ []
set_first [] a b c z = refl
set_first (x ∷ h) a b c z = ap (λ l. x ∷ l) (set_first h a b c z)

one_more : (h : List Cell) (a : Cell) → length (h ++ a ∷ []) ≡ length h + 1
one_more [] a = refl
one_more (x ∷ h) a = omega (arith, one_more h a)

two_more : (h : List Cell) (a b : Cell) → length ((h ++ a ∷ []) ++ b ∷ []) ≡ length h + 2
two_more h a b = omega (arith, one_more (h ++ a ∷ []) b, one_more h a)

module _ (kind : List ℕ) (target node : ℕ) (v : Value) (s : State) where
  abbrev n : ℕ
  n = length s.own.heap

  -- an event object with these Bunches
  abbrev pub object : Value → Value → Cell
  object t u = plain_object (pairs_with kind t u v)

  -- the object and the two Bunches are born
  abbrev pub three : Value → Value → State
  three t u = born (new_bunch (node ∷ [])) (object_cost 2) (born (new_bunch (target ∷ [])) (object_cost 2) (born (object t u) (object_cost 5) s))

  under : (t u : Value) → cell_at (three t u) n ≡ object t u
  under t u = at_first s.own.heap (object t u) (new_bunch (target ∷ [])) (new_bunch (node ∷ [])) (plain_object [])

  set : (t u y z : Value) → with_cell (three t u) n (object y z) ≡ three y z
  set t u y z = ap (λ h. with_own (three t u) (record (three t u).own { heap = h })) (set_first s.own.heap (object t u) (new_bunch (target ∷ [])) (new_bunch (node ∷ [])) (object y z))

  counts : (three Undefined Undefined).own.counts ≡ sum s.own.counts event_cost
  counts = λ j. cost (units s.own.counts.units j) (cells s.own.counts.cells j) (slots s.own.counts.slots j) (units s.own.counts.nodes j)
    where
      units : (a : ℕ) → a + 0 + 0 + 0 ≡ a + 0
      units a = omega arith

      cells : (a : ℕ) → a + 1 + 1 + 1 ≡ a + 3
      cells a = omega arith

      slots : (a : ℕ) → a + 5 + 2 + 2 ≡ a + 9
      slots a = omega arith

  whole : three (Own (n + 1)) (Own (n + 2)) ≡ with_event (with_counts s (sum s.own.counts event_cost)) kind target node v
  whole = ap (λ c. with_own s (record s.own { heap = ((s.own.heap ++ object (Own (n + 1)) (Own (n + 2)) ∷ []) ++ new_bunch (target ∷ []) ∷ []) ++ new_bunch (node ∷ []) ∷ []; counts = c })) counts

  -- the states after each call: the object is born, then its Bunches, and they are put under its names
  module _ (s1 s2 s3 s4 s5 : State) (t3 u4 : Value) (first : born (object Undefined Undefined) (object_cost 5) s ≡ s1) (second : born (new_bunch (target ∷ [])) (object_cost 2) s1 ≡ s2) (third : born (new_bunch (node ∷ [])) (object_cost 2) s2 ≡ s3) where
    are_three : three Undefined Undefined ≡ s3
    are_three = ap (λ a. born (new_bunch (node ∷ [])) (object_cost 2) (born (new_bunch (target ∷ [])) (object_cost 2) a)) first ∙ (ap (born (new_bunch (node ∷ [])) (object_cost 2)) second ∙ third)

    pub bunch_place : length s1.own.heap ≡ n + 1
    bunch_place = ap (λ (a : State). length a.own.heap) (sym first) ∙ one_more s.own.heap (object Undefined Undefined)

    pub that_place : length s2.own.heap ≡ n + 2
    that_place = ap (λ (a : State). length a.own.heap) (sym second) ∙ (ap (λ (a : State). length (a.own.heap ++ new_bunch (target ∷ []) ∷ [])) (sym first) ∙ two_more s.own.heap (object Undefined Undefined) (new_bunch (target ∷ [])))

    pub event_filled : t3 ≡ Own (n + 1) → u4 ≡ Own (n + 2)
        → ((ps : Pairs) → cell_at s3 n ≡ plain_object ps → is_some (lookup ps (codes "target")) ≡ true → with_cell s3 n (plain_object (replaced ps (codes "target") t3)) ≡ s4)
        → ((ps : Pairs) → cell_at s4 n ≡ plain_object ps → is_some (lookup ps (codes "that")) ≡ true → with_cell s4 n (plain_object (replaced ps (codes "that") u4)) ≡ s5)
        → with_event (with_counts s (sum s.own.counts event_cost)) kind target node v ≡ s5
    event_filled et eu fourth fifth =
        let four : three t3 Undefined ≡ s4 = sym (set Undefined Undefined t3 Undefined) ∙ (ap (λ a. with_cell a n (object t3 Undefined)) are_three ∙ fourth (pairs_with kind Undefined Undefined v) (ap (λ a. cell_at a n) (sym are_three) ∙ under Undefined Undefined) refl) in
        let five : three t3 u4 ≡ s5 = sym (set t3 Undefined t3 u4) ∙ (ap (λ a. with_cell a n (object t3 u4)) four ∙ fifth (pairs_with kind t3 Undefined v) (ap (λ a. cell_at a n) (sym four) ∙ under t3 Undefined) refl) in
        sym whole ∙ ((λ j. three (sym et j) (sym eu j)) ∙ five)
