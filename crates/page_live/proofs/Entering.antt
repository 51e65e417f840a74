-- What is written for slots.
use Rattle.std.proofs.Common.{◌≡◌, ◌≢◌, ℕ, zero, suc, ◌+◌, ◌<◌, ◌≤◌, List, [], ◌∷◌, ◌++◌, map, length, take, get_or, Bool, true, false, Option, Some, None, refl, sym, ap, subst, ◌∙◌, arith, ◌⊎◌, inl, inr, append_assoc, append-nil}
use Rattle.std.specs.Prelude.{slice_get, slice_set, slice_index_or, codes}
use Rattle.std.specs.List.{flat_map}
use Rattle.std.proofs.lemmas.List.{length-map, map-append}
use Rattle.std.proofs.lemmas.List.Concat.{flat_map-append}
use Rattle.trace_text.specs.declared.line.Line.{Line}
use Rattle.trace_text.specs.Report.{line_text}
use Rattle.plain_tree.specs.Trees.{PlainTrees, End}
use Rattle.page_output.specs.Printing.{Prints}
use Rattle.widget_meaning.specs.OwnState.{OwnState}
use Rattle.page_plan.specs.Pages.{root_of, roots}
use Rattle.page_play.specs.declared.findings.Findings.{Findings}
use Rattle.page_play.specs.Findings.{Told, line_of}
use Rattle.live_text.specs.declared.entry.Entry.{Entry}
use Rattle.live_text.specs.Answer.{Shown, object_of, quoted, shown, slot_text}
use Rattle.page_play.proofs.Finding.{take_push}
use Rattle.page_play.proofs.Telling.{default_same, read_at}
use Rattle.page_live.specs.Page as live
use Rattle.page_live.specs.Page.{IsEntry, IsEntryLine, IsEntryRoot, IsRenewed, is_at, picked, told_at}

some_is : {A : Type 0} (x y : A) → Some x ≡ Some y → x ≡ y
some_is x y e = cc

no_some : {A : Type 0} (x : A) → None ≡ Some x → ⊥
no_some x e = cc

-- an element of a list with one more
pub get_push : {A : Type 0} (xs : List A) (x : A) (n : ℕ) (y : A) → slice_get (xs ++ x ∷ []) n ≡ Some y → (slice_get xs n ≡ Some y) ⊎ ((n ≡ length xs) × (x ≡ y))
get_push [] x zero y at = inr (refl, some_is x y at)
get_push [] x (suc n) y at = absurd (no_some y at)
get_push (z ∷ xs) x zero y at = inl at
get_push (z ∷ xs) x (suc n) y at = by (get_push xs x n y at) where
  by : (slice_get xs n ≡ Some y) ⊎ ((n ≡ length xs) × (x ≡ y)) → (slice_get xs n ≡ Some y) ⊎ ((suc n ≡ suc (length xs)) × (x ≡ y))
  by (inl before) = inl before
  by (inr last) = inr (ap suc last.0, last.1)

-- ## One entry

pub line_entry : (t : Told) (own : Option OwnState) (line : Line) (bytes : List ℕ) → bytes ≡ object_of line → line_text line ≡ object_of line ++ codes "\n" → line_text line ≡ line_of t.name t.until t.found own → IsEntryLine t own bytes
line_entry t own line bytes is text told = ap (λ xs. xs ++ codes "\n") is ∙ sym text ∙ told

root_there : (names : List (List ℕ)) (owns : List (Option OwnState)) (w : ℕ) (own : Option OwnState) → w < length names → slice_get owns w ≡ Some own → slice_index_or (roots names owns) w End ≡ root_of (slice_index_or names w []) own
root_there [] owns w own less at = absurd (omega (arith, less))
root_there (n ∷ names) [] w own less at = absurd (no_some own at)
root_there (n ∷ names) (o ∷ owns) zero own less at = ap (root_of n) (some_is o own at)
root_there (n ∷ names) (o ∷ owns) (suc w) own less at = root_there names owns w own (omega (arith, less)) at

pub root_entry : (f : Findings) (owns : List (Option OwnState)) (w : ℕ) (own : Option OwnState) (text root : List ℕ) → w < length f.names.items → slice_get owns w ≡ Some own
    → Prints (slice_index_or (roots f.names.items owns) w End) [] text → root ≡ quoted text → IsEntryRoot (told_at f w) own root
root_entry f owns w own text root less at printed is = record { text = text; printed = subst (λ (ts : PlainTrees). Prints ts [] text) (root_there f.names.items owns w own less at) printed; is = is }

-- ## All entries

-- what is said of each own state with its entry
abbrev pub AreSaid : (ℕ → Option OwnState → Shown → Type 0) → List (Option OwnState) → List Shown → Type 0
AreSaid P owns ss = (w : ℕ) (own : Option OwnState) (s : Shown) → slice_get owns w ≡ Some own → slice_get ss w ≡ Some s → P w own s

pub said_push : (P : ℕ → Option OwnState → Shown → Type 0) (owns : List (Option OwnState)) (entries : List Entry) (e : Entry) → AreSaid P owns (map shown entries)
    → ((own : Option OwnState) → slice_get owns (length entries) ≡ Some own → P (length entries) own (shown e)) → AreSaid P owns (map shown (entries ++ e ∷ []))
said_push P owns entries e all one w own s own_at s_at = by (get_push (map shown entries) (shown e) w s (ap (λ ss. slice_get ss w) (sym (map-append shown entries (e ∷ []))) ∙ s_at)) where
  count : (es : List Entry) → length (map shown es) ≡ length es
  count [] = refl
  count (x ∷ es) = ap suc (count es)

  by : (slice_get (map shown entries) w ≡ Some s) ⊎ ((w ≡ length (map shown entries)) × (shown e ≡ s)) → P w own s
  by (inl before) = all w own s own_at before
  by (inr last) =
      let here : w ≡ length entries = last.0 ∙ count entries in
      subst (P w own) last.1 (subst (λ n. P n own (shown e)) (sym here) (one own (ap (slice_get owns) (sym here) ∙ own_at)))

-- ## Entries anew

pub set_length : {A : Type 0} (xs : List A) (n : ℕ) (x : A) → length (slice_set xs n x) ≡ length xs
set_length [] n x = refl
set_length (y ∷ xs) zero x = refl
set_length (y ∷ xs) (suc n) x = ap suc (set_length xs n x)

get_set : {A : Type 0} (xs : List A) (n : ℕ) (x : A) → n < length xs → slice_get (slice_set xs n x) n ≡ Some x
get_set [] n x less = absurd (omega (arith, less))
get_set (y ∷ xs) zero x less = refl
get_set (y ∷ xs) (suc n) x less = get_set xs n x (omega (arith, less))

pub get_other : {A : Type 0} (xs : List A) (n m : ℕ) (x : A) → n ≢ m → slice_get (slice_set xs n x) m ≡ slice_get xs m
get_other [] n m x apart = refl
get_other (y ∷ xs) zero zero x apart = absurd (apart refl)
get_other (y ∷ xs) zero (suc m) x apart = refl
get_other (y ∷ xs) (suc n) zero x apart = refl
get_other (y ∷ xs) (suc n) (suc m) x apart = get_other xs n m x (λ e. apart (ap suc e))

shown_get : (es : List Entry) (n : ℕ) (s : Shown) → slice_get (map shown es) n ≡ Some s → (e : Entry) × (slice_get es n ≡ Some e) × (shown e ≡ s)
shown_get [] n s at = absurd (no_some s at)
shown_get (e ∷ es) zero s at = (e, refl, some_is (shown e) s at)
shown_get (e ∷ es) (suc n) s at = shown_get es n s at

-- the first slots were looked at
pub record AreDone (f : Findings) (owns : List (Option OwnState)) (touched : Option ℕ) (w : ℕ) (old now : List Entry) (flags : List Bool) : Type 0 where
  pub each : (u : ℕ) (own : Option OwnState) (o n : Shown) (b : Bool) → slice_get owns u ≡ Some own → slice_get (map shown old) u ≡ Some o → slice_get (map shown now) u ≡ Some n → slice_get flags u ≡ Some b
      → IsRenewed (told_at f u) own (is_at touched u) o n b

pub done_none : (f : Findings) (owns : List (Option OwnState)) (touched : Option ℕ) (old : List Entry) → AreDone f owns touched 0 old old []
done_none f owns touched old = record { each = λ u own o n b own_at o_at n_at b_at. absurd (no_some b b_at) }

-- one slot more
pub done_more : (f : Findings) (owns : List (Option OwnState)) (touched : Option ℕ) (w : ℕ) (old now : List Entry) (flags : List Bool) (was is : Entry) (flag : Bool) → w ≡ length flags → w < length now
    → slice_get old w ≡ Some was → AreDone f owns touched w old now flags → ((own : Option OwnState) → slice_get owns w ≡ Some own → IsRenewed (told_at f w) own (is_at touched w) (shown was) (shown is) flag)
    → AreDone f owns touched (w + 1) old (slice_set now w is) (flags ++ flag ∷ [])
done_more f owns touched w old now flags was is flag at_end less was_at done one = record { each = λ u own o n b own_at o_at n_at b_at. by u own o n b own_at o_at n_at (get_push flags flag u b b_at) } where
  by : (u : ℕ) (own : Option OwnState) (o n : Shown) (b : Bool) → slice_get owns u ≡ Some own → slice_get (map shown old) u ≡ Some o → slice_get (map shown (slice_set now w is)) u ≡ Some n
      → (slice_get flags u ≡ Some b) ⊎ ((u ≡ length flags) × (flag ≡ b)) → IsRenewed (told_at f u) own (is_at touched u) o n b
  by u own o n b own_at o_at n_at (inl before) =
      let e = shown_get (slice_set now w is) u n n_at in
      let low = below flags u b before in
      let same = sym (get_other now w u is (λ s. absurd (omega (arith, s, low, at_end)))) ∙ e.1 in
      done.each u own o n b own_at o_at (sym (mapped now u e.0 same) ∙ ap Some e.2) before
    where
      below : (bs : List Bool) (k : ℕ) (x : Bool) → slice_get bs k ≡ Some x → k < length bs
      below [] k x at = absurd (no_some x at)
      below (y ∷ bs) zero x at = omega arith
      below (y ∷ bs) (suc k) x at = let r = below bs k x at in omega (arith, r)

      mapped : (es : List Entry) (k : ℕ) (x : Entry) → slice_get es k ≡ Some x → Some (shown x) ≡ slice_get (map shown es) k
      mapped [] k x at = absurd (no_some x at)
      mapped (y ∷ es) zero x at = ap (λ z. Some (shown z)) (sym (some_is y x at))
      mapped (y ∷ es) (suc k) x at = mapped es k x at
  by u own o n b own_at o_at n_at (inr last) =
      let here : u ≡ w = last.0 ∙ sym at_end in
      let e = shown_get (slice_set now w is) u n n_at in
      let x = shown_get old u o o_at in
      let is_e : is ≡ e.0 = some_is is e.0 (sym (get_set now w is less) ∙ ap (slice_get (slice_set now w is)) (sym here) ∙ e.1) in
      let was_x : was ≡ x.0 = some_is was x.0 (sym was_at ∙ ap (slice_get old) (sym here) ∙ x.1) in
      subst (λ k. IsRenewed (told_at f k) own (is_at touched k) o n b) (sym here)
      (subst (λ c. IsRenewed (told_at f w) own (is_at touched w) o n c) last.1
      (subst (λ s. IsRenewed (told_at f w) own (is_at touched w) o s flag) (ap shown is_e ∙ e.2)
      (subst (λ s. IsRenewed (told_at f w) own (is_at touched w) s (shown is) flag) (ap shown was_x ∙ x.2) (one own (ap (slice_get owns) (sym here) ∙ own_at)))))

-- ## Those with a flag

pub picked_more : (bs : List Bool) (ss : List Shown) (n : ℕ) (b : Bool) (s : Shown) → slice_get bs n ≡ Some b → slice_get ss n ≡ Some s → picked (take (n + 1) bs) (take (n + 1) ss) ≡ picked (take n bs) (take n ss) ++ picked (b ∷ []) (s ∷ [])
picked_more [] ss n b s b_at s_at = absurd (no_some b b_at)
picked_more (x ∷ bs) [] n b s b_at s_at = absurd (no_some s s_at)
picked_more (x ∷ bs) (y ∷ ss) zero b s b_at s_at =
    ap (λ c. picked (c ∷ []) (y ∷ [])) (some_is x b b_at) ∙ ap (λ z. picked (b ∷ []) (z ∷ [])) (some_is y s s_at)
picked_more (true ∷ bs) (y ∷ ss) (suc n) b s b_at s_at = let e : suc n + 1 ≡ suc (n + 1) = omega arith in ap (λ k. picked (take k (true ∷ bs)) (take k (y ∷ ss))) e ∙ ap (λ zs. y ∷ zs) (picked_more bs ss n b s b_at s_at)
picked_more (false ∷ bs) (y ∷ ss) (suc n) b s b_at s_at = let e : suc n + 1 ≡ suc (n + 1) = omega arith in ap (λ k. picked (take k (false ∷ bs)) (take k (y ∷ ss))) e ∙ picked_more bs ss n b s b_at s_at

-- ## Lines of slots

take_whole : {A : Type 0} (n : ℕ) (xs : List A) → length xs ≤ n → take n xs ≡ xs
take_whole zero [] all = refl
take_whole zero (x ∷ xs) all = absurd (omega (arith, all))
take_whole (suc n) [] all = refl
take_whole (suc n) (x ∷ xs) all = ap (λ ys. x ∷ ys) (take_whole n xs (omega (arith, all)))

pub slots_more : (es : List Entry) (n : ℕ) (e : Entry) (from mid to : List ℕ) → n < length es → e ≡ get_or es n e → mid ≡ from ++ flat_map slot_text (map shown (take n es)) → to ≡ mid ++ slot_text (shown e) → to ≡ from ++ flat_map slot_text (map shown (take (n + 1) es))
slots_more es n e from mid to less is before more =
    more
    ∙ ap (λ xs. xs ++ slot_text (shown e)) before
    ∙ append_assoc from (flat_map slot_text (map shown (take n es))) (slot_text (shown e))
    ∙ ap (λ xs. from ++ xs) (sym (ap (λ xs. flat_map slot_text (map shown xs)) (take_push es n e less is) ∙ ap (flat_map slot_text) (map-append shown (take n es) (e ∷ [])) ∙ flat_map-append slot_text (map shown (take n es)) (shown e ∷ []) ∙ ap (λ xs. flat_map slot_text (map shown (take n es)) ++ xs) (append-nil (slot_text (shown e)))))

pub slots_all : (es : List Entry) (n : ℕ) (from to : List ℕ) → length es ≤ n → to ≡ from ++ flat_map slot_text (map shown (take n es)) → to ≡ from ++ flat_map slot_text (map shown es)
slots_all es n from to all so = so ∙ ap (λ xs. from ++ flat_map slot_text (map shown xs)) (take_whole n es all)

-- ## Flagged entries

pub flagged_more : (es : List Entry) (bs : List Bool) (n : ℕ) (b : Bool) (e : Entry) → length bs ≡ length es → n < length es → b ≡ get_or bs n b → e ≡ get_or es n e
    → picked (take (n + 1) bs) (take (n + 1) (map shown es)) ≡ picked (take n bs) (take n (map shown es)) ++ picked (b ∷ []) (shown e ∷ [])
flagged_more es bs n b e same less b_is e_is = picked_more bs (map shown es) n b (shown e) (read_at bs n b (omega (arith, same, less)) b_is) (mapped es n e (read_at es n e less e_is)) where
  mapped : (xs : List Entry) (k : ℕ) (x : Entry) → slice_get xs k ≡ Some x → slice_get (map shown xs) k ≡ Some (shown x)
  mapped [] k x at = absurd (no_some x at)
  mapped (y ∷ xs) zero x at = ap (λ z. Some (shown z)) (some_is y x at)
  mapped (y ∷ xs) (suc k) x at = mapped xs k x at

pub flagged_all : (es : List Entry) (bs : List Bool) (n : ℕ) → length bs ≡ length es → length es ≤ n → picked (take n bs) (take n (map shown es)) ≡ picked bs (map shown es)
flagged_all es bs n same all = ap (λ xs. picked xs (take n (map shown es))) (take_whole n bs (omega (arith, same, all))) ∙ ap (picked bs) (take_whole n (map shown es) (omega (arith, length-map es shown, all)))

-- one more, whatever is read where there is none
pub flagged_by : (es : List Entry) (bs : List Bool) (n : ℕ) (e : Entry) (d : Bool) (old new : List Shown) → length bs ≡ length es → n < length es → e ≡ get_or es n e
    → old ≡ picked (take n bs) (take n (map shown es)) → new ≡ old ++ picked (get_or bs n d ∷ []) (shown e ∷ []) → new ≡ picked (take (n + 1) bs) (take (n + 1) (map shown es))
flagged_by es bs n e d old new same less is before more =
    more ∙ ap (λ ss. ss ++ picked (get_or bs n d ∷ []) (shown e ∷ [])) before
    ∙ sym (flagged_more es bs n (get_or bs n d) e same less (default_same bs n d (get_or bs n d) (omega (arith, same, less))) is)

-- ## One entry anew

pub kept_line : (t : Told) (own : Option OwnState) (looks : Bool) (old : Entry) (line : List ℕ) → looks ≡ false → line ≡ old.line.items → IsEntryLine t own line → IsRenewed t own looks (shown old) (shown old) false
kept_line t own looks old line off is so =
    subst (λ b. IsRenewed t own b (shown old) (shown old) false) (sym off) (live.same_line (subst (IsEntryLine t own) is so))

pub renewed_by : (t : Told) (own : Option OwnState) (looks : Bool) (old new now : Entry) (flag : Bool) → IsEntry t own (shown new) → (flag ≡ true → (shown now ≡ shown new) × (shown new ≢ shown old)) → (flag ≡ false → (shown now ≡ shown old) × (shown new ≡ shown old))
    → IsRenewed t own looks (shown old) (shown now) flag
renewed_by t own looks old new now true e other kept = let o = other refl in subst (λ n. IsRenewed t own looks (shown old) n true) (sym o.0) (live.anew e o.1)
renewed_by t own looks old new now false e other kept = let k = kept refl in subst (λ n. IsRenewed t own looks (shown old) n false) (sym k.0) (live.same (subst (IsEntry t own) k.1 e))
