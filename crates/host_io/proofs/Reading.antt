-- A line that is read in parts.
use Rattle.std.proofs.Common.{◌≡◌, ◌≢◌, ℕ, zero, suc, ◌+◌, ◌-◌, ◌<◌, ◌≤◌, min, Vec, Global, MatchOption, List, [], ◌∷◌, ◌++◌, Option, Some, None, IfSome, OnSome, option_map, length, take, drop, get_or, refl, sym, ap, subst, ◌∙◌, arith, append_assoc, append-nil, take_all, zero-le}
use Rattle.std.proofs.lemmas.List.{length-take, take_more}
use Rattle.std.proofs.lemmas.List.Elements.{All-append}
use Rattle.std.proofs.KnownBytes.{Consumes-trans}
use Rattle.std.specs.Io.KnownBytes.{Consumes, IsAtEnd}
use Rattle.std.specs.List.{slice_get}
use Rattle.host_io.specs.Lines.{lines_of, IsLine, Took, Gives}
use Rattle.host_io.specs.declared.cuts.Seen.{Seen}
use Rattle.host_io.specs.declared.cuts.Seen.TheVariants.{More, Feed, End}
use Rattle.host_io.proofs.Cutting.{ended, last, no_length}

-- ## One part

pub took_more : (a c : Option (List ℕ)) (part : List ℕ) → Consumes a c part → Took part More a c
took_more None c part took = tt
took_more (Some x) None part took = took
took_more (Some x) (Some y) part took = took

pub took_feed : (a c : Option (List ℕ)) (part : List ℕ) → Consumes a c (part ++ 10 ∷ []) → Took part Feed a c
took_feed None c part took = tt
took_feed (Some x) None part took = took
took_feed (Some x) (Some y) part took = took ∙ append_assoc part (10 ∷ []) y

pub took_end : (a c : Option (List ℕ)) (part : List ℕ) → part ≡ [] → Consumes a c part → OnSome a (IsAtEnd c) → Took part End a c
took_end None c part none took end = tt
took_end (Some x) None part none took end = took
took_end (Some x) (Some y) part none took end = (took ∙ ap (λ l. l ++ y) none ∙ end, none, end)

-- what is shown of the bytes up to a line feed, or all, is taken
pub took_shown : (a c : Option (List ℕ)) (shown : List ℕ) (n count : ℕ) (seen : Seen) → (seen ≡ More → length shown ≤ n) → (seen ≡ Feed → n < length shown) → (seen ≡ End → length shown ≡ 0)
    → (n < length shown → get_or shown n 0 ≡ 10) → n ≤ length shown → count ≡ min (n + 1) (length shown) → Consumes a c (take count shown) → (length shown ≡ 0 → OnSome a (IsAtEnd c)) → Took (take n shown) seen a c
took_shown a c shown n count More more feed end at within counted took none =
    let long = more refl in
    took_more a c (take n shown) (subst (Consumes a c) (take_all count shown (omega arith) ∙ sym (take_all n shown long)) took)
took_shown a c shown n count Feed more feed end at within counted took none =
    let here = feed refl in
    let same : count ≡ n + 1 = omega arith in
    took_feed a c (take n shown) (subst (Consumes a c) (ap (λ k. take k shown) same ∙ take_more shown n 0 here ∙ ap (λ b. take n shown ++ b ∷ []) (at here)) took)
took_shown a c shown n count End more feed end at within counted took none =
    let nothing = end refl in
    let zero_count : take count shown ≡ take n shown = take_all count shown (omega arith) ∙ sym (take_all n shown (omega arith)) in
    took_end a c (take n shown) (no_length (take n shown) (let long = length-take n shown in omega arith)) (subst (Consumes a c) zero_count took) (none nothing)

-- ## The line so far

-- what was read since the start is a part of a line, and the line holds as much of it as it may
pub record Front (max : ℕ) (start now : Option (List ℕ)) (line : List ℕ) : Type 0 where
  pub part : List ℕ
  pub plain : IsLine part
  pub taken : Consumes start now part
  pub held : line ≡ take (max + 1) part

take_nothing : (n : ℕ) → take {A = ℕ} n [] ≡ []
take_nothing n = take_all n [] zero-le

pub none_more : (line : List ℕ) (n : ℕ) → line ≡ line ++ take n []
none_more line n = sym (ap (λ l. line ++ l) (take_nothing n) ∙ append-nil line)

-- a front of a list and of what follows it
take_both : (n : ℕ) (xs ys : List ℕ) → take n (xs ++ ys) ≡ take n xs ++ take (n - length (take n xs)) ys
take_both zero xs ys = refl
take_both (suc n) [] ys = let same : suc n ≡ suc n - 0 = omega arith in ap (λ k. take k ys) same
take_both (suc n) (x ∷ xs) ys =
    let same : n - length (take n xs) ≡ suc n - length (take (suc n) (x ∷ xs)) = omega arith in
    ap (λ l. x ∷ l) (take_both n xs ys) ∙ ap (λ k. x ∷ (take n xs ++ take k ys)) same

held_more : (max : ℕ) (so_far part line new : List ℕ) → line ≡ take (max + 1) so_far → new ≡ line ++ take (max + 1 - length line) part → new ≡ take (max + 1) (so_far ++ part)
held_more max so_far part line new held more =
    more ∙ ap (λ l. l ++ take (max + 1 - length l) part) held ∙ sym (take_both (max + 1) so_far part)

took_consumes : (b c : Option (List ℕ)) (part : List ℕ) → Took part More b c → Consumes b c part
took_consumes None c part took = tt
took_consumes (Some x) None part took = took
took_consumes (Some x) (Some y) part took = took

pub more_front : (max : ℕ) (a b c : Option (List ℕ)) (line new part : List ℕ) → Front max a b line → IsLine part → new ≡ line ++ take (max + 1 - length line) part → Took part More b c → Front max a c new
more_front max a b c line new part front plain more took =
    record {
      part = front.part ++ part;
      plain = All-append (λ b. b ≢ 10) front.part part front.plain plain;
      taken = Consumes-trans a b c front.part part front.taken (took_consumes b c part took);
      held = held_more max front.part part line new front.held more;
    }

-- ## The line whole

within : (max : ℕ) (part line : List ℕ) → line ≡ take (max + 1) part → length line ≤ max + 1
within max part line held = let long = length-take (max + 1) part in let same = ap length held in omega arith

-- the first of the lines, where they are known
first_given : (max : ℕ) (x line part : List ℕ) (others : List (List ℕ)) → lines_of x ≡ part ∷ others → line ≡ take (max + 1) part → Some line ≡ option_map (take (max + 1)) (slice_get (lines_of x) 0)
first_given max x line part others lines held = ap Some held ∙ sym (ap (λ ls. option_map (take (max + 1)) (slice_get ls 0)) lines)

others_left : (x part : List ℕ) (others : List (List ℕ)) → lines_of x ≡ part ∷ others → Some others ≡ Some (drop 1 (lines_of x))
others_left x part others lines = sym (ap (λ ls. Some (drop 1 ls)) lines)

fed : (max : ℕ) (a b c : Option (List ℕ)) (so_far part new : List ℕ) → Consumes a b so_far → Took part Feed b c → IsLine (so_far ++ part) → new ≡ take (max + 1) (so_far ++ part)
    → IfSome a (λ bytes. Some new ≡ option_map (take (max + 1)) (slice_get (lines_of bytes) 0)) × IfSome a (λ bytes. option_map lines_of c ≡ Some (drop 1 (lines_of bytes)))
fed max None b c so_far part new before took plain held = (tt, tt)
fed max (Some x) None c so_far part new before took plain held = absurd before
fed max (Some x) (Some y) None so_far part new before took plain held = absurd took
fed max (Some x) (Some y) (Some z) so_far part new before took plain held =
    let whole : x ≡ (so_far ++ part) ++ 10 ∷ z = before ∙ ap (λ l. so_far ++ l) took ∙ sym (append_assoc so_far part (10 ∷ z)) in
    let lines : lines_of x ≡ (so_far ++ part) ∷ lines_of z = ap lines_of whole ∙ ended (so_far ++ part) z plain in
    (first_given max x new (so_far ++ part) (lines_of z) lines held, others_left x (so_far ++ part) (lines_of z) lines)

-- a line that its line feed ends
pub feed_gives : (max : ℕ) (a b c : Option (List ℕ)) (line new part : List ℕ) → Front max a b line → IsLine part → new ≡ line ++ take (max + 1 - length line) part → Took part Feed b c → Gives max a c (Some new)
feed_gives max a b c line new part front plain more took =
    let held = held_more max front.part part line new front.held more in
    let both = fed max a b c front.part part new front.taken took (All-append (λ b. b ≢ 10) front.part part front.plain plain) held in
    record { line = both.0; rest = both.1; bound = within max (front.part ++ part) new held }

-- a line holds nothing only of nothing
none_held : (max : ℕ) (part new : List ℕ) → new ≡ take (max + 1) part → new ≡ [] → part ≡ []
none_held max [] new held none = refl
none_held max (b ∷ part) new held none =
    let long = length-take (max + 1) (b ∷ part) in
    let same = ap length (sym held ∙ none) in
    absurd (omega arith)

some_held : (max : ℕ) (part new : List ℕ) → new ≡ take (max + 1) part → new ≢ [] → part ≢ []
some_held max [] new held some = absurd (some (held ∙ take_nothing (max + 1)))
some_held max (b ∷ part) new held some = λ e. cc

-- all bytes, where they are known
whole_read : (x y z so_far part : List ℕ) → Consumes (Some x) (Some y) so_far → Took part End (Some y) (Some z) → x ≡ so_far ++ part
whole_read x y z so_far part before took = before ∙ ap (λ l. so_far ++ l) (took.0 ∙ sym took.1)

-- what stands at the end, and is not empty, is a line
ended_some : (max : ℕ) (a b c : Option (List ℕ)) (so_far part new : List ℕ) → Consumes a b so_far → Took part End b c → IsLine (so_far ++ part) → new ≢ [] → new ≡ take (max + 1) (so_far ++ part)
    → IfSome a (λ bytes. Some new ≡ option_map (take (max + 1)) (slice_get (lines_of bytes) 0)) × IfSome a (λ bytes. option_map lines_of c ≡ Some (drop 1 (lines_of bytes)))
ended_some max None b c so_far part new before took plain some held = (tt, tt)
ended_some max (Some x) None c so_far part new before took plain some held = absurd before
ended_some max (Some x) (Some y) None so_far part new before took plain some held = absurd took
ended_some max (Some x) (Some y) (Some z) so_far part new before took plain some held =
    let whole = so_far ++ part in
    let lines : lines_of x ≡ whole ∷ [] = ap lines_of (whole_read x y z so_far part before took) ∙ last whole plain (some_held max whole new held some) in
    (first_given max x new whole [] lines held, ap (λ l. Some (lines_of l)) took.2 ∙ others_left x whole [] lines)

ended_none : (max : ℕ) (a b c : Option (List ℕ)) (so_far part : List ℕ) → Consumes a b so_far → Took part End b c → so_far ++ part ≡ []
    → IfSome a (λ bytes. None ≡ option_map (take (max + 1)) (slice_get (lines_of bytes) 0)) × IfSome a (λ bytes. option_map lines_of c ≡ Some (drop 1 (lines_of bytes)))
ended_none max None b c so_far part before took none = (tt, tt)
ended_none max (Some x) None c so_far part before took none = absurd before
ended_none max (Some x) (Some y) None so_far part before took none = absurd took
ended_none max (Some x) (Some y) (Some z) so_far part before took none =
    let nothing : x ≡ [] = whole_read x y z so_far part before took ∙ none in
    (sym (ap (λ l. option_map (take (max + 1)) (slice_get (lines_of l) 0)) nothing), ap (λ l. Some (lines_of l)) took.2 ∙ sym (ap (λ l. Some (drop 1 (lines_of l))) nothing))

-- the end of the bytes
pub end_gives : (max : ℕ) (a b c : Option (List ℕ)) (line new part : List ℕ) (next : Option (Vec ℕ Global)) → Front max a b line → IsLine part → new ≡ line ++ take (max + 1 - length line) part → Took part End b c
    → MatchOption next (new ≡ []) (λ v. (v.items ≡ new) × (new ≢ [])) → Gives max a c (option_map (λ v. v.items) next)
end_gives max a b c line new part None front plain more took is =
    let held = held_more max front.part part line new front.held more in
    let both = ended_none max a b c front.part part front.taken took (none_held max (front.part ++ part) new held is) in
    record { line = both.0; rest = both.1; bound = tt }
end_gives max a b c line new part (Some v) front plain more took is =
    let held = held_more max front.part part line new front.held more in
    let whole = All-append (λ b. b ≢ 10) front.part part front.plain plain in
    let given : v.items ≡ take (max + 1) (front.part ++ part) = is.0 ∙ held in
    let both = ended_some max a b c front.part part v.items front.taken took whole (λ e. is.1 (sym is.0 ∙ e)) given in
    record { line = both.0; rest = both.1; bound = within max (front.part ++ part) v.items given }

-- ## What is told

pub line_told : (old : Option (List ℕ)) (next : Option (List ℕ)) (max : ℕ) (new : Option (List ℕ)) → Gives max old new next → IfSome (option_map lines_of old) (λ lines. next ≡ option_map (take (max + 1)) (slice_get lines 0))
line_told None next max new gives = tt
line_told (Some x) next max new gives = gives.line
