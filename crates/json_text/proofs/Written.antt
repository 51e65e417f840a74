-- What is written at once and what is written piece by piece.
use Rattle.std.proofs.Common.{◌≡◌, ℕ, ◌+◌, ◌<◌, List, [], ◌∷◌, ◌++◌, length, if◌then◌else◌, sym, ap, ◌∙◌, arith, append_assoc, append-nil, length-append, lt-ltb}
use Rattle.std.specs.Prelude.{nat_lt}
use Rattle.widget_meaning.specs.Limits.{max_text}
use Rattle.widget_meaning.specs.JsonTexts.{TooLong, Written, Wrote, quoted_text, write}
use Rattle.json_text.specs.Names.{inside}

-- a text, unless it is too long
abbrev whole : List ℕ → Written
whole t = if nat_lt max_text (length t) then TooLong else Wrote t

write_whole : (t more : List ℕ) → write t more ≡ whole (t ++ more)
write_whole t more = ap (λ n. if nat_lt max_text n then TooLong else Wrote (t ++ more)) (sym (length-append t more))

-- only all that is written matters
pub write_same : (t more u rest : List ℕ) → t ++ more ≡ u ++ rest → write t more ≡ write u rest
write_same t more u rest e = write_whole t more ∙ ap whole e ∙ sym (write_whole u rest)

-- what has grown too long stays so
pub too_long : (t more now rest : List ℕ) → now ++ rest ≡ t ++ more → 65536 < length now → TooLong ≡ write t more
too_long t more now rest e long =
    let size : 65536 < length t + length more = omega (arith, ap length e, length-append now rest, length-append t more, long) in
    sym (ap (λ b. if b then TooLong else Wrote (t ++ more)) (lt-ltb 65536 (length t + length more) size))

-- the last units that were left
pub write_last : (t more now rest close : List ℕ) → now ++ rest ≡ t ++ more → rest ≡ [] → write now close ≡ write t (more ++ close)
write_last t more now rest close e none =
    write_same now close t (more ++ close)
    (ap (λ l. l ++ close) (sym (append-nil now) ∙ ap (λ l. now ++ l) (sym none) ∙ e) ∙ append_assoc t more close)

-- behind an opening quote
pub write_quoted : (t now us : List ℕ) → quoted_text us ≡ 34 ∷ (inside us ++ 34 ∷ []) → now ≡ t ++ 34 ∷ [] → write now (inside us ++ 34 ∷ []) ≡ write t (quoted_text us)
write_quoted t now us is e =
    write_same now (inside us ++ 34 ∷ []) t (quoted_text us)
    (ap (λ l. l ++ (inside us ++ 34 ∷ [])) e ∙ append_assoc t (34 ∷ []) (inside us ++ 34 ∷ []) ∙ ap (λ l. t ++ l) (sym is))

-- behind what opens a name
pub write_name : (t now us before : List ℕ) (rest : List ℕ) → quoted_text us ≡ 34 ∷ (inside us ++ 34 ∷ []) → now ≡ t ++ (before ++ 34 ∷ []) → rest ≡ before ++ (quoted_text us ++ 58 ∷ [])
    → write now (inside us ++ 34 ∷ 58 ∷ []) ≡ write t rest
write_name t now us before rest is e all =
    let ends : (34 ∷ []) ++ (inside us ++ 34 ∷ 58 ∷ []) ≡ quoted_text us ++ 58 ∷ [] = ap (λ l. 34 ∷ l) (sym (append_assoc (inside us) (34 ∷ []) (58 ∷ []))) ∙ ap (λ l. l ++ 58 ∷ []) (sym is) in
    write_same now (inside us ++ 34 ∷ 58 ∷ []) t rest
    (ap (λ l. l ++ (inside us ++ 34 ∷ 58 ∷ [])) e ∙ append_assoc t (before ++ 34 ∷ []) (inside us ++ 34 ∷ 58 ∷ [])
    ∙ ap (λ l. t ++ l) (append_assoc before (34 ∷ []) (inside us ++ 34 ∷ 58 ∷ []) ∙ ap (λ l. before ++ l) ends ∙ sym all))
