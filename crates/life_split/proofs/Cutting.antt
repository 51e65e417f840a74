-- Lives that are found one after the other.
use Rattle.std.proofs.Common.{◌≡◌, ℕ, suc, ◌+◌, ◌-◌, ◌<◌, ◌≤◌, Bool, true, false, if◌then◌else◌, List, [], ◌∷◌, ◌++◌, length, get_or, drop, Some, refl, sym, ◌∙◌, ap, arith}
use Rattle.std.proofs.lemmas.List.{append_assoc, drop_all}
use Rattle.std.specs.Option.{unwrap_or}
use Rattle.life_split.specs.declared.items.Life.{Life}
use Rattle.life_split.specs.declared.items.LifeItem.{LifeItem}
use Rattle.life_split.specs.Cut.{cut, is_swap, swaps_from}
use Rattle.life_split.specs.Steps.{cut_on, next_from, with_last, with_life}

-- where the life after the last one begins
pub next_from-push : (lives : List Life) (from to n : ℕ) → next_from (lives ++ record { from = from; to = to; until = Some n } ∷ []) ≡ n
next_from-push [] from to n = refl
next_from-push (first ∷ []) from to n = refl
next_from-push (first ∷ life ∷ lives) from to n = next_from-push (life ∷ lives) from to n

-- the lives of slot w that were found, and those that are still to come in the items from position n on, are all
abbrev pub found : ℕ → ℕ → List LifeItem → List Life → ℕ → List Life
found w n rest lives end = lives ++ cut (next_from lives) (swaps_from w n rest) end

no_swap : (w n : ℕ) (item : LifeItem) (rest : List LifeItem) → is_swap w item ≡ false → swaps_from w n (item ∷ rest) ≡ swaps_from w (n + 1) rest
no_swap w n item rest other = ap (λ b. if b then n ∷ swaps_from w (n + 1) rest else swaps_from w (n + 1) rest) other

one_swap : (w n : ℕ) (item : LifeItem) (rest : List LifeItem) → is_swap w item ≡ true → swaps_from w n (item ∷ rest) ≡ n ∷ swaps_from w (n + 1) rest
one_swap w n item rest is = ap (λ b. if b then n ∷ swaps_from w (n + 1) rest else swaps_from w (n + 1) rest) is

step : (w n : ℕ) (item : LifeItem) (rest : List LifeItem) (lives : List Life) (end : ℕ) (b : Bool) → is_swap w item ≡ b
    → found w (n + 1) rest (if b then with_life n (Some (n + 1)) lives else lives) end ≡ found w n (item ∷ rest) lives end
step w n item rest lives end true is =
    let life : Life = record { from = next_from lives; to = n; until = Some (n + 1) } in
    ap (λ from. (lives ++ life ∷ []) ++ cut from (swaps_from w (n + 1) rest) end) (next_from-push lives (next_from lives) n (n + 1))
    ∙ (append_assoc lives (life ∷ []) (cut (n + 1) (swaps_from w (n + 1) rest) end)
    ∙ ap (λ ps. lives ++ cut (next_from lives) ps end) (sym (one_swap w n item rest is)))
step w n item rest lives end false other = ap (λ ps. lives ++ cut (next_from lives) ps end) (sym (no_swap w n item rest other))

-- one item more was looked at
pub found_more : (w n : ℕ) (item : LifeItem) (items rest : List LifeItem) (old new total : List Life) (end : ℕ)
    → items ≡ item ∷ rest → new ≡ cut_on w n item old → found w n items old end ≡ total → found w (n + 1) rest new end ≡ total
found_more w n item items rest old new total end are is so_far =
    ap (λ (lives : List Life). found w (n + 1) rest lives end) is ∙ (step w n item rest old end (is_swap w item) refl ∙ (ap (λ (is : List LifeItem). found w n is old end) (sym are) ∙ so_far))

-- and all were
pub found_all : (w n : ℕ) (items : List LifeItem) (lives total : List Life) (end : ℕ) → length items ≤ n → found w n (drop n items) lives end ≡ total → with_last end lives ≡ total
found_all w n items lives total end past so_far = ap (λ (is : List LifeItem). found w n is lives end) (sym (drop_all n items past)) ∙ so_far

-- where the last life ended
pub next_from-last : (lives : List Life) (life : Life) → 0 < length lives → life ≡ get_or lives (length lives - 1) life → next_from lives ≡ unwrap_or life.until 0
next_from-last [] life some is = absurd (omega arith)
next_from-last (first ∷ []) life some is = ap (λ (l : Life). unwrap_or l.until 0) (sym is)
next_from-last (first ∷ second ∷ lives) life some is = next_from-last (second ∷ lives) life (omega arith) (is ∙ nearer first second lives life)
  where
    nearer : (first second : Life) (lives : List Life) (life : Life) → get_or (first ∷ second ∷ lives) (length (first ∷ second ∷ lives) - 1) life ≡ get_or (second ∷ lives) (length (second ∷ lives) - 1) life
    nearer first second lives life = ap (λ n. get_or (first ∷ second ∷ lives) n life) (let e : length (first ∷ second ∷ lives) - 1 ≡ suc (length (second ∷ lives) - 1) = omega arith in e)
