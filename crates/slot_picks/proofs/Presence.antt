-- The lives that are present in their slots.
use Rattle.std.proofs.Common.{◌≡◌, ◌≢◌, ℕ, zero, suc, ◌+◌, ◌<◌, Bool, true, false, ◌||◌, List, [], ◌∷◌, map, refl, sym, ap, ◌∙◌, arith, Some, eqb-true, eq-eqb}
use Rattle.std.specs.Prelude.{if◌then◌else◌, nat_eq, slice_get, slice_set}
use Rattle.life_laws.specs.Chains.{Chains, IsChain, listed}
use Rattle.life_laws.specs.Slots.{IsTail, has}
use Rattle.life_laws.proofs.Chaining.{chain_set, chain_tail}
use Rattle.life_laws.proofs.Housing.{chain_in}
use Rattle.slot_picks.specs.Lives.{is_present, present_of}

no_true : false ≡ true → ⊥
no_true e = cc

either : (a b : Bool) → (a || b) ≡ false → (a ≡ false) × (b ≡ false)
either true b e = cc
either false b e = (refl, e)

-- ## A slot and the life that is present there

-- a life that is present is so in a slot
pub present_at : (x : ℕ) (cs : List (List ℕ)) → is_present x cs ≡ true → (i : ℕ) × (slice_get (map present_of cs) i ≡ Some x)
present_at x [] e = absurd (no_true e)
present_at x (c ∷ cs) e = by (nat_eq (present_of c) x) refl e (present_at x cs)
  where
    by : (b : Bool) → nat_eq (present_of c) x ≡ b → (b || is_present x cs) ≡ true → (is_present x cs ≡ true → (i : ℕ) × (slice_get (map present_of cs) i ≡ Some x)) → (i : ℕ) × (slice_get (map present_of (c ∷ cs)) i ≡ Some x)
    by true f g rest = (0, ap Some (eqb-true (present_of c) x f))
    by false f g rest = let there = rest g in (suc there.0, there.1)

-- its slot is its home
pub present_home : (homes : List ℕ) (born v i x : ℕ) (cs : List (List ℕ)) → Chains homes born v cs → slice_get (map present_of cs) i ≡ Some x → slice_get homes x ≡ Some (v + i)
present_home homes born v i x [] h e = cc
present_home homes born v i x ([] ∷ cs) h e = let some : 0 < 0 = h.0.some in absurd (omega arith)
present_home homes born v zero x ((y ∷ ys) ∷ cs) h e =
    let same : y ≡ x = cc in
    ap (slice_get homes) (sym same) ∙ h.0.home.0 ∙ ap Some (let n : v ≡ v + 0 = omega arith in n)
present_home homes born v (suc i) x ((y ∷ ys) ∷ cs) h e =
    present_home homes born (v + 1) i x cs h.1 e ∙ ap Some (let n : v + 1 + i ≡ v + suc i = omega arith in n)

present_in : (w v : ℕ) (vs : List ℕ) (cs : List (List ℕ)) → slice_get cs w ≡ Some (v ∷ vs) → slice_get (map present_of cs) w ≡ Some v
present_in w v vs [] at = cc
present_in zero v vs (c ∷ cs) at = let same : c ≡ v ∷ vs = cc in ap (λ y. Some (present_of y)) same
present_in (suc w) v vs (c ∷ cs) at = present_in w v vs cs at

more : (a b c : Bool) → (if b then true else c) ≡ true → (if (if a then true else b) then true else c) ≡ true
more true b c h = refl
more false b c h = h

under : (a : Bool) {b c : Bool} → (b ≡ true → c ≡ true) → (if a then true else b) ≡ true → (if a then true else c) ≡ true
under true f h = refl
under false f h = f h

yes : (a b : Bool) → (if (if a then true else true) then true else b) ≡ true
yes true b = refl
yes false b = refl

behind : (a b : Bool) → b ≡ true → (if a then true else b) ≡ true
behind true b h = refl
behind false b h = h

-- ## A swap is taken

module _ (w v u : ℕ) (vs : List ℕ) where
  -- who is present in other slots stays so
  pub present_other : (i x : ℕ) (cs : List (List ℕ)) → w ≢ i → slice_get (map present_of (slice_set cs w (u ∷ vs))) i ≡ Some x → slice_get (map present_of cs) i ≡ Some x
  present_other i x cs ne e = by w i cs ne e
    where
      by : (w i : ℕ) (cs : List (List ℕ)) → w ≢ i → slice_get (map present_of (slice_set cs w (u ∷ vs))) i ≡ Some x → slice_get (map present_of cs) i ≡ Some x
      by w i [] ne e = e
      by zero zero (c ∷ cs) ne e = absurd (ne refl)
      by zero (suc i) (c ∷ cs) ne e = e
      by (suc w) zero (c ∷ cs) ne e = e
      by (suc w) (suc i) (c ∷ cs) ne e = by w i cs (λ f. ne (ap suc f)) e

  -- and in its own there is the next
  pub present_next : (x : ℕ) (cs : List (List ℕ)) → slice_get (map present_of (slice_set cs w (u ∷ vs))) w ≡ Some x → u ≡ x
  present_next x cs e = by w cs e
    where
      by : (w : ℕ) (cs : List (List ℕ)) → slice_get (map present_of (slice_set cs w (u ∷ vs))) w ≡ Some x → u ≡ x
      by w [] e = cc
      by zero (c ∷ cs) e = cc
      by (suc w) (c ∷ cs) e = by w cs e

  -- who is not present then, was so only as the one that ended, and is not the next
  pub present_back : (x : ℕ) (cs : List (List ℕ)) → slice_get cs w ≡ Some (v ∷ u ∷ vs) → nat_eq v x ≡ false → is_present x (slice_set cs w (u ∷ vs)) ≡ false → (u ≢ x) × (is_present x cs ≡ false)
  present_back x cs at ne none = by w cs at none
    where
      by : (w : ℕ) (cs : List (List ℕ)) → slice_get cs w ≡ Some (v ∷ u ∷ vs) → is_present x (slice_set cs w (u ∷ vs)) ≡ false → (u ≢ x) × (is_present x cs ≡ false)
      by w [] at none = cc
      by zero (c ∷ cs) at none =
          let same : c ≡ v ∷ u ∷ vs = cc in
          let two = either (nat_eq u x) (is_present x cs) none in
          (λ e. no_true (sym two.0 ∙ eq-eqb u x e), ap (λ y. nat_eq (present_of y) x || is_present x cs) same ∙ ap (λ b. b || is_present x cs) ne ∙ two.1)
      by (suc w) (c ∷ cs) at none =
          let two = either (nat_eq (present_of c) x) (is_present x (slice_set cs w (u ∷ vs))) none in
          let more = by w cs at two.1 in
          (more.0, ap (λ b. b || is_present x cs) two.0 ∙ more.1)

  -- who is in a slot then was there
  pub listed_back : (x : ℕ) (cs : List (List ℕ)) → slice_get cs w ≡ Some (v ∷ u ∷ vs) → listed x (slice_set cs w (u ∷ vs)) ≡ true → listed x cs ≡ true
  listed_back x cs at there = by w cs at there
    where
      by : (w : ℕ) (cs : List (List ℕ)) → slice_get cs w ≡ Some (v ∷ u ∷ vs) → listed x (slice_set cs w (u ∷ vs)) ≡ true → listed x cs ≡ true
      by w [] at there = cc
      by zero (c ∷ cs) at there =
          let same : c ≡ v ∷ u ∷ vs = cc in
          ap (λ y. if has x y then true else listed x cs) same ∙ more (nat_eq v x) (has x (u ∷ vs)) (listed x cs) there
      by (suc w) (c ∷ cs) at there = under (has x c) (by w cs at) there

  pub waiting_listed : (cs : List (List ℕ)) → slice_get cs w ≡ Some (v ∷ u ∷ vs) → listed u cs ≡ true
  waiting_listed cs at = by w cs at
    where
      by : (w : ℕ) (cs : List (List ℕ)) → slice_get cs w ≡ Some (v ∷ u ∷ vs) → listed u cs ≡ true
      by w [] at = cc
      by zero (c ∷ cs) at =
          let same : c ≡ v ∷ u ∷ vs = cc in
          ap (λ y. if has u y then true else listed u cs) same ∙ ap (λ b. if (if nat_eq v u then true else (if b then true else has u vs)) then true else listed u cs) (eq-eqb u u refl) ∙ yes (nat_eq v u) (listed u cs)
      by (suc w) (c ∷ cs) at = behind (has u c) (listed u cs) (by w cs at)

pub present_listed : (w v : ℕ) (vs : List ℕ) (cs : List (List ℕ)) → slice_get cs w ≡ Some (v ∷ vs) → listed v cs ≡ true
present_listed w v vs [] at = cc
present_listed zero v vs (c ∷ cs) at =
    let same : c ≡ v ∷ vs = cc in
    ap (λ y. if has v y then true else listed v cs) same ∙ ap (λ b. if (if b then true else has v vs) then true else listed v cs) (eq-eqb v v refl)
present_listed (suc w) v vs (c ∷ cs) at = behind (has v c) (listed v cs) (present_listed w v vs cs at)

-- two slots have not one life
pub same_home : (homes : List ℕ) (born w i v x : ℕ) (cs : List (List ℕ)) → Chains homes born 0 cs → slice_get (map present_of cs) w ≡ Some v → slice_get (map present_of cs) i ≡ Some x → v ≡ x → w ≡ i
same_home homes born w i v x cs h e f same =
    let g : slice_get homes x ≡ Some (0 + w) = ap (slice_get homes) (sym same) ∙ present_home homes born 0 w v cs h e in
    let k : slice_get homes x ≡ Some (0 + i) = present_home homes born 0 i x cs h f in
    let two : Some (0 + w) ≡ Some (0 + i) = sym g ∙ k in
    let n : 0 + w ≡ 0 + i = cc in
    omega (arith, n)

-- the life whose swap waits is not present
pub not_present : (homes : List ℕ) (born w v u : ℕ) (vs : List ℕ) (cs : List (List ℕ)) → Chains homes born 0 cs → slice_get cs w ≡ Some (v ∷ u ∷ vs) → is_present u cs ≡ false
not_present homes born w v u vs cs h at = by (is_present u cs) refl
  where
    chain : IsChain homes born w (v ∷ u ∷ vs)
    chain = chain_in homes born 0 w w cs (v ∷ u ∷ vs) (omega arith) at h

    first : slice_get (map present_of cs) w ≡ Some v
    first = present_in w v (u ∷ vs) cs at

    by : (b : Bool) → is_present u cs ≡ b → b ≡ false
    by false e = refl
    by true e =
        let there = present_at u cs e in
        let home : slice_get homes u ≡ Some (0 + there.0) = present_home homes born 0 there.0 u cs h there.1 in
        let two : Some w ≡ Some (0 + there.0) = sym chain.home.1.0 ∙ home in
        let n : w ≡ 0 + there.0 = cc in
        let i : there.0 ≡ w = omega (arith, n) in
        let both : Some v ≡ Some u = sym first ∙ ap (slice_get (map present_of cs)) (sym i) ∙ there.1 in
        let same : v ≡ u = cc in
        let less : v < u = chain.rising.0.0 in
        absurd (omega (arith, same, less))

-- a life less in a slot
pub chains_less : (homes : List ℕ) (born w v u : ℕ) (vs : List ℕ) (cs : List (List ℕ)) → Chains homes born 0 cs → slice_get cs w ≡ Some (v ∷ u ∷ vs) → Chains homes born 0 (slice_set cs w (u ∷ vs))
chains_less homes born w v u vs cs h at =
    let chain = chain_in homes born 0 w w cs (v ∷ u ∷ vs) (omega arith) at h in
    let tail : IsTail (v ∷ u ∷ vs) (u ∷ vs) = record { ended = v ∷ []; are = refl } in
    chain_set homes born 0 w w cs (u ∷ vs) (omega arith) (chain_tail homes born w (v ∷ u ∷ vs) (u ∷ vs) tail (omega arith) chain) h
