-- The slot that gets a post.
use Rattle.std.proofs.Common.{◌≡◌, ℕ, ◌<◌, Bool, true, false, ◌&&◌, nat_eq, List, [], length, position, Some, None, refl, sym, ◌∙◌, ap, subst, inl, inr, arith}
use Rattle.std.proofs.lemmas.Grind.{common_steps}
use Rattle.std.proofs.lemmas.Bool.{cases_lt}
use Rattle.std.proofs.lemmas.Bool.Decides.{nat_tests}
use Rattle.std.proofs.lemmas.List.Quantifiers.{position-Some}
use Rattle.std.proofs.lemmas.List.Sums.{fails_before_first}
use Rattle.std.proofs.lemmas.Map.Keys.{apart_from_distinct}
use Rattle.std.proofs.lemmas.Slice.Eq.{bytes_eq-Decides}
use Rattle.std.specs.List.{IsDistinct, position_or_len}
use Rattle.std.specs.Str.{bytes_eq}
use Rattle.post_rounds.specs.News.{is_declared, name}
use Rattle.post_rounds.specs.Events.{is_named, is_received}
use Rattle.post_rounds.proofs.Tests.{fails, and_false}

-- two slots of different numbers, and one of them has this name
other : (names : List (List ℕ)) (to : List ℕ) (r w : ℕ) → bytes_eq (name names r) (name names w) ≡ false → bytes_eq (name names r) to ≡ true → bytes_eq (name names w) to ≡ false
other names to r w apart found =
    fails (bytes_eq (name names w) to) (λ also.
    let same : name names r ≡ name names w = (bytes_eq-Decides (name names r) to).0 found ∙ sym ((bytes_eq-Decides (name names w) to).0 also) in
    let met : bytes_eq (name names r) (name names w) ≡ true = (bytes_eq-Decides (name names r) (name names w)).1 same in
    cc)

turned : (x y : List ℕ) → bytes_eq x y ≡ false → bytes_eq y x ≡ false
turned x y apart = fails (bytes_eq y x) (λ met. let also : bytes_eq x y ≡ true = (bytes_eq-Decides x y).1 (sym ((bytes_eq-Decides y x).0 met)) in cc)

apart : (names : List (List ℕ)) (r w : ℕ) → IsDistinct bytes_eq names → r < length names → w < length names → nat_eq r w ≡ false → bytes_eq (name names r) (name names w) ≡ false
apart names r w distinct in_r in_w differ =
    elim (cases_lt r w) as (λ _. bytes_eq (name names r) (name names w) ≡ false) [
      | inl lt ↦ apart_from_distinct bytes_eq names r w [] distinct lt in_w
      | inr ge ↦
          elim (cases_lt w r) as (λ _. bytes_eq (name names r) (name names w) ≡ false) [
            | inl lt ↦ turned (name names w) (name names r) (apart_from_distinct bytes_eq names w r [] distinct lt in_r)
            | inr le ↦ (let same : r ≡ w = omega arith in let met : nat_eq r w ≡ true = grind (arith, nat_tests) in absurd (cc))
          ]
    ]

same_number : (r w : ℕ) → nat_eq r w ≡ true → r ≡ w
same_number r w met = grind (arith, nat_tests)

by_number : (channels : List (ℕ × ℕ)) (names : List (List ℕ)) (to : List ℕ) (s r w : ℕ) (b : Bool) → nat_eq r w ≡ b → IsDistinct bytes_eq names → r < length names → w < length names → bytes_eq (name names r) to ≡ true
    → is_received channels names s w to ≡ (is_declared channels s r && b)
by_number channels names to s r w true met distinct in_r in_w found =
    subst (λ v. (is_declared channels s v && bytes_eq (name names v) to) ≡ (is_declared channels s r && true)) (same_number r w met) (ap (λ b. is_declared channels s r && b) found)
by_number channels names to s r w false differ distinct in_r in_w found =
    ap (λ b. is_declared channels s w && b) (other names to r w (apart names r w distinct in_r in_w differ) found) ∙ (and_false (is_declared channels s w) ∙ sym (and_false (is_declared channels s r)))

-- the slot of this name alone gets the post, where the channel is there
pub gets : (channels : List (ℕ × ℕ)) (names : List (List ℕ)) (to : List ℕ) (s r w : ℕ) → IsDistinct bytes_eq names → w < length names → position (is_named to) names ≡ Some r
    → is_received channels names s w to ≡ (is_declared channels s r && nat_eq r w)
gets channels names to s r w distinct in_w found =
    let at = position-Some (is_named to) names r [] found in
    by_number channels names to s r w (nat_eq r w) refl distinct at.0 in_w at.1

pub within : (names : List (List ℕ)) (to : List ℕ) (r : ℕ) → position (is_named to) names ≡ Some r → r < length names
within names to r found = let at = position-Some (is_named to) names r [] found in at.0

past : (p : List ℕ → Bool) (xs : List (List ℕ)) (k : ℕ) → position p xs ≡ None → k < length xs → k < position_or_len p xs
past p xs k none within = grind (arith, common_steps, nat_tests)

-- no slot has this name
pub unnamed : (channels : List (ℕ × ℕ)) (names : List (List ℕ)) (to : List ℕ) (s w : ℕ) → w < length names → position (is_named to) names ≡ None → is_received channels names s w to ≡ false
unnamed channels names to s w in_w none =
    ap (λ b. is_declared channels s w && b) (fails_before_first (is_named to) names w [] (past (is_named to) names w none in_w)) ∙ and_false (is_declared channels s w)
