-- The borders of a text, one after the other.
use Rattle.std.proofs.Common.{◌≡◌, ℕ, ◌+◌, ◌-◌, ◌<◌, ◌≤◌, List, [], ◌∷◌, ◌++◌, length, get_or, sym, ap, subst, ◌∙◌, arith, inl, inr}
use Rattle.std.proofs.lemmas.Bool.{cases_eq, cases_lt}
use Rattle.std.proofs.lemmas.List.{get_or_append_left, get_or_push, length_push}
use Rattle.text_search.specs.Borders.{Agrees, AreBorders, IsBorder}
use Rattle.text_search.proofs.Shifts.{between, moved, one_more}

-- n borders are found, q units stand at the front and at the end of the first n, and of none that are longer does the next unit agree
pub record IsBuilding (x bs : List ℕ) (n q : ℕ) : Type 0 where
  pub many : length bs ≡ n
  pub some : q < n
  pub few : n ≤ length x
  pub borders : AreBorders x bs
  pub here : Agrees x x (n - q) q
  pub none : (d : ℕ) → 0 < d → d + q < n → Agrees x x d (n + 1 - d) → ⊥

module _ (x : List ℕ) where
  more_borders : (bs : List ℕ) (n b : ℕ) → length bs ≡ n → AreBorders x bs → IsBorder x (n + 1) b → AreBorders x (bs ++ b ∷ [])
  more_borders bs n b many all border k pos le = elim (cases_eq k (n + 1)) [
    | inl last ↦
        (let e : length bs ≡ k - 1 = omega (arith, many, last) in
        subst (λ v. IsBorder x k v) (sym (get_or_push bs b 0 (k - 1) e)) (subst (λ i. IsBorder x i b) (sym last) border))
    | inr other ↦
        (let less : k ≤ length bs = omega (arith, le, length_push bs b, many, other) in
        subst (λ v. IsBorder x k v) (sym (get_or_append_left bs (b ∷ []) 0 (k - 1) (omega (arith, less, pos)))) (all k pos less))
  ]

  fewer : (d n m : ℕ) → m ≤ n → Agrees x x d n → Agrees x x d m
  fewer d n m le agrees j lt = agrees j (omega (arith, lt, le))

  -- at first one unit, which has none
  pub starts : 0 < length x → IsBuilding x (0 ∷ []) 1 0
  starts pos = record {
    many = omega arith;
    some = omega arith;
    few = omega (arith, pos);
    borders = more_borders [] 0 0 (omega arith) (λ n more le. absurd (omega (arith, more, le))) (record {
      shorter = omega arith;
      stands = λ j lt. absurd (omega (arith, lt));
      longest = λ d more less agrees. omega (arith, more, less);
    });
    here = λ j lt. absurd (omega (arith, lt));
    none = λ d more less agrees. omega (arith, more, less);
  }

  -- the next unit agrees
  pub extends : (bs : List ℕ) (n q : ℕ) → IsBuilding x bs n q → n < length x → get_or x q 0 ≡ get_or x n 0 → IsBuilding x (bs ++ (q + 1) ∷ []) (n + 1) (q + 1)
  extends bs n q b lt same =
      let at : n ≡ (n - q) + q = omega (arith, b.some) in
      let there : n - q ≡ n + 1 - (q + 1) = omega (arith, b.some) in
      let here : Agrees x x (n + 1 - (q + 1)) (q + 1) = subst (λ i. Agrees x x i (q + 1)) there (one_more x x (n - q) q b.here (same ∙ ap (λ i. get_or x i 0) at)) in
      record {
        many = length_push bs (q + 1) ∙ ap (λ i. i + 1) b.many;
        some = omega (arith, b.some);
        few = omega (arith, lt);
        borders = more_borders bs n (q + 1) b.many b.borders (record {
          shorter = omega (arith, b.some);
          stands = here;
          longest = λ d more less agrees. b.none d more (omega (arith, less)) agrees;
        });
        here = here;
        none = λ d more less agrees. b.none d more (omega (arith, less)) (fewer d (n + 1 + 1 - d) (n + 1 - d) (omega arith) agrees);
      }

  -- it agrees with none
  pub lacks : (bs : List ℕ) (n q : ℕ) → IsBuilding x bs n q → n < length x → q ≡ 0 → (get_or x q 0 ≡ get_or x n 0 → ⊥) → IsBuilding x (bs ++ 0 ∷ []) (n + 1) 0
  lacks bs n q b lt zeroth differs =
      let longest : (d : ℕ) → 0 < d → d + 0 < n + 1 → Agrees x x d (n + 1 - d) → ⊥ =
      λ d more less agrees. elim (cases_lt d n) [
        | inl below ↦ b.none d more (omega (arith, below, zeroth)) agrees
        | inr last ↦ differs (agrees q (omega (arith, zeroth, less)) ∙ (let e : d + q ≡ n = omega (arith, last, less, zeroth) in ap (λ i. get_or x i 0) e))
      ] in
      record {
        many = length_push bs 0 ∙ ap (λ i. i + 1) b.many;
        some = omega arith;
        few = omega (arith, lt);
        borders = more_borders bs n 0 b.many b.borders (record {
          shorter = omega arith;
          stands = λ j less. absurd (omega (arith, less));
          longest = longest;
        });
        here = λ j less. absurd (omega (arith, less));
        none = λ d more less agrees. longest d more less (fewer d (n + 1 + 1 - d) (n + 1 - d) (omega arith) agrees);
      }

  -- a shorter one is tried
  pub falls : (bs : List ℕ) (n q : ℕ) → IsBuilding x bs n q → 0 < q → (get_or x q 0 ≡ get_or x n 0 → ⊥) → IsBuilding x bs n (get_or bs (q - 1) 0)
  falls bs n q b pos differs =
      let s : ℕ = get_or bs (q - 1) 0 in
      let border : IsBorder x q s = b.borders q pos (omega (arith, b.many, b.some)) in
      let there : (n - q) + (q - s) ≡ n - s = omega (arith, b.some, border.shorter) in
      record {
        many = b.many;
        some = omega (arith, b.some, border.shorter);
        few = b.few;
        borders = b.borders;
        here = subst (λ i. Agrees x x i s) there (moved x x (n - q) q s b.here border);
        none = λ d more less agrees. elim (cases_lt d (n - q)) [
          | inl below ↦ b.none d more (omega (arith, below)) agrees
          | inr least ↦ elim (cases_eq d (n - q)) [
            | inl same ↦ differs (agrees q (omega (arith, same, b.some)) ∙ (let e : d + q ≡ n = omega (arith, same, b.some) in ap (λ i. get_or x i 0) e))
            | inr other ↦ between x x (n - q) q s d (n + 1 - d) b.here border (omega (arith, least, other)) (omega (arith, less, b.some)) (omega (arith, less, b.some)) agrees
          ]
        ];
      }

  -- how far it is
  pub at_length : (bs : List ℕ) (b n q : ℕ) → length bs ≡ n → IsBuilding x (bs ++ b ∷ []) (n + 1) q → IsBuilding x (bs ++ b ∷ []) (length (bs ++ b ∷ [])) q
  at_length bs b n q many building = subst (λ i. IsBuilding x (bs ++ b ∷ []) i q) (sym (length_push bs b ∙ ap (λ i. i + 1) many)) building
