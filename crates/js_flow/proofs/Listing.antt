-- The elements of lists of parts.
use Rattle.std.proofs.Common.{◌≡◌, ℕ, zero, suc, ◌+◌, ◌<◌, ◌≤◌, ◌-◌, ◌^◌, List, [], ◌∷◌, ◌++◌, length, refl, sym, ap, ◌∙◌, subst, Option, Some, None, arith, slice_get, map}
use Rattle.std.specs.Prelude.{All, IfSome, MatchOption, drop}
use Rattle.js_tree.specs.declared.nodes.StmtId.{StmtId}
use Rattle.js_tree.specs.Plain.{OptionalExpr}
use Rattle.js_tree.specs.Lists.{stmt_list}
use Rattle.js_tree.specs.Forest.{Forest, stmt_at, stmts_at}
use Rattle.widget_meaning.specs.Statements.{Case, bodies}

-- the element at a place, and those after it
module _ {X Y : Type 0} (g : X → Y) (P : X → Type 0) where
  step : (ids : List X) (n : ℕ) → All P ids → MatchOption (slice_get ids n) (drop n (map g ids) ≡ []) (λ a. P a × (drop n (map g ids) ≡ g a ∷ drop (suc n) (map g ids)))
  step [] zero h = refl
  step [] (suc n) h = refl
  step (x ∷ ids) zero h = (h 0 x (omega arith), refl)
  step (x ∷ ids) (suc n) h = step ids n (λ k d lt. h (suc k) d (omega (arith, lt)))

  with_room : (n : ℕ) (l : List Y) (o : Option X) → MatchOption o (drop n l ≡ []) (λ a. P a × (drop n l ≡ g a ∷ drop (n + 1) l)) → IfSome o (λ a. n + 1 < 2 ^ 64) → MatchOption o (drop n l ≡ []) (λ a. P a × (n + 1 < 2 ^ 64) × (drop n l ≡ g a ∷ drop (n + 1) l))
  with_room n l None m r = m
  with_room n l (Some a) m r = (m.0, r, m.1)

  pub listed : (ids : List X) (n : ℕ) (l : List Y) → l ≡ map g ids → All P ids → (o : Option X) → o ≡ slice_get ids n → IfSome o (λ a. n + 1 < 2 ^ 64) → MatchOption o (drop n l ≡ []) (λ a. P a × (n + 1 < 2 ^ 64) × (drop n l ≡ g a ∷ drop (n + 1) l))
  listed ids n l e h o is room =
      let m : suc n ≡ n + 1 = omega arith in
      with_room n l o
      (subst (λ (q : Option X). MatchOption q (drop n l ≡ []) (λ a. P a × (drop n l ≡ g a ∷ drop (n + 1) l))) (sym is)
      (subst (λ (k : ℕ). MatchOption (slice_get ids n) (drop n l ≡ []) (λ a. P a × (drop n l ≡ g a ∷ drop k l))) m
      (subst (λ (q : List Y). MatchOption (slice_get ids n) (drop n q ≡ []) (λ a. P a × (drop n q ≡ g a ∷ drop (suc n) q))) (sym e) (step ids n h)))) room

-- of two lists one after the other
module _ {X Y : Type 0} (g : X → Y) where
  pub in_first : (ids : List X) (r : List Y) (k : ℕ) (i : X) → slice_get ids k ≡ Some i → drop k (map g ids ++ r) ≡ g i ∷ drop (k + 1) (map g ids ++ r)
  in_first ids r k i h = by ids k h ∙ ap (λ n. g i ∷ drop n (map g ids ++ r)) (one k)
    where
      one : (n : ℕ) → suc n ≡ n + 1
      one n = omega arith

      same : {A : Type 0} (a b : A) → Some a ≡ Some b → a ≡ b
      same a b e = cc

      none_some : {A : Type 0} {a : A} → None ≡ Some a → ⊥
      none_some e = cc

      by : (ids : List X) (k : ℕ) → slice_get ids k ≡ Some i → drop k (map g ids ++ r) ≡ g i ∷ drop (suc k) (map g ids ++ r)
      by [] zero h = absurd (none_some h)
      by [] (suc k) h = absurd (none_some h)
      by (x ∷ ids) zero h = ap (λ a. g a ∷ (map g ids ++ r)) (same x i h)
      by (x ∷ ids) (suc k) h = by ids k h

  pub past_first : (ids : List X) (r : List Y) (k : ℕ) → slice_get ids k ≡ None → drop k (map g ids ++ r) ≡ drop (k - length ids) r
  past_first [] r k h = ap (λ n. drop n r) (sub_zero k)
    where
      sub_zero : (n : ℕ) → n ≡ n - 0
      sub_zero n = omega arith
  past_first (x ∷ ids) r zero h = absurd (some_none h)
    where
      some_none : {A : Type 0} {a : A} → Some a ≡ None → ⊥
      some_none e = cc
  past_first (x ∷ ids) r (suc k) h = past_first ids r k h ∙ ap (λ n. drop n r) (less k (length ids))
    where
      less : (a b : ℕ) → a - b ≡ suc a - suc b
      less a b = omega arith

pub not_within : {X : Type 0} (ids : List X) (k : ℕ) → slice_get ids k ≡ None → length ids ≤ k
not_within [] k h = omega arith
not_within (x ∷ ids) zero h = absurd (some_none h)
  where
    some_none : {A : Type 0} {a : A} → Some a ≡ None → ⊥
    some_none e = cc
not_within (x ∷ ids) (suc k) h = omega (arith, not_within ids k h)

drop_none : {X : Type 0} (n : ℕ) → drop {A = X} n [] ≡ []
drop_none zero = refl
drop_none (suc n) = refl

drop_more : {X : Type 0} (n : ℕ) (l : List X) → drop n l ≡ [] → drop (suc n) l ≡ []
drop_more n [] h = refl
drop_more zero (x ∷ l) h = absurd (more_none h)
  where
    more_none : {A : Type 0} {a : A} {bs : List A} → a ∷ bs ≡ [] → ⊥
    more_none e = cc
drop_more (suc n) (x ∷ l) h = drop_more n l h

pub past_one : {X : Type 0} (n : ℕ) (l : List X) → drop n l ≡ [] → drop n (drop 1 l) ≡ []
past_one n [] h = h
past_one zero (x ∷ l) h = absurd (more_none h)
  where
    more_none : {A : Type 0} {a : A} {bs : List A} → a ∷ bs ≡ [] → ⊥
    more_none e = cc
past_one (suc n) (x ∷ l) h = drop_more n l h

pub drop_one : {X : Type 0} (n : ℕ) (l : List X) → drop n (drop 1 l) ≡ drop (n + 1) l
drop_one n [] = drop_none n ∙ sym (drop_none (n + 1))
drop_one n (x ∷ l) = ap (λ k. drop k (x ∷ l)) (one n)
  where
    one : (k : ℕ) → suc k ≡ k + 1
    one k = omega arith

pub all_at : {X : Type 0} (P : X → Type 0) (ids : List X) → All P ids → (k : ℕ) (i : X) → slice_get ids k ≡ Some i → P i
all_at P [] h k i e = absurd (none_some e)
  where
    none_some : {A : Type 0} {a : A} → None ≡ Some a → ⊥
    none_some e = cc
all_at P (x ∷ ids) h zero i e = subst P (same x i e) (h 0 x (omega arith))
  where
    same : {A : Type 0} (a b : A) → Some a ≡ Some b → a ≡ b
    same a b e = cc
all_at P (x ∷ ids) h (suc k) i e = all_at P ids (λ n d lt. h (suc n) d (omega (arith, lt))) k i e

-- the statements of clauses, by those of the first
module _ (f : Forest) (ids : List StmtId) (cs rest : List Case) (o : OptionalExpr) (k : ℕ) where
  pub clause_first : (i : StmtId) → cs ≡ (o, stmt_list (stmts_at f ids)) ∷ rest → stmt_list (stmts_at f ids) ≡ map (stmt_at f) ids → slice_get ids k ≡ Some i → drop k (bodies cs) ≡ stmt_at f i ∷ drop (k + 1) (bodies cs)
  clause_first i e h at =
      let same = ap bodies e ∙ ap (λ l. l ++ bodies rest) h in
      ap (drop k) same ∙ in_first (stmt_at f) ids (bodies rest) k i at ∙ ap (λ l. stmt_at f i ∷ drop (k + 1) l) (sym same)

  pub clause_past : cs ≡ (o, stmt_list (stmts_at f ids)) ∷ rest → stmt_list (stmts_at f ids) ≡ map (stmt_at f) ids → slice_get ids k ≡ None → drop k (bodies cs) ≡ drop (k - length ids) (bodies rest)
  clause_past e h at = ap (drop k) (ap bodies e ∙ ap (λ l. l ++ bodies rest) h) ∙ past_first (stmt_at f) ids (bodies rest) k at
