-- Rounds end, and in one way.
use Rattle.std.proofs.Common.{◌≡◌, ℕ, zero, suc, ◌+◌, ◌≤◌, List, [], ◌∷◌, length, Option, Some, None, refl, ap, ◌⊎◌, inl, inr, arith}
use Rattle.post_rounds.specs.declared.posts.Post.{Post}
use Rattle.post_rounds.specs.News.{is_declared, news}
use Rattle.life_laws.specs.Fed.{AreQuiet, Fed, IsQuiet, RoundsTo, again, ended, fresh, round}
use Rattle.life_laws.specs.RoundLaws.{may_come}
use Rattle.post_rounds.proofs.Listing.{no_channel}
use Rattle.life_laws.proofs.Rounding.{all_quiet, fewer, some_fresh}

is_empty : {X : Type 0} (xs : List X) → (xs ≡ []) ⊎ (xs ≡ [] → ⊥)
is_empty [] = inl refl
is_empty (x ∷ xs) = inr (λ e. let h = ap length e in omega arith)

both : {A B : Type 0} → A ⊎ (A → ⊥) → B ⊎ (B → ⊥) → (A × B) ⊎ (A × B → ⊥)
both (inl a) (inl b) = inl (a, b)
both (inl a) (inr n) = inr (λ h. n h.1)
both (inr n) b = inr (λ h. n h.0)

module _ (channels : List (ℕ × ℕ)) (names : List (List ℕ)) where
  tells_quiet : (posts : List (List Post)) (v : ℕ) (fs : List (Option Fed)) → AreQuiet channels names posts v fs ⊎ (AreQuiet channels names posts v fs → ⊥)
  tells_quiet posts v [] = inl tt
  tells_quiet posts v (None ∷ fs) = tells_quiet posts (v + 1) fs
  tells_quiet posts v (Some f ∷ fs) = both (is_empty (news channels names posts v)) (tells_quiet posts (v + 1) fs)

  end_within : (n : ℕ) (fs : List (Option Fed)) → may_come fs ≤ n → (gs : List (Option Fed)) × RoundsTo channels names fs gs
  end_within zero fs l = by (tells_quiet (fresh fs) 0 fs)
    where
      by : IsQuiet channels names fs ⊎ (IsQuiet channels names fs → ⊥) → (gs : List (Option Fed)) × RoundsTo channels names fs gs
      by (inl quiet) = (fs, ended quiet)
      by (inr loud) = let some = some_fresh channels names fs loud in let less = fewer channels names (fresh fs) 0 fs in absurd (omega arith)
  end_within (suc n) fs l = by (tells_quiet (fresh fs) 0 fs) (λ m. end_within n (round channels names fs) m)
    where
      by : IsQuiet channels names fs ⊎ (IsQuiet channels names fs → ⊥) → (may_come (round channels names fs) ≤ n → (gs : List (Option Fed)) × RoundsTo channels names (round channels names fs) gs)
          → (gs : List (Option Fed)) × RoundsTo channels names fs gs
      by (inl quiet) later = (fs, ended quiet)
      by (inr loud) later =
          let some = some_fresh channels names fs loud in
          let less = fewer channels names (fresh fs) 0 fs in
          let rest = later (omega arith) in
          (rest.0, again loud rest.1)

  pub end : (fs : List (Option Fed)) → (gs : List (Option Fed)) × RoundsTo channels names fs gs
  end fs = end_within (may_come fs) fs (omega arith)

  pub one : (fs gs hs : List (Option Fed)) → RoundsTo channels names fs gs → RoundsTo channels names fs hs → gs ≡ hs
  one fs gs hs (ended quiet) (ended quiet') = refl
  one fs gs hs (ended quiet) (again loud later) = absurd (loud quiet)
  one fs gs hs (again loud later) (ended quiet) = absurd (loud quiet)
  one fs gs hs (again loud later) (again loud' later') = one (round channels names fs) gs hs later later'

  quiet_ends : (fs gs : List (Option Fed)) → IsQuiet channels names fs → RoundsTo channels names fs gs → gs ≡ fs
  quiet_ends fs gs quiet (ended also) = refl
  quiet_ends fs gs quiet (again loud later) = absurd (loud quiet)

  pub no_channels : (fs gs : List (Option Fed)) → channels ≡ [] → RoundsTo channels names fs gs → gs ≡ fs
  no_channels fs gs none rounds =
      quiet_ends fs gs (all_quiet channels names (fresh fs) 0 fs (λ w. no_channel w channels names (fresh fs) (λ s. ap (λ cs. is_declared cs s w) none))) rounds
