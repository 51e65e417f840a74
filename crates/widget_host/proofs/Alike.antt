-- Lives that are as they were but for their queues and for how many of their posts were taken.
use Rattle.std.proofs.Common.{◌≡◌, ℕ, zero, suc, ◌+◌, List, [], ◌∷◌, map, refl, sym, ap, ◌∙◌, subst, Some}
use Rattle.std.specs.Prelude.{slice_get}
use Rattle.native_image.specs.declared.handed.Shared.{Shared}
use Rattle.slot_picks.specs.declared.lives.Place.{Place}
use Rattle.slot_picks.specs.Places.{OwnPlace, OwnPlaces, accepts_of, codes_of, homes_of, roots_of}
use Rattle.slot_picks.specs.Posting.{AreAlike, IsAlike}
use Rattle.widget_host.specs.Feeding.{AreSame, IsSame}

is_alike : (l m : Place) → IsSame l m → IsAlike l m
is_alike l m same = same ∙ ap (λ n. record l { life = record l.life { queue = m.life.queue }; told = n }) (sym (ap (λ (p : Place). p.told) same))

-- so are lives that are as they were but for their queues
pub are_alike : (ls ms : List Place) → AreSame ls ms → AreAlike ls ms
are_alike [] [] a = tt
are_alike [] (m ∷ ms) a = absurd a
are_alike (l ∷ ls) [] a = absurd a
are_alike (l ∷ ls) (m ∷ ms) a = (is_alike l m a.0, are_alike ls ms a.1)

-- what a life holds is not in its queue
own_queue : (h : Shared) (v : ℕ) (l m : Place) → IsAlike l m → OwnPlace h v l → OwnPlace h v m
own_queue h v l m alike was = subst (OwnPlace h v) (sym alike) (λ e. record { confined = (was e).confined; holds = (was e).holds; turn = (was e).turn })

pub own_alike : (h : Shared) (v : ℕ) (ls ms : List Place) → AreAlike ls ms → OwnPlaces h v ls → OwnPlaces h v ms
own_alike h v [] [] a own = tt
own_alike h v [] (m ∷ ms) a own = absurd a
own_alike h v (l ∷ ls) [] a own = absurd a
own_alike h v (l ∷ ls) (m ∷ ms) a own = (own_queue h v l m a.0 own.0, own_alike h (v + 1) ls ms a.1 own.1)

-- what does not look at these stays
kept_alike : {A : Type 0} (f : Place → A) → ((l m : Place) → IsAlike l m → f m ≡ f l) → (ls ms : List Place) → AreAlike ls ms → map f ms ≡ map f ls
kept_alike f stays [] [] a = refl
kept_alike f stays [] (m ∷ ms) a = absurd a
kept_alike f stays (l ∷ ls) [] a = absurd a
kept_alike f stays (l ∷ ls) (m ∷ ms) a = ap (λ x. x ∷ map f ms) (stays l m a.0) ∙ ap (λ xs. f l ∷ xs) (kept_alike f stays ls ms a.1)

pub homes_alike : (ls ms : List Place) → AreAlike ls ms → homes_of ms ≡ homes_of ls
homes_alike = kept_alike (λ (p : Place). p.life.slot) (λ l m e. ap (λ (p : Place). p.life.slot) e)

pub accepts_alike : (ls ms : List Place) → AreAlike ls ms → accepts_of ms ≡ accepts_of ls
accepts_alike = kept_alike (λ (p : Place). p.life.accepted) (λ l m e. ap (λ (p : Place). p.life.accepted) e)

pub codes_alike : (ls ms : List Place) → AreAlike ls ms → codes_of ms ≡ codes_of ls
codes_alike = kept_alike (λ (p : Place). p.codes) (λ l m e. ap (λ (p : Place). p.codes) e)

pub roots_alike : (ls ms : List Place) → AreAlike ls ms → roots_of ms ≡ roots_of ls
roots_alike = kept_alike (λ (p : Place). p.root) (λ l m e. ap (λ (p : Place). p.root) e)

-- the place that one was
pub was_at : (ls ms : List Place) → AreAlike ls ms → (v : ℕ) (m : Place) → slice_get ms v ≡ Some m → (l : Place) × (slice_get ls v ≡ Some l) × IsAlike l m
was_at [] [] a v m at = absurd (let e = at in cc)
was_at [] (n ∷ ms) a v m at = absurd a
was_at (l ∷ ls) [] a v m at = absurd a
was_at (l ∷ ls) (n ∷ ms) a zero m at = let same : n ≡ m = cc in (l, refl, subst (IsAlike l) same a.0)
was_at (l ∷ ls) (n ∷ ms) a (suc v) m at = was_at ls ms a.1 v m at
