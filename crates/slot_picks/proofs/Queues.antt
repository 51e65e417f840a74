-- Queues with events more.
use Rattle.std.proofs.Common.{◌≡◌, ℕ, ◌+◌, ◌<◌, List, [], ◌∷◌, ◌++◌, length, refl, sym, ap, ◌∙◌, get_or, take, Some}
use Rattle.std.specs.Prelude.{codes}
use Rattle.event_loop.specs.declared.delivery.Event.{Event as Told}
use Rattle.widget_meaning.specs.Items.{Occurs}
use Rattle.life_laws.specs.Fed.{event_of}
use Rattle.life_queue.specs.Lives as lives
use Rattle.std.proofs.lemmas.List.{append-nil, map-append, take_more}
use Rattle.post_rounds.specs.declared.posts.PostEvent.{PostEvent}
use Rattle.post_rounds.specs.Events.{values}
use Rattle.life_queue.specs.declared.life.Work.{Work}
use Rattle.slot_picks.specs.Posting.{AreEvents, HasEvents, IsEvent}

pub no_events : (q : List Work) → HasEvents [] q q
no_events q = record { works = []; queue = sym (append-nil q); are = tt }

pub assoc : {X : Type 0} (xs ys zs : List X) → (xs ++ ys) ++ zs ≡ xs ++ (ys ++ zs)
assoc [] ys zs = refl
assoc (x ∷ xs) ys zs = ap (λ r. x ∷ r) (assoc xs ys zs)

events_then : (vs us : List (List ℕ)) (xs ys : List Work) → AreEvents vs xs → AreEvents us ys → AreEvents (vs ++ us) (xs ++ ys)
events_then [] us [] ys a b = b
events_then [] us (x ∷ xs) ys a b = absurd a
events_then (v ∷ vs) us [] ys a b = absurd a
events_then (v ∷ vs) us (x ∷ xs) ys a b = (a.0, events_then vs us xs ys a.1 b)

-- first these and then those
pub has_then : (vs us : List (List ℕ)) (p q r : List Work) → HasEvents vs p q → HasEvents us q r → HasEvents (vs ++ us) p r
has_then vs us p q r a b = record {
  works = a.works ++ b.works;
  queue = b.queue ∙ (ap (λ x. x ++ b.works) a.queue ∙ assoc p a.works b.works);
  are = events_then vs us a.works b.works a.are b.are;
}

-- one more
pub has_one : (v : List ℕ) (x : Work) (p q : List Work) → IsEvent v x → q ≡ p ++ x ∷ [] → HasEvents (v ∷ []) p q
has_one v x p q is e = record { works = x ∷ []; queue = e; are = (is, tt) }

pub values_more : (es : List PostEvent) (i : ℕ) (e : PostEvent) → i < length es → get_or es i e ≡ e → values (take (i + 1) es) ≡ values (take i es) ++ e.value ∷ []
values_more es i e within at =
    ap values (take_more es i e within) ∙ (map-append (λ (x : PostEvent). x.value) (take i es) (get_or es i e ∷ []) ∙ ap (λ (x : PostEvent). values (take i es) ++ x.value ∷ []) at)

-- an event as a life is told of it
pub told_event : (e : Told) (v : List ℕ) → e.kind ≡ codes "post" → e.path.items ≡ [] → e.value ≡ Some v → Occurs (lives.event_of e) ≡ event_of v
told_event e v kind path value = λ i. Occurs (record { kind = kind i; path = path i; value = value i })
