-- Whether there is something to do for a life.
use Rattle.std.proofs.Common.{◌≡◌, ℕ, suc, Bool, true, false, if◌then◌else◌, List, [], ◌∷◌, length, map, refl, sym, ap, ◌∙◌, arith, Option, Some, None}
use Rattle.std.specs.Prelude.{is_some, nat_eq, not}
use Rattle.std.proofs.lemmas.Bool.{ne_eqb}
use Rattle.std.specs.Option.{option_map}
use Rattle.life_laws.specs.Life as todo
use Rattle.life_laws.specs.Life.{Going, is_empty, ready}
use Rattle.native_image.specs.declared.handed.Shared.{Shared}
use Rattle.life_queue.specs.Turn.{Turn}
use Rattle.life_queue.specs.declared.life.Life.{Life}
use Rattle.life_queue.specs.declared.life.Work.{Work}
use Rattle.life_queue.specs.Lives.{going_of, life_seen, trees_in, work_of}
use Rattle.slot_picks.specs.declared.lives.Place.{Place}
use Rattle.slot_picks.specs.Places.{lent, seen_at}
use Rattle.slot_picks.proofs.Others.{seen_life, seen_none}

pub ready_none : (h : Shared) (w : ℕ) (p : Place) → p.life.accepted ≡ false → false ≡ ready (seen_at h w p)
ready_none h w p e = sym (ap ready (seen_none h w p e))

pub ready_life : (h : Shared) (w : ℕ) (p : Place) (b : Bool) → p.life.accepted ≡ true → b ≡ ready (life_seen (lent h p) w p.life) → b ≡ ready (seen_at h w p)
ready_life h w p b e f = f ∙ sym (ap ready (seen_life h w p e))

some_map : (o : Option Turn) (f : Turn → Going) → is_some (option_map f o) ≡ is_some o
some_map None f = refl
some_map (Some t) f = refl

-- a turn in progress, or a queue that is not empty
busy_life : (h : Shared) (w : ℕ) (l : Life) → ready (life_seen h w l) ≡ (if is_some l.turn then true else not (is_empty (map (work_of (trees_in h)) l.queue.items)))
busy_life h w l = ap (λ b. if b then true else not (is_empty (map (work_of (trees_in h)) l.queue.items))) (some_map l.turn (going_of h w l))

pub busy_turn : (h : Shared) (w : ℕ) (l : Life) (b : Bool) → b ≡ is_some l.turn → b ≡ true → b ≡ ready (life_seen h w l)
busy_turn h w l b e f = f ∙ sym (busy_life h w l ∙ ap (λ d. if d then true else not (is_empty (map (work_of (trees_in h)) l.queue.items))) (sym e ∙ f))

empty_map : (f : Work → todo.Work) (is : List Work) → is_empty (map f is) ≡ nat_eq (length is) 0
empty_map f [] = refl
empty_map f (i ∷ is) = sym (ne_eqb (suc (length is)) 0 (λ z. absurd (omega arith)))

pub busy_queue : (h : Shared) (w : ℕ) (l : Life) (b : Bool) (n : ℕ) (e : Bool) → b ≡ is_some l.turn → b ≡ false → e ≡ nat_eq n 0 → n ≡ length l.queue.items → not e ≡ ready (life_seen h w l)
busy_queue h w l b n e turn off empty long =
    ap not (empty ∙ (ap (λ m. nat_eq m 0) long ∙ sym (empty_map (work_of (trees_in h)) l.queue.items)))
    ∙ sym (busy_life h w l ∙ ap (λ d. if d then true else not (is_empty (map (work_of (trees_in h)) l.queue.items))) (sym turn ∙ off))
