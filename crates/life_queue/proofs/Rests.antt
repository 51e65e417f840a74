-- A life between two turns, and whether it has stopped.
use Rattle.std.proofs.Common.{◌≡◌, ℕ, true, false, refl, ap, Option, Some, None}
use Rattle.std.specs.Prelude.{Result, Ok, Err, OnOk, is_some}
use Rattle.std.specs.Option.{option_map}
use Rattle.widget_meaning.specs.Values as meaning
use Rattle.life_laws.specs.Life.{Seen, waiting}
use Rattle.life_queue.specs.declared.life.Life.{Life}
use Rattle.turn_dispatch.specs.Stop.{Stop}
use Rattle.turn_dispatch.specs.declared.turn.Turn.{Turn}
use Rattle.native_image.specs.declared.handed.Shared.{Shared}
use Rattle.life_queue.specs.Lives.{going_of, life_seen, meant_stop, own_of, works_of}

no_true : false ≡ true → ⊥
no_true e = cc

no_false : true ≡ false → ⊥
no_false e = cc

pub stop_there : (o : Option Stop) → is_some o ≡ true → (c : meaning.Stop) × (option_map meant_stop o ≡ Some c)
stop_there None h = absurd (no_true h)
stop_there (Some c) h = (meant_stop c, refl)

pub no_stop : (o : Option Stop) → is_some o ≡ false → option_map meant_stop o ≡ None
no_stop None h = refl
no_stop (Some c) h = absurd (no_false h)

pub not_there : (o : Option Stop) → is_some o ≡ false → o ≡ None
not_there None h = refl
not_there (Some c) h = absurd (no_false h)

-- what holds where a call answered Ok
pub on_ok : {T E : Type 0} (r : Result T E) (P Q : Type 0) → (P → Q) → OnOk r P → OnOk r Q
on_ok (Ok x) P Q f h = f h
on_ok (Err e) P Q f h = tt

-- between two turns
pub rests : (h : Shared) (w : ℕ) (l : Life) → l.turn ≡ None → life_seen h w l ≡ waiting (own_of h w l) (works_of h w l)
rests h w l e = ap (λ (t : Option Turn). let r : Seen = record { own = own_of h w l; going = option_map (going_of h w l) t; queue = works_of h w l } in r) e
