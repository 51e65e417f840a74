-- What a pick answers, and what it does.
use Rattle.std.specs.Prelude.{◌≡◌, ℕ}
use Rattle.life_laws.specs.Life.{Seen, IsIdle, IsCut, IsOver, image}
use Rattle.life_laws.specs.declared.entry.Picked.{Picked}
use Rattle.life_laws.specs.declared.entry.Picked.TheVariants as picked

-- what a pick with so many units does, by its answer
abbrev pub Picks : ℕ → Picked → Seen → Seen → Type 0
Picks k picked.Idle old new = IsIdle old new
Picks k (picked.Unfinished spent) old new = IsCut k old new × (spent ≡ (image new).spent)
Picks k picked.Ended old new = IsOver k old new
