-- Lives in their places: the place of a life is its number as an owner.
use Rattle.std.specs.Prelude.{◌≡◌, ℕ, ◌+◌, ◌≤◌, Bool, true, false, if◌then◌else◌, List, [], ◌∷◌, map, slice_index_or, IfSome}
use Rattle.std.specs.declared.alloc.Global.{Global}
use Rattle.std.specs.declared.vec.Vec.{Vec}
use Rattle.js_image.specs.Held.{IsConfined}
use Rattle.js_names.specs.declared.code.Code.{Code}
use Rattle.js_names.specs.Code.{trees_of}
use Rattle.native_image.specs.Sound.{HoldsOwn}
use Rattle.life_laws.specs.Life.{Seen}
use Rattle.life_laws.specs.Settled.{flag}
use Rattle.native_image.specs.declared.handed.Shared.{Shared}
pub use Rattle.life_queue.specs.Lives.{life_seen, outside}
use Rattle.life_queue.specs.Fine.{FineLife, FineTurn, tally}
use Rattle.slot_picks.specs.declared.lives.Place.{Place}

-- what all lives share, with the trees of the scripts of one of them
abbrev pub lent : Shared → Place → Shared
lent h p = record h { codes = p.codes }

-- what is seen of a place, over the trees of its own scripts; where no file was accepted there is nothing to do
abbrev pub seen_at : Shared → ℕ → Place → Seen
seen_at h w p = if p.life.accepted then life_seen (lent h p) w p.life else flag false

-- and of all places from one on
abbrev pub seens_from : Shared → ℕ → List Place → List Seen
seens_from h w [] = []
seens_from h w (p ∷ ps) = seen_at h w p ∷ seens_from h (w + 1) ps

-- an accepted life in its place is sound, over the trees of its own scripts
abbrev pub FinePlace : Shared → ℕ → Place → Type 0
FinePlace h w p = p.life.accepted ≡ true → FineLife (lent h p) w p.life

-- and so are all from a place on
abbrev pub FinePlaces : Shared → ℕ → List Place → Type 0
FinePlaces h w [] = Unit {0}
FinePlaces h w (p ∷ ps) = FinePlace h w p × FinePlaces h (w + 1) ps

-- What a life holds is its own, or of the permitted table: what its cells lead to, each function among them of one of its own scripts; its root, the nodes of its Bunches, the functions in its handlers and timers, the node with its focus, and all that waits in its turn in progress. It holds also after want of memory.
pub record HoldsItsOwn (h : Shared) (w : ℕ) (p : Place) : Type 0 where
  pub confined : IsConfined (trees_of p.codes.items) w h.store
  pub holds : HoldsOwn w h.store h.page p.life.widget.around
  pub turn : IfSome p.life.turn (FineTurn (trees_of p.codes.items) w h.store h.page p.life.grant)

-- so it is of an accepted life in its place
abbrev pub OwnPlace : Shared → ℕ → Place → Type 0
OwnPlace h w p = p.life.accepted ≡ true → HoldsItsOwn h w p

-- and so of all from a place on
abbrev pub OwnPlaces : Shared → ℕ → List Place → Type 0
OwnPlaces h w [] = Unit {0}
OwnPlaces h w (p ∷ ps) = OwnPlace h w p × OwnPlaces h (w + 1) ps

-- what an accepted life has counted and may still count is at most so much
abbrev pub FewPlace : Shared → ℕ → ℕ → Place → Type 0
FewPlace h n w p = p.life.accepted ≡ true → tally (lent h p) w p.life ≤ n

-- and so it is for all from a place on
abbrev pub FewPlaces : Shared → ℕ → ℕ → List Place → Type 0
FewPlaces h n w [] = Unit {0}
FewPlaces h n w (p ∷ ps) = FewPlace h n w p × FewPlaces h n (w + 1) ps

-- the slot of each life
abbrev pub homes_of : List Place → List ℕ
homes_of ps = map (λ (p : Place). p.life.slot) ps

-- the node that stands for each life in its slot
abbrev pub roots_of : List Place → List ℕ
roots_of ps = map (λ (p : Place). p.root) ps

-- how many posts of each rounds have taken
abbrev pub told_of : List Place → List ℕ
told_of ps = map (λ (p : Place). p.told) ps

-- the trees of the scripts of each
abbrev pub codes_of : List Place → List (Vec Code Global)
codes_of ps = map (λ (p : Place). p.codes) ps

-- whether the file of each life was accepted
abbrev pub accepts_of : List Place → List Bool
accepts_of ps = map (λ (p : Place). p.life.accepted) ps

-- and of the life at a place; where there is none, it was not
abbrev pub is_accepted : List Place → ℕ → Bool
is_accepted ps v = slice_index_or (accepts_of ps) v false
