-- Laws of rounds.
use Rattle.std.specs.Prelude.{◌≡◌, ℕ, ◌+◌, ◌-◌, ◌<◌, ◌≤◌, true, false, List, [], ◌∷◌, length, map, Option, None, Some, slice_index_or}
use Rattle.std.specs.List.{fold}
use Rattle.std.specs.Option.{option_map}
use Rattle.widget_meaning.specs.Limits.{max_posts}
use Rattle.widget_meaning.specs.OwnState.{OwnState}
use Rattle.widget_meaning.specs.Items.{item}
use Rattle.post_rounds.specs.News.{is_declared, name, news}
use Rattle.life_laws.specs.Fed.{Fed, IsQuiet, RoundsTo, event_of, fresh, fresh_of, round, state}

-- what a slot was given; one that is refused nothing
abbrev pub fed_at : List (Option Fed) → ℕ → Option Fed
fed_at fs w = slice_index_or fs w None

-- ## One round

-- a widget after these events, one after the other
abbrev pub with_events : List (List ℕ) → OwnState → OwnState
with_events values o = fold item o (map event_of values)

-- no more posts of each are taken than it keeps
abbrev pub AreTold : List (Option Fed) → Type 0
AreTold [] = Unit {0}
AreTold (None ∷ fs) = AreTold fs
AreTold (Some f ∷ fs) = (f.told ≤ max_posts) × AreTold fs

-- how many posts may still be taken
abbrev pub may_come : List (Option Fed) → ℕ
may_come [] = 0
may_come (None ∷ fs) = may_come fs
may_come (Some f ∷ fs) = (max_posts - f.told) + may_come fs

-- how many posts are fresh
abbrev pub many_fresh : List (Option Fed) → ℕ
many_fresh [] = 0
many_fresh (f ∷ fs) = length (fresh_of f) + many_fresh fs

-- what a round does to each slot: none comes or goes; the life of one has its events, and its fresh posts are taken, each once; so fewer are left to come
pub record LifeLaws (channels : List (ℕ × ℕ)) (names : List (List ℕ)) (fs : List (Option Fed)) : Type 0 where
  pub slots : length (round channels names fs) ≡ length fs
  pub refused : (w : ℕ) → fed_at fs w ≡ None → fed_at (round channels names fs) w ≡ None
  pub seen : (w : ℕ) (f : Fed) → fed_at fs w ≡ Some f
      → option_map state (fed_at (round channels names fs) w) ≡ Some (with_events (news channels names (fresh fs) w) (state f))
  pub taken : (w : ℕ) (f : Fed) → fed_at fs w ≡ Some f
      → option_map (λ (g : Fed). g.told) (fed_at (round channels names fs) w) ≡ Some (f.told + length (fresh_of (Some f)))
  pub told : AreTold fs → AreTold (round channels names fs)
  pub fewer : may_come (round channels names fs) + many_fresh fs ≡ may_come fs
  pub some_fresh : (IsQuiet channels names fs → ⊥) → 0 < many_fresh fs

-- ## All rounds

-- rounds end somewhere, and nowhere else; where no channel is declared nothing is delivered
pub record RoundLaws (channels : List (ℕ × ℕ)) (names : List (List ℕ)) (fs : List (Option Fed)) : Type 0 where
  pub end : (gs : List (Option Fed)) × RoundsTo channels names fs gs
  pub one : (gs hs : List (Option Fed)) → RoundsTo channels names fs gs → RoundsTo channels names fs hs → gs ≡ hs
  pub no_channels : (gs : List (Option Fed)) → channels ≡ [] → RoundsTo channels names fs gs → gs ≡ fs

-- ## On whom a slot depends

-- slots are given the same, up to what was taken of their posts
abbrev pub GivenAlike : Option Fed → Option Fed → Type 0
GivenAlike None None = Unit {0}
GivenAlike (Some f) (Some g) = (f.content ≡ g.content) × (f.grant ≡ g.grant) × (f.items ≡ g.items)
GivenAlike _ _ = ⊥

-- a path of channels leads from a slot to w; from w to itself one of none
pub data LeadsTo (channels : List (ℕ × ℕ)) (w : ℕ) : ℕ → Type 0 where
  no_step : LeadsTo channels w w
  one_step : {s t : ℕ} → is_declared channels s t ≡ true → LeadsTo channels w t → LeadsTo channels w s

-- Two pages agree on the slots that lead to w on the first: on their names, on the channels that end at them, and on what they were given.
pub record Agree (w : ℕ) (channels channels' : List (ℕ × ℕ)) (names names' : List (List ℕ)) (fs fs' : List (Option Fed)) : Type 0 where
  pub names_agree : (s : ℕ) → LeadsTo channels w s → name names s ≡ name names' s
  pub channels_agree : (s t : ℕ) → LeadsTo channels w t → is_declared channels s t ≡ is_declared channels' s t
  pub given : (s : ℕ) → LeadsTo channels w s → fed_at fs s ≡ fed_at fs' s

-- what a slot comes to: in a round by itself and its listed senders alone; where no channel leads to it, by itself; and on two pages the same, whatever else differs than what leads to it
pub record ChannelLaws (channels : List (ℕ × ℕ)) (names : List (List ℕ)) (fs : List (Option Fed)) : Type 0 where
  pub listed_senders : (w : ℕ) (channels' : List (ℕ × ℕ)) (names' : List (List ℕ)) (fs' : List (Option Fed))
      → name names w ≡ name names' w → fed_at fs w ≡ fed_at fs' w → ((s : ℕ) → is_declared channels s w ≡ is_declared channels' s w)
      → ((s : ℕ) → is_declared channels s w ≡ true → (name names s ≡ name names' s) × (fed_at fs s ≡ fed_at fs' s))
      → fed_at (round channels names fs) w ≡ fed_at (round channels' names' fs') w
  pub no_channel : (w : ℕ) (gs : List (Option Fed)) → ((s : ℕ) → is_declared channels s w ≡ false)
      → RoundsTo channels names fs gs → GivenAlike (fed_at gs w) (fed_at fs w)
  pub apart : (w : ℕ) (channels' : List (ℕ × ℕ)) (names' : List (List ℕ)) (fs' gs gs' : List (Option Fed))
      → Agree w channels channels' names names' fs fs' → RoundsTo channels names fs gs → RoundsTo channels' names' fs' gs'
      → GivenAlike (fed_at gs w) (fed_at gs' w)
