-- The laws of rounds.
use Rattle.std.proofs.Common.{ℕ, List, Option}
use Rattle.life_laws.specs.Fed.{Fed, fresh}
use Rattle.life_laws.specs.RoundLaws.{ChannelLaws, LifeLaws, RoundLaws}
use Rattle.life_laws.proofs.Rounding.{fewer, refused, same_length, seen, some_fresh, taken, told}
use Rattle.life_laws.proofs.Ending.{end, no_channels, one}
use Rattle.life_laws.proofs.Parting.{apart, listed_senders, no_channel_alike}

pub life_laws : (channels : List (ℕ × ℕ)) (names : List (List ℕ)) (fs : List (Option Fed)) → LifeLaws channels names fs
life_laws channels names fs = record {
  slots = same_length channels names (fresh fs) 0 fs;
  refused = λ w e. refused channels names fs w e;
  seen = λ w f e. seen channels names fs w f e;
  taken = λ w f e. taken channels names fs w f e;
  told = λ h. told channels names (fresh fs) 0 fs h;
  fewer = fewer channels names (fresh fs) 0 fs;
  some_fresh = λ loud. some_fresh channels names fs loud;
}

pub round_laws : (channels : List (ℕ × ℕ)) (names : List (List ℕ)) (fs : List (Option Fed)) → RoundLaws channels names fs
round_laws channels names fs = record {
  end = end channels names fs;
  one = λ gs hs x y. one channels names fs gs hs x y;
  no_channels = λ gs none x. no_channels channels names fs gs none x;
}

pub channel_laws : (channels : List (ℕ × ℕ)) (names : List (List ℕ)) (fs : List (Option Fed)) → ChannelLaws channels names fs
channel_laws channels names fs = record {
  listed_senders = λ w channels' names' fs' receiver given listed senders. listed_senders channels channels' names names' fs fs' w receiver given listed senders;
  no_channel = λ w gs none rounds. no_channel_alike channels names w fs gs none rounds;
  apart = λ w channels' names' fs' gs gs' h x y. apart channels channels' names names' w fs fs' gs gs' h x y;
}
