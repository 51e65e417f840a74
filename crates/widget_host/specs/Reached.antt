-- What a host gives as its certificate of reach.
use Rattle.std.specs.Prelude.{ℕ, List, [], ◌∷◌, map}
use Rattle.reach_cert.specs.Certs as cert
use Rattle.life_laws.specs.Chains.{last_life}
use Rattle.slot_reach.specs.Lasts as slots
use Rattle.widget_host.specs.declared.host.Host.{Host}

-- the certificate of its slots, each by its last life, read off its own store and page and what the lives hold beside them
unfoldable pub reached : Host → List cert.Slot
reached h = slots.reached h.lives h.slots.items

-- of the lives of each slot the last one alone
abbrev pub lasts : List (List ℕ) → List (List ℕ)
lasts cs = map (λ c. last_life c ∷ []) cs
