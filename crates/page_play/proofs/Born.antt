-- The lives of a host are born.
use Rattle.std.proofs.Common.{◌≡◌, false}
use Rattle.life_laws.specs.Chains.{Chains}
use Rattle.widget_host.specs.declared.host.Host.{Host}
use Rattle.widget_host.specs.Housed.{IsHoused, chains, homes, marked, newborn}

pub housed_chains : (h : Host) → IsHoused h → marked h ≡ false → Chains (homes h) (newborn h) 0 (chains h)
unfolding IsHoused chains homes
housed_chains h housed unmarked = (housed.1 unmarked).slots.chains
