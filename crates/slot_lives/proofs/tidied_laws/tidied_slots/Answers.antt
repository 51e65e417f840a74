use Rattle.slot_lives.proofs.Twins.{accepted_alike, refused_alike, same_widget}
use Rattle.slot_lives.proofs.tidied_laws.tidied_slots.Goals as goal

pub returns : goal.returns
returns c = record { accepted = accepted_alike; refused = refused_alike; widget = same_widget }
