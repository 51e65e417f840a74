-- What the items of a trace say, in plain data.
use Rattle.std.specs.Prelude.{ℕ, List, Option, string_bytes}
use Rattle.trace_reader.specs.declared.item.TraceItem.{TraceItem}
use Rattle.trace_reader.specs.declared.item.TraceItem.TheVariants.{Event, Advance, Swap}

-- an event in a slot: its type, its path and its value; an advance in milliseconds; a file for a slot
pub data Said : Type 0 where
  an_event : ℕ → List ℕ → List ℕ → Option (List ℕ) → Said
  an_advance : ℕ → Said
  a_swap : ℕ → List ℕ → Said

abbrev pub said : TraceItem → Said
said (Event to event) = an_event to event.kind event.path.items event.value
said (Advance ms) = an_advance ms
said (Swap to file) = a_swap to (string_bytes file)
