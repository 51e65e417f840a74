-- What is kept for a widget beside its cells and nodes, as its meaning has it: with own numbers of nodes and of cells.
use Rattle.std.specs.Prelude.{◌≡◌, ℕ, List, [], ◌∷◌, map, Bool, true, false, not, nat_le, Option, Some, None, unwrap_or, if◌then◌else◌}
use Rattle.std.specs.List.{filter}
use Rattle.std.specs.Str.{bytes_eq}
use Rattle.query_grammar.specs.Renumbering.{renumbered}
use Rattle.widget_meaning.specs.OwnState as meaning
use Rattle.widget_meaning.specs.OwnState.{OwnState, State, Handler, Kept}
use Rattle.widget_meaning.specs.Trees.{node_at}
use Rattle.widget_meaning.specs.Dispatch.{nearest}
use Rattle.widget_meaning.specs.Items.{without_timer}
use Rattle.page_tree.specs.declared.page.Page.{Page}
use Rattle.page_image.specs.Held.{OptionIn}
use Rattle.page_image.specs.Image as page
use Rattle.event_loop.specs.declared.around.Loop.{Loop}
use Rattle.event_loop.specs.declared.timers.Timer.{Timer}
use Rattle.event_loop.specs.Kept.{PlainKept, nothing}
use Rattle.event_loop.specs.Around as around
use Rattle.event_loop.specs.Deliveries.{Goes, Gone, Miss, Silent, Turn}

-- a handler, with the numbers that g gives to cells
abbrev pub handler_of : (ℕ → ℕ) → List ℕ × ℕ → Handler
handler_of g h = record { kind = h.0; func = g h.1 }

-- what is kept with a node; a mark that was not set is the empty text
abbrev pub kept_of : (ℕ → ℕ) → PlainKept → Kept
kept_of g k = record { handlers = map (handler_of g) k.handlers; mark = unwrap_or k.mark []; is_protected = k.is_protected }

-- a waiting timer
abbrev pub timer_of : (ℕ → ℕ) → Timer → meaning.Timer
timer_of g t = record { due = t.at; func = g t.func }

-- what is kept with the widget's nodes, by their own numbers
abbrev pub own_kept : Page → ℕ → (ℕ → ℕ) → Loop → List Kept
own_kept p w g l = map (λ n. kept_of g (around.kept l n)) (page.own p w)

-- its waiting timers
abbrev pub own_timers : (ℕ → ℕ) → Loop → List meaning.Timer
own_timers g l = map (timer_of g) (around.timers l)

-- the own number of the node that has the focus
abbrev pub own_focus : Page → ℕ → Loop → Option ℕ
own_focus p w l = renumbered (page.number p w) (around.focus l)

-- What the own state of widget w has of the page and of its loop, which keeps nothing with other nodes; g gives the numbers of cells.
pub record Shows (p : Page) (w : ℕ) (g : ℕ → ℕ) (l : Loop) (o : OwnState) : Type 0 where
  pub trees : o.forest ≡ page.forest p w
  pub notes : o.kept ≡ own_kept p w g l
  pub waiting : o.timers ≡ own_timers g l
  pub time : o.clock ≡ around.clock l
  pub focused : o.focus ≡ own_focus p w l
  pub mine : OptionIn (page.owns p w) (around.focus l)
  pub elsewhere : (n : ℕ) → page.owns p w n ≡ false → around.kept l n ≡ nothing

-- ## What is changed

-- without the handlers of a type, or without all
abbrev pub hushed : Option (List ℕ) → Kept → Kept
hushed None k = record k { handlers = [] }
hushed (Some kind) k = record k { handlers = filter (λ h. not (bytes_eq h.kind kind)) k.handlers }

-- with a mark
abbrev pub marked : List ℕ → Kept → Kept
marked text k = record k { mark = text }

-- protected for good
abbrev pub protected : Kept → Kept
protected k = record k { is_protected = true }

-- after a timer was taken out, or the clock has come to a limit
abbrev pub after_due : Option meaning.Timer → ℕ → OwnState → OwnState
after_due None limit o = record o { clock = limit }
after_due (Some t) limit o = without_timer t o

-- a timer put among others that were started later: before the first that is not due earlier
abbrev pub put_by_due : meaning.Timer → List meaning.Timer → List meaning.Timer
put_by_due t [] = t ∷ []
put_by_due t (u ∷ us) = if nat_le t.due u.due then t ∷ u ∷ us else u ∷ put_by_due t us

-- timers by their due times, the earlier started first at a tie
abbrev pub by_due : List meaning.Timer → List meaning.Timer
by_due [] = []
by_due (t ∷ ts) = put_by_due t (by_due ts)

-- ## Where an event goes

-- a node with functions, by own numbers
abbrev pub own_found : (ℕ → ℕ) → (ℕ → ℕ) → Option (ℕ × List ℕ) → Option (ℕ × List ℕ)
own_found f g None = None
own_found f g (Some (n, fs)) = Some (f n, map g fs)

-- where an event goes, by own numbers
abbrev pub own_goes : (ℕ → ℕ) → (ℕ → ℕ) → Goes → Goes
own_goes f g Gone = Gone
own_goes f g Miss = Miss
own_goes f g Silent = Silent
own_goes f g (Turn target n fs) = Turn (f target) (f n) (map g fs)

-- ## Where an event goes by the meaning

-- from its target
abbrev pub goes_from : ℕ → Option (ℕ × List ℕ) → Goes
goes_from target None = Silent
goes_from target (Some (n, fs)) = Turn target n fs

-- by its target, if there is one
abbrev pub goes_to : State → Option ℕ → List ℕ → Goes
goes_to s None kind = Miss
goes_to s (Some target) kind = goes_from target (nearest s (Some target) kind)

-- an event of a type at a path, for a widget that has stopped or not
abbrev pub goes : State → Bool → List ℕ → List ℕ → Goes
goes s stopped path kind = if stopped then Gone else goes_to s (node_at s.own.forest path) kind
