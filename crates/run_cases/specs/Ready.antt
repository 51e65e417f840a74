-- Hosts on which the calls of a case are made.
use Rattle.std.specs.Prelude.{◌≡◌, ℕ, List, [], IfSome, Some, length, slice_get}
use Rattle.page_plan.specs.declared.SlotContent.{SlotContent}
use Rattle.page_plan.specs.Loadable.{IsLoadable, IsSwapLoadable, names_of}
use Rattle.adhost_run.specs.Housed.{IsHoused, chains, ends, given, libraries, names}
use Rattle.adhost_run.specs.Host.{Host}
use Rattle.run_cases.specs.declared.hosts.Hosted.{Hosted}
use Rattle.run_cases.specs.declared.hosts.Loading.{Loading}

-- a content may come into the slot with a number, where slots have these names, over so many libraries
abbrev pub Fits : List (List ℕ) → ℕ → ℕ → SlotContent → Type 0
Fits ns many to content = (name : List ℕ) → slice_get ns to ≡ Some name → IsSwapLoadable many name content

-- a page that a host may load, and what a swap brings
pub record IsLoading (to : ℕ) (l : Loading) : Type 0 where
  pub page : IsLoadable l.spec
  pub swap : IfSome l.swap (Fits (names_of l.spec) (length l.spec.libs.items) to)

-- a swap that is left to be given is the first one
pub record IsLeft (h : Host) (to : ℕ) (content : SlotContent) : Type 0 where
  pub first : ends h ≡ []
  pub fits : Fits (names h) (length (libraries h)) to content

-- A host, its slots and its items are counted, and the swap that it was not given yet may be given.
pub record IsReady (x : Hosted) : Type 0 where
  pub housed : IsHoused x.host
  pub slots : length (chains x.host) ≡ x.slots
  pub given : given x.host ≡ x.given
  pub left : IfSome x.left (IsLeft x.host x.to)
