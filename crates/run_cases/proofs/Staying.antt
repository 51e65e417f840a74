-- Calls leave a host ready for more.
use Rattle.std.proofs.Common.{◌≡◌, ◌∙◌, ◌<◌, ◌+◌, ◌++◌, ℕ, zero, suc, List, [], ◌∷◌, Option, Some, None, length, refl, sym, ap, subst, arith, length-append}
use Rattle.std.specs.Prelude.{IfSome, option_to_list, slice_get}
use Rattle.std.proofs.lemmas.List.{length-map}
use Rattle.page_plan.specs.declared.SlotContent.{SlotContent}
use Rattle.page_plan.specs.declared.PageSpec.{PageSpec}
use Rattle.page_plan.specs.Loadable.{AreLoadableSwaps, IsLoadable, IsSwapLoadable, more, none, names_of}
use Rattle.adhost_run.specs.Host.{Host}
use Rattle.adhost_run.specs.HostItem.{HostItem}
use Rattle.adhost_run.specs.Housed.{GivesItem, GivesSwap, IsHoused, KeepsHost, Loads, chains, ends, given, libraries, names, singles}
use Rattle.run_cases.specs.declared.hosts.Hosted.{Hosted}
use Rattle.run_cases.specs.declared.hosts.Loading.{Loading}
use Rattle.run_cases.specs.Ready.{Fits, IsLeft, IsLoading, IsReady}

-- ## A host that is loaded

long : (v n : ℕ) → length (singles v n) ≡ n
long v zero = refl
long v (suc n) = ap suc (long (v + 1) n)

left_loaded : (l : Loading) (h : Host) (to : ℕ) (left : Option SlotContent) → Loads l.spec h → IfSome left (Fits (names_of l.spec) (length l.spec.libs.items) to) → IfSome left (IsLeft h to)
left_loaded l h to None loads fits = tt
left_loaded l h to (Some content) loads fits = record {
  first = loads.ends;
  fits = subst (λ (ns : List (List ℕ)). Fits ns (length (libraries h)) to content) (sym loads.names) (subst (λ n. Fits (names_of l.spec) n to content) (sym (ap length loads.libraries ∙ length-map l.spec.libs.items _)) fits);
}

pub ready_loaded : (to slots : ℕ) (l : Loading) (h : Host) → IsLoading to l → Loads l.spec h → slots ≡ length l.spec.slots.items → IsReady (record { host = h; slots = slots; given = 0; to = to; left = l.swap })
ready_loaded to slots l h loading loads many = record {
  housed = loads.housed;
  slots = ap length loads.chains ∙ long 0 (length l.spec.slots.items) ∙ sym many;
  given = loads.given;
  left = left_loaded l h to l.swap loads loading.swap;
}

-- ## Calls

even : (h : Host) → length (names h) ≡ length (chains h)
unfolding names chains
even h = length-map h.slots.items _ ∙ sym (length-map h.slots.items _)

as_many : (old new : Host) → names new ≡ names old → length (chains new) ≡ length (chains old)
as_many old new same = sym (even new) ∙ ap length same ∙ even old

left_stays : (old new : Host) (to : ℕ) (left : Option SlotContent) → KeepsHost old new → IfSome left (IsLeft old to) → IfSome left (IsLeft new to)
left_stays old new to None stays is = tt
left_stays old new to (Some content) stays is = record {
  first = stays.ends ∙ is.first;
  fits = subst (λ (ns : List (List ℕ)). Fits ns (length (libraries new)) to content) (sym stays.plan.names) (subst (λ n. Fits (names old) n to content) (sym (ap length stays.plan.libraries)) is.fits);
}

stays : (x : Hosted) (new : Host) (n : ℕ) → IsReady x → KeepsHost x.host new → IsHoused new → given new ≡ n → IsReady (record x { host = new; given = n })
stays x new n is kept housed items = record {
  housed = housed;
  slots = as_many x.host new kept.plan.names ∙ is.slots;
  given = items;
  left = left_stays x.host new x.to x.left kept is.left;
}

-- nothing was given
pub ready_kept : (x : Hosted) (new : Host) → IsReady x → KeepsHost x.host new → IsHoused new → given new ≡ given x.host → IsReady (record x { host = new })
ready_kept x new is kept housed items = stays x new x.given is kept housed (items ∙ is.given)

-- an item was given
pub ready_given : (x : Hosted) (new : Host) → IsReady x → KeepsHost x.host new → IsHoused new → given new ≡ given x.host + 1 → IsReady (record x { host = new; given = x.given + 1 })
ready_given x new is kept housed items = stays x new (x.given + 1) is kept housed (items ∙ ap (λ n. n + 1) is.given)

pub ready_gave : (i : HostItem) (x : Hosted) (new : Host) → IsReady x → GivesItem i x.host new → IsHoused new → IsReady (record x { host = new; given = x.given + 1 })
ready_gave i x new is gives housed = ready_given x new is gives.stays housed gives.given

-- the swap was given
pub ready_swapped : (content : SlotContent) (x : Hosted) (new : Host) → IsReady x → GivesSwap x.to content x.host new → IsHoused new → IsReady (record x { host = new; given = x.given + 1; left = None })
ready_swapped content x new is gives housed = record {
  housed = housed;
  slots = as_many x.host new gives.stays.plan.names ∙ is.slots;
  given = gives.given ∙ ap (λ n. n + 1) is.given;
  left = tt;
}

-- it may be given
left_is : (h : Host) (to : ℕ) (left : Option SlotContent) (content : SlotContent) → IfSome left (IsLeft h to) → left ≡ Some content → IsLeft h to content
left_is h to left content is some = subst (λ l. IfSome l (IsLeft h to)) some is

pub left_few : (x : Hosted) (content : SlotContent) → IsReady x → x.left ≡ Some content → length (ends x.host) < 4
left_few x content is some = let empty = ap length (left_is x.host x.to x.left content is.left some).first in omega (arith, empty)

pub left_fits : (x : Hosted) (content : SlotContent) → IsReady x → x.left ≡ Some content → (name : List ℕ) → slice_get (names x.host) x.to ≡ Some name → IsSwapLoadable (length (libraries x.host)) name content
left_fits x content is some = (left_is x.host x.to x.left content is.left some).fits

-- ## What a swap brings

some_is : (x y : List ℕ) → Some x ≡ Some y → x ≡ y
some_is x y e = cc

the_one : (x y : SlotContent) (rest : List SlotContent) → x ∷ [] ≡ rest ++ y ∷ [] → x ≡ y
the_one x y [] e = cc
the_one x y (z ∷ rest) e = absurd (omega (arith, ap length e, length-append rest (y ∷ [])))

brought : (many to : ℕ) (ns : List (List ℕ)) (contents rest : List SlotContent) (last : Option SlotContent) → AreLoadableSwaps many ns (to ∷ []) contents → contents ≡ rest ++ option_to_list last → IfSome last (Fits ns many to)
brought many to ns contents rest None swaps is = tt
brought many to ns contents rest (Some y) (more {name = n} {content = x} there loadable none) is =
    λ name named. subst (IsSwapLoadable many name) (the_one x y rest is) (subst (λ m. IsSwapLoadable many m x) (some_is n name (sym there ∙ named)) loadable)

pub loading_brought : (spec : PageSpec) (to : ℕ) (contents rest : List SlotContent) (last : Option SlotContent) → IsLoadable spec → AreLoadableSwaps (length spec.libs.items) (names_of spec) (to ∷ []) contents
    → contents ≡ rest ++ option_to_list last → IsLoading to (record { spec = spec; swap = last })
loading_brought spec to contents rest last page swaps is = record {
  page = page;
  swap = brought (length spec.libs.items) to (names_of spec) contents rest last swaps is;
}
