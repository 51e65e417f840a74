-- Libraries whose programs are the same but for places: the slots over them.
use Rattle.std.proofs.Common.{◌≡◌, ℕ, zero, suc, List, [], ◌∷◌, map, Some, false, refl, sym, ap, subst, ◌∙◌}
use Rattle.std.specs.Prelude.{◌↔◌, slice_get, position}
use Rattle.std.specs.Str.{bytes_eq}
use Rattle.js_tree.specs.Plain.{Stmts}
use Rattle.js_grammar.specs.Unplaced.{unplaced_stmts}
use Rattle.adsafe_rules.specs.declared.scope.Scope.TheVariants as scope
use Rattle.plain_tree.specs.Trees.{Trees}
use Rattle.plain_tree.specs.Plains.{Places}
use Rattle.tree_ops.specs.Trees.{numbered}
use Rattle.markup_rules.specs.Elements.{body_of}
use Rattle.widget_form.specs.Rows.{IsGood}
use Rattle.trace_text.specs.declared.line.Rule.{Rule}
use Rattle.script_check.specs.Script.{IsScript, IsCleanScript, LibFirst}
use Rattle.script_check.specs.Line as line
use Rattle.script_check.proofs.Verdicts.{not_clean}
use Rattle.slot_check.specs.Slots.{FirstOfSlot}
use Rattle.slot_check.specs.Sources.{Source, Slot, key_of, keys_of, IsLibrary}
use Rattle.slot_check.specs.Slot.{IsFile, named_libs, AreClean, none, more, LibrariesFirst, here, later, SlotFirst, markup, id_script, library, go_script, IsWidget, IsCleanSlot}
use Rattle.tidy_rules.proofs.Staying.{stays_clean}
use Rattle.widget_meaning.specs.Alone.{Content}
use Rattle.place_laws.specs.Bare.{bare_content}
use Rattle.page_check.specs.Widgets.{widget, HasWidget}
use Rattle.page_check.proofs.OneWidget.{one_script, widget_once}
use Rattle.slot_lives.specs.Tidied.{as_it_was, tidied, AreTidied, slot_over}
use Rattle.slot_lives.specs.Tidied as of

-- two libraries of one name that are the same, or have the same program but for places and break no rule
pub data Twin : Source → Source → Type 0 where
  same : {lib : Source} → Twin lib lib
  both : {lib other : Source} {p q : Stmts} → other.name ≡ lib.name → IsScript lib.bytes scope.Lib p → IsScript other.bytes scope.Lib q → unplaced_stmts q ≡ unplaced_stmts p → Twin lib other

pub data AllTwins : List Source → List Source → Type 0 where
  no_twin : AllTwins [] []
  one_twin : {lib other : Source} {libs others : List Source} → Twin lib other → AllTwins libs others → AllTwins (lib ∷ libs) (other ∷ others)

back : (a b : Source) → Twin a b → Twin b a
back a b same = same
back a b (both name script other is) = both (sym name) other script (sym is)

pub all_back : (xs ys : List Source) → AllTwins xs ys → AllTwins ys xs
all_back xs ys no_twin = no_twin
all_back xs ys (one_twin {lib = a} {other = b} {libs = as1} {others = bs} t ts) = one_twin (back a b t) (all_back as1 bs ts)

-- a tidied text is a twin
tidied_twin : (lib : Source) (text : List ℕ) → line.IsTidied lib.name lib.bytes false text → Twin lib (record { name = lib.name; bytes = text })
tidied_twin lib text (line.tidied {program = p} script) =
    let stays = stays_clean lib.bytes scope.Lib p script in
    both refl script stays.script stays.same

pub twins : (xs ys : List Source) → AreTidied xs ys → AllTwins xs ys
twins xs ys of.none = no_twin
twins xs ys (of.more as_it_was rest) = one_twin same (twins _ _ rest)
twins xs ys (of.more {lib = lib} (tidied {text = text} t) rest) = one_twin (tidied_twin lib text t) (twins _ _ rest)

-- ## Libraries by name

key_twin : (a b : Source) → Twin a b → key_of b ≡ key_of a
key_twin a b same = refl
key_twin a b (both name script other is) = ap (λ n. key_of (record { name = n; bytes = b.bytes })) name

keys_twin : (xs ys : List Source) → AllTwins xs ys → keys_of ys ≡ keys_of xs
keys_twin xs ys no_twin = refl
keys_twin xs ys (one_twin {lib = a} {other = b} {libs = as1} {others = bs} t ts) = λ i. key_twin a b t i ∷ keys_twin as1 bs ts i

record At (ys : List Source) (i : ℕ) (a : Source) : Type 0 where
  lib : Source
  there : slice_get ys i ≡ Some lib
  twin : Twin a lib

some_source : (x y : Source) → Some x ≡ Some y → x ≡ y
some_source x y e = cc

at_twin : (xs ys : List Source) (i : ℕ) (a : Source) → AllTwins xs ys → slice_get xs i ≡ Some a → At ys i a
at_twin xs ys i a no_twin there = absurd (let e = there in cc)
at_twin xs ys zero a (one_twin {lib = l} {other = m} t ts) there = record { lib = m; there = refl; twin = subst (λ x. Twin x m) (some_source l a there) t }
at_twin xs ys (suc i) a (one_twin {libs = as1} {others = bs} t ts) there =
    let at = at_twin as1 bs i a ts there in
    record { lib = at.lib; there = at.there; twin = at.twin }

record Named (ys : List Source) (name : List ℕ) (place : ℕ) (a : Source) : Type 0 where
  lib : Source
  is : IsLibrary ys name place lib
  twin : Twin a lib

named_twin : (xs ys : List Source) (name : List ℕ) (place : ℕ) (a : Source) → AllTwins xs ys → IsLibrary xs name place a → Named ys name place a
named_twin xs ys name place a ts is =
    let at = at_twin xs ys place a ts is.there in
    record { lib = at.lib; is = record { first = ap (position (bytes_eq name)) (keys_twin xs ys ts) ∙ is.first; there = at.there }; twin = at.twin }

-- the program of a twin
record Read (b : Source) (p : Stmts) : Type 0 where
  program : Stmts
  script : IsScript b.bytes scope.Lib program
  bare : unplaced_stmts program ≡ unplaced_stmts p

read_twin : (a b : Source) (p : Stmts) → Twin a b → IsScript a.bytes scope.Lib p → Read b p
read_twin a b p same script = record { program = p; script = script; bare = refl }
read_twin a b p (both {p = r} {q = q} name mine other is) script =
    record { program = q; script = other; bare = is ∙ ap unplaced_stmts (one_script a.bytes scope.Lib r p mine script) }

clean_twin : (a b : Source) → Twin a b → IsCleanScript a.bytes scope.Lib → IsCleanScript b.bytes scope.Lib
clean_twin a b t c = let r = read_twin a b c.program t c.script in record { program = r.program; script = r.script }

first_twin : (a b : Source) (number at : ℕ) → Twin a b → LibFirst a.bytes number at → a ≡ b
first_twin a b number at same first = refl
first_twin a b number at (both {p = p} name script other is) first = absurd (not_clean a.bytes scope.Lib number at first (record { program = p; script = script }))

-- ## The libraries that a file names

record Cleaned (ys : List Source) (names : List (List ℕ)) (places : List ℕ) (ps : List Stmts) : Type 0 where
  programs : List Stmts
  clean : AreClean ys names places programs
  bare : map unplaced_stmts programs ≡ map unplaced_stmts ps

cleaned : (xs ys : List Source) (names : List (List ℕ)) (places : List ℕ) (ps : List Stmts) → AllTwins xs ys → AreClean xs names places ps → Cleaned ys names places ps
cleaned xs ys names places ps ts none = record { programs = []; clean = none; bare = refl }
cleaned xs ys names places ps ts (more {name = n} {place = i} {lib = l} {program = p} {names = ns} {places = is} {programs = rest} at script others) =
    let lib = named_twin xs ys n i l ts at in
    let read = read_twin l lib.lib p lib.twin script in
    let behind = cleaned xs ys ns is rest ts others in
    record { programs = read.program ∷ behind.programs; clean = more lib.is read.script behind.clean; bare = λ i. read.bare i ∷ behind.bare i }

libraries_first : (xs ys : List Source) (names : List (List ℕ)) (number : ℕ) (lib : Source) (at : ℕ) → AllTwins xs ys → LibrariesFirst xs names number lib at → LibrariesFirst ys names number lib at
libraries_first xs ys names number lib at ts (here {name = n} {place = i} is first) =
    let other = named_twin xs ys n i lib ts is in
    let e : lib ≡ other.lib = first_twin lib other.lib number at other.twin first in
    here (subst (IsLibrary ys n i) (sym e) other.is) first
libraries_first xs ys names number lib at ts (later {name = n} {place = i} {lib = l} {rest = ns} is clean rest) =
    let other = named_twin xs ys n i l ts is in
    later other.is (clean_twin l other.lib other.twin clean) (libraries_first xs ys ns number lib at ts rest)

-- ## Slots

file_twin : (slot : Slot) (ys : List Source) (file : Trees Places) → AllTwins slot.libs ys → IsFile slot file → IsFile (slot_over ys slot) file
file_twin slot ys file ts is = record { spelled = is.spelled; good = subst (λ (ks : List (List ℕ)). IsGood slot.name ks file) (sym (keys_twin slot.libs ys ts)) is.good }

pub refused_twin : (slot : Slot) (ys : List Source) (rule : Rule) (file : Source) (at : ℕ) → AllTwins slot.libs ys → SlotFirst slot rule file at → SlotFirst (slot_over ys slot) rule file at
refused_twin slot ys rule file at ts (markup {number = n} {at = x} first) =
    markup (subst (λ (ks : List (List ℕ)). FirstOfSlot slot.name ks slot.file.bytes n at) (sym (keys_twin slot.libs ys ts)) first)
refused_twin slot ys rule file at ts (id_script {file = f} is there first) = id_script (file_twin slot ys f ts is) there first
refused_twin slot ys rule file at ts (library {file = f} {number = n} {lib = l} is id first) =
    library (file_twin slot ys f ts is) id (libraries_first slot.libs ys (named_libs f) n file at ts first)
refused_twin slot ys rule file at ts (go_script {file = f} {places = is} {programs = ps} is_file id clean there first) =
    go_script (file_twin slot ys f ts is_file) id (cleaned slot.libs ys (named_libs f) is ps ts clean).clean there first

-- the widget over the twins
pub record Has (slot : Slot) (x : Content) : Type 0 where
  pub content : Content
  pub has : HasWidget slot content
  pub bare : bare_content content ≡ bare_content x

widget_of : (slot : Slot) (ys : List Source) (file : Trees Places) (places : List ℕ) (programs : List Stmts) (script : Stmts) (all : Cleaned ys (named_libs file) places programs) → AllTwins slot.libs ys → IsWidget slot file places programs script → IsWidget (slot_over ys slot) file places all.programs script
widget_of slot ys file places programs script all ts w = record { has = file_twin slot ys file ts w.has; id = w.id; libs = all.clean; span = w.span; there = w.there; last = w.last }

pub widget_twin : (slot : Slot) (ys : List Source) (x : Content) → AllTwins slot.libs ys → HasWidget slot x → Has (slot_over ys slot) x
widget_twin slot ys x ts h =
    let all = cleaned slot.libs ys (named_libs h.file) h.places h.programs ts h.is.libs in
    record {
      content = widget h.file all.programs h.script;
      has = record { file = h.file; places = h.places; programs = all.programs; script = h.script; is = widget_of slot ys h.file h.places h.programs h.script all ts h.is; same = refl };
      bare = (λ i. record { root = numbered 0 (body_of h.file); libraries = all.bare i; script = unplaced_stmts h.script }) ∙ ap bare_content (sym h.same);
    }

clean_slot : (slot : Slot) (ys : List Source) → AllTwins slot.libs ys → IsCleanSlot slot → IsCleanSlot (slot_over ys slot)
clean_slot slot ys ts c =
    let all = cleaned slot.libs ys (named_libs c.file) c.places c.programs ts c.widget.libs in
    record { file = c.file; places = c.places; programs = all.programs; script = c.script; widget = widget_of slot ys c.file c.places c.programs c.script all ts c.widget }

-- ## The laws

pub accepted_alike : (slot : Slot) (libs : List Source) → AreTidied slot.libs libs → IsCleanSlot slot ↔ IsCleanSlot (slot_over libs slot)
accepted_alike slot libs t = (clean_slot slot libs (twins slot.libs libs t), clean_slot (slot_over libs slot) slot.libs (all_back slot.libs libs (twins slot.libs libs t)))

pub refused_alike : (slot : Slot) (libs : List Source) (rule : Rule) (file : Source) (at : ℕ) → AreTidied slot.libs libs → SlotFirst slot rule file at ↔ SlotFirst (slot_over libs slot) rule file at
refused_alike slot libs rule file at t =
    (refused_twin slot libs rule file at (twins slot.libs libs t), refused_twin (slot_over libs slot) slot.libs rule file at (all_back slot.libs libs (twins slot.libs libs t)))

pub one_widget : (slot : Slot) (ys : List Source) (x y : Content) → AllTwins slot.libs ys → HasWidget slot x → HasWidget (slot_over ys slot) y → bare_content x ≡ bare_content y
one_widget slot ys x y ts has also =
    let other = widget_twin slot ys x ts has in
    sym other.bare ∙ ap bare_content (widget_once (slot_over ys slot) other.content y other.has also)

pub same_widget : (slot : Slot) (libs : List Source) (x y : Content) → AreTidied slot.libs libs → HasWidget slot x → HasWidget (slot_over libs slot) y → bare_content x ≡ bare_content y
same_widget slot libs x y t has also = one_widget slot libs x y (twins slot.libs libs t) has also
