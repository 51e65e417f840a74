use Rattle.std.proofs.Common.{◌≡◌, ◌<◌, [], ◌∷◌, ◌++◌, All, Option, length, map, sym, ap, subst, ◌∙◌, arith, append-nil, rules}
use Rattle.std.specs.Global.{Vec}
use Rattle.std.proofs.lemmas.List.{map-append}
use Rattle.manifest_reader.specs.declared.entry.Entry.{Entry}
use Rattle.manifest_reader.specs.Page.{part_of}
use Rattle.slot_check.specs.declared.fault.Refusal.{Refusal}
use Rattle.slot_check.specs.Verdicts.{sources_of, slot_of, IsSmall}
use Rattle.page_plan.specs.declared.SlotSpec.{SlotSpec}
use Rattle.page_plan.specs.Contents.{content_of}
use Rattle.page_plan.specs.Loadable.{IsSwapLoadable}
use Rattle.page_check.specs.Runs.{named}
use Rattle.page_check.specs.Judged.{JudgesOver, IsJudged, name_of}
use Rattle.page_check.proofs.Slotted.{named_more, slot_within, slots_more, slots_same, loadable_more, no_slots, named_all, none_loadable}
use Rattle.page_check.proofs.slots.judge_slots.Goals as goal
use Rattle.page_check.proofs.slots.judge_slots.Goals.{in-Html, in-Slot+in_ok-key-in-Slot+in_ok-one-in-Slot+in_ok-push-in-Slot+in_ok-push-in-Slot-2}

pub entries-init : goal.entries-init
entries-init c = record {
  names = ap (map name_of) c.new-slots.ensures.items;
  slots = λ scripts over. no_slots scripts (sources_of c.args.libs.now) (sources_of c.args.files.now) c.new-slots.result.items c.new-refusals.result.items c.new-slots.ensures.items c.new-refusals.ensures.items;
  loadable = λ scripts over. none_loadable (length scripts) c.new-slots.result.items c.new-slots.ensures.items;
  stays = λ scripts over. over;
}

pub offset_bounds-files-len : goal.offset_bounds-files-len
offset_bounds-files-len c =
    let w = slot_within c.args.entries.now c.entries.entry-index c.entry-item.result c.entries.slots.items c.args.files.now (c.in-Slot.name, c.in-Slot.fuel) c.entries-test.true c.entry-item.is c.entries.invariant.names (ap (λ (e : Entry). named (part_of e)) c.in-Slot.is) c.requires.paired in
    let l = c.entries.slots.ok.0 in
    let within : c.len.result < length c.args.files.now = omega (arith, w, l, c.len.ensures) in
    search (rules, within)

pub bounds-files-len : goal.bounds-files-len
bounds-files-len c =
    let w = slot_within c.args.entries.now c.entries.entry-index c.entry-item.result c.entries.slots.items c.args.files.now (c.in-Slot.name, c.in-Slot.fuel) c.entries-test.true c.entry-item.is c.entries.invariant.names (ap (λ (e : Entry). named (part_of e)) c.in-Slot.is) c.requires.paired in
    let l = c.entries.slots.ok.0 in
    omega (arith, w, l, c.len.ensures)

pub judge-requires-clause-small : goal.judge-requires-clause-small
judge-requires-clause-small c =
    let w = slot_within c.args.entries.now c.entries.entry-index c.entry-item.result c.entries.slots.items c.args.files.now (c.in-Slot.name, c.in-Slot.fuel) c.entries-test.true c.entry-item.is c.entries.invariant.names (ap (λ (e : Entry). named (part_of e)) c.in-Slot.is) c.requires.paired in
    let l = c.entries.slots.ok.0 in
    subst IsSmall (sym c.index-files-len.is) (c.requires.small c.len.result c.index-files-len.result (omega (arith, w, l, c.len.ensures)))

pub entries-preserved : goal.entries-preserved
entries-preserved c =
    let es = c.args.entries.now in
    let i = c.entries.entry-index in
    let e = c.entry-item.result in
    let libs = sources_of c.args.libs.now in
    let slots = c.entries.slots.items in
    let refusals = c.entries.refusals.items in
    let before = c.entries.invariant in
    elim c.match-entry.branch [
      | in-Html w ↦
          let none : named (part_of e) ≡ [] = ap (λ (x : Entry). named (part_of x)) w.in-Html.is in
          let same : c.match-entry.slots.items ≡ slots = ap (λ (s : Vec SlotSpec). s.items) w.slots-is in
          let also : c.match-entry.refusals.items ≡ refusals = ap (λ (s : Vec (Option Refusal)). s.items) w.refusals-is in
          record {
            names = named_more es i e (map name_of slots) (map name_of c.match-entry.slots.items) c.entries-test.true c.entry-item.is before.names (ap (map name_of) same ∙ sym (append-nil (map name_of slots)) ∙ ap (λ l. map name_of slots ++ l) (sym none));
            slots = λ scripts over. slots_same scripts libs (sources_of c.args.files.now) slots c.match-entry.slots.items refusals c.match-entry.refusals.items (before.slots scripts over) same also;
            loadable = λ scripts over. subst (All (λ (s : SlotSpec). IsSwapLoadable (length scripts) s.name s.content)) (sym same) (before.loadable scripts over);
            stays = λ scripts over. subst (JudgesOver libs scripts) (sym w.later-is) (before.stays scripts over);
          }
      | in-Slot+in_ok-key-in-Slot+in_ok-one-in-Slot+in_ok-push-in-Slot+in_ok-push-in-Slot-2 w ↦
          let key = w.in_ok-key-in-Slot.ensures in
          let one = w.in_ok-one-in-Slot.one in
          let slot : SlotSpec = record { name = w.in_ok-key-in-Slot.key; fuel = w.in-Slot.fuel; content = one.content } in
          let comes : named (part_of e) ≡ (w.in-Slot.name, w.in-Slot.fuel) ∷ [] = ap (λ (x : Entry). named (part_of x)) w.in-Slot.is in
          let grown : c.match-entry.slots.items ≡ slots ++ slot ∷ [] = ap (λ (s : Vec SlotSpec). s.items) w.slots-is ∙ w.in_ok-push-in-Slot.ensures.items in
          let longer : c.match-entry.refusals.items ≡ refusals ++ one.refusal ∷ [] = ap (λ (s : Vec (Option Refusal)). s.items) w.refusals-is ∙ w.in_ok-push-in-Slot-2.ensures.items in
          let inside = slot_within es i e slots c.args.files.now (w.in-Slot.name, w.in-Slot.fuel) c.entries-test.true c.entry-item.is before.names comes c.requires.paired in
          let many : w.len.result ≡ length slots = (let l = c.entries.slots.ok.0 in omega (arith, l, w.len.ensures)) in
          record {
            names = named_more es i e (map name_of slots) (map name_of c.match-entry.slots.items) c.entries-test.true c.entry-item.is before.names
                (ap (map name_of) grown ∙ map-append name_of slots (slot ∷ []) ∙ ap (λ n. map name_of slots ++ (n, w.in-Slot.fuel) ∷ []) key ∙ ap (λ l. map name_of slots ++ l) (sym comes));
            slots = λ scripts over. slots_more scripts c.args.libs.now c.args.files.now slots c.match-entry.slots.items refusals c.match-entry.refusals.items slot w.index-files-len.result one.refusal w.len.result many (omega (arith, inside, many)) w.index-files-len.is (before.slots scripts over)
                (subst (λ n. IsJudged (slot_of n w.index-files-len.result c.args.libs.now) (content_of scripts one.content) one.refusal) (sym key) (w.in_ok-one-in-Slot.ensures.is scripts (before.stays scripts over))) grown longer;
            loadable = λ scripts over. loadable_more (length scripts) slots c.match-entry.slots.items slot (before.loadable scripts over)
                (subst (λ n. IsSwapLoadable (length scripts) n one.content) (sym key) (w.in_ok-one-in-Slot.ensures.loadable scripts (before.stays scripts over))) grown;
            stays = λ scripts over. subst (JudgesOver libs scripts) (sym w.later-is) (w.in_ok-one-in-Slot.ensures.stays scripts (before.stays scripts over));
          }
    ]

pub returns-clause-names : goal.returns-clause-names
returns-clause-names c = named_all c.args.entries.now c.entries.entry-index (map name_of c.entries.slots.items) c.entries-test.false c.entries.invariant.names

pub returns-clause-slots : goal.returns-clause-slots
returns-clause-slots c = c.entries.invariant.slots

pub returns-clause-loadable : goal.returns-clause-loadable
returns-clause-loadable c = c.entries.invariant.loadable

pub returns-clause-stays : goal.returns-clause-stays
returns-clause-stays c = c.entries.invariant.stays
