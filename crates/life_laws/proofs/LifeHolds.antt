-- The laws of what a widget has still to do.
use Rattle.std.proofs.Common.{◌≡◌, ℕ, List, sym, ap, ◌∙◌, refl, Option, Some, None}
use Rattle.std.specs.Prelude.{is_some}
use Rattle.std.proofs.lemmas.Bool.{false≢true}
use Rattle.widget_meaning.specs.Trees.{label_of}
use Rattle.widget_meaning.specs.OwnState.{OwnState}
use Rattle.life_laws.specs.Life.{Work, Turn}
use Rattle.life_laws.specs.LifeLaws.{WorkLaws, SameLaws, RunLaws, PickLaws}
use Rattle.life_laws.proofs.Runs.{runs_none, runs_more, runs_ended}
use Rattle.life_laws.proofs.Begins.{same_none, same_more, library_begins, library_passes, go_begins, go_passes, advance_begins, advance_passes, until_over, until_stopped, until_none, until_begins, event_gone, event_missed, event_unheard, event_begins, value_spent}
use Rattle.life_laws.proofs.Ends.{idle, cut, over, cut_from, over_from}

pub work_laws : (o : OwnState) (is : List Work) → WorkLaws o is
work_laws o is = record {
  library_begins = λ ss x f live parts. library_begins o ss x f is live parts;
  library_stopped = λ ss c stopped. library_passes o ss c is stopped;
  go_begins = λ ss x f live parts. go_begins o ss x f is live parts;
  go_stopped = λ ss c stopped. go_passes o ss c is stopped;
  advance_begins = λ d live. advance_begins o d is live;
  advance_stopped = λ d c stopped. advance_passes o d c is stopped;
  until_over = λ limit. until_over o (record o { clock = limit }) limit is refl;
  until_stopped = λ n limit c stopped. until_stopped o n limit c is stopped;
  until_none = λ n limit live none. until_none o (record o { clock = limit }) n limit is live none refl;
  until_begins = λ n limit t live next. until_begins o n limit t is live next;
  event_gone = λ e c stopped. event_gone o _ e c is stopped refl;
  event_missed = λ e live missed. event_missed o _ e is live missed refl;
  event_unheard = λ p e n live at value silent.
      event_unheard o p e n is live at value silent (ap (λ (q : OwnState). q.spent) value ∙ value_spent (label_of n o.forest) n e.value o);
  event_begins = λ p e n f live at value found.
      event_begins o p e n f is live at value found (ap (λ (q : OwnState). q.spent) value ∙ value_spent (label_of n o.forest) n e.value o);
}

pub same_laws : SameLaws
same_laws = record { none = same_none; more = same_more }

pub run_laws : (k : ℕ) → RunLaws k
run_laws k = record {
  none = runs_none k;
  more = λ a c s t u v. runs_more k a c s t u v;
  ends = λ a t u. runs_ended k a t u;
}

-- a turn begins, or none does
none_or_some : (o : Option Turn) (t : Turn) → o ≡ None → o ≡ Some t → ⊥
none_or_some o t e f = false≢true (sym (ap is_some e) ∙ ap is_some f)

pub pick_laws : PickLaws
pick_laws = record {
  idle = idle;
  cut = λ k a s t u x y z h. cut k a s t u x y z h.state h.same h.before h.after h.queue h.runs h.within h.some h.enough h.out_of_fuel;
  over = λ k a s t u x y how o h. over k a s t u x y how o h.same h.before h.after h.queue h.runs h.within h.some h.out h.own h.spent h.fuel;
  cut_from = cut_from;
  over_from = over_from;
  idle_not_cut = λ k s t i c. none_or_some _ c.turn i.none c.begins;
  idle_not_over = λ k s t i v. none_or_some _ v.turn i.none v.begins;
  cut_not_over = λ k s t c v. false≢true (sym (ap is_some v.going) ∙ c.going);
}
