-- The rows of the page hold: both sides compute to the same.
use Rattle.std.proofs.Common.{◌≡◌, refl}
use Rattle.std.specs.Prelude.{Some, None, [], ◌∷◌, codes}
use Rattle.widget_meaning.specs.Values.{Fuel}
use Rattle.plain_tree.specs.Trees.{ElementOf, TextOf}
use Rattle.widget_meaning.specs.Trees.{label_of}
use Rattle.query_grammar.specs.declared.query.Hunter.TheVariants as hunter
use Rattle.query_grammar.specs.declared.query.ListFilter.TheVariants as on_list
use Rattle.query_grammar.specs.declared.query.StepFilter.TheVariants as kind
use Rattle.widget_meaning.specs.Queries.{read_query}
use Rattle.widget_meaning.specs.Rows.{Row, rendered}
use Rattle.widget_meaning.specs.PageRows.{PageRows, Events, hidden_keys, bad_query, protected_paragraph, second_item, counted, looped}
use Rattle.widget_meaning.proofs.OnLiterals.{widgets_on_literals}

hidden_keys_row_holds : Row (rendered hidden_keys) None 27 (codes "false" ∷ []) []
unfolding widgets_on_literals
hidden_keys_row_holds = record { stop_is = refl; spent_is = refl; log_is = refl; uncaught_is = refl }

bad_query_row_holds : Row (rendered bad_query) None 24 (codes "bad query" ∷ []) []
unfolding widgets_on_literals
bad_query_row_holds = record { stop_is = refl; spent_is = refl; log_is = refl; uncaught_is = refl }

protected_paragraph_row_holds : Row (rendered protected_paragraph) None 98 (codes "1" ∷ codes "0" ∷ codes "bad place in the page" ∷ []) []
unfolding widgets_on_literals
protected_paragraph_row_holds = record { stop_is = refl; spent_is = refl; log_is = refl; uncaught_is = refl }

joined_keyword_holds : read_query (codes "p:firstb") ≡ Some (record { hunter = hunter.Tag (codes "p"); filters = kind.List on_list.First ∷ [] } ∷ record { hunter = hunter.Tag (codes "b"); filters = [] } ∷ [])
unfolding widgets_on_literals
joined_keyword_holds = refl

second_item_row_holds : Row (rendered (second_item "li:rest:first")) None 48 (codes "b" ∷ codes "1" ∷ []) []
unfolding widgets_on_literals
second_item_row_holds = record { stop_is = refl; spent_is = refl; log_is = refl; uncaught_is = refl }

second_item_again_row_holds : Row (rendered (second_item "li:first +li")) None 64 (codes "b" ∷ codes "1" ∷ []) []
unfolding widgets_on_literals
second_item_again_row_holds = record { stop_is = refl; spent_is = refl; log_is = refl; uncaught_is = refl }

counter_row_holds : Row counted None 138 (codes "clicks 1" ∷ codes "clicks 2" ∷ codes "clicks 3" ∷ []) []
unfolding widgets_on_literals
counter_row_holds = record { stop_is = refl; spent_is = refl; log_is = refl; uncaught_is = refl }

counter_events_holds : Events counted 4 1 0
unfolding widgets_on_literals
counter_events_holds = record { turns_are = refl; missed_are = refl; gone_are = refl }

counter_styled_holds : label_of 2 counted.forest ≡ Some (ElementOf (codes "p") ((codes "id", codes "COUNT_out") ∷ (codes "style", codes "color: red") ∷ []))
unfolding widgets_on_literals
counter_styled_holds = refl

counter_text_holds : label_of 10 counted.forest ≡ Some (TextOf (codes "3"))
unfolding widgets_on_literals
counter_text_holds = refl

bubble_into_loop_row_holds : Row looped (Some Fuel) 100033 (codes "b" ∷ []) []
unfolding widgets_on_literals
bubble_into_loop_row_holds = record { stop_is = refl; spent_is = refl; log_is = refl; uncaught_is = refl }

bubble_into_loop_events_holds : Events looped 2 0 1
unfolding widgets_on_literals
bubble_into_loop_events_holds = record { turns_are = refl; missed_are = refl; gone_are = refl }

pub page_rows : PageRows
page_rows = record { hidden_keys_row = hidden_keys_row_holds; bad_query_row = bad_query_row_holds; protected_paragraph_row = protected_paragraph_row_holds; joined_keyword = joined_keyword_holds; second_item_row = second_item_row_holds; second_item_again_row = second_item_again_row_holds; counter_row = counter_row_holds; counter_events = counter_events_holds; counter_styled = counter_styled_holds; counter_text = counter_text_holds; bubble_into_loop_row = bubble_into_loop_row_holds; bubble_into_loop_events = bubble_into_loop_events_holds }
