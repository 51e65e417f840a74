-- The rows of single bodies hold: both sides compute to the same.
use Rattle.std.proofs.Common.{◌≡◌, refl}
use Rattle.std.specs.Prelude.{Some, None, [], ◌∷◌, codes}
use Rattle.widget_meaning.specs.Values.{PastLimit, Nodes}
use Rattle.plain_tree.specs.Trees.{End}
use Rattle.widget_meaning.specs.Rows.{Row, rendered}
use Rattle.widget_meaning.specs.PageRows.{Events}
use Rattle.widget_meaning.specs.RowTrees.{element, words}
use Rattle.widget_meaning.specs.BodyRows.{BodyRows, page, bold, shown, spliced, in_radix, made_text, replaced_ends, fallen_through, along_chain, posted, appended_copies, replaced_by_text, each_counted, fired_up, marked_all, timed_out, crowded}
use Rattle.widget_meaning.proofs.OnLiterals.{widgets_on_literals}

spliced-holds : Row (rendered spliced) None 26 (codes "1" ∷ []) []
unfolding widgets_on_literals
spliced-holds = record { stop_is = refl; spent_is = refl; log_is = refl; uncaught_is = refl }

in_radix-holds : Row (rendered in_radix) None 13 (codes "ff" ∷ []) []
unfolding widgets_on_literals
in_radix-holds = record { stop_is = refl; spent_is = refl; log_is = refl; uncaught_is = refl }

made_text-holds : Row (rendered made_text) None 18 (codes "55" ∷ []) []
unfolding widgets_on_literals
made_text-holds = record { stop_is = refl; spent_is = refl; log_is = refl; uncaught_is = refl }

replaced_ends-holds : Row (rendered replaced_ends) None 44 (codes "2" ∷ codes "3" ∷ codes "4" ∷ []) []
unfolding widgets_on_literals
replaced_ends-holds = record { stop_is = refl; spent_is = refl; log_is = refl; uncaught_is = refl }

fallen_through-holds : Row (rendered fallen_through) None 15 [] []
unfolding widgets_on_literals
fallen_through-holds = record { stop_is = refl; spent_is = refl; log_is = refl; uncaught_is = refl }

along_chain-holds : Row (rendered along_chain) None 52 (codes "za" ∷ []) []
unfolding widgets_on_literals
along_chain-holds = record { stop_is = refl; spent_is = refl; log_is = refl; uncaught_is = refl }

posted-holds : Row (rendered posted) None 11 [] []
unfolding widgets_on_literals
posted-holds = record { stop_is = refl; spent_is = refl; log_is = refl; uncaught_is = refl }

timed-holds : Row timed_out None 88 (codes "a" ∷ codes "a2" ∷ codes "b" ∷ codes "c" ∷ []) []
unfolding widgets_on_literals
timed-holds = record { stop_is = refl; spent_is = refl; log_is = refl; uncaught_is = refl }

appended_copies-holds : Row (rendered appended_copies) None 46 [] []
unfolding widgets_on_literals
appended_copies-holds = record { stop_is = refl; spent_is = refl; log_is = refl; uncaught_is = refl }

replaced_by_text-holds : Row (rendered replaced_by_text) None 32 [] []
unfolding widgets_on_literals
replaced_by_text-holds = record { stop_is = refl; spent_is = refl; log_is = refl; uncaught_is = refl }

each_counted-holds : Row (rendered each_counted) None 51 [] []
unfolding widgets_on_literals
each_counted-holds = record { stop_is = refl; spent_is = refl; log_is = refl; uncaught_is = refl }

fired_up-holds : Row (rendered fired_up) None 40 [] []
unfolding widgets_on_literals
fired_up-holds = record { stop_is = refl; spent_is = refl; log_is = refl; uncaught_is = refl }

marked_all-holds : Row (rendered marked_all) None 50 [] []
unfolding widgets_on_literals
marked_all-holds = record { stop_is = refl; spent_is = refl; log_is = refl; uncaught_is = refl }

posted_posts-holds : (rendered posted).posts ≡ record { receiver = codes "B_"; text = codes "abc" } ∷ []
unfolding widgets_on_literals
posted_posts-holds = refl

timed_turns-holds : Events timed_out 5 0 0
unfolding widgets_on_literals
timed_turns-holds = record { turns_are = refl; missed_are = refl; gone_are = refl }

appended_copies_page-holds : shown (rendered appended_copies) ≡ page bold (element "b" [] (words "x" End) End)
unfolding widgets_on_literals
appended_copies_page-holds = refl

replaced_by_text_page-holds : shown (rendered replaced_by_text) ≡ page (words "1" End) End
unfolding widgets_on_literals
replaced_by_text_page-holds = refl

crowded_row-holds : Row crowded (Some (PastLimit Nodes)) 7 [] []
unfolding widgets_on_literals
crowded_row-holds = record { stop_is = refl; spent_is = refl; log_is = refl; uncaught_is = refl }

-- all of them
pub body_rows : BodyRows
body_rows = record {
  spliced_row = spliced-holds;
  in_radix_row = in_radix-holds;
  made_text_row = made_text-holds;
  replaced_ends_row = replaced_ends-holds;
  fallen_through_row = fallen_through-holds;
  along_chain_row = along_chain-holds;
  posted_row = posted-holds;
  timed_row = timed-holds;
  appended_copies_row = appended_copies-holds;
  replaced_by_text_row = replaced_by_text-holds;
  each_counted_row = each_counted-holds;
  fired_up_row = fired_up-holds;
  marked_all_row = marked_all-holds;
  posted_posts = posted_posts-holds;
  timed_turns = timed_turns-holds;
  appended_copies_page = appended_copies_page-holds;
  replaced_by_text_page = replaced_by_text_page-holds;
  crowded_row = crowded_row-holds;
}
