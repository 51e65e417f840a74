-- The rows, computed.
use Rattle.std.proofs.Common.{refl}
use Rattle.std.specs.Prelude.{Some, None, [], ◌∷◌, codes}
use Rattle.widget_meaning.specs.Values.{PastLimit, Number}
use Rattle.widget_meaning.specs.Rows.{Row, rendered}
use Rattle.widget_meaning.proofs.OnLiterals.{widgets_on_literals}
use Rattle.widget_meaning.specs.NativeRows.{NativeRows, sorted_texts, underscore_get, mapped_squares, hidden_get, json_and_back, json_fraction, json_banned_name}

sorted_texts-holds : Row (rendered sorted_texts) None 34 (codes "10,2,3" ∷ []) []
unfolding widgets_on_literals
sorted_texts-holds = record { stop_is = refl; spent_is = refl; log_is = refl; uncaught_is = refl }

underscore_get-holds : Row (rendered underscore_get) None 27 (codes "bad name" ∷ []) []
unfolding widgets_on_literals
underscore_get-holds = record { stop_is = refl; spent_is = refl; log_is = refl; uncaught_is = refl }

mapped_squares-holds : Row (rendered mapped_squares) None 37 (codes "9" ∷ []) []
unfolding widgets_on_literals
mapped_squares-holds = record { stop_is = refl; spent_is = refl; log_is = refl; uncaught_is = refl }

hidden_get-holds : Row (rendered hidden_get) None 57 (codes "bad name" ∷ codes "bad name" ∷ []) []
unfolding widgets_on_literals
hidden_get-holds = record { stop_is = refl; spent_is = refl; log_is = refl; uncaught_is = refl }

json_and_back-holds : Row (rendered json_and_back) None 81 (codes "{\"a\":\"x\",\"b\":[1,null]}" ∷ []) []
unfolding widgets_on_literals
json_and_back-holds = record { stop_is = refl; spent_is = refl; log_is = refl; uncaught_is = refl }

json_fraction-holds : Row (rendered json_fraction) (Some (PastLimit Number)) 10 [] []
unfolding widgets_on_literals
json_fraction-holds = record { stop_is = refl; spent_is = refl; log_is = refl; uncaught_is = refl }

json_banned_name-holds : Row (rendered json_banned_name) None 7 [] (codes "ADsafe: bad name" ∷ [])
unfolding widgets_on_literals
json_banned_name-holds = record { stop_is = refl; spent_is = refl; log_is = refl; uncaught_is = refl }

-- all of them
pub native_rows : NativeRows
native_rows = record { sorted_texts_row = sorted_texts-holds; underscore_get_row = underscore_get-holds; mapped_squares_row = mapped_squares-holds; hidden_get_row = hidden_get-holds; json_and_back_row = json_and_back-holds; json_fraction_row = json_fraction-holds; json_banned_name_row = json_banned_name-holds }
