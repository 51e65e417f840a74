-- The rows hold: both sides compute to the same.
use Rattle.std.proofs.Common.{◌≡◌, refl}
use Rattle.std.specs.Prelude.{Some, None, [], ◌∷◌, codes}
use Rattle.std.specs.Fmt as fmt
use Rattle.code_units.specs.Whole as whole
use Rattle.widget_meaning.specs.Scopes as scopes
use Rattle.widget_meaning.specs.Values.{PastLimit, Depth, Number}
use Rattle.widget_meaning.specs.Rows.{Rows, Row, rendered, log_sum, joined_left, number_limit, inexact_quotient, nan_as_name, bare_concat, endless_call, declared_name, expression_name, uncaught_object}

log_sum_holds : Row (rendered log_sum) None 10 (codes "3" ∷ []) []
unfolding fmt.digits whole.number_in whole.trimmed scopes.stmt_vars
log_sum_holds = record { stop_is = refl; spent_is = refl; log_is = refl; uncaught_is = refl }

joined_left_holds : Row (rendered joined_left) None 14 (codes "a12" ∷ []) []
unfolding fmt.digits whole.number_in whole.trimmed scopes.stmt_vars
joined_left_holds = record { stop_is = refl; spent_is = refl; log_is = refl; uncaught_is = refl }

number_limit_holds : Row (rendered number_limit) (Some (PastLimit Number)) 32 (codes "9007199254740991" ∷ []) []
unfolding fmt.digits whole.number_in whole.trimmed scopes.stmt_vars
number_limit_holds = record { stop_is = refl; spent_is = refl; log_is = refl; uncaught_is = refl }

inexact_quotient_holds : Row (rendered inexact_quotient) (Some (PastLimit Number)) 21 (codes "3" ∷ []) []
unfolding fmt.digits whole.number_in whole.trimmed scopes.stmt_vars
inexact_quotient_holds = record { stop_is = refl; spent_is = refl; log_is = refl; uncaught_is = refl }

nan_as_name_holds : Row (rendered nan_as_name) None 25 (codes "NaN" ∷ codes "x" ∷ []) []
unfolding fmt.digits whole.number_in whole.trimmed scopes.stmt_vars
nan_as_name_holds = record { stop_is = refl; spent_is = refl; log_is = refl; uncaught_is = refl }

bare_concat_holds : Row (rendered bare_concat) None 28 (codes "bad receiver" ∷ []) []
unfolding fmt.digits whole.number_in whole.trimmed scopes.stmt_vars
bare_concat_holds = record { stop_is = refl; spent_is = refl; log_is = refl; uncaught_is = refl }

endless_call_holds : Row (rendered endless_call) (Some (PastLimit Depth)) 601 [] []
unfolding fmt.digits whole.number_in whole.trimmed scopes.stmt_vars
endless_call_holds = record { stop_is = refl; spent_is = refl; log_is = refl; uncaught_is = refl }

declared_name_holds : Row (rendered declared_name) None 15 (codes "1" ∷ []) []
unfolding fmt.digits whole.number_in whole.trimmed scopes.stmt_vars
declared_name_holds = record { stop_is = refl; spent_is = refl; log_is = refl; uncaught_is = refl }

declared_name_slots_are : (rendered declared_name).counts.slots ≡ 5
unfolding fmt.digits whole.number_in whole.trimmed scopes.stmt_vars
declared_name_slots_are = refl

expression_name_holds : Row (rendered expression_name) None 18 (codes "0" ∷ []) []
unfolding fmt.digits whole.number_in whole.trimmed scopes.stmt_vars
expression_name_holds = record { stop_is = refl; spent_is = refl; log_is = refl; uncaught_is = refl }

expression_name_slots_are : (rendered expression_name).counts.slots ≡ 7
unfolding fmt.digits whole.number_in whole.trimmed scopes.stmt_vars
expression_name_slots_are = refl

uncaught_object_holds : Row (rendered uncaught_object) None 5 [] (codes "X: y" ∷ [])
unfolding fmt.digits whole.number_in whole.trimmed scopes.stmt_vars
uncaught_object_holds = record { stop_is = refl; spent_is = refl; log_is = refl; uncaught_is = refl }

pub rows : Rows
rows = record { log_sum_row = log_sum_holds; joined_left_row = joined_left_holds; number_limit_row = number_limit_holds; inexact_quotient_row = inexact_quotient_holds; nan_as_name_row = nan_as_name_holds; bare_concat_row = bare_concat_holds; endless_call_row = endless_call_holds; declared_name_row = declared_name_holds; declared_name_slots = declared_name_slots_are; expression_name_row = expression_name_holds; expression_name_slots = expression_name_slots_are; uncaught_object_row = uncaught_object_holds }
