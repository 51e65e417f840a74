-- What is called.
use Rattle.std.specs.Prelude.{Bool, true, false}
use Rattle.js_image.specs.declared.outcome.Callee.{Callee}
use Rattle.js_image.specs.declared.outcome.Callee.TheVariants as callee

-- whether it is a function of the widget
abbrev pub is_function_callee : Callee → Bool
is_function_callee (callee.Function p) = true
is_function_callee (callee.Native n) = false
is_function_callee callee.Nothing = false
