-- Conditions that hold, and those that do not.
use Rattle.std.proofs.Common.{◌≡◌, [], ◌∷◌, Bool, true, false, ap, ◌||◌}
use Rattle.std.specs.Prelude.{not}
use Rattle.widget_meaning.specs.Values.{E4, Fault, Value, is_object}
use Rattle.widget_meaning.specs.OwnState.{State}
use Rattle.widget_meaning.specs.Plan.{Plan}
use Rattle.widget_meaning.specs.Costs.{throw, want}
use Rattle.widget_meaning.specs.NativeForms.{want_primitives}

pub wanted : (e : Fault) (b : Bool) (s : State) (p : Plan) → b ≡ true → want e b s p ≡ p
wanted e b s p h = ap (λ t. want e t s p) h

pub unwanted : (e : Fault) (b : Bool) (s : State) (p : Plan) → b ≡ false → want e b s p ≡ throw e s
unwanted e b s p h = ap (λ t. want e t s p) h

-- one primitive
pub primitive_of : (v : Value) (s : State) (p : Plan) → is_object v ≡ false → want_primitives (v ∷ []) s p ≡ p
primitive_of v s p h = ap (λ t. want E4 (not (t || false)) s p) h

pub object_of : (v : Value) (s : State) (p : Plan) → is_object v ≡ true → want_primitives (v ∷ []) s p ≡ throw E4 s
object_of v s p h = ap (λ t. want E4 (not (t || false)) s p) h

-- two primitives
pub primitives_of : (u v : Value) (s : State) (p : Plan) → (is_object u || (is_object v || false)) ≡ false → want_primitives (u ∷ v ∷ []) s p ≡ p
primitives_of u v s p h = ap (λ t. want E4 (not t) s p) h

pub objects_of : (u v : Value) (s : State) (p : Plan) → (is_object u || (is_object v || false)) ≡ true → want_primitives (u ∷ v ∷ []) s p ≡ throw E4 s
objects_of u v s p h = ap (λ t. want E4 (not t) s p) h
