-- What the trees that are made of a unit stand for. This is this project's own.
use Rattle.cx_core.specs.View.{expr_of, object_type_or_none}
use Rattle.cx_front.specs.declared.typed.TypedExpression.{TypedExpression}
use Rattle.cx_front.specs.Front.{Typed}

abbrev pub typed_of : TypedExpression → Typed
typed_of e = record { read = object_type_or_none e.read; type = e.gives; of = expr_of e.of }
