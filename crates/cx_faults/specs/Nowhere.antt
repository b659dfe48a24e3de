-- A token as if its bytes lay nowhere; this project's own.
use Rattle.cx_marks.specs.declared.spelled.Spelled.{Spelled}

abbrev pub nowhere : Spelled → Spelled
nowhere token = record { kind = token.kind; bytes = record { ref_ptr = (0, 0); now = token.bytes.now } }
