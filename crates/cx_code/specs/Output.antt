-- This defines what a run writes to the output; it is this project's own.
use Rattle.std.specs.Prelude.{ℕ, List, [], ◌∷◌}
use Rattle.std.specs.List.{flat_map}
use Rattle.cx_code.specs.declared.run.Event.{Event}
use Rattle.cx_code.specs.declared.run.Event.TheVariants as events

abbrev pub written_out_at : Event → List ℕ
written_out_at (events.Out byte) = byte ∷ []
written_out_at event = []

-- the bytes of the events Out, in their order
abbrev pub written_out : List Event → List ℕ
written_out journal = flat_map written_out_at journal
