use Rattle.std.proofs.Common.{ℕ, take}
use Rattle.std.specs.Prelude.{Contains}
use Rattle.cx_includes.specs.declared.part.Directive.TheVariants.{Once}
use Rattle.cx_includes.specs.declared.part.Part.TheVariants.{Line}
use Rattle.cx_includes.proofs.source.has_once.Given as goal

abbrev pub invariant-loop-part : goal.invariant-loop-part
invariant-loop-part l = (line : ℕ) → Contains (take l.part-index l.parts) (Line Once line) → ⊥
