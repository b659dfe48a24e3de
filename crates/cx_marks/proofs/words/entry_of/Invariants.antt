use Rattle.std.proofs.Common.{◌≡◌, drop, bytes_eq}
use Rattle.std.specs.Map.{lookup}
use Rattle.cx_marks.proofs.words.entry_of.Given as goal

abbrev pub invariant-loop-spelling : goal.invariant-loop-spelling
invariant-loop-spelling g l = lookup (λ k. bytes_eq k.now l.bytes) l.table ≡ lookup (λ k. bytes_eq k.now l.bytes) (drop l.spelling-index l.table)
