-- The counts of faults of the objects over a folder, a reader and a writer, which tell nothing else. This project's own.
use Rattle.std.specs.Prelude.{ℕ}
use Rattle.cx_outside.specs.declared.adapters.disk.DiskFiles.{DiskFiles}
use Rattle.cx_outside.specs.declared.adapters.standard.StdSource.{StdSource}
use Rattle.cx_outside.specs.declared.adapters.standard.StdSink.{StdSink}

abbrev pub disk_faults : {R File Dir : Type 0} → DiskFiles R File Dir → ℕ
disk_faults files = files.faults

-- of the calls of `put` alone
abbrev pub disk_put_faults : {R File Dir : Type 0} → DiskFiles R File Dir → ℕ
disk_put_faults files = files.put_faults

abbrev pub source_faults : {R : Type 0} → StdSource R → ℕ
source_faults source = source.faults

abbrev pub sink_faults : {W : Type 0} → StdSink W → ℕ
sink_faults sink = sink.faults
