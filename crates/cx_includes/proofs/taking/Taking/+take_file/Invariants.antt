use Rattle.std.proofs.Common.{◌≡◌, ◌-◌, ◌≤◌, take}
use Rattle.cx_outside.specs.Folder.{Folder}
use Rattle.cx_includes.specs.Unit.{Takes}
use Rattle.cx_includes.specs.Taking.{IsSound, Goes, Agrees, taken, source_at}
use Rattle.cx_includes.proofs.taking.Taking.+take_file.Given as goal

abbrev pub decreases-take_file : goal.decreases-take_file
decreases-take_file g l = 17 - l.depth

abbrev pub invariant-loop-next : goal.invariant-loop-next
invariant-loop-next g l =
    let source = source_at l.initial.self l.file in
    record {
      sound : IsSound l.self;
      goes : Goes (g.F.Files.content l.initial.files) l.initial.self l.self;
      takes : (folder : Folder) → Agrees folder l.self → Takes folder l.depth source.file.name source.file.text (take l.next source.parts) (taken l.initial.self) (taken l.self);
      stays : g.F.Files.content l.files ≡ g.F.Files.content l.initial.files;
      puts : g.F.Files.put_faults l.files ≡ g.F.Files.put_faults l.initial.files;
      later : g.F.Files.faults l.initial.files ≤ g.F.Files.faults l.files;
    }
