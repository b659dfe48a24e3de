use Rattle.std.proofs.Common.{length, take, ap, append_assoc}
use Rattle.std.specs.List.{flat_map}
use Rattle.cx_code.specs.Spelling.{type_entry}
use Rattle.cx_rules.proofs.Lowest.{read_at}
use Rattle.cx_image.specs.Places.{before_types, before_dropper}
use Rattle.cx_image.proofs.Standing.{up_to_is}
use Rattle.cx_image.proofs.places.before_dropper.Goals as goal

pub returns : goal.returns
returns c =
    let at = read_at _ c.args.image.now.types c.args.of c.index-types-of.result c.items-types.ensures (rw c.items-types.ensures c.requires.there) c.index-types-of.is in
    rw (c.in_ok-put_before_dropper.ensures, c.in_ok-put_types.ensures, c.in_ok-put_before_types.ensures, c.new-out.ensures, c.items-types.ensures, up_to_is type_entry before_dropper c.args.image.now.types c.args.of c.index-types-of.result at) (ap length (append_assoc (before_types c.args.image.now) (flat_map type_entry (take c.args.of c.args.image.now.types)) (before_dropper c.index-types-of.result)))
