use Rattle.std.proofs.Common.{length, refl}
use Rattle.cx_code.specs.Spelling.{function, number}
use Rattle.cx_rules.proofs.Lowest.{read_at}
use Rattle.cx_image.specs.Places.{before_code, before_functions}
use Rattle.cx_image.proofs.Standing.{written_up_to}
use Rattle.cx_image.proofs.places.before_code.Goals as goal

pub returns : goal.returns
returns c =
    let at = read_at _ c.args.image.now.functions c.args.index c.index-functions-index.result c.items-functions.ensures (rw c.items-functions.ensures c.requires.there) c.index-functions-index.is in
    written_up_to function before_code c.args.image.now.functions c.args.index c.index-functions-index.result at _ (before_functions c.args.image.now) (number (length c.args.image.now.functions))
    (rw (c.in_ok-put_before_code.ensures, c.in_ok-put_functions.ensures, c.in_ok-put_count.ensures, c.in_ok-put_before_functions.ensures, c.new-out.ensures, c.items-functions.ensures) refl)
