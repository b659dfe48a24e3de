use Rattle.std.proofs.Common.{◌++◌, length, take, refl, sym}
use Rattle.std.specs.List.{flat_map}
use Rattle.std.proofs.lemmas.Option.{slice_get_within}
use Rattle.cx_code.specs.Spelling.{function, number, instruction}
use Rattle.cx_rules.proofs.Lowest.{read_at}
use Rattle.cx_image.specs.Places.{before_code, before_instruction, before_functions}
use Rattle.cx_image.proofs.Standing.{as_long, same_counts}
use Rattle.cx_image.proofs.places.before_instruction.Goals as goal

pub returns : goal.returns
returns c =
    let f = c.index-items-index.result in
    let within = slice_get_within c.args.image.now.functions c.args.index c.requires.there.0 c.requires.there.1 in
    let at = read_at _ c.args.image.now.functions c.args.index f c.items.ensures (rw c.items.ensures within) c.index-items-index.is in
    as_long function before_code c.args.image.now.functions c.args.index f at (before_instruction c.args.place) _ (before_functions c.args.image.now ++ number (length c.args.image.now.functions))
    (number (length (take c.args.place f.code))) (number (length f.code)) (flat_map instruction (take c.args.place f.code))
    (rw (c.in_ok-put_code.ensures, c.in_ok-out.ensures, c.items-2.ensures, sym c.index-items-index.is) refl) (same_counts (length (take c.args.place f.code)) (length f.code)) refl
