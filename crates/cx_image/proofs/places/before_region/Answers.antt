use Rattle.std.proofs.Common.{◌++◌, length, take, ap, append_assoc}
use Rattle.std.specs.List.{flat_map}
use Rattle.std.proofs.lemmas.Option.{slice_get_within}
use Rattle.cx_code.specs.Spelling.{function, list, number, instruction, region}
use Rattle.cx_rules.proofs.Lowest.{read_at}
use Rattle.cx_image.specs.Places.{before_code, before_region, before_functions, up_to}
use Rattle.cx_image.proofs.Standing.{as_long, same_behind, joined}
use Rattle.cx_image.proofs.places.before_region.Goals as goal

pub returns : goal.returns
returns c =
    let f = c.index-items-index.result in
    let within = slice_get_within c.args.image.now.functions c.args.index c.requires.there.0 c.requires.there.1 in
    let at = read_at _ c.args.image.now.functions c.args.index f c.items.ensures (rw c.items.ensures within) c.index-items-index.is in
    as_long function before_code c.args.image.now.functions c.args.index f at (before_region c.args.own) _ (before_functions c.args.image.now ++ number (length c.args.image.now.functions))
    (list instruction f.code ++ number (length (take c.args.own f.regions))) (list instruction f.code ++ number (length f.regions)) (flat_map region (take c.args.own f.regions))
    (rw (c.in_ok-put_regions.ensures, c.in_ok-put_code.ensures, c.in_ok-out.ensures, c.items-2.ensures, c.items-3.ensures)
    (joined (before_functions c.args.image.now ++ number (length c.args.image.now.functions) ++ up_to function before_code c.args.image.now.functions c.args.index) (list instruction f.code) (number (length (take c.args.own f.regions))) (flat_map region (take c.args.own f.regions))))
    (same_behind (list instruction f.code) (length (take c.args.own f.regions)) (length f.regions))
    (ap (λ front. front ++ flat_map region (take c.args.own f.regions)) (append_assoc (before_code f) (list instruction f.code) (number (length f.regions))))
