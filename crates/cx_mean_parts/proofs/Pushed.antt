-- The frames that stand for a list with one more at its end.
use Rattle.std.proofs.Common.{◌≡◌, List, [], ◌∷◌, ◌++◌, map, reverse, ◌∙◌, ap}
use Rattle.std.proofs.lemmas.List.{map-append, reverse-append}
use Rattle.cx_mean_parts.specs.Seen.{Table}
use Rattle.cx_mean_parts.specs.declared.waiting.Waiting.{Waiting}
use Rattle.cx_mean_parts.specs.Frames.{frames_of, waiting_of}

pub frames_pushed : (n : Table) (frames : List Waiting) (frame : Waiting) →
    frames_of n (frames ++ frame ∷ []) ≡ waiting_of n frame ∷ frames_of n frames
frames_pushed n frames frame = ap reverse (map-append (waiting_of n) frames (frame ∷ [])) ∙ reverse-append (map (waiting_of n) frames) (waiting_of n frame ∷ [])
