use Rattle.cx_image.proofs.ImageFormat.{image_takes}
use Rattle.cx_image.proofs.laws.what_is_read_is_spelled.Goals as goal

pub returns : goal.returns
returns c = λ bytes image fits e. let r = image_takes bytes image fits e in (r.storable, r.words, r.same)
