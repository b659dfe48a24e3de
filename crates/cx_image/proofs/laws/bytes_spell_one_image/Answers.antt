use Rattle.cx_image.proofs.ImageFormat.{one_image}
use Rattle.cx_image.proofs.laws.bytes_spell_one_image.Goals as goal

pub returns : goal.returns
returns c = one_image
