use Rattle.std.proofs.Common.{ap, arith}
use Rattle.std.proofs.lemmas.Int.{ints}
use Rattle.rooms_val.specs.Data.{whole}
use Rattle.clip_content.proofs.pasting.moved_x.Goals as goal

pub returns : goal.returns
returns c = ap whole (omega (arith, ints, c.coordinate.ensures.value))
