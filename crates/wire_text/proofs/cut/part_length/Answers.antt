use Rattle.std.proofs.Common.{arith}
use Rattle.wire_text.proofs.CutLemmas.{first_cut}
use Rattle.wire_text.proofs.cut.part_length.Goals as goal

pub returns : goal.returns
returns c =
    let cut = first_cut c.args.text.now c.utf8.text c.requires in
    record {
      some = grind (arith, c.floor_char_boundary.ensures.nearest cut.0, cut.1, cut.2, cut.3);
      fits = c.floor_char_boundary.ensures.bound;
      whole = c.floor_char_boundary.ensures.boundary;
      longest = c.floor_char_boundary.ensures.nearest;
    }
