use Rattle.std.proofs.Common.{length, None, IfOk, subst}
use Rattle.index_keys.specs.Order.{AreBetween}
use Rattle.index_keys.proofs.SeriesLemmas.{several-AreBetween}
use Rattle.side_effects.specs.Placed.{greatest_index}
use Rattle.clip_content.specs.Pasted.{tops}
use Rattle.clip_content.proofs.AddLemmas.{clip_of}
use Rattle.clip_content.proofs.StandLemmas.{tops_indexed, keys_above, top_under, top_index}
use Rattle.clip_content.proofs.laws.puts_tops_last.Goals as goal

pub returns : goal.returns
returns c = λ source ids clip document target keys is.
    let between : AreBetween (greatest_index document target.parent) None (length (tops clip)) keys =
    subst (λ r. IfOk r (AreBetween (greatest_index document target.parent) None (length (tops clip)))) is.keyed (several-AreBetween (greatest_index document target.parent) None (length (tops clip))) in
    record {
      under = λ e top. top_under clip target keys is.prefix e top.top top.is_map;
      indexed = λ e top. top_index clip target keys e top.top top.is_map;
      in_order = tops_indexed clip keys (clip_of source ids clip document target keys is).rising_shapes between.number;
      rising = between.rising;
      behind = keys_above target.parent document keys between.between;
    }
