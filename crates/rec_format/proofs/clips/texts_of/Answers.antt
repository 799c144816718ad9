use Rattle.rec_format.proofs.TextLemmas.{no_texts}
use Rattle.rec_format.proofs.clips.texts_of.Goals as goal

pub returns-in_default : goal.returns-in_default
returns-in_default c = record {
  found = tt;
  refused = λ ids. no_texts c.args.vals.now ids c.vals.val-index c.val-item.result c.vals-test.true c.val-item.is c.in_default.not-Text;
}
