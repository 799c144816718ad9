use Rattle.std.proofs.Common.{rules}
use Rattle.std.proofs.lemmas.Fn.{always_returns_same}
use Rattle.rooms_val.specs.Maps.{order}
use Rattle.rooms_val.proofs.PlacesLemmas.{searched}
use Rattle.rooms_val.proofs.entries.place_of.Goals as goal

pub returns : goal.returns
returns g c =
    let facts = c.binary_search_by.ensures in
    let by_key = facts.position (λ e. order e.0 c.args.key.now) (always_returns_same _ _ _ (λ a r f called. (search rules, search rules))) in
    searched c.args.entries.now c.requires c.args.key.now _ facts.bound by_key
