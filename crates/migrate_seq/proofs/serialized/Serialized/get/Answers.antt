use Rattle.std.proofs.Common.{Some, option_map, sym, ap, ◌∙◌}
use Rattle.migrate_seq.specs.Versions.{number_in}
use Rattle.rooms_val.specs.Maps.{value_at}
use Rattle.rooms_val.proofs.MapsLemmas.{at-seen}
use Rattle.migrate_seq.proofs.serialized.Serialized.get.Goals as goal

pub returns-in-Some : goal.returns-in-Some
returns-in-Some c =
    ap Some c.number.ensures ∙ ap (option_map number_in) c.in-Some.ensures
    ∙ sym (at-seen number_in c.self.inside.versions c.args.name.now) ∙ ap (λ vs. value_at vs c.args.name.now) c.self.view_is

pub returns-in-None : goal.returns-in-None
returns-in-None c =
    ap (option_map number_in) c.in-None.ensures
    ∙ sym (at-seen number_in c.self.inside.versions c.args.name.now) ∙ ap (λ vs. value_at vs c.args.name.now) c.self.view_is
