use Rattle.std.proofs.Common.{pos, ap, ◌∙◌}
use mir.Syntax.{w64}
use Rattle.std.proofs.lemmas.Int.{to_z_pos}
use Rattle.rooms_val.specs.Data.{whole}
use Rattle.rooms_val.specs.Maps.{with_key}
use Rattle.migrate_seq.specs.Versions.{are_numbers, number_in, versions_in}
use Rattle.rooms_val.proofs.MapsLemmas.{seen-with_key}
use Rattle.migrate_seq.proofs.SerializedLemmas.{are_numbers-put}
use Rattle.migrate_seq.proofs.serialized.Serialized.put.Goals as goal

pub invariant_of-self-2 : goal.invariant_of-self-2
invariant_of-self-2 c =
    ap are_numbers (c.in_ok-put.ensures.ok ∙ ap (λ z. with_key c.self.inside.versions c.args.name (whole z)) (to_z_pos w64 c.args.version c.requires)) ∙ are_numbers-put c.self.inside.versions c.args.name c.args.version c.self.invariant

pub returns-clause-ok : goal.returns-clause-ok
returns-clause-ok c =
    ap versions_in (c.in_ok-put.ensures.ok ∙ ap (λ z. with_key c.self.inside.versions c.args.name (whole z)) (to_z_pos w64 c.args.version c.requires))
    ∙ seen-with_key number_in c.self.inside.versions c.args.name (whole (pos c.args.version)) ∙ ap (λ vs. with_key vs c.args.name c.args.version) c.self.view_is
