use Rattle.std.proofs.Common.{◌≡◌, Some, None, sym, ap, ◌∙◌}
use Rattle.std.specs.Prelude.{if◌then◌else◌}
use Rattle.std.proofs.lemmas.Bool.{lt-ltb, le-ltb}
use Rattle.rooms_val.specs.Maps.{keys_of}
use Rattle.record_valid.specs.Parts.{lacks}
use Rattle.record_valid.specs.declared.reject.RejectKind.TheVariants.{Missing, Extra}
use Rattle.record_valid.proofs.KeysLemmas.{extra-law}
use Rattle.record_valid.proofs.keys.check_keys.Goals as goal

pub returns-then-wanted-given : goal.returns-then-wanted-given
returns-then-wanted-given g c =
    let none_missing = sym c.lacks.ensures ∙ c.if-lacks.false in
    let extra = extra-law c.args.wanted.now c.args.given.now c.requires.wanted c.requires.given none_missing in
    sym (ap (λ b. if b then Some Missing else if lacks (keys_of c.args.given.now) (keys_of c.args.wanted.now) then Some Extra else None) none_missing
    ∙ ap (λ b. if b then Some Extra else None) (extra.1 ∙ lt-ltb _ _ c.if-wanted-given.true))

pub returns : goal.returns
returns g c =
    let none_missing = sym c.lacks.ensures ∙ c.if-lacks.false in
    let extra = extra-law c.args.wanted.now c.args.given.now c.requires.wanted c.requires.given none_missing in
    sym (ap (λ b. if b then Some Missing else if lacks (keys_of c.args.given.now) (keys_of c.args.wanted.now) then Some Extra else None) none_missing
    ∙ ap (λ b. if b then Some Extra else None) (extra.1 ∙ le-ltb _ _ c.if-wanted-given.false))
