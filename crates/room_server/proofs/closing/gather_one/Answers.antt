use Rattle.std.proofs.Common.{◌≡◌, ◌<◌, ◌++◌, ◌∷◌, [], length, get_or, refl, sym, ap, ◌∙◌, rules, Some}
use Rattle.std.proofs.lemmas.Option.{get_or_from_slice_get, slice_get_read}
use Rattle.std.specs.Global.{Vec}
use Rattle.room_run.specs.declared.passes.Gone.{Gone}
use Rattle.room_server.proofs.GatherLemmas.{adds_one}
use Rattle.room_server.proofs.closing.gather_one.Goals as goal

pub returns-in_ok-push-in-Some-Some-clause-added : goal.returns-in_ok-push-in-Some-Some-clause-added
returns-in_ok-push-in-Some-Some-clause-added c =
    let report = c.args.report.now in
    let gones = c.args.gones.now.items in
    let room = c.in-Some-Some.room in
    let gone = c.in-Some-Some.gone in
    let named : report.room ≡ Some room = search rules in
    let is : report.gone ≡ Some gone = search rules in
    let within : room < length gones = search rules in
    let list : (d : Vec Gone) → c.index_mut.result.now ≡ get_or gones room d = λ d.
    sym (get_or_from_slice_get gones room c.index_mut.result.now d (slice_get_read gones (length gones) room c.index_mut.result.now refl within c.index_mut.ensures.value)) in
    adds_one report gones room gone c.push.new.self named is within (λ d. c.in_ok-push-in-Some-Some.ensures.items ∙ ap (λ (v : Vec Gone). v.items ++ gone ∷ []) (list d))
