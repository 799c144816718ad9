use Rattle.std.proofs.Common.{◌≡◌, ◌≤◌, ◌++◌, true, false, inl, inr, map, ap, sym, ◌∙◌}
use Rattle.std.specs.Prelude.{vec_len}
use Rattle.std.proofs.lemmas.Bool.{cases_lt}
use Rattle.std.proofs.lemmas.Result.{IfOk-weaker}
use Rattle.world_views.specs.Views.{told_line}
use Rattle.world_views.proofs.EventLemmas.{still_told}
use Rattle.sync_peer.proofs.WatchLemmas.{some_of}
use Rattle.world_views.proofs.TellLemmas.{is_made, nobody_tells, lines_are, told_keeps, has_watches, is_closed, told_has}
use Rattle.world_views.proofs.viewed.ViewedWorld.tell.Goals as goal

pub returns-then-not-has_client : goal.returns-then-not-has_client
returns-then-not-has_client g c = λ schemas viewed may.
    let code = c.args.self.now.world in
    let more : vec_len code.live.clients ≤ c.args.client = elim (cases_lt c.args.client (vec_len code.live.clients)) [
      | inl low ↦ absurd (let no : true ≡ false = sym (c.has_client.ensures.1 low) ∙ c.if-not-has_client.true in cc)
      | inr far ↦ far
    ] in
    still_told schemas viewed code c.args.lines.items (nobody_tells schemas c.args.client viewed code may more)

pub returns : goal.returns
returns g c = IfOk-weaker c.add_told.result _ _
    (λ all is. λ schemas viewed may.
    let old = c.args.self.now.world in
    let new = c.told.new.self in
    let client = c.args.client in
    let lines = c.args.lines.items in
    let made = is_made schemas client viewed old may.world may.watched (c.has_client.ensures.0 c.if-not-has_client.false) in
    let closed = is_closed schemas client viewed old may.watched made in
    let has = has_watches schemas client viewed old may.watched made in
    let says = c.in_ok-told.ensures.told schemas viewed.world made.one (some_of made.ws) may.world made.at closed has in
    let told = c.in_ok-told.ensures.ok schemas viewed.world made.one (some_of made.ws) may.world made.at closed has in (
      is ∙ ap (λ news. lines ++ map (told_line client) news) says ∙ ap (λ more. lines ++ more) (sym (lines_are schemas client viewed old new may made)),
      told_keeps schemas client viewed old new may made (c.in_ok-told.ensures.stands schemas viewed.world may.world) c.in_ok-told.ensures.stores
          (told_has schemas client viewed old may.watched made new told),
    ))
    c.add_told.ensures
