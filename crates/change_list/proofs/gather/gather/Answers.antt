use Rattle.std.proofs.Common.{◌≡◌, ◌<◌, true, false, length, sym, ◌∙◌, rules, w64}
use Rattle.std.proofs.lemmas.Int.{to_z-of_z}
use Rattle.std.proofs.lemmas.List.{get_or_read}
use Rattle.change_list.specs.Changes.{blank, is_after}
use Rattle.change_list.specs.Kept.{entry_at}
use Rattle.change_list.proofs.Steps.{gathering_init, gathering_step, gathering_here, gathering_ticks, gathering_stop, gathering_end}
use Rattle.rooms_val.proofs.Truths.{on_err_anyway}
use Rattle.change_list.proofs.gather.gather.Goals as goal

pub back-init : goal.back-init
back-init g c = gathering_init _ _ _ _ _ _ c.last-at.ensures.value

pub is_after-late-requires : goal.is_after-late-requires
is_after-late-requires g c =
    c.requires.made c.in-Some.node (gathering_here _ _ _ _ _ _ _ c.in-Some.node (rw c.in-Some.is at c.back.invariant))

pub bounds-entries-node : goal.bounds-entries-node
bounds-entries-node g c =
    c.requires.made c.in-Some.node (gathering_here _ _ _ _ _ _ _ c.in-Some.node (rw c.in-Some.is at c.back.invariant))

pub offset_bounds-entries-node : goal.offset_bounds-entries-node
offset_bounds-entries-node g c =
    let low : c.in-Some.node < length c.args.entries.now = c.requires.made c.in-Some.node (gathering_here _ _ _ _ _ _ _ c.in-Some.node (rw c.in-Some.is at c.back.invariant)) in
    search rules

pub returns-then-not-late-clause-ok : goal.returns-then-not-late-clause-ok
returns-then-not-late-clause-ok g c =
    let fits = to_z-of_z w64 c.args.clock c.ranges.clock in
    let asked = rw fits at c.is_after-late.ensures in
    let early : is_after c.args.clock (entry_at c.args.entries.now c.in-Some.node) ≡ false = sym asked ∙ c.if-not-late.true in
    (gathering_stop _ _ _ _ _ _ _ c.in-Some.node (rw (fits, c.in-Some.is) at c.back.invariant) c.requires.rising early).0

pub returns-then-not-late-clause-ticked : goal.returns-then-not-late-clause-ticked
returns-then-not-late-clause-ticked g c =
    let fits = to_z-of_z w64 c.args.clock c.ranges.clock in
    let asked = rw fits at c.is_after-late.ensures in
    let early : is_after c.args.clock (entry_at c.args.entries.now c.in-Some.node) ≡ false = sym asked ∙ c.if-not-late.true in
    (gathering_stop _ _ _ _ _ _ _ c.in-Some.node (rw (fits, c.in-Some.is) at c.back.invariant) c.requires.rising early).1

pub returns-in_err-push-clause-untold : goal.returns-in_err-push-clause-untold
returns-in_err-push-clause-untold g c =
    on_err_anyway _ (gathering_ticks _ _ _ _ _ _ _ _ (rw (to_z-of_z w64 c.args.clock c.ranges.clock) at c.back.invariant))

pub back-preserved : goal.back-preserved
back-preserved g c =
    let fits = to_z-of_z w64 c.args.clock c.ranges.clock in
    let asked = rw fits at c.is_after-late.ensures in
    let late : is_after c.args.clock (entry_at c.args.entries.now c.in-Some.node) ≡ true = sym asked ∙ c.if-not-late.false in
    let low = c.requires.made c.in-Some.node (gathering_here _ _ _ _ _ _ _ c.in-Some.node (rw c.in-Some.is at c.back.invariant)) in
    let copied = c.in_ok-copy.ensures ∙ get_or_read c.args.entries.now c.in-Some.node c.index-entries-node.result low c.index-entries-node.is blank in
    rw (c.in_ok-push.ensures.items, c.tick.ensures, fits) (gathering_step c.args.links.now.lists c.args.list.number _ c.args.clock c.in-Some.node _ _ _ _ _ _ (rw (fits, c.in-Some.is) at c.back.invariant) late c.prev-at.ensures.value copied)

pub returns-clause-ok : goal.returns-clause-ok
returns-clause-ok g c =
    (gathering_end _ _ _ _ _ _ _ (rw (to_z-of_z w64 c.args.clock c.ranges.clock, c.in_default.is) at c.back.invariant)).0

pub returns-clause-ticked : goal.returns-clause-ticked
returns-clause-ticked g c =
    (gathering_end _ _ _ _ _ _ _ (rw (to_z-of_z w64 c.args.clock c.ranges.clock, c.in_default.is) at c.back.invariant)).1
