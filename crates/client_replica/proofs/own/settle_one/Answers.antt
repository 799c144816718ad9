use Rattle.std.proofs.Common.{cond, sym, ap, ◌∙◌}
use Rattle.std.specs.Prelude.{is_some, string_bytes}
use Rattle.rooms_val.specs.Maps.{value_at, with_key, without_key}
use Rattle.rooms_val.proofs.MapsLemmas.{without_absent}
use Rattle.field_ops.specs.View.{maybe_data}
use Rattle.client_replica.specs.Stashes.{is_named}
use Rattle.client_replica.proofs.StashLemmas.{some_is}
use Rattle.client_replica.proofs.CountLemmas.{has_named}
use Rattle.client_replica.proofs.own.settle_one.Goals as goal

pub returns-then-not-has : goal.returns-then-not-has
returns-then-not-has c = λ diffs counted names.
    let stash = c.args.stash.now in
    let k = string_bytes c.args.id in
    let none = ap (λ id. is_some (value_at stash id)) (sym c.as_str.ensures.value) ∙ sym c.has.ensures ∙ c.if-not-has.true in
    sym (ap (λ b. cond b (with_key stash k (maybe_data c.args.slot)) (without_key stash k)) (names k none) ∙ without_absent stash k (some_is (value_at stash k) none))

pub returns-then-has : goal.returns-then-has
returns-then-has c = λ diffs counted names.
    let stash = c.args.stash.now in
    let k = string_bytes c.args.id in
    let named = sym (has_named c.has-2.result diffs c.args.names.now c.as_str-2.result.now c.has-2.ensures.counted counted ∙ ap (is_named diffs) c.as_str-2.ensures.value) ∙ c.if-has.true in
    let there = ap (λ id. is_some (value_at stash id)) (sym c.as_str.ensures.value) ∙ sym c.has.ensures ∙ c.if-not-has.false in
    c.replace.ensures there ∙ sym (ap (λ b. cond b (with_key stash k (maybe_data c.args.slot)) (without_key stash k)) named)

pub returns : goal.returns
returns c = λ diffs counted names.
    let stash = c.args.stash.now in
    let k = string_bytes c.args.id in
    let named = sym (has_named c.has-2.result diffs c.args.names.now c.as_str-2.result.now c.has-2.ensures.counted counted ∙ ap (is_named diffs) c.as_str-2.ensures.value) ∙ c.if-has.false in
    c.remove.ensures ∙ ap (without_key stash) c.as_str-3.ensures.value ∙ sym (ap (λ b. cond b (with_key stash k (maybe_data c.args.slot)) (without_key stash k)) named)
