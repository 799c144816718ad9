use Rattle.std.proofs.Common.{◌≡◌, ◌+ℤ◌, pos, true, false, [], ◌∷◌, ◌++◌, is_some, map, Option, Some, None, refl, sym, ap, subst, ◌∙◌, arith, w64, to_z, of_z}
use Rattle.std.proofs.lemmas.Int.{ints}
use Rattle.change_list.specs.Changes.{IsListed, AreUpTo, listed, most_dead, kept_dead, next_start, next_dead}
use Rattle.circular_buffer.specs.Buffer.{keep_last}
use Rattle.rooms_val.specs.Maps.{value_at, without_key, seen}
use Rattle.rooms_val.proofs.MapsLemmas.{without_absent}
use Rattle.field_ops.specs.RecordOps.{remove}
use Rattle.field_ops.specs.View.{maybe_data}
use Rattle.room_history.specs.Entries.{recent_tree}
use Rattle.room_history.specs.Keeps.{Keeps}
use Rattle.room_model.specs.Schemas.{presence_id}
use Rattle.room_model.specs.Rooms.{removal}
use Rattle.room_history.specs.Marks.{mark_one}
use Rattle.room_history.specs.declared.kept.Kept.{Kept}
use Rattle.room_history.proofs.AppendLemmas.{removed}
use Rattle.room_history.proofs.KeepLemmas.{IsStep}
use Rattle.room_history.proofs.ListedLemmas.{is_contained}
use Rattle.room_history.proofs.UsableLemmas.{idle, latest_next, live_some, clock_low, clock_high}
use Rattle.room_history.proofs.kept.Kept.remove_presence.Goals as goal

absent : {X : Type 0} (o : Option X) → is_some o ≡ false → o ≡ None
absent None none = refl
absent (Some x) none = absurd (cc)

pub take-requires : goal.take-requires
take-requires c = idle c.args.self.now c.requires.sound

pub next-clock-requires : goal.next-clock-requires
next-clock-requires c =
    let low = clock_low c.args.self.now c.requires.sound in
    let high = clock_high c.args.self.now c.requires.sound in
    omega (arith, ints)

pub returns-then-not-take-clause-keeps : goal.returns-then-not-take-clause-keeps
returns-then-not-take-clause-keeps c first history keeps =
    let old = c.args.self.now in
    let q = c.as_str.result.now in
    let none : value_at old.records.0 q ≡ None = absent (value_at old.records.0 q) (sym c.take.ensures.was_there ∙ c.if-not-take.true) in
    let same : old.records ≡ c.take.new.records = (λ i. (old.records.0, idle old c.requires.sound i)) ∙ ap (λ m. (m, [])) (sym (without_absent old.records.0 q none)) ∙ sym c.take.ensures.rest in
    subst (λ r. Keeps first history (record old { records = r })) same keeps

pub bury-requires-clause-live : goal.bury-requires-clause-live
bury-requires-clause-live c =
    let old = c.args.self.now in
    let there : is_some (value_at old.records.0 c.as_str.result.now) ≡ true = sym c.take.ensures.was_there ∙ c.if-not-take.false in
    let same : c.as_str.result.now ≡ c.as_str-2.result.now = c.as_str.ensures.bytes ∙ sym c.as_str-2.ensures.bytes in
    subst (IsListed old.changes.live) same (is_contained old.changes.live c.as_str.result.now (live_some old c.requires.sound c.as_str.result.now there))

pub bury-requires-clause-latest : goal.bury-requires-clause-latest
bury-requires-clause-latest c =
    let old = c.args.self.now in
    let is : old.clock +ℤ pos 1 ≡ to_z w64 (of_z w64 c.next-clock.result) = omega (arith, ints, c.next-clock.ensures) in
    subst (λ z. AreUpTo z (listed old.changes)) is (latest_next old c.requires.sound)

pub returns-clause-keeps : goal.returns-clause-keeps
returns-clause-keeps c first history keeps =
    let old = c.args.self.now in
    let session = c.args.removal.session in
    let id = presence_id session in
    let clock = to_z w64 (of_z w64 c.next-clock.result) in
    let is : clock ≡ old.clock +ℤ pos 1 = omega (arith, ints, c.next-clock.ensures) in
    let new : Kept = record {
      schema = old.schema;
      records = c.take.new.records;
      size = old.size;
      changes = c.prune.new.self;
      recent = c.remember.new.recent;
      clock = clock;
    } in
    let here : c.as_str.result.now ≡ id = c.as_str.ensures.bytes ∙ c.args.removal.id_is in
    let here2 : c.as_str-2.result.now ≡ id = c.as_str-2.ensures.bytes ∙ c.args.removal.id_is in
    let there : is_some (value_at old.records.0 id) ≡ true = sym (c.take.ensures.was_there ∙ ap (λ k. is_some (value_at old.records.0 k)) here) ∙ c.if-not-take.false in
    let lists : (c.bury.new.self.live, c.bury.new.self.dead) ≡ mark_one clock id false (old.changes.live, old.changes.dead) =
    (λ i. (c.bury.ensures.live i, c.bury.ensures.dead i)) ∙ ap (λ k. mark_one clock k false (old.changes.live, old.changes.dead)) here2 in
    let diff : c.args.removal.diff ≡ (id, remove) ∷ [] = c.args.removal.diff_is ∙ ap (λ k. (k, remove) ∷ []) c.args.removal.id_is in
    let after : seen maybe_data c.args.removal.after.items ≡ (id, None) ∷ [] = c.args.removal.after_is ∙ ap (λ k. (k, None) ∷ []) c.args.removal.id_is in
    let step : IsStep old new (removal session) ((id, None) ∷ []) = record {
      schema = refl;
      records = c.take.ensures.rest ∙ ap (λ k. (without_key old.records.0 k, [])) here;
      clock = is;
      live = c.prune.ensures.live ∙ ap (λ ls. ls.0) lists;
      dead = c.prune.ensures.dead ∙ (λ i. next_dead most_dead kept_dead (c.bury.ensures.start i) ((lists i).1));
      start = c.prune.ensures.start ∙ (λ i. next_start most_dead kept_dead (c.bury.ensures.start i) ((lists i).1));
      recent = c.remember.ensures.items ∙ (λ i. keep_last old.recent.capacity (map recent_tree old.recent.items ++ record { clock = clock; entry = record { diff = diff i; author = None }; after = after i } ∷ []));
      capacity = c.remember.ensures.capacity;
    } in
    removed first history old new session keeps c.requires.presence step refl there
