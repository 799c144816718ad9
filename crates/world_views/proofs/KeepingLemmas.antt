-- What is kept of stores while one of them changes.
use Rattle.std.proofs.Common.{◌≡◌, ◌≢◌, ℕ, zero, suc, ◌<◌, ◌≤◌, nat_eq, ◌++◌, true, false, inl, inr, List, [], ◌∷◌, length, Some, map, refl, sym, ap, subst, ◌∙◌, slice_get, slice_set, arith}
use Rattle.std.proofs.lemmas.Bool.Decides.{nat_tests}
use Rattle.rooms_val.specs.Data.{Pairs}
use Rattle.record_store.specs.Seen.{Seen, records, begun, watches}
use Rattle.live_views.specs.Watches.{Watched, Stand, news}
use Rattle.sync_peer.specs.Viewing.{WatchAlike}
use Rattle.world_laws.proofs.PushLemmas.{got_split, long-set}
use Rattle.sync_world.specs.Keeping.{AreKept}
use Rattle.sync_world.specs.Viewing.{ChangesAt, ChangesOne, ViewsOne, MayJoin, IsUnwatched, KeepsStores}
use Rattle.sync_world.proofs.KeepingLemmas.{kept_added}
use Rattle.room_model.specs.declared.event.Event.{Event}
use Rattle.room_model.specs.declared.event.Event.TheVariants as event
use Rattle.world_views.specs.Standing.{IsViewing, IsQuiet}
use Rattle.world_views.proofs.TellingLemmas.{maps_of, AreQuietBut}

-- each store is like the one before
pub record AreAlike (old new : List Seen) : Type 0 where
  pub long : length new ≡ length old
  pub each : (n : ℕ) (s t : Seen) → slice_get old n ≡ Some s → slice_get new n ≡ Some t → WatchAlike s t

the_same : (s t : Seen) → s ≡ t → WatchAlike s t
the_same s t same = subst (WatchAlike s) same (record { watches = refl; begun = refl })

same_there : (stores : List Seen) (n : ℕ) (s t : Seen) → slice_get stores n ≡ Some s → slice_get stores n ≡ Some t → s ≡ t
same_there stores n s t at there = let both : Some s ≡ Some t = sym at ∙ there in cc

pub unchanged : (old new : List Seen) → new ≡ old → AreAlike old new
unchanged old new same =
    subst (AreAlike old) (sym same) (record { long = refl; each = λ n s t at there. the_same s t (same_there old n s t at there) })

-- one place, or another
split_at : (n k : ℕ) (P : Type 0) → (n ≡ k → P) → (n ≢ k → P) → P
split_at n k P here apart = elim (nat_eq n k) as (λ b. nat_eq n k ≡ b → P) [
  | true ↦ λ is. here (grind (arith, nat_tests))
  | false ↦ λ is. apart (λ e. absurd (let no : n ≢ k = grind (arith, nat_tests) in no e))
] refl

pub one_changed : (number : ℕ) (old new : List Seen) → ChangesOne number old new → AreAlike old new
one_changed number old new changed = record {
  long = changed.long;
  each = λ n s t at there. split_at n number (WatchAlike s t)
      (λ here. changed.alike s t (subst (λ k. slice_get old k ≡ Some s) here at) (subst (λ k. slice_get new k ≡ Some t) here there))
      (λ apart. the_same s t (same_there old n s t at (sym (changed.others n apart) ∙ there)));
}

long_added : (old : List Seen) (s : Seen) → length (old ++ s ∷ []) ≡ suc (length old)
long_added [] s = refl
long_added (x ∷ old) s = ap suc (long_added old s)

may_join : (old new : List Seen) → length new ≡ length old → MayJoin old new → AreAlike old new
may_join old new long (inl same) = unchanged old new same
may_join old new long (inr joined) =
    let longer : length new ≡ suc (length old) = ap length joined.1 ∙ long_added old joined.0 in
    absurd (omega (arith, long, longer))

-- what an event leaves where nobody joins
pub alike_after : (e : Event) (old new : List Seen) → length new ≡ length old → KeepsStores e old new → AreAlike old new
alike_after (event.Client version) old new long keeps = may_join old new long keeps
alike_after (event.Connect client readonly) old new long keeps = unchanged old new keeps
alike_after (event.Edit client diff) old new long keeps = one_changed client old new keeps
alike_after (event.Presence client stored) old new long keeps = unchanged old new keeps
alike_after (event.Mark client name) old new long keeps = unchanged old new keeps
alike_after (event.Undo client) old new long keeps = one_changed client old new keeps
alike_after (event.Redo client) old new long keeps = one_changed client old new keeps
alike_after (event.Bail client name) old new long keeps = one_changed client old new keeps
alike_after (event.Copy client ids) old new long keeps = unchanged old new keeps
alike_after (event.Paste client dx dy parent prefix) old new long keeps = one_changed client old new keeps
alike_after (event.Handle session) old new long keeps = unchanged old new keeps
alike_after (event.Send session) old new long keeps = unchanged old new keeps
alike_after (event.Deliver client) old new long keeps = one_changed client old new keeps
alike_after (event.Cut client) old new long keeps = unchanged old new keeps
alike_after (event.Lose session) old new long keeps = unchanged old new keeps
alike_after (event.Show client) old new long keeps = unchanged old new keeps
alike_after event.End old new long keeps = unchanged old new keeps

pub got_before : (old new : List Seen) (n : ℕ) (t : Seen) → length new ≡ length old → slice_get new n ≡ Some t → (s : Seen) × (slice_get old n ≡ Some s)
got_before [] [] n t long at = absurd (cc)
got_before [] (x ∷ new) n t long at = absurd (let no : suc (length new) ≡ 0 = long in cc)
got_before (s ∷ old) new zero t long at = (s, refl)
got_before (s ∷ old) [] (suc n) t long at = absurd (cc)
got_before (s ∷ old) (x ∷ new) (suc n) t long at = got_before old new n t (let same : suc (length new) ≡ suc (length old) = long in omega (arith, same)) at

-- stores that are alike have the watches that they had
pub alike_view : (watched : List (List Watched)) (old new : List Seen) → AreAlike old new → AreKept IsViewing watched old → AreKept IsViewing watched new
alike_view watched old new alike all = record {
  long = alike.long ∙ all.long;
  each = λ n ws t at there.
      let before = got_before old new n t alike.long there in
      let was = all.each n ws before.0 at before.1 in
      let same = alike.each n before.0 t before.1 there in
      record { stand = subst (λ slots. Stand slots (map Some ws)) (sym same.watches) was.stand; closed = same.begun ∙ was.closed };
}

-- of stores that have the same records nothing is left to tell where nothing was
got_map : (stores : List Seen) (n : ℕ) (s : Seen) → slice_get stores n ≡ Some s → slice_get (maps_of stores) n ≡ Some (records s)
got_map [] n s at = absurd (cc)
got_map (x ∷ stores) zero s at = let same : x ≡ s = cc in ap (λ y. Some (records y)) same
got_map (x ∷ stores) (suc n) s at = got_map stores n s at

pub same_records : (old new : List Seen) (n : ℕ) (s t : Seen) → maps_of new ≡ maps_of old → slice_get old n ≡ Some s → slice_get new n ≡ Some t → records s ≡ records t
same_records old new n s t same at there =
    let both : Some (records s) ≡ Some (records t) = sym (got_map old n s at) ∙ ap (λ maps. slice_get maps n) (sym same) ∙ got_map new n t there in
    cc

pub quiet_still : (watched : List (List Watched)) (old new : List Seen) → length new ≡ length old → maps_of new ≡ maps_of old → AreKept IsQuiet watched old → AreKept IsQuiet watched new
quiet_still watched old new long same all = record {
  long = long ∙ all.long;
  each = λ n ws t at there.
      let before = got_before old new n t long there in
      subst (λ m. news m (map Some ws) ≡ []) (same_records old new n before.0 t same before.1 there) (all.each n ws before.0 at before.1);
}

-- where one store alone changed, of all others nothing is left to tell
pub quiet_others : (Alike : Seen → Seen → Type 0) (number : ℕ) (watched : List (List Watched)) (old new : List Seen) → ChangesAt Alike number old new → AreKept IsQuiet watched old → AreQuietBut number watched new
quiet_others Alike number watched old new changed all = record {
  long = changed.long ∙ all.long;
  quiet = λ n ws t apart at there. all.each n ws t at (sym (changed.others n apart) ∙ there);
}

-- who joins watches nothing, and has nothing to tell
new_view : (fresh : Seen) → IsUnwatched fresh → IsViewing [] fresh
new_view fresh is = record { stand = subst (λ slots. Stand slots []) (sym is.unwatched) (λ number. refl); closed = is.closed }

pub joined_view : (watched : List (List Watched)) (old new : List Seen) (fresh : Seen) → new ≡ old ++ fresh ∷ [] → IsUnwatched fresh → AreKept IsViewing watched old → AreKept IsViewing (watched ++ [] ∷ []) new
joined_view watched old new fresh is unwatched all =
    subst (AreKept IsViewing (watched ++ [] ∷ [])) (sym is) (kept_added IsViewing watched old [] fresh all (new_view fresh unwatched))

pub joined_quiet : (watched : List (List Watched)) (old new : List Seen) (fresh : Seen) → new ≡ old ++ fresh ∷ [] → AreKept IsQuiet watched old → AreKept IsQuiet (watched ++ [] ∷ []) new
joined_quiet watched old new fresh is all = subst (AreKept IsQuiet (watched ++ [] ∷ [])) (sym is) (kept_added IsQuiet watched old [] fresh all refl)

-- who has a store watches something
pub got_watched : (watched : List (List Watched)) (stores : List Seen) (n : ℕ) (s : Seen) → length stores ≡ length watched → slice_get stores n ≡ Some s → (ws : List Watched) × (slice_get watched n ≡ Some ws)
got_watched [] [] n s long at = absurd (cc)
got_watched [] (x ∷ stores) n s long at = absurd (let no : suc (length stores) ≡ 0 = long in cc)
got_watched (ws ∷ watched) stores zero s long at = (ws, refl)
got_watched (ws ∷ watched) [] (suc n) s long at = absurd (cc)
got_watched (ws ∷ watched) (x ∷ stores) (suc n) s long at = got_watched watched stores n s (let same : suc (length stores) ≡ suc (length watched) = long in omega (arith, same)) at

-- what a client watches is another, and its store has it
pub one_view : (number : ℕ) (watched : List (List Watched)) (old new : List Seen) (ws : List Watched) → ViewsOne number old new → AreKept IsViewing watched old
    → ((t : Seen) → slice_get new number ≡ Some t → Stand (watches t) (map Some ws)) → AreKept IsViewing (slice_set watched number ws) new
one_view number watched old new ws changed all stand = record {
  long = changed.long ∙ all.long ∙ sym (long-set watched number ws);
  each = λ n us t at there. elim (got_split watched number n ws us at) [
    | inl it ↦
        let here = subst (λ k. slice_get new k ≡ Some t) it.0 there in
        let before = got_before old new number t changed.long here in
        let old_at = got_watched watched old number before.0 all.long before.1 in
        let was = all.each number old_at.0 before.0 old_at.1 before.1 in
        subst (λ vs. IsViewing vs t) (sym it.1) (record { stand = stand t here; closed = changed.alike before.0 t before.1 here ∙ was.closed })
    | inr other ↦ all.each n us t other.1 (sym (changed.others n other.0) ∙ there)
  ];
}
