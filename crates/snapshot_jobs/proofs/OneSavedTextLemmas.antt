-- One text is saved of a recording.
use Rattle.std.proofs.Common.{◌≡◌, ℕ, ◌+◌, ℤ, Bool, false, List, [], ◌∷◌, map, Option, Some, None, refl, sym, ap, subst, ◌∙◌}
use Rattle.rooms_val.specs.Data.{Data}
use Rattle.rooms_val.specs.Json.{text_of}
use Rattle.rooms_val.proofs.MapsLemmas.{same_pairs}
use Rattle.replay_job.specs.Taking.{Progress, Taken, refused, passed, ended}
use Rattle.replay_job.specs.Texts.{written_line, unended_text}
use Rattle.replay_job.proofs.OneTextLemmas.{one_taken}
use Rattle.recording_lines.specs.Lines.{is_whole, recorded_lines}
use Rattle.room_history.specs.Saving.{IsSavedOf, with_own_id, clocks_of}
use Rattle.room_model.specs.Histories.{History}
use Rattle.room_model.specs.Rooms.{Room}
use Rattle.room_model.specs.Schemas.{Schemas}
use Rattle.room_model.specs.declared.saved.SavedRecord.{SavedRecord}
use Rattle.room_model.specs.declared.saved.SavedRoom.{SavedRoom}
use Rattle.room_snapshot.specs.Lines.{line_val}
use Rattle.room_snapshot.specs.Saved.{saved_tree, documents_view}
use Rattle.snapshot_jobs.specs.Saving.{Outcome, refused_at, ends_in, Follows, Comes, IsRoomLine, WritesOutcome, Saves}

-- what follows is one, if what the rest comes to is one
one_follows : (at : ℕ) (taken : Taken) (Rest : Progress → Outcome → Type 0) → ((next : Progress) (o p : Outcome) → Rest next o → Rest next p → o ≡ p)
    → (o p : Outcome) → Follows at taken Rest o → Follows at taken Rest p → o ≡ p
one_follows at (refused text) Rest one o p h k = h ∙ sym k
one_follows at (passed out next) Rest one o p h k = one next o p h k
one_follows at (ended out next) Rest one o p h k = h ∙ sym k

-- a recording comes to one thing
one_comes : (unended : List ℕ) (progress : Progress) (at : ℕ) (lines : List (List ℕ)) (o p : Outcome) → Comes unended progress at lines o → Comes unended progress at lines p → o ≡ p
one_comes unended progress at [] o p h k = h ∙ sym k
one_comes unended progress at (line ∷ lines) o p h k =
    let Rest : Progress → Outcome → Type 0 = λ next rest. Comes unended next (at + 1) lines rest in
    let same : h.0 ≡ k.0 = one_taken false progress line h.0 k.0 h.1 k.1 in
    one_follows at k.0 Rest (λ next. one_comes unended next (at + 1) lines) o p (subst (λ t. Follows at t Rest o) same h.2) k.2

without_ids : (rs : List SavedRecord) → documents_view rs ≡ map (λ (x : Option (List ℕ) × (Data × ℤ)). x.1) (map with_own_id rs)
without_ids [] = refl
without_ids (r ∷ rs) = ap (λ l. (with_own_id r).1 ∷ l) (without_ids rs)

-- what is saved of a history is one
one_saved : (test : List ℕ → Bool) (first : ℕ) (history : History) (a b : SavedRoom) → IsSavedOf test first history a → IsSavedOf test first history b → saved_tree a ≡ saved_tree b
one_saved test first history a b is also =
    let clock = is.clock ∙ sym also.clock in
    let start = is.start ∙ sym also.start in
    let documents = without_ids a.documents.items ∙ ap (map (λ (x : Option (List ℕ) × (Data × ℤ)). x.1)) (is.documents ∙ sym also.documents) ∙ sym (without_ids b.documents.items) in
    let tombs : clocks_of a.tombstones.items ≡ clocks_of b.tombstones.items = same_pairs _ _ is.rising also.rising (λ q. is.removed q ∙ sym (also.removed q)) in
    λ i. record { clock = clock i; start = start i; documents = documents i; tombstones = tombs i }

one_room_line : (schemas : Schemas) (room : Room) (v w : List ℕ) → IsRoomLine schemas room v → IsRoomLine schemas room w → v ≡ w
one_room_line schemas room v w a b =
    a.text
    ∙ ap (λ t. written_line (text_of (line_val t schemas.versions))) (one_saved schemas.is_document room.first room.history a.saved b.saved a.of_room b.of_room)
    ∙ sym b.text

one_outcome : (outcome : Outcome) (s t : ℕ) (v w : List ℕ) → WritesOutcome outcome s v → WritesOutcome outcome t w → (s ≡ t) × (v ≡ w)
one_outcome (refused_at at text) s t v w h k = (h.0 ∙ sym k.0, h.1 ∙ sym k.1)
one_outcome (ends_in None) s t v w h k = absurd h
one_outcome (ends_in (Some (schemas, viewed))) s t v w h k = (h.0 ∙ sym k.0, one_room_line schemas.room viewed.world.room v w h.1 k.1)

pub one_saved_text : (recording : List ℕ) (s t : ℕ) (v w : List ℕ) → Saves recording s v → Saves recording t w → (s ≡ t) × (v ≡ w)
one_saved_text recording s t v w h k =
    let same : h.0 ≡ k.0 = one_comes (unended_text (is_whole recording)) None 1 (recorded_lines recording) h.0 k.0 h.1 k.1 in
    one_outcome k.0 s t v w (subst (λ o. WritesOutcome o s v) same h.2) k.2
