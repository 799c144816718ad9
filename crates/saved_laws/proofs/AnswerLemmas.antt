-- The room that begins from what is saved of another stands for the other, without presence.
use Rattle.std.proofs.Common.{◌≡◌, ℕ, zero, suc, ◌≤◌, nat_abs, nat_le, nat_lt, ◌==◌, ℤ, pos, negsuc, true, false, ◌&&◌, ◌||◌, cond, not, List, [], length, filter, Option, Some, None, is_some, refl, sym, ap, ◌∙◌, arith}
use Rattle.std.specs.Prelude.{is_none}
use Rattle.std.specs.Option.{option_map_or}
use Rattle.std.proofs.lemmas.Int.{ints}
use Rattle.std.proofs.lemmas.Bool.Decides.{nat_tests}
use Rattle.rooms_val.specs.Data.{Data, Pairs}
use Rattle.rooms_val.specs.Maps.{value_at, AreRising}
use Rattle.rooms_val.specs.View.{data_of}
use Rattle.rooms_val.proofs.MapsLemmas.{same_pairs}
use Rattle.field_ops.specs.RecordOps.{RecordOpTree, put, remove, RecordOps}
use Rattle.schema_core.specs.Admits.{is_document}
use Rattle.schema_core.specs.Tree.{SchemaTree}
use Rattle.room_schemas.specs.Decided.{decided}
use Rattle.room_model.specs.Histories.{History, records_of, names, last_clock, changed_after, start_of, dead}
use Rattle.room_model.specs.Messages.{state_op, known_clock, hydration, changes_after, with_puts, others_of, document_diff, snapshot_diff, snapshot}
use Rattle.room_model.specs.Reachable.{Reachable}
use Rattle.room_model.specs.Rooms.{Room}
use Rattle.room_model.specs.Saves.{diff_at, begun_to, begun}
use Rattle.room_model.specs.Schemas.{Schemas, AreLawful, Plan, Member, doc, pres, is_own, records_with}
use Rattle.room_model.specs.declared.limits.TheConstants.{PROTOCOL}
use Rattle.room_model.specs.declared.saved.SavedRecord.{SavedRecord}
use Rattle.room_model.specs.declared.saved.SavedRoom.{SavedRoom}
use Rattle.room_model.specs.declared.saved.SavedTomb.{SavedTomb}
use Rattle.room_model.proofs.ActingLemmas.{differ}
use Rattle.room_model.proofs.BaseLemmas.{rising-records, at-changes, rising-changes}
use Rattle.room_model.proofs.HistoryLemmas.{filter_through}
use Rattle.room_model.proofs.LookUpLemmas.{at-filter, rising-filter, at-over, rising-over, seen_or, none_below}
use Rattle.sync_msgs.specs.declared.server_message.ServerMessage.{ServerMessage}
use Rattle.sync_msgs.specs.declared.server_message.ServerMessage.TheVariants.{Connect}
use Rattle.room_history.specs.Saving.{IsSavedOf}
use Rattle.room_history.proofs.BegunLemmas.{Fits, record_at, tomb_at, put_by, removed_by, standing, at-diff, at-begun}
use Rattle.room_history.proofs.FitLemmas.{Stands, stands, fit, few_tombs}
use Rattle.room_history.proofs.GoneLemmas.{start_is}
use Rattle.room_history.proofs.NextLemmas.{long}
use Rattle.saved_laws.specs.Answers.{without_presence, answer_without_presence}
use Rattle.saved_laws.proofs.KeptLemmas.{cond_none}
use Rattle.saved_laws.proofs.SavedLemmas.{none_some, removed_after, is_remembered, dead_at, records_are, record-at, clock-at, tomb-at, tomb_says, no_tomb}
use Rattle.saved_laws.proofs.LoadLemmas.{loads, rising-document}

-- the clock of what a saved room says of an id, 0 if it says nothing
abbrev said_of : Option SavedTomb → Option SavedRecord → ℕ
said_of t r = option_map_or (λ (t : SavedTomb). nat_abs t.clock) t (option_map_or (λ (r : SavedRecord). nat_abs r.clock) r 0)

abbrev up_to_clock : ℕ → ℕ → ℕ
up_to_clock n c = cond (nat_le c n) c 0

goes_up : (c n : ℕ) → cond (c == suc n) (suc n) (up_to_clock n c) ≡ up_to_clock (suc n) c
goes_up c n =
    elim (c == suc n) as (λ b. (c == suc n) ≡ b → cond b (suc n) (cond (nat_le c n) c 0) ≡ cond (nat_le c (suc n)) c 0) [
      | true ↦ λ is. let here : c ≡ suc n = grind (arith, nat_tests) in let low : nat_le c (suc n) ≡ true = grind (arith, nat_tests) in sym here ∙ ap (λ b. cond b c 0) (sym low)
      | false ↦ λ is. let same : nat_le c n ≡ nat_le c (suc n) = grind (arith, nat_tests) in ap (λ b. cond b c 0) same
    ] refl

never_next : (n : ℕ) → (0 == suc n) ≡ false
never_next n = grind (arith, nat_tests)

module _ (saved : SavedRoom) (fits : Fits saved) where
  abbrev R : List SavedRecord
  R = saved.documents.items

  abbrev T : List SavedTomb
  T = saved.tombstones.items

  abbrev said : List ℕ → ℕ
  said q = said_of (tomb_at saved.tombstones.items q) (record_at saved.documents.items q)

  is_named : (n : ℕ) (q : List ℕ) → is_some (value_at (diff_at saved (suc n)) q) ≡ (said q == suc n)
  is_named n q =
      ap is_some (at-diff saved fits (suc n) q)
      ∙ elim (tomb_at T q) as (λ t. tomb_at T q ≡ t → is_some (removed_by (suc n) t (put_by (suc n) (record_at R q) None)) ≡ (said_of t (record_at R q) == suc n)) [
        | Some t ↦ λ at.
            ap (λ o. is_some (removed_by (suc n) (Some t) (put_by (suc n) o None))) (fits.both_apart q t at)
            ∙ elim (nat_abs t.clock == suc n) as (λ b. is_some (cond b (Some remove) None) ≡ b) [ true ↦ refl | false ↦ refl ]
        | None ↦ λ at.
            elim (record_at R q) as (λ o. is_some (put_by (suc n) o None) ≡ (option_map_or (λ (r : SavedRecord). nat_abs r.clock) o 0 == suc n)) [
              | None ↦ sym (never_next n)
              | Some r ↦ elim (nat_abs r.clock == suc n) as (λ b. is_some (cond b (Some (put (data_of r.record))) None) ≡ b) [ true ↦ refl | false ↦ refl ]
            ]
      ] refl

  -- the last clock of an id in the history with which a room begins
  last_begun : (n : ℕ) (q : List ℕ) → last_clock (begun_to saved n) q ≡ up_to_clock n (said q)
  last_begun zero q = elim (nat_le (said q) 0) as (λ b. nat_le (said q) 0 ≡ b → 0 ≡ cond b (said q) 0) [ true ↦ λ is. let low : said q ≡ 0 = grind (arith, nat_tests) in sym low | false ↦ λ is. refl ] refl
  last_begun (suc n) q =
      (λ i. cond (is_named n q i) (suc (long saved n i)) (last_begun n q i))
      ∙ goes_up (said q) n

  within : (q : List ℕ) → said q ≤ nat_abs saved.clock
  within q =
      elim (tomb_at T q) as (λ t. tomb_at T q ≡ t → said_of t (record_at R q) ≤ nat_abs saved.clock) [
        | Some t ↦ λ at. let c = fits.tomb_clocks q t at in let high = c.1 in let low = c.0 in let from = fits.start_low in omega (arith, ints)
        | None ↦ λ at. (elim (record_at R q) as (λ o. record_at R q ≡ o → option_map_or (λ (r : SavedRecord). nat_abs r.clock) o 0 ≤ nat_abs saved.clock) [
          | None ↦ λ none. omega arith
          | Some r ↦ λ there. let c = fits.record_clocks q r there in let high = c.1 in let low = c.0 in omega (arith, ints)
        ] refl)
      ] refl

  pub last_is : (q : List ℕ) → last_clock (begun saved) q ≡ said_of (tomb_at saved.tombstones.items q) (record_at saved.documents.items q)
  last_is q =
      let high = within q in
      let up : nat_le (said q) (nat_abs saved.clock) ≡ true = grind (arith, nat_tests) in
      last_begun (nat_abs saved.clock) q ∙ ap (λ b. cond b (said q) 0) up

  -- each saved record is there in the end
  pub stands_there : (q : List ℕ) → value_at (records_of (begun saved)) q ≡ option_map_or (λ (r : SavedRecord). Some (data_of r.record)) (record_at saved.documents.items q) None
  stands_there q =
      at-begun saved fits (nat_abs saved.clock) q
      ∙ elim (record_at R q) as (λ o. record_at R q ≡ o → standing saved fits (nat_abs saved.clock) o ≡ option_map_or (λ (r : SavedRecord). Some (data_of r.record)) o None) [
        | None ↦ λ at. refl
        | Some r ↦ λ at.
            let c = fits.record_clocks q r at in
            let low = c.0 in
            let high = c.1 in
            let up : nat_le (nat_abs r.clock) (nat_abs saved.clock) ≡ true = grind (arith, ints, nat_tests) in
            ap (λ b. cond b (Some (data_of r.record)) None) up
      ] refl

-- two histories tell the same of a document from a clock on
module _ (schemas : Schemas) (from : ℕ) (history other : History)
    (same : doc schemas (records_of other) ≡ doc schemas (records_of history))
    (clocks : (q : List ℕ) (clock : ℕ) → schemas.is_document q ≡ true → from ≤ clock → nat_lt clock (last_clock other q) ≡ nat_lt clock (last_clock history q)) where
  same_at : (q : List ℕ) → schemas.is_document q ≡ true → value_at (records_of other) q ≡ value_at (records_of history) q
  same_at q document =
      sym (ap (λ b. cond b (value_at (records_of other) q) None) document) ∙ sym (at-filter schemas.is_document (records_of other) q)
      ∙ ap (λ m. value_at m q) same
      ∙ at-filter schemas.is_document (records_of history) q ∙ ap (λ b. cond b (value_at (records_of history) q) None) document

  changes_same : (plan : Plan) (clock : ℕ) → from ≤ clock → changes_after schemas plan schemas.is_document clock other ≡ changes_after schemas plan schemas.is_document clock history
  changes_same plan clock later =
      same_pairs _ _ (rising-changes schemas plan schemas.is_document clock other) (rising-changes schemas plan schemas.is_document clock history) (λ q.
      at-changes schemas plan schemas.is_document clock other q
      ∙ elim (schemas.is_document q) as (λ b. schemas.is_document q ≡ b → cond (b && nat_lt clock (last_clock other q)) (Some (state_op schemas plan (records_of other) q)) None ≡ cond (b && nat_lt clock (last_clock history q)) (Some (state_op schemas plan (records_of history) q)) None) [
        | false ↦ λ is. refl
        | true ↦ λ is. λ i. cond (clocks q clock is later i) (Some (option_map_or (λ d. put (schemas.lower plan d)) (same_at q is i) remove)) None
      ] refl
      ∙ sym (at-changes schemas plan schemas.is_document clock history q))

  -- the clock from which a client's base is brought on, if one is, isn't below the start
  known_from : (reached : ℤ) (clock known : ℕ) → known_clock reached from clock ≡ Some known → from ≤ known
  known_from (negsuc n) clock known is = none_some known is
  known_from (pos c) clock known is =
      elim (nat_lt c from) as (λ b. nat_lt c from ≡ b → cond (b || nat_lt clock c) None (Some c) ≡ Some known → from ≤ known) [
        | true ↦ λ low no. none_some known no
        | false ↦ λ low some. (elim (nat_lt clock c) as (λ b. cond b None (Some c) ≡ Some known → from ≤ known) [
          | true ↦ λ no. none_some known no
          | false ↦ λ it. let same : c ≡ known = cc in grind (arith, nat_tests)
        ] some)
      ] refl is

  pub document_same : (plan : Plan) (reached : ℤ) (clock : ℕ) → document_diff schemas plan (known_clock reached from clock) other ≡ document_diff schemas plan (known_clock reached from clock) history
  document_same plan reached clock =
      elim (known_clock reached from clock) as (λ o. known_clock reached from clock ≡ o → document_diff schemas plan o other ≡ document_diff schemas plan o history) [
        | None ↦ λ is. ap (λ m. with_puts schemas plan m []) same
        | Some known ↦ λ is. changes_same plan known (known_from reached clock known is)
      ] refl

module _ (schemas : Schemas) (lawful : AreLawful schemas) (history : History) where
  abbrev m : Pairs
  m = records_of history

  -- the document's part of an answer names ids of the document alone
  document_only : (plan : Plan) (known : Option ℕ) (q : List ℕ) → schemas.is_document q ≡ false → value_at (document_diff schemas plan known history) q ≡ None
  document_only plan None q out =
      at-over (λ d. put (schemas.lower plan d)) (doc schemas m) [] q (rising-filter schemas.is_document m (rising-records history))
      ∙ ap (λ o. seen_or (λ d. put (schemas.lower plan d)) o None) (at-filter schemas.is_document m q ∙ ap (λ b. cond b (value_at m q) None) out)
  document_only plan (Some known) q out =
      at-changes schemas plan schemas.is_document known history q ∙ ap (λ b. cond (b && nat_lt known (last_clock history q)) (Some (state_op schemas plan m q)) None) out

  rising-document_diff : (plan : Plan) (known : Option ℕ) → AreRising (document_diff schemas plan known history)
  rising-document_diff plan None = rising-over (λ d. put (schemas.lower plan d)) (doc schemas m) [] tt
  rising-document_diff plan (Some known) = rising-changes schemas plan schemas.is_document known history

  at-others : (session : ℕ) (q : List ℕ) → value_at (others_of schemas session m) q ≡ cond (not (is_own session q)) (cond (schemas.is_presence q) (value_at m q) None) None
  at-others session q = at-filter (λ id. not (is_own session id)) (pres schemas m) q ∙ ap (λ o. cond (not (is_own session q)) o None) (at-filter schemas.is_presence m q)

  presence_out : (q : List ℕ) → schemas.is_presence q ≡ true → schemas.is_document q ≡ false
  presence_out q is =
      elim (schemas.is_document q) as (λ b. schemas.is_document q ≡ b → b ≡ false) [
        | true ↦ λ document. absurd (differ (sym is ∙ lawful.apart q document))
        | false ↦ λ no. refl
      ] refl

  -- an answer without presences is its part of the document
  pub without_others : (member : Member) (known : Option ℕ) → without_presence schemas (snapshot_diff schemas member known history) ≡ document_diff schemas member.plan known history
  without_others member known =
      let op : Data → RecordOpTree = λ d. put (schemas.lower member.plan d) in
      let others = others_of schemas member.session m in
      let part = document_diff schemas member.plan known history in
      let rising_part = rising-document_diff member.plan known in
      let rising_others = rising-filter (λ id. not (is_own member.session id)) (pres schemas m) (rising-filter schemas.is_presence m (rising-records history)) in
      let rising = rising-over op others part rising_part in
      same_pairs _ _ (rising-filter (λ id. not (schemas.is_presence id)) (snapshot_diff schemas member known history) rising) rising_part (λ q.
      at-filter (λ id. not (schemas.is_presence id)) (snapshot_diff schemas member known history) q
      ∙ ap (λ o. cond (not (schemas.is_presence q)) o None) (at-over op others part q rising_others ∙ ap (λ o. seen_or op o (value_at part q)) (at-others member.session q))
      ∙ elim (schemas.is_presence q) as (λ b. schemas.is_presence q ≡ b → cond (not b) (seen_or op (cond (not (is_own member.session q)) (cond b (value_at m q) None) None) (value_at part q)) None ≡ value_at part q) [
        | true ↦ λ is. sym (document_only member.plan known q (presence_out q is))
        | false ↦ λ is. ap (λ o. seen_or op o (value_at part q)) (cond_none (not (is_own member.session q)))
      ] refl)

  -- where there is no presence, an answer is its part of the document
  pub no_others : (member : Member) (known : Option ℕ) → doc schemas (records_of history) ≡ records_of history → snapshot_diff schemas member known history ≡ document_diff schemas member.plan known history
  no_others member known all =
      let others = others_of schemas member.session m in
      let rising_others = rising-filter (λ id. not (is_own member.session id)) (pres schemas m) (rising-filter schemas.is_presence m (rising-records history)) in
      let none : others ≡ [] =
      same_pairs others [] rising_others tt (λ q. at-others member.session q
      ∙ elim (schemas.is_presence q) as (λ b. schemas.is_presence q ≡ b → cond (not (is_own member.session q)) (cond b (value_at m q) None) None ≡ None) [
        | true ↦ λ is. ap (λ o. cond (not (is_own member.session q)) o None) (ap (λ es. value_at es q) (sym all) ∙ at-filter schemas.is_document m q ∙ ap (λ b. cond b (value_at m q) None) (presence_out q is)) ∙ cond_none (not (is_own member.session q))
        | false ↦ λ is. cond_none (not (is_own member.session q))
      ] refl) in
      ap (λ es. with_puts schemas member.plan es (document_diff schemas member.plan known history)) none

-- what is remembered of an id
abbrev removed_at : ℕ → ℕ → Option Data → Option ℕ
removed_at start last r = cond (is_none r && nat_lt start last) (Some last) None

at-removed : (start : ℕ) (history : History) (q : List ℕ) → value_at (removed_after start history) q ≡ removed_at start (last_clock history q) (value_at (records_of history) q)
at-removed start history q =
    elim (value_at (records_of history) q) as (λ r. value_at (records_of history) q ≡ r → value_at (removed_after start history) q ≡ removed_at start (last_clock history q) r) [
      | Some d ↦ λ there. at-filter (λ id. is_none (value_at (records_of history) id)) (changed_after start history) q ∙ ap (λ r. cond (is_none r) (value_at (changed_after start history) q) None) there
      | None ↦ λ gone. (elim (value_at (removed_after start history) q) as (λ o. value_at (removed_after start history) q ≡ o → o ≡ removed_at start (last_clock history q) None) [
        | None ↦ λ none. ap (λ b. cond b (Some (last_clock history q)) None) (sym (ap is_some none) ∙ is_remembered start history q gone)
        | Some n ↦ λ at.
            let is = dead_at start history q n at in
            let late = is.late in
            let last = is.last in
            let up : nat_lt start (last_clock history q) ≡ true = grind (arith, nat_tests) in
            ap Some last ∙ ap (λ b. cond b (Some (last_clock history q)) None) (sym up)
      ] refl)
    ] refl

-- two clocks that lie alike to each one from a start on are remembered alike
one_clock : (start a b : ℕ) (r : Option Data) → ((clock : ℕ) → start ≤ clock → nat_lt clock a ≡ nat_lt clock b) → removed_at start a r ≡ removed_at start b r
one_clock start a b (Some d) same = refl
one_clock start a b None same =
    let first = same start (omega arith) in
    elim (nat_lt start b) as (λ t. nat_lt start b ≡ t → cond (nat_lt start a) (Some a) None ≡ cond t (Some b) None) [
      | false ↦ λ is. ap (λ t. cond t (Some a) None) (first ∙ is)
      | true ↦ λ is.
          let x = same a (grind (arith, nat_tests, is, first)) in
          let y = same b (grind (arith, nat_tests, is, first)) in
          let equal : a ≡ b = grind (arith, nat_tests, x, y) in
          ap (λ t. cond t (Some a) None) (first ∙ is) ∙ ap Some equal
    ] refl

module _ (tree : SchemaTree) (room : Room) (saved : SavedRoom) (lawful : AreLawful (decided tree)) (reached : Reachable (decided tree) room)
    (is : IsSavedOf (is_document tree) room.first room.history saved) where
  abbrev H : History
  H = room.history

  abbrev S : ℕ
  S = start_of room.first H

  are : Stands (decided tree) (pos (suc (length H))) saved
  are = stands (decided tree) (pos (suc (length H))) saved (loads tree lawful room reached saved is (suc (length H)) (omega arith))

  fits : Fits saved
  fits = fit (decided tree) (pos (suc (length H))) saved are

  clock_is : nat_abs saved.clock ≡ length H
  clock_is = ap nat_abs is.clock

  start_at : nat_abs saved.start ≡ S
  start_at = ap nat_abs is.start

  pub same_clock : length (begun saved) ≡ length room.history
  same_clock = long saved (nat_abs saved.clock) ∙ clock_is

  pub same_start : start_of (nat_abs saved.start) (begun saved) ≡ start_of room.first room.history
  same_start = start_is saved fits (few_tombs (decided tree) (pos (suc (length H))) saved are) (nat_abs saved.clock) ∙ start_at

  abbrev D : Pairs
  D = records_with (is_document tree) (records_of H)

  pub same_document : records_of (begun saved) ≡ doc (decided tree) (records_of room.history)
  same_document =
      same_pairs _ _ (rising-records (begun saved)) (rising-document tree lawful room reached) (λ q.
      stands_there saved fits q ∙ record-at (last_clock H) saved.documents.items D q (records_are (is_document tree) room.first H saved is))

  -- an id of the document has its clock in both, if that lies above the start
  same_last : (q : List ℕ) (clock : ℕ) → is_document tree q ≡ true → S ≤ clock → nat_lt clock (last_clock (begun saved) q) ≡ nat_lt clock (last_clock H q)
  same_last q clock document later =
      let R = saved.documents.items in
      let T = saved.tombstones.items in
      let last = records_are (is_document tree) room.first H saved is in
      ap (nat_lt clock) (last_is saved fits q)
      ∙ elim (tomb_at T q) as (λ t. tomb_at T q ≡ t → nat_lt clock (said_of t (record_at R q)) ≡ nat_lt clock (last_clock H q)) [
        | Some t ↦ λ at.
            let says = tomb_says (is_document tree) room.first H saved is q t.clock (sym (tomb-at T q) ∙ ap (λ o. option_map_or (λ (t : SavedTomb). Some t.clock) o None) at) in
            ap (nat_lt clock) (ap nat_abs says.2 ∙ says.3.last)
        | None ↦ λ at. (elim (record_at R q) as (λ o. record_at R q ≡ o → nat_lt clock (option_map_or (λ (r : SavedRecord). nat_abs r.clock) o 0) ≡ nat_lt clock (last_clock H q)) [
          | Some r ↦ λ there. ap (nat_lt clock) (ap nat_abs (clock-at (last_clock H) R D q r last there))
          | None ↦ λ none.
              let gone : value_at (records_of H) q ≡ None =
              sym (at-filter (is_document tree) (records_of H) q ∙ ap (λ b. cond b (value_at (records_of H) q) None) document)
              ∙ sym (record-at (last_clock H) R D q last) ∙ ap (λ o. option_map_or (λ (r : SavedRecord). Some (data_of r.record)) o None) none in
              let no : value_at (dead room.first H) q ≡ None = no_tomb (is_document tree) room.first H saved is q document (sym (tomb-at T q) ∙ ap (λ o. option_map_or (λ (t : SavedTomb). Some t.clock) o None) at) in
              let early : nat_lt S (last_clock H q) ≡ false = sym (is_remembered S H q gone) ∙ ap is_some no in
              low_both clock S (last_clock H q) later early
        ] refl)
      ] refl
    where
      low_both : (clock start last : ℕ) → start ≤ clock → nat_lt start last ≡ false → nat_lt clock 0 ≡ nat_lt clock last
      low_both clock start last later early = let no : nat_lt clock last ≡ false = grind (arith, nat_tests) in sym (none_below clock) ∙ sym no

  all_document : doc (decided tree) (records_of (begun saved)) ≡ records_of (begun saved)
  all_document =
      ap (doc (decided tree)) same_document
      ∙ filter_through (λ (p : List ℕ × Data). is_document tree p.0) (λ p. is_document tree p.0) (λ p passes. passes) (records_of H)
      ∙ sym same_document

  pub same_answer : (member : Member) (request : List ℕ) (asked : ℤ)
      → snapshot (decided tree) member request asked (nat_abs saved.start) (begun saved) ≡ answer_without_presence (decided tree) (snapshot (decided tree) member request asked room.first room.history)
  same_answer member request asked =
      let known = known_clock asked S (length H) in
      let answer : Option ℕ → ℕ → RecordOps → ServerMessage = λ k clock diff. Connect (hydration k) request PROTOCOL (decided tree).versions diff (pos clock) member.readonly in
      (λ i. answer (known_clock asked (same_start i) (same_clock i)) (same_clock i) (snapshot_diff (decided tree) member (known_clock asked (same_start i) (same_clock i)) (begun saved)))
      ∙ ap (answer known (length H))
      (no_others (decided tree) lawful (begun saved) member known all_document
      ∙ document_same (decided tree) S H (begun saved) (all_document ∙ same_document) same_last member.plan asked (length H)
      ∙ sym (without_others (decided tree) lawful H member known))

  -- an id that isn't the document's is said by nothing
  unsaid : (q : List ℕ) → is_document tree q ≡ false → last_clock (begun saved) q ≡ 0
  unsaid q out =
      let R = saved.documents.items in
      let T = saved.tombstones.items in
      last_is saved fits q
      ∙ elim (tomb_at T q) as (λ t. tomb_at T q ≡ t → said_of t (record_at R q) ≡ 0) [
        | Some t ↦ λ at.
            let says = tomb_says (is_document tree) room.first H saved is q t.clock (sym (tomb-at T q) ∙ ap (λ o. option_map_or (λ (t : SavedTomb). Some t.clock) o None) at) in
            absurd (differ (sym says.0 ∙ out))
        | None ↦ λ at. (elim (record_at R q) as (λ o. record_at R q ≡ o → option_map_or (λ (r : SavedRecord). nat_abs r.clock) o 0 ≡ 0) [
          | None ↦ λ none. refl
          | Some r ↦ λ there.
              none_some (data_of r.record)
              (sym (ap (λ b. cond b (value_at (records_of H) q) None) out) ∙ sym (at-filter (is_document tree) (records_of H) q)
              ∙ sym (record-at (last_clock H) R D q (records_are (is_document tree) room.first H saved is)) ∙ ap (λ o. option_map_or (λ (r : SavedRecord). Some (data_of r.record)) o None) there)
        ] refl)
      ] refl

  -- the same removals of the document's ids are remembered
  pub same_dead : (q : List ℕ) → value_at (dead (nat_abs saved.start) (begun saved)) q ≡ value_at (filter (λ p. is_document tree p.0) (dead room.first room.history)) q
  same_dead q =
      let B = begun saved in
      at-removed (start_of (nat_abs saved.start) B) B q
      ∙ ap (λ s. removed_at s (last_clock B q) (value_at (records_of B) q)) same_start
      ∙ elim (is_document tree q) as (λ b. is_document tree q ≡ b → removed_at S (last_clock B q) (value_at (records_of B) q) ≡ cond b (removed_at S (last_clock H q) (value_at (records_of H) q)) None) [
        | true ↦ λ document.
            ap (removed_at S (last_clock B q)) (same_at (decided tree) S H B (all_document ∙ same_document) same_last q document)
            ∙ one_clock S (last_clock B q) (last_clock H q) (value_at (records_of H) q) (λ clock later. same_last q clock document later)
        | false ↦ λ out.
            ap (λ c. removed_at S c (value_at (records_of B) q)) (unsaid q out)
            ∙ ap (λ b. cond (is_none (value_at (records_of B) q) && b) (Some 0) None) (sym (none_below S))
            ∙ elim (is_none (value_at (records_of B) q)) as (λ b. ◌≡◌ {A = Option ℕ} (cond (b && false) (Some 0) None) None) [ true ↦ refl | false ↦ refl ]
      ] refl
      ∙ ap (λ o. cond (is_document tree q) o None) (sym (at-removed S H q))
      ∙ sym (at-filter (is_document tree) (dead room.first H) q)
