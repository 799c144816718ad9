-- What a replica stands for once its base went on beside store and stash.
use Rattle.std.proofs.Common.{◌≡◌, ◌≤◌, ℕ, zero, suc, List, [], ◌∷◌, ◌++◌, length, take, drop, Bool, true, false, cond, ◌&&◌, Some, None, slice_get, refl, sym, ap, ◌∙◌, arith}
use Rattle.std.specs.Prelude.{is_some, unwrap_or}
use Rattle.std.proofs.lemmas.List.{take_all, drop_all}
use Rattle.std.proofs.lemmas.List.Sums.{sum_by-cons}
use Rattle.rooms_val.proofs.Truths.{and_right, and_left, or_false_right}
use Rattle.rooms_val.specs.Data.{Data, Pairs}
use Rattle.rooms_val.specs.Maps.{AreRising, value_at}
use Rattle.field_ops.specs.RecordOps.{RecordOps}
use Rattle.schema_core.specs.Tree.{SchemaTree}
use Rattle.schema_core.specs.Admits.{is_admitted, is_document}
use Rattle.doc_model.specs.Documents.{step, replay}
use Rattle.doc_model.proofs.InverseLemmas.{rising-step}
use Rattle.doc_store.specs.Slots.{Slots}
use Rattle.room_model.specs.Schemas.{records_with}
use Rattle.room_model.specs.Replicas.{Work, Pending}
use Rattle.room_model.specs.Taking.{Replica, after_events, after_hydration}
use Rattle.room_model.proofs.LookUpLemmas.{rising-filter}
use Rattle.sync_msgs.specs.declared.data_event.Action.TheVariants.{Commit, Discard, Rebase}
use Rattle.sync_msgs.specs.declared.data_event.DataEvent.{DataEvent}
use Rattle.sync_msgs.specs.declared.data_event.DataEvent.TheVariants.{Patch, PushResult}
use Rattle.sync_msgs.specs.declared.server_message.Hydration.TheVariants.{WipePresence}
use Rattle.room_schemas.specs.Decided.{is_presence}
use Rattle.room_schemas.proofs.ApartLemmas.{document_apart, presence-document}
use Rattle.client_replica.specs.Parts.{ops_with}
use Rattle.client_replica.specs.Works.{works_in, diffs_in, operations, pushed_diff, ended_by, ended}
use Rattle.client_replica.specs.Stashes.{under, is_named, written_over}
use Rattle.client_replica.specs.NewBases.{AreStepped, NamesWithin, IsAhead}
use Rattle.client_replica.specs.Owns.{is_all_document, commits, are_own, settled}
use Rattle.client_replica.specs.Standing.{IsReplica}
use Rattle.client_replica.proofs.PartLemmas.{part-step, part-part, rising-replay}
use Rattle.client_replica.proofs.StashLemmas.{some_is, written_is}
use Rattle.client_replica.proofs.WorkLemmas.{works-drop, diffs-append, named-append, ops-append, replay-first, replay-one}
use Rattle.client_replica.proofs.NewBaseLemmas.{ahead_diff, replay_same}
use Rattle.client_replica.proofs.OwnLemmas.{never, replay-append, unnamed, settled_stash}

take_and_drop : {X : Type 0} (n : ℕ) (xs : List X) → xs ≡ take n xs ++ drop n xs
take_and_drop zero xs = refl
take_and_drop (suc n) [] = refl
take_and_drop (suc n) (x ∷ xs) = ap (λ l. x ∷ l) (take_and_drop n xs)

module _ (s : SchemaTree) where
  abbrev document : Pairs → Pairs
  document m = records_with (is_document s) m

  abbrev admits : List ℕ → Data → Bool
  admits = is_admitted s

  ops_document : (diff : RecordOps) → is_all_document (is_document s) diff ≡ true → ops_with (is_document s) diff ≡ diff
  ops_document [] all = refl
  ops_document (c ∷ diff) all =
      let first = and_left (is_document s c.0) (is_all_document (is_document s) diff) all in
      let rest = and_right (is_document s c.0) (is_all_document (is_document s) diff) all in
      ap (λ b. cond b (c ∷ ops_with (is_document s) diff) (ops_with (is_document s) diff)) first ∙ ap (λ l. c ∷ l) (ops_document diff rest)

  document_after : (base : Pairs) (diff : RecordOps) → AreRising base → is_all_document (is_document s) diff ≡ true → document (step admits base diff) ≡ step admits (document base) diff
  document_after base diff rising all = part-step admits (is_document s) base diff rising ∙ ap (step admits (document base)) (ops_document diff all)

  -- the document after commits of own first works has their diffs replayed
  own_base : (events : List DataEvent) (base : Pairs) (items : List Pending) → AreRising base → are_own (is_document s) (works_in items) events ≡ true
      → document (after_events admits (record { base = base; pending = items }) events).base ≡ replay admits (document base) (diffs_in (take (length events) (works_in items)))
  own_base [] base items rising own = refl
  own_base (Patch diff clock ∷ events) base items rising own = never _ own
  own_base (PushResult number clock Discard ∷ events) base items rising own = never _ own
  own_base (PushResult number clock (Rebase diff) ∷ events) base items rising own = never _ own
  own_base (PushResult number clock Commit ∷ events) base [] rising own = own_base events base [] rising own ∙ ap (λ l. replay admits (document base) (diffs_in l)) (take_all (length events) [] (omega arith))
  own_base (PushResult number clock Commit ∷ events) base (item ∷ items) rising own =
      let diff = pushed_diff (Some item.work) in
      let first = and_left (is_all_document (is_document s) diff) (are_own (is_document s) (works_in items) events) own in
      let rest = and_right (is_all_document (is_document s) diff) (are_own (is_document s) (works_in items) events) own in
      let works = take (length events) (works_in items) in
      own_base events (step admits base diff) items (rising-step admits diff base rising) rest
      ∙ ap (λ m. replay admits m (diffs_in works)) (document_after base diff rising first ∙ sym (replay-one admits (document base) item.work)) ∙ sym (replay-first admits (document base) item.work works)

  -- each of them ends a work
  own_ended : (events : List DataEvent) (works : List Work) → are_own (is_document s) works events ≡ true → ended events ≡ length events
  own_ended [] works own = refl
  own_ended (Patch diff clock ∷ events) works own = never _ own
  own_ended (PushResult number clock action ∷ events) works own =
      let rest = own_ended events (drop 1 works) (and_right (commits (is_document s) (slice_get works 0) (PushResult number clock action)) (are_own (is_document s) (drop 1 works) events) own) in
      let counted = sum_by-cons ended_by (PushResult number clock action) events in
      omega (arith, rest, counted)

  -- a replica's works in two parts
  parted_diffs : (works : List Work) (n : ℕ) → diffs_in works ≡ diffs_in (take n works) ++ diffs_in (drop n works)
  parted_diffs works n = ap diffs_in (take_and_drop n works) ∙ diffs-append (take n works) (drop n works)

  parted_shown : (records : Pairs) (works : List Work) (stash : Slots) (others : Pairs) (replica : Replica) (n : ℕ) → IsReplica s records works stash others replica
      → records ≡ replay admits (replay admits (document replica.base) (diffs_in (take n works))) (diffs_in (drop n works))
  parted_shown records works stash others replica n stands =
      stands.shown ∙ ap (replay admits (document replica.base)) (parted_diffs works n) ∙ replay-append admits (document replica.base) (diffs_in (take n works)) (diffs_in (drop n works))

  -- after commits of its own first works a store has what it is to have
  pub own_shown : (records : Pairs) (works : List Work) (stash : Slots) (others : Pairs) (replica : Replica) (events : List DataEvent) (n : ℕ) → n ≡ ended events
      → IsReplica s records works stash others replica → are_own (is_document s) works events ≡ true
      → records ≡ replay admits (document (after_events admits replica events).base) (diffs_in (drop n works))
  own_shown records works stash others replica events n count stands own =
      let of_items = ap (λ ws. are_own (is_document s) ws events) (sym stands.works_are) ∙ own in
      parted_shown records works stash others replica n stands
      ∙ ap (λ m. replay admits m (diffs_in (drop n works)))
      ((λ i. replay admits (document replica.base) (diffs_in (take ((count ∙ own_ended events works own) i) (stands.works_are i))))
      ∙ sym (own_base events replica.base replica.pending stands.rising of_items))

  -- commits of own first works leave what is pending behind them, and the presence of others
  record OwnAfter (events : List DataEvent) (base : Pairs) (items : List Pending) : Type 0 where
    left : (after_events admits (record { base = base; pending = items }) events).pending ≡ drop (length events) items
    presence : records_with (is_presence s) (after_events admits (record { base = base; pending = items }) events).base ≡ records_with (is_presence s) base
    rising : AreRising (after_events admits (record { base = base; pending = items }) events).base

  no_presence : (diff : RecordOps) → is_all_document (is_document s) diff ≡ true → ops_with (is_presence s) diff ≡ []
  no_presence [] all = refl
  no_presence (c ∷ diff) all =
      let first = and_left (is_document s c.0) (is_all_document (is_document s) diff) all in
      let rest = and_right (is_document s c.0) (is_all_document (is_document s) diff) all in
      ap (λ b. cond b (c ∷ ops_with (is_presence s) diff) (ops_with (is_presence s) diff)) (document_apart s c.0 first) ∙ no_presence diff rest

  own_after : (events : List DataEvent) (base : Pairs) (items : List Pending) → AreRising base → are_own (is_document s) (works_in items) events ≡ true → OwnAfter events base items
  own_after [] base items rising own = record { left = refl; presence = refl; rising = rising }
  own_after (Patch diff clock ∷ events) base items rising own = never _ own
  own_after (PushResult number clock Discard ∷ events) base items rising own = never _ own
  own_after (PushResult number clock (Rebase diff) ∷ events) base items rising own = never _ own
  own_after (PushResult number clock Commit ∷ events) base [] rising own =
      let more = own_after events base [] rising own in
      record { left = more.left ∙ drop_all (length events) [] (omega arith); presence = more.presence; rising = more.rising }
  own_after (PushResult number clock Commit ∷ events) base (item ∷ items) rising own =
      let diff = pushed_diff (Some item.work) in
      let first = and_left (is_all_document (is_document s) diff) (are_own (is_document s) (works_in items) events) own in
      let rest = and_right (is_all_document (is_document s) diff) (are_own (is_document s) (works_in items) events) own in
      let more = own_after events (step admits base diff) items (rising-step admits diff base rising) rest in
      record {
        left = more.left;
        presence = more.presence ∙ part-step admits (is_presence s) base diff rising ∙ ap (step admits (records_with (is_presence s) base)) (no_presence diff first);
        rising = more.rising;
      }

  -- after commits of all works a store has the base, and nothing is left beside it
  pub own_all : (records : Pairs) (works : List Work) (stash : Slots) (others : Pairs) (replica : Replica) (events : List DataEvent)
      → IsReplica s records works stash others replica → are_own (is_document s) works events ≡ true → length works ≤ length events
      → IsReplica s records (drop (length events) works) [] others (after_events admits replica events)
  own_all records works stash others replica events stands own few =
      let n = length events in
      let after = after_events admits replica events in
      let more = own_after events replica.base replica.pending stands.rising (ap (λ ws. are_own (is_document s) ws events) (sym stands.works_are) ∙ own) in
      let none : drop n works ≡ [] = drop_all n works few in
      let shows = own_shown records works stash others replica events n (sym (own_ended events works own)) stands own in
      record {
        works_are = ap (drop n) stands.works_are ∙ sym (works-drop n replica.pending) ∙ ap works_in (sym more.left);
        shown = shows;
        stash_is = record {
          base_is = λ q. ap (λ m. value_at m q) (shows ∙ ap (λ ws. replay admits (document after.base) (diffs_in ws)) none);
          exact = λ q. sym (ap (λ ws. is_named (diffs_in ws) q) none);
          rising = tt;
          few = omega arith;
        };
        others_are = stands.others_are ∙ sym more.presence;
        rising = more.rising;
      }

  -- a base beside which nothing changed yet
  pub ahead : (records : Pairs) (works : List Work) (stash : Slots) (others : Pairs) (replica : Replica) → IsReplica s records works stash others replica → IsAhead s replica replica.pending records stash [] others
  ahead records works stash others replica stands = record { document = stands.stash_is.base_is; presence = sym stands.others_are; left = refl; rising = stands.rising }

  -- works left name ids of the stash alone
  pub names_within : (records : Pairs) (works : List Work) (stash : Slots) (others : Pairs) (replica : Replica) (n : ℕ) → IsReplica s records works stash others replica → NamesWithin (diffs_in (drop n works)) stash
  names_within records works stash others replica n stands q none =
      let before = diffs_in (take n works) in
      let left = diffs_in (drop n works) in
      or_false_right (is_named before q) (is_named left q) (sym (stands.stash_is.exact q ∙ ap (λ ds. is_named ds q) (parted_diffs works n) ∙ named-append before left q) ∙ none)

  -- works that are ended have no more operations than all
  pub ops_taken : (works : List Work) (n : ℕ) → operations (diffs_in (take n works)) ≤ operations (diffs_in works)
  ops_taken works n =
      let all = ap operations (parted_diffs works n) ∙ ops-append (diffs_in (take n works)) (diffs_in (drop n works)) in omega (arith, all)

  -- of no work that is ended
  pub none_ended : (works : List Work) (changes : Slots) (q : List ℕ) → is_named (diffs_in (take 0 works)) q ≡ true → is_some (value_at changes q) ≡ true
  none_ended works changes q named = never _ named

  -- what is shown is written over a store
  pub written_shown : (m base : Pairs) (left : List RecordOps) (changes shown : Slots) → AreRising m → AreRising base → AreRising shown
      → ((q : List ℕ) → value_at shown q ≡ cond (is_some (value_at changes q)) (Some (value_at (replay admits base left) q)) None)
      → ((q : List ℕ) → is_some (value_at changes q) ≡ false → value_at m q ≡ value_at (replay admits base left) q) → written_over shown m ≡ replay admits base left
  written_shown m base left changes shown rises rising rise at same =
      written_is shown m (replay admits base left) rise rises (rising-replay admits base left rising) (λ q.
      ap (λ o. unwrap_or o (value_at m q)) (at q)
      ∙ elim (is_some (value_at changes q)) as (λ b. is_some (value_at changes q) ≡ b → unwrap_or (cond b (Some (value_at (replay admits base left) q)) None) (value_at m q) ≡ value_at (replay admits base left) q) [
        | true ↦ λ some. refl
        | false ↦ λ none. same q none
      ] refl)

  -- under an id that didn't change a store has what it is to have
  pub stays : (records : Pairs) (works : List Work) (stash changes : Slots) (others others' : Pairs) (replica after : Replica) (pending : List Pending) (n : ℕ) → IsReplica s records works stash others replica
      → IsAhead s after pending records stash changes others' → ((q : List ℕ) → is_named (diffs_in (take n works)) q ≡ true → is_some (value_at changes q) ≡ true)
      → (q : List ℕ) → is_some (value_at changes q) ≡ false → value_at records q ≡ value_at (replay admits (document after.base) (diffs_in (drop n works))) q
  stays records works stash changes others others' replica after pending n stands is touched q none =
      let before = diffs_in (take n works) in
      let left = diffs_in (drop n works) in
      let free : is_named before q ≡ false = elim (is_named before q) as (λ b. is_named before q ≡ b → b ≡ false) [ true ↦ λ named. never _ (sym none ∙ touched q named) | false ↦ λ no. refl ] refl in
      let same : value_at (replay admits (document replica.base) before) q ≡ value_at (document after.base) q =
      unnamed admits (document replica.base) before q free ∙ sym (stands.stash_is.base_is q) ∙ sym (ap (λ o. unwrap_or o (under stash records q)) (some_is (value_at changes q) none)) ∙ is.document q in
      ap (λ m. value_at m q) (parted_shown records works stash others replica n stands)
      ∙ replay_same admits left (replay admits (document replica.base) before) (document after.base) q same

  -- a replica whose base went on beside store and stash
  pub went_on : (records shown : Pairs) (works : List Work) (stash changes new : Slots) (others others' : Pairs) (replica after : Replica) (n : ℕ) → IsReplica s records works stash others replica
      → IsAhead s after (drop n replica.pending) records stash changes others' → ((q : List ℕ) → is_named (diffs_in (take n works)) q ≡ true → is_some (value_at changes q) ≡ true)
      → shown ≡ replay admits (document after.base) (diffs_in (drop n works))
      → ((q : List ℕ) → value_at new q ≡ settled (diffs_in (drop n works)) changes stash q) → AreRising new → IsReplica s shown (drop n works) new others' after
  went_on records shown works stash changes new others others' replica after n stands is touched shows settles rising =
      let before = diffs_in (take n works) in
      let left = diffs_in (drop n works) in
      record {
        works_are = ap (drop n) stands.works_are ∙ sym (works-drop n replica.pending) ∙ ap works_in (sym is.left);
        shown = shows;
        stash_is = settled_stash (document after.base) records shown before left stash changes new is.document touched
            (λ q. stands.stash_is.exact q ∙ ap (λ ds. is_named ds q) (parted_diffs works n) ∙ named-append before left q) settles rising
            (λ q free. ap (λ m. value_at m q) shows ∙ unnamed admits (document after.base) left q free);
        others_are = sym is.presence;
        rising = is.rising;
      }

  -- the base after a snapshot by which the document stays, beside store and stash
  pub ahead_snapshot : (records : Pairs) (works : List Work) (stash changes : Slots) (others others' : Pairs) (replica : Replica) (diff : RecordOps) → IsReplica s records works stash others replica
      → AreStepped s diff records stash [] changes → others' ≡ step admits [] (ops_with (is_presence s) diff)
      → IsAhead s (record replica { base = after_hydration admits (is_document s) replica.base WipePresence diff }) replica.pending records stash changes others'
  ahead_snapshot records works stash changes others others' replica diff stands document_is others_is =
      ahead_diff s (document replica.base) diff replica.pending replica.pending records stash [] changes [] others' (rising-filter (is_document s) replica.base stands.rising)
      (λ q. stands.stash_is.base_is q ∙ ap (λ m. value_at m q) (sym (part-part (is_document s) replica.base))) (presence-document s replica.base) document_is others_is refl
