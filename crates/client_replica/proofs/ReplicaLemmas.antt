-- What a replica stands for after its calls.
use Rattle.std.proofs.Common.{◌≡◌, ◌≤◌, ◌+◌, ℕ, List, [], ◌∷◌, ◌++◌, length, map, Bool, true, false, ◌||◌, Option, Some, None, refl, sym, ap, subst, ◌∙◌, arith}
use Rattle.std.specs.Prelude.{is_some, unwrap_or, filter, option_to_list}
use Rattle.std.proofs.lemmas.List.{append-nil}
use Rattle.rooms_val.specs.Data.{Data, Pairs}
use Rattle.rooms_val.specs.Maps.{AreRising, value_at}
use Rattle.field_ops.specs.RecordOps.{RecordOps}
use Rattle.schema_core.specs.Tree.{SchemaTree}
use Rattle.schema_core.specs.Admits.{is_admitted, is_document}
use Rattle.doc_model.specs.Documents.{step, replay}
use Rattle.doc_model.proofs.ReplayLemmas.{replay-push}
use Rattle.doc_model.proofs.InverseLemmas.{at-step, rising-step}
use Rattle.doc_model.specs.Inverses.{record_after}
use Rattle.doc_store.specs.Slots.{Slots}
use Rattle.room_model.specs.Schemas.{records_with}
use Rattle.room_model.specs.Replicas.{Work, edit, presence, Pending, diff_in, unsent, all_unsent}
use Rattle.room_model.specs.Taking.{Replica, after_hydration}
use Rattle.room_model.proofs.LookUpLemmas.{rising-filter}
use Rattle.sync_msgs.specs.declared.server_message.Hydration.TheVariants.{WipeAll}
use Rattle.client_replica.specs.Parts.{ops_with, IsTaken}
use Rattle.room_schemas.specs.Decided.{is_presence}
use Rattle.room_schemas.proofs.ApartLemmas.{presence-document}
use Rattle.client_replica.specs.Works.{works_in, diffs_in}
use Rattle.client_replica.specs.Stashes.{under, written_over, IsStash}
use Rattle.client_replica.specs.Standing.{IsReplica, with_work, alone}
use Rattle.client_replica.proofs.StashLemmas.{written_is, some_is, unwrap_there}
use Rattle.client_replica.proofs.PartLemmas.{part-step, rising-replay, part-part}
use Rattle.client_replica.proofs.WorkLemmas.{works-append, diffs-append, works-unsent, diffs-edits, edits_left, named-more, ops-more}
use Rattle.rooms_val.proofs.Truths.{or_false_right}

pub no_diffs : (own : Option Data) (diffs : List RecordOps) → diffs ++ diffs_in (map presence (option_to_list own)) ≡ diffs
no_diffs None diffs = append-nil diffs
no_diffs (Some d) diffs = append-nil diffs

module _ (s : SchemaTree) where
  abbrev document : Pairs → Pairs
  document m = records_with (is_document s) m

  abbrev admits : List ℕ → Data → Bool
  admits = is_admitted s

  pub rising-shown : (records : Pairs) (works : List Work) (stash : Slots) (others : Pairs) (replica : Replica) → IsReplica s records works stash others replica → AreRising records
  rising-shown records works stash others replica stands =
      subst AreRising (sym stands.shown) (rising-replay admits (document replica.base) (diffs_in works) (rising-filter (is_document s) replica.base stands.rising))

  -- with the stash written over it the store has the base's document
  pub undone : (records : Pairs) (works : List Work) (stash : Slots) (others : Pairs) (replica : Replica) → IsReplica s records works stash others replica
      → written_over stash records ≡ document replica.base
  undone records works stash others replica stands =
      written_is stash records (document replica.base) stands.stash_is.rising (rising-shown records works stash others replica stands)
      (rising-filter (is_document s) replica.base stands.rising) stands.stash_is.base_is

  -- a base in two parts, over which works are replayed
  pub replayed : (replica : Replica) (pending : List Pending) (base records others : Pairs) (works : List Work) (stash : Slots) → IsTaken s replica pending base others
      → works ≡ works_in pending → records ≡ replay admits base (diffs_in works) → IsStash base (diffs_in works) records stash → IsReplica s records works stash others replica
  replayed replica pending base records others works stash taken are shown holds = record {
    works_are = are ∙ ap works_in (sym taken.left);
    shown = shown ∙ ap (λ m. replay admits m (diffs_in works)) (sym taken.document);
    stash_is = subst (λ m. IsStash m (diffs_in works) records stash) (sym taken.document) holds;
    others_are = sym taken.presence;
    rising = taken.rising;
  }

  -- a replica whose edits are undone
  pub begun : (replica : Replica) (records others : Pairs) → AreRising replica.base → document replica.base ≡ records → records_with (is_presence s) replica.base ≡ others → IsTaken s replica replica.pending records others
  begun replica records others rising doc pres = record { document = doc; presence = pres; left = refl; rising = rising }

  taken_diff : (base : Pairs) (diff : RecordOps) (now then : List Pending) (records others records' others' : Pairs) → AreRising base
      → document base ≡ records → records_with (is_presence s) base ≡ others
      → records' ≡ step admits records (ops_with (is_document s) diff) → others' ≡ step admits others (ops_with (is_presence s) diff) → now ≡ then
      → IsTaken s (record { base = step admits base diff; pending = now }) then records' others'
  taken_diff base diff now then records others records' others' rising doc pres document_is others_is same = record {
    document = part-step admits (is_document s) base diff rising ∙ ap (λ m. step admits m (ops_with (is_document s) diff)) doc ∙ sym document_is;
    presence = part-step admits (is_presence s) base diff rising ∙ ap (λ m. step admits m (ops_with (is_presence s) diff)) pres ∙ sym others_is;
    left = same;
    rising = rising-step admits diff base rising;
  }

  -- the base after a snapshot by which nothing stays, in two parts
  pub taken_snapshot : (diff : RecordOps) (replica : Replica) (records others : Pairs) → AreRising replica.base
      → records ≡ step admits [] (ops_with (is_document s) diff) → others ≡ step admits [] (ops_with (is_presence s) diff)
      → IsTaken s (record replica { base = after_hydration admits (is_document s) replica.base WipeAll diff }) replica.pending records others
  taken_snapshot diff replica records others rising document_is others_is =
      taken_diff [] diff replica.pending replica.pending [] [] records others tt refl refl document_is others_is refl

  still : (held : Slots) (m : Pairs) (diff : RecordOps) (id : List ℕ) (a b : Bool) → AreRising diff → is_some (value_at held id) ≡ a || is_some (value_at diff id)
      → is_some (value_at held id) ≡ b → under held (step admits m diff) id ≡ under held m id
  still held m diff id a true rises exact is = unwrap_there (value_at held id) is (value_at (step admits m diff) id) (value_at m id)
  still held m diff id a false rises exact is =
      ap (unwrap_or (value_at held id)) (at-step admits diff m id rises ∙ ap (λ o. record_after admits id o (value_at m id)) (some_is (value_at diff id) (or_false_right a (is_some (value_at diff id)) (sym exact ∙ is))))

  -- a further edit: what the stash came to hold lies under what the diff made
  pub stashed_edit : (base : Pairs) (diffs : List RecordOps) (records after : Pairs) (stash held : Slots) (diff : RecordOps) → AreRising diff → IsStash base diffs records stash
      → ((id : List ℕ) → under held records id ≡ under stash records id) → ((id : List ℕ) → is_some (value_at held id) ≡ is_some (value_at stash id) || is_some (value_at diff id))
      → AreRising held → length held ≤ length stash + length diff → after ≡ step admits records diff → IsStash base (diffs ++ diff ∷ []) after held
  stashed_edit base diffs records after stash held diff rises holds same exact rising few is = record {
    base_is = λ id. ap (λ m. under held m id) is ∙ still held records diff id (is_some (value_at stash id)) (is_some (value_at held id)) rises (exact id) refl ∙ same id ∙ holds.base_is id;
    exact = λ id. exact id ∙ ap (λ b. b || is_some (value_at diff id)) (holds.exact id) ∙ sym (named-more diffs diff id);
    rising = rising;
    few = let counted = ops-more diffs diff in let before = holds.few in omega arith;
  }

  -- a further edit is pending
  pub edited : (records after : Pairs) (works : List Work) (stash held : Slots) (others : Pairs) (replica : Replica) (diff : RecordOps) → AreRising diff
      → IsReplica s records works stash others replica
      → ((id : List ℕ) → under held records id ≡ under stash records id) → ((id : List ℕ) → is_some (value_at held id) ≡ is_some (value_at stash id) || is_some (value_at diff id))
      → AreRising held → length held ≤ length stash + length diff → after ≡ step admits records diff
      → IsReplica s after (works ++ edit diff ∷ []) held others (with_work (edit diff) replica)
  edited records after works stash held others replica diff rises stands same exact rising few is =
      let more : diffs_in (works ++ edit diff ∷ []) ≡ diffs_in works ++ diff ∷ [] = diffs-append works (edit diff ∷ []) in
      record {
        works_are = ap (λ ws. ws ++ edit diff ∷ []) stands.works_are ∙ sym (works-append replica.pending (unsent (edit diff) ∷ []));
        shown = is ∙ ap (λ m. step admits m diff) stands.shown ∙ sym (replay-push admits (document replica.base) (diffs_in works) diff) ∙ ap (replay admits (document replica.base)) (sym more);
        stash_is = subst (λ ds. IsStash (document replica.base) ds after held) (sym more) (stashed_edit (document replica.base) (diffs_in works) records after stash held diff rises stands.stash_is same exact rising few is);
        others_are = stands.others_are;
        rising = stands.rising;
      }

  -- works that leave the diffs as they are
  pub same_diffs : (records : Pairs) (works more : List Work) (stash : Slots) (others : Pairs) (replica : Replica) (pending : List Pending) → IsReplica s records works stash others replica
      → diffs_in more ≡ diffs_in works → more ≡ works_in pending → IsReplica s records more stash others (record replica { pending = pending })
  same_diffs records works more stash others replica pending stands same are = record {
    works_are = are;
    shown = stands.shown ∙ ap (replay admits (document replica.base)) (sym same);
    stash_is = subst (λ ds. IsStash (document replica.base) ds records stash) (sym same) stands.stash_is;
    others_are = stands.others_are;
    rising = stands.rising;
  }

  -- a presence is pending
  pub showed : (records : Pairs) (works : List Work) (stash : Slots) (others : Pairs) (replica : Replica) (d : Data) → IsReplica s records works stash others replica
      → IsReplica s records (works ++ presence d ∷ []) stash others (with_work (presence d) replica)
  showed records works stash others replica d stands =
      same_diffs records works (works ++ presence d ∷ []) stash others replica (replica.pending ++ unsent (presence d) ∷ []) stands
      (diffs-append works (presence d ∷ []) ∙ append-nil (diffs_in works))
      (ap (λ ws. ws ++ presence d ∷ []) stands.works_are ∙ sym (works-append replica.pending (unsent (presence d) ∷ [])))

  -- the room is lost
  pub parted : (records : Pairs) (works : List Work) (stash : Slots) (others : Pairs) (replica : Replica) → IsReplica s records works stash others replica
      → IsReplica s records (filter (λ w. is_some (diff_in w)) works) stash [] (alone (is_document s) replica)
  parted records works stash others replica stands =
      let left : filter (λ w. is_some (diff_in w)) works ≡ map edit (diffs_in works) = edits_left works in
      let same : diffs_in (filter (λ w. is_some (diff_in w)) works) ≡ diffs_in works = ap diffs_in left ∙ diffs-edits (diffs_in works) in
      let doc : document (document replica.base) ≡ document replica.base = part-part (is_document s) replica.base in
      record {
        works_are = left ∙ ap (λ ws. map edit (diffs_in ws)) stands.works_are ∙ sym (works-unsent (map edit (diffs_in (works_in replica.pending))));
        shown = stands.shown ∙ (λ i. replay admits (sym doc i) (sym same i));
        stash_is = subst (λ m. IsStash m (diffs_in (filter (λ w. is_some (diff_in w)) works)) records stash) (sym doc) (subst (λ ds. IsStash (document replica.base) ds records stash) (sym same) stands.stash_is);
        others_are = sym (presence-document s replica.base);
        rising = rising-filter (is_document s) replica.base stands.rising;
      }

  -- a snapshot is taken: the works are to be sent again, and its own presence last
  pub shown_last : (records : Pairs) (works : List Work) (stash : Slots) (others : Pairs) (replica : Replica) (base : Pairs) (own : Option Data) → works ≡ works_in replica.pending
      → IsReplica s records works stash others (record replica { base = base })
      → IsReplica s records (works ++ map presence (option_to_list own)) stash others (record { base = base; pending = all_unsent (works_in replica.pending ++ map presence (option_to_list own)) })
  shown_last records works stash others replica base own are stands =
      same_diffs records works (works ++ map presence (option_to_list own)) stash others (record replica { base = base }) (all_unsent (works_in replica.pending ++ map presence (option_to_list own))) stands
      (diffs-append works (map presence (option_to_list own)) ∙ no_diffs own (diffs_in works))
      (ap (λ ws. ws ++ map presence (option_to_list own)) are ∙ sym (works-unsent (works_in replica.pending ++ map presence (option_to_list own))))

-- the same by other names
pub moved : (s t : SchemaTree) (m n : Pairs) (works more : List Work) (stash : Slots) (others : Pairs) (replica : Replica) → s ≡ t → m ≡ n → works ≡ more → IsReplica s m works stash others replica → IsReplica t n more stash others replica
moved s t m n works more stash others replica schema records same stands =
    subst (λ z. IsReplica z n more stash others replica) schema (subst (λ z. IsReplica s z more stash others replica) records (subst (λ z. IsReplica s m z stash others replica) same stands))
