-- What a client shows that owes nothing; and how often clients push.
use Rattle.std.proofs.Common.{◌≡◌, ℕ, zero, suc, ◌≤◌, nat_lt, pos, negsuc, true, false, ◌&&◌, cond, [], ◌∷◌, ◌++◌, length, slice_get, Some, None, option_map, Ok, inl, inr, refl, sym, ap, subst, ◌∙◌, arith}
use Rattle.std.specs.Option.{option_map_or}
use Rattle.std.proofs.lemmas.Bool.Decides.{nat_tests}
use Rattle.doc_model.specs.Documents.{replay}
use Rattle.room_model.specs.Schemas.{WorldSchemas, Plan, doc, seen_along}
use Rattle.room_model.specs.Histories.{History, records_of, oldest, up_to}
use Rattle.room_model.specs.Rooms.{Notice, snapshot_at, updates_between, pong, end}
use Rattle.room_model.specs.Replicas.{Client, new_client, is_open, Pushing, push_none, push_one, first_unsent, next_push, push_times, with_work, pending_diffs, after_end, after_notice, schema_of, plan_of, seen_by, base_of, shown_document}
use Rattle.room_model.specs.Worlds.{World, with_channel}
use Rattle.room_model.specs.declared.limits.TheConstants.{MOST_PUSHES}
use Rattle.sync_msgs.specs.declared.end_reason.EndReason.{EndReason}
use Rattle.sync_msgs.specs.declared.end_reason.EndReason.TheVariants.{ClientTooOld, ServerTooOld, InvalidRecord, RoomFull, Slow}
use Rattle.world_laws.specs.Reachable.{ReachableWorld}
use Rattle.world_laws.specs.Requests.{IsFit, HasReachedFit}
use Rattle.world_laws.specs.Pending.{AreFewPushes}
use Rattle.world_laws.proofs.EventLemmas.{Acts, rests, works, Keeps, everywhere}
use Rattle.world_laws.proofs.PushLemmas.{each_set, each_added, next_same, answered as opened, pushing_keeps}
use Rattle.world_laws.proofs.BarredLemmas.{barred_stand}

pub oldest_all : (history : History) → oldest (length history) history ≡ history
oldest_all [] = refl
oldest_all (entry ∷ history) =
    let before : nat_lt (length history) (suc (length history)) ≡ true = grind (arith, nat_tests) in
    ap (λ b. cond b (entry ∷ history) (oldest (suc (length history)) history)) before

module _ {F : Type 0} (schemas : WorldSchemas F) where
  reached_fit : (c : Client) (clock : ℕ) → c.reached ≡ pos clock → HasReachedFit schemas c → IsFit schemas c
  reached_fit c clock is h = elim h [ inl fit ↦ fit | inr none ↦ absurd (let no : pos clock ≡ negsuc 0 = sym is ∙ none.0 in cc) ]

  pub shows_room : (w : World) (n : ℕ) (c : Client) → ReachableWorld schemas w → slice_get w.clients n ≡ Some c → c.reached ≡ pos (length w.room.history) → pending_diffs c ≡ []
      → (plan : Plan) × (plan_of schemas c ≡ Ok plan) × (shown_document schemas w.room.history c ≡ seen_along schemas.room plan (doc schemas.room (records_of w.room.history)))
  shows_room w n c made at reached none =
      let history = w.room.history in
      let fit = reached_fit c (length history) reached ((barred_stand schemas w made).reached n c at) in
      let all : up_to c.reached history ≡ history = ap (λ r. up_to r history) reached ∙ oldest_all history in (
        fit.0,
        fit.1,
        ap (replay (schema_of schemas c).admits (base_of schemas history c)) none
            ∙ ap (λ h. seen_by schemas (plan_of schemas c) (doc schemas.room (records_of h))) all
            ∙ ap (λ o. seen_by schemas o (doc schemas.room (records_of history))) fit.1,
      )

-- how often clients push

abbrev Few : Client → Type 0
Few c = c.pushes ≤ MOST_PUSHES

may_push : (c : Client) (p : Pushing) → next_push c ≡ Some p → suc c.pushes ≤ MOST_PUSHES
may_push c p is =
    elim (nat_lt c.pushes MOST_PUSHES) as (λ b. nat_lt c.pushes MOST_PUSHES ≡ b → cond (is_open c.connection && b) (option_map (push_one c) (first_unsent c.pending)) None ≡ Some p → suc c.pushes ≤ MOST_PUSHES) [
      | true ↦ λ less it. grind (arith, nat_tests)
      | false ↦ λ many it. elim (is_open c.connection) as (λ o. cond (o && false) (option_map (push_one c) (first_unsent c.pending)) None ≡ Some p → suc c.pushes ≤ MOST_PUSHES) [ true ↦ λ no. absurd (cc) | false ↦ λ no. absurd (cc) ] it
    ] refl is

few_pushed : (n : ℕ) (c : Client) → Few c → Few (push_times n c).client
few_pushed zero c few = few
few_pushed (suc n) c few =
    elim (next_push c) as (λ o. next_push c ≡ o → Few (option_map_or (λ one. let more = push_times n one.client in record more { messages = one.messages ++ more.messages }) o (push_none c)).client) [
      | None ↦ λ is. few
      | Some p ↦ λ is.
          let on = next_same c p is in
          let less = may_push c p is in
          few_pushed n p.client (subst (λ (q : Pushing). Few q.client) (sym on.2) less)
    ] refl

few_end : (reason : EndReason) (c : Client) → Few c → Few (after_end reason c)
few_end Slow c few = few
few_end ClientTooOld c few = few
few_end ServerTooOld c few = few
few_end InvalidRecord c few = few
few_end RoomFull c few = few

few_notice : (history : History) (k : ℕ) (c : Client) (notice : Notice) → Few c → Few (after_notice history k c notice).client
few_notice history k c (snapshot_at clock) few = few_pushed (length (opened k clock c).pending) (opened k clock c) few
few_notice history k c (updates_between from to) few = few
few_notice history k c pong few = few
few_notice history k c (end reason) few = few_end reason c few

few_act : {F : Type 0} (schemas : WorldSchemas F) (c : Client) (p : Pushing) → Acts schemas c p → Few c → Few p.client
few_act schemas c _ (rests d q) few = subst (λ n. n ≤ MOST_PUSHES) (sym q.pushes) few
few_act schemas c _ (works d work q place rising) few = few_pushed (length (with_work work d).pending) (with_work work d) (subst (λ n. n ≤ MOST_PUSHES) (sym q.pushes) few)

module _ {F : Type 0} (schemas : WorldSchemas F) where
  few_keep : Keeps schemas AreFewPushes
  few_keep = record {
    joins = λ w version made h. each_added Few w.clients (new_client version) h (omega arith);
    rests = λ w n c d made at q h. each_set Few w.clients n d h (subst (λ n. n ≤ MOST_PUSHES) (sym q.pushes) (h n c at));
    cuts = λ w n k c made at is h. each_set Few w.clients n _ h (h n c at);
    acts = λ w n c p made at acts h. let now = each_set Few w.clients n p.client h (few_act schemas c p acts (h n c at)) in pushing_keeps AreFewPushes w n p now (λ k channel is there. now);
    asks = λ w n readonly c made at off place h. each_set Few w.clients n _ h (h n c at);
    loses = λ w k channel room made at is h. h;
    handles = λ w k channel said messages replied made at first is h. h;
    sends = λ w k channel given made at is h. h;
    delivers = λ w n k c channel notice notices made at is there first h.
        let v = with_channel k (record channel { to_client = notices }) w in
        let p = after_notice w.room.history k c notice in
        let now = each_set Few w.clients n p.client h (few_notice w.room.history k c notice (h n c at)) in
        pushing_keeps AreFewPushes v n p now (λ j channel is there. now);
  }

  pub few_stand : (w : World) → ReachableWorld schemas w → AreFewPushes w
  few_stand w made = everywhere schemas AreFewPushes few_keep (λ room reached none n c at. absurd (cc)) w made
