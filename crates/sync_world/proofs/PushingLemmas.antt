-- A client pushes one message after another, until it can push no more.
use Rattle.std.proofs.Common.{◌≡◌, ℕ, suc, ◌++◌, List, [], ◌∷◌, Some, None, refl, sym, ap, subst, ◌∙◌, append-nil, append_assoc}
use Rattle.std.specs.Prelude.{unwrap_or}
use Rattle.room_model.specs.Schemas.{WorldSchemas}
use Rattle.room_model.specs.Replicas.{Client, Pushing, push_none, next_push, push_times}
use Rattle.side_effects.specs.declared.fault.EditFault.{EditFault}
use Rattle.sync_msgs.specs.declared.client_message.ClientMessage.{ClientMessage}
use Rattle.sync_client.specs.Calls.{ClientState, pushed}
use Rattle.sync_peer.specs.Standing as peer_of
use Rattle.sync_peer.specs.declared.peer.Peer.{Peer}
use Rattle.room_model.proofs.ClientLemmas.{after_those, pushed_none, pushed_one, pushes_once}

-- so many pushes may follow; what a client that it stood for pushes in all is what it pushed, and what it pushes from here on
pub record IsPushing (schemas : WorldSchemas EditFault) (state : ClientState) (all left : ℕ) (messages : List ClientMessage) (peer : Peer) : Type 0 where
  pub client : Client
  pub stands : peer_of.Stands schemas (record state { client = client }) peer
  pub rest : push_times all state.client ≡ after_those messages (push_times left client)

module _ (schemas : WorldSchemas EditFault) (state : ClientState) (all : ℕ) where
  pub pushing_begins : (peer : Peer) → peer_of.Stands schemas state peer → IsPushing schemas state all all [] peer
  pushing_begins peer stands = record { client = state.client; stands = stands; rest = refl }

  module _ (left : ℕ) (messages : List ClientMessage) (before after : Peer) (h : IsPushing schemas state all left messages before) where
    -- one more
    pub pushing_goes_on : (less : ℕ) (said : ClientMessage) → left ≡ suc less → said ∷ [] ≡ (pushed h.client).messages
        → peer_of.Stands schemas (record state { client = (pushed h.client).client }) after → IsPushing schemas state all less (messages ++ said ∷ []) after
    pushing_goes_on less said more says stands =
        elim (next_push h.client) as (λ o. next_push h.client ≡ o → said ∷ [] ≡ (unwrap_or o (push_none h.client)).messages
        → peer_of.Stands schemas (record state { client = (unwrap_or o (push_none h.client)).client }) after → IsPushing schemas state all less (messages ++ said ∷ []) after) [
          | None ↦ λ is none stands. absurd (cc)
          | Some one ↦ λ is same stands. record {
            client = one.client;
            stands = stands;
            rest =
                h.rest ∙ ap (λ n. after_those messages (push_times n h.client)) more ∙ ap (after_those messages) (pushed_one less h.client one is)
                ∙ ap (λ ms. after_those messages (after_those ms (push_times less one.client))) (sym same)
                ∙ (λ i. record { client = (push_times less one.client).client; messages = sym (append_assoc messages (said ∷ []) (push_times less one.client).messages) i });
          }
        ] refl says stands

    -- no more
    pub pushing_ends : [] ≡ (pushed h.client).messages → peer_of.Stands schemas (record state { client = (pushed h.client).client }) after
        → (messages ≡ (push_times all state.client).messages) × peer_of.Stands schemas (record state { client = (push_times all state.client).client }) after
    pushing_ends none stands =
        elim (next_push h.client) as (λ o. next_push h.client ≡ o → [] ≡ (unwrap_or o (push_none h.client)).messages
        → peer_of.Stands schemas (record state { client = (unwrap_or o (push_none h.client)).client }) after
        → (messages ≡ (push_times all state.client).messages) × peer_of.Stands schemas (record state { client = (push_times all state.client).client }) after) [
          | None ↦ λ is same stands.
              let all_is : push_times all state.client ≡ after_those messages (push_none h.client) = h.rest ∙ ap (after_those messages) (pushed_none left h.client is) in (
                sym (ap (λ (p : Pushing). p.messages) all_is ∙ append-nil messages),
                subst (λ (p : Pushing). peer_of.Stands schemas (record state { client = p.client }) after) (sym all_is) stands,
              )
          | Some one ↦ λ is same stands. let h2 = pushes_once h.client one is in absurd (let clash : [] ≡ h2.0 ∷ [] = same ∙ h2.1 in cc)
        ] refl none stands

  -- all were pushed
  pub pushing_done : (messages : List ClientMessage) (peer : Peer) → IsPushing schemas state all 0 messages peer
      → (messages ≡ (push_times all state.client).messages) × peer_of.Stands schemas (record state { client = (push_times all state.client).client }) peer
  pushing_done messages peer h = (
    sym (ap (λ (p : Pushing). p.messages) h.rest ∙ append-nil messages),
    subst (λ (p : Pushing). peer_of.Stands schemas (record state { client = p.client }) peer) (sym h.rest) h.stands,
  )
