-- A client says one push after another, until it can push no more.
use Rattle.std.proofs.Common.{◌≡◌, ℕ, suc, ◌&&◌, ◌++◌, List, [], ◌∷◌, map, Some, None, refl, sym, ap, subst, ◌∙◌, append-nil, append_assoc}
use Rattle.std.specs.Prelude.{unwrap_or}
use Rattle.std.proofs.lemmas.List.{map-append}
use Rattle.client_link.specs.declared.saying.Saying.{Saying}
use Rattle.client_link.specs.declared.saying.Saying.TheVariants as say
use Rattle.room_model.specs.Schemas.{WorldSchemas}
use Rattle.room_model.specs.Replicas.{Client, Pushing, push_none, next_push, push_times}
use Rattle.side_effects.specs.declared.fault.EditFault.{EditFault}
use Rattle.sync_msgs.specs.declared.client_message.ClientMessage.{ClientMessage}
use Rattle.sync_client.specs.Calls.{ClientState, pushed}
use Rattle.sync_peer.specs.Standing as peer_of
use Rattle.sync_peer.specs.declared.peer.Peer.{Peer}
use Rattle.room_model.proofs.ClientLemmas.{after_those, pushed_none, pushed_one, pushes_once}

-- so many pushes may follow; what a client that it stood for pushes in all is what it pushed, and what it pushes from here on
pub record IsPushing (schemas : WorldSchemas EditFault) (state : ClientState) (all left : ℕ) (said : List Saying) (peer : Peer) : Type 0 where
  pub client : Client
  pub messages : List ClientMessage
  pub are : said ≡ map say.Message messages
  pub stands : peer_of.Stands schemas (record state { client = client }) peer
  pub rest : push_times all state.client ≡ after_those messages (push_times left client)

-- all that it can push is said, and it stands for who pushed it
abbrev pub SaysAll : WorldSchemas EditFault → ClientState → ℕ → List Saying → Peer → Type 0
SaysAll schemas state n said peer =
    (said ≡ map say.Message (push_times n state.client).messages) × peer_of.Stands schemas (record state { client = (push_times n state.client).client }) peer

module _ (schemas : WorldSchemas EditFault) (state : ClientState) (all : ℕ) where
  pub pushing_begins : (peer : Peer) → peer_of.Stands schemas state peer → IsPushing schemas state all all [] peer
  pushing_begins peer stands = record { client = state.client; messages = []; are = refl; stands = stands; rest = refl }

  module _ (left : ℕ) (said : List Saying) (before after : Peer) (h : IsPushing schemas state all left said before) where
    -- one more
    pub pushing_goes_on : (less : ℕ) (message : ClientMessage) → left ≡ suc less → message ∷ [] ≡ (pushed h.client).messages
        → peer_of.Stands schemas (record state { client = (pushed h.client).client }) after → IsPushing schemas state all less (said ++ say.Message message ∷ []) after
    pushing_goes_on less message more says stands =
        elim (next_push h.client) as (λ o. next_push h.client ≡ o → message ∷ [] ≡ (unwrap_or o (push_none h.client)).messages
        → peer_of.Stands schemas (record state { client = (unwrap_or o (push_none h.client)).client }) after → IsPushing schemas state all less (said ++ say.Message message ∷ []) after) [
          | None ↦ λ is none stands. absurd (cc)
          | Some one ↦ λ is same stands. record {
            client = one.client;
            messages = h.messages ++ message ∷ [];
            are = ap (λ l. l ++ say.Message message ∷ []) h.are ∙ sym (map-append say.Message h.messages (message ∷ []));
            stands = stands;
            rest =
                h.rest ∙ ap (λ n. after_those h.messages (push_times n h.client)) more ∙ ap (after_those h.messages) (pushed_one less h.client one is)
                ∙ ap (λ ms. after_those h.messages (after_those ms (push_times less one.client))) (sym same)
                ∙ (λ i. record { client = (push_times less one.client).client; messages = sym (append_assoc h.messages (message ∷ []) (push_times less one.client).messages) i });
          }
        ] refl says stands

    -- no more
    pub pushing_ends : [] ≡ (pushed h.client).messages → peer_of.Stands schemas (record state { client = (pushed h.client).client }) after → SaysAll schemas state all said after
    pushing_ends none stands =
        elim (next_push h.client) as (λ o. next_push h.client ≡ o → [] ≡ (unwrap_or o (push_none h.client)).messages
        → peer_of.Stands schemas (record state { client = (unwrap_or o (push_none h.client)).client }) after → SaysAll schemas state all said after) [
          | None ↦ λ is same stands.
              let all_is : push_times all state.client ≡ after_those h.messages (push_none h.client) = h.rest ∙ ap (after_those h.messages) (pushed_none left h.client is) in (
                h.are ∙ ap (map say.Message) (sym (ap (λ (p : Pushing). p.messages) all_is ∙ append-nil h.messages)),
                subst (λ (p : Pushing). peer_of.Stands schemas (record state { client = p.client }) after) (sym all_is) stands,
              )
          | Some one ↦ λ is same stands. let h2 = pushes_once h.client one is in absurd (let clash : [] ≡ h2.0 ∷ [] = same ∙ h2.1 in cc)
        ] refl none stands

  -- all were pushed
  pub pushing_done : (said : List Saying) (peer : Peer) → IsPushing schemas state all 0 said peer → SaysAll schemas state all said peer
  pushing_done said peer h = (
    h.are ∙ ap (map say.Message) (sym (ap (λ (p : Pushing). p.messages) h.rest ∙ append-nil h.messages)),
    subst (λ (p : Pushing). peer_of.Stands schemas (record state { client = p.client }) peer) (sym h.rest) h.stands,
  )
