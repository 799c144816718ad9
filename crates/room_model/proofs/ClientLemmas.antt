-- What a client pushes in all, and what an end leaves of it.
use Rattle.std.proofs.Common.{◌≡◌, ℕ, zero, suc, nat_lt, true, false, ◌&&◌, cond, ◌++◌, List, [], ◌∷◌, Some, None, option_map, refl, sym, ap}
use Rattle.std.specs.Option.{option_map_or}
use Rattle.sync_msgs.specs.declared.client_message.ClientMessage.{ClientMessage}
use Rattle.sync_msgs.specs.declared.end_reason.EndReason.{EndReason}
use Rattle.sync_msgs.specs.declared.end_reason.EndReason.TheVariants.{ClientTooOld, ServerTooOld, InvalidRecord, RoomFull, Slow}
use Rattle.room_model.specs.Replicas.{Client, Pushing, push_none, push_of, push_one, first_unsent, is_open, next_push, push_times, after_end}
use Rattle.room_model.specs.declared.limits.TheConstants.{MOST_PUSHES}

-- these messages are given before what a client pushes
abbrev pub after_those : List ClientMessage → Pushing → Pushing
after_those messages pushing = record pushing { messages = messages ++ pushing.messages }

-- a client that has nothing more to push is left as it is
pub pushed_none : (n : ℕ) (c : Client) → next_push c ≡ None → push_times n c ≡ push_none c
pushed_none zero c is = refl
pushed_none (suc n) c is = ap (λ o. option_map_or (λ (one : Pushing). let more = push_times n one.client in record more { messages = one.messages ++ more.messages }) o (push_none c)) is

-- one that has pushes that first
pub pushed_one : (n : ℕ) (c : Client) (one : Pushing) → next_push c ≡ Some one → push_times (suc n) c ≡ after_those one.messages (push_times n one.client)
pushed_one n c one is = ap (λ o. option_map_or (λ (one : Pushing). let more = push_times n one.client in record more { messages = one.messages ++ more.messages }) o (push_none c)) is

-- a push is one message
pub pushes_once : (c : Client) (p : Pushing) → next_push c ≡ Some p → (said : ClientMessage) × (p.messages ≡ said ∷ [])
pushes_once c p is =
    elim (is_open c.connection && nat_lt c.pushes MOST_PUSHES) as (λ b. cond b (option_map (push_one c) (first_unsent c.pending)) None ≡ Some p → (said : ClientMessage) × (p.messages ≡ said ∷ [])) [
      | true ↦ elim (first_unsent c.pending) as (λ o. option_map (push_one c) o ≡ Some p → (said : ClientMessage) × (p.messages ≡ said ∷ [])) [
        | None ↦ λ same. absurd (cc)
        | Some work ↦ λ same. let it : push_one c work ≡ p = cc in (push_of (suc c.pushes) work, sym (ap (λ (q : Pushing). q.messages) it))
      ]
      | false ↦ λ same. absurd (cc)
    ] is

-- an end leaves the version
pub end_version : (reason : EndReason) (c : Client) → (after_end reason c).version ≡ c.version
end_version ClientTooOld c = refl
end_version ServerTooOld c = refl
end_version InvalidRecord c = refl
end_version RoomFull c = refl
end_version Slow c = refl
