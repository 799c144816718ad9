-- How a link names its room.
use Rattle.std.specs.Prelude.{◌≡◌, ℕ, List, [], ◌∷◌, ◌++◌, All, Option, None, Some}
use Rattle.link_texts.specs.Joins.{IsJoin}
use Rattle.link_texts.specs.Sending.{counted}
use Rattle.link_texts.specs.declared.join.Join.{Join}
use Rattle.room_link.specs.Exchange.{Exchange, Arrival, text, idle}
use Rattle.room_link.specs.declared.passing.Outgoing.{Outgoing}
use Rattle.room_serve.specs.Accounts.{IsOpen, nothing_sent, texts_after}
use Rattle.room_serve.specs.Reports.{IsUnjoined}
use Rattle.room_serve.specs.declared.account.Account.{Account}

-- arrivals named a room, or none
abbrev pub IsNamed : ℕ → Option Join → Account → List Arrival → List Outgoing → Type 0
IsNamed rooms None account arrivals put = IsUnjoined rooms account arrivals put
IsNamed rooms (Some join) account arrivals put =
    (bytes : List ℕ) × (arrivals ≡ text bytes ∷ []) × IsJoin rooms bytes join × (put ≡ [])

-- the same of a text that was taken before, the first that came
pub record Names (rooms : ℕ) (bytes : List ℕ) (join : Option Join) (account : Account) (old new : Exchange) : Type 0 where
  pub put : List Outgoing
  pub out : new ≡ record old { sent = old.sent ++ put }
  pub named : IsNamed rooms join account (text bytes ∷ []) put
  pub texts : account.texts ≡ 1
  pub sent : account.sent ≡ counted nothing_sent put
  pub shut : join ≡ None → IsOpen account → ⊥

-- idles came, and then perhaps that text
pub record Joins (rooms : ℕ) (join : Option Join) (account : Account) (old new : Exchange) : Type 0 where
  pub idles : List Arrival
  pub arrivals : List Arrival
  pub put : List Outgoing
  pub quiet : All (λ arrival. arrival ≡ idle) idles
  pub taken : old.left ≡ (idles ++ arrivals) ++ new.left
  pub out : new.sent ≡ old.sent ++ put
  pub named : IsNamed rooms join account arrivals put
  pub texts : account.texts ≡ texts_after 0 arrivals
  pub sent : account.sent ≡ counted nothing_sent put
  pub whole : join ≡ None → IsOpen account → new.left ≡ []
