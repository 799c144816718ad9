-- What is noted of a link while it is served.
use Rattle.std.specs.Prelude.{◌≡◌, ◌⊎◌, ◌<◌, ◌≤◌, ℕ, List, [], ◌∷◌, Bool, true, false, None}
use Rattle.link_texts.specs.Sending.{count_up}
use Rattle.link_texts.specs.declared.sending.Sent.{Sent}
use Rattle.room_link.specs.Exchange.{Arrival, text, idle}
use Rattle.room_link.specs.declared.passing.Stop.{Stop}
use Rattle.room_link.specs.declared.passing.Stop.TheVariants.{Failed, OutOfMemory}
use Rattle.room_serve.specs.declared.account.Account.{Account}

-- nothing went out
abbrev pub nothing_sent : Sent
nothing_sent = record { texts = 0; ended = None }

-- nothing came, nothing went out, nothing failed
abbrev pub nothing : Account
nothing = record { texts = 0; sent = nothing_sent; wire = None; fault = false; memory = false }

-- nothing ends the service: no text was refused, no call failed, and the link isn't closed
pub record IsOpen (account : Account) : Type 0 where
  pub wire : account.wire ≡ None
  pub fault : account.fault ≡ false
  pub memory : account.memory ≡ false
  pub ended : account.sent.ended ≡ None

-- a call on the link returned no value, for this cause
abbrev pub stopped : Stop → Account → Account
stopped Failed account = record account { fault = true }
stopped OutOfMemory account = record account { memory = true }

-- no call on the link failed, and memory wasn't refused
abbrev pub IsWell : Account → Type 0
IsWell account = (account.fault ≡ false) × (account.memory ≡ false)

-- the number of texts that came, once some more arrivals came; it stays at its greatest
abbrev pub texts_after : ℕ → List Arrival → ℕ
texts_after n [] = n
texts_after n (text bytes ∷ arrivals) = texts_after (count_up n) arrivals
texts_after n (idle ∷ arrivals) = texts_after n arrivals

-- a count of faults doesn't fall, and a fault is noted only if one was before or the count rose
pub record IsBlamed (before after : Bool) (old new : ℕ) : Type 0 where
  pub stays : old ≤ new
  pub rose : after ≡ true → (before ≡ true) ⊎ (old < new)
