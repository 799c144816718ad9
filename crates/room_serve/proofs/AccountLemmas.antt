-- What is noted of what went out.
use Rattle.std.proofs.Common.{◌≡◌, List, refl}
use Rattle.link_texts.proofs.SendingLemmas.{printed_begun}
use Rattle.link_texts.specs.Sending.{ArePrinted, PutsOut}
use Rattle.link_texts.specs.declared.sending.Sent.{Sent}
use Rattle.room_link.specs.Exchange.{Exchange}
use Rattle.room_link.specs.declared.passing.Outgoing.{Outgoing}
use Rattle.room_link.specs.declared.passing.Stop.{Stop}
use Rattle.room_link.specs.declared.passing.Stop.TheVariants.{Failed, OutOfMemory}
use Rattle.room_serve.specs.Accounts.{stopped}
use Rattle.room_serve.specs.Turns.{Delivers}
use Rattle.room_serve.specs.declared.account.Account.{Account}
use Rattle.sync_msgs.specs.declared.out.Out.{Out}

-- all that was given went out
pub delivers_all : (outs : List Out) (before : Account) (sent : Sent) (old new : Exchange)
    → (put : List Outgoing) × ArePrinted outs put × PutsOut put before.sent sent old new → Delivers outs before (record before { sent = sent }) old new
delivers_all outs before sent old new (put, printed, p) = record {
  put = put;
  goes = record { out = p.out; sent = p.count; texts = refl };
  wire = refl;
  begun = printed_begun outs put printed;
  whole = λ well. printed;
}

-- what a call leaves that gave no answer
pub stopped_wire : (stop : Stop) (account : Account) → (stopped stop account).wire ≡ account.wire
stopped_wire Failed account = refl
stopped_wire OutOfMemory account = refl

pub stopped_texts : (stop : Stop) (account : Account) → (stopped stop account).texts ≡ account.texts
stopped_texts Failed account = refl
stopped_texts OutOfMemory account = refl

pub stopped_sent : (stop : Stop) (account : Account) → (stopped stop account).sent ≡ account.sent
stopped_sent Failed account = refl
stopped_sent OutOfMemory account = refl
