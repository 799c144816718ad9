-- What holds of the entries that accepting makes: their operations act where the entry stands, and their actions say what was
-- accepted.
use Rattle.std.specs.Prelude.{◌≡◌, ℕ, List, [], ◌∷◌, filter, Bool, true, ◌||◌, Option, Some}
use Rattle.std.specs.List.{list_all}
use Rattle.rooms_val.specs.Data.{Data, Pairs}
use Rattle.rooms_val.specs.Maps.{value_at, AreRising}
use Rattle.field_ops.specs.RecordOps.{RecordOpTree, put, patch, remove, RecordOps}
use Rattle.doc_model.specs.Documents.{acts_on}
use Rattle.room_model.specs.Schemas.{Schemas, Plan, is_own}
use Rattle.room_model.specs.Histories.{History, records_of}
use Rattle.room_model.specs.declared.history.Author.{Author}
use Rattle.room_model.specs.declared.history.Entry.{Entry}
use Rattle.sync_msgs.specs.declared.data_event.Action.{Action}
use Rattle.sync_msgs.specs.declared.data_event.Action.TheVariants.{Commit, Discard, Rebase}

-- what an action says of the part of a push's diff that was accepted
abbrev pub IsActionOf : RecordOps → Action → Type 0
IsActionOf part Commit = Unit {0}
IsActionOf part Discard = part ≡ []
IsActionOf part (Rebase diff) = diff ≡ part

-- what a commit says of it, by the plan of the session: at an older schema nothing was accepted
abbrev pub IsCommitOf : Plan → RecordOps → Action → Type 0
IsCommitOf (place ∷ plan) part Commit = part ≡ []
IsCommitOf plan part action = Unit {0}

module _ (schemas : Schemas) where
  -- the part of a diff that names ids of the document
  abbrev pub document_ops : RecordOps → RecordOps
  document_ops diff = filter (λ c. schemas.is_document c.0) diff

  -- done by the step, an operation does what it does in any case: what a patch leaves is admitted; a put always acts, and a remove of
  -- nothing changes nothing
  abbrev pub is_sure : List ℕ → RecordOpTree → Option Data → Bool
  is_sure id (put d) r = true
  is_sure id (patch p) r = acts_on schemas.admits id (patch p) r
  is_sure id remove r = true

  -- an entry acts in the records before it
  pub record IsActing (m : Pairs) (entry : Entry) : Type 0 where
    -- no id stands twice
    pub rising : AreRising entry.diff
    -- each operation does the same by the step, on what stands under its id
    pub acting : list_all (λ c. is_sure c.0 c.1 (value_at m c.0)) entry.diff ≡ true
    -- it names ids of the document, and presences; who pushed names the own presence alone
    pub scoped : list_all (λ c. schemas.is_document c.0 || schemas.is_presence c.0) entry.diff ≡ true
    pub own : (author : Author) → entry.author ≡ Some author → list_all (λ c. schemas.is_document c.0 || is_own author.session c.0) entry.diff ≡ true
    -- its action is that of the document's part
    pub action : (author : Author) → entry.author ≡ Some author → IsActionOf (document_ops entry.diff) author.action

  -- each entry of a history acts where it stands
  abbrev pub AllActing : History → Type 0
  AllActing [] = Unit {0}
  AllActing (entry ∷ history) = IsActing (records_of history) entry × AllActing history

  -- each commit of a session with a plan has what it says
  abbrev pub AllCommit : ℕ → Plan → History → Type 0
  AllCommit session plan [] = Unit {0}
  AllCommit session plan (entry ∷ history) =
      ((author : Author) → entry.author ≡ Some author → author.session ≡ session → IsCommitOf plan (document_ops entry.diff) author.action)
      × AllCommit session plan history
