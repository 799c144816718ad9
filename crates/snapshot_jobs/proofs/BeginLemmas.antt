-- How what is read begins, by what was found of its lines.
use Rattle.std.proofs.Common.{◌≡◌, ◌⊎◌, inl, inr, ℕ, ◌+◌, ◌<◌, nat_lt, List, length, Bool, Option, Some, None, Result, Ok, Err, refl, sym, ap, subst, ◌∙◌, codes}
use Rattle.std.specs.Prelude.{⊤}
use Rattle.recording_lines.specs.Lines.{lines_left}
use Rattle.rec_format.specs.Lines.{IsHeader, RefusesHeader}
use Rattle.rec_format.specs.declared.fault.LineFault.TheVariants as of_line
use Rattle.rec_format.specs.declared.read.TheConstants as format
use Rattle.replay_job.specs.Endings.{rest_of, Leaves, WritesRestFront, status_of, status_code}
use Rattle.replay_job.specs.Replies.{Reads}
use Rattle.replay_job.specs.Taking.{IsRefusedHeader}
use Rattle.replay_job.specs.Texts.{unended_text}
use Rattle.room_model.specs.Saves.{begun_room}
use Rattle.room_model.specs.Worlds.{world_over}
use Rattle.room_model.specs.declared.event.Header.{Header}
use Rattle.room_model.specs.declared.limits.TheConstants.{LAST_CLOCK}
use Rattle.room_snapshot.specs.Readings.{IsLine, RefusesLine}
use Rattle.room_snapshot.specs.Saved.{SavedTree, saved_tree}
use Rattle.room_snapshot.specs.declared.fault.SnapFault.{SnapFault}
use Rattle.room_snapshot.specs.declared.snapshot.Snapshot.{Snapshot}
use Rattle.room_snapshot.specs.declared.snapshot.TheConstants as snapshot
use Rattle.fault_texts.specs.Texts.{snap_fault_text}
use Rattle.schema_core.specs.Tree.{SchemaTree}
use Rattle.tl_tables.specs.Tables.{IsVersion, IsSchemaAt}
use Rattle.peer_schemas.specs.Clients.{schemas_of}
use Rattle.world_views.specs.Standing.{Stands}
use Rattle.world_views.specs.Views.{nobody_viewing}
use Rattle.world_views.specs.declared.viewed.ViewedWorld.{ViewedWorld}
use Rattle.snapshot_jobs.specs.Beginning.{BeginsAt, BeginsSaved, BeginsHeader, line_of}
use Rattle.snapshot_jobs.specs.Restored.{IsWorldOf}
use Rattle.snapshot_jobs.specs.Restoring.{Beginning, refused_at, begins, SavedLine, Loads, TakesSaved, TakesHeader}
use Rattle.snapshot_jobs.specs.Seeking.{First, found, nothing, first_line, Seeks}
use Rattle.snapshot_jobs.specs.declared.restore.Begun.{Begun}
use Rattle.snapshot_jobs.specs.declared.restore.Begun.TheVariants.{Refused, Going}
use Rattle.snapshot_jobs.specs.declared.seek.Sought.TheVariants as code

module _ (from : SavedLine) (most before after : ℕ) (new : Option (List ℕ)) (line : List ℕ) where
  -- a header is refused
  pub header_refused : (old : Option (List ℕ)) (at : ℕ) (text : List ℕ) → Seeks format.LONGEST_LINE most (from.at + 1) before old after new line (code.Line at)
      → IsRefusedHeader line text → BeginsHeader from most before old after new (Refused at text)
  header_refused None at text seeks refused = tt
  header_refused (Some old) at text seeks refused = with_new new seeks
    where
      with_new : (new : Option (List ℕ)) → Seeks format.LONGEST_LINE most (from.at + 1) before (Some old) after new line (code.Line at) → BeginsHeader from most before (Some old) after new (Refused at text)
      with_new None seeks = absurd seeks
      with_new (Some come) seeks =
          (refused_at at text, subst (λ f. TakesHeader (nat_lt (length old) before) from f (refused_at at text)) (sym seeks.0) (inl (text, refused, refl)), (refl, refl))

  -- a header is too long
  pub header_too_long : (old : Option (List ℕ)) (at : ℕ) (text : List ℕ) → Seeks format.LONGEST_LINE most (from.at + 1) before old after new line (code.TooLong at)
      → ((long : List ℕ) → most < length long → IsRefusedHeader long text) → BeginsHeader from most before old after new (Refused at text)
  header_too_long None at text seeks refused = tt
  header_too_long (Some old) at text seeks refused = with_new new seeks
    where
      with_new : (new : Option (List ℕ)) → Seeks format.LONGEST_LINE most (from.at + 1) before (Some old) after new line (code.TooLong at) → BeginsHeader from most before (Some old) after new (Refused at text)
      with_new None seeks =
          (refused_at at text, subst (λ f. TakesHeader (nat_lt (length old) before) from f (refused_at at text)) (sym seeks.2) (inl (text, refused seeks.0 seeks.3, refl)), (refl, refl))
      with_new (Some come) seeks =
          (refused_at at text, subst (λ f. TakesHeader (nat_lt (length old) before) from f (refused_at at text)) (sym seeks.2) (inl (text, refused seeks.0 seeks.3, refl)), (refl, refl))

  -- there is no header
  pub header_missing : (old : Option (List ℕ)) (at : ℕ) (whole : Bool) (text : List ℕ) → Seeks format.LONGEST_LINE most (from.at + 1) before old after new line (code.End at whole)
      → text ≡ unended_text whole → BeginsHeader from most before old after new (Refused at text)
  header_missing None at whole text seeks is = tt
  header_missing (Some old) at whole text seeks is = with_new new seeks
    where
      with_new : (new : Option (List ℕ)) → Seeks format.LONGEST_LINE most (from.at + 1) before (Some old) after new line (code.End at whole) → BeginsHeader from most before (Some old) after new (Refused at text)
      with_new None seeks =
          (refused_at at text, subst (λ f. TakesHeader (nat_lt (length old) before) from f (refused_at at text)) (sym seeks.0) (ap (refused_at at) (is ∙ ap unended_text seeks.1)), (refl, refl))
      with_new (Some come) seeks =
          (refused_at at text, subst (λ f. TakesHeader (nat_lt (length old) before) from f (refused_at at text)) (sym seeks.0) (ap (refused_at at) (is ∙ ap unended_text seeks.1)), (refl, refl))

  -- the saved room is refused at the header's version
  pub saved_refused : (old : Option (List ℕ)) (at : ℕ) (header : Header) (schema : SchemaTree) (text : List ℕ) → Seeks format.LONGEST_LINE most (from.at + 1) before old after new line (code.Line at)
      → IsHeader line header → IsSchemaAt header.version schema → IsWorldOf schema from.saved from.held (Err text) → BeginsHeader from most before old after new (Refused from.at text)
  saved_refused None at header schema text seeks is known unfit = tt
  saved_refused (Some old) at header schema text seeks is known unfit = with_new new seeks
    where
      with_new : (new : Option (List ℕ)) → Seeks format.LONGEST_LINE most (from.at + 1) before (Some old) after new line (code.Line at) → BeginsHeader from most before (Some old) after new (Refused from.at text)
      with_new None seeks = absurd seeks
      with_new (Some come) seeks =
          (refused_at from.at text, subst (λ f. TakesHeader (nat_lt (length old) before) from f (refused_at from.at text)) (sym seeks.0) (inr (header, is, (schema, known, inl (text, unfit, refl)))), (refl, refl))

  -- events go on in the world over the room that begins from the saved one
  pub header_taken : (old : Option (List ℕ)) (at number : ℕ) (header : Header) (schema : SchemaTree) (world : ViewedWorld) → Seeks format.LONGEST_LINE most (from.at + 1) before old after new line (code.Line at)
      → IsHeader line header → IsVersion header.version → IsSchemaAt header.version schema → IsWorldOf schema from.saved from.held (Ok world) → number ≡ at + 1
      → BeginsHeader from most before old after new (Going number world)
  header_taken None at number header schema world seeks is version known made next = tt
  header_taken (Some old) at number header schema world seeks is version known made next = with_new new seeks
    where
      with_new : (new : Option (List ℕ)) → Seeks format.LONGEST_LINE most (from.at + 1) before (Some old) after new line (code.Line at) → BeginsHeader from most before (Some old) after new (Going number world)
      with_new None seeks = absurd seeks
      with_new (Some come) seeks =
          let progress = Some (schemas_of schema, nobody_viewing (world_over (begun_room LAST_CLOCK made.0))) in
          let b : Beginning = begins (record { progress = progress; at = at + 1; lines = lines_left most after come; whole = nat_lt (length old) before }) in (
            b,
            subst (λ f. TakesHeader (nat_lt (length old) before) from f b) (sym seeks.0) (inr (header, is, (schema, known, inr (made.0, made.1, refl)))),
            (
              made.2 header.version version known,
              ap Some (ap (λ n. record { progress = progress; at = n; lines = lines_left most after come; whole = nat_lt (length come) after }) next
                  ∙ ap (λ w. record { progress = progress; at = at + 1; lines = lines_left most after come; whole = w }) (sym seeks.1)),
            ),
          )

  -- what becomes of the saved room at the header's version is how it begins
  pub header_read : (old : Option (List ℕ)) (at : ℕ) (header : Header) (begun : Begun) → Seeks format.LONGEST_LINE most (from.at + 1) before old after new line (code.Line at)
      → IsHeader line header → IsVersion header.version → (schema : SchemaTree) × IsSchemaAt header.version schema × BeginsAt schema from (at + 1) begun → BeginsHeader from most before old after new begun
  header_read old at header (Refused number text) seeks is version h =
      subst (λ n. BeginsHeader from most before old after new (Refused n text)) (sym h.2.0) (saved_refused old at header h.0 text seeks is h.1 h.2.1)
  header_read old at header (Going number world) seeks is version h = header_taken old at number header h.0 world seeks is version h.1 h.2.1 h.2.0

module _ (most before middle after : ℕ) (mid new : Option (List ℕ)) (line : List ℕ) where
  -- the first line isn't that of a saved room
  pub line_refused : (old : Option (List ℕ)) (at : ℕ) (fault : SnapFault) (text : List ℕ) → Seeks snapshot.LONGEST_LINE most 1 before old after new line (code.Line at)
      → RefusesLine line fault → snap_fault_text fault ≡ Some text → BeginsSaved most before old after new (Refused at text)
  line_refused None at fault text seeks refused told = tt
  line_refused (Some old) at fault text seeks refused told = with_new new seeks
    where
      with_new : (new : Option (List ℕ)) → Seeks snapshot.LONGEST_LINE most 1 before (Some old) after new line (code.Line at) → BeginsSaved most before (Some old) after new (Refused at text)
      with_new None seeks = absurd seeks
      with_new (Some come) seeks =
          (refused_at at text, subst (λ f. TakesSaved (nat_lt (length old) before) f (refused_at at text)) (sym seeks.0) (inl (fault, text, refused, told, refl)), (refl, refl))

  -- it is too long
  pub line_too_long : (old : Option (List ℕ)) (at : ℕ) (fault : SnapFault) (text : List ℕ) → Seeks snapshot.LONGEST_LINE most 1 before old after new line (code.TooLong at)
      → ((long : List ℕ) → most < length long → RefusesLine long fault) → snap_fault_text fault ≡ Some text → BeginsSaved most before old after new (Refused at text)
  line_too_long None at fault text seeks refused told = tt
  line_too_long (Some old) at fault text seeks refused told = with_new new seeks
    where
      with_new : (new : Option (List ℕ)) → Seeks snapshot.LONGEST_LINE most 1 before (Some old) after new line (code.TooLong at) → BeginsSaved most before (Some old) after new (Refused at text)
      with_new None seeks =
          (refused_at at text, subst (λ f. TakesSaved (nat_lt (length old) before) f (refused_at at text)) (sym seeks.2) (inl (fault, text, refused seeks.0 seeks.3, told, refl)), (refl, refl))
      with_new (Some come) seeks =
          (refused_at at text, subst (λ f. TakesSaved (nat_lt (length old) before) f (refused_at at text)) (sym seeks.2) (inl (fault, text, refused seeks.0 seeks.3, told, refl)), (refl, refl))

  -- there is no line
  pub line_missing : (old : Option (List ℕ)) (at : ℕ) (whole : Bool) (text : List ℕ) → Seeks snapshot.LONGEST_LINE most 1 before old after new line (code.End at whole)
      → text ≡ unended_text whole → BeginsSaved most before old after new (Refused at text)
  line_missing None at whole text seeks is = tt
  line_missing (Some old) at whole text seeks is = with_new new seeks
    where
      with_new : (new : Option (List ℕ)) → Seeks snapshot.LONGEST_LINE most 1 before (Some old) after new line (code.End at whole) → BeginsSaved most before (Some old) after new (Refused at text)
      with_new None seeks =
          (refused_at at text, subst (λ f. TakesSaved (nat_lt (length old) before) f (refused_at at text)) (sym seeks.0) (ap (refused_at at) (is ∙ ap unended_text seeks.1)), (refl, refl))
      with_new (Some come) seeks =
          (refused_at at text, subst (λ f. TakesSaved (nat_lt (length old) before) f (refused_at at text)) (sym seeks.0) (ap (refused_at at) (is ∙ ap unended_text seeks.1)), (refl, refl))

  -- it is that of a saved room, and what is behind it begins with a header
  pub line_taken : (old : Option (List ℕ)) (at : ℕ) (read : Snapshot) (begun : Begun) → Seeks snapshot.LONGEST_LINE most 1 before old middle mid line (code.Line at)
      → IsLine line (saved_tree read.saved) read.held → BeginsHeader (line_of at read) most middle mid after new begun → BeginsSaved most before old after new begun
  line_taken None at read begun seeks is later = tt
  line_taken (Some old) at read begun seeks is later = with_mid mid seeks later
    where
      with_mid : (mid : Option (List ℕ)) → Seeks snapshot.LONGEST_LINE most 1 before (Some old) middle mid line (code.Line at) → BeginsHeader (line_of at read) most middle mid after new begun
          → BeginsSaved most before (Some old) after new begun
      with_mid None seeks later = absurd seeks
      with_mid (Some come) seeks later = (
        later.0,
        subst (λ f. TakesSaved (nat_lt (length old) before) f later.0) (sym seeks.0) (inr (
          saved_tree read.saved,
          read.held,
          is,
          subst (λ w. TakesHeader w (line_of at read) (first_line format.LONGEST_LINE (at + 1) (lines_left most middle come)) later.0) (sym seeks.1) later.1,
        )),
        later.2,
      )
