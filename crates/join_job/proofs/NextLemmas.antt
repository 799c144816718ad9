-- What the next of the lines that are left comes to.
use Rattle.std.proofs.Common.{◌≡◌, ℕ, ◌<◌, ◌≤◌, arith, nat_le, nat_lt, List, [], ◌∷◌, length, Bool, false, ◌&&◌, Option, None, Some, IfSome, Result, Ok, refl, sym, ap, subst, ◌∙◌, inl}
use Rattle.std.specs.Prelude.{codes}
use Rattle.std.proofs.lemmas.Bool.Decides.{nat_tests}
use Rattle.link_texts.proofs.SendingLemmas.{tells_more}
use Rattle.rec_format.specs.declared.fault.LineFault.TheVariants as line_fault
use Rattle.rec_format.specs.declared.read.TheConstants.{LONGEST_LINE}
use Rattle.recording_lines.specs.Lines.{lines_left, is_blank}
use Rattle.recording_lines.specs.Reading.{LosesLine, BeginsTooLong}
use Rattle.room_join.specs.declared.joiner.Joiner as code
use Rattle.room_link.specs.Exchange.{Arrival, Exchange, Tells}
use Rattle.room_model.specs.Schemas.{WorldSchemas}
use Rattle.side_effects.specs.declared.fault.EditFault.{EditFault}
use Rattle.join_job.specs.Texts.{fault_line, unended_text, is_passed_by}
use Rattle.join_job.specs.Turning.{Reads, Comes, TakesNext, ComesNext}
use Rattle.join_job.specs.Turns.{Progress, refused, TakesUnless, Takes}
use Rattle.join_job.specs.declared.ending.End.TheVariants.{Refused}
use Rattle.join_job.specs.declared.ending.Stop.{Stop}
use Rattle.join_job.specs.declared.script.Reply.{Reply}
use Rattle.join_job.proofs.GoingLemmas.{Comings}
use Rattle.join_job.proofs.TurnLemmas.{LineTo, comes_to_end, cut_off}

module _ (room at longest budget : ℕ) (before client : Option code.Joiner) where
  -- it is taken
  pub next_taken : (come further : Option (List ℕ)) (less : ℕ) (line : List ℕ) (result : Result Reply Stop) (o n : Option Exchange) → LosesLine longest budget come less further line
      → Tells (LineTo at room line before result client) o n → Tells (Comings room before longest at budget come result client) o n
  next_taken come further less line result o n loses takes =
      tells_more {A = LineTo at room line before result client} {B = Comings room before longest at budget come result client} o n takes (λ x y so schemas tables. by come further loses x y schemas (so schemas tables))
    where
      by : (come further : Option (List ℕ)) → LosesLine longest budget come less further line → (x y : Exchange) (schemas : WorldSchemas EditFault)
          → ((progress : Progress) → Reads schemas progress before → Comes schemas (Takes schemas at room progress line) result client x y)
          → ComesNext schemas room before longest at budget come result client x y
      by None further loses x y schemas so = tt
      by (Some old) None loses x y schemas so = absurd loses
      by (Some old) (Some new) loses x y schemas so = λ progress reads.
          subst (λ lines. Comes schemas (TakesNext schemas at room progress (nat_lt (length old) budget) lines) result client x y) (sym loses.0) (so progress reads)

  -- a script is refused there
  refused_next : (schemas : WorldSchemas EditFault) (come : List ℕ) (text : List ℕ) (reply : Reply) (x : Exchange) (progress : Progress)
      → TakesNext schemas at room progress (nat_lt (length come) budget) (lines_left longest budget come) x.left (refused Refused at text x.left)
      → reply.text.items ≡ fault_line at text → reply.end ≡ Some Refused
      → Comes schemas (TakesNext schemas at room progress (nat_lt (length come) budget) (lines_left longest budget come)) (Ok reply) client x x
  refused_next schemas come text reply x progress takes is by =
      comes_to_end schemas client (TakesNext schemas at room progress (nat_lt (length come) budget) (lines_left longest budget come)) reply (refused Refused at text x.left) Refused x x refl takes refl refl is by

  -- it is too long
  pub next_too_long : (come : Option (List ℕ)) (text : List ℕ) (reply : Reply) (told : Option Exchange) → LONGEST_LINE ≤ longest → IfSome come (λ bytes. BeginsTooLong longest (lines_left longest budget bytes))
      → text ≡ codes "LineTooLong" → reply.text.items ≡ fault_line at text → reply.end ≡ Some Refused
      → Tells (Comings room before longest at budget come (Ok reply) client) told told
  next_too_long come text reply told most long name is by =
      cut_off (Comings room before longest at budget come (Ok reply) client) told (λ x schemas tables. here come long x schemas)
    where
      refuses : (schemas : WorldSchemas EditFault) (line : List ℕ) (coming : List Arrival) (progress : Progress) → LONGEST_LINE < length line → Takes schemas at room progress line coming (refused Refused at text coming)
      refuses schemas line coming progress past =
          let over : nat_le (length line) LONGEST_LINE ≡ false = grind (arith, nat_tests, past) in
          let stays : is_passed_by line ≡ false = ap (λ b. b && is_blank line) over in
          subst (λ b. TakesUnless schemas at b room progress line coming (refused Refused at text coming)) (sym stays) (of progress)
        where
          of : (progress : Progress) → TakesUnless schemas at false room progress line coming (refused Refused at text coming)
          of None = inl (line_fault.LineTooLong, text, past, ap Some (sym name), refl)
          of (Some joiner) = inl (text, inl (line_fault.LineTooLong, past, ap Some (sym name)), refl)

      of_lines : (schemas : WorldSchemas EditFault) (whole : Bool) (lines : List (List ℕ)) (coming : List Arrival) (progress : Progress) → BeginsTooLong longest lines
          → TakesNext schemas at room progress whole lines coming (refused Refused at text coming)
      of_lines schemas whole [] coming progress long = absurd long
      of_lines schemas whole (line ∷ lines) coming progress long = refuses schemas line coming progress (omega (arith, most, long))

      here : (come : Option (List ℕ)) → IfSome come (λ bytes. BeginsTooLong longest (lines_left longest budget bytes)) → (x : Exchange) (schemas : WorldSchemas EditFault)
          → ComesNext schemas room before longest at budget come (Ok reply) client x x
      here None long x schemas = tt
      here (Some bytes) long x schemas = λ progress reads.
          refused_next schemas bytes text reply x progress (of_lines schemas (nat_lt (length bytes) budget) (lines_left longest budget bytes) x.left progress long) is by

  -- none is left
  pub none_next : (come : Option (List ℕ)) (whole : Bool) (text : List ℕ) (reply : Reply) (told : Option Exchange)
      → IfSome come (λ bytes. (lines_left longest budget bytes ≡ []) × (whole ≡ nat_lt (length bytes) budget))
      → text ≡ unended_text whole → reply.text.items ≡ fault_line at text → reply.end ≡ Some Refused
      → Tells (Comings room before longest at budget come (Ok reply) client) told told
  none_next come whole text reply told none name is by =
      cut_off (Comings room before longest at budget come (Ok reply) client) told (λ x schemas tables. here come none x schemas)
    where
      here : (come : Option (List ℕ)) → IfSome come (λ bytes. (lines_left longest budget bytes ≡ []) × (whole ≡ nat_lt (length bytes) budget)) → (x : Exchange) (schemas : WorldSchemas EditFault)
          → ComesNext schemas room before longest at budget come (Ok reply) client x x
      here None none x schemas = tt
      here (Some bytes) none x schemas = λ progress reads.
          refused_next schemas bytes text reply x progress
          (subst (λ lines. TakesNext schemas at room progress (nat_lt (length bytes) budget) lines x.left (refused Refused at text x.left)) (sym none.0)
          (ap (λ t. refused Refused at t x.left) (name ∙ ap unended_text none.1))) is by
