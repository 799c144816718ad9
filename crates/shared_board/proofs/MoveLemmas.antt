-- What rounds of moves make of a board.
use Rattle.std.proofs.Common.{◌≡◌, ℕ, ◌+◌, ◌<◌, ◌≤◌, nat_lt, ◌||◌, Bool, true, false, length, refl, subst, arith}
use Rattle.std.proofs.lemmas.Bool.Decides.{nat_tests}
use Rattle.room_model.specs.Schemas.{WorldSchemas}
use Rattle.room_model.specs.Worlds.{World, after_event}
use Rattle.room_model.specs.declared.event.Event.{Event}
use Rattle.room_model.specs.declared.event.Event.TheVariants as event
use Rattle.room_model.specs.declared.limits.TheConstants.{MOST_CLIENTS}
use Rattle.side_effects.specs.declared.fault.EditFault.{EditFault}
use Rattle.sync_world.specs.Playing.{IsPlayed}
use Rattle.shared_board.specs.Apart.{IsApart}
use Rattle.shared_board.specs.Moving.{IsMoving, Moves, stays, goes, IsRefused, IsSettled, Reaches}
use Rattle.shared_board.specs.Rounds.{move_of, Attempts, Tries, Passes}
use Rattle.shared_board.specs.Standing.{Stands}
use Rattle.shared_board.specs.declared.board.Board.{Board}
use Rattle.shared_board.specs.declared.moving.Leg.{Leg}
use Rattle.shared_board.specs.declared.moving.Leg.TheVariants as leg
use Rattle.shared_board.specs.Sharing.{Shares}
use Rattle.shared_board.proofs.ChannelLemmas.{past_handle, past_send}
use Rattle.shared_board.proofs.SettledLemmas.{is_shared}
use Rattle.peer_schemas.proofs.ClientLemmas.{lawful}

-- nobody connects by an event that moves something
pub moving_apart : (e : Event) → IsMoving e → IsApart e
moving_apart (event.Connect client readonly) moving = absurd moving
moving_apart other moving = tt

-- and a world plays it
pub moving_played : (e : Event) → IsMoving e → IsPlayed e
moving_played (event.Client version) moving = absurd moving
moving_played (event.Paste client dx dy parent prefix) moving = absurd moving
moving_played other moving = tt

-- each move moves something
pub move_moves : (way : Leg) (n : ℕ) → IsMoving (move_of way n)
move_moves leg.Handle n = tt
move_moves leg.Send n = tt
move_moves leg.Deliver n = tt

module _ (schemas : WorldSchemas EditFault) where
  moves_on : (a b c : World) → Moves schemas a b → Moves schemas b c → Moves schemas a c
  moves_on a b _ first stays = first
  moves_on a b _ first (goes state e made before moving is) = goes state e made (moves_on a b state first before) moving is

  -- one after the other
  pub reaches_on : (from : World) (old new : Board) → Reaches schemas from old → ((state : World) → Stands schemas state old → Reaches schemas state new) → Reaches schemas from new
  reaches_on from old new first next =
      let second = next first.0 first.2 in
      (second.0, moves_on from first.0 second.0 first.1 second.1, second.2)

  -- whether something moved or not
  pub tries_reach : (from : World) (way : Leg) (count : ℕ) (moved : Bool) (board : Board) → Tries schemas from way count moved board → Reaches schemas from board
  tries_reach from way count true board tries = tries
  tries_reach from way count false board tries = (from, stays, tries.1)

  -- at first no move was tried
  pub tries_none : (from : World) (way : Leg) (board : Board) → Stands schemas from board → Tries schemas from way 0 false board
  tries_none from way board stands = (λ n less. absurd (omega arith), stands)

  -- and then one more
  pub tries_more : (from : World) (way : Leg) (n : ℕ) (moved happened : Bool) (old new : Board) → Tries schemas from way n moved old
      → ((state : World) → Stands schemas state old → Attempts schemas state (move_of way n) happened new) → Tries schemas from way (n + 1) (moved || happened) new
  tries_more from way n true true old new was next =
      let one = next was.0 was.2 in
      (one.0.world, goes was.0 (move_of way n) one.0 was.1 (move_moves way n) one.1, one.2)
  tries_more from way n true false old new was next = let one = next was.0 was.2 in (was.0, was.1, one.1)
  tries_more from way n false true old new was next =
      let one = next from was.1 in
      (one.0.world, goes from (move_of way n) one.0 stays (move_moves way n) one.1, one.2)
  tries_more from way n false false old new was next =
      let one = next from was.1 in (
        λ m less. elim (nat_lt m n) as (λ b. nat_lt m n ≡ b → IsRefused (after_event schemas false from (move_of way m))) [
          | true ↦ λ is. was.0 m (grind (arith, nat_tests))
          | false ↦ λ is. let same : n ≡ m = grind (arith, nat_tests) in subst (λ i. IsRefused (after_event schemas false from (move_of way i))) same one.0
        ] refl,
        one.1,
      )

  -- of more moves than are asked for all were tried
  pub tries_all : (from : World) (way : Leg) (n count : ℕ) (moved : Bool) (board : Board) → count ≤ n → Tries schemas from way n moved board → Tries schemas from way count moved board
  tries_all from way n count true board more tries = tries
  tries_all from way n count false board more tries = (λ m less. tries.0 m (omega (arith, more, less)), tries.1)

  -- what can't happen in any channel can't happen
  none_handled : (from : World) (n : ℕ) → n ≡ length from.channels → ((k : ℕ) → k < n → IsRefused (after_event schemas false from (event.Handle k)))
      → (k : ℕ) → IsRefused (after_event schemas false from (event.Handle k))
  none_handled from n long none k = elim (nat_lt k n) as (λ b. nat_lt k n ≡ b → IsRefused (after_event schemas false from (event.Handle k))) [
    | true ↦ λ is. none k (grind (arith, nat_tests))
    | false ↦ λ is. past_handle schemas from k (grind (arith, nat_tests))
  ] refl

  none_sent : (from : World) (n : ℕ) → n ≡ length from.channels → ((k : ℕ) → k < n → IsRefused (after_event schemas false from (event.Send k)))
      → (k : ℕ) → IsRefused (after_event schemas false from (event.Send k))
  none_sent from n long none k = elim (nat_lt k n) as (λ b. nat_lt k n ≡ b → IsRefused (after_event schemas false from (event.Send k))) [
    | true ↦ λ is. none k (grind (arith, nat_tests))
    | false ↦ λ is. past_send schemas from k (grind (arith, nat_tests))
  ] refl

  -- a round of the three
  pub passes : (from : World) (a b d : Bool) (old one two three : Board) → Stands schemas from old → Tries schemas from leg.Handle old.entered a one
      → ((state : World) → Stands schemas state one → Tries schemas state leg.Send one.entered b two)
      → ((state : World) → Stands schemas state two → Tries schemas state leg.Deliver MOST_CLIENTS d three)
      → Passes schemas from ((a || b) || d) three
  passes from true b d old one two three stands first second third =
      reaches_on from two three (reaches_on from one two first (λ s at. tries_reach s leg.Send one.entered b two (second s at))) (λ s at. tries_reach s leg.Deliver MOST_CLIENTS d three (third s at))
  passes from false true d old one two three stands first second third =
      reaches_on from two three (second from first.1) (λ s at. tries_reach s leg.Deliver MOST_CLIENTS d three (third s at))
  passes from false false true old one two three stands first second third = third from (second from first.1).1
  passes from false false false old one two three stands first second third =
      let told = second from first.1 in
      let given = third from told.1 in (
        record {
          heard = none_handled from old.entered stands.entered first.0;
          told = none_sent from one.entered first.1.entered told.0;
          given = given.0;
        },
        given.1,
      )

  -- where nothing moved in a last round, everything has arrived
  pub settles : (from : World) (old new : Board) → Reaches schemas from old → ((state : World) → Stands schemas state old → Passes schemas state false new)
      → (state : World) × Moves schemas from state × IsSettled schemas state × Stands schemas state new
  settles from old new first last = let done = last first.0 first.2 in (first.0, first.1, done.0, done.1)

  -- and is shared
  pub shares : (from : World) (board : Board) → (state : World) × Moves schemas from state × IsSettled schemas state × Stands schemas state board → Shares schemas board
  shares from board settled =
      let keeps = settled.3.world.keeps in
      (settled.0, settled.3, is_shared schemas settled.0 (lawful schemas keeps.fits.tables) keeps.reachable settled.2)
