-- The events of made recordings are such as worlds play, and can be printed.
use Rattle.std.proofs.Common.{◌≡◌, ℕ, ◌<◌, ◌≤◌, ◌^◌, false, List, length, refl, arith, lit<, lit≤}
use Rattle.std.specs.Prelude.{slice_index}
use Rattle.std.proofs.lemmas.Nat.{mod_below}
use Rattle.rand_pcg.specs.Lcg.{Lcg}
use Rattle.rand_pcg.specs.Pcg.{pcg32}
use Rattle.room_model.specs.declared.event.Event.{Event}
use Rattle.room_model.specs.declared.event.Event.TheVariants as event
use Rattle.load_maker.specs.Draws.{below, draw_of}
use Rattle.load_maker.specs.Made.{first_events, events_of, events_by}
use Rattle.load_maker.specs.declared.draw.Act.{Act}
use Rattle.load_maker.specs.declared.draw.Act.TheVariants as act
use Rattle.load_maker.specs.declared.draw.Draw.{Draw}
use Rattle.rec_format.specs.Printing.{IsPrintable}
use Rattle.sync_world.specs.Playing.{IsPlayed}
use Rattle.make_job.specs.Making.{IsReady, AreReady}

-- by what a client does
by_ready : (client session : ℕ) (a : Act) → client < 2 ^ 63 → session < 2 ^ 63 → AreReady (events_by client session a)
by_ready client session (act.Put number x) small less = (record { played = tt; printable = small }, tt)
by_ready client session (act.Move number x) small less = (record { played = tt; printable = small }, tt)
by_ready client session (act.Remove number) small less = (record { played = tt; printable = small }, tt)
by_ready client session (act.Point x) small less = (record { played = tt; printable = small }, tt)
by_ready client session act.Mark small less = (record { played = tt; printable = small }, tt)
by_ready client session act.Undo small less = (record { played = tt; printable = small }, tt)
by_ready client session act.Redo small less = (record { played = tt; printable = small }, tt)
by_ready client session act.Handle small less = (record { played = tt; printable = less }, tt)
by_ready client session act.Send small less = (record { played = tt; printable = less }, tt)
by_ready client session act.Deliver small less = (record { played = tt; printable = small }, tt)
by_ready client session act.Cut small less = (record { played = tt; printable = small }, tt)
by_ready client session act.Reconnect small less = (record { played = tt; printable = less }, (record { played = tt; printable = small }, tt))

by_few : (client session : ℕ) (a : Act) → length (events_by client session a) ≤ 2
by_few client session (act.Put number x) = omega arith
by_few client session (act.Move number x) = omega arith
by_few client session (act.Remove number) = omega arith
by_few client session (act.Point x) = omega arith
by_few client session act.Mark = omega arith
by_few client session act.Undo = omega arith
by_few client session act.Redo = omega arith
by_few client session act.Handle = omega arith
by_few client session act.Send = omega arith
by_few client session act.Deliver = omega arith
by_few client session act.Cut = omega arith
by_few client session act.Reconnect = omega arith

-- the client of a draw is one of four
drawn_client : (g : Lcg) → (draw_of g).0.client < 4
unfolding draw_of below
drawn_client g = mod_below (pcg32 g).0 4 (omega arith)

pub draw_ready : (g : Lcg) (last : List ℕ) → ((client : ℕ) → slice_index last client < 2 ^ 63) → AreReady (events_of (draw_of g).0 last)
unfolding events_of
draw_ready g last small =
    let d = (draw_of g).0 in
    let few : d.client < 4 = drawn_client g in
    let fits : d.client < 2 ^ 63 = omega (arith, few) in
    by_ready d.client (slice_index last d.client) d.act fits (small d.client)

pub draw_few : (d : Draw) (last : List ℕ) → length (events_of d last) ≤ 2
unfolding events_of
draw_few d last = by_few d.client (slice_index last d.client) d.act

-- the events before the draws

pub first_ready : AreReady first_events
unfolding first_events
first_ready =
    let done : (e : Event) → IsPlayed e → IsPrintable e → IsReady e = λ e played printable. record { played = played; printable = printable } in
    (done (event.Client 3) (lit≤ tt, lit≤ tt) tt, (done (event.Client 3) (lit≤ tt, lit≤ tt) tt, (done (event.Client 2) (lit≤ tt, lit≤ tt) tt, (done (event.Client 1) (lit≤ tt, lit≤ tt) tt, (done (event.Connect 0 false) tt (lit< tt), (done (event.Handle 0) tt (lit< tt), (done (event.Send 0) tt (lit< tt), (done (event.Deliver 0) tt (lit< tt), (done (event.Connect 1 false) tt (lit< tt), (done (event.Handle 1) tt (lit< tt), (done (event.Send 1) tt (lit< tt), (done (event.Deliver 1) tt (lit< tt), (done (event.Connect 2 false) tt (lit< tt), (done (event.Handle 2) tt (lit< tt), (done (event.Send 2) tt (lit< tt), (done (event.Deliver 2) tt (lit< tt), (done (event.Connect 3 false) tt (lit< tt), (done (event.Handle 3) tt (lit< tt), (done (event.Send 3) tt (lit< tt), (done (event.Deliver 3) tt (lit< tt), (record { played = tt; printable = lit< tt }, (done (event.Handle 0) tt (lit< tt), (done (event.Send 0) tt (lit< tt), (done (event.Deliver 0) tt (lit< tt), (done (event.Send 1) tt (lit< tt), (done (event.Deliver 1) tt (lit< tt), (done (event.Send 2) tt (lit< tt), (done (event.Deliver 2) tt (lit< tt), (done (event.Send 3) tt (lit< tt), (done (event.Deliver 3) tt (lit< tt), tt))))))))))))))))))))))))))))))

pub first_few : length first_events ≡ 30
unfolding first_events
first_few = refl
