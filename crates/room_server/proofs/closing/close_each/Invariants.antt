use Rattle.std.proofs.Common.{◌≡◌, ◌≤◌, ◌++◌, List, length, reverse, vec_len, vec_capacity}
use Rattle.std.specs.Global.{Vec}
use Rattle.std.specs.List.{AllZip}
use Rattle.room_run.specs.declared.passes.Gone.{Gone}
use Rattle.room_server.specs.Closing.{AreEnded, AreOf}
use Rattle.room_server.proofs.closing.close_each.Given as goal

-- the first rooms are closed, each with those that are gone of it
abbrev pub invariant-rooms : goal.invariant-rooms
invariant-rooms g l = record {
  all : l.yielded ++ l.room-iterator.rest.items ≡ l.fn.rooms.items;
  past : List (Vec Gone);
  gone : past ++ reverse l.gones.items ≡ reverse l.initial.gones.items;
  ended : AreEnded l.yielded past l.closed.items;
  own : AllZip AreOf l.room-iterator.rest.items (reverse l.gones.items);
  number : vec_len l.closed ≡ length l.yielded;
  place : length l.fn.rooms.items ≤ vec_capacity l.closed;
}
