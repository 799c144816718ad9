use Rattle.std.proofs.Common.{◌≡◌, ◌≤◌, ◌++◌, length, vec_len, vec_capacity}
use Rattle.std.specs.List.{AllZip}
use Rattle.room_server.specs.Closing.{AddsGone, IsEmptied, reports_of}
use Rattle.room_server.proofs.closing.gather.Given as goal

-- who is gone was taken out of the first tallies, and added to the lists
abbrev pub invariant-tallies : goal.invariant-tallies
invariant-tallies l = record {
  all : l.yielded ++ l.tally-iterator.rest.items ≡ l.fn.tallies.items;
  emptied : AllZip IsEmptied l.yielded l.emptied.items;
  adds : AddsGone (reports_of l.yielded) l.initial.gones.items l.gones.items;
  count : vec_len l.gones ≡ vec_len l.initial.gones;
  number : vec_len l.emptied ≡ length l.yielded;
  place : length l.fn.tallies.items ≤ vec_capacity l.emptied;
}
