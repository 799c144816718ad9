use Rattle.std.proofs.Common.{◌≡◌, ◌++◌, map}
use Rattle.rec_format.specs.declared.printed.PrintedLine.TheVariants as printed_line
use Rattle.world_views.proofs.lines.world_lines.Given as goal

-- the lines so far, and then those that are left, are all
abbrev pub invariant-lines : goal.invariant-lines
invariant-lines l = l.all.items ++ map printed_line.World l.line-iterator.rest.items ≡ map printed_line.World l.fn.lines.items
