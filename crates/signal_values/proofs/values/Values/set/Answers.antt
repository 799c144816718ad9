use Rattle.std.proofs.Common.{◌≡◌, ℕ, Bool, true, false, refl, sym, subst}
use Rattle.std.specs.List.{slice_get}
use Rattle.std.proofs.lemmas.Option.{slice_get_within}
use Rattle.signal_values.specs.Cells.{atoms_of}
use Rattle.signal_values.specs.Writes.{IsWritten}
use Rattle.signal_values.specs.Seen.{Seen, IsSet, risen}
use Rattle.signal_values.proofs.AtomLemmas.{exact, atoms_same}
use Rattle.signal_values.proofs.ListLemmas.{if_some}
use Rattle.signal_values.proofs.KeptLemmas.{sound_here}
use Rattle.signal_values.proofs.SeenLemmas.{seen, set_is}
use Rattle.signal_values.proofs.values.Values.set.Goals as goal

pub write-differs-requires-clause-sound : goal.write-differs-requires-clause-sound
write-differs-requires-clause-sound g c =
    sound_here (g.R.Rules.meaning c.self.inside.rules) g.R.Key.Ord.cmp (exact g.R.Key.Ord.cmp g.met.R.Key.Ord.total g.met.R.Rules.same_keys) (atoms_of (g.R.Rules.meaning c.self.inside.rules) g.R.Key.Ord.cmp c.self.inside.cells.rows.items) c.atom_row.new.cells c.atom_row.ensures.left.sound

pub write-differs-requires-clause-row : goal.write-differs-requires-clause-row
write-differs-requires-clause-row g c = slice_get_within c.atom_row.new.cells.rows.items c.in_ok-i.i c.in_ok-i.ensures.listed.row c.in_ok-i.ensures.listed.at

pub returns-then-not-differs-clause-ok : goal.returns-then-not-differs-clause-ok
returns-then-not-differs-clause-ok g c =
    let cmp = g.R.Key.Ord.cmp in
    let x = exact cmp g.met.R.Key.Ord.total g.met.R.Rules.same_keys in
    let m = g.R.Rules.meaning c.self.inside.rules in
    let listed = c.in_ok-i.ensures.listed in
    let low : m.rank c.args.key ≡ 0 = subst (λ (s : Seen g.row.R.Denot g.row.R-Key.Denot g.row.R-Value.Denot). (g.R.Rules.meaning s.rules).rank c.args.key ≡ 0) (sym c.self.view_is) c.requires in
    let written = if_some (slice_get c.atom_row.new.cells.rows.items c.in_ok-i.i) (λ row. IsWritten m cmp c.atom_row.new.cells c.write-differs.new.cells c.in_ok-i.i row c.args.value c.next_epoch-next.result c.write-differs.result) listed.row listed.at c.write-differs.ensures in
    let risen_written : IsWritten m cmp c.atom_row.new.cells c.write-differs.new.cells c.in_ok-i.i listed.row c.args.value (risen c.self.inside.epoch) false =
    subst (λ (b : Bool). IsWritten m cmp c.atom_row.new.cells c.write-differs.new.cells c.in_ok-i.i listed.row c.args.value (risen c.self.inside.epoch) b) c.if-not-differs.true
    (subst (λ (e : ℕ). IsWritten m cmp c.atom_row.new.cells c.write-differs.new.cells c.in_ok-i.i listed.row c.args.value e c.write-differs.result) c.next_epoch-next.ensures written) in
    subst (λ (s : Seen g.row.R.Denot g.row.R-Key.Denot g.row.R-Value.Denot). IsSet (g.R.Rules.meaning s.rules) cmp s (seen c.self.inside.rules c.write-differs.new.cells c.self.inside.epoch) c.args.key c.args.value false) c.self.view_is
    (set_is m cmp x c.self.inside.rules c.self.inside.cells c.atom_row.new.cells c.write-differs.new.cells c.self.inside.epoch c.self.inside.epoch (risen c.self.inside.epoch) c.args.key c.in_ok-i.i listed.row c.args.value false
    (sound_here m cmp x (atoms_of m cmp c.self.inside.cells.rows.items) c.atom_row.new.cells c.atom_row.ensures.left.sound) low listed.rows listed.others listed.flags
    (atoms_same m cmp x c.atom_row.new.cells.rows.items (atoms_of m cmp c.self.inside.cells.rows.items) c.atom_row.ensures.left.sound.graph.atoms_are) listed.at listed.is listed.changed risen_written (λ e. absurd (cc)) (λ e. refl))

pub returns-clause-ok : goal.returns-clause-ok
returns-clause-ok g c =
    let cmp = g.R.Key.Ord.cmp in
    let x = exact cmp g.met.R.Key.Ord.total g.met.R.Rules.same_keys in
    let m = g.R.Rules.meaning c.self.inside.rules in
    let listed = c.in_ok-i.ensures.listed in
    let low : m.rank c.args.key ≡ 0 = subst (λ (s : Seen g.row.R.Denot g.row.R-Key.Denot g.row.R-Value.Denot). (g.R.Rules.meaning s.rules).rank c.args.key ≡ 0) (sym c.self.view_is) c.requires in
    let written = if_some (slice_get c.atom_row.new.cells.rows.items c.in_ok-i.i) (λ row. IsWritten m cmp c.atom_row.new.cells c.write-differs.new.cells c.in_ok-i.i row c.args.value c.next_epoch-next.result c.write-differs.result) listed.row listed.at c.write-differs.ensures in
    let risen_written : IsWritten m cmp c.atom_row.new.cells c.write-differs.new.cells c.in_ok-i.i listed.row c.args.value (risen c.self.inside.epoch) true =
    subst (λ (b : Bool). IsWritten m cmp c.atom_row.new.cells c.write-differs.new.cells c.in_ok-i.i listed.row c.args.value (risen c.self.inside.epoch) b) c.if-not-differs.false
    (subst (λ (e : ℕ). IsWritten m cmp c.atom_row.new.cells c.write-differs.new.cells c.in_ok-i.i listed.row c.args.value e c.write-differs.result) c.next_epoch-next.ensures written) in
    subst (λ (s : Seen g.row.R.Denot g.row.R-Key.Denot g.row.R-Value.Denot). IsSet (g.R.Rules.meaning s.rules) cmp s (seen c.self.inside.rules c.write-differs.new.cells c.next_epoch-next.result) c.args.key c.args.value true) c.self.view_is
    (set_is m cmp x c.self.inside.rules c.self.inside.cells c.atom_row.new.cells c.write-differs.new.cells c.self.inside.epoch c.next_epoch-next.result (risen c.self.inside.epoch) c.args.key c.in_ok-i.i listed.row c.args.value true
    (sound_here m cmp x (atoms_of m cmp c.self.inside.cells.rows.items) c.atom_row.new.cells c.atom_row.ensures.left.sound) low listed.rows listed.others listed.flags
    (atoms_same m cmp x c.atom_row.new.cells.rows.items (atoms_of m cmp c.self.inside.cells.rows.items) c.atom_row.ensures.left.sound.graph.atoms_are) listed.at listed.is listed.changed risen_written (λ e. c.next_epoch-next.ensures) (λ e. absurd (cc)))
