use Rattle.std.proofs.Common.{◌≡◌, ◌<◌, List, length, set, get_or, Some, None, refl, sym, ◌∙◌, ap, subst, arith}
use Rattle.std.specs.List.{slice_get}
use Rattle.std.specs.Map.{remove_entry}
use Rattle.std.specs.BTreeMap.{is_at}
use Rattle.std.proofs.lemmas.Option.{slice_get_read}
use Rattle.signal_values.specs.Cells.{atoms_of}
use Rattle.signal_txn.specs.Level.{Level, value_before}
use Rattle.signal_values.proofs.AtomLemmas.{exact}
use Rattle.signal_txn.proofs.EntryLemmas.{noted_forgotten}
use Rattle.signal_txn.proofs.FromLemmas.{same_some, no_value, read_set, set_back}
use Rattle.signal_txn.proofs.noting.+set_noted.Goals as goal

pub returns-in-Err-clause-levels_err : goal.returns-in-Err-clause-levels_err
returns-in-Err-clause-levels_err g t c =
    let cmp = g.R.Key.Ord.cmp in
    let x = exact cmp g.met.R.Key.Ord.total g.met.R.Rules.same_keys in
    let key = c.args.key.now in
    let v = atoms_of (g.R.Rules.meaning c.args.graph.now.values.rules) cmp c.args.graph.now.values.rows key in
    let items = c.args.levels.now.items in
    let level = c.index_mut.result.now in
    let low : c.args.from < length items = omega (arith, c.requires.from, c.len.ensures, c.if-from-len.false) in
    let at : slice_get items c.args.from ≡ Some level = slice_get_read items (length items) c.args.from level refl low c.index_mut.ensures.value in
    let also : slice_get items c.args.from ≡ Some c.index.result.now = slice_get_read items (length items) c.args.from c.index.result.now refl low c.index.ensures in
    let absent : value_before cmp level key ≡ None = subst (λ (l : Level g.row.R-Key.Denot g.row.R-Value.Denot). value_before cmp l key ≡ None) (same_some c.index.result.now level (sym also ∙ at))
    (no_value (value_before cmp c.index.result.now key) (sym c.has.ensures ∙ c.if-has.false)) in
    let new = c.note.new.level in
    let back : c.set_noted-2.new.levels.items ≡ set items c.args.from new = c.in-Err.ensures.levels_err in
    let again = c.index_mut-in-Err.result.now in
    let one : again ≡ new = read_set c.args.from items level new again at (subst (λ (ls : List (Level g.row.R-Key.Denot g.row.R-Value.Denot)). again ≡ get_or ls c.args.from again) back c.index_mut-in-Err.ensures.value) in
    let forgotten : c.forget.new.self ≡ level =
    c.forget.ensures
    ∙ ap (λ (l : Level g.row.R-Key.Denot g.row.R-Value.Denot). let r : Level g.row.R-Key.Denot g.row.R-Value.Denot = record l { before = remove_entry (is_at (cmp key)) l.before } in r) (one ∙ c.in_ok-note.ensures.ok)
    ∙ noted_forgotten cmp x key v level absent in
    ap (λ (ls : List (Level g.row.R-Key.Denot g.row.R-Value.Denot)). set ls c.args.from c.forget.new.self) back
    ∙ ap (set (set items c.args.from new) c.args.from) forgotten
    ∙ set_back c.args.from items level new at
