use Rattle.std.proofs.Common.{◌≡◌, ℕ, List, Option, Some, inr, sym, ap, subst, ◌∙◌}
use Rattle.rooms_val.specs.Data.{Data}
use Rattle.rooms_val.specs.Maps.{value_at}
use Rattle.field_ops.specs.View.{maybe_data}
use Rattle.tl_rules.specs.Answers.{record_in}
use Rattle.tl_rules.proofs.BoxLemmas.{record_back}
use Rattle.tl_rules.specs.declared.key.TlKey.TheVariants as key
use Rattle.tl_rules.specs.declared.value.TlValue.TheVariants as value
use Rattle.doc_store.proofs.Trees.{data_of-copied}
use Rattle.record_store.specs.Lists.{Board, atoms_of, records_of, IsWritten, IsTold, ChangesOnly}
use Rattle.record_store.specs.Seen.{Keys}
use Rattle.record_store.proofs.FrameLemmas.{wider}
use Rattle.record_store.proofs.RecordLemmas.{at_known}
use Rattle.record_store.proofs.WriteLemmas.{IsSetAfter, records_set, board_set, told_set, all_changed}
use Rattle.record_store.proofs.lists.write_all.Goals as goal

-- the record that the key of a known id has
was : (keys : Keys) (graph : Board) (id q : List ℕ) (r : Option Data) → value_at keys id ≡ Some (key.Rec id) → q ≡ id → r ≡ record_in (atoms_of graph (key.Rec q)) → r ≡ value_at (records_of keys graph) id
was keys graph id q r known same is = is ∙ ap (λ k. record_in (atoms_of graph (key.Rec k))) same ∙ sym (at_known keys (atoms_of graph) id known)

pub relist_all-requires-clause-records : goal.relist_all-requires-clause-records
relist_all-requires-clause-records c = λ q. ap record_in (c.requires.board.plain.record_at q) ∙ record_back (value_at (records_of c.args.keys.now c.args.graph.now) q)

pub relist_all-requires-clause-there : goal.relist_all-requires-clause-there
relist_all-requires-clause-there c = sym (c.in_ok-before.ensures ∙ sym (data_of-copied c.record_of.result) ∙ (was c.args.keys.now c.args.graph.now c.args.id.now _ _ c.requires.known c.in_ok-of.ensures c.record_of.ensures))

pub returns-in_err-relist_all-clause-left : goal.returns-in_err-relist_all-clause-left
returns-in_err-relist_all-clause-left c =
    subst (λ (o : Option Data). ChangesOnly (IsWritten c.args.id.now o (maybe_data c.args.after)) c.args.graph.now c.relist_all.new.graph) (c.in_ok-before.ensures ∙ sym (data_of-copied c.record_of.result) ∙ (was c.args.keys.now c.args.graph.now c.args.id.now _ _ c.requires.known c.in_ok-of.ensures c.record_of.ensures))
    (wider _ _ c.args.graph.now c.relist_all.new.graph (λ k h. inr h) c.relist_all.ensures.left)

pub returns-in_err-set_atom-clause-left : goal.returns-in_err-set_atom-clause-left
returns-in_err-set_atom-clause-left c =
    subst (λ (o : Option Data). ChangesOnly (IsWritten c.args.id.now o (maybe_data c.args.after)) c.args.graph.now c.set_atom.new.graph) (c.in_ok-before.ensures ∙ sym (data_of-copied c.record_of.result) ∙ (was c.args.keys.now c.args.graph.now c.args.id.now _ _ c.requires.known c.in_ok-of.ensures c.record_of.ensures))
    (all_changed c.args.graph.now c.relist_all.new.graph c.set_atom.new.graph c.args.id.now _ _ c.relist_all.ensures.left
    (subst (λ q. ChangesOnly (λ k. k ≡ key.Rec q) c.relist_all.new.graph c.set_atom.new.graph) c.in_ok-of.ensures c.set_atom.ensures.left))

pub returns-clause-old : goal.returns-clause-old
returns-clause-old c = c.in_ok-before.ensures ∙ sym (data_of-copied c.record_of.result) ∙ (was c.args.keys.now c.args.graph.now c.args.id.now _ _ c.requires.known c.in_ok-of.ensures c.record_of.ensures)

pub returns-clause-left : goal.returns-clause-left
returns-clause-left c =
    subst (λ (o : Option Data). ChangesOnly (IsWritten c.args.id.now o (maybe_data c.args.after)) c.args.graph.now c.set_atom.new.graph) (c.in_ok-before.ensures ∙ sym (data_of-copied c.record_of.result) ∙ (was c.args.keys.now c.args.graph.now c.args.id.now _ _ c.requires.known c.in_ok-of.ensures c.record_of.ensures))
    (all_changed c.args.graph.now c.relist_all.new.graph c.set_atom.new.graph c.args.id.now _ _ c.relist_all.ensures.left
    (subst (λ q. ChangesOnly (λ k. k ≡ key.Rec q) c.relist_all.new.graph c.set_atom.new.graph) c.in_ok-of.ensures c.set_atom.ensures.left))

-- the lists moved, and then the record was set
setting : (c : goal.In_ok-set_atom) → IsSetAfter c.args.keys.now c.args.graph.now c.relist_all.new.graph c.set_atom.new.graph c.args.id.now (maybe_data c.in_ok-before.before) c.args.after
setting c = record {
  keys_are = c.tell.ensures;
  known = c.requires.known;
  board = c.requires.board;
  moved = c.relist_all.ensures.left;
  set = subst (λ q. ChangesOnly (λ k. k ≡ key.Rec q) c.relist_all.new.graph c.set_atom.new.graph) c.in_ok-of.ensures c.set_atom.ensures.left;
  here = ap (λ q. atoms_of c.set_atom.new.graph (key.Rec q)) (sym c.in_ok-of.ensures) ∙ c.in_ok-set_atom.ensures.ok;
}

pub returns-clause-ok : goal.returns-clause-ok
returns-clause-ok c = records_set c.args.keys.now c.args.graph.now c.relist_all.new.graph c.set_atom.new.graph c.args.id.now (maybe_data c.in_ok-before.before) c.args.after (setting c)

pub returns-clause-board : goal.returns-clause-board
returns-clause-board c =
    board_set c.args.keys.now c.args.graph.now c.relist_all.new.graph c.set_atom.new.graph c.args.id.now (maybe_data c.in_ok-before.before) c.args.after (setting c) c.tell_sound.ensures c.in_ok-relist_all.ensures.lists

pub returns-clause-told : goal.returns-clause-told
returns-clause-told c =
    told_set c.args.keys.now c.args.graph.now c.relist_all.new.graph c.set_atom.new.graph c.args.id.now (maybe_data c.in_ok-before.before) c.args.after (setting c)
    (subst (λ q. IsTold (key.Rec q) (value.Rec c.args.after) c.relist_all.new.graph c.set_atom.new.graph) c.in_ok-of.ensures c.in_ok-set_atom.ensures.told)
