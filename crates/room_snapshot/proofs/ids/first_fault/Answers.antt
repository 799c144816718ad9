use Rattle.std.proofs.Common.{sym, ap}
use Rattle.std.specs.List.{list_any}
use Rattle.std.specs.BTreeMap.{is_at}
use Rattle.room_snapshot.specs.Sorted.{by_text}
use Rattle.room_snapshot.proofs.SeenLemmas.{fine_more, known_more, fault_stood, fault_none}
use Rattle.room_snapshot.proofs.ids.first_fault.Goals as goal

pub documents-init : goal.documents-init
documents-init c = record { fine = tt; known = λ q. ap (list_any (is_at (by_text q))) c.new-before.ensures.empty }

pub documents-preserved : goal.documents-preserved
documents-preserved c =
    let ds = c.args.documents.now in
    let i = c.documents.document-index in
    let d = c.document-item.result in
    record {
      fine = fine_more ds i d c.documents-test.true c.document-item.is c.documents.before c.documents.invariant.fine c.documents.invariant.known c.in-Some.id c.in_ok-is_new.is_new (sym c.in-Some.ensures)
          c.in_ok-is_new.ensures.fresh c.if-not-is_new.false;
      known = known_more ds i d c.documents-test.true c.document-item.is c.documents.before c.documents.invariant.fine c.documents.invariant.known c.add_id.new.before c.in-Some.id (sym c.in-Some.ensures)
          c.in_ok-is_new.ensures.more;
    }

pub returns-in_default : goal.returns-in_default
returns-in_default c =
    fault_none c.args.documents.now c.documents.document-index c.document-item.result c.in_ok-dash.dash c.documents-test.true c.document-item.is c.documents.invariant.fine (sym c.in_default.ensures)
    c.in_ok-dash.ensures

pub returns-then-not-is_new : goal.returns-then-not-is_new
returns-then-not-is_new c =
    fault_stood c.args.documents.now c.documents.document-index c.document-item.result c.documents-test.true c.document-item.is c.documents.before c.documents.invariant.fine c.documents.invariant.known
    c.in-Some.id c.in_ok-is_new.is_new c.in_ok-stood.stood (sym c.in-Some.ensures) c.in_ok-is_new.ensures.fresh c.if-not-is_new.true c.in_ok-stood.ensures
