use Rattle.std.proofs.Common.{ℕ, List, length, false, set, refl, sym, subst, ap, ◌∙◌, arith}
use Rattle.signal_values.specs.Marks.{AreAlive}
use Rattle.std.proofs.lemmas.List.{length-set, length-map}
use Rattle.links_core.specs.Lists.{without}
use Rattle.signal_values.proofs.MarkLemmas.{next_child, fresh_within, marking_none, still_alive, marking_more, count_less, count_marked}
use Rattle.signal_values.proofs.mark.+mark.Goals as goal

pub index_mut-requires : goal.index_mut-requires
index_mut-requires t c =
    omega (arith, c.children.fresh.ok.0, fresh_within c.children.fresh.items c.in-Some.child (c.children.invariant.marking.alive c.args.on c.in-Some.child (next_child c.children.edges.children c.args.on c.in-Some.child c.first_child.result c.first_child.ensures c.in-Some.is)))

pub dissolve-requires : goal.dissolve-requires
dissolve-requires t c =
    omega (arith, fresh_within c.children.fresh.items c.in-Some.child (c.children.invariant.marking.alive c.args.on c.in-Some.child (next_child c.children.edges.children c.args.on c.in-Some.child c.first_child.result c.first_child.ensures c.in-Some.is)), c.children.invariant.marking.rows, c.children.invariant.marking.flags, c.requires.rows)

pub mark-requires : goal.mark-requires
mark-requires t c =
    let feeds = next_child c.children.edges.children c.args.on c.in-Some.child c.first_child.result c.first_child.ensures c.in-Some.is in
    let ready = c.children.invariant.marking.alive c.args.on c.in-Some.child feeds in
    let low = fresh_within c.children.fresh.items c.in-Some.child ready in
    let rows = ap length c.dissolve.ensures.children ∙ length-map c.children.edges.children (without c.in-Some.child) ∙ c.children.invariant.marking.rows in
    let long = length-set c.children.fresh.items c.in-Some.child false ∙ c.children.invariant.marking.flags in (
      omega (arith, c.decreases, c.children.invariant.count, count_less c.in-Some.child c.children.fresh.items (set c.children.fresh.items c.in-Some.child false) ready refl),
      (
        omega (arith, low, rows, c.children.invariant.marking.flags, c.requires.rows),
        (
          omega (arith, rows, long, c.requires.rows),
          subst (λ (ls : List (List ℕ)). AreAlive ls (set c.children.fresh.items c.in-Some.child false)) (sym c.dissolve.ensures.children) (still_alive c.children.edges.children c.children.fresh.items c.in-Some.child c.children.invariant.marking.alive),
        ),
      ),
    )

pub children-smaller : goal.children-smaller
children-smaller t c =
    let feeds = next_child c.children.edges.children c.args.on c.in-Some.child c.first_child.result c.first_child.ensures c.in-Some.is in
    let ready = c.children.invariant.marking.alive c.args.on c.in-Some.child feeds in
    omega (arith, count_less c.in-Some.child c.children.fresh.items (set c.children.fresh.items c.in-Some.child false) ready refl, count_marked c.in-Some.child c.dissolve.new.self.children (set c.children.fresh.items c.in-Some.child false) c.mark.new.edges.children c.mark.new.fresh.items c.mark.ensures)

pub children-preserved : goal.children-preserved
children-preserved t c =
    let feeds = next_child c.children.edges.children c.args.on c.in-Some.child c.first_child.result c.first_child.ensures c.in-Some.is in
    let ready = c.children.invariant.marking.alive c.args.on c.in-Some.child feeds in
    let more = marking_more c.args.on c.in-Some.child c.args.edges.now.children c.args.fresh.now.items c.children.edges.children c.children.fresh.items c.dissolve.new.self.children (set c.children.fresh.items c.in-Some.child false) c.mark.new.edges.children c.mark.new.fresh.items c.children.invariant.marking feeds c.dissolve.ensures.children refl c.mark.ensures in
    record {
      marking = more;
      count = omega (arith, c.children.invariant.count, count_less c.in-Some.child c.children.fresh.items (set c.children.fresh.items c.in-Some.child false) ready refl, count_marked c.in-Some.child c.dissolve.new.self.children (set c.children.fresh.items c.in-Some.child false) c.mark.new.edges.children c.mark.new.fresh.items c.mark.ensures);
    }

pub children-init : goal.children-init
children-init t c = record { marking = marking_none c.args.on c.args.edges.now.children c.args.fresh.now.items c.requires.alive; count = omega arith }
