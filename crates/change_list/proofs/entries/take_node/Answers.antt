use Rattle.std.proofs.Common.{◌≡◌, [], ◌∷◌, ◌++◌, length, get_or, sym, ap, ◌∙◌, arith}
use Rattle.std.proofs.lemmas.List.{length-set, get_or-set_same, get_or-set_other, get_or_push, get_or_append_left, length_push}
use Rattle.links_core.specs.Lists.{list_at}
use Rattle.links_core.proofs.Members.{first_in_list}
use Rattle.change_list.specs.Changes.{blank}
use Rattle.change_list.proofs.Takes.{without_fresh}
use Rattle.change_list.proofs.entries.take_node.Goals as goal

pub unlink-requires : goal.unlink-requires
unlink-requires c =
    (c.args.free.number, first_in_list (list_at c.args.links.now.lists c.args.free.number) c.in-Some.node (sym c.in-Some.ensures.value))

pub index_mut-requires : goal.index_mut-requires
index_mut-requires c =
    let here = first_in_list (list_at c.args.links.now.lists c.args.free.number) c.in-Some.node (sym c.in-Some.ensures.value) in
    omega (arith, c.requires.sound.made c.args.free.number c.in-Some.node here)

pub returns-in-Some-clause-ok : goal.returns-in-Some-clause-ok
returns-in-Some-clause-ok c =
    let here = first_in_list (list_at c.args.links.now.lists c.args.free.number) c.in-Some.node (sym c.in-Some.ensures.value) in
    let low = c.requires.sound.made c.args.free.number c.in-Some.node here in
    let same = length-set c.args.entries.now.items c.in-Some.node c.args.change in
    record {
      lists = c.unlink.ensures.lists;
      out = λ k q. c.requires.sound.in_one k c.args.free.number c.in-Some.node q here;
      made = omega (arith, low, same);
      here = get_or-set_same c.args.entries.now.items c.in-Some.node c.args.change blank low;
      others = λ m within differs. get_or-set_other c.args.entries.now.items c.in-Some.node m c.args.change blank differs;
      longer = omega (arith, same);
    }

pub returns-clause-ok : goal.returns-clause-ok
returns-clause-ok c =
    let number : c.in_ok-node.node ≡ length c.args.entries.now.items = c.in_ok-node.ensures.ok.0 ∙ c.requires.count in
    let items = c.push_reserved.ensures.items ∙ ap (λ es. es ++ c.args.change ∷ []) c.reserve.ensures.items in
    let longer = length_push c.args.entries.now.items c.args.change in
    record {
      lists = c.node.ensures.lists ∙ sym (without_fresh c.args.links.now.lists c.in_ok-node.node (λ k x q. omega (arith, number, c.requires.sound.made k x q)));
      out = λ k q. absurd (omega (arith, number, c.requires.sound.made k c.in_ok-node.node q));
      made = omega (arith, number, ap length items, longer);
      here = ap (λ es. get_or es c.in_ok-node.node blank) items ∙ get_or_push c.args.entries.now.items c.args.change blank c.in_ok-node.node (sym number);
      others = λ m within differs. ap (λ es. get_or es m blank) items ∙ get_or_append_left c.args.entries.now.items (c.args.change ∷ []) blank m within;
      longer = omega (arith, ap length items, longer);
    }
