use Rattle.std.proofs.Common.{◌≡◌, ◌++◌, ◌∷◌, [], reverse, sym, ap, ◌∙◌, rules, subst, append_assoc, arith, length-append}
use Rattle.std.specs.List.{AllZip}
use Rattle.std.proofs.lemmas.List.{reverse-append}
use Rattle.room_server.proofs.EndLemmas.{ended_more}
use Rattle.room_server.specs.Closing.{AreEnded, AreOf}
use Rattle.room_server.proofs.closing.close_each.Goals as goal

pub rooms-preserved : goal.rooms-preserved
rooms-preserved g c =
    let i = c.rooms.invariant in
    let room = c.in-Some.room in
    let rest = c.next.new.self.rest.items in
    let those = c.take_last.result in
    let left = c.take_last.new.self.items in
    let one = c.close.result in
    let next : c.rooms.room-iterator.rest.items ≡ room ∷ rest = search rules in
    let last : reverse c.rooms.gones.items ≡ those ∷ reverse left = ap reverse c.take_last.ensures.items ∙ reverse-append left (those ∷ []) in
    let own : AllZip AreOf (room ∷ rest) (those ∷ reverse left) = subst (λ l. AllZip AreOf l (those ∷ reverse left)) next (subst (AllZip AreOf c.rooms.room-iterator.rest.items) last i.own) in
    record {
      all = append_assoc c.rooms.yielded (room ∷ []) rest ∙ ap (λ l. c.rooms.yielded ++ l) (sym next) ∙ i.all;
      past = i.past ++ those ∷ [];
      gone = append_assoc i.past (those ∷ []) (reverse left) ∙ ap (λ l. i.past ++ l) (sym last) ∙ i.gone;
      ended = subst (AreEnded (c.rooms.yielded ++ room ∷ []) (i.past ++ those ∷ [])) (sym c.push_reserved.ensures.items)
          (ended_more c.rooms.yielded i.past c.rooms.closed.items room those one i.ended c.close.ensures);
      own = own.1;
      number = omega (arith, c.push_reserved.ensures.len, i.number, length-append c.rooms.yielded (room ∷ []));
      place = search rules;
    }
