use Rattle.std.proofs.Common.{◌≡◌, refl, sym, ap, ◌∙◌}
use Rattle.schema_core.specs.SchemaOf.{schema_tree}
use Rattle.sync_room.proofs.TableLemmas.{others_stay}
use Rattle.sync_room.proofs.RoomLemmas.{leaves_over, leaves_quietly, leaves_ending}
use Rattle.sync_room.proofs.room.Room.leave.Goals as goal

pub returns-in_default-clause-left : goal.returns-in_default-clause-left
returns-in_default-clause-left c = λ state h.
    leaves_over state c.args.self.now _ c.args.session.key c.args.session.number c.requires.0 h c.requires.1 c.requires.2
    (sym (c.remove.ensures.removal c.requires.0 c.requires.1) ∙ c.in_default.is) refl refl c.remove.ensures.updates c.remove.ensures.count c.remove.ensures.entered

pub returns-in_default-clause-others : goal.returns-in_default-clause-others
returns-in_default-clause-others c = λ other differs.
    others_stay c.args.self.now.sessions c.remove.new.self c.args.session.key c.requires.0 c.requires.1 c.remove.ensures.updates other (λ same. differs (same ∙ c.requires.2))

pub returns-then-not-remove_presence-clause-left : goal.returns-then-not-remove_presence-clause-left
returns-then-not-remove_presence-clause-left c = λ state h.
    leaves_quietly state c.args.self.now _ c.args.session.key c.args.session.number c.requires.0 h c.requires.1 c.requires.2 c.in-Some.removal
    (sym (c.remove.ensures.removal c.requires.0 c.requires.1) ∙ c.in-Some.is) c.remove_presence.result c.remove_presence.ensures.was_there
    refl (ap schema_tree c.remove_presence.ensures.schema) (c.remove_presence.ensures.keeps state.first state.history h.agrees.history)
    c.remove.ensures.updates c.remove.ensures.count c.remove.ensures.entered c.if-not-remove_presence.true

pub returns-then-not-remove_presence-clause-others : goal.returns-then-not-remove_presence-clause-others
returns-then-not-remove_presence-clause-others c = λ other differs.
    others_stay c.args.self.now.sessions c.remove.new.self c.args.session.key c.requires.0 c.requires.1 c.remove.ensures.updates other (λ same. differs (same ∙ c.requires.2))

pub returns-clause-left : goal.returns-clause-left
returns-clause-left c = λ state h.
    leaves_ending state c.args.self.now _ c.args.session.key c.args.session.number c.requires.0 h c.requires.1 c.requires.2 c.in-Some.removal
    (sym (c.remove.ensures.removal c.requires.0 c.requires.1) ∙ c.in-Some.is) c.remove_presence.result c.remove_presence.ensures.was_there
    refl (ap schema_tree c.remove_presence.ensures.schema) (c.remove_presence.ensures.keeps state.first state.history h.agrees.history)
    c.remove.ensures.updates c.remove.ensures.count c.remove.ensures.entered c.end_slow.new.self c.end_slow.ensures.schema c.if-not-remove_presence.false c.end_slow.ensures.ended

pub returns-clause-others : goal.returns-clause-others
returns-clause-others c = λ other differs there.
    c.end_slow.ensures.others other (others_stay c.args.self.now.sessions c.remove.new.self c.args.session.key c.requires.0 c.requires.1 c.remove.ensures.updates other (λ same. differs (same ∙ c.requires.2)) there)
