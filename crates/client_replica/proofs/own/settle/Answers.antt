use Rattle.std.proofs.Common.{◌∷◌, sym, ap, subst, ◌∙◌}
use Rattle.std.specs.Prelude.{string_bytes}
use Rattle.rooms_val.specs.Maps.{AreRising}
use Rattle.rooms_val.proofs.MapsLemmas.{rising_rest}
use Rattle.field_ops.specs.View.{maybe_data}
use Rattle.client_replica.specs.NewBases.{NamesWithin}
use Rattle.client_replica.specs.Owns.{settled}
use Rattle.client_replica.proofs.OwnLemmas.{settled-next, names-next}
use Rattle.client_replica.proofs.own.settle.Goals as goal

pub ids-preserved : goal.ids-preserved
ids-preserved c =
    let k = string_bytes c.in-Some.id in
    let r = maybe_data c.in-Some.slot in
    let more = c.take_first.new.self in
    let first = c.in-Some.ensures.some in
    let rising : AreRising ((k, r) ∷ more) = subst AreRising first c.ids.invariant.rising in
    record {
      settles = λ left counted names.
          let was = c.ids.invariant.settles left counted names in
          let now = c.settle_one.ensures left counted was.1 in (
            λ q. ap (λ st. settled left more st q) now ∙ settled-next left k r more c.ids.stash q rising ∙ sym (ap (λ l. settled left l c.ids.stash q) first) ∙ was.0 q,
            subst (NamesWithin left) (sym now) (names-next left k r c.ids.stash was.1),
          );
      rising = rising_rest (k, r) more rising;
    }

pub returns : goal.returns
returns c = λ diffs counted names q. sym (ap (λ l. settled diffs l c.ids.stash q) c.in_default.ensures.none) ∙ (c.ids.invariant.settles diffs counted names).0 q
