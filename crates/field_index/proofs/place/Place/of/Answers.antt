use Rattle.field_index.proofs.PlacesLemmas.{val_from_data}
use Rattle.field_index.proofs.place.Place.of.Goals as goal

pub returns : goal.returns
returns c = λ i. record { value = val_from_data c.in_ok-copy.field-0 c.args.value.now c.in_ok-copy.ensures i; id = c.in_ok-of.ensures i }
