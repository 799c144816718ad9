-- What is drawn, as a function of the generator.
use Rattle.std.specs.Prelude.{ℕ, zero, suc, ◌%◌, nat_lt, List, [], ◌∷◌, if◌then◌else◌}
use Rattle.rand_core.specs.Pcg32Seed.{pcg32_seed}
use Rattle.rand_pcg.specs.Lcg.{Lcg}
use Rattle.rand_pcg.specs.Pcg.{pcg32, pcg32_of_seed}
use Rattle.load_maker.specs.declared.draw.Act.{Act}
use Rattle.load_maker.specs.declared.draw.Act.TheVariants as act
use Rattle.load_maker.specs.declared.draw.Draw.{Draw}

-- the generator of a seed: Pcg32 by the seed of 16 bytes that the number gives
unfoldable pub generator_of : ℕ → Lcg
generator_of seed = pcg32_of_seed (pcg32_seed 16 seed)

-- the next number below a bound, which is the next word modulo the bound; and the generator after it
unfoldable pub below : ℕ → Lcg → ℕ × Lcg
below bound g = ((pcg32 g).0 % bound, (pcg32 g).1)

-- the number of a shape, and then its x
abbrev pub with_shape_and_x : (ℕ → ℕ → Act) → Lcg → Act × Lcg
with_shape_and_x done g = let n = below 50 g in let x = below 1000 n.1 in (done n.0 x.0, x.1)

-- the number of a shape
abbrev pub with_shape : (ℕ → Act) → Lcg → Act × Lcg
with_shape done g = let n = below 50 g in (done n.0, n.1)

-- the x of a cursor
abbrev pub with_x : (ℕ → Act) → Lcg → Act × Lcg
with_x done g = let x = below 1000 g in (done x.0, x.1)

-- what is done by the kind, with the numbers that it takes; and the generator after them
unfoldable pub act_of : ℕ → Lcg → Act × Lcg
act_of kind g =
    if nat_lt kind 4 then with_shape_and_x act.Put g
    else if nat_lt kind 5 then with_shape_and_x act.Move g
    else if nat_lt kind 6 then with_shape act.Remove g
    else if nat_lt kind 7 then with_x act.Point g
    else if nat_lt kind 8 then (act.Mark, g)
    else if nat_lt kind 9 then (act.Undo, g)
    else if nat_lt kind 10 then (act.Redo, g)
    else if nat_lt kind 13 then (act.Handle, g)
    else if nat_lt kind 15 then (act.Send, g)
    else if nat_lt kind 18 then (act.Deliver, g)
    else if nat_lt kind 19 then (act.Cut, g)
    else (act.Reconnect, g)

-- a draw: the client, the kind, and the numbers that the kind takes; and the generator after it
unfoldable pub draw_of : Lcg → Draw × Lcg
draw_of g =
    let client = below 4 g in
    let kind = below 20 client.1 in
    let done = act_of kind.0 kind.1 in
    (record { client = client.0; act = done.0 }, done.1)

-- so many draws, one after another
unfoldable pub draws : ℕ → Lcg → List Draw
draws zero g = []
draws (suc n) g = (draw_of g).0 ∷ draws n (draw_of g).1
