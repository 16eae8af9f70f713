-- Worked examples, each by computing.
use Rattle.std.proofs.Common.{◌≡◌, [], ◌∷◌, refl}
use Rattle.tez_tables.specs.Table.{Table, route, broadcast, scatter_gather}

abbrev gather : Table
gather = scatter_gather 2 10 3

counts : (gather.inputs_of 0 ≡ 6) × (gather.inputs_of 3 ≡ 2)
counts = (refl, refl)

back : (gather.leads 0 4 ≡ (1, 1)) × (gather.leads 3 1 ≡ (1, 9))
back = (refl, refl)

forth : route gather 1 9 ≡ (3, 1) ∷ []
forth = refl

to_all : route (broadcast 2 3) 1 0 ≡ (0, 1) ∷ (1, 1) ∷ (2, 1) ∷ []
to_all = refl
