-- Rule editions: which there are, and what each changes. The other chapters ask these, and
-- compare no edition with a number.
--   1  document 01
--   2  document 02, R-2: a splice mark is heeded
--   3  document 02, R-5: as 2, and a change is rounded to the nearest hundredth
--   4  document 02, R-6: as 3, and damaged cells are known and set apart
use Rattle.std.specs.Prelude.{ℕ, Bool, leb}
use Rattle.rules.specs.Bytes.{within}

-- an edition that there is: refusals 20 and 17 let it pass
unfoldable pub is_edition : ℕ → Bool
is_edition e = within 1 4 e

-- a cell with a splice mark adds no loss by its own gap: 2 and later (R-2)
unfoldable pub heeds_splices : ℕ → Bool
heeds_splices e = leb 2 e

-- q is the whole number nearest to its root, where it is cut off otherwise: 3 and later (R-5)
unfoldable pub rounds_to_nearest : ℕ → Bool
rounds_to_nearest e = leb 3 e

-- a damaged cell of PID is set apart and counted in word 28 of its unit: 4 and later (R-6)
unfoldable pub knows_damage : ℕ → Bool
knows_damage e = leb 4 e
