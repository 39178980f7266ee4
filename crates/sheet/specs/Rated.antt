-- Sheets of shipments with a rate, document 02's A5: the lists of calls are those of crates/model/specs/Rated.antt.
use Rattle.std.specs.Prelude.{◌≡◌, [], ◌∷◌}
use Rattle.model.specs.Rated.{calls, scant, gratis}
use Rattle.sheet.specs.Zs1.{sheet_in}

pub record RatedSheet : Type 0 where
  -- "An order's fee is the flat part plus the whole part of amount times rate over 10,000, ..": 4.75, 4.12 and 3.81. O a grosz short, all of it is free.
  pub waiting : sheet_in calls 5 ≡ (17_550 ∷ 0 ∷ 17_550 ∷ 0 ∷ 1_267 ∷ 0 ∷ 1_267 ∷ 0 ∷ []) ∷ []
  -- Paired: ".. the need in O is the sum of fees ..", and all of it is held.
  pub paired : sheet_in calls 7 ≡ (17_550 ∷ 17_550 ∷ 0 ∷ 0 ∷ 1_268 ∷ 1_268 ∷ 0 ∷ 0 ∷ []) ∷ []
  -- "Earned and returned fees are each order's own from here on, ..": order 1 is Posted, and its own fee has left; then Paid, and its amount has too.
  pub posted : sheet_in calls 8 ≡ (17_550 ∷ 17_550 ∷ 0 ∷ 0 ∷ 1_268 ∷ 793 ∷ 0 ∷ 475 ∷ []) ∷ []
  pub paid : sheet_in calls 9 ≡ (17_550 ∷ 7_550 ∷ 0 ∷ 10_000 ∷ 1_268 ∷ 793 ∷ 0 ∷ 475 ∷ []) ∷ []
  -- the faulty order 2 is returned, and then order 3, withdrawn
  pub faulty_returned : sheet_in calls 11 ≡ (17_550 ∷ 2_550 ∷ 0 ∷ 15_000 ∷ 1_268 ∷ 381 ∷ 0 ∷ 887 ∷ []) ∷ []
  pub all_left : sheet_in calls 14 ≡ (17_550 ∷ 0 ∷ 0 ∷ 17_550 ∷ 1_268 ∷ 0 ∷ 0 ∷ 1_268 ∷ []) ∷ []
  -- one fee of a grosz and two of nothing, before the return of O and at the end
  pub scantily : (sheet_in scant 7 ≡ (17_550 ∷ 17_550 ∷ 0 ∷ 0 ∷ 1 ∷ 1 ∷ 0 ∷ 0 ∷ []) ∷ [])
      × (sheet_in scant 10 ≡ (17_550 ∷ 17_550 ∷ 0 ∷ 0 ∷ 1 ∷ 0 ∷ 0 ∷ 1 ∷ []) ∷ [])
  -- and no fee at all
  pub free_of_charge : sheet_in gratis 9 ≡ (17_550 ∷ 15_000 ∷ 0 ∷ 2_550 ∷ 0 ∷ 0 ∷ 0 ∷ 0 ∷ []) ∷ []
