-- A shipment entered: a row for each order, and a head. "Intake adds a shipment that is Waiting, without go-ahead or money, its orders Open or Faulty
-- with both moneys waiting."
use Rattle.std.specs.Prelude.{◌≡◌, true, List, [], ◌∷◌, ◌++◌, ℕ, zero, suc, ◌/◌, ◌%◌, ◌≤◌, replicate}
use Rattle.money.specs.Money.{WithinOrder}
use Rattle.fee.specs.Fee.{TermsFit, fee_of}
use Rattle.fee.specs.declared.Terms.{Terms}
use Rattle.epe.specs.declared.name.Name.{Name}
use Rattle.contents.specs.declared.record.Order.{Order}
use Rattle.model.specs.Book.{entered_row, new_shipment}
use Rattle.model.specs.declared.Row.{Row}
use Rattle.memory.specs.Layout.{head_bytes, row_bytes, OnlyHead, OnlyRow}
use Rattle.memory.specs.States.{last_fault}
use Rattle.memory.specs.Rows.{row_of}
use Rattle.memory.specs.Heads.{flags_in_form, order_count_in, shipment_in}

-- An order that can be entered on some terms.
pub record Enterable (terms : Terms) (order : Order) : Type 0 where
  pub terms_fit_holds : TermsFit terms
  pub amount_fits_holds : WithinOrder order.amount.0
  pub fee_fits_holds : WithinOrder (fee_of terms order.amount.0)
  pub fault_known : order.fault ≤ last_fault

-- Row k is that of an order, and nothing else moves.
pub record OrderEntered (terms : Terms) (order : Order) (k : ℕ) (m m' : List ℕ) : Type 0 where
  pub row : row_of (row_bytes m' k) ≡ entered_row terms order
  pub only : OnlyRow k m m'

-- Head i is that of a shipment of n orders, just entered, and nothing else moves.
pub record HeadEntered (name : Name) (terms : Terms) (n i : ℕ) (m m' : List ℕ) : Type 0 where
  pub shipment : (rows : List Row) → shipment_in (head_bytes m' i) rows ≡ new_shipment name terms rows
  pub orders : order_count_in (head_bytes m' i) ≡ n
  pub flags : flags_in_form (head_bytes m' i) ≡ true
  pub only : OnlyHead i m m'

-- A number as bytes, least first.
abbrev pub bytes_of : ℕ → ℕ → List ℕ
bytes_of zero n = []
bytes_of (suc width) n = n % 256 ∷ bytes_of width (n / 256)

-- The bytes of such a head behind the identifier.
unfoldable pub fields_of : Name → Terms → ℕ → List ℕ
fields_of name terms n =
    name.ident.len
    ∷ bytes_of 4 name.date.0
    ++ name.payment ∷ name.kind ∷ bytes_of 4 terms.flat.0
    ++ 0 ∷ 0 ∷ bytes_of 2 n
    ++ replicate 32 0
    ++ bytes_of 2 terms.rate.0

-- Head i is the bytes given, and nothing else moves.
pub record HeadStored (head : List ℕ) (i : ℕ) (m m' : List ℕ) : Type 0 where
  pub bytes : head_bytes m' i ≡ head
  pub only : OnlyHead i m m'
