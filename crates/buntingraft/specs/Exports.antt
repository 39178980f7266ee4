-- What the exports ensure: the reply is the call's answer in three numbers (`reply_of`), and the memory is as the call's own promise has it (`Does`).
-- `Plays` says both of a call; making an empty book, a return, a sheet, what is written and loading have a record here, and calls without a book the
-- reply to what they answer.
use Rattle.std.specs.Prelude.{◌≡◌, true, false, cond, List, ℕ, ◌+◌, ◌/◌, ◌%◌, eqb, Option, Some, None, Result, Ok, Err}
use Rattle.money.specs.declared.Amount.{Amount}
use Rattle.fee.specs.Refusal.{number_of}
use Rattle.fee.specs.declared.refusal.Refusal.{Refusal as NoTerms}
use Rattle.epe.specs.declared.ident.Ident.{Ident}
use Rattle.contents.specs.Around.{Around, Found as FaultFound, Refused as NoRecord}
use Rattle.contents.specs.declared.extra.ExtraSaid.{ExtraSaid}
use Rattle.model.specs.Calls.{Return, On, Answer}
use Rattle.memory.specs.Read.{read_book}
use Rattle.book.specs.Does.{MakesEmpty}
use Rattle.book.specs.NoReturn.{no_return}
use Rattle.book.specs.Numbers.{are_known, route_of, money_of}
use Rattle.book.specs.Reply.{reply_of, done_with, refused_with, Plays}
use Rattle.book.specs.declared.reply.Reply.{Reply}
use Rattle.write.specs.Written.{Wrote}
use Rattle.store.specs.Unstored.{Loads}
use Rattle.sheet.specs.Sheet.{sheet_of}
use Rattle.sheet.specs.declared.SheetRow.{SheetRow}
use Rattle.sheet.specs.declared.Totals.{Totals}

-- An empty book was made, or not, and the answer is told.
pub record Makes (before : List ℕ) (reply : Reply) (after : List ℕ) : Type 0 where
  pub answer : Answer
  pub makes : MakesEmpty before answer after
  pub is_reply : reply ≡ reply_of answer

-- A return by a route and of a money that there are is made; any other is refused, and nothing changes.
pub record Returns (before : List ℕ) (ident : Ident) (route money : ℕ) (reply : Reply) (after : List ℕ) : Type 0 where
  pub plays : are_known route money ≡ true → Plays before (On ident (Return (route_of route) (money_of money))) reply after
  pub refused : are_known route money ≡ false → (reply ≡ refused_with (no_return ident (read_book before))) × (after ≡ before)

-- A call that answers one number, or a refusal by its number.
abbrev pub reply_to : Result ℕ ℕ → Reply
reply_to (Ok number) = done_with number 0
reply_to (Err number) = refused_with number

-- A sheet answers the number of its rows, or a refusal. The table and the totals are as it leaves them.
abbrev pub reply_to_sheet : Result ℕ ℕ → Reply
reply_to_sheet = reply_to

pub record Sheets (book : List ℕ) (table : List SheetRow) (totals : Totals) (reply : Reply) (table' : List SheetRow) (totals' : Totals) : Type 0 where
  pub is_reply : reply ≡ reply_to_sheet (sheet_of (read_book book) table totals).answer
  pub rows : table' ≡ (sheet_of (read_book book) table totals).table
  pub sums : totals' ≡ (sheet_of (read_book book) table totals).totals

-- A writer answers the number of bytes written, or a refusal. The output is as it leaves it.
abbrev pub reply_to_writing : Result ℕ ℕ → Reply
reply_to_writing = reply_to

pub record TellsWriting (wrote : Wrote) (reply : Reply) (output : List ℕ) : Type 0 where
  pub is_reply : reply ≡ reply_to_writing wrote.answer
  pub text : output ≡ wrote.output

-- A stored book was loaded, or not, and the answer is told.
abbrev pub reply_to_loading : Result (Unit {0}) ℕ → Reply
reply_to_loading (Ok loaded) = done_with 0 0
reply_to_loading (Err number) = refused_with number

pub record TellsLoading (before stored : List ℕ) (reply : Reply) (after : List ℕ) : Type 0 where
  pub answer : Result (Unit {0}) ℕ
  pub loads : Loads before stored answer after
  pub is_reply : reply ≡ reply_to_loading answer

-- The amount that makes a total, 0 where there is none, or a refusal.
unfoldable pub reply_to_total : Result (Option Amount) NoTerms → Reply
reply_to_total (Ok (Some amount)) = done_with amount.0 0
reply_to_total (Ok None) = done_with 0 0
reply_to_total (Err refusal) = refused_with (number_of refusal)

-- What is said of an extra field is told in bits: 1 empty, 2 fails, 4 spaced. (document 02, A7) Bits above those say nothing.
unfoldable pub bits_of : ExtraSaid → ℕ
bits_of said = cond said.empty 1 0 + (cond said.fails 2 0 + cond said.spaced 4 0)

unfoldable pub said_in : ℕ → ExtraSaid
said_in bits = record { empty = eqb (bits % 2) 1; fails = eqb (bits / 2 % 2) 1; spaced = eqb (bits / 4 % 2) 1 }

-- So the second call hears what the first one said.
abbrev pub BitsSayIt : Type 0
BitsSayIt = (said : ExtraSaid) → said_in (bits_of said) ≡ said

-- A record around its extra field answers its fault, 0 for none, or a refusal.
unfoldable pub reply_to_around : Around → Reply
reply_to_around (FaultFound number) = done_with number 0
reply_to_around (NoRecord number) = refused_with number
