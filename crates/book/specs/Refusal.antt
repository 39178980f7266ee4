-- The number of each refusal of an order file at the book, as document 01 has it beside its question.
use Rattle.std.specs.Prelude.{ℕ}
use Rattle.epe.specs.Refusal.{number_of as of_file}
use Rattle.book.specs.declared.refusal.IntakeRefusal.{IntakeRefusal}
use Rattle.book.specs.declared.refusal.IntakeRefusal.TheVariants.{File, Unreadable, Known, Shipments, Rows}

abbrev pub number_of : IntakeRefusal → ℕ
number_of (File refusal) = of_file refusal
number_of Unreadable = 900
number_of Known = 101
number_of Shipments = 903
number_of Rows = 904
