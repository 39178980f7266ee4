-- The number of each refusal of an order file, as document 01 has it beside its question, and 906 and 907 as document 02 has them.
use Rattle.std.specs.Prelude.{ℕ}
use Rattle.epe.specs.declared.refusal.Refusal.{Refusal}
use Rattle.epe.specs.declared.refusal.Refusal.TheVariants.{Profile, Rates, FileEmpty, FileText, NameHyphens, NameEpe, NameZ, NameIdentifier, NameDate, NamePayment, NameKind, HeaderShape, HeaderMark, HeaderSender, HeaderFileCode, HeaderEdition, HeaderIdentifier, HeaderDate, HeaderPayment, HeaderKind, CreatedEmpty, Created, UnitEmpty, Unit, BenefitDate, Count, CountZero, Sum, SumZero, RecordShape, RecordAmount, RecordCount, RecordSum, RecordFee}

abbrev pub number_of : Refusal → ℕ
number_of Profile = 905
number_of Rates = 907
number_of FileEmpty = 1
number_of FileText = 34
number_of NameHyphens = 3
number_of NameEpe = 7
number_of NameZ = 10
number_of NameIdentifier = 13
number_of NameDate = 16
number_of NamePayment = 19
number_of NameKind = 22
number_of HeaderShape = 4
number_of HeaderMark = 5
number_of HeaderSender = 11
number_of HeaderFileCode = 8
number_of HeaderEdition = 99
number_of HeaderIdentifier = 14
number_of HeaderDate = 17
number_of HeaderPayment = 20
number_of HeaderKind = 23
number_of CreatedEmpty = 102
number_of Created = 103
number_of UnitEmpty = 120
number_of Unit = 121
number_of BenefitDate = 125
number_of Count = 126
number_of CountZero = 127
number_of Sum = 130
number_of SumZero = 131
number_of RecordShape = 901
number_of RecordAmount = 902
number_of RecordCount = 129
number_of RecordSum = 132
number_of RecordFee = 906
