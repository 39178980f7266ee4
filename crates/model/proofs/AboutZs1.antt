-- Document 01's table of shipment ZS1 and what stands beside it, computed by the checker from the definitions alone, on the bytes of their files
-- and titles. The checker takes a crate's files by their names, and this one first: a wrong definition meets the table before any proof that it
-- makes unfit.
-- Assumes nothing.
use mathlib.Core.Path.{refl}
use Rattle.text.specs.Bytes.{digit, letter, letter_or_digit}
use Rattle.text.specs.Number.{number, number_after}
use Rattle.text.specs.Fields.{fields, onto}
use Rattle.text.specs.Lines.{lines, parted, without_last_end, stray}
use Rattle.text.specs.Utf8.{ascii, tail_octet, lead2, lead3, lead4, point2, point3, point4, surrogate, range2, range3, range4, row2, row3, row4}
use Rattle.text.specs.Utf8.{width, well_formed_after}
use Rattle.money.specs.Money.{grosze_of}
use Rattle.money.specs.Text.{text_of, together}
use Rattle.calendar.specs.Calendar.{real, leap, month_length, in_window, day_number, days_of_years, days_of_months}
use Rattle.calendar.specs.Reading.{date_of, date_of_number, date_of_digits, date_in_window}
use Rattle.calendar.specs.Time.{clock_time, time_of_number, time_of_day}
use Rattle.epe.specs.Questions.{is_passed, asked}
use Rattle.epe.specs.Ident.{identifier, ident_of, same_ident}
use Rattle.epe.specs.Profile.{profile_fits, rates_fit, profile_questions, terms_for}
use Rattle.epe.specs.Name.{name_questions, name_of, has_long_date, short_title, title_questions, title_of}
use Rattle.epe.specs.File.{marked}
use Rattle.epe.specs.Opening.{file_questions, fixed_questions, repeated_questions, opening_questions, opening}
use Rattle.contents.specs.Faults.{sized, placed, housed, postcode, extra, spaced, said_of, unspaced, fault_questions, fault_of}
use Rattle.contents.specs.Contents.{date_questions, stated_questions, shaped, all_shaped, all_priced, all_charged, total, record_questions, contents_questions, contents}
use Rattle.contents.specs.Contents.{order_of, orders, faulty_count}
use Rattle.model.specs.Shipment.{need, free, held, any_faulty}
use Rattle.model.specs.Calls.{Call, transferred, gone_ahead, paired, closed, on_order, waiting, waiting_orders, returned_by, surplus_returned, acted}
use Rattle.model.specs.Book.{Book, Step, same_name, entered, intake_questions, taken_in, transferred_in, step}
use Rattle.model.specs.Demand.{is_for}
use Rattle.model.specs.Zs1.{zs1, Table}
use Rattle.model.specs.Neighbours.{Neighbours}
use Rattle.model.specs.LongTitles.{LongTitles}

-- names the definitions that the table computes
unfoldable pub stepped : Book → Call → Step
unfolding digit letter letter_or_digit number number_after fields onto lines parted without_last_end stray ascii tail_octet lead2 lead3 lead4 point2 point3 point4 surrogate range2 range3 range4 row2 row3 row4 width well_formed_after grosze_of text_of together real leap month_length in_window day_number days_of_years days_of_months date_of date_of_number date_of_digits date_in_window clock_time time_of_number time_of_day asked is_passed identifier ident_of same_ident profile_fits rates_fit profile_questions terms_for name_questions name_of has_long_date short_title title_questions title_of marked file_questions fixed_questions repeated_questions opening_questions opening sized placed housed postcode extra spaced said_of unspaced fault_questions fault_of date_questions stated_questions shaped all_shaped all_priced all_charged total record_questions contents_questions contents order_of orders faulty_count need free held any_faulty transferred gone_ahead paired closed on_order waiting waiting_orders returned_by surplus_returned acted same_name entered intake_questions taken_in transferred_in step
stepped = step

computed : Table × Neighbours × LongTitles
unfolding stepped is_for zs1
computed = (
  record {
    needs = (refl, refl);
    line_0 = refl;
    line_1 = refl;
    line_2 = refl;
    line_3 = (refl, refl, refl);
    line_4 = refl;
    line_5 = refl;
    line_6 = refl;
    line_7 = refl;
    line_8 = (refl, refl, refl, refl, refl, refl);
    lines_9_and_10 = refl;
    line_11 = refl;
    line_12 = refl;
  },
  record { waiting = refl; closing = refl; faultless_file = refl; paired = refl; undelivered = refl },
  record { answers = refl; counted = (refl, refl); booked = (refl, refl, refl, refl); others = refl },
)

pub table : Table
table = computed.0

pub neighbours : Neighbours
neighbours = computed.1

pub long_titles : LongTitles
long_titles = computed.2
