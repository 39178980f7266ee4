-- `report::ope::put_order` puts the record of a faulty order alone.
use Rattle.report.proofs.OrderPut.{none_put, one_record}
use Rattle.report.proofs.ope.put_order.Goals as goal

pub returns-in_default : goal.returns-in_default
returns-in_default c =
    let told = none_put c.args.codes.now.table.now c.args.running c.args.number c.in_default.not-Faulty c.requires.room in
    record { output_after = told.0; next = told.1 }

pub put_record-requires : goal.put_record-requires
put_record-requires c =
    rw c.of_fault.ensures (rw (one_record c.args.codes.now.table.now c.args.running c.args.number c.in-Faulty.fault c.in-Faulty.is) at c.requires.room)
