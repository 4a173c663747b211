use Rattle.refusal.proofs.Passed.{passed}
use Rattle.image_read.proofs.Whole as whole
use Rattle.image_read.proofs.read.Goals as goal

pub read_records-requires : goal.read_records-requires
read_records-requires c =
    whole.records_ready c.args.image.now c.args.place.now c.requires c.in_ok-h.h c.in_ok-h.ensures c.read_diagrams.new.place c.in_ok-read_diagrams.ensures.keeps c.in_ok-read_diagrams.ensures.gives

pub returns-in_err-h-clause-gives : goal.returns-in_err-h-clause-gives
returns-in_err-h-clause-gives c = rw (passed c.from_residual.ensures) (whole.not_opened c.args.image.now c.args.place.now c.requires c.in_err-h.ensures _)

pub returns-in_err-read_diagrams-clause-gives : goal.returns-in_err-read_diagrams-clause-gives
returns-in_err-read_diagrams-clause-gives c =
    rw (passed c.from_residual-in_err-read_diagrams.ensures) (whole.no_diagrams c.args.image.now c.args.place.now c.requires c.in_ok-h.h c.in_ok-h.ensures c.read_diagrams.new.place c.in_err-read_diagrams.ensures.keeps c.in_err-read_diagrams.ensures.gives)

pub returns-in_err-read_records-clause-gives : goal.returns-in_err-read_records-clause-gives
returns-in_err-read_records-clause-gives c =
    rw (passed c.from_residual-in_err-read_records.ensures) (whole.no_records c.args.image.now c.args.place.now c.requires c.in_ok-h.h c.in_ok-h.ensures c.read_diagrams.new.place c.in_ok-read_diagrams.ensures.keeps c.in_ok-read_diagrams.ensures.gives c.read_records.new.place c.in_err-read_records.ensures.keeps c.in_err-read_records.ensures.gives)

pub returns-clause-gives : goal.returns-clause-gives
returns-clause-gives c =
    whole.read_done c.args.image.now c.args.place.now c.requires c.in_ok-h.h c.in_ok-h.ensures c.read_diagrams.new.place c.in_ok-read_diagrams.ensures.keeps c.in_ok-read_diagrams.ensures.gives c.read_records.new.place c.in_ok-read_records.ensures.keeps c.in_ok-read_records.ensures.gives c.setting_of.ensures
