use Rattle.book_writer.proofs.Rights as rights
use Rattle.book_writer.proofs.digits.Goals as goal

pub returns-clause-is : goal.returns-clause-is
returns-clause-is c =
    rights.digits_by c.args.n c.max.result c.ilog10.result c.max.ensures c.ilog10.ensures.power_le c.ilog10.ensures.next_power_gt c.ilog10.ensures.bound
