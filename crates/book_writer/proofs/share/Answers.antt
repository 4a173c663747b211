use Prim.Native.Nat.{◌*◌}
use native.Mathlib.Nat.{mod-lt, div-le_self}
use Rattle.book_writer.proofs.Lines as lines
use borrow.Author.Rules.{rules}
use Rattle.book_writer.proofs.share.Goals as goal

pub overflow_mul-rest-2 : goal.overflow_mul-rest-2
overflow_mul-rest-2 c = search (rules, mod-lt (1000 * c.args.count) c.requires.0)

pub returns-then-rest-total : goal.returns-then-rest-total
returns-then-rest-total c = lines.share_lower c.args.count c.args.total c.if-rest-total.true

pub overflow_mul-rest-3 : goal.overflow_mul-rest-3
overflow_mul-rest-3 c = search (rules, mod-lt (1000 * c.args.count) c.requires.0)

pub overflow_add-result : goal.overflow_add-result
overflow_add-result c = search (rules, div-le_self (1000 * c.args.count) c.args.total)

pub returns-then-total-rest : goal.returns-then-total-rest
returns-then-total-rest c = lines.share_upper c.args.count c.args.total c.if-rest-total.false c.if-total-rest.true

pub overflow_add-result-2 : goal.overflow_add-result-2
overflow_add-result-2 c = search (rules, div-le_self (1000 * c.args.count) c.args.total)

pub returns : goal.returns
returns c = lines.share_half c.args.count c.args.total c.if-rest-total.false c.if-total-rest.false
