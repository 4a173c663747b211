use Rattle.std.proofs.Common.{rules, ◌≡◌, ◌+◌, ◌≤◌, ◌^◌, length, sym}
use Rattle.book_writer.specs.Clauses.{part_bytes, with_spaces}
use Rattle.book_writer.proofs.Lines as lines
use Rattle.book_writer.proofs.parts_length.Goals as goal

pub returns : goal.returns
returns c =
    let k = c.try_fold.ensures.ran in
    let f = lines.summed _ (λ p x q t.
    let a : q.1 ≡ p.1 + (length (part_bytes x.now) + 1) = search rules in
    a) k.0 _ _ _ _ k.4.1 k.5 in
    let e : 0 + length (with_spaces c.args.parts.now) ≡ k.3 + length (with_spaces k.4.0.rest.now) = rw (sym c.iter.ensures.rest) f in
    lines.measured c.args.parts.now k.4.0.rest.now k.3 e _ _ _ k.1 k.4.2 k.6 (λ x b.
    let a : 2 ^ 64 ≤ k.3 + (length (part_bytes x.now) + 1) = search rules in
    (a, search rules))
