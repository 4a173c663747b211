-- 01, "The book and its answers", and 02 (iv), constructor lines: the words in code as the words of the steps.
use Rattle.book_construct_steps.specs.Lines as M
use Rattle.book_words.specs.declared.Constant.{Constant}
use Rattle.book_words.specs.declared.Constant.TheVariants as constant
use Rattle.book_words.specs.declared.Bit.{Bit}
use Rattle.book_words.specs.declared.Bit.TheVariants as bit
use Rattle.book_words.specs.declared.Single.{Single}
use Rattle.book_words.specs.declared.Single.TheVariants as single
use Rattle.book_words.specs.declared.Pair.{Pair}
use Rattle.book_words.specs.declared.Pair.TheVariants as pair
use Rattle.book_words.specs.declared.Listed.{Listed}
use Rattle.book_words.specs.declared.Listed.TheVariants as listed

abbrev pub constant_of : Constant → M.Constant
constant_of constant.Zero = M.zero
constant_of constant.One = M.one
constant_of constant.All = M.all
constant_of constant.Dup = M.dup
constant_of constant.Top = M.top

abbrev pub bit_of : Bit → M.Bit
bit_of bit.Test = M.test
bit_of bit.Set = M.set

abbrev pub single_of : Single → M.Single
single_of single.Not = M.not
single_of single.Star = M.star
single_of single.Next = M.next

abbrev pub pair_of : Pair → M.Pair
pair_of pair.Or = M.or
pair_of pair.And = M.and
pair_of pair.Xor = M.xor
pair_of pair.Minus = M.minus
pair_of pair.Seq = M.seq
pair_of pair.Until = M.until

abbrev pub listed_of : Listed → M.Listed
listed_of listed.Union = M.union
listed_of listed.Inter = M.inter
