-- The code's tables name what those of the steps do.
use mathlib.Core.Path.{◌≡◌, refl, sym, ◌∙◌, ap}
use mathlib.Core.List.{List}
use mathlib.Core.List.{map as list_map}
use Prim.Native.Nat.{ℕ}
use Rattle.std.specs.Prelude.{Option}
use Rattle.book_steps.specs.Reader.{map, find, constants, singles, queries, bits, pairs, lists}
use Rattle.book_words.specs.Clauses.{constant_of, bit_of, single_of, pair_of, listed_of}
use Rattle.book_words.specs.declared.Constant.{Constant}
use Rattle.book_words.specs.declared.Bit.{Bit}
use Rattle.book_words.specs.declared.Single.{Single}
use Rattle.book_words.specs.declared.Pair.{Pair}
use Rattle.book_words.specs.declared.Listed.{Listed}
use Rattle.book_reader.specs.declared.Query.{Query}
use Rattle.book_reader.specs.declared.TheConstants.{CONSTANTS, BITS, SINGLES, PAIRS, LISTS, QUERIES}
use Rattle.book_reader.specs.Clauses.{value_of, look_up, query_of}
use Rattle.book_reader.proofs.Finding.{find_alike}

module _ (w : List ℕ) where
  pub constant : {r : Option Constant} → r ≡ look_up (list_map (λ n. (n.0.now, n.1)) CONSTANTS) w → find constants w ≡ map constant_of (value_of r)
  constant e = find_alike constant_of (list_map (λ n. (n.0.now, n.1)) CONSTANTS) constants (refl, refl, (refl, refl, (refl, refl, (refl, refl, (refl, refl, tt))))) w ∙ ap (λ (r : Option Constant). map constant_of (value_of r)) (sym e)

  pub bit : {r : Option Bit} → r ≡ look_up (list_map (λ n. (n.0.now, n.1)) BITS) w → find bits w ≡ map bit_of (value_of r)
  bit e = find_alike bit_of (list_map (λ n. (n.0.now, n.1)) BITS) bits (refl, refl, (refl, refl, tt)) w ∙ ap (λ (r : Option Bit). map bit_of (value_of r)) (sym e)

  pub single : {r : Option Single} → r ≡ look_up (list_map (λ n. (n.0.now, n.1)) SINGLES) w → find singles w ≡ map single_of (value_of r)
  single e = find_alike single_of (list_map (λ n. (n.0.now, n.1)) SINGLES) singles (refl, refl, (refl, refl, (refl, refl, tt))) w ∙ ap (λ (r : Option Single). map single_of (value_of r)) (sym e)

  pub pair : {r : Option Pair} → r ≡ look_up (list_map (λ n. (n.0.now, n.1)) PAIRS) w → find pairs w ≡ map pair_of (value_of r)
  pair e = find_alike pair_of (list_map (λ n. (n.0.now, n.1)) PAIRS) pairs (refl, refl, (refl, refl, (refl, refl, (refl, refl, (refl, refl, (refl, refl, tt)))))) w ∙ ap (λ (r : Option Pair). map pair_of (value_of r)) (sym e)

  pub listed : {r : Option Listed} → r ≡ look_up (list_map (λ n. (n.0.now, n.1)) LISTS) w → find lists w ≡ map listed_of (value_of r)
  listed e = find_alike listed_of (list_map (λ n. (n.0.now, n.1)) LISTS) lists (refl, refl, (refl, refl, tt)) w ∙ ap (λ (r : Option Listed). map listed_of (value_of r)) (sym e)

  pub query : {r : Option Query} → r ≡ look_up (list_map (λ n. (n.0.now, n.1)) QUERIES) w → find queries w ≡ map query_of (value_of r)
  query e = find_alike query_of (list_map (λ n. (n.0.now, n.1)) QUERIES) queries (refl, refl, (refl, refl, (refl, refl, (refl, refl, tt)))) w ∙ ap (λ (r : Option Query). map query_of (value_of r)) (sym e)
