-- What the words of a line say, word by word: those before a cursor have been read, those behind it have not.
use Rattle.std.specs.Prelude.{Some, None, is_some, if◌then◌else◌}
use Rattle.std.specs.Bool.{then_some}
use Rattle.std.specs.Prelude as code
use mathlib.Core.Path.{◌≡◌, refl, sym, ◌∙◌, ap, subst}
use mathlib.Core.Bool.{Bool, true, false, not, ◌&&◌}
use mathlib.Core.List.{List, [], ◌∷◌}
use mathlib.Core.Option.{Option, none, some}
use Prim.Native.Nat.{ℕ, suc, ◌+◌, ◌≤◌}
use native.Mathlib.Omega.{arith}
use native.Mathlib.Nat.{add-zero}
use lib.ListN.{length}
use Rattle.std.proofs.lemmas.Bool.{false≢true}
use denote.Ref.{Bor}
use Rattle.book_steps.specs.Text.{bytes, same, number}
use Rattle.book_steps.specs.Reader.{Header, header_of, header, map, or_else, in_front, find, constants, singles, queries, bits, pairs, lists, numbers, exact, saying}
use Rattle.book_steps.specs.Reader as Reader
use Rattle.book_construct_steps.specs.Lines as Lines
use Rattle.book_reader.specs.declared.Cursor.{Cursor}
use Rattle.book_reader.specs.declared.Query.{Query}
use Rattle.book_reader.specs.declared.Said.{Said}
use Rattle.book_reader.specs.declared.Said.TheVariants as said
use Rattle.book_words.specs.declared.Constant.{Constant}
use Rattle.book_words.specs.declared.Bit.{Bit}
use Rattle.book_words.specs.declared.Single.{Single}
use Rattle.book_words.specs.declared.Pair.{Pair}
use Rattle.book_words.specs.declared.Listed.{Listed}
use Rattle.book_words.specs.Clauses.{constant_of, bit_of, single_of, pair_of, listed_of}
use Rattle.book_reader.specs.Clauses.{words_left, rest, passed, passed_of, heading_of, behind, bad, taken, taken_by, counted, query_of, Says, listing}
use Rattle.std.specs.Str.{bytes_eq}
use Rattle.book_reader.proofs.Finding.{same_is}
use Rattle.book_reader.proofs.Parts.{words_some}

-- ---- the next word

module _ (c : Cursor) where
  pub no_more : is_some c.rest ≡ false → rest c ≡ []
  no_more m = at c.rest m
    where
      at : (o : code.Option (Bor (List ℕ))) → is_some o ≡ false → words_left o ≡ []
      at (Some l) m = absurd (false≢true (sym m))
      at None m = refl

  pub some_more : is_some c.rest ≡ true → 1 ≤ length (rest c)
  some_more m = at c.rest m
    where
      at : (o : code.Option (Bor (List ℕ))) → is_some o ≡ true → 1 ≤ length (words_left o)
      at (Some l) m = words_some l.now
      at None m = absurd (false≢true m)

-- what the first word is, of all words
module _ {ws vs : List (List ℕ)} {w : List ℕ} (T : ws ≡ w ∷ vs) where
  pub word_taken : {o : Option ℕ} → number w ≡ o → taken ws ≡ taken_by o vs
  unfolding taken
  word_taken e = ap taken T ∙ ap (λ (o : Option ℕ). taken_by o vs) e

  word_passed : (name : List ℕ) {b : Bool} → bytes_eq w name ≡ b → passed name ws ≡ (if b then some vs else none)
  unfolding passed
  word_passed name e = ap (passed name) T ∙ ap (λ (b : Bool). if b then some vs else none) (same_is w name ∙ e)

pub passes : {ws : List (List ℕ)} {w : List ℕ} (c : Cursor) → ws ≡ w ∷ rest c → (name : List ℕ) {b : Bool} → b ≡ bytes_eq w name → {r : code.Option Cursor} → r ≡ then_some b c → passed name ws ≡ passed_of r
passes c T name {b = b} e f = word_passed T name (sym e) ∙ at b ∙ ap passed_of (sym f)
  where
    at : (b : Bool) → (if b then some (rest c) else none) ≡ passed_of (then_some b c)
    at true = refl
    at false = refl

-- no word is none, and no number
pub no_taken : {ws : List (List ℕ)} → ws ≡ [] → taken ws ≡ bad
unfolding taken
no_taken e = ap taken e

pub no_passed : (name : List ℕ) {ws : List (List ℕ)} → ws ≡ [] → passed name ws ≡ none
unfolding passed
no_passed name e = ap (passed name) e

-- what a step took
pub record TakenIs (ws : List (List ℕ)) (n : ℕ) (vs : List (List ℕ)) : Type 0 where
  pub word : List ℕ
  pub words : ws ≡ word ∷ vs
  pub is : number word ≡ some n

pub taken_is : (ws : List (List ℕ)) {n : ℕ} {vs : List (List ℕ)} → taken ws ≡ behind n vs → TakenIs ws n vs
unfolding taken
taken_is [] e = absurd (let z : ◌≡◌ {A = ℕ} 0 1 = cc in omega arith)
taken_is (w ∷ ws) {n} {vs} e = at (number w) refl e
  where
    at : (o : Option ℕ) → number w ≡ o → taken_by o ws ≡ behind n vs → TakenIs (w ∷ ws) n vs
    at none f e = absurd (let z : ◌≡◌ {A = ℕ} 0 1 = cc in omega arith)
    at (some m) f e = record { word = w; words = cc; is = cc }

taken_bad : (w : List ℕ) (ws : List (List ℕ)) → taken (w ∷ ws) ≡ bad → number w ≡ none
unfolding taken
taken_bad w ws e = at (number w) e
  where
    at : (o : Option ℕ) → taken_by o ws ≡ bad → o ≡ none
    at none e = refl
    at (some m) e = absurd (let z : ◌≡◌ {A = ℕ} 0 1 = cc in omega arith)

-- ---- numbers

pub numbers_behind : (ws : List (List ℕ)) {n : ℕ} {vs : List (List ℕ)} → taken ws ≡ behind n vs → numbers ws ≡ map (λ l. n ∷ l) (numbers vs)
unfolding numbers
numbers_behind ws {n} {vs} e =
    let t = taken_is ws e in
    ap numbers t.words ∙ ap (λ (o : Option ℕ). in_front o (numbers vs)) t.is

pub numbers_bad : (ws : List (List ℕ)) → 1 ≤ length ws → taken ws ≡ bad → numbers ws ≡ none
unfolding numbers
numbers_bad [] h e = absurd (omega arith)
numbers_bad (w ∷ ws) h e = ap (λ (o : Option ℕ). in_front o (numbers ws)) (taken_bad w ws e)

pub fewer : (ws : List (List ℕ)) {n : ℕ} {vs : List (List ℕ)} → taken ws ≡ behind n vs → length ws ≡ suc (length vs)
fewer ws e = ap length (taken_is ws e).words

-- k numbers of the words us have been read, and ws are left
pub record Counting (us ws : List (List ℕ)) (k : ℕ) : Type 0 where
  pub room : k + length ws ≤ length us
  pub is : counted us ≡ map (λ m. k + m) (counted ws)

pub begin_count : (ws : List (List ℕ)) → Counting ws ws 0
begin_count ws = record { room = omega arith; is = at (counted ws) }
  where
    at : (o : Option ℕ) → o ≡ map (λ m. 0 + m) o
    at none = refl
    at (some m) = ap some (omega arith)

module _ {us ws : List (List ℕ)} {k : ℕ} (C : Counting us ws k) where
  pub not_all : 1 ≤ length ws → taken ws ≡ bad → counted us ≡ none
  not_all m t = C.is ∙ ap (λ (o : Option (List ℕ)). map (λ m. k + m) (map length o)) (numbers_bad ws m t)

  module _ {n : ℕ} {vs : List (List ℕ)} (t : taken ws ≡ behind n vs) where
    pub one_more : Counting us vs (k + 1)
    one_more = record {
      room = omega (arith, fewer ws t, C.room);
      is = C.is ∙ ap (λ (o : Option (List ℕ)). map (λ m. k + m) (map length o)) (numbers_behind ws t) ∙ at (numbers vs);
    }
      where
        at : (o : Option (List ℕ)) → map (λ m. k + m) (map length (map (λ l. n ∷ l) o)) ≡ map (λ m. k + 1 + m) (map length o)
        at none = refl
        at (some l) = ap some (omega arith)

  pub all_counted : ws ≡ [] → counted us ≡ some k
  unfolding numbers
  all_counted m = C.is ∙ ap (λ (ws : List (List ℕ)). map (λ m. k + m) (counted ws)) m ∙ ap some (add-zero k)

-- ---- the first line

pub record PassedIs (name : List ℕ) (ws vs : List (List ℕ)) : Type 0 where
  pub word : List ℕ
  pub words : ws ≡ word ∷ vs
  pub is : same word name ≡ true

passed_is : (name : List ℕ) (ws : List (List ℕ)) {vs : List (List ℕ)} → passed name ws ≡ some vs → PassedIs name ws vs
unfolding passed
passed_is name [] e = absurd (let z : ◌≡◌ {A = ℕ} 0 1 = cc in omega arith)
passed_is name (w ∷ ws) {vs} e = at (same w name) refl e
  where
    at : (b : Bool) → same w name ≡ b → (if b then some ws else none) ≡ some vs → PassedIs name (w ∷ ws) vs
    at true f e = record { word = w; words = cc; is = f }
    at false f e = absurd (let z : ◌≡◌ {A = ℕ} 0 1 = cc in omega arith)

passed_not : (name w : List ℕ) (ws : List (List ℕ)) → passed name (w ∷ ws) ≡ none → same w name ≡ false
unfolding passed
passed_not name w ws e = at (same w name) e
  where
    at : (b : Bool) → (if b then some ws else none) ≡ none → b ≡ false
    at true e = absurd (let z : ◌≡◌ {A = ℕ} 0 1 = cc in omega arith)
    at false e = refl

no_header : (b : Bool) (o : Option Header) → o ≡ none → (if b then o else none) ≡ none
no_header true o e = e
no_header false o e = refl

none_left : (o : Option ℕ) → header_of none o ≡ none
none_left none = refl
none_left (some n) = refl

none_right : (o : Option ℕ) → header_of o none ≡ none
none_right none = refl
none_right (some n) = refl

module _ (ws : List (List ℕ)) where
  pub no_fields : passed (bytes "fields") ws ≡ none → header ws ≡ none
  unfolding header
  no_fields e = at ws e
    where
      at : (ws : List (List ℕ)) → passed (bytes "fields") ws ≡ none → header ws ≡ none
      at [] e = refl
      at (f ∷ []) e = refl
      at (f ∷ n ∷ []) e = refl
      at (f ∷ n ∷ b ∷ []) e = refl
      at (f ∷ n ∷ b ∷ m ∷ []) e = ap (λ (x : Bool). if x && same b (bytes "budget") then header_of (number n) (number m) else none) (passed_not (bytes "fields") f (n ∷ b ∷ m ∷ []) e)
      at (f ∷ n ∷ b ∷ m ∷ l ∷ ls) e = refl

  module _ {us : List (List ℕ)} (p : passed (bytes "fields") ws ≡ some us) where
    abbrev f : List ℕ
    f = (passed_is (bytes "fields") ws p).word

    is_f : same f (bytes "fields") ≡ true
    is_f = (passed_is (bytes "fields") ws p).is

    words_f : ws ≡ f ∷ us
    words_f = (passed_is (bytes "fields") ws p).words

    pub no_n : taken us ≡ bad → header ws ≡ none
    unfolding header
    no_n e = ap header words_f ∙ at us e
      where
        at : (us : List (List ℕ)) → taken us ≡ bad → header (f ∷ us) ≡ none
        at [] e = refl
        at (n ∷ []) e = refl
        at (n ∷ b ∷ []) e = refl
        at (n ∷ b ∷ m ∷ []) e = no_header (same f (bytes "fields") && same b (bytes "budget")) (header_of (number n) (number m)) (ap (λ (o : Option ℕ). header_of o (number m)) (taken_bad n (b ∷ m ∷ []) e) ∙ none_left (number m))
        at (n ∷ b ∷ m ∷ l ∷ ls) e = refl

    module _ {n : ℕ} {vs : List (List ℕ)} (q : taken us ≡ behind n vs) where
      abbrev w : List ℕ
      w = (taken_is us q).word

      words_n : ws ≡ f ∷ w ∷ vs
      words_n = words_f ∙ ap (λ (us : List (List ℕ)). f ∷ us) (taken_is us q).words

      pub no_budget : passed (bytes "budget") vs ≡ none → header ws ≡ none
      unfolding header
      no_budget e = ap header words_n ∙ at vs e
        where
          at : (vs : List (List ℕ)) → passed (bytes "budget") vs ≡ none → header (f ∷ w ∷ vs) ≡ none
          at [] e = refl
          at (b ∷ []) e = refl
          at (b ∷ m ∷ []) e = simp (is_f, passed_not (bytes "budget") b (m ∷ []) e)
          at (b ∷ m ∷ l ∷ ls) e = refl

      module _ {xs : List (List ℕ)} (s : passed (bytes "budget") vs ≡ some xs) where
        abbrev b : List ℕ
        b = (passed_is (bytes "budget") vs s).word

        is_b : same b (bytes "budget") ≡ true
        is_b = (passed_is (bytes "budget") vs s).is

        words_b : ws ≡ f ∷ w ∷ b ∷ xs
        words_b = words_n ∙ ap (λ (vs : List (List ℕ)). f ∷ w ∷ vs) (passed_is (bytes "budget") vs s).words

        pub no_m : taken xs ≡ bad → header ws ≡ none
        unfolding header
        no_m e = ap header words_b ∙ at xs e
          where
            at : (xs : List (List ℕ)) → taken xs ≡ bad → header (f ∷ w ∷ b ∷ xs) ≡ none
            at [] e = refl
            at (m ∷ []) e = no_header (same f (bytes "fields") && same b (bytes "budget")) (header_of (number w) (number m)) (ap (λ (o : Option ℕ). header_of (number w) o) (taken_bad m [] e) ∙ none_right (number w))
            at (m ∷ l ∷ ls) e = refl

        module _ {m : ℕ} {ys : List (List ℕ)} (r : taken xs ≡ behind m ys) where
          abbrev v : List ℕ
          v = (taken_is xs r).word

          words_m : ws ≡ f ∷ w ∷ b ∷ v ∷ ys
          words_m = words_b ∙ ap (λ (xs : List (List ℕ)). f ∷ w ∷ b ∷ xs) (taken_is xs r).words

          too_many : 1 ≤ length ys → header ws ≡ none
          unfolding header
          too_many h = ap header words_m ∙ at ys h
            where
              at : (ys : List (List ℕ)) → 1 ≤ length ys → header (f ∷ w ∷ b ∷ v ∷ ys) ≡ none
              at [] h = absurd (omega arith)
              at (l ∷ ls) h = refl

          is_header : ys ≡ [] → header ws ≡ some (record { fields = n; budget = m })
          unfolding header
          is_header e = ap header (words_m ∙ ap (λ (ys : List (List ℕ)). f ∷ w ∷ b ∷ v ∷ ys) e) ∙ simp (is_f, is_b, (taken_is us q).is, (taken_is xs r).is)

          -- they are all words, or not
          pub ends_header : (d : Cursor) → ys ≡ rest d → (b : Bool) → is_some d.rest ≡ not b → {h : code.Option (ℕ × ℕ)} → h ≡ then_some b (n, m) → header ws ≡ heading_of h
          ends_header d e b g {h} q = at b g ∙ ap heading_of (sym q)
            where
              at : (b : Bool) → is_some d.rest ≡ not b → header ws ≡ heading_of (then_some b (n, m))
              at true g = is_header (e ∙ no_more d g)
              at false g = too_many (subst (λ (ls : List (List ℕ)). 1 ≤ length ls) (sym e) (some_more d g))

-- ---- instructions

-- what is said in other words
pub says_so : {o p : Option Reader.Instruction} {r : code.Option Said} → p ≡ o → Says o r → Says p r
says_so e S = record { is = e ∙ S.is; listed = S.listed }

module _ (w : List ℕ) (o : Option (List ℕ)) where
  pub listing_none : find lists w ≡ none → listing w o ≡ none
  listing_none e = at o
    where
      at : (o : Option (List ℕ)) → listing w o ≡ none
      at none = refl
      at (some l) = ap (map (λ k. Reader.listed k l)) e

  pub listing_some : {v : _} → find lists w ≡ some v → listing w o ≡ map (λ l. Reader.listed v l) o
  listing_some {v} e = at o
    where
      at : (o : Option (List ℕ)) → listing w o ≡ map (λ l. Reader.listed v l) o
      at none = refl
      at (some l) = ap (map (λ k. Reader.listed k l)) e

module _ (w : List ℕ) (c : Cursor) {k : ℕ} (C : counted (rest c) ≡ some k) where
  pub says_listed : {v : Listed} → find lists w ≡ some (listed_of v) → Says (listing w (numbers (rest c))) (Some (said.Listed v c k))
  says_listed e = record { is = listing_some w (numbers (rest c)) e; listed = C }

  pub says_nothing : find lists w ≡ none → Says (listing w (numbers (rest c))) None
  says_nothing e = record { is = listing_none w (numbers (rest c)) e; listed = tt }

-- a word without numbers, with one, and with two
module _ (w : List ℕ) {o : Option (List ℕ)} where
  module _ (N : o ≡ some []) where
    by_constant : {f : Option Lines.Constant} → find constants w ≡ f → saying w o ≡ or_else (map Reader.constant f) (listing w (some []))
    unfolding exact
    by_constant e = ap (saying w) N ∙ ap (λ (f : Option Lines.Constant). or_else (map Reader.constant f) (listing w (some []))) e

    pub says_constant : {v : Constant} → find constants w ≡ some (constant_of v) → Says (saying w o) (Some (said.Constant v))
    says_constant e = record { is = by_constant e; listed = tt }

    pub no_constant : find constants w ≡ none → saying w o ≡ listing w o
    no_constant e = by_constant e ∙ sym (ap (listing w) N)

  module _ {a : ℕ} (N : o ≡ some (a ∷ [])) where
    by_single : {f : Option Lines.Single} → find singles w ≡ f → saying w o ≡ or_else (or_else (map (λ k. Reader.single k a) f) (map (λ k. Reader.query k a) (find queries w))) (listing w (some (a ∷ [])))
    unfolding exact
    by_single e = ap (saying w) N ∙ ap (λ (f : Option Lines.Single). or_else (or_else (map (λ k. Reader.single k a) f) (map (λ k. Reader.query k a) (find queries w))) (listing w (some (a ∷ [])))) e

    pub says_single : {v : Single} → find singles w ≡ some (single_of v) → Says (saying w o) (Some (said.Single v a))
    says_single e = record { is = by_single e; listed = tt }

    module _ (e : find singles w ≡ none) where
      by_query : {g : Option Reader.Query} → find queries w ≡ g → saying w o ≡ or_else (map (λ k. Reader.query k a) g) (listing w (some (a ∷ [])))
      by_query f = by_single e ∙ ap (λ (g : Option Reader.Query). or_else (map (λ k. Reader.query k a) g) (listing w (some (a ∷ [])))) f

      pub says_query : {v : Query} → find queries w ≡ some (query_of v) → Says (saying w o) (Some (said.Query v a))
      says_query f = record { is = by_query f; listed = tt }

      pub no_query : find queries w ≡ none → saying w o ≡ listing w o
      no_query f = by_query f ∙ sym (ap (listing w) N)

  module _ {a b : ℕ} (N : o ≡ some (a ∷ b ∷ [])) where
    by_bit : {f : Option Lines.Bit} → find bits w ≡ f → saying w o ≡ or_else (or_else (map (λ k. Reader.bit k a b) f) (map (λ k. Reader.pair k a b) (find pairs w))) (listing w (some (a ∷ b ∷ [])))
    unfolding exact
    by_bit e = ap (saying w) N ∙ ap (λ (f : Option Lines.Bit). or_else (or_else (map (λ k. Reader.bit k a b) f) (map (λ k. Reader.pair k a b) (find pairs w))) (listing w (some (a ∷ b ∷ [])))) e

    pub says_bit : {v : Bit} → find bits w ≡ some (bit_of v) → Says (saying w o) (Some (said.Bit v a b))
    says_bit e = record { is = by_bit e; listed = tt }

    module _ (e : find bits w ≡ none) where
      by_pair : {g : Option Lines.Pair} → find pairs w ≡ g → saying w o ≡ or_else (map (λ k. Reader.pair k a b) g) (listing w (some (a ∷ b ∷ [])))
      by_pair f = by_bit e ∙ ap (λ (g : Option Lines.Pair). or_else (map (λ k. Reader.pair k a b) g) (listing w (some (a ∷ b ∷ [])))) f

      pub says_pair : {v : Pair} → find pairs w ≡ some (pair_of v) → Says (saying w o) (Some (said.Pair v a b))
      says_pair f = record { is = by_pair f; listed = tt }

      pub no_pair : find pairs w ≡ none → saying w o ≡ listing w o
      no_pair f = by_pair f ∙ sym (ap (listing w) N)

-- three numbers or more
three : (w : List ℕ) (a b : ℕ) (ws : List (List ℕ)) → 1 ≤ length ws → saying w (map (λ l. a ∷ l) (map (λ l. b ∷ l) (numbers ws))) ≡ listing w (map (λ l. a ∷ l) (map (λ l. b ∷ l) (numbers ws)))
unfolding numbers exact
three w a b [] h = absurd (omega arith)
three w a b (x ∷ xs) h = at (number x) (numbers xs)
  where
    at : (n : Option ℕ) (o : Option (List ℕ)) → saying w (map (λ l. a ∷ l) (map (λ l. b ∷ l) (in_front n o))) ≡ listing w (map (λ l. a ∷ l) (map (λ l. b ∷ l) (in_front n o)))
    at none o = refl
    at (some n) none = refl
    at (some n) (some l) = refl

pub says_no_word : {ws : List (List ℕ)} → ws ≡ [] → Says (Reader.parse ws) None
unfolding Reader.parse
says_no_word m = record { is = ap Reader.parse m; listed = tt }

no_numbers : {ws : List (List ℕ)} → ws ≡ [] → numbers ws ≡ some []
unfolding numbers
no_numbers m = ap numbers m

-- a word and the words behind it
module _ {us ws : List (List ℕ)} {w : List ℕ} (T : us ≡ w ∷ ws) where
  said_is : Reader.parse us ≡ saying w (numbers ws)
  unfolding Reader.parse
  said_is = ap Reader.parse T

  pub says_words : {r : code.Option Said} → Says (saying w (numbers ws)) r → Says (Reader.parse us) r
  says_words S = says_so said_is S

  bad_numbers : numbers ws ≡ none → Says (Reader.parse us) None
  bad_numbers e = record { is = said_is ∙ ap (saying w) e; listed = tt }

  pub numbers_0 : ws ≡ [] → numbers ws ≡ some []
  numbers_0 m = no_numbers m

  module _ (m : 1 ≤ length ws) where
    pub bad_first : taken ws ≡ bad → Says (Reader.parse us) None
    bad_first A = bad_numbers (numbers_bad ws m A)

    module _ {a : ℕ} {vs : List (List ℕ)} (A : taken ws ≡ behind a vs) where
      behind_1 : numbers ws ≡ map (λ l. a ∷ l) (numbers vs)
      behind_1 = numbers_behind ws A

      pub numbers_1 : vs ≡ [] → numbers ws ≡ some (a ∷ [])
      numbers_1 n = behind_1 ∙ ap (map (λ l. a ∷ l)) (no_numbers n)

      module _ (n : 1 ≤ length vs) where
        pub bad_second : taken vs ≡ bad → Says (Reader.parse us) None
        bad_second B = bad_numbers (behind_1 ∙ ap (map (λ l. a ∷ l)) (numbers_bad vs n B))

        module _ {b : ℕ} {xs : List (List ℕ)} (B : taken vs ≡ behind b xs) where
          behind_2 : numbers ws ≡ map (λ l. a ∷ l) (map (λ l. b ∷ l) (numbers xs))
          behind_2 = behind_1 ∙ ap (map (λ l. a ∷ l)) (numbers_behind vs B)

          pub numbers_2 : xs ≡ [] → numbers ws ≡ some (a ∷ b ∷ [])
          numbers_2 p = behind_2 ∙ ap (λ (o : Option (List ℕ)). map (λ l. a ∷ l) (map (λ l. b ∷ l) o)) (no_numbers p)

          pub says_list : 1 ≤ length xs → {r : code.Option Said} → Says (listing w (numbers ws)) r → Says (Reader.parse us) r
          says_list p S = says_so (said_is ∙ ap (saying w) behind_2 ∙ three w a b xs p ∙ sym (ap (listing w) behind_2)) S

  pub bad_count : counted ws ≡ none → Says (Reader.parse us) None
  bad_count e = bad_numbers (at (numbers ws) e)
    where
      at : (o : Option (List ℕ)) → map length o ≡ none → o ≡ none
      at none e = refl
      at (some l) e = absurd (let z : ◌≡◌ {A = ℕ} 0 1 = cc in omega arith)

-- ---- a list's numbers, read again

pub record ListIs (ws : List (List ℕ)) (k : ℕ) : Type 0 where
  pub list : List ℕ
  pub is : numbers ws ≡ some list
  pub size : length list ≡ k

pub list_is : {ws : List (List ℕ)} {k : ℕ} → counted ws ≡ some k → ListIs ws k
list_is {ws} {k} e = at (numbers ws) refl e
  where
    at : (o : Option (List ℕ)) → numbers ws ≡ o → map length o ≡ some k → ListIs ws k
    at none f e = absurd (let z : ◌≡◌ {A = ℕ} 0 1 = cc in omega arith)
    at (some l) f e = record { list = l; is = f; size = cc }
