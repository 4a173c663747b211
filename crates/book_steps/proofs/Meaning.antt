-- The two readings of a line, by states and by rules, go alike; so the state that a line makes holds the strings of its rule.
use Rattle.std.specs.Prelude.{if◌then◌else◌}
use mathlib.Core.Path.{◌≡◌, refl}
use mathlib.Core.Bool.{Bool, true, false, ◌&&◌}
use mathlib.Core.List.{List, [], ◌∷◌, ◌++◌}
use mathlib.Core.Option.{Option, none, some}
use Prim.Native.Nat.{ℕ, zero, suc, ◌<◌}
use lib.Dec.{eqb, ltb}
use lib.ListN.{get_or}
use borrow.Author.Tests.{ltb-true}
use Rattle.netkat.specs.Rules.{Rule, In, InSome, InEach}
use Rattle.aut_steps.specs.Tables.{Limits, Aut}
use Rattle.aut_steps.specs.Ascending.{All}
use Rattle.aut_steps.specs.Languages.{◌≈◌}
use Rattle.aut_steps.proofs.Languages.{◌then◌, either_same, both_same, join_same, star_same, next_same, until_same, not_same, minus_same, differ_same}
use Rattle.aut_steps.specs.Wf.{states, ExtAut, WfAut}
use Rattle.aut_steps.proofs.Wf.{state_grown}
use Rattle.aut_steps.specs.Meaning.{rule, Holds}
use Rattle.aut_steps.proofs.Meaning.{holds_grown}
use Rattle.book_construct_steps.specs.Lines as Lines
use Rattle.book_construct_steps.specs.Lines.{Line, Constant, Bit, Single, Pair, Listed, each, means, Asked}
use Rattle.book_steps.specs.Reader as Reader
use Rattle.book_steps.specs.Reader.{Query, Instruction, Resolved, given, giving, resolve}
use Rattle.book_steps.specs.Meaning.{Same, Matched, done, asked, made}

-- what a line stands for, by state and by rule
pub data Both (N : ℕ) (σ : Aut) : Option ℕ → Option (Rule N) → Type 0 where
  neither : Both N σ none none
  both : {x : ℕ} {r : Rule N} → Same N σ x r → Both N σ (some x) (some r)

module _ {N : ℕ} {σ : Aut} where
  pub matched_at : {lines : List (Option ℕ)} {R : List (Option (Rule N))} → Matched N σ lines R → (a : ℕ) → Both N σ (get_or lines a none) (get_or R a none)
  matched_at done a = neither
  matched_at (asked m) zero = neither
  matched_at (asked m) (suc a) = matched_at m a
  matched_at (made s m) zero = both s
  matched_at (made s m) (suc a) = matched_at m a

  pub matched_more : {lines : List (Option ℕ)} {R : List (Option (Rule N))} → Matched N σ lines R → {x : Option ℕ} {r : Option (Rule N)} → Both N σ x r → Matched N σ (lines ++ x ∷ []) (R ++ r ∷ [])
  matched_more done neither = asked done
  matched_more done (both s) = made s done
  matched_more (asked m) b = asked (matched_more m b)
  matched_more (made s m) b = made s (matched_more m b)

pub same_grown : {N : ℕ} {L : Limits} {σ τ : Aut} → WfAut N L σ → ExtAut σ τ → {x : ℕ} {r : Rule N} → Same N σ x r → Same N τ x r
same_grown g w s = record { state = state_grown w s.state; strings = holds_grown g w s.state then s.strings }

pub matched_grown : {N : ℕ} {L : Limits} {σ τ : Aut} → WfAut N L σ → ExtAut σ τ → {lines : List (Option ℕ)} {R : List (Option (Rule N))} → Matched N σ lines R → Matched N τ lines R
matched_grown g w done = done
matched_grown g w (asked m) = asked (matched_grown g w m)
matched_grown g w (made s m) = made (same_grown g w s) (matched_grown g w m)

-- ---- a line read by states, and read by rules

pub data AllSame (N : ℕ) (σ : Aut) : List ℕ → List (Rule N) → Type 0 where
  nothing : AllSame N σ [] []
  also : {x : ℕ} {r : Rule N} {xs : List ℕ} {rs : List (Rule N)} → Same N σ x r → AllSame N σ xs rs → AllSame N σ (x ∷ xs) (r ∷ rs)

pub data LineAlike (N : ℕ) (σ : Aut) : Line ℕ → Line (Rule N) → Type 0 where
  constant : {w : Constant} → LineAlike N σ (Lines.constant w) (Lines.constant w)
  bit : {w : Bit} {f : ℕ} {v : Bool} → f < N → LineAlike N σ (Lines.bit w f v) (Lines.bit w f v)
  single : {w : Single} {x : ℕ} {r : Rule N} → Same N σ x r → LineAlike N σ (Lines.single w x) (Lines.single w r)
  pair : {w : Pair} {x y : ℕ} {r s : Rule N} → Same N σ x r → Same N σ y s → LineAlike N σ (Lines.pair w x y) (Lines.pair w r s)
  listed : {w : Listed} {xs : List ℕ} {rs : List (Rule N)} → AllSame N σ xs rs → LineAlike N σ (Lines.listed w xs) (Lines.listed w rs)

pub data Alike (N : ℕ) (σ : Aut) : Resolved ℕ → Resolved (Rule N) → Type 0 where
  makes : {l : Line ℕ} {m : Line (Rule N)} → LineAlike N σ l m → Alike N σ (Reader.makes l) (Reader.makes m)
  asks : {q : Query} {a x : ℕ} {r : Rule N} → Same N σ x r → Alike N σ (Reader.asks q a x) (Reader.asks q a r)
  refuses : {e : ℕ} → Alike N σ (Reader.refuses e) (Reader.refuses e)

module _ {N : ℕ} {σ : Aut} {lines : List (Option ℕ)} {R : List (Option (Rule N))} (m : Matched N σ lines R) where
  given_alike : {x : Option ℕ} {r : Option (Rule N)} {k : ℕ → Resolved ℕ} {j : Rule N → Resolved (Rule N)} → Both N σ x r
      → ((x : ℕ) (r : Rule N) → Same N σ x r → Alike N σ (k x) (j r)) → Alike N σ (given N lines x k) (given N R r j)
  given_alike neither f = refuses
  given_alike (both {x} {r} s) f = f x r s

  giving_alike : (l : List ℕ) {k : List ℕ → Resolved ℕ} {j : List (Rule N) → Resolved (Rule N)} → ((xs : List ℕ) (rs : List (Rule N)) → AllSame N σ xs rs → Alike N σ (k xs) (j rs))
      → Alike N σ (giving N lines l k) (giving N R l j)
  unfolding giving
  giving_alike [] f = f [] [] nothing
  giving_alike (a ∷ l) f = given_alike (matched_at m a) (λ x r s. giving_alike l (λ xs rs t. f (x ∷ xs) (r ∷ rs) (also s t)))

  bit_alike : (w : Bit) (f v : ℕ) (b : Bool) → (b ≡ true → f < N) → Alike N σ (if b then Reader.makes (Lines.bit w f (eqb v 1)) else Reader.refuses 5) (if b then Reader.makes (Lines.bit w f (eqb v 1)) else Reader.refuses 5)
  bit_alike w f v true l = makes (bit (l refl))
  bit_alike w f v false l = refuses

  pub tell_alike : (s : Instruction) → Alike N σ (resolve N lines s) (resolve N R s)
  unfolding resolve
  tell_alike (Reader.constant w) = makes constant
  tell_alike (Reader.bit w f v) = bit_alike w f v (ltb f N && ltb v 2) (λ e. ltb-true f N (left (ltb f N) (ltb v 2) e))
    where
      left : (a b : Bool) → (a && b) ≡ true → a ≡ true
      left true b e = refl
      left false b e = e
  tell_alike (Reader.single w a) = given_alike (matched_at m a) (λ x r s. makes (single s))
  tell_alike (Reader.pair w a b) = given_alike (matched_at m a) (λ x r s. given_alike (matched_at m b) (λ y u t. makes (pair s t)))
  tell_alike (Reader.listed w l) = giving_alike l (λ xs rs t. makes (listed t))
  tell_alike (Reader.query q a) = given_alike (matched_at m a) (λ x r s. asks s)

-- ---- a line of states asks for states, and means what the line of rules means

module _ {N : ℕ} {σ : Aut} where
  all_states_lem : {xs : List ℕ} {rs : List (Rule N)} → AllSame N σ xs rs → All (λ x. x < states σ) xs
  all_states_lem nothing = tt
  all_states_lem (also s t) = (s.state, all_states_lem t)

  pub alike_asked : {l : Line ℕ} {m : Line (Rule N)} → LineAlike N σ l m → Asked N (states σ) l
  alike_asked constant = record { states = tt; field = tt }
  alike_asked (bit l) = record { states = tt; field = l }
  alike_asked (single s) = record { states = (s.state, tt); field = tt }
  alike_asked (pair s t) = record { states = (s.state, (t.state, tt)); field = tt }
  alike_asked (listed t) = record { states = all_states_lem t; field = tt }

  some_same : {xs : List ℕ} {rs : List (Rule N)} → AllSame N σ xs rs → InSome (each (rule N σ) xs) ≈ InSome (each (λ r. r) rs)
  unfolding In
  some_same nothing = λ w. (λ a. a, λ a. a)
  some_same (also s t) = either_same s.strings (some_same t)

  each_same : {xs : List ℕ} {rs : List (Rule N)} → AllSame N σ xs rs → InEach (each (rule N σ) xs) ≈ InEach (each (λ r. r) rs)
  unfolding In
  each_same nothing = λ w. (λ a. a, λ a. a)
  each_same (also s t) = both_same s.strings (each_same t)

  single_same : (w : Single) {x : ℕ} {r : Rule N} → Same N σ x r → In (means (rule N σ) (Lines.single w x)) ≈ In (means (λ r. r) (Lines.single w r))
  unfolding means In
  single_same Lines.not s = not_same s.strings
  single_same Lines.star s = star_same s.strings
  single_same Lines.next s = next_same s.strings

  pair_same : (w : Pair) {x y : ℕ} {r u : Rule N} → Same N σ x r → Same N σ y u → In (means (rule N σ) (Lines.pair w x y)) ≈ In (means (λ r. r) (Lines.pair w r u))
  unfolding means In
  pair_same Lines.or s t = some_same (also s (also t nothing))
  pair_same Lines.and s t = each_same (also s (also t nothing))
  pair_same Lines.xor s t = differ_same s.strings t.strings
  pair_same Lines.minus s t = minus_same s.strings t.strings
  pair_same Lines.seq s t = join_same s.strings t.strings
  pair_same Lines.until s t = until_same s.strings t.strings

  listed_same : (w : Listed) {xs : List ℕ} {rs : List (Rule N)} → AllSame N σ xs rs → In (means (rule N σ) (Lines.listed w xs)) ≈ In (means (λ r. r) (Lines.listed w rs))
  unfolding means In
  listed_same Lines.union t = some_same t
  listed_same Lines.inter t = each_same t

  pub alike_means : {l : Line ℕ} {m : Line (Rule N)} → LineAlike N σ l m → In (means (rule N σ) l) ≈ In (means (λ r. r) m)
  unfolding means
  alike_means (constant {w}) = at w
    where
      at : (w : Constant) → In (means (rule N σ) (Lines.constant w)) ≈ In (means (λ r. r) (Lines.constant w))
      at Lines.zero = λ u. (λ a. a, λ a. a)
      at Lines.one = λ u. (λ a. a, λ a. a)
      at Lines.all = λ u. (λ a. a, λ a. a)
      at Lines.dup = λ u. (λ a. a, λ a. a)
      at Lines.top = λ u. (λ a. a, λ a. a)
  alike_means (bit {w} {f} {v} l) = at w
    where
      at : (w : Bit) → In (means (rule N σ) (Lines.bit w f v)) ≈ In (means (λ r. r) (Lines.bit w f v))
      at Lines.test = λ u. (λ a. a, λ a. a)
      at Lines.set = λ u. (λ a. a, λ a. a)
  alike_means (single {w} s) = single_same w s
  alike_means (pair {w} s t) = pair_same w s t
  alike_means (listed {w} t) = listed_same w t
