-- What a line is told to do, by what it says and by the lines before it.
use Rattle.std.specs.Prelude.{if◌then◌else◌, Result, Ok, Err}
use mathlib.Core.Path.{◌≡◌, refl, sym, ◌∙◌, ap, ap₂, subst}
use mathlib.Core.Bool.{Bool, ◌&&◌}
use mathlib.Core.List.{List}
use mathlib.Core.Option.{Option, none, some}
use Prim.Native.Nat.{ℕ, ◌≤◌, ◌<◌}
use native.Mathlib.Omega.{arith}
use lib.Dec.{ltb, eqb}
use lib.ListN.{length, get_or}
use borrow.Author.Tests.{lt-ltb, le-ltb}
use Rattle.common.specs.Outcome.{Outcome, refused}
use Rattle.common.specs.Runs.{placed}
use Rattle.aut_steps.specs.Tables.{Limits, Aut}
use Rattle.aut_steps.specs.Ascending.{All}
use Rattle.aut_steps.specs.Constructors.{mk_union_n, mk_intersect_n}
use Rattle.aut_steps.proofs.Scratch.{kept_refl}
use Rattle.book_construct_steps.specs.Lines as Lines
use Rattle.aut_delta_steps.specs.Delta.{put_aut}
use Rattle.aut_query_steps.specs.Tables.{put_base}
use Rattle.book_steps.specs.Reader as Reader
use Rattle.book_steps.specs.Reader.{given, resolve, makes, asks, refuses, numbers}
use Rattle.book_steps.specs.Run.{place, execute, step, after_making}
use Rattle.aut_states.specs.Clauses.{limits_of}
use Rattle.aut_states.specs.declared.Config.{Config}
use Rattle.book_words.specs.Clauses.{constant_of, bit_of, single_of, pair_of, listed_of}
use Rattle.book_words.specs.declared.Constant.{Constant}
use Rattle.book_words.specs.declared.Bit.{Bit}
use Rattle.book_words.specs.declared.Single.{Single}
use Rattle.book_words.specs.declared.Pair.{Pair}
use Rattle.book_words.specs.declared.Listed.{Listed}
use Rattle.book_words.specs.declared.Listed.TheVariants as listed
use Rattle.book_construct.specs.declared.Line.TheVariants as line
use Rattle.book_reader.specs.Clauses.{rest, query_of, said_of, SaidListed}
use Rattle.book_reader.specs.declared.Cursor.{Cursor}
use Rattle.book_reader.specs.declared.Query.{Query}
use Rattle.book_reader.specs.declared.Said.{Said}
use Rattle.book_reader.specs.declared.Said.TheVariants as said
use Rattle.std.specs.Prelude as code
use Rattle.book_reader.proofs.Saying.{list_is}
use Rattle.refusal.specs.declared.Refusal.{Refusal}
use Rattle.refusal.specs.declared.Refusal.TheVariants as refusals
use Rattle.book_memory.specs.declared.Lines.{Lines as Table}
use Rattle.book_memory.specs.declared.Place.{Place}
use Rattle.book_memory.specs.Place.{lines_at, lines_in, Below}
use Rattle.book_place.specs.declared.Told.{Told}
use Rattle.book_place.specs.declared.Told.TheVariants as told
use Rattle.book_place.specs.Clauses.{Found, PreOperands, PostOperands, told_of, ToldReady, setting_by, Alike, TellsBit, TellsPair, TellsList, PreTold, PostTold}

-- ---- test, set

module _ (N : ℕ) (w : Bit) (f v : ℕ) where
  bit_by : {b : Bool} → (ltb f N && ltb v 2) ≡ b → (lines : List (Option ℕ)) → resolve N lines (Reader.bit (bit_of w) f v) ≡ (if b then makes (Lines.bit (bit_of w) f (eqb v 1)) else refuses 5)
  unfolding resolve
  bit_by e lines = ap (λ (b : Bool). if b then makes (Lines.bit (bit_of w) f (eqb v 1)) else refuses 5) e

  pub bit_field : N ≤ f → TellsBit N w f v (Err refusals.Range)
  bit_field l = record { is = λ lines s. bit_by (ap (λ (b : Bool). b && ltb v 2) (le-ltb f N l)) lines; ready = λ n s. tt }

  pub bit_value : f < N → 1 < v → TellsBit N w f v (Err refusals.Range)
  bit_value l m = record { is = λ lines s. bit_by (ap₂ ◌&&◌ (lt-ltb f N l) (le-ltb v 2 (omega arith))) lines; ready = λ n s. tt }

  pub bit_makes : f < N → v ≤ 1 → {b : Bool} → eqb v 1 ≡ b → TellsBit N w f v (Ok (told.Makes (line.Bit w f b)))
  bit_makes l m {b} e = record {
    is = λ lines s. bit_by (ap₂ ◌&&◌ (lt-ltb f N l) (lt-ltb v 2 (omega arith))) lines ∙ ap (λ (x : Bool). makes (Lines.bit (bit_of w) f x)) e;
    ready = λ n s. record { asked = record { states = tt; field = l }; short = tt };
  }

-- ---- two

module _ (t : Table) (w : Pair) (a b : ℕ) where
  abbrev lines : List (Option ℕ)
  lines = lines_at t

  pair_by : (N : ℕ) {o p : Option ℕ} → get_or lines a none ≡ o → get_or lines b none ≡ p
      → resolve N lines (Reader.pair (pair_of w) a b) ≡ given N lines o (λ x. given N lines p (λ y. makes (Lines.pair (pair_of w) x y)))
  unfolding resolve
  pair_by N e f = ap₂ (λ (o p : Option ℕ). given N lines o (λ x. given N lines p (λ y. makes (Lines.pair (pair_of w) x y)))) e f

  pub pair_no_first : get_or lines a none ≡ none → TellsPair t w a b (Err refusals.Name)
  pair_no_first e = record { is = λ N s. pair_by N e refl; ready = λ N n s B. tt }

  module _ {x : ℕ} (e : get_or lines a none ≡ some x) where
    pub pair_no_second : get_or lines b none ≡ none → TellsPair t w a b (Err refusals.Name)
    pair_no_second f = record { is = λ N s. pair_by N e f; ready = λ N n s B. tt }

    pub pair_makes : {y : ℕ} → get_or lines b none ≡ some y → TellsPair t w a b (Ok (told.Makes (line.Pair w x y)))
    pair_makes {y} f = record {
      is = λ N s. pair_by N e f;
      ready = λ N n s B. record { asked = record { states = (B a x e, (B b y f, tt)); field = tt }; short = tt };
    }

-- ---- any number

list_long : (N : ℕ) (L : Limits) (w : Listed) (xs : List ℕ) (σ : Aut) → L.list < length xs → Lines.make N L (Lines.listed (listed_of w) xs) σ ≡ refused 6
unfolding mk_union_n mk_intersect_n
list_long N L listed.Union xs σ l = simp (lt-ltb L.list (length xs) l)
list_long N L listed.Inter xs σ l = simp (lt-ltb L.list (length xs) l)

list_tell : (N : ℕ) (ls : List (Option ℕ)) (w : Listed) (l : List ℕ) → resolve N ls (Reader.listed (listed_of w) l) ≡ Reader.giving N ls l (λ xs. makes (Lines.listed (listed_of w) xs))
unfolding resolve
list_tell N ls w l = refl

pub alike : (N : ℕ) (L : Limits) (lines : List (Option ℕ)) {t u : Reader.Resolved ℕ} → t ≡ u → Alike N L lines t u
alike N L lines e b i r τ out = ap (λ (t : Reader.Resolved ℕ). execute (setting_by N b L i r) t (place τ lines out)) e

module _ (most : ℕ) (w : Listed) (c : Cursor) {n : ℕ} {x y : Place} where
  pub list_bad : {e : Refusal} → PostOperands most c n (Err e) x y → TellsList most w c (Err e) x y
  list_bad P = record {
    kept = P.kept;
    is = λ N L l m q. alike N L (lines_in x) (list_tell N (lines_in x) w l ∙ P.is N l q (λ xs. makes (Lines.listed (listed_of w) xs)));
    ready = λ N n B. tt;
  }

  module _ {u : Unit} (P : PostOperands most c n (Ok u) x y) where
    list_found : Found (lines_in x) most c n y.aut.scratch.now
    list_found = P.is

    list_is_told : (N : ℕ) (l : List ℕ) → numbers (rest c) ≡ some l → resolve N (lines_in x) (Reader.listed (listed_of w) l) ≡ makes (Lines.listed (listed_of w) list_found.states)
    list_is_told N l q = list_tell N (lines_in x) w l ∙ list_found.is N l q (λ xs. makes (Lines.listed (listed_of w) xs))

    pub list_too_long : most < n → TellsList most w c (Err refusals.List) x y
    list_too_long h = record {
      kept = P.kept;
      is = λ N L l m q b i r τ out.
          alike N L (lines_in x) (list_is_told N l q) b i r τ out
          ∙ ap (λ (o : Outcome Aut ℕ). after_making (setting_by N b L i r) (place τ (lines_in x) out) (placed put_base τ (placed put_aut τ.base o)))
          (list_long N L w list_found.states τ.base.aut (omega (arith, m, list_found.size)));
      ready = λ N n B. tt;
    }

    pub list_makes : n ≤ most → most ≤ 64 → TellsList most w c (Ok (told.Makes (line.Listed w n))) x y
    list_makes h few = record {
      kept = P.kept;
      is = λ N L l m q. alike N L (lines_in x) (list_is_told N l q ∙ ap (λ (xs : List ℕ). makes (Lines.listed (listed_of w) xs)) (sym (list_found.words h)));
      ready = λ N b B. record { asked = record { states = subst (All (λ z. z < b)) (sym (list_found.words h)) (list_found.below b B); field = tt }; short = omega arith };
    }

-- ---- all of it

module _ (config : Config) (x : Place) where
  single_by : (w : Single) (a : ℕ) {o : Option ℕ} → get_or (lines_in x) a none ≡ o → resolve config.fields (lines_in x) (Reader.single (single_of w) a) ≡ given config.fields (lines_in x) o (λ x. makes (Lines.single (single_of w) x))
  unfolding resolve
  single_by w a f = ap (λ (o : Option ℕ). given config.fields (lines_in x) o (λ x. makes (Lines.single (single_of w) x))) f

  query_by : (q : Query) (a : ℕ) {o : Option ℕ} → get_or (lines_in x) a none ≡ o → resolve config.fields (lines_in x) (Reader.query (query_of q) a) ≡ given config.fields (lines_in x) o (λ x. asks (query_of q) a x)
  unfolding resolve
  query_by q a f = ap (λ (o : Option ℕ). given config.fields (lines_in x) o (λ x. asks (query_of q) a x)) f

  module _ {r : code.Option Said} where
    -- a line that writes no list
    plain : {t : Result Told Refusal} (I : Reader.Instruction) → said_of r ≡ some I → ((s' : List ℕ) → resolve config.fields (lines_in x) I ≡ told_of s' t) → ((n : ℕ) → Below n (lines_in x) → ToldReady config.fields n x.aut.scratch.now t)
        → PostTold config r t x x
    plain {t} I e f g = record {
      kept = kept_refl 0 64 x.aut.scratch.now;
      is = λ b i m τ out. ap (λ (o : Option Reader.Instruction). step (setting_by config.fields b (limits_of config.limits) i m) o (place τ (lines_in x) out)) e
          ∙ alike config.fields (limits_of config.limits) (lines_in x) (f x.aut.scratch.now) b i m τ out;
      ready = g;
    }

    pub told_constant : {w : Constant} → r ≡ code.Some (said.Constant w) → PostTold config r (Ok (told.Makes (line.Constant w))) x x
    unfolding resolve
    told_constant {w} e = plain (Reader.constant (constant_of w)) (ap said_of e) (λ s'. refl) (λ n B. record { asked = record { states = tt; field = tt }; short = tt })

    pub told_bit : {w : Bit} {f v : ℕ} {t : Result Told Refusal} → r ≡ code.Some (said.Bit w f v) → TellsBit config.fields w f v t → PostTold config r t x x
    told_bit {w} {f} {v} e T = plain (Reader.bit (bit_of w) f v) (ap said_of e) (T.is (lines_in x)) (λ n B. T.ready n x.aut.scratch.now)

    pub told_pair : {w : Pair} {a b : ℕ} {t : Result Told Refusal} → r ≡ code.Some (said.Pair w a b) → TellsPair x.lines w a b t → PostTold config r t x x
    told_pair {w} {a} {b} e T = plain (Reader.pair (pair_of w) a b) (ap said_of e) (T.is config.fields) (λ n B. T.ready config.fields n x.aut.scratch.now B)

    module _ {a z : ℕ} (M : get_or (lines_in x) a none ≡ some z) where
      pub told_single : {w : Single} → r ≡ code.Some (said.Single w a) → PostTold config r (Ok (told.Makes (line.Single w z))) x x
      told_single {w} e = plain (Reader.single (single_of w) a) (ap said_of e) (λ s'. single_by w a M)
          (λ n B. record { asked = record { states = (B a z M, tt); field = tt }; short = tt })

      pub told_query : {w : Query} → r ≡ code.Some (said.Query w a) → PostTold config r (Ok (told.Asks w a z)) x x
      told_query {w} e = plain (Reader.query (query_of w) a) (ap said_of e) (λ s'. query_by w a M) (λ n B. B a z M)

    module _ {a : ℕ} (M : get_or (lines_in x) a none ≡ none) where
      pub told_no_single : {w : Single} → r ≡ code.Some (said.Single w a) → PostTold config r (Err refusals.Name) x x
      told_no_single {w} e = plain (Reader.single (single_of w) a) (ap said_of e) (λ s'. single_by w a M) (λ n B. tt)

      pub told_no_query : {w : Query} → r ≡ code.Some (said.Query w a) → PostTold config r (Err refusals.Name) x x
      told_no_query {w} e = plain (Reader.query (query_of w) a) (ap said_of e) (λ s'. query_by w a M) (λ n B. tt)

    -- a list
    module _ {w : Listed} {c : Cursor} {n : ℕ} (e : r ≡ code.Some (said.Listed w c n)) (p : PreTold config r x) where
      pub list_ready : PreOperands config.limits.list c n x
      list_ready = record { first = record { lines = p.lines; room = p.room; few = p.few }; counted = subst SaidListed e p.listed }

      pub told_listed : {t : Result Told Refusal} {y : Place} → TellsList config.limits.list w c t x y → PostTold config r t x y
      told_listed T = let m = list_is list_ready.counted in record {
        kept = T.kept;
        is = λ b i n τ out.
            ap (λ (o : Option Reader.Instruction). step (setting_by config.fields b (limits_of config.limits) i n) o (place τ (lines_in x) out)) (ap said_of e ∙ ap (Reader.map (λ l. Reader.listed (listed_of w) l)) m.is)
            ∙ T.is config.fields (limits_of config.limits) m.list refl m.is b i n τ out;
        ready = T.ready config.fields;
      }
