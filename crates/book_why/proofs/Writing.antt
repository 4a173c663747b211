-- The parts of the sentence put together, and the whole answer.
use mathlib.Core.Path.{◌≡◌, refl, sym, ◌∙◌, ap, subst}
use mathlib.Core.Bool.{Bool}
use mathlib.Core.List.{List, [], ◌∷◌, ◌++◌, append_assoc, append-nil}
use mathlib.Core.Option.{Option, none, some}
use Prim.Native.Nat.{ℕ, suc, ◌+◌, ◌-◌, ◌^◌, ◌≤◌, ◌<◌}
use native.Mathlib.Omega.{arith}
use lib.Dec.{eqb}
use lib.ListN.{length, length-append}
use borrow.Author.Tests.{eqb-true, eqb-false}
use Rattle.std.specs.Prelude as code
use Rattle.common.specs.Packets.{Packet}
use Rattle.netkat.specs.Strings.{Str, str}
use Rattle.netkat_paths.specs.Order.{value}
use Rattle.netkat_paths.specs.Pick.{Way}
use Rattle.refusal.specs.declared.Refusal.{Refusal}
use Rattle.refusal.specs.declared.Refusal.TheVariants as refusals
use Rattle.aut_query_steps.specs.Tables.{Tables}
use Rattle.aut_query_steps.proofs.Tables.{both_wf}
use Rattle.aut_query_stage.specs.Lent.{tables_in}
use Rattle.aut_states.specs.declared.Config.{Config}
use Rattle.aut_states.specs.declared.Members.{Members}
use Rattle.aut_relations.specs.declared.Aut.{Aut as Lent}
use Rattle.aut_sets.specs.Lent.{OnlyScratch, OnlySearch}
use Rattle.aut_free.specs.Clear.{clear_tables}
use Rattle.aut_query_calls.specs.Working.{clear_in, with_members}
use Rattle.aut_query_calls.proofs.Works.{keeps_beside, beside_itself}
use Rattle.aut_why_steps.specs.Why.{Sets, fewest, pick_by}
use Rattle.aut_why_again.specs.Rounds.{hops_of}
use Rattle.aut_why_least.specs.Clauses.{Forgotten}
use Rattle.aut_why_least.proofs.Keeps.{least_zeroed, query_forgotten}
use Rattle.book_steps.specs.Text.{bytes}
use Rattle.book_steps.specs.Answers.{say, sentence, why_answer}
use Rattle.book_steps.specs.Sentence.{word_length, hops_length, sentence_length}
use Rattle.book_steps.proofs.Sentence.{sentence_length_lem}
use Rattle.book_writer.specs.declared.output.Output.{Output}
use Rattle.book_writer.specs.Clauses.{Room, Put, Answers}
use Rattle.book_writer.proofs.Sentence.{begun, begun_length, put_begun, put_hop, put_end, hop_room}
use Rattle.book_why.specs.Clauses.{GoingIn, Picks, PicksIn, Unmade, PreStart, Started, PostStart, PreNext, Nexted, PostNext, PreLast, Lasted, PostLast, PreString, Stringed, PostString, AnsweringIn, WhyAnswered, PostAnswer}
use Rattle.book_why.specs.declared.Spot.{Spot}
use Rattle.book_why.proofs.Picking.{scratch_tables}

-- what holds of the tables and the entries, where nothing but scratch was written
pub over : {x y : Lent} → OnlyScratch x y → (P : Tables → List ℕ → Type 0) → P (tables_in x) x.pending.now → P (tables_in y) y.pending.now
over {x} {y} K P h = rw K.pending (subst (λ (τ : Tables). P τ x.pending.now) (sym (scratch_tables K)) h)

-- ---- the sentence of w, with k hops, up to a hop

-- the start and some hops are written; j hops more and the end follow. o is the output before
pub record Written (g : Config) (n : ℕ) (ws : List Sets) (k : ℕ) (w : Str g.fields) (o : Output) (j : ℕ) (spot : Spot) (x : Lent) (o' : Output) : Type 0 where
  pub start : Packet g.fields
  pub hops : List (Packet g.fields)
  pub packet : Packet g.fields
  pub way : Way g.fields
  pub number : value packet ≡ spot.packet
  pub going : GoingIn g x n ws j spot.rounds.mark spot.state packet way
  pub whole : w ≡ str start (hops ++ way.hops) way.end
  pub count : length hops + j ≡ k
  pub same : spot.rounds.n ≡ n
  pub put : Put (begun g.fields start hops) o o'

module _ {g : Config} {n : ℕ} {ws : List Sets} {k : ℕ} {w : Str g.fields} {o : Output} where
  pub written_begin : {x y : Lent} {spot : Spot} {o' : Output} → Started g n ws k w x o spot y o' → Written g n ws k w o k spot y o'
  written_begin P = record {
    start = P.packet;
    hops = [];
    packet = P.packet;
    way = P.way;
    number = P.number;
    going = P.going;
    whole = P.whole;
    count = omega arith;
    same = P.same;
    put = put_begun g.fields P.packet P.number P.put;
  }

  module _ {spot : Spot} {x : Lent} {o' : Output} where
    -- one hop before
    pub written_down : {j : ℕ} → 0 < j → Written g n ws k w o j spot x o' → Written g n ws k w o (suc (j - 1)) spot x o'
    written_down {j} m I = subst (λ (j : ℕ). Written g n ws k w o j spot x o') {x = j} {y = suc (j - 1)} (omega arith) I

    behind : {j : ℕ} (I : Written g n ws k w o j spot x o') → o'.at ≡ o.at + (5 + word_length g.fields + hops_length g.fields (length I.hops))
    behind I = I.put.behind ∙ ap (λ (m : ℕ). o.at + m) (begun_length g.fields I.start I.hops)

    pub next_room : {j : ℕ} → Written g n ws k w o (suc j) spot x o' → Room (sentence_length g.fields k) o → Room (4 + word_length g.fields) o'
    next_room I m = omega (arith, behind I, hop_room g.fields (length I.hops) k (omega (arith, I.count)), I.put.wrote.len)

    pub last_room : Written g n ws k w o 0 spot x o' → Room (sentence_length g.fields k) o → Room (5 + word_length g.fields) o'
    last_room I m = omega (arith, behind I, ap (hops_length g.fields) {x = length I.hops} {y = k} (omega (arith, I.count)), I.put.wrote.len)

    pub written_next : {j : ℕ} (I : Written g n ws k w o (suc j) spot x o') {first : Bool} → eqb (j + 1) k ≡ first → {r : Spot} {y : Lent} {o'' : Output} → Nexted g n ws j first I.way x o' r y o'' → Written g n ws k w o j r y o''
    written_next {j} I {first} b X = record {
      start = I.start;
      hops = I.hops ++ X.packet ∷ [];
      packet = X.packet;
      way = X.way;
      number = X.number;
      going = X.going;
      whole = I.whole ∙ ap (λ (v : Way g.fields). str I.start (I.hops ++ v.hops) v.end) X.whole ∙ ap (λ (hs : List (Packet g.fields)). str I.start hs X.way.end) (sym (append_assoc I.hops (X.packet ∷ []) X.way.hops));
      count = omega (arith, I.count, length-append I.hops (X.packet ∷ []));
      same = X.same;
      put = put_hop g.fields I.start I.hops I.put X.packet X.number first
          (λ q. omega (arith, eqb-true (j + 1) k (b ∙ q), I.count))
          (λ q. let z : (j + 1 ≡ k → ⊥) = eqb-false (j + 1) k (b ∙ q) in omega (arith, z, I.count)) X.put;
    }

    pub written_last : (I : Written g n ws k w o 0 spot x o') {x₀ y : Lent} {o'' : Output} → Unmade x₀ x → OnlyScratch x y → Lasted g n ws I.way o' y o'' → Stringed g n ws w x₀ o y o''
    written_last I {o'' = o''} u K X = record {
      unmade = ap clear_tables (scratch_tables K) ∙ u;
      standing = X.standing;
      put = subst (λ (w : Str g.fields). Put (sentence g.fields w) o o'') (sym is) (put_end g.fields I.start I.hops I.put X.packet X.is X.put);
    }
      where
        is : w ≡ str I.start I.hops X.packet
        is = I.whole ∙ ap (λ (v : Way g.fields). str I.start (I.hops ++ v.hops) v.end) X.whole ∙ ap (λ (hs : List (Packet g.fields)). str I.start hs X.packet) (append-nil I.hops)

-- ---- the loop over the hops

-- what was begun where the loop begins goes on, whatever was asked
pub record Hopping (g : Config) (n k : ℕ) (x₀ : Lent) (o₀ : Output) (spot₀ : Spot) (j₀ : ℕ) (x : Lent) (o : Output) (spot : Spot) (j : ℕ) : Type 0 where
  pub writes : (mem : Members) (ws : List Sets) (w : Str g.fields) (before : Output) → Written g n ws k w before j₀ spot₀ (with_members mem x₀) o₀
      → Written g n ws k w before j spot (with_members mem x) o × Unmade (with_members mem x₀) (with_members mem x)

module _ {g : Config} {n k : ℕ} {x₀ : Lent} {o₀ : Output} {spot₀ : Spot} {j₀ : ℕ} where
  pub hopping_begin : Hopping g n k x₀ o₀ spot₀ j₀ x₀ o₀ spot₀ j₀
  hopping_begin = record { writes = λ mem ws w before B. (B, refl) }

  pub hopping_next : {x : Lent} {o : Output} {spot : Spot} {j : ℕ} → Hopping g n k x₀ o₀ spot₀ j₀ x o spot j → 0 < j → {first : Bool} → eqb (j - 1 + 1) k ≡ first → {r : Spot} {y : Lent} {o' : Output} → PostNext g spot.rounds.n (j - 1) first spot x o r y o'
      → Hopping g n k x₀ o₀ spot₀ j₀ y o' r (j - 1)
  hopping_next {x} {o} {spot} {j} I m {first} b {r} {y} {o'} E = record {
    writes = λ mem ws w before B.
        let (i, u) = I.writes mem ws w before B in
        let i' = written_down m i in
        let X = subst (λ (n : ℕ). Nexted g n ws (j - 1) first i'.way (with_members mem x) o r (with_members mem y) o') i'.same
        (E.gives mem ws i'.packet i'.way i'.number (subst (λ (n : ℕ). GoingIn g (with_members mem x) n ws (suc (j - 1)) spot.rounds.mark spot.state i'.packet i'.way) (sym i'.same) i'.going)) in
        (written_next i' b X, X.unmade ∙ u);
  }

module _ {g : Config} {n k i : ℕ} {x₀ y₀ : Lent} {o₀ p₀ : Output} {spot₀ : Spot} (E : PostStart g n k i x₀ o₀ spot₀ y₀ p₀) {x : Lent} {o : Output} {spot : Spot} {j : ℕ}
    (I : Hopping g n k y₀ p₀ spot₀ k x o spot j) where
  going_on : (mem : Members) {ws : List Sets} {w : Str g.fields} → PicksIn g (with_members mem x₀) n ws k i w → Written g n ws k w o₀ j spot (with_members mem x) o × Unmade (with_members mem x₀) (with_members mem x)
  going_on mem {ws} {w} P =
      let S = E.gives mem ws w P in
      let (i, u) = I.writes mem ws w o₀ (written_begin S) in
      (i, u ∙ S.unmade)

  pub string_next : 0 < j → PreString g x₀ o₀ n k i → PreNext g x o spot.rounds.n (j - 1) spot
  string_next m P =
      let i = written_down m (going_on P.members P.picks).0 in
      subst (λ (n : ℕ). PreNext g x o n (j - 1) spot) (sym i.same) (record { members = P.members; rounds = P.rounds; packet = i.packet; way = i.way; number = i.number; going = i.going; room = next_room i P.room })

  ended : j ≤ 0 → {ws : List Sets} {w : Str g.fields} {z : Lent} → Written g n ws k w o₀ j spot z o → Written g n ws k w o₀ 0 spot z o
  ended m {ws} {w} {z} i = subst (λ (j : ℕ). Written g n ws k w o₀ j spot z o) {x = j} {y = 0} (omega (arith, m)) i

  pub string_last : j ≤ 0 → PreString g x₀ o₀ n k i → PreLast g x o spot
  string_last m P =
      let i = ended m (going_on P.members P.picks).0 in
      record { members = P.members; count = n; rounds = P.rounds; packet = i.packet; way = i.way; number = i.number; going = i.going; room = last_room i P.room }

  pub string_done : j ≤ 0 → {y : Lent} {o' : Output} → OnlyScratch x y → PostLast g spot x o y o' → PostString g n k i x₀ o₀ y o'
  string_done m K L = record {
    gives = λ mem ws w P.
        let (i₀, u) = going_on mem P in
        let i = ended m i₀ in
        written_last i u (keeps_beside mem K) (L.gives mem n ws i.packet i.way i.number i.going);
  }

pub string_first : {g : Config} {x : Lent} {o : Output} {n k i : ℕ} → PreString g x o n k i → PreStart g x o n k i
string_first P = record { members = P.members; rounds = P.rounds; string = P.string; picks = P.picks; most = P.most; room = omega (arith, P.room) }

-- ---- the answer

some_of : (o : Option ℕ) {f : code.Option ℕ} {k : ℕ} → f ≡ hops_of o → f ≡ code.Some k → o ≡ some k
some_of none e q = let z : ◌≡◌ {A = code.Option ℕ} code.None (code.Some _) = sym e ∙ q in cc
some_of (some j) {k = k} e q = let z : ◌≡◌ {A = code.Option ℕ} (code.Some j) (code.Some k) = sym e ∙ q in ap some {x = j} {y = k} cc

none_of : (o : Option ℕ) {f : code.Option ℕ} → f ≡ hops_of o → f ≡ code.None → o ≡ none
none_of none e q = refl
none_of (some j) e q = let z : ◌≡◌ {A = code.Option ℕ} (code.Some j) code.None = sym e ∙ q in cc

module _ (g : Config) (x : Lent) {n : ℕ} {ws : List Sets} {f : code.Option ℕ} {i : ℕ} (A : AnsweringIn g x n ws f i) where
  abbrev N : ℕ
  N = g.fields

  abbrev told : List ℕ
  told = why_answer N (pick_by N (clear_in x) ws i (fewest N i 0 ws))

  pub answer_none : {o o' : Output} {r : code.Result Unit Refusal} → f ≡ code.None → Answers (say (bytes "none" ∷ [])) o r o' → WhyAnswered g n ws i x o r x o'
  answer_none {o} {o'} {r} z B = record {
    unmade = refl;
    standing = A.standing;
    answers = subst (λ (bs : List ℕ). Answers bs o r o') (ap (λ (m : Option ℕ). why_answer N (pick_by N (clear_in x) ws i m)) (sym (none_of (fewest N i 0 ws) A.hops z))) B;
  }

  module _ {k : ℕ} (e : f ≡ code.Some k) where
    pub fewest_is : fewest N i 0 ws ≡ some k
    fewest_is = some_of (fewest N i 0 ws) A.hops e

    pub most : k ≤ 2 ^ 55
    most = rw e at A.most

    abbrev pub string : Str N
    string = (A.known k fewest_is).0

    told_is : told ≡ sentence N string
    told_is = ap (λ (m : Option ℕ). why_answer N (pick_by N (clear_in x) ws i m)) fewest_is ∙ ap (why_answer N) (A.known k fewest_is).1

    told_long : length told ≡ sentence_length N k
    told_long = ap length told_is ∙ sentence_length_lem N string k (A.known k fewest_is).3

    pub answer_full : {o : Output} {e : Refusal} → e ≡ refusals.Output → length o.bytes.now < o.at + sentence_length N k → WhyAnswered g n ws i x o (code.Err e) x o
    answer_full p z = record { unmade = refl; standing = A.standing; answers = (p, omega (arith, told_long), refl) }

    module _ {y : Lent} (K : OnlyScratch x y) (F : Forgotten x.scratch.now y.scratch.now) where
      pub answer_picks : PicksIn g y n ws k i string
      answer_picks =
          let W = A.standing.walk in
          let R = query_forgotten W.working.ready F K.scratch.length in
          over K (λ τ p. Picks N g.limits τ y.scratch.now p n ws k i string) (record {
            standing = record {
              walk = record { working = record { ready = R; fresh = W.working.fresh }; links = W.links; rest = W.rest; first = W.first; after = W.after; room = W.room };
              again = A.standing.again;
            };
            least = record { few = R.ready.few; wf = both_wf R.ordered; room = R.ready.room; sound = least_zeroed F };
            inside = (A.known k fewest_is).2;
            among = A.among;
            is = (A.known k fewest_is).1;
          })

      pub answer_told : {o : Output} {z : Lent} {o' : Output} → Stringed g n ws string y o z o' → WhyAnswered g n ws i x o (code.Ok tt) z o'
      answer_told {o} {z} {o'} X = record {
        unmade = X.unmade ∙ ap clear_tables (scratch_tables K);
        standing = X.standing;
        answers = subst (λ (bs : List ℕ). Put bs o o') (sym told_is) X.put;
      }

-- .. with the members that are lent
pub answered_itself : {g : Config} {n : ℕ} {f : code.Option ℕ} {i : ℕ} {x : Lent} {o : Output} {r : code.Result Unit Refusal} {y : Lent} {o' : Output} → OnlySearch x y → PostAnswer g n f i x o r y o' → (ws : List Sets) → AnsweringIn g x n ws f i → WhyAnswered g n ws i x o r y o'
answered_itself {g} {n} {f} {i} {x} {o} {r} {y} {o'} K B ws A = subst (λ (z : Lent). WhyAnswered g n ws i x o r z o') (beside_itself x y K.members) (B.gives x.members ws A)
