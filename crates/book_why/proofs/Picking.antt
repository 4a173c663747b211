-- The picking of a string, a part at a time: what the functions that are called ask, and what the part comes to.
use mathlib.Core.Path.{◌≡◌, refl, sym, ◌∙◌, ap, ap₂, subst}
use mathlib.Core.List.{List, map}
use mathlib.Core.Option.{none, some}
use Prim.Native.Nat.{ℕ, suc, ◌+◌, ◌*◌, ◌-◌, ◌^◌, ◌<◌}
use native.Mathlib.Omega.{arith}
use lib.ListN.{length, get_or}
use Rattle.std.specs.Prelude as code
use Rattle.common.specs.Packets.{Packet, Set, Relation}
use Rattle.common.specs.Runs.{Table}
use Rattle.netkat.specs.Lists.{State, Transition}
use Rattle.netkat.specs.Strings.{Str}
use Rattle.netkat_paths.specs.Order.{value, least}
use Rattle.netkat_paths.specs.Pick.{Hop, Way, arrive, onward, from, hop}
use Rattle.netkat_paths.proofs.OrderLaws.{value_small}
use Rattle.netkat_paths.proofs.PickLaws.{way_next, way_end, pick_start}
use Rattle.sp_steps.specs.Model as Sp
use Rattle.sp_steps.specs.Wf as SpLaws
use Rattle.spp_steps.specs.Model as Spp
use Rattle.spp_steps.specs.ImageModel.{Stores}
use Rattle.aut_steps.specs.Relations as Rel
use Rattle.aut_delta_steps.specs.Epsilon.{value_of}
use Rattle.aut_delta_steps.specs.EpsilonDown.{Known}
use Rattle.aut_delta_steps.specs.Delta.{list_at}
use Rattle.aut_delta_steps.specs.PlainSearch.{decoded}
use Rattle.aut_query_steps.specs.Tables.{Tables, diagrams}
use Rattle.aut_query_steps.proofs.Tables.{later_refl}
use Rattle.aut_query_stage.specs.Lent.{tables_in}
use Rattle.aut_states.specs.declared.Limits.{Limits}
use Rattle.aut_relations.specs.declared.Aut.{Aut as Lent}
use Rattle.aut_free.specs.Clear.{clear_tables}
use Rattle.aut_live_words.specs.Work.{seconds}
use Rattle.aut_why_steps.specs.Why.{Sets, round_at}
use Rattle.aut_why_words.specs.Walk.{Standing}
use Rattle.aut_query_calls.specs.Working.{words_in}
use Rattle.aut_why_again.specs.Rounds.{Visited}
use Rattle.aut_why_again.proofs.Turns.{value_clear, ends_there, ends_known, value_at}
use Rattle.aut_why_again.specs.Clauses.{Earlier, SetsFor}
use Rattle.spp_least.specs.Clauses.{number_of, LeastNoted}
use Rattle.aut_sets.specs.Clauses.{NotesBehind}
use Rattle.aut_sets.specs.Lent.{OnlyScratch}
use Rattle.aut_why_least.specs.Clauses.{PreEnd, PostEnd}
use Rattle.aut_why_least.proofs.Keeps.{least_kept, least_own, query_kept}
use Rattle.aut_why_hop.specs.Clauses.{LeastReady, PreHop, PostHop}
use Rattle.aut_why_hop.proofs.Ready.{hop_ready, hop_there, hop_to_lem, hop_among}
use Rattle.book_why.specs.Clauses.{way_at, Going, Picks}

-- ---- what stands in the tables, as functions of the state

module _ (N : ℕ) (σ : Tables) (ws : List Sets) where
  abbrev epsilons : State → Relation N
  epsilons s = Rel.pairs N σ.base.aut.nodes (value_of (words_in σ) s)

  abbrev deltas : State → List (Transition State N)
  deltas s = map (decoded N σ.base.aut) (list_at σ.base s)

  abbrev rounds : ℕ → State → Set N
  rounds j s = Sp.mem σ.sets.words N (round_at N ws j s)

-- nothing but scratch was written
pub scratch_tables : {x y : Lent} → OnlyScratch x y → tables_in y ≡ tables_in x
scratch_tables {x} {y} K = rw K.sp (rw K.spp (rw K.states (rw K.members (rw K.transitions refl))))

-- ---- a round worked out again

module _ {N : ℕ} {l : Limits} {σ τ : Tables} {s s' p : List ℕ} {n : ℕ} {ws : List Sets} {j r : ℕ} (S : SetsFor N l p n ws j r σ τ s s') where
  again_sets : τ.sets ≡ σ.sets
  again_sets = ap (λ (κ : Tables). κ.sets) S.tables

  again_least : LeastReady N (diagrams σ) s → LeastReady N (diagrams τ) s'
  again_least R = subst (λ (d : Stores). LeastReady N d s') (sym (ap diagrams S.tables)) (record {
    few = R.few;
    wf = R.wf;
    room = omega (arith, R.room, S.len);
    sound = least_kept (later_refl (clear_tables σ)) S.frame R.sound;
  })

  again_set : (y : ℕ) → SpLaws.ValidAt τ.sets N (round_at N ws j y)
  again_set y = S.standing.again.at j y

-- least packets were noted

standing_noted : {N : ℕ} {l : Limits} {σ : Tables} {s s' p : List ℕ} {n : ℕ} {ws : List Sets} → Standing N l σ s p n ws → NotesBehind (LeastNoted (diagrams σ)) s s' → length s' ≡ length s → Standing N l σ s' p n ws
standing_noted T k len = record {
  walk = record {
    working = record { ready = query_kept T.walk.working.ready k len; fresh = T.walk.working.fresh };
    links = T.walk.links;
    rest = T.walk.rest;
    first = T.walk.first;
    after = T.walk.after;
    room = T.walk.room;
  };
  again = T.again;
}

least_noted : {N : ℕ} {ρ : Stores} {s s' : List ℕ} → LeastReady N ρ s → NotesBehind (LeastNoted ρ) s s' → length s' ≡ length s → LeastReady N ρ s'
least_noted R k len = record { few = R.few; wf = R.wf; room = omega (arith, R.room); sound = least_own k R.sound }

-- ---- what is there

pub there : {T : Type 0} {m : code.Option T} {a : T} → m ≡ code.Some a → code.IsSome m
there e = ap code.is_some e

pub same_there : {T : Type 0} {m : code.Option T} {a b : T} → m ≡ code.Some a → m ≡ code.Some b → a ≡ b
same_there e f = cc

-- ---- the start

module _ {N : ℕ} {l : Limits} {σ : Tables} {s p : List ℕ} {n : ℕ} {ws : List Sets} {k x : ℕ} {w : Str N} (P : Picks N l σ s p n ws k x w) where
  pub start_earlier : Earlier N l σ s p n ws k (k + 1)
  start_earlier = record { standing = P.standing; has = P.inside; marked = λ m. absurd (omega arith) }

  module _ {τ : Tables} {s' : List ℕ} {r : ℕ} (S : SetsFor N l p n ws k r σ τ s s') where
    start_word : get_or (words_in τ) (12 * x + 8) 0 ≡ round_at N ws k x + 1
    start_word = S.round.is x P.among

    start_set : get_or (words_in τ) (12 * x + 8) 0 - 1 ≡ round_at N ws k x
    start_set = omega (arith, start_word)

    -- a packet, and what follows it
    pub record Begun (m : code.Option ℕ) : Type 0 where
      pub packet : Packet N
      pub way : Way N
      pub number : m ≡ code.Some (value packet)
      pub going : Going N l τ s' p n ws k r x packet way
      pub whole : w ≡ from packet way

    pub begun : {m : code.Option ℕ} → m ≡ number_of (least N (Sp.mem τ.sets.words N (get_or (words_in τ) (12 * x + 8) 0 - 1))) → Begun m
    begun A =
        let (q, v, a, b, c) = pick_start (epsilons N (clear_tables σ) ws) (deltas N (clear_tables σ) ws) (rounds N (clear_tables σ) ws) k x P.is in
        record {
          packet = q;
          way = v;
          number = A ∙ ap₂ (λ (t : Table) (b : ℕ). number_of (least N (Sp.mem t.words N b))) (again_sets S) start_set ∙ ap number_of a;
          going = record {
            standing = S.standing;
            least = again_least S P.least;
            inside = P.inside;
            marked = S.marked;
            among = P.among;
            way = subst (λ (τ : Tables). way_at N τ ws k x q ≡ some v) (sym S.tables) b;
          };
          whole = c;
        }

-- ---- a hop

module _ {N : ℕ} {l : Limits} {σ : Tables} {s p : List ℕ} {n : ℕ} {ws : List Sets} {j mark x m : ℕ} {q : Packet N} {v : Way N} (e : value q ≡ m) (G : Going N l σ s p n ws (suc j) mark x q v) where
  pub next_earlier : Earlier N l σ s p n ws j mark
  next_earlier = record { standing = G.standing; has = omega (arith, G.inside); marked = λ m. G.marked }

  module _ {τ : Tables} {s' : List ℕ} {r : ℕ} (S : SetsFor N l p n ws j r σ τ s s') where
    pub next_asks : PreHop N (diagrams τ) (words_in τ) τ.base.transitions.words s' x m
    next_asks = hop_ready S.standing.walk x G.among (round_at N ws j) S.round (λ y k. again_set S y) q e (again_least S G.least)

    next_way : way_at N (clear_tables τ) ws (suc j) x q ≡ some v
    next_way = subst (λ (τ : Tables). way_at N τ ws (suc j) x q ≡ some v) (sym S.tables) G.way

    nexts : (h : Hop N) × (u : Way N) × (hop (deltas N (clear_tables τ) ws x) (rounds N (clear_tables τ) ws j) q none ≡ some h) × (way_at N (clear_tables τ) ws j h.target h.packet ≡ some u) × (v ≡ onward h.packet u)
    nexts = way_next (epsilons N (clear_tables τ) ws) (deltas N (clear_tables τ) ws) (rounds N (clear_tables τ) ws) j x q next_way

    pub next_never : {s'' : List ℕ} → PostHop N (diagrams τ) (words_in τ) τ.base.transitions.words x m code.None s' s'' → ⊥
    next_never H = hop_there S.standing.walk x G.among (round_at N ws j) S.round (λ y k. again_set S y) H q e nexts.2 refl

    pub next_there : {s'' : List ℕ} (r : code.Option (ℕ × ℕ)) → PostHop N (diagrams τ) (words_in τ) τ.base.transitions.words x m r s' s'' → code.IsSome r
    next_there (code.Some h) H = refl
    next_there code.None H = absurd (next_never H)

    -- the packet a, the state b, and what follows
    pub record Hopped (a b : ℕ) (s'' : List ℕ) : Type 0 where
      pub packet : Packet N
      pub way : Way N
      pub number : value packet ≡ a
      pub going : Going N l τ s'' p n ws j r b packet way
      pub whole : v ≡ onward packet way

    pub hopped : {a b : ℕ} {s'' : List ℕ} → PostHop N (diagrams τ) (words_in τ) τ.base.transitions.words x m (code.Some (a, b)) s' s'' → length s'' ≡ length s' → Hopped a b s''
    hopped {a} {b} {s''} H len =
        let at = hop_to_lem S.standing.walk x G.among (round_at N ws j) S.round (λ y k. again_set S y) H q e nexts.2 refl in
        record {
          packet = nexts.0.packet;
          way = nexts.1;
          number = sym at.0;
          going = subst (λ (y : ℕ). Going N l τ s'' p n ws j r y nexts.0.packet nexts.1) (sym at.1) (record {
            standing = standing_noted S.standing H.left len;
            least = least_noted (again_least S G.least) H.left len;
            inside = omega (arith, G.inside);
            marked = S.marked;
            among = hop_among S.standing.walk x G.among (round_at N ws j) S.round (λ y k. again_set S y) q nexts.2;
            way = nexts.3;
          });
          whole = nexts.4;
        }

-- ---- the end

module _ {N : ℕ} {l : Limits} {σ : Tables} {s p : List ℕ} {n : ℕ} {ws : List Sets} {mark x m : ℕ} {q : Packet N} {v : Way N} (e : value q ≡ m) (G : Going N l σ s p n ws 0 mark x q v) where
  visited : Visited N l σ s x
  visited = record { working = G.standing.walk.working; all = seconds p 0 n; linked = G.standing.walk.links x G.among }

  pub last_known : (12 * x + 11 < length (words_in σ)) × Known (words_in σ) x
  last_known = (ends_there visited, ends_known visited)

  module _ {r : ℕ} (E : value_of (words_in σ) x ≡ r) where
    pub last_asks : PreEnd N (diagrams σ) s m r
    last_asks = record {
      few = G.least.few;
      wf = G.least.wf;
      room = G.least.room;
      sound = G.least.sound;
      small = subst (λ (k : ℕ). k < 2 ^ N) e (value_small q);
      at_r = value_at visited E;
    }

    lasts : (z : Packet N) × (least N (epsilons N (clear_tables σ) ws x q) ≡ some z) × (v ≡ arrive z)
    lasts = way_end (epsilons N (clear_tables σ) ws) (deltas N (clear_tables σ) ws) (rounds N (clear_tables σ) ws) x q G.way

    -- the end, which is f
    pub record Arrived (f : code.Option ℕ) (s' : List ℕ) : Type 0 where
      pub packet : Packet N
      pub is : f ≡ code.Some (value packet)
      pub whole : v ≡ arrive packet
      pub standing : Standing N l σ s' p n ws

    pub arrived : {f : code.Option ℕ} {s' : List ℕ} → PostEnd N (diagrams σ) m r f s s' → length s' ≡ length s → Arrived f s'
    arrived A len = record {
      packet = lasts.0;
      is = A.is q e ∙ ap (λ (k : ℕ). number_of (least N (λ z. Spp.mem σ.base.aut.nodes.words N k q z))) (sym (value_clear (words_in σ) x ∙ E)) ∙ ap number_of lasts.1;
      whole = lasts.2;
      standing = standing_noted G.standing A.left len;
    }
