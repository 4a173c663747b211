-- A query's step and its answer's lines, put together.
use Rattle.std.specs.Prelude.{if◌then◌else◌, Result, Ok, Err}
use mathlib.Core.Path.{◌≡◌, refl, sym, ◌∙◌, ap, subst}
use mathlib.Core.Bool.{Bool}
use mathlib.Core.List.{List, [], ◌∷◌, ◌++◌}
use mathlib.Core.Option.{Option, none}
use Prim.Native.Nat.{ℕ, ◌+◌, ◌/◌, ◌^◌, ◌≤◌, ◌<◌}
use native.Mathlib.Omega.{arith}
use lib.Dec.{leb}
use lib.ListN.{length, take, length-append}
use lib.Seq.{length-take-le}
use borrow.Author.Tests.{le-leb, lt-leb}
use Rattle.common.specs.Outcome.{Outcome, refused, given, after}
use Rattle.refusal.specs.declared.Refusal.{Refusal}
use Rattle.refusal.specs.declared.Refusal.TheVariants as refusals
use Rattle.refusal.specs.Numbers.{number_of}
use Rattle.cache.proofs.Cache.{sound_map}
use Rattle.netkat_steps.specs.ListSteps.{Edge}
use Rattle.sp_steps.specs.Model as Sp
use Rattle.sp_steps.proofs.Size.{size_most}
use Rattle.aut_st_steps.proofs.Places.{edge_at_lem, edges_length}
use Rattle.aut_st_insert.specs.Clauses.{RESULT}
use Rattle.aut_query_steps.specs.Tables.{Tables, ExtTables}
use Rattle.aut_query_steps.proofs.Tables.{later_refl}
use Rattle.aut_query_steps.specs.Live.{live_packets}
use Rattle.book_steps.specs.Answers.{live_answer, pruned_answer}
use Rattle.book_steps.specs.Reader as Reader
use Rattle.book_steps.specs.Run.{query, after_asking}
use Rattle.aut_states.specs.Clauses.{limits_of}
use Rattle.aut_states.specs.declared.Limits.{Limits}
use Rattle.aut_relations.specs.declared.Aut.{Aut as Lent}
use Rattle.aut_relations.specs.Lent.{nodes_in}
use Rattle.aut_sets.specs.Lent.{sets_in, OnlyScratch}
use Rattle.aut_sets.specs.Clauses.{PreSet, PostSize}
use Rattle.aut_query_stage.specs.Layer.{QueryReady, Zeroed}
use Rattle.aut_query_stage.specs.Lent.{tables_in, Leaves, GoesQuery}
use Rattle.aut_query_stage.proofs.Lent.{query_ready}
use Rattle.aut_query_calls.specs.Working.{SetIn}
use Rattle.aut_query_calls.proofs.Calls.{leaves_sets, leaves_counts}
use Rattle.aut_pruned.specs.Clauses.{Prunes}
use Rattle.sp.specs.declared.SP.{SP}
use Rattle.book_writer.specs.declared.output.Output.{Output}
use Rattle.book_writer.specs.Clauses.{Answers}
use Rattle.book_writer.proofs.Contracts.{put_take}
use Rattle.book_memory.specs.declared.Setting.{Setting}
use Rattle.book_pruned.specs.Clauses.{told, PrePairs, PostPruned}
use Rattle.book_ask.specs.Clauses.{setting_with, place_with, PostAsk}

-- ---- the ends of a query

module _ (S : Setting) (q : Reader.Query) (name : List ℕ) (x : ℕ) (a : Lent) (o : Output) where
  abbrev pub asks : Outcome Tables (List ℕ)
  asks = query (setting_with S a o) q name x (tables_in a)

  pub ask_refused : {b : Lent} {e : Refusal} → asks ≡ refused (number_of e) → PostAsk S q name x (Err e) a b o o
  ask_refused e = record { is = λ lines. ap (after_asking (setting_with S a o) (place_with lines a o)) e; then = refl }

  size : (bs : List ℕ) → length (take o.at o.bytes.now ++ bs) ≡ o.at + length bs
  size bs = length-append (take o.at o.bytes.now) bs ∙ ap (λ (k : ℕ). k + length bs) (length-take-le o.at o.bytes.now o.fits)

  module _ {τ : Tables} {bs : List ℕ} (e : asks ≡ given τ bs) where
    asking : (lines : List (Option ℕ)) {b : Bool} → leb (length (take o.at o.bytes.now ++ bs)) (length o.bytes.now) ≡ b
        → after_asking (setting_with S a o) (place_with lines a o) asks ≡ (if b then given (record { tables = τ; lines = lines ++ none ∷ []; output = take o.at o.bytes.now ++ bs }) 0 else refused 27)
    asking lines f =
        ap (after_asking (setting_with S a o) (place_with lines a o)) e
        ∙ ap (λ (b : Bool). if b then given (record { tables = τ; lines = lines ++ none ∷ []; output = take o.at o.bytes.now ++ bs }) 0 else refused 27) f

    pub ask_full : {b : Lent} {o' : Output} {r : Refusal} → (r ≡ refusals.Output) × (length o.bytes.now < o.at + length bs) × (o' ≡ o) → PostAsk S q name x (Err r) a b o o'
    ask_full {r = r} (k, m, w) = record {
      is = λ lines. asking lines (lt-leb (length (take o.at o.bytes.now ++ bs)) (length o.bytes.now) (omega (arith, size bs))) ∙ ap (λ (r : Refusal). refused (number_of r)) (sym k);
      then = w;
    }

  -- the answer is written, or there is no room for it
  pub ask_told : {b : Lent} {bs : List ℕ} → asks ≡ given (tables_in b) bs → ExtTables (tables_in a) (tables_in b) → QueryReady S.config.fields S.config.limits (tables_in b) b.scratch.now → Zeroed b.pending.now
      → {o' : Output} (r : Result Unit Refusal) → Answers bs o r o' → PostAsk S q name x r a b o o'
  ask_told {b} {bs} e w R z {o'} (Ok t) u = record {
    is = λ lines. asking e lines (le-leb (length (take o.at o.bytes.now ++ bs)) (length o.bytes.now) (omega (arith, size bs, u.behind, u.room))) ∙ ap (λ (v : List ℕ). given (record { tables = tables_in b; lines = lines ++ none ∷ []; output = v }) 0) (sym (put_take u));
    then = record {
      later = w;
      ready = R;
      pending = z;
      from = omega (arith, u.behind);
      to = u.room;
      len = u.wrote.len;
      beyond = λ i m. u.wrote.above i (omega (arith, u.behind));
    };
  }
  ask_told e w R z (Err r) u = ask_full e u

-- ---- scratch alone was written

module _ {a b : Lent} (k : OnlyScratch a b) where
  pub tables_same : tables_in b ≡ tables_in a
  tables_same = rw (sym k.sp) (rw (sym k.spp) (rw (sym k.states) (rw (sym k.members) (rw (sym k.transitions) refl))))

  pub pending_same : Zeroed a.pending.now → Zeroed b.pending.now
  pending_same z = rw k.pending z

  -- they are in order as they were
  pub ready_still : {N : ℕ} {l : Limits} → QueryReady N l (tables_in a) a.scratch.now → Leaves N 0 0 (tables_in a) a.scratch.now b.scratch.now → QueryReady N l (tables_in b) b.scratch.now
  ready_still {N} {l} R p = subst (λ (σ : Tables). QueryReady N l σ b.scratch.now) (sym tables_same) (query_ready R (later_refl (tables_in a)) R.ordered p k.scratch.length)

  module _ (S : Setting) (q : Reader.Query) (name : List ℕ) (x : ℕ) (before : Lent) (o : Output) where
    -- a query whose answer was written with scratch alone
    pub ask_beside : {bs : List ℕ} → asks S q name x before o ≡ given (tables_in a) bs → ExtTables (tables_in before) (tables_in a) → QueryReady S.config.fields S.config.limits (tables_in a) a.scratch.now → Zeroed a.pending.now
        → Leaves S.config.fields 0 0 (tables_in a) a.scratch.now b.scratch.now → {o' : Output} (r : Result Unit Refusal) → Answers bs o r o' → PostAsk S q name x r before b o o'
    ask_beside {bs} e w R z p r u =
        ask_told S q name x before o (e ∙ ap (λ (σ : Tables). given σ bs) (sym tables_same)) (subst (ExtTables (tables_in before)) (sym tables_same) w) (ready_still R p) (pending_same z) r u

-- ---- `live`

abbrev tells_live : ℕ → List ℕ → Outcome Tables ℕ → Outcome Tables (List ℕ)
tells_live N name o = after o (λ h τ. given τ (live_answer N name (Sp.size τ.sets.words N h)))

abbrev pub Lives : Setting → (x : ℕ) → (a : Lent) → Result SP Refusal → Lent → Type 0
Lives S x a r b = GoesQuery S.config 0 1088 tables_in (SetIn S.config.fields) (λ (h : SP). h.0) (live_packets S.config.fields (limits_of S.config.limits) (length a.pending.now / 2) x) a r b

module _ (S : Setting) (x : ℕ) {a b : Lent} where
  pub live_refused : {name : List ℕ} {o : Output} {e : Refusal} → Lives S x a (Err e) b → PostAsk S Reader.live name x (Err e) a b o o
  live_refused {name} {o} G = ask_refused S Reader.live name x a o (ap (tells_live S.config.fields name) G.post.is)

  module _ {h : SP} (G : Lives S x a (Ok h) b) where
    pub live_ready : PreSet S.config.fields (sets_in b) b.scratch.now h.0
    live_ready =
        let R : QueryReady S.config.fields S.config.limits (tables_in b) b.scratch.now = G.post.then.ready in
        record { few = R.ready.few; wf = R.ordered.sets; room = R.ready.room; sound = sound_map (λ op x y r v. v.images.sets) R.sound; at_a = G.post.then.holds }

    module _ {k : ℕ} {s' : List ℕ} (Z : PostSize S.config.fields (sets_in b) h.0 k b.scratch.now s') where
      pub live_most : k ≤ 2 ^ S.config.fields
      live_most = omega (arith, Z.is, size_most (sets_in b).words S.config.fields h.0)

      live_is : (name : List ℕ) (o : Output) → asks S Reader.live name x a o ≡ given (tables_in b) (live_answer S.config.fields name k)
      live_is name o = ap (tells_live S.config.fields name) G.post.is ∙ ap (λ (n : ℕ). given (tables_in b) (live_answer S.config.fields name n)) (sym Z.is)

    pub live_told : {k : ℕ} {d : Lent} → PostSize S.config.fields (sets_in b) h.0 k b.scratch.now d.scratch.now → OnlyScratch b d → Zeroed b.pending.now
        → {name : List ℕ} {o o' : Output} (r : Result Unit Refusal) → Answers (live_answer S.config.fields name k) o r o' → PostAsk S Reader.live name x r a d o o'
    live_told Z K z {name} {o} r u = ask_beside K S Reader.live name x a o (live_is Z name o) G.post.then.ext G.post.then.ready z (leaves_sets (tables_in b) Z.left) r u

-- ---- `pruned`

abbrev tells_pruned : ℕ → List ℕ → Outcome Tables (List Edge) → Outcome Tables (List ℕ)
tells_pruned N name o = after o (λ es τ. given τ (pruned_answer name (told N τ.base.aut.nodes es)))

module _ (S : Setting) (x : ℕ) {a b : Lent} where
  pub pruned_refused : {name : List ℕ} {o : Output} {e : Refusal} → Prunes S.config x a (Err e) b → PostAsk S Reader.pruned name x (Err e) a b o o
  pruned_refused {name} {o} G = ask_refused S Reader.pruned name x a o (ap (tells_pruned S.config.fields name) G.post.is)

  module _ {m : ℕ} (G : Prunes S.config x a (Ok m) b) where
    pub pairs_ready : PrePairs S.config.fields (nodes_in b) b.scratch.now m
    pairs_ready =
        let R : QueryReady S.config.fields S.config.limits (tables_in b) b.scratch.now = G.post.then.ready in
        record {
          few = R.ready.few;
          wf = R.ready.good.nodes;
          room = R.ready.room;
          sound = sound_map (λ op x y r v. v.numbers) R.sound;
          most = omega (arith, G.post.then.holds.few, edges_length b.scratch.now RESULT m);
          labels = λ i l. (edge_at_lem b.scratch.now RESULT m i l G.post.then.holds.edges).relation;
        }

    pub pruned_told : {d : Lent} → OnlyScratch b d → Zeroed b.pending.now → {name : List ℕ} {o o' : Output} (r : Result Unit Refusal) → PostPruned S.config.fields (nodes_in b) name m r b.scratch.now d.scratch.now o o'
        → PostAsk S Reader.pruned name x r a d o o'
    pruned_told K z {name} {o} r Z = ask_beside K S Reader.pruned name x a o (ap (tells_pruned S.config.fields name) G.post.is) G.post.then.ext G.post.then.ready z (leaves_counts (tables_in b) Z.left) r Z.answers
